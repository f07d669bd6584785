use Rattle.std.proofs.Common.{◌≡◌, ℕ, List, Option, None, length, map, All, sym, ap, subst, ◌∙◌}
use Rattle.go_tree.specs.declared.spans.Span.{Span}
use Rattle.go_tree.specs.declared.tokens.Token.{Token}
use Rattle.go_tree.specs.declared.tokens.Comment.{Comment}
use Rattle.go_tree.specs.GoWords.Codes.{terminal_at}
use Rattle.go_scan.specs.Unsupported.{package_start, unsupported_spans, IsFirst, first_word, first_constraint}
use Rattle.go_scan.proofs.UnsupportedLemmas.{Within, comments_within, unsupported_first}
use Rattle.go_scan.proofs.support.unsupported.Goals as goal

pub first_constraint-known-requires : goal.first_constraint-known-requires
first_constraint-known-requires c =
    subst (λ (cs : List Comment). All (Within (length c.args.text.now)) cs) (sym c.comments.ensures)
    (comments_within c.args.text.now c.args.tokens.now.items c.args.tokens.now.comments c.requires)

pub returns : goal.returns
returns c =
    let text = c.args.text.now in
    let tokens = c.args.tokens.now.items in
    let comments = c.args.tokens.now.comments in
    let place : c.package_start-place.result ≡ package_start tokens = c.package_start-place.ensures ∙ ap package_start c.items.ensures in
    let known : c.first_constraint-known.result ≡ first_constraint text (package_start tokens) None comments =
    c.first_constraint-known.ensures ∙ ap (λ (p : Option ℕ). first_constraint text p None c.comments.result.now) place
    ∙ ap (λ (cs : List Comment). first_constraint text (package_start tokens) None cs) c.comments.ensures in
    let first : c.first_word.result ≡ first_word (first_constraint text (package_start tokens) None comments) tokens =
    c.first_word.ensures ∙ ap (λ (k : Option Span). first_word k c.items-2.result.now) known
    ∙ ap (λ (ts : List Token). first_word (first_constraint text (package_start tokens) None comments) ts) c.items-2.ensures in
    subst (λ (answer : Option Span). IsFirst (unsupported_spans text tokens comments) answer) (sym first) (unsupported_first text tokens comments)

pub first_word-requires : goal.first_word-requires
first_word-requires c = c.terminals.ensures ∙ ap (map terminal_at) (sym c.items-2.ensures)
