-- What a form replaces has a byte at least.
use Rattle.std.proofs.Common.{◌≡◌, ◌∙◌, ◌<◌, ◌≤◌, refl, sym, ap, subst, ℕ, Bool, true, false, List, [], ◌∷◌, ◌++◌, arith}
use Rattle.go_tree.specs.declared.spans.Span.{Span}
use Rattle.go_tree.specs.declared.tokens.Token.{Token}
use Rattle.go_tree.specs.declared.tokens.Comment.{Comment}
use Rattle.go_tree.specs.File.{File}
use Rattle.go_tree.specs.GoWords.Terminals.{lexemes}
use Rattle.go_read.specs.SpellsSpans.{span_to}
use Rattle.text_edits.specs.declared.edit.Edit.{Edit}
use Rattle.splice_laws.proofs.ImportSplices.ImportPlaces.TokensStand.{Stand, tokens_stand}
use Rattle.run_rules.specs.Run.{Standing, here_of}
use Rattle.run_rules.specs.Steps.{At, Found}
use Rattle.run_rules.specs.Texts.{FileText}
use Rattle.splice_laws.specs.Fits.{swap_mark}
use Rattle.splice_laws.specs.Joints.{Spans, of_one, of_more}
use Rattle.splice_laws.specs.Splice.{IsPut}
use Rattle.splice_laws.specs.Swaps.{Swap}
use Rattle.splice_laws.proofs.Files.{replaced}
use Rattle.splice_laws.proofs.Rises.{tokens_rise}
use Rattle.splice_laws.proofs.Wholes.{stands_among}
use Rattle.run_by_steps.specs.NextPrograms.Made.{PutsForm}

module _ (text : List ℕ) where
  -- tokens behind others stand there
  past : (from : ℕ) (front ts : List Token) → Stand text from (front ++ ts) → (at : ℕ) × Stand text at ts
  past from [] ts h = (from, h)
  past from (t ∷ front) ts h = past t.span.end front ts h.4

  -- the last token starts behind an offset, and ends behind its start
  last_up : (from : ℕ) (middle behind : List Token) (t : Token) → Stand text from ((middle ++ t ∷ []) ++ behind) → (from ≤ t.span.start) × (t.span.start ≤ t.span.end)
  last_up from [] behind t h = (h.0, h.1)
  last_up from (m ∷ middle) behind t h = let k = last_up m.span.end middle behind t h.4 in (omega (arith, h.0, h.1, k.0), k.1)

  wide : (from : ℕ) (node behind : List Token) (last : Token) (s : Span) → Spans node last s → Stand text from (node ++ behind) → s.start < s.end
  wide from _ behind _ _ (of_one written) h = (h.3 written).0.0
  wide from _ behind last _ (of_more {t = t} middle written ends) h =
      let k = last_up t.span.end middle behind last h.4 in
      let w : t.span.start < t.span.end = (h.3 written).0.0 in
      omega (arith, w, k.0, k.1)

-- so has a node that is put
node_wide : {text : List ℕ} {tokens : List Token} {comments : List Comment} {f g : File Span} {w : Swap Span} {indent : List ℕ} {dotted wrapped blank : Bool} → IsPut text tokens comments f g w indent dotted wrapped blank
    → (swap_mark w).start < (swap_mark w).end
node_wide {text = text} {tokens = tokens} {comments = comments} {f = f} {g = g} {w = w} p =
    let r = replaced w f g (lexemes tokens) p.spelled (tokens_rise text tokens comments p.of_text) p.swapped in
    let a = stands_among tokens w p.asks r.front r.node r.rest r.tokens r.marked r.old in
    let all : Stand text 0 (a.before ++ (a.node ++ a.behind)) = subst (λ (ts : List Token). Stand text 0 ts) a.whole (tokens_stand text tokens comments p.of_text) in
    let there = past text 0 a.before (a.node ++ a.behind) all in
    wide text there.0 a.node a.behind a.last (swap_mark w) a.spans there.1

pub form_wide : (st : Standing) (f : Found At) (old : FileText) → PutsForm st f old → (here_of f.range).start < (here_of f.range).end
form_wide st f old p =
    let same : here_of f.range ≡ swap_mark p.swap = ap (λ (e : Edit). e.span) p.edit_is in
    subst (λ (s : Span). s.start < s.end) (sym same) (node_wide p.in_text)
