-- Why a text isn't read.
use Rattle.std.proofs.Common.{◌≡◌, ◌≢◌, ℕ, List, [], ◌∷◌, length, Some, sym, ap, subst, arith}
use Rattle.std.specs.Prelude.{Contains}
use Rattle.go_tree.specs.declared.spans.Span.{Span}
use Rattle.go_tree.specs.declared.tokens.Token.{Token}
use Rattle.go_tree.specs.declared.tokens.Comment.{Comment}
use Rattle.go_tree.specs.GoWords.Terminals.{lexemes}
use Rattle.go_tree.specs.GoWords.Tokens.{TokensOf}
use Rattle.go_scan.proofs.Cuts.{tokens_once}
use Rattle.go_read.specs.SpellsWeight.{weights_of}
use Rattle.go_read.proofs.Whole.{refused_spells_none}
use Rattle.go_nesting.specs.Over.{IsOverAt}
use Rattle.go_nesting.specs.Sources.{IsSupported, IsUnsupportedAt}
use Rattle.go_parse.specs.Sources.{HasTokens, RefusesText, RefusesTokens}
use Rattle.go_parse.specs.declared.source.ReadError.{ReadError}
use Rattle.go_parse.specs.declared.source.ReadError.TheVariants as error
use Rattle.run_rules.specs.Run.{Weight, first_over, over_weight}
use Rattle.step_files.specs.declared.file.FileFault.{FileFault}
use Rattle.step_files.specs.Files.{IsUnread}
use Rattle.next_file.specs.Faults.{fault_of}
use Rattle.next_file.proofs.Weights.{over_is}

contains_none : (x : Span) → Contains [] x → ⊥
contains_none x h = let l = h.1 in absurd (omega (arith, l))

-- what refuses some tokens of a text refuses any that are its tokens
module _ (text : List ℕ) (e : ReadError) (h : HasTokens text e) (tokens : List Token) (comments : List Comment) (words : TokensOf text tokens comments) where
  pub refused_too : RefusesTokens text tokens comments e
  refused_too =
      let same = tokens_once text h.tokens tokens h.comments comments h.words words in
      subst (λ (cs : List Comment). RefusesTokens text tokens cs e) (sym same.1) (subst (λ (ts : List Token). RefusesTokens text ts h.comments e) (sym same.0) h.refused)

never_unsupported : (text : List ℕ) (tokens : List Token) (comments : List Comment) (at : ℕ) → IsSupported text tokens comments → IsUnsupportedAt text tokens comments at → ⊥
never_unsupported text tokens comments at none some = contains_none some.0 (subst (λ (spans : List Span). Contains spans some.0) none some.1.0)

deep : (tokens : List Token) (at : ℕ) → IsOverAt 400 tokens at → over_weight 400 (first_over 400 (weights_of tokens)) ≡ Some (record { limit = Weight; count = 401; bound = 400 })
deep tokens at o = ap (over_weight 400) (over_is 400 (0 ∷ []) tokens (length o.front) (omega arith) o.within o.over)

is_unread : (text : List ℕ) (e : ReadError) → (e ≢ error.NoMemory → RefusesText text e) → IsUnread text (fault_of e)
is_unread text (error.NotUtf8 at) h = λ tokens comments tree words some spells. (h (λ same. cc)).1 tokens comments words
is_unread text (error.BadToken at) h = λ tokens comments tree words some spells. (h (λ same. cc)).1 tokens comments words
is_unread text (error.Unsupported at) h =
    λ tokens comments tree words some spells. never_unsupported text tokens comments at some (refused_too text (error.Unsupported at) (h (λ same. cc)) tokens comments words)
is_unread text (error.TooDeep at) h = λ tokens comments words. deep tokens at (refused_too text (error.TooDeep at) (h (λ same. cc)) tokens comments words).1
is_unread text (error.NotRead at) h =
    λ tokens comments tree words some spells. refused_spells_none (length text) (lexemes tokens) at (refused_too text (error.NotRead at) (h (λ same. cc)) tokens comments words).2 tree spells
is_unread text error.NoMemory h = tt

pub unread : (text : List ℕ) (e : ReadError) (fault : FileFault) → fault ≡ fault_of e → (e ≢ error.NoMemory → RefusesText text e) → IsUnread text fault
unread text e fault is h = subst (IsUnread text) (sym is) (is_unread text e h)
