-- An answer that is passed on, and the tokens that it leaves.
use Rattle.std.proofs.Common.{◌≡◌, ◌<◌, ◌≤◌, ◌∷◌, [], length, Option, Some, None, Ok, Err, sym, ap, subst, arith}
use Rattle.std.specs.Prelude.{Result}
use Rattle.go_read.specs.SpellsTypes.{Lexemes}
use Rattle.go_productions.specs.declared.cursor.Cursor.{Cursor}
use Rattle.go_productions.specs.Cursors.{ahead}
use Rattle.go_productions.specs.Answers.{Gives, Shorter, Within}
use Rattle.go_tree.specs.declared.go_words.terminals.Terminal.{Terminal}
use Rattle.go_productions.specs.Terminals.{first_of, rest_of, taken}

pub passed_on : {X E A : Type 0} (see : X → A) (result : Result (Option (X × Cursor)) E) (o p : Option (A × Lexemes)) → o ≡ p → Gives see result p → Gives see result o
passed_on see result o p e h = subst (λ (q : Option (_ × Lexemes)). Gives see result q) (sym e) h

-- some token stands there
pub begun : (ts : Lexemes) (k : Terminal) → first_of ts ≡ k → taken k ≡ 1 → 0 < length ts
begun [] k e f = absurd cc
begun (t ∷ ts) k e f = omega arith

pub shorter_on : {X E : Type 0} (result : Result (Option (X × Cursor)) E) (c d : Cursor) → length (ahead d) ≤ length (ahead c) → Shorter result d → Shorter result c
shorter_on (Ok (Some x)) c d w h = omega arith
shorter_on (Ok None) c d w h = tt
shorter_on (Err e) c d w h = tt

pub shorter_within : {X E : Type 0} (result : Result (Option (X × Cursor)) E) (c d : Cursor) → length (ahead d) < length (ahead c) → Within result d → Shorter result c
shorter_within (Ok (Some x)) c d w h = omega arith
shorter_within (Ok None) c d w h = tt
shorter_within (Err e) c d w h = tt

pub rest_within : (ts us : Lexemes) → us ≡ rest_of ts → length us ≤ length ts
rest_within [] us e = let none : length us ≡ 0 = ap (λ (xs : Lexemes). length xs) e in omega arith
rest_within (t ∷ ts) us e = let same : length us ≡ length ts = ap (λ (xs : Lexemes). length xs) e in omega arith
