-- Where no mark is that of a method, no selection is a use, and what a call names is a marked function or nothing.
use Rattle.std.proofs.Common.{◌≡◌, ◌∙◌, ℕ, nat_eq, bytes_eq, Bool, true, false, ◌&&◌, List, [], ◌∷◌, Option, Some, None, refl, ap}
use Rattle.std.specs.Prelude.{if◌then◌else◌, is_none}
use Rattle.go_tree.specs.Tree.{Expr}
use Rattle.go_tree.specs.File.{Receiver, Func}
use Rattle.go_tree.specs.GoTypes.Answers.{given, meets}
use Rattle.pkg_graph.specs.Package.{Package}
use Rattle.run_rules.specs.Surroundings.{Place}
use Rattle.run_rules.specs.Sites.{MarkRef, Where, Inlinable, a_constant, an_alias, a_function, is_free_function, where_is, inlinable, is_method_of, is_this_method, find_marked_method, method_home, selected_method, member_of, marked, marked_as}
use Rattle.call_uses.specs.Laws.{is_no_method, NoMethods}

and_false : (a b : Bool) → (a && (b && false)) ≡ false
and_false true true = refl
and_false true false = refl
and_false false b = refl

module _ {S : Type 0} (ps : List (Package S)) where
  no_receiver : (o : Option (Receiver S)) (test : Receiver S → Bool) → is_none o ≡ true → meets o test ≡ false
  no_receiver None test e = refl
  no_receiver (Some r) test e = absurd cc

  -- a function without a receiver is no method
  not_this : (k : ℕ) (t n : List ℕ) (w : Where S) (f : Func S) → is_none f.receiver ≡ true → is_method_of ps k t n w f ≡ false
  not_this k t n w f e =
      ap (λ (b : Bool). nat_eq w.number k && (bytes_eq f.name.name n && b)) (no_receiver f.receiver _ e)
      ∙ and_false (nat_eq w.number k) (bytes_eq f.name.name n)

  nowhere : (k : ℕ) (t n : List ℕ) (o : Option (Where S)) (f : Func S) → is_none f.receiver ≡ true → meets o (λ w. is_method_of ps k t n w f) ≡ false
  nowhere k t n None f e = refl
  nowhere k t n (Some w) f e = not_this k t n w f e

  no_mark : (k : ℕ) (t n : List ℕ) (m : MarkRef) (o : Option (Inlinable S)) → meets o is_no_method ≡ true → meets o (is_this_method ps k t n m) ≡ false
  no_mark k t n m None e = refl
  no_mark k t n m (Some (a_constant x v)) e = refl
  no_mark k t n m (Some (an_alias x v)) e = refl
  no_mark k t n m (Some (a_function f)) e = nowhere k t n (where_is ps m) f e

  none_found : (ms : List MarkRef) → NoMethods ps ms → (k : ℕ) (t n : List ℕ) → find_marked_method ps ms k t n ≡ None
  none_found [] c k t n = refl
  none_found (m ∷ ms) c k t n =
      ap (λ (b : Bool). if b then Some m else find_marked_method ps ms k t n) (no_mark k t n m (inlinable ps m) c.0)
      ∙ none_found ms c.1 k t n

  module _ (marks : List MarkRef) (free : NoMethods ps marks) where
    pub selected_none : (p : Place S) (b : Expr S) (n : List ℕ) → marked ps marks (selected_method ps marks p b n) ≡ None
    selected_none p b n = by (method_home ps p.env b n)
      where
        by : (o : Option (ℕ × List ℕ)) → marked ps marks (given o (λ q. find_marked_method ps marks q.0 q.1 n)) ≡ None
        by None = refl
        by (Some q) = ap (marked ps marks) (none_found marks free q.0 q.1 n)

    -- the function behind the name of an import
    pub behind_import : (p : Place S) (b : Expr S) (n : List ℕ) (o : Option ℕ)
        → elim o [ Some k ↦ marked_as ps marks is_free_function (member_of ps k n) | None ↦ marked ps marks (selected_method ps marks p b n) ]
        ≡ marked_as ps marks is_free_function (given o (λ k. member_of ps k n))
    behind_import p b n None = selected_none p b n
    behind_import p b n (Some k) = refl
