-- No dot stands behind a use of a constant: what stands before dots are names of imports.
use Rattle.std.proofs.Common.{◌≡◌, ◌⊎◌, inl, inr, ℕ, Bool, true, false, List, [], ◌∷◌}
use Rattle.go_tree.specs.Tree.{NameAt, Expr, ident, int_lit, rune_lit, str_lit, composite, selector, index, slice, call, func_lit, type_operand, unary, binary, star}
use Rattle.pkg_graph.specs.Package.{Package}
use Rattle.run_rules.specs.Surroundings.{Use, other, inner_slot, in_slot, Place, Seen, seen, seen_type, seen_stmt}
use Rattle.run_rules.specs.Sites.{Where}
use Rattle.run_rules.specs.Steps.{named_by_import}
use Rattle.printed_constants.specs.TypedParts.StandingUses.ImportUses.Parts.{EachSeen, IsNoImport, IsPlain, DottedImports, before_a_dot, past_another, IsElsewhere, StandsOnce, here, later}
use Rattle.printed_constants.specs.QualifiedDots.Names.{IsQualified, HasNoDot}

module _ {S : Type 0} (ps : List (Package S)) (w : Where S) (hits : Expr S → Bool) where
  -- a part that isn't before a dot
  base_plain : (p : Place S) (u : Use) (s : S) (b : Expr S) (n : NameAt S) → IsPlain ps w (seen p u (selector s b n)) → IsQualified ps w (seen p u (selector s b n)) → hits b ≡ false
  base_plain p u s (ident _ _) n h k = absurd h
  base_plain p u s (int_lit _ _) n h k = absurd k
  base_plain p u s (rune_lit _ _) n h k = absurd k
  base_plain p u s (str_lit _ _) n h k = absurd k
  base_plain p u s (composite _ _ _) n h k = absurd k
  base_plain p u s (selector _ _ _) n h k = absurd k
  base_plain p u s (index _ _ _) n h k = absurd k
  base_plain p u s (slice _ _ _ _) n h k = absurd k
  base_plain p u s (call _ _ _ _) n h k = absurd k
  base_plain p u s (func_lit _ _ _ _) n h k = absurd k
  base_plain p u s (type_operand _ _) n h k = absurd k
  base_plain p u s (unary _ _ _) n h k = absurd k
  base_plain p u s (binary _ _ _ _) n h k = absurd k
  base_plain p u s (star _ _) n h k = absurd k

  plain_undotted : (x : Seen S) → IsPlain ps w x → IsQualified ps w x → HasNoDot hits x
  plain_undotted (seen p u (ident _ _)) h k = tt
  plain_undotted (seen p u (int_lit _ _)) h k = tt
  plain_undotted (seen p u (rune_lit _ _)) h k = tt
  plain_undotted (seen p u (str_lit _ _)) h k = tt
  plain_undotted (seen p u (composite _ _ _)) h k = tt
  plain_undotted (seen p u (selector s b n)) h k = base_plain p u s b n h k
  plain_undotted (seen p u (index _ _ _)) h k = tt
  plain_undotted (seen p u (slice _ _ _ _)) h k = tt
  plain_undotted (seen p u (call _ _ _ _)) h k = tt
  plain_undotted (seen p u (func_lit _ _ _ _)) h k = tt
  plain_undotted (seen p u (type_operand _ _)) h k = tt
  plain_undotted (seen p u (unary _ _ _)) h k = tt
  plain_undotted (seen p u (binary _ _ _ _)) h k = tt
  plain_undotted (seen p u (star _ _)) h k = tt
  plain_undotted (seen_type p t) h k = tt
  plain_undotted (seen_stmt p s) h k = tt

  -- a part is the name of no import
  abbrev NamesNone : Seen S → Type 0
  NamesNone (seen p u e) = IsNoImport ps w p e
  NamesNone x = Unit {0}

  -- all parts stand elsewhere, or just this one doesn't
  abbrev AtMostOnce : Place S → Expr S → List (Seen S) → Type 0
  AtMostOnce p e xs = EachSeen (IsElsewhere hits) xs ⊎ StandsOnce hits p e xs

  first_part : (p : Place S) (e : Expr S) (x : Seen S) (xs : List (Seen S)) → IsNoImport ps w p e → AtMostOnce p e (x ∷ xs) → IsElsewhere hits x ⊎ NamesNone x
  first_part p e x xs none (inl h) = inl h.0
  first_part p e _ xs none (inr (here u _ h o)) = inr none
  first_part p e _ _ none (inr (later x xs h o)) = inl h

  behind_first : (p : Place S) (e : Expr S) (x : Seen S) (xs : List (Seen S)) → AtMostOnce p e (x ∷ xs) → AtMostOnce p e xs
  behind_first p e x xs (inl h) = inl h.1
  behind_first p e _ _ (inr (here u xs h o)) = inl o
  behind_first p e _ _ (inr (later x xs h o)) = inr o

  not_both : {P : Type 0} (b : Bool) → b ≡ true → b ≡ false → P
  not_both true h k = absurd cc
  not_both false h k = absurd cc

  pub undotted : (p : Place S) (e : Expr S) → IsNoImport ps w p e → (xs : List (Seen S)) → DottedImports ps w xs → EachSeen (IsQualified ps w) xs → AtMostOnce p e xs → EachSeen (HasNoDot hits) xs
  undotted p e none [] d q o = tt
  undotted p e none (x ∷ xs) (past_another _ _ h d) q o = (plain_undotted x h q.0, undotted p e none xs d q.1 (behind_first p e x xs o))
  undotted p e none _ (before_a_dot r u s z m n xs d) q o =
      let before : Seen S = seen (in_slot (inner_slot r.slot (selector s (ident z m) n) 7 false true) r) other (ident z m) in
      let dot : Seen S = seen r u (selector s (ident z m) n) in (
        tt,
        (by (first_part p e before (dot ∷ xs) none o) q.1.0, undotted p e none xs d q.1.1 (behind_first p e dot xs (behind_first p e before (dot ∷ xs) o))),
      )
    where
      by : IsElsewhere hits (seen (in_slot (inner_slot r.slot (selector s (ident z m) n) 7 false true) r) other (ident z m))
          ⊎ NamesNone (seen (in_slot (inner_slot r.slot (selector s (ident z m) n) 7 false true) r) other (ident z m))
          → (k : ℕ) × (named_by_import ps w k r m ≡ true) → hits (ident z m) ≡ false
      by (inl h) k = h
      by (inr h) k = not_both (named_by_import ps w k.0 r m) k.1 (h k.0)
