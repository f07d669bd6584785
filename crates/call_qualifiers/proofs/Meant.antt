-- Where a table agrees with a place, the package whose name stands before a name is that which run_rules writes there.
use Rattle.std.proofs.Common.{◌≡◌, ◌∙◌, ℕ, nat_eq, Bool, true, false, not, ◌&&◌, List, Option, Some, None, refl, sym, ap, arith}
use Rattle.std.specs.Prelude.{slice_get, if◌then◌else◌}
use Rattle.std.proofs.lemmas.Bool.Decides.{nat_tests}
use Rattle.go_tree.specs.declared.spans.Span.{Span}
use Rattle.go_tree.specs.declared.scope_names.names.Entity.{Entity}
use Rattle.go_tree.specs.declared.scope_names.names.Entity.TheVariants.{Local, Import, Package, Universe}
use Rattle.scope_tables.specs.Table.{meaning_in}
use Rattle.pkg_graph.specs.Package as packages
use Rattle.pkg_graph.specs.Members.{Target}
use Rattle.go_tree.specs.GoTypes.Answers.{given}
use Rattle.run_rules.specs.Respanned.{file_with}
use Rattle.run_rules.specs.Run.{here_of}
use Rattle.run_rules.specs.Steps.{At}
use Rattle.run_rules.specs.Surroundings.{Place}
use Rattle.run_rules.specs.Sites.{MarkRef, Where, mark_of, outer_meaning}
use Rattle.run_rules.specs.Naming as naming
use Rattle.run_rules.specs.Naming.{member_qualifier, import_qualifier}
use Rattle.constant_forms.specs.Uses.{IsMember}
use Rattle.constant_forms.proofs.Members.{table_members}
use Rattle.member_uses.specs.Agreement.{target_of, AgreesAt}
use Rattle.member_uses.specs.Laws.{Knows}
use Rattle.member_uses.specs.Uses.{Names, own_package, imported_package, package_at}
use Rattle.member_uses.proofs.MembersMeant.{before_dot}
use Rattle.constant_steps.specs.FormImports.ImportLaws.Steps.{names_standing}
use Rattle.name_places.specs.NamesThere.{by_itself, behind_dot}
use Rattle.call_qualifiers.specs.Numbers.{is_written}
use Rattle.call_qualifiers.proofs.Numbers.{number_at}

-- this, where a name means a member
abbrev marked : {A : Type 0} → A → Option Target → Option A
marked x t = given t (λ t. given (mark_of t) (λ m. Some x))

marked_once : {A : Type 0} (x : A) (o : Option Target) (m : MarkRef) → given o mark_of ≡ Some m → marked x o ≡ Some x
marked_once x None m e = absurd cc
marked_once x (Some t) m e = ap (λ (r : Option MarkRef). given r (λ m. Some x)) e

module _ (ps : List (packages.Package At)) (w : Where At) (f : Names) (k : Knows here_of (file_with here_of) ps w f) (named : k.names ≡ names_standing ps w) where
  is_member : (n : List ℕ) (at : ℕ) → IsMember ps w (meaning_in f.table n at)
  is_member n at = table_members ps w k.names (file_with here_of w.source.tree) f.table named k.table n at

  -- a name by itself is that of a member just where the table says so
  own_named : {A : Type 0} (x : A) (p : Place At) (at : ℕ) → AgreesAt ps w f.table p at → (n : List ℕ)
      → marked x (outer_meaning ps w p n) ≡ given (package_at f n at) (λ q. Some x)
  own_named {A} x p at a n = ap (marked x) (a.outer n) ∙ by (meaning_in f.table n at) (is_member n at)
    where
      by : (m : Option Entity) → IsMember ps w m → marked x (given m (target_of w)) ≡ given (own_package f.home m) (λ q. Some x)
      by None h = refl
      by (Some (Local s)) h = refl
      by (Some (Import j)) h = refl
      by (Some (Universe j)) h = refl
      by (Some (Package j)) h = marked_once x (target_of w (Package j)) h.0 h.1

  module _ (there : ℕ) (names : naming.Names) (there_named : List (List ℕ)) (home_named : slice_get there_named w.number ≡ Some (names w.number))
      (imports_named : (j q : ℕ) → slice_get f.imports j ≡ Some q → slice_get there_named q ≡ Some (names q))
      (imports_others : (j : ℕ) → slice_get f.imports j ≡ Some w.number → ⊥) where
    abbrev written : ℕ → Option ℕ
    written q = if is_written f.home there q then Some q else None

    abbrev named_as : Option ℕ → Option (List ℕ)
    named_as o = given o (slice_get there_named)

    itself : (n : ℕ) → nat_eq n n ≡ true
    itself n = grind (arith, nat_tests)

    same_number : (a b : ℕ) → nat_eq a b ≡ true → a ≡ b
    same_number a b e = grind (arith, nat_tests, e)

    -- the declaration's own package
    own_written : (m : Option Entity) → given (own_package f.home m) written ≡ (if nat_eq f.home there then None else own_package f.home m)
    own_written m = by m
      where
        none : (b : Bool) → ◌≡◌ {A = Option ℕ} None (if b then None else None)
        none true = refl
        none false = refl

        pick : (t b : Bool) → t ≡ true → (if not (t && b) then Some f.home else None) ≡ (if b then None else Some f.home)
        pick true true e = refl
        pick true false e = refl
        pick false b e = absurd cc

        by : (m : Option Entity) → given (own_package f.home m) written ≡ (if nat_eq f.home there then None else own_package f.home m)
        by None = none (nat_eq f.home there)
        by (Some (Local s)) = none (nat_eq f.home there)
        by (Some (Import j)) = none (nat_eq f.home there)
        by (Some (Universe j)) = none (nat_eq f.home there)
        by (Some (Package j)) = pick (nat_eq f.home f.home) (nat_eq f.home there) (itself f.home)

    own_name : (m : Option Entity) → named_as (own_package f.home m) ≡ given (own_package f.home m) (λ q. Some (names w.number))
    own_name None = refl
    own_name (Some (Local s)) = refl
    own_name (Some (Import j)) = refl
    own_name (Some (Universe j)) = refl
    own_name (Some (Package j)) = ap (slice_get there_named) k.home_is ∙ home_named

    -- a name by itself
    pub own_told : (p : Place At) (s : Span) → AgreesAt ps w f.table p s.start → (n : List ℕ) → named_as (number_at f f.home there (by_itself n) s) ≡ member_qualifier ps w there names p n
    own_told p s a n =
        ap named_as (own_written (meaning_in f.table n s.start))
        ∙ ap (λ (h : ℕ). named_as (if nat_eq h there then None else package_at f n s.start)) k.home_is
        ∙ by (nat_eq w.number there)
      where
        by : (b : Bool) → named_as (if b then None else package_at f n s.start) ≡ (if b then None else marked (names w.number) (outer_meaning ps w p n))
        by true = refl
        by false = own_name (meaning_in f.table n s.start) ∙ sym (own_named (names w.number) p s.start a n)

    import_written : (m : Option Entity) → named_as (given (imported_package f.imports m) written) ≡ given (imported_package f.imports m) (λ q. Some (names q))
    import_written None = refl
    import_written (Some (Local s)) = refl
    import_written (Some (Package j)) = refl
    import_written (Some (Universe j)) = refl
    import_written (Some (Import j)) = by (slice_get f.imports j) refl
      where
        other : (q : ℕ) → slice_get f.imports j ≡ Some q → (t : Bool) → nat_eq q f.home ≡ t → named_as (if not (t && nat_eq f.home there) then Some q else None) ≡ Some (names q)
        other q e true h = absurd (imports_others j (e ∙ ap (λ (n : ℕ). Some n) (same_number q f.home h ∙ k.home_is)))
        other q e false h = imports_named j q e

        by : (o : Option ℕ) → slice_get f.imports j ≡ o → named_as (given o written) ≡ given o (λ q. Some (names q))
        by None e = refl
        by (Some q) e = other q e (nat_eq q f.home) refl

    -- a name behind that of an import
    pub import_told : (p : Place At) (s : Span) → AgreesAt ps w f.table p s.start → (q : List ℕ) → named_as (number_at f f.home there (behind_dot (Some q)) s) ≡ import_qualifier ps w there names p q
    import_told p s a q =
        import_written (meaning_in f.table q s.start)
        ∙ ap (λ (o : Option ℕ). given o (λ q. Some (names q))) (sym (before_dot ps w f k.home_is k.home_there k.imports_are p q (meaning_in f.table q s.start) (a.outer q)))
