-- Where tables agree with two places, a name means something else at the second just where the tables say so.
use Rattle.std.proofs.Common.{◌≡◌, ◌∙◌, ℕ, nat_eq, Bool, true, false, not, ◌&&◌, List, Option, Some, None, refl, sym, ap, eq-eqb}
use Rattle.std.specs.Prelude.{if◌then◌else◌}
use Rattle.std.proofs.lemmas.Bool.{eqb-true}
use Rattle.go_tree.specs.declared.scope_names.names.Entity.{Entity}
use Rattle.go_tree.specs.declared.scope_names.names.Entity.TheVariants.{Local, Import, Package, Universe}
use Rattle.scope_tables.specs.Table.{meaning_in}
use Rattle.pkg_graph.specs.Package as packages
use Rattle.pkg_graph.specs.Members.{Target, local, imported, member, predeclared}
use Rattle.go_tree.specs.GoTypes.Answers.{given}
use Rattle.run_rules.specs.Obstacles.{means_this, shadowed_meaning, shadowed_name}
use Rattle.run_rules.specs.Respanned.{file_with}
use Rattle.run_rules.specs.Run.{here_of}
use Rattle.run_rules.specs.Steps.{At}
use Rattle.run_rules.specs.Surroundings.{Place}
use Rattle.run_rules.specs.Sites.{MarkRef, Where, same_target, mark_of, outer_meaning, member_of}
use Rattle.constant_forms.specs.Told.{means_universe, means_member, is_another}
use Rattle.constant_forms.specs.Uses.{IsMember}
use Rattle.constant_forms.proofs.Members.{table_members}
use Rattle.constant_steps.specs.FormImports.ImportLaws.Steps.{names_standing}
use Rattle.member_uses.specs.Agreement.{target_of, AgreesAt}
use Rattle.member_uses.specs.Laws.{Knows}
use Rattle.member_uses.specs.Uses.{Names, own_package}
use Rattle.member_uses.proofs.MembersMeant.{own_meant}
use Rattle.shadowed_names.specs.Told.{shadowed_from}

-- ---- members

abbrev number_in : (MarkRef → ℕ) → Option MarkRef → ℕ
number_in part o = elim o [ None ↦ 0 | Some m ↦ part m ]

-- targets with one mark are the same
same_by_mark : (u t : Target) (m : MarkRef) → mark_of u ≡ Some m → mark_of t ≡ Some m → same_target u t ≡ true
same_by_mark (local s) t m e h = absurd cc
same_by_mark (imported k) t m e h = absurd cc
same_by_mark (predeclared k) t m e h = absurd cc
same_by_mark (member p f d i) (local s) m e h = absurd cc
same_by_mark (member p f d i) (imported k) m e h = absurd cc
same_by_mark (member p f d i) (predeclared k) m e h = absurd cc
same_by_mark (member p f d i) (member q g c j) m e h =
    let one : mark_of (member p f d i) ≡ mark_of (member q g c j) = e ∙ sym h in
    λ v.
    eq-eqb p q (ap (number_in (λ m. m.«package»)) one) v
    && (eq-eqb f g (ap (number_in (λ m. m.file)) one) v && (eq-eqb d c (ap (number_in (λ m. m.decl)) one) v && eq-eqb i j (ap (number_in (λ m. m.item)) one) v))

module _ (ps : List (packages.Package At)) (w use_ : Where At) (f g : Names)
    (k : Knows here_of (file_with here_of) ps w f) (named : k.names ≡ names_standing ps w)
    (l : Knows here_of (file_with here_of) ps use_ g) (named_there : l.names ≡ names_standing ps use_)
    (q : Place At) (at : ℕ) (b : AgreesAt ps use_ g.table q at) (n : List ℕ) where
  abbrev here : Option Entity
  here = meaning_in g.table n at

  abbrev there : Option Target
  there = outer_meaning ps use_ q n

  abbrev this : Option Target → Target → Bool
  this o t = means_this ps w use_ q o t

  here_member : IsMember ps use_ here
  here_member = table_members ps use_ l.names (file_with here_of use_.source.tree) g.table named_there l.table n at

  -- ---- predeclared names

  not_universe : (o : Option Target) (m : MarkRef) (j : ℕ) → given o mark_of ≡ Some m → this o (predeclared j) ≡ false
  not_universe None m j e = absurd cc
  not_universe (Some (local s)) m j e = absurd cc
  not_universe (Some (imported i)) m j e = absurd cc
  not_universe (Some (member p h d i)) m j e = refl
  not_universe (Some (predeclared i)) m j e = absurd cc

  universe_same : (h : Option Entity) → IsMember ps use_ h → (j : ℕ) → this (given h (target_of use_)) (predeclared j) ≡ means_universe j h
  universe_same None m j = refl
  universe_same (Some (Local s)) m j = refl
  universe_same (Some (Import i)) m j = refl
  universe_same (Some (Package i)) m j = not_universe (target_of use_ (Package i)) m.0 j m.1
  universe_same (Some (Universe i)) m j = refl

  -- ---- members of the package

  by_mark : (o : Option Target) (t : Target) (m : MarkRef) → given o mark_of ≡ Some m → mark_of t ≡ Some m → this o t ≡ true
  by_mark None t m e h = absurd cc
  by_mark (Some u) t m e h = same_by_mark u t m e h

  module _ (p h d i : ℕ) where
    -- in the same package the name means that member wherever it means one
    member_same : (m : Option Entity) → there ≡ given m (target_of use_) → given there mark_of ≡ given (own_package g.home m) (λ j. member_of ps j n)
        → member_of ps g.home n ≡ mark_of (member p h d i) → this there (member p h d i) ≡ means_member m
    member_same None e o same = ap (λ (o : Option Target). this o (member p h d i)) e
    member_same (Some (Local s)) e o same = ap (λ (o : Option Target). this o (member p h d i)) e
    member_same (Some (Import j)) e o same = ap (λ (o : Option Target). this o (member p h d i)) e
    member_same (Some (Universe j)) e o same = ap (λ (o : Option Target). this o (member p h d i)) e
    member_same (Some (Package j)) e o same =
        by_mark there (member p h d i) (record { «package» = p; file = h; decl = d; item = i }) (o ∙ same) refl

  abbrev told : Bool → Option (List ℕ)
  told t = if not t then Some n else None

  abbrev elsewhere : Bool
  elsewhere = not (nat_eq w.number use_.number)

  abbrev Shows : Option Entity → Option Target → Type 0
  Shows m o = (if is_another m elsewhere here then Some n else None) ≡ given o (shadowed_meaning ps w use_ q n)

  of_member : (j : ℕ) (o : Option Target) (m : MarkRef) → given o mark_of ≡ Some m → given o mark_of ≡ member_of ps f.home n → Shows (Some (Package j)) o
  of_member j None m e r = absurd cc
  of_member j (Some (local s)) m e r = absurd cc
  of_member j (Some (imported i)) m e r = absurd cc
  of_member j (Some (predeclared i)) m e r = absurd cc
  of_member j (Some (member p h d i)) m e r = by (nat_eq w.number use_.number) refl
    where
      by : (t : Bool) → nat_eq w.number use_.number ≡ t
          → (if not (not t) && not (means_member here) then Some n else None) ≡ (if not (not t) && not (this there (member p h d i)) then Some n else None)
      by true s =
          let home : g.home ≡ f.home = l.home_is ∙ sym (k.home_is ∙ eqb-true w.number use_.number s) in
          ap told (sym (member_same p h d i here (b.outer n) (own_meant ps use_ g l.home_is l.home_there l.imports_are q at b n) (ap (λ (z : ℕ). member_of ps z n) home ∙ sym r)))
      by false s = refl

  plain : (m : Option Entity) → IsMember ps w m → given (given m (target_of w)) mark_of ≡ given (own_package f.home m) (λ j. member_of ps j n) → Shows m (given m (target_of w))
  plain None a r = refl
  plain (Some (Local s)) a r = refl
  plain (Some (Import j)) a r = refl
  plain (Some (Universe j)) a r = ap told (sym (ap (λ (o : Option Target). this o (predeclared j)) (b.outer n) ∙ universe_same here here_member j))
  plain (Some (Package j)) a r = of_member j (target_of w (Package j)) a.0 a.1 r

  -- a name that stands at a place
  pub name_is : (p : Place At) (s : ℕ) → AgreesAt ps w f.table p s → shadowed_from f g at s n ≡ shadowed_name ps w use_ q p n
  name_is p s a =
      (λ v. if is_another (meaning_in f.table n s) (not (nat_eq (k.home_is v) (l.home_is v))) here then Some n else None)
      ∙ plain (meaning_in f.table n s) (table_members ps w k.names (file_with here_of w.source.tree) f.table named k.table n s)
      (ap (λ (o : Option Target). given o mark_of) (sym (a.outer n)) ∙ own_meant ps w f k.home_is k.home_there k.imports_are p s a n)
      ∙ ap (λ (o : Option Target). given o (shadowed_meaning ps w use_ q n)) (sym (a.outer n))
