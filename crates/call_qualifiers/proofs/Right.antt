-- Where names stand apart, what the code puts before each is what run_rules writes there.
use Rattle.std.proofs.Common.{◌≡◌, ◌∙◌, ℕ, false, List, [], ◌∷◌, Option, Some, None, refl, ap}
use Rattle.std.specs.Prelude.{slice_get}
use Rattle.go_tree.specs.declared.spans.Span.{Span}
use Rattle.go_tree.specs.Tree.{NameAt, TypeExpr, named, pointer, slice_type, map_type, struct_type, Expr, ident, int_lit, rune_lit, str_lit, composite, selector, index, slice, call, func_lit, type_operand, unary, binary, star}
use Rattle.go_tree.specs.GoTypes.Answers.{given}
use Rattle.go_tree.specs.GoTypes.Defined.{under}
use Rattle.go_tree.specs.GoTypes.Entities.{defined_in}
use Rattle.go_tree.specs.GoTypes.TypeNames.{type_meant}
use Rattle.pkg_graph.specs.Package.{Package}
use Rattle.run_rules.specs.Surroundings.{Use, Place, Seen, seen, seen_type, seen_stmt, a_slot, in_slot}
use Rattle.run_rules.specs.Sites.{Where, named_in, type_span}
use Rattle.run_rules.specs.Naming as naming
use Rattle.run_rules.specs.Respanned.{file_with}
use Rattle.run_rules.specs.Run.{here_of}
use Rattle.run_rules.specs.Steps.{At}
use Rattle.constant_steps.specs.FormImports.ImportLaws.Steps.{names_standing}
use Rattle.member_uses.specs.Agreement.{AgreesAt}
use Rattle.member_uses.specs.Laws.{Knows}
use Rattle.member_uses.specs.Parts.{AtTypes, AtPart, AtParts}
use Rattle.member_uses.specs.PossibleUses.Among.{Keyed}
use Rattle.member_uses.specs.Uses.{Names, name_alone}
use Rattle.call_forms.specs.Qualifiers.{Told, at_span, qualifier_at}
use Rattle.call_forms.specs.ToldNames.{TypeTold, TypesTold, ExprTold, PartTold, AllTold}
use Rattle.name_places.specs.NamesThere.{Spelling, by_itself, behind_dot, NameThere, Among, first, type_there, types_there, names_in, names_among, fields_in, fields_among, StandApart}
use Rattle.call_qualifiers.specs.Numbers.{numbers_put}
use Rattle.call_qualifiers.proofs.Numbers.{members, number_at, none_at, found_at}
use Rattle.call_qualifiers.proofs.Meant.{own_told, import_told}
use Rattle.name_places.proofs.Lists.{among_front, among_back}
use Rattle.call_qualifiers.proofs.Fields.{elems_told}

module _ (ps : List (Package At)) (w : Where At) (f : Names) (k : Knows here_of (file_with here_of) ps w f) (standing : k.names ≡ names_standing ps w)
    (there : ℕ) (names : naming.Names) (t : Told) (home_named : slice_get t.packages w.number ≡ Some (names w.number))
    (imports_named : (j q : ℕ) → slice_get f.imports j ≡ Some q → slice_get t.packages q ≡ Some (names q))
    (imports_others : (j : ℕ) → slice_get f.imports j ≡ Some w.number → ⊥)
    (all : List (Seen At)) (apart : StandApart here_of all)
    (put : (q : Span) → at_span q t.before ≡ numbers_put f.home there (members f (names_among here_of all)) q None) where
  abbrev told : Span → Option (List ℕ)
  told s = qualifier_at t s

  abbrev named_as : Option ℕ → Option (List ℕ)
  named_as o = given o (slice_get t.packages)

  -- before a name
  told_at : (s : Span) (v : Spelling) → Among (s, v) (names_among here_of all) → told s ≡ named_as (number_at f f.home there v s)
  told_at s v m =
      ap named_as (put s ∙ found_at f f.home there s v (names_among here_of all) (λ x a e. apart.once x (s, v) a m e) (s, v) m refl)

  -- before the key of a field
  told_none : (s : At) → Among s (fields_among all) → told (here_of s) ≡ None
  told_none s m = ap named_as (put (here_of s) ∙ none_at f f.home there (here_of s) (names_among here_of all) (λ x a e. apart.fields x s a m e) None)

  own : (s : Span) (n : List ℕ) (p : Place At) → AgreesAt ps w f.table p s.start → Among (s, by_itself n) (names_among here_of all) → told s ≡ naming.member_qualifier ps w there names p n
  own s n p a m = told_at s (by_itself n) m ∙ own_told ps w f k standing there names t.packages home_named imports_named imports_others p s a n

  imported : (s : Span) (q : List ℕ) (p : Place At) → AgreesAt ps w f.table p s.start → Among (s, behind_dot (Some q)) (names_among here_of all) → told s ≡ naming.import_qualifier ps w there names p q
  imported s q p a m = told_at s (behind_dot (Some q)) m ∙ import_told ps w f k standing there names t.packages home_named imports_named imports_others p s a q

  -- ---- types

  type_told : (p : Place At) (x : TypeExpr At) → AgreesAt ps w f.table p (here_of (type_span x)).start → ((n : NameThere) → Among n (type_there here_of x) → Among n (names_among here_of all)) → TypeTold here_of told ps w there names p x
  type_told p (named s None n) a on = own (here_of s) n.name p a (on (here_of s, by_itself n.name) first)
  type_told p (named s (Some q) n) a on = imported (here_of s) q.name p a (on (here_of s, behind_dot (Some q.name)) first)
  type_told p (pointer s x) a on = tt
  type_told p (slice_type s x) a on = tt
  type_told p (map_type s x y) a on = tt
  type_told p (struct_type s fs) a on = tt

  types_told : (p : Place At) (xs : List (TypeExpr At)) → AtTypes here_of (AgreesAt ps w f.table) p xs → ((n : NameThere) → Among n (types_there here_of xs) → Among n (names_among here_of all)) → TypesTold here_of told ps w there names p xs
  types_told p [] a on = tt
  types_told p (x ∷ xs) a on = (
    type_told p x a.0 (λ n m. on n (among_front n (type_there here_of x) (types_there here_of xs) m)),
    types_told p xs a.1 (λ n m. on n (among_back n (type_there here_of x) (types_there here_of xs) m)),
  )

  -- ---- expressions

  abbrev Inside : Seen At → Type 0
  Inside x = ((n : NameThere) → Among n (names_in here_of x) → Among n (names_among here_of all)) × ((s : At) → Among s (fields_in x) → Among s (fields_among all))

  selected : (s : At) (b : Expr At) (n : NameAt At) (p : Place At) → AgreesAt ps w f.table p (here_of s).start → Among (here_of s, behind_dot (name_alone b)) (names_among here_of all) → ExprTold here_of told ps w there names p (selector s b n)
  selected s (ident z q) n p a m = imported (here_of s) q p a m
  selected s (int_lit z x) n p a m = told_at (here_of s) (behind_dot None) m
  selected s (rune_lit z x) n p a m = told_at (here_of s) (behind_dot None) m
  selected s (str_lit z x) n p a m = told_at (here_of s) (behind_dot None) m
  selected s (composite z x es) n p a m = told_at (here_of s) (behind_dot None) m
  selected s (selector z b x) n p a m = told_at (here_of s) (behind_dot None) m
  selected s (index z b j) n p a m = told_at (here_of s) (behind_dot None) m
  selected s (slice z b i j) n p a m = told_at (here_of s) (behind_dot None) m
  selected s (call z g xs r) n p a m = told_at (here_of s) (behind_dot None) m
  selected s (func_lit z g y b) n p a m = told_at (here_of s) (behind_dot None) m
  selected s (type_operand z x) n p a m = told_at (here_of s) (behind_dot None) m
  selected s (unary z o e) n p a m = told_at (here_of s) (behind_dot None) m
  selected s (binary z o b c) n p a m = told_at (here_of s) (behind_dot None) m
  selected s (star z e) n p a m = told_at (here_of s) (behind_dot None) m

  -- a part that is an expression, and those behind it
  expr_told : (p : Place At) (u : Use) (e : Expr At) (ys : List (Seen At)) → AtPart here_of (AgreesAt ps w f.table) (seen p u e) → Keyed (seen p u e ∷ ys) → Inside (seen p u e) → ExprTold here_of told ps w there names p e × Keyed ys
  expr_told p u (ident s n) ys a c on = (own (here_of s) n p a (on.0 (here_of s, by_itself n) first), c)
  expr_told p u (selector s b n) ys a c on = (selected s b n p a (on.0 (here_of s, behind_dot (name_alone b)) first), c)
  expr_told p u (composite s x es) ys a c on = (
    elems_told here_of told ps w there names (in_slot (a_slot 1 false false) p) (given (type_meant p.env x) (λ v. Some (under (defined_in p.env) v))) 0 es c.0 (λ s m. told_none s (on.1 s m)),
    c.1,
  )
  expr_told p u (int_lit s n) ys a c on = (tt, c)
  expr_told p u (rune_lit s n) ys a c on = (tt, c)
  expr_told p u (str_lit s n) ys a c on = (tt, c)
  expr_told p u (index s b j) ys a c on = (tt, c)
  expr_told p u (slice s b i j) ys a c on = (tt, c)
  expr_told p u (call s g xs r) ys a c on = (tt, c)
  expr_told p u (func_lit s g z b) ys a c on = (tt, c)
  expr_told p u (type_operand s x) ys a c on = (tt, c)
  expr_told p u (unary s o e) ys a c on = (tt, c)
  expr_told p u (binary s o b d) ys a c on = (tt, c)
  expr_told p u (star s e) ys a c on = (tt, c)

  part_told : (x : Seen At) (ys : List (Seen At)) → AtPart here_of (AgreesAt ps w f.table) x → Keyed (x ∷ ys) → Inside x → PartTold here_of told ps w there names x × Keyed ys
  part_told (seen p u e) ys a c on = expr_told p u e ys a c on
  part_told (seen_type p x) ys a c on = (types_told p (named_in x) a on.0, c)
  part_told (seen_stmt p s) ys a c on = (tt, c)

  -- ---- all parts

  parts_told : (xs : List (Seen At)) → AtParts here_of (AgreesAt ps w f.table) xs → Keyed xs → ((n : NameThere) → Among n (names_among here_of xs) → Among n (names_among here_of all))
      → ((s : At) → Among s (fields_among xs) → Among s (fields_among all)) → AllTold here_of told ps w there names xs
  parts_told [] a c on of = tt
  parts_told (x ∷ xs) a c on of =
      let h =
      part_told x xs a.0 c (
        λ n m. on n (among_front n (names_in here_of x) (names_among here_of xs) m),
        λ s m. of s (among_front s (fields_in x) (fields_among xs) m),
      )
      in (
        h.0,
        parts_told xs a.1 h.1 (λ n m. on n (among_back n (names_in here_of x) (names_among here_of xs) m)) (λ s m. of s (among_back s (fields_in x) (fields_among xs) m)),
      )

  pub all_told : AtParts here_of (AgreesAt ps w f.table) all → Keyed all → AllTold here_of told ps w there names all
  all_told a c = parts_told all a c (λ n m. m) (λ s m. m)
