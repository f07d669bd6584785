-- The members that the code finds named in a declaration are those that the names among all its parts name.
use Rattle.std.proofs.Common.{◌≡◌, ◌∙◌, ℕ, ◌+◌, length, arith, Bool, true, false, ◌&&◌, not, List, [], ◌∷◌, ◌++◌, map, Option, Some, None, refl, sym, ap}
use Rattle.std.proofs.lemmas.List.{append_assoc, append-nil, map-append, length-append, length-map}
use Rattle.go_tree.specs.declared.spans.Span.{Span}
use Rattle.go_tree.specs.declared.scope_names.names.Entity.{Entity}
use Rattle.go_tree.specs.declared.scope_names.names.Entity.TheVariants.{Local, Import, Package, Universe}
use Rattle.go_tree.specs.Tree.{NameAt, TypeExpr, named, pointer, slice_type, map_type, struct_type, Expr, ident, int_lit, rune_lit, str_lit, composite, selector, index, slice, call, func_lit, type_operand, unary, binary, star}
use Rattle.go_tree.specs.ScopeNames.Means.{is_blank}
use Rattle.go_tree.specs.GoTypes.Answers.{given}
use Rattle.go_tree.specs.GoTypes.Entities.{is_declared_here}
use Rattle.pkg_graph.specs.Package as packages
use Rattle.scope_tables.specs.Table.{meaning_in}
use Rattle.run_rules.specs.Surroundings.{Use, stored, Place, Seen, seen, seen_type, seen_stmt, is_old}
use Rattle.run_rules.specs.Sites.{Where, an_expr, a_type_part, named_in}
use Rattle.member_uses.specs.PossibleUses.Candidates.{Candidate, plain_part}
use Rattle.member_uses.specs.PossibleUses.Parts.{put}
use Rattle.member_uses.specs.PossibleUses.Among.{may_be_use}
use Rattle.member_uses.specs.Agreement.{BlockIsLocal, AgreesAt, means_local}
use Rattle.member_uses.specs.Parts.{AtParts}
use Rattle.member_uses.specs.Uses.{Used, Names, used, name_alone, own_package, package_at, import_at, part_uses}
use Rattle.repeated_parts.specs.Flags.{Flags, put_flag, put_field}
use Rattle.repeated_parts.specs.Along.{is_again, key_as, FlagsAlong, past_a_use, past_no_use, past_a_key, past_a_field, past_an_old_name, past_a_type, past_a_statement}
use Rattle.repeated_parts.specs.Along as along
use Rattle.repeated_parts.specs.UsesRepeated.Uses.{with_flag, under_flag, flagged_uses}
use Rattle.name_places.specs.NamesThere.{type_there, types_there, names_in, names_among}
use Rattle.call_qualifiers.specs.Numbers.{MemberThere}
use Rattle.call_qualifiers.proofs.Numbers.{and_member, members, members_both}

-- where uses stand, and the members' packages
abbrev pub places_of : List (Used × Bool) → List MemberThere
places_of us = map (λ u. (u.0.span, u.0.«package»)) us

-- ---- names on the left of `:=` that are there already

no_member : (home : ℕ) (m : Option Entity) → means_local m ≡ true → own_package home m ≡ None
no_member home None e = absurd cc
no_member home (Some (Local s)) e = refl
no_member home (Some (Import k)) e = absurd cc
no_member home (Some (Package k)) e = absurd cc
no_member home (Some (Universe k)) e = absurd cc

split : (x y : Bool) → (x && not y) ≡ true → (x ≡ true) × (y ≡ false)
split true false e = (refl, refl)
split true true e = absurd cc
split false y e = absurd cc

module _ {S : Type 0} (to : S → Span) (ps : List (packages.Package S)) (w : Where S) (f : Names) where
  abbrev C : Type 0
  C = Candidate S

  abbrev uses_with : List C → Flags → List MemberThere
  uses_with xs ms = places_of (flagged_uses to f xs ms)

  -- as many flags as parts
  more : (xs : List C) (ms : Flags) (ys : List C) (ns : Flags) → length xs ≡ length ms
      → flagged_uses to f (xs ++ ys) (ms ++ ns) ≡ flagged_uses to f xs ms ++ flagged_uses to f ys ns
  more [] [] ys ns e = refl
  more [] (m ∷ ms) ys ns e = absurd (omega (arith, e))
  more (x ∷ xs) [] ys ns e = absurd (omega (arith, e))
  more (x ∷ xs) (m ∷ ms) ys ns e =
      ap (λ (us : List (Used × Bool)). under_flag m (part_uses to f x.key x.part) ++ us) (more xs ms ys ns (omega (arith, e)))
      ∙ sym (append_assoc (under_flag m (part_uses to f x.key x.part)) (flagged_uses to f xs ms) (flagged_uses to f ys ns))

  more_uses : (xs : List C) (ms : Flags) (ys : List C) (ns : Flags) → length xs ≡ length ms → uses_with (xs ++ ys) (ms ++ ns) ≡ uses_with xs ms ++ uses_with ys ns
  more_uses xs ms ys ns e = ap places_of (more xs ms ys ns e) ∙ map-append (λ u. (u.0.span, u.0.«package»)) (flagged_uses to f xs ms) (flagged_uses to f ys ns)

  -- ---- one part

  one_use : (m key : Bool) (s : Span) (o : Option ℕ) (n : List ℕ) → places_of (with_flag m (used s key o n) ++ []) ≡ and_member s o []
  one_use m key s None n = refl
  one_use m key s (Some k) n = refl

  expr_use : (m : Bool) (p : Place S) (u : Use) (e : Expr S) → may_be_use e ≡ true → uses_with (plain_part (an_expr e) ∷ []) (Some m ∷ []) ≡ members f (names_in to (seen p u e))
  expr_use m p u (ident s n) h = one_use m false (to s) (package_at f n (to s).start) n
  expr_use m p u (selector s b n) h = one_use m false (to s) (given (name_alone b) (λ q. import_at f q (to s).start)) n.name
  expr_use m p u (call s g xs r) h = refl
  expr_use m p u (int_lit s x) h = absurd cc
  expr_use m p u (rune_lit s x) h = absurd cc
  expr_use m p u (str_lit s x) h = absurd cc
  expr_use m p u (composite s t es) h = absurd cc
  expr_use m p u (index s b j) h = absurd cc
  expr_use m p u (slice s b i j) h = absurd cc
  expr_use m p u (func_lit s g z b) h = absurd cc
  expr_use m p u (type_operand s t) h = absurd cc
  expr_use m p u (unary s o e) h = absurd cc
  expr_use m p u (binary s o a b) h = absurd cc
  expr_use m p u (star s e) h = absurd cc

  no_use : (p : Place S) (u : Use) (e : Expr S) → may_be_use e ≡ false → names_in to (seen p u e) ≡ []
  no_use p u (ident s n) h = absurd cc
  no_use p u (selector s b n) h = absurd cc
  no_use p u (call s g xs r) h = refl
  no_use p u (int_lit s x) h = refl
  no_use p u (rune_lit s x) h = refl
  no_use p u (str_lit s x) h = refl
  no_use p u (composite s t es) h = refl
  no_use p u (index s b j) h = refl
  no_use p u (slice s b i j) h = refl
  no_use p u (func_lit s g z b) h = refl
  no_use p u (type_operand s t) h = refl
  no_use p u (unary s o e) h = refl
  no_use p u (binary s o a b) h = refl
  no_use p u (star s e) h = refl

  abbrev parts_of : List (TypeExpr S) → List C
  parts_of ts = map (λ x. plain_part (a_type_part x)) ts

  type_use : (m : Bool) (t : TypeExpr S) → places_of (with_flag m (part_uses to f false (a_type_part t)) ++ []) ≡ members f (type_there to t)
  type_use m (named s None n) = one_use m false (to s) (package_at f n.name (to s).start) n.name
  type_use m (named s (Some q) n) = one_use m false (to s) (import_at f q.name (to s).start) n.name
  type_use m (pointer s t) = refl
  type_use m (slice_type s t) = refl
  type_use m (map_type s k t) = refl
  type_use m (struct_type s fs) = refl

  types_use : (m : Bool) (ts : List (TypeExpr S)) → uses_with (parts_of ts) (map (λ x. Some m) ts) ≡ members f (types_there to ts)
  types_use m [] = refl
  types_use m (t ∷ ts) =
      more_uses (plain_part (a_type_part t) ∷ []) (Some m ∷ []) (parts_of ts) (map (λ x. Some m) ts) refl
      ∙ (λ v. type_use m t v ++ types_use m ts v)
      ∙ sym (members_both f (type_there to t) (types_there to ts))

  -- ---- lengths

  field_length : (c : C) (xs : List C) (ms : Flags) → length xs ≡ length ms → length (put c xs) ≡ length (put_field ms)
  field_length c xs ms e = length-append xs (c ∷ []) ∙ ap (λ (k : ℕ). k + 1) e ∙ sym (length-append ms (None ∷ []))

  put_length : (c : C) (m : Bool) (xs : List C) (ms : Flags) → length xs ≡ length ms → length (put c xs) ≡ length (put_flag m ms)
  put_length c m xs ms e = length-append xs (c ∷ []) ∙ ap (λ (k : ℕ). k + 1) e ∙ sym (length-append ms (Some m ∷ []))

  types_length : (m : Bool) (ts : List (TypeExpr S)) (xs : List C) (ms : Flags) → length xs ≡ length ms → length (xs ++ parts_of ts) ≡ length (ms ++ map (λ x. Some m) ts)
  types_length m ts xs ms e =
      length-append xs (parts_of ts)
      ∙ (λ v. e v + length-map ts (λ x. plain_part (a_type_part x)) v)
      ∙ sym (length-append ms (map (λ x. Some m) ts) ∙ ap (λ (k : ℕ). length ms + k) (length-map ts (λ x. Some m)))

  -- ---- along all parts

  old_none : (p : Place S) (n : NameAt S) (at : ℕ) → is_old p n ≡ true → AgreesAt ps w f.table p at → BlockIsLocal p → package_at f n.name at ≡ None
  old_none p n at e a b =
      let h = split (is_declared_here p.env n.name) (is_blank n.name) e in
      no_member f.home (meaning_in f.table n.name at) (sym (a.local n.name) ∙ b n.name h.0 h.1)

  -- names of a part before those of others
  in_front : (x : Seen S) (ys : List (Seen S)) (was now all : List MemberThere) → now ≡ was ++ members f (names_in to x) → now ++ members f (names_among to ys) ≡ all → was ++ members f (names_among to (x ∷ ys)) ≡ all
  in_front x ys was now all e h =
      ap (λ (us : List MemberThere). was ++ us) (members_both f (names_in to x) (names_among to ys))
      ∙ sym (append_assoc was (members f (names_in to x)) (members f (names_among to ys)))
      ∙ ap (λ (us : List MemberThere). us ++ members f (names_among to ys)) (sym e)
      ∙ h

  nothing : (x : Seen S) (was : List MemberThere) → members f (names_in to x) ≡ [] → was ≡ was ++ members f (names_in to x)
  nothing x was e = sym (ap (λ (us : List MemberThere). was ++ us) e ∙ append-nil was)

  pub uses_are : {xs zs : List C} {ms ns : Flags} {ys : List (Seen S)} → FlagsAlong xs ms ys zs ns → length xs ≡ length ms → AtParts to (AgreesAt ps w f.table) ys
      → AtParts to (λ p at. BlockIsLocal p) ys → uses_with xs ms ++ members f (names_among to ys) ≡ uses_with zs ns
  uses_are {xs = xs} {ms = ms} along.at_the_end q a b = append-nil (uses_with xs ms)
  uses_are {xs = xs} {zs = zs} {ms = ms} {ns = ns} (past_a_use {ys = ys} {p = p} {u = u} {e = e} h d) q a b =
      in_front (seen p u e) ys (uses_with xs ms) (uses_with (put (plain_part (an_expr e)) xs) (put_flag (is_again p) ms)) (uses_with zs ns)
      (more_uses xs ms (plain_part (an_expr e) ∷ []) (Some (is_again p) ∷ []) q ∙ ap (λ (us : List MemberThere). uses_with xs ms ++ us) (expr_use (is_again p) p u e h))
      (uses_are d (put_length (plain_part (an_expr e)) (is_again p) xs ms q) a.1 b.1)
  uses_are {xs = xs} {zs = zs} {ms = ms} {ns = ns} (past_no_use {ys = ys} {p = p} {u = u} {e = e} h d) q a b =
      in_front (seen p u e) ys (uses_with xs ms) (uses_with xs ms) (uses_with zs ns) (nothing (seen p u e) (uses_with xs ms) (ap (members f) (no_use p u e h))) (uses_are d q a.1 b.1)
  uses_are {xs = xs} {zs = zs} {ms = ms} {ns = ns} (past_a_key {ys = ys} {p = p} {u = u} {s = s} {n = n} v d) q a b =
      in_front (seen p u (ident s n)) ys (uses_with xs ms) (uses_with (put (key_as v s n) xs) (put_flag (is_again p) ms)) (uses_with zs ns)
      (more_uses xs ms (key_as v s n ∷ []) (Some (is_again p) ∷ []) q
      ∙ ap (λ (us : List MemberThere). uses_with xs ms ++ us) (one_use (is_again p) v (to s) (package_at f n (to s).start) n))
      (uses_are d (put_length (key_as v s n) (is_again p) xs ms q) a.1 b.1)
  uses_are {xs = xs} {zs = zs} {ms = ms} {ns = ns} (past_a_field {ys = ys} v s n d) q a b =
      ap (λ (us : List MemberThere). us ++ members f (names_among to ys)) (sym (more_uses xs ms (key_as v s n ∷ []) (None ∷ []) q ∙ append-nil (uses_with xs ms)))
      ∙ uses_are d (field_length (key_as v s n) xs ms q) a b
  uses_are {xs = xs} {zs = zs} {ms = ms} {ns = ns} (past_an_old_name {ys = ys} {p = p} {n = n} h d) q a b =
      in_front (seen p stored (ident n.span n.name)) ys (uses_with xs ms) (uses_with xs ms) (uses_with zs ns)
      (nothing (seen p stored (ident n.span n.name)) (uses_with xs ms) (ap (λ (o : Option ℕ). and_member (to n.span) o []) (old_none p n (to n.span).start h a.0 b.0)))
      (uses_are d q a.1 b.1)
  uses_are {xs = xs} {zs = zs} {ms = ms} {ns = ns} (past_a_type {ys = ys} {p = p} {t = t} d) q a b =
      in_front (seen_type p t) ys (uses_with xs ms) (uses_with (xs ++ parts_of (named_in t)) (ms ++ map (λ x. Some (is_again p)) (named_in t))) (uses_with zs ns)
      (more_uses xs ms (parts_of (named_in t)) (map (λ x. Some (is_again p)) (named_in t)) q ∙ ap (λ (us : List MemberThere). uses_with xs ms ++ us) (types_use (is_again p) (named_in t)))
      (uses_are d (types_length (is_again p) (named_in t) xs ms q) a.1 b.1)
  uses_are {xs = xs} {zs = zs} {ms = ms} {ns = ns} (past_a_statement {ys = ys} {p = p} {s = s} d) q a b =
      in_front (seen_stmt p s) ys (uses_with xs ms) (uses_with xs ms) (uses_with zs ns) (nothing (seen_stmt p s) (uses_with xs ms) refl) (uses_are d q a.1 b.1)
