-- The functions that calls name are those to which a declaration leads.
use Rattle.std.proofs.Common.{◌≡◌, ◌∙◌, ℕ, Bool, true, false, List, [], ◌∷◌, ◌++◌, map, Option, Some, None, refl, sym, ap}
use Rattle.std.specs.Prelude.{if◌then◌else◌}
use Rattle.std.proofs.lemmas.List.{append_assoc, append-nil}
use Rattle.go_tree.specs.declared.spans.Span.{Span}
use Rattle.go_tree.specs.Tree.{TypeExpr, named, pointer, slice_type, map_type, struct_type, Expr, ident, int_lit, rune_lit, str_lit, composite, selector, index, slice, call, func_lit, type_operand, unary, binary, star}
use Rattle.go_tree.specs.File.{Decl, File}
use Rattle.go_tree.specs.ScopeNames.Scopes.{expr_span}
use Rattle.go_tree.specs.GoTypes.Answers.{given, meets, and_also}
use Rattle.scope_tables.specs.Table.{meaning_in}
use Rattle.pkg_graph.specs.Package.{Package}
use Rattle.run_rules.specs.Cycles.{function_marks}
use Rattle.run_rules.specs.Programs.{decl_seen}
use Rattle.run_rules.specs.Surroundings.{Use, other, stored, Place, Seen, seen, seen_type, seen_stmt}
use Rattle.run_rules.specs.Sites.{MarkRef, Where, Inlinable, a_constant, an_alias, a_function, is_function, is_free_function, not_function, Part, an_expr, a_type_part, Site, parts_of, inlinable, selected_method, qualifier, member_of, name_mark, qualified_mark, marked, marked_as, called_mark, type_mark, site_by, type_sites, site_here, sites_among, named_in}
use Rattle.member_uses.specs.Agreement.{AgreesAt}
use Rattle.member_uses.specs.Parts.{AtParts}
use Rattle.member_uses.specs.PossibleUses.Candidates.{Candidate, plain_part, key_part}
use Rattle.member_uses.specs.PossibleUses.Parts.{put}
use Rattle.member_uses.specs.PossibleUses.Among.{may_be_use, Follows, at_the_end, past_a_use, past_no_use, past_a_key, past_a_field, past_an_old_name, past_a_type, past_a_statement}
use Rattle.member_uses.specs.PossibleUses.Laws.{PartsAreAmongAll}
use Rattle.member_uses.specs.PlaceMeaningsLaws.{PlacesMeanAsTablesSay}
use Rattle.member_uses.specs.Uses.{Used, Names, used, package_at, import_at, part_uses}
use Rattle.member_uses.proofs.MembersMeant.{own_meant, before_dot}
use Rattle.call_uses.specs.Calls.{call_part, call_uses}
use Rattle.call_uses.specs.Laws.{NoMethods, function_used, functions_used, CallsLeadToFunctions}
use Rattle.call_uses.proofs.NoMethods.{selected_none, behind_import}

-- one that may be there
abbrev one_or_none : {A : Type 0} → Option A → List A
one_or_none o = and_also o []

and_before : {A : Type 0} (o : Option A) (xs ys : List A) → and_also o (xs ++ ys) ≡ and_also o xs ++ ys
and_before None xs ys = refl
and_before (Some x) xs ys = refl

module _ {S : Type 0} (ps : List (Package S)) (marks : List MarkRef) where
  -- ---- members

  used_append : (us vs : List Used) → functions_used ps marks (us ++ vs) ≡ functions_used ps marks us ++ functions_used ps marks vs
  used_append [] vs = refl
  used_append (u ∷ us) vs =
      ap (and_also (function_used ps marks u)) (used_append us vs) ∙ and_before (function_used ps marks u) (functions_used ps marks us) (functions_used ps marks vs)

  -- the function of a package that may be there
  one_used : (s : Span) (o : Option ℕ) (n : List ℕ) → functions_used ps marks (used s false o n) ≡ one_or_none (marked_as ps marks is_free_function (given o (λ k. member_of ps k n)))
  one_used s None n = refl
  one_used s (Some k) n = refl

  -- ---- functions among sites

  function_append : (xs ys : List (Site S)) → function_marks ps marks (xs ++ ys) ≡ function_marks ps marks xs ++ function_marks ps marks ys
  function_append [] ys = refl
  function_append (x ∷ xs) ys = by (meets (inlinable ps x.mark) is_function) (function_append xs ys)
    where
      by : (b : Bool) → function_marks ps marks (xs ++ ys) ≡ function_marks ps marks xs ++ function_marks ps marks ys
          → (if b then x.mark ∷ function_marks ps marks (xs ++ ys) else function_marks ps marks (xs ++ ys)) ≡ (if b then x.mark ∷ function_marks ps marks xs else function_marks ps marks xs) ++ function_marks ps marks ys
      by true e = ap (λ (ms : List MarkRef). x.mark ∷ ms) e
      by false e = e

  abbrev kind_of : (Inlinable S → Bool) → MarkRef → Option MarkRef
  kind_of kind m = if meets (inlinable ps m) kind then Some m else None

  free_is_function : (o : Option (Inlinable S)) → meets o is_free_function ≡ true → meets o is_function ≡ true
  free_is_function None e = absurd cc
  free_is_function (Some (a_constant n v)) e = absurd cc
  free_is_function (Some (an_alias n v)) e = absurd cc
  free_is_function (Some (a_function f)) e = refl

  other_is_none : (o : Option (Inlinable S)) → meets o not_function ≡ true → meets o is_function ≡ false
  other_is_none None e = refl
  other_is_none (Some (a_constant n v)) e = refl
  other_is_none (Some (an_alias n v)) e = refl
  other_is_none (Some (a_function f)) e = absurd cc

  module _ (w : Where S) (i : ℕ) (p : Place S) (u : Use) (x : Part S) where
    abbrev found : Option MarkRef → List MarkRef
    found o = function_marks ps marks (site_by ps marks w i p u x o)

    found_by : (m : MarkRef) (b : Bool) → meets (inlinable ps m) is_function ≡ b → found (Some m) ≡ (if b then m ∷ [] else [])
    found_by m b e = ap (λ (v : Bool). if v then m ∷ [] else []) e

    -- a marked function is one
    function_found : (r : Option MarkRef) → found (marked_as ps marks is_free_function r) ≡ one_or_none (marked_as ps marks is_free_function r)
    function_found r = by (marked ps marks r)
      where
        one : (m : MarkRef) (b : Bool) → meets (inlinable ps m) is_free_function ≡ b → found (if b then Some m else None) ≡ one_or_none (if b then Some m else None)
        one m true e = found_by m true (free_is_function (inlinable ps m) e)
        one m false e = refl

        by : (o : Option MarkRef) → found (given o (kind_of is_free_function)) ≡ one_or_none (given o (kind_of is_free_function))
        by None = refl
        by (Some m) = one m (meets (inlinable ps m) is_free_function) refl

    -- a constant or an alias is none
    other_found : (r : Option MarkRef) → found (marked_as ps marks not_function r) ≡ []
    other_found r = by (marked ps marks r)
      where
        one : (m : MarkRef) (b : Bool) → meets (inlinable ps m) not_function ≡ b → found (if b then Some m else None) ≡ []
        one m true e = found_by m false (other_is_none (inlinable ps m) e)
        one m false e = refl

        by : (o : Option MarkRef) → found (given o (kind_of not_function)) ≡ []
        by None = refl
        by (Some m) = one m (meets (inlinable ps m) not_function) refl

  module _ (to : S → Span) (w : Where S) (f : Names) (i : ℕ) (free : NoMethods ps marks)
      (own : (p : Place S) (at : ℕ) → AgreesAt ps w f.table p at → (n : List ℕ) → name_mark ps w p n ≡ given (package_at f n at) (λ q. member_of ps q n))
      (before : (p : Place S) (at : ℕ) → AgreesAt ps w f.table p at → (q : List ℕ) → qualifier ps w p q ≡ import_at f q at) where
    -- the functions that parts call
    abbrev called : List (Candidate S) → List MarkRef
    called cs = functions_used ps marks (call_uses to f cs)

    -- those to which a part leads
    abbrev led : Seen S → List MarkRef
    led x = function_marks ps marks (site_here ps marks w i x)

    -- ---- callees

    abbrev callee : Span → Expr S → List MarkRef
    callee s g = functions_used ps marks (part_uses (λ z. s) f false (an_expr g))

    name_called : (p : Place S) (s : Span) (n : List ℕ) → AgreesAt ps w f.table p s.start → one_or_none (marked_as ps marks is_free_function (name_mark ps w p n)) ≡ functions_used ps marks (used s false (package_at f n s.start) n)
    name_called p s n a = ap (λ (o : Option MarkRef). one_or_none (marked_as ps marks is_free_function o)) (own p s.start a n) ∙ sym (one_used s (package_at f n s.start) n)

    abbrev by_qualifier : Place S → Expr S → List ℕ → Option ℕ → Option MarkRef
    by_qualifier p b n o = elim o [ Some k ↦ marked_as ps marks is_free_function (member_of ps k n) | None ↦ marked ps marks (selected_method ps marks p b n) ]

    module _ (p : Place S) (u : Use) (x : Part S) where
      abbrev found_here : Option MarkRef → List MarkRef
      found_here o = function_marks ps marks (site_by ps marks w i p u x o)

      none_selected : (b : Expr S) (n : List ℕ) → found_here (marked ps marks (selected_method ps marks p b n)) ≡ []
      none_selected b n = ap found_here (selected_none ps marks free p b n)

      call_found : (s : Span) (g : Expr S) → AgreesAt ps w f.table p s.start → found_here (called_mark ps marks w p g) ≡ callee s g
      call_found s (ident z n) a = function_found w i p u x (name_mark ps w p n) ∙ name_called p s n a
      call_found s (selector z (ident y q) n) a =
          ap found_here (behind_import ps marks free p (ident y q) n.name (qualifier ps w p q) ∙ ap (λ (o : Option ℕ). marked_as ps marks is_free_function (given o (λ k. member_of ps k n.name))) (before p s.start a q))
          ∙ function_found w i p u x (given (import_at f q s.start) (λ k. member_of ps k n.name))
          ∙ sym (one_used s (import_at f q s.start) n.name)
      call_found s (selector z (int_lit y v) n) a = none_selected (int_lit y v) n.name
      call_found s (selector z (rune_lit y v) n) a = none_selected (rune_lit y v) n.name
      call_found s (selector z (str_lit y v) n) a = none_selected (str_lit y v) n.name
      call_found s (selector z (composite y t es) n) a = none_selected (composite y t es) n.name
      call_found s (selector z (selector y b v) n) a = none_selected (selector y b v) n.name
      call_found s (selector z (index y b j) n) a = none_selected (index y b j) n.name
      call_found s (selector z (slice y b j v) n) a = none_selected (slice y b j v) n.name
      call_found s (selector z (call y g xs r) n) a = none_selected (call y g xs r) n.name
      call_found s (selector z (func_lit y g v b) n) a = none_selected (func_lit y g v b) n.name
      call_found s (selector z (type_operand y t) n) a = none_selected (type_operand y t) n.name
      call_found s (selector z (unary y o e) n) a = none_selected (unary y o e) n.name
      call_found s (selector z (binary y o b c) n) a = none_selected (binary y o b c) n.name
      call_found s (selector z (star y e) n) a = none_selected (star y e) n.name
      call_found s (int_lit y v) a = refl
      call_found s (rune_lit y v) a = refl
      call_found s (str_lit y v) a = refl
      call_found s (composite y t es) a = refl
      call_found s (index y b j) a = refl
      call_found s (slice y b j v) a = refl
      call_found s (call y g xs r) a = refl
      call_found s (func_lit y g v b) a = refl
      call_found s (type_operand y t) a = refl
      call_found s (unary y o e) a = refl
      call_found s (binary y o b c) a = refl
      call_found s (star y e) a = refl

    -- ---- parts

    expr_led : (p : Place S) (u : Use) (e : Expr S) → AgreesAt ps w f.table p (to (expr_span e)).start → led (seen p u e) ≡ functions_used ps marks (call_part to f (an_expr e))
    expr_led p u (call s g xs r) a = call_found p u (an_expr (call s g xs r)) (to s) g a
    expr_led p u (ident s n) a = other_found w i p u (an_expr (ident s n)) (name_mark ps w p n)
    expr_led p u (selector s (ident z q) n) a = other_found w i p u (an_expr (selector s (ident z q) n)) (qualified_mark ps w p q n.name)
    expr_led p u (selector s (int_lit y v) n) a = refl
    expr_led p u (selector s (rune_lit y v) n) a = refl
    expr_led p u (selector s (str_lit y v) n) a = refl
    expr_led p u (selector s (composite y t es) n) a = refl
    expr_led p u (selector s (selector y b v) n) a = refl
    expr_led p u (selector s (index y b j) n) a = refl
    expr_led p u (selector s (slice y b j v) n) a = refl
    expr_led p u (selector s (call y g xs r) n) a = refl
    expr_led p u (selector s (func_lit y g v b) n) a = refl
    expr_led p u (selector s (type_operand y t) n) a = refl
    expr_led p u (selector s (unary y o e) n) a = refl
    expr_led p u (selector s (binary y o b c) n) a = refl
    expr_led p u (selector s (star y e) n) a = refl
    expr_led p u (int_lit s v) a = refl
    expr_led p u (rune_lit s v) a = refl
    expr_led p u (str_lit s v) a = refl
    expr_led p u (composite s t es) a = refl
    expr_led p u (index s b j) a = refl
    expr_led p u (slice s b j v) a = refl
    expr_led p u (func_lit s g z b) a = refl
    expr_led p u (type_operand s t) a = refl
    expr_led p u (unary s o e) a = refl
    expr_led p u (binary s o b c) a = refl
    expr_led p u (star s e) a = refl

    no_call : (e : Expr S) → may_be_use e ≡ false → call_part to f (an_expr e) ≡ []
    no_call (call s g xs r) h = absurd cc
    no_call (ident s n) h = refl
    no_call (selector s b n) h = refl
    no_call (int_lit s v) h = refl
    no_call (rune_lit s v) h = refl
    no_call (str_lit s v) h = refl
    no_call (composite s t es) h = refl
    no_call (index s b j) h = refl
    no_call (slice s b j v) h = refl
    no_call (func_lit s g z b) h = refl
    no_call (type_operand s t) h = refl
    no_call (unary s o e) h = refl
    no_call (binary s o b c) h = refl
    no_call (star s e) h = refl

    type_led : (p : Place S) (t : TypeExpr S) → function_marks ps marks (site_by ps marks w i p other (a_type_part t) (type_mark ps marks w p t)) ≡ []
    type_led p (named s None n) = other_found w i p other (a_type_part (named s None n)) (name_mark ps w p n.name)
    type_led p (named s (Some q) n) = other_found w i p other (a_type_part (named s (Some q) n)) (qualified_mark ps w p q.name n.name)
    type_led p (pointer s t) = refl
    type_led p (slice_type s t) = refl
    type_led p (map_type s x t) = refl
    type_led p (struct_type s fs) = refl

    types_led : (p : Place S) (ts : List (TypeExpr S)) → function_marks ps marks (type_sites ps marks w i p ts) ≡ []
    types_led p [] = refl
    types_led p (t ∷ ts) =
        function_append (site_by ps marks w i p other (a_type_part t) (type_mark ps marks w p t)) (type_sites ps marks w i p ts)
        ∙ (λ v. type_led p t v ++ types_led p ts v)

    -- ---- all parts

    calls_append : (xs ys : List (Candidate S)) → call_uses to f (xs ++ ys) ≡ call_uses to f xs ++ call_uses to f ys
    calls_append [] ys = refl
    calls_append (x ∷ xs) ys = ap (λ (us : List Used). call_part to f x.part ++ us) (calls_append xs ys) ∙ sym (append_assoc (call_part to f x.part) (call_uses to f xs) (call_uses to f ys))

    more_called : (xs ys : List (Candidate S)) → called (xs ++ ys) ≡ called xs ++ called ys
    more_called xs ys = ap (functions_used ps marks) (calls_append xs ys) ∙ used_append (call_uses to f xs) (call_uses to f ys)

    one_called : (xs : List (Candidate S)) (c : Candidate S) → called (xs ++ c ∷ []) ≡ called xs ++ functions_used ps marks (call_part to f c.part)
    one_called xs c = more_called xs (c ∷ []) ∙ ap (λ (us : List Used). called xs ++ functions_used ps marks us) (append-nil (call_part to f c.part))

    types_called : (ts : List (TypeExpr S)) → call_uses to f (map (λ x. plain_part (a_type_part x)) ts) ≡ []
    types_called [] = refl
    types_called (t ∷ ts) = types_called ts

    abbrev all_led : List (Seen S) → List MarkRef
    all_led ys = function_marks ps marks (sites_among ps marks w i ys)

    in_front : (x : Seen S) (ys : List (Seen S)) (was now all : List MarkRef) → now ≡ was ++ led x → now ++ all_led ys ≡ all → was ++ all_led (x ∷ ys) ≡ all
    in_front x ys was now all e h =
        ap (λ (ms : List MarkRef). was ++ ms) (function_append (site_here ps marks w i x) (sites_among ps marks w i ys))
        ∙ sym (append_assoc was (led x) (all_led ys))
        ∙ ap (λ (ms : List MarkRef). ms ++ all_led ys) (sym e)
        ∙ h

    nothing : (x : Seen S) (was : List MarkRef) → led x ≡ [] → was ≡ was ++ led x
    nothing x was e = sym (ap (λ (ms : List MarkRef). was ++ ms) e ∙ append-nil was)

    pub calls_led : {xs zs : List (Candidate S)} {ys : List (Seen S)} → Follows xs ys zs → AtParts to (AgreesAt ps w f.table) ys → called xs ++ all_led ys ≡ called zs
    calls_led {xs = xs} at_the_end a = append-nil (called xs)
    calls_led {xs = xs} {zs = zs} (past_a_use {ys = ys} {p = p} {u = u} {e = e} h d) a =
        in_front (seen p u e) ys (called xs) (called (put (plain_part (an_expr e)) xs)) (called zs)
        (one_called xs (plain_part (an_expr e)) ∙ ap (λ (ms : List MarkRef). called xs ++ ms) (sym (expr_led p u e a.0))) (calls_led d a.1)
    calls_led {xs = xs} {zs = zs} (past_no_use {ys = ys} {p = p} {u = u} {e = e} h d) a =
        in_front (seen p u e) ys (called xs) (called xs) (called zs)
        (nothing (seen p u e) (called xs) (expr_led p u e a.0 ∙ ap (functions_used ps marks) (no_call e h))) (calls_led d a.1)
    calls_led {xs = xs} {zs = zs} (past_a_key {ys = ys} {p = p} {u = u} {s = s} {n = n} d) a =
        in_front (seen p u (ident s n)) ys (called xs) (called (put (key_part (ident s n)) xs)) (called zs)
        (one_called xs (key_part (ident s n)) ∙ ap (λ (ms : List MarkRef). called xs ++ ms) (sym (expr_led p u (ident s n) a.0))) (calls_led d a.1)
    calls_led {xs = xs} {zs = zs} (past_a_field {ys = ys} u s n e d) a =
        ap (λ (ms : List MarkRef). ms ++ all_led ys) (sym (one_called xs (key_part (ident s n)) ∙ append-nil (called xs))) ∙ calls_led d a
    calls_led {xs = xs} {zs = zs} (past_an_old_name {ys = ys} {p = p} {n = n} h d) a =
        in_front (seen p stored (ident n.span n.name)) ys (called xs) (called xs) (called zs)
        (nothing (seen p stored (ident n.span n.name)) (called xs) (expr_led p stored (ident n.span n.name) a.0)) (calls_led d a.1)
    calls_led {xs = xs} {zs = zs} (past_a_type {ys = ys} {p = p} {t = t} d) a =
        in_front (seen_type p t) ys (called xs) (called (xs ++ map (λ x. plain_part (a_type_part x)) (named_in t))) (called zs)
        (more_called xs (map (λ x. plain_part (a_type_part x)) (named_in t))
        ∙ ap (λ (us : List Used). called xs ++ functions_used ps marks us) (types_called (named_in t))
        ∙ ap (λ (ms : List MarkRef). called xs ++ ms) (sym (types_led p (named_in t)))) (calls_led d a.1)
    calls_led {xs = xs} {zs = zs} (past_a_statement {ys = ys} {p = p} {s = s} d) a =
        in_front (seen_stmt p s) ys (called xs) (called xs) (called zs) (nothing (seen_stmt p s) (called xs) refl) (calls_led d a.1)

-- ---- the law

pub calls_lead : (S : Type 0) (to : S → Span) (stands : File S → File Span) → PartsAreAmongAll S → PlacesMeanAsTablesSay S to stands → CallsLeadToFunctions S to stands
calls_lead S to stands follow mean ps marks m w f d free there nth k scoped keyed =
    ap (λ (o : Option (Where S)). elim o [ None ↦ [] | Some w ↦ function_marks ps marks (sites_among ps marks w m.decl (parts_of ps w m.decl)) ]) there
    ∙ ap (λ (o : Option (Decl S)). function_marks ps marks (sites_among ps marks w m.decl (elim o [ None ↦ [] | Some x ↦ decl_seen ps w.number w.of w.source.tree x ]))) nth
    ∙ calls_led ps marks to w f m.decl free (own_meant ps w f k.home_is k.home_there k.imports_are)
    (λ p at a q. before_dot ps w f k.home_is k.home_there k.imports_are p q (meaning_in f.table q at) (a.outer q))
    (follow ps w.number w.of w.source.tree d keyed) (mean ps w k.text k.names f.table m.decl d k.reads k.told k.table nth scoped)
