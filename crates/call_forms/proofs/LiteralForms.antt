-- The literal of a call none of whose parameters is replaced, where it stands in the text.
use Rattle.std.specs.Prelude.{◌≡◌, refl, ℕ, suc, Bool, true, false, ◌||◌, List, [], ◌∷◌, ◌++◌, map, length, Option}
use Rattle.std.specs.Prelude.{Some, None, if◌then◌else◌, nat_eq, bytes_eq, is_some}
use Rattle.std.specs.Option.{option_map}
use Rattle.std.proofs.Common.{sym, ap, ◌∙◌, arith}
use Rattle.std.proofs.lemmas.Slice.Eq.{bytes_eq-Decides}
use Rattle.go_tree.specs.declared.exprs.Rest.TheVariants.{Plain}
use Rattle.go_tree.specs.declared.spans.Span.{Span}
use Rattle.go_tree.specs.Tree.{NameAt, Param, Expr, ident, selector, call, func_lit, Exprs, no_exprs, expr_and}
use Rattle.go_tree.specs.File.{Func}
use Rattle.go_tree.specs.ScopeNames.FreeNames.{names_of}
use Rattle.go_tree.specs.ScopeNames.Means.{means, binding}
use Rattle.go_tree.specs.GoTypes.Answers.{given, is_among}
use Rattle.go_tree.specs.GoTypes.Types.{GoType}
use Rattle.go_tree.proofs.GoTypes.Agreeing.{from_given}
use Rattle.param_choice.specs.Chosen.{has}
use Rattle.pkg_graph.specs.Package.{Package}
use Rattle.run_rules.specs.BodyItems.{number_of}
use Rattle.run_rules.specs.Surroundings.{Use, Place, local_at, declared_at, is_local}
use Rattle.run_rules.specs.Places.{params_seen}
use Rattle.run_rules.specs.Programs.{numbered_from, param_types, with_receiver}
use Rattle.run_rules.specs.Rewriting.{new_params, new_stmts}
use Rattle.run_rules.specs.Sites.{outer, mark_of}
use Rattle.run_rules.specs.Naming.{Names}
use Rattle.run_rules.specs.Conversions.{chosen_entity}
use Rattle.run_rules.specs.Calls.{Given, Call, blank, list_of, exprs_of, givens, start, start_with, chosen_binds}
use Rattle.run_rules.specs.Calls.{bound_from, bound_params, given_params, param_name, all_params, declared_place}
use Rattle.run_rules.specs.Calls.{receiver_in, arguments, args, arg_typed, spread_call}
use Rattle.run_rules.specs.FormTrees.{a_name, outside_name, outside_expr, outside_changes, top}
use Rattle.run_rules.specs.Forms.{body_changes, body_expr, param_number, chosen_arg, nth_given, written_arg}
use Rattle.run_rules.specs.Forms.{literal_param, literal_params, literal_args, new_body}
use Rattle.run_rules.specs.Respanned.{name_with, param_with, expr_with, exprs_with, stmts_with, func_with}
use Rattle.call_forms.specs.declared.qualifiers.There.{There}
use Rattle.call_forms.specs.Written.{told, written_param, written_stmts}
use Rattle.call_forms.specs.Literal as literal
use Rattle.call_forms.specs.ToldNames.{AllTold}
use Rattle.call_forms.specs.Calls.{IsToldCall, IsLiteralOf}
use Rattle.call_forms.proofs.Lists.{map_then}
use Rattle.call_forms.proofs.ToldWalk.{front, back, types-told, params-told, stmts-told}

-- ---- lists

exprs_back : {S : Type 0} (xs : Exprs S) → exprs_of (list_of xs) ≡ xs
exprs_back no_exprs = refl
exprs_back (expr_and e es) = ap (λ l. expr_and e l) (exprs_back es)

params_back : {S : Type 0} (xs : List (Param S)) (ts : List GoType) (es : List (Expr S)) → length ts ≡ length xs →
    length es ≡ length xs → map (λ g. g.param) (givens xs ts es) ≡ xs
params_back [] ts es h k = refl
params_back (x ∷ xs) [] es h k = absurd (omega (arith, h))
params_back (x ∷ xs) (t ∷ ts) [] h k = absurd (omega (arith, k))
params_back (x ∷ xs) (t ∷ ts) (e ∷ es) h k = ap (λ l. x ∷ l) (params_back xs ts es (omega (arith, h)) (omega (
  arith,
  k,
)))

args_back : {S : Type 0} (xs : List (Param S)) (ts : List GoType) (es : List (Expr S)) → length ts ≡ length xs → length
    es ≡ length xs → map (λ g. g.arg) (givens xs ts es) ≡ es
args_back [] ts [] h k = refl
args_back [] ts (e ∷ es) h k = absurd (omega (arith, k))
args_back (x ∷ xs) [] es h k = absurd (omega (arith, h))
args_back (x ∷ xs) (t ∷ ts) [] h k = absurd (omega (arith, k))
args_back (x ∷ xs) (t ∷ ts) (e ∷ es) h k = ap (λ l. e ∷ l) (args_back xs ts es (omega (arith, h)) (omega (arith, k)))

-- ---- names

found_among : {S : Type 0} (bs : List (NameAt S)) (n : List ℕ) → is_some (declared_at bs n) ≡ true → is_among n
    (names_of bs) ≡ true
found_among [] n e = absurd (grind (arith, e))
found_among (b ∷ bs) n e = go (bytes_eq b.name n) refl e (found_among bs n)
  where
    or_true : (x : Bool) → (x || true) ≡ true
    or_true true = refl
    or_true false = refl

    go : (t : Bool) → bytes_eq b.name n ≡ t → is_some (if t then Some b.span else declared_at bs n) ≡ true → (is_some
        (declared_at bs n) ≡ true → is_among n (names_of bs) ≡ true) → (bytes_eq n b.name || is_among n (names_of bs)) ≡
        true
    go true q e f = ap (λ z. z || is_among n (names_of bs)) ((bytes_eq-Decides n b.name).1 (sym ((bytes_eq-Decides
        b.name n).0 q)))
    go false q e f = ap (λ z. bytes_eq n b.name || z) (f e) ∙ or_true (bytes_eq n b.name)

-- ---- what stays bound, and what is put in the body

module _ {S : Type 0} (same : S → S → Bool) (ps : List (Package S)) (c : Call S) (names : Names) (kept : List Bool)
    (nothing : (i : ℕ) → has kept i ≡ false) where
  no_binds : (i : ℕ) (gs : List (Given S)) → chosen_binds same ps c kept (numbered_from i gs) ≡ []
  no_binds i [] = refl
  no_binds i (g ∷ gs) =
      ap (λ b. (if b then binding (param_name g.param) (chosen_entity g.type (arg_typed same ps c g.arg)) else []) ++
      chosen_binds same ps c kept (numbered_from (suc i) gs)) (nothing i)
      ∙ no_binds (suc i) gs

  start_is : start_with same ps c kept ≡ start same ps c
  start_is = ap (λ bs. record (start same ps c) {
    env = record (start same ps c).env {
      names = bs ++ (start same ps
          c).env.names;
    };
  }) (no_binds 0 (given_params same ps c))

  all_bound : (i : ℕ) (gs : List (Given S)) → bound_from same ps c kept (numbered_from i gs) ≡ gs
  all_bound i [] = refl
  all_bound i (g ∷ gs) = ap (λ b. if b then bound_from same ps c kept (numbered_from (suc i) gs) else g ∷ bound_from
      same ps c kept (numbered_from (suc i) gs)) (nothing i) ∙ ap (λ l. g ∷ l) (all_bound (suc i) gs)

  bound_is : bound_params same ps c kept ≡ given_params same ps c
  bound_is = all_bound 0 (given_params same ps c)

  -- a name that is declared in the function is written as it stands
  local_none : (p : Place S) (n : List ℕ) → is_local p n ≡ true → outside_name ps c.home c.at_package names c.new p n ≡
      None
  local_none p n e =
      ap (λ b. given (if nat_eq c.home.number c.at_package then None else given (if b then None else means (outer ps
      c.home) n) (λ t. given (mark_of t) (λ m. Some (names c.home.number)))) (λ q. Some (selector c.new (ident c.new
      q) (a_name c.new n)))) e
      ∙ either (nat_eq c.home.number c.at_package)
    where
      either : (b : Bool) → given (if b then None else None) (λ q. Some (selector c.new (ident c.new q) (a_name c.new
          n))) ≡ None
      either true = refl
      either false = refl

  not_chosen : (u : Use) (i : ℕ) → chosen_arg same ps c names kept u i ≡ None
  not_chosen u i =
      ap (λ b. if b then given (nth_given same ps c names kept i (given_params same ps c)) (λ g. Some (written_arg same
      ps c names kept u g)) else None) (nothing i)

  name_same : (p : Place S) (u : Use) (n : List ℕ) (o : Option ℕ) → param_number same ps c names kept p n ≡ o → elim o [
    | Some i ↦ chosen_arg same ps c names kept u i
    | None ↦ outside_name ps c.home c.at_package names c.new p n
  ] ≡
      outside_name ps c.home c.at_package names c.new p n
  name_same p u n None e = refl
  name_same p u n (Some i) e =
      let r = from_given (local_at p n) (number_of same 0 (map declared_place (all_params same ps c))) i e in
      not_chosen u i ∙ sym (local_none p n (found_among p.bound n (ap is_some r.1)))

  expr_same : (p : Place S) (u : Use) (x : Expr S) → body_expr same ps c names kept p u x ≡ outside_expr ps c.home
      c.at_package names c.new p u x
  expr_same p u (ident s n) = name_same p u n (param_number same ps c names kept p n) refl
  expr_same p u (selector s (ident z q) n) = refl
  expr_same p u x = refl

  -- no parameter is replaced, so names from outside alone are written otherwise
  changes_same : body_changes same ps c names kept ≡ outside_changes ps c.home c.at_package names c.new
  changes_same = λ w. record (outside_changes ps c.home c.at_package names c.new) { expr = λ p u x. expr_same p u x w }

-- ---- a call that the code is told of

module _ {S : Type 0} (to : S → Span) (same : S → S → Bool) (ps : List (Package S)) (c : Call S) (names : Names) (kept :
    List Bool) (t : There) (f : Func Span) (handed : Exprs Span) (k : IsToldCall to same ps c names kept t f handed)
  where
    params_are : all_params same ps c ≡ c.callee.sig.params
    params_are = ap (λ r. with_receiver ps r c.callee.sig.params) k.free

    no_receiver_in : (f : Expr S) → receiver_in c.new false c.at.env f ≡ []
    no_receiver_in (selector s b n) = refl
    no_receiver_in f = refl

    args_alone : args same ps c ≡ list_of k.given
    args_alone = (λ i. arguments c.new (is_some (k.free i)) c.at.env (k.tree_is i)) ∙ ap (λ l. l ++ list_of k.given)
        (no_receiver_in k.called)

    abbrev given_if : Bool → List (Given S)
    given_if b = if b then [] else givens (all_params same ps c) (param_types ps c.home.number c.home.of
        c.home.source.tree c.callee) (args same ps c)

    given_is : spread_call same ps c ≡ false → given_params same ps c ≡ givens c.callee.sig.params (param_types ps
        c.home.number c.home.of c.home.source.tree c.callee) (list_of k.given)
    given_is s = ap given_if s ∙ (λ i. givens (params_are i) (param_types ps c.home.number c.home.of c.home.source.tree
        c.callee) (args_alone i))

    abbrev params_if : Bool → List (Param S)
    params_if b = if b then map (literal_param same ps c names kept) (all_params same ps c) else map (λ g. literal_param
        same ps c names kept g.param) (bound_params same ps c kept)

    literal_params_are : literal_params same ps c names kept ≡ map (literal_param same ps c names kept)
        c.callee.sig.params
    literal_params_are = go (spread_call same ps c) refl
      where
        go : (b : Bool) → spread_call same ps c ≡ b → literal_params same ps c names kept ≡ map (literal_param same ps c
            names kept) c.callee.sig.params
        go true s = ap params_if s ∙ ap (map (literal_param same ps c names kept)) params_are
        go false s =
            ap params_if s ∙ ap (map (λ g. literal_param same ps c names kept g.param)) (bound_is same ps c names kept
            k.nothing_chosen ∙ given_is s)
            ∙ map_then (λ g. g.param) (literal_param same ps c names kept) (givens c.callee.sig.params (param_types ps
            c.home.number c.home.of c.home.source.tree c.callee) (list_of k.given))
            ∙ ap (map (literal_param same ps c names kept)) (params_back c.callee.sig.params (param_types ps
            c.home.number
            c.home.of c.home.source.tree c.callee) (list_of k.given) k.typed (k.counted s))

    abbrev args_if : Bool → List (Expr S)
    args_if b = if b then args same ps c else map (λ g. g.arg) (bound_params same ps c kept)

    literal_args_are : literal_args same ps c names kept ≡ list_of k.given
    literal_args_are = go (spread_call same ps c) refl
      where
        go : (b : Bool) → spread_call same ps c ≡ b → literal_args same ps c names kept ≡ list_of k.given
        go true s = ap args_if s ∙ args_alone
        go false s =
            ap args_if s ∙ ap (map (λ g. g.arg)) (bound_is same ps c names kept k.nothing_chosen ∙ given_is s)
            ∙ args_back c.callee.sig.params (param_types ps c.home.number c.home.of c.home.source.tree c.callee)
            (list_of
            k.given) k.typed (k.counted s)

    args_stand : exprs_with to (exprs_of (literal_args same ps c names kept)) ≡ handed
    args_stand = ap (λ l. exprs_with to (exprs_of l)) literal_args_are ∙ ap (exprs_with to) (exprs_back k.given) ∙ sym
        k.args_are

    -- ---- the signature

    abbrev named_or_blank : {T : Type 0} → Option (NameAt T) → List ℕ
    named_or_blank n = elim n [ None ↦ blank | Some n ↦ n.name ]

    same_name : (n : Option (NameAt S)) → named_or_blank n ≡ named_or_blank (option_map (name_with to) n)
    same_name None = refl
    same_name (Some n) = refl

    name_stands : (p : Param S) → name_with to (a_name c.new (param_name p)) ≡ literal.literal_name t (param_with to p)
    name_stands p = λ w. record { span = k.stands w; name = same_name p.name w }

    each_param_stands : (xs : List (Param S)) → AllTold to (told t) ps c.home c.at_package names (params_seen (top ps c)
        xs) → map (param_with to) (map (literal_param same ps c names kept) xs) ≡ map (literal.literal_param t) (map
        (param_with to) xs)
    each_param_stands [] h = refl
    each_param_stands (x ∷ xs) h = λ w.
        record {
          span = k.stands w;
          name = Some (name_stands x w);
          rest = x.rest;
          of = types-told to ps c.home
              c.at_package names c.new t k.stands (top ps c) x.of h.0 w;
        }
        ∷ each_param_stands xs h.1 w

    params_stand : map (param_with to) (literal_params same ps c names kept) ≡ map (literal.literal_param t) (map
        (param_with to) c.callee.sig.params)
    params_stand =
        ap (map (param_with to)) literal_params_are
        ∙ each_param_stands c.callee.sig.params (front to ps c.home c.at_package names c.new t k.stands (params_seen
        (top
        ps c) c.callee.sig.params) (params_seen (top ps c) c.callee.sig.results) k.sig_told)

    results_stand : map (param_with to) (new_params (body_changes same ps c names kept) (top ps c) c.callee.sig.results)
        ≡
        map (written_param t) (map (param_with to) c.callee.sig.results)
    results_stand =
        ap (λ x. map (param_with to) (new_params x (top ps c) c.callee.sig.results)) (changes_same same ps c names kept
        k.nothing_chosen)
        ∙ params-told to ps c.home c.at_package names c.new t k.stands (top ps c) c.callee.sig.results (back to ps
        c.home
        c.at_package names c.new t k.stands (params_seen (top ps c) c.callee.sig.params) (params_seen (top ps c)
        c.callee.sig.results) k.sig_told)

    -- ---- the body

    body_stands : stmts_with to (new_body same ps c names kept) ≡ written_stmts t (stmts_with to c.callee.body)
    body_stands =
        (λ w. stmts_with to (new_stmts (changes_same same ps c names kept k.nothing_chosen w) (start_is same ps c names
        kept k.nothing_chosen w) c.callee.body))
        ∙ stmts-told to ps c.home c.at_package names c.new t k.stands (start same ps c) c.callee.body k.body_told

    -- ---- the literal

    abbrev tree : Expr S
    tree =
        call c.new (func_lit c.new (record {
          params = literal_params same ps c names kept;
          results = new_params
              (body_changes same ps c names kept) (top ps c) c.callee.sig.results;
        }) c.new (new_body same ps c names kept))
        (exprs_of (literal_args same ps c names kept)) Plain

    tree_stands : expr_with to tree ≡ literal.literal_call t (func_with to c.callee) handed
    tree_stands = λ w. call (k.stands w) (func_lit (k.stands w) (record {
      params = params_stand w;
      results = results_stand
          w;
    }) (k.stands w) (body_stands w)) (args_stand w) Plain

    pub literal_stands : IsLiteralOf to same ps c names kept (literal.literal_call t f handed)
    literal_stands =
        record {
          tree = tree;
          is = refl;
          stands = tree_stands ∙ ap (λ g. literal.literal_call t g handed) (sym k.callee_is);
        }
