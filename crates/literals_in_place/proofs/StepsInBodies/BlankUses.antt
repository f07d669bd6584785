-- A call and its literal use `_` alike: neither what is called nor the literal does, since both are typed and declare no constants.
use Rattle.std.proofs.Common.{◌≡◌, refl, sym, ap, ◌∙◌, subst, ℕ, Bool, true, false, ◌||◌, List, [], ◌∷◌, ◌++◌, Option, Some, None, arith}
use Rattle.go_tree.specs.declared.exprs.Rest.TheVariants.{Plain}
use Rattle.go_tree.specs.ScopeNames.FreeNames.{names_of, sig_names}
use Rattle.go_tree.specs.ScopeNames.Means.{Environment, is_blank}
use Rattle.go_tree.specs.ScopeNames.Scopes.{not_blank, param_names, sig_declares}
use Rattle.go_tree.specs.Tree.{Expr, call, const_decl}
use Rattle.go_tree.specs.GoTypes.Answers.{given, meets, otherwise, is_among}
use Rattle.go_tree.specs.GoTypes.Bodies.{Ctx, body_binds, body_ctx, is_body}
use Rattle.go_tree.specs.GoTypes.Collect.{env_of}
use Rattle.go_tree.specs.GoTypes.Declarations.{binds_or}
use Rattle.go_tree.specs.GoTypes.Entities.{Entity, Env, meaning, extend, in_block}
use Rattle.go_tree.specs.GoTypes.Operands.{a_function}
use Rattle.go_tree.specs.GoTypes.Programs.{Headed, file_env}
use Rattle.go_tree.specs.GoTypes.TypeNames.{func_type}
use Rattle.go_tree.specs.GoTypes.Typing.{used, used_all, stmts}
use Rattle.go_tree.specs.GoTypes.WellTyped.{body_env, receiver_of}
use Rattle.go_tree.proofs.GoTypes.TypingBare.{used-bare}
use Rattle.pkg_graph.specs.Package.{Package}
use Rattle.form_meaning.specs.FormInPlace.Bound.{literal_binds}
use Rattle.form_meaning.proofs.FormInPlace.Uses.{among_append}
use Rattle.go_translation.specs.Here.{Here}
use Rattle.go_translation.specs.Packages as translated
use Rattle.run_rules.specs.Calls.{start}
use Rattle.run_rules.specs.FormTrees.{as_expr}
use Rattle.run_rules.specs.Places.{stmts_seen}
use Rattle.run_rules.specs.Programs.{world, top_env, headed_func, with_receiver}
use Rattle.run_rules.specs.Sites.{MarkRef, Site}
use Rattle.run_rules.specs.Surroundings.{Place, Seen, seen, seen_type, seen_stmt}
use Rattle.constant_steps.specs.WrittenLiteral.Listing.{Listing}
use Rattle.constant_steps.proofs.WrittenLiteral.FilesMeant.{file_meant}
use Rattle.constant_steps.proofs.WrittenLiteral.ListedHeads.{listing}
use Rattle.literal_steps.specs.AddedImports.Beside.{CalledBeside}
use Rattle.literal_steps.specs.CalledAt.{Linked, PackagesServe}
use Rattle.literal_steps.specs.LiteralUse.{LiteralUse, call_of, names_of_form, NamesCallee, plainly, by_import, PlainCall}
use Rattle.literal_steps.specs.ServedParts.{AllServed}
use Rattle.literal_steps.specs.TypedParts.{LocalValues, AllStand, AllWithoutConstants}
use Rattle.literal_steps.proofs.AddedImports.FilesBeside.{file_beside}
use Rattle.literal_steps.proofs.CallMeant.{first, meant, callee_operand, filled_operand, form_is}
use Rattle.literal_steps.proofs.LocalValues.{extended, head_values}
use Rattle.literal_steps.proofs.TypedWalk.{stmts_stand}
use Rattle.literal_cycles.proofs.LiteralLed.{append_none, names_turned}
use Rattle.literals_in_place.specs.StepsInBodies.Functions.{BlankAlike}
use Rattle.literals_in_place.specs.StepsInBodies.NoConstants.{NoneInExpr, NoneInStmts}
use Rattle.literals_in_place.proofs.Mentions.{literal, literal_body}
use Rattle.literals_in_place.proofs.StepsInBodies.NoBlank.{expr_absent}
use Rattle.literals_in_place.proofs.StepsInBodies.NoneWritten.{stmts_none}

module _ {S : Type 0} (same : S → S → Bool) (commented : ℕ → ℕ → S → Bool) (rs : List (Package S)) (marks : List MarkRef) (x : Site S) (u : LiteralUse same commented rs marks x) (v : PlainCall same commented rs marks x u) (ms : List (translated.Package S)) (l : Linked rs ms x same commented marks u) where
  -- ---- the function's body is typed

  abbrev K : ℕ
  K = u.home.number

  abbrev top : Env
  top = top_env rs u.home.number u.home.of u.home.source.tree

  abbrev header : Headed S
  header = (first same commented rs marks x u v ms l).header

  env_is : env_of (world rs) header None ≡ top
  env_is = λ i. file_env (world rs) ((first same commented rs marks x u v ms l).home_is i) ((first same commented rs marks x u v ms l).imports_are i) None

  typed_top : func_type top u.callee.sig ≡ Some (meant same commented rs marks x u v ms l).type
  typed_top = sym (ap (λ (a : Env). func_type a u.callee.sig) env_is) ∙ (meant same commented rs marks x u v ms l).typed

  abbrev begins : Env
  begins = extend (literal_binds top u.callee.sig) (in_block top)

  literal_start : begins ≡ extend (meant same commented rs marks x u v ms l).binds top
  literal_start = ap (λ o. extend (binds_or (sig_names u.callee.sig) (given o (body_binds [] u.callee.sig))) top) typed_top ∙ ap (λ o. extend (binds_or (sig_names u.callee.sig) o) top) (meant same commented rs marks x u v ms l).bound

  body_start : (hd : Headed S) → env_of (world rs) hd None ≡ top → body_env (world rs) hd u.callee ≡ begins
  body_start hd e =
      (λ i. extend (otherwise (given (func_type (in_block (e i)) u.callee.sig) (body_binds (receiver_of (world rs) hd u.callee.receiver) u.callee.sig)) []) (in_block (e i)))
      ∙ ap (λ r. extend (otherwise (given (func_type top u.callee.sig) (body_binds (receiver_of (world rs) hd r) u.callee.sig)) []) top) v.free
      ∙ ap (λ o. extend (otherwise (given o (body_binds [] u.callee.sig)) []) top) typed_top ∙ ap (λ o. extend (otherwise o []) top) (meant same commented rs marks x u v ms l).bound ∙ sym literal_start

  abbrev start_place : Place S
  start_place = start same rs (call_of same commented rs marks x u)

  start_env : start_place.env ≡ begins
  start_env = body_start (headed_func rs u.home.number u.home.of u.home.source.tree u.callee) refl

  abbrev ctx : Ctx
  ctx = body_ctx u.callee.sig (meant same commented rs marks x u v ms l).type

  record BodyTyped : Type 0 where
    ends : Bool
    typed : stmts ctx start_place.env false u.callee.body ≡ Some ends

  body_typed : BodyTyped
  body_typed =
      let m = meant same commented rs marks x u v ms l in
      let b : is_body m.type u.callee.body (stmts ctx (body_env (world rs) header u.callee) false u.callee.body) ≡ true =
      sym (ap (λ o. meets o (λ g. is_body g u.callee.body (stmts (body_ctx u.callee.sig g) (body_env (world rs) header u.callee) false u.callee.body))) m.typed) ∙ m.body in
      let r = found (stmts ctx (body_env (world rs) header u.callee) false u.callee.body) b in
      record { ends = r.0; typed = ap (λ (a : Env). stmts ctx a false u.callee.body) (start_env ∙ sym (body_start header env_is)) ∙ r.1 }
    where
      found : (o : Option Bool) → is_body (meant same commented rs marks x u v ms l).type u.callee.body o ≡ true → (e : Bool) × (o ≡ Some e)
      found None e = absurd (grind (arith, e))
      found (Some e) k = (e, refl)

  bound_alike : (n : List ℕ) → is_among n (names_of start_place.bound) ≡ is_among n (names_of (sig_declares u.callee.sig))
  bound_alike n = ap (λ r. is_among n (names_of (not_blank (param_names u.callee.sig.results ++ param_names (with_receiver rs r u.callee.sig.params))))) v.free ∙ names_turned n (param_names u.callee.sig.results) (param_names u.callee.sig.params)

  lists : Listing S
  lists = listing

  start_values : LocalValues K start_place.env start_place.bound
  start_values =
      let here : LocalValues {S = S} K top [] = record { each = λ n e. absurd (grind (arith, e)); block = λ n e. absurd (grind (arith, e)); home_is = refl } in
      let within : LocalValues K begins (sig_declares u.callee.sig ++ []) = extended (sig_declares u.callee.sig) (literal_binds top u.callee.sig) (lists.after_heads top u.callee.sig) (head_values top u.callee.sig) here in
      let values : LocalValues K begins (sig_declares u.callee.sig) = subst (LocalValues K begins) (append_none (sig_declares u.callee.sig)) within in
      subst (λ (a : Env). LocalValues K a start_place.bound) (sym start_env) (record { each = λ n e. values.each n (sym (bound_alike n) ∙ e); block = λ n e. bound_alike n ∙ values.block n e; home_is = values.home_is })

  -- ---- at the place of the call

  module _ (more : Environment Entity) (d : Here) (h : CalledBeside rs ms x more d) (y : PackagesServe rs ms x same commented marks u d) where
    plain_parts : (xs : List (Seen S)) → AllServed rs u.home (names_of_form same commented rs marks x u) d.env.names (names_of x.place.bound) xs → AllWithoutConstants xs
    plain_parts [] k = tt
    plain_parts (seen p w e ∷ xs) k = (tt, plain_parts xs k.1)
    plain_parts (seen_type p t ∷ xs) k = (tt, plain_parts xs k.1)
    plain_parts (seen_stmt p (const_decl s g ss) ∷ xs) k = absurd k.0
    plain_parts (seen_stmt p s ∷ xs) k = (tt, plain_parts xs k.1)

    without : AllWithoutConstants (stmts_seen start_place u.callee.body)
    without = plain_parts (stmts_seen start_place u.callee.body) y.body

    abbrev beyond : Environment Entity
    beyond = (top_env rs x.at.number x.at.of x.at.source.tree).names ++ more

    none_there : NoneInStmts (literal_body same commented rs marks x u v more d)
    none_there =
        (stmts_none rs u.home x.at (record x.place { env = d.env }) (names_of_form same commented rs marks x u) (call_of same commented rs marks x u).new (world rs) top.names beyond K start_place u.callee.body).run without
        (stmts_stand K start_place ctx false u.callee.body body_typed.ends start_values body_typed.typed without)

    nothing_meant : (n : List ℕ) → is_blank n ≡ true → meaning d.env n ≡ None
    nothing_meant n b = h.outer n (h.blank n b) ∙ (file_beside rs x.at more h.besides (world rs) (top_env rs x.at.number x.at.of x.at.source.tree).names (file_meant rs x.at l.there_stands)).blank n b

    none_called : (e : Expr S) → NamesCallee same commented rs marks x u v.name e → NoneInExpr e
    none_called _ (plainly same_package) = tt
    none_called _ (by_import f is_public) = tt

    abbrev its_literal : Expr S
    its_literal = literal same commented rs marks x u v more d

    called_absent : (n : List ℕ) → is_blank n ≡ true → is_among n (used d.env v.called) ≡ false
    called_absent n b = (expr_absent n b d.env (nothing_meant n b) v.called (none_called v.called v.named) (a_function (meant same commented rs marks x u v ms l).type) (callee_operand same commented rs marks x u v ms l more d h y)).none

    literal_absent : (n : List ℕ) → is_blank n ≡ true → is_among n (used d.env its_literal) ≡ false
    literal_absent n b = (expr_absent n b d.env (nothing_meant n b) its_literal none_there (a_function (meant same commented rs marks x u v ms l).type) (filled_operand same commented rs marks x u v ms l more d h y)).none

    pub blank_alike : (e : Expr S) → u.form ≡ as_expr e → BlankAlike d.env u.tree e
    blank_alike e q n b =
        ap (λ (t : Expr S). is_among n (used d.env t)) v.tree_is
        ∙ among_append n (used d.env v.called) (used_all d.env v.args)
        ∙ ap (λ (c : Bool). c || is_among n (used_all d.env v.args)) (called_absent n b ∙ sym (literal_absent n b))
        ∙ sym (among_append n (used d.env its_literal) (used_all d.env v.args))
        ∙ ap (is_among n) (sym (used-bare d.env (call v.span its_literal v.args Plain)) ∙ ap (used d.env) (sym (form_is same commented rs marks x u v ms l more d h y e q)) ∙ used-bare d.env e)
