-- The same forms apply to a call at two places that differ in nothing but what names mean.
use Rattle.std.proofs.Common.{◌≡◌, refl, sym, ap, subst, ◌∙◌, ℕ, Bool, true, false, not, ◌&&◌, ◌||◌, List, [], ◌∷◌, Option, Some, None, if◌then◌else◌, nat_eq}
use Rattle.std.specs.Prelude.{nat_lt, is_some}
use Rattle.std.specs.List.{list_all}
use Rattle.go_tree.specs.Tree.{TypeExpr, Expr, ident, no_exprs, expr_and, Stmt, eval, assign, return_, label}
use Rattle.go_tree.specs.File.{Func}
use Rattle.go_tree.specs.ScopeNames.Identifiers.{params_identifiers, expr_identifiers, stmt_identifiers}
use Rattle.go_tree.specs.ScopeNames.Scopes.{expr_span}
use Rattle.go_tree.specs.ScopeNames.Means.{means}
use Rattle.go_tree.specs.declared.const_eval.consts.Const.{Const}
use Rattle.pkg_graph.specs.Package.{Package}
use Rattle.go_tree.specs.GoTypes.Agreement.{In, head, tail}
use Rattle.go_tree.specs.GoTypes.Answers.{given, meets, is_empty}
use Rattle.go_tree.specs.GoTypes.Bodies.{Ctx, has_names}
use Rattle.go_tree.specs.GoTypes.Entities.{World, Env, Entity, variable, stand_in, elsewhere, exact}
use Rattle.go_tree.specs.GoTypes.Operands.{Operand, several, Typed, typed}
use Rattle.go_tree.specs.GoTypes.Recorded.{recorded_stmt, hardens}
use Rattle.go_tree.specs.GoTypes.Types.{GoType}
use Rattle.go_tree.specs.GoTypes.Typing.{parts, stmt}
use Rattle.typed_in_place.specs.SameWorlds.SameWorlds.{SameWorld}
use Rattle.run_rules.specs.Rewriting.{Changes, new_stmt}
use Rattle.run_rules.specs.Calls.{Given, Call, is_recover, declared_place, blank, is_stored, uses}
use Rattle.run_rules.specs.Calls as calls
use Rattle.run_rules.specs.FormTrees.{FormKind, ConstForm, TypeForm, ExprForm, BlockForm, TailForm, LiteralForm, Form, as_expr, as_dropped, hole, is_statement, in_list, returned_types, all_identical, top}
use Rattle.run_rules.specs.Forms as forms
use Rattle.run_rules.specs.Forms.{is_at, expr_in_place, stmt_in_place, in_place}
use Rattle.run_rules.specs.Naming.{Names}
use Rattle.run_rules.specs.Programs.{world}
use Rattle.run_rules.specs.Sites.{Where, is_deferred}
use Rattle.run_rules.specs.Surroundings.{Use, deferred_call, Around, Place, Seen, seen, seen_stmt}
use Rattle.std.proofs.lemmas.Option.{same_Some}
use Rattle.go_tree.proofs.GoTypes.Agreeing.{under_same}
use Rattle.order_runs.proofs.CycleRuns.LedImports.Walk as kept_
use Rattle.argument_cycles.proofs.FoundThere.Chosen as chosen
use Rattle.argument_cycles.proofs.FoundThere.Envs as envs
use Rattle.argument_cycles.proofs.FoundThere.Envs.{Alike}
use Rattle.argument_cycles.proofs.FoundThere.PutNames.{Puts, stmt-kept}
use Rattle.argument_cycles.proofs.FoundThere.Read as read
use Rattle.argument_cycles.proofs.FoundThere.Recorded as told
use Rattle.argument_cycles.proofs.FoundThere.Rewritten as rewritten
use Rattle.argument_cycles.proofs.FoundThere.Forms as trees
use Rattle.argument_cycles.proofs.FoundThere.Walk.{Both, no_around, one_around, Arounds, Part, Parts}

module _ (left right : World) (same : SameWorld left right) (Q : List ℕ → Type 0) {S : Type 0} (eq : S → S → Bool) (zone z : S) where
  -- the name in the call's place
  abbrev pub H : Expr S
  H = ident z hole

  -- the form that it is, or that it is assigned in to `_`
  abbrev pub put : Bool → Form S
  put dropped = if dropped then as_dropped H else as_expr H

  abbrev pub C : Bool → Changes S
  C dropped = in_place eq zone (put dropped)

  expr-put-so : (t : Bool) (p q : Place S) (u : Use) (x : Expr S) → expr_in_place eq zone (put t) p u x ≡ expr_in_place eq zone (put t) q u x
  expr-put-so true p q u x = refl
  expr-put-so false p q u x = refl

  stmt-put-so : (t : Bool) (p q : Place S) (s : Stmt S) → stmt_in_place eq zone (put t) p s ≡ stmt_in_place eq zone (put t) q s
  stmt-put-so true p q (eval y x) = refl
  stmt-put-so true p q s = refl
  stmt-put-so false p q s = refl

  -- further knowledge of names is let go
  let-go : {ns : List (List ℕ)} {a b : Env} → Alike left right same Q ns a b → Alike left right same (λ n. Unit {0}) ns a b
  let-go h = record { world = h.world; is = h.is; agrees = h.agrees; on = h.on; so = λ n i. tt }

  module _ (a b : Env) (s : Stmt S) (p : Place S) (d : Entity) (h : Alike left right same Q (stmt_identifiers s) a b) where
    abbrev Means : List ℕ → Type 0
    Means n = means ((hole, d) ∷ a.names) n ≡ means ((hole, d) ∷ b.names) n

    of-hole : (n : List ℕ) → In n (hole ∷ []) → Means n
    of-hole _ head = refl
    of-hole n (tail i) = elim i [ ]

    -- what is assigned to `_` brings this name besides
    of-both : (n : List ℕ) → In n (blank ∷ hole ∷ []) → Means n
    of-both _ head = under_same blank ((hole, d) ∷ []) a.names b.names ((h.agrees).blank blank refl)
    of-both n (tail i) = of-hole n i

    expr-puts : (t : Bool) (q : Place S) (u : Use) (x y : Expr S) → expr_in_place eq zone (put t) q u x ≡ Some y → (n : List ℕ) → In n (expr_identifiers y) → Means n
    expr-puts true q u x y r n i = absurd cc
    expr-puts false q u x y r n i = by (is_at eq zone x) r
      where
        by : (t : Bool) → (if t then Some H else None) ≡ Some y → Means n
        by true r = of-hole n (subst (λ (k : Expr S). In n (expr_identifiers k)) (sym (same_Some H y r)) i)
        by false r = absurd cc

    stmt-puts : (t : Bool) (q : Place S) (s r : Stmt S) → stmt_in_place eq zone (put t) q s ≡ Some r → (n : List ℕ) → In n (stmt_identifiers r) → Means n
    stmt-puts true q (eval y x) r e n i = by (is_at eq zone x) e
      where
        by : (t : Bool) → (if t then Some (assign y (expr_and (ident y blank) no_exprs) None (expr_and H no_exprs)) else None) ≡ Some r → Means n
        by true e = of-both n (subst (λ (k : Stmt S). In n (stmt_identifiers k)) (sym (same_Some (assign y (expr_and (ident y blank) no_exprs) None (expr_and H no_exprs)) r e)) i)
        by false e = absurd cc
    stmt-puts true q s r e n i = absurd cc
    stmt-puts false q s r e n i = absurd cc

    puts : (t : Bool) → Puts Means (C t)
    puts t = record {
      expr = λ q u x y r. record { go = λ old n i. expr-puts t q u x y r n i };
      types = λ q t. kept_.same Means refl;
      stmt = λ q s r e. record { go = λ old n i. stmt-puts t q s r e n i };
    }

    abbrev T : Bool → Stmt S
    T t = new_stmt (C t) p true s

    -- with a meaning of the name, the names of what is written mean the same
    pub with-hole : (t : Bool) → Alike left right same (λ n. Unit {0}) (stmt_identifiers (T t)) (record a { names = (hole, d) ∷ a.names }) (record b { names = (hole, d) ∷ b.names })
    with-hole t =
        let g = envs.named left right same (λ n. Unit {0}) {bs = (hole, d) ∷ []} {cs = (hole, d) ∷ []} refl (let-go h) in
        record { world = g.world; is = g.is; agrees = g.agrees; on = λ n i. (stmt-kept Means (C t) (puts t) p true s).go (λ m j. under_same m ((hole, d) ∷ []) a.names b.names (h.on m j)) n i; so = λ n i. tt }

module _ {S : Type 0} (eq : S → S → Bool) (ps qs : List (Package S)) (same : SameWorld (world ps) (world qs)) (Q : List ℕ → Type 0) (home now : Where S) (f : Func S) (number : ℕ) (xs ys : List (Seen S)) (p q : Place S) (u : Use) (e : Expr S) (z : S)
    (w1 w2 : TypeExpr S → TypeExpr S) (nums : now.number ≡ home.number) where
  abbrev L : World
  L = world ps

  abbrev R : World
  R = world qs

  abbrev P : List ℕ → Type 0
  P = trees.P eq ps qs same Q home now f number xs ys p q u e z w1 w2 nums

  abbrev c : Call S
  c = trees.c eq ps qs same Q home now f number xs ys p q u e z w1 w2 nums

  abbrev k : Call S
  k = trees.k eq ps qs same Q home now f number xs ys p q u e z w1 w2 nums

  module _ (h : trees.Alike_ eq ps qs same Q home now f number xs ys p q u e z w1 w2 nums) (results : Both L R same P (params_identifiers f.sig.results) (top ps c) (top qs k)) (kept : List Bool) (names : Names) where
    abbrev AtBody : Expr S → Type 0
    AtBody x = Both L R same P (expr_identifiers x) (calls.start_with eq ps c kept) (calls.start_with eq qs k kept)

    abbrev body-seen : Parts L R same P (calls.body_seen eq ps c) (calls.body_seen eq qs k)
    body-seen = trees.body-seen eq ps qs same Q home now f number xs ys p q u e z w1 w2 nums h results kept names

    abbrev result-so : forms.result_type eq ps c names kept ≡ forms.result_type eq qs k names kept
    result-so = trees.result-so eq ps qs same Q home now f number xs ys p q u e z w1 w2 nums h results kept names

    abbrev bound-is : forms.bound eq ps c names kept ≡ forms.bound eq qs k names kept
    bound-is = trees.bound-is eq ps qs same Q home now f number xs ys p q u e z w1 w2 nums h results kept names

    abbrev spread-is : calls.spread_call eq ps c ≡ calls.spread_call eq qs k
    spread-is = trees.spread-is eq ps qs same Q home now f number xs ys p q u e z w1 w2 nums h results kept names

    -- ---- the value in its statement

    abbrev zone : S
    zone = expr_span e

    -- the statement with the name in the call's place
    abbrev written : Bool → Place S → Around S → Stmt S
    written d r a = new_stmt (C L R same Q eq zone z d) (record r { env = a.env; ctx = a.ctx; bound = a.bound }) true a.stmt

    -- it is assigned to `_` there
    abbrev dropped : Expr S → Bool
    dropped x = is_statement u && not (forms.is_statement_call eq ps c names kept x)

    abbrev dropped_there : Expr S → Bool
    dropped_there x = is_statement u && not (forms.is_statement_call eq qs k names kept x)

    dropped-so : (x : Expr S) → AtBody x → dropped x ≡ dropped_there x
    dropped-so x g = λ v. is_statement u && not (trees.call-so eq ps qs same Q home now f number xs ys p q u e z w1 w2 nums h results kept names x g v)

    -- with a constant in the call's place the statement isn't typed, or a shift in it is constant only then
    abbrev faulty : Ctx → Env → Stmt S → GoType → Const → Bool
    faulty j a s t y =
        not (is_some (stmt j (record a { names = (hole, stand_in elsewhere t (exact y)) ∷ a.names }) s))
        || hardens (recorded_stmt (record a { names = (hole, variable t) ∷ a.names }) s) (recorded_stmt (record a { names = (hole, stand_in elsewhere t (exact y)) ∷ a.names }) s)

    module _ (a b : Around S) (w : b ≡ record a { env = b.env }) (g : Alike L R same Q (stmt_identifiers a.stmt) a.env b.env) (d : Bool) where
      places : Both L R same Q (stmt_identifiers a.stmt) (record p { env = a.env; ctx = a.ctx; bound = a.bound }) (record q { env = b.env; ctx = a.ctx; bound = a.bound })
      places = record { env = g; is = λ v. record ((h.at).is v) { env = b.env; ctx = a.ctx; bound = a.bound }; around = (h.at).around }

      written-so : written d p a ≡ written d q b
      written-so =
          rewritten.stmt-so L R same Q (λ y. y) (expr_in_place eq zone (put L R same Q eq zone z d)) (expr_in_place eq zone (put L R same Q eq zone z d)) (λ r t. t) (λ r t. t)
          (stmt_in_place eq zone (put L R same Q eq zone z d)) (stmt_in_place eq zone (put L R same Q eq zone z d))
          (λ r s w x i. expr-put-so L R same Q eq zone z d r s w x) (λ r s t i. refl) (λ r s t. stmt-put-so L R same Q eq zone z d r s t) true a.stmt places
          ∙ sym (λ v. new_stmt (C L R same Q eq zone z d) (record q { env = b.env; ctx = (w v).ctx; bound = (w v).bound }) true (w v).stmt)

      with_ : (m : Entity) → Alike L R same (λ n. Unit {0}) (stmt_identifiers (written d p a)) (record a.env { names = (hole, m) ∷ a.env.names }) (record b.env { names = (hole, m) ∷ b.env.names })
      with_ m = with-hole L R same Q eq zone z a.env b.env a.stmt (record p { env = a.env; ctx = a.ctx; bound = a.bound }) m g d

      faulty-same : (t : GoType) (y : Const) → faulty a.ctx a.env (written d p a) t y ≡ faulty b.ctx b.env (written d q b) t y
      faulty-same t y =
          (λ v.
          not (is_some (envs.stmt_read L R same (λ n. Unit {0}) a.ctx (written d p a) (with_ (stand_in elsewhere t (exact y))) v))
          || hardens (told.stmt-so L R same (λ n. Unit {0}) (written d p a) (with_ (variable t)) v) (told.stmt-so L R same (λ n. Unit {0}) (written d p a) (with_ (stand_in elsewhere t (exact y))) v))
          ∙ (λ v. faulty (sym w v).ctx b.env (written-so v) t y)

    faulty-so : (x : Expr S) → AtBody x → (a b : Around S) → b ≡ record a { env = b.env } → Alike L R same Q (stmt_identifiers a.stmt) a.env b.env → (t : GoType) (y : Const)
        → forms.faulty_with eq ps c names kept a x t y ≡ forms.faulty_with eq qs k names kept b x t y
    faulty-so x i a b w g t y = faulty-same a b w g (dropped x) t y ∙ (λ v. faulty b.ctx b.env (written (dropped-so x i v) q b) t y)

    content-same : (o : Option Typed) → forms.constant_content eq ps c names kept o ≡ forms.constant_content eq qs k names kept o
    content-same (Some (t, exact y)) = refl
    content-same o = refl

    content-so : (x : Expr S) → AtBody x
        → forms.constant_content eq ps c names kept (given (parts (calls.start_with eq ps c kept).env x) typed) ≡ forms.constant_content eq qs k names kept (given (parts (calls.start_with eq qs k kept).env x) typed)
    content-so x g = (λ v. forms.constant_content eq ps c names kept (given (envs.parts_read L R same P x g.env v) typed)) ∙ content-same (given (parts (calls.start_with eq qs k kept).env x) typed)

    value-faulty-so : (x : Expr S) → AtBody x → forms.value_is_faulty eq ps c names kept x ≡ forms.value_is_faulty eq qs k names kept x
    value-faulty-so x g = by p.statement q.statement (h.at).around
      where
        meets-so : {B : Type 0} (o : Option B) (g1 g2 : B → Bool) → ((y : B) → g1 y ≡ g2 y) → meets o g1 ≡ meets o g2
        meets-so None g1 g2 i = refl
        meets-so (Some y) g1 g2 i = i y

        by : (o r : Option (Around S)) → Arounds L R same Q o r
            → meets o (λ a. meets (forms.result_type eq ps c names kept) (λ t. meets (forms.constant_content eq ps c names kept (given (parts (calls.start_with eq ps c kept).env x) typed)) (λ y. forms.faulty_with eq ps c names kept a x t y)))
            ≡ meets r (λ b. meets (forms.result_type eq qs k names kept) (λ t. meets (forms.constant_content eq qs k names kept (given (parts (calls.start_with eq qs k kept).env x) typed)) (λ y. forms.faulty_with eq qs k names kept b x t y)))
        by _ _ no_around = refl
        by _ _ (one_around {a = a} {b = b} w i) =
            meets-so (forms.result_type eq ps c names kept) (λ t. meets (forms.constant_content eq ps c names kept (given (parts (calls.start_with eq ps c kept).env x) typed)) (λ y. forms.faulty_with eq ps c names kept a x t y))
            (λ t. meets (forms.constant_content eq ps c names kept (given (parts (calls.start_with eq ps c kept).env x) typed)) (λ y. forms.faulty_with eq qs k names kept b x t y))
            (λ t. meets-so (forms.constant_content eq ps c names kept (given (parts (calls.start_with eq ps c kept).env x) typed)) (λ y. forms.faulty_with eq ps c names kept a x t y) (λ y. forms.faulty_with eq qs k names kept b x t y) (λ y. faulty-so x g a b w i t y))
            ∙ (λ v. meets (result-so v) (λ t. meets (content-so x g v) (λ y. forms.faulty_with eq qs k names kept b x t y)))

    -- ---- the expression form

    several-same : (o : Option Operand) → forms.several_types eq ps c names kept o ≡ forms.several_types eq qs k names kept o
    several-same (Some (several [])) = refl
    several-same (Some (several (t ∷ []))) = refl
    several-same (Some (several (t ∷ s ∷ ts))) = refl
    several-same o = refl

    agree-so : (x : Expr S) → AtBody x → forms.several_agree eq ps c names kept x ≡ forms.several_agree eq qs k names kept x
    agree-so x g =
        λ v.
        elim (((λ y. forms.several_types eq ps c names kept (envs.parts_read L R same P x g.env y)) ∙ several-same (parts (calls.start_with eq qs k kept).env x)) v) [
          | None ↦ true
          | Some ts ↦ all_identical ts (h.types v).results
        ]

    recover-is : forms.some_recover eq ps c names kept ≡ forms.some_recover eq qs k names kept
    recover-is = read.any-so is_recover is_recover (chosen.recover-so L R same P eq) body-seen

    no-results-is : forms.no_results eq ps c names kept ≡ forms.no_results eq qs k names kept
    no-results-is = λ v. is_empty (h.types v).results

    serves-so : (y : Bool × Expr S) → AtBody y.1 → forms.expr_serves eq ps c names kept y ≡ forms.expr_serves eq qs k names kept y
    serves-so y g =
        λ v.
        (if y.0 then forms.no_result_in eq ps c names kept y.1 else no-results-is v && is_statement u)
        && (is_empty (bound-is v) && (not (spread-is v)
        && (not (is_deferred u) && (not (recover-is v) && (agree-so y.1 g v && not (value-faulty-so y.1 g v))))))

    -- ---- statements in braces

    only-written-so : (g : Given S) → forms.is_only_written eq ps c names kept g ≡ forms.is_only_written eq qs k names kept g
    only-written-so g =
        λ v.
        nat_lt 0 (read.count-so (uses eq (declared_place g.param)) (uses eq (declared_place g.param)) (chosen.uses-so L R same P eq (declared_place g.param)) body-seen v)
        && nat_eq (read.count-so (uses eq (declared_place g.param)) (uses eq (declared_place g.param)) (chosen.uses-so L R same P eq (declared_place g.param)) body-seen v)
        (read.count-so (λ x. uses eq (declared_place g.param) x && is_stored x) (λ x. uses eq (declared_place g.param) x && is_stored x)
        (λ x y r. λ w. chosen.uses-so L R same P eq (declared_place g.param) x y r w && chosen.stored-so L R same P eq x y r w) body-seen v)

    none-only-written : (gs : List (Given S)) → list_all (λ g. not (forms.is_only_written eq ps c names kept g)) gs ≡ list_all (λ g. not (forms.is_only_written eq qs k names kept g)) gs
    none-only-written [] = refl
    none-only-written (g ∷ gs) = λ v. not (only-written-so g v) && none-only-written gs v

    return-here : (a b : Place S) (s : Stmt S) → b.literals ≡ a.literals → forms.is_return eq ps c names kept (seen_stmt a s) ≡ forms.is_return eq qs k names kept (seen_stmt b s)
    return-here a b (return_ t es) i = λ v. nat_eq (sym i v) 0
    return-here a b s i = refl

    return-so : (x y : Seen S) → Part L R same P x y → forms.is_return eq ps c names kept x ≡ forms.is_return eq qs k names kept y
    return-so = read.by-part L R same P (forms.is_return eq ps c names kept) (forms.is_return eq qs k names kept) (λ a b w x g. refl) (λ a b t g. refl) (λ a b s g. return-here a b s (ap (λ (r : Place S). r.literals) g.is))

    label-here : (a b : Place S) (s : Stmt S) → b.literals ≡ a.literals → forms.is_label eq ps c names kept (seen_stmt a s) ≡ forms.is_label eq qs k names kept (seen_stmt b s)
    label-here a b (label t n s) i = λ v. nat_eq (sym i v) 0
    label-here a b s i = refl

    label-so : (x y : Seen S) → Part L R same P x y → forms.is_label eq ps c names kept x ≡ forms.is_label eq qs k names kept y
    label-so = read.by-part L R same P (forms.is_label eq ps c names kept) (forms.is_label eq qs k names kept) (λ a b w x g. refl) (λ a b t g. refl) (λ a b s g. label-here a b s (ap (λ (r : Place S). r.literals) g.is))

    defer-here : (a b : Place S) (w : Use) (x : Expr S) → forms.is_defer eq ps c names kept (seen a w x) ≡ forms.is_defer eq qs k names kept (seen b w x)
    defer-here a b deferred_call x = refl
    defer-here a b w x = refl

    defer-so : (x y : Seen S) → Part L R same P x y → forms.is_defer eq ps c names kept x ≡ forms.is_defer eq qs k names kept y
    defer-so = read.by-part L R same P (forms.is_defer eq ps c names kept) (forms.is_defer eq qs k names kept) (λ a b w x g. defer-here a b w x) (λ a b t g. refl) (λ a b s g. refl)

    may-be-block : forms.may_be_block eq ps c names kept ≡ forms.may_be_block eq qs k names kept
    may-be-block =
        λ v.
        not (read.any-so (forms.is_defer eq ps c names kept) (forms.is_defer eq qs k names kept) defer-so body-seen v)
        && (not (read.any-so (forms.is_label eq ps c names kept) (forms.is_label eq qs k names kept) label-so body-seen v)
        && (not (spread-is v) && (not (recover-is v)
        && ((none-only-written (forms.bound eq ps c names kept) ∙ (λ w. list_all (λ g. not (forms.is_only_written eq qs k names kept g)) (bound-is w))) v))))

    -- ---- the form applies

    pub applies-so : (kind : FormKind) → forms.applies eq ps c names kept kind ≡ forms.applies eq qs k names kept kind
    applies-so ConstForm = refl
    applies-so TypeForm = refl
    applies-so ExprForm = trees.meets-one eq ps qs same Q home now f number xs ys p q u e z w1 w2 nums h results kept names (forms.expr_serves eq ps c names kept) (forms.expr_serves eq qs k names kept) serves-so
    applies-so BlockForm = λ v. in_list u && (no-results-is v && (not (read.any-so (forms.is_return eq ps c names kept) (forms.is_return eq qs k names kept) return-so body-seen v) && may-be-block v))
    applies-so TailForm = λ v. meets (returned_types u) (λ ts. all_identical ts (h.types v).results) && (not (has_names f.sig.results) && may-be-block v)
    applies-so LiteralForm = refl
