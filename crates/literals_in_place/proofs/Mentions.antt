-- A call and its literal mention alike what the function around declares: of these names nothing but what the arguments mention.
use Rattle.std.specs.Prelude.{◌≡◌, refl, ℕ, Bool, true, false, ◌||◌, List, [], ◌++◌, Some, None, if◌then◌else◌, is_some, bytes_eq, ◌&&◌}
use mathlib.Core.Path.{ap, sym, ◌∙◌, subst}
use Rattle.std.proofs.Common.{arith}
use Rattle.std.proofs.lemmas.List.Folds.{list_any-append}
use Rattle.go_tree.specs.declared.exprs.Rest.TheVariants.{Plain}
use Rattle.go_tree.specs.declared.spans.Span.{Span}
use Rattle.go_tree.specs.Tree.{Expr, ident, call, func_lit, Sig, Stmts}
use Rattle.go_tree.specs.ScopeNames.FreeNames.{names_of, sig_names}
use Rattle.go_tree.specs.ScopeNames.Means.{Environment, means}
use Rattle.go_tree.specs.GoTypes.Answers.{given, both, is_among}
use Rattle.go_tree.specs.GoTypes.Declarations.{binds_or}
use Rattle.go_tree.specs.GoTypes.Entities.{Entity, Env, meaning, extend, in_block}
use Rattle.go_tree.specs.GoTypes.Statements.{body_binds}
use Rattle.pkg_graph.specs.Package.{Package}
use Rattle.form_meaning.specs.FormInPlace.CalledLiteral.{declared_at}
use Rattle.form_meaning.proofs.FormInPlace.Call.{params_anywhere}
use Rattle.go_translation.specs.Here.{Here}
use Rattle.go_translation.specs.Mentions.{Way, literal_mentions, beyond_names, mentions, mentions_all, mentions_stmts, callee_way, any_mention}
use Rattle.go_translation.specs.Packages as translated
use Rattle.go_translation.proofs.MentionsBare.{mentions-bare}
use Rattle.run_rules.specs.FormTrees.{as_expr}
use Rattle.run_rules.specs.Programs.{world, top_env}
use Rattle.run_rules.specs.Sites.{MarkRef, Site, is_free_function, expr_mark, name_mark, outer, outer_meaning, qualifier, imported_by, import_number}
use Rattle.run_rules.specs.Surroundings.{is_local}
use Rattle.constant_steps.proofs.MarksFound.{member_of_mark, named_member, marked_so}
use Rattle.constant_steps.proofs.NamesOutside.{not_local}
use Rattle.literal_steps.specs.AddedImports.Beside.{CalledBeside}
use Rattle.literal_steps.specs.CalledAt.{Linked, PackagesServe}
use Rattle.literal_steps.specs.LiteralUse.{filled_sig, LiteralUse, NamesCallee, plainly, by_import, PlainCall}
use Rattle.literal_steps.proofs.CallMeant.{literal_beside, form_is}
use Rattle.literal_steps.proofs.FormBare.{kept_sig, kept_body}
use Rattle.meaning_in_place.specs.Standing.{MentionedAlike}
use Rattle.literals_in_place.proofs.Unmentioned.{Unmentioned, outer_un, filled_un}

-- what the innermost block declares is nothing to what a literal mentions
mentions_anywhere : {S : Type 0} (w : Way) (a : Env) (s z : S) (g : Sig S) (b : Stmts S) → mentions w (in_block a) (func_lit s g z b) ≡ mentions w a (func_lit s g z b)
mentions_anywhere w a s z g b =
    λ i. literal_mentions w (beyond_names (sig_names g) (mentions_stmts (extend (binds_or (sig_names g) (given (both (params_anywhere a [] g.params i) (params_anywhere a [] g.results i) (λ ts us. Some (record { params = ts; results = us }))) (body_binds [] g))) (in_block a)) b))

-- ---- the names before the arguments are none that is declared around

module _ {S : Type 0} (rs : List (Package S)) (x : Site S) where
  pub import_free : (q : List ℕ) {k : ℕ} → qualifier rs x.at x.place q ≡ Some k → is_local x.place q ≡ false
  import_free q e = go (is_local x.place q) refl
    where
      go : (b : Bool) → is_local x.place q ≡ b → b ≡ false
      go true f = absurd (grind (arith, ap is_some (sym (ap (λ b. given (if b then None else means (outer rs x.at) q) (λ t. given (imported_by t) (import_number rs x.at))) f) ∙ e)))
      go false f = refl

module _ {S : Type 0} (same : S → S → Bool) (commented : ℕ → ℕ → S → Bool) (rs : List (Package S)) (marks : List MarkRef) (x : Site S) (u : LiteralUse same commented rs marks x) (v : PlainCall same commented rs marks x u) where
  called : (e : Expr S) → v.called ≡ e → expr_mark rs marks x.at x.place (call v.span e v.args Plain) ≡ Some x.mark
  called e q = sym (ap (expr_mark rs marks x.at x.place) (v.tree_is ∙ ap (λ f. call v.span f v.args Plain) q)) ∙ v.use_

  pub plain_free : (s : S) → v.called ≡ ident s v.name → is_local x.place v.name ≡ false
  plain_free s q =
      (not_local rs u.home x.at x.place v.name (member_of_mark x.mark)
      (named_member (outer_meaning rs x.at x.place v.name) x.mark (marked_so rs marks is_free_function (name_mark rs x.at x.place v.name) x.mark (called (ident s v.name) q)))).0

module _ {S : Type 0} (same : S → S → Bool) (commented : ℕ → ℕ → S → Bool) (rs : List (Package S)) (marks : List MarkRef) (x : Site S) (u : LiteralUse same commented rs marks x) (v : PlainCall same commented rs marks x u) (more : Environment Entity) (d : Here) where
  -- ---- the literal

  abbrev pub top : Environment Entity
  top = (top_env rs u.home.number u.home.of u.home.source.tree).names

  abbrev pub beyond : Environment Entity
  beyond = (top_env rs x.at.number x.at.of x.at.source.tree).names ++ more

  abbrev pub literal_sig : Sig S
  literal_sig = kept_sig same commented rs marks x u v (record x.place { env = d.env }) (world rs) top beyond

  abbrev pub literal_body : Stmts S
  literal_body = kept_body same commented rs marks x u v (record x.place { env = d.env }) (world rs) top beyond

  abbrev pub literal : Expr S
  literal =
      func_lit v.span (filled_sig (kept_sig same commented rs marks x u v (record x.place { env = d.env }) (world rs) top beyond)) v.span
      (kept_body same commented rs marks x u v (record x.place { env = d.env }) (world rs) top beyond)

module _ (same : Span → Span → Bool) (commented : ℕ → ℕ → Span → Bool) (rs : List (Package Span)) (marks : List MarkRef) (x : Site Span) (u : LiteralUse same commented rs marks x) (v : PlainCall same commented rs marks x u) (ms : List (translated.Package Span)) (l : Linked rs ms x same commented marks u) (more : Environment Entity) (d : Here) (h : CalledBeside rs ms x more d) (y : PackagesServe rs ms x same commented marks u d) (w : Way) where
  abbrev local_names : List (List ℕ)
  local_names = names_of x.place.bound

  -- ---- what is called

  callee_un : Unmentioned local_names [] (mentions (callee_way w) d.env v.called)
  callee_un = go v.called refl v.named
    where
      go : (e : Expr Span) → v.called ≡ e → NamesCallee same commented rs marks x u v.name e → Unmentioned local_names [] (mentions (callee_way w) d.env e)
      go _ q (plainly {s = s} same_package) = outer_un (callee_way w) v.name (meaning d.env v.name) (plain_free same commented rs marks x u v s q)
      go _ q (by_import {s = s} {z = z} {t = t} {q = p} {k = k} f is_public) = outer_un _ p (meaning d.env p) (import_free rs x p f)

  literal_un : Unmentioned local_names [] (mentions (callee_way w) d.env (literal same commented rs marks x u v more d))
  literal_un =
      subst (Unmentioned local_names []) (mentions_anywhere (callee_way w) d.env v.span v.span (filled_sig (literal_sig same commented rs marks x u v more d)) (literal_body same commented rs marks x u v more d))
      (filled_un (record { home = d.env.home; around = local_names; puts = false }) refl (declared_at (in_block d.env) (top same commented rs marks x u v more d) u.home.number) d.env.names (callee_way w) (literal_beside same commented rs marks x u v ms l more d h y v.span v.span))

  form_mentions : (e : Expr Span) → u.form ≡ as_expr e → mentions w d.env (call v.span (literal same commented rs marks x u v more d) v.args Plain) ≡ mentions w d.env e
  form_mentions e q = sym (mentions-bare w d.env (call v.span (literal same commented rs marks x u v more d) v.args Plain)) ∙ sym (ap (mentions w d.env) (form_is same commented rs marks x u v ms l more d h y e q)) ∙ mentions-bare w d.env e

  module _ (around : List (List ℕ)) (a : (n : List ℕ) → is_among n around ≡ true → is_local x.place n ≡ true) where
    called_alike : MentionedAlike around (mentions w d.env (call v.span v.called v.args Plain)) (mentions w d.env (call v.span (literal same commented rs marks x u v more d) v.args Plain))
    called_alike =
        record {
          each =
              λ p n i. list_any-append (λ m. bytes_eq n m.name && p m) (mentions (callee_way w) d.env v.called) (mentions_all d.env v.args)
              ∙ ap (λ b. b || any_mention p n (mentions_all d.env v.args)) (callee_un.none p n (a n i) refl ∙ sym (literal_un.none p n (a n i) refl))
              ∙ sym (list_any-append (λ m. bytes_eq n m.name && p m) (mentions (callee_way w) d.env (literal same commented rs marks x u v more d)) (mentions_all d.env v.args));
        }

    pub mentioned_alike : (e : Expr Span) → u.form ≡ as_expr e → MentionedAlike around (mentions w d.env u.tree) (mentions w d.env e)
    mentioned_alike e q = subst (λ z. MentionedAlike around (mentions w d.env z) (mentions w d.env e)) (sym v.tree_is) (subst (MentionedAlike around (mentions w d.env (call v.span v.called v.args Plain))) (form_mentions e q) called_alike)
