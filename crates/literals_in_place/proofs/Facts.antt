-- A call and its literal have the same facts to the rules of typing.
use Rattle.std.specs.Prelude.{◌≡◌, refl, ℕ, Bool, true, false, not, ◌&&◌, ◌||◌, List, [], ◌∷◌, ◌++◌, map, Option, Some, is_some}
use mathlib.Core.Path.{ap, ap₂, sym, ◌∙◌, subst}
use Rattle.std.proofs.Common.{arith}
use Rattle.go_tree.specs.declared.exprs.Rest.{Rest}
use Rattle.go_tree.specs.declared.exprs.Rest.TheVariants.{Plain}
use Rattle.go_tree.specs.Tree.{Param, Sig, Expr, ident, call, func_lit, Exprs, Stmts}
use Rattle.go_tree.specs.ScopeNames.FreeNames.{names_of, sig_names, free_params, free_type}
use Rattle.go_tree.specs.ScopeNames.Means.{Environment}
use Rattle.go_tree.specs.GoTypes.Answers.{given, both, meets, is_among, without}
use Rattle.go_tree.specs.GoTypes.Declarations.{binds_or}
use Rattle.go_tree.specs.GoTypes.Entities.{Entity, builtin, Env, meaning, defined_in, extend, in_block}
use Rattle.go_tree.specs.GoTypes.Initial.{means_maker, is_maker, is_constant, sizes_constant}
use Rattle.go_tree.specs.GoTypes.Operands.{a_function, typed, constant_of, named_operand}
use Rattle.go_tree.specs.GoTypes.Primary.{call_of, stands_alone, may_be_deferred}
use Rattle.go_tree.specs.GoTypes.Statements.{body_binds, means_panic, is_panic}
use Rattle.go_tree.specs.GoTypes.Types.{FuncType}
use Rattle.go_tree.specs.GoTypes.Typing.{parts, all_parts, used, used_stmts}
use Rattle.pkg_graph.specs.Package.{Package}
use Rattle.form_meaning.specs.FormInPlace.Bound.{literal_binds}
use Rattle.form_meaning.specs.FormInPlace.CalledLiteral.{declared_at}
use Rattle.form_meaning.specs.FormInPlace.Places.{Apart}
use Rattle.form_meaning.proofs.FormInPlace.Call.{params_anywhere}
use Rattle.form_meaning.proofs.FormInPlace.Outside.{outside}
use Rattle.form_meaning.proofs.FormInPlace.Uses.{both_used, same_used, apart_used, single_apart, among_append, among_without}
use Rattle.go_translation.specs.Here.{Here}
use Rattle.go_translation.specs.Packages as translated
use Rattle.typed_in_place.specs.SameFacts.{SameOperand}
use Rattle.typed_in_place.proofs.SpansAside.{operand_then, operand_spans_aside}
use Rattle.run_rules.specs.FormTrees.{as_expr}
use Rattle.run_rules.specs.Sites.{MarkRef, Site}
use Rattle.run_rules.specs.Surroundings.{is_local}
use Rattle.literal_steps.specs.AddedImports.Beside.{CalledBeside}
use Rattle.literal_steps.specs.CalledAt.{Linked, PackagesServe}
use Rattle.literal_steps.specs.LiteralUse.{filled, filled_sig, LiteralUse, NamesCallee, plainly, by_import, PlainCall}
use Rattle.literal_steps.proofs.CallMeant.{meant, callee_operand, filled_operand, literal_beside, form_is}
use Rattle.literals_in_place.proofs.Filled.{both_false, filled_binds, sig_filled}
use Rattle.literals_in_place.proofs.Mentions.{top, literal_sig, literal_body, literal, plain_free, import_free}

function_no_panic : (a : Env) (o : Option Entity) (f : FuncType) → named_operand a o ≡ Some (a_function f) → means_panic o ≡ false
function_no_panic a (Some (builtin b)) f q = grind (arith, q)
function_no_panic a o f q = refl

function_no_maker : (a : Env) (o : Option Entity) (f : FuncType) → named_operand a o ≡ Some (a_function f) → means_maker o ≡ false
function_no_maker a (Some (builtin b)) f q = grind (arith, q)
function_no_maker a o f q = refl

module _ {S : Type 0} where
  no_panic : (c : Env) (s : S) (e : Expr S) (xs : Exprs S) (z : Rest) (f : FuncType) → parts c e ≡ Some (a_function f) → is_panic c (call s e xs z) ≡ false
  no_panic c s (ident _ n) xs z f q = function_no_panic c (meaning c n) f q
  no_panic c s e xs z f q = refl

  no_maker : (c : Env) (e : Expr S) (f : FuncType) → parts c e ≡ Some (a_function f) → is_maker c e ≡ false
  no_maker c (ident _ n) f q = function_no_maker c (meaning c n) f q
  no_maker c e f q = refl

  -- two functions of one type, called: if neither uses a name that is declared around, the calls have the same facts
  called_facts : (around : List (List ℕ)) (c : Env) (s : S) (e f : Expr S) (xs : Exprs S) (z : Rest) (t : FuncType) → parts c e ≡ Some (a_function t) → parts c f ≡ Some (a_function t) → Apart around (used c e) → Apart around (used c f) → SameOperand around c (call s e xs z) (call s f xs z)
  called_facts around c s e f xs z t p q a b =
      record {
        operand = same;
        place = refl;
        uses = both_used (apart_used a b) same_used;
        uses_on_the_left = both_used (both_used (apart_used a b) same_used) same_used;
        before_dot = refl;
        blank = refl;
        alone = ap (λ r. meets r stands_alone) (p ∙ sym q);
        deferred = ap (λ r. meets r may_be_deferred) (p ∙ sym q);
        panic = no_panic c s e xs z t p ∙ sym (no_panic c s f xs z t q);
        called = refl;
        initial = λ w. constant w || ((no_maker c e t p ∙ sym (no_maker c f t q)) w && sizes_constant c xs);
        composite = refl;
        maker = refl;
      }
    where
      same : parts c (call s e xs z) ≡ parts c (call s f xs z)
      same = ap (λ r. both r (all_parts c xs) (call_of (defined_in c))) (p ∙ sym q)

      constant : is_constant c (call s e xs z) ≡ is_constant c (call s f xs z)
      constant = ap (λ r. meets (given r typed) (λ v. is_some (constant_of v.1))) same

  -- ---- what a literal uses whose unnamed parameters are `_`

  free_same : (ps : List (Param S)) → free_params [] (map filled ps) ≡ free_params [] ps
  free_same [] = refl
  free_same (p ∷ ps) = ap (λ l. free_type [] p.of ++ l) (free_same ps)

  abbrev heads : Sig S → List (List ℕ)
  heads g = free_params [] g.params ++ free_params [] g.results

  abbrev inside : Env → Sig S → Stmts S → List (List ℕ)
  inside a g b = used_stmts (extend (literal_binds a g) (in_block a)) b

  filled_apart : (around : List (List ℕ)) (a : Env) (s z : S) (g : Sig S) (b : Stmts S) → Apart around (used a (func_lit s g z b)) → Apart around (used a (func_lit s (filled_sig g) z b))
  filled_apart around a s z g b k =
      record { none = λ n i. among_append n (heads (filled_sig g)) (without (sig_names (filled_sig g)) (inside a (filled_sig g) b)) ∙ ap₂ (λ (c d : Bool). c || d) (head n i) (tail n i) }
    where
      parted : (n : List ℕ) → is_among n around ≡ true → (is_among n (heads g) ≡ false) × (is_among n (without (sig_names g) (inside a g b)) ≡ false)
      parted n i = both_false (is_among n (heads g)) (is_among n (without (sig_names g) (inside a g b))) (sym (among_append n (heads g) (without (sig_names g) (inside a g b))) ∙ k.none n i)

      head : (n : List ℕ) → is_among n around ≡ true → is_among n (heads (filled_sig g)) ≡ false
      head n i = ap (λ l. is_among n (l ++ free_params [] g.results)) (free_same g.params) ∙ (parted n i).0

      neither : (c : Bool) → (c && false) ≡ false
      neither true = refl
      neither false = refl

      both_true : (c : Bool) → (c && not false) ≡ false → c ≡ false
      both_true true e = absurd (grind (arith, e))
      both_true false e = refl

      go : (n : List ℕ) → is_among n around ≡ true → (c : Bool) → is_among n (sig_names (filled_sig g)) ≡ c → (is_among n (inside a g b) && not (is_among n (sig_names (filled_sig g)))) ≡ false
      go n i true e = ap (λ c. is_among n (inside a g b) && not c) e ∙ neither (is_among n (inside a g b))
      go n i false e =
          ap (λ c. c && not (is_among n (sig_names (filled_sig g))))
          (both_true (is_among n (inside a g b)) (sym (ap (λ c. is_among n (inside a g b) && not c) (sig_filled n g e)) ∙ sym (among_without n (sig_names g) (inside a g b)) ∙ (parted n i).1))

      tail : (n : List ℕ) → is_among n around ≡ true → is_among n (without (sig_names (filled_sig g)) (inside a (filled_sig g) b)) ≡ false
      tail n i = ap (λ bs. is_among n (without (sig_names (filled_sig g)) (used_stmts (extend bs (in_block a)) b))) (filled_binds a g) ∙ among_without n (sig_names (filled_sig g)) (inside a g b) ∙ go n i (is_among n (sig_names (filled_sig g))) refl

  -- what the innermost block declares is nothing to what a literal uses
  used_anywhere : (a : Env) (s z : S) (g : Sig S) (b : Stmts S) → used (in_block a) (func_lit s g z b) ≡ used a (func_lit s g z b)
  used_anywhere a s z g b =
      λ i. free_params [] g.params ++ free_params [] g.results ++ without (sig_names g) (used_stmts (extend (binds_or (sig_names g) (given (both (params_anywhere a [] g.params i) (params_anywhere a [] g.results i) (λ ts us. Some (record { params = ts; results = us }))) (body_binds [] g))) (in_block a)) b)

module _ {S : Type 0} (same : S → S → Bool) (commented : ℕ → ℕ → S → Bool) (rs : List (Package S)) (marks : List MarkRef) (x : Site S) (u : LiteralUse same commented rs marks x) (v : PlainCall same commented rs marks x u) (ms : List (translated.Package S)) (l : Linked rs ms x same commented marks u) (more : Environment Entity) (d : Here) (h : CalledBeside rs ms x more d) (y : PackagesServe rs ms x same commented marks u d) (around : List (List ℕ)) (a : (n : List ℕ) → is_among n around ≡ true → is_local x.place n ≡ true) where
  not_around : (n : List ℕ) → is_local x.place n ≡ false → is_among n around ≡ false
  not_around n e = go (is_among n around) refl
    where
      go : (b : Bool) → is_among n around ≡ b → b ≡ false
      go true f = absurd (grind (arith, sym (a n f) ∙ e))
      go false f = refl

  callee_apart : Apart around (used d.env v.called)
  callee_apart = go v.called refl v.named
    where
      go : (e : Expr S) → v.called ≡ e → NamesCallee same commented rs marks x u v.name e → Apart around (used d.env e)
      go _ q (plainly {s = s} same_package) = single_apart around v.name (not_around v.name (plain_free same commented rs marks x u v s q))
      go _ q (by_import {s = s} {z = z} {t = t} {q = p} {k = k} f is_public) = single_apart around p (not_around p (import_free rs x p f))

  literal_apart : Apart around (used d.env (literal same commented rs marks x u v more d))
  literal_apart =
      filled_apart around d.env v.span v.span (literal_sig same commented rs marks x u v more d) (literal_body same commented rs marks x u v more d)
      (record { none = λ n i. ap (is_among n) (sym (used_anywhere d.env v.span v.span (literal_sig same commented rs marks x u v more d) (literal_body same commented rs marks x u v more d))) ∙ (outside (record { home = d.env.home; around = names_of x.place.bound; puts = false }) refl [] (declared_at (in_block d.env) (top same commented rs marks x u v more d) u.home.number) d.env.names (literal_beside same commented rs marks x u v ms l more d h y v.span v.span)).none n (a n i) refl })

  pub same_facts : (e : Expr S) → u.form ≡ as_expr e → SameOperand around d.env u.tree e
  same_facts e q =
      subst (λ z. SameOperand around d.env z e) (sym v.tree_is)
      (operand_then (called_facts around d.env v.span v.called (literal same commented rs marks x u v more d) v.args Plain (meant same commented rs marks x u v ms l).type (callee_operand same commented rs marks x u v ms l more d h y) (filled_operand same commented rs marks x u v ms l more d h y) callee_apart literal_apart)
      (operand_spans_aside around d.env (call v.span (literal same commented rs marks x u v more d) v.args Plain) e (sym (form_is same commented rs marks x u v ms l more d h y e q))))
