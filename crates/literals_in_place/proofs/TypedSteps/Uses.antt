-- A use of a function that becomes a literal, in the body of a function of well-typed packages: what steps_in_bodies asks of it.
use Rattle.std.proofs.Common.{◌≡◌, refl, ap, ◌∙◌, subst, inl, inr, ℕ, Bool, true, false, List, [], ◌∷◌, Option, Some, None, is_some, arith}
use Rattle.go_tree.specs.declared.exprs.Rest.TheVariants.{Plain}
use Rattle.go_tree.specs.File.{Func}
use Rattle.go_tree.specs.Tree.{Expr, call, defer}
use Rattle.go_tree.specs.ScopeNames.Scopes.{expr_span}
use Rattle.go_tree.specs.GoTypes.Answers.{given}
use Rattle.go_tree.specs.GoTypes.Bodies.{body_ctx}
use Rattle.go_tree.specs.GoTypes.Entities.{Entity, variable, constant, stand_in, type_name, function, package_name, builtin, nil_name, iota_name, refused, Env, meaning, exported, package_of, defined_in}
use Rattle.go_tree.specs.GoTypes.Operands.{Operand, a_function, with_value, named_operand, named_place}
use Rattle.go_tree.specs.GoTypes.Primary.{selected}
use Rattle.go_tree.specs.GoTypes.Types.{FuncType}
use Rattle.go_tree.specs.GoTypes.Typing.{parts}
use Rattle.go_kernel.specs.Kernel.{FuncName}
use Rattle.go_translation.specs.Here.{Here}
use Rattle.go_translation.specs.Packages as translated
use Rattle.go_translation.specs.Packages.{sources, paths_in, called_name}
use Rattle.pkg_graph.specs.Package.{Package}
use Rattle.run_rules.specs.Forms.{is_at}
use Rattle.run_rules.specs.Places.{stmts_seen}
use Rattle.run_rules.specs.Programs.{linked, world, headed_func, top_env, body_place}
use Rattle.run_rules.specs.Sites.{MarkRef, Part, Site, part_span}
use Rattle.run_rules.specs.Surroundings.{Place, Seen, seen, seen_type, seen_stmt}
use Rattle.constant_steps.specs.Alone.{PackageAt}
use Rattle.constant_steps.specs.PlainUse.{linked_at}
use Rattle.literal_steps.proofs.AddedImports.FilesBeside.{called_beside}
use Rattle.literal_steps.proofs.CallMeant.{meant, callee_operand}
use Rattle.literal_steps.proofs.ServedPackages.Served.{packages_serve}
use Rattle.literal_steps.specs.CalledAt.{CalledAt, Linked, PackagesServe}
use Rattle.literal_steps.specs.LiteralUse.{LiteralUse, NamesCallee, plainly, by_import, PlainCall}
use Rattle.literal_steps.specs.ServedPackages.ServedFunctions.{NeedsNoImport}
use Rattle.literal_cycles.proofs.PlacesOut.{Out}
use Rattle.literals_in_place.specs.StepsInBodies.Functions.{use_here, StandsInFunction, Anywhere}
use Rattle.literals_in_place.specs.StepsInBodies.Once.{StandsOnce, DefersLower, AllClear}
use Rattle.literals_in_place.specs.TypedSteps.Uses.{StandsInBody}
use Rattle.literals_in_place.proofs.StepsInBodies.Numbered.{nth_package}
use Rattle.literals_in_place.proofs.TypedSteps.Bodies.{TypedBody, body, named, stands_out}
use Rattle.literals_in_place.proofs.TypedSteps.Told.{once_told}
use Rattle.literals_in_place.proofs.TypedSteps.Walk.{AllFit, stmts_fit}

-- ---- outside constants a function is what it is within them

abbrev outside : Env → Env
outside a = record a { iota = None }

function_there : (a : Env) (d : Option Entity) (f : FuncType) → named_operand (outside a) d ≡ Some (a_function f) → named_operand a d ≡ Some (a_function f)
function_there a None f e = e
function_there a (Some (variable t)) f e = e
function_there a (Some (constant t c)) f e = e
function_there a (Some (stand_in p t c)) f e = e
function_there a (Some (type_name t)) f e = e
function_there a (Some (function g)) f e = e
function_there a (Some (package_name p)) f e = e
function_there a (Some (builtin b)) f e = e
function_there a (Some nil_name) f e = e
function_there a (Some iota_name) f e = absurd (grind (arith, ap is_some e))
function_there a (Some refused) f e = e

operand_there : (a : Env) (d : Option Entity) (k : Operand → Option Operand) (o : Operand) → given (named_operand (outside a) d) k ≡ Some o → given (named_operand a d) k ≡ Some o
operand_there a None k o e = e
operand_there a (Some (variable t)) k o e = e
operand_there a (Some (constant t c)) k o e = e
operand_there a (Some (stand_in p t c)) k o e = e
operand_there a (Some (type_name t)) k o e = e
operand_there a (Some (function g)) k o e = e
operand_there a (Some (package_name p)) k o e = e
operand_there a (Some (builtin b)) k o e = e
operand_there a (Some nil_name) k o e = e
operand_there a (Some iota_name) k o e = absurd (grind (arith, ap is_some e))
operand_there a (Some refused) k o e = e

module _ {S : Type 0} (same : S → S → Bool) (itself : (s : S) → same s s ≡ true) (commented : ℕ → ℕ → S → Bool) (rs : List (Package S)) (marks : List MarkRef) (x : Site S) (u : LiteralUse same commented rs marks x) (v : PlainCall same commented rs marks x u) (ms : List (translated.Package S)) (l : Linked rs ms x same commented marks u) (no_import : NeedsNoImport same commented rs marks x u) (r : StandsInBody same x rs u.tree ms) where
  abbrev f : Func S
  f = r.function

  abbrev start : Place S
  start = body_place rs x.at.number x.at.of x.at.source.tree f

  package_at : PackageAt (linked_at rs x.at r.named_at) r.nth (sources ms)
  package_at = subst (λ p. PackageAt p r.nth (sources ms)) r.source_is (nth_package ms l.distinct r.nth r.of r.is_nth)

  pub package_linked : PackageAt (linked_at rs x.at r.named_at) r.nth (linked rs)
  package_linked = subst (PackageAt (linked_at rs x.at r.named_at) r.nth) l.sources_are package_at

  pub typed_body : TypedBody rs x.at r.named_at r.nth package_linked l.typed r.file_there x.decl f r.decl_there
  typed_body = body rs x.at r.named_at r.nth package_linked l.typed r.file_there x.decl f r.decl_there

  pub its_name : (n : FuncName) × (called_name (paths_in ms) (world rs) (headed_func rs x.at.number x.at.of x.at.source.tree f) f ≡ Some n)
  its_name = named rs x.at r.named_at r.nth package_linked l.typed r.file_there x.decl f r.decl_there ms

  -- ---- the use's place

  out : Out (top_env rs x.at.number x.at.of x.at.source.tree) x.place.env x.place.bound
  out = stands_out rs same x u.tree f r.once

  -- as it would be outside constants
  abbrev free_here : Here
  free_here = record (use_here ms x) { env = outside x.place.env }

  called_free : CalledAt rs ms x free_here
  called_free = record { world_is = out.names.world; home_is = out.home; no_constant = refl; paths_are = refl; outer = λ n i. out.names.outer n i; blank = λ n b. out.names.blank n b; locals = λ n i. refl }

  callee_free : parts (outside x.place.env) v.called ≡ Some (a_function (meant same commented rs marks x u v ms l).type)
  callee_free = callee_operand same commented rs marks x u v ms l [] free_here (called_beside called_free) (packages_serve same commented rs marks x u v ms l no_import free_here called_free)

  abbrev T : FuncType
  T = (meant same commented rs marks x u v ms l).type

  -- what is called is a function to the rules of typing
  function_is : parts x.place.env v.called ≡ Some (a_function (meant same commented rs marks x u v ms l).type)
  function_is = go v.called v.named callee_free
    where
      behind_dot : (q n : List ℕ) → (o : Option ℕ)
          → elim o [ Some p ↦ named_operand (outside x.place.env) (exported x.place.env.world p n) | None ↦ given (named_operand (outside x.place.env) (meaning x.place.env q)) (λ o. with_value o (selected (defined_in x.place.env) x.place.env.home n (named_place (meaning x.place.env q)))) ] ≡ Some (a_function T)
          → elim o [ Some p ↦ named_operand x.place.env (exported x.place.env.world p n) | None ↦ given (named_operand x.place.env (meaning x.place.env q)) (λ o. with_value o (selected (defined_in x.place.env) x.place.env.home n (named_place (meaning x.place.env q)))) ] ≡ Some (a_function T)
      behind_dot q n (Some p) e = function_there x.place.env (exported x.place.env.world p n) T e
      behind_dot q n None e = operand_there x.place.env (meaning x.place.env q) (λ o. with_value o (selected (defined_in x.place.env) x.place.env.home n (named_place (meaning x.place.env q)))) (a_function T) e

      go : (e : Expr S) → NamesCallee same commented rs marks x u v.name e → parts (outside x.place.env) e ≡ Some (a_function T) → parts x.place.env e ≡ Some (a_function T)
      go _ (plainly same_package) e = function_there x.place.env (meaning x.place.env v.name) T e
      go _ (by_import {q = q} k is_public) e = behind_dot q v.name (package_of (meaning x.place.env q)) e

  -- ---- the use stands clear, outside constants

  there : is_at same (part_span x.part) (call v.span v.called v.args Plain) ≡ true
  there = ap (λ (w : Part S). is_at same (part_span w) (call v.span v.called v.args Plain)) u.part ∙ ap (λ (w : Expr S). same (expr_span w) v.span) v.tree_is ∙ itself v.span

  once : StandsOnce same x (call v.span v.called v.args Plain) (stmts_seen start f.body)
  once = subst (λ (t : Expr S). StandsOnce same x t (stmts_seen start f.body)) v.tree_is r.once

  abbrev Fit : List (Seen S) → Type 0
  Fit ys = AllFit same x v.span v.called v.args Plain (meant same commented rs marks x u v ms l).type function_is there ys

  fits : Fit (stmts_seen start f.body)
  fits =
      (stmts_fit same x v.span v.called v.args Plain (meant same commented rs marks x u v ms l).type function_is there {i = None} start (body_ctx f.sig typed_body.type) false f.body typed_body.ends refl typed_body.typed_so).run
      (once_told same x v.span v.called v.args Plain (meant same commented rs marks x u v ms l).type function_is there (stmts_seen start f.body) once r.outside) (inl refl)

  outside_constants : (ys : List (Seen S)) → StandsOnce same x (call v.span v.called v.args Plain) ys → Fit ys → x.place.env.iota ≡ None
  outside_constants [] o a = absurd o
  outside_constants (y ∷ ys) (inl q) a = a.0.1 q.0
  outside_constants (y ∷ ys) (inr q) a = outside_constants ys q.1 a.1

  pub called_there : CalledAt rs ms x (use_here ms x)
  called_there =
      record { world_is = out.names.world; home_is = out.home; no_constant = outside_constants (stmts_seen start f.body) once fits; paths_are = refl; outer = λ n i. out.names.outer n i; blank = λ n b. out.names.blank n b; locals = λ n i. refl }

  pub serve_there : PackagesServe rs ms x same commented marks u (use_here ms x)
  serve_there = packages_serve same commented rs marks x u v ms l no_import (use_here ms x) called_there

  module _ (lower : Type 0) (low : lower) where
    part_lower : (y : Seen S) → DefersLower same x lower y
    part_lower (seen p w y) = tt
    part_lower (seen_type p t) = tt
    part_lower (seen_stmt p (defer s y)) = λ q. low
    part_lower (seen_stmt p y) = tt

    all_clear : (ys : List (Seen S)) → Fit ys → AllClear same x lower ys
    all_clear [] a = tt
    all_clear (y ∷ ys) a = ((a.0.0, part_lower y), all_clear ys a.1)

    pub clear_there : AllClear same x lower (stmts_seen start f.body)
    clear_there = all_clear (stmts_seen start f.body) fits

  -- ---- the function around

  abbrev pub in_function : (e : Expr S) → StandsInFunction same rs x u.tree e Anywhere ms
  in_function e =
      record {
        nth = r.nth;
        of = r.of;
        is_nth = r.is_nth;
        named_at = r.named_at;
        source_is = r.source_is;
        file_there = r.file_there;
        function = f;
        decl_there = r.decl_there;
        result = typed_body.type;
        typed = typed_body.signature;
        name = its_name.0;
        named = its_name.1;
        once = r.once;
        clear = clear_there (Unit {0}) tt;
      }
