-- What is found in a declaration with other spans in the place of its own is what is found in the declaration, at the
-- places that these spans have.
use Rattle.std.specs.Prelude.{◌≡◌, refl, ℕ, suc, Bool, List, [], ◌∷◌, ◌++◌, Option, Some, None, if◌then◌else◌}
use mathlib.Core.Path.{sym, ◌∙◌}
use Rattle.std.specs.Option.{option_map}
use Rattle.go_tree.specs.Tree.{NameAt, Sig, const_decl, var_decl, ValueSpecs, no_specs, spec}
use Rattle.go_tree.specs.File.{Receiver, Func, Decl, values, types, func}
use Rattle.go_tree.specs.ScopeNames.Means.{Environment, binding}
use Rattle.go_tree.specs.GoTypes.Answers.{given, otherwise}
use Rattle.go_tree.specs.GoTypes.Types.{GoType, named_type, pointer_to, FuncType}
use Rattle.go_tree.specs.GoTypes.Entities.{Entity, variable, World, Env, Binds, extend, in_block}
use Rattle.go_tree.specs.GoTypes.Bodies.{body_binds}
use Rattle.go_tree.specs.GoTypes.Programs.{file_env}
use Rattle.go_tree.specs.GoTypes.MethodDeclarations.{receiver_type, receiver_binds}
use Rattle.go_tree.specs.GoTypes.WellTyped.{receiver_of}
use Rattle.run_rules.specs.Respanned.{name_with, sig_with, specs_with, receiver_with, func_with, decl_with}
use Rattle.checked_findings.specs.Found.{results_in}
use Rattle.checked_findings.specs.Packages.{function_header, constants_found, variables_found, function_found}
use Rattle.checked_findings.specs.Packages.{declaration_found}
use Rattle.checked_findings.specs.LookUp.{moved}
use Rattle.checked_findings.proofs.FoundBare.{body_binds-bare}
use Rattle.checked_findings.proofs.Spanless.{sig-spanless}
use Rattle.checked_findings.proofs.TypingMoved.{func_type-with, constants_ask-with, variables_ask-with}
use Rattle.checked_findings.proofs.FoundMoved.{found_all-with, found_stmts-with}

module _ {S T : Type 0} (to : S → T) where
  receiver_binds-with : (r : Receiver S) (t : GoType) → receiver_binds (receiver_with to r) t ≡ receiver_binds r t
  receiver_binds-with r t = go r.name r.pointer
    where
      go : (n : Option (NameAt S)) (p : Bool) → ◌≡◌ {A = Binds}
          (elim (option_map (name_with to) n) [
            | None ↦ []
            | Some n ↦ binding n.name (variable (if p then pointer_to t else t))
          ])
          (elim n [ None ↦ [] | Some n ↦ binding n.name (variable (if p then pointer_to t else t)) ])
      go None p = refl
      go (Some n) p = refl

  receiver_of-with : (w : World) (home : ℕ) (imports : Environment Entity) (f : Func S) (r : Option (Receiver S)) →
      receiver_of w (function_header home imports (func_with to f)) (option_map (receiver_with to) r)
      ≡ receiver_of w (function_header home imports f) r
  receiver_of-with w home imports f None = refl
  receiver_of-with w home imports f (Some r) =
      λ z. elim (receiver_type w (function_header home imports f) r) [
        | None ↦ []
        | Some n ↦ receiver_binds-with r (named_type home n) z
      ]

  body_binds-with : (receiver : Binds) (g : Sig S) (f : FuncType) →
      body_binds receiver (sig_with to g) f ≡ body_binds receiver g f
  body_binds-with receiver g f =
      sym (body_binds-bare receiver (sig_with to g) f) ∙ (λ z. body_binds receiver (sig-spanless to g z) f)
      ∙ body_binds-bare receiver g f

module _ {S T P : Type 0} (at : T → P) (to : S → T) where
  constants_found-with : (env : ℕ → Env) (i : ℕ) (ss : ValueSpecs S) →
      constants_found at env i (specs_with to ss) ≡ constants_found (moved at to) env i ss
  constants_found-with env i no_specs = refl
  constants_found-with env i (spec s ns t es ss) =
      λ z. found_all-with at to (env i) (constants_ask-with to (env i) t es z) es z
      ++ constants_found-with env (suc i) ss z

  variables_found-with : (env : Env) (ss : ValueSpecs S) →
      variables_found at env (specs_with to ss) ≡ variables_found (moved at to) env ss
  variables_found-with env no_specs = refl
  variables_found-with env (spec s ns t es ss) =
      λ z. found_all-with at to env (variables_ask-with to env ns t es z) es z ++ variables_found-with env ss z

  function_found-with : (w : World) (home : ℕ) (imports : Environment Entity) (f : Func S) →
      function_found at w (function_header home imports (func_with to f)) (func_with to f)
      ≡ function_found (moved at to) w (function_header home imports f) f
  function_found-with w home imports f =
      let around : Env = file_env w home imports None in
      let receiver : receiver_of w (function_header home imports (func_with to f)) (func_with to f).receiver
      ≡ receiver_of w (function_header home imports f) f.receiver = receiver_of-with to w home imports f f.receiver in
      let binds : (g : FuncType) →
      body_binds (receiver_of w (function_header home imports (func_with to f)) (func_with to f).receiver)
      (sig_with to f.sig) g ≡ body_binds (receiver_of w (function_header home imports f) f.receiver) f.sig g
      = (λ g. (λ z. body_binds (receiver z) (sig_with to f.sig) g)
      ∙ body_binds-with to (receiver_of w (function_header home imports f) f.receiver) f.sig g) in
      λ z. found_stmts-with at to (results_in (func_type-with to around f.sig z))
      (extend (otherwise (given (func_type-with to (in_block around) f.sig z) (λ g. binds g z)) [])
      (in_block around)) f.body z

  pub declaration_found-with : (w : World) (home : ℕ) (imports : Environment Entity) (d : Decl S) →
      declaration_found at w home imports (decl_with to d) ≡ declaration_found (moved at to) w home imports d
  declaration_found-with w home imports (values (const_decl _ _ ss)) =
      constants_found-with (λ i. file_env w home imports (Some i)) 0 ss
  declaration_found-with w home imports (values (var_decl _ _ ss)) =
      variables_found-with (file_env w home imports None) ss
  declaration_found-with w home imports (values _) = refl
  declaration_found-with w home imports (types _ grouped ts) = refl
  declaration_found-with w home imports (func f) = function_found-with w home imports f
