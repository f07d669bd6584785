-- What is found in a declaration is alike beside other imports of its file, where the names that it takes from around
-- it mean the same.
use Rattle.std.specs.Prelude.{◌≡◌, refl, ℕ, suc, Bool, true, false, ◌&&◌, List, [], ◌∷◌, ◌++◌, map, length, Option}
use Rattle.std.specs.Prelude.{Some, None, if◌then◌else◌, nat_eq, is_none}
use mathlib.Core.Path.{ap, ◌∙◌}
use Rattle.std.proofs.Common.{arith}
use Rattle.go_tree.specs.Tree.{const_decl, var_decl, ValueSpecs, no_specs, spec}
use Rattle.go_tree.specs.File.{Receiver, Func, Decl, values, types, func}
use Rattle.go_tree.specs.ScopeNames.Means.{Environment}
use Rattle.go_tree.specs.ScopeNames.FreeNames.{names_of, free_type_option, free_params, free_exprs, free_stmts}
use Rattle.go_tree.specs.GoTypes.Answers.{given, only_if, otherwise}
use Rattle.go_tree.specs.GoTypes.Types.{GoType, named_type, type_name_of, base_of, FuncType}
use Rattle.go_tree.specs.GoTypes.Defined.{under}
use Rattle.go_tree.specs.GoTypes.Entities.{Entity, World, Env, Binds, defined_in, type_of_name, extend, in_block}
use Rattle.go_tree.specs.GoTypes.TypeNames.{func_type}
use Rattle.go_tree.specs.GoTypes.Bodies.{body_binds}
use Rattle.go_tree.specs.GoTypes.Programs.{file_env}
use Rattle.go_tree.specs.GoTypes.MethodDeclarations.{receiver_binds}
use Rattle.go_tree.specs.GoTypes.WellTyped.{receiver_of}
use Rattle.go_tree.specs.GoTypes.Agreement.{head, On, Agrees}
use Rattle.go_tree.proofs.GoTypes.Agreeing.{on_first, on_second, agrees_in_block, agrees_after}
use Rattle.go_tree.proofs.GoTypes.TypingAlike.{all_parts-alike, places-alike}
use Rattle.checked_findings.specs.Facts.{asked}
use Rattle.checked_findings.specs.Asking.{values_ask, each_of}
use Rattle.checked_findings.specs.Found.{results_in, found_stmts}
use Rattle.checked_findings.specs.Packages.{function_header, constants_found, variables_found, function_found}
use Rattle.checked_findings.specs.Packages.{declaration_found, specs_around, receiver_around, names_around}
use Rattle.checked_findings.proofs.NamesAlike.{kept, with_iota, written_type-alike, func_type-alike}
use Rattle.checked_findings.proofs.FoundAlike.{found_all-alike, found_stmts-alike}

clash : {A : Type 0} → false ≡ true → A
clash e = grind arith

module _ {S : Type 0} (w : World) (home : ℕ) (imports more : Environment Entity) where
  receiver_of-alike : (f : Func S) (r : Option (Receiver S)) →
      On (receiver_around r) (file_env w home imports None) (file_env w home more None).names →
      receiver_of w (function_header home imports f) r ≡ receiver_of w (function_header home more f) r
  receiver_of-alike f None h = refl
  receiver_of-alike f (Some r) h =
      λ z. elim
      (given (type_of_name (h r.of.name head z)) (λ t.
      given (type_name_of t) (λ q. only_if (nat_eq q.0 home && is_none (base_of (under w.defined t))) (Some q.1)))) [
        | None ↦ []
        | Some n ↦ receiver_binds r (named_type home n)
      ]

module _ {S P : Type 0} (at : S → P) (w : World) (home : ℕ) (imports more : Environment Entity)
    (g : Agrees [] (file_env w home imports None) (file_env w home more None).names) where
  constants_found-alike : (i : ℕ) (ss : ValueSpecs S) →
      On (specs_around ss) (file_env w home imports None) (file_env w home more None).names →
      constants_found at (λ i. file_env w home imports (Some i)) i ss
      ≡ constants_found at (λ i. file_env w home more (Some i)) i ss
  constants_found-alike i no_specs h = refl
  constants_found-alike i (spec _ ns t es ss) h =
      let a : Env = file_env w home imports None in let m : Environment Entity = (file_env w home more None).names in
      let b : Env = file_env w home imports (Some i) in let q : Agrees [] b m = with_iota [] a m i g in
      let first : On (free_type_option [] t ++ free_exprs [] es) a m =
      on_first (free_type_option [] t ++ free_exprs [] es) (specs_around ss) a m h in
      let written : On (free_type_option [] t) a m = on_first (free_type_option [] t) (free_exprs [] es) a m first in
      let here : On (free_exprs [] es) a m = on_second (free_type_option [] t) (free_exprs [] es) a m first in
      let next : On (specs_around ss) a m =
      on_second (free_type_option [] t ++ free_exprs [] es) (specs_around ss) a m h in
      λ z. found_all-alike at b (each_of (asked (given (written_type-alike b t m [] q written z) (λ t. t))) es) es m []
      q here z
      ++ constants_found-alike (suc i) ss next z

  variables_found-alike : (ss : ValueSpecs S) →
      On (specs_around ss) (file_env w home imports None) (file_env w home more None).names →
      variables_found at (file_env w home imports None) ss ≡ variables_found at (file_env w home more None) ss
  variables_found-alike no_specs h = refl
  variables_found-alike (spec _ ns t es ss) h =
      let a : Env = file_env w home imports None in let m : Environment Entity = (file_env w home more None).names in
      let first : On (free_type_option [] t ++ free_exprs [] es) a m =
      on_first (free_type_option [] t ++ free_exprs [] es) (specs_around ss) a m h in
      let written : On (free_type_option [] t) a m = on_first (free_type_option [] t) (free_exprs [] es) a m first in
      let here : On (free_exprs [] es) a m = on_second (free_type_option [] t) (free_exprs [] es) a m first in
      let next : On (specs_around ss) a m =
      on_second (free_type_option [] t ++ free_exprs [] es) (specs_around ss) a m h in
      λ z. found_all-alike at a
      (values_ask (defined_in a) (places-alike a es m [] g here z)
      (map (λ n. given (written_type-alike a t m [] g written z) (λ t. t)) (names_of ns))
      (otherwise (all_parts-alike a es m [] g here z) [])) es m [] g here z
      ++ variables_found-alike ss next z

  function_found-alike : (f : Func S) →
      On (names_around w home imports (func f)) (file_env w home imports None) (file_env w home more None).names →
      function_found at w (function_header home imports f) f ≡ function_found at w (function_header home more f) f
  function_found-alike f h =
      let a : Env = file_env w home imports None in let m : Environment Entity = (file_env w home more None).names in
      let bs : Binds =
      otherwise
      (given (func_type (in_block a) f.sig) (body_binds (receiver_of w (function_header home imports f) f.receiver)
      f.sig))
      [] in
      let k : Env = extend bs (in_block a) in
      let names : List (List ℕ) = receiver_around f.receiver in
      let params : List (List ℕ) = free_params [] f.sig.params in
      let results : List (List ℕ) = free_params [] f.sig.results in
      let inside : List (List ℕ) = free_stmts k.here f.body in
      let h3 : On (names ++ params ++ results) a m = on_first (names ++ params ++ results) inside a m h in
      let h2 : On (names ++ params) a m = on_first (names ++ params) results a m h3 in
      let y : Agrees [] k (bs ++ m) =
      agrees_after [] [] bs (in_block a) m (λ n i b. clash i) (agrees_in_block g) in
      let q : Agrees k.here k (bs ++ m) = record { bound = y.here; here = y.here; blank = y.blank } in
      let ft : func_type a f.sig ≡ func_type (file_env w home more None) f.sig =
      func_type-alike a f.sig m [] g (on_second names params a m h2) (on_second (names ++ params) results a m h3) in
      let r : receiver_of w (function_header home imports f) f.receiver
      ≡ receiver_of w (function_header home more f) f.receiver =
      receiver_of-alike w home imports more f f.receiver (on_first names params a m h2) in
      found_stmts-alike at (results_in (func_type a f.sig)) k f.body (bs ++ m) k.here q
      (kept inside bs a m (on_second (names ++ params ++ results) inside a m h))
      ∙ (λ z. found_stmts at (results_in (ft z))
      (extend (otherwise (given (ft z) (λ f'. body_binds (r z) f.sig f')) []) (in_block (file_env w home more None)))
      f.body)

  pub declaration_found-alike : (d : Decl S) →
      On (names_around w home imports d) (file_env w home imports None) (file_env w home more None).names →
      declaration_found at w home imports d ≡ declaration_found at w home more d
  declaration_found-alike (values (const_decl _ _ ss)) h = constants_found-alike 0 ss h
  declaration_found-alike (values (var_decl _ _ ss)) h = variables_found-alike ss h
  declaration_found-alike (values _) h = refl
  declaration_found-alike (types _ grouped ts) h = refl
  declaration_found-alike (func f) h = function_found-alike f h
