-- Packages in whose bodies parts stand for others are typed as before, whatever they import.
use Rattle.std.specs.Prelude.{◌≡◌, refl, ℕ, List}
use Rattle.go_tree.specs.File.{Func as Function}
use Rattle.go_tree.specs.Tree.{Stmts}
use Rattle.go_tree.specs.GoTypes.Collect.{aliased_world, typed_world, collected}
use Rattle.go_tree.specs.GoTypes.Entities.{World}
use Rattle.go_tree.specs.GoTypes.Programs.{a_func, Headed, headed}
use Rattle.go_kernel.specs.Kernel.{ImportPath, FuncName}
use Rattle.go_translation.specs.Here.{Here}
use Rattle.go_translation.specs.Packages.{Package, sources}
use Rattle.typed_in_place.specs.ImportRule.{SamePackage, declarations_ok}
use Rattle.typed_in_place.specs.ProgramReplaced.{InPlace}
use Rattle.typed_in_place.specs.ProgramsAlike.{OneByOne, no_more, and_more, AliasesStand, TypesStand, ValuesStand, BodiesAlike}
use Rattle.typed_in_place.proofs.ProgramsReplaced.{append_one, aliases_stand_itself, types_stand_itself, values_stand_itself, other_body_stands, declarations_as_before}
use Rattle.meaning_in_place.specs.InPackages.{header_stays, function_stands, HeadersChange, no_headers, and_header, MembersChange, no_packages, and_package}

module _ {S : Type 0} (Body : FuncName → List (List ℕ) → Here → Stmts S → Stmts S → Type 0) (paths : List (ℕ × ImportPath)) (w : World) where
  -- what holds of a declaration and itself, and of a function and one with another body
  module _ (R : Headed S → Headed S → Type 0) (itself : (h : Headed S) → R h h) (put : (h : Headed S) (f : Function S) (b : Stmts S) → R (record h { header = a_func f }) (record h { header = a_func (record f { body = b }) })) where
    each_header : {hs ks : List (Headed S)} → HeadersChange Body paths w hs ks → OneByOne R hs ks
    each_header no_headers = no_more
    each_header (and_header (header_stays {h = h}) rs) = and_more (itself h) (each_header rs)
    each_header (and_header (function_stands h f g n around {b = b} c e a q) rs) = and_more (put h f b) (each_header rs)

    every_header : {ps qs : List (Package S)} → MembersChange Body paths w ps qs → OneByOne R (headed (sources ps)) (headed (sources qs))
    every_header no_packages = no_more
    every_header (and_package e r rs) = append_one (each_header r) (every_header rs)

  module _ (ps qs : List (Package S)) (r : MembersChange Body paths w ps qs) where
    aliases_stand : (v : World) → OneByOne (AliasesStand v) (headed (sources ps)) (headed (sources qs))
    aliases_stand v = every_header (AliasesStand v) (λ h. aliases_stand_itself v h) (λ h f b. record { header = record { home = refl; file = refl; sound = refl; names = refl; method = refl }; alias = refl; defined = refl }) r

    types_stand : (v : World) → OneByOne (TypesStand v) (headed (sources ps)) (headed (sources qs))
    types_stand v = every_header (TypesStand v) (λ h. types_stand_itself v h) (λ h f b. record { good = λ ds. refl }) r

    values_stand : (v : World) → OneByOne (ValuesStand v) (headed (sources ps)) (headed (sources qs))
    values_stand v = every_header (ValuesStand v) (λ h. values_stand_itself v h) (λ h f b. other_body_stands v h f b) r

    in_place : OneByOne SamePackage (sources ps) (sources qs) → BodiesAlike (collected (sources ps)) (headed (sources ps)) (headed (sources qs)) → InPlace (sources ps) (sources qs)
    in_place packages bodies =
        record {
          aliases_before = aliases_stand (aliased_world (sources ps) (headed (sources ps)));
          aliases_after = aliases_stand (aliased_world (sources qs) (headed (sources qs)));
          types_before = types_stand (typed_world (sources ps) (headed (sources ps)));
          types_after = types_stand (typed_world (sources qs) (headed (sources qs)));
          before = λ v y. values_stand v;
          after = λ v y. values_stand v;
          bodies = bodies;
          packages = packages;
        }

    pub declared_still : OneByOne SamePackage (sources ps) (sources qs) → BodiesAlike (collected (sources ps)) (headed (sources ps)) (headed (sources qs)) → declarations_ok (sources ps) ≡ declarations_ok (sources qs)
    declared_still packages bodies = declarations_as_before (sources ps) (sources qs) (in_place packages bodies)
