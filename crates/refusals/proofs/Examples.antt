-- Lines of refusals.
use Rattle.std.proofs.Common.{◌≡◌, refl, ℕ, List, [], codes}
use Rattle.std.specs.Prelude.{Some, None}
use Rattle.std.specs.Fmt.{digits}
use Rattle.go_tree.specs.declared.spans.Place.{Place}
use Rattle.refusals.specs.declared.refusal.Detail.TheVariants.{BadToken, TooBig, Unsupported, NoModuleLine, OldGo, NoPackage, Cycle, NotTyped, TooLarge, NotYet}
use Rattle.refusals.specs.declared.refusal.Limit.TheVariants.{StepsOfUse}
use Rattle.refusals.specs.Line.{line_of}

abbrev main : List ℕ
main = codes "main.go"

abbrev at : ℕ → ℕ → Place
at line col = record { line = line; col = col }

a_string_that_is_open : line_of (record { file = Some 1; place = Some (at 4 10); detail = BadToken }) main ≡ codes "gofix: 102 main.go:4:10: bad token\n"
unfolding digits
a_string_that_is_open = refl

a_goroutine : line_of (record { file = Some 1; place = Some (at 4 2); detail = Unsupported (codes "go") }) main ≡ codes "gofix: 110 main.go:4:2: go\n"
unfolding digits
a_goroutine = refl

a_long_file : line_of (record { file = Some 1; place = None; detail = TooBig }) main ≡ codes "gofix: 103 main.go: too large\n"
unfolding digits
a_long_file = refl

many_files : line_of (record { file = None; place = None; detail = TooBig }) [] ≡ codes "gofix: 103 module: too large\n"
unfolding digits
many_files = refl

no_module : line_of (record { file = None; place = None; detail = NoModuleLine }) [] ≡ codes "gofix: 301 go.mod: no module line\n"
unfolding digits
no_module = refl

an_old_version : line_of (record { file = None; place = None; detail = OldGo (codes "1.21") }) [] ≡ codes "gofix: 302 go.mod: 1.21\n"
unfolding digits
an_old_version = refl

an_import_of_no_package : line_of (record { file = Some 1; place = Some (at 3 8); detail = NoPackage (codes "fmt") }) main ≡ codes "gofix: 304 main.go:3:8: fmt\n"
unfolding digits
an_import_of_no_package = refl

a_cycle : line_of (record { file = None; place = None; detail = Cycle (codes "example.com/m/a") }) [] ≡ codes "gofix: 305 example.com/m/a: import cycle\n"
unfolding digits
a_cycle = refl

a_place_of_a_declaration : line_of (record { file = Some 1; place = Some (at 3 1); detail = NotTyped }) main ≡ codes "gofix: 401 main.go:3:1: not typed\n"
unfolding digits
a_place_of_a_declaration = refl

a_module_as_a_whole : line_of (record { file = None; place = None; detail = NotTyped }) [] ≡ codes "gofix: 401 module: not typed\n"
unfolding digits
a_module_as_a_whole = refl

many_steps_of_one_use : line_of (record { file = Some 1; place = None; detail = TooLarge StepsOfUse 1025 1024 }) main ≡ codes "gofix: 501 main.go: steps of one use\n"
unfolding digits
many_steps_of_one_use = refl

not_built : line_of (record { file = None; place = None; detail = NotYet }) [] ≡ codes "gofix: 100 module: not built yet\n"
unfolding digits
not_built = refl
