-- Small texts and paths (Go Modules Reference; the go command's documentation, Package lists and patterns; Internal
-- Directories).
use Rattle.std.proofs.Common.{◌≡◌, [], ◌∷◌, map, true, false, refl, codes}
use Rattle.bstr.proofs.Computing.{computing}
use Rattle.pkg_graph.specs.ModuleFiles.Pieces.{folder_of}
use Rattle.pkg_graph.specs.ModuleFiles.Selected.{selected}
use Rattle.pkg_graph.specs.ModuleFiles.ModuleFile.{argument_in, module_path, is_version, unquoted, digits, behind_digits, is_number, is_minor, version_answer, path_answer, is_module, no_module_line, old_go, module_of}
use Rattle.pkg_graph.specs.ModuleFiles.Internal.{passes, may_import}

-- ---- go.mod

usual : module_of (codes "module example.com/m\n\ngo 1.22\n") ≡ is_module (codes "example.com/m")
unfolding computing argument_in module_path is_version unquoted digits behind_digits is_number is_minor version_answer path_answer
usual = refl

-- quotes, comments, blanks and other lines
with_more : module_of (codes "// a module\nrequire a.b v1\n\tmodule \"example.com/m\" // here\r\ngo 2.0rc1 // go\n") ≡ is_module (codes "example.com/m")
unfolding computing argument_in module_path is_version unquoted digits behind_digits is_number is_minor version_answer path_answer
with_more = refl

too_old : module_of (codes "module example.com/m\ngo 1.21") ≡ old_go (codes "1.21")
unfolding computing argument_in module_path is_version unquoted digits behind_digits is_number is_minor version_answer path_answer
too_old = refl

no_go_line : module_of (codes "module example.com/m\n") ≡ old_go (codes "none")
unfolding computing argument_in module_path is_version unquoted digits behind_digits is_number is_minor version_answer path_answer
no_go_line = refl

not_a_version : module_of (codes "module m\ngo latest\n") ≡ old_go (codes "latest")
unfolding computing argument_in module_path is_version unquoted digits behind_digits is_number is_minor version_answer path_answer
not_a_version = refl

no_line : module_of (codes "go 1.22\nmodule a b\n") ≡ no_module_line
unfolding computing argument_in module_path is_version unquoted digits behind_digits is_number is_minor version_answer path_answer
no_line = refl

-- the first module line counts
no_path : module_of (codes "module \"\"\nmodule m\ngo 1.22\n") ≡ no_module_line
unfolding computing argument_in module_path is_version unquoted digits behind_digits is_number is_minor version_answer path_answer
no_path = refl

-- ---- files

chosen : selected (map codes ("a/_x.go" ∷ "a/b.go" ∷ "a/b_test.go" ∷ "a/testdata/c.go" ∷ "go.mod" ∷ "main.go" ∷ "sub/go.mod" ∷ "sub/in/d.go" ∷ "vendor/e.go" ∷ "x.txt" ∷ [])) ≡ 1 ∷ 4 ∷ 5 ∷ []
chosen = refl

parts : folder_of (codes "a/b/c.go") ≡ codes "a/b"
parts = refl

-- ---- internal packages

within : may_import (codes "m/a/b") (codes "m/a/internal/x") ≡ true
unfolding passes
within = refl

elsewhere : may_import (codes "m/b") (codes "m/a/internal/x") ≡ false
unfolding passes
elsewhere = refl

at_the_front : may_import (codes "m/b") (codes "internal/x") ≡ true
unfolding passes
at_the_front = refl

only_near : may_import (codes "m/ab") (codes "m/a/internal") ≡ false
unfolding passes
only_near = refl
