-- Why a text is no `go.mod` of a module that can be read.
use Rattle.std.specs.Prelude.{◌≡◌, ⊤, List, ℕ}
use Rattle.pkg_graph.specs.ModuleFiles.ModuleFile.{no_module_line, old_go, module_of}
use Rattle.pkg_graph.specs.declared.module_files.faults.GraphError.{GraphError}
use Rattle.pkg_graph.specs.declared.module_files.faults.GraphError.TheVariants.{NoModuleLine, OldGo, NoMemory}

-- The error is what the text lacks. Want of memory says nothing of it.
abbrev pub IsModuleFault : List ℕ → GraphError → Type 0
IsModuleFault text NoModuleLine = module_of text ≡ no_module_line
IsModuleFault text (OldGo version) = module_of text ≡ old_go version
IsModuleFault text NoMemory = ⊤
IsModuleFault text _ = ⊥
