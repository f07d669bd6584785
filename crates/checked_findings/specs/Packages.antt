-- What is found of declarations, files and packages, by file and declaration (Go specification, Packages; Constant
-- declarations; Iota; Variable declarations; Function declarations; Method declarations).
use Rattle.std.specs.Prelude.{ℕ, suc, Bool, false, true, List, [], ◌∷◌, ◌++◌, map, Option, Some, None}
use Rattle.go_tree.specs.Tree.{const_decl, var_decl, ValueSpecs, no_specs, spec}
use Rattle.go_tree.specs.File.{Receiver, Func, Decl, values, types, func}
use Rattle.go_tree.specs.ScopeNames.Means.{Environment}
use Rattle.go_tree.specs.ScopeNames.FreeNames.{free_type_option, free_params, free_exprs, free_stmts}
use Rattle.go_tree.specs.GoTypes.Types.{GoType}
use Rattle.go_tree.specs.GoTypes.Entities.{Entity, World, Env}
use Rattle.go_tree.specs.GoTypes.TypeNames.{func_type}
use Rattle.go_tree.specs.GoTypes.Programs.{SourceFile, SourcePackage, Program, a_func, Headed, block_names, file_block}
use Rattle.go_tree.specs.GoTypes.Programs.{file_env, env_of}
use Rattle.go_tree.specs.GoTypes.Collect.{collected}
use Rattle.go_tree.specs.GoTypes.WellTyped.{body_env}
use Rattle.checked_findings.specs.Facts.{Facts}
use Rattle.checked_findings.specs.Found.{results_in, constants_ask, variables_ask, found_all, found_stmts}

module _ {S : Type 0} where
  -- a function by its package, the imports of its file and itself
  abbrev pub function_header : ℕ → Environment Entity → Func S → Headed S
  function_header home imports f =
      record {
        home = home;
        in_main = false;
        file = 0;
        imports = imports;
        at = f.span;
        sound = true;
        header = a_func f;
      }

  -- the names that specs take from around them
  abbrev pub specs_around : ValueSpecs S → List (List ℕ)
  specs_around no_specs = []
  specs_around (spec _ ns t es ss) = free_type_option [] t ++ free_exprs [] es ++ specs_around ss

  -- the name of a receiver's type, if there is one
  abbrev pub receiver_around : Option (Receiver S) → List (List ℕ)
  receiver_around None = []
  receiver_around (Some r) = r.of.name ∷ []

  -- the names that a declaration takes from around it: those of its types and values, and those that a body uses beside
  -- the ones that it begins with
  abbrev pub names_around : World → ℕ → Environment Entity → Decl S → List (List ℕ)
  names_around w home imports (values (const_decl _ _ ss)) = specs_around ss
  names_around w home imports (values (var_decl _ _ ss)) = specs_around ss
  names_around w home imports (values s) = []
  names_around w home imports (types _ grouped ts) = []
  names_around w home imports (func f) =
      receiver_around f.receiver ++ free_params [] f.sig.params ++ free_params [] f.sig.results
      ++ free_stmts (body_env w (function_header home imports f) f).here f.body

  -- the results of a function
  abbrev pub function_results : World → Headed S → Func S → List GoType
  function_results w h f = results_in (func_type (env_of w h None) f.sig)

-- `at` says the place of a node by its span
module _ {S P : Type 0} (at : S → P) where
  -- ---- a declaration of a file: `w` is what all packages declare, `home` the file's package

  -- the constants of a declaration, each spec with its number
  abbrev pub constants_found : (ℕ → Env) → ℕ → ValueSpecs S → Facts P
  constants_found env i no_specs = []
  constants_found env i (spec _ ns t es ss) =
      found_all at (env i) (constants_ask (env i) t es) es ++ constants_found env (suc i) ss

  -- its variables
  abbrev pub variables_found : Env → ValueSpecs S → Facts P
  variables_found env no_specs = []
  variables_found env (spec _ ns t es ss) =
      found_all at env (variables_ask env ns t es) es ++ variables_found env ss

  -- the body of a function or method
  abbrev pub function_found : World → Headed S → Func S → Facts P
  function_found w h f = found_stmts at (function_results w h f) (body_env w h f) f.body

  -- a declaration, beside the imports of its file
  abbrev pub declaration_found : World → ℕ → Environment Entity → Decl S → Facts P
  declaration_found w home imports (values (const_decl _ _ ss)) =
      constants_found (λ i. file_env w home imports (Some i)) 0 ss
  declaration_found w home imports (values (var_decl _ _ ss)) = variables_found (file_env w home imports None) ss
  declaration_found w home imports (values s) = []
  declaration_found w home imports (types _ grouped ts) = []
  declaration_found w home imports (func f) = function_found w (function_header home imports f) f

  -- ---- files and packages

  -- the declarations of a file in their order; `members` are the names of the package block
  abbrev pub file_found : World → ℕ → List (List ℕ) → SourceFile S → List (Facts P)
  file_found w home members f = map (declaration_found w home (file_block members [] f.imports)) f.decls

  -- the files of a package in their order
  abbrev pub package_found : World → SourcePackage S → List (List (Facts P))
  package_found w p = map (file_found w p.number (block_names p.files)) p.files

  -- the packages of a program in their order
  abbrev pub program_found : Program S → List (List (List (Facts P)))
  program_found ps = map (package_found (collected ps)) ps
