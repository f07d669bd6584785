-- Files as values without places in memory.
use Rattle.std.specs.Prelude.{map}
use Rattle.std.specs.Option.{option_map}
use Rattle.go_tree.specs.declared.spans.Span.{Span}
use Rattle.go_tree.specs.declared.files.ImportSpec.{ImportSpec}
use Rattle.go_tree.specs.declared.files.ImportDecl.{ImportDecl}
use Rattle.go_tree.specs.declared.files.TypeSpec.{TypeSpec}
use Rattle.go_tree.specs.declared.files.Receiver.{Receiver}
use Rattle.go_tree.specs.declared.files.FuncDecl.{FuncDecl}
use Rattle.go_tree.specs.declared.files.Decl.{Decl}
use Rattle.go_tree.specs.declared.files.Decl.TheVariants.{Const, Var, Types, Func}
use Rattle.go_tree.specs.declared.files.FileTree.{FileTree}
use Rattle.go_tree.specs.View.{name_at_of, type_of, sig_of, stmts_of, const_decl_of, var_decl_of}
use Rattle.go_tree.specs.File as pure

-- one import as a value
abbrev pub import_spec_of : ImportSpec → pure.ImportSpec Span
import_spec_of s = record { span = s.span; name = option_map name_at_of s.name; path = s.path }

-- an import declaration as a value
abbrev pub import_decl_of : ImportDecl → pure.ImportDecl Span
import_decl_of d = record { span = d.span; grouped = d.grouped; specs = map import_spec_of d.specs }

-- the declaration of a type as a value
abbrev pub type_spec_of : TypeSpec → pure.TypeSpec Span
type_spec_of s = record { span = s.span; name = name_at_of s.name; alias = s.alias; of = type_of s.of }

-- a receiver as a value
abbrev pub receiver_of : Receiver → pure.Receiver Span
receiver_of r = record { span = r.span; name = option_map name_at_of r.name; pointer = r.pointer; of = name_at_of r.of }

-- a function or a method as a value
abbrev pub func_of : FuncDecl → pure.Func Span
func_of f = record {
  span = f.span;
  receiver = option_map receiver_of f.receiver;
  name = name_at_of f.name;
  sig = sig_of f.sig;
  body_span = f.body.span;
  body = stmts_of f.body.stmts;
}

-- a declaration as a value; those of constants and of variables are the statements that they are
abbrev pub decl_of : Decl → pure.Decl Span
decl_of (Const d) = pure.values (const_decl_of d)
decl_of (Var d) = pure.values (var_decl_of d)
decl_of (Types d) = pure.types d.span d.grouped (map type_spec_of d.specs)
decl_of (Func f) = pure.func (func_of f)

-- a source file as a value
abbrev pub file_of : FileTree → pure.File Span
file_of f = record {
  package_name = name_at_of f.package;
  imports = map import_decl_of f.imports;
  decls = map decl_of f.decls;
}
