-- Files without their spans: two files are equal, spans aside, where these are.
use Rattle.std.specs.Prelude.{map}
use Rattle.std.specs.Option.{option_map}
use Rattle.go_tree.specs.Bare.{bare_name, bare_type, bare_sig, bare_stmt, bare_stmts}
use Rattle.go_tree.specs.File as pure

module _ {S : Type 0} where
  -- one import without spans
  abbrev pub bare_import_spec : pure.ImportSpec S → pure.ImportSpec (Unit {0})
  bare_import_spec s = record { span = tt; name = option_map bare_name s.name; path = s.path }

  -- an import declaration without spans
  abbrev pub bare_import_decl : pure.ImportDecl S → pure.ImportDecl (Unit {0})
  bare_import_decl d = record { span = tt; grouped = d.grouped; specs = map bare_import_spec d.specs }

  -- the declaration of a type without spans
  abbrev pub bare_type_spec : pure.TypeSpec S → pure.TypeSpec (Unit {0})
  bare_type_spec s = record { span = tt; name = bare_name s.name; alias = s.alias; of = bare_type s.of }

  -- a receiver without spans
  abbrev pub bare_receiver : pure.Receiver S → pure.Receiver (Unit {0})
  bare_receiver r = record { span = tt; name = option_map bare_name r.name; pointer = r.pointer; of = bare_name r.of }

  -- a function or a method without spans
  abbrev pub bare_func : pure.Func S → pure.Func (Unit {0})
  bare_func f =
      record {
        span = tt;
        receiver = option_map bare_receiver f.receiver;
        name = bare_name f.name;
        sig = bare_sig f.sig;
        body_span = tt;
        body = bare_stmts f.body;
      }

  -- a declaration without spans
  abbrev pub bare_decl : pure.Decl S → pure.Decl (Unit {0})
  bare_decl (pure.values s) = pure.values (bare_stmt s)
  bare_decl (pure.types _ grouped specs) = pure.types tt grouped (map bare_type_spec specs)
  bare_decl (pure.func f) = pure.func (bare_func f)

  -- a source file without spans
  abbrev pub bare_file : pure.File S → pure.File (Unit {0})
  bare_file f =
      record {
        package_name = bare_name f.package_name;
        imports = map bare_import_decl f.imports;
        decls = map bare_decl f.decls;
      }
