-- Walks over declarations and files, in the order of the source.
use Rattle.std.specs.Prelude.{ℕ, List, [], ◌∷◌, Option, Some, None}
use Rattle.go_tree.specs.declared.spans.Span.{Span}
use Rattle.go_tree.specs.File.{ImportSpec, ImportDecl, TypeSpec, Receiver, Func, Decl, values, types, func, File}
use Rattle.name_walks.specs.Walk.{Walk, mention, enter, nesting, leave}
use Rattle.names_within.specs.TreeWalk.{mention_option, bind_option, begin_option, begin_sig, after_type, after_sig}
use Rattle.names_within.specs.TreeWalk.{after_stmt, after_stmts}

-- the names that the specs of an import declaration give
abbrev pub after_import_specs : List (ImportSpec Span) → Walk → Walk
after_import_specs [] s = s
after_import_specs (x ∷ xs) s = after_import_specs xs (mention_option x.name s)

-- the names that import declarations give
abbrev pub after_imports : List (ImportDecl Span) → Walk → Walk
after_imports [] s = s
after_imports (x ∷ xs) s = after_imports xs (after_import_specs x.specs s)

-- the names of declared types, each before its type
abbrev pub after_type_specs : List (TypeSpec Span) → Walk → Walk
after_type_specs [] s = s
after_type_specs (x ∷ xs) s = after_type_specs xs (after_type x.of (mention x.name.name s))

-- the receiver's name, and that of its type
abbrev pub after_receiver : Option (Receiver Span) → Walk → Walk
after_receiver None s = s
after_receiver (Some r) s = mention r.of.name (bind_option r.name s)

-- the receiver as the body sees it
abbrev pub begin_receiver : ℕ → Option (Receiver Span) → Walk → Walk
begin_receiver from None s = s
begin_receiver from (Some r) s = begin_option from r.name s

-- what stands before the body of a function: its receiver, its name and its signature
abbrev pub after_header : Func Span → Walk → Walk
after_header f s = after_sig f.sig (mention f.name.name (after_receiver f.receiver s))

-- the body of a function, a block in which its receiver and its signature are declared
abbrev pub after_body : Func Span → Walk → Walk
after_body f s =
    leave (nesting s)
    (after_stmts f.body
    (begin_sig f.body_span.start f.sig (begin_receiver f.body_span.start f.receiver (enter f.body_span.end s))))

-- a function or a method
abbrev pub after_func : Func Span → Walk → Walk
after_func f s = after_body f (after_header f s)

-- a declaration
abbrev pub after_decl : Decl Span → Walk → Walk
after_decl (values x) s = after_stmt x s
after_decl (types _ _ xs) s = after_type_specs xs s
after_decl (func f) s = after_func f s

-- declarations in their order
abbrev pub after_decls : List (Decl Span) → Walk → Walk
after_decls [] s = s
after_decls (x ∷ xs) s = after_decls xs (after_decl x s)

-- a file: its package's name, its imports and its declarations
abbrev pub after_file : File Span → Walk → Walk
after_file f s = after_decls f.decls (after_imports f.imports (mention f.package_name.name s))
