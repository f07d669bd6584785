-- What is told of the names of a declaration is told of its parts. Each law is the contract of a function of this crate
-- (Go specification, Qualified identifiers; Function declarations; Alias declarations).
use Rattle.std.specs.Prelude.{◌≡◌, ℕ, Bool, List, Option, Some, None, slice_get}
use Rattle.go_tree.specs.declared.spans.Span.{Span}
use Rattle.go_tree.specs.File.{TypeSpec, Func, func, types}
use Rattle.pkg_graph.specs.Package.{Package}
use Rattle.run_rules.specs.Naming.{Names}
use Rattle.run_rules.specs.Places.{sig_seen, stmts_seen}
use Rattle.run_rules.specs.Programs.{top_place, body_place, decl_seen}
use Rattle.run_rules.specs.Run.{here_of}
use Rattle.run_rules.specs.Sites.{Where, named_in}
use Rattle.run_rules.specs.Steps.{At}
use Rattle.call_forms.specs.ToldNames.{AllTold, TypesTold}

-- Of a function without a receiver it is told of the types in its signature and of the parts of its body, as
-- `literal_form` asks.
abbrev pub FunctionsAreTold : Type 0
FunctionsAreTold =
    (told : Span → Option (List ℕ)) (ps : List (Package At)) (w : Where At) (there : ℕ) (names : Names) (f : Func At)
    → f.receiver ≡ None → AllTold here_of told ps w there names (decl_seen ps w.number w.of w.source.tree (func f))
    → AllTold here_of told ps w there names (sig_seen (top_place ps w.number w.of w.source.tree) f.sig)
    × AllTold here_of told ps w there names (stmts_seen (body_place ps w.number w.of w.source.tree f) f.body)

-- Of an alias it is told of the names in its type, as `alias_type` and `alias_expr` ask.
abbrev pub AliasesAreTold : Type 0
AliasesAreTold =
    (told : Span → Option (List ℕ)) (ps : List (Package At)) (w : Where At) (there : ℕ) (names : Names) (s : At)
    (g : Bool) (ts : List (TypeSpec At)) (i : ℕ) (x : TypeSpec At) → slice_get ts i ≡ Some x
    → AllTold here_of told ps w there names (decl_seen ps w.number w.of w.source.tree (types s g ts))
    → TypesTold here_of told ps w there names (top_place ps w.number w.of w.source.tree) (named_in x.of)
