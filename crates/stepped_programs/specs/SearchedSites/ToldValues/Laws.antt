-- The law of values that are told (Go specification, Constant declarations; Qualified identifiers; Declarations and
-- scope).
use Rattle.std.specs.Prelude.{◌≡◌, true, List, map}
use Rattle.go_tree.specs.Tree.{NameAt, Expr}
use Rattle.pkg_graph.specs.Package.{Package}
use Rattle.pkg_graph.specs.Views.{package_view}
use Rattle.pkg_graph.specs.declared.packages.Package as code
use Rattle.run_rules.specs.Sites.{MarkRef, Where, is_among_marks}
use Rattle.run_rules.specs.Respanned.{packages_with}
use Rattle.run_rules.specs.Run.{here_of}
use Rattle.run_rules.specs.Steps.{At}
use Rattle.repeated_parts.specs.declared.use_search.mark_values.marked.PackageScopes.{PackageScopes}
use Rattle.repeated_parts.specs.UseSearch.MarkValues.Laws.{IsDeclared}
use Rattle.repeated_parts.specs.UseSearch.MarkValues.Tables.{Known, value_in, AreValuesOf}
use Rattle.printed_constants.specs.Uses.{IsDeclaredAsName}
use Rattle.stepped_programs.specs.SearchedSites.Told.{IsToldValue}

-- Of each marked constant that is declared as a name the table tells what it is declared as.
abbrev pub ValuesAreTold : Type 0
ValuesAreTold =
    (ps : List (Package At)) (cs : List code.Package) (fs : List PackageScopes) (marks : List MarkRef) (t : Known)
    (m : MarkRef) (home : Where At) (n : NameAt At) (e : Expr At)
    → map package_view cs ≡ packages_with here_of ps → AreValuesOf cs fs marks t → is_among_marks marks m ≡ true
    → IsDeclared ps fs m home n e → IsDeclaredAsName ps home e → IsToldValue ps home e (value_in t m)
