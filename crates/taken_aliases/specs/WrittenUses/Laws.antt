-- The laws of uses of aliases as they are found. Each is the contract of a function of this crate (Go specification,
-- Alias declarations; Types; Conversions).
use Rattle.std.specs.Prelude.{◌≡◌, List}
use Rattle.go_tree.specs.Tree.{TypeExpr, Expr}
use Rattle.run_rules.specs.Run.{Standing, Logged, Next}
use Rattle.run_rules.specs.Sites.{MarkRef, an_expr}
use Rattle.run_rules.specs.Steps.{At}
use Rattle.put_names.specs.PutTypes.Uses.{UsesTypeName}
use Rattle.put_names.specs.Uses.{IsUsedByName}
use Rattle.taken_aliases.specs.PutTexts.Uses.{UsesAliasText}
use Rattle.taken_aliases.specs.MixedRuns.Marked.{IsOverAlias}
use Rattle.taken_aliases.specs.WrittenUses.Uses.{IsWrittenType, IsOverWritten}

-- A use that is a written type, but not that of a receiver, nor by itself that of a composite literal, is a name of a
-- type that its declaration writes, as put_types asks of one.
abbrev pub WrittenUsesAreListed : Type 0
WrittenUsesAreListed =
    (marks : List MarkRef) (st : Standing) (l : Logged) (after : Standing) (n : Next marks st l after)
    (old : TypeExpr At) → IsWrittenType n old → UsesTypeName n

-- An expression that is a use of an alias is a name.
abbrev pub AliasUsesAreNames : Type 0
AliasUsesAreNames =
    (marks : List MarkRef) (st : Standing) (l : Logged) (after : Standing) (n : Next marks st l after)
    → UsesAliasText n → (e : Expr At) → n.found.site.part ≡ an_expr e → IsUsedByName n

-- So a step over such a use is one as mixed_runs asks.
abbrev pub WrittenUsesAreOver : Type 0
WrittenUsesAreOver =
    (marks : List MarkRef) (st : Standing) (l : Logged) (after : Standing) (n : Next marks st l after)
    → IsOverWritten n → IsOverAlias n
