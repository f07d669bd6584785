-- Uses of aliases that are asked of little: as written types and as expressions (Go specification, Alias declarations;
-- Types; Method declarations; Conversions).
use Rattle.std.specs.Prelude.{◌≡◌, List, [], ◌∷◌, Some, None, slice_get}
use Rattle.go_tree.specs.Tree.{TypeExpr, named, Expr, composite}
use Rattle.go_tree.specs.File.{Receiver, Func, Decl, func}
use Rattle.run_rules.specs.Surroundings.{Seen, seen, seen_type, seen_stmt}
use Rattle.run_rules.specs.Programs.{decl_seen}
use Rattle.run_rules.specs.Run.{Standing, Logged, Next}
use Rattle.run_rules.specs.Sites.{MarkRef, an_expr, a_type_part}
use Rattle.run_rules.specs.Steps.{At}
use Rattle.order_runs.specs.CycleRuns.KeptImports.Files.{RemovesNoNames}
use Rattle.order_runs.specs.CycleRuns.OrderCycles.NewNames.{AvoidsFew}
use Rattle.taken_aliases.specs.PutTexts.Uses.{UsesAliasText}
use Rattle.taken_aliases.specs.PutCalls.Uses.{MayBeLaid}

-- the type of a method's receiver
pub data IsReceiverType {S : Type 0} : Decl S → TypeExpr S → Type 0 where
  of_receiver :
      (f : Func S) (r : Receiver S) → f.receiver ≡ Some r → IsReceiverType (func f) (named r.of.span None r.of)

-- the part is no composite literal of this type
abbrev pub IsOfOther : {S : Type 0} → TypeExpr S → Seen S → Type 0
IsOfOther y (seen p u (composite s t es)) = t ≡ y → ⊥
IsOfOther y (seen p u x) = Unit {0}
IsOfOther y (seen_type p t) = Unit {0}
IsOfOther y (seen_stmt p s) = Unit {0}

-- nor is any of a list
abbrev pub AllOfOther : {S : Type 0} → TypeExpr S → List (Seen S) → Type 0
AllOfOther y [] = Unit {0}
AllOfOther y (x ∷ xs) = IsOfOther y x × AllOfOther y xs

module _ {marks : List MarkRef} {st : Standing} {l : Logged} {after : Standing} (n : Next marks st l after) where
  -- The use is a written type, but not that of a receiver, nor by itself that of a composite literal.
  pub record IsWrittenType (old : TypeExpr At) : Type 0 where
    pub part : n.found.site.part ≡ a_type_part old
    pub not_received :
        (d : Decl At) → slice_get n.found.site.at.source.tree.decls n.found.site.decl ≡ Some d
        → IsReceiverType d old → ⊥
    pub no_literal :
        (d : Decl At) → slice_get n.found.site.at.source.tree.decls n.found.site.decl ≡ Some d → AllOfOther old
        (decl_seen st.packages n.found.site.at.number n.found.site.at.of n.found.site.at.source.tree d)

  -- The use is such a written type; or an expression, in the place of which the alias's type may be laid out.
  pub data IsWritten (uses : UsesAliasText n) : Type 0 where
    as_a_type : (old : TypeExpr At) → IsWrittenType old → IsWritten uses
    as_an_expression :
        (old : Expr At) → n.found.site.part ≡ an_expr old → MayBeLaid n.found.site.place.slot uses.text → IsWritten uses

  -- A step over an alias, whatever its type, at such a use. The names to avoid are fewer than 2^64, and no import that
  -- goes has the name of an identifier.
  pub record IsOverWritten : Type 0 where
    pub uses : UsesAliasText n
    pub written : IsWritten uses
    pub few : AvoidsFew st.packages n.found
    pub removes : RemovesNoNames n
