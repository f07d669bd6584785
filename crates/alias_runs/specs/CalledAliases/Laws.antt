-- The laws of steps over aliases as expressions, in any packages. Each is the contract of a function of this crate (Go
-- specification, Alias declarations; Conversions; Qualified identifiers; Exported identifiers; Declarations and scope).
use Rattle.std.specs.Prelude.{◌≡◌, ℕ, Bool, true, List, ◌++◌}
use Rattle.go_tree.specs.declared.spans.Span.{Span}
use Rattle.pkg_graph.specs.Package.{Package}
use Rattle.go_translation.specs.Packages as translated
use Rattle.go_translation.specs.Packages.{sources, are_well_typed}
use Rattle.go_translation.specs.SameMeaning.{Packages, WellTyped, with_further, SameMeaning}
use Rattle.run_rules.specs.Sites.{MarkRef, Site, part_span}
use Rattle.run_rules.specs.FormTrees.{as_expr, type_expr}
use Rattle.alias_runs.specs.AliasSteps.AliasSteps.{form_put, members_with_form, AliasSwaps}
use Rattle.alias_runs.specs.QualifiedAliases.AliasUse.{AliasUse, AliasUseStands, text_there, PackagesHold}
use Rattle.alias_runs.specs.QualifiedAliases.Laws.{ImportsAreRight}
use Rattle.alias_runs.specs.CalledAliases.CalledUse.{IsCalledUse, IsPlaced}

-- The form of a use of an alias as an expression, in whose way nothing stands, is the type that the alias is declared
-- as, written as an expression, and stands in the use's place.
abbrev pub CalledFormsAreTypes : Type 0
CalledFormsAreTypes =
    (same : Span → Span → Bool) (commented : ℕ → ℕ → Span → Bool) (rs : List (Package Span)) (marks : List MarkRef)
    (x : Site Span) (u : AliasUse same commented rs marks x) (v : AliasUseStands same commented rs marks x u) →
    IsCalledUse same commented rs marks x u v →
    (u.form ≡ as_expr (type_expr (part_span x.part) (text_there same commented rs marks x u)))
    × (u.range ≡ part_span x.part)

-- At a use of an alias as a written type or as an expression, in well-typed packages, what stands at the use's span are
-- uses of the alias, and what is put is the alias's text there, before the step and after it, beside all further
-- packages.
abbrev pub PlacedUsesSwap : Type 0
PlacedUsesSwap =
    (same : Span → Span → Bool) (commented : ℕ → ℕ → Span → Bool) (rs : List (Package Span)) (marks : List MarkRef)
    (x : Site Span) (u : AliasUse same commented rs marks x) (v : AliasUseStands same commented rs marks x u) →
    IsPlaced same commented rs marks x u v → (ms Q : List (translated.Package Span))
    (a : PackagesHold same commented rs marks x u (sources ms)) → are_well_typed (ms ++ Q) ≡ true →
    AliasSwaps same rs (part_span x.part) u.form x.at.number x.at.of x.at.source.tree (sources Q) a.use_.nth
    x.at.file_number x.decl (sources ms)

-- So the packages after the step mean what those before do, beside all further packages, where their imports are right.
abbrev pub PlacedUsesMeanTheSame : Type 0
PlacedUsesMeanTheSame =
    (same : Span → Span → Bool) (commented : ℕ → ℕ → Span → Bool) (rs : List (Package Span)) (marks : List MarkRef)
    (x : Site Span) (u : AliasUse same commented rs marks x) (v : AliasUseStands same commented rs marks x u) →
    IsPlaced same commented rs marks x u v → (P : Packages Span)
    (a : PackagesHold same commented rs marks x u (sources P.members)) →
    ((Q : List (translated.Package Span)) → WellTyped (with_further P Q) → ImportsAreRight (form_put same rs
    (part_span x.part) u.form x.at.number x.at.of x.at.source.tree a.use_.nth x.at.file_number x.decl
    (sources P.members)) (sources Q)) →
    SameMeaning P (record P {
      members = members_with_form same rs (part_span x.part) u.form x.at.number x.at.of x.at.source.tree a.use_.nth
          x.at.file_number x.decl P.members;
    })
