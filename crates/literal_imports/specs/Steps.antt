-- Steps of a run that put a literal in the place of its call, and the imports of the call's file (Go specification,
-- Import declarations; Calls; Function literals; Constant declarations).
use Rattle.std.specs.Prelude.{◌≡◌, ℕ, Bool, true, false, not, List, [], map, filter, Some, slice_get}
use Rattle.go_tree.specs.declared.spans.Span.{Span}
use Rattle.go_tree.specs.File.{ImportSpec, Decl}
use Rattle.go_tree.specs.ScopeNames.Means.{means}
use Rattle.go_tree.specs.Tree.{Expr}
use Rattle.go_tree.specs.GoTypes.Entities.{universe}
use Rattle.go_tree.specs.GoTypes.Programs.{Import}
use Rattle.go_translation.specs.Packages as translated
use Rattle.pkg_graph.specs.Members.{import_name}
use Rattle.pkg_graph.specs.Package.{import_specs}
use Rattle.put_nodes.specs.Swapped.{FormedDecl}
use Rattle.run_rules.specs.FormTrees.{LiteralForm, as_expr}
use Rattle.run_rules.specs.Programs.{linked_import, numbered}
use Rattle.run_rules.specs.Respanned.{decl_with}
use Rattle.run_rules.specs.Steps.{Found, change_nth, file_between, is_new_unused, unused_specs}
use Rattle.literal_steps.specs.RankedMarks.Free.{Translated, NoConstantGroups}
use Rattle.constant_modules.specs.CountedUses.Typed.{TypesHaveValues}
use Rattle.constant_modules.specs.KeyedImports.Keyed.{means_value}
use Rattle.literals_in_place.specs.TypedSteps.Uses.{UseInBody, with_literal}

module _ {S : Type 0} (x : UseInBody S) where
  -- the step that a run takes at the use
  abbrev pub step_at : Found S
  step_at =
      record {
        site = x.site;
        kind = LiteralForm;
        form = x.becomes.form;
        range = x.becomes.range;
        named = x.becomes.packages;
      }

  -- the import specs that it removes: the use's file used these imports, and doesn't with the literal in the call's
  -- place
  abbrev pub removed_specs : List (ImportSpec S)
  removed_specs = unused_specs x.same x.commented x.packages x.marks step_at

  -- the import with this number goes
  abbrev pub goes : ℕ × ImportSpec S → Bool
  goes q = is_new_unused x.same x.commented x.packages x.marks step_at q

  -- the imports of the file that stay, as typing has them
  abbrev pub imports_left : List (Import S)
  imports_left =
      map (λ q. linked_import x.packages q.1)
      (filter (λ q. not (goes q)) (numbered (import_specs x.site.at.source.tree)))

  -- each declaration of the file with the literal in the call's place is well formed, as the one that is read again
  abbrev pub DeclarationsAreFormed : Type 0
  DeclarationsAreFormed =
      (i : ℕ) (d : Decl S) →
      slice_get (file_between x.same x.commented x.packages x.marks step_at).decls i ≡ Some d →
      FormedDecl (decl_with (λ s. s) d)

  -- no import that goes has the name of a predeclared value: `true`, `false`, `nil` or `iota`
  abbrev pub NoValueGoes : Type 0
  NoValueGoes =
      (k : ℕ) (s : ImportSpec S) → slice_get (import_specs x.site.at.source.tree) k ≡ Some s → goes (k, s) ≡ true →
      means_value (means universe (import_name x.packages s)) ≡ false

  -- in no group of constants that the file declares a member without values has a type, as in each text
  abbrev pub ValuesAreWritten : Type 0
  ValuesAreWritten =
      (i : ℕ) (d : Decl S) → slice_get x.site.at.source.tree.decls i ≡ Some d → TypesHaveValues d

-- A step of a run that puts the literal in the place of its call, which has no obstacle, and removes no import: the
-- packages are those of a translated program, whose marked functions declare no constants.
pub record KeepingStep (x : UseInBody Span) (e : Expr Span) : Type 0 where
  pub form_is : x.becomes.form ≡ as_expr e
  pub translated : Translated x.packages x.marks x.members
  pub no_constants : NoConstantGroups x.packages x.marks
  pub values_written : ValuesAreWritten x
  pub none_removed : removed_specs x ≡ []

-- a package with these imports in the file with this number
abbrev pub with_imports : {S : Type 0} → ℕ → List (Import S) → translated.Package S → translated.Package S
with_imports m is p =
    record p { source = record p.source { files = change_nth m (λ f. record f { imports = is }) p.source.files } }

-- the packages with the literal in the call's place, and without the imports that the step removes
abbrev pub settled : {S : Type 0} → UseInBody S → Expr S → List (translated.Package S)
settled x e =
    change_nth x.stands.nth (with_imports x.site.at.file_number (imports_left x)) (with_literal x e)

-- A step of a run that puts the literal in the place of its call, which has no obstacle, and removes the imports that
-- the call's file doesn't use any more: the packages are those of a translated program, whose marked functions declare
-- no constants.
pub record SettlingStep (x : UseInBody Span) (e : Expr Span) : Type 0 where
  pub form_is : x.becomes.form ≡ as_expr e
  pub translated : Translated x.packages x.marks x.members
  pub no_constants : NoConstantGroups x.packages x.marks
  pub formed : DeclarationsAreFormed x
  pub no_value_goes : NoValueGoes x
