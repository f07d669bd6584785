-- What a search among the uses of marked constants in a file finds: those that are kept, up to the first that is free
-- (Go specification, Constant declarations; Qualified identifiers).
use Rattle.std.specs.Prelude.{◌≡◌, ◌⊎◌, List, [], ◌∷◌, ◌++◌, map, Option, Some, None}
use Rattle.go_tree.specs.declared.spans.Span.{Span}
use Rattle.go_tree.specs.FileView.{file_of}
use Rattle.pkg_graph.specs.Package.{Package}
use Rattle.run_rules.specs.Programs.{numbered}
use Rattle.run_rules.specs.Sites.{MarkRef}
use Rattle.constant_forms.specs.declared.obstacles.Obstacle.{Obstacle}
use Rattle.constant_forms.specs.declared.reduced.ReducedConstant.TheVariants.{Becomes, Kept}
use Rattle.repeated_parts.specs.declared.use_search.uses_of_marks.uses.MarkedUse.{MarkedUse}
use Rattle.repeated_parts.specs.UseSearch.UsesOfMarks.Uses.{decls_uses}
use Rattle.repeated_parts.specs.UseSearch.UsesOfMarks.Views.{placed_of}
use Rattle.repeated_parts.specs.declared.use_search.search.FoundForm.{FoundForm}
use Rattle.repeated_parts.specs.declared.use_search.search.FoundObstacle.{FoundObstacle}
use Rattle.repeated_parts.specs.declared.use_search.views.FileView.{FileView}
use Rattle.repeated_parts.specs.declared.use_search.views.ProgramView.{ProgramView}
use Rattle.repeated_parts.specs.UseSearch.Answers.{IsAnswer, names_of}

-- a use that is kept
abbrev pub kept_by : MarkedUse → Obstacle → FoundObstacle
kept_by u o = record { use_ = u; obstacle = o }

module _ (p : ProgramView) (f : FileView) where
  -- One use is looked at: it is free; or it is kept, and added to those that are, unless nothing is answered of it.
  abbrev pub IsLooked : MarkedUse → List FoundObstacle → List FoundObstacle → Option FoundForm → Type 0
  IsLooked u old new (Some g) = (g.use_ ≡ u) × (IsAnswer p f u (Some (Becomes g.form)) × (new ≡ old))
  IsLooked u old new None =
      ((o : Obstacle) × (IsAnswer p f u (Some (Kept o)) × (new ≡ old ++ kept_by u o ∷ [])))
      ⊎ (IsAnswer p f u None × (new ≡ old))

  -- Of the uses of a list, in their order, these are kept, up to the first that is free; nothing may be answered of
  -- others.
  pub data IsSearched : List MarkedUse → List FoundObstacle → Option FoundForm → Type 0 where
    at_the_end : IsSearched [] [] None
    past_kept : (u : MarkedUse) (o : Obstacle) (us : List MarkedUse) (ks : List FoundObstacle) (r : Option FoundForm)
        → IsAnswer p f u (Some (Kept o)) → IsSearched us ks r → IsSearched (u ∷ us) (kept_by u o ∷ ks) r
    past_unanswered : (u : MarkedUse) (us : List MarkedUse) (ks : List FoundObstacle) (r : Option FoundForm)
        → IsAnswer p f u None → IsSearched us ks r → IsSearched (u ∷ us) ks r
    at_free : (g : FoundForm) (us : List MarkedUse) → IsAnswer p f g.use_ (Some (Becomes g.form))
        → IsSearched (g.use_ ∷ us) [] (Some g)

-- Of the uses of marked constants in a file, among packages in which these declarations are marked.
pub record IsFileSearch
    (ps : List (Package Span)) (marks : List MarkRef) (p : ProgramView) (f : FileView) (kept : List FoundObstacle)
    (free : Option FoundForm) : Type 0 where
  pub uses : List MarkedUse
  pub are_all :
      map placed_of uses
      ≡ decls_uses (λ s. s) ps marks (names_of f) p.types.now (numbered (file_of f.tree.now).decls)
  pub searched : IsSearched p f uses kept free
