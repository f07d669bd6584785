-- The sites of a program that a search passes, and the first that is free (Go specification, Constant declarations;
-- Qualified identifiers).
use Rattle.std.specs.Prelude.{◌≡◌, ℕ, List, [], ◌∷◌, ◌++◌, Option, Some, None}
use Rattle.std.specs.Option.{option_map, option_to_list}
use Rattle.pkg_graph.specs.Package.{SourceTree, Package}
use Rattle.run_rules.specs.Programs.{numbered, in_dependency_order}
use Rattle.run_rules.specs.Sites.{MarkRef, Where, Site, part_span, decls_sites}
use Rattle.run_rules.specs.FormTrees.{ConstForm}
use Rattle.run_rules.specs.Marks.{home_path, marked_name}
use Rattle.run_rules.specs.Reduced.{reduced}
use Rattle.run_rules.specs.Steps.{At, same_here, Found}
use Rattle.run_rules.specs.Run.{Standing, KeptUse, Kept, here_of, is_commented}
use Rattle.constant_forms.specs.declared.reduced.ReducedConstant.TheVariants.{Becomes}
use Rattle.constant_forms.specs.Views.{named_of, form_of, obstacle_of, reduced_of}
use Rattle.repeated_parts.specs.declared.use_search.uses_of_marks.uses.MarkedUse.{MarkedUse}
use Rattle.repeated_parts.specs.UseSearch.UsesOfMarks.Views.{placed_of}
use Rattle.repeated_parts.specs.UseSearch.UsesOfMarks.Laws.{placed_site}
use Rattle.repeated_parts.specs.declared.use_search.search.FoundForm.{FoundForm}
use Rattle.repeated_parts.specs.declared.use_search.search.FoundObstacle.{FoundObstacle}

-- the use stands where the site does, with its mark and its flag
abbrev pub StandsFor : Site At → MarkedUse → Type 0
StandsFor x u = placed_of u ≡ placed_site x

-- a site that becomes a form, as a run finds it
abbrev pub found_of : Site At → FoundForm → Found At
found_of x g =
    record {
      site = x;
      kind = ConstForm;
      form = form_of (part_span x.part) g.form;
      range = part_span x.part;
      named = option_to_list (option_map named_of g.form.package);
    }

module _ (marks : List MarkRef) (st : Standing) where
  -- The site is kept, by this obstacle.
  abbrev pub IsKept : Site At → FoundObstacle → Type 0
  IsKept x k = StandsFor x k.use_ × Kept marks st x (obstacle_of k.obstacle)

  -- The site becomes this form.
  pub record IsFree (x : Site At) (g : FoundForm) : Type 0 where
    pub stands_for : StandsFor x g.use_
    pub becomes :
        reduced same_here (is_commented st) st.packages marks x
        ≡ Some (reduced_of (part_span x.part) (Becomes g.form))
    pub there : g.form.span ≡ here_of (part_span x.part)

  -- Of the sites, in their order, these are kept, up to the first that is free.
  pub data AreSearched : List (Site At) → List FoundObstacle → Option FoundForm → Type 0 where
    at_the_end : AreSearched [] [] None
    past_kept : (x : Site At) (k : FoundObstacle) (xs : List (Site At)) (ks : List FoundObstacle) (r : Option FoundForm)
        → IsKept x k → AreSearched xs ks r → AreSearched (x ∷ xs) (k ∷ ks) r
    at_free : (x : Site At) (g : FoundForm) (xs : List (Site At)) → IsFree x g → AreSearched (x ∷ xs) [] (Some g)

  -- what is told of sites that are kept
  abbrev pub kept_told : List (Site At) → List FoundObstacle → List KeptUse
  kept_told (x ∷ xs) (k ∷ ks) =
      record {
        file = x.at.source.path;
        origin = (part_span x.part).origin;
        home = home_path st.packages x.mark;
        name = marked_name st.packages x.mark;
        obstacle = obstacle_of k.obstacle;
      } ∷ kept_told xs ks
  kept_told xs ks = []

  -- the sites of a file
  abbrev pub sites_in_file : Where At → List (Site At)
  sites_in_file w = decls_sites st.packages marks w (numbered w.source.tree.decls)

  -- those of files
  abbrev pub sites_in_files : List (Where At) → List (Site At)
  sites_in_files [] = []
  sites_in_files (w ∷ ws) = sites_in_file w ++ sites_in_files ws

  -- Of files, in their order, all sites are kept, up to the first that is free.
  pub data FilesSearched : List (Where At) → Option FoundForm → Type 0 where
    no_file : FilesSearched [] None
    past_file : (w : Where At) (ks : List FoundObstacle) (ws : List (Where At)) (r : Option FoundForm)
        → AreSearched (sites_in_file w) ks None → FilesSearched ws r → FilesSearched (w ∷ ws) r
    in_file : (w : Where At) (ks : List FoundObstacle) (g : FoundForm) (ws : List (Where At))
        → AreSearched (sites_in_file w) ks (Some g) → FilesSearched (w ∷ ws) (Some g)

-- ---- files in the order in which a run looks at them

-- numbered files of a package
abbrev pub files_there : ℕ → Package At → List (ℕ × SourceTree At) → List (Where At)
files_there k p [] = []
files_there k p (f ∷ fs) = record { number = k; of = p; file_number = f.0; source = f.1 } ∷ files_there k p fs

-- those of numbered packages
abbrev pub packages_files : List (ℕ × Package At) → List (Where At)
packages_files [] = []
packages_files (q ∷ qs) = files_there q.0 q.1 (numbered q.1.files) ++ packages_files qs

-- the files of a program: packages in dependency order, files by their paths
abbrev pub files_in_order : List (Package At) → List (Where At)
files_in_order ps = packages_files (in_dependency_order ps)
