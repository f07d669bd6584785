-- A step of a run over a plain use of a constant keeps the kernel program beside all further packages.
use Rattle.std.proofs.Common.{◌≡◌, refl, sym, subst, ◌∙◌, ℕ, zero, suc, Bool, true, List, [], ◌∷◌, ◌++◌, map, Some, None}
use Rattle.std.specs.Prelude.{slice_get}
use Rattle.go_tree.specs.declared.spans.Span.{Span}
use Rattle.go_tree.specs.Tree.{Expr, ident}
use Rattle.go_tree.specs.File.{Decl, File}
use Rattle.go_tree.specs.FileBare.{bare_decl}
use Rattle.go_kernel.specs.Kernel.{FuncName}
use Rattle.run_rules.specs.declared.import_rules.new_import.NewImport.{NewImport}
use Rattle.pkg_graph.specs.Package as run
use Rattle.pkg_graph.specs.Package.{SourceTree, import_specs}
use Rattle.typed_in_place.specs.ProgramsAlike.{OneByOne}
use Rattle.typed_in_place.proofs.ProgramsReplaced.{one_by_one}
use Rattle.go_translation.specs.Packages.{Package, sources, codes_of, are_distinct, are_well_typed}
use Rattle.run_rules.specs.Programs.{in_dependency_order, linked, decl_seen}
use Rattle.run_rules.specs.Respanned.{decls_with}
use Rattle.run_rules.specs.Sites.{MarkRef, Site, part_span}
use Rattle.run_rules.specs.Naming.{imports_added, unnamed_package}
use Rattle.run_rules.specs.Steps.{At, same_here, change_nth, new_decls, added_decls, file_between, packages_between}
use Rattle.run_rules.specs.Run.{Standing, Logged, Next, here_of, origin_of, is_commented}
use Rattle.splice_laws.proofs.RunLaws.FoundSpans.{Placed}
use Rattle.splice_laws.specs.ImportSplices.FormSplices.Laws.{MakesForm}
use Rattle.splice_laws.proofs.ImportSplices.FormSplices.FormsFound.{step-makes-form}
use Rattle.constant_steps.specs.StepLaws.ConstantSteps.{ConstantStep}
use Rattle.constant_steps.specs.StepLaws.ConstantSwaps.{ConstantSwaps}
use Rattle.constant_steps.specs.StepLaws.SwapPrograms.{members_put}
use Rattle.constant_steps.proofs.StepLaws.StepMeaning.{typed-after, distinct-before}
use Rattle.constant_steps.proofs.StepLaws.StepSwaps.{swaps-when-typed}
use Rattle.constant_steps.proofs.StepLaws.StepUses.{step-with-uses}
use Rattle.constant_steps.proofs.StepLaws.SwapProgram.{constant-codes}
use Rattle.order_runs.specs.CycleRuns.StepCycles.PackagesAlike.{import_key}
use Rattle.order_runs.proofs.CycleRuns.StepCycles.StepAlike.{one-changed, both-changed, found-placed}
use Rattle.order_runs.proofs.CycleLaws.BareWith as spans
use Rattle.constant_steps.specs.PlainUse.{AllTheUse, PlainUse, UseStands}
use Rattle.constant_steps.proofs.PlainForms.{no_packages}
use Rattle.constant_steps.proofs.PlainImports.{Distinct, distinct_sources, well, plain_imports}
use Rattle.constant_steps.proofs.PlainLinked.{plain_linked}
use Rattle.constant_steps.proofs.PlainSteps.{plain_swaps}
use Rattle.order_runs.specs.RunSteps.Bared.{bare_package, bare_members}
use Rattle.order_runs.specs.RunSteps.RunPackages.{members_of, packages_of}
use Rattle.order_runs.specs.RunSteps.SameCode.{SameCode}
use Rattle.order_runs.specs.RunSteps.PlainNext.{IsPlain}
use Rattle.order_runs.proofs.RunSteps.SpansForgotten.{codes-alike, typed-alike, beside-alike}
use Rattle.order_runs.proofs.RunSteps.MembersViewed.{sources-linked, FileView, PackageView, PackagePath, file-view-itself, view-itself, path-itself, import-by-keys, paths-viewed, linked-viewed, zipped}
use Rattle.order_runs.proofs.RunSteps.SeatedUses.{Seated, sites-seated}
use Rattle.order_runs.proofs.RunSteps.PackageStands.{distinct-front, StandsAt, package-stands}

nothing-behind : {A : Type 0} (xs : List A) → xs ++ [] ≡ xs
nothing-behind [] = refl
nothing-behind (x ∷ xs) = λ v. x ∷ nothing-behind xs v

bare-decls : (ds : List (Decl At)) → map bare_decl (decls_with origin_of ds) ≡ map bare_decl ds
bare-decls [] = refl
bare-decls (d ∷ ds) = λ v. spans.decl-with origin_of d v ∷ bare-decls ds v

-- the import paths stay
put-paths : {S : Type 0} (same : S → S → Bool) (rs : List (run.Package S)) (z : S) (e : Expr S) (number : ℕ) (pk : run.Package S) (tree : File S) (k m n : ℕ) (ms : List (Package S)) → map (λ p. p.path) (members_put same rs z e number pk tree k m n ms) ≡ map (λ p. p.path) ms
put-paths same rs z e number pk tree k m n [] = refl
put-paths same rs z e number pk tree zero m n (p ∷ ms) = refl
put-paths same rs z e number pk tree (suc k) m n (p ∷ ms) = λ v. p.path ∷ put-paths same rs z e number pk tree k m n ms v

module _ (marks : List MarkRef) (st : Standing) (l : Logged) (after : Standing) (n : Next marks st l after) (h : IsPlain n)
    (alone : (d : Decl At) → slice_get n.found.site.at.source.tree.decls n.found.site.decl ≡ Some d → AllTheUse same_here n.found.site (ident h.span h.name) (decl_seen st.packages n.found.site.at.number n.found.site.at.of n.found.site.at.source.tree d))
    (spelled : unnamed_package h.new ≡ None) where
  abbrev x : Site At
  x = n.found.site

  abbrev rs : List (run.Package At)
  rs = st.packages

  abbrev tree : File At
  tree = x.at.source.tree

  made : MakesForm marks st n.found
  made = step-makes-form marks st l after n

  placed : Placed here_of (λ (s : Span). Unit {0}) rs marks x
  placed = found-placed marks st l after n

  seated : Seated rs marks x
  seated = sites-seated rs marks x made.is_use

  -- ---- the use

  abbrev use_ : PlainUse same_here (is_commented st) rs marks x
  use_ = record {
    span = h.span;
    name = h.name;
    part = h.part;
    use_ = seated.is_use (ident h.span h.name) h.part;
    home = h.home;
    stands = h.stands;
    constant = h.constant;
    at = h.at;
    new = h.new;
    declared = h.declared;
    untyped = h.untyped;
    same_package = h.same_package;
    kind = n.found.kind;
    form = n.found.form;
    range = n.found.range;
    packages = n.found.named;
    reduces = made.form_is;
    new_mark = h.new_mark;
    new_names = h.new_names;
    new_constant = h.new_constant;
    new_expr = h.new_expr;
    new_declared = h.new_declared;
  }

  stands : UseStands same_here (is_commented st) rs marks x use_
  stands = record {
    package_there = placed.package_is;
    file_there = placed.file_is;
    decl = placed.decl;
    decl_there = placed.decl_is;
    elsewhere = h.elsewhere;
    plain = h.plain;
    simple = h.simple placed.decl placed.decl_is;
    alone = alone placed.decl placed.decl_is;
  }

  abbrev z : At
  z = part_span x.part

  abbrev e : Expr At
  e = ident z h.new

  abbrev between : List (run.Package At)
  between = packages_between same_here (is_commented st) rs marks n.found

  abbrev put : ℕ → List (Package At)
  put k = members_put same_here rs z e x.at.number x.at.of tree k x.at.file_number x.decl (members_of rs)

  -- ---- the file is read again

  no-named : n.found.named ≡ []
  no-named = no_packages same_here (is_commented st) rs marks x use_ spelled

  abbrev file_at : List NewImport → File At
  file_at is = record tree { imports = tree.imports ++ added_decls n.found.range is; decls = new_decls same_here rs x n.found.form }

  same-file : file_between same_here (is_commented st) rs marks n.found ≡ record tree { decls = new_decls same_here rs x n.found.form }
  same-file = (λ v. file_at (imports_added (no-named v))) ∙ (λ v. record tree { imports = nothing-behind tree.imports v; decls = new_decls same_here rs x n.found.form })

  decls-are : decls_with origin_of n.tree.decls ≡ decls_with origin_of (new_decls same_here rs x n.found.form)
  decls-are = λ v. (n.origins_are v).decls

  abbrev source_between : SourceTree At → SourceTree At
  source_between s = record s { tree = file_between same_here (is_commented st) rs marks n.found }

  abbrev source_after : SourceTree At → SourceTree At
  source_after s = record s { tree = n.tree }

  abbrev with_source : (SourceTree At → SourceTree At) → run.Package At → run.Package At
  with_source g p = record p { files = change_nth x.at.file_number g p.files }

  file-viewed : FileView (source_between x.at.source) (source_after x.at.source)
  file-viewed = record {
    keys = h.imports ∙ sym (λ v. map import_key (import_specs (same-file v)));
    decls = sym (bare-decls n.tree.decls) ∙ (λ v. map bare_decl (decls-are v)) ∙ bare-decls (new_decls same_here rs x n.found.form);
  }

  -- the packages with the form in place, and those that are read
  viewed : OneByOne PackageView between after.packages
  viewed =
      subst (OneByOne PackageView between) (sym n.packages_are)
      (both-changed PackageView view-itself (with_source source_between) (with_source source_after) x.at.number rs x.at.of placed.package_is
      (record {
        path = refl;
        name = refl;
        files = both-changed FileView file-view-itself source_between source_after x.at.file_number x.at.of.files x.at.source placed.file_is file-viewed;
      }))

  abbrev SameKeys : SourceTree At → SourceTree At → Type 0
  SameKeys f g = map import_key (import_specs g.tree) ≡ map import_key (import_specs f.tree)

  files-kept : OneByOne SameKeys x.at.of.files (change_nth x.at.file_number source_after x.at.of.files)
  files-kept = one-changed SameKeys (λ f. refl) source_after x.at.file_number x.at.of.files x.at.source placed.file_is h.imports

  -- the packages before, and those that are read
  pathed : OneByOne PackagePath rs after.packages
  pathed =
      subst (OneByOne PackagePath rs) (sym n.packages_are)
      (one-changed PackagePath path-itself (with_source source_after) x.at.number rs x.at.of placed.package_is
      (record { path = refl; imports = import-by-keys files-kept; files = one_by_one (λ f g y. tt) files-kept }))

  -- ---- beside further packages

  module _ (Q : List (Package At)) (w : are_well_typed (members_of rs ++ Q) ≡ true) where
    distinct : are_distinct (members_of rs) ≡ true
    distinct = distinct-front (members_of rs) Q (distinct-before (members_of rs) Q w)

    linked-distinct : Distinct (linked rs)
    linked-distinct = subst Distinct (sources-linked rs) (distinct_sources (members_of rs) Q (distinct-before (members_of rs) Q w))

    there : StandsAt rs x.at (linked rs)
    there = package-stands rs x.at x.at.file_number x.at.source placed.file_is (in_dependency_order rs) seated.listed linked-distinct

    stands-at : StandsAt rs x.at (sources (members_of rs))
    stands-at = subst (StandsAt rs x.at) (sym (sources-linked rs)) there

    abbrev k : ℕ
    k = stands-at.nth

    swaps : ConstantSwaps same_here rs z e x.at.number x.at.of tree (sources Q) k x.at.file_number x.decl (sources (members_of rs))
    swaps = plain_swaps same_here (is_commented st) rs marks x use_ stands stands-at.at k (sources (members_of rs)) (sources Q) stands-at.there (well same_here (is_commented st) rs marks x use_ stands stands-at.at k (members_of rs) Q stands-at.there w)

    step : ConstantStep same_here rs z e x.at.number x.at.of tree (sources Q) k x.at.file_number x.decl (sources (members_of rs))
    step = step-with-uses same_here rs z e x.at.number x.at.of tree (sources Q) k x.at.file_number x.decl (sources (members_of rs)) swaps.uses

    put-typed : are_well_typed (put k ++ Q) ≡ true
    put-typed =
        typed-after same_here rs z e x.at.number x.at.of tree k x.at.file_number x.decl (members_of rs) Q step
        (plain_imports same_here (is_commented st) rs marks x use_ stands stands-at.at k (members_of rs) Q stands-at.there w) w

    put-codes : codes_of (members_of rs ++ Q) ≡ codes_of (put k ++ Q)
    put-codes =
        constant-codes same_here rs z e x.at.number x.at.of tree k x.at.file_number x.decl (members_of rs) Q step (distinct-before (members_of rs) Q w)
        (swaps-when-typed same_here rs z e x.at.number x.at.of tree k x.at.file_number x.decl (members_of rs) Q w swaps)

    put-linked : sources (put k) ≡ linked between
    put-linked = plain_linked same_here (is_commented st) rs marks x use_ stands stands-at.at k (members_of rs) (sources-linked rs) distinct stands-at.there spelled

    read-again : bare_members (put k) ≡ bare_members (members_of after.packages)
    read-again =
        zipped (put k) (members_of after.packages)
        (put-paths same_here rs z e x.at.number x.at.of tree k x.at.file_number x.decl (members_of rs) ∙ sym (paths-viewed pathed))
        ((λ v. map bare_package (put-linked v)) ∙ sym (linked-viewed viewed) ∙ (λ v. map bare_package (sym (sources-linked after.packages) v)))

    pub typed-next : are_well_typed (members_of after.packages ++ Q) ≡ true
    typed-next = sym (typed-alike (put k ++ Q) (members_of after.packages ++ Q) (beside-alike (put k) (members_of after.packages) Q read-again)) ∙ put-typed

    pub codes-next : codes_of (members_of rs ++ Q) ≡ codes_of (members_of after.packages ++ Q)
    codes-next = put-codes ∙ codes-alike (put k ++ Q) (members_of after.packages ++ Q) (beside-alike (put k) (members_of after.packages) Q read-again)

  pub next-keeps : (marked : List FuncName) → SameCode (packages_of rs marked) (packages_of after.packages marked)
  next-keeps marked = record { typed = typed-next; codes = codes-next }
