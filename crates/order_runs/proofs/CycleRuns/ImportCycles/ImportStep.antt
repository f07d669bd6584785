-- A step that changes imports keeps cycles: first the imports are added, then the form is put and they are settled.
use Rattle.std.proofs.Common.{◌≡◌, refl, sym, ◌∙◌, subst, ℕ, zero, suc, List, [], ◌∷◌}
use Rattle.go_tree.specs.declared.spans.Span.{Span}
use Rattle.go_tree.specs.File.{Decl, File}
use Rattle.pkg_graph.specs.Package.{SourceTree, Package}
use Rattle.run_rules.specs.Respanned.{decls_with}
use Rattle.run_rules.specs.Sites.{MarkRef, Site}
use Rattle.run_rules.specs.Steps.{At, same_here, change_nth, with_file}
use Rattle.run_rules.specs.Cycles.{GivesWay, LeadsTo, is_recursive}
use Rattle.run_rules.proofs.CyclesFound.{cycles_kept}
use Rattle.run_rules.specs.Run.{Standing, Logged, Next, here_of, origin_of}
use Rattle.splice_laws.proofs.RunLaws.FoundSpans.{Placed}
use Rattle.typed_in_place.specs.ProgramsAlike.{OneByOne}
use Rattle.typed_in_place.proofs.ProgramsReplaced.{each_one}
use Rattle.order_runs.proofs.CycleLaws.StepsLead.{change-at, give-way}
use Rattle.order_runs.specs.CycleLaws.PutSteps.{ReadCallsAlikeIn}
use Rattle.order_runs.specs.CycleRuns.StepCycles.PackagesAlike.{DeclAlike}
use Rattle.order_runs.proofs.CycleRuns.StepCycles.StepAlike.{one-changed, both-changed, changed-alike, file-itself, found-placed}
use Rattle.order_runs.specs.CycleRuns.ImportCycles.OtherImports.{PackageBeside, PackagesBeside, PackageSame, PackagesSame}
use Rattle.order_runs.specs.CycleRuns.ImportCycles.ImportSteps.{file_added, packages_added, where_added, decl_put, DeclaresAlike, SettlesImports}
use Rattle.order_runs.proofs.CycleRuns.ImportCycles.NamesReadAlike.{identifiers-read-alike}
use Rattle.order_runs.proofs.CycleRuns.ImportCycles.LeadAlike.{same-beside, recursive-same}

-- an item changed twice
pub twice : {A : Type 0} (f g : A → A) (n : ℕ) (xs : List A) → change_nth n f (change_nth n g xs) ≡ change_nth n (λ x. f (g x)) xs
twice f g n [] = refl
twice f g zero (x ∷ xs) = refl
twice f g (suc n) (x ∷ xs) = λ v. x ∷ twice f g n xs v

module _ (marks : List MarkRef) (st : Standing) (l : Logged) (after : Standing) (n : Next marks st l after) where
  abbrev x : Site At
  x = n.found.site

  abbrev mid : List (Package At)
  mid = packages_added st.packages n.found

  pub placed : Placed here_of (λ (z : Span). Unit {0}) st.packages marks x
  placed = found-placed marks st l after n

  abbrev with_tree : File At → SourceTree At → SourceTree At
  with_tree t g = record g { tree = t }

  abbrev in_package : File At → Package At → Package At
  in_package t p = record p { files = change_nth x.at.file_number (with_tree t) p.files }

  abbrev change : Decl At → Decl At
  change d = decl_put st.packages n.found d

  -- ---- the imports are added

  pub added-same : PackagesSame st.packages mid
  added-same = one-changed PackageSame (λ p. record { path = refl; name = refl; files = each_one (λ g. refl) p.files }) (in_package (file_added n.found)) x.at.number st.packages x.at.of placed.package_is
      (record {
        path = refl;
        name = refl;
        files = one-changed (λ (f g : SourceTree At). decls_with origin_of g.tree.decls ≡ decls_with origin_of f.tree.decls) (λ g. refl) (with_tree (file_added n.found)) x.at.file_number x.at.of.files x.at.source placed.file_is refl;
      })

  -- ---- the form is put, and the imports are settled

  pub decls-are : decls_with origin_of n.tree.decls ≡ decls_with origin_of (change_nth x.decl change x.at.source.tree.decls)
  decls-are = λ v. (n.origins_are v).decls

  abbrev Declare : SourceTree At → SourceTree At → Type 0
  Declare f g = OneByOne DeclAlike f.tree.decls g.tree.decls

  declares-itself : (g : SourceTree At) → Declare g g
  declares-itself g = (file-itself g).decls

  pub put-beside : DeclaresAlike n → PackagesBeside mid after.packages
  put-beside names = subst (λ (qs : List (Package At)). PackagesBeside mid qs) (sym n.packages_are)
      (both-changed PackageBeside (λ p. record { path = refl; name = refl; files = each_one declares-itself p.files }) (in_package (file_added n.found)) (in_package n.tree) x.at.number st.packages x.at.of placed.package_is
      (record {
        path = refl;
        name = refl;
        files = both-changed Declare declares-itself (with_tree (file_added n.found)) (with_tree n.tree) x.at.file_number x.at.of.files x.at.source placed.file_is
            (changed-alike change x.decl x.at.source.tree.decls n.tree.decls decls-are names);
      }))

  module _ (s : SettlesImports n) where
    added-keep : (m : MarkRef) → is_recursive st.packages marks m ≡ is_recursive mid marks m
    added-keep m = recursive-same marks st.packages mid added-same (identifiers-read-alike marks st.packages mid (same-beside added-same) s.added_declare s.added) m

    reads : ReadCallsAlikeIn marks mid after.packages
    reads = identifiers-read-alike marks mid after.packages (put-beside s.names) s.settled_declare s.settled

    abbrev there : Site At
    there = record x { at = where_added n.found }

    after-is : after.packages ≡ with_file same_here mid (where_added n.found) n.tree
    after-is = n.packages_are ∙ sym (twice (in_package n.tree) (in_package (file_added n.found)) x.at.number st.packages ∙ (λ v. change_nth x.at.number (λ p. record p { files = twice (with_tree n.tree) (with_tree (file_added n.found)) x.at.file_number p.files v }) st.packages))

    put-gives-way : GivesWay (LeadsTo mid marks) (LeadsTo after.packages marks) x.mark
    put-gives-way = give-way marks mid after.packages x.mark reads there change n.tree after-is decls-are
        (change-at (in_package (file_added n.found)) st.packages x.at.number x.at.of placed.package_is)
        (change-at (with_tree (file_added n.found)) x.at.of.files x.at.file_number x.at.source placed.file_is)
        s.calls

    pub imports-kept : (m : MarkRef) → is_recursive st.packages marks m ≡ is_recursive after.packages marks m
    imports-kept m = added-keep m ∙ cycles_kept mid after.packages marks x.mark (λ e. s.off (added-keep x.mark ∙ e)) put-gives-way m
