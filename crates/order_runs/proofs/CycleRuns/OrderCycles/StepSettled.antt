-- A step that adds imports, puts its form and settles imports: with its imports added it declares what it declared, so
-- with the form put, and so once the imports are settled.
use Rattle.std.proofs.Common.{◌≡◌, refl, sym, ◌∙◌, subst, ℕ, zero, suc, ◌==◌, true, false, List, [], ◌∷◌, ◌++◌, map, Option, Some}
use Rattle.std.specs.Prelude.{slice_get}
use Rattle.std.specs.List.{list_any}
use Rattle.go_tree.specs.declared.spans.Span.{Span}
use Rattle.go_tree.specs.File.{Decl, File}
use Rattle.go_tree.specs.FileBare.{bare_decl}
use Rattle.pkg_graph.specs.Package.{SourceTree, Package, import_specs}
use Rattle.pkg_graph.specs.Graph.{imports_of, files_import}
use Rattle.run_rules.specs.Programs.{numbers_of, dependency_order, world}
use Rattle.run_rules.specs.Rewriting.{Changes}
use Rattle.run_rules.specs.Respanned.{decls_with}
use Rattle.run_rules.specs.Sites.{MarkRef, Site, part_span}
use Rattle.run_rules.specs.Steps.{At, same_here, change_nth, changes_for, new_decl, with_file}
use Rattle.run_rules.specs.Cycles.{is_recursive}
use Rattle.run_rules.specs.Run.{Standing, Logged, Next, Run, ends, goes_on, here_of, origin_of}
use Rattle.splice_laws.proofs.RunLaws.FoundSpans.{Placed}
use Rattle.typed_in_place.specs.ProgramsAlike.{OneByOne, no_more, and_more}
use Rattle.typed_in_place.specs.ProgramReplaced.{at_last}
use Rattle.typed_in_place.proofs.ProgramsReplaced.{one_by_one}
use Rattle.order_runs.specs.CycleLaws.PutCalls.{GivesWayAmong, mark_there}
use Rattle.order_runs.proofs.CycleLaws.DeclCalls.{decl-kept}
use Rattle.order_runs.proofs.CycleLaws.StepsLead.{change-at}
use Rattle.order_runs.proofs.CycleLaws.BareWith as spans
use Rattle.typed_in_place.specs.SameWorlds.SameWorlds.{SameWorld}
use Rattle.order_runs.specs.CycleRuns.StepCycles.PackagesAlike.{DeclAlike}
use Rattle.order_runs.proofs.CycleRuns.StepCycles.AlikeStay.{OptionBy, neither, each, get-by}
use Rattle.order_runs.proofs.CycleRuns.StepCycles.Orders.{NumberedBy, rows-by, order-by}
use Rattle.order_runs.proofs.CycleRuns.StepCycles.StepAlike.{both-changed, changed-alike, all-from-origins, file-itself, new-alike}
use Rattle.order_runs.proofs.CycleRuns.StepCycles.WorldStays.{receivers-stay, put-world, FileSpans, PackageSpans, spans-world}
use Rattle.order_runs.specs.CycleRuns.ImportCycles.OtherImports.{PackagesBeside, import_path, FileUnder}
use Rattle.order_runs.specs.CycleRuns.ImportCycles.ImportSteps.{file_added, packages_added, where_added, decl_put, DeclaresAlike, calls_added, SettlesImports}
use Rattle.order_runs.proofs.CycleRuns.ImportCycles.FreeIdentifiers.{looked-up-within}
use Rattle.order_runs.proofs.CycleRuns.ImportCycles.ImportStep.{twice, placed, put-beside, decls-are, imports-kept}
use Rattle.order_runs.proofs.CycleRuns.ImportCycles.ImportsAdded.{path-stays, new-names-read, settled-names-read}
use Rattle.order_runs.specs.CycleRuns.OrderCycles.Orders.{AllOrdered, PackagesUnder}
use Rattle.order_runs.specs.CycleRuns.OrderCycles.Steps.{site_added, PutsTheSame, GivesWayAdded, AllGiveWayAdded}
use Rattle.order_runs.proofs.CycleRuns.OrderCycles.Orders.{worlds-then, equal-worlds, orders-declare}
use Rattle.order_runs.proofs.CycleRuns.OrderCycles.StepAdded.{PackageBy, package-itself, under-of, added-declare, puts-the-same}

-- ---- orders of packages with the same imports

module _ {S : Type 0} where
  -- two packages with the same path, which import the same paths
  pub record ImportsAlike (p q : Package S) : Type 0 where
    pub path : q.path ≡ p.path
    pub imports : imports_of q ≡ imports_of p

  numbers-same : (R : ℕ → Package S → Package S → Type 0) {xs ys : List (ℕ × Package S)} → OneByOne (NumberedBy R) xs ys → numbers_of ys ≡ numbers_of xs
  numbers-same R no_more = refl
  numbers-same R (and_more r rs) = λ z. r.0 z ∷ numbers-same R rs z

  module _ (ps qs : List (Package S)) (h : OneByOne ImportsAlike ps qs) where
    orders-same : dependency_order qs ≡ dependency_order ps
    orders-same = numbers-same (λ k. ImportsAlike) (order-by ps qs (λ k. ImportsAlike) (λ k p q r. r.path) (λ k p q r. r.imports) (one_by_one (λ p q r. r.path) h) (rows-by 0 h))

    pub ordered-alike : AllOrdered ps → AllOrdered qs
    ordered-alike all k q e = (λ z. list_any (λ j. j == k) (orders-same z)) ∙ by (slice_get ps k) (slice_get qs k) refl e (get-by h k)
      where
        by : (o u : Option (Package S)) → slice_get ps k ≡ o → u ≡ Some q → OptionBy ImportsAlike o u → list_any (λ j. j == k) (dependency_order ps) ≡ true
        by _ _ g f neither = cc
        by _ _ g f (each {a = p} r) = all k p g

-- a change of one item, by what it makes of that item
change-same : {A : Type 0} (f g : A → A) (n : ℕ) (xs : List A) → ((x : A) → slice_get xs n ≡ Some x → f x ≡ g x) → change_nth n f xs ≡ change_nth n g xs
change-same f g n [] h = refl
change-same f g zero (x ∷ xs) h = λ z. h x refl z ∷ xs
change-same f g (suc n) (x ∷ xs) h = λ z. x ∷ change-same f g n xs h z

bare-decls : (ds : List (Decl At)) → map bare_decl (decls_with origin_of ds) ≡ map bare_decl ds
bare-decls [] = refl
bare-decls (d ∷ ds) = λ z. spans.decl-with origin_of d z ∷ bare-decls ds z

module _ (marks : List MarkRef) (st : Standing) (l : Logged) (after : Standing) (n : Next marks st l after) (s : GivesWayAdded n) where
  abbrev x : Site At
  x = n.found.site

  abbrev there : Site At
  there = site_added n.found

  abbrev mid : List (Package At)
  mid = packages_added st.packages n.found

  abbrev c : Changes At
  c = changes_for same_here (part_span x.part) n.found.form

  here : Placed here_of (λ (z : Span). Unit {0}) st.packages marks x
  here = placed marks st l after n

  abbrev with_tree : File At → SourceTree At → SourceTree At
  with_tree t g = record g { tree = t }

  abbrev in_package : File At → Package At → Package At
  in_package t p = record p { files = change_nth x.at.file_number (with_tree t) p.files }

  abbrev changed : File At → List (Package At)
  changed t = change_nth x.at.number (in_package t) st.packages

  same_places : PutsTheSame st.packages n.found
  same_places = puts-the-same marks st l after n s.imports.new_names s.imports.ordered s.imports.ordered_added

  package-there : slice_get mid x.at.number ≡ Some (where_added n.found).of
  package-there = change-at (in_package (file_added n.found)) st.packages x.at.number x.at.of here.package_is

  file-there : slice_get (where_added n.found).of.files x.at.file_number ≡ Some (where_added n.found).source
  file-there = change-at (with_tree (file_added n.found)) x.at.of.files x.at.file_number x.at.source here.file_is

  -- ---- packages with two trees of the file

  both-trees : (R : SourceTree At → SourceTree At → Type 0) → ((f : SourceTree At) → R f f) → (t u : File At) → R (with_tree t x.at.source) (with_tree u x.at.source)
      → OneByOne (PackageBy R) (changed t) (changed u)
  both-trees R itself t u r = both-changed (PackageBy R) (package-itself R itself) (in_package t) (in_package u) x.at.number st.packages x.at.of here.package_is
      (record { path = refl; name = refl; files = both-changed R itself (with_tree t) (with_tree u) x.at.file_number x.at.of.files x.at.source here.file_is r })

  added-declares : SameWorld (world mid) (world st.packages)
  added-declares = added-declare marks st l after n s.imports.new_names s.imports.ordered s.imports.ordered_added

  -- ---- with the form put

  abbrev put_there : Decl At → Decl At
  put_there d = new_decl same_here mid c x.at.number (where_added n.found).of (file_added n.found) d

  abbrev put_here : Decl At → Decl At
  put_here d = decl_put st.packages n.found d

  abbrev tree_put : (Decl At → Decl At) → File At
  tree_put f = record (file_added n.found) { decls = change_nth x.decl f x.at.source.tree.decls }

  names-declared : DeclaresAlike n
  names-declared d e = subst (DeclAlike d) (same_places d e)
      (new-alike same_here mid c x.at.number (where_added n.found).of (file_added n.found) d (receivers-stay mid there n.found.form package-there file-there s.stands d e))

  put-is : with_file same_here mid (where_added n.found) (tree_put put_there) ≡ changed (tree_put put_here)
  put-is =
      twice (in_package (tree_put put_there)) (in_package (file_added n.found)) x.at.number st.packages
      ∙ (λ v. change_nth x.at.number (λ p. record p { files = twice (with_tree (tree_put put_there)) (with_tree (file_added n.found)) x.at.file_number p.files v }) st.packages)
      ∙ (λ v. changed (record (file_added n.found) { decls = change-same put_there put_here x.decl x.at.source.tree.decls same_places v }))

  put-declares : world (changed (tree_put put_here)) ≡ world mid
  put-declares = (λ v. world (sym put-is v)) ∙ put-world mid there n.found.form package-there file-there s.stands

  -- ---- the file is read again

  abbrev tree_read : File At
  tree_read = record (file_added n.found) { decls = n.tree.decls }

  spans-itself : (f : SourceTree At) → FileSpans f f
  spans-itself f = record { alike = file-itself f; bare = refl }

  spanned : OneByOne PackageSpans (changed (tree_put put_here)) (changed tree_read)
  spanned = one_by_one (λ p q r. record { path = r.path; name = r.name; files = r.files }) (both-trees FileSpans spans-itself (tree_put put_here) tree_read
      (record {
        alike = record { imports = refl; decls = all-from-origins (tree_put put_here).decls n.tree.decls (decls-are marks st l after n) };
        bare = sym (bare-decls n.tree.decls) ∙ (λ v. map bare_decl (decls-are marks st l after n v)) ∙ bare-decls (tree_put put_here).decls;
      }))

  read-declares : world (changed tree_read) ≡ world mid
  read-declares = spans-world spanned ∙ put-declares

  -- ---- with the imports settled

  abbrev read : List (Package At)
  read = changed tree_read

  declares-itself : (f : SourceTree At) → OneByOne DeclAlike f.tree.decls f.tree.decls
  declares-itself f = (file-itself f).decls

  beside-read : PackagesBeside mid read
  beside-read =
      one_by_one (λ p q r. record { path = r.path; name = r.name; files = r.files }) (both-trees (λ (f g : SourceTree At). OneByOne DeclAlike f.tree.decls g.tree.decls) declares-itself (file_added n.found) tree_read
      (changed-alike put_here x.decl x.at.source.tree.decls n.tree.decls (decls-are marks st l after n) names-declared))

  beside-settled : PackagesBeside read after.packages
  beside-settled = subst (λ (t : List (Package At)). PackagesBeside read t) (sym n.packages_are)
      (one_by_one (λ p q r. record { path = r.path; name = r.name; files = r.files }) (both-trees (λ (f g : SourceTree At). OneByOne DeclAlike f.tree.decls g.tree.decls) declares-itself tree_read n.tree
      (declares-itself (with_tree tree_read x.at.source))))

  named-read : (m : List ℕ) → import_path read (import_specs tree_read) m ≡ import_path mid (import_specs (file_added n.found)) m
  named-read m = path-stays mid m read beside-read (import_specs (file_added n.found))

  named-after : (m : List ℕ) → import_path after.packages (import_specs n.tree) m ≡ import_path mid (import_specs n.tree) m
  named-after m = path-stays mid m after.packages (put-beside marks st l after n names-declared) (import_specs n.tree)

  settled-itself : (f : SourceTree At) → FileUnder read after.packages f f
  settled-itself f = record { decls = refl; imports = λ k d e m i. path-stays read m after.packages beside-settled (import_specs f.tree) }

  under-settled : PackagesUnder read after.packages
  under-settled = under-of read after.packages (subst (λ (t : List (Package At)). OneByOne (PackageBy (FileUnder read after.packages)) read t) (sym n.packages_are)
      (both-trees (FileUnder read after.packages) settled-itself tree_read n.tree
      (record { decls = refl; imports = λ k d e m i. named-after m ∙ s.imports.kept_names k d e m (looked-up-within d m i) ∙ sym (named-read m) })))

  imports-itself : (f : SourceTree At) → map (λ z. z.path) (import_specs f.tree) ≡ map (λ z. z.path) (import_specs f.tree)
  imports-itself f = refl

  all-imported : {fs gs : List (SourceTree At)} → OneByOne (λ (f g : SourceTree At). map (λ z. z.path) (import_specs g.tree) ≡ map (λ z. z.path) (import_specs f.tree)) fs gs → files_import gs ≡ files_import fs
  all-imported no_more = refl
  all-imported (and_more r rs) = λ v. r v ++ all-imported rs v

  ordered-read : AllOrdered read
  ordered-read = ordered-alike mid read
      (one_by_one (λ p q r. record { path = r.path; imports = all-imported r.files }) (both-trees (λ (f g : SourceTree At). map (λ z. z.path) (import_specs g.tree) ≡ map (λ z. z.path) (import_specs f.tree)) imports-itself (file_added n.found) tree_read refl))
      s.imports.ordered_added

  settled-declares : SameWorld (world after.packages) (world mid)
  settled-declares = worlds-then (world after.packages) (world read) (world mid)
      (orders-declare read after.packages beside-settled under-settled ordered-read s.imports.ordered_after)
      (equal-worlds (world read) (world mid) read-declares)

  -- ---- calls

  calls-give-way : (d : Decl At) → slice_get x.at.source.tree.decls x.decl ≡ Some d
      → GivesWayAmong mid marks (mark_there (where_added n.found) x.decl) x.mark (calls_added marks st.packages n.found (put_here d)) (calls_added marks st.packages n.found d)
  calls-give-way d e = subst (λ (z : Decl At). GivesWayAmong mid marks (mark_there (where_added n.found) x.decl) x.mark (calls_added marks st.packages n.found z) (calls_added marks st.packages n.found d)) (same_places d e)
      (decl-kept mid marks (where_added n.found) x.decl x.mark same_here c s.statements (λ t u. Unit {0}) x.at.number (where_added n.found).of (file_added n.found) d
      (s.stands.before.values (world mid) at_last false 0 d e) (s.calls d e))

  pub settles : SettlesImports n
  settles = record {
    added = new-names-read marks st l after n s.imports.new_names;
    added_declare = added-declares;
    names = names-declared;
    calls = calls-give-way;
    settled = settled-names-read marks st l after n names-declared s.imports.kept_names;
    settled_declare = settled-declares;
    off = s.off;
  }

  pub step-keeps : (m : MarkRef) → is_recursive st.packages marks m ≡ is_recursive after.packages marks m
  step-keeps m = imports-kept marks st l after n settles m

pub runs-keep : (marks : List MarkRef) (st last : Standing) (log : List Logged) (run : Run marks st log last) → AllGiveWayAdded run → (m : MarkRef) → is_recursive st.packages marks m ≡ is_recursive last.packages marks m
runs-keep marks _ _ _ (ends st over) h m = refl
runs-keep marks _ _ _ (goes_on st next last l log n run) h m = step-keeps marks st l next n h.0 m ∙ runs-keep marks next last log run h.1 m
