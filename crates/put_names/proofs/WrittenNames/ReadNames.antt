-- The packages of a module that reads have identifiers for their names.
use Rattle.std.proofs.Common.{◌≡◌, ℕ, zero, suc, Bool, true, false, not, ◌||◌, if◌then◌else◌, bytes_eq, List, [], ◌∷◌, map, filter, refl, sym, subst}
use Rattle.std.specs.List.{list_any}
use Rattle.std.proofs.lemmas.Option.{same_Some}
use Rattle.std.proofs.lemmas.Slice.Eq.{bytes_eq-Decides}
use Rattle.go_tree.specs.declared.spans.Span.{Span}
use Rattle.go_tree.specs.File.{File}
use Rattle.go_read.specs.SpellsTypes.{Lexemes}
use Rattle.go_read.specs.SpellsSpans.{span_to}
use Rattle.go_read.specs.SpellsFiles.{SpellsFront, front_rule}
use Rattle.go_layout.specs.LayoutLaws.Formed.{IsName}
use Rattle.go_layout.specs.LayoutLaws.Real.{AreReal}
use Rattle.go_layout.proofs.LayoutLaws.RealTokens.{tokens_real}
use Rattle.pkg_graph.specs.Package.{SourceTree, Package, first_seen, home_of, first_name, package_of, packages_of}
use Rattle.pkg_graph.specs.Reads.{Source, AreTrees, none, file}
use Rattle.run_rules.specs.Inlining.{IsSourceFile, ModuleReads, standing_as_read}
use Rattle.run_rules.specs.Respanned.{package_with, packages_with}
use Rattle.run_rules.specs.Run.{as_read}
use Rattle.run_rules.specs.Texts.{FileText}
use Rattle.put_names.specs.WrittenNames.NamedPackages.{PackagesAreNamed}

front_name : {S : Type 0} (mark : Lexemes → Lexemes → S) {f : File S} {ts r : Lexemes} → SpellsFront mark f ts r → AreReal ts → IsName f.package_name.name
front_name mark (front_rule d1 d2 d3) g = g.1.0

abbrev AllTrees : List (SourceTree Span) → Type 0
AllTrees [] = Unit {0}
AllTrees (f ∷ fs) = IsName f.tree.package_name.name × AllTrees fs

source_name : (text : List ℕ) (tree : File Span) → IsSourceFile text tree → IsName tree.package_name.name
source_name text tree s = front_name span_to s.reads.spells (tokens_real text s.tokens s.comments s.reads.scans)

trees_named : {files : List Source} {trees : List (SourceTree Span)} → AreTrees IsSourceFile files trees → AllTrees trees
trees_named none = tt
trees_named (file f tree fs trees s more) = (source_name f.text tree s, trees_named more)

-- the first of the files that pass
first_passes : (test : SourceTree Span → Bool) (fs : List (SourceTree Span)) → AllTrees fs → list_any test fs ≡ true → IsName (first_name (filter test fs))
first_passes test [] h e = absurd cc
first_passes test (f ∷ fs) h e = by (test f) (λ q. first_passes test fs h.1 q) e
  where
    by : (b : Bool) → (list_any test fs ≡ true → IsName (first_name (filter test fs))) → b || list_any test fs ≡ true → IsName (first_name (if b then f ∷ filter test fs else filter test fs))
    by true later q = h.0
    by false later q = later q

-- ---- paths that files have

module _ (Q : List ℕ → Type 0) where
  abbrev AllPaths : List (List ℕ) → Type 0
  AllPaths [] = Unit {0}
  AllPaths (x ∷ xs) = Q x × AllPaths xs

  filtered : (test : List ℕ → Bool) (xs : List (List ℕ)) → AllPaths xs → AllPaths (filter test xs)
  filtered test [] h = tt
  filtered test (x ∷ xs) h = by (test x) (filtered test xs h.1)
    where
      by : (b : Bool) → AllPaths (filter test xs) → AllPaths (if b then x ∷ filter test xs else filter test xs)
      by true k = (h.0, k)
      by false k = k

  seen_all : (xs : List (List ℕ)) → AllPaths xs → AllPaths (first_seen xs)
  seen_all [] h = tt
  seen_all (x ∷ xs) h = (h.0, filtered (λ y. not (bytes_eq x y)) (first_seen xs) (seen_all xs h.1))

module _ (home : List ℕ) (files : List (SourceTree Span)) where
  abbrev IsListed : List ℕ → Type 0
  IsListed x = list_any (λ f. bytes_eq x (home_of home f)) files ≡ true

  or_first : (a b : Bool) → a ≡ true → a || b ≡ true
  or_first true b e = refl
  or_first false b e = absurd cc

  or_second : (a b : Bool) → b ≡ true → a || b ≡ true
  or_second true b e = refl
  or_second false b e = e

  homes_listed : (fs : List (SourceTree Span)) → ((x : List ℕ) → list_any (λ f. bytes_eq x (home_of home f)) fs ≡ true → IsListed x) → AllPaths IsListed (map (home_of home) fs)
  homes_listed [] into = tt
  homes_listed (f ∷ fs) into = (
    into (home_of home f) (or_first (bytes_eq (home_of home f) (home_of home f)) (list_any (λ g. bytes_eq (home_of home f) (home_of home g)) fs) ((bytes_eq-Decides (home_of home f) (home_of home f)).1 refl)),
    homes_listed fs (λ x h. into x (or_second (bytes_eq x (home_of home f)) (list_any (λ g. bytes_eq x (home_of home g)) fs) h)),
  )

  abbrev AllNamed : List (Package Span) → Type 0
  AllNamed [] = Unit {0}
  AllNamed (p ∷ ps) = IsName p.name × AllNamed ps

  packages_named : AllTrees files → (paths : List (List ℕ)) → AllPaths IsListed paths → AllNamed (map (package_of home files) paths)
  packages_named trees [] h = tt
  packages_named trees (x ∷ xs) h = (first_passes (λ f. bytes_eq x (home_of home f)) files trees h.0, packages_named trees xs h.1)

  all_named : AllTrees files → AllNamed (packages_of home files)
  all_named trees = packages_named trees (first_seen (map (home_of home) files)) (seen_all IsListed (map (home_of home) files) (homes_listed files (λ x h. h)))

  nth_named : (ps : List (Package Span)) → AllNamed ps → PackagesAreNamed (packages_with as_read ps)
  nth_named [] h k p e = absurd cc
  nth_named (q ∷ qs) h zero p e = subst (λ r. IsName r.name) (same_Some (package_with as_read q) p e) h.0
  nth_named (q ∷ qs) h (suc k) p e = nth_named qs h.1 k p e

pub modules_named : (files : List Source) (ps : List (Package Span)) (texts : List (List ℕ × FileText)) → ModuleReads files ps texts → PackagesAreNamed (standing_as_read ps texts).packages
modules_named files ps texts m =
    let r = m.reads in
    let trees = trees_named r.trees_are in
    nth_named r.program.path r.trees ps (subst (λ (qs : List (Package Span)). AllNamed r.program.path r.trees qs) (sym r.program.packages_are) (all_named r.program.path r.trees trees))
