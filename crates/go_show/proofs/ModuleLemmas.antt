-- The packages of a module that is read: they stand in the order of their imports, literals are well spelled, and the
-- bodies of functions are walked.
use Rattle.std.proofs.Common.{◌≡◌, ℕ, List, subst, sym}
use Rattle.pkg_graph.specs.declared.packages.Package.{Package}
use Rattle.package_blocks.specs.Collected.{AreOrdered}
use Rattle.package_blocks.specs.Imports.{views}
use Rattle.module_texts.specs.declared.modules.ReadModule.{ReadModule}
use Rattle.module_texts.specs.Files.{sources_of}
use Rattle.module_texts.specs.Modules.{IsReadFrom, go_sources}
use Rattle.collected.specs.ValueHeaders.SpelledDecls.{PackagesAreSpelled}
use Rattle.collected.proofs.ValueHeaders.SpelledHeaders.{read_packages_spelled}
use Rattle.checked_modules.specs.FunctionBodies.Walked.{PackagesAreWalked}
use Rattle.checked_modules.proofs.FunctionBodies.WalkedFiles.{read_packages_walked}
use Rattle.source_files.specs.declared.files.SourceFile.{SourceFile}

pub read_are_ordered :
    (packages : List Package) (order : List ℕ) (files : List SourceFile) (m : ReadModule) → IsReadFrom files m →
    packages ≡ m.graph.packages.items → order ≡ m.graph.order.items → AreOrdered packages order
read_are_ordered packages order files m r p o =
    subst (λ ps. AreOrdered ps order) (sym p)
    (subst (λ ks. AreOrdered m.graph.packages.items ks) (sym o)
    (record { home = m.home.path; trees = r.trees; packages_are = r.packages_are; order_is = r.order_is }))

pub read_are_spelled :
    (packages : List Package) (files : List SourceFile) (m : ReadModule) → IsReadFrom files m →
    packages ≡ m.graph.packages.items → PackagesAreSpelled (views packages)
read_are_spelled packages files m r p =
    subst (λ ps. PackagesAreSpelled (views ps)) (sym p)
    (subst PackagesAreSpelled (sym r.packages_are)
    (read_packages_spelled m.home.path (go_sources (sources_of files)) r.trees r.trees_are))

pub read_are_walked :
    (packages : List Package) (files : List SourceFile) (m : ReadModule) → IsReadFrom files m →
    packages ≡ m.graph.packages.items → PackagesAreWalked (views packages)
read_are_walked packages files m r p =
    subst (λ ps. PackagesAreWalked (views ps)) (sym p)
    (subst PackagesAreWalked (sym r.packages_are)
    (read_packages_walked m.home.path (go_sources (sources_of files)) r.trees r.trees_are))
