-- Files have one fault at most, and are one program at most.
use Rattle.std.proofs.Common.{◌≡◌, ◌∙◌, ◌⊎◌, inl, inr, ℕ, true, List, ◌∷◌, refl, sym, ap, subst, Option, Some, None}
use Rattle.go_tree.specs.declared.spans.Span.{Span}
use Rattle.go_tree.specs.File.{File}
use Rattle.pkg_graph.specs.ModuleFiles.Pieces.{comes_before}
use Rattle.pkg_graph.specs.ModuleFiles.ModuleFile.{is_module, module_of}
use Rattle.pkg_graph.specs.Package.{SourceTree, Package, packages_of}
use Rattle.pkg_graph.specs.Graph.{ImportAt, GraphFault, mixed_package, no_package, cycle, internal_package, is_mixed_package, is_no_package, is_cycle, is_internal, IsLeastOnCycle}
use Rattle.pkg_graph.specs.GraphLaws.{FaultsAreUnique, LinkedHaveNoFault, ProgramsAreUnique, ReadsAreUnique}
use Rattle.pkg_graph.specs.Reads.{Source, AreTrees, none, file, IsProgram}
use Rattle.pkg_graph.proofs.ImportOrder.OpenLaws.{one_comes_before}

never : {A : Type 0} (o : Option A) (x : A) → o ≡ None → o ≡ Some x → ⊥
never o x e f = absurd (cc)

one_value : {A : Type 0} (o : Option A) (x y : A) → o ≡ Some x → o ≡ Some y → x ≡ y
one_value o x y e f = cc

one_least : (ps : List (Package Span)) (a b : List ℕ) → IsLeastOnCycle ps a → IsLeastOnCycle ps b → a ≡ b
one_least ps a b f g = go (one_comes_before a b)
  where
    go : (comes_before a b ≡ true) ⊎ ((a ≡ b) ⊎ (comes_before b a ≡ true)) → a ≡ b
    go (inl e) = absurd (g.least a f.lies e)
    go (inr (inl e)) = e
    go (inr (inr e)) = absurd (f.least b g.lies e)

abbrev mixed_at : ℕ × SourceTree Span → GraphFault
mixed_at x = mixed_package x.0 x.1.tree.package_name.span.start

abbrev no_package_at : ImportAt Span → GraphFault
no_package_at i = no_package i.file i.spec.span.start i.spec.path

abbrev internal_at : ImportAt Span → GraphFault
internal_at i = internal_package i.file i.spec.span.start i.spec.path

pub faults_are_unique : FaultsAreUnique
faults_are_unique home files _ _ (is_mixed_package k f e) (is_mixed_package j g d) = ap mixed_at (one_value _ (k, f) (j, g) e d)
faults_are_unique home files _ _ (is_mixed_package k f e) (is_no_package i m d) = absurd (never _ (k, f) m e)
faults_are_unique home files _ _ (is_mixed_package k f e) (is_cycle path m d c) = absurd (never _ (k, f) m e)
faults_are_unique home files _ _ (is_mixed_package k f e) (is_internal i m d c g) = absurd (never _ (k, f) m e)
faults_are_unique home files _ _ (is_no_package i m e) (is_mixed_package k f d) = absurd (never _ (k, f) m d)
faults_are_unique home files _ _ (is_no_package i m e) (is_no_package j n d) = ap no_package_at (one_value _ i j e d)
faults_are_unique home files _ _ (is_no_package i m e) (is_cycle path n d c) = absurd (never _ i d e)
faults_are_unique home files _ _ (is_no_package i m e) (is_internal j n d c g) = absurd (never _ i d e)
faults_are_unique home files _ _ (is_cycle path m e c) (is_mixed_package k f d) = absurd (never _ (k, f) m d)
faults_are_unique home files _ _ (is_cycle path m e c) (is_no_package i n d) = absurd (never _ i e d)
faults_are_unique home files _ _ (is_cycle path m e c) (is_cycle other n d b) = ap cycle (one_least (packages_of home files) path other c b)
faults_are_unique home files _ _ (is_cycle path m e c) (is_internal i n d b g) = absurd (b path c.lies)
faults_are_unique home files _ _ (is_internal i m e c g) (is_mixed_package k f d) = absurd (never _ (k, f) m d)
faults_are_unique home files _ _ (is_internal i m e c g) (is_no_package j n d) = absurd (never _ j e d)
faults_are_unique home files _ _ (is_internal i m e c g) (is_cycle path n d b) = absurd (c path b.lies)
faults_are_unique home files _ _ (is_internal i m e c g) (is_internal j n d b h) = ap internal_at (one_value _ i j g h)

pub linked_have_no_fault : LinkedHaveNoFault
linked_have_no_fault home files _ l (is_mixed_package k f e) = never _ (k, f) l.one_name e
linked_have_no_fault home files _ l (is_no_package i m e) = never _ i l.named e
linked_have_no_fault home files _ l (is_cycle path m e c) = l.no_cycle path c.lies
linked_have_no_fault home files _ l (is_internal i m e c g) = never _ i l.visible g

-- ---- one program

one_path : (text : List ℕ) (a b : List ℕ) → module_of text ≡ is_module a → module_of text ≡ is_module b → a ≡ b
one_path text a b e f = cc

pub programs_are_unique : ProgramsAreUnique
programs_are_unique files trees a b r s =
    let text = one_value _ r.module_text s.module_text r.module_is s.module_is in
    let path = one_path s.module_text.text r.path s.path (rw text at r.path_is) s.path_is in
    r.packages_are ∙ ap (λ p. packages_of p trees) path ∙ sym s.packages_are

module _ (Spells : List ℕ → File Span → Type 0) (once : (text : List ℕ) (a b : File Span) → Spells text a → Spells text b → a ≡ b) where
  trees_once : (files : List Source) (a b : List (SourceTree Span)) → AreTrees Spells files a → AreTrees Spells files b → a ≡ b
  trees_once _ _ _ none none = refl
  trees_once _ _ _ (file f t fs ts s r) (file _ u _ us v w) =
      ap (λ x. record { path = f.path; tree = x } ∷ ts) (once f.text t u s v) ∙ ap (λ xs. record { path = f.path; tree = u } ∷ xs) (trees_once fs ts us r w)

pub reads_are_unique : ReadsAreUnique
reads_are_unique Spells once files a b r s =
    let trees = trees_once Spells once _ r.trees s.trees r.trees_are s.trees_are in
    programs_are_unique files s.trees a b (subst (λ ts. IsProgram files ts a) trees r.program) s.program
