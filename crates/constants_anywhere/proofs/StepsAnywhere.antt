-- Steps over uses of constants in declarations of any form whose parts are known: the packages after mean what those
-- before do.
use Rattle.std.specs.Prelude.{ℕ, Bool, List}
use Rattle.go_tree.specs.Tree.{ident}
use Rattle.pkg_graph.specs.Package.{Package}
use Rattle.go_translation.specs.Packages as translated
use Rattle.go_translation.specs.Packages.{sources}
use Rattle.go_translation.specs.SameMeaning.{Packages, WellTyped, with_further, SameMeaning}
use Rattle.run_rules.specs.Sites.{MarkRef, Site, part_span}
use Rattle.constant_steps.specs.StepLaws.SwapPrograms.{members_put}
use Rattle.constant_steps.proofs.StepLaws.StepSwaps.{known-constant-means-the-same}
use Rattle.constant_steps.specs.Alone.{PackageAt}
use Rattle.constant_steps.specs.PlainUse.{linked_at, PlainUse}
use Rattle.constants_anywhere.specs.Known.{PartsStand}
use Rattle.constants_anywhere.specs.UseAnywhere.{UseAnywhere}
use Rattle.constants_anywhere.proofs.UsesStand.{swaps_there}
use Rattle.constants_anywhere.proofs.ImportsStand.{well, imports_there}

pub step_anywhere : {S : Type 0} (same : S → S → Bool) (commented : ℕ → ℕ → S → Bool) (rs : List (Package S)) (marks : List MarkRef) (x : Site S) (u : PlainUse same commented rs marks x) (v : UseAnywhere same commented rs marks x u) (s : S) (k : ℕ) (P : Packages S) → PackageAt (linked_at rs x.at s) k (sources P.members)
    → ((Q : List (translated.Package S)) → WellTyped (with_further P Q) → PartsStand same rs x u.new v.decl k (sources P.members) (sources Q))
    → SameMeaning P (record P { members = members_put same rs (part_span x.part) (ident (part_span x.part) u.new) x.at.number x.at.of x.at.source.tree k x.at.file_number x.decl P.members })
step_anywhere same commented rs marks x u v s k P stands parts =
    known-constant-means-the-same same rs (part_span x.part) (ident (part_span x.part) u.new) x.at.number x.at.of x.at.source.tree k x.at.file_number x.decl P
    (λ Q t. swaps_there same commented rs marks x u v s k (sources P.members) (sources Q) stands (well same commented rs marks x u v s k P.members Q stands t (parts Q t)) (parts Q t))
    (λ Q t. imports_there same commented rs marks x u v s k P.members Q stands t (parts Q t))
