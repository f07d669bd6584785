-- The block that is held after a step.
use Rattle.std.proofs.Common.{◌≡◌, ◌∙◌, sym, ap, subst, List, Option, Some}
use Rattle.std.specs.Prelude.{slice_get}
use Rattle.std.proofs.lemmas.Option.{same_Some}
use Rattle.pkg_graph.specs.Views.{package_view}
use Rattle.pkg_graph.specs.declared.packages.Package.{Package}
use Rattle.file_names.specs.Members.{IsBlockOf}
use Rattle.file_tables.specs.Blocks.{HasOwnTable, block_in}
use Rattle.stepped_programs.specs.HeldBlocks.{IsBlock, IsHeldIn}
use Rattle.stepped_programs.specs.declared.first_uses.first.FirstUse.{FirstUse}
use Rattle.stepped_programs.specs.declared.held_blocks.HeldBlock.{HeldBlock}
use Rattle.run_plans.specs.InlinedPrograms.Steps.{HoldsBlockOf}

pub held_after : (ps : List Package) (u : FirstUse) (held : Option HeldBlock) → HoldsBlockOf u held → HasOwnTable (block_in u.found.tables)
    → ((home : Package) → slice_get ps u.home ≡ Some home → IsBlockOf u.found.tables.names.«package» (package_view home)) → IsHeldIn ps held
held_after ps u held is table names = λ h home e there.
    let own : HeldBlock = record { home = u.home; block = block_in u.found.tables } in
    let same : own ≡ h = same_Some own h (sym is ∙ e) in
    subst (λ (x : HeldBlock). IsBlock home x.block) same
    (record { names = names home (ap (λ (x : HeldBlock). slice_get ps x.home) same ∙ there); table = table })
