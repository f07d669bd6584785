use Rattle.std.proofs.Common.{◌≤◌, ap, arith, length, subst, sym, All}
use Rattle.go_tree.specs.declared.limits.TheConstants.{MAX_FILE_BYTES}
use Rattle.module_texts.specs.Files.{sources_of}
use Rattle.run_plans.specs.PlannedModules.Folders.{AreFolder}
use Rattle.fix_run.proofs.FolderLemmas.{folder_stops}
use Rattle.fix_run.proofs.OrderLemmas.{read_folder}
use Rattle.fix_run.proofs.PlanLemmas.{IsListed, PlannedFor, RefusedFor, planned_below, planned_lists, told_refused, told_writes}
use Rattle.fix_run.proofs.prepare.prepare.Goals as goal

pub returns-in-Err-clause-stop : goal.returns-in-Err-clause-stop
returns-in-Err-clause-stop g c =
    folder_stops c.args.only.now c.in-Err.fault _ _ _ _ _ _ _ _ c.of_folder.result c.in-Ok.ensures.cause.quiet c.read_folder.ensures.paths c.in-Ok.ensures.same c.of_folder.ensures c.in-Ok.ensures.exact c.in-Err.ensures.stop

pub plan_module-requires-clause-count : goal.plan_module-requires-clause-count
plan_module-requires-clause-count g c =
    let read = c.in-Ok-read_folder.ensures in
    omega (arith, ap length c.deref.ensures.value, read.files.count, read.few)

pub plan_module-requires-clause-small : goal.plan_module-requires-clause-small
plan_module-requires-clause-small g c =
    subst (All (λ f. length f.bytes ≤ MAX_FILE_BYTES)) (sym c.deref.ensures.value) c.in-Ok-read_folder.ensures.files.small

pub plan_module-requires-clause-folder : goal.plan_module-requires-clause-folder
plan_module-requires-clause-folder g c =
    let read = c.in-Ok-read_folder.ensures in
    subst AreFolder (sym c.deref.ensures.value) (read_folder c.read_files_are_folders.ensures.listed _ _ c.in-Ok.ensures.ascending read.octets read.files.paths_are)

pub returns-in-Ok-plan_module-clause-plan : goal.returns-in-Ok-plan_module-clause-plan
returns-in-Ok-plan_module-clause-plan g c =
    let list = c.in-Ok.ensures in
    let read = c.in-Ok-read_folder.ensures in
    let files = c.in-Ok-read_folder.files.items in
    let is : IsListed (g.T.Tree.held c.list.new.self) (g.T.Tree.listed c.list.new.self) files =
    record { exact = list.exact; order = list.ascending; octets = read.octets; few = read.few; read = read.files } in
    let plan = subst (λ ss. PlannedFor c.args.only.now ss c.in-Ok-plan_module.plan) c.deref.ensures.value c.in-Ok-plan_module.ensures.planned in
    rw list.same at (told_writes c.args.only.now _ _ files c.in-Ok-plan_module.plan is plan)

pub returns-in-Ok-plan_module-clause-indices : goal.returns-in-Ok-plan_module-clause-indices
returns-in-Ok-plan_module-clause-indices g c =
    let read = c.in-Ok-read_folder.ensures in
    let files = c.in-Ok-read_folder.files.items in
    let folder = read_folder c.read_files_are_folders.ensures.listed _ files c.in-Ok.ensures.ascending read.octets read.files.paths_are in
    let plan = subst (λ ss. PlannedFor c.args.only.now ss c.in-Ok-plan_module.plan) c.deref.ensures.value c.in-Ok-plan_module.ensures.planned in
    rw c.read_folder.ensures.paths (planned_below c.args.only.now files c.in-Ok-plan_module.plan _ read.files.listed_are folder plan)

pub returns-in-Ok-plan_module-clause-module : goal.returns-in-Ok-plan_module-clause-module
returns-in-Ok-plan_module-clause-module g c =
    let read = c.in-Ok-read_folder.ensures in
    let files = c.in-Ok-read_folder.files.items in
    let folder = read_folder c.read_files_are_folders.ensures.listed _ files c.in-Ok.ensures.ascending read.octets read.files.paths_are in
    let plan = subst (λ ss. PlannedFor c.args.only.now ss c.in-Ok-plan_module.plan) c.deref.ensures.value c.in-Ok-plan_module.ensures.planned in
    rw c.read_folder.ensures.paths (planned_lists c.args.only.now _ _ files c.in-Ok-plan_module.plan read.files folder plan)

pub returns-in-Err-Refused-clause-stop : goal.returns-in-Err-Refused-clause-stop
returns-in-Err-Refused-clause-stop g c =
    let list = c.in-Ok.ensures in
    let read = c.in-Ok-read_folder.ensures in
    let files = c.in-Ok-read_folder.files.items in
    let is : IsListed (g.T.Tree.held c.list.new.self) (g.T.Tree.listed c.list.new.self) files =
    record { exact = list.exact; order = list.ascending; octets = read.octets; few = read.few; read = read.files } in
    let why = subst (λ ss. RefusedFor c.args.only.now ss c.in-Err-Refused.refusal) c.deref.ensures.value (rw c.in-Err-Refused.field-0-is at c.in-Err-Refused.ensures.refused) in
    rw list.same at (told_refused c.taken_modules_pass_limits.ensures c.args.only.now _ _ files c.in-Err-Refused.refusal is why)

pub returns-in-Err-Refused-clause-named : goal.returns-in-Err-Refused-clause-named
returns-in-Err-Refused-clause-named g c =
    let read = c.in-Ok-read_folder.ensures in
    let files = c.in-Ok-read_folder.files.items in
    let folder = read_folder c.read_files_are_folders.ensures.listed _ files c.in-Ok.ensures.ascending read.octets read.files.paths_are in
    let why = subst (λ ss. RefusedFor c.args.only.now ss c.in-Err-Refused.refusal) c.deref.ensures.value (rw c.in-Err-Refused.field-0-is at c.in-Err-Refused.ensures.refused) in
    rw c.read_folder.ensures.paths (c.refusals_name_files.ensures (sources_of files) files c.args.only.now c.in-Err-Refused.refusal _ (why (sources_of files) folder) read.files.listed_are)
