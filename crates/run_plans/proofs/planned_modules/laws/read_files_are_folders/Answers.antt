use Rattle.run_plans.proofs.PlannedModules.Folders.{listed_files_are_folders, read_files_are_folders}
use Rattle.run_plans.proofs.planned_modules.laws.read_files_are_folders.Goals as goal

pub returns : goal.returns
returns c = record { read = read_files_are_folders; listed = listed_files_are_folders }
