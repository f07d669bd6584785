use Rattle.std.proofs.Common.{◌∙◌, sym, ap, subst, ℕ, List}
use Rattle.pkg_graph.specs.declared.packages.Package.{Package}
use Rattle.run_plans.specs.PlannedFiles.Limits.{IsReadFile, path_in}
use Rattle.run_plans.proofs.planned_modules.runs.limit_fault.Goals as goal

pub file_limit-requires : goal.file_limit-requires
file_limit-requires c =
    record {
      read =
          subst (λ (ps : List Package). (path : List ℕ) × IsReadFile c.args.files.now ps c.args.at.home c.args.at.file path) (sym c.deref.ensures.value) c.requires;
    }

pub returns : goal.returns
returns c = λ path e. c.file_limit.ensures path (ap (λ (ps : List Package). path_in ps c.args.at.home c.args.at.file) c.deref.ensures.value ∙ e)
