-- What is planned for a module inlines it.
use Rattle.constant_modules.specs.ConstantPrograms.Laws.{FormedModulesAreInlined}
use Rattle.variadic_words.specs.Laws.{FilesWithoutDots}
use Rattle.run_plans.specs.PlannedModules.Laws.{PlansInlineModules}
use Rattle.run_plans.proofs.PlannedModules.Forms.{constants, formed, taken_small, taken_typed}

pub plans_inline : FilesWithoutDots → FormedModulesAreInlined → PlansInlineModules
plans_inline dots inlined folder files only after report steps p =
    let t = p.taken in
    inlined folder t.packages t.texts only after report p.inlining t.read.of_folder.octets (taken_typed folder files t)
    (formed t.packages t.texts t.form dots folder t.read.reads) (constants t.packages t.texts t.form only) (taken_small folder files t)
