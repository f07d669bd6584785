use Rattle.std.proofs.Common.{◌∙◌, sym}
use Rattle.control_steps.proofs.local_blocks.blocks.LocalBlock.declares.Goals as goal

pub returns : goal.returns
returns c = λ e cs bs s env p. c.has.ensures ∙ sym (p.here c.args.name.now)
