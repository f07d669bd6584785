use Rattle.go_kernel.proofs.FrameLaw.{acts_behind}
use Rattle.go_kernel.proofs.frames.acts_behind.Goals as goal

pub returns : goal.returns
returns c = λ P free A n j t s front q. acts_behind P free A n j t s front q
