use Rattle.go_kernel.proofs.FrameLaw.{acts_in_front}
use Rattle.go_kernel.proofs.frames.acts_in_front.Goals as goal

pub returns : goal.returns
returns c = λ P free A n j t s rest q. acts_in_front P free A n j t s rest q
