use Rattle.literal_steps.proofs.RankedMarks.LiteralUses.{use-means}
use Rattle.literal_steps.proofs.ranked_marks.laws.literal_uses_mean_their_literals.Goals as goal

pub returns : goal.returns
returns c = λ same commented ps marks x u v ms l h called serve e q all plain A t. use-means same commented ps marks x u v ms l h called serve e q all plain A t
