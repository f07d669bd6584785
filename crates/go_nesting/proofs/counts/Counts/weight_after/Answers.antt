use Rattle.std.proofs.Common.{inl, inr, arith}
use Rattle.go_nesting.proofs.FrameLemmas.{weight_opens, weight_adds, weight_separates, weight_closes, weight_stays}
use Rattle.go_nesting.proofs.counts.Counts.weight_after.Goals as goal

pub returns-in-Opens : goal.returns-in-Opens
returns-in-Opens c = elim c.in-Opens.is [ inl e ↦ weight_opens c.args.nesting c.requires e | inr e ↦ weight_adds c.args.nesting c.requires e ]

pub returns-in-Separates : goal.returns-in-Separates
returns-in-Separates c = weight_separates c.args.nesting c.requires c.in-Separates.is

pub returns-in-Closes : goal.returns-in-Closes
returns-in-Closes c = weight_closes c.args.nesting c.requires c.in-Closes.is c.if-self-gt0.true

pub returns-in-Closes-2 : goal.returns-in-Closes-2
returns-in-Closes-2 c = weight_stays c.args.nesting c.requires c.in-Closes.is (omega (arith, c.if-self-gt0.false))
