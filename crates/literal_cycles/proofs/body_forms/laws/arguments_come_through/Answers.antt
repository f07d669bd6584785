use Rattle.literal_cycles.proofs.BodyForms.ArgumentsPut.{comes_through}
use Rattle.literal_cycles.proofs.body_forms.laws.arguments_come_through.Goals as goal

pub returns : goal.returns
returns c = λ commented rs marks x u k e f at b h. comes_through commented rs marks x u k at e f b h
