use Rattle.literals_in_place.proofs.StepsInBodies.Around.{leads_there, imports_right, step_shows}
use Rattle.literals_in_place.proofs.steps_in_bodies.steps_in_bodies_show_the_same.Goals as goal

pub returns-clause-led : goal.returns-clause-led
returns-clause-led z = λ same commented rs marks x u v ms l e r. leads_there same commented rs marks x u v ms l e r

pub returns-clause-imports : goal.returns-clause-imports
returns-clause-imports z = λ same itself commented rs marks x u v ms l names h y e q r stays. imports_right same itself commented rs marks x u v ms l names h y e q r stays

pub returns-clause-shown : goal.returns-clause-shown
returns-clause-shown z = λ same itself commented rs marks x u v ms l names h y e q all plain r stays. step_shows same itself commented rs marks x u v ms l names h y e q r stays all plain
