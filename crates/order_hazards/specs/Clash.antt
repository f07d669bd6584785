-- Which arguments may not be evaluated in another order than that of the text (Go specification, "Order of
-- evaluation").
use Rattle.order_hazards.specs.declared.facts.Class.{Class}
use Rattle.order_hazards.specs.declared.facts.Class.TheVariants.{Steady, Looks, Acts}

-- one acts, and the other acts or looks
abbrev pub Clash : Class → Class → Type 0
Clash Acts Acts = Unit {0}
Clash Acts Looks = Unit {0}
Clash Looks Acts = Unit {0}
Clash Looks Looks = ⊥
Clash Looks Steady = ⊥
Clash Acts Steady = ⊥
Clash Steady b = ⊥
