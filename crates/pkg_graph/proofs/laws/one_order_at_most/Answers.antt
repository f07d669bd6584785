use Rattle.pkg_graph.proofs.OrderLaws.{orders_are_unique, orders_hold_packages, orders_hold_all, all_have_no_cycle}
use Rattle.pkg_graph.proofs.laws.one_order_at_most.Goals as goal

pub returns-clause-unique : goal.returns-clause-unique
returns-clause-unique c = orders_are_unique

pub returns-clause-numbers : goal.returns-clause-numbers
returns-clause-numbers c = orders_hold_packages

pub returns-clause-all : goal.returns-clause-all
returns-clause-all c = orders_hold_all

pub returns-clause-no_cycle : goal.returns-clause-no_cycle
returns-clause-no_cycle c = all_have_no_cycle
