use Rattle.std.proofs.Common.{◌∙◌, ◌∷◌, ◌++◌, [], refl, ap}
use Rattle.std.specs.Vec.{with_item}
use Rattle.scope_tables.specs.Building.{extent_at}
use Rattle.scope_tables.proofs.RowSteps.{declared, outside_kept}
use Rattle.scope_tables.proofs.rows.Rows.declare.Goals as goal

pub returns-clause-locals : goal.returns-clause-locals
returns-clause-locals c =
    declared c.args.scope.now c.in_ok-place.place (record { locals = c.push.new.self; outside = c.index_mut.result.now.outside }) c.index_mut.result.now c.args.self.now c.place.new.self (record { alloc = c.place.new.self.alloc; names = c.place.new.self.names; rows = with_item c.place.new.self.rows c.in_ok-place.place (record { locals = c.push.new.self; outside = c.index_mut.result.now.outside }) }) c.in_ok-place.ensures.even c.in_ok-place.ensures.locals c.in_ok-place.ensures.within c.in_ok-place.ensures.place (c.in_ok-push.ensures ∙ ap (λ x. x.locals ++ extent_at c.args.scope.now ∷ []) c.index_mut.ensures.value) refl refl

pub returns-clause-outside : goal.returns-clause-outside
returns-clause-outside c =
    outside_kept c.args.scope.now.name c.in_ok-place.place (record { locals = c.push.new.self; outside = c.index_mut.result.now.outside }) c.index_mut.result.now c.args.self.now c.place.new.self (record { alloc = c.place.new.self.alloc; names = c.place.new.self.names; rows = with_item c.place.new.self.rows c.in_ok-place.place (record { locals = c.push.new.self; outside = c.index_mut.result.now.outside }) }) c.in_ok-place.ensures.even c.in_ok-place.ensures.outside c.in_ok-place.ensures.within c.in_ok-place.ensures.place (ap (λ x. x.outside) c.index_mut.ensures.value) refl refl
