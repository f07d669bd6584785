use Rattle.std.proofs.Common.{◌∙◌, Some, refl, sym, ap, not, is_some, get_or}
use Rattle.std.specs.Vec.{with_item}
use Rattle.scope_tables.proofs.RowSteps.{locals_kept, claimed_new, claimed_old, none_there}
use Rattle.scope_tables.proofs.rows.Rows.claim.Goals as goal

pub returns-then-is_none-clause-locals : goal.returns-then-is_none-clause-locals
returns-then-is_none-clause-locals c =
    locals_kept c.args.name.now c.in_ok-place.place (record { locals = c.index_mut.result.now.locals; outside = Some c.args.entity }) c.index_mut.result.now c.args.self.now c.place.new.self (record { alloc = c.place.new.self.alloc; names = c.place.new.self.names; rows = with_item c.place.new.self.rows c.in_ok-place.place (record { locals = c.index_mut.result.now.locals; outside = Some c.args.entity }) }) c.in_ok-place.ensures.even c.in_ok-place.ensures.locals c.in_ok-place.ensures.within c.in_ok-place.ensures.place (ap (λ x. x.locals) c.index_mut.ensures.value) refl refl

pub returns-then-is_none-clause-outside : goal.returns-then-is_none-clause-outside
returns-then-is_none-clause-outside c =
    claimed_new c.args.name.now c.args.entity c.in_ok-place.place (record { locals = c.index_mut.result.now.locals; outside = Some c.args.entity }) c.index.result.now c.args.self.now c.place.new.self (record { alloc = c.place.new.self.alloc; names = c.place.new.self.names; rows = with_item c.place.new.self.rows c.in_ok-place.place (record { locals = c.index_mut.result.now.locals; outside = Some c.args.entity }) }) (sym c.if-is_blank.ensures) c.in_ok-place.ensures.even c.in_ok-place.ensures.outside c.in_ok-place.ensures.within c.in_ok-place.ensures.place refl (none_there (get_or c.place.new.self.rows.items c.in_ok-place.place c.index.result.now).outside (ap (λ r. is_some r.outside) (sym c.index.ensures) ∙ c.is_none.ensures ∙ ap not c.if-is_none.true)) refl refl

pub returns-else-is_none-clause-outside : goal.returns-else-is_none-clause-outside
returns-else-is_none-clause-outside c =
    claimed_old c.args.name.now c.args.entity c.in_ok-place.place c.index.result.now c.args.self.now c.place.new.self c.place.new.self (sym c.if-is_blank.ensures) c.in_ok-place.ensures.even c.in_ok-place.ensures.outside c.in_ok-place.ensures.within c.in_ok-place.ensures.place (ap (λ r. not (is_some r.outside)) (sym c.index.ensures) ∙ ap not (c.is_none.ensures ∙ ap not c.if-is_none.false)) refl refl
