use Rattle.std.proofs.Common.{◌∙◌, None, refl, ap, subst, length, ◌≤◌, ◌<◌}
use Rattle.name_walks.specs.EachOnce.{with_name}
use Rattle.scope_tables.specs.Building.{position_of}
use Rattle.scope_tables.proofs.RowSteps.{placed_push, placed_same}
use Rattle.scope_tables.proofs.rows.Rows.place.Goals as goal

pub returns-in_ok-push-clause-even : goal.returns-in_ok-push-clause-even
returns-in_ok-push-clause-even c = (placed_push c.args.name.now c.in_ok-place.place (record { locals = c.new.result; outside = None }) c.args.self.now (record { alloc = c.args.self.now.alloc; names = c.place.new.self; rows = c.push.new.self }) c.requires (c.in_ok-place.ensures.added ∙ ap (λ t. with_name c.args.self.now.names t) (c.in_ok-copy_of.ensures ∙ c.items.ensures)) (c.in_ok-place.ensures.place ∙ ap (λ t. position_of t c.args.self.now.names) (c.in_ok-copy_of.ensures ∙ c.items.ensures)) (subst (λ rs. length rs ≤ c.in_ok-place.place) c.as_slice.ensures.value c.if-place-as_slice.true) c.new.ensures refl c.in_ok-push.ensures.items).even

pub returns-in_ok-push-clause-locals : goal.returns-in_ok-push-clause-locals
returns-in_ok-push-clause-locals c = (placed_push c.args.name.now c.in_ok-place.place (record { locals = c.new.result; outside = None }) c.args.self.now (record { alloc = c.args.self.now.alloc; names = c.place.new.self; rows = c.push.new.self }) c.requires (c.in_ok-place.ensures.added ∙ ap (λ t. with_name c.args.self.now.names t) (c.in_ok-copy_of.ensures ∙ c.items.ensures)) (c.in_ok-place.ensures.place ∙ ap (λ t. position_of t c.args.self.now.names) (c.in_ok-copy_of.ensures ∙ c.items.ensures)) (subst (λ rs. length rs ≤ c.in_ok-place.place) c.as_slice.ensures.value c.if-place-as_slice.true) c.new.ensures refl c.in_ok-push.ensures.items).locals

pub returns-in_ok-push-clause-outside : goal.returns-in_ok-push-clause-outside
returns-in_ok-push-clause-outside c = (placed_push c.args.name.now c.in_ok-place.place (record { locals = c.new.result; outside = None }) c.args.self.now (record { alloc = c.args.self.now.alloc; names = c.place.new.self; rows = c.push.new.self }) c.requires (c.in_ok-place.ensures.added ∙ ap (λ t. with_name c.args.self.now.names t) (c.in_ok-copy_of.ensures ∙ c.items.ensures)) (c.in_ok-place.ensures.place ∙ ap (λ t. position_of t c.args.self.now.names) (c.in_ok-copy_of.ensures ∙ c.items.ensures)) (subst (λ rs. length rs ≤ c.in_ok-place.place) c.as_slice.ensures.value c.if-place-as_slice.true) c.new.ensures refl c.in_ok-push.ensures.items).outside

pub returns-in_ok-push-clause-within : goal.returns-in_ok-push-clause-within
returns-in_ok-push-clause-within c = (placed_push c.args.name.now c.in_ok-place.place (record { locals = c.new.result; outside = None }) c.args.self.now (record { alloc = c.args.self.now.alloc; names = c.place.new.self; rows = c.push.new.self }) c.requires (c.in_ok-place.ensures.added ∙ ap (λ t. with_name c.args.self.now.names t) (c.in_ok-copy_of.ensures ∙ c.items.ensures)) (c.in_ok-place.ensures.place ∙ ap (λ t. position_of t c.args.self.now.names) (c.in_ok-copy_of.ensures ∙ c.items.ensures)) (subst (λ rs. length rs ≤ c.in_ok-place.place) c.as_slice.ensures.value c.if-place-as_slice.true) c.new.ensures refl c.in_ok-push.ensures.items).within

pub returns-in_ok-push-clause-place : goal.returns-in_ok-push-clause-place
returns-in_ok-push-clause-place c = (placed_push c.args.name.now c.in_ok-place.place (record { locals = c.new.result; outside = None }) c.args.self.now (record { alloc = c.args.self.now.alloc; names = c.place.new.self; rows = c.push.new.self }) c.requires (c.in_ok-place.ensures.added ∙ ap (λ t. with_name c.args.self.now.names t) (c.in_ok-copy_of.ensures ∙ c.items.ensures)) (c.in_ok-place.ensures.place ∙ ap (λ t. position_of t c.args.self.now.names) (c.in_ok-copy_of.ensures ∙ c.items.ensures)) (subst (λ rs. length rs ≤ c.in_ok-place.place) c.as_slice.ensures.value c.if-place-as_slice.true) c.new.ensures refl c.in_ok-push.ensures.items).place

pub returns-else-place-as_slice-clause-even : goal.returns-else-place-as_slice-clause-even
returns-else-place-as_slice-clause-even c = (placed_same c.args.name.now c.in_ok-place.place c.args.self.now (record { alloc = c.args.self.now.alloc; names = c.place.new.self; rows = c.args.self.now.rows }) c.requires (c.in_ok-place.ensures.added ∙ ap (λ t. with_name c.args.self.now.names t) (c.in_ok-copy_of.ensures ∙ c.items.ensures)) (c.in_ok-place.ensures.place ∙ ap (λ t. position_of t c.args.self.now.names) (c.in_ok-copy_of.ensures ∙ c.items.ensures)) (subst (λ rs. c.in_ok-place.place < length rs) c.as_slice.ensures.value c.if-place-as_slice.false) refl).even

pub returns-else-place-as_slice-clause-locals : goal.returns-else-place-as_slice-clause-locals
returns-else-place-as_slice-clause-locals c = (placed_same c.args.name.now c.in_ok-place.place c.args.self.now (record { alloc = c.args.self.now.alloc; names = c.place.new.self; rows = c.args.self.now.rows }) c.requires (c.in_ok-place.ensures.added ∙ ap (λ t. with_name c.args.self.now.names t) (c.in_ok-copy_of.ensures ∙ c.items.ensures)) (c.in_ok-place.ensures.place ∙ ap (λ t. position_of t c.args.self.now.names) (c.in_ok-copy_of.ensures ∙ c.items.ensures)) (subst (λ rs. c.in_ok-place.place < length rs) c.as_slice.ensures.value c.if-place-as_slice.false) refl).locals

pub returns-else-place-as_slice-clause-outside : goal.returns-else-place-as_slice-clause-outside
returns-else-place-as_slice-clause-outside c = (placed_same c.args.name.now c.in_ok-place.place c.args.self.now (record { alloc = c.args.self.now.alloc; names = c.place.new.self; rows = c.args.self.now.rows }) c.requires (c.in_ok-place.ensures.added ∙ ap (λ t. with_name c.args.self.now.names t) (c.in_ok-copy_of.ensures ∙ c.items.ensures)) (c.in_ok-place.ensures.place ∙ ap (λ t. position_of t c.args.self.now.names) (c.in_ok-copy_of.ensures ∙ c.items.ensures)) (subst (λ rs. c.in_ok-place.place < length rs) c.as_slice.ensures.value c.if-place-as_slice.false) refl).outside
