use Rattle.std.proofs.Common.{◌∙◌, ◌&&◌, ap, sym, bytes_eq, length, nat_lt, slice_index_or, []}
use Rattle.name_walks.specs.Around.{place_in}
use Rattle.name_walks.proofs.AroundLaws.{none_known, one_known}
use Rattle.name_walks.proofs.around.NamesAround.has.Goals as goal

pub returns-in-None : goal.returns-in-None
returns-in-None c =
    let places = c.self.inside.places in
    rw (← c.self.view_is)
    (sym
    (none_known c.self.inside.names.items places c.args.name.now c.self.invariant
    (sym (ap (place_in places) c.items.ensures) ∙ sym c.of.ensures ∙ c.in-None.is)))

pub returns-in-Some : goal.returns-in-Some
returns-in-Some c =
    let places = c.self.inside.places in
    let place = c.in-Some.place in
    let name = c.args.name.now in
    rw (← c.self.view_is)
    (c.stands_at.ensures
    ∙ ap (λ ns. nat_lt place (length ns) && bytes_eq (slice_index_or ns place []) name) c.deref.ensures.value
    ∙ one_known c.self.inside.names.items places name place c.self.invariant
    (sym (ap (place_in places) c.items.ensures) ∙ sym c.of.ensures ∙ c.in-Some.is))
