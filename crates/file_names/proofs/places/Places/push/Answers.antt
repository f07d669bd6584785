use Rattle.std.proofs.Common.{◌∙◌, ap, sym, cond, Some, bytes_eq}
use Rattle.name_walks.specs.Around.{place_in}
use Rattle.file_names.proofs.PlaceLaws.{kept_there, none_there, put}
use Rattle.file_names.proofs.places.Places.push.Goals as goal

pub returns-then-has : goal.returns-then-has
returns-then-has c = λ names f e. kept_there c.args.self.now c.args.name.now names (sym c.has.ensures ∙ c.if-has.true) f

pub returns : goal.returns
returns c = λ names f e.
    put c.args.self.now c.set.new.self c.args.name.now c.args.place names
    (none_there (place_in c.args.self.now c.args.name.now) (sym c.has.ensures ∙ c.if-has.false))
    (λ q.
    c.in_ok-set.ensures q
    ∙ ap (λ n. cond (bytes_eq q n) (Some c.args.place) (place_in c.args.self.now q)) c.in_ok-copy_of.ensures)
    f e
