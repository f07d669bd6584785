use Rattle.std.proofs.Common.{rules, ◌≡◌, ◌∙◌, ◌++◌, ◌∷◌, [], ap, sym, subst, Some, cond, bytes_eq, length}
use Rattle.std.specs.Vec.{vec_len}
use Rattle.go_tree.specs.GoWords.Tokens.Pieces.{is_among}
use Rattle.name_walks.specs.Around.{place_in, KnowsPlaces}
use Rattle.name_walks.proofs.AroundLaws.{noted, pushed_old, pushed_new}
use Rattle.name_walks.proofs.around.NamesAround.push.Goals as goal

pub invariant_of-self-then-has : goal.invariant_of-self-then-has
invariant_of-self-then-has c =
    let names = c.self.inside.names.items in
    let name = c.args.name.now in
    subst (λ ns. KnowsPlaces ns c.self.inside.places)
    (sym (c.in_ok-push.ensures.items ∙ ap (λ n. names ++ n ∷ []) (c.in_ok-copy.ensures ∙ c.items.ensures)))
    (pushed_old names c.self.inside.places name c.self.invariant (ap (λ ns. is_among ns name) c.self.view_is ∙ sym c.has.ensures ∙ c.if-has.true))

pub invariant_of-self-in_err-push-2 : goal.invariant_of-self-in_err-push-2
invariant_of-self-in_err-push-2 c =
    let names = c.self.inside.names.items in
    let places = c.self.inside.places in
    let name = c.args.name.now in
    let sized : vec_len c.self.inside.names ≡ length c.self.inside.names.items = search rules in
    subst (λ ns. KnowsPlaces ns c.set.new.self) (sym c.in_err-push-2.ensures.items)
    (noted names places c.set.new.self name c.self.invariant
    (ap (λ ns. is_among ns name) c.self.view_is ∙ sym c.has.ensures ∙ c.if-has.false)
    (λ q.
    c.in_ok-set.ensures.set q
    ∙ ap (λ n. cond (bytes_eq q n) (Some c.len-place.result) (place_in places q)) (c.in_ok-copy_of.ensures ∙ c.items-2.ensures)
    ∙ ap (λ k. cond (bytes_eq q name) (Some k) (place_in places q)) (c.len-place.ensures ∙ sized)))

pub invariant_of-self-2 : goal.invariant_of-self-2
invariant_of-self-2 c =
    let names = c.self.inside.names.items in
    let places = c.self.inside.places in
    let name = c.args.name.now in
    let sized : vec_len c.self.inside.names ≡ length c.self.inside.names.items = search rules in
    subst (λ ns. KnowsPlaces ns c.set.new.self)
    (sym (c.in_ok-push-2.ensures.items ∙ ap (λ n. names ++ n ∷ []) (c.in_ok-copy.ensures ∙ c.items.ensures)))
    (pushed_new names places c.set.new.self name c.self.invariant
    (ap (λ ns. is_among ns name) c.self.view_is ∙ sym c.has.ensures ∙ c.if-has.false)
    (λ q.
    c.in_ok-set.ensures.set q
    ∙ ap (λ n. cond (bytes_eq q n) (Some c.len-place.result) (place_in places q)) (c.in_ok-copy_of.ensures ∙ c.items-2.ensures)
    ∙ ap (λ k. cond (bytes_eq q name) (Some k) (place_in places q)) (c.len-place.ensures ∙ sized)))
