use Rattle.std.proofs.Common.{sym, subst, true, rules, ◌≡◌, ◌<◌, length, slice_index_or}
use Rattle.std.specs.Vec.{vec_len}
use Rattle.std.proofs.lemmas.List.{take_all}
use Rattle.pkg_graph.specs.ImportOrder.Numbers.{is_among, AreMarked}
use Rattle.pkg_graph.proofs.ImportOrder.NumberLaws.{number_at, same_number, last_at, among_at}
use Rattle.pkg_graph.proofs.import_order.order.try_path.Goals as goal

pub bounds-marks-k : goal.bounds-marks-k
bounds-marks-k c = let h = number_at c.args.paths.now c.args.path.now c.in-Some.k (sym c.in-Some.ensures) in rw c.requires.marks h.0

pub row-imports-requires : goal.row-imports-requires
row-imports-requires c = let h = number_at c.args.paths.now c.args.path.now c.in-Some.k (sym c.in-Some.ensures) in rw c.requires.rows h.0

pub index-requires : goal.index-requires
index-requires c =
    let sized : vec_len c.args.places.now ≡ length c.args.places.now.items = search rules in
    let h = number_at c.args.paths.now c.args.path.now c.in-Some.k (sym c.in-Some.ensures) in
    rw (sized, c.requires.places.size, c.requires.rows) h.0

pub index_mut-requires : goal.index_mut-requires
index_mut-requires c =
    let sized : vec_len c.args.places.now ≡ length c.args.places.now.items = search rules in
    let h = number_at c.args.paths.now c.args.path.now c.in-Some.k (sym c.in-Some.ensures) in
    rw (sized, c.requires.places.size, c.requires.rows) h.0

pub add-requires : goal.add-requires
add-requires c =
    let m = slice_index_or c.row-imports.result.now c.first_unmarked-place.result 0 in
    let link = subst (λ r. is_among r m ≡ true) c.row-imports.ensures (among_at c.row-imports.result.now c.first_unmarked-place.result 0 c.if-place-imports.true) in
    rw (c.requires.waiting, ← c.requires.rows) (c.requires.within c.in-Some.k m link)

pub returns-in_ok-add-clause-waits : goal.returns-in_ok-add-clause-waits
returns-in_ok-add-clause-waits c = λ j h e o.
    let k = c.in-Some.k in
    let m = slice_index_or c.row-imports.result.now c.first_unmarked-place.result 0 in
    let same : j ≡ k = same_number c.args.paths.now j k c.requires.distinct h c.args.path.now e (sym c.in-Some.ensures) in
    let link = subst (λ r. is_among r m ≡ true) c.row-imports.ensures (among_at c.row-imports.result.now c.first_unmarked-place.result 0 c.if-place-imports.true) in
    let m_in : m < length c.args.waiting.now = rw (c.requires.waiting, ← c.requires.rows) (c.requires.within k m link) in
    rw same (record { for_ = m; link = link; open_ = c.first_unmarked-place.ensures.unmarked c.if-place-imports.true; waits = last_at c.args.waiting.now m k c.add.new.self m_in c.in_ok-add.ensures })

pub returns-else-place-imports-clause-open : goal.returns-else-place-imports-clause-open
returns-else-place-imports-clause-open c =
    let h = number_at c.args.paths.now c.args.path.now c.in-Some.k (sym c.in-Some.ensures) in
    let all = rw (take_all c.first_unmarked-place.result c.row-imports.result.now c.if-place-imports.false) at c.first_unmarked-place.ensures.before in
    record { within = rw c.requires.rows h.0; open_ = c.if-marks-k.false; imports = subst (AreMarked c.args.marks.now) c.row-imports.ensures all }

pub returns-else-place-imports-clause-named : goal.returns-else-place-imports-clause-named
returns-else-place-imports-clause-named c = (number_at c.args.paths.now c.args.path.now c.in-Some.k (sym c.in-Some.ensures)).1
