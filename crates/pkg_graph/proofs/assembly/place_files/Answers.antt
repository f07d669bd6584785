use Rattle.std.proofs.Common.{◌≡◌, ◌<◌, ◌≤◌, ◌∙◌, ◌+◌, ap, sym, arith, length, map, slice_index_or, slice_set, take, drop, refl, suc}
use Rattle.pkg_graph.specs.Assembly.{packages_with}
use Rattle.std.proofs.lemmas.List.{map_push, get_or-map, length-map, map-set, take_all}
use Rattle.std.specs.Vec.Iter.{into_iter_items}
use Rattle.pkg_graph.specs.Package.{files_of}
use Rattle.pkg_graph.specs.Views.{package_view, source_of, sources_of}
use Rattle.pkg_graph.proofs.AssemblyLaws.{placed_next, with_length, all_placed, with_file, dropped, pushed_view}
use Rattle.pkg_graph.proofs.PlanLaws.{names_length, within_paths}
use Rattle.pkg_graph.proofs.ImportLaws.{numbers_length, one_more}
use Rattle.pkg_graph.proofs.assembly.place_files.Goals as goal

pub index_mut-requires : goal.index_mut-requires
index_mut-requires c =
    let home = c.args.module_path.now in
    let files = c.args.files.items in
    let fs = sources_of files in
    let ps = c.args.homes.now.paths in
    let names = c.args.homes.now.names.items in
    let ns = c.args.homes.now.numbers.items in
    let h = c.requires.homes in
    let i = c.loop-number.number-index in
    let file = c.in-Some.file in
    let d = dropped files i file (into_iter_items c.next.new.self) (sym c.loop-number.invariant.rest ∙ c.in-Some.ensures.items) in
    let l : i < length fs = rw (length-map files source_of) d.0 in
    let n = slice_index_or c.deref-number-items.result.now i 0 in
    let at : n ≡ slice_index_or ns i 0 = ap (λ r. slice_index_or r i 0) c.deref-number-items.ensures.value in
    let items = c.loop-number.packages.items in
    let size : length items ≡ length ps = sym (length-map items package_view) ∙ ap length c.loop-number.invariant.placed ∙ with_length (files_of home (sources_of (take i files))) ps names (names_length home fs ps names ns h) in
    let w : slice_index_or ns i 0 < length ps = within_paths home fs ps names ns h i l in
    let m : n < length items = rw (at, size) w in
    omega (arith, m)

pub loop-number-preserved : goal.loop-number-preserved
loop-number-preserved c =
    let home = c.args.module_path.now in
    let files = c.args.files.items in
    let fs = sources_of files in
    let ps = c.args.homes.now.paths in
    let names = c.args.homes.now.names.items in
    let ns = c.args.homes.now.numbers.items in
    let h = c.requires.homes in
    let i = c.loop-number.number-index in
    let file = c.in-Some.file in
    let d = dropped files i file (into_iter_items c.next.new.self) (sym c.loop-number.invariant.rest ∙ c.in-Some.ensures.items) in
    let l : i < length fs = rw (length-map files source_of) d.0 in
    let n = slice_index_or c.deref-number-items.result.now i 0 in
    let at : n ≡ slice_index_or ns i 0 = ap (λ r. slice_index_or r i 0) c.deref-number-items.ensures.value in
    let items = c.loop-number.packages.items in
    let size : length items ≡ length ps = sym (length-map items package_view) ∙ ap length c.loop-number.invariant.placed ∙ with_length (files_of home (sources_of (take i files))) ps names (names_length home fs ps names ns h) in
    let w : slice_index_or ns i 0 < length ps = within_paths home fs ps names ns h i l in
    let m : n < length items = rw (at, size) w in
    let q = c.index_mut.result.now in
    let f = source_of file in
    let old = map package_view items in
    let is = ap source_of d.1 ∙ sym (get_or-map source_of files i file f d.0) in
    let more = one_more source_of files i file d.0 d.1 in
    let got = ap package_view c.index_mut.ensures.value ∙ sym (get_or-map package_view items n q (package_view q) m) in
    let pushed = ap (map source_of) c.in_ok-add.ensures ∙ map_push source_of q.files file in
    let view = pushed_view (package_view q) q.path q.name (map source_of c.add.new.self) (map source_of q.files) f refl refl refl pushed ∙ ap (λ p. with_file p f) got in
    let set = map-set package_view items n (record { path = q.path; name = q.name; files = c.add.new.self }) ∙ ap (slice_set old n) view ∙ ap (λ k. slice_set old k (with_file (slice_index_or old k (package_view q)) f)) at in
    let one : suc i ≡ i + 1 = omega arith in
    record {
      rest = d.2 ∙ ap (λ k. drop k files) one;
      placed = placed_next home fs (sources_of (take i files)) (sources_of (take (i + 1) files)) f ps names ns i old
          (map package_view (slice_set items n (record { path = q.path; name = q.name; files = c.add.new.self }))) (package_view q) h (names_length home fs ps names ns h) l is more c.loop-number.invariant.placed set;
    }

pub returns : goal.returns
returns c =
    let home = c.args.module_path.now in
    let files = c.args.files.items in
    let fs = sources_of files in
    let ps = c.args.homes.now.paths in
    let names = c.args.homes.now.names.items in
    let ns = c.args.homes.now.numbers.items in
    let h = c.requires.homes in
    let i = c.loop-number.number-index in
    let a = numbers_length home fs ps names ns h in
    let b = length-map files source_of in
    let e = ap length c.deref-number-items.ensures.value in
    let done : length files ≤ i = omega (arith, a, b, e, c.loop-number-test.false) in
    c.loop-number.invariant.placed ∙ ap (λ r. packages_with (files_of home (sources_of r)) ps names) (take_all i files done) ∙ all_placed home fs ps names ns h
