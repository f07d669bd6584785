use Rattle.std.proofs.Common.{◌≡◌, ◌∙◌, ◌+◌, ◌++◌, ◌∷◌, List, drop, filter, get_or, map, nat_eq, ap, sym}
use Rattle.std.specs.Prelude.{ℕ}
use Rattle.std.specs.List.{starts_with}
use Rattle.std.proofs.lemmas.List.{drop_more}
use Rattle.file_names.specs.declared.members.MarkRef.{MarkRef}
use Rattle.pkg_graph.specs.Views.{package_view}
use Rattle.module_marks.specs.Views.{mark_ref_of}
use Rattle.run_rules.specs.Marks.{full_name, home_path}
use Rattle.narrowed_marks.specs.Narrowed.{begins_with}
use Rattle.narrowed_marks.proofs.NarrowLemmas.{own_name_alone, kept_on, left_out}
use Rattle.narrowed_marks.proofs.narrow.narrowed.Goals as goal
use Rattle.narrowed_marks.proofs.narrow.narrowed.Goals.{then-starts_with+in_ok-push, else-starts_with}

pub loop-mark-preserved : goal.loop-mark-preserved
loop-mark-preserved c =
    let ps = map package_view c.args.packages.now in
    let only = c.args.only.now in
    let i = c.loop-mark.mark-index in
    let marks = c.args.marks.now in
    let m = get_or marks i _ in
    let rest = drop (i + 1) marks in
    let tests : begins_with ps only (mark_ref_of m) ≡ c.starts_with.result =
    ap (λ (n : List ℕ). starts_with nat_eq (full_name (home_path ps (mark_ref_of m)) n) only) (own_name_alone ps (mark_ref_of m) (c.requires i _ c.loop-mark-test.true))
    ∙ ap (λ (t : List ℕ). starts_with nat_eq t only) (sym (c.deref.ensures.value ∙ c.in_ok-full.ensures))
    ∙ sym c.starts_with.ensures.value in
    let back : map mark_ref_of c.loop-mark.kept.items ++ filter (begins_with ps only) (map mark_ref_of (m ∷ rest)) ≡ filter (begins_with ps only) (map mark_ref_of marks) =
    ap (λ (ms : List MarkRef). map mark_ref_of c.loop-mark.kept.items ++ filter (begins_with ps only) (map mark_ref_of ms)) (sym (drop_more marks i _ c.loop-mark-test.true))
    ∙ c.loop-mark.invariant in
    elim c.if-starts_with.branch [
      | then-starts_with+in_ok-push w ↦
          kept_on (begins_with ps only) mark_ref_of c.loop-mark.kept.items c.if-starts_with.kept.items m rest (ap (λ v. v.items) w.kept-is ∙ w.in_ok-push.ensures.items) (tests ∙ w.if-starts_with.true) ∙ back
      | else-starts_with w ↦
          ap (λ v. map mark_ref_of v.items ++ filter (begins_with ps only) (map mark_ref_of rest)) w.kept-is
          ∙ left_out (begins_with ps only) mark_ref_of c.loop-mark.kept.items m rest (tests ∙ w.if-starts_with.false) ∙ back
    ]
