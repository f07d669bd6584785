use Rattle.std.proofs.Common.{◌∙◌, ap, map, ℕ, List}
use Rattle.std.proofs.lemmas.List.{map-append}
use Rattle.run_rules.specs.Sites.{member_of, marked}
use Rattle.module_marks.specs.Views.{mark_ref_of}
use Rattle.member_uses.specs.Laws.{mark_used}
use Rattle.repeated_parts.specs.UsesRepeated.Views.{flagged_of}
use Rattle.repeated_parts.specs.UseSearch.UsesOfMarks.Views.{placed_of}
use Rattle.repeated_parts.proofs.UseSearch.UsesOfMarks.Marked.{none_more, one_more}
use Rattle.repeated_parts.proofs.use_search.uses_of_marks.uses.add_use.Goals as goal

pub returns-in-None : goal.returns-in-None
returns-in-None c = λ ps marks h.
    let u = flagged_of c.args.use_.now in
    none_more (map placed_of c.args.uses.now.items) c.args.decl u (mark_used ps marks u.0)
    (c.in-None.ensures ps marks h ∙ ap (λ (n : List ℕ). marked ps marks (member_of ps u.0.«package» n)) c.items.ensures)

pub returns-in_ok-push-in-Some : goal.returns-in_ok-push-in-Some
returns-in_ok-push-in-Some c = λ ps marks h.
    let u = flagged_of c.args.use_.now in
    one_more (map placed_of c.args.uses.now.items) (map placed_of c.push.new.self.items) c.args.decl u (mark_ref_of c.in-Some.mark) (mark_used ps marks u.0)
    (ap (map placed_of) c.in_ok-push-in-Some.ensures.items ∙ map-append placed_of c.args.uses.now.items _)
    (c.in-Some.ensures ps marks h ∙ ap (λ (n : List ℕ). marked ps marks (member_of ps u.0.«package» n)) c.items.ensures)
