use Rattle.std.proofs.Common.{◌∙◌, ◌++◌, [], ap, drop, subst, sym}
use Rattle.std.specs.Option.{option_to_list}
use Rattle.typed_names.specs.Locals.{innermost, KnowsTops}
use Rattle.typed_names.proofs.LocalLaws.{innermost_last, is_in_table, removed_name}
use Rattle.typed_names.proofs.locals.Locals.pop.Goals as goal

pub put_back-requires : goal.put_back-requires
put_back-requires c =
    let b = c.in-Some.binding in
    let before = c.pop.ensures.items ∙ ap (λ o. c.pop.new.self.items ++ option_to_list o) c.in-Some.is in
    is_in_table c.pop.new.self.items c.self.inside.tops b
    (subst (λ bs. KnowsTops bs c.self.inside.tops) before c.self.invariant)

pub invariant_of-self : goal.invariant_of-self
invariant_of-self c =
    let b = c.in-Some.binding in
    let before = c.pop.ensures.items ∙ ap (λ o. c.pop.new.self.items ++ option_to_list o) c.in-Some.is in
    removed_name c.pop.new.self.items c.self.inside.tops c.put_back.new.self b
    (subst (λ bs. KnowsTops bs c.self.inside.tops) before c.self.invariant) c.put_back.ensures

pub returns-in-Some : goal.returns-in-Some
returns-in-Some c =
    let b = c.in-Some.binding in
    let before = c.pop.ensures.items ∙ ap (λ o. c.pop.new.self.items ++ option_to_list o) c.in-Some.is in
    rw (← c.self.view_is)
    (sym (ap (λ bs. drop 1 (innermost [] bs)) before ∙ ap (drop 1) (innermost_last [] c.pop.new.self.items b)))
