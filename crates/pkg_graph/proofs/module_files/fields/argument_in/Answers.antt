use Rattle.go_tree.specs.GoWords.Tokens.Characters.{is_blank}
use Rattle.pkg_graph.proofs.ModuleFiles.FieldLaws.{denied, granted, no_field, one_field, two_fields, more_fields, other_word}
use Rattle.pkg_graph.proofs.module_files.fields.argument_in.Goals as goal

pub returns-in_err-first : goal.returns-in_err-first
returns-in_err-first c =
    let are = c.fields_with-fields.ensures.fields is_blank (λ x r h. h) in
    let none = rw c.in_err-first.was at (c.next.ensures.steps.1 is_blank (λ x r h. h)) in
    rw c.from_residual.ensures (no_field c.args.word.now c.args.line.now _ are none.0)

pub returns-in_err-second : goal.returns-in_err-second
returns-in_err-second c =
    let are = c.fields_with-fields.ensures.fields is_blank (λ x r h. h) in
    let first = rw c.in_ok-first.was at (c.next.ensures.steps.1 is_blank (λ x r h. h)) in
    let none = rw c.in_err-second.was at (c.next-2.ensures.steps.1 is_blank (λ x r h. h)) in
    rw c.from_residual-in_err-second.ensures (one_field c.args.word.now c.args.line.now _ are c.in_ok-first.first.now _ first none.0)

pub returns-then-ne : goal.returns-then-ne
returns-then-ne c =
    let are = c.fields_with-fields.ensures.fields is_blank (λ x r h. h) in
    let first = rw c.in_ok-first.was at (c.next.ensures.steps.1 is_blank (λ x r h. h)) in
    let second = rw c.in_ok-second.was at (c.next-2.ensures.steps.1 is_blank (λ x r h. h)) in
    other_word c.args.word.now c.args.line.now _ are c.in_ok-first.first.now c.in_ok-second.second.now _ _ first second (denied c.ne.result _ c.ne.ensures c.if-ne.true)

pub returns-in-None : goal.returns-in-None
returns-in-None c =
    let are = c.fields_with-fields.ensures.fields is_blank (λ x r h. h) in
    let first = rw c.in_ok-first.was at (c.next.ensures.steps.1 is_blank (λ x r h. h)) in
    let second = rw c.in_ok-second.was at (c.next-2.ensures.steps.1 is_blank (λ x r h. h)) in
    let none = rw c.in-None.is at (c.next-3.ensures.steps.1 is_blank (λ x r h. h)) in
    two_fields c.args.word.now c.args.line.now _ are c.in_ok-first.first.now c.in_ok-second.second.now _ _ first second (granted c.ne.result _ c.ne.ensures c.if-ne.false) none.0

pub returns-in-Some : goal.returns-in-Some
returns-in-Some c =
    let are = c.fields_with-fields.ensures.fields is_blank (λ x r h. h) in
    let first = rw c.in_ok-first.was at (c.next.ensures.steps.1 is_blank (λ x r h. h)) in
    let second = rw c.in_ok-second.was at (c.next-2.ensures.steps.1 is_blank (λ x r h. h)) in
    let third = rw c.in-Some.is at (c.next-3.ensures.steps.1 is_blank (λ x r h. h)) in
    more_fields c.args.word.now c.args.line.now _ are c.in_ok-first.first.now c.in_ok-second.second.now _ _ first second c.in-Some.field-0.now _ third
