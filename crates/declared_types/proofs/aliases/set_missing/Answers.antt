use Rattle.std.proofs.Common.{◌+◌, drop, subst, sym}
use Rattle.typed_names.proofs.TypeExprs.NewNames.{drop_item}
use Rattle.declared_types.specs.Steps.{HeadersPassed}
use Rattle.declared_types.proofs.Passed.{passed_set, passed_unset, still_header, still_on}
use Rattle.declared_types.proofs.aliases.set_missing.Goals.{then-branch, else-branch}
use Rattle.declared_types.proofs.aliases.set_missing.Goals as goal

pub returns-in_err-set_header-clause-found : goal.returns-in_err-set_header-clause-found
returns-in_err-set_header-clause-found c =
    let i = c.loop-header.header-index in
    let files = c.args.files.now in
    let headers = c.args.headers.now in
    let item = c.header-item.result in
    let rest = drop (i + 1) headers in
    let step = still_header files headers c.loop-header.types c.set_header.new.types c.loop-header.blocks
    c.set_header.new.blocks c.set_header.ensures.grown c.set_header.ensures.values c.set_header.ensures.known
    c.set_header.ensures.count i item rest
    (drop_item headers i item c.loop-header-test.true c.header-item.is) c.set_header.ensures.found in
    (still_on files headers c.args.types.now c.loop-header.types c.set_header.new.types c.args.blocks.now
    c.loop-header.blocks c.set_header.new.blocks c.loop-header.invariant.still step).found

pub loop-header-preserved : goal.loop-header-preserved
loop-header-preserved c =
    let i = c.loop-header.header-index in
    let files = c.args.files.now in
    let headers = c.args.headers.now in
    let item = c.header-item.result in
    let rest = drop (i + 1) headers in
    let e = c.args.types.now in
    let bs = c.args.blocks.now in
    let f = c.loop-header.types in
    let ds = c.loop-header.blocks in
    let g = c.set_header.new.types in
    let es = c.set_header.new.blocks in
    let here = drop_item headers i item c.loop-header-test.true c.header-item.is in
    let step = still_header files headers f g ds es c.set_header.ensures.grown c.set_header.ensures.values
    c.set_header.ensures.known
    c.set_header.ensures.count i item rest here c.set_header.ensures.found in
    let r = subst (λ left. HeadersPassed files headers left e bs f ds c.loop-header.changed) here c.loop-header.invariant in
    elim c.if-branch.branch [
      | then-branch w ↦
          subst (HeadersPassed files headers rest e bs g es) (sym w.changed-is)
          (passed_set files headers e bs item rest f ds c.loop-header.changed r g es step)
      | else-branch w ↦
          subst (HeadersPassed files headers rest e bs g es) (sym w.changed-is)
          (passed_unset files headers e bs item rest f ds c.loop-header.changed r g es step c.requires.known
          (c.in_ok-set_header.ensures.unset w.if-branch.false) (c.in_ok-set_header.ensures.closed w.if-branch.false))
    ]
