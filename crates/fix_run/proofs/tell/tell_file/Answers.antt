use Rattle.std.proofs.Common.{◌++◌, [], ◌∷◌, refl}
use Rattle.fix_io.proofs.Appended.{part_later, part_wider, appended_more}
use Rattle.fix_run.proofs.tell.tell_file.Goals as goal

pub returns-in-Err-write_all-clause-err : goal.returns-in-Err-write_all-clause-err
returns-in-Err-write_all-clause-err g c =
    let front = rw c.as_bytes.ensures.value at c.in-Ok.ensures.ok in
    let path = rw c.as_bytes-2.ensures.value at c.in-Err-write_all.ensures.err in
    part_wider _ _ (c.args.front.now ++ c.args.path.now) (10 ∷ []) (part_later _ _ _ c.args.front.now c.args.path.now front path)

pub returns-in-Err-write_all-2-clause-err : goal.returns-in-Err-write_all-2-clause-err
returns-in-Err-write_all-2-clause-err g c =
    let front = rw c.as_bytes.ensures.value at c.in-Ok.ensures.ok in
    let path = rw c.as_bytes-2.ensures.value at c.in-Ok-write_all.ensures.ok in
    part_later _ _ _ (c.args.front.now ++ c.args.path.now) (10 ∷ []) (appended_more _ _ _ _ _ _ front path refl) c.in-Err-write_all-2.ensures.err
