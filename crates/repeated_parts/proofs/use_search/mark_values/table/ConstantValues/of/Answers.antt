use Rattle.std.proofs.Common.{◌∙◌, List, map, take, sym, subst, arith}
use Rattle.module_marks.specs.Views.{mark_ref_of}
use Rattle.repeated_parts.specs.UseSearch.MarkValues.Tables.{DeclKey, key_of, AreKnown}
use Rattle.repeated_parts.proofs.UseSearch.MarkValues.Keys.{marks_known, keys_of}
use Rattle.repeated_parts.proofs.UseSearch.MarkValues.Lists.{next_taken, all_taken}
use Rattle.repeated_parts.proofs.use_search.mark_values.table.ConstantValues.of.Goals as goal

pub loop-mark-preserved : goal.loop-mark-preserved
loop-mark-preserved c =
    subst (λ (ks : List DeclKey). AreKnown c.args.packages.now c.args.scopes.now ks c.add.new.self)
    (sym (next_taken (λ m. key_of (mark_ref_of m)) c.args.marks.now c.loop-mark.mark-index _ c.loop-mark-test.true))
    (c.in_ok-add.ensures (map (λ m. key_of (mark_ref_of m)) (take c.loop-mark.mark-index c.args.marks.now)) c.loop-mark.invariant)

pub returns : goal.returns
returns c = λ m h.
    marks_known c.args.packages.now c.args.scopes.now (map mark_ref_of c.args.marks.now) c.loop-mark.table
    (subst (λ (ks : List DeclKey). AreKnown c.args.packages.now c.args.scopes.now ks c.loop-mark.table)
    (all_taken (λ m. key_of (mark_ref_of m)) c.args.marks.now c.loop-mark.mark-index (omega (arith, c.loop-mark-test.false)) ∙ keys_of c.args.marks.now)
    c.loop-mark.invariant)
    m h
