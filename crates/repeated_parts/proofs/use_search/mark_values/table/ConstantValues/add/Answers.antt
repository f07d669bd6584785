use Rattle.std.proofs.Common.{◌∙◌, sym}
use Rattle.module_marks.specs.Views.{mark_ref_of}
use Rattle.repeated_parts.specs.UseSearch.MarkValues.Tables.{key_of}
use Rattle.repeated_parts.proofs.UseSearch.MarkValues.Keys.{kept}
use Rattle.repeated_parts.proofs.use_search.mark_values.table.ConstantValues.add.Goals as goal

pub returns-then-has : goal.returns-then-has
returns-then-has c = λ done a.
    kept c.args.packages.now c.args.scopes.now done (key_of (mark_ref_of c.args.mark)) c.args.self.now
    (sym c.has.ensures ∙ c.if-has.true) a

pub set-requires : goal.set-requires
set-requires c =
    c.requires (key_of (mark_ref_of c.args.mark)) c.in-Some-marked_scopes.file.now (sym c.in-Some-marked_scopes.ensures)
