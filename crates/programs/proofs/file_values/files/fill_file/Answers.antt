use Rattle.std.proofs.Common.{map, arith}
use Rattle.std.proofs.lemmas.List.{length-map}
use Rattle.go_tree.specs.FileView.{decl_of}
use Rattle.member_uses.specs.Views.{names_in}
use Rattle.programs.proofs.FileValues.Filling.{none_filled, all_filled, filled_next}
use Rattle.programs.proofs.file_values.files.fill_file.Goals as goal

pub loop-number-init : goal.loop-number-init
loop-number-init c = none_filled c.args.names.now.home c.args.file (names_in c.args.names.now) (map decl_of c.args.decls.now) c.args.values.now

pub loop-number-preserved : goal.loop-number-preserved
loop-number-preserved c =
    filled_next c.args.names.now.home c.args.file (names_in c.args.names.now) c.args.decls.now c.args.values.now c.loop-number.number c.index-decls-number.result
    c.loop-number-test.true c.index-decls-number.is c.loop-number.values c.fill_decl.new.values c.in_ok-fill_decl.ensures.filled c.in_ok-fill_decl.ensures.left
    c.loop-number.invariant

pub returns : goal.returns
returns c =
    all_filled c.args.names.now.home c.args.file (names_in c.args.names.now) (map decl_of c.args.decls.now) c.args.values.now c.loop-number.number
    c.loop-number.values (omega (arith, c.loop-number-test.false, length-map c.args.decls.now decl_of)) c.loop-number.invariant
