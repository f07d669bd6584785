use Rattle.std.proofs.Common.{◌∙◌, ◌<◌, sym, ap, length, option_copied, option_map, arith}
use Rattle.source_files.specs.declared.files.SourceFile.{SourceFile}
use Rattle.run_plans.proofs.PlannedFiles.Numbers.{is_within, its_path, never_none, tells}
use Rattle.run_plans.proofs.planned_files.limits.file_limit.Goals as goal

pub offset_bounds-items-file : goal.offset_bounds-items-file
offset_bounds-items-file c =
    let h : c.args.file < length c.items.result.now =
    is_within c.args.packages.now c.args.home c.args.file c.requires.read.0 c.requires.read.1.path_is c.index-packages-home.result c.items.result.now c.items.ensures in
    omega (arith, h)

pub bounds-items-file : goal.bounds-items-file
bounds-items-file c =
    is_within c.args.packages.now c.args.home c.args.file c.requires.read.0 c.requires.read.1.path_is c.index-packages-home.result c.items.result.now c.items.ensures

pub unreachable-requires : goal.unreachable-requires
unreachable-requires c =
    never_none c.args.files.now c.items-path.result.now c.requires.read.0 c.requires.read.1.read
    (its_path c.args.packages.now c.args.home c.args.file c.requires.read.0 c.requires.read.1.path_is c.index-packages-home.result c.items.result.now c.items.ensures c.index-items-file.result c.items-path.result.now c.items-path.ensures)
    c.requires.read.1.there (ap (option_map (λ (f : SourceFile). f.index)) (ap option_copied (sym c.in-None.is) ∙ c.read_file.ensures))

pub returns : goal.returns
returns c = λ path e.
    tells c.args.files.now c.items-path.result.now path c.in-Some.file.now.index c.args.passed c.limit_refusal.result
    (its_path c.args.packages.now c.args.home c.args.file path e c.index-packages-home.result c.items.result.now c.items.ensures c.index-items-file.result c.items-path.result.now c.items-path.ensures)
    (ap (option_map (λ (f : SourceFile). f.index)) (ap option_copied (sym c.in-Some.is) ∙ c.read_file.ensures)) c.limit_refusal.ensures
