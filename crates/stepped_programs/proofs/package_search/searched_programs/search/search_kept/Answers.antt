use Rattle.std.proofs.Common.{get_or}
use Rattle.stepped_programs.proofs.HeldBlocks.{held_here, held_next}
use Rattle.stepped_programs.proofs.PackageSearch.SearchedPrograms.Packages.{there_read, all_searched}
use Rattle.stepped_programs.proofs.package_search.searched_programs.search.search_kept.Goals as goal

pub search_files-requires-clause-held : goal.search_files-requires-clause-held
search_files-requires-clause-held c =
    let ps = c.args.sources.now.packages.now in
    let k = c.args.number in
    held_here ps k (get_or ps k c.index-sources-number.result) (there_read ps k c.requires.open.there.home c.index-sources-number.result c.requires.open.there.home_is) c.args.held.now
    c.requires.held

pub returns-clause-held : goal.returns-clause-held
returns-clause-held c =
    let ps = c.args.sources.now.packages.now in
    let k = c.args.number in
    held_next ps k (get_or ps k c.index-sources-number.result) (there_read ps k c.requires.open.there.home c.index-sources-number.result c.requires.open.there.home_is)
    c.search_files.result c.args.held.now c.search_files.new.held c.requires.held c.search_files.ensures.held

pub returns-clause-search : goal.returns-clause-search
returns-clause-search c =
    let s = c.args.sources.now in
    let k = c.args.number in
    all_searched s k c.args.files.now c.args.users.now c.search_files.new.users (get_or s.packages.now k c.index-sources-number.result)
    (get_or c.args.files.now k c.index-files-number.result) c.deref.result.now c.deref_mut.result.now c.search_files.new.settled
    (there_read s.packages.now k c.requires.open.there.home c.index-sources-number.result c.requires.open.there.home_is)
    (there_read c.args.files.now k c.requires.open.there.kept c.index-files-number.result c.requires.open.there.kept_is)
    c.deref.ensures.value c.deref_mut.ensures.value c.search_files.result c.search_files.ensures.search c.search_files.ensures.keeps
