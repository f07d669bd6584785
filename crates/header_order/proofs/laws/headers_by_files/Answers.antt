use Rattle.header_order.proofs.FileLemmas.{counts_are_all, headers_by_files, marks_by_files}
use Rattle.header_order.proofs.laws.headers_by_files.Goals as goal

pub returns-clause-marks : goal.returns-clause-marks
returns-clause-marks c = marks_by_files

pub returns-clause-packages : goal.returns-clause-packages
returns-clause-packages c = headers_by_files

pub returns-clause-all : goal.returns-clause-all
returns-clause-all c = counts_are_all
