-- The files of a folder as a run leaves them (golang.org/x/tools, analyzer inline; Go specification, Source file
-- organization; Packages).
use Rattle.std.specs.Prelude.{ℕ, List, map, Some, None}
use Rattle.pkg_graph.specs.Reads.{Source}
use Rattle.run_rules.specs.Inlining.{ModuleReads}
use Rattle.run_rules.specs.Marks.{text_at}
use Rattle.run_rules.specs.Respanned.{packages_with}
use Rattle.run_rules.specs.Run.{Standing, Logged, Run, ends, goes_on, here_of}
use Rattle.run_rules.specs.Sites.{MarkRef}
use Rattle.run_rules.specs.Texts.{FileText}
use Rattle.order_runs.specs.CycleRuns.Linked.{WritesFile}

-- a file with the text that its path has among these, or as it was
abbrev pub file_after : List (List ℕ × FileText) → Source → Source
file_after texts f = elim (text_at f.path texts) [ None ↦ f | Some t ↦ record { path = f.path; text = t.text } ]

-- The files of a folder as a run leaves them, whose last program has these texts: by its path, each Go file that was
-- read has its text there; every other file is as it was.
abbrev pub files_after : List Source → List (List ℕ × FileText) → List Source
files_after files texts = map (file_after texts) files

-- the bytes of a folder's files, by their paths
abbrev pub bytes_in : List Source → List (List ℕ × List ℕ)
bytes_in files = map (λ f. (f.path, f.text)) files

-- The files of a folder, with the texts of a program as it stands, read as a module of its packages.
abbrev pub StandsAsModule : List Source → Standing → Type 0
StandsAsModule files st = ModuleReads (files_after files st.texts) (packages_with here_of st.packages) st.texts

-- each step of a run writes its file
abbrev pub AllWrite : {marks : List MarkRef} {st last : Standing} {log : List Logged} → Run marks st log last → Type 0
AllWrite (ends st over) = Unit {0}
AllWrite (goes_on st next last l log n run) = WritesFile n × AllWrite run
