-- The laws of the program after a step. Each is the contract of a function of this crate (Go specification, Source file
-- organization; Import declarations).
use Rattle.std.specs.Prelude.{◌≡◌, List, [], ◌∷◌, ◌++◌, map, Some, None}
use Rattle.go_tree.specs.declared.spans.Span.{Span}
use Rattle.go_tree.specs.File.{File}
use Rattle.go_tree.specs.FileBare.{bare_decl}
use Rattle.go_scan.specs.Unsupported.{IsFirst, unsupported_spans}
use Rattle.splice_laws.specs.ImportSplices.AddedFile.{AreWritable}
use Rattle.pkg_graph.specs.Reads.{Source}
use Rattle.run_rules.specs.Sites.{MarkRef}
use Rattle.run_rules.specs.Naming.{imports_added}
use Rattle.run_rules.specs.Marks.{text_at}
use Rattle.run_rules.specs.Texts.{FileText}
use Rattle.run_rules.specs.Respanned.{file_with}
use Rattle.run_rules.specs.Steps.{At, same_here, Found, new_decls}
use Rattle.run_rules.specs.Run.{Standing, Logged, here_of, step_in, Limits, passed, Next, Run}
use Rattle.run_rules.specs.Laws.{file_found}
use Rattle.run_rules.specs.Inlining.{ReadsAs, Reaches}
use Rattle.run_by_steps.specs.NextPrograms.Made.{PutsForm, MakesFile, NextWith}

-- the tree has the declarations with the form in the use's place, spans aside
abbrev pub HasFormInPlace : Standing → Found At → File Span → Type 0
HasFormInPlace st f tree = map bare_decl tree.decls ≡ map bare_decl (new_decls same_here st.packages f.site f.form)

-- The new text of a step's file is read, as a tree with the form in place.
abbrev pub StepTextsAreRead : Type 0
StepTextsAreRead =
    (marks : List MarkRef) (st : Standing) (f : Found At) (old : FileText) → PutsForm st f old
    → AreWritable (imports_added f.named)
    → (new : FileText) × (tree : File Span) × MakesFile marks st f old new tree × HasFormInPlace st f tree

-- Whatever it is read as, the program with that file is the next one.
abbrev pub MadeFilesAreNext : Type 0
MadeFilesAreNext =
    (marks : List MarkRef) (st : Standing) (f : Found At) (old new : FileText) (tree : File Span)
    → step_in marks st ≡ Some f → text_at f.site.at.source.path st.texts ≡ Some old → PutsForm st f old
    → AreWritable (imports_added f.named) → MakesFile marks st f old new tree
    → NextWith marks st f old new tree

-- Of a next program it is the file.
abbrev pub OneFileIsMade : Type 0
OneFileIsMade =
    (marks : List MarkRef) (st : Standing) (l : Logged) (after : Standing) (n : Next marks st l after) (new : FileText)
    (tree : File Span) → MakesFile marks st n.found n.old new tree
    → (n.new ≡ new) × (file_with here_of n.tree ≡ tree)

-- Where no word of its file was unsupported, none is after a step.
abbrev pub StepsKeepWords : Type 0
StepsKeepWords =
    (marks : List MarkRef) (st : Standing) (l : Logged) (after : Standing) (n : Next marks st l after)
    → ReadsAs n.old (file_found n.found)
    → IsFirst (unsupported_spans n.old.text n.old.tokens n.old.comments) None
    → IsFirst (unsupported_spans n.new.text n.new.tokens n.new.comments) None

-- ---- runs, made step by step

-- Steps within the limits, and one more behind them.
abbrev pub StepsReachOn : Type 0
StepsReachOn =
    (marks : List MarkRef) (m : Limits) (files : List Source) (done log : List Logged) (l : Logged)
    (st mid after : Standing) → Reaches marks m files done st log mid → (n : Next marks mid l after)
    → passed m files (done ++ log) l n.new after.texts ≡ None
    → Reaches marks m files done st (log ++ l ∷ []) after

-- Steps after which no use is free are a run.
abbrev pub ReachedStepsRun : Type 0
ReachedStepsRun =
    (marks : List MarkRef) (m : Limits) (files : List Source) (done log : List Logged) (st last : Standing)
    → Reaches marks m files done st log last → step_in marks last ≡ None → Run marks st log last
