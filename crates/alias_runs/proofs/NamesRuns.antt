-- A run of steps over constants and aliases leaves packages that are one program with those of the files as read.
use Rattle.std.proofs.Common.{sym, ℕ, List}
use Rattle.go_tree.specs.declared.spans.Span.{Span}
use Rattle.go_kernel.specs.Kernel.{FuncName}
use Rattle.pkg_graph.specs.Package as run
use Rattle.run_rules.specs.Sites.{MarkRef}
use Rattle.run_rules.specs.Texts.{FileText}
use Rattle.run_rules.specs.Respanned.{packages_with}
use Rattle.run_rules.specs.Run.{Standing, Logged, Next, Run, ends, goes_on, as_read, here_of}
use Rattle.run_rules.specs.Inlining.{standing_as_read}
use Rattle.order_runs.specs.RunSteps.RunPackages.{packages_of}
use Rattle.order_runs.proofs.RunSteps.OtherSpans.{members-with}
use Rattle.order_runs.specs.SameProgram.{SameProgram}
use Rattle.order_runs.proofs.OrderedSteps as constants
use Rattle.order_runs.proofs.OrderedSteps.{program-then, program-itself}
use Rattle.order_runs.proofs.OrderedRuns.{spans-keep-program}
use Rattle.alias_runs.specs.AliasNext.{IsName, of_constant, of_alias, EachIsName}
use Rattle.alias_runs.proofs.OrderedAliases as aliases

-- a step over a name
name-keeps : (marks : List MarkRef) (st : Standing) (l : Logged) (after : Standing) (n : Next marks st l after) → IsName n → (marked : List FuncName) → SameProgram (packages_of st.packages marked) (packages_of after.packages marked)
name-keeps marks st l after n (of_constant h) marked = constants.same-program marks st l after n h marked
name-keeps marks st l after n (of_alias h) marked = aliases.same-program marks st l after n h marked

run-keeps : (marks : List MarkRef) (st last : Standing) (log : List Logged) (run : Run marks st log last) → EachIsName run → (marked : List FuncName) → SameProgram (packages_of st.packages marked) (packages_of last.packages marked)
run-keeps marks st _ _ (ends _ over) h marked = program-itself (packages_of st.packages marked)
run-keeps marks st last _ (goes_on _ next _ l log n run) h marked =
    program-then (packages_of st.packages marked) (packages_of next.packages marked) (packages_of last.packages marked) (name-keeps marks st l next n h.0 marked) (run-keeps marks next last log run h.1 marked)

pub module-keeps : (ps : List (run.Package Span)) (texts : List (List ℕ × FileText)) (marks : List MarkRef) (last : Standing) (log : List Logged) → (run : Run marks (standing_as_read ps texts) log last) → EachIsName run → (marked : List FuncName)
    → SameProgram (packages_of ps marked) (packages_of (packages_with here_of last.packages) marked)
module-keeps ps texts marks last log run h marked =
    spans-keep-program (packages_with as_read ps) last.packages marked (run-keeps marks (standing_as_read ps texts) last log run h marked) ps (packages_with here_of last.packages) (sym (members-with as_read ps)) (members-with here_of last.packages)
