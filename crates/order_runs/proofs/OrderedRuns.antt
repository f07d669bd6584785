-- A run of steps over constants that change imports leaves packages that are one program with those of the files as read.
use Rattle.std.proofs.Common.{◌≡◌, sym, ◌∙◌, ℕ, true, List, ◌++◌}
use Rattle.go_tree.specs.declared.spans.Span.{Span}
use Rattle.go_kernel.specs.Kernel.{FuncName}
use Rattle.pkg_graph.specs.Package as run
use Rattle.go_translation.specs.Packages.{Package, program_of, initial_of, are_well_typed}
use Rattle.run_rules.specs.Sites.{MarkRef}
use Rattle.run_rules.specs.Steps.{At}
use Rattle.run_rules.specs.Texts.{FileText}
use Rattle.run_rules.specs.Respanned.{packages_with}
use Rattle.run_rules.specs.Run.{Standing, Logged, Run, ends, goes_on, as_read, here_of}
use Rattle.run_rules.specs.Inlining.{standing_as_read}
use Rattle.order_runs.specs.RunSteps.Bared.{bare_member, bare_members}
use Rattle.order_runs.specs.RunSteps.RunPackages.{members_of, packages_of}
use Rattle.order_runs.proofs.RunSteps.HeadersBared.{map-both}
use Rattle.order_runs.proofs.RunSteps.OtherSpans.{members-with, members_to, members-to}
use Rattle.order_runs.proofs.RunSteps.SpansForgotten.{codes-alike, typed-alike}
use Rattle.order_runs.specs.SameProgram.{SameProgram}
use Rattle.order_runs.specs.ImportingRun.{EachImports}
use Rattle.order_runs.proofs.OrderedSteps.{same-program, program-then, program-itself}

pub run-keeps : (marks : List MarkRef) (st last : Standing) (log : List Logged) (run : Run marks st log last) → EachImports run → (marked : List FuncName) → SameProgram (packages_of st.packages marked) (packages_of last.packages marked)
run-keeps marks st _ _ (ends _ over) h marked = program-itself (packages_of st.packages marked)
run-keeps marks st last _ (goes_on _ next _ l log n run) h marked =
    program-then (packages_of st.packages marked) (packages_of next.packages marked) (packages_of last.packages marked) (same-program marks st l next n h.0 marked) (run-keeps marks next last log run h.1 marked)

-- packages that are one program are so with other spans
module _ (ps qs : List (run.Package At)) (marked : List FuncName) (k : SameProgram (packages_of ps marked) (packages_of qs marked)) (rs us : List (run.Package Span)) (p : bare_members (members_of rs) ≡ bare_members (members_of ps)) (q : bare_members (members_of us) ≡ bare_members (members_of qs)) where
  beside : (ms : List (Package Span)) (ns : List (Package At)) (Q : List (Package Span)) → bare_members ms ≡ bare_members ns → bare_members (ms ++ Q) ≡ bare_members (ns ++ members_to as_read Q)
  beside ms ns Q e = map-both bare_member ms Q ∙ (λ v. e v ++ sym (members-to as_read Q) v) ∙ sym (map-both bare_member ns (members_to as_read Q))

  before : (Q : List (Package Span)) → are_well_typed (members_of rs ++ Q) ≡ true → are_well_typed (members_of ps ++ members_to as_read Q) ≡ true
  before Q w = sym (typed-alike (members_of rs ++ Q) (members_of ps ++ members_to as_read Q) (beside (members_of rs) (members_of ps) Q p)) ∙ w

  pub spans-keep-program : SameProgram (packages_of rs marked) (packages_of us marked)
  spans-keep-program = record {
    typed = λ Q w. typed-alike (members_of us ++ Q) (members_of qs ++ members_to as_read Q) (beside (members_of us) (members_of qs) Q q) ∙ k.typed (members_to as_read Q) (before Q w);
    program = λ Q w.
        (λ z. program_of (codes-alike (members_of rs ++ Q) (members_of ps ++ members_to as_read Q) (beside (members_of rs) (members_of ps) Q p) z))
        ∙ k.program (members_to as_read Q) (before Q w)
        ∙ sym (λ z. program_of (codes-alike (members_of us ++ Q) (members_of qs ++ members_to as_read Q) (beside (members_of us) (members_of qs) Q q) z));
    initial = λ Q w.
        (λ z. initial_of (codes-alike (members_of rs ++ Q) (members_of ps ++ members_to as_read Q) (beside (members_of rs) (members_of ps) Q p) z))
        ∙ k.initial (members_to as_read Q) (before Q w)
        ∙ sym (λ z. initial_of (codes-alike (members_of us ++ Q) (members_of qs ++ members_to as_read Q) (beside (members_of us) (members_of qs) Q q) z));
  }

pub module-keeps : (ps : List (run.Package Span)) (texts : List (List ℕ × FileText)) (marks : List MarkRef) (last : Standing) (log : List Logged) → (run : Run marks (standing_as_read ps texts) log last) → EachImports run → (marked : List FuncName)
    → SameProgram (packages_of ps marked) (packages_of (packages_with here_of last.packages) marked)
module-keeps ps texts marks last log run h marked =
    spans-keep-program (packages_with as_read ps) last.packages marked (run-keeps marks (standing_as_read ps texts) last log run h marked) ps (packages_with here_of last.packages) (sym (members-with as_read ps)) (members-with here_of last.packages)
