use Rattle.std.proofs.Common.{ℕ, ◌<◌, sym, ap, subst, slice_index_or, []}
use Rattle.go_scan.specs.declared.automaton.TheConstants.{NEXT, STATES}
use Rattle.go_scan.specs.Automaton.{next_of}
use Rattle.go_scan.proofs.AutomatonLemmas.{class_small, next_small}
use Rattle.go_scan.proofs.lexemes.next.Goals as goal

pub bounds-class : goal.bounds-class
bounds-class c = subst (λ (k : ℕ). k < 50) (sym c.class.ensures) (class_small c.args.c)

pub returns-clause-value : goal.returns-clause-value
unfolding next_of
returns-clause-value c = ap (λ (k : ℕ). slice_index_or (slice_index_or NEXT c.args.state []) k 0) c.class.ensures

pub returns-clause-small : goal.returns-clause-small
unfolding next_of
returns-clause-small c = subst (λ (k : ℕ). slice_index_or (slice_index_or NEXT c.args.state []) k 0 < STATES) (sym c.class.ensures) (next_small c.args.state c.args.c c.requires)
