-- A plain use as the use that a step of a run finds (Go specification, Constant declarations).
use Rattle.std.specs.Prelude.{ℕ, Bool, List}
use Rattle.pkg_graph.specs.Package.{Package}
use Rattle.run_rules.specs.Sites.{MarkRef, Site}
use Rattle.run_rules.specs.Steps.{Found}
use Rattle.constant_steps.specs.PlainUse.{PlainUse}

module _ {S : Type 0} (same : S → S → Bool) (commented : ℕ → ℕ → S → Bool) (rs : List (Package S))
    (marks : List MarkRef) (x : Site S) where
  -- the use with its form, its place and the names that the form has for packages
  abbrev pub found_by : PlainUse same commented rs marks x → Found S
  found_by u = record { site = x; kind = u.kind; form = u.form; range = u.range; named = u.packages }
