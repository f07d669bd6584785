-- What follows from what the code is told of a call of a marked function (Go specification, Exported identifiers;
-- Declarations and scope; the go command's documentation, Internal Directories).
use Rattle.std.specs.Prelude.{ℕ, List, Option, Some, None, if◌then◌else◌}
use Rattle.std.specs.Borrow.{Bor}
use Rattle.std.specs.List.{list_any}
use Rattle.pkg_graph.specs.ModuleFiles.Internal.{may_import}
use Rattle.go_tree.specs.GoTypes.Answers.{given, one_of}
use Rattle.run_rules.specs.Obstacles.{Obstacle, NotAccessible, Internal, Shadowed, Recursive, CommentInside, Spread}
use Rattle.run_rules.specs.Obstacles.{Repeated, first_answer, obstacle_if}
use Rattle.run_rules.specs.Steps.{lies_in}
use Rattle.constant_forms.specs.Told.{path_at}
use Rattle.call_obstacles.specs.declared.uses.CallUse.{CallUse}

-- a name that is found is an obstacle
abbrev pub named_obstacle : (List ℕ → Obstacle) → Option (Bor (List ℕ)) → Option Obstacle
named_obstacle o None = None
named_obstacle o (Some n) = Some (o n.now)

module _ (u : CallUse) where
  -- a name isn't exported
  abbrev pub hidden_told : Option Obstacle
  hidden_told = named_obstacle NotAccessible u.hidden

  -- a name means something else at the use
  abbrev pub shadowed_told : Option Obstacle
  shadowed_told = named_obstacle Shadowed u.shadowed

  -- the path of a package that the package of the use may not import
  abbrev pub refused_path : ℕ → Option (List ℕ)
  refused_path q =
      if may_import (path_at u.packages.now u.there) (path_at u.packages.now q) then None
      else Some (path_at u.packages.now q)

  -- a package that the form needs may not be imported
  abbrev pub internal_told : Option Obstacle
  internal_told = given (first_answer refused_path u.needed.now) (λ path. Some (Internal path))

  -- what the call itself is, after its text and packages
  abbrev pub spoiled_told : Option Obstacle
  spoiled_told =
      one_of (obstacle_if u.recursive Recursive)
      (one_of (obstacle_if (list_any (lies_in u.span) u.comments.now) CommentInside)
      (one_of (obstacle_if u.spread Spread) (obstacle_if u.repeated Repeated)))

  -- the first obstacle
  abbrev pub obstacle_told : Option Obstacle
  obstacle_told = one_of hidden_told (one_of internal_told (one_of shadowed_told spoiled_told))
