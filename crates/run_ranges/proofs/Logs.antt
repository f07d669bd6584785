-- The edits of a file, one step of the log after another.
use Rattle.std.proofs.Common.{refl, [], ◌∷◌, if◌then◌else◌, bytes_eq}
use Rattle.run_rules.specs.Run.{joined_with}
use Rattle.run_ranges.specs.Laws.{EditsFollowTheLog}

pub edits_follow : EditsFollowTheLog
edits_follow path made [] l = refl
edits_follow path made (k ∷ log) l = edits_follow path (if bytes_eq path k.file then joined_with k.edits made else made) log l
