use Rattle.run_ranges.proofs.Logs.{edits_follow}
use Rattle.run_ranges.proofs.Room.{have_room}
use Rattle.run_ranges.proofs.laws.ranges_follow_edits.Goals as goal

pub returns-clause-log : goal.returns-clause-log
returns-clause-log c = edits_follow

pub returns-clause-room : goal.returns-clause-room
returns-clause-room c = have_room
