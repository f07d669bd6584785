use Rattle.std.proofs.Common.{◌≡◌, ◌+◌, ◌<◌, ◌≤◌, ◌^◌, ◌++◌, drop}
use Rattle.run_ranges.specs.Walks.{HasRoom, at_first, joined_on}
use Rattle.run_ranges.proofs.joining.joined_ranges.Given as goal

abbrev pub invariant-loop-i : goal.invariant-loop-i
invariant-loop-i l = record {
  list : l.joined.items ++ joined_on l.next l.walk (drop l.i l.made) ≡ joined_on l.next at_first l.made;
  room : HasRoom l.next l.walk.from l.walk.at (drop l.i l.made);
  small : l.walk.at + l.next.length < 2 ^ 32;
  stays : l.walk.before ≤ l.walk.at;
  before : l.walk.before ≤ l.next.end;
}
