use Rattle.std.proofs.Common.{◌≡◌, length}
use Rattle.number_cycles.specs.Owners.{AddsBack}
use Rattle.number_cycles.proofs.reversed.add_back.Given as goal

abbrev pub invariant-loop-m : goal.invariant-loop-m
invariant-loop-m l = record {
  size : length l.rows ≡ length l.initial.rows;
  added : AddsBack l.numbers l.k l.initial.rows l.rows;
}
