use Rattle.std.proofs.Common.{◌≡◌, ◌≤◌, length, drop}
use Rattle.ca_text.specs.Grammar.{points}
use Rattle.ca_text.proofs.parts.list_of.Given as goal

abbrev pub invariant-loop-left : goal.invariant-loop-left
invariant-loop-left l = record {
  so_far : l.list ≡ points (drop l.left l.codes);
  within : l.left ≤ length l.codes;
}

abbrev pub decreases-loop-left : goal.decreases-loop-left
decreases-loop-left l = l.left
