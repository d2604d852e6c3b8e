use Rattle.std.proofs.Common.{◌≡◌, take}
use Rattle.ca_cmd.proofs.line.Lines.to_vec.Given as goal

abbrev pub invariant-loop-at : goal.invariant-loop-at
invariant-loop-at l = l.lines.items ≡ take l.at l.self
