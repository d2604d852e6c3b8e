use Rattle.std.proofs.Common.{◌≡◌, ◌++◌}
use Rattle.ca_order.specs.Languages.{zero_bytes}
use Rattle.ca_order.proofs.reading.read_size.Given as goal

abbrev pub invariant-loop : goal.invariant-loop
invariant-loop l = l.bytes ≡ zero_bytes l.counter ++ l.rest
