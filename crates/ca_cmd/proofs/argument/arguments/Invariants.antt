use Rattle.std.proofs.Common.{◌≡◌, ◌≤◌, length, Ok}
use Rattle.ca_cmd.specs.Argument.{AreArguments}
use Rattle.ca_cmd.proofs.argument.arguments.Given as goal

abbrev pub invariant-loop : goal.invariant-loop
invariant-loop l = record {
  read : AreArguments l.size l.bytes l.counter (Ok (l.terms.items, l.rest));
  many : length l.terms.items ≡ l.counter;
  within : length l.rest ≤ length l.bytes;
}
