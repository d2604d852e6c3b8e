use Rattle.std.proofs.Common.{◌≡◌, ◌<◌, ◌^◌, take}
use Rattle.ca_term.specs.Grammar.{number}
use Rattle.ca_order.specs.Languages.{turned}
use Rattle.ca_order.proofs.digits.number_of.Given as goal

abbrev pub invariant-loop-digit : goal.invariant-loop-digit
invariant-loop-digit l = record {
  value : l.number ≡ number (turned l.negative (take l.digit-index l.digits));
  small : l.number < 256 ^ l.digit-index;
}
