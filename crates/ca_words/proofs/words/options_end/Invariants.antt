use Rattle.std.proofs.Common.{◌≡◌, ◌+◌, false, length, map}
use Rattle.std.specs.String.{string_bytes}
use Rattle.ca_words.specs.Words.{options_end}
use Rattle.ca_words.proofs.words.options_end.Given as goal

abbrev pub invariant-loop-rest : goal.invariant-loop-rest
invariant-loop-rest l = record {
  counted : l.end + options_end l.waits (map string_bytes l.rest) ≡ options_end false (map string_bytes l.words);
  within : l.end + length l.rest ≡ length l.words;
}

abbrev pub decreases-loop-rest : goal.decreases-loop-rest
decreases-loop-rest l = length l.rest
