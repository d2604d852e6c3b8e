use Rattle.std.proofs.Common.{◌≡◌, ◌+◌, length}
use Rattle.ca_cmd.specs.Word.{word_length}
use Rattle.ca_cmd.proofs.word.word_length.Given as goal

abbrev pub invariant-loop-rest : goal.invariant-loop-rest
invariant-loop-rest l = record {
  counted : l.length + word_length l.rest ≡ word_length l.text;
  within : l.length + length l.rest ≡ length l.text;
}

abbrev pub decreases-loop-rest : goal.decreases-loop-rest
decreases-loop-rest l = length l.rest
