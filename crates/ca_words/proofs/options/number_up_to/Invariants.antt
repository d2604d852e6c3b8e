use Rattle.std.proofs.Common.{◌≡◌, length}
use Rattle.ca_words.specs.Grammar.{number_after}
use Rattle.ca_words.proofs.options.number_up_to.Given as goal

abbrev pub invariant-loop-rest : goal.invariant-loop-rest
invariant-loop-rest l = number_after l.number l.rest ≡ number_after 0 l.digits

abbrev pub decreases-loop-rest : goal.decreases-loop-rest
decreases-loop-rest l = length l.rest
