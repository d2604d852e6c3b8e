use Rattle.std.proofs.Common.{length}
use Rattle.ca_text.proofs.character.+more_hex.Given as goal

abbrev pub decreases-more_hex : goal.decreases-more_hex
decreases-more_hex l = length l.bytes.now
