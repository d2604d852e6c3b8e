use Rattle.std.proofs.Common.{length}
use Rattle.ca_text.specs.Inner.Reading.{series_at, segment_step}
use Rattle.ca_text.proofs.Loops.{SeriesSoFar}
use Rattle.ca_text.proofs.parts.segments.Given as goal

abbrev pub invariant-loop-i : goal.invariant-loop-i
invariant-loop-i l = SeriesSoFar segment_step (length l.text) l.i l.bytes.items l.rest (series_at segment_step (length l.text) l.text)
