use Rattle.std.proofs.Common.{length, arith}
use Rattle.ca_text.specs.Bytes.{double_quote}
use Rattle.ca_text.specs.Inner.Reading.{most_shown}
use Rattle.ca_text.proofs.Characters.{characters_taken}
use Rattle.ca_text.proofs.parts.shown.Goals as goal

pub bytes_of-requires : goal.bytes_of-requires
bytes_of-requires c =
    let r = (characters_taken double_quote most_shown (omega arith) (omega arith) (λ h. absurd (omega arith)) _ (length c.args.bytes.now) c.args.bytes.now).is _
    c.in_ok-points.ensures in
    rw c.as_slice.ensures.value r.points
