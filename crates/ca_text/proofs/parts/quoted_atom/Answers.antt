use Rattle.std.proofs.Common.{refl, arith}
use Rattle.ca_text.specs.Bytes.{single_quote}
use Rattle.ca_text.specs.Inner.Reading.{most_point}
use Rattle.ca_text.proofs.Characters.{characters_taken, points_scalar}
use Rattle.ca_text.proofs.parts.quoted_atom.Goals as goal

pub text_of-requires : goal.text_of-requires
text_of-requires c =
    let r = (characters_taken single_quote most_point (omega arith) (omega arith) (λ h. refl) _ c.args.most c.args.bytes.now).is _ c.in_ok-points.ensures in
    rw c.as_slice.ensures.value (points_scalar most_point c.in_ok-points.points.items r.points)
