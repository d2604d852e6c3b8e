use Rattle.std.proofs.Common.{◌∙◌, sym, ap, arith, length}
use Rattle.ca_bench.proofs.Coding.{placed}
use Rattle.ca_bench.proofs.coded.encoded.Goals as goal

pub invariant_of-result : goal.invariant_of-result
invariant_of-result c =
    placed c.args.object.now _ _ _ c.is_object.ensures.bounded (sym c.is_object.ensures.value ∙ c.if-not-is_object.false) c.in-Ok.ensures.ok
    (omega (arith, ap length c.as_slice.ensures.value, c.as_slice.ensures.fits))
    (c.in_ok-key_at.ensures c.args.object.now c.is_object.ensures.bounded (c.as_slice.ensures.value ∙ c.in-Ok.ensures.ok))
    (omega (arith, c.if-key_at-key_end.false))
