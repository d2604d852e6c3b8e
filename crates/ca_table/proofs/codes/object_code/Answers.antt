use Rattle.std.proofs.Common.{◌∙◌, sym, ap, arith, length}
use Rattle.ca_table.proofs.KeyParts.{has_parts, has_code}
use Rattle.ca_table.proofs.codes.object_code.Goals as goal

pub object_parts-requires-clause-code : goal.object_parts-requires-clause-code
object_parts-requires-clause-code c = (c.args.object.now, c.is_object.ensures.bounded, c.as_slice.ensures.value ∙ c.in-Ok.ensures.ok)

pub unreachable-requires : goal.unreachable-requires
unreachable-requires c =
    has_parts c.args.object.now c.args.keypos (sym c.is_object.ensures.value ∙ c.if-not-is_object.false)
    (c.in_default-object_parts.ensures c.args.object.now c.is_object.ensures.bounded (c.as_slice.ensures.value ∙ c.in-Ok.ensures.ok))

pub returns : goal.returns
returns c =
    has_code c.args.keypos c.args.object.now _ _ _ c.is_object.ensures.bounded (sym c.is_object.ensures.value ∙ c.if-not-is_object.false) c.in-Ok.ensures.ok
    (omega (arith, ap length c.as_slice.ensures.value, c.as_slice.ensures.fits))
    (c.in-Some.ensures c.args.object.now c.is_object.ensures.bounded (c.as_slice.ensures.value ∙ c.in-Ok.ensures.ok))
