use Rattle.std.proofs.Common.{sym, ◌∙◌, arith, length, ap}
use Rattle.ca_table.proofs.KeyParts.{has_code}
use Rattle.ca_store_tests.proofs.Objects.{has_key}
use Rattle.ca_store_tests.proofs.edit.place.Goals as goal

pub returns : goal.returns
returns c =
    let code = (has_code c.args.keypos c.args.object.now c.encode.new.into.items _ _ c.is_object.ensures.bounded
    (sym c.is_object.ensures.value ∙ c.if-not-is_object.false) c.in-Ok.ensures.ok (omega (arith, c.as_slice.ensures.fits, ap length c.as_slice.ensures.value))
    (c.in-Some.ensures c.args.object.now c.is_object.ensures.bounded (c.as_slice.ensures.value ∙ c.in-Ok.ensures.ok))).1 in
    has_key c.args.keypos c.args.object.now c.encode.new.into.items c.in-Some.start c.in-Some.end c.requires (omega (arith, code.rising, code.inside)) code
