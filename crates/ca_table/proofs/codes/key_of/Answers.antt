use Rattle.ca_table.proofs.KeyRead.{not_refused, key_inside, key_code, key_read}
use Rattle.ca_table.proofs.codes.key_of.Goals as goal

pub part-inside-requires-clause-inside : goal.part-inside-requires-clause-inside
part-inside-requires-clause-inside c =
    key_inside c.args.keypos c.as_slice-bytes.result.now c.args.object.now.items c.as_slice-bytes.ensures.value c.requires c.in-Some.start c.in-Some.end
    c.in-Some.ensures

pub unreachable-requires-in-Err-NotACode : goal.unreachable-requires-in-Err-NotACode
unreachable-requires-in-Err-NotACode c =
    not_refused c.part-inside.result.now c.in-Err-NotACode.field-0 c.in-Err-NotACode.field-0-0
    (key_code c.args.keypos c.as_slice-bytes.result.now c.args.object.now.items c.as_slice-bytes.ensures.value c.requires c.in-Some.start c.in-Some.end
    c.in-Some.ensures c.part-inside.result.now c.part-inside.ensures)
    c.in-Err-NotACode.field-0-is c.in-Err-NotACode.ensures.fault

pub returns : goal.returns
returns c =
    key_read c.args.keypos c.as_slice-bytes.result.now c.args.object.now.items c.as_slice-bytes.ensures.value c.requires c.in-Some.start c.in-Some.end
    c.in-Some.ensures c.part-inside.result.now c.part-inside.ensures c.in-Ok.key c.kind-kind.ensures.bounded c.in-Ok.ensures.ok
