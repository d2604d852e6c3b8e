use Rattle.ca_table.proofs.Written.{is_new}
use Rattle.ca_table.proofs.update.is_written.Goals as goal

pub returns : goal.returns
returns c = λ old update h.
    is_new c.args.keypos old update c.args.answer c.as_slice.result.now c.args.code.now.items c.in-Some.start _ c.object_parts.result c.in-Done.is h
    c.as_slice.ensures.value c.in-Some.is c.object_parts.ensures
