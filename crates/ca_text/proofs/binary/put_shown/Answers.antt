use Rattle.std.proofs.Common.{◌++◌, ap, sym, ◌∙◌}
use Rattle.ca_text.proofs.Fronts.{on_same}
use Rattle.ca_text.proofs.Writing.{bare_text}
use Rattle.ca_text.proofs.binary.put_shown.Goals as goal

pub returns-then-is_bare-clause-ok : goal.returns-then-is_bare-clause-ok
returns-then-is_bare-clause-ok c =
    let text = bare_text c.args.bytes.now (sym c.is_bare.ensures ∙ c.if-is_bare.true) in
    on_same c.put.result c.put.new.into.items (ap (λ z. c.args.into.now.items ++ z) (sym text)) c.put.ensures.ok
