use Rattle.std.proofs.Common.{sym, ◌∙◌, ap, ◌++◌}
use Rattle.ca_term.specs.Code.{code_of}
use Rattle.ca_order.proofs.Cuts.{front_is, back_is}
use Rattle.ca_order.proofs.Integers.{one_there}
use Rattle.ca_order.proofs.counter.split_element.Goals as goal

pub skip-rest-requires : goal.skip-rest-requires
skip-rest-requires c = (c.requires.1, one_there c.requires.0 c.args.bytes.now c.requires.1 c.requires.2 c.requires.3)

pub returns : goal.returns
returns c = λ t end n e.
    let f = c.skip-rest.ensures.rest end (one_there t c.args.bytes.now end n e) in
    let cut = e ∙ ap (λ x. code_of t ++ x) (sym f) in (
      c.split_at.ensures.front ∙ front_is c.args.bytes.now (code_of t) c.skip-rest.result.now cut,
      c.split_at.ensures.back ∙ back_is c.args.bytes.now (code_of t) c.skip-rest.result.now cut ∙ f,
    )
