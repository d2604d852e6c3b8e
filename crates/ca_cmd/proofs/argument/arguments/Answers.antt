use Rattle.std.proofs.Common.{rules, ◌≤◌, suc, [], ◌∷◌, add-one, arith, length-append}
use Rattle.ca_cmd.proofs.Arguments.{one_more, stays_refused}
use Rattle.ca_cmd.proofs.argument.arguments.Goals as goal

pub returns-in_err-term-clause-value : goal.returns-in_err-term-clause-value
returns-in_err-term-clause-value c =
    let further : suc c.loop.counter ≤ c.args.count = omega arith in
    search (
      rules,
      stays_refused c.args.size c.args.bytes.now c.loop.counter c.args.count c.loop.terms.items c.loop.rest.now c.in_err-term.field-0.0
          c.loop.invariant.read c.in_err-term.ensures.value further,
    )

pub loop-preserved : goal.loop-preserved
loop-preserved c = record {
  read = rw (add-one, c.in-Ok.ensures.items) (one_more c.args.size c.args.bytes.now c.loop.counter c.loop.terms.items c.loop.rest.now _ c.in_ok-term.term
      c.loop.invariant.read c.in_ok-term.ensures.value);
  many = rw c.in-Ok.ensures.items (omega (arith, length-append c.loop.terms.items (c.in_ok-term.term ∷ []), c.loop.invariant.many));
  within = omega (arith, c.in_ok-term.ensures.within, c.loop.invariant.within);
}
