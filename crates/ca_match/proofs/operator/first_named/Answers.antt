-- Row by row.
use Rattle.std.proofs.Common.{ap, sym, ◌∙◌}
use Rattle.std.specs.Prelude.{bytes_eq}
use Rattle.ca_match.proofs.OperatorRows.{row_found, row_passed}
use Rattle.ca_match.specs.declared.operator.Operator.TheVariants.{IsAtom}
use Rattle.ca_match.proofs.operator.first_named.Goals as goal

pub returns-then-eq-clause-value : goal.returns-then-eq-clause-value
returns-then-eq-clause-value c =
    sym (c.loop-operator.invariant
    ∙ row_found c.args.operators.now c.loop-operator.operator-index IsAtom c.args.name.now c.loop-operator-test.true
    (sym (ap (bytes_eq c.args.name.now) c.name.ensures) ∙ sym c.eq.ensures ∙ c.if-eq.true))

pub loop-operator-preserved : goal.loop-operator-preserved
loop-operator-preserved c =
    c.loop-operator.invariant
    ∙ row_passed c.args.operators.now c.loop-operator.operator-index IsAtom c.args.name.now c.loop-operator-test.true
    (sym (ap (bytes_eq c.args.name.now) c.name.ensures) ∙ sym c.eq.ensures ∙ c.if-eq.false)
