-- Compiled specifications, which a table keeps, may be handed to another thread.
use denote.Param.Send.{IsSend, sendable}
use Rattle.std.proofs.Crossing.{crosses as of_std}
use Rattle.ca_ets.proofs.Crossing.{term_send}
use Rattle.ca_match.specs.contracts.operator.Operator as operator
use Rattle.ca_spec.proofs.expression.Expression.TheLaws.TheKnot.{crosses as of_expressions}
use Rattle.ca_spec.proofs.pattern.Pattern.TheLaws.TheKnot.{crosses as of_patterns}
use Rattle.ca_spec.specs.contracts.clause.Clause as clause
use Rattle.ca_spec.specs.contracts.constant.Constant as constant
use Rattle.ca_spec.specs.contracts.expression.Expression as expression
use Rattle.ca_spec.specs.contracts.pattern.Pattern as pattern
use Rattle.ca_spec.specs.contracts.spec.Spec as spec

pub constant_send : IsSend constant.the_row
constant_send = search (sendable, of_std, term_send) depth 30

pub pattern_send : IsSend pattern.the_row
pattern_send = search (sendable, of_patterns, of_std, constant_send) depth 30

-- There are 37 operators, each of which takes the search one lemma deeper.
pub operator_send : IsSend operator.the_row
operator_send = search sendable depth 120 fits 20000

pub expression_send : IsSend expression.the_row
expression_send = search (sendable, of_expressions, of_std, constant_send, operator_send) depth 30

pub clause_send : IsSend clause.the_row
clause_send = search (sendable, of_std, pattern_send, expression_send) depth 30

pub spec_send : IsSend spec.the_row
spec_send = search (sendable, of_std, term_send, clause_send) depth 30
