use Rattle.std.proofs.Common.{Bool, sym, subst}
use Rattle.ca_node.specs.JoinSteps.{attempt_of, HasAbortedJoin}
use Rattle.ca_node.proofs.JoinEnds.{aborts_join_at, has_aborted_join}
use Rattle.ca_node.proofs.joins.abort_join.Goals as goal

pub swap-requires-clause-rule : goal.swap-requires-clause-rule
swap-requires-clause-rule c = aborts_join_at c.args.space.now.table.shared.key _ _ _ c.join_word-word.result (attempt_of c.args.route c.args.attempt) c.join_word-word.ensures.word c.requires.aborting

pub returns-clause-done : goal.returns-clause-done
returns-clause-done c = let told = c.swap.ensures.told in
    subst (λ (b : Bool). HasAbortedJoin b (attempt_of c.args.route c.args.attempt) c.args.pass.now.seat.me c.swap.new.pass.seat.me) (sym told.2)
    (has_aborted_join told.0 c.args.space.now.table.shared.table_id.slots c.join_word-word.result c.args.route c.args.attempt
    c.args.pass.now.seat.me c.swap.new.pass.seat.me c.join_word-word.ensures.word told.1)
