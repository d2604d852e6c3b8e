use Rattle.std.proofs.Common.{Bool, sym, ◌∙◌, subst}
use Rattle.ca_rows.specs.declared.sizes.Sizes.{Sizes}
use Rattle.ca_node.specs.States.{IsAlone}
use Rattle.ca_node.specs.JoinSteps.{attempt_of, HasSecuredJoin}
use Rattle.ca_node.proofs.JoinEnds.{secures_join_at, has_secured_join, lost_securing}
use Rattle.ca_node.proofs.joins.secure_join.Goals as goal

pub swap-requires-clause-rule : goal.swap-requires-clause-rule
swap-requires-clause-rule c = let k = c.requires.securing in
    secures_join_at c.args.space.now.table.shared.key _ _ _ c.join_word-word.result (attempt_of c.args.route c.args.attempt) k.0 k.1
    c.join_word-word.ensures.word c.requires.own.1 k.2

pub returns-clause-done : goal.returns-clause-done
returns-clause-done c = let told = c.swap.ensures.told in
    subst (λ (b : Bool). HasSecuredJoin b (attempt_of c.args.route c.args.attempt) c.args.pass.now.seat.me c.swap.new.pass.seat.me) (sym told.2)
    (has_secured_join told.0 c.args.space.now.table.shared.table_id.slots c.join_word-word.result c.args.route c.args.attempt
    c.args.pass.now.seat.me c.swap.new.pass.seat.me c.join_word-word.ensures.word told.1)

pub returns-clause-several : goal.returns-clause-several
returns-clause-several c lost = let told = c.swap.ensures.told in let m = c.args.pass.now.seat.me in
    subst (λ (y : Sizes). ¬ IsAlone y m.0.upper) c.requires.own.1
    (lost_securing told.0 c.args.space.now.table.shared.table_id.slots c.join_word-word.result c.args.route c.args.attempt m c.swap.new.pass.seat.me
    told.1 (sym told.2 ∙ lost))
