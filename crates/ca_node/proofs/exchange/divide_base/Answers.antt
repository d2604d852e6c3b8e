use Rattle.std.proofs.Common.{Bool, sym, subst}
use Rattle.ca_node.specs.Told.{HasDivided, link_word}
use Rattle.ca_node.proofs.Dividing.{divides_from, has_divided, missed_division}
use Rattle.ca_node.proofs.exchange.divide_base.Goals as goal

pub divide_link-requires-clause-rule : goal.divide_link-requires-clause-rule
divide_link-requires-clause-rule g c =
    divides_from c.args.space.now.table.shared.key _ _ _ (link_word c.args.link) c.args.old
    c.args.route
    g.K.Plan.division c.requires.division c.requires.old c.requires.route c.requires.link

pub returns-clause-done : goal.returns-clause-done
returns-clause-done g c = let told = c.divide_link.ensures.told in
    subst (λ (b : Bool).
    HasDivided b g.K.Plan.division c.args.pass.now.seat.me c.divide_link.new.pass.seat.me)
    (sym told.2)
    (has_divided told.0 (link_word c.args.link) c.args.old c.args.route g.K.Plan.division
    c.args.pass.now.seat.me c.divide_link.new.pass.seat.me
    c.args.space.now.table.shared.table_id.slots told.1)

pub returns-clause-won : goal.returns-clause-won
returns-clause-won g c lost = let told = c.divide_link.ensures.told in
    missed_division told.0 (link_word c.args.link) c.args.old c.args.route g.K.Plan.division
    c.args.pass.now.seat.me c.divide_link.new.pass.seat.me
    c.args.space.now.table.shared.table_id.slots c.divide_link.result told.1 told.2 lost
