use Rattle.std.proofs.Common.{Bool, refl, inl, sym, subst}
use Rattle.ca_node.specs.Told.{HasUpdated, link_word}
use Rattle.ca_node.proofs.Updating.{was_shown, updates_from, has_updated, missed_update}
use Rattle.ca_node.proofs.exchange.replace_base.Goals as goal

pub replace_link-requires-clause-rule : goal.replace_link-requires-clause-rule
replace_link-requires-clause-rule g c =
    updates_from c.args.space.now.table.shared.key _ _ _ (link_word c.args.link) c.args.old
    c.args.new
    g.K.Intent.update c.requires.update c.requires.old c.requires.link

pub replace_link-requires-clause-shown : goal.replace_link-requires-clause-shown
replace_link-requires-clause-shown g c = (
  g.K.Intent.update.old.its,
  (
    g.K.Intent.update.old,
    was_shown c.args.space.now.table.shared.key c.args.pass.now.seat.me c.args.new g.K.Intent.update
        c.requires.update,
    inl
        (c.requires.old, refl),
  ),
)

pub returns-clause-done : goal.returns-clause-done
returns-clause-done g c = let told = c.replace_link.ensures.told in
    subst (λ (b : Bool).
    HasUpdated b c.args.new g.K.Intent.update c.args.pass.now.seat.me
    c.replace_link.new.pass.seat.me) (sym told.2)
    (has_updated told.0 (link_word c.args.link) c.args.old c.args.new g.K.Intent.update
    c.args.pass.now.seat.me c.replace_link.new.pass.seat.me
    c.args.space.now.table.shared.table_id.slots told.1)

pub returns-clause-won : goal.returns-clause-won
returns-clause-won g c lost = let told = c.replace_link.ensures.told in
    missed_update told.0 (link_word c.args.link) c.args.old c.args.new g.K.Intent.update
    c.args.pass.now.seat.me c.replace_link.new.pass.seat.me
    c.args.space.now.table.shared.table_id.slots c.replace_link.result told.1 told.2 lost
