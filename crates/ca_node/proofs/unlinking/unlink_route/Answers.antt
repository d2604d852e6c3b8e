use Rattle.std.proofs.Common.{Bool, sym, ◌∙◌, subst}
use Rattle.ca_rows.specs.declared.sizes.Sizes.{Sizes}
use Rattle.ca_node.specs.States.{IsAlone}
use Rattle.ca_node.specs.Told.{link_word}
use Rattle.ca_node.specs.Unlinks.{HasUnlinked}
use Rattle.ca_node.proofs.UnlinkStep.{unlinks_from, has_unlinked, lost_unlinking}
use Rattle.ca_node.proofs.unlinking.unlink_route.Goals as goal

pub join_link-requires-clause-rule : goal.join_link-requires-clause-rule
join_link-requires-clause-rule g c =
    unlinks_from c.args.space.now.table.shared.key _ _ _ (link_word c.args.above) c.args.route c.args.new g.K.Unlinks.unlinking c.requires.own.1
    c.requires.unlinking c.requires.route c.requires.link

pub returns-clause-done : goal.returns-clause-done
returns-clause-done g c = let told = c.join_link.ensures.told in
    subst (λ (b : Bool). HasUnlinked b c.args.new g.K.Unlinks.unlinking c.args.pass.now.seat.me c.join_link.new.pass.seat.me) (sym told.2)
    (has_unlinked told.0 (link_word c.args.above) c.args.route c.args.new g.K.Unlinks.unlinking c.args.pass.now.seat.me c.join_link.new.pass.seat.me
    c.args.space.now.table.shared.table_id.slots told.1)

pub returns-clause-several : goal.returns-clause-several
returns-clause-several g c lost = let told = c.join_link.ensures.told in let m = c.args.pass.now.seat.me in
    subst (λ (y : Sizes). ¬ IsAlone y m.0.upper) c.requires.own.1
    (lost_unlinking told.0 (link_word c.args.above) c.args.route c.args.new g.K.Unlinks.unlinking m c.join_link.new.pass.seat.me
    c.args.space.now.table.shared.table_id.slots told.1 (sym told.2 ∙ lost))
