use Rattle.std.proofs.Common.{Bool, [], refl, inl, sym, subst}
use Rattle.ca_node.specs.Copies.{HasCopied}
use Rattle.ca_node.specs.Told.{link_word}
use Rattle.ca_node.proofs.JoinMarks.{marks_for_join}
use Rattle.ca_node.proofs.Marks.{has_copied, missed_copy}
use Rattle.ca_node.proofs.Members.{in_notes}
use Rattle.ca_node.proofs.marking.mark_for_join.Goals as goal

pub replace_link-requires-clause-rule : goal.replace_link-requires-clause-rule
replace_link-requires-clause-rule g c =
    marks_for_join c.args.space.now.table.shared.key _ _ _ (link_word c.args.link) c.args.old c.args.new
    g.K.Marking.copy c.requires.copy c.requires.old c.requires.link

pub replace_link-requires-clause-shown : goal.replace_link-requires-clause-shown
replace_link-requires-clause-shown g c = (
  g.K.Marking.copy.old.its,
  (
    g.K.Marking.copy.old,
    in_notes g.K.Marking.copy.old c.args.pass.now.seat.me.0.upper.notes c.requires.copy.shown,
    inl (c.requires.old, refl),
  ),
)

pub returns-clause-done : goal.returns-clause-done
returns-clause-done g c = let told = c.replace_link.ensures.told in
    subst (λ (b : Bool).
    HasCopied b [] c.args.pass.now.seat.me.0.upper.ranges c.args.new
    g.K.Marking.copy c.args.pass.now.seat.me c.replace_link.new.pass.seat.me) (sym told.2)
    (has_copied told.0 (link_word c.args.link) c.args.old c.args.new g.K.Marking.copy [] c.args.pass.now.seat.me.0.upper.ranges
    c.args.pass.now.seat.me c.replace_link.new.pass.seat.me
    c.args.space.now.table.shared.table_id.slots told.1)

pub returns-clause-won : goal.returns-clause-won
returns-clause-won g c lost = let told = c.replace_link.ensures.told in
    missed_copy told.0 (link_word c.args.link) c.args.old c.args.new g.K.Marking.copy [] c.args.pass.now.seat.me.0.upper.ranges
    c.args.pass.now.seat.me c.replace_link.new.pass.seat.me
    c.args.space.now.table.shared.table_id.slots c.replace_link.result told.1 told.2 lost
