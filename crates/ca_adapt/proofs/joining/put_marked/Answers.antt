use Rattle.std.proofs.Common.{rules, [], ◌∷◌, refl, ap, ◌∙◌}
use Rattle.ca_node.specs.Laws.{in_nothing}
use Rattle.ca_node.specs.Told.{MyTree}
use Rattle.ca_node.specs.TreeView.{TreeView}
use Rattle.ca_node.proofs.Tallies.{tallied_still}
use Rattle.ca_base.proofs.Unlinking.{held_still, none_left}
use Rattle.ca_base.proofs.CopiedRows.{copied_rows}
use Rattle.ca_adapt.proofs.LoneTries.{never_missed}
use Rattle.ca_adapt.proofs.joining.put_marked.Goals as goal

pub returns-then-not-mark_for_join-clause-frame : goal.returns-then-not-mark_for_join-clause-frame
returns-then-not-mark_for_join-clause-frame g c = record {
  same = search rules;
  number = search rules;
  tally = let now = c.give_back.ensures.frame.same.4
      ∙ ap (λ (m : MyTree). m.0.upper) c.if-not-mark_for_join.ensures.done in
      tallied_still c.args.pass.now.tally c.give_back.new.pass.tally c.args.pass.now.seat.me.0.upper
      c.give_back.new.pass.seat.me.0.upper
      (c.give_back.ensures.frame.tally ∙ c.mark_for_join.ensures.frame.tally)
      (ap (λ (y : TreeView). y.splits) now) (ap (λ (y : TreeView). y.joins) now);
  pin = search rules;
  own_range = ap (λ (u : TreeView). u.ranges.own)
      (c.give_back.ensures.frame.same.4 ∙ ap (λ (m : MyTree). m.0.upper)
      c.if-not-mark_for_join.ensures.done);
  none = c.give_back.ensures.given [] (in_nothing c.args.row [] refl)
      (held_still c.args.space.now.table.shared.key.rows c.args.pass.now.kept
      c.mark_for_join.new.pass.kept c.args.pass.now.seat.me c.mark_for_join.new.pass.seat.me
      (c.args.row ∷ []) c.if-not-mark_for_join.ensures.done
      c.mark_for_join.ensures.frame.kept c.requires.held);
}

pub retire_unlinked-requires-clause-unlinked : goal.retire_unlinked-requires-clause-unlinked
retire_unlinked-requires-clause-unlinked g c = (
  [],
  in_nothing c.args.cursor.base [] refl,
  copied_rows c.args.space.now.table.shared.key.rows c.args.pass.now.kept
      c.mark_for_join.new.pass.kept c.args.pass.now.seat.me c.mark_for_join.new.pass.seat.me
      c.args.pass.now.seat.me.0.upper.ranges c.args.row g.K.Marking.copy c.args.cursor.base
      c.requires.at.base refl c.if-not-mark_for_join.ensures.done
      c.mark_for_join.ensures.frame.kept c.requires.held,
)

pub returns-clause-frame : goal.returns-clause-frame
returns-clause-frame g c = record {
  same = search rules;
  number = search rules;
  tally = let now = c.retire_unlinked.ensures.frame.same.4
      ∙ ap (λ (m : MyTree). m.0.upper) c.if-not-mark_for_join.ensures.done.now in
      tallied_still c.args.pass.now.tally c.retire_unlinked.new.pass.tally
      c.args.pass.now.seat.me.0.upper c.retire_unlinked.new.pass.seat.me.0.upper
      (c.retire_unlinked.ensures.frame.tally ∙ c.mark_for_join.ensures.frame.tally)
      (ap (λ (y : TreeView). y.splits) now)
      (ap (λ (y : TreeView). y.joins) now);
  pin = search rules;
  own_range = ap (λ (u : TreeView). u.ranges.own) (c.retire_unlinked.ensures.frame.same.4 ∙ ap (λ
      (m : MyTree). m.0.upper) c.if-not-mark_for_join.ensures.done.now);
  none = let rows = c.args.space.now.table.shared.key.rows in
      none_left rows c.retire_unlinked.new.pass.kept.rows c.retire_unlinked.new.pass.seat.me.0
      (c.retire_unlinked.ensures.retired [] (in_nothing c.args.cursor.base [] refl)
      (copied_rows rows c.args.pass.now.kept c.mark_for_join.new.pass.kept c.args.pass.now.seat.me
      c.mark_for_join.new.pass.seat.me
      c.args.pass.now.seat.me.0.upper.ranges c.args.row g.K.Marking.copy c.args.cursor.base
      c.requires.at.base refl c.if-not-mark_for_join.ensures.done
      c.mark_for_join.ensures.frame.kept c.requires.held));
}

pub returns-then-not-mark_for_join-clause-won : goal.returns-then-not-mark_for_join-clause-won
returns-then-not-mark_for_join-clause-won g c alone there _ =
    never_missed c.args.space.now.table.shared.key c.args.pass.now.seat.me g.K.Marking.copy.old
    c.requires.own.1 c.args.space.now.few.0 (c.if-not-mark_for_join.ensures.won refl) alone there
