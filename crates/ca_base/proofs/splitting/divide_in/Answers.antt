use Rattle.std.proofs.Common.{[], ◌∷◌, arith, get_or, sym, refl, ap, ◌∙◌, true, false, rules}
use Rattle.ca_node.specs.Laws.{in_nothing}
use Rattle.ca_node.specs.Row.{key}
use Rattle.ca_node.specs.Told.{MyTree}
use Rattle.ca_node.specs.TreeView.{Note}
use Rattle.ca_base.specs.Counting.{losses}
use Rattle.ca_base.proofs.Alone.{not_missed}
use Rattle.ca_base.proofs.Counts.{back_both, none_back}
use Rattle.ca_rows.specs.declared.kept.KeptRows.{KeptRows}
use Rattle.ca_base.proofs.Divisions.{divided_rows}
use Rattle.ca_base.proofs.Unlinking.{held_still, none_left}
use Rattle.ca_base.proofs.Tallies.{tallied_division}
use Rattle.ca_base.proofs.splitting.divide_in.Goals as goal

pub give_back_all-requires-clause-held : goal.give_back_all-requires-clause-held
give_back_all-requires-clause-held g c =
    held_still c.args.space.now.table.shared.key.rows c.args.pass.now.kept
    c.divide_base.new.pass.kept
    c.args.pass.now.seat.me c.divide_base.new.pass.seat.me
    (c.args.fork.route ∷ c.args.fork.left ∷ c.args.fork.right ∷ [])
    c.if-not-divide_base.ensures.done
    c.divide_base.ensures.frame.kept c.requires.held

pub retire_unlinked-requires-clause-unlinked : goal.retire_unlinked-requires-clause-unlinked
retire_unlinked-requires-clause-unlinked g c = let r = c.requires.rows in (
  [],
  in_nothing c.args.cursor.base [] refl,
  divided_rows c.args.space.now.table.shared.key.rows c.args.pass.now.kept
      c.divide_base.new.pass.kept c.args.pass.now.seat.me
      c.divide_base.new.pass.seat.me g.K.Plan.division c.args.cursor.base
      (c.args.fork.route ∷ c.args.fork.left ∷ c.args.fork.right ∷ [])
      (λ i. r.1 i ∷ r.2 i ∷ r.3 i ∷ []) r.0 c.if-not-divide_base.ensures.done
      c.divide_base.ensures.frame.kept c.requires.apart c.requires.held,
)

pub returns-clause-frame : goal.returns-clause-frame
returns-clause-frame g c = record {
  same = search rules;
  number = search rules;
  tally = tallied_division true g.K.Plan.division c.args.pass.now.seat.me
      c.divide_base.new.pass.seat.me
      c.retire_unlinked.new.pass.seat.me.0.upper c.args.pass.now.tally c.divide_base.new.pass.tally
      c.retire_unlinked.new.pass.tally
      c.if-not-divide_base.ensures.done c.if-not-divide_base.ensures.frame.tally
      c.retire_unlinked.ensures.frame.same.4 c.retire_unlinked.ensures.frame.tally;
  pin = search rules;
  own_range = search rules;
  none = let r = c.requires.rows in let rows = c.args.space.now.table.shared.key.rows in
      none_left rows c.retire_unlinked.new.pass.kept.rows c.retire_unlinked.new.pass.seat.me.0
      (c.retire_unlinked.ensures.retired [] (in_nothing c.args.cursor.base [] refl)
      (divided_rows rows c.args.pass.now.kept c.divide_base.new.pass.kept c.args.pass.now.seat.me
      c.divide_base.new.pass.seat.me g.K.Plan.division c.args.cursor.base
      (c.args.fork.route ∷ c.args.fork.left ∷ c.args.fork.right ∷ [])
      (λ i. r.1 i ∷ r.2 i ∷ r.3 i ∷ []) r.0 c.if-not-divide_base.ensures.done
      c.divide_base.ensures.frame.kept c.requires.apart c.requires.held));
}

pub returns-then-not-divide_base-clause-frame : goal.returns-then-not-divide_base-clause-frame
returns-then-not-divide_base-clause-frame g c = record {
  same = search rules;
  number = search rules;
  tally = tallied_division false g.K.Plan.division c.args.pass.now.seat.me
      c.divide_base.new.pass.seat.me
      c.give_back_all.new.pass.seat.me.0.upper c.args.pass.now.tally c.divide_base.new.pass.tally
      c.give_back_all.new.pass.tally
      c.if-not-divide_base.ensures.done c.if-not-divide_base.ensures.frame.tally
      c.give_back_all.ensures.frame.same.4 c.give_back_all.ensures.frame.tally;
  pin = search rules;
  own_range = search rules;
  none = search rules;
}

pub returns-then-not-divide_base-clause-won : goal.returns-then-not-divide_base-clause-won
returns-then-not-divide_base-clause-won g c alone listed _ =
    not_missed c.args.space.now.table.shared.key c.args.pass.now.seat.me g.K.Plan.division.old
    c.requires.own.1 c.args.space.now.few.0 (c.if-not-divide_base.ensures.won refl) alone listed

pub returns-clause-back : goal.returns-clause-back
returns-clause-back g c = (
  c.divide_base.new.pass.kept.rows.items,
  c.retire_unlinked.new.pass.kept.rows.items,
  ap (λ (k : KeptRows). k.rows.items) c.divide_base.ensures.frame.kept,
  c.retire_unlinked.ensures.kept,
  refl,
)

pub returns-then-not-divide_base-clause-back : goal.returns-then-not-divide_base-clause-back
returns-then-not-divide_base-clause-back g c = let m = c.args.pass.now.seat.me in
    let n = c.divide_base.new.pass.seat.me in
    let lost = ap losses c.if-not-divide_base.ensures.done in
    back_both [] 1 m n c.give_back_all.new.pass.seat.me c.args.pass.now.kept
    c.divide_base.new.pass.kept c.give_back_all.new.pass.kept
    (omega arith) (let more = c.give_back_all.ensures.counted.more in omega arith)
    (none_back 1 m n c.args.pass.now.kept c.divide_base.new.pass.kept (omega arith)
    c.divide_base.ensures.frame.kept) c.give_back_all.ensures.back

pub returns-clause-split : goal.returns-clause-split
returns-clause-split g c = (
  g.K.Plan.division,
  record {
    old_is = sym c.requires.last;
    key_is = c.requires.division.0.key_is
        ∙ ap (λ (n : Note). key (get_or n.objects g.K.Plan.division.middle []))
        (sym c.requires.last);
    halving = c.requires.division.1;
  },
  c.retire_unlinked.ensures.frame.same.4
      ∙ ap (λ (m : MyTree). m.0.upper) c.if-not-divide_base.ensures.done.now,
)
