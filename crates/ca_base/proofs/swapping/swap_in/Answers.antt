use Rattle.std.proofs.Common.{[], ◌≤◌, length, ℕ, List, ◌∷◌, sym, refl, ap, subst, ◌∙◌, true, false, get_or, arith, rules}
use Rattle.ca_base.specs.Counting.{losses}
use Rattle.ca_base.proofs.Alone.{not_missed}
use Rattle.ca_base.proofs.Counts.{back_both, met_both, none_back, none_spent, one_spent, spent_both}
use Rattle.ca_base.specs.Taking.{HasHeld, lent_of}
use Rattle.ca_base.proofs.Renewing.{met_still, renewed, placed}
use Rattle.ca_base.specs.Putting.{IsRenewed}
use Rattle.ca_rows.specs.declared.kept.KeptRows.{KeptRows}
use Rattle.ca_rows.specs.declared.view.Met.{Met}
use Rattle.ca_rows.specs.Told.{met_of}
use Rattle.ca_base.proofs.Unlinking.{held_still, swapped, is_done}
use Rattle.ca_base.proofs.Tallies.{tallied_update}
use Rattle.ca_base.proofs.swapping.swap_in.Goals as goal

pub give_back-requires-clause-held : goal.give_back-requires-clause-held
give_back-requires-clause-held g c = (
  c.args.rows.now.comes.now,
  c.requires.apart.0.0,
  held_still c.args.space.now.table.shared.key.rows c.args.pass.now.kept
      c.replace_base.new.pass.kept c.args.pass.now.seat.me c.replace_base.new.pass.seat.me
      (c.args.rows.now.new ∷ c.args.rows.now.comes.now) c.if-not-replace_base.ensures.done
      c.replace_base.ensures.frame.kept c.requires.held,
)

pub give_back_all-requires-clause-held : goal.give_back_all-requires-clause-held
give_back_all-requires-clause-held g c =
    c.give_back.ensures.given c.args.rows.now.comes.now c.requires.apart.0.0
    (held_still c.args.space.now.table.shared.key.rows c.args.pass.now.kept
    c.replace_base.new.pass.kept c.args.pass.now.seat.me c.replace_base.new.pass.seat.me
    (c.args.rows.now.new ∷ c.args.rows.now.comes.now) c.if-not-replace_base.ensures.done
    c.replace_base.ensures.frame.kept c.requires.held)

pub retire_unlinked-requires-clause-unlinked : goal.retire_unlinked-requires-clause-unlinked
retire_unlinked-requires-clause-unlinked g c = let r = c.requires.rows in
    let now = swapped c.args.space.now.table.shared.key.rows c.args.pass.now.kept
    c.replace_base.new.pass.kept c.args.pass.now.seat.me
    c.replace_base.new.pass.seat.me c.args.rows.now.new g.K.Intent.update c.args.cursor.base
    (c.args.rows.now.new ∷ c.args.rows.now.comes.now) c.args.rows.now.goes.now
    (ap (λ xs. c.args.rows.now.new ∷ xs) r.0) c.requires.cursor.base r.1 c.requires.few.1
    c.if-not-replace_base.ensures.done c.replace_base.ensures.frame.kept c.requires.apart.0
    c.requires.held in
    (c.args.rows.now.goes.now, now.0, now.1)

pub retire_all-requires-clause-unlinked : goal.retire_all-requires-clause-unlinked
retire_all-requires-clause-unlinked g c = let r = c.requires.rows in
    let now = swapped c.args.space.now.table.shared.key.rows c.args.pass.now.kept
    c.replace_base.new.pass.kept c.args.pass.now.seat.me
    c.replace_base.new.pass.seat.me c.args.rows.now.new g.K.Intent.update c.args.cursor.base
    (c.args.rows.now.new ∷ c.args.rows.now.comes.now) c.args.rows.now.goes.now
    (ap (λ xs. c.args.rows.now.new ∷ xs) r.0) c.requires.cursor.base r.1 c.requires.few.1
    c.if-not-replace_base.ensures.done c.replace_base.ensures.frame.kept c.requires.apart.0
    c.requires.held in
    c.retire_unlinked.ensures.retired c.args.rows.now.goes.now now.0 now.1

pub returns-clause-done : goal.returns-clause-done
returns-clause-done g c =
    is_done c.args.space.now.table.shared.key c.args.rows.now.new g.K.Intent.update
    c.args.pass.now.seat.me c.replace_base.new.pass.seat.me
    c.retire_all.new.pass.seat.me.0.upper c.requires.own.1 c.args.space.now.few.0
    c.requires.update.does c.if-not-replace_base.ensures.done
    (c.retire_all.ensures.frame.same.4 ∙ c.retire_unlinked.ensures.frame.same.4)

pub returns-clause-counted : goal.returns-clause-counted
returns-clause-counted g c =
    none_spent c.args.spent.now c.args.pass.now.seat.me c.retire_all.new.pass.seat.me
    (c.retire_all.ensures.met.0
    ∙ (c.retire_unlinked.ensures.met.0 ∙ ap losses c.if-not-replace_base.ensures.done.now))

pub returns-clause-renewed : goal.returns-clause-renewed
returns-clause-renewed g c = let first = c.retire_unlinked.ensures in
    let rest = c.retire_all.ensures in
    subst (λ (met : Met).
    IsRenewed c.args.space.now.table.shared.key met (get_or g.K.Intent.update.its 1 0)
    g.K.Intent.update.edit
    c.args.pass.now.seat.me.0.upper c.retire_all.new.pass.seat.me.0.upper)
    (met_still c.args.pass.now.seat.me c.replace_base.new.pass.seat.me c.retire_all.new.pass.seat.me
    (ap met_of c.if-not-replace_base.ensures.done.now)
    (rest.met.0 ∙ first.met.0)
    (met_both 0 0 0 0 c.replace_base.new.pass.seat.me c.retire_unlinked.new.pass.seat.me
    c.retire_all.new.pass.seat.me
    first.met.1 rest.met.1) (rest.frame.same.4 ∙ first.frame.same.4) (rest.frame.same.3
    ∙ first.frame.same.3))
    (renewed c.args.space.now.table.shared.key c.args.pass.now.kept.rows c.args.pass.now.seat.me
    c.args.rows.now.new g.K.Intent.update
    c.requires.update c.requires.old_base c.requires.last
    (lent_of c.args.pass.now.seat.me.0.upper.ranges.own) (subst (λ (xs : List ℕ).
    HasHeld c.args.space.now.table.shared.key.rows c.args.pass.now.kept.rows
    c.args.pass.now.seat.me.0.claims (lent_of c.args.pass.now.seat.me.0.upper.ranges.own) (c.args.rows.now.new ∷ xs))
    (sym c.requires.rows.0) c.requires.held.0)
    c.replace_base.new.pass.seat.me c.retire_all.new.pass.seat.me.0.upper
    (subst (λ (xs : List ℕ). length xs ≤ 1) (sym c.requires.rows.0) c.requires.few.0)
    c.if-not-replace_base.ensures.done
    (rest.frame.same.4 ∙ first.frame.same.4))

pub returns-clause-placed : goal.returns-clause-placed
returns-clause-placed g c =
    placed c.args.space.now.table.shared.key c.args.pass.now.kept.rows c.args.pass.now.seat.me
    c.args.rows.now.new g.K.Intent.update
    c.requires.update c.requires.old_base c.requires.last
    (lent_of c.args.pass.now.seat.me.0.upper.ranges.own) (subst (λ (xs : List ℕ).
    HasHeld c.args.space.now.table.shared.key.rows c.args.pass.now.kept.rows
    c.args.pass.now.seat.me.0.claims (lent_of c.args.pass.now.seat.me.0.upper.ranges.own) (c.args.rows.now.new ∷ xs))
    (sym c.requires.rows.0) c.requires.held.0)
    c.replace_base.new.pass.seat.me c.retire_all.new.pass.seat.me.0.upper
    c.if-not-replace_base.ensures.done
    (c.retire_all.ensures.frame.same.4 ∙ c.retire_unlinked.ensures.frame.same.4)

pub returns-then-not-replace_base-clause-frame : goal.returns-then-not-replace_base-clause-frame
returns-then-not-replace_base-clause-frame g c = record {
  same = search rules;
  number = search rules;
  tally = tallied_update false c.args.rows.now.new g.K.Intent.update c.args.pass.now.seat.me
      c.replace_base.new.pass.seat.me
      c.give_back_all.new.pass.seat.me.0.upper c.args.pass.now.tally c.give_back_all.new.pass.tally
      c.if-not-replace_base.ensures.done
      (c.give_back_all.ensures.frame.same.4 ∙ c.give_back.ensures.frame.same.4)
      (c.give_back_all.ensures.frame.tally
      ∙ (c.give_back.ensures.frame.tally ∙ c.replace_base.ensures.frame.tally));
  pin = search rules;
  own_range = search rules;
  none = search rules;
}

pub returns-clause-frame : goal.returns-clause-frame
returns-clause-frame g c = record {
  same = search rules;
  number = search rules;
  tally = tallied_update true c.args.rows.now.new g.K.Intent.update c.args.pass.now.seat.me
      c.replace_base.new.pass.seat.me
      c.retire_all.new.pass.seat.me.0.upper c.args.pass.now.tally c.retire_all.new.pass.tally
      c.if-not-replace_base.ensures.done
      (c.retire_all.ensures.frame.same.4 ∙ c.retire_unlinked.ensures.frame.same.4)
      (c.retire_all.ensures.frame.tally
      ∙ (c.retire_unlinked.ensures.frame.tally ∙ c.replace_base.ensures.frame.tally));
  pin = search rules;
  own_range = search rules;
  none = search rules;
}

pub returns-then-not-replace_base-clause-won : goal.returns-then-not-replace_base-clause-won
returns-then-not-replace_base-clause-won g c alone listed _ =
    not_missed c.args.space.now.table.shared.key c.args.pass.now.seat.me g.K.Intent.update.old
    c.requires.own.1 c.args.space.now.few.0 (c.if-not-replace_base.ensures.won refl) alone listed

pub returns-clause-back : goal.returns-clause-back
returns-clause-back g c = (
  c.replace_base.new.pass.kept.rows.items,
  c.retire_unlinked.new.pass.kept.rows.items,
  ap (λ (k : KeptRows). k.rows.items) c.replace_base.ensures.frame.kept,
  c.retire_unlinked.ensures.kept,
  c.retire_all.ensures.kept,
)

pub returns-then-not-replace_base-clause-back : goal.returns-then-not-replace_base-clause-back
returns-then-not-replace_base-clause-back g c = let m = c.args.pass.now.seat.me in
    let n = c.replace_base.new.pass.seat.me in
    let lost = ap losses c.if-not-replace_base.ensures.done in
    back_both [] 1 m c.give_back.new.pass.seat.me c.give_back_all.new.pass.seat.me
    c.args.pass.now.kept c.give_back.new.pass.kept c.give_back_all.new.pass.kept
    (let more = c.give_back.ensures.counted.more in omega arith)
    (let more = c.give_back_all.ensures.counted.more in omega arith)
    (back_both [] 1 m n c.give_back.new.pass.seat.me c.args.pass.now.kept
    c.replace_base.new.pass.kept c.give_back.new.pass.kept
    (omega arith) (let more = c.give_back.ensures.counted.more in omega arith)
    (none_back 1 m n c.args.pass.now.kept c.replace_base.new.pass.kept (omega arith)
    c.replace_base.ensures.frame.kept) c.give_back.ensures.back) c.give_back_all.ensures.back

pub returns-then-not-replace_base-clause-counted : goal.returns-then-not-replace_base-clause-counted
returns-then-not-replace_base-clause-counted g c =
    spent_both c.args.spent.now c.give_back.new.spent c.give_back_all.new.spent c.args.pass.now.seat.me c.give_back.new.pass.seat.me
    c.give_back_all.new.pass.seat.me
    (spent_both c.args.spent.now c.lose.new.spent c.give_back.new.spent c.args.pass.now.seat.me c.replace_base.new.pass.seat.me
    c.give_back.new.pass.seat.me
    (one_spent c.args.spent.now c.lose.new.spent c.args.pass.now.seat.me c.replace_base.new.pass.seat.me c.lose.ensures.lost c.lose.ensures.others
    (ap losses c.if-not-replace_base.ensures.done ∙ omega arith))
    c.give_back.ensures.counted)
    c.give_back_all.ensures.counted
