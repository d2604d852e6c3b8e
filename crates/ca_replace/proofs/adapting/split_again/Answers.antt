use Rattle.std.proofs.Common.{[], ◌≡◌, sym, subst, ◌∙◌, ap, refl, inl, arith, rules}
use Rattle.ca_base.specs.Putting.{first_note}
use Rattle.ca_node.specs.declared.cursor.Spot.TheVariants as spot
use Rattle.ca_adapt.specs.declared.adapted.Adapted.TheVariants as adapted
use Rattle.ca_replace.specs.Adapting.{HasTriedOnce}
use Rattle.ca_replace.proofs.Tuning.{tuned_on}
use Rattle.ca_replace.proofs.Counted.{none_paid}
use Rattle.ca_replace.proofs.Entries.{held_upper}
use Rattle.ca_replace.proofs.GoingOn.{come_turns, led_elsewhere, led_there, paid_cut, paid_still}
use Rattle.ca_replace.proofs.Tallies.{tallied_walk}
use Rattle.ca_replace.proofs.Showing.{looking, walked_further, walked_listed, walked_quiet}
use Rattle.ca_replace.proofs.DueCauses.{elsewhere_met, split_met}
use Rattle.ca_replace.proofs.Growing.{alone_on, due_grows}
use Rattle.ca_replace.proofs.Cutting.{due_there}
use Rattle.ca_replace.proofs.Winning.{comes_there, due_won}
use Rattle.ca_node.specs.Row.{mark}
use Rattle.ca_node.specs.Told.{MyTree, IsSettled}
use Rattle.ca_replace.proofs.Numbering.{numbered_as}
use Rattle.ca_replace.proofs.adapting.split_again.Goals as goal

pub try_split-adapted-requires-clause-readable : goal.try_split-adapted-requires-clause-readable
try_split-adapted-requires-clause-readable c =
    let most = (tuned_on c.args.tree.now).allowed.most_leaf in
    let same = (tuned_on c.args.tree.now).leaf in
    (looking c.args.tree.now.space.table.shared.key c.args.placed.now.key c.args.pass.now.seat.me
    c.walk-cursor.new.pass.seat.me c.walk-cursor.result
    c.walk-cursor.ensures.walked (omega arith)).readable

pub try_split-adapted-requires-clause-at : goal.try_split-adapted-requires-clause-at
try_split-adapted-requires-clause-at c = let most = (tuned_on c.args.tree.now).allowed.most_leaf in
    let same = (tuned_on c.args.tree.now).leaf in
    (looking c.args.tree.now.space.table.shared.key c.args.placed.now.key c.args.pass.now.seat.me
    c.walk-cursor.new.pass.seat.me c.walk-cursor.result
    c.walk-cursor.ensures.walked (omega arith)).at

pub try_split-adapted-requires-clause-ready : goal.try_split-adapted-requires-clause-ready
try_split-adapted-requires-clause-ready c = record {
  own = search rules;
  numbered = numbered_as c.args.pass.now.number c.walk-cursor.new.pass.number
      c.args.pass.now.seat.me.0.pin c.walk-cursor.new.pass.seat.me.0.pin
      c.walk-cursor.ensures.frame.number (ap (λ (m : MyTree). m.0.pin.number)
      c.walk-cursor.ensures.walked.now) c.requires.ready.numbered;
  pinned = search rules;
  number = search rules;
  none = held_upper c.args.tree.now.space.table.shared.key.rows c.args.pass.now.kept
      c.walk-cursor.new.pass.kept
      c.args.pass.now.seat.me c.walk-cursor.new.pass.seat.me _ [] c.requires.ready.none
      c.walk-cursor.ensures.walked.now refl c.walk-cursor.ensures.frame.kept;
}

pub returns-then-cursor-placed-clause-frame : goal.returns-then-cursor-placed-clause-frame
returns-then-cursor-placed-clause-frame c = record {
  same = search rules;
  number = search rules;
  tally = λ h.
      tallied_walk c.args.tree.now.space.table.shared.key (spot.At c.args.placed.now.key)
      c.args.pass.now.seat.me
      c.walk-cursor.new.pass.seat.me c.walk-cursor.result c.args.pass.now.tally
      c.walk-cursor.new.pass.tally c.walk-cursor.ensures.walked
      c.walk-cursor.ensures.frame.tally h;
  pin = search rules;
  own_range = search rules;
  none = held_upper c.args.tree.now.space.table.shared.key.rows c.args.pass.now.kept
      c.walk-cursor.new.pass.kept
      c.args.pass.now.seat.me c.walk-cursor.new.pass.seat.me _ [] c.requires.ready.none
      c.walk-cursor.ensures.walked.now refl c.walk-cursor.ensures.frame.kept;
}

pub returns-then-cursor-placed-clause-further : goal.returns-then-cursor-placed-clause-further
returns-then-cursor-placed-clause-further c = let z = c.args.tree.now.space.table.shared.key in (
  walked_further z (spot.At c.args.placed.now.key) c.args.pass.now.seat.me
      c.walk-cursor.new.pass.seat.me c.walk-cursor.result c.walk-cursor.ensures.walked,
  c.walk-cursor.ensures.walked.known,
)

pub returns-then-cursor-placed-clause-tried : goal.returns-then-cursor-placed-clause-tried
returns-then-cursor-placed-clause-tried c =
    led_elsewhere c.args.tree.now.space.table.shared.key c.args.placed.now.key c.args.placed.now.row
    c.args.pass.now.seat.me
    c.walk-cursor.new.pass.seat.me c.walk-cursor.result c.requires.placed
    c.walk-cursor.ensures.walked c.if-cursor-placed.true
    (HasTriedOnce c.args.tree.now.space.table.shared.key c.walk-cursor.new.pass.seat.me.0.upper.last
    c.walk-cursor.new.pass.seat.me.0.upper.renewal.splits c.walk-cursor.new.pass.seat.me.0.upper.splits adapted.Stay
    × (c.walk-cursor.new.pass.seat.me.0.upper.joins ≡ c.walk-cursor.new.pass.seat.me.0.upper.renewal.joins)
    × (c.walk-cursor.new.pass.seat.me.0.upper.loads ≡ c.walk-cursor.new.pass.seat.me.0.upper.shown))

pub returns-then-cursor-placed-clause-counted : goal.returns-then-cursor-placed-clause-counted
returns-then-cursor-placed-clause-counted c =
    let quiet =
    walked_quiet c.args.tree.now.space.table.shared.key (spot.At c.args.placed.now.key)
    c.args.pass.now.seat.me
    c.walk-cursor.new.pass.seat.me c.walk-cursor.result c.walk-cursor.ensures.walked in
    none_paid c.args.spent.now c.args.pass.now.seat.me c.walk-cursor.new.pass.seat.me quiet.lost
    quiet.same_turns

pub returns-then-was_split-clause-further : goal.returns-then-was_split-clause-further
returns-then-was_split-clause-further c = let most = (tuned_on c.args.tree.now).allowed.most_leaf in
    let same = (tuned_on c.args.tree.now).leaf in
    (led_there c.args.tree.now.space.table.shared.key c.args.placed.now.key c.args.placed.now.row
    c.args.pass.now.seat.me c.walk-cursor.new.pass.seat.me
    c.try_split-adapted.new.pass.seat.me c.walk-cursor.result c.try_split-adapted.result
    c.requires.placed c.walk-cursor.ensures.walked (omega arith)
    (c.if-cursor-placed.false) c.try_split-adapted.ensures.split).1

pub returns-then-was_split-clause-tried : goal.returns-then-was_split-clause-tried
returns-then-was_split-clause-tried c = let most = (tuned_on c.args.tree.now).allowed.most_leaf in
    let same = (tuned_on c.args.tree.now).leaf in
    (led_there c.args.tree.now.space.table.shared.key c.args.placed.now.key c.args.placed.now.row
    c.args.pass.now.seat.me c.walk-cursor.new.pass.seat.me
    c.try_split-adapted.new.pass.seat.me c.walk-cursor.result c.try_split-adapted.result
    c.requires.placed c.walk-cursor.ensures.walked (omega arith)
    (c.if-cursor-placed.false) c.try_split-adapted.ensures.split).0

pub returns-else-was_split-clause-further : goal.returns-else-was_split-clause-further
returns-else-was_split-clause-further c = let most = (tuned_on c.args.tree.now).allowed.most_leaf in
    let same = (tuned_on c.args.tree.now).leaf in
    (led_there c.args.tree.now.space.table.shared.key c.args.placed.now.key c.args.placed.now.row
    c.args.pass.now.seat.me c.walk-cursor.new.pass.seat.me
    c.try_split-adapted.new.pass.seat.me c.walk-cursor.result c.try_split-adapted.result
    c.requires.placed c.walk-cursor.ensures.walked (omega arith)
    (c.if-cursor-placed.false) c.try_split-adapted.ensures.split).1

pub returns-else-was_split-clause-tried : goal.returns-else-was_split-clause-tried
returns-else-was_split-clause-tried c = let most = (tuned_on c.args.tree.now).allowed.most_leaf in
    let same = (tuned_on c.args.tree.now).leaf in
    (led_there c.args.tree.now.space.table.shared.key c.args.placed.now.key c.args.placed.now.row
    c.args.pass.now.seat.me c.walk-cursor.new.pass.seat.me
    c.try_split-adapted.new.pass.seat.me c.walk-cursor.result c.try_split-adapted.result
    c.requires.placed c.walk-cursor.ensures.walked (omega arith)
    (c.if-cursor-placed.false) c.try_split-adapted.ensures.split).0

pub returns-then-was_split-clause-counted : goal.returns-then-was_split-clause-counted
returns-then-was_split-clause-counted c =
    paid_cut c.args.spent.now c.try_split-adapted.new.spent c.saturating_add-spent.result
    c.args.pass.now.seat.me
    c.walk-cursor.new.pass.seat.me c.try_split-adapted.new.pass.seat.me
    (walked_quiet c.args.tree.now.space.table.shared.key (spot.At c.args.placed.now.key)
    c.args.pass.now.seat.me c.walk-cursor.new.pass.seat.me c.walk-cursor.result
    c.walk-cursor.ensures.walked) c.try_split-adapted.ensures.counted
    ((come_turns c.args.tree.now.space.table.shared.key
    (first_note c.walk-cursor.new.pass.seat.me.0.upper.notes) c.try_split-adapted.result
    c.walk-cursor.new.pass.seat.me c.try_split-adapted.new.pass.seat.me
    c.try_split-adapted.ensures.split).0 (c.if-was_split.ensures.0 refl))
    c.saturating_add-spent.ensures

pub returns-else-was_split-clause-counted : goal.returns-else-was_split-clause-counted
returns-else-was_split-clause-counted c =
    paid_still c.args.spent.now c.try_split-adapted.new.spent c.args.pass.now.seat.me
    c.walk-cursor.new.pass.seat.me c.try_split-adapted.new.pass.seat.me
    (walked_quiet c.args.tree.now.space.table.shared.key (spot.At c.args.placed.now.key)
    c.args.pass.now.seat.me c.walk-cursor.new.pass.seat.me c.walk-cursor.result
    c.walk-cursor.ensures.walked) c.try_split-adapted.ensures.counted
    ((come_turns c.args.tree.now.space.table.shared.key
    (first_note c.walk-cursor.new.pass.seat.me.0.upper.notes) c.try_split-adapted.result
    c.walk-cursor.new.pass.seat.me c.try_split-adapted.new.pass.seat.me
    c.try_split-adapted.ensures.split).1 (λ e. let f = c.if-was_split.ensures.1 e in cc))

pub returns-then-was_split-clause-frame : goal.returns-then-was_split-clause-frame
returns-then-was_split-clause-frame c = record {
  same = search rules;
  number = search rules;
  tally = λ h.
      c.try_split-adapted.ensures.frame.tally
      (tallied_walk c.args.tree.now.space.table.shared.key (spot.At c.args.placed.now.key)
      c.args.pass.now.seat.me
      c.walk-cursor.new.pass.seat.me c.walk-cursor.result c.args.pass.now.tally
      c.walk-cursor.new.pass.tally c.walk-cursor.ensures.walked
      c.walk-cursor.ensures.frame.tally h);
  pin = search rules;
  own_range = search rules;
  none = search rules;
}

pub returns-else-was_split-clause-frame : goal.returns-else-was_split-clause-frame
returns-else-was_split-clause-frame c = record {
  same = search rules;
  number = search rules;
  tally = λ h.
      c.try_split-adapted.ensures.frame.tally
      (tallied_walk c.args.tree.now.space.table.shared.key (spot.At c.args.placed.now.key)
      c.args.pass.now.seat.me
      c.walk-cursor.new.pass.seat.me c.walk-cursor.result c.args.pass.now.tally
      c.walk-cursor.new.pass.tally c.walk-cursor.ensures.walked
      c.walk-cursor.ensures.frame.tally h);
  pin = search rules;
  own_range = search rules;
  none = search rules;
}

pub returns-then-was_split-clause-met : goal.returns-then-was_split-clause-met
returns-then-was_split-clause-met c =
    split_met c.args.tree.now.space.table.shared.key c.args.placed.now.key c.args.placed.now.row
    (first_note c.walk-cursor.new.pass.seat.me.0.upper.notes) c.try_split-adapted.result
    c.args.pass.now.seat.me c.walk-cursor.new.pass.seat.me
    c.try_split-adapted.new.pass.seat.me c.walk-cursor.result c.requires.placed
    c.walk-cursor.ensures.walked c.try_split-adapted.ensures.split
    c.try_split-adapted.ensures.once

pub returns-else-was_split-clause-met : goal.returns-else-was_split-clause-met
returns-else-was_split-clause-met c =
    split_met c.args.tree.now.space.table.shared.key c.args.placed.now.key c.args.placed.now.row
    (first_note c.walk-cursor.new.pass.seat.me.0.upper.notes) c.try_split-adapted.result
    c.args.pass.now.seat.me c.walk-cursor.new.pass.seat.me
    c.try_split-adapted.new.pass.seat.me c.walk-cursor.result c.requires.placed
    c.walk-cursor.ensures.walked c.try_split-adapted.ensures.split
    c.try_split-adapted.ensures.once

pub returns-then-cursor-placed-clause-met : goal.returns-then-cursor-placed-clause-met
returns-then-cursor-placed-clause-met c =
    elsewhere_met c.args.tree.now.space.table.shared.key c.args.placed.now.key
    c.args.placed.now.row c.args.pass.now.seat.me c.walk-cursor.new.pass.seat.me
    c.walk-cursor.result c.requires.placed c.walk-cursor.ensures.walked

pub returns-then-was_split-clause-grows : goal.returns-then-was_split-clause-grows
returns-then-was_split-clause-grows c alone =
    let z = c.args.tree.now.space.table.shared.key in
    let quiet =
    walked_quiet z (spot.At c.args.placed.now.key) c.args.pass.now.seat.me
    c.walk-cursor.new.pass.seat.me c.walk-cursor.result c.walk-cursor.ensures.walked in
    due_grows z c.try_split-adapted.result c.args.pass.now.seat.me c.walk-cursor.new.pass.seat.me
    c.try_split-adapted.new.pass.seat.me
    (walked_listed z (spot.At c.args.placed.now.key) c.args.pass.now.seat.me
    c.walk-cursor.new.pass.seat.me c.walk-cursor.result c.walk-cursor.ensures.walked alone)
    (quiet.splits_are, quiet.same_inventory) c.try_split-adapted.ensures.split

pub returns-else-was_split-clause-grows : goal.returns-else-was_split-clause-grows
returns-else-was_split-clause-grows c alone =
    let z = c.args.tree.now.space.table.shared.key in
    let quiet =
    walked_quiet z (spot.At c.args.placed.now.key) c.args.pass.now.seat.me
    c.walk-cursor.new.pass.seat.me c.walk-cursor.result c.walk-cursor.ensures.walked in
    due_grows z c.try_split-adapted.result c.args.pass.now.seat.me c.walk-cursor.new.pass.seat.me
    c.try_split-adapted.new.pass.seat.me
    (walked_listed z (spot.At c.args.placed.now.key) c.args.pass.now.seat.me
    c.walk-cursor.new.pass.seat.me c.walk-cursor.result c.walk-cursor.ensures.walked alone)
    (quiet.splits_are, quiet.same_inventory) c.try_split-adapted.ensures.split

pub returns-then-cursor-placed-clause-cut : goal.returns-then-cursor-placed-clause-cut
returns-then-cursor-placed-clause-cut c =
    inl (walked_quiet c.args.tree.now.space.table.shared.key (spot.At c.args.placed.now.key)
    c.args.pass.now.seat.me
    c.walk-cursor.new.pass.seat.me c.walk-cursor.result c.walk-cursor.ensures.walked).same_cuts

pub returns-then-was_split-clause-cut : goal.returns-then-was_split-clause-cut
returns-then-was_split-clause-cut c = let most = (tuned_on c.args.tree.now).allowed.most_leaf in
    let same = (tuned_on c.args.tree.now).leaf in
    due_there c.args.tree.now.space.table.shared.key c.args.placed.now.key c.args.placed.now.row
    c.args.pass.now.seat.me c.walk-cursor.new.pass.seat.me
    c.try_split-adapted.new.pass.seat.me c.walk-cursor.result c.try_split-adapted.result
    c.requires.placed c.walk-cursor.ensures.walked (omega arith)
    (c.if-cursor-placed.false) c.try_split-adapted.ensures.split

pub returns-else-was_split-clause-cut : goal.returns-else-was_split-clause-cut
returns-else-was_split-clause-cut c = let most = (tuned_on c.args.tree.now).allowed.most_leaf in
    let same = (tuned_on c.args.tree.now).leaf in
    due_there c.args.tree.now.space.table.shared.key c.args.placed.now.key c.args.placed.now.row
    c.args.pass.now.seat.me c.walk-cursor.new.pass.seat.me
    c.try_split-adapted.new.pass.seat.me c.walk-cursor.result c.try_split-adapted.result
    c.requires.placed c.walk-cursor.ensures.walked (omega arith)
    (c.if-cursor-placed.false) c.try_split-adapted.ensures.split

pub returns-then-cursor-placed-clause-won : goal.returns-then-cursor-placed-clause-won
returns-then-cursor-placed-clause-won c alone =
    absurd (c.if-cursor-placed.true
    (comes_there c.args.tree.now.space.table.shared.key c.args.placed.now.key c.args.placed.now.row
    c.args.pass.now.seat.me c.walk-cursor.new.pass.seat.me c.walk-cursor.result c.requires.placed
    c.walk-cursor.ensures.walked alone))

pub returns-then-was_split-clause-won : goal.returns-then-was_split-clause-won
returns-then-was_split-clause-won c alone =
    let z = c.args.tree.now.space.table.shared.key in
    let further =
    walked_further z (spot.At c.args.placed.now.key) c.args.pass.now.seat.me
    c.walk-cursor.new.pass.seat.me c.walk-cursor.result
    c.walk-cursor.ensures.walked in
    let here =
    alone_on z c.args.pass.now.seat.me.0.upper c.walk-cursor.new.pass.seat.me.0.upper
    further.number alone in
    due_won z c.args.placed.now.key c.args.placed.now.row c.args.pass.now.seat.me
    c.walk-cursor.new.pass.seat.me c.try_split-adapted.new.pass.seat.me c.walk-cursor.result
    c.try_split-adapted.result c.requires.placed c.walk-cursor.ensures.walked
    (c.if-cursor-placed.false) c.try_split-adapted.ensures.split
    (c.try_split-adapted.ensures.won here (walked_listed z (spot.At c.args.placed.now.key)
    c.args.pass.now.seat.me c.walk-cursor.new.pass.seat.me c.walk-cursor.result
    c.walk-cursor.ensures.walked alone))

pub returns-else-was_split-clause-won : goal.returns-else-was_split-clause-won
returns-else-was_split-clause-won c alone =
    let z = c.args.tree.now.space.table.shared.key in
    let further =
    walked_further z (spot.At c.args.placed.now.key) c.args.pass.now.seat.me
    c.walk-cursor.new.pass.seat.me c.walk-cursor.result
    c.walk-cursor.ensures.walked in
    let here =
    alone_on z c.args.pass.now.seat.me.0.upper c.walk-cursor.new.pass.seat.me.0.upper
    further.number alone in
    due_won z c.args.placed.now.key c.args.placed.now.row c.args.pass.now.seat.me
    c.walk-cursor.new.pass.seat.me c.try_split-adapted.new.pass.seat.me c.walk-cursor.result
    c.try_split-adapted.result c.requires.placed c.walk-cursor.ensures.walked
    (c.if-cursor-placed.false) c.try_split-adapted.ensures.split
    (c.try_split-adapted.ensures.won here (walked_listed z (spot.At c.args.placed.now.key)
    c.args.pass.now.seat.me c.walk-cursor.new.pass.seat.me c.walk-cursor.result
    c.walk-cursor.ensures.walked alone))

-- It is the new base, so it has that one's words, and no range marked it.
pub try_split-adapted-requires-clause-settled : goal.try_split-adapted-requires-clause-settled
try_split-adapted-requires-clause-settled c = let w = c.walk-cursor.ensures.walked in let n = c.requires.placed in
    let new = c.args.pass.now.seat.me.0.upper.renewal.new in
    let same = w.alike new n.noted (sym n.row ∙ (sym c.if-cursor-placed.false ∙ sym w.cursor_is.base)) in
    let none : mark w.note.its ≡ 0 = ap mark (sym same) ∙ n.unmarked in
    subst (λ (m : MyTree). IsSettled m.0.upper (first_note m.0.upper.notes).its) (sym w.now)
    (inl (λ one. let two : mark w.note.its ≡ 1 = one in omega arith), inl (λ two. let one : mark w.note.its ≡ 2 = two in omega arith))
