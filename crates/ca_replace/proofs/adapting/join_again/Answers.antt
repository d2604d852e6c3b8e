use Rattle.std.proofs.Common.{◌≡◌, refl, sym, subst, ◌∙◌, ap, inl, arith}
use Rattle.ca_adapt.specs.declared.adapted.Adapted.TheVariants as adapted
use Rattle.ca_base.specs.Finding.{IsBaseShown}
use Rattle.ca_base.specs.Putting.{first_note}
use Rattle.ca_node.specs.declared.cursor.Spot.TheVariants as spot
use Rattle.ca_node.specs.Row.{mark}
use Rattle.ca_node.specs.Told.{MyTree, IsSettled}
use Rattle.ca_replace.proofs.Counted.{none_paid, paid_but}
use Rattle.ca_replace.proofs.DueCauses.{elsewhere_met}
use Rattle.ca_replace.proofs.DueJoins.{hung_under, join_cut, join_further, join_grows, join_met, join_paid, join_won, joins_there}
use Rattle.ca_replace.proofs.GoingOn.{led_elsewhere}
use Rattle.ca_replace.proofs.JoinHelps.{joined_on}
use Rattle.ca_replace.proofs.Growing.{alone_on, same_grows}
use Rattle.ca_replace.proofs.Showing.{walked_further, walked_listed, walked_quiet}
use Rattle.ca_replace.proofs.Winning.{comes_there}
use Rattle.ca_replace.specs.Adapting.{HasTriedToJoin}
use Rattle.ca_replace.proofs.adapting.join_again.Goals as goal

pub try_join-requires-clause-shown : goal.try_join-requires-clause-shown
try_join-requires-clause-shown c = let w = c.walk-cursor.ensures.walked in
    subst (λ (m : MyTree). IsBaseShown c.args.tree.now.space.table.shared.key m.0.upper c.walk-cursor.result.base (first_note m.0.upper.notes))
    (sym w.now) record {
      noted = (0, refl);
      here = w.cursor_is.base;
      is_base = w.is_base;
    }

pub try_join-requires-clause-hung : goal.try_join-requires-clause-hung
try_join-requires-clause-hung c = hung_under c.args.tree.now.space.table.shared.key c.walk-cursor.new.pass.seat.me.0.upper c.walk-cursor.result.link
    c.walk-cursor.result.above c.walk-cursor.ensures.walked.cursor_is.above

-- It is the new base, so it has that one's words: no range marked it, and no join.
pub try_join-requires-clause-settled : goal.try_join-requires-clause-settled
try_join-requires-clause-settled c = let w = c.walk-cursor.ensures.walked in let n = c.requires.placed in
    let new = c.args.pass.now.seat.me.0.upper.renewal.new in
    let same = w.alike new n.noted (sym n.row ∙ (sym c.if-cursor-placed.false ∙ sym w.cursor_is.base)) in
    let none : mark w.note.its ≡ 0 = ap mark (sym same) ∙ n.unmarked in
    subst (λ (m : MyTree). IsSettled m.0.upper (first_note m.0.upper.notes).its) (sym w.now)
    (inl (λ one. let two : mark w.note.its ≡ 1 = one in omega arith), inl (λ two. let one : mark w.note.its ≡ 2 = two in omega arith))

pub returns-clause-further : goal.returns-clause-further
returns-clause-further c = join_further c.args.tree.now.space.table.shared.key c.args.placed.now.key c.args.placed.now.row c.args.pass.now.seat.me
    c.walk-cursor.new.pass.seat.me c.try_join.new.pass.seat.me c.walk-cursor.result c.try_join.result c.requires.placed
    c.walk-cursor.ensures.walked c.if-cursor-placed.false c.try_join.ensures.steps

pub returns-clause-met : goal.returns-clause-met
returns-clause-met c = join_met c.args.tree.now.space.table.shared.key c.args.placed.now.key c.args.placed.now.row c.args.pass.now.seat.me
    c.walk-cursor.new.pass.seat.me c.try_join.new.pass.seat.me c.walk-cursor.result c.try_join.result c.requires.placed
    c.walk-cursor.ensures.walked c.if-cursor-placed.false c.try_join.ensures.steps c.walk-cursor.result.link
    (first_note c.walk-cursor.new.pass.seat.me.0.upper.notes) c.try_join.ensures.joined

pub returns-clause-tried : goal.returns-clause-tried
returns-clause-tried c = joins_there c.args.tree.now.space.table.shared.key c.args.placed.now.key c.args.placed.now.row c.args.pass.now.seat.me
    c.walk-cursor.new.pass.seat.me c.try_join.new.pass.seat.me c.walk-cursor.result c.try_join.result c.requires.placed
    c.walk-cursor.ensures.walked c.if-cursor-placed.false c.try_join.ensures.steps
    c.requires.may.ready.own.1 c.try_join.ensures.joined

pub returns-then-cursor-placed-clause-won : goal.returns-then-cursor-placed-clause-won
returns-then-cursor-placed-clause-won c alone = absurd (c.if-cursor-placed.true
    (comes_there c.args.tree.now.space.table.shared.key c.args.placed.now.key c.args.placed.now.row c.args.pass.now.seat.me
    c.walk-cursor.new.pass.seat.me c.walk-cursor.result c.requires.placed c.walk-cursor.ensures.walked alone))

pub returns-then-cursor-placed-clause-tried : goal.returns-then-cursor-placed-clause-tried
returns-then-cursor-placed-clause-tried c = led_elsewhere c.args.tree.now.space.table.shared.key c.args.placed.now.key c.args.placed.now.row
    c.args.pass.now.seat.me c.walk-cursor.new.pass.seat.me c.walk-cursor.result c.requires.placed c.walk-cursor.ensures.walked
    c.if-cursor-placed.true
    (HasTriedToJoin c.args.tree.now.space.table.shared.key c.walk-cursor.new.pass.seat.me.0.upper adapted.Stay)

pub returns-then-cursor-placed-clause-further : goal.returns-then-cursor-placed-clause-further
returns-then-cursor-placed-clause-further c = let z = c.args.tree.now.space.table.shared.key in (
  walked_further z (spot.At c.args.placed.now.key) c.args.pass.now.seat.me c.walk-cursor.new.pass.seat.me c.walk-cursor.result
      c.walk-cursor.ensures.walked,
  c.walk-cursor.ensures.walked.known,
)

pub returns-then-cursor-placed-clause-met : goal.returns-then-cursor-placed-clause-met
returns-then-cursor-placed-clause-met c = elsewhere_met c.args.tree.now.space.table.shared.key c.args.placed.now.key c.args.placed.now.row
    c.args.pass.now.seat.me c.walk-cursor.new.pass.seat.me c.walk-cursor.result c.requires.placed c.walk-cursor.ensures.walked

pub returns-then-cursor-placed-clause-counted : goal.returns-then-cursor-placed-clause-counted
returns-then-cursor-placed-clause-counted c =
    let quiet = walked_quiet c.args.tree.now.space.table.shared.key (spot.At c.args.placed.now.key) c.args.pass.now.seat.me
    c.walk-cursor.new.pass.seat.me c.walk-cursor.result c.walk-cursor.ensures.walked in
    paid_but c.args.spent.now c.args.spent.now c.args.pass.now.seat.me c.walk-cursor.new.pass.seat.me
    (none_paid c.args.spent.now c.args.pass.now.seat.me c.walk-cursor.new.pass.seat.me quiet.lost quiet.same_turns)

pub returns-clause-counted : goal.returns-clause-counted
returns-clause-counted c = join_paid c.args.tree.now.space.table.shared.key c.args.placed.now.key c.args.placed.now.row c.args.pass.now.seat.me
    c.walk-cursor.new.pass.seat.me c.try_join.new.pass.seat.me c.walk-cursor.result c.try_join.result c.requires.placed
    c.walk-cursor.ensures.walked c.if-cursor-placed.false c.try_join.ensures.steps c.args.spent.now c.try_join.new.spent
    (joined_on c.args.tree.now.space.table.shared.key c.walk-cursor.result.link (first_note c.walk-cursor.new.pass.seat.me.0.upper.notes)
    c.try_join.result c.walk-cursor.new.pass.seat.me c.try_join.new.pass.seat.me c.try_join.ensures.joined).0 c.try_join.ensures.counted

pub returns-clause-cut : goal.returns-clause-cut
returns-clause-cut c = join_cut c.args.tree.now.space.table.shared.key c.args.placed.now.key c.args.placed.now.row c.args.pass.now.seat.me
    c.walk-cursor.new.pass.seat.me c.try_join.new.pass.seat.me c.walk-cursor.result c.try_join.result c.requires.placed
    c.walk-cursor.ensures.walked c.if-cursor-placed.false c.try_join.ensures.steps

pub returns-then-cursor-placed-clause-cut : goal.returns-then-cursor-placed-clause-cut
returns-then-cursor-placed-clause-cut c = inl (walked_quiet c.args.tree.now.space.table.shared.key (spot.At c.args.placed.now.key)
    c.args.pass.now.seat.me c.walk-cursor.new.pass.seat.me c.walk-cursor.result c.walk-cursor.ensures.walked).same_cuts

pub returns-clause-won : goal.returns-clause-won
returns-clause-won c alone = join_won c.args.tree.now.space.table.shared.key c.args.placed.now.key c.args.placed.now.row c.args.pass.now.seat.me
    c.walk-cursor.new.pass.seat.me c.try_join.new.pass.seat.me c.walk-cursor.result c.try_join.result c.requires.placed
    c.walk-cursor.ensures.walked c.if-cursor-placed.false c.try_join.ensures.steps
    (c.try_join.ensures.alone
    (alone_on c.args.tree.now.space.table.shared.key c.args.pass.now.seat.me.0.upper c.walk-cursor.new.pass.seat.me.0.upper
    (walked_further c.args.tree.now.space.table.shared.key (spot.At c.args.placed.now.key) c.args.pass.now.seat.me
    c.walk-cursor.new.pass.seat.me c.walk-cursor.result c.walk-cursor.ensures.walked).number alone)
    c.walk-cursor.ensures.walked.known
    (walked_listed c.args.tree.now.space.table.shared.key (spot.At c.args.placed.now.key) c.args.pass.now.seat.me
    c.walk-cursor.new.pass.seat.me c.walk-cursor.result c.walk-cursor.ensures.walked alone))
    (joined_on c.args.tree.now.space.table.shared.key c.walk-cursor.result.link (first_note c.walk-cursor.new.pass.seat.me.0.upper.notes)
    c.try_join.result c.walk-cursor.new.pass.seat.me c.try_join.new.pass.seat.me c.try_join.ensures.joined)

pub returns-clause-grows : goal.returns-clause-grows
returns-clause-grows c alone = join_grows c.args.tree.now.space.table.shared.key c.args.placed.now.key c.args.placed.now.row c.args.pass.now.seat.me
    c.walk-cursor.new.pass.seat.me c.try_join.new.pass.seat.me c.walk-cursor.result c.try_join.result c.requires.placed
    c.walk-cursor.ensures.walked c.if-cursor-placed.false c.try_join.ensures.steps
    (c.try_join.ensures.alone
    (alone_on c.args.tree.now.space.table.shared.key c.args.pass.now.seat.me.0.upper c.walk-cursor.new.pass.seat.me.0.upper
    (walked_further c.args.tree.now.space.table.shared.key (spot.At c.args.placed.now.key) c.args.pass.now.seat.me
    c.walk-cursor.new.pass.seat.me c.walk-cursor.result c.walk-cursor.ensures.walked).number alone)
    c.walk-cursor.ensures.walked.known
    (walked_listed c.args.tree.now.space.table.shared.key (spot.At c.args.placed.now.key) c.args.pass.now.seat.me
    c.walk-cursor.new.pass.seat.me c.walk-cursor.result c.walk-cursor.ensures.walked alone))

pub returns-then-cursor-placed-clause-grows : goal.returns-then-cursor-placed-clause-grows
returns-then-cursor-placed-clause-grows c alone = let q = walked_quiet c.args.tree.now.space.table.shared.key (spot.At c.args.placed.now.key)
    c.args.pass.now.seat.me c.walk-cursor.new.pass.seat.me c.walk-cursor.result c.walk-cursor.ensures.walked in
    same_grows 1 2 1 c.args.pass.now.seat.me.0.upper c.walk-cursor.new.pass.seat.me.0.upper (q.splits_are, q.same_inventory)
