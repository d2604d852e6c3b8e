use Rattle.std.proofs.Common.{◌≤◌, ◌<◌, ℕ, [], ◌∷◌, sym, refl, ap, ◌∙◌, subst, arith}
use Rattle.ca_base.proofs.Rest.{is_one}
use Rattle.ca_base.proofs.Unlinking.{held_still, none_left}
use Rattle.ca_node.specs.Laws.{in_nothing}
use Rattle.ca_node.specs.OwnRanges.{given_up}
use Rattle.ca_node.specs.Told.{MyTree}
use Rattle.ca_node.specs.TreeView.{TreeView}
use Rattle.ca_node.proofs.Tallies.{tallied_still}
use Rattle.ca_range.proofs.OwnBegins.{first_unlinked, is_begun, left_held, may_leave, may_mark, number_is}
use Rattle.ca_range.proofs.OwnEnds.{begun_of}
use Rattle.ca_range.proofs.opening.put_first.Goals as goal

pub mark_first-requires-clause-first : goal.mark_first-requires-clause-first
mark_first-requires-clause-first c = may_mark c.args.space.now.table.shared.key c.args.pass.now.seat.me c.args.pass.now.seat.me c.args.rows c.args.first
    c.requires.ready

pub leave_range-requires-clause-owner : goal.leave_range-requires-clause-owner
leave_range-requires-clause-owner c = let d = c.if-not-mark_first.ensures.done in let o = c.requires.owner in let f = c.mark_first.ensures.frame in record {
  reading = record {
    own = (f.same.0 ∙ o.reading.own.0, ap (λ (m : MyTree). m.0.sizes) d ∙ o.reading.own.1);
    pinned = ap (λ (m : MyTree). m.0.pin.pinned) d ∙ o.reading.pinned;
  };
  same_number = ap (λ (m : MyTree). m.0.upper.number) d ∙ (o.same_number ∙ sym f.number);
  some_number = subst (λ (n : ℕ). 0 < n) (sym f.number) o.some_number;
  few = subst (λ (n : ℕ). n ≤ 64) (sym f.number) o.few;
}

pub leave_range-requires-clause-leaving : goal.leave_range-requires-clause-leaving
leave_range-requires-clause-leaving c = may_leave c.args.space.now.table.shared.key c.args.pass.now.seat.me c.mark_first.new.pass.seat.me c.args.rows c.args.first
    c.requires.ready c.requires.owner.reading.pinned (subst (λ (n : ℕ). 0 < n) (sym c.requires.owner.same_number) c.requires.owner.some_number)
    c.if-not-mark_first.ensures.done

pub leave_range-requires-clause-number : goal.leave_range-requires-clause-number
leave_range-requires-clause-number c = (
  number_is c.args.space.now.table.shared.key c.args.pass.now.seat.me c.mark_first.new.pass.seat.me c.args.rows c.args.first
      c.requires.ready c.if-not-mark_first.ensures.done,
  c.requires.ready.small,
)

pub give_back-requires-clause-own : goal.give_back-requires-clause-own
give_back-requires-clause-own c = let d = c.if-not-mark_first.ensures.done in let l = c.leave_range.ensures.left in let o = c.requires.owner in (
  c.leave_range.ensures.frame.same.0 ∙ (c.mark_first.ensures.frame.same.0 ∙ o.reading.own.0),
  ap (λ (m : MyTree). m.0.sizes) l ∙ (ap (λ (m : MyTree). m.0.sizes) d ∙ o.reading.own.1),
)

pub give_back-requires-clause-held : goal.give_back-requires-clause-held
give_back-requires-clause-held c = let z = c.args.space.now.table.shared.key in let d = c.if-not-mark_first.ensures.done in
    let l = c.leave_range.ensures.left in let m = c.args.pass.now.seat.me in let k = c.mark_first.new.pass.seat.me in (
      c.args.rows.own.border ∷ [],
      (λ i. c.requires.held.1 (sym (is_one c.args.rows.copy c.args.rows.own.border i))),
      left_held z.rows _ (begun_of k.0.upper.ranges.own) c.mark_first.new.pass.kept c.leave_range.new.pass.kept k c.leave_range.new.pass.seat.me
          (c.args.rows.copy ∷ c.args.rows.own.border ∷ [])
          (is_begun k.0.upper.ranges.own c.requires.ready.begun (ap (λ (x : MyTree). x.0.upper.ranges.own) d ∙ c.requires.ready.own))
          l c.leave_range.ensures.frame.kept (omega arith)
          (held_still z.rows c.args.pass.now.kept c.mark_first.new.pass.kept m k (c.args.rows.copy ∷ c.args.rows.own.border ∷ []) d
          c.mark_first.ensures.frame.kept c.requires.held.0),
    )

pub give_back-requires-then-not-mark_first-clause-held : goal.give_back-requires-then-not-mark_first-clause-held
give_back-requires-then-not-mark_first-clause-held c = let z = c.args.space.now.table.shared.key in let d = c.if-not-mark_first.ensures.done in
    let l = c.leave_range.ensures.left in let m = c.args.pass.now.seat.me in let k = c.mark_first.new.pass.seat.me in (
      [],
      in_nothing c.args.rows.own.border [] refl,
      c.give_back.ensures.given (c.args.rows.own.border ∷ []) (λ i. c.requires.held.1 (sym (is_one c.args.rows.copy c.args.rows.own.border i)))
          (left_held z.rows _ (begun_of k.0.upper.ranges.own) c.mark_first.new.pass.kept c.leave_range.new.pass.kept k c.leave_range.new.pass.seat.me
          (c.args.rows.copy ∷ c.args.rows.own.border ∷ [])
          (is_begun k.0.upper.ranges.own c.requires.ready.begun (ap (λ (x : MyTree). x.0.upper.ranges.own) d ∙ c.requires.ready.own))
          l c.leave_range.ensures.frame.kept (omega arith)
          (held_still z.rows c.args.pass.now.kept c.mark_first.new.pass.kept m k (c.args.rows.copy ∷ c.args.rows.own.border ∷ []) d
          c.mark_first.ensures.frame.kept c.requires.held.0)),
    )

pub retire_unlinked-requires-clause-unlinked : goal.retire_unlinked-requires-clause-unlinked
retire_unlinked-requires-clause-unlinked c = (
  [],
  in_nothing c.args.first.base [] refl,
  first_unlinked c.args.space.now.table.shared.key c.args.pass.now.seat.me c.mark_first.new.pass.seat.me c.args.rows c.args.first c.requires.ready
      c.args.pass.now.kept c.mark_first.new.pass.kept c.requires.held.1 c.if-not-mark_first.ensures.done c.mark_first.ensures.frame.kept c.requires.held.0,
)

pub returns-clause-frame : goal.returns-clause-frame
returns-clause-frame c = let now = c.retire_unlinked.ensures.frame.same.4 ∙ ap (λ (m : MyTree). m.0.upper) c.if-not-mark_first.ensures.done.now in
    let d = c.if-not-mark_first.ensures.done.now in let s = c.retire_unlinked.ensures.frame.same in let z = c.args.space.now.table.shared.key in record {
      same = (s.0 ∙ c.mark_first.ensures.frame.same.0, s.1 ∙ c.mark_first.ensures.frame.same.1);
      number = c.retire_unlinked.ensures.frame.number ∙ c.mark_first.ensures.frame.number;
      tally = tallied_still c.args.pass.now.tally c.retire_unlinked.new.pass.tally c.args.pass.now.seat.me.0.upper c.retire_unlinked.new.pass.seat.me.0.upper
          (c.retire_unlinked.ensures.frame.tally ∙ c.mark_first.ensures.frame.tally) (ap (λ (y : TreeView). y.splits) now)
          (ap (λ (y : TreeView). y.joins) now);
      pin = (s.2 ∙ ap (λ (m : MyTree). m.0.sizes) d, s.3 ∙ ap (λ (m : MyTree). m.0.pin) d);
      none = none_left z.rows c.retire_unlinked.new.pass.kept.rows c.retire_unlinked.new.pass.seat.me.0
          (c.retire_unlinked.ensures.retired [] (in_nothing c.args.first.base [] refl)
          (first_unlinked z c.args.pass.now.seat.me c.mark_first.new.pass.seat.me c.args.rows c.args.first c.requires.ready
          c.args.pass.now.kept c.mark_first.new.pass.kept c.requires.held.1 c.if-not-mark_first.ensures.done c.mark_first.ensures.frame.kept
          c.requires.held.0));
    }

pub returns-clause-done : goal.returns-clause-done
returns-clause-done c = (
  begun_of c.args.pass.now.seat.me.0.upper.ranges.own,
  is_begun c.args.pass.now.seat.me.0.upper.ranges.own c.requires.ready.begun c.requires.ready.own,
  c.retire_unlinked.ensures.frame.same.4 ∙ ap (λ (m : MyTree). m.0.upper) c.if-not-mark_first.ensures.done.now,
)

pub returns-then-not-mark_first-clause-frame : goal.returns-then-not-mark_first-clause-frame
returns-then-not-mark_first-clause-frame c = let z = c.args.space.now.table.shared.key in let d = c.if-not-mark_first.ensures.done in
    let l = c.leave_range.ensures.left in let m = c.args.pass.now.seat.me in let k = c.mark_first.new.pass.seat.me in
    let a = c.give_back.ensures.frame in let b = c.give_back-then-not-mark_first.ensures.frame in let f = c.mark_first.ensures.frame in let g = c.leave_range.ensures.frame in
    let now = b.same.4 ∙ (a.same.4 ∙ (ap (λ (x : MyTree). x.0.upper) l ∙ λ i. given_up (begun_of k.0.upper.ranges.own).number (d i).0.upper)) in record {
      same = (b.same.0 ∙ (a.same.0 ∙ (g.same.0 ∙ f.same.0)), b.same.1 ∙ (a.same.1 ∙ (g.same.1 ∙ f.same.1)));
      number = b.number ∙ (a.number ∙ (g.number ∙ f.number));
      tally = tallied_still c.args.pass.now.tally c.give_back-then-not-mark_first.new.pass.tally m.0.upper c.give_back-then-not-mark_first.new.pass.seat.me.0.upper
          (b.tally ∙ (a.tally ∙ (g.tally ∙ f.tally))) (ap (λ (y : TreeView). y.splits) now) (ap (λ (y : TreeView). y.joins) now);
      pin = (
        b.same.2 ∙ (a.same.2 ∙ (ap (λ (x : MyTree). x.0.sizes) l ∙ ap (λ (x : MyTree). x.0.sizes) d)),
        b.same.3 ∙ (a.same.3 ∙ (ap (λ (x : MyTree). x.0.pin) l ∙ ap (λ (x : MyTree). x.0.pin) d)),
      );
      none = c.give_back-then-not-mark_first.ensures.given [] (in_nothing c.args.rows.own.border [] refl)
          (c.give_back.ensures.given (c.args.rows.own.border ∷ []) (λ i. c.requires.held.1 (sym (is_one c.args.rows.copy c.args.rows.own.border i)))
          (left_held z.rows _ (begun_of k.0.upper.ranges.own) c.mark_first.new.pass.kept c.leave_range.new.pass.kept k c.leave_range.new.pass.seat.me
          (c.args.rows.copy ∷ c.args.rows.own.border ∷ [])
          (is_begun k.0.upper.ranges.own c.requires.ready.begun (ap (λ (x : MyTree). x.0.upper.ranges.own) d ∙ c.requires.ready.own))
          l g.kept (omega arith)
          (held_still z.rows c.args.pass.now.kept c.mark_first.new.pass.kept m k (c.args.rows.copy ∷ c.args.rows.own.border ∷ []) d
          f.kept c.requires.held.0)));
    }

pub returns-then-not-mark_first-clause-done : goal.returns-then-not-mark_first-clause-done
returns-then-not-mark_first-clause-done c = let d = c.if-not-mark_first.ensures.done in let l = c.leave_range.ensures.left in
    c.give_back-then-not-mark_first.ensures.frame.same.4 ∙ (c.give_back.ensures.frame.same.4 ∙ (ap (λ (x : MyTree). x.0.upper) l
    ∙ ((λ i. given_up (number_is c.args.space.now.table.shared.key c.args.pass.now.seat.me c.mark_first.new.pass.seat.me c.args.rows c.args.first
    c.requires.ready d i) c.mark_first.new.pass.seat.me.0.upper) ∙ ap (λ (x : MyTree). given_up c.args.rows.own.number x.0.upper) d)))
