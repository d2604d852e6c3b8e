use Rattle.std.proofs.Common.{true, false, refl, ap, arith, inl, ◌∙◌, ◌≡◌, ◌+◌, sym, subst}
use Rattle.ca_node.specs.Place.{all_keys}
use Rattle.ca_node.specs.Told.{MyTree}
use Rattle.ca_rows.specs.Told.{begun_of, met_of}
use Rattle.ca_node.proofs.Tallies.{tallied_still, led_counts}
use Rattle.ca_node.specs.TreeView.{TreeView, pinned, left_over}
use Rattle.ca_rows.specs.declared.sizes.Sizes.{Sizes}
use Rattle.ca_replace.proofs.Entries.{held_upper}
use Rattle.ca_replace.proofs.ReadLoads.{led_once}
use Rattle.ca_replace.proofs.Showing.{led_further}
use Rattle.ca_replace.proofs.Turns.{none_pinned, rests_as, rests_again}
use Rattle.ca_replace.specs.Resting.{StoreAndRun}
use Rattle.ca_replace.proofs.StoreCalls.{closed_then, rests_first, rests_then}
use Rattle.ca_replace.proofs.store.TreeStore.learn.Goals as goal
use Rattle.ca_node.specs.Layout.{root_word}
use Rattle.ca_range.proofs.LoneMarks.{only_one}

pub load_link-requires-clause-known : goal.load_link-requires-clause-known
load_link-requires-clause-known c = (0, all_keys, inl (refl, refl, refl))

pub keep_few-requires : goal.keep_few-requires
keep_few-requires c = let rests = rests_first c.self.inside c.self.view_is c.requires.closed
    c.self.invariant in
    let tree = c.self.inside.tree.now in
    let z : Sizes = tree.space.table.shared.key in let table = tree.space.table.shared.table_id in
    let pass = c.self.inside.pass in let pin = c.pin.ensures.pinned.3 in
    let learnt = c.learn.ensures.learnt in
    let both = pin ∙ ap (λ (m : MyTree). (
      record m.0 {
        pin = record m.0.pin {
          pinned = true;
          pins = m.0.pin.pins + 1;
          told = c.pin.ensures.pinned.0;
          moment =
              c.pin.ensures.pinned.1;
          entered = met_of m;
          begun = begun_of m;
          begun_at = m.0.pin.looks;
        };
        upper = pinned m.0.upper;
      },
      m.1,
    )) learnt in
    let led = led_further z root_word c.pin.new.pass.seat.me c.load_link.new.pass.seat.me
    c.load_link.result c.load_link.ensures.led
    (ap (λ (m : MyTree). m.0.sizes) both ∙ rests.of.1) tree.space.few.0 in
    let counts =
    led_counts false root_word c.pin.new.pass.seat.me c.load_link.new.pass.seat.me
    c.load_link.result
    c.load_link.ensures.led in record {
      resting = rests_as table z pass.number c.unpin.new.pass.number c.load_link.new.pass.kept
          c.unpin.new.pass.kept c.unpin.new.pass.seat
          (c.unpin.ensures.frame.number
          ∙ (c.load_link.ensures.frame.number
          ∙ (c.pin.ensures.frame.number ∙ c.learn.ensures.frame.number)))
          c.unpin.ensures.frame.tally
          c.unpin.ensures.frame.kept
          (rests_again table z pass.number pass.kept.rows c.load_link.new.pass.kept.rows pass.seat
          c.pin.new.pass.seat c.load_link.new.pass.seat
          c.unpin.new.pass.seat rests (
            ap (λ (m : MyTree). m.0.sizes) both,
            ap (λ (m : MyTree). m.0.pin.number) both,
            ap (λ (m : MyTree). m.0.upper.number) both,
          )
          (c.load_link.ensures.frame.same.0
          ∙ (c.pin.ensures.frame.same.0 ∙ c.learn.ensures.frame.same.0))
          (ap (λ (m : MyTree). m.0.sizes) led.1, ap (λ (m : MyTree). m.0.pin) led.1)
          (held_upper z.rows c.pin.new.pass.kept c.load_link.new.pass.kept c.pin.new.pass.seat.me
          c.load_link.new.pass.seat.me led.0 _
          (none_pinned table z pass.number pass.kept c.pin.new.pass.kept pass.seat
          c.pin.new.pass.seat _ _ rests both (ap left_over rests.quiet)
          (c.pin.ensures.frame.kept ∙ c.learn.ensures.frame.kept)) led.1
          (sym (ap (λ (m : MyTree). m.0.upper.ranges.own) led.1) ∙ counts.2)
          c.load_link.ensures.frame.kept)
          (led.3, led.2.number) c.unpin.ensures.frame.same.0 c.unpin.ensures.unpinned
          (tallied_still pass.tally c.load_link.new.pass.tally pass.seat.me.0.upper
          c.load_link.new.pass.seat.me.0.upper
          (c.load_link.ensures.frame.tally
          ∙ (c.pin.ensures.frame.tally ∙ c.learn.ensures.frame.tally))
          (counts.0 ∙ ap (λ (m : MyTree). m.0.upper.splits) both) (counts.1
          ∙ ap (λ (m : MyTree). m.0.upper.joins) both))
          (counts.2 ∙ (ap (λ (m : MyTree). m.0.upper.ranges.own) both ∙ ap left_over rests.quiet))
          (λ one. c.unpin.ensures.only (only_one z c.load_link.new.pass.seat.me
          (ap (λ (m : MyTree). m.0.sizes) led.1 ∙ (ap (λ (m : MyTree). m.0.sizes) both
          ∙ rests.of.1)) tree.space.few.0 one)));
    }

pub learn-requires-clause-own : goal.learn-requires-clause-own
learn-requires-clause-own c = (rests_first c.self.inside c.self.view_is c.requires.closed
    c.self.invariant).of

pub learn-requires-clause-unpinned : goal.learn-requires-clause-unpinned
learn-requires-clause-unpinned c = (rests_first c.self.inside c.self.view_is c.requires.closed
    c.self.invariant).is_unpinned

pub invariant_of-self : goal.invariant_of-self
invariant_of-self c = rests_then c.self.inside c.self.view_is c.requires.closed
    c.keep_few.new.pass c.self.inside.last c.keep_few.ensures.frame.resting

pub returns-clause-closed : goal.returns-clause-closed
returns-clause-closed c = closed_then c.self.inside c.self.view_is c.requires.closed
    c.keep_few.new.pass c.self.inside.last

pub returns-clause-loads : goal.returns-clause-loads
returns-clause-loads c = let one = led_once false root_word c.pin.new.pass.seat.me
    c.load_link.new.pass.seat.me c.load_link.result c.load_link.ensures.led in
    let before = ap (λ (m : MyTree). m.0.upper.loads) c.learn.ensures.learnt in
    let pin = ap (λ (m : MyTree). m.0.upper.loads) c.pin.ensures.pinned.3 in
    let left = ap (λ (m : MyTree). m.0.upper.loads) c.unpin.ensures.unpinned in
    let kept = ap (λ (u : TreeView). u.loads) c.keep_few.ensures.gave.upper in
    subst (λ (s : StoreAndRun). c.keep_few.new.pass.seat.me.0.upper.loads
    ≡ s.store.seat.me.0.upper.loads + 1) c.self.view_is (omega arith)
