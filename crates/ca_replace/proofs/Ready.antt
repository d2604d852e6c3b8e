-- Passes that are ready for an operation on a base stay so behind what they do.
use Rattle.std.proofs.Common.{◌<◌, [], sym, ap, ◌∙◌, subst}
use Rattle.ca_base.specs.Readiness.{IsReady, StaysReady}
use Rattle.ca_base.proofs.Tallies.{tallied_as}
use Rattle.ca_node.specs.Told.{MyTree}
use Rattle.ca_node.specs.TreeView.{TreeView}
use Rattle.ca_replace.proofs.Entries.{held_looked}
use Rattle.ca_replace.proofs.Numbering.{numbered_as}
use Rattle.ca_rows.specs.declared.space.Pass.{Pass}
use Rattle.ca_rows.specs.declared.space.Space.{Space}
use Rattle.ca_rows.specs.declared.view.Pin.{Pin}
use Rattle.ca_rows.specs.Passes.{OnlyReads}

module _ {R : Type 0} {space : Space R TreeView} {pass new : Pass R TreeView} where
  -- Behind loads.
  pub ready_read : OnlyReads pass new → IsReady space pass → IsReady space new
  ready_read f ready = record {
    own = (f.same.0 ∙ ready.own.0, ap (λ (m : MyTree). m.0.sizes) f.still ∙ ready.own.1);
    numbered = numbered_as pass.number new.number pass.seat.me.0.pin new.seat.me.0.pin f.number
        (ap (λ (m : MyTree). m.0.pin.number) f.still) ready.numbered;
    pinned = ap (λ (m : MyTree). m.0.pin.pinned) f.still ∙ ready.pinned;
    number = subst (λ (m : MyTree). 0 < m.0.upper.number) (sym f.still) ready.number;
    none = held_looked space.table.shared.key.rows pass.kept new.kept pass.seat.me new.seat.me []
        ready.none f.kept (ap (λ (m : MyTree). m.0.claims) f.still)
        (ap (λ (m : MyTree). m.0.most) f.still) (ap (λ (m : MyTree). m.0.upper.ranges.own) f.still);
  }

  -- Behind an operation.
  pub ready_after : IsReady space pass → StaysReady space pass new
      → 0 < new.seat.me.0.upper.number → IsReady space new
  ready_after ready s some = record {
    own = (s.same.0 ∙ ready.own.0, s.pin.0 ∙ ready.own.1);
    numbered = numbered_as pass.number new.number pass.seat.me.0.pin new.seat.me.0.pin s.number
        (ap (λ (p : Pin). p.number) s.pin.1) ready.numbered;
    pinned = ap (λ (p : Pin). p.pinned) s.pin.1 ∙ ready.pinned;
    number = some;
    none = s.none;
  }

-- Loads behind loads.
pub reads_both : {R : Type 0} {pass mid new : Pass R TreeView} → OnlyReads pass mid → OnlyReads mid new → OnlyReads pass new
reads_both f g = record {
  same = (g.same.0 ∙ f.same.0, g.same.1 ∙ f.same.1);
  number = g.number ∙ f.number;
  tally = g.tally ∙ f.tally;
  kept = g.kept ∙ f.kept;
  still = g.still ∙ f.still;
}

module _ {R : Type 0} {space : Space R TreeView} {pass mid new : Pass R TreeView} where
  -- An operation behind loads.
  pub stays_read : OnlyReads pass mid → StaysReady space mid new → StaysReady space pass new
  stays_read f s = record {
    same = (s.same.0 ∙ f.same.0, s.same.1 ∙ f.same.1);
    number = s.number ∙ f.number;
    tally = λ h. s.tally (tallied_as pass.tally mid.tally pass.seat.me.0.upper
        mid.seat.me.0.upper f.tally (ap (λ (m : MyTree). m.0.upper) f.still) h);
    pin = (
      s.pin.0 ∙ ap (λ (m : MyTree). m.0.sizes) f.still,
      s.pin.1 ∙ ap (λ (m : MyTree). m.0.pin) f.still,
    );
    own_range = s.own_range ∙ ap (λ (m : MyTree). m.0.upper.ranges.own) f.still;
    none = s.none;
  }

  -- An operation behind another one.
  pub stays_both : StaysReady space pass mid → StaysReady space mid new
      → StaysReady space pass new
  stays_both s t = record {
    same = (t.same.0 ∙ s.same.0, t.same.1 ∙ s.same.1);
    number = t.number ∙ s.number;
    tally = λ h. t.tally (s.tally h);
    pin = (t.pin.0 ∙ s.pin.0, t.pin.1 ∙ s.pin.1);
    own_range = t.own_range ∙ s.own_range;
    none = t.none;
  }

  -- Loads behind an operation.
  pub stays_then_read : StaysReady space pass mid → OnlyReads mid new → StaysReady space pass new
  stays_then_read s f = record {
    same = (f.same.0 ∙ s.same.0, f.same.1 ∙ s.same.1);
    number = f.number ∙ s.number;
    tally = λ h. tallied_as mid.tally new.tally mid.seat.me.0.upper new.seat.me.0.upper f.tally (ap (λ (m : MyTree). m.0.upper) f.still) (s.tally h);
    pin = (ap (λ (m : MyTree). m.0.sizes) f.still ∙ s.pin.0, ap (λ (m : MyTree). m.0.pin) f.still ∙ s.pin.1);
    own_range = ap (λ (m : MyTree). m.0.upper.ranges.own) f.still ∙ s.own_range;
    none = held_looked space.table.shared.key.rows mid.kept new.kept mid.seat.me new.seat.me [] s.none f.kept
        (ap (λ (m : MyTree). m.0.claims) f.still) (ap (λ (m : MyTree). m.0.most) f.still) (ap (λ (m : MyTree). m.0.upper.ranges.own) f.still);
  }
