-- Passes that are ready still after steps of a try to join.
use Rattle.std.proofs.Common.{◌≡◌, ℕ, ◌<◌, sym, ap, ◌∙◌, subst}
use Rattle.ca_base.specs.Readiness.{IsReady, StaysReady}
use Rattle.ca_node.specs.TreeView.{TreeView}
use Rattle.ca_rows.specs.Calls.{IsNumbered}
use Rattle.ca_rows.specs.declared.space.Pass.{Pass}
use Rattle.ca_rows.specs.declared.space.Space.{Space}
use Rattle.ca_rows.specs.declared.view.Pin.{Pin}
use Rattle.ca_base.proofs.Tallies.{tallied_as}
use Rattle.ca_node.proofs.Tallies.{tallied_still}
use Rattle.ca_rows.specs.Passes.{IsReading, IsStillPass, KeepsList}
use Rattle.ca_base.specs.Taking.{MayTake}
use Rattle.ca_adapt.specs.Carrying.{StaysPinned}
use Rattle.ca_adapt.specs.Pairs.{Marks}

module _ {R : Type 0} (space : Space R TreeView) where
  pub ready_marked : (marks : ℕ) (pass new : Pass R TreeView) → IsReady space pass
      → StaysReady space pass new
      → Marks marks pass.seat.me.0.upper new.seat.me.0.upper → IsReady space new
  ready_marked marks pass new r s m = record {
    own = (s.same.0 ∙ r.own.0, s.pin.0 ∙ r.own.1);
    numbered = subst (λ (p : ℕ × Pin). IsNumbered p.0 p.1) (λ i. (sym s.number i, sym s.pin.1 i))
        r.numbered;
    pinned = ap (λ (p : Pin). p.pinned) s.pin.1 ∙ r.pinned;
    number = subst (λ (n : ℕ). 0 < n) (sym (ap (λ (u : TreeView). u.number) m.only)) r.number;
    none = s.none;
  }

  pub stays_both : (a b c : Pass R TreeView) → StaysReady space a b → StaysReady space b c
      → StaysReady space a c
  stays_both a b c x y = record {
    same = (y.same.0 ∙ x.same.0, y.same.1 ∙ x.same.1);
    number = y.number ∙ x.number;
    tally = λ t. y.tally (x.tally t);
    pin = (y.pin.0 ∙ x.pin.0, y.pin.1 ∙ x.pin.1);
    own_range = y.own_range ∙ x.own_range;
    none = y.none;
  }

  pub pinned_of : (pass new : Pass R TreeView) → StaysReady space pass new → StaysPinned pass new
  pinned_of pass new s = record { same = s.same; number = s.number; tally = s.tally; pin = s.pin }

module _ {R : Type 0} where
  pub pinned_both : (a b c : Pass R TreeView) → StaysPinned a b → StaysPinned b c → StaysPinned a c
  pinned_both a b c x y = record {
    same = (y.same.0 ∙ x.same.0, y.same.1 ∙ x.same.1);
    number = y.number ∙ x.number;
    tally = λ t. y.tally (x.tally t);
    pin = (y.pin.0 ∙ x.pin.0, y.pin.1 ∙ x.pin.1);
  }

  pub pinned_still : (pass new : Pass R TreeView) → IsStillPass pass new → StaysPinned pass new
  pinned_still pass new s = record {
    same = (s.same.0, s.same.1);
    number = s.number;
    tally = tallied_as pass.tally new.tally pass.seat.me.0.upper new.seat.me.0.upper
        s.tally s.same.4;
    pin = (s.same.2, s.same.3);
  }

  -- What it knows of the pool is as before, and it carried out no split and no join.
  pub pinned_keeps : (pass new : Pass R TreeView) → KeepsList pass new
      → new.seat.me.0.sizes ≡ pass.seat.me.0.sizes → new.seat.me.0.pin ≡ pass.seat.me.0.pin
      → new.seat.me.0.upper.splits ≡ pass.seat.me.0.upper.splits
      → new.seat.me.0.upper.joins ≡ pass.seat.me.0.upper.joins → StaysPinned pass new
  pinned_keeps pass new k sizes pin splits joins = record {
    same = k.same;
    number = k.number;
    tally = tallied_still pass.tally new.tally pass.seat.me.0.upper new.seat.me.0.upper k.tally
        splits joins;
    pin = (sizes, pin);
  }

  pub reading_then : (space : Space R TreeView) (pass new : Pass R TreeView) → IsReading space pass
      → StaysPinned pass new → IsReading space new
  reading_then space pass new r s = record {
    own = (s.same.0 ∙ r.own.0, s.pin.0 ∙ r.own.1);
    pinned = ap (λ (p : Pin). p.pinned) s.pin.1 ∙ r.pinned;
  }

pub may_take : {R : Type 0} (space : Space R TreeView) (pass new : Pass R TreeView)
    → IsReady space pass → StaysReady space pass new → MayTake space new
may_take space pass new r s = record {
  reading = record {
    own = (s.same.0 ∙ r.own.0, s.pin.0 ∙ r.own.1);
    pinned = ap (λ (p : Pin). p.pinned) s.pin.1 ∙ r.pinned;
  };
  numbered = subst (λ (p : ℕ × Pin). IsNumbered p.0 p.1) (λ i. (sym s.number i, sym s.pin.1 i))
      r.numbered;
  list = s.none.0.are_kept;
}
