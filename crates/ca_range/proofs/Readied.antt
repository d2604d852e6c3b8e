-- A pass is ready still after steps that only raised what it knows of the tree.
use Rattle.std.proofs.Common.{◌≡◌, ℕ, ◌<◌, [], sym, ap, ◌∙◌, subst}
use Rattle.ca_base.specs.Readiness.{IsReady, StaysReady}
use Rattle.ca_base.specs.Taking.{AreHeld, HasHeld, lent_of}
use Rattle.ca_node.specs.Tallied.{IsTallied}
use Rattle.ca_node.specs.Told.{MyTree, with_upper}
use Rattle.ca_node.specs.TreeView.{Ranging, TreeView}
use Rattle.ca_node.proofs.Tallies.{tallied_still}
use Rattle.ca_rows.specs.Calls.{IsNumbered}
use Rattle.ca_rows.specs.Passes.{KeepsList, OnlyReads}
use Rattle.ca_rows.specs.declared.kept.KeptRows.{KeptRows}
use Rattle.ca_rows.specs.declared.space.Pass.{Pass}
use Rattle.ca_rows.specs.declared.space.Space.{Space}
use Rattle.ca_rows.specs.declared.tally.Tally.{Tally}
use Rattle.ca_rows.specs.declared.view.Pin.{Pin}
use Rattle.ca_range.specs.Staying.{OnlySteps}

module _ {R : Type 0} (space : Space R TreeView) (pass new : Pass R TreeView) where
  pub ready_still : IsReady space pass → KeepsList pass new → new.seat.me ≡ with_upper pass.seat.me new.seat.me.0.upper
      → OnlySteps space.table.shared.key 0 pass.seat.me.0.upper new.seat.me.0.upper → IsReady space new
  ready_still r k raised steps = record {
    own = (k.same.0 ∙ r.own.0, ap (λ (x : MyTree). x.0.sizes) raised ∙ r.own.1);
    numbered = subst (λ (p : ℕ × Pin). IsNumbered p.0 p.1) (λ i. (sym k.number i, sym (ap (λ (x : MyTree). x.0.pin) raised) i)) r.numbered;
    pinned = ap (λ (x : MyTree). x.0.pin.pinned) raised ∙ r.pinned;
    number = subst (λ (n : ℕ). 0 < n) (sym (ap (λ (u : TreeView). u.number) steps.only)) r.number;
    none = subst (λ (x : MyTree × KeptRows). AreHeld space.table.shared.key.rows x.1.rows x.0.0 []) (λ i. (sym raised i, sym k.kept i)) (
      subst (λ (own : Ranging). HasHeld space.table.shared.key.rows pass.kept.rows pass.seat.me.0.claims (lent_of own) [])
          (sym (ap (λ (u : TreeView). u.ranges.own) steps.only)) r.none.0,
      record { now = r.none.1.now; ever = r.none.1.ever },
    );
  }

  -- So it is after a step that leaves it ready.
  pub stays_then : (last : Pass R TreeView) → KeepsList pass new → new.seat.me ≡ with_upper pass.seat.me new.seat.me.0.upper
      → new.seat.me.0.upper.joins ≡ pass.seat.me.0.upper.joins
      → OnlySteps space.table.shared.key 0 pass.seat.me.0.upper new.seat.me.0.upper → StaysReady space new last → StaysReady space pass last
  stays_then last k raised no_join steps s = record {
    same = (s.same.0 ∙ k.same.0, s.same.1 ∙ k.same.1);
    number = s.number ∙ k.number;
    tally = λ t. s.tally (tallied_still pass.tally new.tally pass.seat.me.0.upper new.seat.me.0.upper k.tally
        (ap (λ (u : TreeView). u.splits) steps.only) no_join t);
    pin = (s.pin.0 ∙ ap (λ (x : MyTree). x.0.sizes) raised, s.pin.1 ∙ ap (λ (x : MyTree). x.0.pin) raised);
    own_range = s.own_range ∙ ap (λ (u : TreeView). u.ranges.own) steps.only;
    none = s.none;
  }

  -- So it is behind loads of words that were shown.
  pub reads_stay : (last : Pass R TreeView) → OnlyReads pass new → StaysReady space new last → StaysReady space pass last
  reads_stay last r s = record {
    same = (s.same.0 ∙ r.same.0, s.same.1 ∙ r.same.1);
    number = s.number ∙ r.number;
    tally = λ t. s.tally (subst (λ (x : Tally × MyTree). IsTallied x.0 x.1.0.upper) (λ i. (sym r.tally i, sym r.still i)) t);
    pin = (s.pin.0 ∙ ap (λ (x : MyTree). x.0.sizes) r.still, s.pin.1 ∙ ap (λ (x : MyTree). x.0.pin) r.still);
    own_range = s.own_range ∙ ap (λ (x : MyTree). x.0.upper.ranges.own) r.still;
    none = s.none;
  }

  pub ready_reads : IsReady space pass → OnlyReads pass new → IsReady space new
  ready_reads r k = record {
    own = (k.same.0 ∙ r.own.0, ap (λ (x : MyTree). x.0.sizes) k.still ∙ r.own.1);
    numbered = subst (λ (p : ℕ × Pin). IsNumbered p.0 p.1) (λ i. (sym k.number i, sym (ap (λ (x : MyTree). x.0.pin) k.still) i)) r.numbered;
    pinned = ap (λ (x : MyTree). x.0.pin.pinned) k.still ∙ r.pinned;
    number = subst (λ (n : ℕ). 0 < n) (sym (ap (λ (x : MyTree). x.0.upper.number) k.still)) r.number;
    none = subst (λ (x : MyTree × KeptRows). AreHeld space.table.shared.key.rows x.1.rows x.0.0 []) (λ i. (sym k.still i, sym k.kept i)) r.none;
  }

module _ {R : Type 0} (space : Space R TreeView) where
  pub ready_after : {n : ℕ} (pass new : Pass R TreeView) → IsReady space pass → StaysReady space pass new
      → OnlySteps space.table.shared.key n pass.seat.me.0.upper new.seat.me.0.upper → IsReady space new
  ready_after pass new r s steps = record {
    own = (s.same.0 ∙ r.own.0, s.pin.0 ∙ r.own.1);
    numbered = subst (λ (p : ℕ × Pin). IsNumbered p.0 p.1) (λ i. (sym s.number i, sym s.pin.1 i)) r.numbered;
    pinned = ap (λ (p : Pin). p.pinned) s.pin.1 ∙ r.pinned;
    number = subst (λ (n : ℕ). 0 < n) (sym (ap (λ (u : TreeView). u.number) steps.only)) r.number;
    none = s.none;
  }
