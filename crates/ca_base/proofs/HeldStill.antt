-- A pass that wrote to a row holds it still, and reads what it read.
use Rattle.std.proofs.Common.{ℕ, ap, ◌∙◌}
use Rattle.ca_base.specs.Holding.{ReadsAndHolds}
use Rattle.ca_base.specs.Writing.{HasFilled}
use Rattle.ca_node.specs.TreeView.{TreeView}
use Rattle.ca_rows.specs.declared.space.Pass.{Pass}
use Rattle.ca_rows.specs.declared.space.Space.{Space}
use Rattle.ca_rows.specs.declared.view.Pin.{Pin}
use Rattle.ca_rows.specs.Calls.{IsStill}
use Rattle.ca_rows.specs.Passes.{known}

pub filled_holds : {R : Type 0} (space : Space R TreeView) (a b : Pass R TreeView) (row at count : ℕ) (says : ℕ → ℕ → Type 0) → IsStill a.seat b.seat
    → HasFilled row at count says (known a) (known b) → ReadsAndHolds space a row → ReadsAndHolds space b row
filled_holds space a b row at count says same filled h = let held = h.held.1 in let f = filled held.0 held.1 held.2 in record {
  reading = record {
    own = (same.0 ∙ h.reading.own.0, same.2 ∙ h.reading.own.1);
    pinned = ap (λ (p : Pin). p.pinned) same.3 ∙ h.reading.pinned;
  };
  held = (h.held.0, (f.0, f.1.long ∙ held.1, f.2.here));
}
