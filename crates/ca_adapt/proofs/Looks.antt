-- What stays as a seat looks for the sibling of a base.
use Rattle.std.proofs.Common.{◌≡◌, ℕ, ◌<◌, Bool, true, false, [], Option, Some, None, sym, refl, ap, ◌∙◌, subst, inl, inr, arith}
use Rattle.ca_base.specs.Counting.{losses}
use Rattle.ca_base.specs.Readiness.{IsReady}
use Rattle.ca_base.specs.Taking.{AreHeld, lent_of}
use Rattle.ca_model.specs.declared.outcome.Spent.{Spent}
use Rattle.ca_node.specs.Row.{mark_owner}
use Rattle.ca_node.specs.Told.{MyTree, HasWatched, with_upper}
use Rattle.ca_node.specs.TreeView.{Note, TreeView}
use Rattle.ca_rows.specs.Calls.{IsNumbered}
use Rattle.ca_rows.specs.Passes.{KeepsList}
use Rattle.ca_rows.specs.declared.space.Pass.{Pass}
use Rattle.ca_rows.specs.declared.space.Space.{Space}
use Rattle.ca_rows.specs.declared.view.Pin.{Pin}
use Rattle.ca_adapt.specs.Carrying.{StaysPinned}
use Rattle.ca_adapt.specs.Trying.{HasSeenBase, IsFoundInUse, IsSpentTrying, OnlyLooks}
use Rattle.ca_adapt.proofs.JoinHeld.{raised_held}
use Rattle.ca_adapt.proofs.MarkedPairs.{tried_none}
use Rattle.ca_adapt.proofs.Ranged.{turned_passed}
use Rattle.ca_adapt.proofs.Readied.{pinned_keeps}

pub no_looks : (m : MyTree) → OnlyLooks m m
no_looks m = record {
  raised = refl;
  joins = refl;
  splits = refl;
  lost = refl;
  passed = refl;
  own =
      refl;
  number = refl;
  inventory = refl;
}

pub looks_both : (m n l : MyTree) → OnlyLooks m n → OnlyLooks n l → OnlyLooks m l
looks_both m n l a b = record {
  raised = b.raised ∙ ap (λ (x : MyTree). with_upper x l.0.upper) a.raised;
  joins = b.joins ∙ a.joins;
  splits = b.splits ∙ a.splits;
  lost = b.lost ∙ a.lost;
  passed = b.passed ∙ a.passed;
  own = b.own ∙ a.own;
  number = b.number ∙ a.number;
  inventory = b.inventory ∙ a.inventory;
}

pub looks_seen : (link : ℕ) (r : Option ℕ) (m m' : MyTree) → HasSeenBase link r m m'
    → OnlyLooks m m'
looks_seen link None m m' s = subst (λ (x : MyTree). OnlyLooks m x) (sym s.1.now) record {
  raised = refl;
  joins = refl;
  splits = refl;
  lost = refl;
  passed = refl;
  own = refl;
  number = refl;
  inventory = refl;
}
looks_seen link (Some row) m m' s = subst (λ (x : MyTree). OnlyLooks m x) (sym s.now) record {
  raised = refl;
  joins = refl;
  splits = refl;
  lost = refl;
  passed = refl;
  own = refl;
  number = refl;
  inventory = refl;
}

looks_watched : (owner word : ℕ) (m m' : MyTree) → HasWatched owner m word m' → OnlyLooks m m'
looks_watched owner word m m' h = subst (λ (x : MyTree). OnlyLooks m x) (sym h.now) record {
  raised = refl;
  joins = refl;
  splits = refl;
  lost = refl;
  passed = turned_passed owner word m.0.upper;
  own = refl;
  number = refl;
  inventory = refl;
}

pub looks_found : (b : Bool) (note : Note) (m m' : MyTree) → IsFoundInUse b note m m'
    → OnlyLooks m m'
looks_found true note m m' r = looks_watched (mark_owner note.its) r.0 m m' r.1
looks_found false note m m' (inl u) = subst (λ (x : MyTree). OnlyLooks m x) (sym u.1) (no_looks m)
looks_found false note m m' (inr w) = looks_watched (mark_owner note.its) w.1.0 m m' w.1.1

-- Nothing was lost by that.
pub looks_lost : (m m' : MyTree) → OnlyLooks m m' → losses m' ≡ losses m
looks_lost m m' l = let pool = ap (λ (x : MyTree). x.0.lost) l.raised in let upper = l.lost in
    omega arith

pub looks_spent : (spent : Spent) (m m' : MyTree) → OnlyLooks m m' → IsSpentTrying spent spent m m'
looks_spent spent m m' l = tried_none spent m m' (looks_lost m m' l) l.passed

module _ {R : Type 0} (space : Space R TreeView) (pass new : Pass R TreeView)
    (k : KeepsList pass new) (l : OnlyLooks pass.seat.me new.seat.me) where
  pub looks_pinned : StaysPinned pass new
  looks_pinned = pinned_keeps pass new k (ap (λ (x : MyTree). x.0.sizes) l.raised)
      (ap (λ (x : MyTree). x.0.pin) l.raised) l.splits l.joins

  pub looks_held : AreHeld space.table.shared.key.rows pass.kept.rows pass.seat.me.0 []
      → AreHeld space.table.shared.key.rows new.kept.rows new.seat.me.0 []
  looks_held h = raised_held space.table.shared.key.rows pass.kept new.kept pass.seat.me new.seat.me
      [] new.seat.me.0.upper k.kept
      (ap lent_of l.own) (omega arith) h l.raised

  pub looks_ready : IsReady space pass → IsReady space new
  looks_ready r = record {
    own = (k.same.0 ∙ r.own.0, ap (λ (x : MyTree). x.0.sizes) l.raised ∙ r.own.1);
    numbered = subst (λ (p : ℕ × Pin). IsNumbered p.0 p.1)
        (λ i. (sym k.number i, sym (ap (λ (x : MyTree). x.0.pin) l.raised) i)) r.numbered;
    pinned = ap (λ (x : MyTree). x.0.pin.pinned) l.raised ∙ r.pinned;
    number = subst (λ (n : ℕ). 0 < n) (sym l.number) r.number;
    none = looks_held r.none;
  }
