-- A try to join, by its parts: a look at the sibling, and an attempt that is begun.
use Rattle.std.proofs.Common.{◌≡◌, ℕ, ◌<◌, [], Ok, sym, refl, ap, ◌∙◌, subst, arith}
use Rattle.ca_base.specs.Finding.{IsBaseShown}
use Rattle.ca_base.specs.Readiness.{IsReady}
use Rattle.ca_base.specs.Taking.{AreHeld, lent_of}
use Rattle.ca_node.specs.JoinSteps.{attempt_of, beginning, joins_begun, joins_loaded, with_joins, with_own}
use Rattle.ca_node.specs.Links.{IsIn}
use Rattle.ca_node.specs.Told.{MyTree}
use Rattle.ca_node.specs.TreeView.{Joining, Note, Quiet, TreeView, one_tried}
use Rattle.ca_node.specs.declared.link.Link.{Link}
use Rattle.ca_rows.specs.Calls.{IsNumbered}
use Rattle.ca_rows.specs.Passes.{KeepsList, OnlyReads}
use Rattle.ca_rows.specs.declared.sizes.Sizes.{Sizes}
use Rattle.ca_rows.specs.declared.space.Pass.{Pass}
use Rattle.ca_rows.specs.declared.space.Space.{Space}
use Rattle.ca_rows.specs.declared.view.Pin.{Pin}
use Rattle.ca_adapt.specs.Carrying.{StaysPinned}
use Rattle.ca_adapt.specs.Joins.{HasBegunAt}
use Rattle.ca_adapt.specs.Trying.{FindsSibling, IsJoinSteps}
use Rattle.ca_adapt.specs.declared.joining.Attempt.{Attempt}
use Rattle.ca_adapt.proofs.Concluded.{own_steps}
use Rattle.ca_adapt.proofs.JoinHeld.{raised_held, relinked_held}
use Rattle.ca_adapt.proofs.Readied.{pinned_keeps}

pub keeps_reads : {R : Type 0} (pass mid new : Pass R TreeView) → KeepsList pass mid
    → OnlyReads mid new → KeepsList pass new
keeps_reads pass mid new k r = record {
  same = (r.same.0 ∙ k.same.0, r.same.1 ∙ k.same.1);
  number = r.number ∙ k.number;
  tally = r.tally ∙ k.tally;
  kept = r.kept ∙ k.kept;
}

-- The sibling was shown.
pub finds_shown : (z : Sizes) (link : Link) (note : Note) (row : ℕ) (m m' : MyTree)
    (f : FindsSibling z link note row m m')
    → IsBaseShown z m'.0.upper row f.look.sibling
finds_shown z link note row m m' f = record {
  noted = subst (λ (x : MyTree). IsIn f.look.sibling x.0.upper.notes) (sym f.now) (0, refl);
  here = f.row_is;
  is_base = f.is_base;
}

-- An attempt was begun.
module _ (z : Sizes) (route : ℕ) (x : Attempt) (m m' : MyTree)
    (b : HasBegunAt route (Ok x) m m') where
  view_is : m'.0.upper ≡ (record (with_own m.0.upper (Joining (attempt_of x.route x.number))
      (joins_begun (attempt_of x.route x.number) (joins_loaded route b.2.0 m.0.upper.ranges.joins)))
      { tries = one_tried m.0.upper.tries })
  view_is = ap (λ (y : MyTree). y.0.upper) b.2.5
      ∙ ap (λ (y : MyTree). beginning (attempt_of x.route x.number) y.0.upper) b.2.2.now

  pub begun_own : m'.0.upper.ranges.own ≡ Joining (attempt_of x.route x.number)
  begun_own = ap (λ (u : TreeView). u.ranges.own) view_is

  pub begun_ways : m'.0.upper.ways ≡ m.0.upper.ways
  begun_ways = ap (λ (u : TreeView). u.ways) view_is

  pub begun_lost : m'.0.upper.lost ≡ m.0.upper.lost
  begun_lost = ap (λ (u : TreeView). u.lost) view_is

  pub begun_pool : m'.0.lost ≡ m.0.lost
  begun_pool = ap (λ (y : MyTree). y.0.lost) b.2.5 ∙ ap (λ (y : MyTree). y.0.lost) b.2.2.now

  pub begun_inventory : m'.0.upper.inventory ≡ m.0.upper.inventory
  begun_inventory = ap (λ (u : TreeView). u.inventory) view_is

  pub begun_number : m'.0.upper.number ≡ m.0.upper.number
  begun_number = ap (λ (u : TreeView). u.number) view_is

  pub begun_steps : IsJoinSteps z m.0.upper m'.0.upper
  begun_steps = subst (λ (u : TreeView). IsJoinSteps z m.0.upper u) (sym view_is)
      (own_steps z m.0.upper (Joining (attempt_of x.route x.number))
      (joins_begun (attempt_of x.route x.number) (joins_loaded route b.2.0 m.0.upper.ranges.joins))
      (one_tried m.0.upper.tries))

module _ {R : Type 0} (space : Space R TreeView) (pass new : Pass R TreeView) (route : ℕ)
    (x : Attempt) (k : KeepsList pass new)
    (b : HasBegunAt route (Ok x) pass.seat.me new.seat.me) where
  pub begun_pinned : StaysPinned pass new
  begun_pinned = pinned_keeps pass new k (ap (λ (y : MyTree). y.0.sizes) b.2.5
      ∙ ap (λ (y : MyTree). y.0.sizes) b.2.2.now)
      (ap (λ (y : MyTree). y.0.pin) b.2.5 ∙ ap (λ (y : MyTree). y.0.pin) b.2.2.now)
      (ap (λ (y : MyTree). y.0.upper.splits) b.2.5 ∙ ap
      (λ (y : MyTree). y.0.upper.splits) b.2.2.now)
      (ap (λ (y : MyTree). y.0.upper.joins) b.2.5 ∙ ap (λ (y : MyTree). y.0.upper.joins) b.2.2.now)

  held_then : pass.seat.me.0.upper.ranges.own ≡ Quiet
      → AreHeld space.table.shared.key.rows pass.kept.rows pass.seat.me.0 []
      → AreHeld space.table.shared.key.rows new.kept.rows new.seat.me.0 []
  held_then quiet h = relinked_held space.table.shared.key.rows pass.kept new.kept b.2.1 new.seat.me
      [] (beginning (attempt_of x.route x.number) b.2.1.0.upper)
      k.kept (ap lent_of (sym (ap (λ (y : MyTree). y.0.upper.ranges.own) b.2.2.now ∙ quiet)))
      (omega arith)
      (raised_held space.table.shared.key.rows pass.kept pass.kept pass.seat.me b.2.1 []
      (with_joins pass.seat.me.0.upper (joins_loaded route b.2.0 pass.seat.me.0.upper.ranges.joins))
      refl refl (omega arith) h b.2.2.now) b.2.5

  pub begun_ready : pass.seat.me.0.upper.ranges.own ≡ Quiet → IsReady space pass → IsReady space new
  begun_ready quiet r = record {
    own = (begun_pinned.same.0 ∙ r.own.0, begun_pinned.pin.0 ∙ r.own.1);
    numbered = subst (λ (p : ℕ × Pin). IsNumbered p.0 p.1)
        (λ i. (sym begun_pinned.number i, sym begun_pinned.pin.1 i)) r.numbered;
    pinned = ap (λ (p : Pin). p.pinned) begun_pinned.pin.1 ∙ r.pinned;
    number = subst (λ (n : ℕ). 0 < n)
        (sym (ap (λ (y : MyTree). y.0.upper.number) b.2.5
        ∙ ap (λ (y : MyTree). y.0.upper.number) b.2.2.now)) r.number;
    none = held_then quiet r.none;
  }
