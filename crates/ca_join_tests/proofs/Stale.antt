-- A pass that walked to a base that nothing marked, and stops there.
use Rattle.std.proofs.Common.{◌≡◌, ◌≤◌, ◌<◌, ℕ, List, Ok, Err, sym, ap, ◌∙◌, subst, inl, arith}
use denote.Ref.{Bor}
use Rattle.std.specs.Prelude.{Result}
use Rattle.ca_base.specs.Putting.{first_note, HasTried}
use Rattle.ca_base.specs.Readiness.{IsReady, StaysReady}
use Rattle.ca_base.specs.declared.stop.Exchange.TheVariants as exchange
use Rattle.ca_base.specs.declared.stop.Stop.{Stop}
use Rattle.ca_base.specs.declared.stop.Stop.TheVariants as stop
use Rattle.ca_model.specs.Event.{Event}
use Rattle.ca_node.specs.Row.{mark}
use Rattle.ca_node.specs.Told.{MyTree, IsSettled, with_upper}
use Rattle.ca_node.specs.TreeView.{Quiet, TreeView}
use Rattle.ca_node.specs.Walking.{IsWalked}
use Rattle.ca_node.specs.declared.cursor.Cursor.{Cursor}
use Rattle.ca_node.specs.declared.cursor.Spot.TheVariants as spot
use Rattle.ca_range.proofs.Readied.{ready_reads, ready_still}
use Rattle.ca_range.proofs.Stepping.{steps_by_walk}
use Rattle.ca_replace.proofs.Ready.{ready_after}
use Rattle.ca_replace.proofs.Showing.{looking}
use Rattle.ca_replace.specs.Attempting.{IsLooking}
use Rattle.ca_rows.specs.Passes.{KeepsList, OnlyReads}
use Rattle.ca_rows.specs.declared.sizes.Sizes.{Sizes}
use Rattle.ca_rows.specs.declared.space.Pass.{Pass}
use Rattle.ca_rows.specs.declared.space.Space.{Space}
use Rattle.ca_join_tests.specs.Stopping.{IsBelow}

module _ {R : Type 0} (space : Space R TreeView) (pass new last : Pass R TreeView) (key : Bor (List ℕ)) (cursor : Cursor) (ready : IsReady space pass)
    (quiet : pass.seat.me.0.upper.ranges.own ≡ Quiet) (most : space.table.shared.key.leaf ≤ 120) (k : KeepsList pass new)
    (w : IsWalked space.table.shared.key (spot.At key) pass.seat.me cursor new.seat.me) (r : OnlyReads new last) where
  pub is_below : mark w.note.its ≡ 0 → IsBelow space last key.now cursor
  is_below none = let z = space.table.shared.key in record {
    ready = ready_reads space new last (ready_still space pass new ready k (w.now ∙ ap (λ (x : MyTree). with_upper pass.seat.me x.0.upper) (sym w.now))
        (steps_by_walk (spot.At key) pass.seat.me new.seat.me cursor w)) r;
    looking = subst (λ (x : MyTree). IsLooking z x.0.upper key.now cursor) (sym r.still) (looking z key pass.seat.me new.seat.me cursor w most);
    settled = subst (λ (x : MyTree). IsSettled x.0.upper (first_note x.0.upper.notes).its) (sym (r.still ∙ w.now))
        (inl (λ one. let two : mark w.note.its ≡ 1 = one in omega arith), inl (λ two. let one : mark w.note.its ≡ 2 = two in omega arith));
    quiet = ap (λ (x : MyTree). x.0.upper.ranges.own) r.still ∙ (ap (λ (x : MyTree). x.0.upper.ranges.own) w.now ∙ quiet);
  }

-- A try to exchange a base leaves the pass its number.
same_number : {T : Type 0} (event : Event) (z : Sizes) (r : Result T Stop) (u v : TreeView) → HasTried event z r u v → v.number ≡ u.number
same_number event z (Ok x) u v done = done.0.number
same_number event z (Err (stop.Lost exchange.Link)) u v is = ap (λ (x : TreeView). x.number) is
same_number event z (Err (stop.Lost exchange.Head)) u v is = ap (λ (x : TreeView). x.number) is
same_number event z (Err stop.Empty) u v is = ap (λ (x : TreeView). x.number) is
same_number event z (Err stop.Worn) u v is = ap (λ (x : TreeView). x.number) is

module _ {R : Type 0} {space : Space R TreeView} {pass new : Pass R TreeView} where
  -- It is there still behind loads.
  pub still_below : {key : List ℕ} {cursor : Cursor} → IsBelow space pass key cursor → OnlyReads pass new → IsBelow space new key cursor
  still_below {key} {cursor} b r = let z = space.table.shared.key in record {
    ready = ready_reads space pass new b.ready r;
    looking = subst (λ (x : MyTree). IsLooking z x.0.upper key cursor) (sym r.still) b.looking;
    settled = subst (λ (x : MyTree). IsSettled x.0.upper (first_note x.0.upper.notes).its) (sym r.still) b.settled;
    quiet = ap (λ (x : MyTree). x.0.upper.ranges.own) r.still ∙ b.quiet;
  }

  -- It is ready still behind a try to exchange a base.
  pub ready_tried : {T : Type 0} (event : Event) (z : Sizes) (r : Result T Stop) → IsReady space pass → StaysReady space pass new
      → HasTried event z r pass.seat.me.0.upper new.seat.me.0.upper → IsReady space new
  ready_tried event z r ready stays tried = ready_after ready stays
      (subst (λ (n : ℕ). 0 < n) (sym (same_number event z r pass.seat.me.0.upper new.seat.me.0.upper tried)) ready.number)
