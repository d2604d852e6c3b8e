-- A pass that pinned and walked to a base loaded the join word of the route on whose link the base hangs.
use Rattle.std.proofs.Common.{◌≡◌, ◌≢◌, ℕ, ◌+◌, ◌*◌, ◌<◌, [], None, false, refl, sym, ap, ◌∙◌, subst, arith}
use Rattle.ca_adapt.specs.Finishing.{IsHungBy}
use Rattle.ca_adapt.specs.Trying.{OnlyLooks}
use Rattle.ca_adapt.proofs.Looks.{looks_ready}
use Rattle.ca_adapt.proofs.Securing.{hung_still, inside_by, remembered_by}
use Rattle.ca_base.specs.Readiness.{IsReady}
use Rattle.ca_node.specs.JoinSteps.{attempt_of, HasLoadedJoin}
use Rattle.ca_node.specs.Links.{IsIn}
use Rattle.ca_node.specs.Told.{MyTree, with_upper}
use Rattle.ca_node.specs.TreeView.{Attempt, Joining, Quiet, Secured, TreeView}
use Rattle.ca_node.specs.Walking.{IsWalked}
use Rattle.ca_node.specs.declared.cursor.Cursor.{Cursor}
use Rattle.ca_node.specs.declared.cursor.Spot.{Spot}
use Rattle.ca_node.specs.declared.link.Link.{Link}
use Rattle.ca_range.proofs.JoinsEnded.{begun_by_load, prepared_by_load, secured_by_load}
use Rattle.ca_range.proofs.Readied.{ready_still}
use Rattle.ca_range.proofs.Stepping.{steps_by_walk}
use Rattle.ca_replace.specs.Between.{MayBegin}
use Rattle.ca_rows.specs.Passes.{KeepsList}
use Rattle.ca_rows.specs.declared.space.Pass.{Pass}
use Rattle.ca_rows.specs.declared.space.Space.{Space}
use Rattle.ca_join_tests.specs.Stopping.{HasFound}

module _ {R : Type 0} (space : Space R TreeView) (pass new last : Pass R TreeView) (spot : Spot) (cursor : Cursor) (may : MayBegin space [] None false pass)
    (k : KeepsList pass new) (w : IsWalked space.table.shared.key spot pass.seat.me cursor new.seat.me)
    (route : ℕ) (above : Link) (hung : IsHungBy space.table.shared.key new.seat.me.0.upper route above)
    (kl : KeepsList new last) (word : ℕ) (h : HasLoadedJoin route new.seat.me word last.seat.me) where
  looks : OnlyLooks new.seat.me last.seat.me
  looks = subst (λ (x : MyTree). OnlyLooks new.seat.me x) (sym h.now) record {
    raised = refl;
    joins = refl;
    splits = refl;
    lost = refl;
    passed = refl;
    own = refl;
    number = refl;
    inventory = refl;
  }

  pub ready_then : IsReady space last
  ready_then = looks_ready space new last kl looks (ready_still space pass new may.ready k
      (w.now ∙ ap (λ (x : MyTree). with_upper pass.seat.me x.0.upper) (sym w.now)) (steps_by_walk spot pass.seat.me new.seat.me cursor w))

  quiet_then : last.seat.me.0.upper.ranges.own ≡ Quiet
  quiet_then = ap (λ (x : MyTree). x.0.upper.ranges.own) h.now ∙ (ap (λ (x : MyTree). x.0.upper.ranges.own) w.now ∙ may.idle.quiet)

  pub none_secured : (x : Attempt) → last.seat.me.0.upper.ranges.own ≢ Secured x
  none_secured x e = let no : Quiet ≡ Secured x = sym quiet_then ∙ e in cc

  none_begun : (x : Attempt) → last.seat.me.0.upper.ranges.own ≢ Joining x
  none_begun x e = let no : Quiet ≡ Joining x = sym quiet_then ∙ e in cc

  ways_are : last.seat.me.0.upper.ways ≡ new.seat.me.0.upper.ways
  ways_are = ap (λ (x : MyTree). x.0.upper.ways) h.now

  pub hung_then : IsHungBy space.table.shared.key last.seat.me.0.upper route above
  hung_then = hung_still space.table.shared.key new.seat.me.0.upper last.seat.me.0.upper route above ways_are hung

  pub secured_then : (number : ℕ) → word ≡ 4 * number + 2 → IsIn (attempt_of route number) last.seat.me.0.upper.ranges.joins.secured
  secured_then number is = secured_by_load (record { route = route; number = number }) new.seat.me last.seat.me word h is

  pub found_then : (number : ℕ) → word ≡ 4 * number + 1 → word < 18446744073709551616 → HasFound space last (record { route = route; number = number })
  found_then number is fits = let z = space.table.shared.key in let ready = ready_then in record {
    own = ready.own;
    inside = inside_by z new.seat.me.0.upper route above hung;
    aborting = record {
      is_pinned = ready.pinned;
      is_pass = ready.number;
      other = none_begun (attempt_of route number);
      remembered = remembered_by z last.seat.me.0.upper route above hung_then;
      begun = begun_by_load (record { route = route; number = number }) new.seat.me last.seat.me word h is;
      found = prepared_by_load (record { route = route; number = number }) new.seat.me last.seat.me word h is;
    };
    small = omega (arith, is, fits);
  }
