-- What comes between two attempts of a call, or before the first one.
use Rattle.std.proofs.Common.{◌≡◌, ◌<◌, ℕ, ◌+◌, true, false, List, [], None, sym, refl, ap, ◌∙◌, subst, inl, inr, arith}
use Rattle.ca_base.specs.Progress.{IsFurther}
use Rattle.ca_base.specs.Taking.{AreHeld}
use Rattle.ca_node.specs.Laws.{starts_whole}
use Rattle.ca_node.specs.Tallied.{IsTallied}
use Rattle.ca_node.specs.Told.{MyTree, IsKnown}
use Rattle.ca_node.specs.TreeView.{Note, Way, Quiet, TreeView, left_over, pinned, unpinned, KnownRanges}
use Rattle.ca_node.proofs.Tallies.{tallied_still}
use Rattle.ca_replace.specs.Attempting.{at_pin}
use Rattle.ca_replace.specs.Between.{GoesOn, MayBegin}
use Rattle.ca_replace.specs.Bounded.{IsPaced}
use Rattle.ca_replace.specs.Resting.{IsAtRest}
use Rattle.ca_replace.proofs.Again.{asking_pinned}
use Rattle.ca_replace.proofs.Counted.{none_met}
use Rattle.ca_replace.proofs.Entries.{held_looked}
use Rattle.ca_replace.proofs.Numbering.{numbered_as}
use Rattle.ca_replace.proofs.Pinning.{pinned_both, pinned_once}
use Rattle.ca_replace.proofs.Turns.{holds_none, no_further}
use Rattle.ca_replace.proofs.Waiting.{moved, moved_further, moved_quiet}
use Rattle.ca_rows.specs.declared.space.Pass.{Pass}
use Rattle.ca_rows.specs.declared.space.Space.{Space}
use Rattle.ca_rows.specs.declared.view.Pin.{Pin}
use Rattle.ca_rows.specs.Calls.{IsNumbered, IsSame}
use Rattle.ca_rows.specs.Passes.{IsOn}
use Rattle.ca_rows.specs.Told.{begun_of, met_of}

-- what a seat knows as it unpinned, and as it pinned
abbrev pub left : MyTree → MyTree
left m = (
  record m.0 {
    pin =
        record m.0.pin {
          pinned =
              false;
          left = met_of m;
        };
    upper = unpinned m.0.upper;
  },
  m.1,
)

abbrev pub announced : ℕ → ℕ → MyTree → MyTree
announced told moment m = (
  record m.0 {
    pin = record m.0.pin {
      pinned = true;
      pins = m.0.pin.pins + 1;
      told = told;
      moment = moment;
      entered = met_of m;
      begun = begun_of m;
      begun_at = m.0.pin.looks;
    };
    upper = pinned m.0.upper;
  },
  m.1,
)

-- It pinned once, and is paced so; or it unpinned before.
pub paced_once : (told moment : ℕ) (m m' : MyTree) → m' ≡ announced told moment m → IsPaced m m'
paced_once told moment m m' is = subst (IsPaced m) (sym is)
    record { pins = omega arith; most = omega arith; more = omega arith; entered = refl }

paced_anew : (told moment : ℕ) (m m' : MyTree) → m' ≡ announced told moment (left m) → IsPaced m m'
paced_anew told moment m m' is = subst (IsPaced m) (sym is)
    record { pins = omega arith; most = omega arith; more = omega arith; entered = refl }

-- It unpinned and pinned then.
pub anew : (m k n : MyTree) (told moment : ℕ) → k ≡ left m → n ≡ announced told moment k
    → n ≡ announced told moment (left m)
anew m k n told moment out in_ = subst (λ (x : MyTree). n ≡ announced told moment x) out in_

module _ {R : Type 0} (space : Space R TreeView) (pass new : Pass R TreeView) where
  -- A pass that pinned may begin an attempt, at the root.
  pub may_pinned : (key : List ℕ) (pin : Pin) (notes : List Note) (ways : List Way)
      (ranges : KnownRanges)
      → IsOn space pass → IsNumbered pass.number pass.seat.me.0.pin
      → 0 < pass.seat.me.0.upper.number
      → AreHeld space.table.shared.key.rows pass.kept.rows pass.seat.me.0 []
      → pass.seat.me.0.upper.ranges.own ≡ Quiet → IsKnown space.table.shared.key
      pass.seat.me.0.upper
      → IsTallied pass.tally pass.seat.me.0.upper → IsSame pass.seat new.seat
      → new.number ≡ pass.number
      → new.kept ≡ pass.kept → new.tally ≡ pass.tally → pin.pinned ≡ true
      → pin.number ≡ pass.seat.me.0.pin.number → ranges.unfinished ≡ [] → ranges.own ≡ Quiet
      → pass.number ≡ pass.seat.me.0.upper.number
      → new.seat.me ≡ moved pass.seat.me pin pass.seat.me.0.upper.seen notes ways ranges
      → MayBegin space key None false new
  may_pinned key pin notes ways ranges own numbered some none was_quiet known tallied same number
      kept tally is_pinned
      pin_number unmet quiet is_number is =
      let now : IsKnown space.table.shared.key new.seat.me.0.upper = subst
      (λ (x : MyTree). IsKnown space.table.shared.key x.0.upper) (sym is)
      record {
        lawful =
            known.lawful;
        past = known.past;
        edits = known.edits;
        enrolled = known.enrolled;
        by_passes = known.by_passes;
      } in record {
        ready = record {
          own = (same.0 ∙ own.0, ap (λ (x : MyTree). x.0.sizes) is ∙ own.1);
          numbered = numbered_as pass.number new.number pass.seat.me.0.pin new.seat.me.0.pin number
              (ap (λ (x : MyTree). x.0.pin.number) is ∙ pin_number) numbered;
          pinned = ap (λ (x : MyTree). x.0.pin.pinned) is ∙ is_pinned;
          number = subst (λ (x : MyTree). 0 < x.0.upper.number) (sym is) some;
          none = held_looked space.table.shared.key.rows pass.kept new.kept pass.seat.me new.seat.me
              [] none kept
              (ap (λ (x : MyTree). x.0.claims) is) (ap (λ (x : MyTree). x.0.most) is)
              (ap (λ (x : MyTree). x.0.upper.ranges.own) is ∙ (quiet ∙ sym was_quiet));
        };
        known = now;
        asking = asking_pinned space.table.shared.key new.seat.me.0.upper now
            (ap (λ (x : MyTree). x.0.upper.since) is
            ∙ sym (ap (λ (x : MyTree). x.0.upper.seen) is));
        idle = record {
          number = number ∙ (is_number ∙ sym (ap (λ (x : MyTree). x.0.upper.number) is));
          quiet = ap (λ (x : MyTree). x.0.upper.ranges.own) is ∙ quiet;
          none_met = λ _. ap (λ (x : MyTree). x.0.upper.ranges.unfinished) is ∙ unmet;
        };
        begins = tt;
        tallied = tallied_still pass.tally new.tally pass.seat.me.0.upper new.seat.me.0.upper tally
            (ap (λ (x : MyTree). x.0.upper.splits) is)
            (ap (λ (x : MyTree). x.0.upper.joins) is) tallied;
      }

  -- So may one that rested.
  pub may_first : (key : List ℕ) (told moment : ℕ) → IsAtRest space pass
      → IsSame pass.seat new.seat → new.number ≡ pass.number → new.kept ≡ pass.kept
      → new.tally ≡ pass.tally → new.seat.me ≡ announced told moment pass.seat.me
      → MayBegin space key None false new
  may_first key told moment r same number kept tally is =
      may_pinned key (announced told moment pass.seat.me).0.pin [] []
      (announced told moment pass.seat.me).0.upper.ranges r.of
      r.numbered (subst (λ n. 0 < n) (sym r.same_number) r.numbered.1)
      (holds_none space.table.shared.table_id space.table.shared.key pass.number pass.kept.rows
      pass.seat r) r.quiet r.known
      r.tallied same number kept tally refl refl refl (ap left_over r.quiet) (sym r.same_number) is

  -- So may one that pinned anew.
  pub may_anew : {before marked : _} (key : List ℕ) (told moment : ℕ)
      → MayBegin space key before marked pass
      → IsSame pass.seat new.seat → new.number ≡ pass.number → new.kept ≡ pass.kept
      → new.tally ≡ pass.tally → new.seat.me ≡ announced told moment (left pass.seat.me)
      → MayBegin space key None false new
  may_anew key told moment may same number kept tally is =
      may_pinned key (announced told moment (left pass.seat.me)).0.pin [] []
      (announced told moment (left pass.seat.me)).0.upper.ranges may.ready.own
      may.ready.numbered may.ready.number may.ready.none may.idle.quiet may.known may.tallied same
      number kept
      tally refl refl refl (ap left_over (ap left_over may.idle.quiet)) may.idle.number is

  -- What it knows is what it knew, but for the pin.
  pub goes_anew : {before marked : _} (key : List ℕ) (told moment : ℕ)
      → MayBegin space key before marked pass
      → IsSame pass.seat new.seat → new.number ≡ pass.number → new.kept ≡ pass.kept
      → new.seat.me ≡ announced told moment (left pass.seat.me) → GoesOn pass new
  goes_anew key told moment may same number kept is = let pin =
      (announced told moment (left pass.seat.me)).0.pin in
      let seen = pass.seat.me.0.upper.seen in
      let ranges = (announced told moment (left pass.seat.me)).0.upper.ranges in record {
        same = same;
        number = number;
        kept = kept;
        sizes = ap (λ (x : MyTree). x.0.sizes) is;
        pin_number = ap (λ (x : MyTree). x.0.pin.number) is;
        quiet = moved_quiet pass.seat.me new.seat.me pin seen [] [] ranges is;
        seen = ap (λ (x : MyTree). x.0.upper.seen) is;
        loads = ap (λ (x : MyTree). x.0.upper.loads) is;
        further = moved_further pass.seat.me new.seat.me pin seen [] [] ranges is;
        since = subst
            (λ (x : MyTree). IsFurther (at_pin pass.seat.me.0.upper) (at_pin x.0.upper)) (sym is)
            record { number = refl; seen = may.asking.before; log = refl; counts = refl };
        pinned = λ m x. pinned_both m pass.seat.me new.seat.me x
            (pinned_once pass.seat.me new.seat.me
            (ap (λ (y : MyTree). y.0.pin.lags) is) (ap (λ (y : MyTree). y.0.pin.looks) is)
            (ap (λ (y : MyTree). y.0.pin.entered.lags) is)
            (ap (λ (y : MyTree). y.0.pin.begun_at) is) (ap (λ (y : MyTree). y.0.pin.begun) is));
        paced = inr (paced_anew told moment pass.seat.me new.seat.me is);
      }

-- Nothing happened.
pub goes_still : {R : Type 0} (pass : Pass R TreeView) → IsSame pass.seat pass.seat
    → GoesOn pass pass
goes_still pass same = let u = pass.seat.me.0.upper in record {
  same = same;
  number = refl;
  kept = refl;
  sizes = refl;
  pin_number = refl;
  quiet = record {
    lost = refl;
    met = none_met pass.seat.me;
    most = refl;
    splits_are = refl;
    same_turns = refl;
    idle = (refl, refl, refl);
    same_inventory = refl;
    same_cuts = refl;
  };
  seen = refl;
  loads = refl;
  further = no_further u;
  since = no_further (at_pin u);
  pinned = λ m x. x;
  paced = inl refl;
}

-- What was seen as the pass pinned is what had been seen before.
pub first_since : (k m : MyTree) (pin : Pin) (notes : List Note) (ways : List Way)
    (ranges : KnownRanges)
    → m ≡ moved k pin k.0.upper.seen notes ways ranges → IsFurther k.0.upper (at_pin m.0.upper)
first_since k m pin notes ways ranges is = subst
    (λ (x : MyTree). IsFurther k.0.upper (at_pin x.0.upper)) (sym is)
    record { number = refl; seen = starts_whole k.0.upper.seen; log = refl; counts = refl }
