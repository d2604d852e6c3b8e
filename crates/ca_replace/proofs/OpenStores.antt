-- Stores between two calls, where no run is open and where one is.
use Rattle.std.proofs.Common.{◌≡◌, ◌≤◌, ℕ, refl, sym, ap, subst, ◌∙◌}
use Rattle.std.specs.Global.{Global}
use Rattle.std.specs.Prelude.{Option, Some, None, Vec}
use Rattle.atomic_table.specs.Seated.{TableId}
use Rattle.ca_base.specs.Taking.{HoldsFew}
use Rattle.ca_node.specs.Tallied.{IsTallied}
use Rattle.ca_node.specs.Told.{MyTree, IsKnown}
use Rattle.ca_node.specs.TreeView.{TreeView}
use Rattle.ca_replace.specs.declared.opened.OpenRun.{OpenRun}
use Rattle.ca_replace.specs.Resting.{IsAtRun, IsBetween, IsResting, Rests, StoreView, known_of, knows, run_left}
use Rattle.ca_replace.specs.Running.{IsOpenRun}
use Rattle.ca_replace.specs.declared.adapting.Last.{Last}
use Rattle.ca_adapt.specs.declared.tuning.Tuning.{Tuning}
use Rattle.ca_replace.proofs.Turns.{MySeat}
use Rattle.ca_rows.specs.declared.kept.Kept.{Kept}
use Rattle.ca_rows.specs.declared.sizes.Sizes.{Sizes}
use Rattle.ca_rows.specs.declared.tally.Tally.{Tally}
use Rattle.ca_rows.specs.Claims.{claim_of}
use Rattle.ca_rows.specs.Kept.{AreKept}

-- Where nothing tells of a run the pass rests,
pub rests_of : (s : StoreView) (run : Option OpenRun) → IsBetween s run
    → run_left s.seat.me.0.upper run ≡ None → Rests s
rests_of s None between closed = between
rests_of s (Some run) between closed = cc

pub between_rests : (s : StoreView) (u : TreeView) (run : Option OpenRun) → run_left u run ≡ None
    → Rests s → IsBetween s run
between_rests s u None closed rests = rests
between_rests s u (Some run) closed rests = cc

-- and nothing tells of one later,
pub closed_still : (u v : TreeView) (run : Option OpenRun) → run_left u run ≡ None
    → run_left v run ≡ None
closed_still u v None closed = refl
closed_still u v (Some run) closed = cc

-- and this is what it knows.
pub knows_closed : (s : StoreView) (u : TreeView) (run : Option OpenRun) → run_left u run ≡ None
    → knows (record { store = s; run = run }) ≡ known_of s.table s.z s.seat.me.0.upper
knows_closed s u None closed = refl
knows_closed s u (Some run) closed = cc

-- What holds of two things holds of those that they are.
pub of_both : {A : Type 0} (P : A → A → Type 0) (a b c d : A) → a ≡ c → b ≡ d → P c d → P a b
of_both {A = A} P a b c d e f x = subst (λ (y : A). P y b) (sym e)
    (subst (λ (y : A). P c y) (sym f) x)

-- A pass that only read stays as it is between two calls.
rests_read : (table : TableId) (z : Sizes) (number number' : ℕ) (tally tally' : Tally)
    (kept kept' : Vec Kept Global) (seat seat' : MySeat)
    → number' ≡ number → tally' ≡ tally → kept' ≡ kept → seat'.table_id ≡ seat.table_id
    → seat'.me ≡ seat.me
    → IsResting table z number tally kept seat → IsResting table z number' tally' kept' seat'
rests_read table z number number' tally tally' kept kept' seat seat' numbers tallies same on is r =
    rw (numbers, tallies, same) record {
      of = (on ∙ r.of.0, ap (λ (m : MyTree). m.0.sizes) is ∙ r.of.1);
      numbered = (
        ap (λ (m : MyTree). m.0.pin.number) is ∙ r.numbered.0,
        r.numbered.1,
        r.numbered.2,
      );
      same_number = ap (λ (m : MyTree). m.0.upper.number) is ∙ r.same_number;
      is_unpinned = ap (λ (m : MyTree). m.0.pin.pinned) is ∙ r.is_unpinned;
      only_keeps = λ row c e. r.only_keeps row c
          (sym (ap (λ (m : MyTree). claim_of m.0.claims row) is)
          ∙ e);
      are_kept = subst (λ (m : MyTree). AreKept z.rows m.0.claims kept) (sym is) r.are_kept;
      few = subst (λ (m : MyTree). HoldsFew 0 m.0) (sym is) r.few;
      known = subst (λ (m : MyTree). IsKnown z m.0.upper) (sym is) r.known;
      left_before = subst (λ (m : MyTree). m.0.pin.left.lost ≤ m.0.lost) (sym is) r.left_before;
      unlost = λ one. ap (λ (m : MyTree). m.0.lost) is ∙ r.unlost one;
      quiet = ap (λ (m : MyTree). m.0.upper.ranges.own) is ∙ r.quiet;
      tallied = subst (λ (m : MyTree). IsTallied tally m.0.upper) (sym is) r.tallied;
    }

run_read : (table : TableId) (z : Sizes) (number number' : ℕ) (tally tally' : Tally)
    (kept kept' : Vec Kept Global) (seat seat' : MySeat)
    (run run' : OpenRun) → number' ≡ number → tally' ≡ tally → kept' ≡ kept
    → seat'.table_id ≡ seat.table_id → seat'.me ≡ seat.me
    → IsAtRun table z number tally kept seat run → IsOpenRun z seat.me.0.upper run'
    → IsAtRun table z number' tally' kept' seat' run'
run_read table z number number' tally tally' kept kept' seat seat' run run' numbers tallies same on
    is r o = rw (numbers, tallies, same) record {
      of = (on ∙ r.of.0, ap (λ (m : MyTree). m.0.sizes) is ∙ r.of.1);
      numbered = (
        ap (λ (m : MyTree). m.0.pin.number) is ∙ r.numbered.0,
        r.numbered.1,
        r.numbered.2,
      );
      same_number = ap (λ (m : MyTree). m.0.upper.number) is ∙ r.same_number;
      is_pinned = ap (λ (m : MyTree). m.0.pin.pinned) is ∙ r.is_pinned;
      only_keeps = λ row c e. r.only_keeps row c
          (sym (ap (λ (m : MyTree). claim_of m.0.claims row) is)
          ∙ e);
      are_kept = subst (λ (m : MyTree). AreKept z.rows m.0.claims kept) (sym is) r.are_kept;
      few = subst (λ (m : MyTree). HoldsFew 0 m.0) (sym is) r.few;
      known = subst (λ (m : MyTree). IsKnown z m.0.upper) (sym is) r.known;
      unlagged = subst (λ (m : MyTree). m.0.pin.entered.lags ≡ m.0.pin.lags) (sym is) r.unlagged;
      quiet = ap (λ (m : MyTree). m.0.upper.ranges.own) is ∙ r.quiet;
      tallied = subst (λ (m : MyTree). IsTallied tally m.0.upper) (sym is) r.tallied;
      opened = subst (λ (m : MyTree). IsOpenRun z m.0.upper run') (sym is) o;
    }

pub between_read : (table : TableId) (z : Sizes) (tuning : Tuning) (last : Last)
    (number number' : ℕ) (tally tally' : Tally) (kept kept' : Vec Kept Global)
    (seat seat' : MySeat) (run : Option OpenRun) → number' ≡ number → tally' ≡ tally → kept' ≡ kept
    → seat'.table_id ≡ seat.table_id → seat'.me ≡ seat.me
    → IsBetween (record {
      table = table;
      z = z;
      tuning = tuning;
      number = number;
      tally =
          tally;
      kept = kept;
      seat = seat;
      last = last;
    }) run
    → IsBetween (record {
      table = table;
      z = z;
      tuning = tuning;
      number = number';
      tally =
          tally';
      kept = kept';
      seat = seat';
      last = last;
    }) run
between_read table z tuning last number number' tally tally' kept kept' seat seat' None numbers
    tallies same on is between =
    rests_read table z number number' tally tally' kept kept' seat seat' numbers tallies same on is
    between
between_read table z tuning last number number' tally tally' kept kept' seat seat' (Some run)
    numbers tallies same on is between =
    run_read table z number number' tally tally' kept kept' seat seat' run run numbers tallies same
    on is between between.opened
