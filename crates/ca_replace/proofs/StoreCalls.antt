-- A call of a store that has no run open: what holds as it begins, and what it comes to as a store's contracts say it.
use Rattle.std.proofs.Common.{◌≡◌, ℕ, refl, sym, ap, subst, ◌∙◌}
use Rattle.std.specs.Prelude.{List, None, vec_len}
use Rattle.arrayvec.specs.ArrayVec.{ArrayVec}
use Rattle.ca_model.specs.declared.outcome.Outcome.{Outcome}
use Rattle.ca_model.specs.declared.outcome.Outcome.TheVariants as outcome
use Rattle.ca_model.specs.Answer.{IfDone, IfRefused}
use Rattle.ca_model.specs.Event.{Event}
use Rattle.ca_model.specs.Known.{Declines, Known}
use Rattle.ca_base.specs.Progress.{IsRefused}
use Rattle.ca_node.specs.declared.rule.TreeRule.{TreeRule}
use Rattle.ca_node.specs.Told.{IsKnown}
use Rattle.ca_node.specs.States.{IsAlone}
use Rattle.ca_node.specs.TreeView.{Note, Renewal, Tries, TreeView}
use Rattle.ca_replace.specs.declared.adapting.Last.{Last}
use Rattle.ca_replace.specs.declared.store.TreeStore.TheInside.{Inside}
use Rattle.ca_replace.specs.declared.tree.Tree.{Tree}
use Rattle.ca_replace.specs.Acts.{acts_of}
use Rattle.ca_replace.specs.Attempting.{HasDoneSuch}
use Rattle.ca_replace.specs.Bounded.{IsBounded}
use Rattle.ca_replace.specs.Causes.{IsSparing}
use Rattle.ca_replace.specs.Loading.{LoadsInRead}
use Rattle.ca_replace.specs.LoneReads.{ReadsAloneTo}
use Rattle.ca_replace.specs.Ranging.{HasDoneOnce, HasRangeCause}
use Rattle.ca_replace.specs.Resting.{IsBetween, Rests, StoreAndRun, StoreView, known_of, knows, run_left}
use Rattle.ca_replace.specs.Seen.{HasReadBy, store_of}
use Rattle.ca_replace.specs.StoreView.{IsStore, view_of}
use Rattle.ca_replace.specs.TreePromises.{HasRead, WasInBudget}
use Rattle.ca_replace.proofs.Alone.{alone_at, first_number, lone_read}
use Rattle.ca_replace.proofs.LoneReads.{read_never_busy}
use Rattle.ca_replace.proofs.OpenStores.{between_rests, closed_still, knows_closed, of_both, rests_of}
use Rattle.ca_replace.proofs.Telling.{if_still, if_then}
use Rattle.ca_replace.proofs.Turns.{if_declined}
use Rattle.ca_rows.specs.declared.space.Pass.{Pass}

module _ (inside : Inside) {old : StoreAndRun} (is : view_of inside ≡ old)
    (closed : (knows old).run ≡ None) where
  pub none_open : run_left inside.pass.seat.me.0.upper inside.run ≡ None
  none_open = subst (λ (s : StoreAndRun). (knows s).run ≡ None) (sym is) closed

  abbrev known_by : TreeView → Known
  known_by u = known_of inside.tree.now.space.table.shared.table_id
      inside.tree.now.space.table.shared.key u

  -- This is what the pass knows.
  pub knows_first : knows old ≡ known_by inside.pass.seat.me.0.upper
  knows_first = ap knows (sym is) ∙ knows_closed (store_of inside.tree.now inside.pass inside.last)
      inside.pass.seat.me.0.upper inside.run none_open

  -- It rests.
  pub rests_first : IsStore inside → Rests (store_of inside.tree.now inside.pass inside.last)
  rests_first between = rests_of (store_of inside.tree.now inside.pass inside.last) inside.run
      between none_open

  module _ {R : Type 0} (new : Pass R TreeView) (now : Last) where
    -- Behind the call none is open, either.
    pub rests_then : Rests (store_of inside.tree.now new now)
        → IsBetween (store_of inside.tree.now new now) inside.run
    rests_then rests = between_rests (store_of inside.tree.now new now)
        inside.pass.seat.me.0.upper inside.run none_open rests

    pub closed_then : run_left new.seat.me.0.upper inside.run ≡ None
    closed_then = closed_still inside.pass.seat.me.0.upper new.seat.me.0.upper inside.run none_open

    -- What holds of what the pass knew and knows holds of the store before it and behind it.
    pub of_stores : (P : Known → Known → Type 0)
        → P (known_by inside.pass.seat.me.0.upper) (known_by new.seat.me.0.upper)
        → P (knows old) (knows (record {
          store = store_of inside.tree.now new now;
          run = inside.run;
        }))
    of_stores P = of_both P _ _ _ _ knows_first
        (knows_closed (store_of inside.tree.now new now) inside.pass.seat.me.0.upper inside.run
        none_open)

    -- The call was done, and answered so.
    pub store_done : {T : Type 0} (o : Outcome T) (P : T → Event → Type 0)
        (Q : Known → Known → T → Type 0)
        → ((x : T) → HasDoneSuch (P x) inside.pass.seat.me.0.upper new.seat.me.0.upper
        → Q (known_by inside.pass.seat.me.0.upper) (known_by new.seat.me.0.upper) x)
        → IfDone o (λ x. HasDoneSuch (P x) inside.pass.seat.me.0.upper new.seat.me.0.upper)
        → IfDone o (λ x. Q (knows old) (knows (record {
          store = store_of inside.tree.now new now;
          run = inside.run;
        })) x)
    store_done {T} o P Q so done = of_stores (λ (k l : Known). IfDone o (λ x. Q k l x))
        (if_then (λ (x : T). HasDoneSuch (P x) inside.pass.seat.me.0.upper new.seat.me.0.upper)
        (λ (x : T). Q (known_by inside.pass.seat.me.0.upper) (known_by new.seat.me.0.upper) x) o so
        done)

    -- So it is where the object that it left is handed out.
    pub store_left : {T : Type 0} (o : Outcome T) (left out : ArrayVec ℕ)
        → IfDone o (λ _. out ≡ left)
        → (P : T → Event → Type 0) (Q : Known → Known → T → List ℕ → Type 0)
        → ((x : T) → HasDoneSuch (P x) inside.pass.seat.me.0.upper new.seat.me.0.upper
        → Q (known_by inside.pass.seat.me.0.upper) (known_by new.seat.me.0.upper) x left.items)
        → IfDone o (λ x. HasDoneSuch (P x) inside.pass.seat.me.0.upper new.seat.me.0.upper)
        → IfDone o (λ x. Q (knows old) (knows (record {
          store = store_of inside.tree.now new now;
          run = inside.run;
        })) x out.items)
    store_left {T} o left out same P Q so done = if_still (λ (x : T) (code : ArrayVec ℕ).
        Q (knows old) (knows (record {
          store = store_of inside.tree.now new now;
          run = inside.run;
        })) x code.items) o left out same
        (store_done o P (λ (k l : Known) (x : T). Q k l x left.items) so done)

    -- It was refused, and that is counted.
    pub store_declined : {T : Type 0} (o : Outcome T) → IsStore inside
        → IsKnown inside.tree.now.space.table.shared.key new.seat.me.0.upper
        → IfRefused o (λ rise. IsRefused rise inside.pass.seat.me.0.upper new.seat.me.0.upper)
        → IfRefused o (λ rise. Declines (knows old) (knows (record {
          store = store_of inside.tree.now new now;
          run = inside.run;
        })) (rise (knows old).counts))
    store_declined o between known refused =
        of_stores (λ (k l : Known). IfRefused o (λ rise. Declines k l (rise k.counts)))
        (if_declined inside.tree.now.space.table.shared.table_id
        inside.tree.now.space.table.shared.key o inside.pass.seat.me.0.upper
        new.seat.me.0.upper (rests_first between).known known refused)

-- A call was done, by what the pass knew as it came to its answer.
pub done_once : {R T : Type 0} (P : T → Event → Type 0) (pass new : Pass R TreeView) (o : Outcome T)
    → IfDone o (λ x. HasDoneOnce (λ _. P x) pass new)
    → IfDone o (λ x. HasDoneSuch (P x) pass.seat.me.0.upper new.seat.me.0.upper)
done_once P pass new (outcome.Done x) h = h.1
done_once P pass new (outcome.Busy s) h = tt
done_once P pass new (outcome.Full s) h = tt
done_once P pass new (outcome.Deep s) h = tt
done_once P pass new (outcome.Worn s) h = tt

-- A call that reads what is within edges.
module _ (tree : Tree) {R : Type 0} (pass new : Pass R TreeView) (last : Last) (Needs : Note → Type
    0)
    (budget : ℕ) {T : Type 0} (o : Outcome T) where
  abbrev first : StoreView
  first = store_of tree pass last

  abbrev then : StoreView
  then = store_of tree new last

  pub has_read : Rests first → new.number ≡ pass.number
      → acts_of new.seat.me.0.upper ≡ acts_of pass.seat.me.0.upper
      → HasRangeCause Needs budget first then o
      → (IsAlone first.z pass.seat.me.0.upper
      → ReadsAloneTo first.z o pass.seat.me new.seat.me)
      → IsBounded (vec_len pass.kept.rows) pass.seat.me new.seat.me
      → LoadsInRead first.z pass.seat.me new.seat.me
      → HasRead Needs budget first then o
  has_read resting number acts caused alone bounded loads = let z = tree.space.table.shared.key in
      let table = tree.space.table.shared.table_id in
      let reads = λ (one : z.passes ≡ 1).
      alone (alone_at table z pass.number pass.tally pass.kept.rows pass.seat resting one) in record {
        unchanged = record {
          same = record { table = refl; sizes = refl; tuning = refl; number = number };
          last = refl;
          untried = ap (λ (acts : Tries × ℕ × Renewal). acts.0) acts;
          unsplit = ap (λ (acts : Tries × ℕ × Renewal). acts.1) acts;
          unrenewed = ap (λ (acts : Tries × ℕ × Renewal). acts.2) acts;
        };
        caused = caused;
        alone = λ one. lone_read Needs z pass.number budget o pass.seat.me new.seat.me
            pass.kept.rows new.kept.rows one
            (first_number table z pass.number pass.tally pass.kept.rows pass.seat resting one) caused;
        crowded = λ one. (reads one).1;
        unlost = λ one. (reads one).0.unlost;
        unhelped = λ one. (reads one).0.unhelped;
        still = λ one. (reads one).0.still;
        never_busy = λ one most. read_never_busy Needs z pass.number budget o pass.seat.me
            new.seat.me pass.kept.rows new.kept.rows (reads one).0 most caused;
        bounded = bounded;
        loads = loads;
      }

-- So the store's contract says it of a call that leaves the pass at rest.
pub read_promised : (inside : Inside) (new : Pass TreeRule TreeView) (Needs : Note → Type 0)
    (budget : ℕ) {T : Type 0} (o : Outcome T) {old : StoreAndRun} → view_of inside ≡ old
    → HasReadBy Needs budget inside.tree.now inside.pass new inside.last o
    → HasRead Needs budget old.store (store_of inside.tree.now new inside.last) o
    × IsSparing old.store (store_of inside.tree.now new inside.last)
    × WasInBudget budget old.store (store_of inside.tree.now new inside.last) o
read_promised inside new Needs budget o is told = let then = store_of inside.tree.now new
    inside.last in
    subst (λ (s : StoreAndRun). HasRead Needs budget s.store then o × IsSparing s.store then
    × WasInBudget budget s.store then o) is told
