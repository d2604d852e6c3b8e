-- What an edit comes to by an attempt to join that marked its base.
use Rattle.std.proofs.Common.{◌≡◌, ◌≢◌, ℕ, Bool, true, false, [], refl, ap, sym, subst, inl, inr, arith}
use Rattle.ca_base.specs.Counting.{losses}
use Rattle.ca_base.specs.Putting.{first_note}
use Rattle.ca_base.specs.Readiness.{IsReady}
use Rattle.ca_model.specs.declared.outcome.Spent.{Spent}
use Rattle.ca_node.specs.declared.cursor.Cursor.{Cursor}
use Rattle.ca_node.specs.Row.{mark}
use Rattle.ca_node.specs.Told.{MyTree, IsKnown, IsSettled}
use Rattle.ca_node.specs.TreeView.{Note, Turns, TreeView}
use Rattle.ca_rows.specs.Passes.{OnlyReads}
use Rattle.ca_rows.specs.declared.space.Pass.{Pass}
use Rattle.ca_rows.specs.declared.space.Space.{Space}
use Rattle.ca_range.specs.Ahead.{IsAtLast}
use Rattle.ca_range.specs.Attempts.{HasFinishedJoin, HasFreed, joined_more}
use Rattle.ca_range.specs.Clearing.{HasGone, IsCleared, IsOfBase, LearnsOfRanges, none_spent}
use Rattle.ca_range.specs.Filling.{links_lost}
use Rattle.ca_base.specs.Spending.{IsSpentOn}
use Rattle.ca_range.specs.Staying.{OnlySteps}
use Rattle.ca_range.specs.declared.clearing.Way.{Way}
use Rattle.ca_range.specs.declared.clearing.Way.TheVariants as way
use Rattle.ca_range.specs.declared.helped.Helped.{Helped}
use Rattle.ca_range.specs.declared.helped.Helped.TheVariants as helped
use Rattle.ca_range.proofs.Filled.{last_shown}
use Rattle.ca_range.proofs.JoinsEnded.{joined_none, joined_raised, joined_steps}
use Rattle.ca_range.proofs.Learning.{reads_keep}
use Rattle.ca_range.proofs.Readied.{reads_stay, ready_still, stays_then}
use Rattle.ca_range.specs.Loading.{EndsBy}
use Rattle.ca_range.proofs.Loaded.{ends_by}
use Rattle.ca_range.proofs.Ranking.{far_inside}

module _ {R : Type 0} (space : Space R TreeView) (cursor : Cursor) (pass new : Pass R TreeView) where
  -- No join has the base, and no range marked it.
  pub cleared_free : (marked : Bool) → HasFreed space cursor.base false pass new → IsAtLast space.table.shared.key pass.seat.me.0.upper cursor
      → mark (first_note pass.seat.me.0.upper.notes).its ≢ 1 → pass.seat.me.0.upper.ranges.unfinished ≡ [] → IsCleared space (way.Free marked) pass new
  cleared_free marked f at unranged none = let l = f.learnt in let u = pass.seat.me.0.upper in (
    f.frame,
    subst (λ (n : Note). IsSettled new.seat.me.0.upper n.its) (sym (ap (λ (x : MyTree). first_note x.0.upper.notes) l.1))
        (inl unranged, f.unjoined (first_note u.notes) (last_shown space.table.shared.key u cursor at)),
    ((joined_more false l.0 u).ranges, (λ _. none), refl, l.1),
  )

  -- One was given up.
  pub cleared_now : (spent : Spent) → IsReady space pass → IsAtLast space.table.shared.key pass.seat.me.0.upper cursor → HasFreed space cursor.base true pass new
      → IsSpentOn none_spent spent pass.seat.me new.seat.me → IsCleared space (way.Helped helped.Finished spent) pass new
  cleared_now spent ready at f counted = let z = space.table.shared.key in let m = pass.seat.me in let n = new.seat.me in let l = f.learnt in
      let raised = joined_raised true m n l in let steps = joined_steps z true m n l in record {
        frame = stays_then space pass new new f.frame raised (joined_none true m n l) steps record {
          same = (refl, refl);
          number = refl;
          tally = λ t. t;
          pin = (refl, refl);
          own_range = refl;
          none = (ready_still space pass new ready f.frame raised steps).none;
        };
        steps = steps;
        counted = counted;
        gone = let one = ap (λ (x : MyTree). x.0.upper.turns.helped) l.1 in let lost = ap (λ (x : MyTree). losses x) l.1 in
            let passed = ap (λ (x : MyTree). x.0.upper.turns.passed) l.1 in let empty = ap (λ (x : MyTree). x.0.empty) l.1 in
            let worn = ap (λ (x : MyTree). x.0.worn) l.1 in ((omega arith, omega arith), omega arith);
        loads = ends_by z m.0.upper n.0.upper (far_inside z m.0.upper cursor at) (let same = ap (λ (x : MyTree). x.0.upper.loads) l.1 in omega arith);
        several = λ _. f.several refl;
      }

  -- One was carried out.
  pub cleared_gone : (h : Helped) (spent : Spent) → IsAtLast space.table.shared.key pass.seat.me.0.upper cursor → HasFinishedJoin space h pass new → IsSpentOn none_spent spent pass.seat.me new.seat.me
      → IsCleared space (way.Helped h spent) pass new
  cleared_gone h spent at f counted = let z = space.table.shared.key in let u = pass.seat.me.0.upper in record {
    frame = f.frame;
    steps = f.steps;
    counted = counted;
    gone = f.gone;
    loads = ends_by z u new.seat.me.0.upper (far_inside z u cursor at) (let both = f.loads in omega arith);
    several = λ _. f.several;
  }

-- The same behind loads of words that were shown.
pub cleared_behind : {R : Type 0} (space : Space R TreeView) (pass mid new : Pass R TreeView) (w : Way) → OnlyReads pass mid → IsCleared space w mid new
    → IsCleared space w pass new
cleared_behind space pass mid new (way.Free marked) r c =
    (reads_keep r c.0, c.1, subst (λ (x : MyTree). LearnsOfRanges marked x new.seat.me) r.still c.2)
cleared_behind space pass mid new (way.Helped helped spent) r c = record {
  frame = reads_stay space pass mid new r c.frame;
  steps = subst (λ (x : MyTree). OnlySteps space.table.shared.key (links_lost helped) x.0.upper new.seat.me.0.upper) r.still c.steps;
  counted = subst (λ (x : MyTree). IsSpentOn none_spent spent x new.seat.me) r.still c.counted;
  gone = subst (λ (x : MyTree). HasGone helped x new.seat.me) r.still c.gone;
  loads = subst (λ (x : MyTree). EndsBy space.table.shared.key x.0.upper new.seat.me.0.upper) r.still c.loads;
  several = λ known. c.several (subst (λ (x : MyTree). IsKnown space.table.shared.key x.0.upper) (sym r.still) known);
}

-- What was helped had the base: an attempt to join.
module _ {R : Type 0} (space : Space R TreeView) (cursor : Cursor) (budget : ℕ) (pass new : Pass R TreeView) where
  pub way_now : (spent : Spent) → IsAtLast space.table.shared.key pass.seat.me.0.upper cursor → mark (first_note pass.seat.me.0.upper.notes).its ≡ 2
      → HasFreed space cursor.base true pass new → IsOfBase space.table.shared.key budget (way.Helped helped.Finished spent) pass.seat.me new.seat.me
  way_now spent at joins f = let u = pass.seat.me.0.upper in let one = ap (λ (x : MyTree). x.0.upper.turns.helped) f.learnt.1 in
      (inr (joins, inl (f.unjoined (first_note u.notes) (last_shown space.table.shared.key u cursor at))), omega arith)

  pub way_gone : (h : Helped) (spent : Spent) → mark (first_note pass.seat.me.0.upper.notes).its ≡ 2 → HasFinishedJoin space h pass new
      → IsOfBase space.table.shared.key budget (way.Helped h spent) pass.seat.me new.seat.me
  way_gone helped.Finished spent joins f = let join = f.counts.0 in let one = ap (λ (t : Turns). t.helped) f.counts.1 in
      (inr (joins, inr (omega arith, omega arith)), omega arith)
  way_gone (helped.Lost exchange) spent joins f = (inr (joins, tt), f.counts.1)
  way_gone (helped.Busy told) spent joins f = absurd f.counts
  way_gone helped.NoRow spent joins f = (inr (joins, tt), tt)
  way_gone (helped.Worn which) spent joins f = (inr (joins, tt), f.counts.0)

-- The same behind loads of words that were shown.
pub way_behind : {R : Type 0} (space : Space R TreeView) (budget : ℕ) (pass mid new : Pass R TreeView) (w : Way) → OnlyReads pass mid
    → IsOfBase space.table.shared.key budget w mid.seat.me new.seat.me → IsOfBase space.table.shared.key budget w pass.seat.me new.seat.me
way_behind space budget pass mid new w r h = subst (λ (x : MyTree). IsOfBase space.table.shared.key budget w x new.seat.me) r.still h
