-- What the word of a range tells a pass that found none of another pass unfinished.
use Rattle.std.proofs.Common.{◌≡◌, ◌≢◌, ◌⊎◌, ⊎_elim, ℕ, ◌+◌, ◌/◌, ◌%◌, ◌<◌, ◌≤◌, Bool, true, false, cond, eqb, eq-eqb, ne_eqb, List, Some, [], ◌∷◌, refl, ap, ◌∙◌, subst, sym, inl, inr, arith}
use mathlib.Core.Logic.{dite}
use native.Mathlib.Decide.{ℕ_discrete}
use Rattle.ca_base.proofs.Counts.{met_both}
use Rattle.ca_base.specs.Counting.{losses, HasMet}
use Rattle.ca_base.specs.Putting.{first_note}
use Rattle.ca_model.specs.declared.outcome.Spent.{Spent}
use Rattle.ca_node.specs.Layout.{sequence_unit}
use Rattle.ca_node.specs.Links.{IsIn}
use Rattle.ca_node.specs.Row.{mark as mark_kind, IsMarkedBy}
use Rattle.ca_node.specs.States.{IsAlone}
use Rattle.ca_node.specs.Told.{MyTree, with_upper, IsKnown, IsSettled, IsUnjoined, HasWatched, finished_by, turned_by, unfinished_by, watched, active_of}
use Rattle.ca_node.specs.TreeView.{Note, KnownRanges, Quiet, Turns, TreeView, Unfinished}
use Rattle.ca_rows.specs.Layout.{row_limit}
use Rattle.ca_rows.specs.Passes.{KeepsList, OnlyReads}
use Rattle.ca_rows.specs.declared.sizes.Sizes.{Sizes}
use Rattle.ca_rows.specs.declared.space.Pass.{Pass}
use Rattle.ca_range.specs.Clearing.{CountsHelp, HasGone, LearnsOfRanges, none_spent}
use Rattle.ca_range.specs.Filling.{IsHelpedTo, IsOneOver}
use Rattle.ca_base.specs.Spending.{IsSpentOn}
use Rattle.ca_range.specs.Staying.{HasJoined, OnlySteps}
use Rattle.ca_range.specs.declared.account.Range.{Range}
use Rattle.ca_range.specs.declared.helped.Helped.{Helped}
use Rattle.ca_range.specs.declared.helped.Helped.TheVariants as helped
use Rattle.ca_range.proofs.Stepping.{steps_by_word}
use Rattle.ca_range.proofs.Watched.{is_active, over_now}

-- None is counted as helped.
as_many : (b : Bool) (t : Turns) (k : ℕ) → k ≡ 0 → cond b t (record t { helped = t.helped + k }) ≡ t
as_many true t k none = refl
as_many false t k none = let same : t.helped + k ≡ t.helped = omega arith in ap (λ (n : ℕ). record t { helped = n }) same

none_turned : (pass word : ℕ) (u : TreeView) → u.ranges.unfinished ≡ [] → turned_by pass word u ≡ u.turns
none_turned pass word u none = as_many (eqb pass u.number) u.turns (finished_by pass word u.ranges.unfinished) (ap (finished_by pass word) none)

pub learns : (pass word : ℕ) (m m' : MyTree) → HasWatched pass m word m' → m.0.upper.ranges.unfinished ≡ [] → LearnsOfRanges true m m'
learns pass word m m' h none = let u = m.0.upper in let ranges : KnownRanges = (watched u pass word h.borders).ranges in (
  ranges,
  (λ e. let no : true ≡ false = e in cc),
  refl,
  h.now ∙ ap (λ (t : Turns). with_upper m (record u { ranges = ranges; turns = t })) (none_turned pass word u none),
)

-- A pass that is alone finds no range of another pass active: there is none.
pub learns_alone : (z : Sizes) (pass word : ℕ) (m m' : MyTree) → 0 < pass → m.0.sizes ≡ z → IsAlone z m.0.upper → IsKnown z m.0.upper
    → HasWatched pass m word m' → m.0.upper.ranges.unfinished ≡ [] → m'.0.upper.ranges.unfinished ≡ []
learns_alone z pass word m m' some own alone known h none = ap (λ (x : MyTree). x.0.upper.ranges.unfinished) h.now ∙ dite (ℕ_discrete pass m.0.upper.number)
    (λ (mine : pass ≡ m.0.upper.number). ap (λ (b : Bool). cond b m.0.upper.ranges.unfinished (unfinished_by pass word m.0.upper.ranges.unfinished))
    (eq-eqb pass m.0.upper.number mine) ∙ none)
    (λ (other : pass ≢ m.0.upper.number). ap (λ (b : Bool). cond b m.0.upper.ranges.unfinished (unfinished_by pass word m.0.upper.ranges.unfinished))
    (ne_eqb pass m.0.upper.number other) ∙ (ap (unfinished_by pass word) none ∙ ap (λ (b : Bool). cond b (active ∷ []) [])
    (ne_eqb (word % sequence_unit) row_limit (λ on. let most = subst (λ (x : Sizes). pass ≤ x.passes) own (h.made on) in
    let mine = known.enrolled in let low = alone.1 in let one = alone.0 in other (omega arith)))))
  where
    active : Unfinished
    active = record { pass = pass; number = word / sequence_unit }

-- It raised what is known of the tree alone.
pub raised_by_word : (pass word : ℕ) (m m' : MyTree) → HasWatched pass m word m' → m' ≡ with_upper m m'.0.upper
raised_by_word pass word m m' h = h.now ∙ ap (λ (x : MyTree). with_upper m x.0.upper) (sym h.now)

-- A base that a range marked no join has.
pub ranged_unjoined : (u : TreeView) (its : List ℕ) → mark_kind its ≡ 1 → IsUnjoined u its
ranged_unjoined u its one = inl (λ two. let no : 1 ≡ 2 = sym one ∙ two in absurd (omega (arith, no)))

-- A base that was marked by a range which isn't the one that is active is one that no range has.
pub settled_now : (range : Range) (m m' : MyTree) (word : ℕ) (note : Note) → HasWatched range.owner m word m' → IsIn note m.0.upper.notes
    → IsMarkedBy note.its range.owner range.number → ¬ (active_of word ≡ Some range.number) → IsSettled m'.0.upper note.its
settled_now range m m' word note h noted mark off = let over = over_now range m m' word note h noted mark off in
    (inr (over.0, over.1, mark.1 ∙ sym over.2, subst (λ (n : ℕ). n < over.0.below) (sym mark.2) over.3), ranged_unjoined m'.0.upper note.its mark.0)

-- Loads, and a step that keeps the rows.
pub reads_keep : {R : Type 0} {pass mid new : Pass R TreeView} → OnlyReads pass mid → KeepsList mid new → KeepsList pass new
reads_keep r k = record {
  same = (k.same.0 ∙ r.same.0, k.same.1 ∙ r.same.1);
  number = k.number ∙ r.number;
  tally = k.tally ∙ r.tally;
  kept = k.kept ∙ r.kept;
}

-- The word of a range was loaded behind loads of words that were shown.
module _ {R : Type 0} (z : Sizes) (pass mid new : Pass R TreeView) (owner word : ℕ) (reads : OnlyReads pass mid) (keep : KeepsList mid new)
    (h : HasWatched owner mid.seat.me word new.seat.me) where
  pub keeps_then : KeepsList pass new
  keeps_then = reads_keep reads keep

  pub raised_then : new.seat.me ≡ with_upper pass.seat.me new.seat.me.0.upper
  raised_then = subst (λ (x : MyTree). new.seat.me ≡ with_upper x new.seat.me.0.upper) reads.still (raised_by_word owner word mid.seat.me new.seat.me h)

  pub steps_then : OnlySteps z 0 pass.seat.me.0.upper new.seat.me.0.upper
  steps_then = subst (λ (x : MyTree). OnlySteps z 0 x.0.upper new.seat.me.0.upper) reads.still (steps_by_word owner word mid.seat.me new.seat.me h)

  pub no_join_then : new.seat.me.0.upper.joins ≡ pass.seat.me.0.upper.joins
  no_join_then = ap (λ (x : MyTree). x.0.upper.joins) h.now ∙ ap (λ (x : MyTree). x.0.upper.joins) reads.still

  pub notes_then : first_note new.seat.me.0.upper.notes ≡ first_note pass.seat.me.0.upper.notes
  notes_then = ap (λ (x : MyTree). first_note x.0.upper.notes) h.now ∙ ap (λ (x : MyTree). first_note x.0.upper.notes) reads.still

  pub noted_then : (note : Note) → IsIn note pass.seat.me.0.upper.notes → IsIn note mid.seat.me.0.upper.notes
  noted_then note i = subst (λ (x : MyTree). IsIn note x.0.upper.notes) (sym reads.still) i

  -- The own range isn't the one that is active.
  pub other_then : (number : ℕ) → active_of word ≡ Some number → pass.seat.me.0.upper.ranges.own ≡ Quiet → owner ≢ mid.seat.me.0.upper.number
  other_then number on quiet own = h.own (is_active word number on).0 own (ap (λ (x : MyTree). x.0.upper.ranges.own) reads.still ∙ quiet)

-- A help that began with a range which was found unfinished, and with a budget, spent a turn, or found no row.
module _ (z : Sizes) (range : Range) (budget : ℕ) (spent : Spent) (m m' n : MyTree) (some : 1 ≤ budget) (first : HasMet 0 0 m m')
    (met : IsIn {A = Unfinished} (record { pass = range.owner; number = range.number }) m'.0.upper.ranges.unfinished)
    (lost : losses m ≤ losses m') (helps : m.0.upper.turns.helped ≤ m'.0.upper.turns.helped) (all : IsSpentOn none_spent spent m n) where
  one_helped : IsOneOver range m'.0.upper n.0.upper ⊎ HasJoined m'.0.upper n.0.upper → m'.0.upper.turns.helped < n.0.upper.turns.helped
  one_helped h = ⊎_elim (λ (o : IsOneOver range m'.0.upper n.0.upper). o.counted met) (λ (j : HasJoined m'.0.upper n.0.upper). j.1) h

  pub has_gone : (helped : Helped) → IsHelpedTo z range budget spent helped m' n → HasGone helped m n
  has_gone helped.Finished h = let more = one_helped h.0 in let up = all.lost.more in let on = all.passed.more in
      (met_both 0 0 0 0 m m' n first h.1, omega arith)
  has_gone (helped.Lost exchange) h = let more = h.0 in let up = all.helped.more in let on = all.passed.more in
      (met_both 0 0 0 0 m m' n first h.1, omega arith)
  has_gone (helped.Busy told) h = let enough = h.1 in let a = all.lost.more in let b = all.helped.more in let c = all.passed.more in
      let x = all.lost.now_is (omega arith) in let y = all.helped.now_is (omega arith) in let w = all.passed.now_is (omega arith) in
      (met_both 0 0 0 0 m m' n first h.2, omega arith)
  has_gone helped.NoRow h = met_both 0 0 1 0 m m' n first h
  has_gone (helped.Worn which) h = met_both 0 0 0 1 m m' n first h.0

  pub counts_help : (helped : Helped) → IsHelpedTo z range budget spent helped m' n → CountsHelp helped m n
  counts_help helped.Finished h = let more = one_helped h.0 in omega arith
  counts_help (helped.Lost exchange) h = let more = h.0 in omega arith
  counts_help (helped.Busy told) h = tt
  counts_help helped.NoRow h = tt
  counts_help (helped.Worn which) h = h.1
