-- What a call of a pass's store tells beside its event, if it may edit.
use Rattle.std.specs.Prelude.{◌≡◌, ℕ, ◌≤◌, Bool, List, vec_len}
use Rattle.std.specs.declared.option.Option.{Option}
use Rattle.ca_base.specs.Counting.{losses}
use Rattle.ca_model.specs.declared.outcome.Outcome.{Outcome}
use Rattle.ca_model.specs.Answer.{IfRefused}
use Rattle.ca_replace.specs.Adapting.{IsCauseMetInCall, LeavesInCall}
use Rattle.ca_replace.specs.Alone.{HasLoneCause, IsCrowdedCall, IsNeverBusy}
use Rattle.ca_replace.specs.Bounded.{IsBounded}
use Rattle.ca_replace.specs.Causes.{HasCause, IsSparing}
use Rattle.ca_replace.specs.Cutting.{HasCutInCall}
use Rattle.ca_replace.specs.Growing.{GrowsInCall}
use Rattle.ca_replace.specs.Resting.{StoreView}
use Rattle.ca_replace.specs.Winning.{HasWonInCall}
use Rattle.ca_replace.specs.Loading.{LoadsInCall}

-- It is a store of the same pass, on the same tree.
pub record StaysStore (s t : StoreView) : Type 0 where
  pub table : t.table ≡ s.table
  pub sizes : t.z ≡ s.z
  pub tuning : t.tuning ≡ s.tuning
  pub number : t.number ≡ s.number

-- A call with this budget, which edits by these answers and may add this key, if any.
pub record HasTold {T : Type 0} (edits : T → Bool) (adds : Option (List ℕ)) (budget : ℕ) (s t : StoreView) (o : Outcome T) : Type 0 where
  pub same : StaysStore s t
  -- why it was refused, and how few rows its pass keeps and held
  pub caused : HasCause budget adds s t o
  pub alone : s.z.passes ≡ 1 → HasLoneCause s.z adds s.seat.me.0.upper o
  pub crowded : s.z.passes ≡ 1 → IsCrowdedCall s.z 11 s.seat.me.0.upper o
  pub sparing : IsSparing s t
  -- how often it pinned, and how often it looked at the others
  pub bounded : IsBounded (vec_len s.kept) s.seat.me t.seat.me
  -- how many links it loaded
  pub loads : LoadsInCall edits s.z o s.seat.me t.seat.me
  -- the statistic of its update's new base, and what was due by it: a split that came to nothing has its cause since the update
  pub adapted : LeavesInCall edits s.z s.tuning s.last t.last o s.seat.me.0.upper t.seat.me.0.upper
  pub met_as : IsCauseMetInCall edits t.last o t.seat.me
  -- by how much the tree of a pass that is alone grew, and that it lost no exchange of a link
  pub grows : s.z.passes ≡ 1 → GrowsInCall s.z adds o s.seat.me.0.upper t.seat.me.0.upper
  pub wins : s.z.passes ≡ 1 → HasWonInCall edits o s.seat.me.0.upper t.seat.me.0.upper
  -- that such a pass helped nothing
  pub unhelped : s.z.passes ≡ 1 → t.seat.me.0.upper.turns.helped ≡ s.seat.me.0.upper.turns.helped
  -- that it lost none at all, and is refused for turns by a budget of one alone
  pub unlost : s.z.passes ≡ 1 → losses t.seat.me ≡ losses s.seat.me
  pub never_busy : s.z.passes ≡ 1 → 2 ≤ budget → IsNeverBusy o
  -- that it learnt of nothing by a call that was refused
  pub still : s.z.passes ≡ 1 → IfRefused o (λ _. t.seat.me.0.upper.seen ≡ s.seat.me.0.upper.seen)
  -- which bases it split, and how
  pub cut : HasCutInCall edits s.z adds o s.seat.me.0.upper t.seat.me.0.upper
