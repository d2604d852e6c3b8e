-- What the store on the tree promises of its calls beyond what every store does.
use Rattle.std.specs.Prelude.{◌≡◌, ℕ, ◌+◌, ◌*◌, ◌≤◌, true, vec_len}
use Rattle.std.specs.declared.option.Option.TheVariants.{None, Some}
use Rattle.ca_base.specs.Counting.{losses}
use Rattle.ca_model.specs.declared.outcome.Outcome.{Outcome}
use Rattle.ca_model.specs.Answer.{IfDone, IfRefused}
use Rattle.ca_model.specs.Promises.{Promises}
use Rattle.ca_model.specs.Runs.{IsOpen}
use Rattle.ca_replace.specs.Adapting.{is_put}
use Rattle.ca_replace.specs.Alone.{HasLoneCause, IsCrowdedCall, IsNeverBusy}
use Rattle.ca_replace.specs.Attempting.{helps}
use Rattle.ca_replace.specs.Bounded.{IsBounded, PinsNever, WalksOnce}
use Rattle.ca_replace.specs.Called.{HasTold, StaysStore}
use Rattle.ca_replace.specs.Causes.{IsSparing, IsUnspent, WasUnspent}
use Rattle.ca_replace.specs.Growing.{IsUntouched}
use Rattle.ca_replace.specs.Loading.{LoadsInRead}
use Rattle.ca_replace.specs.LoneReads.{bases_at}
use Rattle.ca_replace.specs.Ranging.{HasRangeCause}
use Rattle.ca_node.specs.TreeView.{Note}
use Rattle.ca_replace.specs.Resting.{StoreAndRun, StoreView, knows}
use Rattle.ca_replace.specs.Within.{EndsTooSoon, NeedsAbove, NeedsBelow}

-- It is a store of the same pass, on the same tree; no update was made, no attempt to join was begun, and no base was split.
pub record MakesNoUpdate (s t : StoreView) : Type 0 where
  pub same : StaysStore s t
  pub last : t.last ≡ s.last
  pub untried : t.seat.me.0.upper.tries ≡ s.seat.me.0.upper.tries
  pub unsplit : t.seat.me.0.upper.splits ≡ s.seat.me.0.upper.splits
  pub unrenewed : t.seat.me.0.upper.renewal ≡ s.seat.me.0.upper.renewal

-- Nothing was changed in the tree, no turn was lost, and no attempt to join was begun. A pass that is alone learnt of nothing.
pub record OnlyLooks (s t : StoreView) : Type 0 where
  pub unchanged : MakesNoUpdate s t
  pub untouched : IsUntouched s.seat.me.0.upper t.seat.me.0.upper
  pub still : s.z.passes ≡ 1 → t.seat.me.0.upper.seen ≡ s.seat.me.0.upper.seen

-- A call with this budget that reads what is within edges, and needs more than such a base.
pub record HasRead {T : Type 0} (Needs : Note → Type 0) (budget : ℕ) (s t : StoreView) (o : Outcome T) : Type 0 where
  pub unchanged : MakesNoUpdate s t
  -- why it was refused
  pub caused : HasRangeCause Needs budget s t o
  pub alone : s.z.passes ≡ 1 → HasLoneCause s.z None s.seat.me.0.upper o
  pub crowded : s.z.passes ≡ 1 → IsCrowdedCall s.z (bases_at s.seat.me + 11) s.seat.me.0.upper o
  -- that such a pass lost and helped nothing, learnt of nothing, and is refused for turns by a budget of few turns for each base alone
  pub unlost : s.z.passes ≡ 1 → losses t.seat.me ≡ losses s.seat.me
  pub unhelped : s.z.passes ≡ 1 → helps t.seat.me ≡ helps s.seat.me
  pub still : s.z.passes ≡ 1 → t.seat.me.0.upper.seen ≡ s.seat.me.0.upper.seen
  pub never_busy : s.z.passes ≡ 1 → 4 * bases_at s.seat.me + 16 ≤ budget → IsNeverBusy o
  -- how often it pinned, and how often it looked at the others
  pub bounded : IsBounded (vec_len s.kept) s.seat.me t.seat.me
  -- how many links it loaded
  pub loads : LoadsInRead s.z s.seat.me t.seat.me

-- Where a call with this budget was done the budget wasn't spent, as its pass unpinned, and of one that opened a run as it came to it.
abbrev pub WasInBudget : {T : Type 0} → ℕ → StoreView → StoreView → Outcome T → Type 0
WasInBudget budget s t o = IfDone o (λ _. WasUnspent budget s.seat.me t.seat.me)

abbrev pub OpensInBudget : {T : Type 0} → ℕ → StoreView → StoreView → Outcome T → Type 0
OpensInBudget budget s t o = IfDone o (λ _. IsUnspent budget s.seat.me t.seat.me)

-- An object of the open run was read: the pass keeps the same rows, and knows what it knew.
pub record HasHandedOn (s t : StoreView) : Type 0 where
  pub unchanged : MakesNoUpdate s t
  pub kept : t.kept ≡ s.kept
  pub known : t.seat.me ≡ s.seat.me

-- The open run was ended, and the pass keeps few rows, or there is a cause. Where none was open nothing was done.
pub record HasEnded (s t : StoreAndRun) : Type 0 where
  pub looks : OnlyLooks s.store t.store
  pub sparing : IsOpen (knows s) → IsSparing s.store t.store
  pub bounded : PinsNever s.store.seat.me t.store.seat.me
  -- no link was loaded
  pub loads : t.store.seat.me.0.upper.loads ≡ s.store.seat.me.0.upper.loads
  pub none : (knows s).run ≡ None → t ≡ s

abbrev pub tree_promises : Promises StoreAndRun
tree_promises = record {
  reserve = λ s t. t ≡ s;
  get = λ budget s t key found into. OnlyLooks s.store t.store × IsSparing s.store t.store
      × WalksOnce s.store.z s.store.seat.me t.store.seat.me;
  put = λ budget s t pair outcome. HasTold (λ _. true) (Some pair.0) budget s.store t.store outcome;
  put_new = λ budget s t pair outcome. HasTold (λ new. new) (Some pair.0) budget s.store t.store outcome;
  remove = λ budget s t key outcome old. HasTold (λ was. was) None budget s.store t.store outcome;
  remove_if = λ g f budget s t key outcome old. HasTold is_put None budget s.store t.store outcome;
  change = λ g f budget s t key outcome old. HasTold is_put None budget s.store t.store outcome;
  above = λ budget s t lo outcome into. HasRead (NeedsAbove lo) budget s.store t.store outcome × IsSparing s.store t.store × WasInBudget budget s.store t.store outcome;
  below = λ budget s t hi outcome into. HasRead (NeedsBelow hi) budget s.store t.store outcome × IsSparing s.store t.store × WasInBudget budget s.store t.store outcome;
  range = λ budget s t lo hi want outcome. HasRead (EndsTooSoon lo hi) budget s.store t.store outcome × IfRefused outcome (λ _. IsSparing s.store t.store)
      × OpensInBudget budget s.store t.store outcome;
  found = λ s t. HasHandedOn s.store t.store;
  close_run = λ s t. HasEnded s t;
}
