-- What a store with a script tells of its calls beyond the trait: how each goes on in the script.
use Rattle.std.specs.Prelude.{◌≡◌, ℕ, true, Option}
use Rattle.ca_model.specs.declared.outcome.Outcome.{Outcome}
use Rattle.ca_model.specs.Answer.{IfDone, IfRefused}
use Rattle.ca_model.specs.Event.{Write, WriteNew}
use Rattle.ca_model.specs.Promises.{Promises}
use Rattle.ca_test_store.specs.declared.refusal.Refusal.{Refusal}
use Rattle.ca_test_store.specs.Script.{ScriptedStore, next_turn}
use Rattle.ca_test_store.specs.Refusals.{IsAsTold, unless_deep}
use Rattle.ca_test_store.specs.Played.{Plays, Skips, GotSuch, RemovedSuch, RemovedIfSuch, AlteredSuch, AboveSuch, BelowSuch, OpensWhole}

-- A call with this budget is refused exactly as it is told; where it is done this holds of its answer, and where it is refused it makes no edit.
abbrev pub Follows : {T : Type 0} → ScriptedStore → ScriptedStore → Option Refusal → ℕ → Outcome T → (T → Type 0) → Type 0
Follows a b told budget found Done = IsAsTold told budget found × IfDone found Done × IfRefused found (λ _. Skips a b)

-- what the script tells a call that may put a new key, and any other one
abbrev pub told_in : ScriptedStore → Option Refusal
told_in a = (next_turn a.turns).refusal

abbrev pub told_here : ScriptedStore → Option Refusal
told_here a = unless_deep (told_in a)

abbrev pub script_promises : Promises ScriptedStore
script_promises = record {
  reserve = λ a b. b.turns ≡ a.turns;
  get = λ budget a b key found into. IfDone found (λ was. GotSuch (Plays a b) key was into);
  put = λ budget a b pair found. Follows a b (told_in a) budget found (λ _. Plays a b (Write pair.0 pair.1));
  put_new = λ budget a b pair found. Follows a b (told_in a) budget found (λ new. Plays a b (WriteNew pair.0 pair.1 new));
  remove = λ budget a b key found old. Follows a b (told_here a) budget found (λ was. RemovedSuch (Plays a b) key was old);
  remove_if = λ g f budget a b key found old. Follows a b (told_here a) budget found (λ changed. RemovedIfSuch g f (Plays a b) key changed old);
  change = λ g f budget a b key found old. Follows a b (told_here a) budget found (λ changed. AlteredSuch g f (Plays a b) key changed old);
  above = λ budget a b edge found into. Follows a b (told_here a) budget found (λ was. AboveSuch (Plays a b) edge was into);
  below = λ budget a b edge found into. Follows a b (told_here a) budget found (λ was. BelowSuch (Plays a b) edge was into);
  range = λ budget a b lo hi want found. Follows a b (told_here a) budget found (λ whole. (whole ≡ true) × OpensWhole a b lo hi);
  found = λ a b. b.turns ≡ a.turns;
  close_run = λ a b. b.turns ≡ a.turns;
}
