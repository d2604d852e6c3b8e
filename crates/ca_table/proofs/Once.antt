-- A step by one call of the store, and a step by none.
use Rattle.std.proofs.Common.{◌≡◌, ℕ, ◌≤◌, List, [], arith, inl, inr, length, subst, sym}
use Rattle.ca_ets.specs.Command.{Command, Continuation, Response}
use Rattle.ca_ets.specs.Step.{nature_of}
use Rattle.ca_model.specs.Event.{Entry, Event}
use Rattle.ca_model.specs.Known.{Known, Meets}
use Rattle.ca_explain.specs.Carries.{Carries}
use Rattle.ca_explain.specs.Steps.{Refrains, Steps}
use Rattle.ca_explain.proofs.Calls.{one_call, one_call_left, then_call, then_call_left}
use Rattle.ca_table.specs.ComesTo.{StepsOnce, reads_before}

none_before : {A : Type 0} {es : List A} (n : ℕ) → es ≡ [] → length es ≤ n
none_before n none = subst (λ es. length es ≤ n) (sym none) (omega arith)

-- A call that carries a command makes its step, and reads nothing before.
pub once : (a b : Known) (event : Event) (k l : Continuation) (c : Command) (r : Response) → Meets a b event → Carries a.keypos event k c r l
    → StepsOnce a b k c r l
once a b event k l c r met carries = inl (record {
  call = one_call a b event k l c r met carries;
  few = none_before _ (one_call_left a b event k l c r met carries);
})

-- A call behind reads makes the step that it carries, where so many may stand before it.
pub behind_reads : (a b d : Known) (event : Event) (k l : Continuation) (c : Command) (r : Response) (reads : Refrains a b a.counts)
    → length reads.left ≤ reads_before (nature_of c).asks → Meets b d event → Carries a.keypos event k c r l → StepsOnce a d k c r l
behind_reads a b d event k l c r reads few met carries = inl (record {
  call = then_call a b d event k l c r reads met carries;
  few = subst (λ (es : List Entry). length es ≤ reads_before (nature_of c).asks) (sym (then_call_left a b d event k l c r reads met carries)) few;
})

-- It is the step.
pub steps_of : (a b : Known) (k l : Continuation) (c : Command) (r : Response) → StepsOnce a b k c r l → Steps a b k c r l
steps_of a b k l c r (inl made) = inl made.call
steps_of a b k l c r (inr none) = inr none
