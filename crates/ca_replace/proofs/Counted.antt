-- What calls count, from one attempt to the next.
use Rattle.std.proofs.Common.{◌≡◌, ◌⊎◌, ℕ, ◌+◌, ◌-◌, ◌<◌, ◌≤◌, min, Result, Ok, Err, ap, subst, inl, inr, ⊎_elim, arith}
use Rattle.ca_base.specs.declared.stop.Stop.TheVariants as stop
use Rattle.ca_replace.specs.declared.attempting.Halt.{Halt}
use Rattle.ca_replace.specs.declared.attempting.Halt.TheVariants as halt
use Rattle.ca_model.specs.declared.outcome.Spent.{Spent}
use Rattle.ca_base.specs.Counting.{losses, HasMet, IsSpent}
use Rattle.ca_base.proofs.Counts.{met_both}
use Rattle.ca_base.proofs.Spends.{rises_both}
use Rattle.ca_model.specs.Event.{Event}
use Rattle.ca_node.specs.Told.{MyTree, IsEntered}
use Rattle.ca_node.specs.TreeView.{TreeView, Turns}
use Rattle.ca_range.specs.Clearing.{turns_at}
use Rattle.ca_replace.specs.Attempting.{helps, passes, total, HasHalted, HasNext, HasStopped, IsPaid, IsPaidBut, IsPaidTo, IsQuiet, MayFollow}

-- Nothing was met.
pub none_met : (m : MyTree) → HasMet 0 0 m m
none_met m = (omega arith, omega arith)

-- What was met by an attempt, behind others that met nothing.
halted_then : (why : Halt) (k m n : MyTree) → HasMet 0 0 k m → losses k ≤ losses m
    → passes k ≤ passes m → helps k ≤ helps m → HasHalted why m n → HasHalted why k n
halted_then (halt.Stopped (stop.Lost x)) k m n a more on help b = let lost = b.0 in
    (omega arith, met_both 0 0 0 0 k m n a b.1)
halted_then (halt.Stopped stop.Empty) k m n a more on help b = met_both 0 0 1 0 k m n a b
halted_then (halt.Stopped stop.Worn) k m n a more on help b = met_both 0 0 0 1 k m n a b
halted_then halt.Deep k m n a more on help b = met_both 0 0 0 0 k m n a b
halted_then halt.Split k m n a more on help b = let passed = b.1 in
    (met_both 0 0 0 0 k m n a b.0, omega arith)
halted_then halt.Helped k m n a more on help b = let turned = b.1 in
    (met_both 0 0 0 0 k m n a b.0, omega arith)

pub met_then : {T : Type 0} (r : Result T Halt) (k m n : MyTree) → HasMet 0 0 k m
    → losses k ≤ losses m → passes k ≤ passes m → helps k ≤ helps m → HasStopped r m n
    → HasStopped r k n
met_then (Ok x) k m n a more on help b = tt
met_then (Err why) k m n a more on help b = halted_then why k m n a more on help b

-- An attempt after which another one may follow met nothing; an exchange was lost, or the pass
-- passed on, or a turn was spent.
next_met : (why : Halt) (m m' : MyTree) → MayFollow why → HasHalted why m m'
    → HasMet 0 0 m m' × ((losses m < losses m') ⊎ (passes m < passes m')
    ⊎ (turns_at m < turns_at m'))
next_met (halt.Stopped (stop.Lost x)) m m' next h = (h.1, inl h.0)
next_met (halt.Stopped stop.Empty) m m' next h = absurd next
next_met (halt.Stopped stop.Worn) m m' next h = absurd next
next_met halt.Deep m m' next h = absurd next
next_met halt.Split m m' next h = (h.0, inr (inl h.1))
next_met halt.Helped m m' next h = (h.0, inr (inr h.1))

pub met_turn : {T : Type 0} (r : Result T Halt) (m m' : MyTree) → HasNext r → HasStopped r m m'
    → HasMet 0 0 m m' × ((losses m < losses m') ⊎ (passes m < passes m')
    ⊎ (turns_at m < turns_at m'))
met_turn (Ok x) m m' next h = absurd next
met_turn (Err why) m m' next h = next_met why m m' next h

-- What was paid in two parts.
pub paid_both : (a b c : Spent) (k m n : MyTree) → IsPaid a b k m → IsPaid b c m n → IsPaid a c k n
paid_both a b c k m n x y = let more = x.more in let more' = y.more in
    let help = x.more_helped in let help' = y.more_helped in
    let pass = x.more_passed in let pass' = y.more_passed in record {
      more = omega arith;
      lost = λ fits. let one = x.lost fits in let two = y.lost (omega arith) in omega arith;
      more_helped = omega arith;
      helped = λ fits. let one = x.helped fits in let two = y.helped (omega arith) in omega arith;
      more_passed = omega arith;
      passed = λ fits. let one = x.passed fits in let two = y.passed (omega arith) in omega arith;
    }

-- Of what was paid, what isn't help.
pub paid_but : (a b : Spent) (m m' : MyTree) → IsPaid a b m m' → IsPaidBut a b m m'
paid_but a b m m' x = record {
  more_helped = x.more_helped;
  lost = record { more = x.more; now_is = x.lost };
  passed = record { more = x.more_passed; now_is = x.passed };
}

but_both : (a b c : Spent) (k m n : MyTree) → IsPaidBut a b k m → IsPaidBut b c m n
    → IsPaidBut a c k n
but_both a b c k m n x y = record {
  more_helped = let one = x.more_helped in let two = y.more_helped in omega arith;
  lost = rises_both a.lost b.lost c.lost (losses k) (losses m) (losses n) x.lost y.lost;
  passed = rises_both a.passed b.passed c.passed (passes k) (passes m) (passes n) x.passed y.passed;
}

-- So it is by what an attempt comes to: with what was paid before it, or behind it.
pub paid_to : {T E : Type 0} (r : Result T E) (a b : Spent) (m m' : MyTree) → IsPaid a b m m'
    → IsPaidTo r a b m m'
paid_to (Ok x) a b m m' h = paid_but a b m m' h
paid_to (Err why) a b m m' h = h

pub paid_before : {T E : Type 0} (r : Result T E) (a b c : Spent) (k m n : MyTree) → IsPaid a b k m
    → IsPaidTo r b c m n → IsPaidTo r a c k n
paid_before (Ok x) a b c k m n h t = but_both a b c k m n (paid_but a b k m h) t
paid_before (Err why) a b c k m n h t = paid_both a b c k m n h t

pub paid_after : {T E : Type 0} (r : Result T E) (a b c : Spent) (k m n : MyTree)
    → IsPaidTo r a b k m → IsPaid b c m n → IsPaidTo r a c k n
paid_after (Ok x) a b c k m n t h = but_both a b c k m n t (paid_but b c m n h)
paid_after (Err why) a b c k m n t h = paid_both a b c k m n t h

pub paid_stopped : {T E : Type 0} (r : Result T E) (why : E) (a b : Spent) (m m' : MyTree)
    → r ≡ Err why → IsPaidTo r a b m m' → IsPaid a b m m'
paid_stopped {T} {E} r why a b m m' e h = subst (λ (x : Result T E). IsPaidTo x a b m m') e h

-- An attempt behind which another one may follow did not do the call.
pub paid_turn : {T : Type 0} (r : Result T Halt) (a b : Spent) (m m' : MyTree) → HasNext r
    → IsPaidTo r a b m m' → IsPaid a b m m'
paid_turn (Ok x) a b m m' next h = absurd next
paid_turn (Err why) a b m m' next h = h

-- Nothing was paid.
pub none_paid : (a : Spent) (m m' : MyTree) → losses m' ≡ losses m
    → m'.0.upper.turns ≡ m.0.upper.turns → IsPaid a a m m'
none_paid a m m' same turns = let pass = ap (λ (t : Turns). t.passed) turns in
    let help = ap (λ (t : Turns). t.helped) turns in record {
      more = omega arith;
      lost = λ fits. omega arith;
      more_helped = omega arith;
      helped = λ fits. omega arith;
      more_passed = omega arith;
      passed = λ fits. omega arith;
    }

-- An entry in the log costs nothing.
pub paid_entered : (a : Spent) (m m' : MyTree) (event : Event) → IsEntered event m m'
    → IsPaid a a m m'
paid_entered a m m' event e = none_paid a m m' (ap losses e.now)
    (ap (λ (x : MyTree). x.0.upper.turns) e.now)

-- Exchanges alone were lost, and no other turn was taken.
pub paid_of : (a b : Spent) (m m' : MyTree) → IsSpent a b m m'
    → m'.0.upper.turns ≡ m.0.upper.turns → IsPaid a b m m'
paid_of a b m m' x turns = let passed = x.passed in let helped = x.helped in
    let pass = ap (λ (t : Turns). t.passed) turns in
    let help = ap (λ (t : Turns). t.helped) turns in record {
      more = x.more;
      lost = x.lost;
      more_helped = omega arith;
      helped = λ fits. omega arith;
      more_passed = omega arith;
      passed = λ fits. omega arith;
    }

-- Each such turn is a turn less.
pub one_turn_less : (a b : Spent) (budget : ℕ) (m m' : MyTree) → min 4294967295 (total a) < budget
    → budget ≤ 4294967295 → IsPaid a b m m'
    → (losses m < losses m') ⊎ (passes m < passes m') ⊎ (turns_at m < turns_at m')
    → budget - total b < budget - total a
one_turn_less a b budget m m' room most paid more = let sum = paid.lost (omega arith) in
    let pass = paid.passed (omega arith) in let help = paid.helped (omega arith) in
    let up = paid.more in let up' = paid.more_passed in let up'' = paid.more_helped in ⊎_elim
    (λ (l : losses m < losses m'). let less : budget - total b < budget - total a = omega arith in
    less)
    (λ (o : (passes m < passes m') ⊎ (turns_at m < turns_at m')). ⊎_elim
    (λ (l : passes m < passes m'). let less : budget - total b < budget - total a = omega arith in
    less)
    (λ (l : turns_at m < turns_at m'). let less : budget - total b < budget - total a =
    omega arith in
    less) o) more

-- What was spent doesn't fall.
pub spends_more : (a b c : Spent) (k m n : MyTree) → (a.lost ≡ 0) × (a.helped ≡ 0) × (a.passed ≡ 0)
    → IsPaid a b k m → IsPaid b c m n → total b ≤ total c
spends_more a b c k m n none x y = let zero = none.0 in let zero' = none.1 in let zero'' = none.2 in
    let one = x.lost (omega arith) in let two = y.lost (omega arith) in
    let pass = x.passed (omega arith) in let pass' = y.passed (omega arith) in
    let help = x.helped (omega arith) in let help' = y.helped (omega arith) in omega arith

-- What an attempt met behind a look.
pub stopped_behind : {T : Type 0} (r : Result T Halt) (k m n : MyTree) → IsQuiet k m
    → HasStopped r m n → HasStopped r k n
stopped_behind r k m n q h = let lost = q.lost in
    let same = ap (λ (t : Turns). t.passed) q.same_turns in
    let helped = ap (λ (t : Turns). t.helped) q.same_turns in
    met_then r k m n q.met (omega arith) (omega arith) (omega arith) h

-- What was lost as rows were given back was paid, too.
pub paid_given : (a : Spent) (lost sum : ℕ) (m m' : MyTree) → sum ≡ min (a.lost + lost) 4294967295
    → m'.0.lost ≡ m.0.lost + lost → m'.0.upper ≡ m.0.upper
    → IsPaid a (record a { lost = sum }) m m'
paid_given a lost sum m m' is more same = let upper = ap (λ (u : TreeView). u.lost) same in
    let pass = ap (λ (u : TreeView). u.turns.passed) same in
    let help = ap (λ (u : TreeView). u.turns.helped) same in record {
      more = omega arith;
      lost = λ fits. omega arith;
      more_helped = omega arith;
      helped = λ fits. omega arith;
      more_passed = omega arith;
      passed = λ fits. omega arith;
    }
