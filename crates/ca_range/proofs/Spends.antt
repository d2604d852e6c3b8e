-- What a call counts that helps ranges, one step after another.
use Rattle.std.proofs.Common.{◌⊎◌, ℕ, ◌<◌, ◌≤◌, inl, inr, ⊎_elim, arith}
use Rattle.ca_model.specs.declared.outcome.Spent.{Spent}
use Rattle.ca_base.specs.Counting.{losses}
use Rattle.ca_node.specs.Told.{MyTree}
use Rattle.ca_node.specs.Links.{IsIn}
use Rattle.ca_node.specs.TreeView.{Unfinished}
use Rattle.ca_rows.specs.declared.sizes.Sizes.{Sizes}
use Rattle.ca_range.specs.Filling.{IsHelpedTo, IsOneOver, IsTurned, turns_of}
use Rattle.ca_range.specs.Staying.{HasJoined}
use Rattle.ca_range.specs.declared.account.Range.{Range}
use Rattle.ca_range.specs.declared.helped.Helped.{Helped}
use Rattle.ca_range.specs.declared.helped.Helped.TheVariants as helped
use Rattle.ca_base.specs.Spending.{IsSpentOn}

-- What was counted was spent, where the budget wasn't.
pub turns_more : (budget : ℕ) (a b : Spent) (k m : MyTree) → budget ≤ 4294967295 → IsSpentOn a b k m
    → (losses k < losses m) ⊎ (k.0.upper.turns.helped < m.0.upper.turns.helped) → turns_of a < budget → turns_of a < turns_of b
turns_more budget a b k m most s more room = let lost = s.lost.now_is (omega arith) in let helped = s.helped.now_is (omega arith) in
    let passed = s.passed.now_is (omega arith) in let no_less = s.lost.more in let no_fewer = s.helped.more in let no_fewer' = s.passed.more in
    ⊎_elim (λ (l : losses k < losses m). let then : turns_of a < turns_of b = omega arith in then)
    (λ (l : k.0.upper.turns.helped < m.0.upper.turns.helped). let then : turns_of a < turns_of b = omega arith in then) more

-- So it is by what became of a range that was found unfinished.
pub help_turned : (z : Sizes) (range : Range) (budget : ℕ) (a b : Spent) (h : Helped) (k m : MyTree) → budget ≤ 4294967295 → IsSpentOn a b k m
    → IsHelpedTo z range budget b h k m
    → IsIn {A = Unfinished} (record { pass = range.owner; number = range.number }) k.0.upper.ranges.unfinished → IsTurned budget a b h
help_turned z range budget a b helped.Finished k m most s h i = turns_more budget a b k m most s
    (⊎_elim (λ (o : IsOneOver range k.0.upper m.0.upper). inr (o.counted i)) (λ (j : HasJoined k.0.upper m.0.upper). inr j.1) h.0)
help_turned z range budget a b (helped.Lost exchange) k m most s h i = turns_more budget a b k m most s (inl h.0)
help_turned z range budget a b (helped.Busy told) k m most s h i = λ room. let all = h.1 in omega arith
help_turned z range budget a b helped.NoRow k m most s h i = tt
help_turned z range budget a b (helped.Worn counter) k m most s h i = tt
