-- Steps of a snapshot, one after another, and what they come to.
use Rattle.std.proofs.Common.{◌≡◌, ℕ, ◌<◌, ◌≤◌, ◌++◌, inl, inr, sym, ap, ◌∙◌, subst, ⊎_elim, arith, append_assoc}
use denote.Ref.{Bor}
use denote.Param.Members.{Shared}
use Rattle.std.specs.Prelude.{Bool, List}
use Rattle.ca_model.specs.History.{History}
use Rattle.ca_model.specs.declared.outcome.Counter.TheVariants as counter
use Rattle.ca_model.specs.declared.outcome.Spent.{Spent}
use Rattle.ca_base.specs.Counting.{HasMet, losses}
use Rattle.ca_base.proofs.Counts.{met_both}
use Rattle.ca_node.specs.Told.{MyTree, with_upper}
use Rattle.ca_node.specs.Links.{IsIn}
use Rattle.ca_node.specs.TreeView.{KnownRanges, Turns, TreeView, Unfinished, one_helped}
use Rattle.ca_rows.specs.declared.sizes.Sizes.{Sizes}
use Rattle.ca_range.specs.Attempts.{CountsJoin}
use Rattle.ca_range.specs.Clearing.{HasGone, IsCrossed, turns_at}
use Rattle.ca_range.specs.Gathering.{HasEnded}
use Rattle.ca_range.specs.Marked.{IsAstray}
use Rattle.ca_range.specs.Snapping.{IsRefused, snapped_so}
use Rattle.ca_range.specs.Snapshots.{HasSnapped, IsInBudget, IsThwarted, OnlyRanges}
use Rattle.ca_base.specs.Spending.{IsSpentOn}
use Rattle.ca_range.specs.Filling.{IsHelpedTo, IsOneOver}
use Rattle.ca_range.specs.Staying.{HasJoined, OnlySteps, with_steps_of}
use Rattle.ca_range.specs.declared.account.Range.{Range}
use Rattle.ca_range.proofs.Filled.{raised_met}
use Rattle.ca_base.proofs.Spends.{on_both, on_still}
use Rattle.ca_range.proofs.Stepping.{steps_both, steps_none}
use Rattle.ca_range.specs.declared.helped.Helped.{Helped}
use Rattle.ca_range.specs.declared.helped.Helped.TheVariants as helped
use Rattle.ca_range.specs.declared.sought.Snapped.{Snapped}
use Rattle.ca_range.specs.declared.sought.Snapped.TheVariants as snapped
use Rattle.ca_range.specs.declared.sought.Sought.{Sought}

-- what a seat knows, with the steps of another one, and what that one knows of ranges
abbrev stepped : TreeView → TreeView → TreeView
stepped u v = record (with_steps_of u v) { ranges = v.ranges }

-- Steps that leave the own range are some.
pub ranges_by_steps : {z : Sizes} {n : ℕ} (u v : TreeView) → OnlySteps z n u v → OnlyRanges z u v
ranges_by_steps u v s = record {
  only = s.only ∙ ap (λ (r : KnownRanges). record (with_steps_of u v) { ranges = r }) (sym (ap (λ (x : TreeView). x.ranges) s.only));
  seen = s.seen;
  known = s.known;
  joins = s.joins;
  joined = s.joined;
}

pub ranges_none : {z : Sizes} (u : TreeView) → OnlyRanges z u u
ranges_none u = ranges_by_steps u u (steps_none u)

pub ranges_both : {z : Sizes} (u v w : TreeView) → OnlyRanges z u v → OnlyRanges z v w → OnlyRanges z u w
ranges_both u v w a b = record {
  only = b.only ∙ ap (λ (x : TreeView). stepped x w) a.only;
  seen = (a.seen.0 ++ b.seen.0, b.seen.1 ∙ (ap (λ (h : History). h ++ b.seen.0) a.seen.1 ∙ append_assoc u.seen a.seen.0 b.seen.0));
  known = λ k. b.known (a.known k);
  joins = let less = a.joins in let less' = b.joins in omega arith;
  joined = let less = a.joined in let less' = b.joined in omega arith;
}

-- No fewer turns were spent, of each kind.
pub record IsNoLess (m n : MyTree) : Type 0 where
  pub lost : losses m ≤ losses n
  pub helped : m.0.upper.turns.helped ≤ n.0.upper.turns.helped
  pub passed : m.0.upper.turns.passed ≤ n.0.upper.turns.passed

pub more_turns : (a b : Spent) (m n : MyTree) → IsSpentOn a b m n → IsNoLess m n
more_turns a b m n s = record { lost = s.lost.more; helped = s.helped.more; passed = s.passed.more }

-- Nor was anything by loads of words, or by what counts nothing.
pub no_less : (m n : MyTree) → losses n ≡ losses m → n.0.upper.turns ≡ m.0.upper.turns → IsNoLess m n
no_less m n lost turns = let helped = ap (λ (t : Turns). t.helped) turns in let passed = ap (λ (t : Turns). t.passed) turns in
    record { lost = omega arith; helped = omega arith; passed = omega arith }

pub no_less_both : (k m n : MyTree) → IsNoLess k m → IsNoLess m n → IsNoLess k n
no_less_both k m n a b = let lost = a.lost in let helped = a.helped in let passed = a.passed in let lost' = b.lost in let helped' = b.helped in
    let passed' = b.passed in record { lost = omega arith; helped = omega arith; passed = omega arith }

pub read_less : (m n : MyTree) → n ≡ m → IsNoLess m n
read_less m n still = no_less m n (ap losses still) (ap (λ (x : MyTree). x.0.upper.turns) still)

-- Who met another pass then met it since before.
pub crossed_after : (k m n : MyTree) → IsNoLess k m → IsCrossed m n → IsCrossed k n
crossed_after k m n less c = let lost = less.lost in let helped = less.helped in
    ⊎_elim (λ (l : losses m < losses n). inl (omega arith)) (λ (h : m.0.upper.turns.helped < n.0.upper.turns.helped). inr (omega arith)) c

pub thwarted_after : (k m n : MyTree) → IsNoLess k m → IsThwarted m n → IsThwarted k n
thwarted_after k m n less t = ⊎_elim (λ (c : IsCrossed m n). inl (crossed_after k m n less c)) (λ (a : IsAstray n.0.upper). inr a) t

-- So it was behind, where nothing is counted and the same bases are remembered.
pub crossed_before : (m n l : MyTree) → IsNoLess n l → IsCrossed m n → IsCrossed m l
crossed_before m n l less c = let lost = less.lost in let helped = less.helped in
    ⊎_elim (λ (k : losses m < losses n). inl (omega arith)) (λ (h : m.0.upper.turns.helped < n.0.upper.turns.helped). inr (omega arith)) c

-- By that turns were spent.
pub crossed_turns : (m n : MyTree) → IsNoLess m n → IsCrossed m n → turns_at m < turns_at n
crossed_turns m n less c = let lost = less.lost in let helped = less.helped in let passed = less.passed in
    ⊎_elim (λ (l : losses m < losses n). omega arith) (λ (h : m.0.upper.turns.helped < n.0.upper.turns.helped). omega arith) c

-- What steps came to, behind others that met nothing of the pool.
pub refused_after : (budget : ℕ) (spent : Spent) (s : Snapped) (k m n : MyTree) → HasMet 0 0 k m → IsNoLess k m → IsRefused budget spent s m n
    → IsRefused budget spent s k n
refused_after budget spent (snapped.Run run) k m n met less r = r
refused_after budget spent snapped.Again k m n met less r = (met_both 0 0 0 0 k m n met r.0, crossed_after k m n less r.1)
refused_after budget spent snapped.Busy k m n met less r = (met_both 0 0 0 0 k m n met r.0, r.1)
refused_after budget spent snapped.NoRow k m n met less r = met_both 0 0 1 0 k m n met r
refused_after budget spent (snapped.Worn counter.PoolTag) k m n met less r = met_both 0 0 0 1 k m n met r
refused_after budget spent (snapped.Worn counter.Epoch) k m n met less r = r
refused_after budget spent (snapped.Worn counter.Sequence) k m n met less r = r

-- A join that was carried out was counted as one that was helped.
joined_crosses : (m n : MyTree) → n.0.upper.turns ≡ one_helped m.0.upper.turns → IsCrossed m n
joined_crosses m n one = let more = ap (λ (t : Turns). t.helped) one in inr (omega arith)

-- What comes of help says nothing of the budget, nor does a refusal.
pub budget_so : (budget : ℕ) (spent : Spent) (h : Helped) → IsInBudget budget spent (snapped_so h)
budget_so budget spent helped.Finished = tt
budget_so budget spent (helped.Lost exchange) = tt
budget_so budget spent (helped.Busy told) = tt
budget_so budget spent helped.NoRow = tt
budget_so budget spent (helped.Worn which) = tt

pub budget_refused : (budget : ℕ) (spent : Spent) (s : Snapped) (m n : MyTree) → IsRefused budget spent s m n → IsInBudget budget spent s
budget_refused budget spent (snapped.Run run) m n r = absurd r
budget_refused budget spent snapped.Again m n r = tt
budget_refused budget spent snapped.Busy m n r = tt
budget_refused budget spent snapped.NoRow m n r = tt
budget_refused budget spent (snapped.Worn which) m n r = tt

-- So it came to nothing where a range was in the way that was found unfinished, and was helped.
module _ (z : Sizes) (range : Range) (budget : ℕ) (a spent : Spent) where
  pub refused_by_help : (h : Helped) (m n : MyTree)
      → IsIn {A = Unfinished} (record { pass = range.owner; number = range.number }) m.0.upper.ranges.unfinished → IsSpentOn a spent m n
      → IsHelpedTo z range budget spent h m n → IsRefused budget spent (snapped_so h) m n
  refused_by_help helped.Finished m n met all h =
      (h.1, inr (⊎_elim (λ (o : IsOneOver range m.0.upper n.0.upper). o.counted met) (λ (j : HasJoined m.0.upper n.0.upper). j.1) h.0))
  refused_by_help (helped.Lost x) m n met all h = (h.1, inl h.0)
  refused_by_help (helped.Busy told) m n met all h = (h.2, h.1)
  refused_by_help helped.NoRow m n met all h = h
  refused_by_help (helped.Worn which) m n met all h = h.0

module _ {F : Type 0} (g : Shared F (Bor (List ℕ) × Unit {0}) Bool) (sought : Sought F) where
  pub snapped_after : (z : Sizes) (budget : ℕ) (spent : Spent) (s : Snapped) (k m n : MyTree) → HasMet 0 0 k m → IsNoLess k m
      → HasSnapped g sought z budget spent s m n → HasSnapped g sought z budget spent s k n
  snapped_after z budget spent (snapped.Run run) k m n met less r = (met_both 0 0 0 0 k m n met r.0, r.1)
  snapped_after z budget spent snapped.Again k m n met less r = let more = r.1 in let lost = less.lost in let helped = less.helped in
      let passed = less.passed in (met_both 0 0 0 0 k m n met r.0, omega arith, thwarted_after k m n less r.2)
  snapped_after z budget spent snapped.Busy k m n met less r = (met_both 0 0 0 0 k m n met r.0, r.1)
  snapped_after z budget spent snapped.NoRow k m n met less r = met_both 0 0 1 0 k m n met r
  snapped_after z budget spent (snapped.Worn counter.PoolTag) k m n met less r = met_both 0 0 0 1 k m n met r
  snapped_after z budget spent (snapped.Worn counter.Epoch) k m n met less r = r
  snapped_after z budget spent (snapped.Worn counter.Sequence) k m n met less r = (met_both 0 0 0 0 k m n met r.0, r.1, r.2)

  -- So it came to nothing where an attempt to join was in the way.
  pub gone_snaps : (z : Sizes) (budget : ℕ) (spent : Spent) (h : Helped) (m n : MyTree) → HasGone h m n → CountsJoin h m n
      → HasSnapped g sought z budget spent (snapped_so h) m n
  gone_snaps z budget spent helped.Finished m n gone c = (gone.0, gone.1, inl (joined_crosses m n c.1))
  gone_snaps z budget spent (helped.Lost x) m n gone c = (gone.0, gone.1, inl (inl c.1))
  gone_snaps z budget spent (helped.Busy told) m n gone c = absurd c
  gone_snaps z budget spent helped.NoRow m n gone c = gone
  gone_snaps z budget spent (helped.Worn which) m n gone c = gone

  -- The own range was over then.
  pub gone_ends : (z : Sizes) (budget : ℕ) (spent : Spent) (h : Helped) (m k n : MyTree) → HasGone h m k → CountsJoin h m k → HasMet 0 0 k n → IsNoLess k n
      → HasEnded g sought z budget spent (snapped_so h) m n
  gone_ends z budget spent helped.Finished m k n gone c met less =
      (met_both 0 0 0 0 m k n gone.0 met, inl (crossed_before m k n less (joined_crosses m k c.1)))
  gone_ends z budget spent (helped.Lost x) m k n gone c met less = (met_both 0 0 0 0 m k n gone.0 met, inl (crossed_before m k n less (inl c.1)))
  gone_ends z budget spent (helped.Busy told) m k n gone c met less = absurd c
  gone_ends z budget spent helped.NoRow m k n gone c met less = met_both 1 0 0 0 m k n gone met
  gone_ends z budget spent (helped.Worn which) m k n gone c met less = met_both 0 1 0 0 m k n gone met

  -- A refusal is one of a snapshot.
  pub refused_so : (z : Sizes) (budget : ℕ) (spent : Spent) (s : Snapped) (m n : MyTree) → IsNoLess m n → IsRefused budget spent s m n
      → HasSnapped g sought z budget spent s m n
  refused_so z budget spent (snapped.Run run) m n less r = absurd r
  refused_so z budget spent snapped.Again m n less r = (r.0, crossed_turns m n less r.1, inl r.1)
  refused_so z budget spent snapped.Busy m n less r = r
  refused_so z budget spent snapped.NoRow m n less r = r
  refused_so z budget spent (snapped.Worn counter.PoolTag) m n less r = r
  refused_so z budget spent (snapped.Worn counter.Epoch) m n less r = absurd r
  refused_so z budget spent (snapped.Worn counter.Sequence) m n less r = absurd r

-- Steps that were taken behind loads of words that were shown, which were behind others that counted nothing.
module _ (z : Sizes) (m k l n : MyTree) (raised : k ≡ with_upper m k.0.upper) (steps : OnlySteps z 0 m.0.upper k.0.upper)
    (turns : k.0.upper.turns ≡ m.0.upper.turns) (still : l ≡ k) where
  pub walked_still : (a : Spent) → IsSpentOn a a m k
  walked_still a = let lost = ap (λ (x : MyTree). x.0.lost) raised in let link = steps.lost_is in
      on_still a m k (let same : losses k ≡ losses m = omega arith in same) turns

  pub steps_on : {lost : ℕ} → OnlySteps z lost l.0.upper n.0.upper → OnlySteps z lost m.0.upper n.0.upper
  steps_on {lost} more = steps_both m.0.upper k.0.upper n.0.upper steps (subst (λ (x : MyTree). OnlySteps z lost x.0.upper n.0.upper) still more)

  pub spent_on : (a b : Spent) → IsSpentOn a b l n → IsSpentOn a b m n
  spent_on a b more = on_both a a b m k n (walked_still a) (subst (λ (x : MyTree). IsSpentOn a b x n) still more)

  pub met_on : n ≡ with_upper l n.0.upper → HasMet 0 0 m n
  met_on up = met_both 0 0 0 0 m k n (raised_met m k k.0.upper raised)
      (subst (λ (x : MyTree). HasMet 0 0 x n) still (raised_met l n n.0.upper up))
