-- Reads of what is within edges, of a pass that is alone: what they spend, added up, and why such a
-- call is refused.
use Rattle.std.proofs.Common.{◌≡◌, ◌⊎◌, ℕ, ◌+◌, ◌*◌, ◌<◌, ◌≤◌, length, Result, Ok, Err, Vec, inr, ⊎_elim, sym, refl, ap, ◌∙◌, subst, arith}
use Rattle.std.specs.Global.{Global}
use Rattle.ca_base.specs.Counting.{losses}
use Rattle.ca_model.specs.Event.{Event}
use Rattle.ca_model.specs.declared.outcome.Cause.{Cause}
use Rattle.ca_model.specs.declared.outcome.Cause.TheVariants as cause
use Rattle.ca_model.specs.declared.outcome.Outcome.{Outcome}
use Rattle.ca_model.specs.declared.outcome.Spent.{Spent}
use Rattle.ca_model.specs.declared.outcome.Outcome.TheVariants as outcome
use Rattle.ca_model.specs.declared.edge.Edge.{Edge}
use Rattle.ca_node.specs.declared.cursor.Cursor.{Cursor}
use Rattle.ca_node.specs.declared.cursor.Spot.{Spot}
use Rattle.ca_node.specs.Inventory.{HasFewRows}
use Rattle.ca_node.specs.States.{IsAlone}
use Rattle.ca_node.specs.Told.{IsEntered, IsKnown, MyTree}
use Rattle.ca_node.specs.TreeView.{Inventory, Note, Turns, TreeView}
use Rattle.ca_node.specs.Walking.{IsWalked}
use Rattle.ca_range.specs.Lonely.{SnapsAlone}
use Rattle.ca_range.specs.declared.sought.Snapped.{Snapped}
use Rattle.ca_range.specs.declared.sought.Snapped.TheVariants as snapped
use Rattle.ca_replace.specs.declared.missing.Miss.{Miss}
use Rattle.ca_replace.specs.declared.missing.Miss.TheVariants as miss
use Rattle.ca_replace.specs.Alone.{IsCrowdedCause, IsNeverBusy, IsShortOfRows}
use Rattle.ca_replace.specs.Causes.{IfCaused, IsRefill}
use Rattle.ca_replace.specs.Leaving.{HasLeft}
use Rattle.ca_replace.specs.LoneReads.{GoesLeftAlone, HasMissedAlone, LooksAlone, PassesAlone, ReadsAloneTo, bases_at}
use Rattle.ca_replace.specs.Ranging.{IsRangeCaused, cause_of}
use Rattle.ca_replace.specs.Refusals.{outcome_by}
use Rattle.ca_replace.specs.Within.{spot_at}
use Rattle.ca_replace.proofs.Alone.{crowded_call, lone_losses, never_lags}
use Rattle.ca_replace.proofs.Between.{announced, left}
use Rattle.ca_replace.proofs.Ends.{walked_learnt}
use Rattle.ca_replace.proofs.Growing.{alone_on}
use Rattle.ca_replace.proofs.OneHand.{seen_still}
use Rattle.ca_rows.specs.declared.kept.Kept.{Kept}
use Rattle.ca_rows.specs.declared.sizes.Sizes.{Sizes}

-- Nothing was spent, or that behind something else.
pub passes_none : (m : MyTree) → PassesAlone 0 m m
passes_none m = record {
  unlost = refl;
  unhelped = refl;
  passed = omega arith;
  few = omega arith;
  rows = omega arith;
  bases = omega arith;
  still = refl;
}

pub passes_both : (a b : ℕ) (k m n : MyTree) → PassesAlone a k m → PassesAlone b m n
    → PassesAlone (a + b) k n
passes_both a b k m n x y = let p = x.passed in let q = y.passed in let f = x.few in
    let g = y.few in let r = x.rows in let s = y.rows in
    let c = x.bases in let d = y.bases in record {
      unlost = y.unlost ∙ x.unlost;
      unhelped = y.unhelped ∙ x.unhelped;
      passed = omega arith;
      few = omega arith;
      rows = omega arith;
      bases = omega arith;
      still = y.still ∙ x.still;
    }

-- No more than so much.
pub passes_within : (a b : ℕ) (m n : MyTree) → a ≤ b → PassesAlone a m n → PassesAlone b m n
passes_within a b m n less x = let f = x.few in record {
  unlost = x.unlost;
  unhelped = x.unhelped;
  passed = x.passed;
  few = omega arith;
  rows = x.rows;
  bases = x.bases;
  still = x.still;
}

-- Where no turn was spent, nothing was lost, and the tree has what it had.
pub passes_still : (m m' : MyTree) → losses m' ≡ losses m → m'.0.upper.turns ≡ m.0.upper.turns
    → m'.0.upper.inventory ≡ m.0.upper.inventory
    → m'.0.upper.seen ≡ m.0.upper.seen → PassesAlone 0 m m'
passes_still m m' lost turns tree seen = let passed = ap (λ (t : Turns). t.passed) turns in
    let rows = ap (λ (i : Inventory). length i.rows) tree in
    let bases = ap (λ (i : Inventory). length i.bases) tree in record {
      unlost = lost;
      unhelped = ap (λ (t : Turns). t.helped) turns;
      passed = omega arith;
      few = omega arith;
      rows = omega arith;
      bases = omega arith;
      still = seen;
    }

-- So it is of a call that was entered in the log, and of a walk.
pub passes_entered : (event : Event) (m m' : MyTree) → IsEntered event m m' → PassesAlone 0 m m'
passes_entered event m m' e = passes_still m m' (ap losses e.now)
    (ap (λ (x : MyTree). x.0.upper.turns) e.now)
    (ap (λ (x : MyTree). x.0.upper.inventory) e.now) (ap (λ (x : MyTree). x.0.upper.seen) e.now)

pub passes_walked : (z : Sizes) (spot : Spot) (m m' : MyTree) (cursor : Cursor)
    → IsWalked z spot m cursor m' → IsAlone z m.0.upper → IsKnown z m.0.upper
    → PassesAlone 0 m m'
passes_walked z spot m m' cursor w alone known = let l = walked_learnt z spot m m' cursor w in
    passes_still m m' (ap losses w.now) (ap (λ (x : MyTree). x.0.upper.turns) w.now)
    (ap (λ (x : MyTree). x.0.upper.inventory) w.now)
    (seen_still z m.0.upper m'.0.upper alone known l.known l.further)

-- An attempt behind what left the tree as it was, and the kept rows.
pub missed_alone : {T : Type 0} (z : Sizes) (kept : ℕ) (r : Result T Miss) (u v : TreeView)
    → v.inventory ≡ u.inventory → HasFewRows u
    → HasMissedAlone z kept r v → HasMissedAlone z kept r u
missed_alone z kept (Ok x) u v tree few h = tt
missed_alone z kept (Err miss.Again) u v tree few h = h
missed_alone z kept (Err miss.Busy) u v tree few h = tt
missed_alone z kept (Err miss.NoRow) u v tree few h = let rows =
    ap (λ (i : Inventory). length i.rows) tree in
    let bases = ap (λ (i : Inventory). length i.bases) tree in let most = h.0 in (omega arith, few)
missed_alone z kept (Err (miss.Worn which)) u v tree few h = tt

-- A walk up to an edge, and looks to the left from there.
pub left_of_walk : (z : Sizes) (hi : Edge) (m n k : MyTree) (cursor : Cursor)
    → IsWalked z (spot_at hi) m cursor n → IsAlone z m.0.upper → IsKnown z m.0.upper
    → (IsAlone z n.0.upper → IsKnown z n.0.upper → GoesLeftAlone z n k) → GoesLeftAlone z n k
    × IsAlone z k.0.upper × PassesAlone (bases_at m) m k
left_of_walk z hi m n k cursor w alone known left = let l = walked_learnt z (spot_at hi) m n cursor
    w in
    let here = alone_on z m.0.upper n.0.upper l.further.number alone in
    let goes = left here w.known in
    let walked = passes_walked z (spot_at hi) m n cursor w alone known in
    let bases = ap (λ (x : MyTree). length x.0.upper.inventory.bases) w.now in (
      goes,
      alone_on z n.0.upper k.0.upper goes.number here,
      passes_within (0 + bases_at n) (bases_at m) m k (omega arith)
          (passes_both 0 (bases_at n) m n k walked goes.goes),
    )

missed_pinned : {T : Type 0} (r : Result T Miss) (z : Sizes) (told moment kept : ℕ) (k m : MyTree)
    → m ≡ announced told moment k
    → HasMissedAlone z kept r m.0.upper → HasMissedAlone z kept r k.0.upper
missed_pinned r z told moment kept k m is h =
    by r (subst (λ (x : MyTree). HasMissedAlone z kept r x.0.upper) is h)
  where
    by : {T : Type 0} (r : Result T Miss) → HasMissedAlone z kept r
        (announced told moment k).0.upper → HasMissedAlone z kept r k.0.upper
    by (Ok x) h = tt
    by (Err miss.Again) h = h
    by (Err miss.Busy) h = tt
    by (Err miss.NoRow) h = h
    by (Err (miss.Worn which)) h = tt

-- An attempt was made under a pin of its own, and the pass unpinned behind it.
pub looks_pinned : {T : Type 0} (r : Result T Miss) (z : Sizes) (told moment kept kept' : ℕ)
    (k m n : MyTree) → m ≡ announced told moment k → kept' ≡ kept
    → (IsAlone z m.0.upper → LooksAlone z (2 * bases_at m) kept' r m n) → IsAlone z k.0.upper
    → LooksAlone z (2 * bases_at k) kept r k n
looks_pinned r z told moment kept kept' k m n is same look alone = let did =
    look (subst (λ (x : MyTree). IsAlone z x.0.upper) (sym is) alone) in
    let bases = ap bases_at is in (
      passes_within (0 + 2 * bases_at m) (2 * bases_at k) k n (omega arith)
          (passes_both 0 (2 * bases_at m) k m n
          (passes_still k m (ap losses is) (ap (λ (x : MyTree). x.0.upper.turns) is)
          (ap (λ (x : MyTree). x.0.upper.inventory) is)
          (ap (λ (x : MyTree). x.0.upper.seen) is)) did.0),
      missed_pinned r z told moment kept k m is
          (subst (λ (count : ℕ). HasMissedAlone z count r m.0.upper) same did.1),
    )

pub looks_left : {T : Type 0} (r : Result T Miss) (z : Sizes) (most kept : ℕ) (k n p : MyTree)
    → p ≡ left n → LooksAlone z most kept r k n
    → LooksAlone z most kept r k p
looks_left r z most kept k n p is did = (
  passes_within (most + 0) most k p (omega arith) (passes_both most 0 k n p did.0
      (passes_still n p (ap losses is) (ap (λ (x : MyTree). x.0.upper.turns) is)
      (ap (λ (x : MyTree). x.0.upper.inventory) is)
      (ap (λ (x : MyTree). x.0.upper.seen) is))),
  did.1,
)

-- As the next attempt begins nothing was done yet; or one found no free row that had kept some, and
-- none is kept now.
abbrev pub HasBegunAlone : ℕ → MyTree → MyTree → Type 0
HasBegunAlone kept m n = (n ≡ m) ⊎ ((kept ≡ 0) × PassesAlone (2 * bases_at m) m n
    × HasFewRows m.0.upper)

-- Behind it so many turns were spent, at most,
pub begun_passes : (kept : ℕ) (k m n : MyTree) → HasBegunAlone kept k m
    → PassesAlone (2 * bases_at m) m n → PassesAlone (4 * bases_at k) k n
begun_passes kept k m n begun did = ⊎_elim
    (λ (e : m ≡ k). let all = subst (λ (x : MyTree). PassesAlone (2 * bases_at x) x n) e did in
    passes_within (2 * bases_at k) (4 * bases_at k) k n (omega arith) all)
    (λ (t : (kept ≡ 0) × PassesAlone (2 * bases_at k) k m × HasFewRows k.0.upper). let fewer =
    t.1.bases in
    passes_within (2 * bases_at k + 2 * bases_at m) (4 * bases_at k) k n (omega arith)
    (passes_both (2 * bases_at k) (2 * bases_at m) k m n t.1 did))
    begun

-- and where it finds no free row the space was short of rows at first.
pub begun_short : (z : Sizes) (kept : ℕ) (k m : MyTree) → HasBegunAlone kept k m
    → HasMissedAlone {T = Unit {0}} z kept (Err miss.NoRow) m.0.upper
    → IsShortOfRows z (bases_at k + kept + 9) k.0.upper
begun_short z kept k m begun h = ⊎_elim
    (λ (e : m ≡ k). subst (λ (x : MyTree). IsShortOfRows z (bases_at x + kept + 9) x.0.upper) e h)
    (λ (t : (kept ≡ 0) × PassesAlone (2 * bases_at k) k m × HasFewRows k.0.upper). let most = h.0 in
    let rows = t.1.rows in let bases = t.1.bases in
    (omega arith, t.2))
    begun

-- Rows were given back: no exchange was lost by that.
pub passes_given : (n p : MyTree) → n.0.lost ≡ 0 → p.0.lost ≡ 0 → p.0.upper ≡ n.0.upper
    → PassesAlone 0 n p
passes_given n p before behind upper = passes_still n p
    (lone_losses n p before behind (ap (λ (u : TreeView). u.lost) upper))
    (ap (λ (u : TreeView). u.turns) upper) (ap (λ (u : TreeView). u.inventory) upper)
    (ap (λ (u : TreeView). u.seen) upper)

pub passes_then : (most : ℕ) (k n p : MyTree) → PassesAlone most k n → PassesAlone 0 n p
    → PassesAlone most k p
passes_then most k n p x y = passes_within (most + 0) most k p (omega arith)
    (passes_both most 0 k n p x y)

-- So the next attempt may begin, where one that kept some rows found none free.
pub begins_next : (z : Sizes) (kept kept' : ℕ) (k m n p : MyTree) → 0 < kept → (kept' ≡ 0)
    ⊎ (losses n < losses p) → PassesAlone 0 n p
    → LooksAlone {T = Unit {0}} z (2 * bases_at m) kept (Err miss.NoRow) m n
    → HasBegunAlone kept k m → HasBegunAlone kept' k p
begins_next z kept kept' k m n p some begins given did begun = ⊎_elim
    (λ (e : m ≡ k). let its = subst (λ (x : MyTree). LooksAlone {T = Unit {0}} z (2 * bases_at x)
    kept (Err miss.NoRow) x n) e did in
    inr (none, passes_then (2 * bases_at k) k n p its.0 given, its.1.1))
    (λ (t : (kept ≡ 0) × PassesAlone (2 * bases_at k) k m × HasFewRows k.0.upper). let zero = t.0 in
    absurd (omega (arith, some, zero)))
    begun
  where
    none : kept' ≡ 0
    none = ⊎_elim (λ e. e) (λ lost. let same = given.unlost in absurd (omega arith)) begins

-- Where the call is refused once rows were given back its last attempt had begun with none kept.
pub refill_short : (z : Sizes) (number budget begun kept : ℕ) (spent : Spent) (why : Cause)
    (k m n l : MyTree) (kept' : Vec Kept Global) → z.passes ≡ 1
    → number ≡ 1 → begun ≡ kept → IsRefill z.passes number budget begun spent why n l kept'
    → HasBegunAlone kept k m
    → HasMissedAlone {T = Unit {0}} z kept (Err miss.NoRow) m.0.upper
    → IsCrowdedCause z (bases_at k + 11) k.0.upper why
refill_short z number budget begun kept spent (cause.Busy s) k m n l kept' one first same h start
    did = tt
refill_short z number budget begun kept spent (cause.Full full) k m n l kept' one first same h start
    did =
    let none = never_lags z.passes number full.lag l.0.pin one first h.3 in
    let zero : begun ≡ 0 = ⊎_elim (λ e. e) (λ some. absurd (some none)) h.1 in
    let short = begun_short z kept k m start did in let most = short.0 in
    (omega arith, short.1)
refill_short z number budget begun kept spent (cause.Deep level) k m n l kept' one first same h
    start did = tt
refill_short z number budget begun kept spent (cause.Worn counter) k m n l kept' one first same h
    start did = tt

-- A call that is refused for another reason isn't refused for want of rows.
pub refused_other : (z : Sizes) (more : ℕ) (u : TreeView) (why : Miss) (spent : Spent) (c : Cause)
    → c ≡ cause_of why spent → IsCrowdedCause z more u c
refused_other z more u why spent c is = subst (λ (x : Cause). IsCrowdedCause z more u x) (sym is)
    (by why)
  where
    by : (why : Miss) → IsCrowdedCause z more u (cause_of why spent)
    by miss.Again = tt
    by miss.Busy = tt
    by miss.NoRow = tt
    by (miss.Worn counter) = tt

-- Behind such a call the pass rests, and lost nothing by that.
pub left_alone : (z : Sizes) (k m p : MyTree) (kept' : Vec Kept Global) → p.0.lost ≡ 0
    → p.0.pin.left.lost ≤ p.0.lost → HasLeft m p kept' → PassesAlone (4 * bases_at k) k m
    → PassesAlone (4 * bases_at k) k p
left_alone z k m p kept' none before l h = let left = l.left in
    passes_then (4 * bases_at k) k m p h (passes_still m p
    (lone_losses m p (omega arith) none (ap (λ (u : TreeView). u.lost) l.upper))
    (ap (λ (u : TreeView). u.turns) l.upper)
    (ap (λ (u : TreeView). u.inventory) l.upper) (ap (λ (u : TreeView). u.seen) l.upper))

-- It isn't refused for its turns by a budget of four for each base and some.
pub read_never_busy : {T : Type 0} (Needs : Note → Type 0) (z : Sizes) (number budget : ℕ)
    (o : Outcome T) (m m' : MyTree) (kept kept' : Vec Kept Global)
    → PassesAlone (4 * bases_at m) m m' → 4 * bases_at m + 16 ≤ budget
    → IfCaused o (λ why. IsRangeCaused Needs z number budget why m kept m' kept') → IsNeverBusy o
read_never_busy Needs z number budget (outcome.Done x) m m' kept kept' goes most h = tt
read_never_busy Needs z number budget (outcome.Busy spent) m m' kept kept' goes most h = let all =
    h.0 in let lost = h.1 in let helped = h.2 in
    let passed = h.3 in let unlost = goes.unlost in let unhelped = goes.unhelped in
    let few = goes.few in let more = goes.passed in absurd (omega arith)
read_never_busy Needs z number budget (outcome.Full full) m m' kept kept' goes most h = tt
read_never_busy Needs z number budget (outcome.Deep level) m m' kept kept' goes most h = tt
read_never_busy Needs z number budget (outcome.Worn counter) m m' kept kept' goes most h = tt

-- So it is of a call by the cause of its refusal.
pub reads_refused : {T : Type 0} (z : Sizes) (why : Cause) (o : Outcome T) (m m' : MyTree)
    → o ≡ outcome_by why
    → PassesAlone (4 * bases_at m) m m' × IsCrowdedCause z (bases_at m + 11) m.0.upper why
    → ReadsAloneTo z o m m'
reads_refused z why o m m' is did = (
  did.0,
  crowded_call z (bases_at m + 11) m.0.upper why o is
      did.1,
)

-- A snapshot passed on once for each base, at most; and where no row was free, the space was short
-- of rows before it.
pub snapped_passes : (z : Sizes) (come : Snapped) (kept kept' : ℕ) (m m' : MyTree)
    → SnapsAlone z come kept kept' m m' → PassesAlone (bases_at m) m m'
snapped_passes z come kept kept' m m' s = let g = s.goes in record {
  unlost = g.unlost;
  unhelped = g.unhelped;
  passed = g.passed;
  few = g.few;
  rows = g.rows;
  bases = g.bases;
  still = g.still;
}

pub snapped_short : (z : Sizes) (come : Snapped) (kept kept' : ℕ) (m m' : MyTree)
    → SnapsAlone z come kept kept' m m' → come ≡ snapped.NoRow
    → IsShortOfRows z (bases_at m + kept + 9) m.0.upper
snapped_short z come kept kept' m m' s is = let most = s.crowded is in let keeps = s.goes.keeps in
    let few = s.goes.few in let rows = s.goes.rows in
    (omega arith, s.few)
