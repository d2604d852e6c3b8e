-- How many links the attempts of a call load, one behind the other.
use Rattle.std.proofs.Common.{◌≡◌, ℕ, ◌+◌, ◌-◌, ◌*◌, ◌<◌, ◌≤◌, Bool, true, false, Result, Ok, Err, refl, sym, ap, ◌∙◌, subst, arith}
use Rattle.std.proofs.Math.Nat.{add-mul, mul-add, mul-le-mul_left, mul_comm}
use Rattle.ca_adapt.specs.declared.tuning.Tuning.{Tuning}
use Rattle.ca_base.specs.Counting.{losses}
use Rattle.ca_base.specs.Splitting.{HasSplit}
use Rattle.ca_base.specs.declared.stop.Stop.{Stop}
use Rattle.ca_base.specs.declared.stop.Stop.TheVariants as stop
use Rattle.ca_model.specs.declared.outcome.Cause.{Cause}
use Rattle.ca_model.specs.declared.outcome.Cause.TheVariants as cause
use Rattle.ca_model.specs.declared.outcome.Outcome.{Outcome}
use Rattle.ca_model.specs.declared.outcome.Spent.{Spent}
use Rattle.ca_node.specs.Told.{MyTree}
use Rattle.ca_node.specs.TreeView.{Renewal, TreeView, Turns, unpinned}
use Rattle.ca_range.specs.Clearing.{HasGone, HasHelpedWith, turns_at}
use Rattle.ca_range.specs.Loading.{help_loads}
use Rattle.ca_range.specs.declared.helped.Helped.{Helped}
use Rattle.ca_range.specs.declared.helped.Helped.TheVariants as helped
use Rattle.ca_range.proofs.Loaded.{ends_few, stopped_loads}
use Rattle.ca_replace.specs.Attempting.{HasNext, refused_as, split_to}
use Rattle.ca_replace.specs.Bounded.{pinned_in, spent_in}
use Rattle.ca_replace.specs.Loading.{LoadsFew, LoadsInAttempts, LoadsInCall, loads_by, loads_until, most_loads, unpaid, unpaid_by}
use Rattle.ca_replace.specs.Refusals.{outcome_by}
use Rattle.ca_replace.specs.Turning.{helped_to}
use Rattle.ca_replace.specs.declared.adapting.Adapting.{Adapting}
use Rattle.ca_replace.specs.declared.attempting.Halt.{Halt}
use Rattle.ca_replace.specs.declared.attempting.Halt.TheVariants as halt
use Rattle.ca_replace.proofs.Settling.{IsSettling}
use Rattle.ca_rows.specs.declared.sizes.Sizes.{Sizes}
use Rattle.ca_rows.specs.declared.space.Pass.{Pass}
use Rattle.ca_rows.specs.declared.space.Space.{Space}
use Rattle.ca_rows.specs.declared.view.Pin.{Pin}
use Rattle.ca_rows.specs.Told.{met_of}

-- So much more comes of more.
pub both_times : (n a b c : ℕ) → a + b ≤ c → n * a + n * b ≤ n * c
both_times n a b c l = let sum = mul-add n a b in let more : n * (a + b) ≤ n * c = mul-le-mul_left n
    l in omega arith

one_more : (n a b c : ℕ) → a + b + 1 ≤ c → n * a + n * b + n ≤ n * c
one_more n a b c l = let sum = mul-add n a b in let next = mul-add n (a + b) 1 in
    let more : n * (a + b + 1) ≤ n * c = mul-le-mul_left n l in omega arith

pub at_least : (n a : ℕ) → 0 < a → n ≤ n * a
at_least n a some = let more : n * 1 ≤ n * a = mul-le-mul_left n some in omega arith

-- Links were loaded behind a look by which so many were, and nothing was spent.
pub loads_behind : (each links more until : ℕ) (k m n : MyTree)
    → m.0.upper.loads ≤ k.0.upper.loads + links → losses m ≡ losses k
    → m.0.upper.turns ≡ k.0.upper.turns → LoadsFew each (0 + more) until m n → LoadsFew each
    (links + more) until k n
loads_behind each links more until k m n few lost turns h = let help = ap (λ (t : Turns). t.helped)
    turns in let pass = ap (λ (t : Turns). t.passed) turns in
    let same : spent_in k n ≡ spent_in m n = omega arith in let times = ap (λ (x : ℕ). each * x)
    same in omega arith

-- A call that edits nothing was entered behind it.
pub loads_entered : (each links : ℕ) (edits : Bool) (k m n : MyTree) → edits ≡ false
    → m.0.upper.loads ≤ k.0.upper.loads + links
    → n.0.upper.loads ≡ m.0.upper.loads → LoadsFew each (links + 0) (loads_by edits n.0.upper) k n
loads_entered each links edits k m n idle few same = subst
    (λ (b : Bool). LoadsFew each (links + 0) (loads_by b n.0.upper) k n) (sym idle) (omega arith)

-- A range was helped, or an attempt to join.
gone_loads : (z : Sizes) (how : Helped) (m n : MyTree) → HasGone how m n
    → n.0.upper.loads ≤ m.0.upper.loads + help_loads z
    → LoadsFew (help_loads z) (0 + unpaid_by z (helped_to how)) n.0.upper.loads m n
gone_loads z helped.Finished m n g few = let turn = g.1 in let more = at_least (help_loads z)
    (spent_in m n) (omega arith) in omega arith
gone_loads z (helped.Lost x) m n g few = let turn = g.1 in let more = at_least (help_loads z)
    (spent_in m n) (omega arith) in omega arith
gone_loads z (helped.Busy spent) m n g few = let turn = g.1 in let more = at_least (help_loads z)
    (spent_in m n) (omega arith) in omega arith
gone_loads z helped.NoRow m n g few = omega arith
gone_loads z (helped.Worn which) m n g few = omega arith

pub loads_by_help : {R : Type 0} (space : Space R TreeView) (how : Helped) (spent : Spent)
    (pass new : Pass R TreeView) → HasHelpedWith space how spent pass new
    → LoadsFew (help_loads space.table.shared.key)
    (0 + unpaid_by space.table.shared.key (helped_to how)) new.seat.me.0.upper.loads
    pass.seat.me new.seat.me
loads_by_help space how spent pass new h = gone_loads space.table.shared.key how pass.seat.me
    new.seat.me h.gone
    (ends_few space.table.shared.key pass.seat.me.0.upper new.seat.me.0.upper h.loads)

-- A base was to be exchanged, and what followed was done.
module _ {z : Sizes} {t : Tuning} {r : Result (Unit {0}) Halt} {a b : Adapting}
    {k m m' m'' : MyTree} where
  pub settled_loads : (tried : Result (Unit {0}) Stop) → IsSettling z t tried r a b k m m' m''
      → LoadsFew (help_loads z) (0 + unpaid z r)
      (loads_until (λ (_ : Unit {0}). true) r m''.0.upper) k m''
  settled_loads (Ok x) s = let loads : m''.0.upper.renewal.loads ≡ m.0.upper.loads = ap
      (λ (y : Renewal). y.loads) (s.settled.1.0 ∙ s.renewed.renewal) in
      let same = ap (λ (y : MyTree). y.0.upper.loads) s.same in
      subst (λ (y : Result (Unit {0}) Halt). LoadsFew (help_loads z) (0 + unpaid z y)
      (loads_until (λ (_ : Unit {0}). true) y m''.0.upper) k m'') (sym s.is)
      (let few : m''.0.upper.renewal.loads ≤ k.0.upper.loads = omega arith in omega arith)
  settled_loads (Err why) s = let none = stopped_loads why m.0.upper in let last = ap
      (λ (y : MyTree). y.0.upper.loads) s.settled.1 in
      let then = ap (λ (u : TreeView). u.loads) s.entered in let same = ap
      (λ (y : MyTree). y.0.upper.loads) s.same in
      subst (λ (y : Result (Unit {0}) Halt). LoadsFew (help_loads z) (0 + unpaid z y)
      (loads_until (λ (_ : Unit {0}). true) y m''.0.upper) k m'') (sym s.is)
      (let few : m''.0.upper.loads ≤ k.0.upper.loads = omega arith in omega arith)

-- A full base was to be split.
pub room_loads : (z : Sizes) (many attempt : ℕ) (r : Result (Unit {0}) Stop) (m m' : MyTree)
    → HasSplit many attempt r m.0.upper m'.0.upper
    → LoadsFew (help_loads z) (0 + unpaid_by z (split_to r)) m'.0.upper.loads m m'
room_loads z many attempt (Ok x) m m' s = let same = ap (λ (u : TreeView). u.loads) s.2 in omega
    arith
room_loads z many attempt (Err why) m m' s = let same = ap (λ (u : TreeView). u.loads) s in let
    none = stopped_loads why m.0.upper in omega arith

-- What was loaded by turns, and behind that, is loaded by all of them.
all_paid : (z : Sizes) (links until : ℕ) (k m n : MyTree) → turns_at k ≤ turns_at m → turns_at
    m ≤ turns_at n → LoadsFew (most_loads z) 0 m.0.upper.loads k m
    → LoadsFew (help_loads z) links until m n → LoadsFew (most_loads z) links until k n
all_paid z links until k m n before more yet h = let all = both_times (most_loads z) (spent_in k m)
    (spent_in m n) (spent_in k n) (omega arith) in
    let each : spent_in m n * help_loads z ≤ spent_in m n * most_loads z = mul-le-mul_left
    (spent_in m n) (omega arith) in
    let one = mul_comm (spent_in m n) (help_loads z) in let two = mul_comm (spent_in m n)
    (most_loads z) in omega arith

paid : (z : Sizes) (k m n : MyTree) → turns_at k ≤ turns_at m → turns_at m < turns_at n → LoadsFew
    (most_loads z) 0 m.0.upper.loads k m
    → LoadsFew (help_loads z) ((z.levels + 1) + 0) n.0.upper.loads m n → LoadsFew (most_loads z) 0
    n.0.upper.loads k n
paid z k m n before turn yet h = let s = spent_in m n in let all = both_times (most_loads z)
    (spent_in k m) s (spent_in k n) (omega arith) in
    let split = add-mul (help_loads z) (z.levels + 1) s in let walk = at_least (z.levels + 1) s
    (omega arith) in omega arith

-- An attempt behind which another one may follow spends a turn, by which its walk is paid.
pub loads_more : {T : Type 0} (edits : T → Bool) (z : Sizes) (r : Result T Halt) (k m n : MyTree)
    → HasNext r → turns_at k ≤ turns_at m → turns_at m < turns_at n
    → LoadsFew (most_loads z) 0 m.0.upper.loads k m
    → LoadsFew (help_loads z) ((z.levels + 1) + unpaid z r) (loads_until edits r n.0.upper) m n
    → LoadsFew (most_loads z) 0 n.0.upper.loads k n
loads_more edits z (Ok x) k m n next before turn yet h = absurd next
loads_more edits z (Err (halt.Stopped (stop.Lost x))) k m n next before turn yet h = paid z k m n
    before turn yet h
loads_more edits z (Err (halt.Stopped stop.Empty)) k m n next before turn yet h = absurd next
loads_more edits z (Err (halt.Stopped stop.Worn)) k m n next before turn yet h = absurd next
loads_more edits z (Err halt.Deep) k m n next before turn yet h = absurd next
loads_more edits z (Err halt.Split) k m n next before turn yet h = paid z k m n before turn yet h
loads_more edits z (Err halt.Helped) k m n next before turn yet h = paid z k m n before turn yet h

-- Nothing was loaded or spent then.
pub loads_quiet : (z : Sizes) (k m n : MyTree) → losses n ≡ losses m
    → n.0.upper.turns ≡ m.0.upper.turns → n.0.upper.loads ≡ m.0.upper.loads
    → LoadsFew (most_loads z) 0 m.0.upper.loads k m → LoadsFew (most_loads z) 0 n.0.upper.loads k n
loads_quiet z k m n lost turns loads h = let help = ap (λ (t : Turns). t.helped) turns in let
    pass = ap (λ (t : Turns). t.passed) turns in
    let same : spent_in k n ≡ spent_in k m = omega arith in let times = ap
    (λ (x : ℕ). most_loads z * x) same in omega arith

-- The pass unpinned.
pub loads_unpinned : {T : Type 0} (edits : T → Bool) (z : Sizes) (links : ℕ) (r : Result T Halt)
    (k m : MyTree)
    → LoadsFew (help_loads z) (links + unpaid z r) (loads_until edits r m.0.upper) k m
    → LoadsFew (help_loads z) (links + unpaid z r) (loads_until edits r (unpinned m.0.upper)) k (
      record m.0 {
        pin = record m.0.pin { pinned = false; left = met_of m };
        upper = unpinned
            m.0.upper;
      },
      m.1,
    )
loads_unpinned edits z links (Ok x) k m h = by (edits x) h
  where
    by : (b : Bool) → LoadsFew (help_loads z) (links + 0) (loads_by b m.0.upper) k m
        → LoadsFew (help_loads z) (links + 0) (loads_by b (unpinned m.0.upper)) k (
          record m.0 {
            pin = record m.0.pin { pinned = false; left = met_of m };
            upper = unpinned
                m.0.upper;
          },
          m.1,
        )
    by true l = l
    by false l = l
loads_unpinned edits z links (Err why) k m h = h

-- It is the last one of those.
pub loads_last : {T : Type 0} (edits : T → Bool) (z : Sizes) (r : Result T Halt) (k m n : MyTree)
    → turns_at k ≤ turns_at m → turns_at m ≤ turns_at n
    → LoadsFew (most_loads z) 0 m.0.upper.loads k m
    → LoadsFew (help_loads z) ((z.levels + 1) + unpaid z r) (loads_until edits r n.0.upper) m n
    → LoadsFew (most_loads z) ((z.levels + 1) + unpaid z r) (loads_until edits r n.0.upper) k n
loads_last edits z r k m n before more yet h = all_paid z ((z.levels + 1) + unpaid z r)
    (loads_until edits r n.0.upper) k m n before more yet h

-- Before the attempts of a pin: each turn and each pin pays for as many links as an attempt that
-- helps loads.
pub record HasLoadedYet (z : Sizes) (k m : MyTree) : Type 0 where
  pub pins : k.0.pin.pins ≤ m.0.pin.pins
  pub turns : turns_at k ≤ turns_at m
  pub few : m.0.upper.loads ≤ k.0.upper.loads + most_loads z * (spent_in k m + pinned_in k m)

pub none_loaded : (z : Sizes) (m : MyTree) → HasLoadedYet z m m
none_loaded z m = record { pins = omega arith; turns = omega arith; few = omega arith }

unpaid_most : {T : Type 0} (z : Sizes) (r : Result T Halt) → unpaid z r ≤ help_loads z
unpaid_most z (Ok x) = omega arith
unpaid_most z (Err (halt.Stopped (stop.Lost x))) = omega arith
unpaid_most z (Err (halt.Stopped stop.Empty)) = omega arith
unpaid_most z (Err (halt.Stopped stop.Worn)) = omega arith
unpaid_most z (Err halt.Deep) = omega arith
unpaid_most z (Err halt.Split) = omega arith
unpaid_most z (Err halt.Helped) = omega arith

-- The attempts of one pin, behind which rows may be given back.
module _ (z : Sizes) (k m n p : MyTree) (yet : HasLoadedYet z k m)
    (pins : m.0.pin.pins < n.0.pin.pins) (more : turns_at m ≤ turns_at n)
    (upper : p.0.upper ≡ n.0.upper) (same : p.0.pin.pins ≡ n.0.pin.pins)
    (later : turns_at n ≤ turns_at p) where
  -- They came to nothing.
  pub loads_refused : (links until : ℕ) → links ≤ help_loads z → until ≡ n.0.upper.loads → LoadsFew
      (most_loads z) ((z.levels + 1) + links) until m n
      → HasLoadedYet z k p
  loads_refused links until few is h = let one = yet.pins in let two = yet.turns in let
      three = yet.few in let loads = ap (λ (u : TreeView). u.loads) upper in
      let all = one_more (most_loads z) (spent_in k m + pinned_in k m) (spent_in m n)
      (spent_in k p + pinned_in k p) (omega arith) in
      record { pins = omega arith; turns = omega arith; few = omega arith }

  loads_done : (until until' : ℕ) → until' ≡ until → LoadsFew (most_loads z) ((z.levels + 1) + 0)
      until m n
      → until' ≤ k.0.upper.loads + (z.levels + 1) + most_loads z *
      (spent_in k p + (pinned_in k p - 1))
  loads_done until until' is h = let one = yet.pins in let two = yet.turns in let three = yet.few in
      let all = both_times (most_loads z) (spent_in k m + pinned_in k m) (spent_in m n)
      (spent_in k p + (pinned_in k p - 1)) (omega arith) in omega arith

  pub loads_come : {T : Type 0} (edits : T → Bool) (r : Result T Halt) (spent : Spent) (levels : ℕ)
      → LoadsFew (most_loads z) ((z.levels + 1) + unpaid z r) (loads_until edits r n.0.upper) m n
      → LoadsInAttempts edits z (refused_as r spent levels) k p
  loads_come edits (Ok x) spent levels h = loads_done (loads_by (edits x) n.0.upper)
      (loads_by (edits x) p.0.upper)
      (ap (λ (u : TreeView). loads_by (edits x) u) upper) h
  loads_come {T = T} edits (Err why) spent levels
      h = (loads_refused (unpaid_by z why) n.0.upper.loads (unpaid_most {T = T} z (Err why)) refl
      h).few

-- So it is in the call.
pub loads_told : {T : Type 0} (edits : T → Bool) (z : Sizes) (why : Cause) (o : Outcome T)
    (k m n : MyTree) → o ≡ outcome_by why
    → n.0.upper.loads ≡ m.0.upper.loads → n.0.pin ≡ m.0.pin → turns_at n ≡ turns_at m
    → LoadsInAttempts {T = T} edits z (Err why) k m → LoadsInCall edits z o k n
loads_told {T = T} edits z why o k m n is loads pin turns h = let pins = ap (λ (x : Pin). x.pins)
    pin in
    let same : spent_in k n + pinned_in k n ≡ spent_in k m + pinned_in k m = omega arith in let
    times = ap (λ (x : ℕ). most_loads z * x) same in
    subst (λ (x : Outcome T). LoadsInCall edits z x k n) (sym is) (by why (omega arith))
  where
    by : (w : Cause) → n.0.upper.loads ≤ k.0.upper.loads + most_loads z *
        (spent_in k n + pinned_in k n) → LoadsInCall {T = T} edits z (outcome_by w) k n
    by (cause.Busy s) l = l
    by (cause.Full s) l = l
    by (cause.Deep s) l = l
    by (cause.Worn s) l = l
