-- How many links the attempts of a call load that reads what is within edges, one behind the other.
use Rattle.std.proofs.Common.{◌≡◌, Bool, ℕ, ◌+◌, ◌*◌, ◌≤◌, Vec, ap, ⊎_elim, arith}
use Rattle.std.proofs.Math.Nat.{mul-le-mul_left}
use Rattle.std.specs.Global.{Global}
use Rattle.ca_model.specs.declared.outcome.Spent.{Spent}
use Rattle.ca_node.specs.declared.cursor.Cursor.{Cursor}
use Rattle.ca_node.specs.declared.cursor.Spot.{Spot}
use Rattle.ca_node.specs.Told.{IsLed, IsLedToBase, IsLedToRoute, MyTree}
use Rattle.ca_node.specs.TreeView.{TreeView}
use Rattle.ca_node.specs.Walking.{IsWalked}
use Rattle.ca_range.specs.Clearing.{turns_at}
use Rattle.ca_range.specs.Loading.{snapshot_loads}
use Rattle.ca_replace.specs.Aside.{HasLookedAside, HasLookedLeft}
use Rattle.ca_replace.specs.Bounded.{pinned_in, spent_in}
use Rattle.ca_replace.specs.Leaving.{HasLeft}
use Rattle.ca_replace.specs.Loading.{LoadsFew, LoadsInLook, LoadsInRead, read_loads}
use Rattle.ca_replace.proofs.Loads.{at_least, both_times}
use Rattle.ca_replace.proofs.LooksLeft.{left_behind}
use Rattle.ca_replace.proofs.Pacing.{paid_more}
use Rattle.ca_replace.specs.Attempting.{IsPaid}
use Rattle.ca_rows.specs.declared.kept.Kept.{Kept}
use Rattle.ca_rows.specs.declared.sizes.Sizes.{Sizes}
use Rattle.ca_rows.specs.declared.view.Pin.{Pin}

-- One link was loaded.
pub led_once : (walks : Bool) (link : ℕ) (m n : MyTree) (row : ℕ) → IsLed walks link m row n
    → n.0.upper.loads ≡ m.0.upper.loads + 1
led_once walks link m n row led = ⊎_elim (λ (b : IsLedToBase walks link m row n). ap
    (λ (x : MyTree). x.0.upper.loads) b.now)
    (λ (w : IsLedToRoute link m row n). ap (λ (x : MyTree). x.0.upper.loads) w.now) led

-- One look more to the left is a walk, and a turn.
pub look_more : (z : Sizes) (route : ℕ) (cursor : Cursor) (k m n : MyTree)
    → HasLookedAside z route cursor m n → turns_at k ≤ turns_at m
    → LoadsFew (z.levels + 1) 0 m.0.upper.loads k m → LoadsFew (z.levels + 1) 0 n.0.upper.loads k n
look_more z route cursor k m n h before yet = let w = h.walked in let few = w.few in
    let walked = ap (λ (x : MyTree). x.0.upper.loads) w.now in
    let now = ap (λ (x : MyTree). x.0.upper.loads) h.counted in
    let turn = ap turns_at h.counted in let still = ap turns_at w.now in
    let all = both_times (z.levels + 1) (spent_in k m) 1 (spent_in k n) (omega arith) in omega arith

-- A walk was made before them.
pub looks_behind : (z : Sizes) (spot : Spot) (a b : Spent) (k m n : MyTree) (cursor : Cursor)
    → IsWalked z spot k cursor m → HasLookedLeft z a b m n
    → LoadsFew (z.levels + 1) 0 n.0.upper.loads m n → LoadsFew (z.levels + 1) (z.levels + 1)
    n.0.upper.loads k n
looks_behind z spot a b k m n cursor w h looks = let few = w.few in
    let walked = ap (λ (x : MyTree). x.0.upper.loads) w.now in
    let still = ap turns_at w.now in let same : spent_in k n ≡ spent_in m n = omega arith in
    let times = ap (λ (x : ℕ). (z.levels + 1) * x) same in omega arith

-- A snapshot was taken behind them.
pub looks_snapped : (z : Sizes) (k m n : MyTree) → turns_at k ≤ turns_at m → turns_at m ≤ turns_at n
    → LoadsFew (z.levels + 1) (z.levels + 1) m.0.upper.loads k m
    → n.0.upper.loads ≤ m.0.upper.loads + snapshot_loads z → LoadsInLook z k n
looks_snapped z k m n before more looks few =
    let all : (z.levels + 1) * spent_in k m ≤ (z.levels + 1) * spent_in k n =
    mul-le-mul_left (z.levels + 1) (omega arith) in omega arith

-- So it is of a walk, looks to the left, and a snapshot.
pub looks_taken : (z : Sizes) (spot : Spot) (a b d : Spent) (k m n v : MyTree) (cursor : Cursor)
    → IsWalked z spot k cursor m → HasLookedLeft z a b m n
    → LoadsFew (z.levels + 1) 0 n.0.upper.loads m n → IsPaid b d n v
    → v.0.upper.loads ≤ n.0.upper.loads + snapshot_loads z → LoadsInLook z k v
looks_taken z spot a b d k m n v cursor w h looks paid few = looks_snapped z k n v
    (paid_more a b k n (left_behind z a b spot k m n cursor w h).paid) (paid_more b d n v paid)
    (looks_behind z spot a b k m n cursor w h looks) few

-- Nothing was loaded or spent behind it.
pub look_still : (z : Sizes) (k m n : MyTree) → n.0.upper.loads ≡ m.0.upper.loads
    → turns_at n ≡ turns_at m → LoadsInLook z k m → LoadsInLook z k n
look_still z k m n loads turns h = let same : spent_in k n ≡ spent_in k m = omega arith in
    let times = ap (λ (x : ℕ). (z.levels + 1) * x) same in omega arith

-- It was made under a pin of its own.
pub look_pinned : (z : Sizes) (k m n p : MyTree) → m.0.upper.loads ≡ k.0.upper.loads
    → turns_at m ≡ turns_at k → LoadsInLook z m n
    → p.0.upper.loads ≡ n.0.upper.loads → turns_at p ≡ turns_at n → p.0.pin.pins ≡ k.0.pin.pins + 1
    → LoadsInRead z k p
look_pinned z k m n p loads turns h loads' turns' once = let same : spent_in k p ≡ spent_in m n =
    omega arith in
    let times = ap (λ (x : ℕ). (z.levels + 1) * x) same in let each = at_least (read_loads z)
    (pinned_in k p) (omega arith) in omega arith

-- Over the attempts so far.
pub record HasReadYet (z : Sizes) (k m : MyTree) : Type 0 where
  pub pins : k.0.pin.pins ≤ m.0.pin.pins
  pub turns : turns_at k ≤ turns_at m
  pub few : LoadsInRead z k m

pub none_read : (z : Sizes) (m : MyTree) → HasReadYet z m m
none_read z m = record { pins = omega arith; turns = omega arith; few = omega arith }

pub read_both : (z : Sizes) (k m n : MyTree) → HasReadYet z k m → HasReadYet z m n
    → HasReadYet z k n
read_both z k m n a b = let one = a.pins in let two = b.pins in let three = a.turns in
    let four = b.turns in let few = a.few in let more = b.few in
    let pins = both_times (read_loads z) (pinned_in k m) (pinned_in m n) (pinned_in k n)
    (omega arith) in
    let turns = both_times (z.levels + 1) (spent_in k m) (spent_in m n) (spent_in k n)
    (omega arith) in
    record { pins = omega arith; turns = omega arith; few = omega arith }

-- Rows were given back behind them, or a call was refused: the pass didn't pin anew.
pub read_still : (z : Sizes) (k m n : MyTree) → n.0.upper.loads ≡ m.0.upper.loads
    → n.0.pin.pins ≡ m.0.pin.pins → turns_at m ≤ turns_at n → HasReadYet z k m
    → HasReadYet z k n
read_still z k m n loads pins more h = let one = h.pins in let two = h.turns in let few = h.few in
    let same : pinned_in k n ≡ pinned_in k m = omega arith in
    let times = ap (λ (x : ℕ). read_loads z * x) same in
    let all : (z.levels + 1) * spent_in k m ≤ (z.levels + 1) * spent_in k n = mul-le-mul_left
    (z.levels + 1) (omega arith) in
    record { pins = omega arith; turns = omega arith; few = omega arith }

loads_still : (z : Sizes) (k m n : MyTree) → n.0.upper.loads ≡ m.0.upper.loads
    → n.0.pin.pins ≡ m.0.pin.pins → turns_at m ≤ turns_at n → LoadsInRead z k m
    → LoadsInRead z k n
loads_still z k m n loads pins more few = let same : pinned_in k n ≡ pinned_in k m = omega arith in
    let times = ap (λ (x : ℕ). read_loads z * x) same in
    let all : (z.levels + 1) * spent_in k m ≤ (z.levels + 1) * spent_in k n = mul-le-mul_left
    (z.levels + 1) (omega arith) in omega arith

-- The call was refused.
pub read_refused : (z : Sizes) (k m n : MyTree) → n.0.upper.loads ≡ m.0.upper.loads
    → n.0.pin ≡ m.0.pin → turns_at n ≡ turns_at m → LoadsInRead z k m
    → LoadsInRead z k n
read_refused z k m n loads pin turns few = loads_still z k m n loads (ap (λ (x : Pin). x.pins) pin)
    (omega arith) few

-- The pass rests behind it.
module _ (z : Sizes) (k m n : MyTree) (kept' : Vec Kept Global) where
  pub left_loads : HasLeft m n kept' → n.0.pin.left.lost ≤ n.0.lost → LoadsInRead z k m
      → LoadsInRead z k n
  left_loads l lost few = let links = ap (λ (u : TreeView). u.lost) l.upper in
      let before = l.left in
      let helped = ap (λ (u : TreeView). u.turns.helped) l.upper in
      let passed = ap (λ (u : TreeView). u.turns.passed) l.upper in
      loads_still z k m n (ap (λ (u : TreeView). u.loads) l.upper) l.bounded.0 (omega arith) few
