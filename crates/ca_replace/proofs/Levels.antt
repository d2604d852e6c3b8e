-- A pass that is alone splits two bases a command at most, and so its tree grows no deeper.
use Rattle.std.proofs.Common.{◌≡◌, ◌⊎◌, ℕ, zero, suc, ◌+◌, ◌*◌, ◌≤◌, List, Bool, ap, refl, sym, subst, ◌∙◌, inl, ⊎_elim, arith}
use Rattle.std.specs.declared.option.Option.{Option}
use Rattle.std.specs.declared.option.Option.TheVariants.{None, Some}
use Rattle.ca_model.specs.declared.outcome.Changed.{Changed}
use Rattle.ca_model.specs.declared.outcome.Outcome.{Outcome}
use Rattle.ca_model.specs.declared.outcome.Outcome.TheVariants as outcome
use Rattle.ca_model.specs.Answer.{IfRefused, IsDone}
use Rattle.ca_node.specs.TreeView.{TreeView}
use Rattle.ca_rows.specs.declared.sizes.Sizes.{Sizes}
use Rattle.ca_replace.specs.Alone.{HadNoRoom}
use Rattle.ca_replace.specs.Called.{StaysStore}
use Rattle.ca_replace.specs.Growing.{Grows, GrowsInCall, HasRoomFor, HasWaited, IsSameTree}
use Rattle.ca_replace.specs.Levels.{Any, DeepComesLate, HasAnswered, HasBeenAnswered, HasCalled, HasPlayed, HasReadAndCalled, HasReadFor, HasTried, IsLastTry, IsTry, Refused, SplitsByCommands}
use Rattle.ca_replace.specs.Resting.{StoreView}
use Rattle.ca_replace.specs.TreePromises.{MakesNoUpdate, OnlyLooks}
use Rattle.ca_replace.proofs.Growing.{done, waited_on, waits}

-- The store is that of the same pass still.
pub stays : (s : StoreView) → StaysStore s s
stays s = record { table = refl; sizes = refl; tuning = refl; number = refl }

pub stays_on : (s u t : StoreView) → StaysStore s u → StaysStore u t → StaysStore s t
stays_on s u t a b = record {
  table = b.table ∙ a.table;
  sizes = b.sizes ∙ a.sizes;
  tuning = b.tuning ∙ a.tuning;
  number = b.number ∙ a.number;
}

-- A call that reads nothing, and reads behind others.
pub reads_none : (s : StoreView) → MakesNoUpdate s s
reads_none s = record {
  same = stays s;
  last = refl;
  untried = refl;
  unsplit = refl;
  unrenewed =
      refl;
}

pub reads_on : (s u t : StoreView) → MakesNoUpdate s u → MakesNoUpdate u t → MakesNoUpdate s t
reads_on s u t a b = record {
  same = stays_on s u t a.same b.same;
  last = b.last ∙ a.last;
  untried = b.untried ∙ a.untried;
  unsplit = b.unsplit ∙ a.unsplit;
  unrenewed = b.unrenewed ∙ a.unrenewed;
}

-- So it is of reads by one key alone.
pub looks_none : (s : StoreView) → OnlyLooks s s
looks_none s = record {
  unchanged = reads_none s;
  untouched = ((refl, refl), refl, refl);
  still =
      λ one. refl;
}

pub looks_on : (s u t : StoreView) → OnlyLooks s u → OnlyLooks u t → OnlyLooks s t
looks_on s u t a b = record {
  unchanged = reads_on s u t a.unchanged b.unchanged;
  untouched = let x = a.untouched in let y = b.untouched in
      ((y.0.0 ∙ x.0.0, y.0.1 ∙ x.0.1), y.1 ∙ x.1, y.2 ∙ x.2);
  still = λ one. b.still (ap (λ (z : Sizes). z.passes) a.unchanged.same.sizes ∙ one) ∙ a.still one;
}

-- And of what a command reads, whatever it adds.
pub reads_for_none : (adds : Option (List ℕ)) (s : StoreView) → HasReadFor adds s s
reads_for_none None s = reads_none s
reads_for_none (Some key) s = looks_none s

pub reads_for_on : (adds : Option (List ℕ)) (s u t : StoreView) → HasReadFor adds s u
    → HasReadFor adds u t → HasReadFor adds s t
reads_for_on None s u t a b = reads_on s u t a b
reads_for_on (Some key) s u t a b = looks_on s u t a b

pub looks_for : (adds : Option (List ℕ)) (s t : StoreView) → OnlyLooks s t → HasReadFor adds s t
looks_for None s t h = h.unchanged
looks_for (Some key) s t h = h

pub reads_of : (adds : Option (List ℕ)) (s t : StoreView) → HasReadFor adds s t → MakesNoUpdate s t
reads_of None s t h = h
reads_of (Some key) s t h = h.unchanged

-- A call that was refused, or several: the pass learnt of nothing, and split one base at most, and
-- then there is room for the key that they may add.
record Declined (adds : Option (List ℕ)) (s t : StoreView) : Type 0 where
  same : StaysStore s t
  seen : t.seat.me.0.upper.seen ≡ s.seat.me.0.upper.seen
  tree : HasWaited s.z adds s.seat.me.0.upper t.seat.me.0.upper

waited : {T : Type 0} (z : Sizes) (adds : Option (List ℕ)) (o : Outcome T) (u v : TreeView)
    → ¬ IsDone o
    → GrowsInCall z adds o u v → HasWaited z adds u v
waited z adds (outcome.Done x) u v none g = absurd (none tt)
waited z adds (outcome.Busy spent) u v none g = g
waited z adds (outcome.Full full) u v none g = g
waited z adds (outcome.Deep level) u v none g = g
waited z adds (outcome.Worn counter) u v none g = g

still : {T : Type 0} (o : Outcome T) (P : Type 0) → ¬ IsDone o → IfRefused o (λ _. P) → P
still (outcome.Done x) P none h = absurd (none tt)
still (outcome.Busy spent) P none h = h
still (outcome.Full full) P none h = h
still (outcome.Deep level) P none h = h
still (outcome.Worn counter) P none h = h

-- One of them answers with these.
refused_by : {T : Type 0} (adds : Option (List ℕ)) (s t : StoreView) → s.z.passes ≡ 1
    → HasAnswered Refused adds s t T → Declined adds s t
refused_by adds s t one h = let told = h.4 in record {
  same = told.same;
  seen = still h.0 (t.seat.me.0.upper.seen ≡ s.seat.me.0.upper.seen) h.1 (told.still one);
  tree = waited s.z adds h.0 s.seat.me.0.upper t.seat.me.0.upper h.1 (told.grows one);
}

was_refused : (adds : Option (List ℕ)) (s t : StoreView) → s.z.passes ≡ 1
    → HasCalled Refused adds s t → Declined adds s t
was_refused adds s t one h = ⊎_elim
    (λ (c : HasAnswered Refused adds s t (Unit {0})). refused_by adds s t one c)
    (λ (o : HasAnswered Refused adds s t Bool ⊎ HasAnswered Refused adds s t Changed). ⊎_elim
    (λ (c : HasAnswered Refused adds s t Bool). refused_by adds s t one c)
    (λ (c : HasAnswered Refused adds s t Changed). refused_by adds s t one c)
    o)
    h

-- So many bases were split, at most.
abbrev Splits : ℕ → TreeView → TreeView → Type 0
Splits n u v = v.splits ≤ u.splits + n

-- What came to nothing split one base at most, and none where the command adds no key.
split_waited : (z : Sizes) (adds : Option (List ℕ)) (u v : TreeView) → HasWaited z adds u v
    → Splits 1 u v
split_waited z adds u v h = ⊎_elim (λ (same : IsSameTree u v). let e = same.0 in omega arith)
    (λ (t : Grows 1 2 1 u v × HasRoomFor z adds v × ¬ HasRoomFor z adds u). t.0.splits_are) h

split_none : (z : Sizes) (u v : TreeView) → HasWaited z None u v → v.splits ≡ u.splits
split_none z u v h = ⊎_elim (λ (same : IsSameTree u v). same.0)
    (λ (t : Grows 1 2 1 u v × HasRoomFor z None v × ¬ HasRoomFor z None u). absurd (t.2 tt)) h

-- A call that was done, behind tries that came to nothing.
split_done : (z : Sizes) (adds : Option (List ℕ)) (u v : TreeView)
    → Grows 1 3 1 u v ⊎ (Grows 2 5 2 u v × ¬ HasRoomFor z adds u) → Splits 2 u v
split_done z adds u v h = ⊎_elim (λ (g : Grows 1 3 1 u v). let few = g.splits_are in omega arith)
    (λ (t : Grows 2 5 2 u v × ¬ HasRoomFor z adds u). t.0.splits_are) h

split_twice : (z : Sizes) (adds : Option (List ℕ)) (u w v : TreeView) → HasWaited z adds u w
    → HasWaited z adds w v → Splits 2 u v
split_twice z adds u w v a b = let one = split_waited z adds u w a in
    let two = split_waited z adds w v b in omega arith

-- One that had any outcome.
split_adding : {T : Type 0} (z : Sizes) (adds : Option (List ℕ)) (o : Outcome T) (u w v : TreeView)
    → HasWaited z adds u w → w.seen ≡ u.seen → GrowsInCall z adds o w v → Splits 2 u v
split_adding z adds (outcome.Done x) u w v before seen g = split_done z adds u v
    (done z adds u w v before seen g)
split_adding z adds (outcome.Busy spent) u w v before seen g = split_twice z adds u w v before g
split_adding z adds (outcome.Full full) u w v before seen g = split_twice z adds u w v before g
split_adding z adds (outcome.Deep level) u w v before seen g = split_twice z adds u w v before g
split_adding z adds (outcome.Worn counter) u w v before seen g = split_twice z adds u w v before g

-- One that adds no key.
split_first : (z : Sizes) (u v : TreeView) → HasWaited z None u v → Splits 2 u v
split_first z u v h = let one = split_waited z None u v h in omega arith

split_call : {T : Type 0} (z : Sizes) (o : Outcome T) (u v : TreeView) → GrowsInCall z None o u v
    → Splits 2 u v
split_call z (outcome.Done x) u v g = split_done z None u v g
split_call z (outcome.Busy spent) u v g = split_first z u v g
split_call z (outcome.Full full) u v g = split_first z u v g
split_call z (outcome.Deep level) u v g = split_first z u v g
split_call z (outcome.Worn counter) u v g = split_first z u v g

-- A command so far, of a pass that is alone: tries that came to nothing, and what was read behind
-- them.
abbrev HasCome : Option (List ℕ) → StoreView → StoreView → Type 0
HasCome None s t = StaysStore s t × (t.seat.me.0.upper.splits ≡ s.seat.me.0.upper.splits)
HasCome (Some key) s t = Declined (Some key) s t

come_none : (adds : Option (List ℕ)) (s : StoreView) → HasCome adds s s
come_none None s = (stays s, refl)
come_none (Some key) s = record { same = stays s; seen = refl; tree = inl (refl, refl) }

come_same : (adds : Option (List ℕ)) (s t : StoreView) → HasCome adds s t → StaysStore s t
come_same None s t h = h.0
come_same (Some key) s t h = h.same

come_split : (adds : Option (List ℕ)) (s t : StoreView) → HasCome adds s t
    → Splits 1 s.seat.me.0.upper t.seat.me.0.upper
come_split None s t h = let same = h.1 in omega arith
come_split (Some key) s t h = split_waited s.z (Some key) s.seat.me.0.upper t.seat.me.0.upper h.tree

-- It is alone behind them.
lone_then : (s t : StoreView) → StaysStore s t → s.z.passes ≡ 1 → t.z.passes ≡ 1
lone_then s t h one = ap (λ (z : Sizes). z.passes) h.sizes ∙ one

come_read : (adds : Option (List ℕ)) (s u t : StoreView) → s.z.passes ≡ 1 → HasCome adds s u
    → HasReadFor adds u t → HasCome adds s t
come_read None s u t one a b = (stays_on s u t a.0 b.same, b.unsplit ∙ a.1)
come_read (Some key) s u t one a b = let seen = b.still (lone_then s u a.same one) in record {
  same = stays_on s u t a.same b.unchanged.same;
  seen = seen ∙ a.seen;
  tree = waited_on s.z (Some key) s.seat.me.0.upper u.seat.me.0.upper t.seat.me.0.upper a.tree seen
      b.untouched.0;
}

come_declined : (adds : Option (List ℕ)) (s u t : StoreView) → HasCome adds s u → Declined adds u t
    → HasCome adds s t
come_declined None s u t a d = (
  stays_on s u t a.0 d.same,
  split_none u.z u.seat.me.0.upper
      t.seat.me.0.upper d.tree ∙ a.1,
)
come_declined (Some key) s u t a d = record {
  same = stays_on s u t a.same d.same;
  seen = d.seen ∙ a.seen;
  tree = waits s.z (Some key) s.seat.me.0.upper u.seat.me.0.upper t.seat.me.0.upper a.tree a.seen
      d.seen
      (subst (λ (z : Sizes). HasWaited z (Some key) u.seat.me.0.upper t.seat.me.0.upper)
      a.same.sizes d.tree);
}

come_try : (adds : Option (List ℕ)) (s u t : StoreView) → s.z.passes ≡ 1 → HasCome adds s u
    → IsTry adds u t → HasCome adds s t
come_try adds s u t one before h = ⊎_elim (λ (r : HasReadFor adds u t). come_read adds s u t one
    before r)
    (λ (c : HasReadAndCalled Refused adds u t). let read = come_read adds s u c.0 one before c.1 in
    come_declined adds s c.0 t read
    (was_refused adds c.0 t (lone_then s c.0 (come_same adds s c.0 read) one) c.2))
    h

-- Several tries.
tried : (tries : ℕ) (adds : Option (List ℕ)) (s t : StoreView) → s.z.passes ≡ 1
    → HasTried tries adds s t → HasCome adds s t
tried zero adds s t one is = subst (λ (x : StoreView). HasCome adds s x) (sym is) (come_none adds s)
tried (suc tries) adds s t one h = come_try adds s h.0 t one (tried tries adds s h.0 one h.1) h.2

-- So many bases were split by a command, or by several.
abbrev Grew : ℕ → StoreView → StoreView → Type 0
Grew n s t = StaysStore s t × Splits n s.seat.me.0.upper t.seat.me.0.upper

-- The last call answers with these.
ends_by : {T : Type 0} (adds : Option (List ℕ)) (s u t : StoreView) → s.z.passes ≡ 1
    → HasCome adds s u → HasAnswered Any adds u t T → Grew 2 s t
ends_by None s u t one before h = let told = h.4 in (
  stays_on s u t before.0 told.same,
  (let same = before.1 in let two = split_call u.z h.0 u.seat.me.0.upper t.seat.me.0.upper
      (told.grows (lone_then s u before.0 one)) in
      omega arith),
)
ends_by (Some key) s u t one before h = let told = h.4 in (
  stays_on s u t before.same told.same,
  split_adding s.z (Some key) h.0 s.seat.me.0.upper u.seat.me.0.upper t.seat.me.0.upper before.tree
      before.seen
      (subst (λ (z : Sizes). GrowsInCall z (Some key) h.0 u.seat.me.0.upper t.seat.me.0.upper)
      before.same.sizes
      (told.grows (lone_then s u before.same one))),
)

ends : (adds : Option (List ℕ)) (s u t : StoreView) → s.z.passes ≡ 1 → HasCome adds s u
    → HasCalled Any adds u t → Grew 2 s t
ends adds s u t one before h = ⊎_elim
    (λ (c : HasAnswered Any adds u t (Unit {0})). ends_by adds s u t one before c)
    (λ (o : HasAnswered Any adds u t Bool ⊎ HasAnswered Any adds u t Changed). ⊎_elim
    (λ (c : HasAnswered Any adds u t Bool). ends_by adds s u t one before c)
    (λ (c : HasAnswered Any adds u t Changed). ends_by adds s u t one before c)
    o)
    h

last_try : (adds : Option (List ℕ)) (s u t : StoreView) → s.z.passes ≡ 1 → HasCome adds s u
    → IsLastTry adds u t → Grew 2 s t
last_try adds s u t one before h = ⊎_elim
    (λ (read : MakesNoUpdate u t). (
      stays_on s u t (come_same adds s u before) read.same,
      (let few = come_split adds s u before in let same = read.unsplit in omega arith),
    ))
    (λ (c : HasReadAndCalled Any adds u t). ends adds s c.0 t one
    (come_read adds s u c.0 one before c.1) c.2)
    h

answered : (adds : Option (List ℕ)) (s t : StoreView) → s.z.passes ≡ 1 → HasBeenAnswered adds s t
    → Grew 2 s t
answered adds s t one h = last_try adds s h.1 t one (tried h.0 adds s h.1 one h.2) h.3

-- Several commands.
pub split_by_commands : SplitsByCommands
split_by_commands zero s t one h = (h.same, let same = h.unsplit in omega arith)
split_by_commands (suc commands) s t one h = let u = h.1 in let v = h.2 in let read = h.5 in
    let before = split_by_commands commands s u one h.3 in
    let last = answered h.0 u v (lone_then s u before.0 one) h.4 in (
      stays_on s v t (stays_on s u v before.0 last.0) read.same,
      let few = before.1 in let two = last.1 in let same = read.unsplit in omega arith,
    )

-- Where calls of a command were refused that split a base, there is room for its key.
room_or_same : (z : Sizes) (key : List ℕ) (u v : TreeView) → HasWaited z (Some key) u v
    → HadNoRoom z (Some key) v → z.levels ≤ u.splits
room_or_same z key u v h full = ⊎_elim
    (λ (same : IsSameTree u v). let e = same.0 in let l = full.1 in omega arith)
    (λ (t : Grows 1 2 1 u v × HasRoomFor z (Some key) v × ¬ HasRoomFor z (Some key) u).
    let none = full.0 in let room = t.1 none.row none.place none.listed none.led in
    let many = none.full in
    absurd (omega arith))
    h

deep_then : (adds : Option (List ℕ)) (t w : StoreView) → HasCome adds t w
    → HadNoRoom w.z adds w.seat.me.0.upper → t.z.levels ≤ t.seat.me.0.upper.splits
deep_then None t w h full = absurd full
deep_then (Some key) t w h full = room_or_same t.z key t.seat.me.0.upper w.seat.me.0.upper h.tree
    (subst (λ (z : Sizes). HadNoRoom z (Some key) w.seat.me.0.upper) h.same.sizes full)

pub deep_late : DeepComesLate
deep_late commands tries s t v w adds one none before refused read full = let few =
    split_by_commands commands s t one before in
    let still = lone_then s t few.0 one in let last = come_read adds t v w still
    (tried tries adds t v still refused) read in
    let levels = deep_then adds t w last full in let most = few.1 in
    let same = ap (λ (z : Sizes). z.levels) few.0.sizes in omega arith

-- As a command is tried its pass has split so many bases by those before it, and one more at most.
pub splits_then : (commands tries : ℕ) (s t v w : StoreView) (adds : Option (List ℕ))
    → s.z.passes ≡ 1 → HasPlayed commands s t
    → HasTried tries adds t v → HasReadFor adds v w → Grew (2 * commands + 1) s w
splits_then commands tries s t v w adds one before refused read = let few = split_by_commands
    commands s t one before in
    let still = lone_then s t few.0 one in let last = come_read adds t v w still
    (tried tries adds t v still refused) read in (
      stays_on s t w few.0 (come_same adds t w last),
      let most = few.1 in let more = come_split adds t w last in omega arith,
    )
