-- A command carries out one update at most; so a pass that is alone finds its space short of rows
-- only behind many commands, or where it has few.
use Rattle.std.proofs.Common.{◌≡◌, ◌⊎◌, ℕ, zero, suc, ◌+◌, ◌≤◌, List, Bool, true, false, ap, ◌∙◌, ⊎_elim, arith}
use Rattle.std.specs.declared.option.Option.{Option}
use Rattle.ca_adapt.specs.declared.tuning.Tuning.{Tuning}
use Rattle.ca_model.specs.declared.outcome.Changed.{Changed}
use Rattle.ca_model.specs.declared.outcome.Outcome.{Outcome}
use Rattle.ca_model.specs.declared.outcome.Outcome.TheVariants as outcome
use Rattle.ca_model.specs.Answer.{IsDone}
use Rattle.ca_node.specs.TreeView.{Renewal, TreeView}
use Rattle.ca_rows.specs.declared.sizes.Sizes.{Sizes}
use Rattle.ca_replace.specs.declared.adapting.Last.{Last}
use Rattle.ca_replace.specs.Adapting.{Leaves, LeavesInCall}
use Rattle.ca_replace.specs.Levels.{Any, FullComesLate, HasAnswered, HasBeenAnswered, HasCalled, HasPlayed, HasReadAndCalled, HasReadFor, HasTried, IsLastTry, IsTry, Refused, UpdatesByCommands}
use Rattle.ca_replace.specs.Resting.{StoreView}
use Rattle.ca_replace.specs.TreePromises.{MakesNoUpdate}
use Rattle.ca_replace.proofs.Levels.{reads_none, reads_of, reads_on, splits_then}

-- It carried out no update; any call carried out one at most.
no_update : {T : Type 0} (edits : T → Bool) (z : Sizes) (tuning : Tuning) (last last' : Last)
    (o : Outcome T) (u v : TreeView)
    → ¬ IsDone o → LeavesInCall edits z tuning last last' o u v → v.renewal ≡ u.renewal
no_update edits z tuning last last' (outcome.Done x) u v none h = absurd (none tt)
no_update edits z tuning last last' (outcome.Busy spent) u v none h = h.1
no_update edits z tuning last last' (outcome.Full full) u v none h = h.1
no_update edits z tuning last last' (outcome.Deep level) u v none h = h.1
no_update edits z tuning last last' (outcome.Worn counter) u v none h = h.1

updates_by : (edits : Bool) (z : Sizes) (tuning : Tuning) (last last' : Last) (u v : TreeView)
    → Leaves edits z tuning last last' u v → v.renewal.count ≤ u.renewal.count + 1
updates_by true z tuning last last' u v h = let one = h.one_more in omega arith
updates_by false z tuning last last' u v h = let same = ap (λ (r : Renewal). r.count) h.1 in
    omega arith

one_update : {T : Type 0} (edits : T → Bool) (z : Sizes) (tuning : Tuning) (last last' : Last)
    (o : Outcome T) (u v : TreeView)
    → LeavesInCall edits z tuning last last' o u v → v.renewal.count ≤ u.renewal.count + 1
one_update edits z tuning last last' (outcome.Done x) u v h = updates_by (edits x) z tuning last
    last' u v h
one_update edits z tuning last last' (outcome.Busy spent) u v h = updates_by false z tuning last
    last' u v h
one_update edits z tuning last last' (outcome.Full full) u v h = updates_by false z tuning last
    last' u v h
one_update edits z tuning last last' (outcome.Deep level) u v h = updates_by false z tuning last
    last' u v h
one_update edits z tuning last last' (outcome.Worn counter) u v h = updates_by false z tuning last
    last' u v h

-- No update was carried out, or so many, at most.
abbrev IsUnrenewed : StoreView → StoreView → Type 0
IsUnrenewed s t = t.seat.me.0.upper.renewal ≡ s.seat.me.0.upper.renewal

abbrev Updates : ℕ → StoreView → StoreView → Type 0
Updates n s t = t.seat.me.0.upper.renewal.count ≤ s.seat.me.0.upper.renewal.count + n

counted : (s u t : StoreView) (n : ℕ) → IsUnrenewed s u → Updates n u t → Updates n s t
counted s u t n same few = let count = ap (λ (r : Renewal). r.count) same in omega arith

counted_then : (s u t : StoreView) (n : ℕ) → Updates n s u → IsUnrenewed u t → Updates n s t
counted_then s u t n few same = let count = ap (λ (r : Renewal). r.count) same in omega arith

-- Calls that may edit.
refused_by : {T : Type 0} (adds : Option (List ℕ)) (s t : StoreView) → HasAnswered Refused adds s t
    T → IsUnrenewed s t
refused_by adds s t h = no_update h.2 s.z s.tuning s.last t.last h.0 s.seat.me.0.upper
    t.seat.me.0.upper h.1 h.4.adapted

was_refused : (adds : Option (List ℕ)) (s t : StoreView) → HasCalled Refused adds s t
    → IsUnrenewed s t
was_refused adds s t h = ⊎_elim
    (λ (c : HasAnswered Refused adds s t (Unit {0})). refused_by adds s t c)
    (λ (o : HasAnswered Refused adds s t Bool ⊎ HasAnswered Refused adds s t Changed). ⊎_elim
    (λ (c : HasAnswered Refused adds s t Bool). refused_by adds s t c)
    (λ (c : HasAnswered Refused adds s t Changed). refused_by adds s t c)
    o)
    h

called_by : {T : Type 0} (adds : Option (List ℕ)) (s t : StoreView) → HasAnswered Any adds s t T
    → Updates 1 s t
called_by adds s t h = one_update h.2 s.z s.tuning s.last t.last h.0 s.seat.me.0.upper
    t.seat.me.0.upper h.4.adapted

called : (adds : Option (List ℕ)) (s t : StoreView) → HasCalled Any adds s t → Updates 1 s t
called adds s t h = ⊎_elim
    (λ (c : HasAnswered Any adds s t (Unit {0})). called_by adds s t c)
    (λ (o : HasAnswered Any adds s t Bool ⊎ HasAnswered Any adds s t Changed). ⊎_elim
    (λ (c : HasAnswered Any adds s t Bool). called_by adds s t c)
    (λ (c : HasAnswered Any adds s t Changed). called_by adds s t c)
    o)
    h

-- Tries.
one_try : (adds : Option (List ℕ)) (s t : StoreView) → IsTry adds s t → IsUnrenewed s t
one_try adds s t h = ⊎_elim (λ (read : HasReadFor adds s t). (reads_of adds s t read).unrenewed)
    (λ (c : HasReadAndCalled Refused adds s t). was_refused adds c.0 t c.2
    ∙ (reads_of adds s c.0 c.1).unrenewed) h

tried : (tries : ℕ) (adds : Option (List ℕ)) (s t : StoreView) → HasTried tries adds s t
    → IsUnrenewed s t
tried zero adds s t is = ap (λ (v : StoreView). v.seat.me.0.upper.renewal) is
tried (suc tries) adds s t h = one_try adds h.0 t h.2 ∙ tried tries adds s h.0 h.1

last_try : (adds : Option (List ℕ)) (s t : StoreView) → IsLastTry adds s t → Updates 1 s t
last_try adds s t h = ⊎_elim
    (λ (read : MakesNoUpdate s t). let same = ap (λ (r : Renewal). r.count) read.unrenewed in
    omega arith)
    (λ (c : HasReadAndCalled Any adds s t). counted s c.0 t 1 (reads_of adds s c.0 c.1).unrenewed
    (called adds c.0 t c.2)) h

answered : (adds : Option (List ℕ)) (s t : StoreView) → HasBeenAnswered adds s t → Updates 1 s t
answered adds s t h = counted s h.1 t 1 (tried h.0 adds s h.1 h.2) (last_try adds h.1 t h.3)

-- Commands.
pub update_by_commands : UpdatesByCommands
update_by_commands zero s t h = let same = ap (λ (r : Renewal). r.count) h.unrenewed in omega arith
update_by_commands (suc commands) s t h = let few = update_by_commands commands s h.1 h.3 in
    let one = counted_then h.1 h.2 t 1 (answered h.0 h.1 h.2 h.4) h.5.unrenewed in omega arith

-- As a command is tried no more updates were carried out than by those before it.
updates_then : (commands tries : ℕ) (s t v w : StoreView) (adds : Option (List ℕ))
    → HasPlayed commands s t → HasTried tries adds t v
    → HasReadFor adds v w → Updates commands s w
updates_then commands tries s t v w adds before refused read = counted_then s t w commands
    (update_by_commands commands s t before)
    ((reads_of adds v w read).unrenewed ∙ tried tries adds t v refused)

-- The space has few rows, where it is short of them then.
pub full_late : FullComesLate
full_late commands tries s t v w adds one none unrenewed before refused read short =
    let grew = splits_then commands tries s t v w adds one before refused read in
    let cuts = grew.1 in
    let updates = updates_then commands tries s t v w adds before refused read in
    let same = ap (λ (z : Sizes). z.rows) grew.0.sizes in let rows = short.0 in
    let linked = short.1.0 in let bases = short.1.1 in omega arith

-- Commands that are followed by a read, or by one more.
pub plays_read : (commands : ℕ) (s u t : StoreView) → HasPlayed commands s u → MakesNoUpdate u t
    → HasPlayed commands s t
plays_read zero s u t h read = reads_on s u t h read
plays_read (suc commands) s u t h read = (h.0, h.1, h.2, h.3, h.4, reads_on h.2 u t h.5 read)

pub plays_more : (commands : ℕ) (adds : Option (List ℕ)) (s u t : StoreView)
    → HasPlayed commands s u → HasBeenAnswered adds u t
    → HasPlayed (suc commands) s t
plays_more commands adds s u t before h = (adds, u, t, before, h, reads_none t)
