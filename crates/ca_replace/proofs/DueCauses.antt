-- Why a due split was not carried out: what was met since the update.
use Rattle.std.proofs.Common.{◌≡◌, ℕ, ◌+◌, Bool, true, List, Result, Ok, Err, IsOk, sym, refl, ap, ◌∙◌, subst, inl, inr, ⊎_elim, arith}
use denote.Ref.{Bor}
use Rattle.ca_base.specs.declared.stop.Stop.{Stop}
use Rattle.ca_replace.specs.declared.attempting.Halt.{Halt}
use Rattle.ca_adapt.specs.declared.adapted.Adapted.{Adapted}
use Rattle.ca_adapt.specs.declared.adapted.Adapted.TheVariants as adapted
use Rattle.ca_adapt.specs.declared.adapted.Why.{Why}
use Rattle.ca_adapt.specs.declared.adapted.Why.TheVariants as why
use Rattle.ca_adapt.specs.Splits.{IsOneTry, IsSplitOutcome, IsWhyNotSplit}
use Rattle.ca_base.specs.Counting.{HasMet, losses}
use Rattle.ca_model.specs.declared.outcome.Spent.{Spent}
use Rattle.ca_node.specs.declared.cursor.Cursor.{Cursor}
use Rattle.ca_node.specs.declared.cursor.Spot.TheVariants as spot
use Rattle.ca_node.specs.Told.{MyTree, one_more_lost}
use Rattle.ca_node.specs.TreeView.{Note, Renewal, TreeView}
use Rattle.ca_node.specs.Walking.{IsWalked}
use Rattle.ca_model.specs.declared.outcome.Cause.{Cause}
use Rattle.ca_replace.specs.Adapting.{HasMetMore, HasMetNothing, IfEdited, IsCauseMet, IsMetUnsplit, IsNew}
use Rattle.ca_replace.proofs.Counted.{none_met}
use Rattle.ca_replace.specs.Attempting.{come_to, refused_as}
use Rattle.ca_rows.specs.declared.sizes.Sizes.{Sizes}
use Rattle.ca_rows.specs.declared.view.Met.{Met}
use Rattle.ca_rows.specs.Told.{met_of}

-- Where nothing had been met since the update until a moment, and the update is the last one still,
-- so much was met since it as was met since that moment.
met_more : (empty worn links : ℕ) (m m' : MyTree)
    → met_of m ≡ m.0.upper.renewal.met → m.0.upper.lost ≡ m.0.upper.renewal.lost
    → m'.0.upper.renewal ≡ m.0.upper.renewal → HasMet empty worn m m'
    → m'.0.upper.lost ≡ m.0.upper.lost + links
    → HasMetMore empty worn links m'.0.upper.renewal (met_of m') m'.0.upper.lost
met_more empty worn links m m' met lost same more links_are = let
    emptied = ap (λ (x : Met). x.empty) met in
    let worn_out = ap (λ (x : Met). x.worn) met in
    let then_empty = ap (λ (r : Renewal). r.met.empty) same in
    let then_worn = ap (λ (r : Renewal). r.met.worn) same in
    let then_lost = ap (λ (r : Renewal). r.lost) same in
    let one = more.0 in let two = more.1 in
    (omega arith, omega arith, omega arith)

met_nothing : (m m' : MyTree) → met_of m ≡ m.0.upper.renewal.met
    → m.0.upper.lost ≡ m.0.upper.renewal.lost → m'.0.upper.renewal ≡ m.0.upper.renewal
    → HasMet 0 0 m m' → m'.0.upper.lost ≡ m.0.upper.lost → losses m' ≡ losses m
    → HasMetNothing m'.0.upper.renewal (met_of m') m'.0.upper.lost
met_nothing m m' met lost same more links_are all = let pool = ap (λ (x : Met). x.lost) met in
    let then = ap (λ (r : Renewal). r.met.lost) same in
    (met_more 0 0 0 m m' met lost same more (omega arith), omega arith)

-- So it was where nothing became of the pass since that moment.
still_met : (m m' : MyTree) → met_of m ≡ m.0.upper.renewal.met
    → m.0.upper.lost ≡ m.0.upper.renewal.lost → m' ≡ m
    → HasMetNothing m'.0.upper.renewal (met_of m') m'.0.upper.lost
still_met m m' met lost e = subst
    (λ (x : MyTree). HasMetNothing x.0.upper.renewal (met_of x) x.0.upper.lost) (sym e)
    (met_nothing m m met lost refl (none_met m) refl refl)

-- No attempt to join was begun since the update, if none was until a moment, nor from then on.
still_tried : (u v : TreeView) → u.tries ≡ u.renewal.tries → v.tries ≡ u.tries → v.renewal ≡ u.renewal
    → v.tries ≡ v.renewal.tries
still_tried u v none same renewal = same ∙ (none ∙ ap (λ (r : Renewal). r.tries) (sym renewal))

-- As the pass had walked to the key of its update, nothing had been met since.
pub walked_met : (z : Sizes) (key : Bor (List ℕ)) (placed : ℕ) (k m : MyTree) (cursor : Cursor)
    → IsNew placed key.now (met_of k) k.0.upper → IsWalked z (spot.At key) k cursor m
    → (met_of m ≡ m.0.upper.renewal.met) × (m.0.upper.lost ≡ m.0.upper.renewal.lost)
    × (m.0.upper.tries ≡ m.0.upper.renewal.tries)
walked_met z key placed k m cursor new w = (
  ap met_of w.now ∙ (new.met_are ∙ ap (λ (x : MyTree). x.0.upper.renewal.met) (sym w.now)),
  ap (λ (x : MyTree). x.0.upper.lost) w.now
      ∙ (new.lost_are ∙ ap (λ (x : MyTree). x.0.upper.renewal.lost) (sym w.now)),
  ap (λ (x : MyTree). x.0.upper.tries) w.now
      ∙ (new.tries_are ∙ ap (λ (x : MyTree). x.0.upper.renewal.tries) (sym w.now)),
)

-- What a try to split a base answers was met since the update, where nothing had been met since
-- until then.
split_met_by : (z : Sizes) (note : Note) (w : Why) (m m' : MyTree)
    → met_of m ≡ m.0.upper.renewal.met → m.0.upper.lost ≡ m.0.upper.renewal.lost
    → IsWhyNotSplit z note w m m' → IsMetUnsplit w m'.0.upper.renewal (met_of m') m'.0.upper.lost
split_met_by z note why.Root m m' met lost h = absurd h
split_met_by z note why.OneObject m m' met lost h = still_met m m' met lost h.1
split_met_by z note why.AtLevel m m' met lost h = still_met m m' met lost h.2
split_met_by z note why.SiblingRoute m m' met lost h = absurd h
split_met_by z note why.TooMany m m' met lost h = absurd h
split_met_by z note why.Taken m m' met lost h = absurd h
split_met_by z note why.Lost m m' met lost h = let pool = ap (λ (x : Met). x.lost) met in
    let more = h.1 in ⊎_elim
    (λ (e : m'.0.upper ≡ m.0.upper). let then = ap (λ (u : TreeView). u.renewal.met.lost) e in
    let links = ap (λ (u : TreeView). u.lost) e in
    inl (
      met_more 0 0 0 m m' met lost (ap (λ (u : TreeView). u.renewal) e) h.2 (omega arith),
      omega arith,
    ))
    (λ (e : m'.0.upper ≡ one_more_lost m.0.upper).
    inr (met_more 0 0 1 m m' met lost (ap (λ (u : TreeView). u.renewal) e) h.2
    (ap (λ (u : TreeView). u.lost) e))) h.3
split_met_by z note why.NoRow m m' met lost h = let links = ap (λ (u : TreeView). u.lost) h.2 in
    met_more 1 0 0 m m' met lost (ap (λ (u : TreeView). u.renewal) h.2) h.1 (omega arith)
split_met_by z note why.Worn m m' met lost h = let links = ap (λ (u : TreeView). u.lost) h.2 in
    met_more 0 1 0 m m' met lost (ap (λ (u : TreeView). u.renewal) h.2) h.1 (omega arith)

-- Such a try leaves what the pass tried to join, and its last update.
unsplit_tried : (z : Sizes) (note : Note) (w : Why) (m m' : MyTree) → m.0.upper.tries ≡ m.0.upper.renewal.tries
    → IsWhyNotSplit z note w m m' → m'.0.upper.tries ≡ m'.0.upper.renewal.tries
unsplit_tried z note why.Root m m' none h = absurd h
unsplit_tried z note why.OneObject m m' none h = still_tried m.0.upper m'.0.upper none
    (ap (λ (x : MyTree). x.0.upper.tries) h.1) (ap (λ (x : MyTree). x.0.upper.renewal) h.1)
unsplit_tried z note why.AtLevel m m' none h = still_tried m.0.upper m'.0.upper none
    (ap (λ (x : MyTree). x.0.upper.tries) h.2) (ap (λ (x : MyTree). x.0.upper.renewal) h.2)
unsplit_tried z note why.SiblingRoute m m' none h = absurd h
unsplit_tried z note why.TooMany m m' none h = absurd h
unsplit_tried z note why.Taken m m' none h = absurd h
unsplit_tried z note why.Lost m m' none h = ⊎_elim
    (λ (e : m'.0.upper ≡ m.0.upper). still_tried m.0.upper m'.0.upper none
    (ap (λ (u : TreeView). u.tries) e) (ap (λ (u : TreeView). u.renewal) e))
    (λ (e : m'.0.upper ≡ one_more_lost m.0.upper). still_tried m.0.upper m'.0.upper none
    (ap (λ (u : TreeView). u.tries) e) (ap (λ (u : TreeView). u.renewal) e)) h.3
unsplit_tried z note why.NoRow m m' none h = still_tried m.0.upper m'.0.upper none
    (ap (λ (u : TreeView). u.tries) h.2) (ap (λ (u : TreeView). u.renewal) h.2)
unsplit_tried z note why.Worn m m' none h = still_tried m.0.upper m'.0.upper none
    (ap (λ (u : TreeView). u.tries) h.2) (ap (λ (u : TreeView). u.renewal) h.2)

-- The pass walked to the key of its update anew, and tried to split the base that it came to.
pub split_met : (z : Sizes) (key : Bor (List ℕ)) (placed : ℕ) (note : Note) (a : Adapted)
    (k m m' : MyTree) (cursor : Cursor)
    → IsNew placed key.now (met_of k) k.0.upper → IsWalked z (spot.At key) k cursor m
    → IsSplitOutcome z note a m m' → IsOneTry a m m' → IsCauseMet a (met_of m') m'.0.upper
split_met z key placed note adapted.Stay k m m' cursor new w h once = absurd h
split_met z key placed note adapted.Split k m m' cursor new w h once = let e = h.2.2 in (
  met_nothing m m' (walked_met z key placed k m cursor new w).0
      (walked_met z key placed k m cursor new w).1
      (ap (λ (u : TreeView). u.renewal) e) h.1 (ap (λ (u : TreeView). u.lost) e) (once refl),
  still_tried m.0.upper m'.0.upper (walked_met z key placed k m cursor new w).2
      (ap (λ (u : TreeView). u.tries) e) (ap (λ (u : TreeView). u.renewal) e),
)
split_met z key placed note adapted.Joined k m m' cursor new w h once = absurd h
split_met z key placed note (adapted.NotSplit r) k m m' cursor new w h once = (
  split_met_by z note r m m' (walked_met z key placed k m cursor new w).0
      (walked_met z key placed k m cursor new w).1 h,
  unsplit_tried z note r m m' (walked_met z key placed k m cursor new w).2 h,
)
split_met z key placed note (adapted.NotJoined r) k m m' cursor new w h once = absurd h

-- Where nothing was tried nothing was met since the update: neither as it was carried out, nor behind
-- the walk to its key.
pub new_met : (key : List ℕ) (placed : ℕ) (k : MyTree) → IsNew placed key (met_of k) k.0.upper
    → IsCauseMet adapted.Stay (met_of k) k.0.upper
new_met key placed k new = (still_met k k new.met_are new.lost_are refl, new.tries_are)

pub elsewhere_met : (z : Sizes) (key : Bor (List ℕ)) (placed : ℕ) (k m : MyTree) (cursor : Cursor)
    → IsNew placed key.now (met_of k) k.0.upper → IsWalked z (spot.At key) k cursor m
    → IsCauseMet adapted.Stay (met_of m) m.0.upper
elsewhere_met z key placed k m cursor new w = (
  still_met m m (walked_met z key placed k m cursor new w).0
      (walked_met z key placed k m cursor new w).1 refl,
  (walked_met z key placed k m cursor new w).2,
)

-- So it was by what followed an attempt's exchange.
settled_by : (P : Type 0) (tried : Result (Unit {0}) Stop) → (IsOk tried → P)
    → IfEdited {E = Halt} (λ _. true) (come_to tried) P
settled_by P (Ok x) met = met refl
settled_by P (Err why) met = tt

pub settled_met : (P : Type 0) (tried : Result (Unit {0}) Stop) (r : Result (Unit {0}) Halt)
    → r ≡ come_to tried → (IsOk tried → P)
    → IfEdited (λ (_ : Unit {0}). true) r P
settled_met P tried r is met = subst
    (λ (x : Result (Unit {0}) Halt). IfEdited
    (λ (_ : Unit {0}). true) x P) (sym is) (settled_by P tried met)

-- So it is as attempts end a call.
met_refused : {T : Type 0} (P : Type 0) (edits : T → Bool) (tried : Result T Halt) (spent : Spent)
    (levels : ℕ) → IfEdited edits tried P
    → IfEdited edits (refused_as tried spent levels) P
met_refused P edits (Ok x) spent levels h = h
met_refused P edits (Err why) spent levels h = tt

pub refused_met : {T : Type 0} (P : Type 0) (edits : T → Bool) (tried : Result T Halt)
    (r : Result T Cause) (spent : Spent) (levels : ℕ)
    → r ≡ refused_as tried spent levels → IfEdited edits tried P → IfEdited edits r P
refused_met {T} P edits tried r spent levels is h = subst
    (λ (x : Result T Cause). IfEdited edits x P) (sym is)
    (met_refused P edits tried spent levels h)
