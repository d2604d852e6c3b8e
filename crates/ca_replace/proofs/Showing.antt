-- What an attempt of a call looks at, and what it comes to.
use Rattle.std.proofs.Common.{◌≡◌, ℕ, Bool, false, ◌<◌, ◌≤◌, List, [], ◌∷◌, ◌++◌, length, map, get_or, Result, Ok, Err, IsOk, None, Some, sym, refl, ap, ◌∙◌, subst, inl, ⊎_elim, arith}
use Rattle.std.proofs.lemmas.List.{length-map}
use denote.Ref.{Bor}
use Rattle.ca_base.specs.declared.stop.Exchange.TheVariants as exchange
use Rattle.ca_base.specs.declared.stop.Stop.{Stop}
use Rattle.ca_base.specs.declared.stop.Stop.TheVariants as stop
use Rattle.ca_replace.specs.declared.attempting.Halt.{Halt}
use Rattle.ca_model.specs.Event.{Event, Entry, WriteNew}
use Rattle.ca_model.specs.History.{state}
use Rattle.ca_model.specs.Lawful.{IsPlaceFrom}
use Rattle.ca_model.specs.StoreMap.{StoreMap, IsFound, IsStoreMap, get}
use Rattle.ca_model.proofs.Edits.{found_pair}
use Rattle.ca_model.specs.Places.{IsPlace}
use Rattle.ca_node.specs.declared.cursor.Cursor.{Cursor}
use Rattle.ca_node.specs.declared.cursor.Spot.{Spot}
use Rattle.ca_node.specs.declared.cursor.Spot.TheVariants as spot
use Rattle.ca_node.specs.Inventory.{IsListed}
use Rattle.ca_node.specs.Laws.{starts_whole}
use Rattle.ca_node.specs.States.{HasState, IsAlone, IsAtPin, IsReadSince, IsUnanswered, OfSomeState}
use Rattle.ca_node.specs.Row.{object, pair}
use Rattle.ca_node.specs.Told.{MyTree, with_upper, IsEntered, IsKnown, IsSettled, led_to_base, led_to_route, IsLed, IsLedToBase, IsLedToRoute}
use Rattle.ca_node.specs.TreeView.{Note, TreeView}
use Rattle.ca_node.specs.Walking.{walked, IsBegin, IsWalked}
use Rattle.ca_node.proofs.Logs.{last_state}
use Rattle.ca_node.proofs.Parts.{part_map, part_get}
use Rattle.ca_replace.specs.Attempting.{IsLooking, HasFetched, HasDoneSuch, HasTriedTo, IsQuiet, come_to}
use Rattle.ca_replace.specs.Causes.{IsFull, IsFullSince}
use Rattle.ca_base.specs.Finding.{IsPlaceIn}
use Rattle.ca_base.specs.Progress.{IsFurther, HasDone}
use Rattle.ca_base.proofs.Fronted.{first_noted}
use Rattle.ca_base.proofs.Searching.{found_object}
use Rattle.ca_replace.proofs.Counted.{none_met}
use Rattle.ca_replace.proofs.Entries.{known_read, read_by}
use Rattle.ca_replace.proofs.States.{seen_before}
use Rattle.ca_replace.proofs.Meeting.{further_on, done_on}
use Rattle.ca_base.specs.Putting.{first_note, IsRoom, IsShownLast, HasTried, stopped}
use Rattle.ca_rows.specs.declared.sizes.Sizes.{Sizes}
use Rattle.ca_range.proofs.FirstBases.{state_is_map}

-- After a walk to a key's base that base is shown last.
pub looking : (z : Sizes) (key : Bor (List ℕ)) (m m' : MyTree) (cursor : Cursor)
    → IsWalked z (spot.At key) m cursor m' → z.leaf ≤ 120
    → IsLooking z m'.0.upper key.now cursor
looking z key m m' cursor w most =
    let u : TreeView = walked m.0.upper w.more w.note w.ways w.loads in
    let here : m'.0.upper ≡ u = ap (λ (x : MyTree). x.0.upper) w.now in
    let has : HasState z u w.note = subst (λ (v : TreeView). HasState z v w.note) here w.has in
    let known : IsKnown z u = subst (IsKnown z) here w.known in
    let few = w.is_base.few in
    subst (λ (v : TreeView). IsLooking z v key.now cursor) (sym here) record {
      readable = record {
        noted = inl (0, refl);
        here = w.cursor_is.base;
        is_base = w.is_base;
        few = omega arith;
        ordered = subst (IsStoreMap z.keypos) (sym has.has)
            (part_map z.keypos w.note.place.span (state u.seen has.at)
            (state_is_map z.keypos has.at u.seen known.edits));
      };
      at = record {
        base = w.cursor_is.base;
        link = w.cursor_is.link;
        level =
            w.cursor_is.level;
        inside = w.inside;
      };
      last = refl;
      about = w.sought;
      has = has;
      known = known;
      listed = w.listed;
      shallow = w.shallow;
      few_rows = w.few_rows;
      begins = subst (λ (v : TreeView). IsBegin z v w.note.place.span cursor) here w.begins;
    }

-- A pass that is alone lists the base that a walk came to.
pub walked_listed : (z : Sizes) (spot : Spot) (m m' : MyTree) (cursor : Cursor)
    → IsWalked z spot m cursor m' → IsAlone z m.0.upper
    → IsListed m'.0.upper.inventory (first_note m'.0.upper.notes)
walked_listed z spot m m' cursor w alone = subst
    (λ (x : MyTree). IsListed x.0.upper.inventory (first_note x.0.upper.notes)) (sym w.now)
    (w.listed alone)

-- No call was answered on the way.
pub walked_unanswered : (z : Sizes) (spot : Spot) (m m' : MyTree) (cursor : Cursor)
    → IsWalked z spot m cursor m' → IsUnanswered m.0.upper → IsUnanswered m'.0.upper
walked_unanswered z spot m m' cursor w none = subst
    (λ (x : MyTree). IsUnanswered x.0.upper) (sym w.now) none

-- On the way it learnt of others' edits alone, and lost nothing.
pub walked_further : (z : Sizes) (spot : Spot) (m m' : MyTree) (cursor : Cursor)
    → IsWalked z spot m cursor m' → IsFurther m.0.upper m'.0.upper
walked_further z spot m m' cursor w = subst
    (λ (x : MyTree). IsFurther m.0.upper x.0.upper) (sym w.now)
    record { number = refl; seen = (w.more, refl); log = refl; counts = refl }

pub walked_quiet : (z : Sizes) (spot : Spot) (m m' : MyTree) (cursor : Cursor)
    → IsWalked z spot m cursor m' → IsQuiet m m'
walked_quiet z spot m m' cursor w = subst (IsQuiet m) (sym w.now) record {
  lost = refl;
  met = none_met m;
  most = refl;
  splits_are = refl;
  same_turns = refl;
  idle = (refl, refl, refl);
  same_inventory = refl;
  same_cuts = refl;
}

-- So it did by the load of a link, after which the history that it has seen is known.
pub led_further : (z : Sizes) (link : ℕ) (m m' : MyTree) (row : ℕ) → IsLed false link m row m'
    → m.0.sizes ≡ z → 0 < z.rows
    → (u : TreeView) × (m' ≡ with_upper m u) × IsFurther m.0.upper m'.0.upper × IsKnown z m'.0.upper
led_further z link m m' row led sized some_rows = let rows : 0 < m.0.sizes.rows = subst
    (λ (y : Sizes). 0 < y.rows) (sym sized) some_rows in ⊎_elim
    (λ (b : IsLedToBase false link m row m'). (
      led_to_base m.0.upper b.more b.note m.0.upper.last m.0.upper.shown,
      b.now,
      subst (λ (x : MyTree). IsFurther m.0.upper x.0.upper) (sym b.now)
          (record { number = refl; seen = (b.more, refl); log = refl; counts = refl }),
      subst (λ (x : MyTree). IsKnown z x.0.upper) (sym b.now) (subst
          (λ (y : Sizes).
          IsKnown y (led_to_base m.0.upper b.more b.note m.0.upper.last m.0.upper.shown)) sized
          (b.known rows).1),
    ))
    (λ (w : IsLedToRoute link m row m'). (
      led_to_route m.0.upper w.more w.way,
      w.now,
      subst (λ (x : MyTree). IsFurther m.0.upper x.0.upper) (sym w.now)
          (record { number = refl; seen = (w.more, refl); log = refl; counts = refl }),
      subst (λ (x : MyTree). IsKnown z x.0.upper) (sym w.now) (subst
          (λ (y : Sizes). IsKnown y (led_to_route m.0.upper w.more w.way)) sized (w.known rows).1),
    ))
    led

-- So it is the one that an update takes the place of.
pub shown_last : (z : Sizes) (u : TreeView) (key : List ℕ) (cursor : Cursor)
    → IsLooking z u key cursor → IsSettled u (first_note u.notes).its → IsShownLast z u cursor.base
shown_last z u key cursor l settled = record {
  noted = first_noted z u cursor.base l.readable;
  here = l.readable.here;
  is_base = l.readable.is_base;
  settled = settled;
}

-- Nothing changed.
pub stopped_same : (why : Stop) (u : TreeView)
    → stopped why u ≡ record u { notes = (stopped why u).notes; lost = (stopped why u).lost }
stopped_same (stop.Lost exchange.Link) u = refl
stopped_same (stop.Lost exchange.Head) u = refl
stopped_same stop.Empty u = refl
stopped_same stop.Worn u = refl

pub stopped_by : (z : Sizes) (why : Stop) (u v : TreeView) → IsKnown z u → v ≡ stopped why u
    → IsFurther u v × IsKnown z v
stopped_by z why u v k is = subst
    (λ (y : TreeView). IsFurther u y × IsKnown z y) (sym (is ∙ stopped_same why u)) (
      record { number = refl; seen = starts_whole u.seen; log = refl; counts = refl },
      record {
        lawful =
            k.lawful;
        past = k.past;
        edits = k.edits;
        enrolled = k.enrolled;
        by_passes = k.by_passes;
      },
    )

-- A call that edits nothing was entered in the log.
pub entered_done : (z : Sizes) (u : TreeView) (m m' : MyTree) (event : Event)
    → IsFurther u m.0.upper → IsKnown z m.0.upper → length u.seen ≤ length m.0.upper.since
    → IsEntered event m m' → HasDone event u m'.0.upper × IsKnown z m'.0.upper
entered_done z u m m' event f k before e = let w = m.0.upper in let from = e.is_read.since.0 in (
  subst (λ (x : MyTree). HasDone event u x.0.upper) (sym e.now) record {
    number = f.number;
    seen = f.seen;
    at = e.at;
    from = subst (IsPlaceFrom (length u.seen) e.at) (sym e.is_read.edits_nothing) (omega arith);
    log = ap (λ (l : List Entry). l ++ (event, e.at) ∷ []) f.log;
    counts = f.counts;
  },
  known_read z m m' event k e,
)

-- What was tried after a look.
pub tried_on : {T : Type 0} (tells : T → Event → Type 0) (z : Sizes) (r : Result T Halt)
    (u w v : TreeView) → IsFurther u w → HasTriedTo tells z r w v
    → HasTriedTo tells z r u v
tried_on tells z (Ok x) u w v f h = ((h.0.0, h.0.1, done_on u w v h.0.0 f h.0.2), h.1)
tried_on tells z (Err stop) u w v f h = (further_on u w v f h.0, h.1)

-- Where no object of the base has the key, none has it in the state that it was read from.
pub none_there : (z : Sizes) (u : TreeView) (cursor : Cursor) (k : List ℕ) (at : ℕ)
    → (l : IsLooking z u k cursor)
    → IsPlace (map pair (first_note u.notes).objects) k (Err at)
    → IsFound (state u.seen l.has.at) k None
none_there z u cursor k at l p =
    sym (part_get (first_note u.notes).place.span (state u.seen l.has.at) k l.about)
    ∙ (ap (λ (m : StoreMap). get m k) (sym l.has.has) ∙ p.equal)

-- So none has it in some state since the pin.
pub none_found : (z : Sizes) (u : TreeView) (cursor : Cursor) (k : List ℕ) (at : ℕ)
    → IsLooking z u k cursor → IsPlace (map pair (first_note u.notes).objects) k (Err at)
    → OfSomeState u (λ m. IsFound m k None)
none_found z u cursor k at l p = (l.has.at, l.has.since, none_there z u cursor k at l p)

-- What an object of the base is, that is the key's object.
pub one_found : (z : Sizes) (u : TreeView) (cursor : Cursor) (k o : List ℕ) → IsLooking z u k cursor
    → IsFound (map pair (first_note u.notes).objects) k (Some o)
    → OfSomeState u (λ m. IsFound m k (Some o))
one_found z u cursor k o l found = (
  l.has.at,
  l.has.since,
  sym (part_get (first_note u.notes).place.span (state u.seen l.has.at) k l.about)
      ∙ (ap (λ (m : StoreMap). get m k) (sym l.has.has) ∙ found),
)

-- The object that was found has the key: a new one isn't put.
pub not_new : (z : Sizes) (u : TreeView) (cursor : Cursor) (k o : List ℕ) (place : Result ℕ ℕ)
    → IsOk place → IsLooking z u k cursor → IsUnanswered u
    → IsPlace (map pair (first_note u.notes).objects) k place → IsReadSince (WriteNew k o false) u
not_new z u cursor k o (Ok at) ok l none_yet p = read_by u (WriteNew k o false) none_yet refl (
  l.has.at,
  l.has.since,
  λ none. let found = p.equal in
      let same : get (map pair (first_note u.notes).objects) k ≡ [] = ap
      (λ (m : StoreMap). get m k) l.has.has
      ∙ (part_get (first_note u.notes).place.span (state u.seen l.has.at) k l.about ∙ none) in
      absurd cc,
)
not_new z u cursor k o (Err at) ok l none_yet p = absurd cc

-- A call that edits nothing is done.
pub read_done : {T : Type 0} (tells : T → Event → Type 0) (z : Sizes) (u : TreeView)
    (m m' : MyTree) (x : T) (event : Event) → tells x event → IsFurther u m.0.upper
    → IsKnown z m.0.upper → length u.seen ≤ length m.0.upper.since → IsEntered event m m'
    → HasTriedTo tells z (Ok x) u m'.0.upper
read_done tells z u m m' x event t f k before e = let d = entered_done z u m m' event f k before
    e in
    ((event, t, d.0), d.1)

-- A read of a key is done, after a walk to its base.
pub read_tried : (z : Sizes) (key : Bor (List ℕ)) (m w m' : MyTree) (cursor : Cursor)
    (event : Event) (found : Bool) → IsWalked z (spot.At key) m cursor w
    → IsAtPin m.0.upper → IsEntered event w m'
    → HasTriedTo (λ (_ : Bool) (e : Event). e ≡ event) z (Ok found) m.0.upper m'.0.upper
read_tried z key m w m' cursor event found walk first e = read_done
    (λ (_ : Bool) (e : Event). e ≡ event) z m.0.upper w m' found event
    refl (walked_further z (spot.At key) m w cursor walk) walk.known
    (seen_before m.0.upper w.0.upper first (ap (λ (x : MyTree). x.0.upper.since) walk.now)) e

-- The place that was found is one among the objects of the base that was shown last.
pub place_still : (z : Sizes) (m m' : MyTree) (cursor : Cursor) (k : List ℕ) (place : Result ℕ ℕ)
    → m' ≡ m → IsLooking z m.0.upper k cursor
    → IsPlaceIn z m.0.upper cursor.base k place
    → IsPlace (map pair (first_note m'.0.upper.notes).objects) k place
place_still z m m' cursor k place same l p = subst
    (λ (x : MyTree). IsPlace (map pair (first_note x.0.upper.notes).objects) k place) (sym same)
    (p (first_note m.0.upper.notes) l.readable)

-- A call that was told as this event is done, after a look.
pub did : {T : Type 0} (tells : T → Event → Type 0) (z : Sizes) (event : Event) (x : T)
    (u w v : TreeView) → tells x event → IsFurther u w
    → HasDoneSuch (λ e. e ≡ event) w v × IsKnown z v → HasTriedTo tells z (Ok x) u v
did tells z event x u w v t f h =
    ((event, t, done_on u w v event f (subst (λ (e : Event). HasDone e w v) h.0.1 h.0.2)), h.1)

-- What was copied is the key's object.
pub fetched : (z : Sizes) (u : TreeView) (cursor : Cursor) (at : ℕ) (key old : List ℕ)
    → IsLooking z u key cursor
    → IsPlace (map pair (first_note u.notes).objects) key (Ok at)
    → old ≡ object (get_or (first_note u.notes).objects at []) → HasFetched z u key (Ok at) old
fetched z u cursor at key old l p e = let note = first_note u.notes in
    let found = found_object note key old at p e in (
      one_found z u cursor key old l found,
      found_pair z.keypos (map pair note.objects) key old l.readable.ordered found,
      sym e,
    )

-- A full base at the last level has no room for a key that is new there.
pub full_there : (z : Sizes) (u v : TreeView) (cursor : Cursor) (key : List ℕ) (place : Result ℕ ℕ)
    (many : ℕ) → IsLooking z u key cursor
    → v ≡ u → z.levels ≤ (first_note u.notes).place.level
    → IsPlace (map pair (first_note u.notes).objects) key place
    → ¬ IsRoom place many z.leaf → many ≡ length (first_note u.notes).objects
    → IsFullSince z (Some key) v
full_there z u v cursor key (Ok at) many l same level p no_room is = absurd (no_room tt)
full_there z u v cursor key (Err at) many l same level p no_room is =
    subst (λ (x : TreeView). IsFullSince z (Some key) x) (sym same) (
      (
        l.has.at,
        l.has.since,
        subst (λ (n : Note). IsFull z (Some key) n (state u.seen l.has.at)) (sym l.last) full,
      ),
      λ alone. (
        subst (λ (n : Note). IsListed u.inventory n) (sym l.last) (l.listed alone),
        subst (λ (n : Note). n.place.level ≤ u.splits) (sym l.last) (l.shallow alone),
        subst (λ (x : Note × StoreMap). IsFull z (Some key) x.0 x.1) (λ i. (
          sym l.last i,
          (ap (λ (n : ℕ). state u.seen n) (l.has.last alone) ∙ last_state u.seen) i,
        )) full,
      ),
    )
  where
    full : IsFull z (Some key) (first_note u.notes) (state u.seen l.has.at)
    full = (
      none_there z u cursor key at l p,
      l.about,
      level,
      let long = length-map (first_note u.notes).objects pair in
          let e = ap (λ (x : StoreMap). length x) l.has.has in
          let few : z.leaf ≤ many = omega (arith, no_room) in omega arith,
    )

tried_from : (z : Sizes) (event : Event) (r : Result (Unit {0}) Stop) (u v : TreeView) → IsKnown z u
    → HasTried event z r u v
    → HasTriedTo (λ _ e. e ≡ event) z (come_to r) u v
tried_from z event (Ok x) u v k h = ((event, refl, h.0), h.1)
tried_from z event (Err why) u v k h = stopped_by z why u v k h

-- What was tried, by what became of its exchange.
pub tried_by : (z : Sizes) (event : TreeView → Event) (r : Result (Unit {0}) Stop)
    (x : Result (Unit {0}) Halt) (u w v : TreeView) → w ≡ u → x ≡ come_to r
    → IsKnown z u → HasTried (event w) z r w v → HasTriedTo (λ _ e. e ≡ event u) z x u v
tried_by z event r x u w v same is k h = subst
    (λ (y : Result (Unit {0}) Halt). HasTriedTo (λ _ e. e ≡ event u) z y u v) (sym is)
    (tried_from z (event u) r u v k (subst (λ (y : TreeView). HasTried (event y) z r y v) same h))
