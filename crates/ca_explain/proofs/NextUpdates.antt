-- Where a client's next update stands among its turns to come.
use Rattle.std.proofs.Common.{◌≡◌, ℕ, suc, ◌<◌, ◌==◌, true, false, List, [], ◌∷◌, length, arith, refl, sym, ◌∙◌, ap, Some, None}
use Rattle.std.specs.Prelude.{Option}
use Rattle.std.proofs.lemmas.Bool.Decides.{nat_tests}
use Rattle.ca_ets.specs.Command.{Continuation}
use Rattle.ca_ets.specs.Merge.{items_of}
use Rattle.ca_model.specs.History.{Edit, History}
use Rattle.ca_model.specs.Event.{Event, Entry, effect}
use Rattle.ca_model.specs.Lawful.{AreEntries, IsEntryAt, PlacesRise, IsPlaceFrom}
use Rattle.ca_explain.specs.Clients.{from_event}
use Rattle.ca_explain.specs.Places.{Turn}
use Rattle.ca_model.proofs.Passing.{one_edit}
use Rattle.ca_explain.proofs.Updates.{Updates, updates, with_update, numbered, first_update, number_above}
use Rattle.ca_explain.proofs.Waits.{Waits, Stopped, entries_of}
use Rattle.ca_explain.proofs.Fronts.{is_ready, is_ready_by, is_read_by}

-- the turn that is a client's next update, and the turns behind it
pub record NextUpdate (q : ℕ) (edit : Edit) (s : List Turn) : Type 0 where
  pub turn : Turn
  pub others : List Turn
  pub event : Event
  pub is : s ≡ turn ∷ others
  pub entry : turn.event ≡ Some (event, suc q)
  pub edits : effect event ≡ edit ∷ []

module _ (p : ℕ) (history : History) (q : ℕ) where
  -- Where the next edit of the history is a client's own and its first turn is no read of this place, this turn is the update.
  pub is_update : (i : ℕ) (edit : Edit) (steps : History) (k : Continuation) (s : List Turn) → Waits p history q ((i, edit) ∷ steps) i k s
      → Stopped (is_ready q) s → NextUpdate q edit s
  is_update i edit steps k s w stop = by s w.places mine stop
    where
      others : Updates
      others = items_of i (numbered (suc q) steps)

      mine : (edit, suc q) ∷ others ≡ updates (entries_of s)
      mine = let here : (i == i) ≡ true = grind (arith, nat_tests) in rw here at w.edits

      by : (s : List Turn) → PlacesRise q (entries_of s) → (edit, suc q) ∷ others ≡ updates (entries_of s) → Stopped (is_ready q) s → NextUpdate q edit s
      by [] rise e stop = let no : (edit, suc q) ∷ others ≡ [] = e in cc
      by (x ∷ xs) rise e stop = on x.event refl rise e stop
        where
          on : (entry : Option Entry) → x.event ≡ entry → PlacesRise q (from_event entry (entries_of xs))
              → (edit, suc q) ∷ others ≡ updates (from_event entry (entries_of xs)) → is_ready_by q entry ≡ false → NextUpdate q edit (x ∷ xs)
          on None is rise e stop = let no : true ≡ false = stop in cc
          on (Some (event, place)) is rise e stop = at (effect event) refl rise e stop
            where
              at : (edits : List Edit) → effect event ≡ edits → IsPlaceFrom q place edits × PlacesRise place (entries_of xs)
                  → (edit, suc q) ∷ others ≡ with_update edits place (updates (entries_of xs)) → is_read_by edits place q ≡ false
                  → NextUpdate q edit (x ∷ xs)
              at [] eff rise e stop =
                  let far : q < place = grind (arith, nat_tests) in
                  let above : place < suc q = first_update (entries_of xs) place edit (suc q) others rise.1 (sym e) in
                  absurd (omega arith)
              at (f ∷ fs) eff rise e stop =
                  let none : fs ≡ [] = one_edit event f fs eff in
                  let one : Edit × ℕ = (f, place) in
                  let other : Edit × ℕ = (edit, suc q) in
                  let pairs : one ≡ other = cc in
                  let same : f ≡ edit = ap (λ (n : Edit × ℕ). n.0) pairs in
                  let here : place ≡ suc q = ap (λ (n : Edit × ℕ). n.1) pairs in
                  record { turn = x; others = xs; event = event; is = refl; entry = is ∙ ap (λ (n : ℕ). Some (event, n)) here; edits = eff ∙ cc }

  -- Where the next edit is another client's, this client's turns wait on.
  pub waits_on : (i j : ℕ) (edit : Edit) (steps : History) (k : Continuation) (s : List Turn) → (j == i) ≡ false → Waits p history q ((j, edit) ∷ steps) i k s
      → Stopped (is_ready q) s → Waits p history (suc q) steps i k s
  waits_on i j edit steps k s other w stop = record { turns = w.turns; entries = w.entries; places = by s w.places mine stop; edits = mine }
    where
      others : Updates
      others = items_of i (numbered (suc q) steps)

      mine : others ≡ updates (entries_of s)
      mine = rw other at w.edits

      by : (s : List Turn) → PlacesRise q (entries_of s) → others ≡ updates (entries_of s) → Stopped (is_ready q) s → PlacesRise (suc q) (entries_of s)
      by [] rise e stop = tt
      by (x ∷ xs) rise e stop = on x.event rise e stop
        where
          on : (entry : Option Entry) → PlacesRise q (from_event entry (entries_of xs)) → others ≡ updates (from_event entry (entries_of xs))
              → is_ready_by q entry ≡ false → PlacesRise (suc q) (from_event entry (entries_of xs))
          on None rise e stop = let no : true ≡ false = stop in cc
          on (Some (event, place)) rise e stop = (at (effect event) rise.0 e stop, rise.1)
            where
              at : (edits : List Edit) → IsPlaceFrom q place edits → others ≡ with_update edits place (updates (entries_of xs))
                  → is_read_by edits place q ≡ false → IsPlaceFrom (suc q) place edits
              at [] from e stop = grind (arith, nat_tests)
              at (f ∷ fs) from e stop = number_above i (suc q) steps f place (updates (entries_of xs)) e

-- At the history's end a client has no turn left.
pub none_left : (p : ℕ) (history : History) (i : ℕ) (k : Continuation) (s : List Turn) → Waits p history (length history) [] i k s
    → Stopped (is_ready (length history)) s → s ≡ []
none_left p history i k [] w stop = refl
none_left p history i k (x ∷ xs) w stop = on x.event w.entries w.edits stop
  where
    on : (entry : Option Entry) → AreEntries i history (from_event entry (entries_of xs)) → [] ≡ updates (from_event entry (entries_of xs))
        → is_ready_by (length history) entry ≡ false → x ∷ xs ≡ []
    on None entries e stop = let no : true ≡ false = stop in cc
    on (Some (event, place)) entries e stop = at (effect event) entries.0 e stop
      where
        at : (edits : List Edit) → IsEntryAt i history event place edits → [] ≡ with_update edits place (updates (entries_of xs))
            → is_read_by edits place (length history) ≡ false → x ∷ xs ≡ []
        at [] entry e stop = let in_range = entry.0 in let far : length history < place = grind (arith, nat_tests) in absurd (omega arith)
        at (f ∷ fs) entry e stop = let no : [] ≡ (f, place) ∷ updates (entries_of xs) = e in cc
