-- The turns of a moment stand at the front of a client's turns to come, and those of later moments behind them.
use Rattle.std.proofs.Common.{◌≡◌, ℕ, zero, suc, ◌+◌, ◌≤◌, ◌<◌, ◌==◌, Bool, true, false, List, [], ◌∷◌, ◌++◌, arith, refl, sym, ◌∙◌, ap, subst, if◌then◌else◌, Some, None, append-nil}
use Rattle.std.specs.Prelude.{Option, nat_le}
use Rattle.std.proofs.lemmas.Bool.Decides.{nat_tests}
use Rattle.ca_ets.proofs.Merges.{itself}
use Rattle.ca_model.specs.History.{Edit}
use Rattle.ca_model.specs.Event.{Entry, effect}
use Rattle.ca_model.specs.Lawful.{PlacesRise, IsPlaceFrom}
use Rattle.ca_explain.specs.Clients.{from_event}
use Rattle.ca_explain.specs.Places.{Turn, Moment, AtStart, AtUpdate, AtReads, is_same, moment_of, moment_after, turns_at, by_client, all_turns_at}
use Rattle.ca_explain.proofs.Fronts.{is_free, is_free_by, is_ready, is_ready_by, is_read_by, front, behind, fronts, update_of, behind_update}
use Rattle.ca_explain.proofs.Runs.{same_number}
use Rattle.ca_explain.proofs.Waits.{Stopped, behind_stopped, entries_of}
use Rattle.ca_explain.proofs.NextUpdates.{NextUpdate}

-- No turn of this moment comes where all places are from `low` on.
abbrev pub IsPast : Moment → ℕ → Type 0
IsPast AtStart low = Unit {0}
IsPast (AtUpdate p) low = p ≤ low
IsPast (AtReads p) low = p < low

-- The moment is that of the reads at a place, or a later one.
abbrev pub IsDue : ℕ → Moment → Type 0
IsDue q AtStart = ⊥
IsDue q (AtUpdate p) = q < p
IsDue q (AtReads p) = q ≤ p

-- The moment is later than the reads at a place.
abbrev pub IsLater : ℕ → Moment → Type 0
IsLater q AtStart = ⊥
IsLater q (AtUpdate p) = q < p
IsLater q (AtReads p) = q < p

-- What is later than the reads is due.
pub later_due : (q : ℕ) (here : Moment) → IsLater q here → IsDue q here
later_due q AtStart h = h
later_due q (AtUpdate p) h = h
later_due q (AtReads p) h = omega arith

-- What is due behind the next update is later than the reads before it.
pub due_later : (q : ℕ) (here : Moment) → IsDue (suc q) here → IsLater q here
due_later q AtStart h = h
due_later q (AtUpdate p) h = omega arith
due_later q (AtReads p) h = omega arith

not_start : (q : ℕ) (here : Moment) → IsDue q here → is_same AtStart here ≡ false
not_start q AtStart h = absurd h
not_start q (AtUpdate p) h = refl
not_start q (AtReads p) h = refl

not_reads_here : (q : ℕ) (here : Moment) → IsLater q here → is_same (AtReads q) here ≡ false
not_reads_here q AtStart h = absurd h
not_reads_here q (AtUpdate p) h = refl
not_reads_here q (AtReads p) h = grind (arith, nat_tests)

not_update_here : (q : ℕ) (here : Moment) → IsDue q here → is_same (AtUpdate q) here ≡ false
not_update_here q AtStart h = absurd h
not_update_here q (AtUpdate p) h = grind (arith, nat_tests)
not_update_here q (AtReads p) h = refl

not_reads : (here : Moment) (place low : ℕ) → IsPast here low → low ≤ place → is_same (AtReads place) here ≡ false
not_reads AtStart place low past from = refl
not_reads (AtUpdate p) place low past from = refl
not_reads (AtReads p) place low past from = grind (arith, nat_tests)

not_update : (here : Moment) (place low : ℕ) → IsPast here low → low < place → is_same (AtUpdate place) here ≡ false
not_update AtStart place low past from = refl
not_update (AtUpdate p) place low past from = grind (arith, nat_tests)
not_update (AtReads p) place low past from = refl

still_past : (here : Moment) (low place : ℕ) → IsPast here low → low ≤ place → IsPast here place
still_past AtStart low place past from = tt
still_past (AtUpdate p) low place past from = omega arith
still_past (AtReads p) low place past from = omega arith

-- No turn of a moment that is past comes.
pub none_there : (here : Moment) (s : List Turn) (last : Moment) (low : ℕ) → IsPast here low → is_same last here ≡ false → PlacesRise low (entries_of s)
    → turns_at here last s ≡ []
none_there here [] last low past other rise = refl
none_there here (x ∷ xs) last low past other rise = by x.event rise (none_there here xs)
  where
    Others : Type 0
    Others = (last : Moment) (low : ℕ) → IsPast here low → is_same last here ≡ false → PlacesRise low (entries_of xs) → turns_at here last xs ≡ []

    taken : Moment → List Turn
    taken moment = if is_same moment here then x ∷ turns_at here moment xs else turns_at here moment xs

    by : (entry : Option Entry) → PlacesRise low (from_event entry (entries_of xs)) → Others → taken (moment_after last entry) ≡ []
    by None rise rec = rw other (rec last low past other rise)
    by (Some (event, place)) rise rec = at (effect event) rise.0
      where
        at : (edits : List Edit) → IsPlaceFrom low place edits → taken (moment_of edits place) ≡ []
        at [] from =
            let apart = not_reads here place low past from in
            rw apart (rec (AtReads place) place (still_past here low place past from) apart rise.1)
        at (edit ∷ edits) from =
            let apart = not_update here place low past from in
            rw apart (rec (AtUpdate place) place (still_past here low place past (omega arith)) apart rise.1)

free_moment : (last : Moment) (entry : Option Entry) → is_free_by entry ≡ true → moment_after last entry ≡ last
free_moment last None e = refl
free_moment last (Some entry) e = let no : false ≡ true = e in cc

-- turns that made no call of the store come with the one before them
with_frees : (here last : Moment) → is_same last here ≡ true → (s : List Turn) → turns_at here last s ≡ front is_free s ++ turns_at here last (behind is_free s)
with_frees here last same [] = refl
with_frees here last same (x ∷ xs) = by (is_free x) refl (with_frees here last same xs)
  where
    by : (b : Bool) → is_free x ≡ b → turns_at here last xs ≡ front is_free xs ++ turns_at here last (behind is_free xs) →
        turns_at here last (x ∷ xs) ≡ (if b then x ∷ front is_free xs else []) ++ turns_at here last (if b then behind is_free xs else x ∷ xs)
    by false e rest = refl
    by true e rest = rw (free_moment last x.event e, same) (ap (λ (s : List Turn). x ∷ s) rest)

without_frees : (here last : Moment) → is_same last here ≡ false → (s : List Turn) → turns_at here last s ≡ turns_at here last (behind is_free s)
without_frees here last other [] = refl
without_frees here last other (x ∷ xs) = by (is_free x) refl (without_frees here last other xs)
  where
    by : (b : Bool) → is_free x ≡ b → turns_at here last xs ≡ turns_at here last (behind is_free xs)
        → turns_at here last (x ∷ xs) ≡ turns_at here last (if b then behind is_free xs else x ∷ xs)
    by false e rest = refl
    by true e rest = rw (free_moment last x.event e, other) rest

-- behind which turn they come doesn't matter where the first one made a call of the store
any_last : (here last other : Moment) (s : List Turn) → Stopped is_free s → turns_at here last s ≡ turns_at here other s
any_last here last other [] stop = refl
any_last here last other (x ∷ xs) stop =
    ap (λ (moment : Moment). if is_same moment here then x ∷ turns_at here moment xs else turns_at here moment xs) (same x.event stop)
  where
    same : (entry : Option Entry) → is_free_by entry ≡ false → moment_after last entry ≡ moment_after other entry
    same None e = let no : true ≡ false = e in cc
    same (Some entry) e = refl

entries_behind : (s : List Turn) → entries_of (behind is_free s) ≡ entries_of s
entries_behind [] = refl
entries_behind (x ∷ xs) = by (is_free x) refl (entries_behind xs)
  where
    none : (entry : Option Entry) → is_free_by entry ≡ true → from_event entry (entries_of xs) ≡ entries_of xs
    none None e = refl
    none (Some entry) e = let no : false ≡ true = e in cc

    by : (b : Bool) → is_free x ≡ b → entries_of (behind is_free xs) ≡ entries_of xs
        → entries_of (if b then behind is_free xs else x ∷ xs) ≡ entries_of (x ∷ xs)
    by true e rest = rest ∙ sym (none x.event e)
    by false e rest = refl

-- nothing more of a moment comes behind the turns at the front that made no call of the store
none_behind : (here last : Moment) (s : List Turn) (low : ℕ) → IsPast here low → (other : Moment) → is_same other here ≡ false
    → PlacesRise low (entries_of s) → turns_at here last (behind is_free s) ≡ []
none_behind here last s low past other apart rise =
    any_last here last other (behind is_free s) (behind_stopped is_free s)
    ∙ none_there here (behind is_free s) other low past apart (subst (λ (es : List Entry). PlacesRise low es) (sym (entries_behind s)) rise)

-- The turns of the beginning are those at the front that made no call of the store.
pub start_front : (s : List Turn) → PlacesRise 0 (entries_of s) → turns_at AtStart AtStart s ≡ front is_free s
start_front s rise =
    with_frees AtStart AtStart refl s ∙ ap (λ (r : List Turn). front is_free s ++ r) (none_behind AtStart AtStart s 0 tt (AtReads 0) refl rise)
    ∙ append-nil (front is_free s)

-- All other turns stand behind them.
pub start_behind : (here : Moment) → IsDue 0 here → (s : List Turn) → turns_at here AtStart s ≡ turns_at here AtStart (behind is_free s)
start_behind here due s = without_frees here AtStart (not_start 0 here due) s

reads_first : (q : ℕ) (s : List Turn) → PlacesRise q (entries_of s) → turns_at (AtReads q) (AtReads q) s ≡ front (is_ready q) s
reads_first q [] rise = refl
reads_first q (x ∷ xs) rise = by x.event rise (reads_first q xs)
  where
    taken : Moment → List Turn
    taken moment = if is_same moment (AtReads q) then x ∷ turns_at (AtReads q) moment xs else turns_at (AtReads q) moment xs

    Rest : Type 0
    Rest = PlacesRise q (entries_of xs) → turns_at (AtReads q) (AtReads q) xs ≡ front (is_ready q) xs

    by : (entry : Option Entry) → PlacesRise q (from_event entry (entries_of xs)) → Rest
        → taken (moment_after (AtReads q) entry) ≡ (if is_ready_by q entry then x ∷ front (is_ready q) xs else [])
    by None rise rec = rw (itself q) (ap (λ (s : List Turn). x ∷ s) (rec rise))
    by (Some (event, place)) rise rec = at (effect event) rise.0
      where
        on : (b : Bool) → nat_le place q ≡ b → q ≤ place → taken (AtReads place) ≡ (if b then x ∷ front (is_ready q) xs else [])
        on true e from =
            let here : place ≡ q = (let up : place ≤ q = grind (arith, nat_tests) in omega arith) in
            let same : (place == q) ≡ true = grind (arith, nat_tests) in
            rw same (ap (λ (s : List Turn). x ∷ s)
            (ap (λ (n : ℕ). turns_at (AtReads q) (AtReads n) xs) here ∙ rec (subst (λ (n : ℕ). PlacesRise n (entries_of xs)) here rise.1)))
        on false e from =
            let far : q < place = grind (arith, nat_tests) in
            let apart : (place == q) ≡ false = grind (arith, nat_tests) in
            rw apart (none_there (AtReads q) xs (AtReads place) place far apart rise.1)

        at : (edits : List Edit) → IsPlaceFrom q place edits
            → taken (moment_of edits place) ≡ (if is_read_by edits place q then x ∷ front (is_ready q) xs else [])
        at [] from = on (nat_le place q) refl from
        at (edit ∷ edits) from = none_there (AtReads q) xs (AtUpdate place) place from refl rise.1

-- The turns of the reads at a place are those at the front that made no call of the store or are such reads.
pub reads_front : (q : ℕ) (s : List Turn) → Stopped is_free s → PlacesRise q (entries_of s) → turns_at (AtReads q) AtStart s ≡ front (is_ready q) s
reads_front q s held rise = any_last (AtReads q) AtStart (AtReads q) s held ∙ reads_first q s rise

ready_moment : (q : ℕ) (entry : Option Entry) (es : List Entry) → is_ready_by q entry ≡ true → PlacesRise q (from_event entry es)
    → (moment_after (AtReads q) entry ≡ AtReads q) × PlacesRise q es
ready_moment q None es e rise = (refl, rise)
ready_moment q (Some (event, place)) es e rise = at (effect event) e rise.0
  where
    at : (edits : List Edit) → is_read_by edits place q ≡ true → IsPlaceFrom q place edits → (moment_of edits place ≡ AtReads q) × PlacesRise q es
    at [] e from =
        let here : place ≡ q = (let up : place ≤ q = grind (arith, nat_tests) in omega arith) in
        (ap AtReads here, subst (λ (n : ℕ). PlacesRise n es) here rise.1)
    at (edit ∷ edits) e from = let no : false ≡ true = e in cc

later_behind : (q : ℕ) (here : Moment) → IsLater q here → (s : List Turn) → PlacesRise q (entries_of s)
    → turns_at here (AtReads q) s ≡ turns_at here (AtReads q) (behind (is_ready q) s)
later_behind q here later [] rise = refl
later_behind q here later (x ∷ xs) rise = by (is_ready q x) refl (later_behind q here later xs)
  where
    by : (b : Bool) → is_ready q x ≡ b → (PlacesRise q (entries_of xs) → turns_at here (AtReads q) xs ≡ turns_at here (AtReads q) (behind (is_ready q) xs))
        → turns_at here (AtReads q) (x ∷ xs) ≡ turns_at here (AtReads q) (if b then behind (is_ready q) xs else x ∷ xs)
    by false e rec = refl
    by true e rec =
        let ready = ready_moment q x.event (entries_of xs) e rise in
        rw (ready.0, not_reads_here q here later) (rec ready.1)

-- Where a turn isn't ready, it made a call of the store.
pub ready_held : (q : ℕ) (s : List Turn) → Stopped is_free (behind (is_ready q) s)
ready_held q s = by (behind (is_ready q) s) (behind_stopped (is_ready q) s)
  where
    apart : (entry : Option Entry) → is_ready_by q entry ≡ false → is_free_by entry ≡ false
    apart None e = let no : true ≡ false = e in cc
    apart (Some entry) e = refl

    by : (s : List Turn) → Stopped (is_ready q) s → Stopped is_free s
    by [] stop = tt
    by (x ∷ xs) stop = apart x.event stop

-- The turns of later moments stand behind those of the reads at a place.
pub reads_behind : (q : ℕ) (here : Moment) → IsLater q here → (s : List Turn) → Stopped is_free s → PlacesRise q (entries_of s)
    → turns_at here AtStart s ≡ turns_at here AtStart (behind (is_ready q) s)
reads_behind q here later s held rise =
    any_last here AtStart (AtReads q) s held ∙ later_behind q here later s rise
    ∙ any_last here (AtReads q) AtStart (behind (is_ready q) s) (ready_held q s)

-- Where another pass makes the next edit, a client has no turn with its update.
pub no_update : (q : ℕ) (s : List Turn) → PlacesRise (suc q) (entries_of s) → turns_at (AtUpdate (suc q)) AtStart s ≡ []
no_update q s rise = none_there (AtUpdate (suc q)) s AtStart (suc q) (omega arith) refl rise

module _ (q : ℕ) (edit : Edit) (s : List Turn) (up : NextUpdate q edit s) where
  update_moment : (last : Moment) → moment_after last up.turn.event ≡ AtUpdate (suc q)
  update_moment last = ap (moment_after last) up.entry ∙ ap (λ (es : List Edit). moment_of es (suc q)) up.edits

  -- The turns of the next update are the update and those behind it that made no call of the store.
  pub update_front : PlacesRise (suc q) (entries_of up.others) → turns_at (AtUpdate (suc q)) AtStart s ≡ update_of s
  update_front rise =
      let here = AtUpdate (suc q) in
      let same = itself (suc q) in
      let frees = front is_free up.others in
      let rest : turns_at here here up.others ≡ frees =
      with_frees here here same up.others
      ∙ ap (λ (r : List Turn). frees ++ r) (none_behind here here up.others (suc q) (omega arith) AtStart refl rise) ∙ append-nil frees in
      let whole : turns_at here AtStart (up.turn ∷ up.others) ≡ up.turn ∷ frees =
      rw (update_moment AtStart, same) (ap (λ (r : List Turn). up.turn ∷ r) rest) in
      subst (λ (s : List Turn). turns_at here AtStart s ≡ update_of s) (sym up.is) whole

  -- The turns that are due later stand behind them.
  pub update_behind : (here : Moment) → IsDue (suc q) here → turns_at here AtStart s ≡ turns_at here AtStart (behind_update s)
  update_behind here due =
      let apart = not_update_here (suc q) here due in
      let rest = behind is_free up.others in
      let whole : turns_at here AtStart (up.turn ∷ up.others) ≡ turns_at here AtStart rest =
      rw (update_moment AtStart, apart) (without_frees here (AtUpdate (suc q)) apart up.others
      ∙ any_last here (AtUpdate (suc q)) AtStart rest (behind_stopped is_free up.others)) in
      subst (λ (s : List Turn). turns_at here AtStart s ≡ turns_at here AtStart (behind_update s)) (sym up.is) whole

-- Where each client's turns of a moment are those at its front, so are all clients' turns.
pub same_fronts : (here : Moment) (test : Turn → Bool) (full ws : ℕ → List Turn) → ((i : ℕ) → turns_at here AtStart (full i) ≡ front test (ws i))
    → (count j : ℕ) → all_turns_at here count j full ≡ fronts test count j ws
same_fronts here test full ws same zero j = refl
same_fronts here test full ws same (suc count) j =
    let others = same_fronts here test full ws same count (suc j) in
    λ i. by_client j (same j i) ++ others i

nobody_at : (here : Moment) (full : ℕ → List Turn) (count k : ℕ) → ((i : ℕ) → k ≤ i → turns_at here AtStart (full i) ≡ [])
    → all_turns_at here count k full ≡ []
nobody_at here full zero k none = refl
nobody_at here full (suc count) k none = rw (none k (omega arith)) (nobody_at here full count (suc k) (λ i h. none i (omega arith)))

-- Where one client alone has turns of a moment, they are all.
pub only_client : (here : Moment) (full : ℕ → List Turn) (j : ℕ) → ((i : ℕ) → (i == j) ≡ false → turns_at here AtStart (full i) ≡ [])
    → (count k : ℕ) → k ≤ j → j < count + k → all_turns_at here count k full ≡ by_client j (turns_at here AtStart (full j))
only_client here full j none zero k low high = absurd (omega arith)
only_client here full j none (suc count) k low high = by (k == j) refl (only_client here full j none count (suc k))
  where
    own : ℕ → List (ℕ × Turn)
    own n = by_client n (turns_at here AtStart (full n))

    by : (b : Bool) → (k == j) ≡ b → (suc k ≤ j → j < count + suc k → all_turns_at here count (suc k) full ≡ own j)
        → own k ++ all_turns_at here count (suc k) full ≡ own j
    by true e rec =
        let same : k ≡ j = same_number k j e in
        let others = nobody_at here full count (suc k) (λ i h. none i (grind (arith, nat_tests))) in
        ap (λ (r : List (ℕ × Turn)). own k ++ r) others ∙ append-nil (own k) ∙ ap own same
    by false e rec =
        let apart : k < j = grind (arith, nat_tests) in
        rw (none k e) (rec (omega arith) (omega arith))
