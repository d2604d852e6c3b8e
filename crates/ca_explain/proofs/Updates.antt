-- The updates of a log and the edits of a history, each with its place.
use Rattle.std.proofs.Common.{◌≡◌, ℕ, suc, ◌-◌, ◌≤◌, ◌<◌, ◌==◌, Bool, true, false, List, [], ◌∷◌, ◌++◌, length, map, arith, refl, sym, ◌∙◌, ap, subst, Some, None, if◌then◌else◌}
use Rattle.std.specs.Prelude.{Option, slice_get}
use Rattle.std.proofs.lemmas.Bool.Decides.{nat_tests}
use Rattle.ca_ets.specs.Merge.{items_of}
use Rattle.ca_model.specs.History.{Edit, History, edits_of_pass}
use Rattle.ca_model.specs.Event.{Entry, effect}
use Rattle.ca_model.specs.Lawful.{AreEntries, IsEntryAt, PlacesRise, IsPlaceFrom, IsLawful, edits_of_log}
use Rattle.ca_model.proofs.Passing.{one_edit}

-- edits, each with its place
abbrev pub Updates : Type 0
Updates = List (Edit × ℕ)

-- a call's edit, where it has one, before these updates
abbrev pub with_update : List Edit → ℕ → Updates → Updates
with_update [] place rest = rest
with_update (edit ∷ edits) place rest = (edit, place) ∷ rest

-- the updates with effect of a log
abbrev pub updates : List Entry → Updates
updates [] = []
updates (entry ∷ log) = with_update (effect entry.0) entry.1 (updates log)

-- a history's edits from a place on
abbrev pub numbered : ℕ → History → List (ℕ × (Edit × ℕ))
numbered place [] = []
numbered place (step ∷ steps) = (step.0, (step.1, suc place)) ∷ numbered (suc place) steps

-- The first update of a log stands above the place that its places rise from.
pub first_update : (es : List Entry) (low : ℕ) (edit : Edit) (place : ℕ) (rest : Updates) → PlacesRise low es → updates es ≡ (edit, place) ∷ rest
    → low < place
first_update [] low edit place rest rise e = let no : [] ≡ (edit, place) ∷ rest = e in cc
first_update (entry ∷ es) low edit place rest rise e = by (effect entry.0) rise.0 e (λ h. first_update es entry.1 edit place rest rise.1 h)
  where
    by : (edits : List Edit) → IsPlaceFrom low entry.1 edits → with_update edits entry.1 (updates es) ≡ (edit, place) ∷ rest
        → (updates es ≡ (edit, place) ∷ rest → entry.1 < place) → low < place
    by [] from h rec = let up = rec h in omega arith
    by (x ∷ xs) from h rec =
        let one : Edit × ℕ = (x, entry.1) in
        let other : Edit × ℕ = (edit, place) in
        let pairs : one ≡ other = cc in
        let same : entry.1 ≡ place = ap (λ (n : Edit × ℕ). n.1) pairs in omega arith

-- The places of a history's edits are above the one that they are counted from.
pub number_above : (i q : ℕ) (steps : History) (edit : Edit) (place : ℕ) (rest : Updates) → items_of i (numbered q steps) ≡ (edit, place) ∷ rest → q < place
number_above i q [] edit place rest e = let no : [] ≡ (edit, place) ∷ rest = e in cc
number_above i q (s ∷ steps) edit place rest e = by (s.0 == i) e (λ h. number_above i (suc q) steps edit place rest h)
  where
    others : Updates
    others = items_of i (numbered (suc q) steps)

    by : (b : Bool) → (if b then (s.1, suc q) ∷ others else others) ≡ (edit, place) ∷ rest → (others ≡ (edit, place) ∷ rest → suc q < place) → q < place
    by true h rec =
        let one : Edit × ℕ = (s.1, suc q) in
        let other : Edit × ℕ = (edit, place) in
        let pairs : one ≡ other = cc in
        let same : suc q ≡ place = ap (λ (n : Edit × ℕ). n.1) pairs in omega arith
    by false h rec = let up = rec h in omega arith

abbrev edits_in : Updates → List Edit
edits_in us = map (λ u. u.0) us

-- the places rise, and at each of them stands the edit of pass i; the steps are those behind the first q
abbrev Located : ℕ → ℕ → History → ℕ → Updates → Type 0
Located i q steps low [] = Unit {0}
Located i q steps low (u ∷ us) = (low < u.1) × (slice_get steps (u.1 - suc q) ≡ Some (i, u.0)) × Located i q steps u.1 us

lower : (i q : ℕ) (steps : History) (low high : ℕ) (us : Updates) → low ≤ high → Located i q steps high us → Located i q steps low us
lower i q steps low high [] h l = tt
lower i q steps low high (u ∷ us) h l = (omega arith, l.1, l.2)

shift : (i q : ℕ) (s : ℕ × Edit) (steps : History) (low : ℕ) (us : Updates) → suc q ≤ low → Located i q (s ∷ steps) low us → Located i (suc q) steps low us
shift i q s steps low [] h l = tt
shift i q s steps low (u ∷ us) h l =
    let next : u.1 - suc q ≡ suc (u.1 - suc (suc q)) = omega arith in
    let up : suc q ≤ u.1 = omega arith in
    (l.0, ap (λ (n : ℕ). slice_get (s ∷ steps) n) (sym next) ∙ l.1, shift i q s steps u.1 us up l.2)

-- an update at the first place is the first step
at_first : (i q : ℕ) (s : ℕ × Edit) (steps : History) (u : Edit × ℕ) → u.1 ≡ suc q → slice_get (s ∷ steps) (u.1 - suc q) ≡ Some (i, u.0) → s.0 ≡ i
at_first i q s steps u e g =
    let zero_is : u.1 - suc q ≡ 0 = omega arith in
    let there : Some s ≡ Some (i, u.0) = ap (λ (n : ℕ). slice_get (s ∷ steps) n) (sym zero_is) ∙ g in
    let other : ℕ × Edit = (i, u.0) in
    let same : s ≡ other = cc in
    ap (λ (x : ℕ × Edit). x.0) same

-- so many updates stand in the history
count : (steps : History) (i q low : ℕ) (us : Updates) → q ≤ low → Located i q steps low us → length us ≤ length (edits_of_pass i steps)
count steps i q low [] h l = omega arith
count [] i q low (u ∷ us) h l = let no : ◌≡◌ {A = Option (ℕ × Edit)} None (Some (i, u.0)) = l.1 in cc
count (s ∷ steps) i q low (u ∷ us) h l =
    by (u.1 == suc q) refl (s.0 == i) refl
    (λ e. count steps i (suc q) u.1 us (omega (arith, e)) (shift i q s steps u.1 us (omega (arith, e)) l.2))
    (λ d. count steps i (suc q) (suc q) (u ∷ us) (omega arith) (shift i q s steps (suc q) (u ∷ us) (omega arith) (d, l.1, l.2)))
  where
    by : (b : Bool) → (u.1 == suc q) ≡ b → (c : Bool) → (s.0 == i) ≡ c → (u.1 ≡ suc q → length us ≤ length (edits_of_pass i steps))
        → (suc q < u.1 → length (u ∷ us) ≤ length (edits_of_pass i steps))
        → length (u ∷ us) ≤ length (if c then s.1 ∷ edits_of_pass i steps else edits_of_pass i steps)
    by true e true f here far = let same : u.1 ≡ suc q = grind (arith, nat_tests) in let less = here same in omega arith
    by true e false f here far =
        let same : u.1 ≡ suc q = grind (arith, nat_tests) in
        let own_step : s.0 ≡ i = at_first i q s steps u same l.1 in
        let wrong : (s.0 == i) ≡ true = grind (arith, nat_tests) in
        absurd (let no_way : true ≡ false = sym wrong ∙ f in cc)
    by false e true f here far = let past : suc q < u.1 = grind (arith, nat_tests) in let less = far past in omega arith
    by false e false f here far = let past : suc q < u.1 = grind (arith, nat_tests) in far past

-- located updates whose edits are all those of pass i stand exactly where its edits stand
located_all : (steps : History) (i q : ℕ) (us : Updates) → Located i q steps q us → edits_of_pass i steps ≡ edits_in us → items_of i (numbered q steps) ≡ us
located_all [] i q [] l e = refl
located_all [] i q (u ∷ us) l e = let no : [] ≡ u.0 ∷ edits_in us = e in cc
located_all (s ∷ steps) i q us l e = by (s.0 == i) refl us l e (λ zs. located_all steps i (suc q) zs)
  where
    others : Updates
    others = items_of i (numbered (suc q) steps)

    by : (b : Bool) → (s.0 == i) ≡ b → (us : Updates) → Located i q (s ∷ steps) q us
        → (if b then s.1 ∷ edits_of_pass i steps else edits_of_pass i steps) ≡ edits_in us
        → ((zs : Updates) → Located i (suc q) steps (suc q) zs → edits_of_pass i steps ≡ edits_in zs → others ≡ zs)
        → (if b then (s.1, suc q) ∷ others else others) ≡ us
    by true f [] l e rec = let no : s.1 ∷ edits_of_pass i steps ≡ [] = e in cc
    by true f (u ∷ us) l e rec =
        let both : s.1 ∷ edits_of_pass i steps ≡ u.0 ∷ edits_in us = e in
        let edit : s.1 ≡ u.0 = cc in
        let rest : edits_of_pass i steps ≡ edits_in us = cc in
        let place : u.1 ≡ suc q = first u us l rest in
        let left = rec us (shift i q s steps (suc q) us (omega arith) (subst (λ (n : ℕ). Located i q (s ∷ steps) n us) place l.2)) rest in
        ap (λ (x : Updates). (s.1, suc q) ∷ x) left ∙ ap (λ (x : Edit). (x, suc q) ∷ us) edit ∙ ap (λ (n : ℕ). (u.0, n) ∷ us) (sym place)
      where
        many : (us : Updates) → length (edits_in us) ≡ length us
        many [] = refl
        many (u ∷ us) = ap suc (many us)

        first : (u : Edit × ℕ) (us : Updates) → Located i q (s ∷ steps) q (u ∷ us) → edits_of_pass i steps ≡ edits_in us → u.1 ≡ suc q
        first v zs l rest = on (v.1 == suc q) refl
          where
            on : (b : Bool) → (v.1 == suc q) ≡ b → v.1 ≡ suc q
            on true h = grind (arith, nat_tests)
            on false h =
                let past : suc q < v.1 = grind (arith, nat_tests) in
                let less = count steps i (suc q) (suc q) (v ∷ zs) (omega arith) (shift i q s steps (suc q) (v ∷ zs) (omega arith) (past, l.1, l.2)) in
                let lengths : length (edits_of_pass i steps) ≡ length zs = ap (λ (x : List Edit). length x) rest ∙ many zs in
                absurd (omega arith)
    by false f [] l e rec = rec [] tt e
    by false f (u ∷ us) l e rec = rec (u ∷ us) (shift i q s steps (suc q) (u ∷ us) (omega arith) (far (u.1 == suc q) refl, l.1, l.2)) e
      where
        far : (b : Bool) → (u.1 == suc q) ≡ b → suc q < u.1
        far true h =
            let same : u.1 ≡ suc q = grind (arith, nat_tests) in
            let own_step : s.0 ≡ i = at_first i q s steps u same l.1 in
            let wrong : (s.0 == i) ≡ true = grind (arith, nat_tests) in
            absurd (let no_way : true ≡ false = sym wrong ∙ f in cc)
        far false h = grind (arith, nat_tests)

-- the updates of a log are located
located : (i : ℕ) (history : History) (log : List Entry) (low : ℕ) → AreEntries i history log → PlacesRise low log → Located i 0 history low (updates log)
located i history [] low a r = tt
located i history (entry ∷ log) low a r = by (effect entry.0) a.0 r.0 (located i history log entry.1 a.1 r.1)
  where
    by : (edits : List Edit) → IsEntryAt i history entry.0 entry.1 edits → IsPlaceFrom low entry.1 edits → Located i 0 history entry.1 (updates log)
        → Located i 0 history low (with_update edits entry.1 (updates log))
    by [] e f rec = lower i 0 history low entry.1 (updates log) f rec
    by (edit ∷ edits) e f rec = (f, e.2, rec)

-- the edits of a log are those of its updates
edits_are : (log : List Entry) → edits_of_log log ≡ edits_in (updates log)
edits_are [] = refl
edits_are (entry ∷ log) = by (effect entry.0) (one_edit entry.0) (edits_are log)
  where
    by : (edits : List Edit) → ((edit : Edit) (more : List Edit) → edits ≡ edit ∷ more → more ≡ []) → edits_of_log log ≡ edits_in (updates log)
        → edits ++ edits_of_log log ≡ edits_in (with_update edits entry.1 (updates log))
    by [] one rest = rest
    by (edit ∷ edits) one rest = ap (λ (x : List Edit). edit ∷ (x ++ edits_of_log log)) (one edit edits refl) ∙ ap (λ (x : List Edit). edit ∷ x) rest

-- The updates of a lawful log stand exactly where the pass's edits stand in the history.
pub places_agree : (i : ℕ) (history : History) (log : List Entry) → IsLawful i history log → items_of i (numbered 0 history) ≡ updates log
places_agree i history log h =
    located_all history i 0 (updates log) (located i history log 0 h.entries h.places) (h.edits ∙ edits_are log)
