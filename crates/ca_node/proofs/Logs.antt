-- Logs as the history grows, and as they grow.
use Rattle.std.proofs.Common.{◌≡◌, ◌≢◌, ℕ, zero, suc, ◌+◌, ◌-◌, ◌<◌, ◌≤◌, List, [], ◌∷◌, ◌++◌, length, take, Some, slice_get, sym, refl, ap, ◌∙◌, subst, arith, length-append, append-nil, if◌then◌else◌, eqb, eq-eqb, ne_eqb}
use Rattle.std.proofs.lemmas.List.{take-append-le, append_assoc}
use mathlib.Core.Logic.{dite}
use native.Mathlib.Decide.{ℕ_discrete}
use Rattle.ca_model.specs.Event.{Event, Entry, IsAnswer, effect}
use Rattle.ca_model.specs.History.{Edit, History, after, after_edit, state, edits_of_pass}
use Rattle.ca_model.specs.Lawful.{IsEntryAt, AreEntries, IsPlaceFrom, PlacesRise, edits_of_log, IsLawful}
use Rattle.ca_model.specs.StoreMap.{StoreMap}
use Rattle.ca_node.specs.Tree.{ArePast, IsEnded}
use Rattle.ca_node.specs.TreeView.{Ended, TreeView}

-- The map after a history and some more of it.
pub after_more : (xs ys : History) (m : StoreMap) → after (xs ++ ys) m ≡ after ys (after xs m)
after_more [] ys m = refl
after_more (x ∷ xs) ys m = after_more xs ys (after_edit x.1 m)

take_whole : (xs ys : History) → take (length xs) (xs ++ ys) ≡ xs
take_whole [] ys = refl
take_whole (x ∷ xs) ys = ap (λ zs. x ∷ zs) (take_whole xs ys)

-- The state at the end of the first part.
pub state_there : (xs ys : History) → state (xs ++ ys) (length xs) ≡ after xs []
state_there xs ys = ap (λ h. after h []) (take_whole xs ys)

-- The state at the end of a history.
pub last_state : (h : History) → state h (length h) ≡ after h []
last_state h = ap (λ (x : History). state x (length h)) (sym (append-nil h)) ∙ state_there h []

-- A state within a history stays as it grows.
pub state_stays : (h t : History) (p : ℕ) → p ≤ length h → state (h ++ t) p ≡ state h p
state_stays h t p l = ap (λ x. after x []) (take-append-le p h t l)

get_stays : (h t : History) (i : ℕ) → i < length h → slice_get (h ++ t) i ≡ slice_get h i
get_stays [] t i l = absurd (omega arith)
get_stays (x ∷ xs) t zero l = refl
get_stays (x ∷ xs) t (suc i) l = get_stays xs t i (omega arith)

get_last : (h t : History) (x : ℕ × Edit) → slice_get (h ++ x ∷ t) (length h) ≡ Some x
get_last [] t x = refl
get_last (y ∷ ys) t x = get_last ys t x

entry_stays : (pass : ℕ) (h t : History) (event : Event) (p : ℕ) (edits : List Edit)
    → IsEntryAt pass h event p edits → IsEntryAt pass (h ++ t) event p edits
entry_stays pass h t event p [] e = let l = e.0 in let long = length-append h t in
    (omega arith, subst (IsAnswer event) (sym (state_stays h t p l)) e.1)
entry_stays pass h t event p (edit ∷ edits) e = let lo = e.0 in let l = e.1 in
    let long = length-append h t in (
      e.0,
      omega arith,
      get_stays h t (p - 1) (omega arith) ∙ e.2,
      subst (IsAnswer event) (sym (state_stays h t (p - 1) (omega arith))) e.3,
    )

-- Entries stay right as the history grows.
pub entries_stay : (pass : ℕ) (h t : History) (log : List Entry) → AreEntries pass h log
    → AreEntries pass (h ++ t) log
entries_stay pass h t [] e = tt
entries_stay pass h t (x ∷ xs) e =
    (entry_stays pass h t x.0 x.1 (effect x.0) e.0, entries_stay pass h t xs e.1)

entries_more : (pass : ℕ) (h : History) (log : List Entry) (x : Entry) → AreEntries pass h log
    → IsEntryAt pass h x.0 x.1 (effect x.0)
    → AreEntries pass h (log ++ x ∷ [])
entries_more pass h [] x e n = (n, tt)
entries_more pass h (y ∷ ys) x e n = (e.0, entries_more pass h ys x e.1 n)

-- The edits of a pass, as one more edit was made.
edits_else : (pass n : ℕ) (e : Edit) (h : History) → n ≢ pass
    → edits_of_pass pass (h ++ (n, e) ∷ []) ≡ edits_of_pass pass h
edits_else pass n e [] other = ap (λ c. if c then e ∷ [] else []) (ne_eqb n pass other)
edits_else pass n e (x ∷ xs) other = ap
    (λ (es : List Edit). if eqb x.0 pass then x.1 ∷ es else es) (edits_else pass n e xs other)

edits_own : (n : ℕ) (e : Edit) (h : History)
    → edits_of_pass n (h ++ (n, e) ∷ []) ≡ edits_of_pass n h ++ e ∷ []
edits_own n e [] = ap (λ c. if c then e ∷ [] else []) (eq-eqb n n refl)
edits_own n e (x ∷ xs) = dite (ℕ_discrete x.0 n)
    (λ f. ap (λ c. if c then x.1 ∷ edits_of_pass n (xs ++ (n, e) ∷ [])
    else edits_of_pass n (xs ++ (n, e) ∷ [])) (eq-eqb x.0 n f)
    ∙ (ap (λ (es : List Edit). x.1 ∷ es) (edits_own n e xs)
    ∙ sym (ap (λ c. (if c then x.1 ∷ edits_of_pass n xs else edits_of_pass n xs) ++ e ∷ [])
    (eq-eqb x.0 n f))))
    (λ m. ap (λ c. if c then x.1 ∷ edits_of_pass n (xs ++ (n, e) ∷ [])
    else edits_of_pass n (xs ++ (n, e) ∷ [])) (ne_eqb x.0 n m)
    ∙ (edits_own n e xs
    ∙ sym (ap (λ c. (if c then x.1 ∷ edits_of_pass n xs else edits_of_pass n xs) ++ e ∷ [])
    (ne_eqb x.0 n m))))

log_more : (log : List Entry) (x : Entry)
    → edits_of_log (log ++ x ∷ []) ≡ edits_of_log log ++ effect x.0
log_more [] x = append_none (effect x.0)
  where
    append_none : (es : List Edit) → es ++ [] ≡ es
    append_none [] = refl
    append_none (e ∷ es) = ap (λ xs. e ∷ xs) (append_none es)
log_more (y ∷ ys) x = ap (λ es. effect y.0 ++ es) (log_more ys x)
    ∙ sym (append_assoc (effect y.0) (edits_of_log ys) (effect x.0))

places_more : (low top : ℕ) (log : List Entry) (x : Entry) → low ≤ top → PlacesRise low log
    → ArePast top log → IsPlaceFrom top x.1 (effect x.0)
    → PlacesRise low (log ++ x ∷ [])
places_more low top [] x l p a n = (weaker low top x.1 (effect x.0) l n, tt)
  where
    weaker : (low top p : ℕ) (es : List Edit) → low ≤ top → IsPlaceFrom top p es
        → IsPlaceFrom low p es
    weaker low top p [] l n = omega arith
    weaker low top p (e ∷ es) l n = omega arith
places_more low top (y ∷ ys) x l p a n = (p.0, places_more y.1 top ys x a.0 p.1 a.1 n)

-- A log with one entry more.
pub past_more : (top : ℕ) (log : List Entry) (x : Entry) → ArePast top log → x.1 ≤ top
    → ArePast top (log ++ x ∷ [])
past_more top [] x a l = (l, tt)
past_more top (y ∷ ys) x a l = (a.0, past_more top ys x a.1 l)

-- Another pass's edit keeps a log lawful.
pub others_lawful : (pass n : ℕ) (e : Edit) (h : History) (log : List Entry) → n ≢ pass
    → IsLawful pass h log → IsLawful pass (h ++ (n, e) ∷ []) log
others_lawful pass n e h log other l = record {
  entries = entries_stay pass h ((
    n,
    e,
  ) ∷ []) log l.entries;
  places = l.places;
  edits = edits_else pass n e h other ∙ l.edits;
}

-- So it does of a pass that was joined into a seat.
pub ended_more : (made : ℕ) (uppers : List TreeView) (n : ℕ) (e : Edit) (h : History) (x : Ended)
    → n ≢ x.number → IsEnded made uppers h x
    → IsEnded made uppers (h ++ (n, e) ∷ []) x
ended_more made uppers n e h x other k = record {
  some_number = k.some_number;
  made_before = k.made_before;
  lawful = others_lawful x.number n e h x.log other k.lawful;
  gone = k.gone;
}

-- A pass's own edit, with the entry of the call that made it.
pub own_lawful : (n : ℕ) (e : Edit) (event : Event) (h : History) (log : List Entry)
    → effect event ≡ e ∷ [] → IsAnswer event (after h [])
    → ArePast (length h) log → IsLawful n h log
    → IsLawful n (h ++ (n, e) ∷ []) (log ++ (event, length h + 1) ∷ [])
own_lawful n e event h log does answer past l = let whole : History = h ++ (n, e) ∷ [] in
    let long = length-append h ((n, e) ∷ []) in
    let back : length h ≡ length h + 1 - 1 = omega arith in record {
      entries = entries_more n whole log (
        event,
        length h + 1,
      ) (entries_stay n h ((n, e) ∷ []) log l.entries)
          (subst (IsEntryAt n whole event (length h + 1)) (sym does) (
            omega arith,
            omega arith,
            subst (λ i. slice_get whole i ≡ Some (n, e)) back (get_last h [] (n, e)),
            subst (λ i. IsAnswer event (state whole i)) back
                (subst (IsAnswer event) (sym (state_there h ((n, e) ∷ []))) answer),
          ));
      places = places_more 0 (length h) log (event, length h + 1)
          (omega arith) l.places past
          (subst (IsPlaceFrom (length h) (length h + 1)) (sym does) (omega arith));
      edits = edits_own n e h ∙ (ap (λ es. es ++ e ∷ []) l.edits
          ∙ sym (log_more log (event, length h + 1) ∙ ap (λ es. edits_of_log log ++ es) does));
    }

-- A call that edits nothing, at a place that the pass has seen.
pub read_lawful : (n : ℕ) (event : Event) (h : History) (p : ℕ) (log : List Entry)
    → effect event ≡ [] → p ≤ length h → IsAnswer event (state h p)
    → ArePast p log → IsLawful n h log → IsLawful n h (log ++ (event, p) ∷ [])
read_lawful n event h p log does l answer past k = record {
  entries = entries_more n h log (
    event,
    p,
  ) k.entries (subst (IsEntryAt n h event p) (sym does) (l, answer));
  places = places_more 0 p log (
    event,
    p,
  ) (omega arith) k.places past (subst (IsPlaceFrom p p) (sym does) (omega arith));
  edits = k.edits ∙ sym (log_more log (event, p)
      ∙ (ap (λ es. edits_of_log log ++ es) does ∙ append_nothing (edits_of_log log)));
}
  where
    append_nothing : (es : List Edit) → es ++ [] ≡ es
    append_nothing [] = refl
    append_nothing (e ∷ es) = ap (λ xs. e ∷ xs) (append_nothing es)
