-- A pass over a shared history meets a store's contract.
use Rattle.std.proofs.Common.{◌≡◌, ℕ, zero, suc, ◌+◌, ◌-◌, ◌≤◌, ◌==◌, Bool, true, false, List, [], ◌∷◌, ◌++◌, if◌then◌else◌, length, take, drop, arith, refl, sym, ◌∙◌, ap, subst, Some, None, append-nil, append_assoc, length-append}
use Rattle.std.specs.Prelude.{slice_get, Option}
use Rattle.std.proofs.lemmas.Bool.Decides.{nat_tests}
use Rattle.std.proofs.lemmas.List.{take-append-drop}
use Rattle.ca_model.specs.StoreMap.{StoreMap, IsStoreMap}
use Rattle.ca_model.specs.History.{Edit, History, state, after, by_pass, edits_of_pass, AreEdits, AreByPasses, AreByOthers}
use Rattle.ca_model.specs.Event.{Event, Entry, Get, Write, WriteNew, Remove, Change, Above, Below, Range, IsAnswer, effect}
use Rattle.ca_model.specs.Lawful.{IsEntryAt, AreEntries, IsPlaceFrom, edits_of_log}
use Rattle.ca_model.specs.Known.{Known, Seen, Meets, around, place, place_of, seen_with}
use Rattle.ca_model.specs.Passes.{HasSeen, Advances, PassesMeet}
use Rattle.ca_model.proofs.Edits.{map_after}
use Rattle.ca_model.proofs.Parts.{by_others, edits_in_parts, log_more, same_behind, second_edits, second_passes}

after-append : (xs ys : History) (m : StoreMap) → after (xs ++ ys) m ≡ after ys (after xs m)
after-append [] ys m = refl
after-append (x ∷ xs) ys m = after-append xs ys _

after_all : (xs : History) (m : StoreMap) → after (take (length xs) xs) m ≡ after xs m
after_all [] m = refl
after_all (x ∷ xs) m = after_all xs _

take_past : (xs ys : History) (n : ℕ) → take (length xs + n) (xs ++ ys) ≡ xs ++ take n ys
take_past [] ys n = let e : 0 + n ≡ n = omega arith in ap (λ (k : ℕ). take k ys) e
take_past (x ∷ xs) ys n = let e : suc (length xs) + n ≡ suc (length xs + n) = omega arith in ap (λ (k : ℕ). take k (x ∷ (xs ++ ys))) e
    ∙ ap (λ (zs : History). x ∷ zs) (take_past xs ys n)

get_past : (xs ys : History) (n : ℕ) → slice_get (xs ++ ys) (length xs + n) ≡ slice_get ys n
get_past [] ys n = let e : 0 + n ≡ n = omega arith in ap (λ (k : ℕ). slice_get ys k) e
get_past (x ∷ xs) ys n = let e : suc (length xs) + n ≡ suc (length xs + n) = omega arith in ap (λ (k : ℕ). slice_get (x ∷ (xs ++ ys)) k) e ∙ get_past xs ys n

-- a history is what stands before one of its edits, that edit, and what stands behind it
parts_at : (xs : History) (n : ℕ) (x : ℕ × Edit) → slice_get xs n ≡ Some x → take n xs ++ x ∷ drop (suc n) xs ≡ xs
parts_at [] n x e = cc
parts_at (y ∷ xs) zero x e = let same : y ≡ x = cc in ap (λ (z : ℕ × Edit). z ∷ xs) (sym same)
parts_at (y ∷ xs) (suc n) x e = ap (λ (zs : History). y ∷ zs) (parts_at xs n x e)

took : (xs : History) (n : ℕ) → n ≤ length xs → length (take n xs) ≡ n
took xs zero h = refl
took [] (suc n) h = absurd (omega arith)
took (x ∷ xs) (suc n) h = ap suc (took xs n (omega arith))

-- the state at a place past what was seen
state_past : (seen more : History) (p n : ℕ) → p ≡ length seen + n → state (seen ++ more) p ≡ after (take n more) (after seen [])
state_past seen more p n e = ap (λ (k : ℕ). after (take k (seen ++ more)) []) e ∙ ap (λ (h : History). after h []) (take_past seen more n)
    ∙ after-append seen (take n more) []

-- A call makes one edit at most.
pub one_edit : (event : Event) (edit : Edit) (edits : List Edit) → effect event ≡ edit ∷ edits → edits ≡ []
one_edit (Get k found) edit edits e = cc
one_edit (Write k o) edit edits e = cc
one_edit (WriteNew k o true) edit edits e = cc
one_edit (WriteNew k o false) edit edits e = cc
one_edit (Remove k None) edit edits e = cc
one_edit (Remove k (Some o)) edit edits e = cc
one_edit (Change k None new) edit edits e = cc
one_edit (Change k (Some o) None) edit edits e = cc
one_edit (Change k (Some o) (Some new)) edit edits e = cc
one_edit (Above lo found) edit edits e = cc
one_edit (Below hi found) edit edits e = cc
one_edit (Range lo hi cut objects) edit edits e = cc

-- the last entry of a log
last_entry : (pass : ℕ) (history : History) (log : List Entry) (event : Event) (p : ℕ) → AreEntries pass history (log ++ (event, p) ∷ [])
    → IsEntryAt pass history event p (effect event)
last_entry pass history [] event p h = h.0
last_entry pass history (entry ∷ log) event p h = last_entry pass history log event p h.1

no_edit : {A : Type 0} (xs : List A) → length xs ≡ 0 → xs ≡ []
no_edit [] e = refl
no_edit (x ∷ xs) e = absurd (omega (arith, e))

first_empty : (xs ys : List Edit) → xs ++ ys ≡ [] → xs ≡ []
first_empty [] ys e = refl
first_empty (x ∷ xs) ys e = cc

second_empty : (xs ys : List Edit) → xs ++ ys ≡ [] → ys ≡ []
second_empty [] ys e = e
second_empty (x ∷ xs) ys e = cc

-- an edit of the pass itself is the first of its edits
own_first : (pass : ℕ) (edit : Edit) (xs : History) → length (edits_of_pass pass ((pass, edit) ∷ xs)) ≡ suc (length (edits_of_pass pass xs))
own_first pass edit xs = by (pass == pass) refl
  where
    by : (own : Bool) → (pass == pass) ≡ own → length (if own then edit ∷ edits_of_pass pass xs else edits_of_pass pass xs) ≡ suc
        (length (edits_of_pass pass xs))
    by true is = refl
    by false is = absurd (grind (arith, nat_tests, is))

-- what an advance tells of the edits that were learnt
own_edits : (a b : Known) (event : Event) (adv : Advances a b event) → edits_of_pass a.pass adv.more ≡ effect event
own_edits a b event adv =
    let all : edits_of_pass b.pass (adv.history ++ adv.more) ≡ edits_of_log (adv.log ++ (event, adv.at) ∷ []) = adv.behind.lawful.edits in
    let all_own : edits_of_pass a.pass (adv.history ++ adv.more) ≡ edits_of_log (adv.log ++ (event, adv.at) ∷ []) =
    subst (λ (n : ℕ). edits_of_pass n (adv.history ++ adv.more) ≡ edits_of_log (adv.log ++ (event, adv.at) ∷ [])) adv.same.pass all in
    same_behind (edits_of_pass a.pass adv.history) (edits_of_pass a.pass adv.more) (effect event)
    (sym (edits_in_parts a.pass adv.history adv.more) ∙ all_own ∙ log_more adv.log event adv.at
    ∙ ap (λ (es : List Edit). es ++ effect event) (sym adv.before.lawful.edits))

map_seen : (a : Known) (history : History) (log : List Entry) → HasSeen a history log → a.map ≡ after history []
map_seen a history log h = h.map ∙ after_all history []

-- The parts of what was learnt: what stands before the event's own edit, and what stands behind it.
record Parts (a : Known) (event : Event) (history more : History) (p : ℕ) : Type 0 where
  earlier : History
  later : History
  whole : around a.pass earlier event later ≡ more
  place : p ≡ length history + length earlier + length (effect event)
  answer : IsAnswer event (after earlier (after history []))
  others_earlier : AreByOthers a.pass earlier
  others_later : AreByOthers a.pass later

parts_of : (a : Known) (event : Event) (history more : History) (p : ℕ) → edits_of_pass a.pass more ≡ effect event
    → IsEntryAt a.pass (history ++ more) event p (effect event) → IsPlaceFrom (length history) p (effect event) → Parts a event history more p
parts_of a event history more p own entry from = by (effect event) refl own entry from
  where
    counted : (n : ℕ) (edit : Edit) (edits : List Edit) → edits_of_pass a.pass (take n more) ++ edits_of_pass a.pass ((a.pass, edit) ∷ drop (suc n) more) ≡
        edit ∷ edits → edits ≡ []
        → length (edits_of_pass a.pass (take n more)) + length (edits_of_pass a.pass (drop (suc n) more)) ≡ 0
    counted n edit edits owns none =
        let first = own_first a.pass edit (drop (suc n) more) in
        let whole = ap (λ (es : List Edit). length es) owns in
        let ends = ap (λ (es : List Edit). length es) none in
        let sum = length-append (edits_of_pass a.pass (take n more)) (edits_of_pass a.pass ((a.pass, edit) ∷ drop (suc n) more)) in
        omega (arith, first, whole, ends, sum)

    by : (edits : List Edit) → effect event ≡ edits → edits_of_pass a.pass more ≡ edits → IsEntryAt a.pass (history ++ more) event p edits
        → IsPlaceFrom (length history) p edits → Parts a event history more p
    by [] none own entry low =
        let n = p - length history in
        let at : p ≡ length history + n = omega arith in
        let short : n ≤ length more = omega (arith, entry.0, length-append history more) in
        let split : take n more ++ drop n more ≡ more = take-append-drop n more in
        let owns : edits_of_pass a.pass (take n more) ++ edits_of_pass a.pass (drop n more) ≡ [] =
        sym (edits_in_parts a.pass (take n more) (drop n more)) ∙ ap (edits_of_pass a.pass) split ∙ own in
        record {
          earlier = take n more;
          later = drop n more;
          whole = ap (λ (es : List Edit). take n more ++ by_pass a.pass es ++ drop n more) none
              ∙ ap (λ (h : History). h ++ drop n more) (append-nil (take n more)) ∙ split;
          place = omega (arith, took more n short, ap (λ (es : List Edit). length es) none);
          answer = subst (λ (m : StoreMap). IsAnswer event m) (state_past history more p n at) entry.1;
          others_earlier = by_others a.pass (take n more) (first_empty (edits_of_pass a.pass (take n more)) (edits_of_pass a.pass (drop n more)) owns);
          others_later = by_others a.pass (drop n more) (second_empty (edits_of_pass a.pass (take n more)) (edits_of_pass a.pass (drop n more)) owns);
        }
    by (edit ∷ edits) one own entry low =
        let n = p - length history - 1 in
        let before : p - 1 ≡ length history + n = omega arith in
        let here : slice_get more n ≡ Some (a.pass, edit) = sym (get_past history more n) ∙ ap (λ (k : ℕ). slice_get (history ++ more) k) (sym before)
        ∙ entry.2 in
        let short : n ≤ length more = omega (arith, entry.1, length-append history more) in
        let single : effect event ≡ edit ∷ [] = one ∙ ap (λ (es : List Edit). edit ∷ es) (one_edit event edit edits one) in
        let split : take n more ++ (a.pass, edit) ∷ drop (suc n) more ≡ more = parts_at more n (a.pass, edit) here in
        let owns : edits_of_pass a.pass (take n more) ++ edits_of_pass a.pass ((a.pass, edit) ∷ drop (suc n) more) ≡ edit ∷ edits =
        sym (edits_in_parts a.pass (take n more) ((a.pass, edit) ∷ drop (suc n) more)) ∙ ap (edits_of_pass a.pass) split ∙ own in
        let alone : length (edits_of_pass a.pass (take n more)) + length (edits_of_pass a.pass (drop (suc n) more)) ≡ 0 =
        counted n edit edits owns (one_edit event edit edits one) in
        record {
          earlier = take n more;
          later = drop (suc n) more;
          whole = ap (λ (es : List Edit). take n more ++ by_pass a.pass es ++ drop (suc n) more) single
              ∙ append_assoc (take n more) ((a.pass, edit) ∷ []) (drop (suc n) more) ∙ split;
          place = omega (arith, took more n short, ap (λ (es : List Edit). length es) single);
          answer = subst (λ (m : StoreMap). IsAnswer event m) (state_past history more (p - 1) n before) entry.3;
          others_earlier = by_others a.pass (take n more) (no_edit _ (omega (arith, alone)));
          others_later = by_others a.pass (drop (suc n) more) (no_edit _ (omega (arith, alone)));
        }

met : (a b : Known) (event : Event) (adv : Advances a b event) → Parts a event adv.history adv.more adv.at → Meets a b event
met a b event adv parts =
    let seen_now : place a.seen ≡ length adv.history = ap place adv.before.seen in
    let at : adv.at ≡ place_of a parts.earlier event = omega (arith, seen_now, parts.place) in
    let map_now = map_seen a adv.history adv.log adv.before in
    record {
      earlier = parts.earlier;
      later = parts.later;
      answer = subst (λ (m : StoreMap). IsAnswer event (after parts.earlier m)) (sym map_now) parts.answer;
      learns = record {
        same = adv.same;
        map = map_seen b (adv.history ++ adv.more) (adv.log ++ (event, adv.at) ∷ []) adv.behind ∙ after-append adv.history adv.more []
            ∙ ap (λ (m : StoreMap). after adv.more m) (sym map_now) ∙ ap (λ (h : History). after h a.map) (sym parts.whole);
        seen = adv.behind.seen ∙ ap (λ (n : ℕ). seen_with (Some (record { history = adv.history; log = adv.log })) adv.more ((event, n) ∷ [])) at
            ∙ ap (λ (s : Option Seen). seen_with s adv.more ((event, place_of a parts.earlier event) ∷ [])) (sym adv.before.seen)
            ∙ ap (λ (h : History). seen_with a.seen h ((event, place_of a parts.earlier event) ∷ [])) (sym parts.whole);
        valid = subst (λ (m : StoreMap). IsStoreMap a.keypos m) (sym map_now) (map_after a.keypos adv.history [] adv.before.edits tt);
        edits = subst (λ (h : History). AreEdits a.keypos h) (sym parts.whole) (learnt_edits a b event adv);
        passes = subst (λ (h : History). AreByPasses a.passes h) (sym parts.whole) (learnt_passes a b event adv);
      };
      others_earlier = parts.others_earlier;
      others_later = parts.others_later;
      alone = λ h. none_else h;
      counts = adv.counts;
    }
  where
    learnt_edits : (a b : Known) (event : Event) (adv : Advances a b event) → AreEdits a.keypos adv.more
    learnt_edits a b event adv = second_edits a.keypos adv.history adv.more (subst (λ (n : ℕ). AreEdits n (adv.history ++ adv.more)) adv.same.keypos
        adv.behind.edits)

    learnt_passes : (a b : Known) (event : Event) (adv : Advances a b event) → AreByPasses a.passes adv.more
    learnt_passes a b event adv = second_passes a.passes adv.history adv.more (subst (λ (n : ℕ). AreByPasses n (adv.history ++ adv.more)) adv.same.passes
        adv.behind.passes)

    none_else : a.alone ≡ true → (parts.earlier ≡ []) × (parts.later ≡ [])
    none_else h =
        let own = by_pass a.pass (effect event) in
        let whole : parts.earlier ++ own ++ parts.later ≡ own = parts.whole ∙ adv.alone h in
        let sum : length (parts.earlier ++ own ++ parts.later) ≡ length own = ap (λ (es : History). length es) whole in
        let outer = length-append (parts.earlier ++ own) parts.later in
        let inner = length-append parts.earlier own in
        (no_edit parts.earlier (omega (arith, sum, outer, inner)), no_edit parts.later (omega (arith, sum, outer, inner)))

pub passes_meet : PassesMeet
passes_meet a b event adv =
    let entry : IsEntryAt b.pass (adv.history ++ adv.more) event adv.at (effect event) =
    last_entry b.pass (adv.history ++ adv.more) adv.log event adv.at adv.behind.lawful.entries in
    met a b event adv (parts_of a event adv.history adv.more adv.at (own_edits a b event adv)
    (subst (λ (n : ℕ). IsEntryAt n (adv.history ++ adv.more) event adv.at (effect event)) adv.same.pass entry) adv.from)
