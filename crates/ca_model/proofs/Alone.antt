-- What a call of a plain store makes known.
use Rattle.std.proofs.Common.{◌≡◌, ℕ, ◌+◌, ◌-◌, ◌≤◌, true, List, [], ◌∷◌, ◌++◌, length, length-append, take, drop, get_or, refl, sym, ◌∙◌, ap, subst, Result, Ok, Err, Some, None, arith}
use Rattle.std.specs.Prelude.{Bool, Option}
use Rattle.std.specs.List.Sorted.{IsBinarySearchResult, IsSearchInRange}
use Rattle.std.specs.List.{slice_range}
use Rattle.std.proofs.lemmas.List.{take_at, drop_at}
use denote.Ref.{Bor, MutBor}
use denote.Param.Members.{Shared}
use Rattle.arrayvec.specs.ArrayVec.{ArrayVec}
use Rattle.ca_model.specs.StoreMap.{Pair, StoreMap, bytes_cmp, get, put, IsPair, IsStoreMap}
use Rattle.ca_model.specs.History.{Edit, after_edit, IsEdit}
use Rattle.ca_model.specs.Event.{Event, IsAnswer, effect}
use Rattle.ca_model.specs.Known.{Known, Meets}
use Rattle.ca_model.specs.Function.{MayLeave, StandsAt, KeepsKey}
use Rattle.ca_model.specs.Slab.{nothing, placed}
use Rattle.ca_model.specs.PlainView.{known_alone}
use Rattle.ca_model.specs.RunView.{left_in, IsPart}
use Rattle.ca_model.specs.declared.run.Run.{Run}
use Rattle.ca_model.proofs.Places.{searched, placed_is, is_found}
use Rattle.ca_model.specs.Places.{IsPlace, IsAt, IsBefore}
use Rattle.ca_model.proofs.Edits.{map_after_edit, found_pair}

-- A call that reads, and leaves this run open or none.
pub read_leaves : (p : ℕ) (m : StoreMap) (r left : Option (List (List ℕ))) (s : ℕ) (a : Known) (event : Event) → known_alone p m r s ≡ a
    → IsStoreMap p m → effect event ≡ [] → IsAnswer event m → Meets a (known_alone p m left s) event
read_leaves p m r left s a event e t none answer = subst (λ (x : Known). Meets x (known_alone p m left s) event) e (record {
  earlier = [];
  later = [];
  answer = answer;
  learns = record {
    same = record { store = refl; keypos = refl; pass = refl; passes = refl; alone = refl; sure = refl };
    map = rw none refl;
    seen = refl;
    valid = t;
    edits = rw none tt;
    passes = rw none tt;
  };
  others_earlier = tt;
  others_later = tt;
  alone = λ h. (refl, refl);
  counts = refl;
})

-- A call that reads.
pub read_met : (p : ℕ) (m : StoreMap) (r : Option (List (List ℕ))) (s : ℕ) (a : Known) (event : Event) → known_alone p m r s ≡ a → IsStoreMap p m
    → effect event ≡ [] → IsAnswer event m → Meets a a event
read_met p m r s a event e t none answer = subst (λ (x : Known). Meets a x event) e (read_leaves p m r r s a event e t none answer)

-- A call that edits.
pub edit_met : (p : ℕ) (m n : StoreMap) (r left : Option (List (List ℕ))) (s z : ℕ) (a : Known) (event : Event) (edit : Edit)
    → known_alone p m r s ≡ a → IsStoreMap p m → effect event ≡ edit ∷ [] → IsEdit p edit → n ≡ after_edit edit m
    → IsAnswer event m → Meets a (known_alone p n left z) event
edit_met p m n r left s z a event edit e t one fits is answer = subst (λ (x : Known). Meets x (known_alone p n left z) event) e (record {
  earlier = [];
  later = [];
  answer = answer;
  learns = record {
    same = record { store = refl; keypos = refl; pass = refl; passes = refl; alone = refl; sure = refl };
    map = rw one is;
    seen = refl;
    valid = t;
    edits = rw one (fits, tt);
    passes = rw one (omega arith, omega arith, tt);
  };
  others_earlier = tt;
  others_later = tt;
  alone = λ h. (refl, refl);
  counts = refl;
})

no_run : (m : StoreMap) (r : Option Run) → left_in m r ≡ None → r ≡ None
no_run m None e = refl
no_run m (Some run) e = cc

-- Where no run is open, none is a part of any list.
pub closed_part : (p : ℕ) (m n : StoreMap) (r : Option Run) (s : ℕ) (a : Known) → known_alone p m (left_in m r) s ≡ a → a.run ≡ None → IsPart n r
closed_part p m n r s a e none =
    let no = no_run m r (ap (λ (k : Known). k.run) e ∙ none) in
    subst (λ (x : Option Run). IsPart n x) (sym no) tt

pub closed_left : (p : ℕ) (m n : StoreMap) (r : Option Run) (s : ℕ) (a : Known) → known_alone p m (left_in m r) s ≡ a → a.run ≡ None
    → left_in n r ≡ None
closed_left p m n r s a e none = ap (left_in n) (no_run m r (ap (λ (k : Known). k.run) e ∙ none))

-- the object with a key, where a search found it
pub record IsThere (p : ℕ) (m : StoreMap) (k : List ℕ) (at : ℕ) (o : List ℕ) : Type 0 where
  pub place : IsAt m k at
  pub found : get m k ≡ (k, o) ∷ []
  pub pair : IsPair p (k, o)

-- What a search that answers a place has found there.
pub there : (p : ℕ) (m : StoreMap) (k : List ℕ) (r : Result ℕ ℕ) (at : ℕ) (o : List ℕ) → IsStoreMap p m → IsSearchInRange r (length m)
    → IsBinarySearchResult (λ q. bytes_cmp q.0 k) m r → r ≡ Ok at → o ≡ (get_or m at nothing).1 → IsThere p m k at o
there p m k r at o t b s e same =
    let place : IsAt m k at = subst (λ (x : Result ℕ ℕ). IsPlace m k x) e (searched p m k r t b s) in
    let found : get m k ≡ (k, o) ∷ [] = is_found m k at place ∙ ap (λ (n : List ℕ). (k, n) ∷ []) (sym same) in
    record { place = place; found = found; pair = found_pair p m k o t found }

-- A search that answers a gap has found nothing.
pub absent : (p : ℕ) (m : StoreMap) (k : List ℕ) (r : Result ℕ ℕ) (at : ℕ) → IsStoreMap p m → IsSearchInRange r (length m)
    → IsBinarySearchResult (λ q. bytes_cmp q.0 k) m r → r ≡ Err at → get m k ≡ []
absent p m k r at t b s e = let place : IsBefore m k at = subst (λ (x : Result ℕ ℕ). IsPlace m k x) e (searched p m k r t b s) in place.equal

-- A pair that is put where a search of its key answered is put into the map.
pub put_is : (p : ℕ) (m n : StoreMap) (k o : List ℕ) (r : Result ℕ ℕ) → IsStoreMap p m → IsSearchInRange r (length m)
    → IsBinarySearchResult (λ q. bytes_cmp q.0 k) m r → n ≡ placed m r (k, o) → n ≡ put m k o
put_is p m n k o r t b s e = e ∙ placed_is m (k, o) r (searched p m k r t b s)

-- An edit keeps the map.
pub kept : (p : ℕ) (m n : StoreMap) (edit : Edit) → IsStoreMap p m → IsEdit p edit → n ≡ after_edit edit m → IsStoreMap p n
kept p m n edit t e is = subst (λ (x : StoreMap). IsStoreMap p x) (sym is) (map_after_edit p edit m e t)

-- A function that was called at an object with an empty Code, and answered so, may leave what it left.
pub may_leave : {F : Type 0} (g : Shared F (Bor (List ℕ) × (MutBor (ArrayVec ℕ) × (MutBor ℕ × Unit {0}))) (Bool
    × (MutBor (ArrayVec ℕ) × (MutBor ℕ × Unit {0})))) (f : F)
    (object : List ℕ) (r answer : Bool) (shown : Bor (List ℕ)) (into into' : MutBor (ArrayVec ℕ)) (start start' : MutBor ℕ) → r ≡ answer
    → shown.now ≡ object → into.now.items ≡ []
    → g.post f (shown, (into, (start, tt))) (r, (into', (start', tt))) → MayLeave g f object answer into'.now.items start'.now
may_leave g f object r answer shown into into' start start' e s m post = record {
  shown = shown;
  into = into;
  start = start;
  shows = s;
  empty = m;
  into_after = into';
  start_after = start';
  met = subst (λ (b : Bool). g.post f (shown, (into, (start, tt))) (b, (into', (start', tt)))) e post;
  leaves = refl;
  counts = refl;
}

abbrev paired : List ℕ → List ℕ → Pair
paired k o = (k, o)

-- what a function that keeps the key has left in the place of an object
pub record IsLeft (p : ℕ) (k w : List ℕ) (start : ℕ) : Type 0 where
  pub pair : IsPair p (k, w)
  pub inside : start + length k ≤ length w
  pub key : slice_range w start (start + length k) ≡ k

pub left_by : {F : Type 0} (g : Shared F (Bor (List ℕ) × (MutBor (ArrayVec ℕ) × (MutBor ℕ × Unit {0}))) (Bool
    × (MutBor (ArrayVec ℕ) × (MutBor ℕ × Unit {0})))) (f : F)
    (p q : ℕ) (k o w : List ℕ) (start : ℕ) → p ≡ q → KeepsKey g f q k → IsPair p (k, o) → MayLeave g f o true w start → IsLeft p k w start
left_by g f p q k o w start e keeps old may =
    let kept = keeps.keeps o w start (subst (λ (n : ℕ). IsPair n (k, o)) e old) may in
    record {
      pair = subst (λ (n : ℕ). IsPair n (k, w)) (sym e) kept.0;
      inside = within kept.1;
      key = cut kept.1;
    }
  where
    within : StandsAt k w start → start + length k ≤ length w
    within s =
        let whole = ap (λ (x : List ℕ). length x) s.bytes in
        let outer = length-append s.before (k ++ s.behind) in
        let inner = length-append k s.behind in
        omega (arith, whole, outer, inner, s.place)

    cut : StandsAt k w start → slice_range w start (start + length k) ≡ k
    cut s =
        let size : start + length k - start ≡ length k = omega arith in
        let rest : drop start w ≡ k ++ s.behind = ap (λ (x : List ℕ). drop start x) s.bytes ∙ drop_at s.before (k ++ s.behind) start (sym s.place) in
        ap (λ (n : ℕ). take n (drop start w)) size ∙ ap (λ (x : List ℕ). take (length k) x) rest ∙ take_at k s.behind (length k) refl

-- the pair that is cut out of bytes is the one of the key and the object that they are
pub pair_of_bytes : (lent w k : List ℕ) (start : ℕ) → lent ≡ w → slice_range w start (start + length k) ≡ k
    → paired (slice_range lent start (start + length k)) lent ≡ paired k w
pair_of_bytes lent w k start e h = ap (λ (x : List ℕ). paired (slice_range x start (start + length k)) x) e ∙ ap (λ (x : List ℕ). paired x w) h
