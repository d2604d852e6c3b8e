-- Collecting the results of a run, object by object.
use Rattle.std.proofs.Common.{◌≡◌, ◌⊎◌, ℕ, zero, suc, ◌+◌, ◌≤◌, ◌<◌, Bool, true, false, List, [], ◌∷◌, ◌++◌, length, map, arith, refl, sym, ◌∙◌, ap, subst, inl, inr, append_assoc, append-nil, length-append, Option, None, Some, if◌then◌else◌}
use Rattle.std.specs.Prelude.{is_some, nat_le, unwrap_or, Result, Err}
use Rattle.std.proofs.lemmas.Bool.Decides.{nat_tests}
use Rattle.std.proofs.lemmas.List.{map-append}
use denote.Ref.{Bor}
use denote.Param.Members.{Shared}
use Rattle.ca_term.specs.Tree.{Tree, AreTerms, IsTerm}
use Rattle.ca_term.specs.Code.{code_of}
use Rattle.ca_term.specs.Object.{key_of}
use Rattle.ca_match.specs.Match.{result_of}
use Rattle.ca_ets.specs.Step.{keyed_results, results_in, last_found}
use Rattle.ca_order.specs.Languages.{IsTermCode}
use Rattle.ca_model.specs.StoreMap.{Pair, StoreMap, IsPair, IsStoreMap}
use Rattle.ca_model.specs.History.{after, by_pass}
use Rattle.ca_model.specs.Edges.{Bound, is_from, is_up_to, objects_of, within}
use Rattle.ca_model.specs.Event.{Range, effect}
use Rattle.ca_model.specs.Known.{Known, Meets, StaysBesideRun}
use Rattle.ca_ets.specs.declared.command.Reply.{Reply}
use Rattle.ca_model.specs.declared.outcome.Outcome.{Outcome}
use Rattle.ca_model.specs.declared.outcome.Outcome.TheVariants as outcome
use Rattle.ca_model.specs.Answer.{IfDone}
use Rattle.ca_table.specs.Refusals.{IsParted}
use Rattle.ca_model.specs.Runs.{HandedOut, HasCounted, Opens, Reaches}
use Rattle.ca_model.proofs.Edits.{map_after, map_filter}
use Rattle.ca_spec.specs.SieveView.{IsSieveOf, passes}
use Rattle.ca_spec.specs.declared.sieve.Sieve.{Sieve}
use Rattle.ca_explain.proofs.Calls.{beside_run_meets, both_beside_run, one_read}
use Rattle.ca_explain.proofs.Pairs.{object_of_pair}
use Rattle.ca_explain.proofs.Results.{keyed_append, keyed_none, keyed_some, last_append}
use Rattle.ca_table.specs.Collected.{AddsObject, Adds, AreCollected, AreObjectsOf, AreResults, AreUpTo, AreWithin, CountsOnly, HasNoResult, IsLastOf, IsObjectOf, IsOpenRun, is_full, left_of, wanted}
use Rattle.ca_table.specs.ComesTo.{EditsNothing}
use Rattle.ca_table.proofs.Listed.{terms_more}
use Rattle.ca_table.proofs.ReadBack.{first_part}

-- What is asked of a run is nothing, or the limit.
pub none_or_limit : (limit : Option ℕ) (want : ℕ) → want ≡ wanted limit → (want ≡ 0) ⊎ (limit ≡ Some want)
none_or_limit None want e = inl e
none_or_limit (Some limit) want e = by (nat_le limit 4294967295) e
  where
    by : (fits : Bool) → want ≡ (if fits then limit else 0) → (want ≡ 0) ⊎ (Some limit ≡ Some want)
    by true same = inr (ap Some (sym same))
    by false none = inl none

-- ---- the objects of a run

map_objects : (p : ℕ) (m : StoreMap) → IsStoreMap p m → AreObjectsOf p (objects_of m)
map_objects p [] h = tt
map_objects p (q ∷ m) h =
    let f = object_of_pair p q h.0 in
    (record { object = f.object; bounded = f.bounded; entry = f.entry; code_is = f.object_is }, map_objects p m h.2)

-- The objects of a run are those of a table.
pub met_objects : (a b : Known) (lo hi cut : Bound) (objects : List (List ℕ)) → Meets a b (Range lo hi cut objects) → AreObjectsOf a.keypos objects
met_objects a b lo hi cut objects met =
    let own = by_pass a.pass (effect (Range lo hi cut objects)) in
    let earlier = first_part a.keypos met.earlier own (first_part a.keypos (met.earlier ++ own) met.later met.learns.edits) in
    let map = map_after a.keypos met.earlier a.map earlier met.learns.valid in
    let low = map_filter a.keypos (after met.earlier a.map) (λ q. is_from lo q.0) map in
    let both = map_filter a.keypos _ (λ q. is_up_to cut q.0) low in
    subst (λ (x : List (List ℕ)). AreObjectsOf a.keypos x) met.answer.1 (map_objects a.keypos (within lo cut (after met.earlier a.map)) both)

left_is : (a : Known) (objects : List (List ℕ)) → a.run ≡ Some objects → left_of a ≡ objects
left_is a objects e = ap (λ (r : Option (List (List ℕ))). unwrap_or r []) e

-- A run that was just opened has objects of a table.
pub opened_run : {F : Type 0} (g : Shared F (Bor (List ℕ) × Unit {0}) Bool) (f : F) (a b : Known) (lo hi : Bound) (want : ℕ) (whole : Bool)
    → Opens g f a b lo hi want whole → IsOpenRun b
opened_run g f a b lo hi want whole o =
    let l : left_of b ≡ o.objects = left_is b o.objects o.run in
    let here : AreObjectsOf b.keypos o.objects =
    subst (λ (p : ℕ). AreObjectsOf p o.objects) (sym o.met.learns.same.keypos) (met_objects a b lo hi o.cut o.objects o.met) in
    (o.run ∙ ap (λ (x : List (List ℕ)). Some x) (sym l), subst (λ (x : List (List ℕ)). AreObjectsOf b.keypos x) (sym l) here)

-- ---- object by object

-- Of the run that was open at `a` these results were collected so far, and the rest of it is open now.
pub record IsCollecting (s : Tree) (limit : Option ℕ) (a now : Known) (results : List Tree) (last : Option Tree) : Type 0 where
  pub run : now.run ≡ Some (left_of now)
  pub left : AreObjectsOf a.keypos (left_of now)
  pub are : AreResults a.keypos s limit (left_of a) (left_of now) results last
  pub up_to : AreUpTo limit (length results)
  pub stays : StaysBesideRun a now

none_up_to : (limit : Option ℕ) → AreUpTo limit 0
none_up_to None = tt
none_up_to (Some n) = omega arith

-- Nothing was collected yet.
pub collecting_none : (s : Tree) (limit : Option ℕ) (a : Known) → IsOpenRun a → IsCollecting s limit a a [] None
collecting_none s limit a o = record {
  run = o.0;
  left = o.1;
  are = record { objects = []; bounded = tt; whole_is = refl; results_are = refl; last_is = λ full. refl };
  up_to = none_up_to limit;
  stays = record {
    same = record { store = refl; keypos = refl; pass = refl; passes = refl; alone = refl; sure = refl };
    map = refl;
    seen = refl;
    counts = refl;
  };
}

-- A run has fewer objects left behind each one that is handed out.
pub run_falls : (m n : Known) (into : List ℕ) → HandedOut m n true into → length (left_of n) < length (left_of m)
run_falls m n into h = omega (arith, ap length (left_is m (into ∷ h.0) h.1), ap length (left_is n h.0 h.2))

-- What is handed out is an object's code.
pub handed_object : (p : ℕ) (m n : Known) (into : List ℕ) → AreObjectsOf p (left_of m) → HandedOut m n true into → IsObjectOf p into
handed_object p m n into are h =
    let here : AreObjectsOf p (into ∷ h.0) = subst (λ (x : List (List ℕ)). AreObjectsOf p x) (left_is m (into ∷ h.0) h.1) are in here.0

pub handed_code : (p : ℕ) (m n : Known) (into : List ℕ) → AreObjectsOf p (left_of m) → HandedOut m n true into → IsTermCode into
handed_code p m n into are h = let o = handed_object p m n into are h in (o.object, o.bounded, o.code_is)

still_up_to : (limit : Option ℕ) (found more : ℕ) → is_full limit found ≡ false → more ≤ found + 1 → AreUpTo limit more
still_up_to None found more e l = tt
still_up_to (Some n) found more e l = grind (arith, nat_tests)

module _ (p : ℕ) (s : Tree) (limit : Option ℕ) (whole left : List (List ℕ)) (into : List ℕ) (o : IsObjectOf p into) where
  -- The results with those of one more object.
  more_results : (results : List Tree) (last : Option Tree) (more : List Tree) (next : Option Tree)
      → AreResults p s limit whole (into ∷ left) results last → is_full limit (length results) ≡ false
      → (r : Option Tree) → result_of s o.object ≡ r → Adds limit r o.object results last more next
      → AreResults p s limit whole left more next
  more_results results last more next are under r e adds = record {
    objects = are.objects ++ o.object ∷ [];
    bounded = terms_more are.objects o.object are.bounded o.bounded;
    whole_is = are.whole_is ∙ ap (λ (x : List ℕ). map code_of are.objects ++ x ∷ left) o.code_is
        ∙ sym (append_assoc (map code_of are.objects) (code_of o.object ∷ []) left)
        ∙ ap (λ (x : List (List ℕ)). x ++ left) (sym (map-append code_of are.objects (o.object ∷ [])));
    results_are = values r e adds;
    last_is = ends r e adds;
  }
    where
      both : keyed_results p s (are.objects ++ o.object ∷ []) ≡ keyed_results p s are.objects ++ keyed_results p s (o.object ∷ [])
      both = keyed_append p s are.objects (o.object ∷ [])

      values : (r : Option Tree) → result_of s o.object ≡ r → Adds limit r o.object results last more next
          → more ≡ results_in (keyed_results p s (are.objects ++ o.object ∷ []))
      values None e adds =
          let none : keyed_results p s (o.object ∷ []) ≡ [] = keyed_none p s o.object e in
          adds.0 ∙ are.results_are ∙ ap results_in (sym (both ∙ ap (λ (x : List (Tree × Tree)). keyed_results p s are.objects ++ x) none
          ∙ append-nil (keyed_results p s are.objects)))
      values (Some v) e adds =
          let some : keyed_results p s (o.object ∷ []) ≡ (key_of p o.object, v) ∷ [] = keyed_some p s o.object v e in
          adds.0 ∙ ap (λ (x : List Tree). x ++ v ∷ []) are.results_are
          ∙ sym (map-append (λ (f : Tree × Tree). f.1) (keyed_results p s are.objects) ((key_of p o.object, v) ∷ []))
          ∙ ap results_in (sym (both ∙ ap (λ (x : List (Tree × Tree)). keyed_results p s are.objects ++ x) some))

      ends : (r : Option Tree) → result_of s o.object ≡ r → Adds limit r o.object results last more next
          → IsLastOf p s (are.objects ++ o.object ∷ []) (is_full limit (length more)) next
      ends None e adds =
          let none : keyed_results p s (o.object ∷ []) ≡ [] = keyed_none p s o.object e in
          let same : keyed_results p s (are.objects ++ o.object ∷ []) ≡ keyed_results p s are.objects =
          both ∙ ap (λ (x : List (Tree × Tree)). keyed_results p s are.objects ++ x) none ∙ append-nil (keyed_results p s are.objects) in
          subst (λ (x : Option Tree). IsLastOf p s (are.objects ++ o.object ∷ []) (is_full limit (length more)) x) (sym adds.1)
          (subst (λ (x : List Tree). IsLastOf p s (are.objects ++ o.object ∷ []) (is_full limit (length x)) last) (sym adds.0)
          (stays_last last same are.last_is))
        where
          stays_last : (l : Option Tree) → keyed_results p s (are.objects ++ o.object ∷ []) ≡ keyed_results p s are.objects
              → IsLastOf p s are.objects (is_full limit (length results)) l
              → IsLastOf p s (are.objects ++ o.object ∷ []) (is_full limit (length results)) l
          stays_last None e h = λ full. e ∙ h full
          stays_last (Some x) e h = (h.0, ap last_found e ∙ h.1, h.2, h.3)
      ends (Some v) e adds =
          subst (λ (x : Option Tree). IsLastOf p s (are.objects ++ o.object ∷ []) (is_full limit (length more)) x) (sym adds.1)
          (kept (is_full limit (length more)) last are.last_is)
        where
          end_is : last_found (keyed_results p s (are.objects ++ o.object ∷ [])) ≡ key_of p o.object
          end_is =
              let some : keyed_results p s (o.object ∷ []) ≡ (key_of p o.object, v) ∷ [] = keyed_some p s o.object v e in
              ap last_found (both ∙ ap (λ (x : List (Tree × Tree)). keyed_results p s are.objects ++ x) some)
              ∙ last_append (keyed_results p s are.objects) (key_of p o.object, v)

          kept : (full : Bool) (l : Option Tree) → IsLastOf p s are.objects (is_full limit (length results)) l
              → IsLastOf p s (are.objects ++ o.object ∷ []) full (if full then Some o.object else l)
          kept true l h = (refl, end_is, o.bounded, o.entry)
          kept false None h = λ full. cc
          kept false (Some x) h = let no : false ≡ true = sym under ∙ h.0 in cc

more_length : (limit : Option ℕ) (r : Option Tree) (o : Tree) (results : List Tree) (last : Option Tree) (more : List Tree) (next : Option Tree)
    → Adds limit r o results last more next → length more ≤ length results + 1
more_length limit None o results last more next h = omega (arith, ap length h.0)
more_length limit (Some v) o results last more next h = omega (arith, ap length h.0, length-append results (v ∷ []))

-- One without a result adds none.
pub adds_none : (limit : Option ℕ) (s : Tree) (bytes : List ℕ) (results : List Tree) (last : Option Tree) → HasNoResult s bytes
    → AddsObject limit s bytes results last results last
adds_none limit s bytes results last none = λ o b e.
    subst (λ (r : Option Tree). Adds limit r o results last results last) (sym (none o b e)) (refl, refl)

-- What a sieve doesn't let pass has none.
pub stopped_none : (s : Tree) (sieve : Sieve) (bytes : List ℕ) (p : Bool) → ((o : Tree) → IsTerm o → bytes ≡ code_of o → p ≡ passes sieve o)
    → p ≡ false → IsSieveOf s sieve → HasNoResult s bytes
stopped_none s sieve bytes p told stops is = λ o b e. is o (sym (told o b e) ∙ stops)

-- One more object was handed out and its result collected.
pub collecting_more : (s : Tree) (limit : Option ℕ) (a m n : Known) (into : List ℕ) (found : Bool) (results : List Tree) (last : Option Tree)
    (more : List Tree) (next : Option Tree)
    → IsCollecting s limit a m results last → is_full limit (length results) ≡ false → found ≡ true → HandedOut m n found into → StaysBesideRun m n
    → AddsObject limit s into results last more next → IsCollecting s limit a n more next
collecting_more s limit a m n into found results last more next c under is handed stays adds =
    let h : HandedOut m n true into = subst (λ (b : Bool). HandedOut m n b into) is handed in
    let here : left_of m ≡ into ∷ h.0 = left_is m (into ∷ h.0) h.1 in
    let there : left_of n ≡ h.0 = left_is n h.0 h.2 in
    let all : AreObjectsOf a.keypos (into ∷ h.0) = subst (λ (x : List (List ℕ)). AreObjectsOf a.keypos x) here c.left in
    let o = all.0 in
    let added = adds o.object o.bounded o.code_is in
    let are = more_results a.keypos s limit (left_of a) h.0 into o results last more next
    (subst (λ (x : List (List ℕ)). AreResults a.keypos s limit (left_of a) x results last) here c.are) under (result_of s o.object) refl added in
    record {
      run = h.2 ∙ ap (λ (x : List (List ℕ)). Some x) (sym there);
      left = subst (λ (x : List (List ℕ)). AreObjectsOf a.keypos x) (sym there) all.1;
      are = subst (λ (x : List (List ℕ)). AreResults a.keypos s limit (left_of a) x more next) (sym there) are;
      up_to = still_up_to limit (length results) (length more) under (more_length limit (result_of s o.object) o.object results last more next added);
      stays = both_beside_run a m n c.stays stays;
    }

-- The run is at its end.
pub collected_all : (s : Tree) (limit : Option ℕ) (a m n : Known) (into : List ℕ) (found : Bool) (results : List Tree) (last : Option Tree)
    → IsCollecting s limit a m results last → is_full limit (length results) ≡ false → found ≡ false → HandedOut m n found into
    → AreCollected a.keypos s limit (left_of a) results last
collected_all s limit a m n into found results last c under is handed =
    let h : HandedOut m n false into = subst (λ (b : Bool). HandedOut m n b into) is handed in
    record { left = left_of m; are = c.are; up_to = c.up_to; ended = inr (left_is m [] h.0, under) }

-- As many results as are wanted were collected.
pub collected_full : (s : Tree) (limit : Option ℕ) (a m : Known) (results : List Tree) (last : Option Tree)
    → IsCollecting s limit a m results last → is_full limit (length results) ≡ true → AreCollected a.keypos s limit (left_of a) results last
collected_full s limit a m results last c full = record { left = left_of m; are = c.are; up_to = c.up_to; ended = inl full }

-- ---- what the run's objects are wanted for

-- There are as many results as there are keys with them.
pub length_values : (xs : List (Tree × Tree)) → length (results_in xs) ≡ length xs
length_values [] = refl
length_values (x ∷ xs) = ap suc (length_values xs)

module _ {F : Type 0} (g : Shared F (Bor (List ℕ) × Unit {0}) Bool) (f : F) (s : Tree)
    (post : (shown : Bor (List ℕ)) (answer : Bool) → g.post f (shown, tt) answer → CountsOnly s shown.now answer) where
  -- So many objects that were counted have so many results.
  counted : (p n : ℕ) (ts : List Tree) → AreTerms ts → HasCounted g f n (map code_of ts) → n ≤ length (keyed_results p s ts)
  counted p zero ts b h = omega arith
  counted p (suc n) [] b h = absurd h
  counted p (suc n) (o ∷ ts) b (inl h) =
      let r = post h.0.shown true h.0.met o b.0 h.0.shows in
      let rest = counted p n ts b.1 h.1 in
      rw r.1 (omega (arith, rest))
  counted p (suc n) (o ∷ ts) b (inr h) = by (result_of s o) refl (counted p (suc n) ts b.1 h)
    where
      by : (r : Option Tree) → result_of s o ≡ r → suc n ≤ length (keyed_results p s ts) → suc n ≤ length (keyed_results p s (o ∷ ts))
      by None e rest = rw e rest
      by (Some v) e rest = rw e (omega (arith, rest))

  -- A run that was collected to its end with too few results was not cut.
  not_cut : (p want : ℕ) (limit : Option ℕ) (lo hi cut : Bound) (objects : List (List ℕ)) (whole : Bool) (results : List Tree) (last : Option Tree)
      → (want ≡ 0) ⊎ (limit ≡ Some want) → Reaches g f hi cut want objects whole → AreCollected p s limit objects results last
      → is_full limit (length results) ≡ false → cut ≡ hi
  not_cut p want limit lo hi cut objects true results last w reaches c under = reaches
  not_cut p want limit lo hi cut objects false results last (inl zero_wanted) reaches c under = absurd (omega (arith, reaches.1, zero_wanted))
  not_cut p want limit lo hi cut objects false results last (inr is) reaches c under = absurd (ended c.ended)
    where
      ended : (is_full limit (length results) ≡ true) ⊎ ((c.left ≡ []) × (is_full limit (length results) ≡ false)) → ⊥
      ended (inl full) = let no : false ≡ true = sym under ∙ full in cc
      ended (inr h) =
          let all : objects ≡ map code_of c.are.objects =
          c.are.whole_is ∙ ap (λ (x : List (List ℕ)). map code_of c.are.objects ++ x) h.0 ∙ append-nil (map code_of c.are.objects) in
          let many = counted p want c.are.objects c.are.bounded (subst (λ (x : List (List ℕ)). HasCounted g f want x) all reaches.2) in
          let few : nat_le want (length results) ≡ false = sym (ap (λ (l : Option ℕ). is_full l (length results)) is) ∙ under in
          let same : length results ≡ length (keyed_results p s c.are.objects) =
          ap length c.are.results_are ∙ length_values (keyed_results p s c.are.objects) in
          grind (arith, nat_tests)

  -- The results of a run that was opened, collected and closed.
  pub run_within : (a b m d : Known) (lo hi : Bound) (want : ℕ) (limit : Option ℕ) (whole : Bool) (results : List Tree) (last : Option Tree)
      → (want ≡ 0) ⊎ (limit ≡ Some want) → Opens g f a b lo hi want whole → AreCollected b.keypos s limit (left_of b) results last
      → StaysBesideRun b m → StaysBesideRun m d → AreWithin a d lo hi s limit results last
  run_within a b m d lo hi want limit whole results last w o c x y =
      let same : AreCollected a.keypos s limit (left_of b) results last =
      subst (λ (p : ℕ). AreCollected p s limit (left_of b) results last) o.met.learns.same.keypos c in
      let here : AreCollected a.keypos s limit o.objects results last =
      subst (λ (xs : List (List ℕ)). AreCollected a.keypos s limit xs results last) (left_is b o.objects o.run) same in
      record {
        cut = o.cut;
        objects = o.objects;
        met = beside_run_meets a b d (Range lo hi o.cut o.objects) o.met (both_beside_run b m d x y);
        collected = here;
        reaches = λ under. not_cut a.keypos want limit lo hi o.cut o.objects whole results last w o.reaches here under;
      }

-- A call that wasn't refused is done.
pub parted_ok : {T : Type 0} (r : Outcome T) (parted : Result T (Outcome Reply)) (P : T → Type 0) → IsParted r parted
    → ((x : Outcome Reply) → parted ≡ Err x → ⊥) → IfDone r P → (x : T) × P x
parted_ok (outcome.Done x) parted P e none h = (x, h)
parted_ok (outcome.Busy s) parted P e none h = absurd (none _ e)
parted_ok (outcome.Full s) parted P e none h = absurd (none _ e)
parted_ok (outcome.Deep s) parted P e none h = absurd (none _ e)
parted_ok (outcome.Worn s) parted P e none h = absurd (none _ e)

-- Where it is told that there is a result, there is one.
pub counts_told : (r : Option Tree) → true ≡ is_some r → (v : Tree) × (r ≡ Some v)
counts_told None e = cc
counts_told (Some v) e = (v, refl)

-- An object that a store may show is the code of a term.
pub shown_code : (p : ℕ) (q : Pair) (shown : List ℕ) → IsPair p q → shown ≡ q.1 → IsTermCode shown
shown_code p q shown h e = let f = object_of_pair p q h in (f.object, f.bounded, e ∙ f.object_is)

module _ {F : Type 0} (g : Shared F (Bor (List ℕ) × Unit {0}) Bool) (f : F) (a b : Known) (lo hi : Bound) (want : ℕ) where
  -- A run that wasn't refused is open.
  pub range_opens : (r : Outcome Bool) (parted : Result Bool (Outcome Reply)) → IsParted r parted → ((x : Outcome Reply) → parted ≡ Err x → ⊥)
      → IfDone r (λ whole. Opens g f a b lo hi want whole) → (whole : Bool) × Opens g f a b lo hi want whole
  range_opens r parted e none h = parted_ok r parted (λ whole. Opens g f a b lo hi want whole) e none h

  -- Where memory wasn't found for its results, a run was only read.
  pub run_lacks : (m d : Known) (whole : Bool) → Opens g f a b lo hi want whole → StaysBesideRun b m → StaysBesideRun m d → EditsNothing a d
  run_lacks m d whole o x y =
      inr (one_read a d (Range lo hi o.cut o.objects) refl (beside_run_meets a b d (Range lo hi o.cut o.objects) o.met (both_beside_run b m d x y)))
