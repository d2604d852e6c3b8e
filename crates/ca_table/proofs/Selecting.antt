-- How selections and batches end.
use Rattle.std.proofs.Common.{◌≡◌, ◌≢◌, ◌⊎◌, ℕ, suc, ◌+◌, ◌≤◌, Bool, true, false, List, [], ◌∷◌, ◌++◌, length, map, arith, refl, sym, ◌∙◌, ap, subst, inl, inr, append-nil, if◌then◌else◌, Option, None, Some, length-append}
use Rattle.std.specs.Prelude.{nat_le, is_some, IfSome}
use Rattle.std.proofs.lemmas.Bool.Decides.{nat_tests}
use Rattle.std.specs.declared.cmp.Ordering.{Ordering}
use Rattle.std.specs.declared.cmp.Ordering.TheVariants.{Less, Equal, Greater}
use Rattle.std.specs.Ordering.{is_eq, ordering_reverse}
use Rattle.ca_term.specs.Tree.{Tree, IsTerm, AreTerms}
use Rattle.ca_term.specs.Code.{code_of, four_bytes}
use Rattle.ca_term.specs.declared.bounds.TheConstants.{MOST_CODE_BYTES}
use Rattle.ca_term.proofs.TotalOrder.{tree_flip}
use Rattle.ca_term.specs.Object.{fits, is_object, key_of}
use Rattle.ca_term.specs.Order.{term_cmp}
use Rattle.ca_ets.specs.Command.{Continuation, IsContinuation, Response, Items, Never, At, AtEnd, Results}
use Rattle.ca_ets.specs.declared.command.Cmd.TheVariants.{Select, SelectRange, Batch, More}
use Rattle.ca_match.specs.Match.{chosen, result_of}
use Rattle.ca_ets.specs.OrderedMap.{above, between, get, IsEntry, IsTable}
use Rattle.ca_match.specs.Specification.{IsSpecification}
use Rattle.ca_ets.specs.Step.{fault_of_key, keyed_results, results_in, last_found, limit_of, step_of_results, with_map}
use Rattle.ca_model.specs.StoreMap.{StoreMap}
use Rattle.ca_model.specs.Edges.{Bound, Unbounded, Included, Excluded, within}
use Rattle.ca_model.specs.Event.{Range, IsAnswer}
use Rattle.ca_ets.specs.declared.command.Fault.{Fault}
use Rattle.ca_ets.specs.declared.command.Fault.TheVariants.{Size}
use Rattle.ca_model.specs.Answer.{Got}
use Rattle.ca_model.specs.Event.{Get}
use Rattle.ca_model.specs.Known.{Known}
use Rattle.ca_table.specs.Collected.{Adds, AddsObject, IsPlaceOf}
use Rattle.ca_table.specs.declared.batch.Place.TheVariants as place
use Rattle.ca_table.proofs.Keyed.{got_none, got_some}
use Rattle.ca_explain.specs.Carries.{Gives}
use Rattle.ca_explain.specs.Stands.{Stands}
use Rattle.ca_explain.specs.Steps.{Refrains}
use Rattle.ca_explain.proofs.Calls.{one_read}
use Rattle.ca_explain.proofs.Edged.{within_all, within_between, within_past}
use Rattle.ca_explain.proofs.Founds.{absent, found_object}
use Rattle.ca_explain.proofs.Pairs.{pair_of_object}
use Rattle.ca_explain.proofs.Results.{keyed_append, results_chosen, batch_full, batch_last, batch_none}
use Rattle.ca_explain.proofs.Within.{run_begins, run_is}
use Rattle.ca_table.proofs.Collecting.{length_values}
use Rattle.ca_table.specs.Codes.{HasKeyCode}
use Rattle.ca_table.specs.Collected.{AreWithin, IsBatch, IsLastOf, IsNextOf, is_full, reply_of_batch}
use Rattle.ca_table.specs.ComesTo.{StepsOnce}
use Rattle.ca_table.proofs.Once.{once}

module _ (a d : Known) (positive : 1 ≤ a.keypos) (lo hi : Bound) (s : Tree) where
  -- The results of a whole run are those of all objects that stand within its edges.
  pub all_results : (rs : List Tree) (last : Option Tree) (w : AreWithin a d lo hi s None rs last) (m : StoreMap) (t u : List Tree)
      → Stands a.keypos m t → IsAnswer (Range lo hi w.cut w.objects) m → Stands a.keypos (within lo hi m) u → rs ≡ chosen s u
  all_results rs last w m t u st answer here = by w.collected.ended
    where
      by : (false ≡ true) ⊎ ((w.collected.left ≡ []) × (false ≡ false)) → rs ≡ chosen s u
      by (inl wrong) = cc
      by (inr h) =
          let are = w.collected.are in
          let all : w.objects ≡ map code_of are.objects =
          are.whole_is ∙ ap (λ (x : List (List ℕ)). map code_of are.objects ++ x) h.0 ∙ append-nil (map code_of are.objects) in
          let same : u ≡ are.objects =
          run_is a.keypos positive m t st lo w.cut hi w.objects answer u here are.objects are.bounded (w.reaches refl) all in
          are.results_are ∙ results_chosen a.keypos s are.objects ∙ ap (chosen s) (sym same)

  -- A run was read, and no edit was made.
  pub run_read : (limit : Option ℕ) (rs : List Tree) (last : Option Tree) → AreWithin a d lo hi s limit rs last → Refrains a d a.counts
  run_read limit rs last w = one_read a d (Range lo hi w.cut w.objects) refl w.met

module _ (a d : Known) (positive : 1 ≤ a.keypos) (s : Tree) (accepted : IsSpecification s) (rs : List Tree) (last : Option Tree) (l : Continuation) where
  -- `select` answers the results of all objects.
  pub select_done : AreWithin a d Unbounded Unbounded s None rs last → StepsOnce a d l (Select s) (Items rs) l
  select_done w = (once a d (Range Unbounded Unbounded w.cut w.objects) l l (Select s) (Items rs) w.met (record {
    at = λ m t st answer.
        let same : rs ≡ chosen s t = all_results a d positive Unbounded Unbounded s rs last w m t t st answer (within_all a.keypos m t st) in
        (t, rw (accepted, same) refl, st);
  }))

  -- `select_range` answers the results of the objects between two keys.
  pub select_range_done : (lo hi : Tree) (low high : List ℕ) → HasKeyCode lo low → HasKeyCode hi high
      → AreWithin a d (Included low) (Included high) s None rs last → StepsOnce a d l (SelectRange lo hi s) (Items rs) l
  select_range_done lo hi low high h k w =
      (once a d (Range (Included low) (Included high) w.cut w.objects) l l (SelectRange lo hi s) (Items rs) w.met (record {
        at = λ m t st answer.
            let here : Stands a.keypos (within (Included low) (Included high) m) (between a.keypos t lo hi) =
            subst (λ (x : List ℕ). Stands a.keypos (within (Included x) (Included high) m) (between a.keypos t lo hi)) (sym h.code_is)
            (subst (λ (x : List ℕ). Stands a.keypos (within (Included (code_of lo)) (Included x) m) (between a.keypos t lo hi)) (sym k.code_is)
            (within_between a.keypos m t st lo hi h.bounded k.bounded)) in
            let same : rs ≡ chosen s (between a.keypos t lo hi) =
            all_results a d positive (Included low) (Included high) s rs last w m t (between a.keypos t lo hi) st answer here in
            (t, rw (accepted, h.fitting, k.fitting, same) refl, st);
      }))

-- The key of an object that fits does.
pub key_fits : (p : ℕ) (o : Tree) → 1 ≤ p → IsTerm o → IsEntry p o → fits (key_of p o) ≡ true
key_fits p o positive b e =
    let pair = pair_of_object p o positive b e in
    let key = code_of (key_of p o) in
    let long : length (code_of o)
    ≡ suc (length (four_bytes (pair.before + 1 + pair.behind)) + (length pair.codes_before + (length key + length pair.codes_behind))) =
    ap length pair.bytes
    ∙ ap suc (length-append (four_bytes (pair.before + 1 + pair.behind)) (pair.codes_before ++ (key ++ pair.codes_behind))
    ∙ ap (λ (n : ℕ). length (four_bytes (pair.before + 1 + pair.behind)) + n) (length-append pair.codes_before (key ++ pair.codes_behind)
    ∙ ap (λ (n : ℕ). length pair.codes_before + n) (length-append key pair.codes_behind))) in
    short (length key) (omega (arith, long, pair.short))
  where
    short : (n : ℕ) → n ≤ MOST_CODE_BYTES → nat_le n MOST_CODE_BYTES ≡ true
    short n l = grind (arith, nat_tests)

exactly : (limit found : ℕ) → nat_le limit found ≡ true → found ≤ limit → found ≡ limit
exactly limit found e l = grind (arith, nat_tests)

module _ (a d : Known) (positive : 1 ≤ a.keypos) (lo : Bound) (s : Tree) (limit : ℕ) (rs : List Tree) (last : Option Tree)
    (w : AreWithin a d lo Unbounded s (Some limit) rs last) where
  full_batch : (next : Continuation) → nat_le limit (length rs) ≡ true → IsNextOf a.keypos s limit last true next
      → (m : StoreMap) (t u : List Tree) → Stands a.keypos m t → IsAnswer (Range lo Unbounded w.cut w.objects) m
      → Stands a.keypos (within lo Unbounded m) u
      → Gives (step_of_results t s limit (keyed_results a.keypos s u)) t (Results rs true) next
  full_batch next full is m t u st answer here =
      let are = w.collected.are in
      let found = keyed_results a.keypos s are.objects in
      let begun = run_begins a.keypos positive m t st lo w.cut Unbounded w.objects answer u here are.objects are.bounded w.collected.left are.whole_is in
      let parts : keyed_results a.keypos s u ≡ found ++ keyed_results a.keypos s begun.rest =
      ap (keyed_results a.keypos s) begun.whole ∙ keyed_append a.keypos s are.objects begun.rest in
      let many : length found ≡ limit =
      sym (length_values found) ∙ ap length (sym are.results_are) ∙ exactly limit (length rs) full w.collected.up_to in
      ap (step_of_results t s limit) parts ∙ batch_full t s limit found (keyed_results a.keypos s begun.rest) many
      ∙ goes last are.last_is is
    where
      goes : (l : Option Tree) → IsLastOf a.keypos s w.collected.are.objects (is_full (Some limit) (length rs)) l → IsNextOf a.keypos s limit l true next
          → Gives (with_map t (At s limit (last_found (keyed_results a.keypos s w.collected.are.objects)))
          (Results (results_in (keyed_results a.keypos s w.collected.are.objects)) true)) t (Results rs true) next
      goes None h is = absurd is
      goes (Some o) h is =
          let there : At s limit (last_found (keyed_results a.keypos s w.collected.are.objects)) ≡ next =
          ap (λ (k : Tree). At s limit k) h.1 ∙ sym is in
          let same : results_in (keyed_results a.keypos s w.collected.are.objects) ≡ rs = sym w.collected.are.results_are in
          λ i. record { map = t; continuation = there i; response = Results (same i) true }

  last_batch : nat_le limit (length rs) ≡ false
      → (m : StoreMap) (t u : List Tree) → Stands a.keypos m t → IsAnswer (Range lo Unbounded w.cut w.objects) m
      → Stands a.keypos (within lo Unbounded m) u
      → Gives (step_of_results t s limit (keyed_results a.keypos s u)) t (reply_of_batch false rs) AtEnd
  last_batch under m t u st answer here = by w.collected.ended
    where
      by : (nat_le limit (length rs) ≡ true) ⊎ ((w.collected.left ≡ []) × (nat_le limit (length rs) ≡ false))
          → Gives (step_of_results t s limit (keyed_results a.keypos s u)) t (reply_of_batch false rs) AtEnd
      by (inl full) = let wrong : false ≡ true = sym under ∙ full in cc
      by (inr h) =
          let are = w.collected.are in
          let all : w.objects ≡ map code_of are.objects =
          are.whole_is ∙ ap (λ (x : List (List ℕ)). map code_of are.objects ++ x) h.0 ∙ append-nil (map code_of are.objects) in
          let same : u ≡ are.objects =
          run_is a.keypos positive m t st lo w.cut Unbounded w.objects answer u here are.objects are.bounded (w.reaches under) all in
          let found = keyed_results a.keypos s u in
          let results : rs ≡ results_in found = are.results_are ∙ ap (λ (x : List Tree). results_in (keyed_results a.keypos s x)) (sym same) in
          let few : nat_le limit (length found) ≡ false =
          ap (nat_le limit) (sym (ap length results ∙ length_values found)) ∙ under in
          subst (λ (x : List Tree). Gives (step_of_results t s limit found) t (reply_of_batch false x) AtEnd) (sym results) (ends found few)
        where
          ends : (found : List (Tree × Tree)) → nat_le limit (length found) ≡ false
              → Gives (step_of_results t s limit found) t (reply_of_batch false (results_in found)) AtEnd
          ends [] few = batch_none t s limit [] few refl
          ends (f ∷ found) few = batch_last t s limit (f ∷ found) few (omega arith)

  -- What was collected makes a batch.
  pub batch_is : (response : Response) (next : Continuation) (full : Bool) → is_full (Some limit) (length rs) ≡ full
      → response ≡ reply_of_batch full rs → IsNextOf a.keypos s limit last full next → IsBatch a d lo s limit response next
  batch_is response next true is reply goes = record {
    cut = w.cut;
    objects = w.objects;
    met = w.met;
    gives = λ m t u st answer here.
        subst (λ (r : Response). Gives (step_of_results t s limit (keyed_results a.keypos s u)) t r next) (sym reply)
        (full_batch next is goes m t u st answer here);
  }
  batch_is response next false is reply goes = record {
    cut = w.cut;
    objects = w.objects;
    met = w.met;
    gives = λ m t u st answer here.
        subst (λ (r : Response). Gives (step_of_results t s limit (keyed_results a.keypos s u)) t r next) (sym reply)
        (subst (λ (k : Continuation). Gives (step_of_results t s limit (keyed_results a.keypos s u)) t (reply_of_batch false rs) k) (sym goes)
        (last_batch is m t u st answer here));
  }

  -- Where there are as many results as were wanted, some object gave the last one.
  pub some_last : 1 ≤ limit → is_full (Some limit) (length rs) ≡ true → is_some last ≡ true
  some_last least full = by last w.collected.are.last_is
    where
      by : (l : Option Tree) → IsLastOf a.keypos s w.collected.are.objects (is_full (Some limit) (length rs)) l → is_some l ≡ true
      by None h =
          let none : length rs ≡ 0 = ap length (w.collected.are.results_are ∙ ap results_in (h full)) in
          let few : nat_le limit 0 ≡ true = sym (ap (nat_le limit) none) ∙ full in
          grind (arith, nat_tests)
      by (Some o) h = refl

  -- It is an object.
  pub last_object : IfSome last (λ o. is_object a.keypos o ≡ true)
  last_object = by last w.collected.are.last_is
    where
      by : (l : Option Tree) → IsLastOf a.keypos s w.collected.are.objects (is_full (Some limit) (length rs)) l → IfSome l (λ o. is_object a.keypos o ≡ true)
      by None h = tt
      by (Some o) h = h.3.object

  -- Where the next batch goes on is a continuation.
  pub next_continues : IsSpecification s → 1 ≤ limit → (full : Bool) (next : Continuation) → IsNextOf a.keypos s limit last full next → IsContinuation next
  next_continues accepted least full next goes = by full last w.collected.are.last_is goes
    where
      by : (b : Bool) (l : Option Tree) → IsLastOf a.keypos s w.collected.are.objects (is_full (Some limit) (length rs)) l
          → IsNextOf a.keypos s limit l b next → IsContinuation next
      by false l h goes = subst IsContinuation (sym goes) tt
      by true None h goes = absurd goes
      by true (Some o) h goes = subst IsContinuation (sym goes) (accepted, least, key_fits a.keypos o positive h.2 h.3)

module _ (a d : Known) (s : Tree) (accepted : IsSpecification s) (limit : ℕ) (response : Response) (next : Continuation) where
  -- `batch` answers the batch from the first object on.
  pub batch_done : (n : Tree) (before : Continuation) → limit_of n ≡ Some limit → IsBatch a d Unbounded s limit response next
      → StepsOnce a d before (Batch s n) response next
  batch_done n before is b = (once a d (Range Unbounded Unbounded b.cut b.objects) before next (Batch s n) response b.met (record {
    at = λ m t st answer. (t, rw (is, accepted) (b.gives m t t st answer (within_all a.keypos m t st)), st);
  }))

  -- `more` answers the batch behind the key where the last one ended.
  pub more_done : (k : Tree) (code : List ℕ) → HasKeyCode k code → IsBatch a d (Excluded code) s limit response next
      → StepsOnce a d (At s limit k) More response next
  more_done k code h b = (once a d (Range (Excluded code) Unbounded b.cut b.objects) (At s limit k) next More response b.met (record {
    at = λ m t st answer.
        let here : Stands a.keypos (within (Excluded code) Unbounded m) (above a.keypos t k) =
        subst (λ (x : List ℕ). Stands a.keypos (within (Excluded x) Unbounded m) (above a.keypos t k)) (sym h.code_is)
        (within_past a.keypos m t st k h.bounded) in
        (t, b.gives m t (above a.keypos t k) st answer here, st);
  }))

-- ---- the object of one key

same_key : (k : Tree) → is_eq (term_cmp k k) ≡ true
same_key k = by (term_cmp k k) (tree_flip k k)
  where
    by : (r : Ordering) → r ≡ ordering_reverse r → is_eq r ≡ true
    by Less e = cc
    by Equal e = refl
    by Greater e = cc

module _ (p : ℕ) (s k : Tree) (covers : (o : Tree) → result_of s o ≢ None → key_of p o ≡ k) where
  -- Where objects with another key have no result, the key's object alone has one.
  pub chosen_alone : (t : List Tree) → chosen s t ≡ chosen s (get p t k)
  chosen_alone [] = refl
  chosen_alone (o ∷ t) = by (is_eq (term_cmp (key_of p o) k)) refl (result_of s o) refl (chosen_alone t)
    where
      by : (b : Bool) → is_eq (term_cmp (key_of p o) k) ≡ b → (r : Option Tree) → result_of s o ≡ r → chosen s t ≡ chosen s (get p t k)
          → chosen s (o ∷ t) ≡ chosen s (if b then o ∷ get p t k else get p t k)
      by true e None f rest = rw f rest
      by true e (Some v) f rest = rw f (ap (λ (x : List Tree). v ∷ x) rest)
      by false e None f rest = rw f rest
      by false e (Some v) f rest =
          let key : key_of p o ≡ k = covers o (λ none. let wrong : Some v ≡ None = sym f ∙ none in cc) in
          let wrong : true ≡ false = sym (rw key (same_key k)) ∙ e in
          cc

  -- A table has no object whose key doesn't fit.
  pub chosen_none : fits k ≡ false → 1 ≤ p → (t : List Tree) → IsTable p t → AreTerms t → chosen s t ≡ []
  chosen_none long positive [] h b = refl
  chosen_none long positive (o ∷ t) h b = by (result_of s o) refl (chosen_none long positive t h.2 b.1)
    where
      by : (r : Option Tree) → result_of s o ≡ r → chosen s t ≡ [] → chosen s (o ∷ t) ≡ []
      by None f rest = rw f rest
      by (Some v) f rest =
          let key : key_of p o ≡ k = covers o (λ none. let wrong : Some v ≡ None = sym f ∙ none in cc) in
          let wrong : true ≡ false = sym (key_fits p o positive b.0 h.0) ∙ ap fits key ∙ long in
          cc

unfit : (k : Tree) (fault : Fault) → fault_of_key k ≡ Some fault → fits k ≡ false
unfit k fault e = by (fits k) refl e
  where
    by : (b : Bool) → fits k ≡ b → (if b then None else Some Size) ≡ Some fault → fits k ≡ false
    by true is e = cc
    by false is e = is

module _ (a b : Known) (s k : Tree) (accepted : IsSpecification s) (covers : (o : Tree) → result_of s o ≢ None → key_of a.keypos o ≡ k) where
  -- The key doesn't fit: no object has it.
  pub select_unfit : (fault : Fault) → 1 ≤ a.keypos → fault_of_key k ≡ Some fault → (ts : List Tree) → ts ≡ [] → (l : Continuation)
      → StepsOnce a a l (Select s) (Items ts) l
  select_unfit fault positive e ts none l =
      subst (λ (x : List Tree). StepsOnce a a l (Select s) (Items x) l) (sym none) (inr (record {
        stays = record {
          same = record { store = refl; keypos = refl; pass = refl; passes = refl; alone = refl; sure = refl };
          map = refl;
          seen = refl;
          run = refl;
          counts = refl;
          spare = omega arith;
        };
        free = record {
          at = λ t h terms.
              let empty : chosen s t ≡ [] = chosen_none a.keypos s k covers (unfit k fault e) positive t h terms in rw (accepted, empty) refl;
        };
      }))

  module _ (bytes : List ℕ) (h : HasKeyCode k bytes) (found : Bool) (into : List ℕ) where
    -- No object has the key.
    pub select_absent : found ≡ false → Got a b bytes found into → (ts : List Tree) → ts ≡ [] → (l : Continuation)
        → StepsOnce a b l (Select s) (Items ts) l
    select_absent e got ts none l =
        subst (λ (x : List Tree). StepsOnce a b l (Select s) (Items x) l) (sym none)
        ((once a b (Get (code_of k) None) l l (Select s) (Items []) (got_none k bytes h a b found into e got) (record {
          at = λ m t st answer.
              let empty : get a.keypos t k ≡ [] = absent a.keypos m t st k h.bounded answer in
              let same : chosen s t ≡ [] = chosen_alone a.keypos s k covers t ∙ ap (chosen s) empty in
              (t, rw (accepted, same) refl, st);
        })))

    -- The key's object has a result, or none.
    pub select_present : found ≡ true → Got a b bytes found into → (none : List Tree) (last : Option Tree) → none ≡ [] → (ts : List Tree) (next : Option Tree)
        → (limit : Option ℕ) → AddsObject limit s into none last ts next → (l : Continuation) → StepsOnce a b l (Select s) (Items ts) l
    select_present e got none last empty ts next limit adds l =
        (once a b (Get (code_of k) (Some into)) l l (Select s) (Items ts) (got_some k bytes h a b found into e got) (record {
          at = λ m t st answer.
              let o = found_object a.keypos m t st k h.bounded into answer in
              let same : chosen s t ≡ ts =
              chosen_alone a.keypos s k covers t ∙ ap (chosen s) o.got ∙ one (result_of s o.object) o.object refl (adds o.object o.bounded o.code_is) in
              (t, rw (accepted, same) refl, st);
        }))
      where
        one : (r : Option Tree) (o : Tree) → result_of s o ≡ r → Adds limit r o none last ts next → chosen s (o ∷ []) ≡ ts
        one None o f h = rw f (sym (h.0 ∙ empty))
        one (Some v) o f h = rw f (sym (h.0 ∙ ap (λ (x : List Tree). x ++ v ∷ []) empty))

-- ---- where batches go on

-- the key that a client's batches stand behind, with its code
pub record IsBehind (k : Continuation) (s : Tree) (limit : ℕ) (code : List ℕ) : Type 0 where
  pub key : Tree
  pub is : k ≡ At s limit key
  pub code_is : HasKeyCode key code
  pub accepted : IsSpecification s

pub behind_place : (k : Continuation) (s : Tree) (limit : ℕ) (code : List ℕ) → IsContinuation k → IsPlaceOf k (place.Behind s limit) code
    → IsBehind k s limit code
behind_place Never s limit code h p = absurd p
behind_place (At t n key) s limit code h p =
    let spec : t ≡ s = sym p.0 in
    let many : n ≡ limit = sym p.1 in
    record { key = key; is = λ i. At (spec i) (many i) key; code_is = p.2; accepted = subst IsSpecification spec h.0 }
behind_place AtEnd s limit code h p = absurd p
