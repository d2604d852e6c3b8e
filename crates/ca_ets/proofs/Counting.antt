-- Operations on counters, one after another.
use Rattle.std.proofs.Common.{◌≡◌, ℕ, ◌+◌, ◌<◌, ℤ, List, [], ◌∷◌, ◌++◌, length, drop, get_or, map, refl, sym, ◌∙◌, ap, subst, append_assoc, Ok, Err}
use Rattle.std.specs.Prelude.{Result}
use Rattle.ca_term.specs.Tree.{Tree}
use Rattle.ca_term.specs.Object.{elements_of}
use Rattle.ca_term.specs.Add.{addition_of}
use Rattle.ca_term.specs.declared.add.Add.{Add}
use Rattle.ca_term.proofs.Sums.{next_add}
use Rattle.ca_term.specs.Updates.{ElementFault, Addition, and_then, count, counts, with_value, object_of, update_of_counters}
use Rattle.ca_ets.specs.Changed.{IsChanged, IsCount}
use Rattle.ca_ets.specs.Step.{fault_of}
use Rattle.ca_ets.specs.declared.change.Stop.{Stop}
use Rattle.ca_ets.specs.declared.change.Stop.TheVariants.{Refused, NoMemory}

-- values before those of further operations
abbrev pub behind : List ℤ → Result (List Tree × List ℤ) ElementFault → Result (List Tree × List ℤ) ElementFault
behind values (Ok left) = Ok (left.0, values ++ left.1)
behind values (Err fault) = Err fault

-- what further operations give behind one
abbrev after_count : ℕ → List Addition → List Tree × ℤ → Result (List Tree × List ℤ) ElementFault
after_count keypos more first = and_then (counts keypos first.0 more) (λ further. Ok (with_value first.1 further))

behind_one : (values : List ℤ) (v : ℤ) (r : Result (List Tree × List ℤ) ElementFault)
    → behind values (and_then r (λ further. Ok (with_value v further))) ≡ behind (values ++ v ∷ []) r
behind_one values v (Ok left) = ap (λ x. Ok (left.0, x)) (sym (append_assoc values (v ∷ []) left.1))
behind_one values v (Err fault) = refl

module _ (keypos : ℕ) (first items : List Tree) (all : List Addition) (adds : List Add) (values : List ℤ) (i : ℕ) (d : Add) (r : i < length adds)
    (so : counts keypos first all ≡ behind values (counts keypos items (map addition_of (drop i adds)))) where
  further : counts keypos first all ≡ behind values (counts keypos items (addition_of (get_or adds i d) ∷ map addition_of (drop (i + 1) adds)))
  further = so ∙ ap (λ (x : List Addition). behind values (counts keypos items x)) (next_add adds i d r)

  -- One more operation is done.
  pub counting_more : (left : List Tree) (v : ℤ) → IsCount (count keypos items (addition_of (get_or adds i d))) (Ok v) left
      → counts keypos first all ≡ behind (values ++ v ∷ []) (counts keypos left (map addition_of (drop (i + 1) adds)))
  counting_more left v h = by (count keypos items (addition_of (get_or adds i d))) h further
    where
      more : List Addition
      more = map addition_of (drop (i + 1) adds)

      by : (c : Result (List Tree × ℤ) ElementFault) → IsCount c (Ok v) left → counts keypos first all ≡ behind values (and_then c (after_count keypos more))
          → counts keypos first all ≡ behind (values ++ v ∷ []) (counts keypos left more)
      by (Ok done) h e = e ∙ behind_one values done.1 (counts keypos done.0 more) ∙ (λ j. behind (values ++ sym h.0 j ∷ []) (counts keypos (sym h.1 j) more))
      by (Err fault) h e = absurd h

  -- An operation that is refused refuses them all.
  pub counting_stops : (left : List Tree) (stop : Stop) → IsCount (count keypos items (addition_of (get_or adds i d))) (Err stop) left
      → (e : ElementFault) × (counts keypos first all ≡ Err e) × (stop ≡ Refused (fault_of e))
  counting_stops left stop h = by (count keypos items (addition_of (get_or adds i d))) stop h further
    where
      more : List Addition
      more = map addition_of (drop (i + 1) adds)

      by : (c : Result (List Tree × ℤ) ElementFault) (stop : Stop) → IsCount c (Err stop) left
          → counts keypos first all ≡ behind values (and_then c (after_count keypos more))
          → (e : ElementFault) × (counts keypos first all ≡ Err e) × (stop ≡ Refused (fault_of e))
      by (Ok done) stop h e = absurd h
      by (Err fault) (Refused found) h e = (fault, e, ap Refused h)
      by (Err fault) NoMemory h e = absurd h

-- Operations of which one is refused leave no object.
pub counting_refused : (keypos : ℕ) (o : Tree) (all : List Addition) (stop : Stop)
    → (e : ElementFault) × (counts keypos (elements_of o) all ≡ Err e) × (stop ≡ Refused (fault_of e))
    → IsChanged {A = Tree × List ℤ} (λ new. new) (update_of_counters keypos o all) (Err stop)
counting_refused keypos o all stop h =
    let no : update_of_counters keypos o all ≡ Err h.0 =
    ap (λ (r : Result (List Tree × List ℤ) ElementFault). and_then r (λ left. and_then (object_of left.0) (λ new. Ok (new, left.1)))) h.1 in
    subst (λ (s : Stop). IsChanged {A = Tree × List ℤ} (λ new. new) (update_of_counters keypos o all) (Err s)) (sym h.2) (h.0, no, refl)
