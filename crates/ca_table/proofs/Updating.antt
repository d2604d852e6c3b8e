-- How `update_counter` and `update_element` end.
use Rattle.std.proofs.Common.{◌≡◌, ℕ, suc, ◌≤◌, ℤ, Bool, true, false, List, [], ◌∷◌, length, map, refl, sym, ◌∙◌, ap, subst, arith, Option, None, Some}
use Rattle.std.specs.Prelude.{Result, Ok, Err, ◌==◌}
use Rattle.std.specs.Option.{option_map}
use Rattle.std.proofs.lemmas.Bool.Decides.{nat_tests}
use Rattle.ca_term.specs.Tree.{Tree, Row, Tuple, elements}
use Rattle.ca_term.specs.Code.{code_of}
use Rattle.ca_term.specs.Add.{addition_of}
use Rattle.ca_term.specs.declared.add.Add.{Add}
use Rattle.ca_term.specs.Updates.{ElementFault, Addition, and_then, counts, object_in, object_of, update_of_counters}
use Rattle.ca_order.specs.Patches.{IsTupleCode}
use Rattle.ca_ets.specs.Asked.{operations_in}
use Rattle.ca_ets.specs.Command.{Continuation, Response, Items, Truth, Error}
use Rattle.ca_ets.specs.Step.{fault_of, reply_of}
use Rattle.ca_ets.specs.Update.{Operations, One, Several, additions_of, operations_of, element_of}
use Rattle.ca_ets.specs.declared.update.Operations as asked
use Rattle.ca_ets.specs.declared.command.Fault.{Fault}
use Rattle.ca_ets.specs.declared.command.Fault.TheVariants.{BadArg}
use Rattle.ca_ets.specs.declared.command.Cmd.TheVariants.{UpdateCounter, UpdateElement}
use Rattle.ca_model.specs.Event.{Get, Change}
use Rattle.ca_model.specs.Known.{Known, Meets}
use Rattle.ca_model.specs.Answer.{Got}
use Rattle.ca_explain.specs.Steps.{Refrains}
use Rattle.ca_explain.proofs.Calls.{one_read}
use Rattle.ca_table.specs.Codes.{HasKeyCode, IsAsked}
use Rattle.ca_table.specs.Renewed.{IsPut, IsKept, by_element, by_operations}
use Rattle.ca_table.proofs.Keyed.{got_none, got_some}
use Rattle.ca_table.proofs.ReadBack.{found_code, met_pair, row_of_pair}
use Rattle.ca_table.proofs.CarriedUpdates.{counter_absent, counter_missing, counter_kept, counter_put, counter_read, element_absent, element_missing, element_kept, element_read, element_put}
use Rattle.ca_table.specs.ComesTo.{StepsOnce}
use Rattle.ca_table.proofs.Once.{once}

-- ---- arguments

-- What was asked for, as plain data.
pub asked_for : (p : ℕ) (op : Tree) (found : Option asked.Operations) (operations : asked.Operations)
    → option_map operations_in found ≡ operations_of p op → found ≡ Some operations → operations_of p op ≡ Some (operations_in operations)
asked_for p op found operations e is = sym e ∙ ap (option_map operations_in) is

-- Where there are no operations, a list of none was asked for.
pub none_asked : (operations : Operations) (adds : List Add) (empty : Bool) → map addition_of adds ≡ additions_of operations
    → empty ≡ (length adds == 0) → empty ≡ true → operations ≡ Several []
none_asked (One a) [] empty e test sure = let no : [] ≡ a ∷ [] = e in cc
none_asked (Several []) [] empty e test sure = refl
none_asked (Several (a ∷ more)) [] empty e test sure = let no : [] ≡ a ∷ more = e in cc
none_asked operations (x ∷ adds) empty e test sure = absurd (some (length adds) (sym test ∙ sure))
  where
    some : (n : ℕ) → (suc n == 0) ≡ true → ⊥
    some n h = grind (arith, nat_tests, h)

-- ---- results

-- what lies behind a new object of operations
record HasValues (p : ℕ) (row : Row) (additions : List Addition) (new : Tree) : Type 0 where
  values : List ℤ
  left : List Tree
  updated : update_of_counters p (Tuple row) additions ≡ Ok (new, values)
  counted : counts p (elements row) additions ≡ Ok (left, values)

has_values : (p : ℕ) (row : Row) (additions : List Addition) (new : Tree) → by_operations p additions (Tuple row) ≡ Ok new → HasValues p row additions new
has_values p row additions new e = by (counts p (elements row) additions) refl e
  where
    behind : List Tree × List ℤ → Result (Tree × List ℤ) ElementFault
    behind left = and_then (object_of left.0) (λ made. Ok (made, left.1))

    by : (r : Result (List Tree × List ℤ) ElementFault) → counts p (elements row) additions ≡ r → object_in (and_then r behind) ≡ Ok new
        → HasValues p row additions new
    by (Ok left) c e = with_object (object_of left.0) refl e
      where
        with_object : (r : Result Tree ElementFault) → object_of left.0 ≡ r → object_in (and_then r (λ made. Ok (made, left.1))) ≡ Ok new
            → HasValues p row additions new
        with_object (Ok made) o e =
            let same : made ≡ new = cc in
            record { values = left.1; left = left.0; updated = rw (c, o) (ap (λ (x : Tree). Ok (x, left.1)) same); counted = c }
        with_object (Err fault) o e = cc
    by (Err fault) c e = cc

failed_operations : (r : Result (Tree × List ℤ) ElementFault) (e : ElementFault) → object_in r ≡ Err e → r ≡ Err e
failed_operations (Ok new) e h = cc
failed_operations (Err fault) e h = let same : fault ≡ e = cc in ap Err same

-- ---- exits

module _ (k op : Tree) (bytes : List ℕ) (h : HasKeyCode k bytes) (a b : Known) where
  -- A `get` that finds nothing is a read.
  pub only_missed : (found : Bool) (into : List ℕ) → found ≡ false → Got a b bytes found into → Refrains a b a.counts
  only_missed found into e got = one_read a b (Get (code_of k) None) refl (got_none k bytes h a b found into e got)

  -- What it finds is the code of a tuple.
  pub found_row : 1 ≤ a.keypos → (found : Bool) (into : List ℕ) → found ≡ true → Got a b bytes found into → (row : Row) × IsTupleCode row into
  found_row positive found into e got =
      let met = got_some k bytes h a b found into e got in
      let r = row_of_pair a.keypos (code_of k) into positive (met_pair a b (Get (code_of k) (Some into)) (code_of k) into met met.answer) in
      (r.row, r.code.is_code)

  none_met : Meets a b (Change bytes None None) → Meets a b (Change (code_of k) None None)
  none_met met = subst (λ (x : List ℕ). Meets a b (Change x None None)) h.code_is met

  kept_met : (old : List ℕ) (o : Tree) → old ≡ code_of o → Meets a b (Change bytes (Some old) None)
      → Meets a b (Change (code_of k) (Some (code_of o)) None)
  kept_met old o e met =
      subst (λ (x : List ℕ). Meets a b (Change (code_of k) (Some x) None)) e
      (subst (λ (x : List ℕ). Meets a b (Change x (Some old) None)) h.code_is met)

  put_met : (old new : List ℕ) (o : Tree) → old ≡ code_of o → Meets a b (Change bytes (Some old) (Some new))
      → Meets a b (Change (code_of k) (Some (code_of o)) (Some new))
  put_met old new o e met =
      subst (λ (x : List ℕ). Meets a b (Change (code_of k) (Some x) (Some new))) e
      (subst (λ (x : List ℕ). Meets a b (Change x (Some old) (Some new))) h.code_is met)

  module _ (q : ℕ) (same : q ≡ a.keypos) (operations : Operations) (asked : operations_of q op ≡ Some operations) where
    here : operations_of a.keypos op ≡ Some operations
    here = subst (λ (n : ℕ). operations_of n op ≡ Some operations) same asked

    -- No operations on an object that is there: the answer is the empty list.
    pub counter_looks : operations ≡ Several [] → (found : Bool) (into : List ℕ) (ts : List Tree) → found ≡ true → Got a b bytes found into → ts ≡ []
        → (l : Continuation) → StepsOnce a b l (UpdateCounter k op) (Items ts) l
    counter_looks none found into ts e got empty l =
        let met = got_some k bytes h a b found into e got in
        let t = found_code a b (code_of k) into met in
        let there = subst (λ (x : List ℕ). Meets a b (Get (code_of k) (Some x))) t.2 met in
        subst (λ (x : List Tree). StepsOnce a b l (UpdateCounter k op) (Items x) l) (sym empty)
        ((once a b _ l l _ _ there (counter_read a.keypos k op h.bounded h.fitting l (here ∙ ap Some none) t.0 t.1)))

    -- There is no object: the argument is bad.
    pub counter_misses : (found : Bool) (into : List ℕ) → found ≡ false → Got a b bytes found into → (l : Continuation)
        → StepsOnce a b l (UpdateCounter k op) (Error BadArg) l
    counter_misses found into e got l =
        (once a b _ l l _ _ (got_none k bytes h a b found into e got)
        (counter_missing a.keypos k op h.bounded h.fitting l operations here))

    pub counter_lacks : Meets a b (Change bytes None None) → (l : Continuation) → StepsOnce a b l (UpdateCounter k op) (Error BadArg) l
    counter_lacks met l =
        (once a b _ l l _ _ (none_met met) (counter_absent a.keypos k op h.bounded h.fitting l operations here))

    module _ (adds : List Addition) (are : adds ≡ additions_of operations) (old : List ℕ) where
      -- The operations fail: the answer is why.
      pub counter_fails : IsKept a b bytes (by_operations a.keypos adds) old → (f : Fault)
          → ((row : Row) (fault : ElementFault) → IsTupleCode row old → by_operations q adds (Tuple row) ≡ Err fault → f ≡ fault_of fault)
          → (l : Continuation) → StepsOnce a b l (UpdateCounter k op) (Error f) l
      counter_fails kept f why l =
          let o : Tree = Tuple kept.row in
          let code = kept.object.is_code in
          let because : f ≡ fault_of kept.fault =
          why kept.row kept.fault code (subst (λ (n : ℕ). by_operations n adds o ≡ Err kept.fault) (sym same) kept.failed) in
          let failed : update_of_counters a.keypos o (additions_of operations) ≡ Err kept.fault =
          subst (λ (x : List Addition). update_of_counters a.keypos o x ≡ Err kept.fault) are
          (failed_operations (update_of_counters a.keypos o adds) kept.fault kept.failed) in
          subst (λ (x : Fault). StepsOnce a b l (UpdateCounter k op) (Error x) l) (sym because)
          ((once a b _ l l _ _ (kept_met old o code.code_is kept.met)
          (counter_kept a.keypos k op h.bounded h.fitting l operations here o code.bounded kept.fault failed)))

      -- They pass: the answer is their values.
      pub counter_passes : IsPut a b bytes (by_operations a.keypos adds) old → (r : Response)
          → ((row : Row) (left : List Tree) (values : List ℤ) → IsTupleCode row old → counts q (elements row) (additions_of operations) ≡ Ok (left, values)
          → r ≡ reply_of operations values) → (l : Continuation) → StepsOnce a b l (UpdateCounter k op) r l
      counter_passes put r reply l =
          let o : Tree = Tuple put.row in
          let code = put.object.is_code in
          let v = has_values a.keypos put.row (additions_of operations) put.new
          (subst (λ (x : List Addition). by_operations a.keypos x o ≡ Ok put.new) are put.updated) in
          let is : r ≡ reply_of operations v.values =
          reply put.row v.left v.values code
          (subst (λ (n : ℕ). counts n (elements put.row) (additions_of operations) ≡ Ok (v.left, v.values)) (sym same) v.counted) in
          subst (λ (x : Response). StepsOnce a b l (UpdateCounter k op) x l) (sym is)
          ((once a b _ l l _ _ (put_met old (code_of put.new) o code.code_is put.met)
          (counter_put a.keypos k op h.bounded h.fitting l operations here o code.bounded put.new v.values v.updated put.keeps)))

  module _ (q : ℕ) (same : q ≡ a.keypos) (position : ℤ) (value : Tree) (asked : IsAsked q op position value) where
    there : element_of a.keypos op ≡ Some (position, value)
    there = subst (λ (n : ℕ). element_of n op ≡ Some (position, value)) same asked.asked

    -- There is no object: the answer is false.
    pub element_misses : (found : Bool) (into : List ℕ) → found ≡ false → Got a b bytes found into → (l : Continuation)
        → StepsOnce a b l (UpdateElement k op) (Truth false) l
    element_misses found into e got l =
        (once a b _ l l _ _ (got_none k bytes h a b found into e got)
        (element_missing a.keypos k op h.bounded h.fitting l position value there))

    pub element_lacks : Meets a b (Change bytes None None) → (l : Continuation) → StepsOnce a b l (UpdateElement k op) (Truth false) l
    element_lacks met l =
        (once a b _ l l _ _ (none_met met) (element_absent a.keypos k op h.bounded h.fitting l position value there))

    -- its position as it went through a call
    module _ (raw : ℤ) (cast : raw ≡ position) where
      -- The element isn't put: the answer is why.
      pub element_fails : (old : List ℕ) → IsKept a b bytes (by_element raw value) old → (f : Fault)
          → ((row : Row) (fault : ElementFault) → IsTupleCode row old → by_element raw value (Tuple row) ≡ Err fault → f ≡ fault_of fault)
          → (l : Continuation) → StepsOnce a b l (UpdateElement k op) (Error f) l
      element_fails old kept f why l =
          let o : Tree = Tuple kept.row in
          let code = kept.object.is_code in
          let because : f ≡ fault_of kept.fault = why kept.row kept.fault code kept.failed in
          let failed : by_element position value o ≡ Err kept.fault = subst (λ (x : ℤ). by_element x value o ≡ Err kept.fault) cast kept.failed in
          subst (λ (x : Fault). StepsOnce a b l (UpdateElement k op) (Error x) l) (sym because)
          ((once a b _ l l _ _ (kept_met old o code.code_is kept.met)
          (element_kept a.keypos k op h.bounded h.fitting l position value there o code.bounded kept.fault failed)))

      -- It is put: the answer is true.
      pub element_passes : (old : List ℕ) → IsPut a b bytes (by_element raw value) old → (l : Continuation)
          → StepsOnce a b l (UpdateElement k op) (Truth true) l
      element_passes old put l =
          let o : Tree = Tuple put.row in
          let code = put.object.is_code in
          let updated : by_element position value o ≡ Ok put.new = subst (λ (x : ℤ). by_element x value o ≡ Ok put.new) cast put.updated in
          (once a b _ l l _ _ (put_met old (code_of put.new) o code.code_is put.met)
          (element_put a.keypos k op h.bounded h.fitting l position value there o code.bounded put.new updated put.keeps))

      -- It is too long for any object: the answer is why.
      pub element_reads : 1 ≤ a.keypos → (found : Bool) (into : List ℕ) → found ≡ true → Got a b bytes found into → (f : Fault)
          → ((row : Row) → IsTupleCode row into → (fault : ElementFault) × (by_element raw value (Tuple row) ≡ Err fault) × (f ≡ fault_of fault))
          → (l : Continuation) → StepsOnce a b l (UpdateElement k op) (Error f) l
      element_reads positive found into e got f why l =
          let r = found_row positive found into e got in
          let o : Tree = Tuple r.0 in
          let code = r.1 in
          let because = why r.0 code in
          let failed : by_element position value o ≡ Err because.0 = subst (λ (x : ℤ). by_element x value o ≡ Err because.0) cast because.1 in
          let met = got_some k bytes h a b found into e got in
          let here = subst (λ (x : List ℕ). Meets a b (Get (code_of k) (Some x))) code.code_is met in
          subst (λ (x : Fault). StepsOnce a b l (UpdateElement k op) (Error x) l) (sym because.2)
          ((once a b _ l l _ _ here
          (element_read a.keypos k op h.bounded h.fitting l position value there o code.bounded because.0 failed)))
