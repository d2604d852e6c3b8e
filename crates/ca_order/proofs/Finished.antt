-- What came of writing a new object's code.
use Rattle.std.proofs.Common.{◌≡◌, ℕ, ℤ, ◌≤◌, ◌<◌, true, false, List, [], length, arith, refl, sym, ◌∙◌, ap, subst}
use Rattle.std.specs.Prelude.{nat_le, Result, Ok, Err, IfOk, IsTrue}
use Rattle.std.proofs.lemmas.Bool.Decides.{nat_tests}
use Rattle.ca_term.specs.declared.bounds.TheConstants.{MOST_CODE_BYTES}
use Rattle.ca_term.specs.Tree.{Tree, Row, Tuple, row_of, elements, IsTerm}
use Rattle.ca_term.specs.Object.{is_object}
use Rattle.ca_term.specs.Code.{code_of}
use Rattle.ca_term.specs.Updates.{ElementFault, BadArgument, OutOfRange, TooLarge, Addition, is_open, update_of_element, and_then, counts, object_of, object_in, update_of_counters}
use Rattle.ca_order.specs.declared.patched.Patched.{Patched}
use Rattle.ca_order.specs.declared.patched.Patched.TheVariants as answer
use Rattle.ca_term.specs.UpdateLaws.{KeepsKey}
use Rattle.ca_term.proofs.Updates.{counters_keep, elements_keep}
use Rattle.ca_order.specs.Patches.{IsPatched, IsElementCode, HasSameKey, answer_of_fault}
use Rattle.ca_order.proofs.Counted.{IsStopped}

-- A code that was written is the new object's.
pub fits : (items : List Tree) (bytes : List ℕ) → bytes ≡ code_of (Tuple (row_of items)) → length bytes ≤ MOST_CODE_BYTES
    → IsPatched (object_of items) answer.Done bytes
fits items bytes e h =
    let y : nat_le (length (code_of (Tuple (row_of items)))) MOST_CODE_BYTES ≡ true = grind (arith, nat_tests, e, h, ap length e) in
    rw y (record { answer_is = refl; code_is = e })

-- A code that is too long is of no new object.
pub fits_not : (items : List Tree) → MOST_CODE_BYTES < length (code_of (Tuple (row_of items))) → IsPatched (object_of items) answer.TooLong []
fits_not items h =
    let y : nat_le (length (code_of (Tuple (row_of items)))) MOST_CODE_BYTES ≡ false = grind (arith, nat_tests, h) in
    rw y (record { answer_is = refl; code_is = refl })

-- What operations that pass leave is the new object, where it fits.
pub patched_by : (keypos : ℕ) (row : Row) (all : List Addition) (left : List Tree) (values : List ℤ) (result : Patched) (into : List ℕ)
    → counts keypos (elements row) all ≡ Ok (left, values) → IsPatched (object_of left) result into
    → IsPatched (object_in (update_of_counters keypos (Tuple row) all)) result into
patched_by keypos row all left values result into e h =
    subst (λ (x : Result Tree ElementFault). IsPatched x result into)
    (sym (ap (λ (x : Result (List Tree × List ℤ) ElementFault). object_in (and_then x (λ y. with_object y))) e ∙ alone (object_of left)))
    h
  where
    with_object : List Tree × List ℤ → Result (Tree × List ℤ) ElementFault
    with_object y = and_then (object_of y.0) (λ new. Ok (new, y.1))

    alone : (r : Result Tree ElementFault) → object_in (and_then r (λ new. Ok (new, values))) ≡ r
    alone (Ok new) = refl
    alone (Err fault) = refl

-- Operations that fail leave no object.
pub stopped_by : (keypos : ℕ) (row : Row) (all : List Addition) (result : Patched) (into : List ℕ) → IsStopped keypos (elements row) all result → into ≡ []
    → IsPatched (object_in (update_of_counters keypos (Tuple row) all)) result into
stopped_by keypos row all result into s e = rw (s.all_is) (record { answer_is = s.answer_is; code_is = e })

-- ---- the key

kept_by : (keypos : ℕ) (old : Tree) (update : Result Tree ElementFault) (result : Patched) (into : List ℕ) → IfOk update (KeepsKey keypos old)
    → IsPatched update result into → result ≡ answer.Done → HasSameKey keypos old into
kept_by keypos old (Ok new) result into k p e = record { new = new; keeps = k; code_is = p.code_is }
kept_by keypos old (Err fault) result into k p e = absurd (no_fault fault (sym e ∙ p.answer_is))
  where
    no_fault : (fault : ElementFault) → answer.Done ≡ answer_of_fault fault → ⊥
    no_fault BadArgument f = cc
    no_fault OutOfRange f = cc
    no_fault TooLarge f = cc

-- A patch that is done keeps the key.
pub patch_key : (keypos : ℕ) (row : Row) (all : List Addition) (result : Patched) (into : List ℕ) → 1 ≤ keypos → IsTerm (Tuple row)
    → is_object keypos (Tuple row) ≡ true → IsPatched (object_in (update_of_counters keypos (Tuple row) all)) result into → result ≡ answer.Done
    → HasSameKey keypos (Tuple row) into
patch_key keypos row all result into l h o p e =
    kept_by keypos (Tuple row) (object_in (update_of_counters keypos (Tuple row) all)) result into
    (alone (update_of_counters keypos (Tuple row) all) (counters_keep keypos (Tuple row) all l h o)) p e
  where
    alone : (r : Result (Tree × List ℤ) ElementFault) → IfOk r (λ new. KeepsKey keypos (Tuple row) new.0) → IfOk (object_in r) (KeepsKey keypos (Tuple row))
    alone (Ok new) k = k
    alone (Err fault) k = k

-- A replacement that is done keeps the key.
pub set_key : (keypos : ℕ) (row : Row) (p : ℤ) (value : Tree) (code : List ℕ) (result : Patched) (into : List ℕ) → 1 ≤ keypos → IsTerm (Tuple row)
    → is_object keypos (Tuple row) ≡ true → IsTrue (is_open keypos p) → IsElementCode value code → IsPatched (update_of_element (Tuple row) p value) result into
    → result ≡ answer.Done → HasSameKey keypos (Tuple row) into
set_key keypos row p value code result into l h o q t k e =
    kept_by keypos (Tuple row) (update_of_element (Tuple row) p value) result into
    (elements_keep keypos (Tuple row) p value l h o q t.bounded t.shallow) k e
