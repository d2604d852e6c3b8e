-- What a function writes that updates an object.
use Rattle.std.proofs.Common.{◌≡◌, ℕ, ◌-◌, true, List, ◌++◌, take, drop, arith, refl, sym, ◌∙◌, ap, subst, Option, Some}
use Rattle.std.specs.Prelude.{Result, Ok, Err, IfOk, IsTrue, ℤ}
use Rattle.std.proofs.lemmas.List.{take-append-drop, length-take}
use Rattle.ca_term.specs.Tree.{Tree, Row, Tuple, IsTerm}
use Rattle.ca_term.specs.Code.{code_of}
use Rattle.ca_term.specs.Object.{key_of}
use Rattle.ca_term.specs.Updates.{ElementFault, BadArgument, OutOfRange, TooLarge, Addition, is_open, object_in, update_of_counters}
use Rattle.ca_term.specs.UpdateLaws.{KeepsKey}
use Rattle.ca_term.proofs.Updates.{counters_keep, elements_keep}
use Rattle.ca_order.specs.KeyParts.{IsKeyParts}
use Rattle.ca_order.specs.Patches.{IsElementCode, IsPatched}
use Rattle.ca_order.specs.declared.patched.Patched.{Patched}
use Rattle.ca_order.specs.declared.patched.Patched.TheVariants as answer
use Rattle.ca_model.specs.Function.{StandsAt}
use Rattle.ca_table.specs.Renewed.{IsObjectCode, IsUpdate, Renews, by_element, by_operations}
use Rattle.ca_table.proofs.KeyParts.{KeyStands, key_stands}

-- Operations keep an object's key.
pub count_update : (p : ℕ) (row : Row) (additions : List Addition) (object : List ℕ) (a : Patched) (bytes : List ℕ) → IsObjectCode p row object
    → IsPatched (object_in (update_of_counters p (Tuple row) additions)) a bytes
    → IsUpdate p (Tuple row) (by_operations p additions (Tuple row)) a bytes
count_update p row additions object a bytes h patched = record {
  positive = h.positive;
  patched = patched;
  keeps = alone (update_of_counters p (Tuple row) additions) (counters_keep p (Tuple row) additions h.positive h.is_code.bounded h.object);
}
  where
    alone : (r : Result (Tree × List ℤ) ElementFault) → IfOk r (λ new. KeepsKey p (Tuple row) new.0) → IfOk (object_in r) (KeepsKey p (Tuple row))
    alone (Ok new) k = k
    alone (Err fault) k = k

-- So does another element.
pub element_update : (p : ℕ) (row : Row) (position : ℤ) (v : Tree) (value object : List ℕ) (a : Patched) (bytes : List ℕ) → IsTrue (is_open p position)
    → IsObjectCode p row object → IsElementCode v value → IsPatched (by_element position v (Tuple row)) a bytes
    → IsUpdate p (Tuple row) (by_element position v (Tuple row)) a bytes
element_update p row position v value object a bytes free h e patched = record {
  positive = h.positive;
  patched = patched;
  keeps = elements_keep p (Tuple row) position v h.positive h.is_code.bounded h.object free e.bounded e.shallow;
}

-- what an update that is done leaves
record IsNew (p : ℕ) (old : Tree) (update : Result Tree ElementFault) (bytes : List ℕ) : Type 0 where
  new : Tree
  updated : update ≡ Ok new
  keeps : KeepsKey p old new
  code_is : bytes ≡ code_of new

new_object : (p : ℕ) (old : Tree) (update : Result Tree ElementFault) (bytes : List ℕ) → IsUpdate p old update answer.Done bytes → IsNew p old update bytes
new_object p old (Ok new) bytes h = record { new = new; updated = refl; keeps = h.keeps; code_is = h.patched.code_is }
new_object p old (Err BadArgument) bytes h = let no : answer.Done ≡ answer.BadArg = h.patched.answer_is in cc
new_object p old (Err OutOfRange) bytes h = let no : answer.Done ≡ answer.Range = h.patched.answer_is in cc
new_object p old (Err TooLarge) bytes h = let no : answer.Done ≡ answer.TooLong = h.patched.answer_is in cc

stands : (p : ℕ) (t : Tree) (start end : ℕ) → KeyStands p t start end → StandsAt (code_of (key_of p t)) (code_of t) start
stands p t start end k = record {
  before = take start (code_of t);
  behind = drop (end - start) (drop start (code_of t));
  bytes = sym (ap (λ (x : List ℕ). take start (code_of t) ++ (x ++ drop (end - start) (drop start (code_of t)))) (sym k.key)
      ∙ ap (λ (x : List ℕ). take start (code_of t) ++ x) (take-append-drop (end - start) (drop start (code_of t)))
      ∙ take-append-drop start (code_of t));
  place = omega (arith, length-take start (code_of t), k.rising, k.inside);
}

-- A new object was written, and its key begins where its parts say.
pub is_new : (p : ℕ) (old : Tree) (update : Result Tree ElementFault) (a : Patched) (slice bytes : List ℕ) (start end : ℕ) (parts : Option (ℕ × ℕ))
    → a ≡ answer.Done → IsUpdate p old update a bytes → slice ≡ bytes → parts ≡ Some (start, end)
    → ((t : Tree) → IsTerm t → slice ≡ code_of t → IsKeyParts t p parts) → Renews p old update true bytes start
is_new p old update a slice bytes start end parts done h same is key =
    let n = new_object p old update bytes (subst (λ (x : Patched). IsUpdate p old update x bytes) done h) in
    let k = key_stands n.new p start end n.keeps.bounded
    (subst (λ (x : Option (ℕ × ℕ)). IsKeyParts n.new p x) is (key n.new n.keeps.bounded (same ∙ n.code_is))) in
    subst (λ (x : Result Tree ElementFault). Renews p old x true bytes start) (sym n.updated)
    (record {
      keeps = n.keeps;
      code_is = n.code_is;
      key_stands = subst (λ (x : List ℕ). StandsAt (code_of (key_of p n.new)) x start) (sym n.code_is) (stands p n.new start end k);
    })
