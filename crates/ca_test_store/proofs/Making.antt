-- Edits of others that are made in the store inside, one after another.
use Rattle.std.proofs.Common.{◌≡◌, ℕ, Bool, true, false, List, [], ◌∷◌, arith, refl, sym, ◌∙◌, ap, subst, if◌then◌else◌}
use Rattle.std.specs.Prelude.{not}
use Rattle.std.specs.Ordering.{is_eq}
use Rattle.ca_model.specs.StoreMap.{StoreMap, bytes_cmp, get, del}
use Rattle.ca_model.specs.History.{Edit, Put, Del}
use Rattle.ca_model.specs.Event.{Write}
use Rattle.ca_model.specs.Known.{Known}
use Rattle.ca_test_store.specs.Script.{after_edits, AreProper}
use Rattle.ca_test_store.specs.Played.{RemovedSuch}
use Rattle.ca_test_store.specs.Inner.{IsInner, IsReady, HasMade, Answers}

-- A key that no object has is no loss.
del_none : (m : StoreMap) (k : List ℕ) → get m k ≡ [] → del m k ≡ m
del_none [] k e = refl
del_none (p ∷ m) k e = by (is_eq (bytes_cmp p.0 k)) e (λ none. del_none m k none)
  where
    by : (b : Bool) → (if b then p ∷ get m k else get m k) ≡ [] → (get m k ≡ [] → del m k ≡ m) → (if not b then p ∷ del m k else del m k) ≡ p ∷ m
    by true none rest = cc
    by false none rest = ap (λ (ms : StoreMap). p ∷ ms) (rest none)

-- An object is put.
pub put_made : (a b : Known) (k o : List ℕ) → Answers a b 1 (Write k o) → HasMade a b (Put k o ∷ [])
put_made a b k o h = record { inner = h.inner; keypos = h.keypos; map = h.map; spare = h.spare }

-- A key is removed.
pub removed_made : (a b : Known) (k : List ℕ) (was : Bool) (old : List ℕ) → RemovedSuch (Answers a b 0) k was old → HasMade a b (Del k ∷ [])
removed_made a b k true old h = record { inner = h.inner; keypos = h.keypos; map = h.map; spare = omega (arith, h.spare) }
removed_made a b k false old h = record {
  inner = h.0.inner;
  keypos = h.0.keypos;
  map = h.0.map ∙ sym (del_none a.map k h.0.answer);
  spare = omega (arith, h.0.spare);
}

-- No edit is made.
pub none_made : (a : Known) → IsInner a → HasMade a a []
none_made a inner = record { inner = inner; keypos = refl; map = refl; spare = omega arith }

-- The first of several edits may be made, and behind it the others.
pub first_ready : (a : Known) (edit : Edit) (edits : List Edit) → IsReady a (edit ∷ edits) → IsReady a (edit ∷ [])
first_ready a edit edits h = record { inner = h.inner; proper = (h.proper.0, tt); room = omega (arith, h.room) }

-- Behind the first one the others may be made.
pub rest_ready : (a b : Known) (edit : Edit) (edits : List Edit) → IsReady a (edit ∷ edits) → HasMade a b (edit ∷ []) → IsReady b edits
rest_ready a b edit edits h made = record {
  inner = made.inner;
  proper = subst (λ (n : ℕ). AreProper n edits) (sym made.keypos) h.proper.1;
  room = omega (arith, h.room, made.spare);
}

-- One edit and then others.
pub more_made : (a b z : Known) (edit : Edit) (edits : List Edit) → HasMade a b (edit ∷ []) → HasMade b z edits → HasMade a z (edit ∷ edits)
more_made a b z edit edits one rest = record {
  inner = rest.inner;
  keypos = rest.keypos ∙ one.keypos;
  map = rest.map ∙ ap (λ (m : StoreMap). after_edits edits m) one.map;
  spare = omega (arith, one.spare, rest.spare);
}
