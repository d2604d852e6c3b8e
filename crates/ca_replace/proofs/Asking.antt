-- What functions that are handed to calls are asked, and leave.
use Rattle.std.proofs.Common.{◌≡◌, ℕ, Bool, true, List, [], refl}
use denote.Ref.{Bor, MutBor}
use denote.Param.Members.{Shared}
use Rattle.arrayvec.specs.ArrayVec.{ArrayVec}
use Rattle.ca_model.specs.Function.{KeepsKey}
use Rattle.ca_model.specs.StoreMap.{IsPair}
use Rattle.ca_model.proofs.Alone.{may_leave, IsLeft, left_by}

-- What a function left that keeps the key and answered true.
pub left_of : {F : Type 0} (g : Shared F (Bor (List ℕ)
    × (MutBor (ArrayVec ℕ) × (MutBor ℕ × Unit {0}))) (Bool
    × (MutBor (ArrayVec ℕ) × (MutBor ℕ × Unit {0})))) (f : F)
    (p : ℕ) (k o : List ℕ) (r : Bool) (shown : Bor (List ℕ)) (into into' : MutBor (ArrayVec ℕ))
    (start start' : MutBor ℕ) → r ≡ true
    → shown.now ≡ o → into.now.items ≡ [] → KeepsKey g f p k → IsPair p (k, o)
    → g.post f (shown, (into, (start, tt))) (r, (into', (start', tt)))
    → IsLeft p k into'.now.items start'.now
left_of g f p k o r shown into into' start start' is shows empty keeps old post =
    left_by g f p p k o into'.now.items start'.now refl keeps old
    (may_leave g f o r true shown into into' start start' is shows empty post)
