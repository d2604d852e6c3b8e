-- The code of an object with the place of its key.
use Rattle.std.proofs.Common.{◌≡◌, ℕ, ◌<◌, ◌≤◌, true, List, length, sym, subst, arith, Some}
use Rattle.std.specs.List.{slice_range}
use Rattle.ca_term.specs.Code.{code_of}
use Rattle.ca_term.specs.Object.{is_object}
use Rattle.ca_term.specs.Tree.{Tree, IsTerm}
use Rattle.ca_term.specs.declared.bounds.TheConstants.{MOST_CODE_BYTES}
use Rattle.ca_model.specs.StoreMap.{Pair, IsPair}
use Rattle.ca_order.specs.KeyParts.{IsKeyParts}
use Rattle.ca_explain.proofs.Pairs.{pair_of_object}
use Rattle.ca_table.proofs.KeyParts.{has_code}

-- The code of an object with its key's part is a pair.
pub placed : (o : Tree) (bytes : List ℕ) (start end : ℕ) → IsTerm o → is_object 1 o ≡ true → bytes ≡ code_of o → length bytes ≤ MOST_CODE_BYTES
    → IsKeyParts o 1 (Some (start, end)) → start < end
    → (start < end) × (end ≤ length bytes) × IsPair 1 (slice_range bytes start end, bytes)
placed o bytes start end bounded is code short parts some =
    let h = (has_code 1 o bytes start end bounded is code short parts).1 in
    let pair = pair_of_object 1 o (omega arith) h.bounded (record { object = h.is; fitting = h.fitting }) in
    (some, h.inside, subst (λ (q : Pair). IsPair 1 q) (λ i. (sym h.key_is i, sym h.code_is i)) pair)
