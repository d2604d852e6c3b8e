-- The text of a list of code points, one after another.
use Rattle.std.proofs.Common.{◌≡◌, ℕ, zero, suc, ◌+◌, ◌<◌, true, List, [], ◌∷◌, ◌++◌, length, get_or, take, sym, ap, ◌∙◌, append_assoc, arith, add-one}
use Rattle.std.proofs.lemmas.List.{append-nil}
use Rattle.std.specs.Char.{encode_utf8, IsScalar}
use Rattle.std.specs.Str.{all_scalars, encode_utf8_all}
use Rattle.ca_text.proofs.Tools.{both}

-- Each of some scalar values is one.
pub scalar_at : (cs : List ℕ) (i : ℕ) → all_scalars cs ≡ true → i < length cs → IsScalar (get_or cs i 0)
scalar_at [] i h lt = absurd (omega arith)
scalar_at (c ∷ cs) zero h lt = (both _ _ h).0
scalar_at (c ∷ cs) (suc i) h lt = scalar_at cs i (both _ _ h).1 (omega arith)

encode_next : (cs : List ℕ) (i : ℕ) → i < length cs → encode_utf8_all (take (suc i) cs) ≡ encode_utf8_all (take i cs) ++ encode_utf8 (get_or cs i 0)
encode_next [] i lt = absurd (omega arith)
encode_next (c ∷ cs) zero lt = append-nil (encode_utf8 c)
encode_next (c ∷ cs) (suc i) lt =
    ap (λ (bs : List ℕ). encode_utf8 c ++ bs) (encode_next cs i (omega arith))
    ∙ sym (append_assoc (encode_utf8 c) (encode_utf8_all (take i cs)) (encode_utf8 (get_or cs i 0)))

-- One code point more at the end adds its UTF-8 at the end.
pub encode_more : (cs : List ℕ) (i : ℕ) → i < length cs → encode_utf8_all (take (i + 1) cs) ≡ encode_utf8_all (take i cs) ++ encode_utf8 (get_or cs i 0)
encode_more cs i lt = ap (λ n. encode_utf8_all (take n cs)) (add-one i) ∙ encode_next cs i lt
