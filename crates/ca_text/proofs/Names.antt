-- What is read as a name has the characters of one.
use Rattle.std.proofs.Common.{◌≡◌, ℕ, zero, suc, true, leb, List, [], ◌∷◌, take, drop, Ok, arith}
use Rattle.ca_text.proofs.Numbers.{names_all}
use Rattle.std.proofs.lemmas.Bool.Decides.{nat_tests}
use Rattle.std.proofs.lemmas.Str.{IsUtf8-from_ascii}
use Rattle.std.specs.List.{list_all}
use Rattle.std.specs.Str.{IsUtf8, IsAscii}
use Rattle.ca_text.specs.Text.{is_name_char}
use Rattle.ca_text.specs.Inner.Reading.{name_length, name_at}
use Rattle.ca_text.proofs.Tools.{guarded, both, pair_is}

-- Characters of a name are of ASCII.
pub name_ascii : (name : List ℕ) → list_all is_name_char name ≡ true → IsAscii name
name_ascii [] h i = omega arith
name_ascii (c ∷ cs) h zero = let t = both (is_name_char c) (list_all is_name_char cs) h in let u = t.0 in grind (arith, nat_tests)
name_ascii (c ∷ cs) h (suc i) = name_ascii cs (both (is_name_char c) (list_all is_name_char cs) h).1 i

-- What is read as a name is text.
pub name_utf8 : (most : ℕ) (bytes name rest : List ℕ) → name_at most bytes ≡ Ok (name, rest) → IsUtf8 name
unfolding name_at
name_utf8 most bytes name rest e =
    let g = guarded (leb (name_length bytes) most) _ (Ok (take (name_length bytes) bytes, drop (name_length bytes) bytes)) (name, rest) e in
    let p = pair_is _ _ _ _ g.1 in
    rw (← p.0) (IsUtf8-from_ascii _ (name_ascii _ (names_all bytes)))
