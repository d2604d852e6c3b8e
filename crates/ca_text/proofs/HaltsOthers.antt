-- Where the reader of a term halts, the bytes that it took begin a text of a term.
use Rattle.std.proofs.Common.{◌≡◌, ℕ, zero, suc, true, eqb, List, [], ◌∷◌, length, refl, sym, subst, arith}
use Rattle.std.specs.Char.{is_ascii_lowercase}
use Rattle.std.specs.Str.{encode_utf8_all}
use Rattle.ca_term.specs.Tree.{Tree, Integer, Atom, Nil, Binary}
use Rattle.ca_text.specs.Bytes.{close_angle, double_quote, open_angle, open_brace, single_quote}
use Rattle.ca_text.specs.Grammar.{Limits, AreCharacters, Closed, Plain, Quoted, points, IsTextOf, AnInteger, AnAtom, NoString, AString, NoBytes}
use Rattle.ca_text.specs.declared.fault.Why.TheVariants.{Syntax, AtomTooLong, TooDeep}
use Rattle.ca_text.specs.Inner.Reading.{Read, most_point, quoted_at, binary_at, begins_character, points_at, atom_at, integer_term_at, other_at, begins_term, too_deep, term_at}
use Rattle.ca_text.proofs.Sound.{ReadsTerms, closed_text, other_taken, term_taken}
use Rattle.ca_text.proofs.Halts.{GoesOn, HaltsAt, Halts, ok_halts, here_halts, at_halts, if_halts, byte_halts, bind_halts, behind_as, as_halts}
use Rattle.ca_text.proofs.HaltsNumbers.{integer_halts, name_halts}
use Rattle.ca_text.proofs.HaltsCharacters.{characters_halts}
use Rattle.ca_text.proofs.HaltsBinaries.{binary_halts}
use Rattle.ca_text.proofs.HaltsTerms.{tuple_halts, bracketed_halts}

module _ (limits : Limits) (levels : ℕ) where
  abbrev IsOne : List ℕ → Tree → Type 0
  IsOne text t = IsTextOf limits (suc levels) text t

  integer_term_halts : Halts integer_term_at IsOne
  integer_term_halts bytes = bind_halts _ (as_halts (λ part n is. (Integer n, AnInteger limits levels part n is)) (integer_halts bytes)) (λ x e. ok_halts)

  atom_halts : (b : ℕ) (bytes : List ℕ) → is_ascii_lowercase b ≡ true → HaltsAt IsOne (b ∷ bytes) (atom_at limits.characters (b ∷ bytes))
  atom_halts b bytes letter = bind_halts _ (as_halts (λ part name is. (Atom part, AnAtom limits levels part part (Plain limits part is.0 is.1)))
      (name_halts limits.characters b bytes letter)) (λ x e. ok_halts)

  no_name : IsOne (single_quote ∷ single_quote ∷ []) (Atom [])
  no_name = AnAtom limits levels (single_quote ∷ single_quote ∷ []) [] (Quoted limits (single_quote ∷ []) [] (Closed single_quote) (omega arith))

  quoted_halts : (bytes : List ℕ) → HaltsAt IsOne (single_quote ∷ bytes) (quoted_at limits.characters bytes)
  quoted_halts bytes = bind_halts _ (behind_as (single_quote ∷ []) (single_quote ∷ [], Atom [], no_name)
      (λ part cs are. (Atom (encode_utf8_all cs), AnAtom limits levels (single_quote ∷ part) (encode_utf8_all cs) (Quoted limits part cs are.0 are.2)))
      (characters_halts AtomTooLong single_quote most_point limits.characters (omega arith) (λ x. absurd (omega (arith, x))) (omega arith) (λ x. refl) bytes))
      (λ x e. ok_halts)

  binary_term_halts : (bytes : List ℕ) → HaltsAt IsOne (open_angle ∷ bytes) (binary_at bytes)
  binary_term_halts bytes =
      behind_as (open_angle ∷ []) (open_angle ∷ close_angle ∷ close_angle ∷ [], Binary [], NoBytes limits levels [] refl) (λ part t is. (t, is))
      (binary_halts limits levels bytes)

-- a string halts behind its first quote
string_goes : (limits : Limits) (levels : ℕ) (text cs : List ℕ) → AreCharacters double_quote text cs
    → IsTextOf limits (suc (suc levels)) (double_quote ∷ text) (points cs)
string_goes limits levels text [] are =
    subst (λ x. IsTextOf limits (suc (suc levels)) (double_quote ∷ x) Nil) (sym (closed_text double_quote text [] are refl)) (NoString limits (suc levels))
string_goes limits levels text (c ∷ cs) are = AString limits levels c text cs are

flat_string_halts : (limits : Limits) (bytes : List ℕ) → HaltsAt (IsTextOf limits 1) (double_quote ∷ bytes) (points_at zero bytes)
unfolding points_at
flat_string_halts limits [] = at_halts Syntax (double_quote ∷ []) [] (double_quote ∷ [], Nil, NoString limits 0)
flat_string_halts limits (b ∷ bytes) =
    let goes : GoesOn (IsTextOf limits 1) (double_quote ∷ []) = (double_quote ∷ [], Nil, NoString limits 0) in
    if_halts (eqb b double_quote) (λ h. ok_halts)
    (λ h. if_halts (begins_character double_quote most_point b)
    (λ i. at_halts TooDeep (double_quote ∷ []) (b ∷ bytes) goes) (λ i. at_halts Syntax (double_quote ∷ []) (b ∷ bytes) goes))

string_halts : (limits : Limits) (levels : ℕ) (bytes : List ℕ) → HaltsAt (IsTextOf limits (suc levels)) (double_quote ∷ bytes) (points_at levels bytes)
unfolding points_at
string_halts limits zero bytes = flat_string_halts limits bytes
string_halts limits (suc levels) bytes = bind_halts _ (behind_as (double_quote ∷ []) (double_quote ∷ [], Nil, NoString limits (suc levels))
    (λ part cs are. (points cs, string_goes limits levels part cs are.0))
    (characters_halts Syntax double_quote most_point (length bytes) (omega arith) (λ x. absurd (omega (arith, x))) (omega arith) (λ x. refl) bytes))
    (λ x e. ok_halts)

other_halts : (limits : Limits) (levels : ℕ) (element : List ℕ → Read Tree) → ReadsTerms limits levels element → Halts element (IsTextOf limits levels)
    → Halts (other_at limits element levels) (IsTextOf limits (suc levels))
unfolding other_at
other_halts limits levels element sound halts [] = integer_term_halts limits levels []
other_halts limits levels element sound halts (b ∷ bytes) =
    if_halts (eqb b open_brace) (λ h. byte_halts h (tuple_halts limits levels element sound halts bytes)) (λ h.
    if_halts (eqb b double_quote) (λ i. byte_halts i (string_halts limits levels bytes)) (λ i.
    if_halts (eqb b single_quote) (λ j. byte_halts j (quoted_halts limits levels bytes)) (λ j.
    if_halts (eqb b open_angle) (λ k. byte_halts k (binary_term_halts limits levels bytes)) (λ k.
    if_halts (is_ascii_lowercase b) (λ l. atom_halts limits levels b bytes l) (λ l. integer_term_halts limits levels (b ∷ bytes))))))

deep_halts : (limits : Limits) → Halts too_deep (IsTextOf limits 0)
deep_halts limits [] = here_halts Syntax []
deep_halts limits (b ∷ bytes) = if_halts (begins_term b) (λ h. here_halts TooDeep (b ∷ bytes)) (λ h. here_halts Syntax (b ∷ bytes))

-- Where the reading of a term halts, what it took goes on to a text of one.
pub term_halts : (limits : Limits) (levels : ℕ) → Halts (term_at limits levels) (IsTextOf limits levels)
unfolding term_at
term_halts limits zero = deep_halts limits
term_halts limits (suc levels) =
    let element = term_at limits levels in
    let other = other_at limits element levels in
    bracketed_halts limits levels element (term_taken limits levels) (term_halts limits levels) other
    (other_taken limits levels element (term_taken limits levels))
    (other_halts limits levels element (term_taken limits levels) (term_halts limits levels))
