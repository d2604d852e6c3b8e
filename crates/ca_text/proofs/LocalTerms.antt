-- The readers of terms look no further than one byte ahead.
use Rattle.std.proofs.Common.{◌≡◌, ℕ, zero, suc, ◌+◌, ◌<◌, ◌≤◌, Bool, true, false, leb, eqb, List, [], ◌∷◌, ◌++◌, length, take, drop, Option, None, Some, Result, Ok, Err, refl, sym, ap, subst, ◌∙◌, arith, length-append, take-append-drop, length-take-le}
use Rattle.std.proofs.Math.Seq.{take-append_seam, drop-append_seam}
use Rattle.std.proofs.lemmas.Bool.{leb-true, leb-false, le-leb}
use Rattle.std.proofs.lemmas.Bool.Decides.{nat_tests}
use Rattle.std.specs.List.{list_all}
use Rattle.std.specs.Char.{is_ascii_lowercase}
use Rattle.std.specs.Str.{encode_utf8_all}
use Rattle.ca_term.specs.Tree.{Tree, Integer, Atom, Tuple, Nil, Cons, Binary, row_of}
use Rattle.ca_text.specs.Bytes.{close_angle, close_brace, close_bracket, comma, double_quote, open_angle, open_brace, open_bracket, single_quote, vertical_bar}
use Rattle.ca_text.specs.Text.{is_name_char}
use Rattle.ca_text.specs.Grammar.{Limits, most_byte, points, skip}
use Rattle.ca_text.specs.declared.fault.Fault.{Fault}
use Rattle.ca_text.specs.declared.fault.Why.{Why}
use Rattle.ca_text.specs.declared.fault.Why.TheVariants.{Syntax, AtomTooLong, TooDeep, TooWide}
use Rattle.ca_text.specs.Inner.Reading.{◌>>=◌, Read, syntax_fault, expect, number_at, integer_at, name_length, name_at, next_point_at, closing_at, points_after, characters_at, string_at, quoted_at, most_point, most_shown, begins_character, one_byte_at, segment_at, after_segment_at, segment_step, series_at, series_rest, bytes_at, after_element_at, element_step, elements_at, Next, Head, Inner, Last, closed, inner_at, tail_at, next_at, cells_after, cell_step, cells_at, list_at, string_points_at, points_at, tuple_at, binary_at, atom_at, integer_term_at, other_at, bracketed, begins_term, too_deep, term_at}
use Rattle.ca_text.proofs.Tools.{bind_ok, either_way, both, ok_is, pair_is}
use Rattle.ca_text.proofs.Characters.{next_taken}
use Rattle.ca_text.proofs.CharactersAgain.{character_some}
use Rattle.ca_text.proofs.Numbers.{skipped, EndsName, names_all, names_end}
use Rattle.ca_text.proofs.Again.{name_long}
use Rattle.ca_text.proofs.Sound.{segment_taken}
use Rattle.ca_text.proofs.Complete.{segment_begins, text_some}
use Rattle.ca_text.proofs.Sound.{term_taken}
use Rattle.ca_text.proofs.Local.{place, before, IsLocal, nil_local, fault_local, done_local, cons_local, same_local, alike, equal_local, pure_local, no_longer, bind_local, expect_local, skip_local, err_is}
use Rattle.ca_text.proofs.LocalParts.{number_local, integer_local, characters_local}

-- two ways to part some bytes, with last parts of one length
same_parts : (u v xs ys : List ℕ) → u ++ xs ≡ v ++ ys → length xs ≡ length ys → (u ≡ v) × (xs ≡ ys)
same_parts [] [] xs ys e h = (refl, e)
same_parts [] (c ∷ v) xs ys e h = absurd (omega (arith, h, ap (λ (l : List ℕ). length l) e, length-append v ys))
same_parts (b ∷ u) [] xs ys e h = absurd (omega (arith, h, ap (λ (l : List ℕ). length l) e, length-append u xs))
same_parts (b ∷ u) (c ∷ v) xs ys e h =
    let rest : u ++ xs ≡ v ++ ys = cc in
    let first : b ≡ c = cc in
    let r = same_parts u v xs ys rest h in
    (ap (λ x. x ∷ u) first ∙ ap (λ x. c ∷ x) r.0, r.1)

-- Equal answers have as many bytes behind them, and are equal before any bytes.
answers_same : {A : Type 0} (a b : Result A Why) (ys zs : List ℕ) → before a ys ≡ before b zs
    → (length ys ≡ length zs) × ((x : List ℕ) → before a x ≡ before b x)
answers_same {A} (Ok a) (Ok b) ys zs e = let q = pair_is a ys b zs e in (ap length q.1, λ x. ap (λ (c : A). Ok (c, x)) q.0)
answers_same (Ok a) (Err w) ys zs e = absurd cc
answers_same (Err v) (Ok b) ys zs e = absurd cc
answers_same {A} (Err v) (Err w) ys zs e =
    let same = err_is {A = A × List ℕ} (place v ys) (place w zs) e in
    (ap (λ (f : Fault). f.left) same, λ x. ap (λ (f : Fault). Err (place f.why x)) same)

-- a reader with a bound on its steps that is never reached
module _ {A : Type 0} (P : ℕ → List ℕ → Read A) (each : (k : ℕ) → IsLocal (P k))
    (same : (k j : ℕ) (xs : List ℕ) → length xs ≤ k → length xs ≤ j → P k xs ≡ P j xs) where
  -- Such a reader is local.
  pub fuel_local : IsLocal (λ xs. P (length xs) xs)
  fuel_local xs = let t = (each (length xs) xs).1 in (
    (each (length xs) xs).0,
    record {
      front = t.front;
      behind = t.behind;
      whole = t.whole;
      is = t.is;
      again = λ c r s y.
          let zs = t.front ++ c ∷ s in
          let k = length xs + length zs in
          let u = (each k xs).1 in
          let answers = answers_same (each k xs).0 (each (length xs) xs).0 u.behind t.behind (sym u.is ∙ same k (length xs) xs (omega arith) (omega arith)
          ∙ t.is) in
          let parts = same_parts u.front t.front u.behind t.behind (sym u.whole ∙ t.whole) answers.0 in
          same (length zs) k zs (omega arith) (omega arith) ∙ ap (λ x. P k (x ++ c ∷ s)) (sym parts.0) ∙ u.again c r s (parts.1 ∙ y) ∙ answers.1 (c ∷ s);
    },
  )

-- names
names_to_next : (k b : ℕ) (bytes : List ℕ) → (k ≤ name_length bytes → list_all is_name_char (take k bytes) ≡ true) → suc k ≤ name_length (b ∷ bytes)
    → list_all is_name_char (take (suc k) (b ∷ bytes)) ≡ true
unfolding name_length
names_to_next k b bytes later h =
    either_way (is_name_char b) (λ x. let g : suc k ≤ suc (name_length bytes) = rw x at h in rw (x, later (omega (arith, g))) refl)
    (λ x. absurd (omega (arith, rw x at h)))

-- The first characters of a name are characters of a name.
pub names_to : (k : ℕ) (bytes : List ℕ) → k ≤ name_length bytes → list_all is_name_char (take k bytes) ≡ true
unfolding name_length
names_to zero bytes h = refl
names_to (suc k) [] h = absurd (omega arith)
names_to (suc k) (b ∷ bytes) h = names_to_next k b bytes (λ g. names_to k bytes g) h

name_there : (k : ℕ) (bytes : List ℕ) (c : ℕ) (r : List ℕ) → k < name_length bytes → drop k bytes ≡ c ∷ r → is_name_char c ≡ true
unfolding name_length
name_there k [] c r h e = absurd (omega arith)
name_there zero (b ∷ bytes) c r h e =
    let same : b ≡ c = cc in either_way (is_name_char b) (λ x. ap is_name_char (sym same) ∙ x) (λ x. absurd (omega (arith, rw x at h)))
name_there (suc k) (b ∷ bytes) c r h e =
    either_way (is_name_char b) (λ x. let g : suc k < suc (name_length bytes) = rw x at h in name_there k bytes c r (omega (arith, g)) e)
    (λ x. absurd (omega (arith, rw x at h)))

-- A name is no longer than the bytes.
pub name_within : (bytes : List ℕ) → name_length bytes ≤ length bytes
unfolding name_length
name_within [] = omega arith
name_within (b ∷ bytes) = either_way (is_name_char b) (λ x. rw x (omega (arith, name_within bytes))) (λ x. rw x (omega arith))

name_more : (cs : List ℕ) (c : ℕ) (s : List ℕ) → list_all is_name_char cs ≡ true → is_name_char c ≡ true → length cs < name_length (cs ++ c ∷ s)
unfolding name_length
name_more [] c s all h = rw h (omega arith)
name_more (d ∷ cs) c s all h = let t = both (is_name_char d) (list_all is_name_char cs) all in rw t.0 (omega (arith, name_more cs c s t.1 h))

name_of : (most : ℕ) (cs rest : List ℕ) → list_all is_name_char cs ≡ true → EndsName rest → length cs ≤ most → name_at most (cs ++ rest) ≡ Ok (cs, rest)
unfolding name_at
name_of most cs rest all ends few = rw (name_long cs rest all ends, le-leb (length cs) most few, take-append_seam cs rest, drop-append_seam cs rest) refl

over : (n most : ℕ) → most < n → leb n most ≡ false
over n most h = grind (arith, nat_tests)

name_over : (most : ℕ) (cs : List ℕ) (c : ℕ) (s : List ℕ) → list_all is_name_char cs ≡ true → is_name_char c ≡ true → length cs ≡ most
    → name_at most (cs ++ c ∷ s) ≡ Err (place AtomTooLong (c ∷ s))
unfolding name_at
name_over most cs c s all h long =
    let more : leb (name_length (cs ++ c ∷ s)) most ≡ false = over _ most (omega (arith, name_more cs c s all h, long)) in
    rw (more, ← long, drop-append_seam cs (c ∷ s)) refl

name_local : (most : ℕ) → IsLocal (name_at most)
unfolding name_at
name_local most xs =
    let n = name_length xs in
    let within = name_within xs in
    either_way (leb n most)
    (λ h. (
      Ok (take n xs),
      record {
        front = take n xs;
        behind = drop n xs;
        whole = sym (take-append-drop n xs);
        is = rw h refl;
        again = λ c r s y.
            let ends : is_name_char c ≡ false = subst EndsName y (names_end xs) in
            name_of most (take n xs) (c ∷ s) (names_all xs) ends (omega (arith, length-take-le n xs within, leb-true n most h));
      },
    ))
    (λ h. let less = leb-false n most h in (
      Err AtomTooLong,
      record {
        front = take most xs;
        behind = drop most xs;
        whole = sym (take-append-drop most xs);
        is = rw h refl;
        again = λ c r s y. name_over most (take most xs) c s (names_to most xs (omega (arith, less))) (name_there most xs c r (omega (arith, less)) y)
            (length-take-le most xs (omega (arith, less, within)));
      },
    ))

-- ---- strings and binaries

module _ (close most : ℕ) (small : close < 128) (low : 127 ≤ most) (high : 128 ≤ most → most ≡ most_point) where
  after_same : (k j : ℕ) (xs : List ℕ) (r : Read (Option ℕ)) → next_point_at close most xs ≡ r → length xs ≤ suc k → length xs ≤ suc j
      → ((ys : List ℕ) → length ys ≤ k → length ys ≤ j → characters_at Syntax close most k ys ≡ characters_at Syntax close most j ys)
      → (r >>= λ x. points_after (characters_at Syntax close most k) x) ≡ (r >>= λ x. points_after (characters_at Syntax close most j) x)
  after_same k j xs (Err f) e h i later = refl
  after_same k j xs (Ok (None, ys)) e h i later = refl
  after_same k j xs (Ok (Some c, ys)) e h i later =
      let t = (next_taken close most small low high xs).is (Some c, ys) e in
      let long : length xs ≡ length t.text + length ys = ap (λ (l : List ℕ). length l) t.whole ∙ length-append t.text ys in
      let some = character_some close t.text c t.character in
      rw (later ys (omega (arith, long, some)) (omega (arith, long, some))) refl

  characters_same : (k j : ℕ) (xs : List ℕ) → length xs ≤ k → length xs ≤ j → characters_at Syntax close most k xs ≡ characters_at Syntax close most j xs
  unfolding characters_at next_point_at closing_at
  characters_same zero zero xs h i = refl
  characters_same zero (suc j) [] h i = refl
  characters_same zero (suc j) (b ∷ xs) h i = absurd (omega arith)
  characters_same (suc k) zero [] h i = refl
  characters_same (suc k) zero (b ∷ xs) h i = absurd (omega arith)
  characters_same (suc k) (suc j) xs h i = after_same k j xs (next_point_at close most xs) refl h i (characters_same k j)

string_local : (most : ℕ) → 127 ≤ most → (128 ≤ most → most ≡ most_point) → IsLocal (string_at most)
string_local most low high =
    fuel_local (λ k. characters_at Syntax double_quote most k) (λ k. characters_local Syntax double_quote most k)
    (characters_same double_quote most (omega arith) low high)

one_byte_local : IsLocal one_byte_at
one_byte_local = bind_local (number_at most_byte) (λ n ys. Ok (n ∷ [], ys)) (number_local most_byte) (λ n. pure_local (n ∷ []))

segment_local : IsLocal segment_at
unfolding segment_at number_at
segment_local [] = nil_local segment_at refl
segment_local (b ∷ bytes) = either_way (eqb b double_quote)
    (λ h. cons_local segment_at (string_at most_shown) b bytes (λ zs. rw h refl) (string_local most_shown (omega arith) (λ x. absurd (omega arith)) bytes))
    (λ h. same_local segment_at one_byte_at b bytes (λ zs. rw h refl) (one_byte_local (b ∷ bytes)))

true_skip : IsLocal (λ xs. Ok (true, skip xs))
true_skip = skip_local (λ xs. Ok (true, xs)) (pure_local true)

after_segment_local : IsLocal after_segment_at
unfolding after_segment_at
after_segment_local [] = nil_local after_segment_at refl
after_segment_local (b ∷ bytes) = either_way (eqb b comma)
    (λ h. cons_local after_segment_at (λ xs. Ok (true, skip xs)) b bytes (λ zs. rw h refl) (true_skip bytes))
    (λ h. either_way (eqb b close_angle)
    (λ i. cons_local after_segment_at (λ xs. expect close_angle xs >>= λ rest. Ok (false, rest)) b bytes (λ zs. rw (h, i) refl)
    (expect_local (λ rest. Ok (false, rest)) (pure_local false) close_angle bytes))
    (λ i. fault_local after_segment_at Syntax b bytes (λ zs. rw (h, i) refl)))

-- The reader of a segment and what follows it is local.
pub segment_step_local : (n : ℕ) → IsLocal (segment_step n)
unfolding segment_step
segment_step_local n =
    bind_local segment_at (λ s ys. after_segment_at (skip ys) >>= λ y. Ok ((s, y.0), y.1)) segment_local
    (λ s. skip_local (λ ys. after_segment_at ys >>= λ y. Ok ((s, y.0), y.1))
    (bind_local after_segment_at (λ m zs. Ok ((s, m), zs)) after_segment_local (λ m. pure_local {A = List ℕ × Bool} (s, m))))

-- parts one after another
module _ {B : Type 0} (step : ℕ → List ℕ → Read (List B × Bool)) (each : (n : ℕ) → IsLocal (step n)) where
  rest_local : (front : List B) (next : List ℕ → Read (List B)) → IsLocal next → (more : Bool) → IsLocal (series_rest front next more)
  rest_local front next l true = bind_local next (λ xs ys. Ok (front ++ xs, ys)) l (λ xs. pure_local (front ++ xs))
  rest_local front next l false = pure_local front

  none_local : (p : List ℕ → Read (List B)) → ((xs : List ℕ) → p xs ≡ syntax_fault xs) → IsLocal p
  none_local p h [] = nil_local p (h [])
  none_local p h (b ∷ bytes) = fault_local p Syntax b bytes (λ zs. h (b ∷ zs))

  series_local : (n : ℕ) → IsLocal (series_at step n)
  unfolding series_at
  series_local zero = none_local (series_at step zero) (λ xs. refl)
  series_local (suc n) =
      bind_local (step n) (λ x ys. series_rest x.0 (series_at step n) x.1 ys) (each n) (λ x. rest_local x.0 (series_at step n) (series_local n) x.1)

step_shorter : (n : ℕ) (xs : List ℕ) (x : List ℕ × Bool) (ys : List ℕ) → segment_step n xs ≡ Ok (x, ys) → length ys < length xs
unfolding segment_step
step_shorter n xs x ys e =
    let s = bind_ok (segment_at xs) (λ x. after_segment_at (skip x.1) >>= λ y. Ok ((x.0, y.0), y.1)) (x, ys) e in
    let u = bind_ok (after_segment_at (skip s.0.1)) (λ y. Ok ((s.0.0, y.0), y.1)) (x, ys) s.2 in
    let made : List ℕ × Bool = (s.0.0, u.0.0) in
    let p = pair_is made u.0.1 x ys u.2 in
    let t = (segment_taken xs).is s.0 s.1 in
    let begins = segment_begins t.text s.0.0 t.is in
    let gap = skipped s.0.1 in
    let less = no_longer after_segment_at (skip s.0.1) (after_segment_local (skip s.0.1)) u.0.0 u.0.1 u.1 in
    omega (
      arith,
      ap (λ (l : List ℕ). length l) t.whole,
      length-append t.text s.0.1,
      ap (λ (l : List ℕ). length l) begins.is,
      ap (λ (l : List ℕ). length l) gap.whole,
      length-append gap.blanks (skip s.0.1),
      less,
      ap (λ (l : List ℕ). length l) p.1,
    )

step_same : (n m : ℕ) (xs : List ℕ) → segment_step n xs ≡ segment_step m xs
unfolding segment_step
step_same n m xs = refl

rest_same : (k j : ℕ) (xs : List ℕ) (r : Read (List ℕ × Bool)) → segment_step k xs ≡ r → length xs ≤ suc k → length xs ≤ suc j
    → ((ys : List ℕ) → length ys ≤ k → length ys ≤ j → series_at segment_step k ys ≡ series_at segment_step j ys)
    → (r >>= λ x. series_rest x.0.0 (series_at segment_step k) x.0.1 x.1) ≡ (r >>= λ x. series_rest x.0.0 (series_at segment_step j) x.0.1 x.1)
rest_same k j xs (Err f) e h i later = refl
rest_same k j xs (Ok ((part, false), ys)) e h i later = refl
rest_same k j xs (Ok ((part, true), ys)) e h i later =
    let less = step_shorter k xs (part, true) ys e in rw (later ys (omega (arith, less)) (omega (arith, less))) refl

nil_step : (n : ℕ) → segment_step n [] ≡ syntax_fault []
unfolding segment_step segment_at number_at
nil_step n = refl

segments_same : (k j : ℕ) (xs : List ℕ) → length xs ≤ k → length xs ≤ j → series_at segment_step k xs ≡ series_at segment_step j xs
unfolding series_at
segments_same zero zero xs h i = refl
segments_same zero (suc j) [] h i = rw (nil_step j) refl
segments_same zero (suc j) (b ∷ xs) h i = absurd (omega arith)
segments_same (suc k) zero [] h i = rw (nil_step k) refl
segments_same (suc k) zero (b ∷ xs) h i = absurd (omega arith)
segments_same (suc k) (suc j) xs h i =
    rest_same k j xs (segment_step k xs) refl h i (segments_same k j)
    ∙ ap (λ (r : Read (List ℕ × Bool)). r >>= λ x. series_rest x.0.0 (series_at segment_step j) x.0.1 x.1) (step_same k j xs)

segments_local : IsLocal (λ xs. series_at segment_step (length xs) xs)
segments_local = fuel_local (series_at segment_step) (series_local segment_step segment_step_local) segments_same

bytes_local : IsLocal bytes_at
unfolding bytes_at
bytes_local [] = nil_local bytes_at refl
bytes_local (b ∷ bytes) = either_way (eqb b close_angle)
    (λ h. cons_local bytes_at (λ xs. expect close_angle xs >>= λ rest. Ok ([], rest)) b bytes (λ zs. rw h refl)
    (expect_local (λ rest. Ok ([], rest)) (pure_local []) close_angle bytes))
    (λ h. same_local bytes_at (λ xs. series_at segment_step (length xs) xs) b bytes (λ zs. rw h refl) (segments_local (b ∷ bytes)))

binary_local : IsLocal binary_at
binary_local =
    expect_local (λ rest. bytes_at (skip rest) >>= λ x. Ok (Binary x.0, x.1))
    (skip_local (λ rest. bytes_at rest >>= λ x. Ok (Binary x.0, x.1))
    (bind_local bytes_at (λ bs ys. Ok (Binary bs, ys)) bytes_local (λ bs. pure_local (Binary bs)))) open_angle

-- ---- tuples and lists

-- The reader of what follows an element is local.
pub after_element_local : (n : ℕ) → IsLocal (after_element_at n)
unfolding after_element_at
after_element_local n [] = nil_local (after_element_at n) refl
after_element_local n (b ∷ bytes) = either_way (eqb b comma)
    (λ h. either_way (eqb n 0)
    (λ i. fault_local (after_element_at n) TooWide b bytes (λ zs. rw (h, i) refl))
    (λ i. cons_local (after_element_at n) (λ xs. Ok (true, skip xs)) b bytes (λ zs. rw (h, i) refl) (true_skip bytes)))
    (λ h. either_way (eqb b close_brace) (λ i. done_local (after_element_at n) false b bytes (λ zs. rw (h, i) refl))
    (λ i. fault_local (after_element_at n) Syntax b bytes (λ zs. rw (h, i) refl)))

module _ (element : List ℕ → Read Tree) (local : IsLocal element) where
  element_step_local : (n : ℕ) → IsLocal (element_step element n)
  unfolding element_step
  element_step_local n =
      bind_local element (λ t ys. after_element_at n (skip ys) >>= λ y. Ok ((t ∷ [], y.0), y.1)) local
      (λ t. skip_local (λ ys. after_element_at n ys >>= λ y. Ok ((t ∷ [], y.0), y.1))
      (bind_local (after_element_at n) (λ m zs. Ok ((t ∷ [], m), zs)) (after_element_local n) (λ m. pure_local {A = List Tree × Bool} (t ∷ [], m))))

  elements_local : (most : ℕ) → IsLocal (elements_at element most)
  unfolding elements_at
  elements_local most [] = nil_local (elements_at element most) refl
  elements_local most (b ∷ bytes) = either_way (eqb b close_brace)
      (λ h. done_local (elements_at element most) [] b bytes (λ zs. rw h refl))
      (λ h. same_local (elements_at element most) (series_at (element_step element) most) b bytes (λ zs. rw h refl)
      (series_local (element_step element) element_step_local most (b ∷ bytes)))

  tuple_local : (most : ℕ) → IsLocal (λ xs. tuple_at element most (skip xs))
  tuple_local most =
      skip_local (tuple_at element most) (bind_local (elements_at element most) (λ ts ys. Ok (Tuple (row_of ts), ys)) (elements_local most)
      (λ ts. pure_local (Tuple (row_of ts))))

  module _ (other : List ℕ → Read Tree) (other_local : IsLocal other) where
    -- what follows a head, with the rest of the list
    module _ (head : Tree) (cells : List ℕ → Read Tree) (more : IsLocal cells) where
      bracket_local : (t : Tree) → IsLocal (λ ys. expect close_bracket (skip ys) >>= λ rest. Ok (Cons head t, rest))
      bracket_local t =
          skip_local (λ ys. expect close_bracket ys >>= λ rest. Ok (Cons head t, rest))
          (expect_local (λ rest. Ok (Cons head t, rest)) (pure_local (Cons head t)) close_bracket)

      abbrev follow : Result Next Fault → Read Tree
      follow r = r >>= λ next. cells_after head cells next

      abbrev after_last : Read Tree → Read Tree
      after_last r = r >>= λ x. expect close_bracket (skip x.1) >>= λ rest. Ok (Cons head x.0, rest)

      closed_end : (t : Tree) (r : Result (List ℕ) Fault) → follow (r >>= λ rest. Ok (Last t rest)) ≡ (r >>= λ rest. Ok (Cons head t, rest))
      closed_end t (Ok rest) = refl
      closed_end t (Err f) = refl

      closed_is : (r : Read Tree) → follow (closed r) ≡ after_last r
      closed_is (Err f) = refl
      closed_is (Ok x) = closed_end x.0 (expect close_bracket (skip x.1))

      last_tail_local : IsLocal (λ xs. after_last (other xs))
      last_tail_local = bind_local other (λ t ys. expect close_bracket (skip ys) >>= λ rest. Ok (Cons head t, rest)) other_local bracket_local

      inner_list_local : IsLocal (λ xs. after_last (cells xs))
      inner_list_local = bind_local cells (λ t ys. expect close_bracket (skip ys) >>= λ rest. Ok (Cons head t, rest)) more bracket_local

      inner_local : IsLocal (λ xs. follow (inner_at xs))
      inner_local [] = alike (λ xs. follow (inner_at xs)) (λ xs. after_last (cells xs)) refl (inner_list_local [])
      inner_local (b ∷ bytes) = either_way (eqb b close_bracket)
          (λ h. cons_local (λ xs. follow (inner_at xs)) (λ ys. expect close_bracket (skip ys) >>= λ rest. Ok (Cons head Nil, rest)) b bytes
          (λ zs. rw h (closed_end Nil (expect close_bracket (skip zs)))) (bracket_local Nil bytes))
          (λ h. same_local (λ xs. follow (inner_at xs)) (λ xs. after_last (cells xs)) b bytes (λ zs. rw h refl) (inner_list_local (b ∷ bytes)))

      tail_local : IsLocal (λ xs. follow (tail_at other xs))
      unfolding tail_at
      tail_local [] = alike (λ xs. follow (tail_at other xs)) (λ xs. after_last (other xs)) (closed_is (other [])) (last_tail_local [])
      tail_local (b ∷ bytes) = either_way (eqb b open_bracket)
          (λ h. cons_local (λ xs. follow (tail_at other xs)) (λ ys. follow (inner_at (skip ys))) b bytes (λ zs. rw h refl)
          (skip_local (λ ys. follow (inner_at ys)) inner_local bytes))
          (λ h. same_local (λ xs. follow (tail_at other xs)) (λ xs. after_last (other xs)) b bytes (λ zs. rw h (closed_is (other (b ∷ zs))))
          (last_tail_local (b ∷ bytes)))

      head_local : IsLocal (λ xs. cells (skip xs) >>= λ x. Ok (Cons head x.0, x.1))
      head_local =
          skip_local (λ xs. cells xs >>= λ x. Ok (Cons head x.0, x.1)) (bind_local cells (λ t ys. Ok (Cons head t, ys)) more (λ t. pure_local (Cons head t)))

      next_cell_local : IsLocal (λ xs. follow (next_at other xs))
      unfolding next_at
      next_cell_local [] = nil_local (λ xs. follow (next_at other xs)) refl
      next_cell_local (b ∷ bytes) = either_way (eqb b comma)
          (λ h. cons_local (λ xs. follow (next_at other xs)) (λ xs. cells (skip xs) >>= λ x. Ok (Cons head x.0, x.1)) b bytes
          (λ zs. rw h refl) (head_local bytes))
          (λ h. either_way (eqb b close_bracket)
          (λ i. done_local (λ xs. follow (next_at other xs)) (Cons head Nil) b bytes (λ zs. rw (h, i) refl))
          (λ i. either_way (eqb b vertical_bar)
          (λ j. cons_local (λ xs. follow (next_at other xs)) (λ ys. follow (tail_at other (skip ys))) b bytes (λ zs. rw (h, i, j) refl)
          (skip_local (λ ys. follow (tail_at other ys)) tail_local bytes))
          (λ j. fault_local (λ xs. follow (next_at other xs)) Syntax b bytes (λ zs. rw (h, i, j) refl))))

-- No more bytes stand behind the blanks than with them.
pub skip_shorter : (xs : List ℕ) → length (skip xs) ≤ length xs
skip_shorter xs = let gap = skipped xs in omega (arith, ap (λ (l : List ℕ). length l) gap.whole, length-append gap.blanks (skip xs))

-- at how many bytes a further head begins
abbrev left_of : Next → ℕ
left_of (Head ys) = length ys
left_of (Inner ys) = length ys
left_of (Last t ys) = 0

closed_left : (r : Read Tree) (next : Next) → closed r ≡ Ok next → left_of next ≡ 0
closed_left (Err f) next e = absurd cc
closed_left (Ok x) next e =
    let s = bind_ok (expect close_bracket (skip x.1)) (λ rest. Ok (Last x.0 rest)) next e in
    ap left_of (sym (ok_is (Last x.0 s.0) next s.2))

inner_left : (xs : List ℕ) (next : Next) → inner_at xs ≡ Ok next → left_of next ≤ length xs
inner_left [] next e = omega (arith, ap left_of (ok_is (Inner []) next e))
inner_left (b ∷ xs) next e = either_way (eqb b close_bracket)
    (λ h. omega (arith, closed_left (Ok (Nil, xs)) next (let k : inner_at (b ∷ xs) ≡ closed (Ok (Nil, xs)) = rw h refl in sym k ∙ e)))
    (λ h. let k : inner_at (b ∷ xs) ≡ Ok (Inner (b ∷ xs)) = rw h refl in omega (arith, ap left_of (ok_is (Inner (b ∷ xs)) next (sym k ∙ e))))

tail_left : (other : List ℕ → Read Tree) (xs : List ℕ) (next : Next) → tail_at other xs ≡ Ok next → left_of next ≤ length xs
unfolding tail_at
tail_left other [] next e = omega (arith, closed_left (other []) next e)
tail_left other (b ∷ xs) next e = either_way (eqb b open_bracket)
    (λ h. let k : tail_at other (b ∷ xs) ≡ inner_at (skip xs) = rw h refl in omega (arith, inner_left (skip xs) next (sym k ∙ e), skip_shorter xs))
    (λ h. let k : tail_at other (b ∷ xs) ≡ closed (other (b ∷ xs)) = rw h refl in omega (arith, closed_left (other (b ∷ xs)) next (sym k ∙ e)))

next_left : (other : List ℕ → Read Tree) (xs : List ℕ) (next : Next) → next_at other xs ≡ Ok next → left_of next ≤ length xs
unfolding next_at
next_left other [] next e = absurd cc
next_left other (b ∷ xs) next e = either_way (eqb b comma)
    (λ h. let k : next_at other (b ∷ xs) ≡ Ok (Head (skip xs)) = rw h refl in omega
    (arith, ap left_of (ok_is (Head (skip xs)) next (sym k ∙ e)), skip_shorter xs))
    (λ h. either_way (eqb b close_bracket)
    (λ i. let k : next_at other (b ∷ xs) ≡ Ok (Last Nil xs) = rw (h, i) refl in omega (arith, ap left_of (ok_is (Last Nil xs) next (sym k ∙ e))))
    (λ i. either_way (eqb b vertical_bar)
    (λ j. let k : next_at other (b ∷ xs) ≡ tail_at other (skip xs) = rw (h, i, j) refl in omega
    (arith, tail_left other (skip xs) next (sym k ∙ e), skip_shorter xs))
    (λ j. let k : next_at other (b ∷ xs) ≡ syntax_fault (b ∷ xs) = rw (h, i, j) refl in let m = sym k ∙ e in absurd cc)))

module _ (limits : Limits) (levels : ℕ) (element other : List ℕ → Read Tree) (nil : element [] ≡ syntax_fault []) (local : IsLocal element)
    (other_local : IsLocal other)
    (strict : (xs : List ℕ) (t : Tree) (ys : List ℕ) → element xs ≡ Ok (t, ys) → length ys < length xs) where
  step_regroup : (head : Tree) (cells : List ℕ → Read Tree) (r : Result Next Fault)
      → (◌>>=◌ {A = Tree × Next} {B = Tree × List ℕ} (r >>= λ next. Ok (head, next)) (λ x. cells_after x.0 cells x.1)) ≡
      (◌>>=◌ {A = Next} {B = Tree × List ℕ} r (λ next. cells_after head cells next))
  step_regroup head cells (Ok next) = refl
  step_regroup head cells (Err f) = refl

  cells_regroup : (cells : List ℕ → Read Tree) (r : Read Tree)
      → (◌>>=◌ {A = Tree × Next} {B = Tree × List ℕ} (r >>= λ x. next_at other (skip x.1) >>= λ next. Ok (x.0, next)) (λ x. cells_after x.0 cells x.1)) ≡
      (r >>= λ x. ◌>>=◌ {A = Next} {B = Tree × List ℕ} (next_at other (skip x.1)) (λ next. cells_after x.0 cells next))
  cells_regroup cells (Ok x) = step_regroup x.0 cells (next_at other (skip x.1))
  cells_regroup cells (Err f) = refl

  cells_is : (n : ℕ) (xs : List ℕ)
      → cells_at element other (suc n) xs ≡ (element xs >>= λ x. ◌>>=◌ {A = Next} {B = Tree × List ℕ} (next_at other (skip x.1))
      (λ next. cells_after x.0 (cells_at element other n) next))
  unfolding cells_at cell_step
  cells_is n xs = cells_regroup (cells_at element other n) (element xs)

  no_cells : IsLocal (cells_at element other zero)
  unfolding cells_at
  no_cells [] = nil_local (cells_at element other zero) refl
  no_cells (b ∷ bytes) = fault_local (cells_at element other zero) Syntax b bytes (λ zs. refl)

  cells_local : (n : ℕ) → IsLocal (cells_at element other n)
  cells_local zero = no_cells
  cells_local (suc n) =
      equal_local (cells_at element other (suc n))
      (λ xs. element xs >>= λ x. ◌>>=◌ {A = Next} {B = Tree × List ℕ} (next_at other (skip x.1))
      (λ next. cells_after x.0 (cells_at element other n) next)) (cells_is n)
      (bind_local element (λ t ys. ◌>>=◌ {A = Next} {B = Tree × List ℕ} (next_at other (skip ys)) (λ next. cells_after t (cells_at element other n) next)) local
      (λ t. skip_local (λ ys. ◌>>=◌ {A = Next} {B = Tree × List ℕ} (next_at other ys) (λ next. cells_after t (cells_at element other n) next))
      (next_cell_local element local other other_local t (cells_at element other n) (cells_local n))))

  after_next_same : (head : Tree) (k j : ℕ) (xs : List ℕ) (r : Result Next Fault) → next_at other xs ≡ r → length xs ≤ k → length xs ≤ j
      → ((ys : List ℕ) → length ys ≤ k → length ys ≤ j → cells_at element other k ys ≡ cells_at element other j ys)
      → (◌>>=◌ {A = Next} {B = Tree × List ℕ} r (λ next. cells_after head (cells_at element other k) next)) ≡
      (◌>>=◌ {A = Next} {B = Tree × List ℕ} r (λ next. cells_after head (cells_at element other j) next))
  after_next_same head k j xs (Err f) e h i later = refl
  after_next_same head k j xs (Ok (Last t ys)) e h i later = refl
  after_next_same head k j xs (Ok (Head ys)) e h i later =
      let less = next_left other xs (Head ys) e in rw (later ys (omega (arith, less)) (omega (arith, less))) refl
  after_next_same head k j xs (Ok (Inner ys)) e h i later =
      let less = next_left other xs (Inner ys) e in rw (later ys (omega (arith, less)) (omega (arith, less))) refl

  after_head_same : (k j : ℕ) (xs : List ℕ) (r : Read Tree) → element xs ≡ r → length xs ≤ suc k → length xs ≤ suc j
      → ((ys : List ℕ) → length ys ≤ k → length ys ≤ j → cells_at element other k ys ≡ cells_at element other j ys)
      → (r >>= λ x. ◌>>=◌ {A = Next} {B = Tree × List ℕ} (next_at other (skip x.1)) (λ next. cells_after x.0 (cells_at element other k) next)) ≡
      (r >>= λ x. ◌>>=◌ {A = Next} {B = Tree × List ℕ} (next_at other (skip x.1)) (λ next. cells_after x.0 (cells_at element other j) next))
  after_head_same k j xs (Err f) e h i later = refl
  after_head_same k j xs (Ok (t, ys)) e h i later =
      let less = strict xs t ys e in
      let gap = skipped ys in
      let short : length (skip ys) ≤ length ys = omega (arith, ap (λ (l : List ℕ). length l) gap.whole, length-append gap.blanks (skip ys)) in
      after_next_same t k j (skip ys) (next_at other (skip ys)) refl (omega (arith, less, short)) (omega (arith, less, short)) later

  cells_nil : (n : ℕ) → cells_at element other (suc n) [] ≡ syntax_fault []
  cells_nil n = cells_is n [] ∙ rw nil refl

  cells_zero : cells_at element other zero [] ≡ syntax_fault []
  unfolding cells_at
  cells_zero = refl

  cells_same : (k j : ℕ) (xs : List ℕ) → length xs ≤ k → length xs ≤ j → cells_at element other k xs ≡ cells_at element other j xs
  cells_same zero zero xs h i = refl
  cells_same zero (suc j) [] h i = cells_zero ∙ sym (cells_nil j)
  cells_same zero (suc j) (b ∷ xs) h i = absurd (omega arith)
  cells_same (suc k) zero [] h i = cells_nil k ∙ sym cells_zero
  cells_same (suc k) zero (b ∷ xs) h i = absurd (omega arith)
  cells_same (suc k) (suc j) xs h i = cells_is k xs ∙ after_head_same k j xs (element xs) refl h i (cells_same k j) ∙ sym (cells_is j xs)

  list_local : IsLocal (list_at element other)
  unfolding list_at
  list_local [] = nil_local (list_at element other) refl
  list_local (b ∷ bytes) = either_way (eqb b close_bracket)
      (λ h. done_local (list_at element other) Nil b bytes (λ zs. rw h refl))
      (λ h. same_local (list_at element other) (λ xs. cells_at element other (length xs) xs) b bytes (λ zs. rw h refl)
      (fuel_local (cells_at element other) cells_local cells_same (b ∷ bytes)))

  bracketed_local : other [] ≡ syntax_fault [] → IsLocal (bracketed (list_at element other) other)
  bracketed_local e [] = nil_local (bracketed (list_at element other) other) e
  bracketed_local e (b ∷ bytes) = either_way (eqb b open_bracket)
      (λ h. cons_local (bracketed (list_at element other) other) (λ xs. list_at element other (skip xs)) b bytes (λ zs. rw h refl)
      (skip_local (list_at element other) list_local bytes))
      (λ h. same_local (bracketed (list_at element other) other) other b bytes (λ zs. rw h refl) (other_local (b ∷ bytes)))

-- ---- terms

quoted_local : (most : ℕ) → IsLocal (quoted_at most)
quoted_local most =
    bind_local (characters_at AtomTooLong single_quote most_point most) (λ cs ys. Ok (Atom (encode_utf8_all cs), ys))
    (characters_local AtomTooLong single_quote most_point most)
    (λ cs. pure_local (Atom (encode_utf8_all cs)))

some_points_local : IsLocal string_points_at
some_points_local =
    bind_local (string_at most_point) (λ cs ys. Ok (points cs, ys)) (string_local most_point (omega arith) (λ h. refl)) (λ cs. pure_local (points cs))

points_local : (levels : ℕ) → IsLocal (points_at levels)
unfolding points_at
points_local zero [] = nil_local (points_at zero) refl
points_local zero (b ∷ bytes) = either_way (eqb b double_quote)
    (λ h. done_local (points_at zero) Nil b bytes (λ zs. rw h refl))
    (λ h. either_way (begins_character double_quote most_point b) (λ i. fault_local (points_at zero) TooDeep b bytes (λ zs. rw (i, h) refl))
    (λ i. fault_local (points_at zero) Syntax b bytes (λ zs. rw (i, h) refl)))
points_local (suc levels) bytes = some_points_local bytes

atom_local : (most : ℕ) → IsLocal (atom_at most)
atom_local most = bind_local (name_at most) (λ n ys. Ok (Atom n, ys)) (name_local most) (λ n. pure_local (Atom n))

integer_term_local : IsLocal integer_term_at
integer_term_local = bind_local integer_at (λ n ys. Ok (Integer n, ys)) integer_local (λ n. pure_local (Integer n))

nil_other : (limits : Limits) (element : List ℕ → Read Tree) (levels : ℕ) → other_at limits element levels [] ≡ syntax_fault []
unfolding other_at integer_at
nil_other limits element levels = refl

other_local : (limits : Limits) (element : List ℕ → Read Tree) (levels : ℕ) → IsLocal element → IsLocal (other_at limits element levels)
unfolding other_at
other_local limits element levels l [] = nil_local (other_at limits element levels) (nil_other limits element levels)
other_local limits element levels l (b ∷ bytes) =
    let p = other_at limits element levels in
    either_way (eqb b open_brace)
    (λ h. cons_local p (λ xs. tuple_at element limits.elements (skip xs)) b bytes (λ zs. rw h refl) (tuple_local element l limits.elements bytes))
    (λ h. either_way (eqb b double_quote)
    (λ i. cons_local p (points_at levels) b bytes (λ zs. rw (h, i) refl) (points_local levels bytes))
    (λ i. either_way (eqb b single_quote)
    (λ j. cons_local p (quoted_at limits.characters) b bytes (λ zs. rw (h, i, j) refl) (quoted_local limits.characters bytes))
    (λ j. either_way (eqb b open_angle)
    (λ k. cons_local p binary_at b bytes (λ zs. rw (h, i, j, k) refl) (binary_local bytes))
    (λ k. either_way (is_ascii_lowercase b)
    (λ m. same_local p (atom_at limits.characters) b bytes (λ zs. rw (h, i, j, k, m) refl) (atom_local limits.characters (b ∷ bytes)))
    (λ m. same_local p integer_term_at b bytes (λ zs. rw (h, i, j, k, m) refl) (integer_term_local (b ∷ bytes)))))))

deep_local : IsLocal too_deep
deep_local [] = nil_local too_deep refl
deep_local (b ∷ bytes) =
    either_way (begins_term b) (λ h. fault_local too_deep TooDeep b bytes (λ zs. rw h refl)) (λ h. fault_local too_deep Syntax b bytes (λ zs. rw h refl))

nil_term : (limits : Limits) (levels : ℕ) → term_at limits levels [] ≡ syntax_fault []
unfolding term_at
nil_term limits zero = refl
nil_term limits (suc levels) = nil_other limits (term_at limits levels) levels

term_strict : (limits : Limits) (levels : ℕ) (xs : List ℕ) (t : Tree) (ys : List ℕ) → term_at limits levels xs ≡ Ok (t, ys) → length ys < length xs
term_strict limits levels xs t ys e =
    let r = (term_taken limits levels xs).is (t, ys) e in
    let some = text_some limits levels r.text t r.is in
    omega (arith, some, ap (λ (l : List ℕ). length l) r.whole, length-append r.text ys)

-- The reader of terms is local.
pub term_local : (limits : Limits) (levels : ℕ) → IsLocal (term_at limits levels)
unfolding term_at
term_local limits zero = deep_local
term_local limits (suc levels) =
    let element = term_at limits levels in
    let l = term_local limits levels in
    bracketed_local limits levels element (other_at limits element levels) (nil_term limits levels) l (other_local limits element levels l)
    (term_strict limits levels) (nil_other limits element levels)
