-- The printed text of a term is a text of it.
use Rattle.std.proofs.Common.{◌≡◌, ◌≢◌, ℕ, zero, suc, ◌^◌, ◌<◌, ◌≤◌, Bool, true, false, cond, not, ltb, eqb, ◌||◌, List, [], ◌∷◌, ◌++◌, flat_map, length, ℤ, pos, negsuc, neg_ℤ, refl, sym, ap, subst, ◌∙◌, append_assoc, arith, ◌⊎◌, inl, inr, ⊎_elim}
use Rattle.std.specs.Prelude.{FitsSigned, codes, decimal}
use Rattle.std.proofs.lemmas.Bool.{eqb-true, eqb-false}
use Rattle.std.proofs.lemmas.Bool.Decides.{nat_tests}
use Rattle.std.proofs.lemmas.Fmt.{decimal_is_IsNumeral, digits_is_IsNumeral, hex_one_digit, hex_two_digits}
use Rattle.std.proofs.lemmas.Str.{chars-IsAscii, scalars-chars, encodes-chars}
use Rattle.std.proofs.lemmas.List.Concat.{flat_map-cons}
use Rattle.std.specs.Int.{w64}
use Rattle.std.specs.List.{list_all}
use Rattle.std.specs.Fmt.{digits, signed_decimal}
use Rattle.std.specs.Char.{is_ascii, is_control, is_ascii_lowercase, encode_utf8, IsScalar}
use Rattle.std.specs.Str.{chars, all_scalars, IsUtf8}
use Rattle.ca_term.specs.Tree.{Tree, Row, Integer, Atom, Tuple, Nil, Cons, Binary, Ends, More, size, depth, row_depth, IsNarrow, IsNarrowRow, AreBytes}
use Rattle.ca_text.specs.Bytes.{backslash, carriage_return, close_angle, close_brace, comma, double_quote, letter_n, letter_r, letter_t, line_feed, minus_sign, open_angle, single_quote, tab}
use Rattle.ca_text.specs.Text.{has_plain_form, is_name_char, is_plain_atom, is_reserved, code_escape, escaped_char, quoted, atom_text, is_printable, escaped_byte, binary_text, bar_text, text_of, tail_text, row_text, more_text}
use Rattle.ca_text.specs.Grammar.{standard, IsInteger, FromZero, Negative, IsCharacter, Itself, Escaped, Hexadecimal, AreCharacters, Closed, OneMore, IsAtom, Plain, Quoted, IsSegment, OneByte, Shown, AreSegments, LastSegment, MoreSegments, IsTextOf, AnInteger, AnAtom, NoElements, ATuple, ANil, AList, NoBytes, ABinary, AreElements, LastElement, MoreElements, AreCells, LastCell, MoreCells, LastTail}
use Rattle.ca_text.proofs.Tools.{both, chosen, either}
use Rattle.ca_term.specs.declared.bounds.TheConstants.{MOST_CODE_POINTS, MOST_ELEMENTS}
use Rattle.ca_text.specs.declared.bounds.TheConstants.{MOST_LEVELS}
use Rattle.ca_text.proofs.Names.{name_ascii}

integer_is : (n : ℤ) → FitsSigned w64 n → IsInteger (signed_decimal n) n
integer_is (pos n) fits =
    let r = decimal_is_IsNumeral n (omega (arith, fits)) in
    subst (λ x. IsInteger (decimal n) (pos x)) r.1 (FromZero (decimal n) r.0 (omega (arith, r.1, fits)))
integer_is (negsuc n) fits =
    let r = decimal_is_IsNumeral (suc n) (omega (arith, fits)) in
    subst (λ x. IsInteger (minus_sign ∷ decimal (suc n)) (neg_ℤ (pos x))) r.1 (Negative (decimal (suc n)) r.0 (omega (arith, r.1, fits)))

hex_few : (c : ℕ) → is_control c ≡ true → length (digits 16 false c) ≤ 6
hex_few c h =
    let small : c < 256 = grind (arith, nat_tests) in
    ⊎_elim
    (λ t. let low : c < 16 = grind (arith, nat_tests) in rw (hex_one_digit false c low) (omega arith))
    (λ t. let high : 16 ≤ c = grind (arith, nat_tests) in rw (hex_two_digits false c high small) (omega arith))
    (chosen (ltb c 16) true false (cond (ltb c 16) true false) refl)

code_is : (c : ℕ) → is_control c ≡ true → IsCharacter single_quote (code_escape c) c
code_is c h =
    let small : c < 16 ^ 64 = grind (arith, nat_tests) in
    let scalar : IsScalar c = grind (arith, nat_tests) in
    let r = digits_is_IsNumeral 16 false (omega arith) (omega arith) c small in
    subst (λ x. IsCharacter single_quote (code_escape c) x) r.1 (Hexadecimal single_quote (digits 16 false c) r.0 (hex_few c h) (rw r.1 scalar))

escaped_is : (c : ℕ) → IsScalar c → IsCharacter single_quote (escaped_char c) c
unfolding escaped_char
escaped_is c is =
    ⊎_elim (λ h. let e = eqb-true c backslash h.0 in rw (h.0, e) (Escaped single_quote backslash backslash refl))
    (λ h. ⊎_elim (λ i. let e = eqb-true c single_quote i.0 in rw (h.0, i.0, e) (Escaped single_quote single_quote single_quote refl))
    (λ i. ⊎_elim (λ j. let e = eqb-true c line_feed j.0 in rw (h.0, i.0, j.0, e) (Escaped single_quote letter_n line_feed refl))
    (λ j. ⊎_elim (λ k. let e = eqb-true c carriage_return k.0 in rw (h.0, i.0, j.0, k.0, e) (Escaped single_quote letter_r carriage_return refl))
    (λ k. ⊎_elim (λ l. let e = eqb-true c tab l.0 in rw (h.0, i.0, j.0, k.0, l.0, e) (Escaped single_quote letter_t tab refl))
    (λ l. ⊎_elim (λ m. rw (h.0, i.0, j.0, k.0, l.0, m.0) (code_is c m.0))
    (λ m. rw (h.0, i.0, j.0, k.0, l.0, m.0) (Itself single_quote c is (eqb-false c single_quote i.0) (eqb-false c backslash h.0) (eqb-false c line_feed j.0)))
    (chosen (is_control c) true false (cond (is_control c) true false) refl))
    (chosen (eqb c tab) true false (cond (eqb c tab) true false) refl))
    (chosen (eqb c carriage_return) true false (cond (eqb c carriage_return) true false) refl))
    (chosen (eqb c line_feed) true false (cond (eqb c line_feed) true false) refl))
    (chosen (eqb c single_quote) true false (cond (eqb c single_quote) true false) refl))
    (chosen (eqb c backslash) true false (cond (eqb c backslash) true false) refl)

-- code points that pass a test, each written as a character, and the closing quote
characters_are : (close : ℕ) (write : ℕ → List ℕ) (test : ℕ → Bool) → ((c : ℕ) → test c ≡ true → IsCharacter close (write c) c) → (cs : List ℕ)
    → list_all test cs ≡ true → AreCharacters close (flat_map write cs ++ close ∷ []) cs
characters_are close write test h [] all = Closed close
characters_are close write test h (c ∷ cs) all =
    let t = both (test c) (list_all test cs) all in
    let whole : flat_map write (c ∷ cs) ++ close ∷ [] ≡ write c ++ (flat_map write cs ++ close ∷ []) =
    ap (λ x. x ++ close ∷ []) (flat_map-cons write c cs) ∙ append_assoc (write c) (flat_map write cs) (close ∷ []) in
    subst (λ x. AreCharacters close x (c ∷ cs)) (sym whole)
    (OneMore close c (write c) (flat_map write cs ++ close ∷ []) cs (h c t.0) (characters_are close write test h cs t.1))

scalars_all : (cs : List ℕ) → all_scalars cs ≡ true → list_all (λ c. all_scalars (c ∷ [])) cs ≡ true
scalars_all [] h = refl
scalars_all (c ∷ cs) h = let t = both _ (all_scalars cs) h in rw (t.0, scalars_all cs t.1) refl

quoted_is : (text : List ℕ) → IsUtf8 text → length (chars text) ≤ MOST_CODE_POINTS → IsAtom standard (quoted text) text
unfolding quoted
quoted_is text utf8 few =
    let are = characters_are single_quote escaped_char (λ c. all_scalars (c ∷ [])) (λ c h. escaped_is c (both _ true h).0) (chars text)
    (scalars_all (chars text) (scalars-chars text utf8)) in
    subst (λ x. IsAtom standard (single_quote ∷ flat_map escaped_char (chars text) ++ single_quote ∷ []) x) (encodes-chars text utf8)
    (Quoted standard (flat_map escaped_char (chars text) ++ single_quote ∷ []) (chars text) are few)

plain_names : (text : List ℕ) → has_plain_form text ≡ true → list_all is_name_char text ≡ true
plain_names [] h = absurd cc
plain_names (c ∷ cs) h =
    let t = both (is_ascii_lowercase c) (list_all is_name_char cs) h in
    let low = t.0 in
    let one : is_name_char c ≡ true = grind (arith, nat_tests) in
    rw (one, t.1) refl

atom_is : (text : List ℕ) → IsUtf8 text → length (chars text) ≤ MOST_CODE_POINTS → IsAtom standard (atom_text text) text
unfolding atom_text
atom_is text utf8 few =
    ⊎_elim
    (λ h. let form = (both (has_plain_form text) (not (is_reserved text)) h.0).0 in
    let same = chars-IsAscii text (name_ascii text (plain_names text form)) in
    rw h.0 (Plain standard text form (omega (arith, few, ap (λ (x : List ℕ). length x) same))))
    (λ h. rw h.0 (quoted_is text utf8 few))
    (chosen (is_plain_atom text) true false (cond (is_plain_atom text) true false) refl)

-- ---- binaries

byte_is : (b : ℕ) → is_printable b ≡ true → IsCharacter double_quote (escaped_byte b) b
unfolding escaped_byte encode_utf8
byte_is b h =
    ⊎_elim
    (λ t. let e : (b ≡ double_quote) ⊎ (b ≡ backslash) = ⊎_elim (λ u. inl (eqb-true b double_quote u)) (λ u. inr (eqb-true b backslash u))
    (either (eqb b double_quote) (eqb b backslash) t.0) in
    rw t.0 (⊎_elim (λ u. rw u (Escaped double_quote double_quote double_quote refl)) (λ u. rw u (Escaped double_quote backslash backslash refl)) e))
    (λ t. let scalar : IsScalar b = grind (arith, nat_tests) in
    let one : ltb b 128 ≡ true = grind (arith, nat_tests) in
    let spelled : encode_utf8 b ≡ b ∷ [] = rw one refl in
    let apart : (b ≢ double_quote) × (b ≢ backslash) × (b ≢ line_feed) =
    (λ e. grind (arith, nat_tests), λ e. grind (arith, nat_tests), λ e. grind (arith, nat_tests)) in
    rw t.0 (subst (λ x. IsCharacter double_quote x b) spelled (Itself double_quote b scalar apart.0 apart.1 apart.2)))
    (chosen (eqb b double_quote || eqb b backslash) true false (cond (eqb b double_quote || eqb b backslash) true false) refl)

printable_ascii : (bs : List ℕ) → list_all is_printable bs ≡ true → list_all is_ascii bs ≡ true
printable_ascii [] h = refl
printable_ascii (b ∷ bs) h =
    let t = both (is_printable b) (list_all is_printable bs) h in
    let low = t.0 in
    let one : is_ascii b ≡ true = grind (arith, nat_tests) in
    rw (one, printable_ascii bs t.1) refl

shown_is : (bs : List ℕ) → list_all is_printable bs ≡ true
    → AreSegments (double_quote ∷ flat_map escaped_byte bs ++ double_quote ∷ close_angle ∷ close_angle ∷ []) bs
shown_is bs h =
    let are = characters_are double_quote escaped_byte is_printable byte_is bs h in
    let last = LastSegment (double_quote ∷ flat_map escaped_byte bs ++ double_quote ∷ []) [] bs
    (Shown (flat_map escaped_byte bs ++ double_quote ∷ []) bs are (printable_ascii bs h)) refl in
    subst (λ x. AreSegments (double_quote ∷ x) bs) (append_assoc (flat_map escaped_byte bs) (double_quote ∷ []) (close_angle ∷ close_angle ∷ [])) last

number_is : (b : ℕ) → b < 256 → IsSegment (decimal b) (b ∷ [])
number_is b h =
    let r = decimal_is_IsNumeral b (omega (arith, h)) in
    subst (λ x. IsSegment (decimal b) (x ∷ [])) r.1 (OneByte (decimal b) r.0 (omega (arith, r.1, h)))

abbrev with_comma : ℕ → List ℕ
with_comma n = codes "," ++ decimal n

numbers_are : (b : ℕ) (bs : List ℕ) → AreBytes (b ∷ bs) → AreSegments (decimal b ++ (flat_map with_comma bs ++ close_angle ∷ close_angle ∷ [])) (b ∷ bs)
numbers_are b [] fits = LastSegment (decimal b) [] (b ∷ []) (number_is b (fits 0)) refl
numbers_are b (c ∷ cs) fits =
    let later = numbers_are c cs (λ k. fits (suc k)) in
    let more = MoreSegments (decimal b) [] [] (decimal c ++ (flat_map with_comma cs ++ close_angle ∷ close_angle ∷ [])) (b ∷ []) (c ∷ cs)
    (number_is b (fits 0)) refl refl later in
    let whole : flat_map with_comma (c ∷ cs) ++ close_angle ∷ close_angle ∷ [] ≡ comma ∷
    (decimal c ++ (flat_map with_comma cs ++ close_angle ∷ close_angle ∷ [])) =
    ap (λ x. x ++ close_angle ∷ close_angle ∷ []) (flat_map-cons with_comma c cs) ∙ append_assoc (with_comma c) (flat_map with_comma cs)
    (close_angle ∷ close_angle ∷ []) in
    subst (λ x. AreSegments (decimal b ++ x) (b ∷ c ∷ cs)) (sym whole) more

binary_is : (levels : ℕ) (bs : List ℕ) → AreBytes bs → IsTextOf standard (suc levels) (binary_text bs) (Binary bs)
unfolding binary_text
binary_is levels [] fits = NoBytes standard levels [] refl
binary_is levels (b ∷ bs) fits =
    ⊎_elim
    (λ h. let whole : (codes "<<\"" ++ flat_map escaped_byte (b ∷ bs)) ++ codes "\">>" ≡ open_angle ∷ open_angle ∷ double_quote ∷
    (flat_map escaped_byte (b ∷ bs) ++ double_quote ∷ close_angle ∷ close_angle ∷ []) = refl in
    rw h.0 (subst (λ x. IsTextOf standard (suc levels) x (Binary (b ∷ bs))) (sym whole)
    (ABinary standard levels [] (double_quote ∷ flat_map escaped_byte (b ∷ bs) ++ double_quote ∷ close_angle ∷ close_angle ∷ []) (b ∷ bs) refl
    (shown_is (b ∷ bs) h.0))))
    (λ h. let whole : ((codes "<<" ++ decimal b) ++ flat_map with_comma bs) ++ codes ">>" ≡ open_angle ∷ open_angle ∷
    (decimal b ++ (flat_map with_comma bs ++ close_angle ∷ close_angle ∷ [])) =
    ap (λ x. open_angle ∷ open_angle ∷ x) (append_assoc (decimal b) (flat_map with_comma bs) (close_angle ∷ close_angle ∷ [])) in
    rw h.0 (subst (λ x. IsTextOf standard (suc levels) x (Binary (b ∷ bs))) (sym whole)
    (ABinary standard levels [] (decimal b ++ (flat_map with_comma bs ++ close_angle ∷ close_angle ∷ [])) (b ∷ bs) refl (numbers_are b bs fits))))
    (chosen (list_all is_printable (b ∷ bs)) true false (cond (list_all is_printable (b ∷ bs)) true false) refl)

-- ---- terms

barred_is : (levels : ℕ) (head tail : Tree) (text last : List ℕ) → IsTextOf standard levels text head → IsTextOf standard (suc levels) last tail
    → AreCells standard levels (text ++ bar_text last) (Cons head tail)
barred_is levels head tail text last is end =
    LastTail standard levels text [] [] last [] head tail is refl refl end refl

tuple_is : (levels : ℕ) (row : Row) → size row ≤ MOST_ELEMENTS
    → ((t : Tree) (others : Row) → row ≡ More t others → AreElements standard levels (row_text row ++ close_brace ∷ []) row)
    → IsTextOf standard (suc levels) (codes "{" ++ row_text row ++ codes "}") (Tuple row)
tuple_is levels Ends few are = NoElements standard levels [] refl
tuple_is levels (More t row) few are = ATuple standard levels [] (row_text (More t row) ++ close_brace ∷ []) (More t row) refl (are t row refl) few

mutual
  text_is : (t : Tree) (levels : ℕ) → IsNarrow t → depth t ≤ levels → IsTextOf standard levels (text_of t) t
  text_is (Integer n) zero narrow shallow = absurd (omega (arith, shallow))
  text_is (Integer n) (suc levels) narrow shallow = AnInteger standard levels (signed_decimal n) n (integer_is n narrow)
  text_is (Atom text) zero narrow shallow = absurd (omega (arith, shallow))
  text_is (Atom text) (suc levels) narrow shallow = AnAtom standard levels (atom_text text) text (atom_is text narrow.0 narrow.1)
  text_is (Tuple row) zero narrow shallow = absurd (omega (arith, shallow))
  text_is (Tuple row) (suc levels) narrow shallow = tuple_is levels row narrow.0 (λ t others e. row_is row levels narrow.1 (omega (arith, shallow)) t others e)
  text_is Nil zero narrow shallow = absurd (omega (arith, shallow))
  text_is Nil (suc levels) narrow shallow = ANil standard levels [] refl
  text_is (Cons head tail) zero narrow shallow = absurd (omega (arith, shallow))
  text_is (Cons head tail) (suc levels) narrow shallow =
      AList standard levels [] (text_of head ++ tail_text tail) (Cons head tail) refl
      (cells_are tail levels head (text_of head) (text_is head levels narrow.0 (omega (arith, shallow))) narrow.1 (omega (arith, shallow)))
  text_is (Binary bytes) zero narrow shallow = absurd (omega (arith, shallow))
  text_is (Binary bytes) (suc levels) narrow shallow = binary_is levels bytes narrow

  -- a row that isn't empty
  row_is : (row : Row) (levels : ℕ) → IsNarrowRow row → row_depth row ≤ levels → (t : Tree) (others : Row) → row ≡ More t others
      → AreElements standard levels (row_text row ++ close_brace ∷ []) row
  row_is Ends levels narrow shallow t others e = absurd cc
  row_is (More u row) levels narrow shallow t others e =
      more_are row levels u (text_of u) (text_is u levels narrow.0 (omega (arith, shallow))) narrow.1 (omega (arith, shallow))

  more_are : (row : Row) (levels : ℕ) (t : Tree) (text : List ℕ) → IsTextOf standard levels text t → IsNarrowRow row → row_depth row ≤ levels
      → AreElements standard levels ((text ++ more_text row) ++ close_brace ∷ []) (More t row)
  more_are Ends levels t text is narrow shallow =
      subst (λ x. AreElements standard levels x (More t Ends)) (sym (append_assoc text [] (close_brace ∷ []))) (LastElement standard levels text [] t is refl)
  more_are (More u row) levels t text is narrow shallow =
      let later = more_are row levels u (text_of u) (text_is u levels narrow.0 (omega (arith, shallow))) narrow.1 (omega (arith, shallow)) in
      subst (λ x. AreElements standard levels x (More t (More u row))) (sym (append_assoc text (more_text (More u row)) (close_brace ∷ [])))
      (MoreElements standard levels text [] [] ((text_of u ++ more_text row) ++ close_brace ∷ []) t (More u row) is refl refl later)

  cells_are : (tail : Tree) (levels : ℕ) (head : Tree) (text : List ℕ) → IsTextOf standard levels text head → IsNarrow tail → depth tail ≤ suc levels
      → AreCells standard levels (text ++ tail_text tail) (Cons head tail)
  cells_are (Integer n) levels head text is narrow shallow =
      barred_is levels head (Integer n) text (signed_decimal n) is (AnInteger standard levels (signed_decimal n) n (integer_is n narrow))
  cells_are (Atom name) levels head text is narrow shallow =
      barred_is levels head (Atom name) text (atom_text name) is (AnAtom standard levels (atom_text name) name (atom_is name narrow.0 narrow.1))
  cells_are (Tuple row) levels head text is narrow shallow =
      barred_is levels head (Tuple row) text (codes "{" ++ row_text row ++ codes "}") is
      (tuple_is levels row narrow.0 (λ t others e. row_is row levels narrow.1 (omega (arith, shallow)) t others e))
  cells_are Nil levels head text is narrow shallow = LastCell standard levels text [] head is refl
  cells_are (Cons h t) levels head text is narrow shallow =
      let later = cells_are t levels h (text_of h) (text_is h levels narrow.0 (omega (arith, shallow))) narrow.1 (omega (arith, shallow)) in
      MoreCells standard levels text [] [] (text_of h ++ tail_text t) head (Cons h t) is refl refl later
  cells_are (Binary bytes) levels head text is narrow shallow = barred_is levels head (Binary bytes) text (binary_text bytes) is (binary_is levels bytes narrow)

-- The text that is printed of a term of at most so many levels is a text of it.
pub printed_is : (t : Tree) → IsNarrow t → depth t ≤ MOST_LEVELS → IsTextOf standard MOST_LEVELS (text_of t) t
printed_is t narrow shallow = text_is t MOST_LEVELS narrow shallow
