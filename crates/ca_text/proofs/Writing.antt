-- What stands in a list of bytes while a term is written, part by part.
use Rattle.std.proofs.Common.{◌≡◌, ℕ, suc, ◌+◌, ◌<◌, ◌≤◌, ◌==◌, Bool, true, false, not, List, [], ◌∷◌, ◌++◌, length, drop, get_or, codes, flat_map, append_assoc, append-nil, add-one, drop-cons, refl, sym, ap, ◌∙◌}
use Rattle.std.specs.List.{list_all}
use Rattle.std.proofs.lemmas.List.{drop_all}
use Rattle.std.proofs.lemmas.List.Concat.{flat_map-cons}
use Rattle.ca_term.specs.Tree.{Tree, Cons, row_of}
use Rattle.ca_text.specs.Text.{text_of, tail_text, row_text, more_text, binary_text, escaped_byte, is_bare, is_printable}
use Rattle.ca_text.specs.Bytes.{backslash, double_quote}
use Rattle.ca_text.proofs.Fronts.{written_two}
use Rattle.ca_text.proofs.Tools.{both}

-- The terms from a place on are the one there and those behind it.
pub drop_at : (ts : List Tree) (i : ℕ) (t : Tree) → i < length ts → t ≡ get_or ts i t → drop i ts ≡ t ∷ drop (i + 1) ts
drop_at ts i t h is = rw add-one (drop-cons ts i t h ∙ ap (λ x. x ∷ drop (suc i) ts) (sym is))

-- A comma and one more element are written in front of the elements behind it.
pub items_step : (was : List ℕ) {start now all : List ℕ} (ts : List Tree) (i : ℕ) (t : Tree) → i < length ts → t ≡ get_or ts i t
    → was ++ more_text (row_of (drop i ts)) ≡ start → now ≡ was ++ codes "," → all ≡ now ++ text_of t
    → all ++ more_text (row_of (drop (i + 1) ts)) ≡ start
items_step was ts i t h is s e f =
    written_two was (codes ",") (text_of t) (more_text (row_of (drop (i + 1) ts))) e f ∙ ap (λ (x : List Tree). was ++ more_text (row_of x)) (sym (drop_at ts i t h is)) ∙ s

-- Behind the last element nothing is left to write.
pub items_end : (was : List ℕ) {now all : List ℕ} (items others : List Tree) (first : Tree) (i : ℕ) → length others ≤ i → items ≡ first ∷ others
    → now ≡ was ++ text_of first → all ++ more_text (row_of (drop i others)) ≡ now ++ more_text (row_of others) → all ≡ was ++ row_text (row_of items)
items_end was {now} {all} items others first i h e s t =
    let here : all ++ [] ≡ now ++ more_text (row_of others) = rw (drop_all i others h) at t in
    sym (append-nil all) ∙ here ∙ ap (λ z. z ++ more_text (row_of others)) s ∙ append_assoc was (text_of first) (more_text (row_of others))
    ∙ ap (λ (x : List Tree). was ++ row_text (row_of x)) (sym e)

-- A comma and one more head are written in front of the tail behind it.
pub tail_step : (was : List ℕ) {start now all : List ℕ} (rest head tail : Tree) → rest ≡ Cons head tail → was ++ tail_text rest ≡ start → now ≡ was ++ codes ","
    → all ≡ now ++ text_of head → all ++ tail_text tail ≡ start
tail_step was rest head tail is s e f = written_two was (codes ",") (text_of head) (tail_text tail) e f ∙ ap (λ x. was ++ tail_text x) (sym is) ∙ s

-- The text of a binary that is shown.
pub shown_text : (bytes others : List ℕ) (first : ℕ) → bytes ≡ first ∷ others → list_all is_printable bytes ≡ true
    → codes "<<\"" ++ (flat_map escaped_byte bytes ++ codes "\">>") ≡ binary_text bytes
unfolding binary_text
shown_text bytes others first e h = let g : list_all is_printable (first ∷ others) ≡ true = rw e at h in rw (e, g) refl

not_true : (x : Bool) → not x ≡ true → x ≡ false
not_true true h = cc
not_true false h = refl

bare_byte : (b : ℕ) → is_bare b ≡ true → escaped_byte b ≡ b ∷ []
unfolding escaped_byte
bare_byte b h =
    let apart = both (not (b == double_quote)) (not (b == backslash)) h in
    let quote : (b == double_quote) ≡ false = not_true (b == double_quote) apart.0 in
    let slash : (b == backslash) ≡ false = not_true (b == backslash) apart.1 in
    rw (quote, slash) refl

-- Bytes that want no backslash are shown as they are.
pub bare_text : (bytes : List ℕ) → list_all is_bare bytes ≡ true → flat_map escaped_byte bytes ≡ bytes
bare_text [] h = refl
bare_text (b ∷ bs) h =
    let t = both (is_bare b) (list_all is_bare bs) h in
    flat_map-cons escaped_byte b bs ∙ (λ i. bare_byte b t.0 i ++ bare_text bs t.1 i)
