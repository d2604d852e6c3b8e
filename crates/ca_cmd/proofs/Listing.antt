-- The text of a list, term by term.
use Rattle.std.proofs.Common.{◌≡◌, ℕ, ◌+◌, ◌<◌, ◌≤◌, List, ◌∷◌, ◌++◌, length, drop, get_or, codes, sym, ap, ◌∙◌}
use Rattle.std.proofs.lemmas.List.{drop_all}
use Rattle.ca_term.specs.Tree.{Tree, Nil, list_of}
use Rattle.ca_text.specs.Text.{text_of, tail_text}
use Rattle.ca_text.proofs.Fronts.{written_two}
use Rattle.ca_text.proofs.Writing.{drop_at}

-- A comma and one more term are written in front of the terms behind it.
pub list_step : (was : List ℕ) {start now all : List ℕ} (ts : List Tree) (i : ℕ) (t : Tree) → i < length ts → t ≡ get_or ts i t
    → was ++ tail_text (list_of (drop i ts) Nil) ≡ start → now ≡ was ++ codes "," → all ≡ now ++ text_of t
    → all ++ tail_text (list_of (drop (i + 1) ts) Nil) ≡ start
list_step was ts i t h is s e f =
    written_two was (codes ",") (text_of t) (tail_text (list_of (drop (i + 1) ts) Nil)) e f
    ∙ ap (λ (x : List Tree). was ++ tail_text (list_of x Nil)) (sym (drop_at ts i t h is)) ∙ s

-- Behind the last term stands the closing bracket.
pub list_end : (was : List ℕ) (now : List ℕ) {opened started : List ℕ} (terms others : List Tree) (first : Tree) (i : ℕ) → length others ≤ i → terms ≡ first ∷ others
    → opened ≡ was ++ codes "[" → started ≡ opened ++ text_of first
    → now ++ tail_text (list_of (drop i others) Nil) ≡ started ++ tail_text (list_of others Nil)
    → now ++ codes "]" ≡ was ++ text_of (list_of terms Nil)
list_end was now {started = started} terms others first i h e o s t =
    let rest = tail_text (list_of others Nil) in
    let here : now ++ codes "]" ≡ started ++ rest = rw (drop_all i others h) at t in
    here ∙ written_two was (codes "[") (text_of first) rest o s ∙ ap (λ (x : List Tree). was ++ text_of (list_of x Nil)) (sym e)
