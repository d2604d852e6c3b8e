-- An element of a tuple's code, and the code with another one in its place.
use Rattle.std.proofs.Common.{◌≡◌, ℕ, ◌≤◌, ◌-◌, List, ◌∷◌, ◌++◌, length, take, drop, set, arith, sym, ◌∙◌, ap, append_assoc, length-append}
use Rattle.std.proofs.Math.Seq.{take-append_seam, drop-append_seam, set-append_seam}
use Rattle.ca_term.specs.Tree.{Tree, Tuple, row_of, elements}
use Rattle.ca_term.specs.Code.{code_of, row_code}
use Rattle.ca_term.proofs.Rows.{elements_are}
use Rattle.ca_order.specs.KeyParts.{IsKeyPlace}
use Rattle.ca_order.specs.Patches.{HasItems, IsAround}
use Rattle.ca_order.proofs.Items.{head, tuple_code, five}
use Rattle.ca_order.proofs.Skipped.{row_app}

split_at : (items before : List Tree) (element : Tree) (after : List Tree) → length (before ++ element ∷ after) ≡ length items
    → code_of (Tuple (row_of (before ++ element ∷ after))) ≡ (head items ++ row_code (row_of before)) ++ (code_of element ++ row_code (row_of after))
split_at items before element after e =
    tuple_code items (before ++ element ∷ after) e ∙ ap (λ x. head items ++ x) (row_app before element after)
    ∙ sym (append_assoc (head items) (row_code (row_of before)) (code_of element ++ row_code (row_of after)))

module _ (items : List Tree) (position start end : ℕ) (code : List ℕ) (h : HasItems items code) (k : IsKeyPlace (row_of items) position start end) where
  items_are : items ≡ k.before ++ k.key ∷ k.after
  items_are = sym (elements_are items) ∙ ap elements k.row_is ∙ elements_are (k.before ++ k.key ∷ k.after)

  abbrev front : List ℕ
  front = head items ++ row_code (row_of k.before)

  start_is : start ≡ length front
  start_is = omega (arith, k.start_is, five items code h, length-append (head items) (row_code (row_of k.before)))

  parts : code ≡ front ++ (code_of k.key ++ row_code (row_of k.after))
  parts = h.code_is ∙ ap (λ x. code_of (Tuple (row_of x))) items_are ∙ split_at items k.before k.key k.after (sym (ap length items_are))

  parts_behind : code ≡ (front ++ code_of k.key) ++ row_code (row_of k.after)
  parts_behind = parts ∙ sym (append_assoc front (code_of k.key) (row_code (row_of k.after)))

  end_is : end ≡ length (front ++ code_of k.key)
  end_is = omega (arith, k.end_is, start_is, length-append front (code_of k.key))

  -- The element begins in the code.
  pub start_fits : start ≤ length code
  start_fits = omega (arith, start_is, ap length parts, length-append front (code_of k.key ++ row_code (row_of k.after)))

  -- The element ends in the code.
  pub end_fits : end ≤ length code
  end_fits = omega (arith, end_is, ap length parts_behind, length-append (front ++ code_of k.key) (row_code (row_of k.after)))

  -- The bytes before the element, and those behind it.
  pub around : IsAround items (position - 1) (take start code) (drop end code)
  around = record {
    before = k.before;
    element = k.key;
    after = k.after;
    items_are = items_are;
    place = omega (arith, k.place);
    front_is = (λ i. take (start_is i) (parts i)) ∙ take-append_seam front (code_of k.key ++ row_code (row_of k.after));
    rest_is = (λ i. drop (end_is i) (parts_behind i)) ∙ drop-append_seam (front ++ code_of k.key) (row_code (row_of k.after));
  }

  -- The element is one of them.
  pub position_there : (1 ≤ position) × (position ≤ length items)
  position_there = (omega (arith, k.place), omega (arith, k.place, ap length items_are, length-append k.before (k.key ∷ k.after)))

-- The code with another element stands between the same bytes.
pub around_other : (items : List Tree) (at : ℕ) (front rest : List ℕ) (value : Tree) → IsAround items at front rest
    → code_of (Tuple (row_of (set items at value))) ≡ front ++ (code_of value ++ rest)
around_other items at front rest value a =
    let new : List Tree = a.before ++ value ∷ a.after in
    let items_new : set items at value ≡ new = (λ i. set (a.items_are i) (sym a.place i) value) ∙ set-append_seam a.before a.element a.after value in
    let long : length new ≡ length items =
    omega (arith, ap length a.items_are, length-append a.before (value ∷ a.after), length-append a.before (a.element ∷ a.after)) in
    ap (λ x. code_of (Tuple (row_of x))) items_new ∙ split_at items a.before value a.after long
    ∙ (λ i. sym a.front_is i ++ (code_of value ++ sym a.rest_is i))
