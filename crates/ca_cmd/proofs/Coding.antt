-- The text of terms by their codes, term by term.
use Rattle.std.proofs.Common.{◌≡◌, ℕ, zero, suc, ◌+◌, ◌<◌, ◌≤◌, List, [], ◌∷◌, ◌++◌, length, drop, take, codes, append_assoc, append-nil, length-append, arith, refl, sym, ap, subst, ◌∙◌}
use Rattle.std.proofs.Math.Seq.{take-append_seam, drop-append_seam}
use Rattle.ca_term.specs.Tree.{Tree, Integer, Atom, Tuple, Nil, Cons, Binary, nodes, row_nodes, row_of, list_of}
use Rattle.ca_text.specs.Text.{bar_text, text_of, tail_text, row_text, more_text}
use Rattle.ca_text.proofs.Fronts.{written_two}
use Rattle.ca_order.specs.Codes.{BeginsOtherwise, HasNoCell, IsOpened, IsOpenedCell}
use Rattle.ca_cmd.specs.Coded.{PutsFirst, PutsTail, PutsElements}

nodes_both : (ts us : List Tree) → row_nodes (row_of (ts ++ us)) ≡ row_nodes (row_of ts) + row_nodes (row_of us)
nodes_both [] us = omega arith
nodes_both (t ∷ ts) us = omega (arith, nodes_both ts us)

-- ---- tuples

module _ (terms inside : List Tree) (count : ℕ) (o : IsOpened terms count inside) where
  -- The elements and the other terms have a node less than the tuple and these.
  pub opened_nodes : row_nodes (row_of terms) ≡ 1 + row_nodes (row_of inside)
  opened_nodes =
      let a : row_nodes (row_of terms) ≡ 1 + row_nodes (row_of o.items) + row_nodes (row_of o.others) = ap (λ (ts : List Tree). row_nodes (row_of ts)) o.terms_are in
      let b : row_nodes (row_of inside) ≡ row_nodes (row_of (o.items ++ o.others)) = ap (λ (ts : List Tree). row_nodes (row_of ts)) o.inside_is in
      omega (arith, a, b, nodes_both o.items o.others)

  -- There are as many as the tuple has elements.
  pub opened_many : count ≤ length inside
  opened_many = omega (arith, o.many, ap length o.inside_is, length-append o.items o.others)

  -- Between braces the elements are the text of the tuple.
  pub tuple_put : (rest : List Tree) (was : List ℕ) {a b all : List ℕ} → a ≡ was ++ codes "{" → PutsElements count inside rest a b → all ≡ b ++ codes "}"
      → PutsFirst terms rest was all
  tuple_put rest was {a} {b} {all} e p f =
      let front : take count inside ≡ o.items =
      ap (λ (n : ℕ). take n inside) o.many ∙ ap (take (length o.items)) o.inside_is ∙ take-append_seam o.items o.others in
      let behind : drop count inside ≡ o.others =
      ap (λ (n : ℕ). drop n inside) o.many ∙ ap (drop (length o.items)) o.inside_is ∙ drop-append_seam o.items o.others in
      let text : b ≡ a ++ row_text (row_of o.items) = p.text_is ∙ ap (λ (ts : List Tree). a ++ row_text (row_of ts)) front in
      record {
        first = Tuple (row_of o.items);
        terms_are = o.terms_are ∙ ap (λ (ts : List Tree). Tuple (row_of o.items) ∷ ts) (sym (p.rest_is ∙ behind));
        text_is = f ∙ written_two was (codes "{") (row_text (row_of o.items)) (codes "}") e text;
      }

-- ---- elements

-- The terms from a place on are one and those behind it.
step_drop : (ts : List Tree) (i : ℕ) (t : Tree) (us : List Tree) → drop i ts ≡ t ∷ us → us ≡ drop (i + 1) ts
step_drop [] zero t us e = let f : [] ≡ t ∷ us = e in cc
step_drop [] (suc i) t us e = let f : [] ≡ t ∷ us = e in cc
step_drop (u ∷ ts) zero t us e = let f : u ∷ ts ≡ t ∷ us = e in let g : ts ≡ us = cc in sym g
step_drop (u ∷ ts) (suc i) t us e = let n : suc i + 1 ≡ suc (i + 1) = omega arith in
    step_drop ts i t us e ∙ ap (λ (m : ℕ). drop m (u ∷ ts)) (sym n)

-- So one more is taken.
step_take : (ts : List Tree) (i : ℕ) (t : Tree) (us : List Tree) → drop i ts ≡ t ∷ us → take (i + 1) ts ≡ take i ts ++ t ∷ []
step_take [] zero t us e = let f : [] ≡ t ∷ us = e in cc
step_take [] (suc i) t us e = let f : [] ≡ t ∷ us = e in cc
step_take (u ∷ ts) zero t us e = let f : u ∷ ts ≡ t ∷ us = e in let g : u ≡ t = cc in ap (λ (x : Tree). x ∷ []) g
step_take (u ∷ ts) (suc i) t us e = let n : suc i + 1 ≡ suc (i + 1) = omega arith in
    ap (λ (m : ℕ). take m (u ∷ ts)) n ∙ ap (λ (xs : List Tree). u ∷ xs) (step_take ts i t us e)

more_push : (ts : List Tree) (t : Tree) → more_text (row_of (ts ++ t ∷ [])) ≡ more_text (row_of ts) ++ (codes "," ++ text_of t)
more_push [] t = append-nil (codes "," ++ text_of t)
more_push (u ∷ ts) t =
    ap (λ (x : List ℕ). (codes "," ++ text_of u) ++ x) (more_push ts t)
    ∙ sym (append_assoc (codes "," ++ text_of u) (more_text (row_of ts)) (codes "," ++ text_of t))

-- A first element's text is written alone.
row_one : (t : Tree) → row_text (row_of ([] ++ t ∷ [])) ≡ text_of t
row_one t = append-nil (text_of t)

-- A comma stands before each other one's.
row_push : (u : Tree) (ts : List Tree) (t : Tree) → row_text (row_of ((u ∷ ts) ++ t ∷ [])) ≡ row_text (row_of (u ∷ ts)) ++ (codes "," ++ text_of t)
row_push u ts t =
    ap (λ (x : List ℕ). text_of u ++ x) (more_push ts t) ∙ sym (append_assoc (text_of u) (more_text (row_of ts)) (codes "," ++ text_of t))

-- So each element behind the first one is written behind a comma.
elements_more : (ts : List Tree) (i : ℕ) (t : Tree) (us : List Tree) → 1 ≤ i → drop i ts ≡ t ∷ us
    → row_text (row_of (take (i + 1) ts)) ≡ row_text (row_of (take i ts)) ++ (codes "," ++ text_of t)
elements_more ts zero t us lo e = absurd (omega arith)
elements_more [] (suc i) t us lo e = let f : [] ≡ t ∷ us = e in cc
elements_more (u ∷ ts) (suc i) t us lo e =
    ap (λ (xs : List Tree). row_text (row_of xs)) (step_take (u ∷ ts) (suc i) t us e) ∙ row_push u (take i ts) t

-- No more terms have no more nodes.
drop_nodes : (ts : List Tree) (i : ℕ) → row_nodes (row_of (drop i ts)) ≤ row_nodes (row_of ts)
drop_nodes [] zero = omega arith
drop_nodes [] (suc i) = omega arith
drop_nodes (t ∷ ts) zero = omega arith
drop_nodes (t ∷ ts) (suc i) = omega (arith, drop_nodes ts i)

some_left : (ts : List Tree) (i : ℕ) → i < length ts → 1 ≤ length (drop i ts)
some_left [] i h = absurd (omega arith)
some_left (t ∷ ts) zero h = omega arith
some_left (t ∷ ts) (suc i) h = some_left ts i (omega arith)

-- So many of the terms were written as a tuple's elements, and these are left.
pub record AreElements (terms left : List Tree) (many : ℕ) (was now : List ℕ) : Type 0 where
  pub some : 1 ≤ many
  pub left_is : left ≡ drop many terms
  pub text : now ≡ was ++ row_text (row_of (take many terms))

pub elements_one : (terms left : List Tree) (was : List ℕ) {now : List ℕ} → PutsFirst terms left was now → AreElements terms left 1 was now
elements_one terms left was p = record {
  some = omega arith;
  left_is = ap (drop 1) (sym p.terms_are);
  text = p.text_is ∙ ap (λ (x : List ℕ). was ++ x) (sym (row_one p.first))
      ∙ ap (λ (ts : List Tree). was ++ row_text (row_of (take 1 ts))) (sym p.terms_are);
}

module _ (terms left : List Tree) (many : ℕ) (was now : List ℕ) (g : AreElements terms left many was now) where
  -- One more is written.
  pub elements_on : (rest : List Tree) {a b : List ℕ} → a ≡ now ++ codes "," → PutsFirst left rest a b → AreElements terms rest (many + 1) was b
  elements_on rest {a} {b} e p =
      let there : drop many terms ≡ p.first ∷ rest = sym g.left_is ∙ p.terms_are in
      let row : List ℕ = row_text (row_of (take many terms)) in
      let one : List ℕ = codes "," ++ text_of p.first in
      record {
        some = omega arith;
        left_is = step_drop terms many p.first rest there;
        text = p.text_is ∙ ap (λ (x : List ℕ). x ++ text_of p.first) e ∙ append_assoc now (codes ",") (text_of p.first)
            ∙ ap (λ (x : List ℕ). x ++ one) g.text ∙ append_assoc was row one
            ∙ ap (λ (x : List ℕ). was ++ x) (sym (elements_more terms many p.first rest g.some there));
      }

  -- No more are left than there were, and there is one where not all were written.
  pub elements_nodes : row_nodes (row_of left) ≤ row_nodes (row_of terms)
  elements_nodes = subst (λ (ts : List Tree). row_nodes (row_of ts) ≤ row_nodes (row_of terms)) (sym g.left_is) (drop_nodes terms many)

  pub elements_left : many < length terms → 1 ≤ length left
  elements_left h = subst (λ (ts : List Tree). 1 ≤ length ts) (sym g.left_is) (some_left terms many h)

-- ---- lists

-- The tail of a list was written so far, with the rest in this place.
pub record IsAlong (terms left : List Tree) (was now : List ℕ) : Type 0 where
  pub tail : Tree
  pub rest : Tree
  pub others : List Tree
  pub terms_are : terms ≡ tail ∷ others
  pub left_is : left ≡ rest ∷ others
  pub text : now ++ tail_text rest ≡ was ++ tail_text tail
  pub fewer : nodes rest ≤ nodes tail

module _ (terms inside : List Tree) (o : IsOpenedCell terms inside) where
  -- The head, the tail and the other terms have a node less than the cell and these.
  pub cell_nodes : row_nodes (row_of terms) ≡ 1 + row_nodes (row_of inside)
  cell_nodes =
      let a : row_nodes (row_of terms) ≡ 1 + (nodes o.head + nodes o.tail) + row_nodes (row_of o.others) =
      ap (λ (ts : List Tree). row_nodes (row_of ts)) o.terms_are in
      let b : row_nodes (row_of inside) ≡ nodes o.head + (nodes o.tail + row_nodes (row_of o.others)) =
      ap (λ (ts : List Tree). row_nodes (row_of ts)) o.inside_is in
      omega (arith, a, b)

  pub cell_some : 1 ≤ length inside
  cell_some = omega (arith, ap length o.inside_is)

  module _ (mid : List Tree) {a b : List ℕ} (p : PutsFirst inside mid a b) where
    -- Behind the head stand the tail and the other terms.
    pub tail_there : (o.head ≡ p.first) × (mid ≡ o.tail ∷ o.others)
    tail_there = let e : o.head ∷ o.tail ∷ o.others ≡ p.first ∷ mid = sym o.inside_is ∙ p.terms_are in (cc, cc)

    pub tail_some : 1 ≤ length mid
    tail_some = omega (arith, ap length tail_there.1)

    pub tail_nodes : row_nodes (row_of mid) < row_nodes (row_of terms)
    tail_nodes =
        let c : row_nodes (row_of mid) ≡ nodes o.tail + row_nodes (row_of o.others) = ap (λ (ts : List Tree). row_nodes (row_of ts)) tail_there.1 in
        let d : row_nodes (row_of terms) ≡ 1 + (nodes o.head + nodes o.tail) + row_nodes (row_of o.others) =
        ap (λ (ts : List Tree). row_nodes (row_of ts)) o.terms_are in
        omega (arith, c, d)

    -- Behind a bracket, the head and what follows it are the text of the list.
    pub list_put : (rest : List Tree) (was : List ℕ) {all : List ℕ} → a ≡ was ++ codes "[" → PutsTail mid rest b all → PutsFirst terms rest was all
    list_put rest was {all} e q =
        let s : o.tail ∷ o.others ≡ q.tail ∷ rest = sym tail_there.1 ∙ q.terms_are in
        let same : o.tail ≡ q.tail = cc in
        let left : o.others ≡ rest = cc in
        let text : b ≡ a ++ text_of o.head = p.text_is ∙ ap (λ (x : Tree). a ++ text_of x) (sym tail_there.0) in
        record {
          first = Cons o.head o.tail;
          terms_are = o.terms_are ∙ ap (λ (ts : List Tree). Cons o.head o.tail ∷ ts) left;
          text_is = q.text_is ∙ ap (λ (x : Tree). b ++ tail_text x) (sym same) ∙ written_two was (codes "[") (text_of o.head) (tail_text o.tail) e text;
        }

-- At first nothing was written of the tail.
pub along_none : (terms : List Tree) (was : List ℕ) → 1 ≤ length terms → IsAlong terms terms was was
along_none [] was h = absurd (omega arith)
along_none (t ∷ ts) was h = record { tail = t; rest = t; others = ts; terms_are = refl; left_is = refl; text = refl; fewer = omega arith }

module _ (terms left : List Tree) (was now : List ℕ) (g : IsAlong terms left was now) where
  pub along_some : 1 ≤ length left
  along_some = omega (arith, ap length g.left_is)

  pub along_nodes : row_nodes (row_of left) ≤ row_nodes (row_of terms)
  along_nodes =
      let a : row_nodes (row_of left) ≡ nodes g.rest + row_nodes (row_of g.others) = ap (λ (ts : List Tree). row_nodes (row_of ts)) g.left_is in
      let b : row_nodes (row_of terms) ≡ nodes g.tail + row_nodes (row_of g.others) = ap (λ (ts : List Tree). row_nodes (row_of ts)) g.terms_are in
      omega (arith, a, b, g.fewer)

  -- One more head is written.
  pub along_more : (inside mid : List Tree) {a b : List ℕ} → IsOpenedCell left inside → a ≡ now ++ codes "," → PutsFirst inside mid a b → IsAlong terms mid was b
  along_more inside mid {a} {b} o e p =
      let t = tail_there left inside o mid p in
      let s : g.rest ∷ g.others ≡ Cons o.head o.tail ∷ o.others = sym g.left_is ∙ o.terms_are in
      let same : g.rest ≡ Cons o.head o.tail = cc in
      let others : g.others ≡ o.others = cc in
      let text : b ≡ a ++ text_of o.head = p.text_is ∙ ap (λ (x : Tree). a ++ text_of x) (sym t.0) in
      record {
        tail = g.tail;
        rest = o.tail;
        others = g.others;
        terms_are = g.terms_are;
        left_is = t.1 ∙ ap (λ (ts : List Tree). o.tail ∷ ts) (sym others);
        text = written_two now (codes ",") (text_of o.head) (tail_text o.tail) e text ∙ ap (λ (x : Tree). now ++ tail_text x) (sym same) ∙ g.text;
        fewer = omega (arith, ap nodes same, g.fewer);
      }

  -- At the empty list a bracket ends the text.
  pub along_end : (rest : List Tree) {all : List ℕ} → left ≡ Nil ∷ rest → all ≡ now ++ codes "]" → PutsTail terms rest was all
  along_end rest e f =
      let s : g.rest ∷ g.others ≡ Nil ∷ rest = sym g.left_is ∙ e in
      let same : g.rest ≡ Nil = cc in
      let others : g.others ≡ rest = cc in
      record {
        tail = g.tail;
        terms_are = g.terms_are ∙ ap (λ (ts : List Tree). g.tail ∷ ts) others;
        text_is = f ∙ ap (λ (x : Tree). now ++ tail_text x) (sym same) ∙ g.text;
      }

bar : (t : Tree) → ((head tail : Tree) → t ≡ Cons head tail → ⊥) → (t ≡ Nil → ⊥) → tail_text t ≡ bar_text (text_of t)
bar (Integer n) h k = refl
bar (Atom text) h k = refl
bar (Tuple row) h k = refl
bar Nil h k = absurd (k refl)
bar (Cons head tail) h k = absurd (h head tail refl)
bar (Binary bytes) h k = refl

-- Any other tail is written behind a bar.
pub along_bar : (terms left rest : List Tree) (was now : List ℕ) {a b all : List ℕ} → IsAlong terms left was now → HasNoCell left → BeginsOtherwise Nil left
    → a ≡ now ++ codes "|" → PutsFirst left rest a b → all ≡ b ++ codes "]" → PutsTail terms rest was all
along_bar terms left rest was now {a} {b} {all} g cell nil e p f =
    let s : g.rest ∷ g.others ≡ p.first ∷ rest = sym g.left_is ∙ p.terms_are in
    let same : p.first ≡ g.rest = cc in
    let others : g.others ≡ rest = cc in
    let no_cell : (head tail : Tree) → g.rest ≡ Cons head tail → ⊥ = λ head tail r. cell head tail g.others (g.left_is ∙ ap (λ (x : Tree). x ∷ g.others) r) in
    let no_nil : g.rest ≡ Nil → ⊥ = λ r. nil g.others (g.left_is ∙ ap (λ (x : Tree). x ∷ g.others) r) in
    let text : b ≡ a ++ text_of g.rest = p.text_is ∙ ap (λ (x : Tree). a ++ text_of x) same in
    record {
      tail = g.tail;
      terms_are = g.terms_are ∙ ap (λ (ts : List Tree). g.tail ∷ ts) others;
      text_is = f ∙ written_two now (codes "|") (text_of g.rest) (codes "]") e text ∙ ap (λ (x : List ℕ). now ++ x) (sym (bar g.rest no_cell no_nil)) ∙ g.text;
    }

-- ---- the terms of codes, as a list

-- Behind the first one the others are still to be written.
pub codes_begin : (terms rest : List Tree) (was : List ℕ) {a b : List ℕ} → a ≡ was ++ codes "[" → PutsFirst terms rest a b
    → b ++ tail_text (list_of rest Nil) ≡ was ++ text_of (list_of terms Nil)
codes_begin terms rest was e p =
    written_two was (codes "[") (text_of p.first) (tail_text (list_of rest Nil)) e p.text_is
    ∙ ap (λ (x : List Tree). was ++ text_of (list_of x Nil)) (sym p.terms_are)

-- So it is behind each one.
pub codes_on : (left rest : List Tree) (now : List ℕ) {start a b : List ℕ} → a ≡ now ++ codes "," → PutsFirst left rest a b
    → now ++ tail_text (list_of left Nil) ≡ start → b ++ tail_text (list_of rest Nil) ≡ start
codes_on left rest now e p s =
    written_two now (codes ",") (text_of p.first) (tail_text (list_of rest Nil)) e p.text_is
    ∙ ap (λ (x : List Tree). now ++ tail_text (list_of x Nil)) (sym p.terms_are) ∙ s
