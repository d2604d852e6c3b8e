-- What the words of a row say up to where a range goes, once it was filled.
use Rattle.std.proofs.Common.{◌≡◌, ℕ, ◌+◌, ◌*◌, ◌/◌, ◌≤◌, List, [], ◌∷◌, cond, eqb, length, get_or, ap, ◌∙◌, arith}
use Rattle.ca_model.specs.Edges.{Bound, Unbounded, Included, Excluded}
use Rattle.ca_node.specs.Layout.{key_word, count_limit}
use Rattle.ca_node.specs.Row.{count}
use Rattle.ca_node.specs.Told.{MyTree}
use Rattle.ca_base.specs.Writing.{IsHeld, HasEight, IsFilled, HasFilled, HasWritten}
use Rattle.ca_base.proofs.Filling.{rewritten_again}
use Rattle.ca_base.proofs.RouteWords.{key_spelled}
use Rattle.ca_rows.specs.Layout.{row_words}
use Rattle.ca_range.specs.Edged.{SpellsBorder, SpellsKeyed}

-- The first word, the pass's number, and the key's bytes.
spells_keyed : (bytes : List ℕ) (owner form word : ℕ) (its one new : List ℕ) → length its ≡ row_words → form ≤ 2
    → word ≡ 288230376151711744 + form * count_limit + length bytes → length bytes ≤ 1000
    → IsFilled 0 2 (λ k w. w ≡ get_or (word ∷ owner ∷ []) k 0) its one
    → IsFilled key_word ((length bytes + 7) / 8) (HasEight bytes) one new
    → SpellsKeyed owner form bytes new
spells_keyed bytes owner form word its one new long low is short f g = record {
  long = g.long ∙ (f.long ∙ long);
  is_border = let h = first in omega arith;
  owner_is = g.before 1 (omega arith) ∙ f.inside 1 (omega arith);
  edge_is = let h = first in omega arith;
  key_is = key_spelled bytes one new (f.long ∙ long) short g count_is;
  count_is = count_is;
}
  where
    first : get_or new 0 0 ≡ word
    first = g.before 0 (omega arith) ∙ f.inside 0 (omega arith)

    count_is : count new ≡ length bytes
    count_is = let h = first in omega arith

-- A row that was filled with such words is one.
pub keyed_written : (row owner form word : ℕ) (bytes : List ℕ) (k m n : MyTree) → IsHeld k row → form ≤ 2
    → word ≡ 288230376151711744 + form * count_limit + length bytes → length bytes ≤ 1000
    → HasFilled row 0 2 (λ i w. w ≡ get_or (word ∷ owner ∷ []) i 0) k m
    → HasFilled row key_word ((length bytes + 7) / 8) (HasEight bytes) m n
    → HasWritten row (SpellsKeyed owner form bytes) k n
keyed_written row owner form word bytes k m n h low is short f g = let one = f h.0 h.1 h.2 in
    let two = g one.0 (one.1.long ∙ h.1) one.2.here in (
      two.0,
      spells_keyed bytes owner form word h.0 one.0 two.0 h.1 low is short one.1 two.1,
      rewritten_again row one.0 two.0 k m n one.2 two.2,
    )

-- By its form and its key it says up to where.
pub bordered : (row owner form : ℕ) (bytes : List ℕ) (bound : Bound) (k m : MyTree)
    → cond (eqb form 0) Unbounded (cond (eqb form 1) (Included bytes) (Excluded bytes)) ≡ bound
    → length bytes ≤ 1000 → HasWritten row (SpellsKeyed owner form bytes) k m → HasWritten row (SpellsBorder owner bound) k m
bordered row owner form bytes bound k m is short w = let s = w.1 in (
  w.0,
  record {
    long = s.long;
    is_border = s.is_border;
    owner_is = s.owner_is;
    top_is = ap (λ (x : ℕ × List ℕ). cond (eqb x.0 0) Unbounded (cond (eqb x.0 1) (Included x.1) (Excluded x.1))) (λ i. (s.edge_is i, s.key_is i)) ∙ is;
    short = let c = s.count_is in omega arith;
  },
  w.2,
)
