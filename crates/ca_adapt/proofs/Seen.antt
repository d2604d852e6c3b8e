-- What a load of the link of a base's sibling shows.
use Rattle.std.proofs.Common.{◌≡◌, ◌≢◌, ℕ, suc, ◌/◌, ◌<◌, false, get_or, sym, refl, ap, ◌∙◌, subst, inl, inr, arith}
use Rattle.ca_base.specs.Finding.{IsBaseShown}
use Rattle.ca_node.specs.Links.{IsIn}
use Rattle.ca_node.specs.Notes.{IsBaseNote}
use Rattle.ca_node.specs.Tree.{IsFixed, StartsWith}
use Rattle.ca_node.specs.Told.{MyTree, IsKnown, IsLed, IsLedToBase, IsLedToRoute, IsShownWord}
use Rattle.ca_node.specs.TreeView.{Note}
use Rattle.ca_rows.specs.declared.sizes.Sizes.{Sizes}
use Rattle.ca_adapt.specs.Trying.{IsJoinSteps, IsOnly}

pub some_rows : (m : MyTree) (z : Sizes) → m.0.sizes ≡ z → 0 < z.rows → 0 < m.0.sizes.rows
some_rows m z same lo = subst (λ (y : Sizes). 0 < y.rows) (sym same) lo

first_word : IsFixed 0
first_word = (
  omega arith,
  (λ e. absurd (omega (arith, e))),
  (λ e. absurd (omega (arith, e))),
  (λ e. absurd (omega (arith, e))),
)

-- The first word of what a link names was shown: that of a base, or of a route. Its form tells
-- which of both it is.
module _ {link : ℕ} (n : ℕ) (m m' : MyTree) (some : 0 < m.0.sizes.rows) where
  first_of_base : (b : IsLedToBase false link m n m')
      → IsShownWord m'.0.upper n 0 (get_or b.note.its 0 0)
  first_of_base b = subst (λ (x : MyTree). IsShownWord x.0.upper n 0 (get_or b.note.its 0 0))
      (sym b.now)
      (b.note.its, inl (b.note, (0, refl), inl (b.row_is, refl)), refl)

  first_of_route : (r : IsLedToRoute link m n m')
      → IsShownWord m'.0.upper n 0 (get_or r.way.its 0 0)
  first_of_route r = subst (λ (x : MyTree). IsShownWord x.0.upper n 0 (get_or r.way.its 0 0))
      (sym r.now)
      (r.way.its, inr (inl ((r.way, (0, refl), r.row_is, refl), first_word)), refl)

  pub first_shown : IsLed false link m n m' → (word : ℕ) × IsShownWord m'.0.upper n 0 word
  first_shown (inl b) = (get_or b.note.its 0 0, first_of_base b)
  first_shown (inr r) = (get_or r.way.its 0 0, first_of_route r)

  pub is_route_by : (word : ℕ) → ((w : ℕ) → IsShownWord m'.0.upper n 0 w → word ≡ w)
      → word / 72057594037927936 ≡ 3 → IsLed false link m n m'
      → IsLedToRoute link m n m'
  is_route_by word is form (inl b) = let same = is (get_or b.note.its 0 0) (first_of_base b) in
      let two = (b.known some).0.is_base in
      absurd (omega (arith, same, two, form))
  is_route_by word is form (inr r) = r

  pub is_base_by : (word : ℕ) → ((w : ℕ) → IsShownWord m'.0.upper n 0 w → word ≡ w)
      → word / 72057594037927936 ≢ 3 → IsLed false link m n m'
      → IsLedToBase false link m n m'
  is_base_by word is form (inl b) = b
  is_base_by word is form (inr r) = let same = is (get_or r.way.its 0 0) (first_of_route r) in
      let three = (r.known some).0.is_route in
      absurd (form (ap (λ (n : ℕ). n / 72057594037927936) same ∙ three))

-- The base that the link names was shown, and those that were shown before are shown still.
module _ {link : ℕ} (z : Sizes) (n : ℕ) (m m' : MyTree) (b : IsLedToBase false link m n m') where
  pub led_still : (base : ℕ) (note : Note) → IsBaseShown z m.0.upper base note
      → IsBaseShown z m'.0.upper base note
  led_still base note s = subst (λ (x : MyTree). IsBaseShown z x.0.upper base note)
      (sym b.now) record {
        noted = (suc s.noted.0, s.noted.1);
        here = s.here;
        is_base = s.is_base;
      }

  pub led_shown : m.0.sizes ≡ z → 0 < z.rows → IsBaseShown z m'.0.upper n b.note
  led_shown same lo = record {
    noted = subst (λ (x : MyTree). IsIn b.note x.0.upper.notes) (sym b.now) (0, refl);
    here = b.row_is;
    is_base = subst (λ (y : Sizes). IsBaseNote y b.note) same (b.known (some_rows m z same lo)).0;
  }

  pub led_steps : m.0.sizes ≡ z → 0 < z.rows → IsJoinSteps z m.0.upper m'.0.upper
  led_steps same lo = let known = subst (λ (y : Sizes × MyTree). IsKnown y.0 y.1.0.upper)
      (λ i. (same i, sym b.now i))
      (b.known (some_rows m z same lo)).1 in record {
        only = subst (λ (x : MyTree). IsOnly m.0.upper x.0.upper) (sym b.now) refl;
        seen = subst (λ (x : MyTree). StartsWith x.0.upper.seen m.0.upper.seen) (sym b.now)
            (b.more, refl);
        known = λ k. known;
      }

-- The link names a route: so much the same.
pub routed_steps : {link : ℕ} (z : Sizes) (n : ℕ) (m m' : MyTree) (r : IsLedToRoute link m n m')
    → m.0.sizes ≡ z → 0 < z.rows
    → IsJoinSteps z m.0.upper m'.0.upper
routed_steps z n m m' r same lo =
    let known = subst (λ (y : Sizes × MyTree). IsKnown y.0 y.1.0.upper) (λ i. (same i, sym r.now i))
    (r.known (some_rows m z same lo)).1 in record {
      only = subst (λ (x : MyTree). IsOnly m.0.upper x.0.upper) (sym r.now) refl;
      seen = subst (λ (x : MyTree). StartsWith x.0.upper.seen m.0.upper.seen) (sym r.now)
          (r.more, refl);
      known = λ k. known;
    }
