-- What is noted as a pass pins, over the turns of an attempt and from one attempt to the next.
use Rattle.std.proofs.Common.{◌≡◌, ◌≢◌, ◌⊎◌, ℕ, cond, ◌+◌, ◌<◌, ◌≤◌, List, Vec, vec_len, sym, ap, ◌∙◌, subst, inl, inr, ⊎_elim, arith, eq-eqb, ne_eqb}
use Rattle.std.specs.Global.{Global}
use Rattle.ca_base.specs.Counting.{losses, HasMet}
use Rattle.ca_node.specs.Told.{MyTree}
use Rattle.ca_replace.specs.Causes.{HasBegun, HasPinned, LagsOnce}
use Rattle.ca_rows.specs.declared.kept.Kept.{Kept}
use Rattle.ca_rows.specs.declared.view.Claimed.{Claimed}
use Rattle.ca_rows.specs.declared.view.Pin.{Pin}
use Rattle.ca_rows.specs.Kept.{AreKept}
use Rattle.ca_rows.specs.Told.{begun_of}

-- The pass pinned once.
pub pinned_once : (m m' : MyTree) → m'.0.pin.lags ≡ m.0.pin.lags → m'.0.pin.looks ≡ m.0.pin.looks
    → m'.0.pin.entered.lags ≡ m.0.pin.lags → m'.0.pin.begun_at ≡ m.0.pin.looks
    → m'.0.pin.begun ≡ begun_of m → HasPinned m m'
pinned_once m m' lags looks entered begun_at begun = record {
  lags = lags;
  looks = looks;
  entered = entered;
  begun_at = begun_at;
  begun = λ n. begun ∙ ap (λ b. cond b m.0.pin.begun m.0.claims)
      (ne_eqb m.0.pin.looks m.0.pin.begun_at n);
  begun_before = λ e. begun ∙ ap (λ b. cond b m.0.pin.begun m.0.claims)
      (eq-eqb m.0.pin.looks m.0.pin.begun_at e);
}

-- It pinned again.
pub pinned_both : (k m n : MyTree) → HasPinned k m → HasPinned m n → HasPinned k n
pinned_both k m n x y = let again = x.looks ∙ sym x.begun_at in record {
  lags = y.lags ∙ x.lags;
  looks = y.looks ∙ x.looks;
  entered = y.entered ∙ x.lags;
  begun_at = y.begun_at ∙ x.looks;
  begun = λ no. y.begun_before again ∙ x.begun no;
  begun_before = λ e. y.begun_before again ∙ x.begun_before e;
}

-- It is pinned so still, or unpinned then.
pub pinned_still : (k m n : MyTree) → HasPinned k m → n.0.pin.lags ≡ m.0.pin.lags
    → n.0.pin.looks ≡ m.0.pin.looks → n.0.pin.entered.lags ≡ m.0.pin.entered.lags
    → n.0.pin.begun_at ≡ m.0.pin.begun_at → n.0.pin.begun ≡ m.0.pin.begun → HasPinned k n
pinned_still k m n x lags looks entered begun_at begun = record {
  lags = lags ∙ x.lags;
  looks = looks ∙ x.looks;
  entered = entered ∙ x.entered;
  begun_at = begun_at ∙ x.begun_at;
  begun = λ no. begun ∙ x.begun no;
  begun_before = λ e. begun ∙ x.begun_before e;
}

pub pinned_as : (k m n : MyTree) → HasPinned k m → n.0.pin ≡ m.0.pin → HasPinned k n
pinned_as k m n x same = pinned_still k m n x (ap (λ (e : Pin). e.lags) same)
    (ap (λ (e : Pin). e.looks) same) (ap (λ (e : Pin). e.entered.lags) same)
    (ap (λ (e : Pin). e.begun_at) same) (ap (λ (e : Pin). e.begun) same)

-- No attempt found the head empty until now, and so many rows are kept as at first; or one did, of
-- a call that had begun with rows kept, and none is kept now, unless an exchange was lost. The pass
-- gave rows back since it pinned last.
abbrev pub Before : ℕ → MyTree → MyTree → Vec Kept Global → Type 0
Before kept m0 m kept0 = ((kept ≡ vec_len kept0) × (m.0.empty ≡ m0.0.empty))
    ⊎ ((m0.0.empty + 1 ≤ m.0.empty) × (0 < vec_len kept0)
    × ((kept ≡ 0) ⊎ (losses m0 < losses m)) × (m.0.pin.looks ≢ m.0.pin.begun_at))

-- An attempt that found the head empty, behind others that did so or as the first one, and then
-- rows were given back.
pub begun_with : (rows begun : ℕ) (m0 m m1 m2 : MyTree) (kept0 kept : Vec Kept Global)
    → begun ≡ vec_len kept → AreKept rows m.0.claims kept
    → Before (vec_len kept) m0 m kept0 → losses m ≤ losses m2 → HasMet 1 0 m m1 → HasMet 0 0 m1 m2
    → HasPinned m m1 → LagsOnce m1 m2 → HasBegun rows begun (vec_len kept0) m0 m2
begun_with rows begun m0 m m1 m2 kept0 kept is are so more one two pinned given =
    let up = one.0 in let same = two.0 in ⊎_elim
    (λ (e : (vec_len kept ≡ vec_len kept0) × (m.0.empty ≡ m0.0.empty)). let none = e.1 in
    inl (is ∙ e.0, omega arith))
    (λ (l : (m0.0.empty + 1 ≤ m.0.empty) × (0 < vec_len kept0)
    × ((vec_len kept ≡ 0) ⊎ (losses m0 < losses m)) × (m.0.pin.looks ≢ m.0.pin.begun_at)).
    let before = l.0 in
    inr (
      omega arith,
      l.1,
      ⊎_elim (λ (z : vec_len kept ≡ 0). inl (is ∙ z))
          (λ (lost : losses m0 < losses m). inr (omega arith)) l.2,
      (
        kept,
        subst (λ (claims : List Claimed). AreKept rows claims kept)
            (sym (given.2 ∙ pinned.begun l.3)) are,
        is,
      ),
    )) so

-- So the head was found empty before, as seen from the next attempt.
pub empty_before : (kept begun kept2 : ℕ) (m0 m m1 m2 : MyTree) (kept0 : Vec Kept Global)
    → begun ≡ kept → 0 < begun → losses m0 ≤ losses m1
    → (kept2 ≡ 0) ⊎ (losses m1 < losses m2) → Before kept m0 m kept0 → HasMet 1 0 m m1
    → HasMet 0 0 m1 m2 → HasPinned m m1 → LagsOnce m1 m2 → m1.0.pin.looks < m2.0.pin.looks
    → (m0.0.empty + 1 ≤ m2.0.empty) × (0 < vec_len kept0) × ((kept2 ≡ 0) ⊎ (losses m0 < losses m2))
    × (m2.0.pin.looks ≢ m2.0.pin.begun_at)
empty_before kept begun kept2 m0 m m1 m2 kept0 is some more now so one two pinned given looked =
    let up = one.0 in let same = two.0 in (
      ⊎_elim (λ (e : (kept ≡ vec_len kept0) × (m.0.empty ≡ m0.0.empty)). let none = e.1 in
          let l : m0.0.empty + 1 ≤ m2.0.empty = omega arith in l)
          (λ (b : (m0.0.empty + 1 ≤ m.0.empty) × (0 < vec_len kept0)
          × ((kept ≡ 0) ⊎ (losses m0 < losses m)) × (m.0.pin.looks ≢ m.0.pin.begun_at)).
          let before = b.0 in let l : m0.0.empty + 1 ≤ m2.0.empty = omega arith in l) so,
      ⊎_elim (λ (e : (kept ≡ vec_len kept0) × (m.0.empty ≡ m0.0.empty)). let as_many = e.0 in
          let l : 0 < vec_len kept0 = omega arith in l)
          (λ (b : (m0.0.empty + 1 ≤ m.0.empty) × (0 < vec_len kept0)
          × ((kept ≡ 0) ⊎ (losses m0 < losses m)) × (m.0.pin.looks ≢ m.0.pin.begun_at)). b.1) so,
      ⊎_elim inl (λ (l : losses m1 < losses m2). inr (omega arith)) now,
      λ e. let at = given.3 ∙ pinned.begun_at in let still = pinned.looks in omega arith,
    )
