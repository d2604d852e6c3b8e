-- The words at the start meet the rule.
use Rattle.std.proofs.Common.{◌≡◌, ◌≢◌, ℕ, zero, suc, ◌+◌, ◌-◌, ◌%◌, ◌<◌, ◌≤◌, eqb, cond, true, false, List, [], ◌∷◌, get_or, sym, refl, ap, ◌∙◌, subst, inr, arith, eq-eqb, ne_eqb}
use mathlib.Core.Logic.{dite}
use mathlib.Core.Option.{some, none, some-injective, some-ne-none}
use native.Mathlib.Decide.{ℕ_discrete}
use lib.ListN.{get_elem?}
use Rattle.ca_rows.specs.declared.sizes.Sizes.{Sizes}
use Rattle.ca_rows.specs.declared.view.Pin.{Pin}
use Rattle.ca_rows.specs.declared.view.View.{View}
use Rattle.ca_rows.specs.Account.{IsRow}
use Rattle.ca_rows.specs.Chain.{Owner, Free, Linked, IsTop, IsChain}
use Rattle.ca_rows.specs.Claims.{claim_at}
use Rattle.ca_rows.specs.Laws.{Opened, Opening}
use Rattle.ca_rows.specs.Opening.{AreInBounds, AreUsable, IsOpening}
use Rattle.ca_rows.specs.Pins.{ArePins, IsPin, unpinned}
use Rattle.ca_rows.specs.Rule.{fresh, NotedAt, Knows, Ruled}
use Rattle.ca_rows.specs.Words.{announced, head_row, first_of, next_below}
use Rattle.ca_rows.proofs.Chains.{in_head, same_height}
use Rattle.ca_rows.specs.Layout.{row_limit, last_epoch}

-- Row 1 is linked, and the others are free.
abbrev first_owner : ℕ → ℕ → Owner
first_owner rows r = cond (eqb r 1) Linked (Free (rows - r))

only_seat : {A : Type 0} (x y : A) (j : ℕ) → get_elem? (x ∷ []) j ≡ some y → (j ≡ 0) × (x ≡ y)
only_seat x y zero e = (refl, some-injective x y e)
only_seat x y (suc j) e = absurd (some-ne-none y (sym e))

module _ (rows : ℕ) where
  is_linked : (r : ℕ) → r ≡ 1 → first_owner rows r ≡ Linked
  is_linked r e = ap (λ b. cond b Linked (Free (rows - r))) (eq-eqb r 1 e)

  is_free : (r : ℕ) → r ≢ 1 → first_owner rows r ≡ Free (rows - r)
  is_free r n = ap (λ b. cond b Linked (Free (rows - r))) (ne_eqb r 1 n)

  height : (r k : ℕ) → first_owner rows r ≡ Free k → (r ≢ 1) × (rows - r ≡ k)
  height r k e = let n : r ≢ 1 = λ f. let x : Linked ≡ Free k = sym (is_linked r f) ∙ e in cc in
      (n, same_height (rows - r) k (sym (is_free r n) ∙ e))

  first_chain : (words : List ℕ) → 2 ≤ rows → head_row words ≡ 2
      → ((r : ℕ) → 2 ≤ r → r ≤ rows → first_of words r ≡ 0)
      → IsChain rows (first_owner rows) words (suc (rows - 2))
  first_chain words two head next = record {
    top = subst (IsTop rows (first_owner rows) (suc (rows - 2))) (sym head) (
      omega arith,
      two,
      refl,
    );
    below = λ r k lo hi e. let h = height r k e in let n = h.0 in let same = h.1 in
        (omega arith, below r k (omega arith) hi same);
    apart = λ r q k lo hi lo' hi' e f. let one = (height r k e).1 in let two = (height q k f).1 in
        omega arith;
  }
    where
      below : (r k : ℕ) → 2 ≤ r → r ≤ rows → rows - r ≡ k
          → IsTop rows (first_owner rows) k (next_below rows r (first_of words r))
      below r k lo hi same = dite (ℕ_discrete r rows)
          (λ (e : r ≡ rows). let z : 0 ≡ k = omega arith in
          let x : 0 ≡ next_below rows r (first_of words r) =
          sym (ap (λ (first : ℕ). next_below rows r first) (next r lo hi) ∙ ap (λ b. cond b 0 (r + 1)) (eq-eqb r rows e)) in
          subst (λ (y : ℕ × ℕ). IsTop rows (first_owner rows) y.0 y.1) (λ i. (z i, x i)) refl)
          (λ n. let z : suc (rows - (r + 1)) ≡ k = omega arith in
          let x : r + 1 ≡ next_below rows r (first_of words r) =
          sym (ap (λ (first : ℕ). next_below rows r first) (next r lo hi) ∙ ap (λ b. cond b 0 (r + 1)) (ne_eqb r rows n)) in
          subst (λ (y : ℕ × ℕ). IsTop rows (first_owner rows) y.0 y.1)
          (λ i. (z i, x i)) (omega arith, omega arith, is_free (r + 1) (λ f. omega arith)))

-- Nobody is pinned, and no pass was made.
first_pins : (words : List ℕ) → get_or words 1 0 ≤ last_epoch
    → ((pass : ℕ) → 0 < pass → pass ≤ 64 → announced words pass ≡ 0) → ArePins 0 words (unpinned 0 ∷ [])
first_pins words small absent = record {
  few = omega arith;
  small = small;
  each = λ j e here. let same = (only_seat (unpinned 0) e j here).1 in
      subst (IsPin 0 words (unpinned 0 ∷ []) j) same record {
        in_range = omega arith;
        is_pass = λ p. absurd cc;
        alone = λ lo. absurd (omega arith);
        absent = λ lo. absurd (omega arith);
        present = λ p. absurd cc;
        pinned_at = λ p. absurd cc;
        told_past = omega arith;
        scan_past = omega arith;
        scanned = λ now i d at low p. let x = (only_seat (unpinned 0) d i at).1 in
            let no : false ≡ true = ap (λ (y : Pin). y.pinned) x ∙ p in absurd cc;
        only = λ _ lo. absurd (omega arith);
      };
  unused = λ i lo hi. absent i lo hi;
}

module _ {U : Type 0} (linked lent : List ℕ → ℕ → Type 0) (noted : List ℕ → U → ℕ → Type 0)
    (fact : Sizes → ℕ → List ℕ → List U → Type 0)
    (opens : Sizes → ℕ → ℕ) (result : Sizes → ℕ) (first : U)
    (law : Opening linked lent noted fact opens result first) (z : Sizes) (words : List ℕ)
    (bounds : AreInBounds z) (usable : AreUsable z)
    (is : IsOpening opens result z words) where
  abbrev own : View U
  own = fresh z 0 first

  opened : Opened linked lent noted fact z first words
  opened = law z words bounds usable is.wide is.above is.results

  nobodys : (j r : ℕ) → claim_at (own ∷ []) j r ≡ none
  nobodys zero r = refl
  nobodys (suc j) r = refl

  no_notes : (m r : ℕ) → ¬ NotedAt noted words (own ∷ []) m r
  no_notes m r n = let same = (only_seat own n.d n.seat n.here).1 in
      opened.notes r (subst (λ (d : View U). noted words d.upper r) (sym same) n.note)

  first_row : (r : ℕ) → 0 < r → r ≤ z.rows
      → IsRow words (linked words) (lent words) (NotedAt noted words (own ∷ []))
      (claim_at (own ∷ [])) r (first_owner z.rows r)
  first_row r lo hi = dite (ℕ_discrete r 1)
      (λ (e : r ≡ 1).
      subst (IsRow words (linked words) (lent words) (NotedAt noted words (own ∷ []))
      (claim_at (own ∷ [])) r) (sym (is_linked z.rows r e))
      ((opened.links r).1 e, opened.lents r, λ j. nobodys j r))
      (λ n. subst (IsRow words (linked words) (lent words) (NotedAt noted words (own ∷ []))
      (claim_at (own ∷ [])) r) (sym (is_free z.rows r n))
      (((λ l. n ((opened.links r).0 l)), (λ m. no_notes m r)), λ j. nobodys j r))

  pub starts_ruled : Ruled linked lent noted fact z record {
    words =
        words;
    homes = [];
    views = own ∷ [];
  }
  starts_ruled = let least = bounds.least_rows in let most = bounds.most_rows in record {
    owner = first_owner z.rows;
    count = suc (z.rows - 2);
    made = 0;
    few = omega arith;
    within = omega arith;
    wide = is.wide;
    chain = first_chain z.rows words (omega arith) (ap (λ n. n % row_limit) is.head
        ∙ (in_head z.starts.tag 2 (omega arith)).1) is.free;
    row = first_row;
    seat = λ j d here. let same = (only_seat own d j here).1 in
        subst (Knows noted z 0 (first_owner z.rows) words j) same record {
          sizes_are = inr refl;
          made_are = λ _. refl;
          stage_is = tt;
          head_is = tt;
          unlost = λ _. refl;
          in_range = λ r c e. absurd (some-ne-none c (sym e));
          noted_pinned = λ r n. absurd (opened.notes r n);
        };
    claims = λ _ j r c e. absurd (some-ne-none c (sym e ∙ nobodys j r));
    pins = first_pins words (subst
        (λ x. x ≤ last_epoch) (sym is.epoch_is) bounds.epoch_start) is.absent;
    above = opened.stands;
  }
