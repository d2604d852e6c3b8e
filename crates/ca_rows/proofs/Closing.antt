-- A pass's seat is joined into the space's own one.
use Rattle.std.proofs.Common.{◌≡◌, ◌≢◌, ℕ, zero, suc, ◌<◌, ◌≤◌, eqb, cond, false, true, List, [], ◌∷◌, ◌++◌, map, length, set, sym, refl, ap, ◌∙◌, subst, inl, ⊎_elim, arith, le_refl, eq-eqb, ne_eqb}
use Rattle.std.proofs.Common.{get_or, length-append}
use Rattle.std.specs.List.{All}
use Rattle.std.proofs.lemmas.List.{map-set}
use mathlib.Core.Logic.{dite}
use mathlib.Core.Option.{Option, some, none, some-ne-none}
use native.Mathlib.Decide.{ℕ_discrete}
use lib.ListN.{get_elem?}
use Rattle.atomic_table.specs.Table.{State, Joins}
use Rattle.atomic_table.proofs.Lists.{at_set, at_map, set_again, set_else}
use Rattle.ca_rows.specs.declared.sizes.Sizes.{Sizes}
use Rattle.ca_rows.specs.declared.view.Claim.{Claim}
use Rattle.ca_rows.specs.declared.view.Claimed.{Claimed}
use Rattle.ca_rows.specs.declared.view.Pin.{Pin}
use Rattle.ca_rows.specs.declared.view.Stage.{Stage}
use Rattle.ca_rows.specs.declared.view.View.{View}
use Rattle.ca_rows.specs.Account.{IsAlone, IsClaim, IsRow}
use Rattle.ca_rows.specs.Chain.{Owner, Free, Linked, Of, IsStage}
use Rattle.ca_rows.specs.Claims.{claim_of, claim_at}
use Rattle.ca_rows.specs.Closed.{joined as join_views, joined_from}
use Rattle.ca_rows.specs.Laws.{Closing}
use Rattle.ca_rows.specs.Pins.{IsPin, ArePins, unpinned}
use Rattle.ca_rows.specs.Rule.{fresh, no_sizes, upper_of, pin_of, AreOfOne, NotedAt, Knows, Ruled}
use Rattle.ca_rows.specs.Words.{head_tag}
use Rattle.ca_rows.proofs.Accounts.{claim_fewer}
use Rattle.ca_rows.proofs.Chains.{chain_stays, stage_stays}
use Rattle.ca_rows.proofs.Claiming.{claim_mine, claim_others, claim_there, there}
use Rattle.ca_rows.proofs.Rules.{all_seats}

-- The first of two lists of claims decides.
claim_first : (xs ys : List Claimed) (r : ℕ) (c : Claim) → claim_of xs r ≡ some c
    → claim_of (xs ++ ys) r ≡ some c
claim_first [] ys r c e = absurd (some-ne-none c (sym e))
claim_first (x ∷ xs) ys r c e = dite (ℕ_discrete x.row r)
    (λ f. ap (λ b. cond b (some x.claim) (claim_of (xs ++ ys) r)) (eq-eqb x.row r f)
    ∙ (sym (ap (λ b. cond b (some x.claim) (claim_of xs r)) (eq-eqb x.row r f)) ∙ e))
    (λ n. ap (λ b. cond b (some x.claim) (claim_of (xs ++ ys) r)) (ne_eqb x.row r n)
    ∙ claim_first xs ys r c (sym (ap
    (λ b. cond b (some x.claim) (claim_of xs r)) (ne_eqb x.row r n)) ∙ e))

claim_second : (xs ys : List Claimed) (r : ℕ) → claim_of xs r ≡ none
    → claim_of (xs ++ ys) r ≡ claim_of ys r
claim_second [] ys r e = refl
claim_second (x ∷ xs) ys r e = dite (ℕ_discrete x.row r)
    (λ f. absurd (some-ne-none x.claim
    (sym (ap (λ b. cond b (some x.claim) (claim_of xs r)) (eq-eqb x.row r f)) ∙ e)))
    (λ n. ap (λ b. cond b (some x.claim) (claim_of (xs ++ ys) r)) (ne_eqb x.row r n)
    ∙ claim_second xs ys r (sym (ap (λ b. cond b (some x.claim) (claim_of xs r)) (ne_eqb x.row r n))
    ∙ e))

-- A pass's pin goes away, where it isn't pinned.
pins_fewer : (made : ℕ) (words : List ℕ) (pins : List Pin) (id : ℕ) → ArePins made words pins
    → ArePins made words (set pins id (unpinned 0))
pins_fewer made words pins id p = record {
  few = p.few;
  small = p.small;
  each = all_seats (IsPin made words (set pins id (unpinned 0))) pins id (unpinned 0) mine other;
  unused = p.unused;
}
  where
    blank : (d : Pin) → unpinned 0 ≡ d → d.pinned ≡ true → ⊥
    blank d e pinned = let no : false ≡ true = ap (λ (y : Pin). y.pinned) e ∙ pinned in cc

    mine : IsPin made words (set pins id (unpinned 0)) id (unpinned 0)
    mine = record {
      in_range = omega arith;
      is_pass = λ pinned. absurd cc;
      alone = λ lo. absurd (omega arith);
      absent = λ lo. absurd (omega arith);
      present = λ pinned. absurd cc;
      pinned_at = λ pinned. absurd cc;
      told_past = omega arith;
      scan_past = omega arith;
      scanned = λ now i d here low pinned. ⊎_elim
          (λ (t : (i ≡ id) × (unpinned 0 ≡ d)). absurd (blank d t.1 pinned))
          (λ (t : (i ≢ id) × (get_elem? pins i ≡ some d)).
          let k = (p.each i d t.1).is_pass pinned in absurd (omega arith))
          (at_set pins id i (unpinned 0) d here);
      only = λ _ lo. absurd (omega arith);
    }

    other : (j : ℕ) (e : Pin) → j ≢ id → get_elem? pins j ≡ some e
        → IsPin made words (set pins id (unpinned 0)) j e
    other j e ne here = let k = p.each j e here in record {
      in_range = k.in_range;
      is_pass = k.is_pass;
      alone = λ lo i d at same. ⊎_elim
          (λ (t : (i ≡ id) × (unpinned 0 ≡ d)).
          let n : 0 ≡ d.number = ap (λ (y : Pin). y.number) t.1 in absurd (omega arith))
          (λ (t : (i ≢ id) × (get_elem? pins i ≡ some d)).
          k.alone lo i d t.1 same) (at_set pins id i (unpinned 0) d at);
      absent = k.absent;
      present = k.present;
      pinned_at = k.pinned_at;
      told_past = k.told_past;
      scan_past = k.scan_past;
      scanned = λ now i d at low pinned. ⊎_elim
          (λ (t : (i ≡ id) × (unpinned 0 ≡ d)). absurd (blank d t.1 pinned))
          (λ (t : (i ≢ id) × (get_elem? pins i ≡ some d)).
          k.scanned now i d t.1 low pinned) (at_set pins id i (unpinned 0) d at);
      only = k.only;
    }

-- What was the seat's is that of the seat that takes it in.
abbrev passed : ℕ → ℕ → Owner → Owner
passed own seat (Free k) = Free k
passed own seat Linked = Linked
passed own seat (Of i) = cond (eqb i seat) (Of own) (Of i)

passed_free : (own seat k : ℕ) (o : Owner) → passed own seat o ≡ Free k → o ≡ Free k
passed_free own seat k (Free j) e = e
passed_free own seat k Linked e = absurd cc
passed_free own seat k (Of i) e = dite (ℕ_discrete i seat)
    (λ f. let no : Of own ≡ Free k = sym (ap (λ b. cond b (Of own) (Of i)) (eq-eqb i seat f)) ∙ e in
    absurd cc)
    (λ n. let no : Of i ≡ Free k = sym (ap (λ b. cond b (Of own) (Of i)) (ne_eqb i seat n)) ∙ e in
    absurd cc)

module _ {U : Type 0} (linked lent : List ℕ → ℕ → Type 0) (noted : List ℕ → U → ℕ → Type 0)
    (fact : Sizes → ℕ → List ℕ → List U → Type 0) (both : U → U → U)
    (spent : U) (law : Closing linked lent noted fact both spent) (z : Sizes) where
  abbrev pub joined : View U → View U → View U
  joined v w = record v { claims = v.claims ++ w.claims; upper = both v.upper w.upper }

  abbrev pub left_over : View U
  left_over = fresh no_sizes 0 spent

  module _ (s : State (Unit {0}) (View U)) (r : Ruled linked lent noted fact z s) (own : ℕ)
      (v w : View U) (seat : ℕ) (at : get_elem? s.views own ≡ some v)
      (apart : ¬ (seat ≡ own)) (at_seat : get_elem? (set s.views own (joined v w)) seat ≡ some w)
      (out : v.pin.pinned ≡ false) (out' : w.pin.pinned ≡ false)
      (none_made : seat ≡ 0 → w.made ≡ 0) where
    abbrev closed : List (View U)
    closed = set (set s.views own (joined v w)) seat left_over

    was_there : get_elem? s.views seat ≡ some w
    was_there = sym (set_else s.views own seat (joined v w) apart) ∙ at_seat

    here : get_elem? (set s.views own (joined v w)) own ≡ some (joined v w)
    here = there s.views own v (joined v w) at

    -- each seat afterwards: the space's own, the one that is spent, or another one as it was
    each : (A : Type 0) (j : ℕ) (d : View U) → get_elem? closed j ≡ some d
        → ((j ≡ own) → joined v w ≡ d → A) → ((j ≡ seat) → left_over ≡ d → A)
        → ((j ≢ own) → (j ≢ seat) → get_elem? s.views j ≡ some d → A) → A
    each A j d e first gone rest = ⊎_elim (λ (t : (j ≡ seat) × (left_over ≡ d)). gone t.0 t.1)
        (λ (t : (j ≢ seat) × (get_elem? (set s.views own (joined v w)) j ≡ some d)). ⊎_elim
        (λ (x : (j ≡ own) × (joined v w ≡ d)). first x.0 x.1)
        (λ (x : (j ≢ own) × (get_elem? s.views j ≡ some d)). rest x.0 t.0 x.1)
        (at_set s.views own j (joined v w) d t.1))
        (at_set (set s.views own (joined v w)) seat j left_over d e)

    unnoted : (d : View U) (j c : ℕ) → get_elem? s.views j ≡ some d → d.pin.pinned ≡ false
        → ¬ noted s.words d.upper c
    unnoted d j c e un n = let no : false ≡ true = sym un ∙ (r.seat j d e).noted_pinned c n in cc

    joined_unnoted : (c : ℕ) → ¬ noted s.words (both v.upper w.upper) c
    joined_unnoted c n =
        ⊎_elim (unnoted v own c at out) (unnoted w seat c was_there out')
        (law.closing_notes s.words v.upper w.upper c n)

    notes_before : (m c : ℕ) → NotedAt noted s.words closed m c → NotedAt noted s.words s.views m c
    notes_before m c n = each (NotedAt noted s.words s.views m c) n.seat n.d n.here
        (λ _ e. absurd (joined_unnoted c (subst
        (λ (d : View U). noted s.words d.upper c) (sym e) n.note)))
        (λ _ e. absurd (law.spent_notes s.words c (subst
        (λ (d : View U). noted s.words d.upper c) (sym e) n.note)))
        (λ _ _ e. record { seat = n.seat; d = n.d; here = e; note = n.note; at = n.at })

    claim_spent : (c : ℕ) → claim_at closed seat c ≡ none
    claim_spent c = claim_mine (set s.views own (joined v w)) seat w left_over at_seat c

    claim_own : (c : ℕ) → claim_at closed own c ≡ claim_of (v.claims ++ w.claims) c
    claim_own c = claim_others (set s.views own (joined v w)) seat w left_over at_seat own c
        (λ e. apart (sym e)) ∙ claim_mine s.views own v (joined v w) at c

    claim_rest : (j c : ℕ) → j ≢ own → j ≢ seat → claim_at closed j c ≡ claim_at s.views j c
    claim_rest j c n m = claim_others (set s.views own (joined v w)) seat w left_over at_seat j c m
        ∙ claim_others s.views own v (joined v w) at j c n

    -- where neither seat claims the row, nobody new does
    claim_none : (c : ℕ) → claim_at s.views own c ≡ none → claim_at s.views seat c ≡ none
        → claim_at closed own c ≡ none
    claim_none c e f = claim_own c
        ∙ (claim_second v.claims w.claims c (sym (claim_there s.views own v v at c) ∙ e)
        ∙ (sym (claim_there s.views seat w w was_there c) ∙ f))

    no_claims : (c : ℕ) → ((j : ℕ) → claim_at s.views j c ≡ none) → (j : ℕ)
        → claim_at closed j c ≡ none
    no_claims c unclaimed j = dite (ℕ_discrete j seat)
        (λ e. ap (λ x. claim_at closed x c) e ∙ claim_spent c)
        (λ m. dite (ℕ_discrete j own)
        (λ e. ap (λ x. claim_at closed x c) e ∙ claim_none c (unclaimed own) (unclaimed seat))
        (λ n. claim_rest j c n m ∙ unclaimed j))

    alone_too : (c : ℕ)
        → IsAlone s.words (linked s.words) (lent s.words) (NotedAt noted s.words s.views) c
        → IsAlone s.words (linked s.words) (lent s.words) (NotedAt noted s.words closed) c
    alone_too c a = (a.0, λ m n. a.1 m (notes_before m c n))

    row_passed : (c : ℕ) (o : Owner)
        → IsRow s.words (linked s.words) (lent s.words) (NotedAt noted s.words s.views)
        (claim_at s.views) c o
        → IsRow s.words (linked s.words) (lent s.words) (NotedAt noted s.words closed)
        (claim_at closed) c (passed own seat o)
    row_passed c (Free k) x = (alone_too c x.0, no_claims c x.1)
    row_passed c Linked x = (x.0, x.1, no_claims c x.2)
    row_passed c (Of i) x = dite (ℕ_discrete i seat)
        (λ e. let none_own : claim_at s.views own c ≡ none = x.1 own (λ f. apart (sym (f ∙ e))) in
        subst Now (sym (ap (λ b. cond b (Of own) (Of i)) (eq-eqb i seat e))) (
          (
            x.0.0,
            claim_own c
                ∙ (claim_second v.claims w.claims c (sym (claim_there s.views own v v at c)
                ∙ none_own)
                ∙ (sym (claim_there s.views seat w w was_there c)
                ∙ (ap (λ y. claim_at s.views y c) (sym e) ∙ x.0.1))),
            claim_too x.0.0 x.0.2,
          ),
          λ j n. dite (ℕ_discrete j seat) (λ f. ap (λ y. claim_at closed y c) f ∙ claim_spent c)
              (λ m. claim_rest j c n m ∙ x.1 j (λ f. m (f ∙ e))),
        ))
        (λ n. let none_seat : claim_at s.views seat c ≡ none = x.1 seat (λ f. n (sym f)) in
        subst Now (sym (ap (λ b. cond b (Of own) (Of i)) (ne_eqb i seat n)))
        (dite (ℕ_discrete i own)
        (λ e. (
          (
            x.0.0,
            ap (λ y. claim_at closed y c) e ∙ (claim_own c
                ∙ claim_first v.claims w.claims c x.0.0 (sym (claim_there s.views own v v at c)
                ∙ (ap (λ y. claim_at s.views y c) (sym e) ∙ x.0.1))),
            claim_too x.0.0 x.0.2,
          ),
          λ j m. dite (ℕ_discrete j seat) (λ f. ap (λ y. claim_at closed y c) f ∙ claim_spent c)
              (λ k. claim_rest j c (λ f. m (f ∙ sym e)) k ∙ x.1 j m),
        ))
        (λ i0. (
          (x.0.0, claim_rest i c i0 n ∙ x.0.1, claim_too x.0.0 x.0.2),
          λ j m. dite (ℕ_discrete j seat) (λ f. ap (λ y. claim_at closed y c) f ∙ claim_spent c)
              (λ k. dite (ℕ_discrete j own)
              (λ f. ap (λ y. claim_at closed y c) f
              ∙ claim_none c (x.1 own (λ g. i0 (sym g))) none_seat)
              (λ j0. claim_rest j c j0 k ∙ x.1 j m)),
        ))))
      where
        Now : Owner → Type 0
        Now o = IsRow s.words (linked s.words) (lent s.words) (NotedAt noted s.words closed)
            (claim_at closed) c o

        claim_too : (y : Claim)
            → IsClaim s.words (linked s.words) (lent s.words) (NotedAt noted s.words s.views) c y
            → IsClaim s.words (linked s.words) (lent s.words) (NotedAt noted s.words closed) c y
        claim_too y =
            claim_fewer s.words (linked s.words) (lent s.words) (NotedAt noted s.words s.views)
            (NotedAt noted s.words closed) c (λ m n. notes_before m c n) y

    -- Where one pass was made at most, a seat that has a row is still that of the pass, or took it in.
    claims_now : AreOfOne r.made closed
    claims_now few i c x has = dite (ℕ_discrete i seat)
        (λ e. absurd (some-ne-none x
        (sym (ap (λ y. claim_at closed y c) (sym e) ∙ has) ∙ claim_spent c)))
        (λ m. dite (ℕ_discrete i own)
        (λ e. by_own e (claim_of v.claims c) refl
        (sym (claim_own c) ∙ (ap (λ y. claim_at closed y c) (sym e) ∙ has)))
        (λ n. only_it (r.claims few i c x (sym (claim_rest i c n m) ∙ has))))
      where
        Only : List (View U) → ℕ → Type 0
        Only vs k = (r.made ≡ 1)
            × ((j : ℕ) (d : View U) → get_elem? vs j ≡ some d → 0 < d.pin.number → j ≡ k)

        no_pass : (d : View U) → left_over ≡ d → 0 < d.pin.number → ⊥
        no_pass d e lo = let none : 0 ≡ d.pin.number = ap (λ (y : View U). y.pin.number) e in
            absurd (omega arith)

        owner_number : (d : View U) → joined v w ≡ d → 0 < d.pin.number → 0 < v.pin.number
        owner_number d e lo = subst (λ (y : View U). 0 < y.pin.number) (sym e) lo

        only_it : Only s.views i → Only closed i
        only_it o = (
          o.0,
          λ j d here lo. each (j ≡ i) j d here
              (λ is e. is ∙ o.1 own v at (owner_number d e lo))
              (λ _ e. absurd (no_pass d e lo)) (λ _ _ e. o.1 j d e lo),
        )

        by_own : i ≡ own → (o : Option Claim) → claim_of v.claims c ≡ o
            → claim_of (v.claims ++ w.claims) c ≡ some x → Only closed i
        by_own e (some y) was now = only_it
            (r.claims few i c y (ap (λ k. claim_at s.views k c) e
            ∙ (claim_there s.views own v v at c ∙ was)))
        by_own e none was now =
            let o = r.claims few seat c x (claim_there s.views seat w w was_there c
            ∙ (sym (claim_second v.claims w.claims c was) ∙ now)) in (
              o.0,
              λ j d here lo. each (j ≡ i) j d here (λ is _. is ∙ sym e)
                  (λ _ f. absurd (no_pass d f lo)) (λ _ n f. absurd (n (o.1 j d f lo))),
            )

    pub closes : Ruled linked lent noted fact z record {
      words =
          s.words;
      homes = s.homes;
      views = closed;
    }
    closes = record {
      owner = λ c. passed own seat (r.owner c);
      count = r.count;
      made = r.made;
      few = r.few;
      within = r.within;
      wide = r.wide;
      chain = chain_stays z.rows r.owner s.words s.words r.count r.chain
          (λ c. passed own seat (r.owner c)) refl (λ c k _ _ e. (ap (passed own seat) e, refl))
          (λ c k _ _ e. passed_free own seat k (r.owner c) e);
      row = λ c lo hi. row_passed c (r.owner c) (r.row c lo hi);
      seat = λ j d e. let mine = r.seat own v at in
          each (Knows noted z r.made (λ c. passed own seat (r.owner c)) s.words j d) j d e
          (λ is same. subst (λ (x : View U). Knows noted z r.made
          (λ c. passed own seat (r.owner c)) s.words j x) same record {
            sizes_are = mine.sizes_are;
            made_are = λ e. mine.made_are (sym is ∙ e);
            stage_is = stages v.stage mine.stage_is;
            head_is = mine.head_is;
            unlost = mine.unlost;
            in_range = λ c x f. by_claims c x f (claim_of v.claims c) refl;
            noted_pinned = λ c n. absurd (joined_unnoted c n);
          })
          (λ is same. subst (λ (x : View U). Knows noted z r.made
          (λ c. passed own seat (r.owner c)) s.words j x) same record {
            sizes_are = inl refl;
            made_are = λ f. let first : seat ≡ 0 = sym is ∙ f in
                sym (none_made first) ∙ (r.seat seat w was_there).made_are first;
            stage_is = tt;
            head_is = tt;
            unlost = λ _. refl;
            in_range = λ c x f. absurd (some-ne-none x (sym f));
            noted_pinned = λ c n. absurd (law.spent_notes s.words c n);
          })
          (λ n m there. let k = r.seat j d there in record {
            sizes_are = k.sizes_are;
            made_are = k.made_are;
            stage_is = stages d.stage k.stage_is;
            head_is = k.head_is;
            unlost = k.unlost;
            in_range = k.in_range;
            noted_pinned = k.noted_pinned;
          });
      claims = claims_now;
      pins = subst (ArePins r.made s.words)
          (sym (map-set pin_of (set s.views own (joined v w)) seat left_over
          ∙ ap (λ xs. set xs seat (unpinned 0)) (map-set pin_of s.views own (joined v w)
          ∙ set_again (map pin_of s.views) own v.pin (at_map pin_of s.views own v at))))
          (pins_fewer r.made s.words (map pin_of s.views) seat r.pins);
      above = subst (fact z r.made s.words)
          (sym (map-set upper_of (set s.views own (joined v w)) seat left_over
          ∙ ap (λ xs. set xs seat spent) (map-set upper_of s.views own (joined v w))))
          (law.keeps_closing z r.made (map upper_of s.views) s.words own seat v.upper w.upper
          r.above (at_map upper_of s.views own v at) apart
          (at_map upper_of s.views seat w was_there));
    }
      where
        stages : (st : Stage) → IsStage z.rows r.owner s.words st
            → IsStage z.rows (λ c. passed own seat (r.owner c)) s.words st
        stages = stage_stays z.rows r.owner s.words s.words r.count r.chain
            (λ c. passed own seat (r.owner c)) (le_refl (head_tag s.words))
            (λ _ c k lo hi e. ((k, lo, hi, ap (passed own seat) e), refl))

        by_claims : (c : ℕ) (x : Claim) → claim_of (v.claims ++ w.claims) c ≡ some x
            → (o : Option Claim) → claim_of v.claims c ≡ o → (0 < c) × (c ≤ z.rows)
        by_claims c x f (some y) e = (r.seat own v at).in_range c y e
        by_claims c x f none e =
            (r.seat seat w was_there).in_range c x (sym (claim_second v.claims w.claims c e) ∙ f)

  -- A seat takes in another one. Where that is the space's own, it made no pass.
  pub joins : (own : ℕ) (v w : View U) (seat : ℕ) → v.pin.pinned ≡ false → w.pin.pinned ≡ false
      → (¬ (seat ≡ own) → seat ≡ 0 → w.made ≡ 0)
      → Joins (Ruled linked lent noted fact z) own v seat w (joined v w) left_over
  joins own v w seat out out' none_made s r at apart at_seat =
      closes s r own v w seat at apart at_seat out out' (none_made apart)

-- The last view is joined in first.
pub joined_behind : {U P : Type 0} (both : U → U → U) (v : View U) (f : P → View U) (xs : List P)
    (x : P)
    → joined_from both v (map f (xs ++ x ∷ []))
    ≡ joined_from both (join_views both v (f x)) (map f xs)
joined_behind both v f [] x = refl
joined_behind both v f (y ∷ ys) x = ap (λ d. join_views both d (f y)) (joined_behind both v f ys x)

front_is : {A : Type 0} (xs : List A) (x : A) (k : ℕ) (d : A) → k < length xs
    → get_or (xs ++ x ∷ []) k d ≡ get_or xs k d
front_is [] x k d l = absurd (omega arith)
front_is (y ∷ ys) x zero d l = refl
front_is (y ∷ ys) x (suc k) d l = front_is ys x k d (omega arith)

-- What holds of all holds of all but the last.
pub all_front : {A : Type 0} (P : A → Type 0) (xs : List A) (x : A) → All P (xs ++ x ∷ [])
    → All P xs
all_front P xs x all k d l =
    subst P (front_is xs x k d l) (all k d (omega (arith, length-append xs (x ∷ []))))

last_is : {A : Type 0} (xs : List A) (x d : A) → get_or (xs ++ x ∷ []) (length xs) d ≡ x
last_is [] x d = refl
last_is (y ∷ ys) x d = last_is ys x d

-- It holds of the last.
pub all_last : {A : Type 0} (P : A → Type 0) (xs : List A) (x : A) → All P (xs ++ x ∷ []) → P x
all_last P xs x all =
    subst P (last_is xs x x) (all (length xs) x (omega (arith, length-append xs (x ∷ []))))
