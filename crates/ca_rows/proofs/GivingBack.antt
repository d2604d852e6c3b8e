-- What the steps that give kept rows back come to together.
use Rattle.std.proofs.Common.{◌≡◌, ◌≢◌, ◌⊎◌, ℕ, ◌+◌, ◌<◌, ◌≤◌, suc, max, List, ◌++◌, length, take, get_or, sym, refl, ap, ◌∙◌, subst, inl, inr, ⊎_elim, arith, le_refl}
use mathlib.Core.Logic.{dite}
use mathlib.Core.Option.{Option, some, none, some-injective, some-ne-none}
use native.Mathlib.Decide.{ℕ_discrete}
use Rattle.ca_rows.specs.declared.kept.Kept.{Kept}
use Rattle.ca_rows.specs.declared.view.Claim.{Claim}
use Rattle.ca_rows.specs.declared.view.Claim.TheVariants.{Holds, Lends, Unlinked, Keeps}
use Rattle.ca_rows.specs.declared.view.Claimed.{Claimed}
use Rattle.ca_rows.specs.declared.view.Stage.TheVariants.{Idle}
use Rattle.ca_rows.specs.Claims.{claim_of, claimed, dropped, held_count}
use Rattle.ca_rows.specs.Kept.{AreListed}
use Rattle.ca_rows.specs.Reclaiming.{Reclaims}
use Rattle.ca_rows.specs.Told.{Mine, with_claims, with_most, missed}
use Rattle.ca_rows.proofs.Claiming.{claimed_here, claimed_else, claimed_again, dropped_here, dropped_else, dropped_claimed}
use Rattle.ca_rows.proofs.HeldCount.{dropped_no_more, held_one_more, claimed_no_more}
use Rattle.ca_rows.proofs.Keeping.{claimed_list, dropped_list}
use Rattle.ca_rows.proofs.Listing.{last_out}

-- A row is kept or not.
kept_or_not : (o : Option Claim) → ((t : ℕ) × (o ≡ some (Keeps t))) ⊎ ((t : ℕ) → o ≢ some (Keeps t))
kept_or_not none = inr (λ t e. some-ne-none (Keeps t) (sym e))
kept_or_not (some (Holds its)) = inr
    (λ t e. let same = some-injective (Holds its) (Keeps t) e in cc)
kept_or_not (some Lends) = inr (λ t e. let same = some-injective Lends (Keeps t) e in cc)
kept_or_not (some Unlinked) = inr (λ t e. let same = some-injective Unlinked (Keeps t) e in cc)
kept_or_not (some (Keeps t)) = inl (t, refl)

kept_same : (t u : ℕ) → some (Keeps t) ≡ some (Keeps u) → t ≡ u
kept_same t u e = let same = some-injective (Keeps t) (Keeps u) e in cc

module _ {U : Type 0} where
  pub reclaims_refl : (m : Mine U) → Reclaims m m
  reclaims_refl m = record {
    same_sizes = refl;
    same_made = refl;
    same_number = refl;
    same_pinned = refl;
    same_pins = refl;
    same_told = refl;
    same_moment = refl;
    same_entered = refl;
    same_left = refl;
    same_begun = (refl, refl);
    same_upper = refl;
    same_slots = refl;
    later = le_refl m.0.pin.scan;
    more_looks = le_refl m.0.pin.looks;
    more_lags = le_refl m.0.pin.lags;
    more_lost = le_refl m.0.lost;
    same_empty = refl;
    same_worn = refl;
    no_more_held = le_refl (held_count m.0.claims);
    more_most = le_refl m.0.most;
    least_most = omega arith;
    others = λ r n. refl;
    kept = λ r t e. inr (t, le_refl t, e, λ _. refl);
  }

  pub reclaims_trans : (a b c : Mine U) → Reclaims a b → Reclaims b c → Reclaims a c
  reclaims_trans a b c x y = let up = x.later in let up' = y.later in let more = x.more_lost in
      let more' = y.more_lost in record {
        same_sizes = y.same_sizes ∙ x.same_sizes;
        same_made = y.same_made ∙ x.same_made;
        same_number = y.same_number ∙ x.same_number;
        same_pinned = y.same_pinned ∙ x.same_pinned;
        same_pins = y.same_pins ∙ x.same_pins;
        same_told = y.same_told ∙ x.same_told;
        same_moment = y.same_moment ∙ x.same_moment;
        same_entered = y.same_entered ∙ x.same_entered;
        same_left = y.same_left ∙ x.same_left;
        same_begun = (y.same_begun.0 ∙ x.same_begun.0, y.same_begun.1 ∙ x.same_begun.1);
        same_upper = y.same_upper ∙ x.same_upper;
        same_slots = y.same_slots ∙ x.same_slots;
        later = omega arith;
        more_looks = let looks = x.more_looks in let looks' = y.more_looks in omega arith;
        more_lags = let lags = x.more_lags in let lags' = y.more_lags in omega arith;
        more_lost = omega arith;
        same_empty = y.same_empty ∙ x.same_empty;
        same_worn = y.same_worn ∙ x.same_worn;
        no_more_held = let held = x.no_more_held in let held' = y.no_more_held in omega arith;
        more_most = let most = x.more_most in let most' = y.more_most in omega arith;
        least_most = let held = x.no_more_held in let least = x.least_most in
            let least' = y.least_most in omega arith;
        others = λ r n. y.others r (λ t e. n t (sym (x.others r n) ∙ e)) ∙ x.others r n;
        kept = λ r t e. ⊎_elim
            (λ (g : (claim_of b.0.claims r ≡ none) × (t + 2 ≤ b.0.pin.scan)). let two = g.1 in
            inl (y.others r (λ u f. some-ne-none (Keeps u) (sym f ∙ g.0)) ∙ g.0, omega arith))
            (λ (s : (u : ℕ) × (t ≤ u) × (claim_of b.0.claims r ≡ some (Keeps u))
            × (b.0.lost ≡ a.0.lost → u ≡ t)). let low = s.1 in ⊎_elim
            (λ (g : (claim_of c.0.claims r ≡ none) × (s.0 + 2 ≤ c.0.pin.scan)). let two = g.1 in
            inl (g.0, omega arith))
            (λ (v : (w : ℕ) × (s.0 ≤ w) × (claim_of c.0.claims r ≡ some (Keeps w))
            × (c.0.lost ≡ b.0.lost → w ≡ s.0)). let low' = v.1 in
            inr (v.0, omega arith, v.2, λ same. v.3 (omega arith) ∙ s.3 (omega arith)))
            (y.kept r s.0 s.2))
            (x.kept r t e);
      }

  -- What is kept after was kept before.
  pub was_kept : (m m' : Mine U) → Reclaims m m' → (r t' : ℕ)
      → claim_of m'.0.claims r ≡ some (Keeps t')
      → (t : ℕ) × (claim_of m.0.claims r ≡ some (Keeps t)) × (m'.0.lost ≡ m.0.lost → t' ≡ t)
  was_kept m m' x r t' e = ⊎_elim
      (λ (k : (t : ℕ) × (claim_of m.0.claims r ≡ some (Keeps t))). ⊎_elim
      (λ (g : (claim_of m'.0.claims r ≡ none)
      × (k.0 + 2 ≤ m'.0.pin.scan)). absurd (some-ne-none (Keeps t') (sym e ∙ g.0)))
      (λ (s : (u : ℕ) × (k.0 ≤ u) × (claim_of m'.0.claims r ≡ some (Keeps u))
      × (m'.0.lost ≡ m.0.lost → u ≡ k.0)).
      (k.0, k.1, λ same. kept_same t' s.0 (sym e ∙ s.2) ∙ s.3 same))
      (x.kept r k.0 k.1))
      (λ n. absurd (n t' (sym (x.others r n) ∙ e)))
      (kept_or_not (claim_of m.0.claims r))

  -- One kept row was given back, or is kept since another epoch, and an exchange lost.
  module _ (m m' : Mine U) (q t : ℕ) (was : claim_of m.0.claims q ≡ some (Keeps t))
      (old : t + 2 ≤ m.0.pin.scan) where
    only : (xs : List Claimed) (lost most : ℕ)
        → m' ≡ (record m.0 { stage = Idle; claims = xs; lost = lost; most = most }, m.1)
        → m.0.lost ≤ lost
        → held_count xs ≤ held_count m.0.claims → m.0.most ≤ most
        → most ≤ max m.0.most (held_count m.0.claims + 1)
        → ((r : ℕ) → r ≢ q → claim_of xs r ≡ claim_of m.0.claims r)
        → (claim_of xs q ≡ none) × (t + 2 ≤ m.0.pin.scan)
        ⊎ ((t' : ℕ) × (t ≤ t') × (claim_of xs q ≡ some (Keeps t')) × (lost ≡ m.0.lost → t' ≡ t))
        → Reclaims m m'
    only xs lost most e more held more_most least_most
        else here = subst (λ x. Reclaims m x) (sym e) record {
          same_sizes = refl;
          same_made = refl;
          same_number = refl;
          same_pinned = refl;
          same_pins = refl;
          same_told = refl;
          same_moment = refl;
          same_entered = refl;
          same_left = refl;
          same_begun = (refl, refl);
          same_upper = refl;
          same_slots = refl;
          later = le_refl m.0.pin.scan;
          more_looks = le_refl m.0.pin.looks;
          more_lags = le_refl m.0.pin.lags;
          more_lost = more;
          same_empty = refl;
          same_worn = refl;
          no_more_held = held;
          more_most = more_most;
          least_most = least_most;
          others = λ r n. else r (λ f. n t (ap (claim_of m.0.claims) f ∙ was));
          kept = λ r u is. dite (ℕ_discrete r q)
              (λ (f : r ≡ q). let same : t ≡ u =
              kept_same t u (sym was ∙ (ap (claim_of m.0.claims) (sym f) ∙ is)) in
              subst (λ (y : ℕ × ℕ). (claim_of xs y.0 ≡ none) × (y.1 + 2 ≤ m.0.pin.scan)
              ⊎ ((t' : ℕ) × (y.1 ≤ t') × (claim_of xs y.0 ≡ some (Keeps t'))
              × (lost ≡ m.0.lost → t' ≡ y.1))) (λ i. (sym f i, same i)) here)
              (λ n. inr (u, le_refl u, else r n ∙ is, λ _. refl));
        }

    module _ (m1 m2 : Mine U) (its : List ℕ)
        (held : m1 ≡ with_most (
          record m.0 { claims = claimed q (Holds its) m.0.claims },
          m.1,
        )) where
      -- the most rows that are held at once
      most_now : ℕ
      most_now = max m.0.most (held_count (claimed q (Holds its) m.0.claims))

      least_now : most_now ≤ max m.0.most (held_count m.0.claims + 1)
      unfolding most_now
      least_now = let one_more = held_one_more q its m.0.claims in omega arith

      more_now : m.0.most ≤ most_now
      unfolding most_now
      more_now = omega arith

      -- held, and put back
      pub put_back : m' ≡ with_claims m1 (dropped q m1.0.claims) → Reclaims m m'
          × (m'.0.pin ≡ m.0.pin) × (m'.0.lost ≡ m.0.lost)
      unfolding most_now
      put_back put = let xs : List Claimed = dropped q (claimed q (Holds its) m.0.claims) in
          let fewer = ap held_count (dropped_claimed m.0.claims q (Holds its)) in
          let fewer' = dropped_no_more q m.0.claims in
          let now : m'
          ≡ (record m.0 { stage = Idle; claims = xs; lost = m.0.lost; most = most_now }, m.1) =
          put ∙ ap (λ (x : Mine U). with_claims x (dropped q x.0.claims)) held in (
            only xs m.0.lost most_now now (le_refl m.0.lost) (omega arith) more_now least_now
                (λ r n. dropped_else (claimed q (Holds its) m.0.claims) q r n
                ∙ claimed_else m.0.claims q r (Holds its) n)
                (inl (dropped_here (claimed q (Holds its) m.0.claims) q, old)),
            ap (λ (x : Mine U). x.0.pin) now,
            ap (λ (x : Mine U). x.0.lost) now,
          )

      -- held, and kept again
      pub kept_again : (its' : List ℕ) (e : ℕ)
          → m2 ≡ missed (with_claims m1 (claimed q (Holds its') m1.0.claims))
          → m' ≡ (record m2.0 { claims = claimed q (Keeps e) m2.0.claims }, m2.1)
          → m2.0.pin.scan ≤ e
          → Reclaims m m' × (m'.0.pin ≡ m.0.pin) × (m'.0.lost ≡ m.0.lost + 1)
      unfolding most_now
      kept_again its' e lost retired after =
          let xs : List Claimed = claimed q (Holds its') (claimed q (Holds its) m.0.claims) in
          let fewer =
          ap held_count (claimed_again (claimed q (Holds its) m.0.claims) q (Holds its')
          (Keeps e)
          ∙ claimed_again m.0.claims q (Holds its) (Keeps e)) in
          let fewer' = claimed_no_more q (Keeps e) m.0.claims refl in
          let missed_is : m2
          ≡ (
            record m.0 { stage = Idle; claims = xs; lost = m.0.lost + 1; most = most_now },
            m.1,
          ) =
          lost ∙ ap (λ (x : Mine U).
          missed (with_claims x (claimed q (Holds its') x.0.claims))) held in
          let now : m'
          ≡ (
            record m.0 {
              stage =
                  Idle;
              claims = claimed q (Keeps e) xs;
              lost = m.0.lost + 1;
              most = most_now;
            },
            m.1,
          ) =
          retired ∙ ap
          (λ (x : Mine U). (record x.0 { claims = claimed q (Keeps e) x.0.claims }, x.1))
          missed_is in
          let same : m2.0.pin.scan ≡ m.0.pin.scan = ap (λ (x : Mine U). x.0.pin.scan) missed_is in (
            only (claimed q (Keeps e) xs) (m.0.lost + 1) most_now now (omega arith) (omega arith)
                more_now least_now
                (λ r n. claimed_else xs q r (Keeps e) n
                ∙ (claimed_else (claimed q (Holds its) m.0.claims) q r (Holds its') n
                ∙ claimed_else m.0.claims q r (Holds its) n))
                (inr (e, omega arith, claimed_here xs q (Keeps e), λ f. absurd (omega arith))),
            ap (λ (x : Mine U). x.0.pin) now,
            ap (λ (x : Mine U). x.0.lost) now,
          )

-- The last row before a part of the list that was given back is held.
module _ {U : Type 0} (rows : ℕ) (m m1 m2 : Mine U) (ks ys : List Kept) (at : ℕ) (d : Kept)
    (inside : at < length ks)
    (k : AreListed rows m.0.claims (take (suc at) ks ++ ys)) (q : ℕ) (is : q ≡ (get_or ks at d).row)
    (its : List ℕ)
    (held : m1 ≡ with_most (
      record m.0 { claims = claimed q (Holds its) m.0.claims },
      m.1,
    )) where
  list_held : AreListed rows m1.0.claims (take at ks ++ ys)
  list_held = subst (λ (x : Mine U). AreListed rows x.0.claims (take at ks ++ ys)) (sym held)
      (last_out rows m.0.claims ks ys at d inside k q (Holds its) is (λ t e. cc))

  not_kept : (t : ℕ) → claim_of m1.0.claims q ≢ some (Keeps t)
  not_kept t e = let held_is = ap (λ (x : Mine U). claim_of x.0.claims q) held
      ∙ claimed_here m.0.claims q (Holds its) in
      let clash = some-injective (Holds its) (Keeps t) (sym held_is ∙ e) in cc

  -- It is put back.
  pub list_given : m2 ≡ with_claims m1 (dropped q m1.0.claims)
      → AreListed rows m2.0.claims (take at ks ++ ys)
  list_given put = subst (λ (x : Mine U). AreListed rows x.0.claims (take at ks ++ ys)) (sym put)
      (dropped_list rows m1.0.claims (take at ks ++ ys) list_held q not_kept)

  -- The exchange lost.
  pub list_lost : (its' : List ℕ)
      → m2 ≡ missed (with_claims m1 (claimed q (Holds its') m1.0.claims))
      → AreListed rows m2.0.claims (take at ks ++ ys)
  list_lost its' lost = subst
      (λ (x : Mine U). AreListed rows x.0.claims (take at ks ++ ys)) (sym lost)
      (claimed_list rows m1.0.claims (take at ks ++ ys) list_held q (Holds its')
      (λ t e. cc) not_kept)
