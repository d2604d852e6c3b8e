-- The list of the rows that a pass keeps, by its places.
use Rattle.std.proofs.Common.{◌≡◌, ◌≢◌, ℕ, zero, suc, ◌+◌, ◌<◌, ◌≤◌, List, [], ◌∷◌, ◌++◌, length, take, drop, get_or, sym, refl, ap, ◌∙◌, subst, ⊎_elim, arith, le_refl}
use mathlib.Core.Logic.{dite}
use mathlib.Core.Option.{some, some-injective, some-ne-none}
use native.Mathlib.Decide.{ℕ_discrete}
use Rattle.ca_rows.specs.declared.kept.Kept.{Kept}
use Rattle.ca_rows.specs.declared.view.Claim.{Claim}
use Rattle.ca_rows.specs.declared.view.Claim.TheVariants.{Keeps}
use Rattle.ca_rows.specs.declared.view.Claimed.{Claimed}
use Rattle.ca_rows.specs.Claims.{claim_of, claimed}
use Rattle.ca_rows.specs.Kept.{kept_of, AreApart, Rises, AreListed}
use Rattle.ca_rows.proofs.Scanning.{less_or_not}
use Rattle.ca_rows.proofs.Claiming.{claimed_here, claimed_else}
use Rattle.ca_rows.proofs.Keeping.{here_is, else_is, without, without_this, without_other, without_none, without_here, without_else, apart_less, rises_less}

-- The row at a place is listed with its epoch.
pub kept_at : (ks : List Kept) (i : ℕ) (d : Kept) → AreApart ks → i < length ks
    → kept_of ks (get_or ks i d).row ≡ some (get_or ks i d).at
kept_at [] i d a l = absurd (omega arith)
kept_at (x ∷ xs) zero d a l = here_is x xs x.row refl
kept_at (x ∷ xs) (suc i) d a l = let rest = kept_at xs i d a.1 (omega arith) in
    else_is x xs (get_or xs i d).row
    (λ f. some-ne-none (get_or xs i d).at (sym rest ∙ (ap (kept_of xs) (sym f) ∙ a.0))) ∙ rest

-- Where a place is left out, the list is without its row.
pub cut_is : (ks : List Kept) (i : ℕ) (d : Kept) → AreApart ks → i < length ks
    → take i ks ++ drop (suc i) ks ≡ without (get_or ks i d).row ks
cut_is [] i d a l = absurd (omega arith)
cut_is (x ∷ xs) zero d a l = sym (without_this x xs x.row refl ∙ without_none xs x.row a.0)
cut_is (x ∷ xs) (suc i) d a l = let rest = kept_at xs i d a.1 (omega arith) in
    ap (λ ys. x ∷ ys) (cut_is xs i d a.1 (omega arith))
    ∙ sym (without_other x xs (get_or xs i d).row
    (λ f. some-ne-none (get_or xs i d).at (sym rest ∙ (ap (kept_of xs) (sym f) ∙ a.0))))

-- A row of a list that rises is young, and so are those behind it.
pub young_behind : (ks : List Kept) (i epoch : ℕ) (d : Kept) → Rises ks → i < length ks
    → epoch < (get_or ks i d).at + 2 → (r t : ℕ)
    → kept_of (drop i ks) r ≡ some t → epoch < t + 2
young_behind [] i epoch d up l young r t e = absurd (omega arith)
young_behind (x ∷ xs) zero epoch d up l young r t e = dite (ℕ_discrete x.row r)
    (λ f. let is : x.at ≡ t = some-injective x.at t (sym (here_is x xs r f) ∙ e) in omega arith)
    (λ n. let low = up.0 r t (sym (else_is x xs r n) ∙ e) in omega arith)
young_behind (x ∷ xs) (suc i) epoch d up l young r t e =
    young_behind xs i epoch d up.1 (omega arith) young r t e

-- In a list that rises no row was retired later than one behind it.
pub rises_by : (ks : List Kept) (i j : ℕ) (d : Kept) → AreApart ks → Rises ks → i ≤ j
    → j < length ks → (get_or ks i d).at ≤ (get_or ks j d).at
rises_by [] i j d a up l inside = absurd (omega arith)
rises_by (x ∷ xs) zero zero d a up l inside = le_refl x.at
rises_by (x ∷ xs) zero (suc j) d a up l inside =
    up.0 (get_or xs j d).row (get_or xs j d).at (kept_at xs j d a.1 (omega arith))
rises_by (x ∷ xs) (suc i) zero d a up l inside = absurd (omega arith)
rises_by (x ∷ xs) (suc i) (suc j) d a up l inside =
    rises_by xs i j d a.1 up.1 (omega arith) (omega arith)

-- The first row is young, or there is none: so all are.
pub young_from : (ks : List Kept) (epoch : ℕ) (d : Kept) → AreApart ks → Rises ks
    → (0 < length ks → epoch < (get_or ks 0 d).at + 2) → (i : ℕ) → i < length ks
    → epoch < (get_or ks i d).at + 2
young_from ks epoch d a up young i l = let first = young (omega arith) in
    let rises = rises_by ks 0 i d a up (omega arith) l in omega arith

-- A row of the list has a place there.
pub place_of : (ks : List Kept) (r t : ℕ) (d : Kept) → kept_of ks r ≡ some t
    → (i : ℕ) × (i < length ks) × ((get_or ks i d).at ≡ t)
place_of [] r t d e = absurd (some-ne-none t (sym e))
place_of (x ∷ xs) r t d e = dite (ℕ_discrete x.row r)
    (λ f. (0, omega arith, some-injective x.at t (sym (here_is x xs r f) ∙ e)))
    (λ n. let rest = place_of xs r t d (sym (else_is x xs r n) ∙ e) in let inside = rest.1 in (suc rest.0, omega arith, rest.2))

-- Where all of a list are young, so is each row that is kept.
pub young_claims : (rows : ℕ) (claims : List Claimed) (ks : List Kept) (epoch : ℕ) (d : Kept)
    → AreListed rows claims ks
    → ((i : ℕ) → i < length ks → epoch < (get_or ks i d).at + 2) → (r t : ℕ)
    → claim_of claims r ≡ some (Keeps t) → epoch < t + 2
young_claims rows claims ks epoch d k young r t e = let here = place_of ks r t d (k.are_listed r t e) in
    let is = here.2 in let late = young here.0 here.1 in omega arith

-- No row before a place has the form, and the one there is young, if one is there: so no old row has it.
pub not_before : (ks : List Kept) (epoch like at : ℕ) (d : Kept) → AreApart ks → Rises ks
    → ((i : ℕ) → i < at → (get_or ks i d).form ≢ like)
    → (at < length ks → epoch < (get_or ks at d).at + 2)
    → (i : ℕ) → i < length ks → (get_or ks i d).at + 2 ≤ epoch → (get_or ks i d).form ≢ like
not_before ks epoch like at d a up others ends i l old = ⊎_elim (λ before. others i before)
    (λ (behind : at ≤ i). let young = ends (omega arith) in
    let rises = rises_by ks at i d a up behind l in absurd (omega arith)) (less_or_not i at)

-- Nothing stands behind the end.
pub none_behind : (ks : List Kept) (i r t : ℕ) → length ks ≤ i → kept_of (drop i ks) r ≡ some t → ⊥
none_behind [] zero r t l e = some-ne-none t (sym e)
none_behind [] (suc i) r t l e = some-ne-none t (sym e)
none_behind (x ∷ xs) zero r t l e = absurd (omega arith)
none_behind (x ∷ xs) (suc i) r t l e = none_behind xs i r t (omega arith) e

-- What stands before a place, and then these rows: each list that `give_back` works on is of this
-- form.
module _ (ys : List Kept) (d : Kept) where
  pub part_row : (ks : List Kept) (at : ℕ) → at < length ks
      → get_or (take (suc at) ks ++ ys) at d ≡ get_or ks at d
  part_row [] at l = absurd (omega arith)
  part_row (x ∷ xs) zero l = refl
  part_row (x ∷ xs) (suc at) l = part_row xs at (omega arith)

  pub part_before : (ks : List Kept) (at i : ℕ) → i < at → at ≤ length ks
      → get_or (take at ks ++ ys) i d ≡ get_or ks i d
  part_before [] at i l hi = absurd (omega arith)
  part_before (x ∷ xs) zero i l hi = absurd (omega arith)
  part_before (x ∷ xs) (suc at) zero l hi = refl
  part_before (x ∷ xs) (suc at) (suc i) l hi = part_before xs at i (omega arith) (omega arith)

pub part_length : (ks ys : List Kept) (at : ℕ) → at ≤ length ks
    → length (take at ks ++ ys) ≡ at + length ys
part_length ks ys zero l = omega arith
part_length [] ys (suc at) l = absurd (omega arith)
part_length (x ∷ xs) ys (suc at) l = let rest = part_length xs ys at (omega arith) in omega arith

pub part_behind : (ks ys : List Kept) (at : ℕ) → at ≤ length ks → drop at (take at ks ++ ys) ≡ ys
part_behind ks ys zero l = refl
part_behind [] ys (suc at) l = absurd (omega arith)
part_behind (x ∷ xs) ys (suc at) l = part_behind xs ys at (omega arith)

pub part_cut : (ks ys : List Kept) (at : ℕ) → at < length ks
    → take at (take (suc at) ks ++ ys) ++ drop (suc at) (take (suc at) ks ++ ys) ≡ take at ks ++ ys
part_cut [] ys at l = absurd (omega arith)
part_cut (x ∷ xs) ys zero l = refl
part_cut (x ∷ xs) ys (suc at) l = ap (λ zs. x ∷ zs) (part_cut xs ys at (omega arith))

module _ (rows : ℕ) (claims : List Claimed) (ks : List Kept) (k : AreListed rows claims ks) (i : ℕ)
    (d : Kept) (inside : i < length ks) where
  -- The row at a place is kept, since the epoch that stands there.
  pub place_claimed : (0 < (get_or ks i d).row) × ((get_or ks i d).row ≤ rows)
      × (claim_of claims (get_or ks i d).row ≡ some (Keeps (get_or ks i d).at))
  place_claimed =
      k.are_claimed (get_or ks i d).row (get_or ks i d).at (kept_at ks i d k.apart inside)

  -- It gets another claim, and is left out of the list.
  pub left_out : (q : ℕ) (c : Claim) → q ≡ (get_or ks i d).row → ((t : ℕ) → c ≢ Keeps t)
      → AreListed rows (claimed q c claims) (take i ks ++ drop (suc i) ks)
  left_out q c is other = let now : take i ks ++ drop (suc i) ks ≡ without q ks =
      cut_is ks i d k.apart inside ∙ ap (λ (y : ℕ). without y ks) (sym is) in
      subst (AreListed rows (claimed q c claims)) (sym now) record {
        apart = apart_less ks q k.apart;
        rising = rises_less ks q k.rising;
        are_listed = λ r t e. dite (ℕ_discrete r q)
            (λ f. absurd
            (other t (some-injective c (Keeps t) (sym (ap (claim_of (claimed q c claims)) f
            ∙ claimed_here claims q c) ∙ e))))
            (λ n. without_else ks q r n ∙ k.are_listed r t (sym (claimed_else claims q r c n) ∙ e));
        are_claimed = λ r t e. let n : r ≢ q = λ f.
            some-ne-none t (sym e ∙ (ap (kept_of (without q ks)) f ∙ without_here ks q)) in
            let was = k.are_claimed r t (sym (without_else ks q r n) ∙ e) in
            (was.0, was.1, claimed_else claims q r c n ∙ was.2);
      }

-- The same of the last row before a part of the list that was given back.
module _ (rows : ℕ) (claims : List Claimed) (ks ys : List Kept) (at : ℕ) (d : Kept)
    (inside : at < length ks)
    (k : AreListed rows claims (take (suc at) ks ++ ys)) where
  here : at < length (take (suc at) ks ++ ys)
  here = let n = part_length ks ys (suc at) (omega arith) in omega arith

  pub last_claimed : (0 < (get_or ks at d).row) × ((get_or ks at d).row ≤ rows)
      × (claim_of claims (get_or ks at d).row ≡ some (Keeps (get_or ks at d).at))
  last_claimed = subst (λ (x : Kept). (0 < x.row) × (x.row ≤ rows)
      × (claim_of claims x.row ≡ some (Keeps x.at))) (part_row ys d ks at inside)
      (place_claimed rows claims (take (suc at) ks ++ ys) k at d here)

  pub last_out : (q : ℕ) (c : Claim) → q ≡ (get_or ks at d).row → ((t : ℕ) → c ≢ Keeps t)
      → AreListed rows (claimed q c claims) (take at ks ++ ys)
  last_out q c is other = subst (AreListed rows (claimed q c claims)) (part_cut ks ys at inside)
      (left_out rows claims (take (suc at) ks ++ ys) k at d here q c (is
      ∙ ap (λ (x : Kept). x.row) (sym (part_row ys d ks at inside))) other)
