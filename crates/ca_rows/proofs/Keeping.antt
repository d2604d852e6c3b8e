-- The list of the rows that a pass keeps.
use Rattle.std.proofs.Common.{◌≡◌, ◌≢◌, ◌⊎◌, inl, inr, ⊎_elim, ℕ, zero, suc, ◌+◌, ◌<◌, ◌≤◌, cond, List, [], ◌∷◌, ◌++◌, eqb, length, length-append, Vec, Global, vec_len, vec_capacity, sym, refl, ap, ◌∙◌, subst, arith, eq-eqb, ne_eqb}
use mathlib.Core.Logic.{dite}
use mathlib.Core.Option.{Option, some, none, some-injective, some-ne-none}
use native.Mathlib.Decide.{ℕ_discrete}
use Rattle.ca_rows.specs.declared.kept.Kept.{Kept}
use Rattle.ca_rows.specs.declared.kept.KeptRows.{KeptRows}
use Rattle.ca_rows.specs.declared.view.Claim.{Claim}
use Rattle.ca_rows.specs.declared.view.Claim.TheVariants.{Holds, Lends, Unlinked, Keeps}
use Rattle.ca_rows.specs.declared.sizes.Sizes.{Sizes}
use Rattle.ca_rows.specs.declared.view.Claimed.{Claimed}
use Rattle.ca_rows.specs.declared.view.View.{View}
use Rattle.ca_rows.specs.Claims.{claim_of, claimed, dropped}
use Rattle.ca_rows.specs.Kept.{kept_of, AreApart, Rises, AreListed, AreKept, IsReleased, MayRetire}
use Rattle.ca_rows.specs.Told.{Mine, with_claims, with_most}
use Rattle.ca_rows.proofs.Claiming.{claimed_here, claimed_else, dropped_else, dropped_here}

pub here_is : (x : Kept) (xs : List Kept) (r : ℕ) → x.row ≡ r → kept_of (x ∷ xs) r ≡ some x.at
here_is x xs r e = ap (λ b. cond b (some x.at) (kept_of xs r)) (eq-eqb x.row r e)

pub else_is : (x : Kept) (xs : List Kept) (r : ℕ) → x.row ≢ r → kept_of (x ∷ xs) r ≡ kept_of xs r
else_is x xs r n = ap (λ b. cond b (some x.at) (kept_of xs r)) (ne_eqb x.row r n)

pub not_here : (x : Kept) (xs : List Kept) (r : ℕ) → kept_of (x ∷ xs) r ≡ none → (x.row ≢ r)
    × (kept_of xs r ≡ none)
not_here x xs r e = let n : x.row ≢ r = λ f. some-ne-none x.at (sym (here_is x xs r f) ∙ e) in
    (n, sym (else_is x xs r n) ∙ e)

-- One more row behind a list that hasn't it.
kept_last : (xs : List Kept) (y : Kept) → kept_of xs y.row ≡ none
    → kept_of (xs ++ y ∷ []) y.row ≡ some y.at
kept_last [] y e = here_is y [] y.row refl
kept_last (x ∷ xs) y e = let n = not_here x xs y.row e in
    else_is x (xs ++ y ∷ []) y.row n.0 ∙ kept_last xs y n.1

kept_front : (xs : List Kept) (y : Kept) (r : ℕ) → y.row ≢ r
    → kept_of (xs ++ y ∷ []) r ≡ kept_of xs r
kept_front [] y r n = else_is y [] r n
kept_front (x ∷ xs) y r n = dite (ℕ_discrete x.row r)
    (λ e. here_is x (xs ++ y ∷ []) r e ∙ sym (here_is x xs r e))
    (λ m. else_is x (xs ++ y ∷ []) r m ∙ (kept_front xs y r n ∙ sym (else_is x xs r m)))

apart_more : (xs : List Kept) (y : Kept) → AreApart xs → kept_of xs y.row ≡ none
    → AreApart (xs ++ y ∷ [])
apart_more [] y a e = (refl, tt)
apart_more (x ∷ xs) y a e = let n = not_here x xs y.row e in
    (kept_front xs y x.row (λ f. n.0 (sym f)) ∙ a.0, apart_more xs y a.1 n.1)

-- the list without a row
pub without : ℕ → List Kept → List Kept
without q [] = []
without q (x ∷ xs) = cond (eqb x.row q) (without q xs) (x ∷ without q xs)

pub without_this : (x : Kept) (xs : List Kept) (q : ℕ) → x.row ≡ q
    → without q (x ∷ xs) ≡ without q xs
unfolding without
without_this x xs q e = ap (λ b. cond b (without q xs) (x ∷ without q xs)) (eq-eqb x.row q e)

pub without_other : (x : Kept) (xs : List Kept) (q : ℕ) → x.row ≢ q
    → without q (x ∷ xs) ≡ x ∷ without q xs
unfolding without
without_other x xs q n = ap (λ b. cond b (without q xs) (x ∷ without q xs)) (ne_eqb x.row q n)

without_nothing : (q : ℕ) → without q [] ≡ []
unfolding without
without_nothing q = refl

pub without_none : (xs : List Kept) (q : ℕ) → kept_of xs q ≡ none → without q xs ≡ xs
without_none [] q e = without_nothing q
without_none (x ∷ xs) q e = let n = not_here x xs q e in
    without_other x xs q n.0 ∙ ap (λ ys. x ∷ ys) (without_none xs q n.1)

pub without_here : (xs : List Kept) (q : ℕ) → kept_of (without q xs) q ≡ none
without_here [] q = ap (λ ys. kept_of ys q) (without_nothing q)
without_here (x ∷ xs) q = dite (ℕ_discrete x.row q)
    (λ e. ap (λ ys. kept_of ys q) (without_this x xs q e) ∙ without_here xs q)
    (λ n. ap (λ ys. kept_of ys q) (without_other x xs q n)
    ∙ (else_is x (without q xs) q n ∙ without_here xs q))

pub without_else : (xs : List Kept) (q r : ℕ) → r ≢ q → kept_of (without q xs) r ≡ kept_of xs r
without_else [] q r m = ap (λ ys. kept_of ys r) (without_nothing q)
without_else (x ∷ xs) q r m = dite (ℕ_discrete x.row q)
    (λ e. ap (λ ys. kept_of ys r) (without_this x xs q e)
    ∙ (without_else xs q r m ∙ sym (else_is x xs r (λ f. m (sym f ∙ e)))))
    (λ n. ap (λ ys. kept_of ys r) (without_other x xs q n) ∙ dite (ℕ_discrete x.row r)
    (λ e. here_is x (without q xs) r e ∙ sym (here_is x xs r e))
    (λ k. else_is x (without q xs) r k ∙ (without_else xs q r m ∙ sym (else_is x xs r k))))

still_none : (xs : List Kept) (q r : ℕ) → kept_of xs r ≡ none → kept_of (without q xs) r ≡ none
still_none xs q r e = dite (ℕ_discrete r q) (λ f. ap (kept_of (without q xs)) f ∙ without_here xs q)
    (λ n. without_else xs q r n ∙ e)

pub apart_less : (xs : List Kept) (q : ℕ) → AreApart xs → AreApart (without q xs)
apart_less [] q a = subst AreApart (sym (without_nothing q)) tt
apart_less (x ∷ xs) q a = dite (ℕ_discrete x.row q)
    (λ e. subst AreApart (sym (without_this x xs q e)) (apart_less xs q a.1))
    (λ n. subst AreApart (sym (without_other x xs q n)) (
      still_none xs q x.row a.0,
      apart_less xs q a.1,
    ))

one_less : (xs : List Kept) (q : ℕ) → AreApart xs → length xs ≤ length (without q xs) + 1
one_less [] q a = omega arith
one_less (x ∷ xs) q a = dite (ℕ_discrete x.row q)
    (λ e. let n = ap (λ (ys : List Kept). length ys) (without_this x xs q e
    ∙ without_none xs q (ap (kept_of xs) (sym e) ∙ a.0)) in omega arith)
    (λ m. let n = ap (λ (ys : List Kept). length ys) (without_other x xs q m) in
    let r = one_less xs q a.1 in omega arith)

pub no_rows : (xs : List Kept) → ((r t : ℕ) → kept_of xs r ≡ some t → ⊥) → length xs ≡ 0
no_rows [] none_is = refl
no_rows (x ∷ xs) none_is = absurd (none_is x.row x.at (here_is x xs x.row refl))

-- Rows that are apart are no more than there are.
pub as_many : (rows : ℕ) (xs : List Kept) → AreApart xs
    → ((r t : ℕ) → kept_of xs r ≡ some t → (0 < r) × (r ≤ rows)) → length xs ≤ rows
as_many zero xs a range = let n = no_rows xs
    (λ r t e. let l = range r t e in let lo = l.0 in let hi = l.1 in omega arith) in omega arith
as_many (suc n) xs a range = let fewer = as_many n (without (suc n) xs) (apart_less xs (suc n) a)
    (λ r t e.
    let m : r ≢ suc n = λ f.
    some-ne-none t (sym e ∙ (ap (kept_of (without (suc n) xs)) f ∙ without_here xs (suc n))) in
    let l = range r t (sym (without_else xs (suc n) r m) ∙ e) in let hi = l.1 in
    (l.0, omega arith)) in
    let one = one_less xs (suc n) a in omega arith

-- What is in a list with one row more behind it was in the list, or is that row.
pub was_or_last : (xs : List Kept) (y : Kept) (r t : ℕ) → kept_of (xs ++ y ∷ []) r ≡ some t
    → (kept_of xs r ≡ some t) ⊎ (y.at ≡ t)
was_or_last [] y r t e = dite (ℕ_discrete y.row r)
    (λ f. inr (some-injective y.at t (sym (here_is y [] r f) ∙ e)))
    (λ n. inl (sym (else_is y [] r n) ∙ e))
was_or_last (x ∷ xs) y r t e = dite (ℕ_discrete x.row r)
    (λ f. inl (here_is x xs r f ∙ (sym (here_is x (xs ++ y ∷ []) r f) ∙ e)))
    (λ n. ⊎_elim (λ was. inl (else_is x xs r n ∙ was))
    (λ last. inr last) (was_or_last xs y r t (sym (else_is x (xs ++ y ∷ []) r n) ∙ e)))

-- A row that was retired no earlier than the others may stand behind them.
rises_more : (xs : List Kept) (y : Kept) → AreApart xs → Rises xs
    → ((r t : ℕ) → kept_of xs r ≡ some t → t ≤ y.at) → Rises (xs ++ y ∷ [])
rises_more [] y a up low = ((λ r t e. absurd (some-ne-none t (sym e))), tt)
rises_more (x ∷ xs) y a up low = let first = low x.row x.at (here_is x xs x.row refl) in (
  (λ r t e. ⊎_elim (λ was. up.0 r t was)
      (λ (last : y.at ≡ t). omega arith) (was_or_last xs y r t e)),
  rises_more xs y a.1 up.1
      (λ r t e. low r t (else_is x xs r
      (λ f. some-ne-none t (sym e ∙ (ap (kept_of xs) (sym f) ∙ a.0))) ∙ e)),
)

-- Without a row the list rises still.
pub rises_less : (xs : List Kept) (q : ℕ) → Rises xs → Rises (without q xs)
rises_less [] q up = subst Rises (sym (without_nothing q)) tt
rises_less (x ∷ xs) q up = dite (ℕ_discrete x.row q)
    (λ e. subst Rises (sym (without_this x xs q e)) (rises_less xs q up.1))
    (λ n. subst Rises (sym (without_other x xs q n)) (
      (λ r t e. dite (ℕ_discrete r q)
          (λ f. absurd (some-ne-none t (sym e
          ∙ (ap (kept_of (without q xs)) f ∙ without_here xs q))))
          (λ m. up.0 r t (sym (without_else xs q r m) ∙ e))),
      rises_less xs q up.1,
    ))

module _ (rows : ℕ) (claims : List Claimed) (ks : List Kept) (k : AreListed rows claims ks) where
  -- What a seat claims otherwise isn't in its list.
  pub not_kept : (q : ℕ) → ((t : ℕ) → claim_of claims q ≢ some (Keeps t)) → kept_of ks q ≡ none
  not_kept q other = by (kept_of ks q) refl
    where
      by : (o : Option ℕ) → kept_of ks q ≡ o → kept_of ks q ≡ none
      by none e = e
      by (some t) e = absurd (other t (k.are_claimed q t e).2)

  -- So a row that isn't in it finds room.
  pub has_room : (q : ℕ) → 0 < q → q ≤ rows → kept_of ks q ≡ none → length ks < rows
  has_room q lo hi none_is = let one : Kept = record { row = q; at = 0; form = 0 } in
      let all = as_many rows (ks ++ one ∷ []) (apart_more ks one k.apart none_is)
      (λ r t e. dite (ℕ_discrete q r)
      (λ f. subst (λ (x : ℕ). (0 < x) × (x ≤ rows)) f (lo, hi))
      (λ n. let c = k.are_claimed r t (sym (kept_front ks one r n) ∙ e) in (c.0, c.1))) in
      let more = length-append ks (one ∷ []) in omega arith

  -- The row is retired, and stands behind the others, which were retired no later.
  pub retired_list : (q t f : ℕ) → 0 < q → q ≤ rows → kept_of ks q ≡ none
      → ((r u : ℕ) → claim_of claims r ≡ some (Keeps u) → u ≤ t)
      → AreListed rows (claimed q (Keeps t) claims) (ks ++ record { row = q; at = t; form = f } ∷ [])
  retired_list q t f lo hi none_is last = let one : Kept = record { row = q; at = t; form = f } in record {
    apart = apart_more ks one k.apart none_is;
    rising = rises_more ks one k.apart k.rising (λ r u e. last r u (k.are_claimed r u e).2);
    are_listed = λ r u e. dite (ℕ_discrete q r)
        (λ f. let same : Keeps t ≡ Keeps u = some-injective (Keeps t) (Keeps u)
        (sym (ap (claim_of (claimed q (Keeps t) claims)) (sym f) ∙ claimed_here claims q (Keeps t))
        ∙ e) in let is : t ≡ u = cc in
        subst (λ (x : ℕ × ℕ). kept_of (ks ++ one ∷ []) x.0 ≡ some x.1)
        (λ i. (f i, is i)) (kept_last ks one none_is))
        (λ n. kept_front ks one r n
        ∙ k.are_listed r u (sym (claimed_else claims q r (Keeps t) (λ f. n (sym f))) ∙ e));
    are_claimed = λ r u e. dite (ℕ_discrete q r)
        (λ f. let is : t ≡ u =
        some-injective t u (sym (ap (kept_of (ks ++ one ∷ [])) (sym f)
        ∙ kept_last ks one none_is) ∙ e) in
        subst (λ (x : ℕ × ℕ). (0 < x.0) × (x.0 ≤ rows)
        × (claim_of (claimed q (Keeps t) claims) x.0 ≡ some (Keeps x.1))) (λ i. (f i, is i))
        (lo, hi, claimed_here claims q (Keeps t)))
        (λ n. let c = k.are_claimed r u (sym (kept_front ks one r n) ∙ e) in
        (c.0, c.1, claimed_else claims q r (Keeps t) (λ f. n (sym f)) ∙ c.2));
  }

  -- Other claims that keep the same rows have the same list.
  pub listed_as : (claims' : List Claimed)
      → ((r t : ℕ) → claim_of claims' r ≡ some (Keeps t) → claim_of claims r ≡ some (Keeps t))
      → ((r t : ℕ) → claim_of claims r ≡ some (Keeps t) → claim_of claims' r ≡ some (Keeps t))
      → AreListed rows claims' ks
  listed_as claims' back there = record {
    apart = k.apart;
    rising = k.rising;
    are_listed = λ r t e. k.are_listed r t (back r t e);
    are_claimed = λ r t e. let was = k.are_claimed r t e in (was.0, was.1, there r t was.2);
  }

  -- Another claim comes on a row that isn't kept.
  pub claimed_list : (q : ℕ) (c : Claim) → ((t : ℕ) → c ≢ Keeps t)
      → ((t : ℕ) → claim_of claims q ≢ some (Keeps t)) → AreListed rows (claimed q c claims) ks
  claimed_list q c new old = listed_as (claimed q c claims)
      (λ r t e. dite (ℕ_discrete r q)
      (λ f. absurd
      (new t (some-injective c (Keeps t) (sym (ap (claim_of (claimed q c claims)) f
      ∙ claimed_here claims q c) ∙ e))))
      (λ n. sym (claimed_else claims q r c n) ∙ e))
      (λ r t e. claimed_else claims q r c (λ f. old t (ap (claim_of claims) (sym f) ∙ e)) ∙ e)

  -- A claim goes from a row that isn't kept.
  pub dropped_list : (q : ℕ) → ((t : ℕ) → claim_of claims q ≢ some (Keeps t))
      → AreListed rows (dropped q claims) ks
  dropped_list q old = listed_as (dropped q claims)
      (λ r t e. dite (ℕ_discrete r q)
      (λ f. absurd (some-ne-none (Keeps t) (sym e
      ∙ (ap (claim_of (dropped q claims)) f ∙ dropped_here claims q))))
      (λ n. sym (dropped_else claims q r n) ∙ e))
      (λ r t e. dropped_else claims q r (λ f. old t (ap (claim_of claims) (sym f) ∙ e)) ∙ e)

-- The same three of a list with room for all rows.
module _ (rows : ℕ) (claims : List Claimed) (kept : Vec Kept Global)
    (k : AreKept rows claims kept) where
  pub kept_as : (claims' : List Claimed)
      → ((r t : ℕ) → claim_of claims' r ≡ some (Keeps t) → claim_of claims r ≡ some (Keeps t))
      → ((r t : ℕ) → claim_of claims r ≡ some (Keeps t) → claim_of claims' r ≡ some (Keeps t))
      → AreKept rows claims' kept
  kept_as claims' back there =
      record { are = listed_as rows claims kept.items k.are claims' back there; room = k.room }

  pub claimed_too : (q : ℕ) (c : Claim) → ((t : ℕ) → c ≢ Keeps t)
      → ((t : ℕ) → claim_of claims q ≢ some (Keeps t)) → AreKept rows (claimed q c claims) kept
  claimed_too q c new old =
      record { are = claimed_list rows claims kept.items k.are q c new old; room = k.room }

  pub dropped_too : (q : ℕ) → ((t : ℕ) → claim_of claims q ≢ some (Keeps t))
      → AreKept rows (dropped q claims) kept
  dropped_too q old =
      record { are = dropped_list rows claims kept.items k.are q old; room = k.room }

-- The row is retired, in a list with room for all rows.
pub retired_too : (rows : ℕ) (claims : List Claimed) (kept kept' : Vec Kept Global)
    → AreKept rows claims kept → (q t f : ℕ) → 0 < q → q ≤ rows
    → kept_of kept.items q ≡ none → ((r u : ℕ) → claim_of claims r ≡ some (Keeps u) → u ≤ t)
    → kept'.items ≡ kept.items ++ record { row = q; at = t; form = f } ∷ [] → rows ≤ vec_capacity kept'
    → AreKept rows (claimed q (Keeps t) claims) kept'
retired_too rows claims kept kept' k q t f lo hi none_is last grown wide = record {
  are = subst (AreListed rows (claimed q (Keeps t) claims)) (sym grown)
      (retired_list rows claims kept.items k.are q t f lo hi none_is last);
  room = wide;
}

-- A row that was taken isn't kept.
pub taken_too : {U : Type 0} (rows : ℕ) (kept kept' : KeptRows) (m m' : Mine U) (q : ℕ)
    (its : List ℕ) → AreKept rows m.0.claims kept.rows
    → claim_of m.0.claims q ≡ none
    → m' ≡ with_most (with_claims m (claimed q (Holds its) m.0.claims)) → kept' ≡ kept
    → AreKept rows m'.0.claims kept'.rows
taken_too {U} rows kept kept' m m' q its k free took same = subst
    (λ (x : Mine U × KeptRows). AreKept rows x.0.0.claims x.1.rows)
    (λ i. (sym took i, sym same i))
    (claimed_too rows m.0.claims kept.rows k q (Holds its) (λ t e. cc)
    (λ t e. some-ne-none (Keeps t) (sym e ∙ free)))

-- What may be retired isn't kept yet.
pub released : {U : Type 0} (lent : List ℕ → ℕ → Type 0)
    (fact : Sizes → ℕ → List ℕ → List U → Type 0) (z : Sizes) (id : ℕ) (d : View U) (q : ℕ)
    → MayRetire lent fact z id d q → (t : ℕ) → claim_of d.claims q ≢ some (Keeps t)
released lent fact z id d q may t e =
    by may.0 may.2 (some-injective may.0 (Keeps t) (sym may.1 ∙ e))
  where
    by : (c : Claim) → IsReleased lent fact z id d q c → c ≡ Keeps t → ⊥
    by (Holds its) free is = absurd cc
    by Lends free is = absurd cc
    by Unlinked free is = absurd cc
    by (Keeps u) free is = free

-- It isn't in the list, and finds room there.
pub finds_room : {U : Type 0} (lent : List ℕ → ℕ → Type 0)
    (fact : Sizes → ℕ → List ℕ → List U → Type 0) (z : Sizes) (id : ℕ) (d : View U)
    (kept : Vec Kept Global) (q : ℕ) → AreKept z.rows d.claims kept → MayRetire lent fact z id d q
    → 0 < q → q ≤ z.rows
    → (vec_len kept < z.rows) × (kept_of kept.items q ≡ none)
finds_room lent fact z id d kept q k may lo hi =
    let new = not_kept z.rows d.claims kept.items k.are q (released lent fact z id d q may) in
    let less = has_room z.rows d.claims kept.items k.are q lo hi new in let long = kept.ok.0 in
    (omega arith, new)
