-- The chain of the free rows as one is taken or put back.
use Rattle.std.proofs.Common.{◌≡◌, ◌≢◌, ℕ, zero, suc, ◌+◌, ◌-◌, ◌*◌, ◌/◌, ◌%◌, ◌<◌, ◌≤◌, eqb, cond, List, sym, refl, ap, ◌∙◌, subst, arith, eq-eqb, ne_eqb}
use mathlib.Core.Logic.{dite}
use native.Mathlib.Decide.{ℕ_discrete}
use Rattle.ca_rows.specs.declared.view.Stage.{Stage}
use Rattle.ca_rows.specs.declared.view.Stage.TheVariants.{Idle, Saw, Knew}
use Rattle.ca_rows.specs.Chain.{Owner, Free, IsTop, IsChain, IsFree, IsStage}
use Rattle.ca_rows.specs.Words.{head_tag, head_row, first_of, next_below}
use Rattle.ca_rows.specs.Layout.{row_limit}

-- a function changed at one place
pub put : (ℕ → Owner) → ℕ → Owner → ℕ → Owner
put f i c j = cond (eqb j i) c (f j)

pub put_here : (f : ℕ → Owner) (i : ℕ) (c : Owner) (j : ℕ) → j ≡ i → put f i c j ≡ c
unfolding put
put_here f i c j e = ap (λ b. cond b c (f j)) (eq-eqb j i e)

pub put_else : (f : ℕ → Owner) (i : ℕ) (c : Owner) (j : ℕ) → j ≢ i → put f i c j ≡ f j
unfolding put
put_else f i c j n = ap (λ b. cond b c (f j)) (ne_eqb j i n)

-- The two numbers in a head.
pub in_head : (t q : ℕ) → q < row_limit → ((t * row_limit + q) / row_limit ≡ t) × ((t * row_limit + q) % row_limit ≡ q)
in_head t q l = (omega arith, omega arith)

-- A first word that is one more than a row's number names that row.
pub next_number : (rows r q : ℕ) → next_below rows r (q + 1) ≡ q
next_number rows r q = ap (λ b. cond b (cond (eqb r rows) 0 (r + 1)) (q + 1 - 1)) (ne_eqb (q + 1) 0 (omega arith)) ∙ omega arith

pub same_height : (k m : ℕ) → Free k ≡ Free m → k ≡ m
same_height k m e = cc

module _ (rows : ℕ) (owner : ℕ → Owner) where
  -- A row at the top is free.
  pub top_free : (n row : ℕ) → 0 < row → IsTop rows owner n row → (m : ℕ) × (n ≡ suc m)
      × (row ≤ rows) × (owner row ≡ Free m)
  top_free zero row some t = absurd (omega arith)
  top_free (suc m) row some t = (m, refl, t.1, t.2)

  -- Where none is at the top there is none.
  pub top_none : (n row : ℕ) → row ≡ 0 → IsTop rows owner n row → n ≡ 0
  top_none zero row none t = refl
  top_none (suc m) row none t = let some = t.0 in absurd (omega arith)

  pub top_in_range : (n row : ℕ) → IsTop rows owner n row → row ≤ rows
  top_in_range zero row t = omega arith
  top_in_range (suc m) row t = t.1

  -- where another function says the same of the rows below n
  top_as : (owner' : ℕ → Owner) (n row : ℕ)
      → ((r k : ℕ) → 0 < r → r ≤ rows → owner r ≡ Free k → k < n → owner' r ≡ Free k)
      → IsTop rows owner n row
      → IsTop rows owner' n row
  top_as owner' zero row same t = t
  top_as owner' (suc m) row same t = (t.0, t.1, same row m t.0 t.1 t.2 (omega arith))

  module _ (words words' : List ℕ) (n : ℕ) (chain : IsChain rows owner words n) where
    -- The row below is the same where the first word is.
    next_same : (r : ℕ) → first_of words' r ≡ first_of words r
        → next_below rows r (first_of words r) ≡ next_below rows r (first_of words' r)
    next_same r e = ap (λ (first : ℕ). next_below rows r first) (sym e)

    -- The chain stays where head, free rows and their next rows do.
    pub chain_stays : (owner' : ℕ → Owner) → head_row words' ≡ head_row words
        → ((r k : ℕ) → 0 < r → r ≤ rows → owner r ≡ Free k → (owner' r ≡ Free k)
        × (first_of words' r ≡ first_of words r))
        → ((r k : ℕ) → 0 < r → r ≤ rows → owner' r ≡ Free k → owner r ≡ Free k)
        → IsChain rows owner' words' n
    chain_stays owner' head same back = record {
      top = subst (IsTop rows owner' n) (sym head) (top_as owner' n _
          (λ r k lo hi e _. (same r k lo hi e).0) chain.top);
      below = λ r k lo hi e. let was = back r k lo hi e in let b = chain.below r k lo hi was in (
        b.0,
        subst (IsTop rows owner' k) (next_same r (same r k lo hi was).1) (top_as owner' k _
            (λ q m l h f _. (same q m l h f).0) b.1),
      );
      apart = λ r q k lo hi lo' hi' e f.
          chain.apart r q k lo hi lo' hi' (back r k lo hi e) (back q k lo' hi' f);
    }

    -- The uppermost row is taken.
    pub chain_takes : (q m : ℕ) (o : Owner) → ((k : ℕ) → o ≢ Free k) → 0 < q → q ≤ rows
        → owner q ≡ Free m → n ≡ suc m → head_row words' ≡ next_below rows q (first_of words q)
        → ((r : ℕ) → 0 < r → first_of words' r ≡ first_of words r)
        → IsChain rows (put owner q o) words' m
    chain_takes q m o not_free lo_q hi_q is count head same = record {
      top = subst (IsTop rows (put owner q o) m) (sym head)
          (top_as (put owner q o) m _ stays (chain.below q m lo_q hi_q is).1);
      below = λ r k lo hi e. let w = was r k e in let b = chain.below r k lo hi w.1 in (
        lower r k lo hi w.0 w.1,
        subst (IsTop rows (put owner q o) k) (next_same r (same r lo))
            (top_as (put owner q o) k _
            (λ c j l h f s. stays c j l h f (let z = lower r k lo hi w.0 w.1 in
            omega arith)) b.1),
      );
      apart = λ r c k lo hi lo' hi' e f.
          chain.apart r c k lo hi lo' hi' (was r k e).1 (was c k f).1;
    }
      where
        stays : (r k : ℕ) → 0 < r → r ≤ rows → owner r ≡ Free k → k < m → put owner q o r ≡ Free k
        stays r k lo hi e l = put_else owner q o r
            (λ (s : r ≡ q). let z : k ≡ m = same_height k m (sym e ∙ (ap owner s ∙ is)) in
            absurd (omega arith)) ∙ e

        was : (r k : ℕ) → put owner q o r ≡ Free k → (r ≢ q) × (owner r ≡ Free k)
        was r k e = let n : r ≢ q = λ s. not_free k (sym (put_here owner q o r s) ∙ e) in
            (n, sym (put_else owner q o r n) ∙ e)

        lower : (r k : ℕ) → 0 < r → r ≤ rows → r ≢ q → owner r ≡ Free k → k < m
        lower r k lo hi other e = dite (ℕ_discrete k m)
            (λ (s : k ≡ m). absurd (other (chain.apart r q m lo hi lo_q hi_q (e ∙ ap Free s) is)))
            (λ ne. let b = (chain.below r k lo hi e).0 in omega arith)

    -- A row is put on top.
    pub chain_gives : (q : ℕ) → ((k : ℕ) → owner q ≢ Free k) → 0 < q → q ≤ rows
        → head_row words' ≡ q → next_below rows q (first_of words' q) ≡ head_row words
        → ((r : ℕ) → 0 < r → r ≢ q → first_of words' r ≡ first_of words r)
        → IsChain rows (put owner q (Free n)) words' (suc n)
    chain_gives q not_free lo_q hi_q head next same = record {
      top = (
        subst (λ x. 0 < x) (sym head) lo_q,
        subst (λ x. x ≤ rows) (sym head) hi_q,
        put_here owner q (Free n) _ head,
      );
      below = λ r k lo hi e. dite (ℕ_discrete r q)
          (λ (s : r ≡ q). let h : n ≡ k =
          same_height n k (sym (put_here owner q (Free n) r s) ∙ e) in (
            omega arith,
            subst (λ (x : ℕ × ℕ). IsTop rows (put owner q (Free n)) x.0 x.1)
                (λ i. (h i, sym (ap (λ c. next_below rows c (first_of words' c)) s ∙ next) i))
                (top_as (put owner q (Free n)) n _ stays chain.top),
          ))
          (λ ne. let w = was r k ne e in let b = chain.below r k lo hi w in (
            (let z = b.0 in omega arith),
            subst (IsTop rows (put owner q (Free n)) k) (next_same r (same r lo ne))
                (top_as (put owner q (Free n)) k _
                (λ c j l h f x. stays c j l h f (let z = b.0 in omega arith)) b.1),
          ));
      apart = λ r c k lo hi lo' hi' e f. dite (ℕ_discrete r q)
          (λ (s : r ≡ q). dite (ℕ_discrete c q) (λ (t : c ≡ q). s ∙ sym t)
          (λ ne. absurd (too_high c k lo' hi' ne f
          (same_height n k (sym (put_here owner q (Free n) r s) ∙ e)))))
          (λ ne. dite (ℕ_discrete c q)
          (λ (t : c ≡ q).
          absurd (too_high r k lo hi ne e (same_height n k (sym (put_here owner q (Free n) c t)
          ∙ f))))
          (λ ne'. chain.apart r c k lo hi lo' hi' (was r k ne e) (was c k ne' f)));
    }
      where
        was : (r k : ℕ) → r ≢ q → put owner q (Free n) r ≡ Free k → owner r ≡ Free k
        was r k ne e = sym (put_else owner q (Free n) r ne) ∙ e

        stays : (r k : ℕ) → 0 < r → r ≤ rows → owner r ≡ Free k → k < n
            → put owner q (Free n) r ≡ Free k
        stays r k lo hi e l = put_else owner q (Free n) r
            (λ (s : r ≡ q). not_free k (sym (ap owner s) ∙ e)) ∙ e

        too_high : (r k : ℕ) → 0 < r → r ≤ rows → r ≢ q → put owner q (Free n) r ≡ Free k → n ≡ k
            → ⊥
        too_high r k lo hi ne e same = let b = (chain.below r k lo hi (was r k ne e)).0 in
            omega arith

    -- What a seat saw of the head stays true: the tag falls never, and while it stays what is free
    -- does.
    pub stage_stays : (owner' : ℕ → Owner) → head_tag words ≤ head_tag words'
        → (head_tag words ≡ head_tag words' → (r k : ℕ) → 0 < r → r ≤ rows → owner r ≡ Free k
        → IsFree rows owner' r × (first_of words' r ≡ first_of words r))
        → (st : Stage) → IsStage rows owner words st → IsStage rows owner' words' st
    stage_stays owner' up same Idle k = tt
    stage_stays owner' up same (Saw t r) k = let a = k.0 in (
      omega arith,
      λ e lo. let z : head_tag words ≡ head_tag words' = omega arith in
          let f = k.1 (e ∙ sym z) lo in (same z r f.0 f.1 f.2 f.3).0,
    )
    stage_stays owner' up same (Knew t r x) k = let a = k.0 in (
      omega arith,
      λ e. let z : head_tag words ≡ head_tag words' = omega arith in let w = k.1 (e ∙ sym z) in
          let f = w.0 in
          let now = same z r f.0 f.1 f.2 f.3 in (now.0, now.1 ∙ w.1),
    )
