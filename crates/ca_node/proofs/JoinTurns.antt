-- Steps on the join word of a route, as numbers: the join goes on.
use Rattle.std.proofs.Common.{◌≡◌, ℕ, ◌+◌, ◌*◌, List, ⊎_elim, inl, inr, arith}
use Rattle.ca_node.specs.Attempts.{join_of, JoinGoesOn}

module _ (words others : List ℕ) (route attempt : ℕ) where
  -- An attempt that was prepared is given up.
  pub aborted_goes_on : join_of words route ≡ 4 * attempt + 1 → join_of others route ≡ 4 * attempt → JoinGoesOn words others route
  aborted_goes_on was is = record {
    begun = λ n b. omega (arith, was, is, b);
    under_way = λ n b now. ⊎_elim (λ e. absurd (omega (arith, is, e))) (λ e. absurd (omega (arith, is, e))) now;
    prepared = λ n b now. absurd (omega (arith, is, now));
    finished = λ n f. ⊎_elim (λ e. absurd (omega (arith, was, e))) (λ l. inr (omega (arith, was, is, l))) f;
    secured = λ n e. absurd (omega (arith, was, e));
  }

  -- It is secured.
  pub secured_goes_on : join_of words route ≡ 4 * attempt + 1 → join_of others route ≡ 4 * attempt + 2 → JoinGoesOn words others route
  secured_goes_on was is = record {
    begun = λ n b. omega (arith, was, is, b);
    under_way = λ n b now. ⊎_elim (λ e. absurd (omega (arith, is, e))) (λ e. inl (omega (arith, was, is, e))) now;
    prepared = λ n b now. absurd (omega (arith, is, now));
    finished = λ n f. ⊎_elim (λ e. absurd (omega (arith, was, e))) (λ l. inr (omega (arith, was, is, l))) f;
    secured = λ n e. absurd (omega (arith, was, e));
  }

  -- The next one is begun, behind one that is finished.
  pub begun_goes_on : join_of words route ≡ 4 * attempt → join_of others route ≡ 4 * (attempt + 1) + 1 → JoinGoesOn words others route
  begun_goes_on was is = record {
    begun = λ n b. omega (arith, was, is, b);
    under_way = λ n b now. ⊎_elim (λ e. absurd (omega (arith, was, is, b, e))) (λ e. absurd (omega (arith, was, is, b, e))) now;
    prepared = λ n b now. absurd (omega (arith, was, is, b, now));
    finished = λ n f. ⊎_elim (λ e. inr (omega (arith, was, is, e))) (λ l. inr (omega (arith, was, is, l))) f;
    secured = λ n e. absurd (omega (arith, was, e));
  }
