use Rattle.std.proofs.Common.{ℕ, ◌+◌, ◌-◌, ◌*◌, ◌≡◌, ap, ◌∙◌, arith, length, length-set, get_or, set, get_or-set_same, get_or-set_other}
use mathlib.Core.Logic.{dite}
use native.Mathlib.Decide.{ℕ_discrete}
use Rattle.ca_rows.proofs.opening.fill_results.Goals as goal
use Rattle.ca_rows.specs.Layout.{pass_words, passes_words}

pub loop-pass-preserved : goal.loop-pass-preserved
loop-pass-preserved c = let i = c.loop-pass.invariant in let wide = c.requires.wide in let more = c.loop-pass-test.true in
    let long = i.long in
    let first : ℕ = length c.args.words.now - passes_words + 1 in
    let at : ℕ = first + pass_words * c.loop-pass.pass in record {
      few = omega arith;
      first_is = i.first_is;
      long = length-set c.loop-pass.words at c.args.value ∙ i.long;
      filled = λ p less. dite (ℕ_discrete p c.loop-pass.pass)
          (λ (e : p ≡ c.loop-pass.pass).
          ap (λ (q : ℕ). get_or (set c.loop-pass.words at c.args.value) (first + pass_words * q) 0) e
          ∙ get_or-set_same c.loop-pass.words at c.args.value 0 (omega arith))
          (λ n. get_or-set_other c.loop-pass.words at (first + pass_words * p) c.args.value 0 (λ e. n (omega arith))
          ∙ i.filled p (omega arith));
      others = λ j apart. get_or-set_other c.loop-pass.words at j c.args.value 0 (apart c.loop-pass.pass more)
          ∙ i.others j apart;
    }
