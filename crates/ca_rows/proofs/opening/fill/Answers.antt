use Rattle.std.proofs.Common.{ℕ, ◌+◌, ◌-◌, ◌*◌, ◌<◌, ◌≤◌, ◌≡◌, List, ap, ◌∙◌, arith, length, length-set, get_or, set, get_or-set_same, get_or-set_other}
use Rattle.ca_rows.specs.Layout.{row_words, pass_words, passes_words, row_limit}
use Rattle.ca_rows.proofs.opening.fill.Goals as goal

pub returns : goal.returns
returns g c = let bounds = c.requires.bounds in let least = bounds.least_rows in
    let z = c.args.sizes.now in
    let zeros : List ℕ = c.args.words.now in
    let head : ℕ = z.starts.tag * row_limit + 2 in
    let one : List ℕ = set zeros 0 head in
    let two : List ℕ = set one 1 z.starts.epoch in
    let upper : List ℕ = c.fill_above.new.words in
    let last : List ℕ = c.fill_results.new.words in
    let a = c.fill_above.ensures in let r = c.fill_results.ensures in
    let start = c.requires.wide in
    let wide_one = length-set zeros 0 head in
    let wide_two = length-set one 1 z.starts.epoch in
    let wide_upper = a.length in
    let wide_last = r.length in
    let kept : (i : ℕ) → (i < row_words * z.rows + row_words) → get_or last i 0 ≡ get_or upper i 0 =
    λ i low. r.others i (λ pass few e. omega arith) in
    let behind : (i : ℕ) → 272 ≤ i → get_or upper i 0 ≡ 0 =
    λ i far. a.behind i far ∙ (get_or-set_other one 1 i z.starts.epoch 0 (λ e. omega arith)
    ∙ (get_or-set_other zeros 0 i head 0 (λ e. omega arith) ∙ c.requires.zeros i)) in record {
      wide = omega arith;
      head = kept 0 (omega arith) ∙ (a.below 0 (omega arith)
          ∙ (get_or-set_other one 1 0 z.starts.epoch 0 (λ e. omega arith)
          ∙ get_or-set_same zeros 0 head 0 (omega arith)));
      epoch_is = kept 1 (omega arith) ∙ (a.below 1 (omega arith)
          ∙ get_or-set_same one 1 z.starts.epoch 0 (omega arith));
      absent = λ pass lo hi. r.others (length last + pass_words * pass - (passes_words + pass_words))
          (λ p few e. omega arith) ∙ behind (length last + pass_words * pass - (passes_words + pass_words)) (omega arith);
      above = λ i lo hi. kept i (omega arith) ∙ a.above i lo hi;
      results = λ pass lo hi. ap (λ (i : ℕ). get_or last i 0) (omega arith)
          ∙ (r.results (pass - 1) (omega arith) ∙ c.first_result.ensures);
      free = λ row lo hi. kept (row_words * row) (omega arith) ∙ behind (row_words * row) (omega arith);
    }
