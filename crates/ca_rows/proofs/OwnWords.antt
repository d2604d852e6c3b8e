-- The words that each pass has for itself.
use Rattle.std.proofs.Common.{◌≡◌, ◌≢◌, ℕ, ◌+◌, ◌-◌, ◌*◌, ◌<◌, List, length, get_or, set, ap, ◌∙◌, arith, length-set, get_or-set_other}
use Rattle.ca_rows.specs.Layout.{row_words, pass_words, passes_words}
use Rattle.ca_rows.specs.Words.{IsWide, own_word, announced, result_of}

-- They stand behind the rows.
pub own_is : (rows pass : ℕ) (words : List ℕ) → IsWide rows words → 0 < pass
    → own_word words pass + pass_words ≡ row_words * rows + row_words + pass_words * pass
own_is rows pass words wide lo = omega arith

-- They stand where they stood, in as many words.
pub own_same : (words words' : List ℕ) (pass : ℕ) → length words' ≡ length words
    → own_word words' pass ≡ own_word words pass
own_same words words' pass same = ap (λ (n : ℕ). n + pass_words * pass - (passes_words + pass_words)) same

-- A word is set.
module _ (words : List ℕ) (i x pass : ℕ) where
  -- It isn't the announcement of this pass.
  pub announced_else : own_word words pass ≢ i → announced (set words i x) pass ≡ announced words pass
  announced_else other = ap (λ (n : ℕ). get_or (set words i x) n 0)
      (own_same words (set words i x) pass (length-set words i x))
      ∙ get_or-set_other words i (own_word words pass) x 0 other

  -- It isn't the word of its ranges.
  pub result_else : own_word words pass + 1 ≢ i → result_of (set words i x) pass ≡ result_of words pass
  result_else other = ap (λ (n : ℕ). get_or (set words i x) (n + 1) 0)
      (own_same words (set words i x) pass (length-set words i x))
      ∙ get_or-set_other words i (own_word words pass + 1) x 0 other
