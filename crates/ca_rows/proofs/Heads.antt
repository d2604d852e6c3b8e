-- What seats saw of the pool's head: while it is the same, as one more pass is made, and as another seat exchanges it.
use Rattle.std.proofs.Common.{◌≡◌, ◌≢◌, ℕ, ◌+◌, ◌*◌, ◌/◌, ◌%◌, ◌<◌, ◌≤◌, List, get_or, sym, ap, ◌∙◌, subst, arith}
use mathlib.Core.Option.{some}
use lib.ListN.{get_elem?}
use Rattle.ca_rows.specs.declared.sizes.Sizes.{Sizes}
use Rattle.ca_rows.specs.declared.view.Pin.{Pin}
use Rattle.ca_rows.specs.declared.view.Stage.{Stage}
use Rattle.ca_rows.specs.declared.view.Stage.TheVariants.{Idle, Saw, Knew}
use Rattle.ca_rows.specs.Chain.{IsHead}
use Rattle.ca_rows.specs.Layout.{row_limit}
use Rattle.ca_rows.specs.Pins.{ArePins}
use Rattle.ca_rows.specs.Told.{IsOnly, Mine}
use Rattle.ca_rows.specs.Words.{head_tag, head_row}

-- The head is the same word.
pub head_stays : (made : ℕ) (words words' : List ℕ) → get_or words' 0 0 ≡ get_or words 0 0
    → (number : ℕ) (st : Stage) → IsHead made words number st → IsHead made words' number st
head_stays made words words' same number Idle k = tt
head_stays made words words' same number (Saw t r) k = (
  k.0,
  λ few. let h = k.1 few in
      (ap (λ n. n / row_limit) same ∙ h.0, ap (λ n. n % row_limit) same ∙ h.1),
)
head_stays made words words' same number (Knew t r x) k = (
  k.0,
  λ few. let h = k.1 few in
      (ap (λ n. n / row_limit) same ∙ h.0, ap (λ n. n % row_limit) same ∙ h.1),
)

-- One more pass is made: who looked at the head before isn't the only one then.
pub head_grows : (made : ℕ) (words : List ℕ) (number : ℕ) (st : Stage) → number ≤ made
    → IsHead made words number st → IsHead (made + 1) words number st
head_grows made words number Idle low k = tt
head_grows made words number (Saw t r) low k = let some = k.0 in (some, λ few. absurd (omega arith))
head_grows made words number (Knew t r x) low k = let some = k.0 in (some, λ few. absurd (omega arith))

-- The word that has this tag and this row.
pub head_word : (words : List ℕ) (t r : ℕ) → (head_tag words ≡ t) × (head_row words ≡ r)
    → get_or words 0 0 ≡ t * row_limit + r
head_word words t r is = let tag = is.0 in let row = is.1 in omega arith

-- Two seats of passes are two passes.
pub two_are_apart : (made : ℕ) (words : List ℕ) (pins : List Pin) (j id : ℕ) (one other : Pin)
    → ArePins made words pins → get_elem? pins j ≡ some one → get_elem? pins id ≡ some other → j ≢ id
    → 0 < one.number → 0 < other.number → made ≤ 1 → ⊥
two_are_apart made words pins j id one other p here there apart some_one some_other few =
    let a = p.each j one here in let b = p.each id other there in
    let low_one = a.in_range in let low_other = b.in_range in
    apart (sym (a.alone some_one id other there (omega arith)))

-- Another seat of a pass exchanges the head: then there are two passes, or this seat isn't looking.
pub head_else : (made : ℕ) (words words' : List ℕ) (pins : List Pin) (j id : ℕ) (one other : Pin)
    → ArePins made words pins → get_elem? pins j ≡ some one → get_elem? pins id ≡ some other → j ≢ id
    → 0 < other.number → (st : Stage) → IsHead made words one.number st → IsHead made words' one.number st
head_else made words words' pins j id one other p here there apart is_pass Idle k = tt
head_else made words words' pins j id one other p here there apart is_pass (Saw t r) k = (
  k.0,
  λ few.
      absurd (two_are_apart made words pins j id one other p here there apart k.0 is_pass few),
)
head_else made words words' pins j id one other p here there apart is_pass (Knew t r x) k = (
  k.0,
  λ few.
      absurd (two_are_apart made words pins j id one other p here there apart k.0 is_pass few),
)

-- Who is the only pass is it while it knows the same sizes.
pub is_only : {U : Type 0} (m m' : Mine U) → m'.0.sizes ≡ m.0.sizes → IsOnly m → IsOnly m'
is_only m m' same only = subst (λ (y : Sizes). (0 < y.rows) × (y.passes ≡ 1)) (sym same) only
