use Rattle.std.proofs.Common.{ℕ, ◌+◌, List, [], ◌∷◌, get_or, ap, sym, subst, ◌∙◌}
use Rattle.std.specs.Int.{to_be_bytes, w64}
use Rattle.ca_node.specs.Row.{code_words}
use Rattle.ca_node.specs.Told.{MyTree}
use Rattle.ca_base.specs.Finding.{IsObjectShown}
use Rattle.ca_base.proofs.reading.four_words.Goals as goal

pub word_bytes-second-requires-clause-shown : goal.word_bytes-second-requires-clause-shown
word_bytes-second-requires-clause-shown c = let its : List ℕ = c.requires.shown.0 in (
  its,
  subst (λ (m : MyTree). IsObjectShown m.0.upper c.args.row its) (sym c.word_bytes-first.ensures.frame.still) c.requires.shown.1,
)

pub word_bytes-third-requires-clause-shown : goal.word_bytes-third-requires-clause-shown
word_bytes-third-requires-clause-shown c = let its : List ℕ = c.requires.shown.0 in (
  its,
  subst (λ (m : MyTree). IsObjectShown m.0.upper c.args.row its)
      (sym (c.word_bytes-second.ensures.frame.still ∙ c.word_bytes-first.ensures.frame.still)) c.requires.shown.1,
)

pub word_bytes-fourth-requires-clause-shown : goal.word_bytes-fourth-requires-clause-shown
word_bytes-fourth-requires-clause-shown c = let its : List ℕ = c.requires.shown.0 in (
  its,
  subst (λ (m : MyTree). IsObjectShown m.0.upper c.args.row its)
      (sym (c.word_bytes-third.ensures.frame.still ∙ (c.word_bytes-second.ensures.frame.still ∙ c.word_bytes-first.ensures.frame.still)))
      c.requires.shown.1,
)

pub returns-clause-words : goal.returns-clause-words
returns-clause-words c its shown = let at : ℕ = c.args.at in
    let one = c.word_bytes-first.ensures.frame.still in let two = c.word_bytes-second.ensures.frame.still ∙ one in
    let three = c.word_bytes-third.ensures.frame.still ∙ two in
    let bytes : ℕ → List ℕ = λ k. to_be_bytes w64 (get_or (code_words its) k 0) in
    let b : List ℕ = c.word_bytes-second.result in let d : List ℕ = c.word_bytes-third.result in let e : List ℕ = c.word_bytes-fourth.result in
    let is_shown = λ (m : MyTree). IsObjectShown m.0.upper c.args.row its in
    ap (λ (xs : List ℕ). xs ∷ b ∷ d ∷ e ∷ []) (c.word_bytes-first.ensures.bytes its shown)
    ∙ (ap (λ (xs : List ℕ). bytes at ∷ xs ∷ d ∷ e ∷ []) (c.word_bytes-second.ensures.bytes its (subst is_shown (sym one) shown))
    ∙ (ap (λ (xs : List ℕ). bytes at ∷ bytes (at + 1) ∷ xs ∷ e ∷ []) (c.word_bytes-third.ensures.bytes its (subst is_shown (sym two) shown))
    ∙ ap (λ (xs : List ℕ). bytes at ∷ bytes (at + 1) ∷ bytes (at + 2) ∷ xs ∷ [])
    (c.word_bytes-fourth.ensures.bytes its (subst is_shown (sym three) shown))))
