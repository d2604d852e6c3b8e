-- Escaped bytes are unescaped run by run.
use Rattle.std.proofs.Common.{◌≡◌, ℕ, List, [], ◌∷◌, ◌++◌, refl, sym, ◌∙◌, ap, append_assoc, arith}
use Rattle.ca_order.specs.declared.zeros.Escape.{Escape}
use Rattle.ca_order.specs.declared.zeros.Escape.TheVariants.{End, Zero, Neither}
use Rattle.std.specs.Borrow.{Bor}
use Rattle.ca_order.specs.Escapes.{IsEscape}
use Rattle.ca_order.specs.Zeros.{HasNoZero, opened}
use Rattle.ca_order.proofs.Opened.{opened_append, opened_no_zero, opened_zero, opened_nil, behind_zero}

-- an escape stands behind each zero byte
pub escape_is_zero : (inside run rest behind : List ℕ) (e : Escape) → HasNoZero run → rest ≡ opened inside → rest ≡ run ++ 0 ∷ behind → IsEscape behind e
    → ((x : Bor (List ℕ)) → e ≡ Zero x → ⊥) → ⊥
escape_is_zero inside run rest behind e h f g k n = by e k n
  where
    next : (more : List ℕ) × (behind ≡ 0xff ∷ opened more)
    next = behind_zero inside run behind h (sym f ∙ g)

    clash : (a b : ℕ) (xs ys : List ℕ) → behind ≡ a ∷ xs → behind ≡ b ∷ ys → a ≡ b
    clash a b xs ys e f = cc

    by : (e : Escape) → IsEscape behind e → ((x : Bor (List ℕ)) → e ≡ Zero x → ⊥) → ⊥
    by (End x) k n = let c : 0xff ≡ 0 = clash 0xff 0 (opened next.0) x.now next.1 k in absurd (omega (arith, c))
    by (Zero x) k n = n x refl
    by Neither k n = (k 0xff (opened next.0) next.1).1 refl

-- Behind a run and an escape stand escapes of some bytes.
pub left_more : (inside run rest behind more : List ℕ) → HasNoZero run → rest ≡ opened inside → rest ≡ run ++ 0 ∷ behind → behind ≡ 0xff ∷ more
    → (x : List ℕ) × (more ≡ opened x)
left_more inside run rest behind more h f g k = let n = behind_zero inside run behind h (sym f ∙ g) in (n.0, same 0xff more (opened n.0) (sym k ∙ n.1))
  where
    same : (b : ℕ) (xs ys : List ℕ) → b ∷ xs ≡ b ∷ ys → xs ≡ ys
    same b xs ys e = cc

-- A run and a zero byte more are read of the escapes.
pub parts_more : (inside mid new run rest behind more body : List ℕ) → HasNoZero run → rest ≡ run ++ 0 ∷ behind → behind ≡ 0xff ∷ more
    → opened inside ++ rest ≡ body → mid ≡ inside ++ run → new ≡ mid ++ 0 ∷ [] → opened new ++ more ≡ body
parts_more inside mid new run rest behind more body h g k p e f =
    let o : opened new ≡ (opened inside ++ run) ++ 0 ∷ 0xff ∷ [] =
    ap opened f ∙ opened_append mid (0 ∷ []) ∙ (λ i. opened (e i) ++ opened_zero [] i) ∙ (λ i. opened_append inside run i ++ 0 ∷ 0xff ∷ opened_nil i)
    ∙ ap (λ x. (opened inside ++ x) ++ 0 ∷ 0xff ∷ []) (opened_no_zero run h) in
    let r : rest ≡ run ++ 0 ∷ 0xff ∷ more = g ∙ ap (λ x. run ++ 0 ∷ x) k in
    ap (λ x. x ++ more) o ∙ append_assoc (opened inside ++ run) (0 ∷ 0xff ∷ []) more ∙ append_assoc (opened inside) run (0 ∷ 0xff ∷ more)
    ∙ ap (λ x. opened inside ++ x) (sym r) ∙ p

-- With the last run all escapes are read.
pub parts_all : (inside new rest body : List ℕ) → HasNoZero rest → opened inside ++ rest ≡ body → new ≡ inside ++ rest → opened new ≡ body
parts_all inside new rest body h p e = ap opened e ∙ opened_append inside rest ∙ ap (λ x. opened inside ++ x) (opened_no_zero rest h) ∙ p

-- At first nothing is read of the escapes.
pub parts_none : (inside body : List ℕ) → inside ≡ [] → opened inside ++ body ≡ body
parts_none inside body e = ap (λ x. opened x ++ body) e ∙ ap (λ x. x ++ body) opened_nil
