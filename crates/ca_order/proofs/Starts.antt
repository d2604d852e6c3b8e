-- Where bytes are stuck in a word, by the parts of the word.
use Rattle.std.proofs.Common.{◌≡◌, ℕ, ◌≤◌, ◌<◌, ◌+◌, ◌-◌, List, [], ◌∷◌, ◌++◌, length, take, arith, refl, sym, ◌∙◌, ap, subst, append_assoc, append-nil, length-append, ◌⊎◌, inl, inr, ⊎_elim}
use Rattle.std.proofs.lemmas.Bool.{cases_lt}
use Rattle.std.proofs.Math.Seq.{take-append_seam, take-append-add}
use Rattle.ca_order.specs.Stuck.{IsStuck, IsLongestStart, IsRest}

-- no word is a proper start of another one
abbrev pub IsPrefixFree : (List ℕ → Type 0) → Type 0
IsPrefixFree L = (u rest : List ℕ) → L u → L (u ++ rest) → rest ≡ []

-- bytes begin with a word
pub record Begins (L : List ℕ → Type 0) (bytes : List ℕ) : Type 0 where
  pub word : List ℕ
  pub rest : List ℕ
  pub parts : bytes ≡ word ++ rest
  pub is_word : L word

-- of two ways to part a text, the longer first part begins with the shorter one
longer : (p w u v : List ℕ) → p ++ w ≡ u ++ v → length p ≤ length u → (z : List ℕ) × (u ≡ p ++ z) × (w ≡ z ++ v)
longer [] w u v e h = (u, refl, e)
longer (x ∷ p) w [] v e h = absurd (omega arith)
longer (x ∷ p) w (y ∷ u) v e h =
    let same : p ++ w ≡ u ++ v = cc in
    let first : x ≡ y = cc in
    let r = longer p w u v same (omega arith) in
    (r.0, λ i. sym first i ∷ r.1 i, r.2)

no_end : (z : List ℕ) (n : ℕ) (r : List ℕ) → z ++ n ∷ r ≡ [] → ⊥
no_end [] n r e = cc
no_end (x ∷ z) n r e = cc

compare_lengths : (m n : ℕ) → (m ≤ n) ⊎ (n < m)
compare_lengths m n = ⊎_elim (λ h. inr h) (λ h. inl h) (cases_lt n m)

-- stuck before any byte
pub stuck_here : (L : List ℕ → Type 0) (bytes : List ℕ) (next : ℕ) (rest : List ℕ) → L (next ∷ rest)
    → ((b : ℕ) (more rest : List ℕ) → bytes ≡ b ∷ more → L (b ∷ rest) → ⊥) → IsStuck L bytes bytes
stuck_here L bytes next rest h k = record { done = []; parts = refl; next = next; rest = rest; begins = h; no_longer = k }

-- stuck at the end of the bytes
pub stuck_at_end : (L : List ℕ → Type 0) (bytes : List ℕ) (next : ℕ) (rest : List ℕ) → L (bytes ++ next ∷ rest) → IsStuck L bytes []
stuck_at_end L bytes next rest h =
    record { done = bytes; parts = sym (append-nil bytes); next = next; rest = rest; begins = h; no_longer = λ b more rest' e. cc }

-- stuck in what follows u
pub stuck_behind : (L M : List ℕ → Type 0) (u bytes behind : List ℕ) → IsRest L u M → IsStuck M bytes behind → IsStuck L (u ++ bytes) behind
stuck_behind L M u bytes behind q s = record {
  done = u ++ s.done;
  parts = ap (λ x. u ++ x) s.parts ∙ sym (append_assoc u s.done behind);
  next = s.next;
  rest = s.rest;
  begins = subst L (sym (append_assoc u s.done (s.next ∷ s.rest))) (q.back (s.done ++ s.next ∷ s.rest) s.begins);
  no_longer = λ b more rest e h. s.no_longer b more rest e (q.into (s.done ++ b ∷ rest) (subst L (append_assoc u s.done (b ∷ rest)) h));
}

-- stuck in the word that all words begin with
pub stuck_first : (H L : List ℕ → Type 0) (bytes behind : List ℕ) → IsPrefixFree H → ((x : List ℕ) → L x → Begins H x)
    → ((u : List ℕ) → H u → (v : List ℕ) × L (u ++ v)) → IsStuck H bytes behind → IsStuck L bytes behind
stuck_first H L bytes behind free split extend s =
    let more = extend (s.done ++ s.next ∷ s.rest) s.begins in
    record {
      done = s.done;
      parts = s.parts;
      next = s.next;
      rest = s.rest ++ more.0;
      begins = subst L (append_assoc s.done (s.next ∷ s.rest) more.0) more.1;
      no_longer = λ b after rest e h.
          let w = split (s.done ++ b ∷ rest) h in
          let parts : s.done ++ b ∷ rest ≡ w.word ++ w.rest = w.parts in
          ⊎_elim
          (λ le. let z = longer w.word w.rest s.done (b ∷ rest) (sym parts) le in
          let again : H (w.word ++ (z.0 ++ s.next ∷ s.rest)) =
          subst H (append_assoc w.word z.0 (s.next ∷ s.rest)) (subst (λ (x : List ℕ). H (x ++ s.next ∷ s.rest)) z.1 s.begins) in
          no_end z.0 s.next s.rest (free w.word (z.0 ++ s.next ∷ s.rest) w.is_word again))
          (λ lt. let z = longer s.done (b ∷ rest) w.word w.rest parts (omega arith) in in_word s.done b rest w.word w.rest z.0 z.1 z.2 lt
          (λ r f. s.no_longer b after r e (subst H f w.is_word)))
          (compare_lengths (length w.word) (length s.done));
    }
  where
    in_word : (done : List ℕ) (b : ℕ) (rest word behind z : List ℕ) → word ≡ done ++ z → b ∷ rest ≡ z ++ behind → length done < length word
        → ((r : List ℕ) → word ≡ done ++ b ∷ r → ⊥) → ⊥
    in_word done b rest word behind [] e f h k = absurd (omega (arith, ap length e, length-append done []))
    in_word done b rest word behind (y ∷ z) e f h k = let first : b ≡ y = cc in k z (e ∙ ap (λ x. done ++ x ∷ z) (sym first))

-- bytes that begin with a word are stuck nowhere
pub stuck_no_word : (L : List ℕ → Type 0) (bytes behind word rest : List ℕ) → IsPrefixFree L → L word → bytes ≡ word ++ rest → IsStuck L bytes behind → ⊥
stuck_no_word L bytes behind word rest free w p s =
    let parts : s.done ++ behind ≡ word ++ rest = sym s.parts ∙ p in
    ⊎_elim
    (λ le. let z = longer word rest s.done behind (sym parts) le in
    let again : L (word ++ (z.0 ++ s.next ∷ s.rest)) =
    subst L (append_assoc word z.0 (s.next ∷ s.rest)) (subst (λ (x : List ℕ). L (x ++ s.next ∷ s.rest)) z.1 s.begins) in
    no_end z.0 s.next s.rest (free word (z.0 ++ s.next ∷ s.rest) w again))
    (λ lt. let z = longer s.done behind word rest parts (omega arith) in past z.0 z.1 z.2 lt)
    (compare_lengths (length word) (length s.done))
  where
    past : (z : List ℕ) → word ≡ s.done ++ z → behind ≡ z ++ rest → length s.done < length word → ⊥
    past [] e f h = absurd (omega (arith, ap length e, length-append s.done []))
    past (b ∷ z) e f h = s.no_longer b (z ++ rest) z f (subst L e w)

-- the place where bytes are stuck, as a number
pub longest_start : (L : List ℕ → Type 0) (bytes done behind rest : List ℕ) → bytes ≡ done ++ behind → L (done ++ rest)
    → ((b : ℕ) (more rest : List ℕ) → behind ≡ b ∷ more → L (done ++ b ∷ rest) → ⊥) → IsLongestStart L bytes (length bytes - length behind)
longest_start L bytes done behind rest e h k =
    let n : length bytes - length behind ≡ length done = omega (arith, ap length e, length-append done behind) in
    subst (λ (x : ℕ). IsLongestStart L bytes x) (sym n) (record {
      in_range = omega (arith, ap length e, length-append done behind);
      rest = rest;
      begins = subst (λ (x : List ℕ). L (x ++ rest)) (sym (ap (take (length done)) e ∙ take-append_seam done behind)) h;
      no_longer = λ lt r. at_next behind e k (omega (arith, lt, ap length e, length-append done behind)) r;
    })
  where
    at_next : (behind : List ℕ) → bytes ≡ done ++ behind → ((b : ℕ) (more rest : List ℕ) → behind ≡ b ∷ more → L (done ++ b ∷ rest) → ⊥) → 0 < length behind
        → (r : List ℕ) → L (take (length done + 1) bytes ++ r) → ⊥
    at_next [] e k h r w = absurd (omega arith)
    at_next (b ∷ more) e k h r w =
        let t : take (length done + 1) bytes ≡ done ++ b ∷ [] = ap (take (length done + 1)) e ∙ take-append-add done (b ∷ more) 1 in
        k b more r refl (subst L (append_assoc done (b ∷ []) r) (subst (λ (x : List ℕ). L (x ++ r)) t w))
