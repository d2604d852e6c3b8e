-- Bytes escaped without their end.
use Rattle.std.proofs.Common.{◌≡◌, ℕ, zero, suc, ◌==◌, false, List, [], ◌∷◌, ◌++◌, arith, refl, sym, ◌∙◌, ap, subst, append-nil}
use Rattle.std.proofs.lemmas.Bool.Decides.{nat_tests}
use Rattle.ca_term.specs.Code.{escaped}
use Rattle.ca_term.proofs.Escapes.{escaped_zero, escaped_suc, escaped_nil, same_escaped}
use Rattle.ca_order.specs.Zeros.{HasNoZero, opened}

-- No bytes have no escapes.
pub opened_nil : opened [] ≡ []
unfolding opened
opened_nil = refl

-- A zero byte is escaped as 00 FF.
pub opened_zero : (bs : List ℕ) → opened (0 ∷ bs) ≡ 0 ∷ 0xff ∷ opened bs
unfolding opened
opened_zero bs = refl

-- A byte above 0 is escaped as it stands.
pub opened_suc : (b : ℕ) (bs : List ℕ) → opened (suc b ∷ bs) ≡ suc b ∷ opened bs
unfolding opened
opened_suc b bs = let n : (suc b == 0) ≡ false = grind (arith, nat_tests) in rw n

-- the escaped bytes of two texts in a row, and of one that ends
pub escaped_append : (xs ys : List ℕ) → escaped (xs ++ ys) ≡ opened xs ++ escaped ys
escaped_append [] ys = rw opened_nil refl
escaped_append (zero ∷ xs) ys = rw (escaped_zero (xs ++ ys), opened_zero xs, escaped_append xs ys) refl
escaped_append (suc b ∷ xs) ys = rw (escaped_suc b (xs ++ ys), opened_suc b xs, escaped_append xs ys) refl

-- Escaped bytes are the escapes and the end.
pub escaped_ends : (bs : List ℕ) → escaped bs ≡ opened bs ++ 0 ∷ 0 ∷ []
escaped_ends bs = ap escaped (sym (append-nil bs)) ∙ escaped_append bs [] ∙ ap (λ x. opened bs ++ x) escaped_nil

-- Bytes are escaped part by part.
pub opened_append : (xs ys : List ℕ) → opened (xs ++ ys) ≡ opened xs ++ opened ys
opened_append [] ys = rw opened_nil refl
opened_append (zero ∷ xs) ys = rw (opened_zero (xs ++ ys), opened_zero xs, opened_append xs ys) refl
opened_append (suc b ∷ xs) ys = rw (opened_suc b (xs ++ ys), opened_suc b xs, opened_append xs ys) refl

-- Bytes without a zero byte are escaped as they stand.
pub opened_no_zero : (bs : List ℕ) → HasNoZero bs → opened bs ≡ bs
opened_no_zero [] h = opened_nil
opened_no_zero (zero ∷ bs) h = absurd (omega (arith, h.0))
opened_no_zero (suc b ∷ bs) h = opened_suc b bs ∙ (λ i. suc b ∷ opened_no_zero bs h.1 i)

-- bytes without a zero are no escape
pub no_zero_opened : (bs body : List ℕ) → body ≡ opened bs → HasNoZero body → bs ≡ body
no_zero_opened [] body e h = sym (e ∙ opened_nil)
no_zero_opened (zero ∷ bs) body e h = let z : HasNoZero (0 ∷ 0xff ∷ opened bs) = subst HasNoZero (e ∙ opened_zero bs) h in absurd (omega (arith, z.0))
no_zero_opened (suc b ∷ bs) body e h =
    let z : HasNoZero (suc b ∷ opened bs) = subst HasNoZero (e ∙ opened_suc b bs) h in
    let r : bs ≡ opened bs = no_zero_opened bs (opened bs) refl z.1 in
    ap (λ x. suc b ∷ x) r ∙ sym (e ∙ opened_suc b bs)

-- No two texts have the same escapes.
pub same_opened : (a b : List ℕ) → opened a ≡ opened b → a ≡ b
same_opened a b e =
    let f : escaped a ++ [] ≡ escaped b ++ [] = ap (λ x. x ++ []) (escaped_ends a ∙ ap (λ x. x ++ 0 ∷ 0 ∷ []) e ∙ sym (escaped_ends b)) in
    (same_escaped a b [] [] f).0

-- where a zero stands in escaped bytes, FF stands behind it
pub behind_zero : (bs run behind : List ℕ) → HasNoZero run → opened bs ≡ run ++ 0 ∷ behind → (rest : List ℕ) × (behind ≡ 0xff ∷ opened rest)
behind_zero [] [] behind h e = let f : [] ≡ 0 ∷ behind = sym opened_nil ∙ e in cc
behind_zero [] (x ∷ run) behind h e = let f : [] ≡ x ∷ run ++ 0 ∷ behind = sym opened_nil ∙ e in cc
behind_zero (zero ∷ bs) [] behind h e = let f : 0 ∷ 0xff ∷ opened bs ≡ 0 ∷ behind = sym (opened_zero bs) ∙ e in (bs, cc)
behind_zero (zero ∷ bs) (x ∷ run) behind h e =
    let f : 0 ∷ 0xff ∷ opened bs ≡ x ∷ run ++ 0 ∷ behind = sym (opened_zero bs) ∙ e in let g : 0 ≡ x = cc in absurd (omega (arith, h.0))
behind_zero (suc b ∷ bs) [] behind h e = let f : suc b ∷ opened bs ≡ 0 ∷ behind = sym (opened_suc b bs) ∙ e in let g : suc b ≡ 0 = cc in absurd (omega arith)
behind_zero (suc b ∷ bs) (x ∷ run) behind h e =
    let f : suc b ∷ opened bs ≡ x ∷ run ++ 0 ∷ behind = sym (opened_suc b bs) ∙ e in
    let g : opened bs ≡ run ++ 0 ∷ behind = cc in
    behind_zero bs run behind h.1 g

-- Of equal lists the first items are equal.
pub same_head : (a b : ℕ) (xs ys : List ℕ) → a ∷ xs ≡ b ∷ ys → a ≡ b
same_head a b xs ys e = cc

-- Of equal lists the second items are equal.
pub same_second : (a b c d : ℕ) (xs ys : List ℕ) → a ∷ c ∷ xs ≡ b ∷ d ∷ ys → c ≡ d
same_second a b c d xs ys e = cc

no_ff : (b : ℕ) → b ≡ 0xff → b ≡ 0 → ⊥
no_ff b e f = omega (arith, e, f)

-- behind escaped bytes stands an escaped rest
pub escaped_after : (xs zs x : List ℕ) → opened xs ++ x ≡ escaped zs → (ys : List ℕ) × (zs ≡ xs ++ ys) × (x ≡ escaped ys)
escaped_after [] zs x e = (zs, refl, ap (λ y. y ++ x) (sym opened_nil) ∙ e)
escaped_after (zero ∷ xs) [] x e =
    let f : 0 ∷ 0xff ∷ opened xs ++ x ≡ 0 ∷ 0 ∷ [] = ap (λ y. y ++ x) (sym (opened_zero xs)) ∙ e ∙ escaped_nil in
    absurd (no_ff 0xff refl (same_second 0 0 0xff 0 (opened xs ++ x) [] f))
escaped_after (zero ∷ xs) (zero ∷ zs) x e =
    let f : 0 ∷ 0xff ∷ opened xs ++ x ≡ 0 ∷ 0xff ∷ escaped zs = ap (λ y. y ++ x) (sym (opened_zero xs)) ∙ e ∙ escaped_zero zs in
    let g : opened xs ++ x ≡ escaped zs = cc in
    let r = escaped_after xs zs x g in
    (r.0, ap (λ y. 0 ∷ y) r.1, r.2)
escaped_after (zero ∷ xs) (suc b ∷ zs) x e =
    let f : 0 ∷ 0xff ∷ opened xs ++ x ≡ suc b ∷ escaped zs = ap (λ y. y ++ x) (sym (opened_zero xs)) ∙ e ∙ escaped_suc b zs in
    let g : 0 ≡ suc b = same_head 0 (suc b) (0xff ∷ opened xs ++ x) (escaped zs) f in absurd (omega arith)
escaped_after (suc a ∷ xs) [] x e =
    let f : suc a ∷ opened xs ++ x ≡ 0 ∷ 0 ∷ [] = ap (λ y. y ++ x) (sym (opened_suc a xs)) ∙ e ∙ escaped_nil in
    let g : suc a ≡ 0 = same_head (suc a) 0 (opened xs ++ x) (0 ∷ []) f in absurd (omega arith)
escaped_after (suc a ∷ xs) (zero ∷ zs) x e =
    let f : suc a ∷ opened xs ++ x ≡ 0 ∷ 0xff ∷ escaped zs = ap (λ y. y ++ x) (sym (opened_suc a xs)) ∙ e ∙ escaped_zero zs in
    let g : suc a ≡ 0 = same_head (suc a) 0 (opened xs ++ x) (0xff ∷ escaped zs) f in absurd (omega arith)
escaped_after (suc a ∷ xs) (suc b ∷ zs) x e =
    let f : suc a ∷ opened xs ++ x ≡ suc b ∷ escaped zs = ap (λ y. y ++ x) (sym (opened_suc a xs)) ∙ e ∙ escaped_suc b zs in
    let g : opened xs ++ x ≡ escaped zs = cc in
    let r = escaped_after xs zs x g in
    let k : suc a ≡ suc b = cc in
    (r.0, ap (λ y. y ∷ zs) (sym k) ∙ ap (λ y. suc a ∷ y) r.1, r.2)
