-- What is read with raised limits, beside what is read without.
use Rattle.std.proofs.Common.{◌≡◌, ℕ, zero, suc, ◌<◌, ◌≤◌, Bool, true, false, cond, List, length, Result, Ok, Err, refl, sym, ap, subst, ◌∙◌, arith, length-append}
use Rattle.ca_text.specs.declared.fault.Fault.{Fault}
use Rattle.ca_text.specs.declared.fault.Why.{Why}
use Rattle.ca_text.specs.Grammar.{skip}
use Rattle.ca_text.specs.Inner.Reading.{◌>>=◌, Read, fault}
use Rattle.ca_text.proofs.Local.{before, IsLocal}
use Rattle.ca_text.proofs.Tools.{either_way}
use Rattle.ca_text.proofs.LocalTerms.{skip_shorter}

-- A limit of this kind is raised, or it stays.
pub record Grown (raises : Why → Bool) (v : Why) (m n : ℕ) : Type 0 where
  pub more : raises v ≡ true → m < n
  pub same : raises v ≡ false → m ≡ n

-- reading got past the byte that stands so many bytes before the end
abbrev pub Past : {X : Type 0} → (X → List ℕ) → ℕ → Result X Fault → Type 0
Past rest_of left (Ok x) = length (rest_of x) < left
Past rest_of left (Err f) = f.left < left

-- what is read with raised limits, beside what is read without
abbrev pub IsRaised : {X : Type 0} → (Why → Bool) → (X → List ℕ) → Result X Fault → Result X Fault → Type 0
IsRaised raises rest_of (Ok x) r = r ≡ Ok x
IsRaised raises rest_of (Err f) r = (raises f.why ≡ false → r ≡ Err f) × (raises f.why ≡ true → Past rest_of f.left r)

-- no more bytes are left than so many
abbrev pub Within : {X : Type 0} → (X → List ℕ) → ℕ → Result X Fault → Type 0
Within rest_of left (Ok x) = length (rest_of x) ≤ left
Within rest_of left (Err f) = f.left ≤ left

-- Both, of readings that began so many bytes before the end. What is read with raised limits is kept within the bytes, so that
-- once it got past a byte, whatever is read next stands past it too.
pub record Beside {X : Type 0} (raises : Why → Bool) (rest_of : X → List ℕ) (left : ℕ) (r s : Result X Fault) : Type 0 where
  pub raised : IsRaised raises rest_of r s
  pub within : Within rest_of left s

-- ---- limits

module _ (raises : Why → Bool) (v : Why) where
  -- A limit that is not raised stays.
  pub grown_itself : (n : ℕ) → raises v ≡ false → Grown raises v n n
  grown_itself n stays = record { more = λ h. let e = sym stays ∙ h in absurd cc; same = λ h. refl }

  -- A limit that is raised by one more than two that are used up is raised.
  pub grown_before : (m n : ℕ) → Grown raises v (suc m) (suc n) → Grown raises v m n
  grown_before m n g = record { more = λ h. omega (arith, g.more h); same = λ h. omega (arith, g.same h) }

  -- No raised limit is smaller.
  pub grown_most : (m n : ℕ) → Grown raises v m n → m ≤ n
  grown_most m n g = either_way (raises v) (λ h. omega (arith, g.more h)) (λ h. omega (arith, g.same h))

  -- A limit that stays is not raised.
  pub grown_stays : (n : ℕ) → Grown raises v n n → raises v ≡ false
  grown_stays n g = either_way (raises v) (λ h. absurd (omega (arith, g.more h))) (λ h. h)

  -- A limit that was none and is some is raised.
  pub grown_raised : (n : ℕ) → Grown raises v zero (suc n) → raises v ≡ true
  grown_raised n g = either_way (raises v) (λ h. h) (λ h. absurd (omega (arith, g.same h)))

-- ---- steps

module _ {X : Type 0} (rest_of : X → List ℕ) where
  -- What is kept within some bytes is kept within more.
  pub within_more : {less left : ℕ} (s : Result X Fault) → less ≤ left → Within rest_of less s → Within rest_of left s
  within_more (Ok x) h within = omega arith
  within_more (Err f) h within = omega arith

  -- What is kept within fewer bytes got past.
  pub within_past : {less left : ℕ} (s : Result X Fault) → less < left → Within rest_of less s → Past rest_of left s
  within_past (Ok x) h within = omega arith
  within_past (Err f) h within = omega arith

module _ {raises : Why → Bool} {X : Type 0} {rest_of : X → List ℕ} where
  -- A value without raised limits is one with them.
  pub ok_beside : {left : ℕ} {x : X} → length (rest_of x) ≤ left → Beside raises rest_of left (Ok x) (Ok x)
  ok_beside h = record { raised = refl; within = h }

  -- A fault that is not raised stays.
  pub fault_beside : {left : ℕ} (why : Why) (bytes : List ℕ) → raises why ≡ false → length bytes ≤ left
      → Beside raises rest_of left (fault why bytes) (fault why bytes)
  fault_beside why bytes stays h = record { raised = (λ i. refl, λ i. let e = sym stays ∙ i in absurd cc); within = h }

  -- a limit that is raised, and reading gets past it
  pub past_beside : (why : Why) (bytes : List ℕ) (r s : Result X Fault) → raises why ≡ true → r ≡ fault why bytes → Past rest_of (length bytes) s
      → Beside raises rest_of (length bytes) r s
  past_beside why bytes r (Ok x) grows e past = rw e (record { raised = (λ i. let k = sym grows ∙ i in absurd cc, λ i. past); within = omega arith })
  past_beside why bytes r (Err f) grows e past = rw e (record { raised = (λ i. let k = sym grows ∙ i in absurd cc, λ i. past); within = omega arith })

  -- What is kept within some bytes is kept within more, and raised as before.
  pub beside_more : {less left : ℕ} {r s : Result X Fault} → less ≤ left → Beside raises rest_of less r s → Beside raises rest_of left r s
  beside_more {s = s} h b = record { raised = b.raised; within = within_more rest_of s h b.within }

  -- Both readings go one way at a test.
  pub if_beside : {left : ℕ} {x y u v : Result X Fault} (b : Bool) → (b ≡ true → Beside raises rest_of left x u) → (b ≡ false → Beside raises rest_of left y v)
      → Beside raises rest_of left (cond b x y) (cond b u v)
  if_beside true f g = f refl
  if_beside false f g = g refl

-- one reader behind another
module _ {X Y : Type 0} (before : X → List ℕ) (after : Y → List ℕ) where
  -- One reader behind another keeps within the bytes.
  pub bind_within : (left : ℕ) (s : Result X Fault) (h : X → Result Y Fault) → Within before left s → ((x : X) → Within after (length (before x)) (h x))
      → Within after left (s >>= h)
  bind_within left (Ok x) h first second = within_more after (h x) first (second x)
  bind_within left (Err f) h first second = first

  -- Behind a reader that got past, another one got past.
  pub bind_past : (left : ℕ) (s : Result X Fault) (h : X → Result Y Fault) → Past before left s → ((x : X) → Within after (length (before x)) (h x))
      → Past after left (s >>= h)
  bind_past left (Ok x) h first second = within_past after (h x) first (second x)
  bind_past left (Err f) h first second = first

  bind_raised : (raises : Why → Bool) (r s : Result X Fault) (g h : X → Result Y Fault) → IsRaised raises before r s
      → ((x : X) → r ≡ Ok x → IsRaised raises after (g x) (h x))
      → ((x : X) → Within after (length (before x)) (h x)) → IsRaised raises after (r >>= g) (s >>= h)
  bind_raised raises (Ok x) s g h first second within = subst (λ (t : Result X Fault). IsRaised raises after (g x) (t >>= h)) (sym first) (second x refl)
  bind_raised raises (Err f) s g h first second within = (λ i. let e = first.0 i in rw e refl, λ i. bind_past f.left s h (first.1 i) within)

module _ {raises : Why → Bool} {X Y : Type 0} {before : X → List ℕ} {after : Y → List ℕ} {left : ℕ} {r s : Result X Fault} where
  -- where the second reader hangs on what the first one answered without raised limits
  pub bind_known : (g h : X → Result Y Fault) → Beside raises before left r s → ((x : X) → r ≡ Ok x → IsRaised raises after (g x) (h x))
      → ((x : X) → Within after (length (before x)) (h x)) → Beside raises after left (r >>= g) (s >>= h)
  bind_known g h first second within =
      record { raised = bind_raised before after raises r s g h first.raised second within; within = bind_within before after left s h first.within within }

  -- One reader behind another, with raised limits and without.
  pub bind_beside : (g h : X → Result Y Fault) → Beside raises before left r s → ((x : X) → Beside raises after (length (before x)) (g x) (h x))
      → Beside raises after left (r >>= g) (s >>= h)
  bind_beside g h first second = bind_known g h first (λ x e. (second x).raised) (λ x. (second x).within)

-- the rest, where that is all that was read
abbrev pub itself : List ℕ → List ℕ
itself bytes = bytes

-- the rest behind a value
abbrev pub behind : {A : Type 0} → A × List ℕ → List ℕ
behind x = x.1

abbrev pub ReadsBeside : {A : Type 0} → (Why → Bool) → (List ℕ → Read A) → (List ℕ → Read A) → Type 0
ReadsBeside raises p q = (bytes : List ℕ) → Beside raises behind (length bytes) (p bytes) (q bytes)

module _ {raises : Why → Bool} {X : Type 0} {rest_of : X → List ℕ} {p q : List ℕ → Result X Fault} where
  -- A reader behind blanks, with raised limits and without.
  pub skip_beside : ((bytes : List ℕ) → Beside raises rest_of (length bytes) (p bytes) (q bytes)) → (bytes : List ℕ)
      → Beside raises rest_of (length bytes) (p (skip bytes)) (q (skip bytes))
  skip_beside l bytes = beside_more (skip_shorter bytes) (l (skip bytes))

-- a reader that looks no further than one byte ahead
module _ {A : Type 0} (p : List ℕ → Read A) (local : IsLocal p) where
  answer_within : (answer : Result A Why) (bytes ys : List ℕ) → length ys ≤ length bytes → Within behind (length bytes) (before answer ys)
  answer_within (Ok a) bytes ys h = h
  answer_within (Err why) bytes ys h = h

  -- It leaves no more bytes than there were.
  pub local_within : (bytes : List ℕ) → Within behind (length bytes) (p bytes)
  local_within bytes =
      let t = (local bytes).1 in
      subst (Within behind (length bytes)) (sym t.is)
      (answer_within (local bytes).0 bytes t.behind (omega (arith, ap (λ (l : List ℕ). length l) t.whole, length-append t.front t.behind)))
