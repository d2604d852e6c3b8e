-- Reading looks no further than the byte after what it takes, and a fault hangs on no byte behind its place.
use Rattle.std.proofs.Common.{◌≡◌, ℕ, ◌≤◌, eqb, List, [], ◌∷◌, ◌++◌, length, Result, Ok, Err, refl, sym, ap, subst, ◌∙◌, append_assoc, arith, length-append}
use Rattle.ca_text.specs.declared.fault.Fault.{Fault}
use Rattle.ca_text.specs.declared.fault.Why.{Why}
use Rattle.ca_text.specs.declared.fault.Why.TheVariants.{Syntax}
use Rattle.ca_text.specs.Inner.Reading.{◌>>=◌, Read, expect}
use Rattle.ca_text.specs.Grammar.{is_blank, skip}
use Rattle.ca_text.proofs.Tools.{either_way, pair_is}

-- the fault of this kind at the first of these bytes
abbrev pub place : Why → List ℕ → Fault
place why bytes = record { why = why; left = length bytes }

-- a value and the bytes after it, or a fault of this kind at the first of them
abbrev pub before : {A : Type 0} → Result A Why → List ℕ → Read A
before (Ok a) ys = Ok (a, ys)
before (Err why) ys = Err (place why ys)

-- What is answered hangs on the bytes in front and on the first one behind alone.
pub record Cut {A : Type 0} (p : List ℕ → Read A) (xs : List ℕ) (answer : Result A Why) : Type 0 where
  pub front : List ℕ
  pub behind : List ℕ
  pub whole : xs ≡ front ++ behind
  pub is : p xs ≡ before answer behind
  pub again : (c : ℕ) (r s : List ℕ) → behind ≡ c ∷ r → p (front ++ c ∷ s) ≡ before answer (c ∷ s)

abbrev pub LocalAt : {A : Type 0} → (List ℕ → Read A) → List ℕ → Type 0
LocalAt {A} p xs = (answer : Result A Why) × Cut p xs answer

abbrev pub IsLocal : {A : Type 0} → (List ℕ → Read A) → Type 0
IsLocal p = (xs : List ℕ) → LocalAt p xs

-- Equal faults of one type are one.
pub err_is : {A : Type 0} (f g : Fault) → ◌≡◌ {A = Result A Fault} (Err f) (Err g) → f ≡ g
err_is f g e = cc

-- What stands behind no bytes is none.
empty_front : (front ys : List ℕ) → [] ≡ front ++ ys → ys ≡ []
empty_front [] ys e = sym e
empty_front (x ∷ front) ys e = absurd cc

module _ {A : Type 0} (p : List ℕ → Read A) where
  -- An answer at the end.
  pub end_local : (answer : Result A Why) → p [] ≡ before answer [] → LocalAt p []
  end_local answer e = (answer, record { front = []; behind = []; whole = refl; is = e; again = λ c r s h. absurd cc })

  -- A fault at the end.
  pub nil_local : p [] ≡ before (Err Syntax) [] → LocalAt p []
  nil_local e = end_local (Err Syntax) e

  -- An answer before this byte, whatever follows.
  stop_local : (answer : Result A Why) (b : ℕ) (bytes : List ℕ) → ((zs : List ℕ) → p (b ∷ zs) ≡ before answer (b ∷ zs)) → LocalAt p (b ∷ bytes)
  stop_local answer b bytes e = (
    answer,
    record {
      front = [];
      behind = b ∷ bytes;
      whole = refl;
      is = e bytes;
      again = λ c r s h. let first : b ≡ c = cc in subst (λ (x : ℕ). p (x ∷ s) ≡ before answer (x ∷ s)) first (e s);
    },
  )

  -- A fault at this byte, whatever follows.
  pub fault_local : (why : Why) (b : ℕ) (bytes : List ℕ) → ((zs : List ℕ) → p (b ∷ zs) ≡ before (Err why) (b ∷ zs)) → LocalAt p (b ∷ bytes)
  fault_local why = stop_local (Err why)

  -- A value before this byte, whatever follows.
  pub stay_local : (a : A) (b : ℕ) (bytes : List ℕ) → ((zs : List ℕ) → p (b ∷ zs) ≡ before (Ok a) (b ∷ zs)) → LocalAt p (b ∷ bytes)
  stay_local a = stop_local (Ok a)

  -- A value behind this byte, whatever follows.
  pub done_local : (a : A) (b : ℕ) (bytes : List ℕ) → ((zs : List ℕ) → p (b ∷ zs) ≡ before (Ok a) zs) → LocalAt p (b ∷ bytes)
  done_local a b bytes e = (Ok a, record { front = b ∷ []; behind = bytes; whole = refl; is = e bytes; again = λ c r s h. e (c ∷ s) })

  -- Behind this byte, another reader.
  pub cons_local : (q : List ℕ → Read A) (b : ℕ) (bytes : List ℕ) → ((zs : List ℕ) → p (b ∷ zs) ≡ q zs) → LocalAt q bytes → LocalAt p (b ∷ bytes)
  cons_local q b bytes e (answer, t) = (
    answer,
    record {
      front = b ∷ t.front;
      behind = t.behind;
      whole = ap (λ z. b ∷ z) t.whole;
      is = e bytes ∙ t.is;
      again = λ c r s h. e (t.front ++ c ∷ s) ∙ t.again c r s h;
    },
  )

  same_first : (q : List ℕ → Read A) (b : ℕ) (bytes : List ℕ) → ((zs : List ℕ) → p (b ∷ zs) ≡ q (b ∷ zs)) → (front behind : List ℕ) (c : ℕ) (r s : List ℕ)
      → b ∷ bytes ≡ front ++ behind → behind ≡ c ∷ r → p (front ++ c ∷ s) ≡ q (front ++ c ∷ s)
  same_first q b bytes e [] behind c r s whole h = let first : b ≡ c = cc in subst (λ (x : ℕ). p (x ∷ s) ≡ q (x ∷ s)) first (e s)
  same_first q b bytes e (d ∷ front) behind c r s whole h =
      let first : b ≡ d = cc in subst (λ (x : ℕ). p (x ∷ (front ++ c ∷ s)) ≡ q (x ∷ (front ++ c ∷ s))) first (e (front ++ c ∷ s))

  -- The same as another reader wherever the first byte is the same.
  pub same_local : (q : List ℕ → Read A) (b : ℕ) (bytes : List ℕ) → ((zs : List ℕ) → p (b ∷ zs) ≡ q (b ∷ zs)) → LocalAt q (b ∷ bytes) → LocalAt p (b ∷ bytes)
  same_local q b bytes e (answer, t) = (
    answer,
    record {
      front = t.front;
      behind = t.behind;
      whole = t.whole;
      is = e bytes ∙ t.is;
      again = λ c r s h. same_first q b bytes e t.front t.behind c r s t.whole h ∙ t.again c r s h;
    },
  )

  -- The same as another reader where there are no bytes.
  pub alike : (q : List ℕ → Read A) → p [] ≡ q [] → LocalAt q [] → LocalAt p []
  alike q e (answer, t) = end_local answer (e ∙ t.is ∙ ap (λ x. before answer x) (empty_front t.front t.behind t.whole))

  -- The same as another reader everywhere.
  pub equal_local : (q : List ℕ → Read A) → ((xs : List ℕ) → p xs ≡ q xs) → IsLocal q → IsLocal p
  equal_local q e l xs = let t = (l xs).1 in (
    (l xs).0,
    record {
      front = t.front;
      behind = t.behind;
      whole = t.whole;
      is = e xs ∙ t.is;
      again = λ c r s h. e (t.front ++ c ∷ s) ∙ t.again c r s h;
    },
  )

-- A value and all bytes behind it.
pub pure_local : {A : Type 0} (a : A) → IsLocal (λ ys. Ok (a, ys))
pure_local a xs = (Ok a, record { front = []; behind = xs; whole = refl; is = refl; again = λ c r s h. refl })

-- ---- what was taken, and what is left

-- the parts of some bytes at a fault
pub record Stuck {A : Type 0} (p : List ℕ → Read A) (xs : List ℕ) (f : Fault) : Type 0 where
  pub front : List ℕ
  pub behind : List ℕ
  pub whole : xs ≡ front ++ behind
  pub is : f ≡ place f.why behind
  pub again : (c : ℕ) (r s : List ℕ) → behind ≡ c ∷ r → p (front ++ c ∷ s) ≡ Err (place f.why (c ∷ s))

module _ {A : Type 0} (p : List ℕ → Read A) (xs : List ℕ) where
  -- A fault comes again with any bytes behind the one at its place.
  pub stuck : LocalAt p xs → (f : Fault) → p xs ≡ Err f → Stuck p xs f
  stuck (Ok a, t) f e = let i = t.is in absurd cc
  stuck (Err why, t) f e =
      let same : place why t.behind ≡ f = err_is {A = A × List ℕ} (place why t.behind) f (sym t.is ∙ e) in
      let kind : why ≡ f.why = ap (λ (g : Fault). g.why) same in
      record {
        front = t.front;
        behind = t.behind;
        whole = t.whole;
        is = sym same ∙ ap (λ (w : Why). place w t.behind) kind;
        again = λ c r s h. t.again c r s h ∙ ap (λ (w : Why). Err (place w (c ∷ s))) kind;
      }

  -- No more bytes are left than there were.
  pub no_longer : LocalAt p xs → (a : A) (ys : List ℕ) → p xs ≡ Ok (a, ys) → length ys ≤ length xs
  no_longer (Ok b, t) a ys e =
      let q = pair_is b t.behind a ys (sym t.is ∙ e) in
      omega (arith, ap (λ (l : List ℕ). length l) t.whole, length-append t.front t.behind, ap (λ (l : List ℕ). length l) q.1)
  no_longer (Err why, t) a ys e = let i = t.is in absurd cc

-- ---- one reader behind another

module _ {A B : Type 0} (p : List ℕ → Read A) (q : A → List ℕ → Read B) (first : IsLocal p) (second : (a : A) → IsLocal (q a)) where
  abbrev next : Read A → Read B
  next r = r >>= λ x. q x.0 x.1

  -- the first part again, before what the second part began with
  again_first : (xs : List ℕ) (a : A) (t : Cut p xs (Ok a)) (front behind : List ℕ) (c : ℕ) (r s : List ℕ) → t.behind ≡ front ++ behind → behind ≡ c ∷ r
      → p (t.front ++ (front ++ c ∷ s)) ≡ Ok (a, front ++ c ∷ s)
  again_first xs a t [] behind c r s e h = t.again c r s (e ∙ h)
  again_first xs a t (d ∷ front) behind c r s e h = t.again d (front ++ behind) (front ++ c ∷ s) e

  behind_first : (xs : List ℕ) → LocalAt p xs → LocalAt (λ ys. next (p ys)) xs
  behind_first xs (Ok a, t) = let u = (second a t.behind).1 in (
    (second a t.behind).0,
    record {
      front = t.front ++ u.front;
      behind = u.behind;
      whole = t.whole ∙ ap (λ x. t.front ++ x) u.whole ∙ sym (append_assoc t.front u.front u.behind);
      is = ap next t.is ∙ u.is;
      again = λ c r s h. ap (λ x. next (p x)) (append_assoc t.front u.front (c ∷ s)) ∙ ap next (again_first xs a t u.front u.behind c r s u.whole h)
          ∙ u.again c r s h;
    },
  )
  behind_first xs (Err why, t) =
      (Err why, record { front = t.front; behind = t.behind; whole = t.whole; is = ap next t.is; again = λ c r s h. ap next (t.again c r s h) })

  -- One local reader behind another is local.
  pub bind_local : IsLocal (λ xs. p xs >>= λ x. q x.0 x.1)
  bind_local xs = behind_first xs (first xs)

-- ---- a byte, and blanks

module _ {A : Type 0} (q : List ℕ → Read A) (behind : IsLocal q) where
  -- A local reader behind a byte is local.
  pub expect_local : (d : ℕ) → IsLocal (λ xs. expect d xs >>= q)
  unfolding expect
  expect_local d [] = nil_local (λ xs. expect d xs >>= q) refl
  expect_local d (b ∷ bytes) =
      either_way (eqb b d)
      (λ h. cons_local (λ xs. expect d xs >>= q) q b bytes (λ zs. rw h refl) (behind bytes))
      (λ h. fault_local (λ xs. expect d xs >>= q) Syntax b bytes (λ zs. rw h refl))

  -- A local reader behind blanks is local.
  pub skip_local : IsLocal (λ xs. q (skip xs))
  unfolding skip
  skip_local [] = alike (λ xs. q (skip xs)) q refl (behind [])
  skip_local (b ∷ bytes) =
      either_way (is_blank b)
      (λ h. cons_local (λ xs. q (skip xs)) (λ xs. q (skip xs)) b bytes (λ zs. rw h refl) (skip_local bytes))
      (λ h. same_local (λ xs. q (skip xs)) q b bytes (λ zs. rw h refl) (behind (b ∷ bytes)))
