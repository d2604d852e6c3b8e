-- Where a reader halts, what it took begins a text.
use Rattle.std.proofs.Common.{◌≡◌, ℕ, Bool, true, false, cond, eqb, List, [], ◌∷◌, ◌++◌, length, Result, Ok, Err, refl, sym, ap, subst, ◌∙◌, append_assoc, ◌⊎◌, inl, inr, ⊎_elim}
use Rattle.std.proofs.lemmas.Bool.{eqb-true}
use Rattle.std.proofs.lemmas.List.{append-nil}
use Rattle.ca_text.specs.declared.fault.Fault.{Fault}
use Rattle.ca_text.specs.declared.fault.Why.{Why}
use Rattle.ca_text.specs.declared.fault.Why.TheVariants.{Syntax}
use Rattle.ca_text.specs.Inner.Reading.{◌>>=◌, Read, expect}
use Rattle.ca_text.proofs.Local.{place, err_is}

-- some bytes go on to a text, and it is one of this kind
abbrev pub GoesOn : {A : Type 0} → (List ℕ → A → Type 0) → List ℕ → Type 0
GoesOn {A} IsOf front = (rest : List ℕ) × (a : A) × IsOf (front ++ rest) a

pub record Halted {A : Type 0} (IsOf : List ℕ → A → Type 0) (bytes : List ℕ) (f : Fault) : Type 0 where
  pub front : List ℕ
  pub behind : List ℕ
  pub whole : bytes ≡ front ++ behind
  pub left : f.left ≡ length behind
  -- nothing was taken, or what was taken goes on to a text
  pub goes_on : (front ≡ []) ⊎ GoesOn IsOf front

-- where the reading of these bytes halts, what it took goes on
pub record HaltsAt {A X : Type 0} (IsOf : List ℕ → A → Type 0) (bytes : List ℕ) (r : Result X Fault) : Type 0 where
  pub is : (f : Fault) → r ≡ Err f → Halted IsOf bytes f

abbrev pub Halts : {A X : Type 0} → (List ℕ → Result X Fault) → (List ℕ → A → Type 0) → Type 0
Halts reader IsOf = (bytes : List ℕ) → HaltsAt IsOf bytes (reader bytes)

-- a reader takes a text to its end
abbrev pub Reads : {A : Type 0} → (List ℕ → Read A) → List ℕ → A → Type 0
Reads reader text a = reader text ≡ Ok (a, [])

module _ {A X : Type 0} {IsOf : List ℕ → A → Type 0} where
  -- A value halts nowhere.
  pub ok_halts : {bytes : List ℕ} {x : X} → HaltsAt IsOf bytes (Ok x)
  ok_halts = record { is = λ f e. absurd cc }

  -- A fault behind some bytes: they are none, or they go on.
  pub fault_halts : {bytes : List ℕ} (why : Why) (front behind : List ℕ) → bytes ≡ front ++ behind → (front ≡ []) ⊎ GoesOn IsOf front
      → HaltsAt {X = X} IsOf bytes (Err (place why behind))
  fault_halts why front behind whole goes = record {
    is = λ f e. record {
      front = front;
      behind = behind;
      whole = whole;
      left = ap (λ (g : Fault). g.left) (sym (err_is {A = X} (place why behind) f e));
      goes_on = goes;
    };
  }

  -- A fault at the first byte.
  pub here_halts : (why : Why) (bytes : List ℕ) → HaltsAt {X = X} IsOf bytes (Err (place why bytes))
  here_halts why bytes = fault_halts why [] bytes refl (inl refl)

  -- A fault behind bytes that go on.
  pub at_halts : (why : Why) (taken bytes : List ℕ) → GoesOn IsOf taken → HaltsAt {X = X} IsOf (taken ++ bytes) (Err (place why bytes))
  at_halts why taken bytes goes = fault_halts why taken bytes refl (inr goes)

  -- Whichever way a test goes.
  pub if_halts : {bytes : List ℕ} {r s : Result X Fault} (b : Bool) → (b ≡ true → HaltsAt IsOf bytes r) → (b ≡ false → HaltsAt IsOf bytes s)
      → HaltsAt IsOf bytes (cond b r s)
  if_halts true f g = f refl
  if_halts false f g = g refl

  -- The same bytes, told apart otherwise.
  pub whole_halts : {bytes other : List ℕ} {r : Result X Fault} → bytes ≡ other → HaltsAt IsOf other r → HaltsAt IsOf bytes r
  whole_halts {r = r} e h = subst (λ x. HaltsAt IsOf x r) (sym e) h

  -- The same first byte.
  pub byte_halts : {b c : ℕ} {bytes : List ℕ} {r : Result X Fault} → eqb b c ≡ true → HaltsAt IsOf (c ∷ bytes) r → HaltsAt IsOf (b ∷ bytes) r
  byte_halts {b} {c} {bytes} e h = whole_halts (ap (λ x. x ∷ bytes) (eqb-true b c e)) h

-- One reader behind another.
pub bind_halts : {A X Y : Type 0} {IsOf : List ℕ → A → Type 0} {bytes : List ℕ} {r : Result X Fault} (g : X → Result Y Fault) → HaltsAt IsOf bytes r
    → ((x : X) → r ≡ Ok x → HaltsAt IsOf bytes (g x))
    → HaltsAt IsOf bytes (r >>= g)
bind_halts {r = Ok x} g first second = second x refl
bind_halts {X = X} {Y = Y} {r = Err d} g first second =
    record { is = λ f e. first.is f (ap (λ (h : Fault). Err h) (err_is {A = Y} d f e)) }

module _ {A B X : Type 0} {IsPart : List ℕ → A → Type 0} {IsOf : List ℕ → B → Type 0} {bytes : List ℕ} {r : Result X Fault} where
  -- A part halts behind bytes that were taken, and they go on, with no part and with each.
  pub behind_halts : (taken : List ℕ) → GoesOn IsOf taken
      → ((part : List ℕ) (a : A) → IsPart part a → (rest : List ℕ) × (b : B) × IsOf (taken ++ (part ++ rest)) b) → HaltsAt IsPart bytes r
      → HaltsAt IsOf (taken ++ bytes) r
  behind_halts taken none each halts = record {
    is = λ f e. let h = halts.is f e in record {
      front = taken ++ h.front;
      behind = h.behind;
      whole = ap (λ x. taken ++ x) h.whole ∙ sym (append_assoc taken h.front h.behind);
      left = h.left;
      goes_on = inr (⊎_elim
          (λ e. let same : taken ++ none.0 ≡ (taken ++ h.front) ++ none.0 = sym (append_assoc taken h.front none.0 ∙ ap (λ x. taken ++ (x ++ none.0)) e) in
          (none.0, none.1, subst (λ x. IsOf x none.1) same none.2))
          (λ g. let u = each (h.front ++ g.0) g.1 g.2 in
          let same : taken ++ ((h.front ++ g.0) ++ u.0) ≡ (taken ++ h.front) ++ (g.0 ++ u.0) = simp append_assoc in
          (g.0 ++ u.0, u.1, subst (λ x. IsOf x u.1) same u.2))
          h.goes_on);
    };
  }

  -- Texts of one kind go on to texts of another.
  pub map_halts : ((part : List ℕ) (a : A) → IsPart part a → (rest : List ℕ) × (b : B) × IsOf (part ++ rest) b) → HaltsAt IsPart bytes r → HaltsAt IsOf bytes r
  map_halts each halts = record {
    is = λ f e. let h = halts.is f e in record {
      front = h.front;
      behind = h.behind;
      whole = h.whole;
      left = h.left;
      goes_on = ⊎_elim (λ e. inl e)
          (λ g. let u = each (h.front ++ g.0) g.1 g.2 in inr (g.0 ++ u.0, u.1, subst (λ x. IsOf x u.1) (append_assoc h.front g.0 u.0) u.2))
          h.goes_on;
    };
  }

  -- As behind_halts, with no rest.
  pub behind_as : (taken : List ℕ) → GoesOn IsOf taken → ((part : List ℕ) (a : A) → IsPart part a → (b : B) × IsOf (taken ++ part) b) → HaltsAt IsPart bytes r
      → HaltsAt IsOf (taken ++ bytes) r
  behind_as taken none each =
      behind_halts taken none (λ part a is. let u = each part a is in ([], u.0, subst (λ x. IsOf (taken ++ x) u.0) (sym (append-nil part)) u.1))

  -- As map_halts, with no rest.
  pub as_halts : ((part : List ℕ) (a : A) → IsPart part a → (b : B) × IsOf part b) → HaltsAt IsPart bytes r → HaltsAt IsOf bytes r
  as_halts each = map_halts (λ part a is. let u = each part a is in ([], u.0, subst (λ x. IsOf x u.0) (sym (append-nil part)) u.1))

same_goes_on : {A : Type 0} (p q : List ℕ → Read A) (b : ℕ) (bytes : List ℕ) → ((zs : List ℕ) → p (b ∷ zs) ≡ q (b ∷ zs)) → (front behind : List ℕ)
    → b ∷ bytes ≡ front ++ behind → (front ≡ []) ⊎ GoesOn (Reads q) front → (front ≡ []) ⊎ GoesOn (Reads p) front
same_goes_on p q b bytes e [] behind whole goes = inl refl
same_goes_on p q b bytes e (c ∷ front) behind whole goes =
    let first : b ≡ c = cc in
    let same : (zs : List ℕ) → p (c ∷ zs) ≡ q (c ∷ zs) = λ zs. ap (λ z. p (z ∷ zs)) (sym first) ∙ e zs ∙ ap (λ z. q (z ∷ zs)) first in
    ⊎_elim (λ none. inl none) (λ g. inr (g.0, g.1, same (front ++ g.0) ∙ g.2)) goes

module _ {A : Type 0} (p q : List ℕ → Read A) (b : ℕ) {bytes : List ℕ} {r : Read A} where
  -- Behind a byte, the same as another reader.
  pub cons_halts : ((zs : List ℕ) → p (b ∷ zs) ≡ q zs) → GoesOn (Reads q) [] → HaltsAt (Reads q) bytes r → HaltsAt (Reads p) (b ∷ bytes) r
  cons_halts e none = behind_as (b ∷ []) (none.0, none.1, e none.0 ∙ none.2) (λ part a is. (a, e part ∙ is))

  -- The same as another reader, wherever this byte is the first.
  pub same_halts : ((zs : List ℕ) → p (b ∷ zs) ≡ q (b ∷ zs)) → HaltsAt (Reads q) (b ∷ bytes) r → HaltsAt (Reads p) (b ∷ bytes) r
  same_halts e halts = record {
    is = λ f k. let h = halts.is f k in record {
      front = h.front;
      behind = h.behind;
      whole = h.whole;
      left = h.left;
      goes_on = same_goes_on p q b bytes e h.front h.behind h.whole h.goes_on;
    };
  }

-- A byte that doesn't stand behind bytes that go on.
pub expect_behind : {A : Type 0} {IsOf : List ℕ → A → Type 0} (c : ℕ) (taken bytes : List ℕ) → GoesOn IsOf taken
    → HaltsAt IsOf (taken ++ bytes) (expect c bytes)
unfolding expect
expect_behind c taken [] goes = at_halts Syntax taken [] goes
expect_behind c taken (b ∷ bytes) goes = if_halts (eqb b c) (λ h. ok_halts) (λ h. at_halts Syntax taken (b ∷ bytes) goes)

-- A byte that doesn't stand at the front.
pub expect_halts : {A : Type 0} {IsOf : List ℕ → A → Type 0} (c : ℕ) (bytes : List ℕ) → HaltsAt IsOf bytes (expect c bytes)
unfolding expect
expect_halts c [] = here_halts Syntax []
expect_halts c (b ∷ bytes) = if_halts (eqb b c) (λ h. ok_halts) (λ h. here_halts Syntax (b ∷ bytes))
