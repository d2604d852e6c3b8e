-- The rows that a pass holds, as it takes, writes, puts back and retires.
use Rattle.std.proofs.Common.{◌≡◌, ◌≢◌, ◌⊎◌, ℕ, true, false, ◌<◌, ◌≤◌, List, [], ◌∷◌, length, get_or, Vec, sym, refl, ap, ◌∙◌, subst, inl, inr, ⊎_elim, arith}
use Rattle.std.specs.Global.{Global}
use Rattle.std.specs.declared.option.Option.TheVariants as again
use mathlib.Core.Logic.{dite}
use mathlib.Core.Option.{some, none, some-injective, some-ne-none}
use native.Mathlib.Decide.{ℕ_discrete}
use Rattle.ca_node.specs.Laws.{in_nothing}
use Rattle.ca_node.specs.Links.{IsIn}
use Rattle.ca_node.specs.Told.{MyTree}
use Rattle.ca_node.specs.TreeView.{TreeView}
use Rattle.ca_node.proofs.Looking.{in_more}
use Rattle.ca_node.proofs.Members.{in_first, in_rest}
use Rattle.ca_base.specs.Taking.{HasHeld, AreHeld, lent_of}
use Rattle.ca_base.specs.Writing.{IsRewritten}
use Rattle.ca_base.proofs.Filling.{rewritten}
use Rattle.ca_rows.specs.declared.kept.Kept.{Kept}
use Rattle.ca_rows.specs.declared.view.Claim.TheVariants.{Holds, Lends, Keeps}
use Rattle.ca_rows.specs.declared.view.Claimed.{Claimed}
use Rattle.ca_rows.specs.declared.view.View.{View}
use Rattle.ca_rows.specs.declared.kept.KeptRows.{KeptRows}
use Rattle.ca_rows.specs.declared.taken.Taken.TheVariants.{Row}
use Rattle.ca_rows.specs.Calls.{TakesRow, PutsRow}
use Rattle.ca_rows.specs.Claims.{claim_of, claimed, dropped}
use Rattle.ca_rows.specs.Kept.{AreKept, IsTakenOut, nobody}
use Rattle.ca_rows.specs.Reclaiming.{Reuses}
use Rattle.ca_rows.proofs.Claiming.{claimed_here, claimed_else, dropped_here, dropped_else}
use Rattle.ca_rows.proofs.HeldCount.{dropped_no_more, taken_one_more, dropped_one_less, written_no_more, claimed_one_less}
use Rattle.ca_rows.proofs.Keeping.{claimed_too, dropped_too, kept_as}
use Rattle.ca_rows.proofs.Listing.{place_claimed}
use Rattle.ca_rows.specs.Layout.{row_words}

pub not_kept : (claims : List Claimed) (row : ℕ) (its : List ℕ) (t : ℕ)
    → claim_of claims row ≡ some (Holds its) → claim_of claims row ≢ some (Keeps t)
not_kept claims row its t e f = let g = some-injective (Holds its) (Keeps t) (sym e ∙ f) in
    absurd cc

-- Rows that are lent are lent still, where the claims differ on one row alone that wasn't.
pub lent_still : (claims claims' : List Claimed) (lent : List ℕ) (row : ℕ)
    → ((r : ℕ) → IsIn r lent → claim_of claims r ≡ some Lends)
    → claim_of claims row ≢ some Lends
    → ((r : ℕ) → r ≢ row → claim_of claims' r ≡ claim_of claims r)
    → (r : ℕ) → IsIn r lent → claim_of claims' r ≡ some Lends
lent_still claims claims' lent row lends other others r i =
    others r (λ e. other (ap (claim_of claims) (sym e) ∙ lends r i)) ∙ lends r i

-- A row that is held, or kept, isn't lent.
held_unlent : (claims : List Claimed) (row : ℕ) (its : List ℕ)
    → claim_of claims row ≡ some (Holds its) → claim_of claims row ≢ some Lends
held_unlent claims row its e f = let same = some-injective (Holds its) Lends (sym e ∙ f) in absurd cc

-- Nor is one kept that is lent.
pub lent_unkept : (claims : List Claimed) (row t : ℕ)
    → claim_of claims row ≡ some Lends → claim_of claims row ≢ some (Keeps t)
lent_unkept claims row t e f = let same = some-injective Lends (Keeps t) (sym e ∙ f) in absurd cc

kept_unlent : (claims : List Claimed) (row t : ℕ)
    → claim_of claims row ≡ some (Keeps t) → claim_of claims row ≢ some Lends
kept_unlent claims row t e f = let same = some-injective (Keeps t) Lends (sym e ∙ f) in absurd cc

-- Claims that differ on one row alone, which isn't kept.
kept_still : (rows : ℕ) (kept : Vec Kept Global) (claims claims' : List Claimed) (row : ℕ)
    (its new : List ℕ) → AreKept rows claims kept
    → claim_of claims row ≡ some (Holds its) → claim_of claims' row ≡ some (Holds new)
    → ((r : ℕ) → r ≢ row → claim_of claims' r ≡ claim_of claims r)
    → AreKept rows claims' kept
kept_still rows kept claims claims' row its new k was now others =
    kept_as rows claims kept k claims'
    (λ r t e. dite (ℕ_discrete r row)
    (λ f. absurd (not_kept claims' row new t now (ap (claim_of claims') (sym f) ∙ e)))
    (λ n. sym (others r n) ∙ e))
    (λ r t e. others r (λ f. not_kept claims row its t was (ap (claim_of claims) (sym f) ∙ e)) ∙ e)

-- What is held or lent, and isn't the first row, is one of the others, or lent.
pub else_held : (row r : ℕ) (held lent : List ℕ) → r ≢ row → IsIn r (row ∷ held) ⊎ IsIn r lent
    → IsIn r held ⊎ IsIn r lent
else_held row r held lent n is = ⊎_elim
    (λ (i : IsIn r (row ∷ held)). inl (⊎_elim (λ (f : row ≡ r). absurd (n (sym f)))
    (λ (j : IsIn r held). j) (in_more row r held i)))
    (λ (l : IsIn r lent). inr l) is

-- A row that wasn't held is.
holds_too : (rows : ℕ) (kept kept' : Vec Kept Global) (claims : List Claimed) (lent held : List ℕ)
    (row : ℕ) (its : List ℕ) → HasHeld rows kept claims lent held
    → ((x : List ℕ) → claim_of claims row ≢ some (Holds x)) → claim_of claims row ≢ some Lends
    → 0 < row → row ≤ rows
    → length its ≡ row_words → AreKept rows (claimed row (Holds its) claims) kept'
    → (¬ IsIn row held) × HasHeld rows kept' (claimed row (Holds its) claims) lent (row ∷ held)
holds_too rows kept kept' claims lent held row its h unheld unlent lo hi long list = (
  new,
  record {
    are_kept = list;
    only = λ r c e. dite (ℕ_discrete r row) (λ (f : r ≡ row). inr (inl (0, ap some (sym f))))
        (λ n. ⊎_elim (λ k. inl k)
        (λ i. inr (⊎_elim (λ j. inl (in_rest r row held j)) (λ l. inr l) i))
        (h.only r c (sym (claimed_else claims row r (Holds its) n) ∙ e)));
    each = λ r i. ⊎_elim
        (λ (f : row ≡ r). subst (λ (y : ℕ). (0 < y) × (y ≤ rows)
        × ((x : List ℕ) × (length x ≡ row_words)
        × (claim_of (claimed row (Holds its) claims) y ≡ some (Holds x)))) f (
          lo,
          hi,
          (its, long, claimed_here claims row (Holds its)),
        ))
        (λ (j : IsIn r held). let w = h.each r j in (
          w.0,
          w.1,
          (
            w.2.0,
            w.2.1,
            claimed_else claims row r (Holds its) (λ f. new (subst (λ (y : ℕ). IsIn y held) f j))
                ∙ w.2.2,
          ),
        ))
        (in_more row r held i);
    lends = lent_still claims (claimed row (Holds its) claims) lent row h.lends unlent
        (λ r n. claimed_else claims row r (Holds its) n);
  },
)
  where
    new : ¬ IsIn row held
    new i = let w = h.each row i in unheld w.2.0 w.2.2

module _ (rows : ℕ) (kept : Vec Kept Global) where
  -- A row that nobody claimed was taken.
  pub took : (claims : List Claimed) (lent held : List ℕ) (row : ℕ) (its : List ℕ)
      → HasHeld rows kept claims lent held → claim_of claims row ≡ none → 0 < row
      → row ≤ rows → length its ≡ row_words → (¬ IsIn row held)
      × HasHeld rows kept (claimed row (Holds its) claims) lent (row ∷ held)
  took claims lent held row its h free lo hi long =
      holds_too rows kept kept claims lent held row its h
      (λ x e. some-ne-none (Holds x) (sym e ∙ free)) (λ e. some-ne-none Lends (sym e ∙ free)) lo hi long
      (claimed_too rows claims kept h.are_kept row (Holds its) (λ t e. cc)
      (λ t e. some-ne-none (Keeps t) (sym e ∙ free)))

  -- A row that was held was put back.
  pub put_back : (claims : List Claimed) (lent held : List ℕ) (row : ℕ) → ¬ IsIn row held
      → HasHeld rows kept claims lent (row ∷ held)
      → HasHeld rows kept (dropped row claims) lent held
  put_back claims lent held row out h = let own = h.each row (in_first row held) in record {
    are_kept = dropped_too rows claims kept h.are_kept row
        (λ t. not_kept claims row own.2.0 t own.2.2);
    only = λ r c e. dite (ℕ_discrete r row)
        (λ (f : r ≡ row).
        absurd (some-ne-none c (sym e
        ∙ (ap (claim_of (dropped row claims)) f ∙ dropped_here claims row))))
        (λ n. ⊎_elim (λ k. inl k)
        (λ i. inr (else_held row r held lent n i))
        (h.only r c (sym (dropped_else claims row r n) ∙ e)));
    each = λ r i. let w = h.each r (in_rest r row held i) in (
      w.0,
      w.1,
      (
        w.2.0,
        w.2.1,
        dropped_else claims row r (λ f. out (subst (λ (y : ℕ). IsIn y held) f i)) ∙ w.2.2,
      ),
    );
    lends = lent_still claims (dropped row claims) lent row h.lends
        (held_unlent claims row own.2.0 own.2.2) (λ r n. dropped_else claims row r n);
  }

  -- A row that was held was written.
  pub wrote : (m m' : MyTree) (lent held : List ℕ) (row : ℕ) (its : List ℕ) → IsIn row held
      → length its ≡ row_words → HasHeld rows kept m.0.claims lent held
      → IsRewritten row its m m' → HasHeld rows kept m'.0.claims lent held
  wrote m m' lent held row its i long h w = let own = h.each row i in record {
    are_kept =
        kept_still rows kept m.0.claims m'.0.claims row own.2.0 its h.are_kept own.2.2 w.here
        w.others;
    only = λ r c e. dite (ℕ_discrete r row)
        (λ (f : r ≡ row). inr (inl (subst (λ (y : ℕ). IsIn y held) (sym f) i)))
        (λ n. h.only r c (sym (w.others r n) ∙ e));
    each = λ r j. dite (ℕ_discrete r row)
        (λ (f : r ≡ row). subst (λ (y : ℕ). (0 < y) × (y ≤ rows) × ((x : List ℕ) × (length x ≡ row_words)
        × (claim_of m'.0.claims y ≡ some (Holds x)))) (sym f) (own.0, own.1, (its, long, w.here)))
        (λ n. let k = h.each r j in (k.0, k.1, (k.2.0, k.2.1, w.others r n ∙ k.2.2)));
    lends = lent_still m.0.claims m'.0.claims lent row h.lends
        (held_unlent m.0.claims row own.2.0 own.2.2) w.others;
  }

-- A row that was held was retired.
pub retired : (rows : ℕ) (kept kept' : Vec Kept Global) (claims : List Claimed) (lent held : List ℕ)
    (row t : ℕ) → ¬ IsIn row held
    → HasHeld rows kept claims lent (row ∷ held) → AreKept rows (claimed row (Keeps t) claims) kept'
    → HasHeld rows kept' (claimed row (Keeps t) claims) lent held
retired rows kept kept' claims lent held row t out h k = record {
  are_kept = k;
  only = λ r c e. dite (ℕ_discrete r row)
      (λ (f : r ≡ row). inl (
        t,
        some-injective c (Keeps t) (sym e
            ∙ (ap (claim_of (claimed row (Keeps t) claims)) f ∙ claimed_here claims row (Keeps t))),
      ))
      (λ n. ⊎_elim (λ y. inl y)
      (λ i. inr (else_held row r held lent n i))
      (h.only r c (sym (claimed_else claims row r (Keeps t) n) ∙ e)));
  each = λ r i. let w = h.each r (in_rest r row held i) in (
    w.0,
    w.1,
    (
      w.2.0,
      w.2.1,
      claimed_else claims row r (Keeps t) (λ f. out (subst (λ (y : ℕ). IsIn y held) f i))
          ∙ w.2.2,
    ),
  );
  lends = let own = h.each row (in_first row held) in
      lent_still claims (claimed row (Keeps t) claims) lent row h.lends
      (held_unlent claims row own.2.0 own.2.2) (λ r n. claimed_else claims row r (Keeps t) n);
}

turned : (a b r : ℕ) → IsIn r (a ∷ b ∷ []) → IsIn r (b ∷ a ∷ [])
turned a b r i = ⊎_elim (λ (e : a ≡ r). in_rest r b (a ∷ []) (0, ap some e))
    (λ (j : IsIn r (b ∷ [])). ⊎_elim (λ (e : b ≡ r). (0, ap some e))
    (λ (k : IsIn r []). absurd (in_nothing r [] refl k)) (in_more b r [] j))
    (in_more a r (b ∷ []) i)

-- Of two rows that are held either may be the first one.
pub either_first : (rows : ℕ) (kept : Vec Kept Global) (view : View TreeView) (a b : ℕ)
    → AreHeld rows kept view (a ∷ b ∷ [])
    → AreHeld rows kept view (b ∷ a ∷ [])
either_first rows kept view a b h = (
  record {
    are_kept = h.0.are_kept;
    only = λ r c e. ⊎_elim (λ k. inl k)
        (λ i. inr (⊎_elim (λ j. inl (turned a b r j)) (λ l. inr l) i)) (h.0.only r c e);
    each = λ r i. h.0.each r (turned b a r i);
    lends = h.0.lends;
  },
  h.1,
)

-- By what taking a row told.
pub took_row : (rows : ℕ) (kept kept' : KeptRows) (m m' : MyTree) (row : ℕ) → m.0.sizes.rows ≡ rows
    → TakesRow (Row row) m m' → kept' ≡ kept → (held : List ℕ)
    → length held < 8 → AreHeld rows kept.rows m.0 held → (¬ IsIn row held)
    × AreHeld rows kept'.rows m'.0 (row ∷ held)
took_row rows kept kept' m m' row size told same held few h = let lo = told.0 in let hi = told.1 in
    let its : List ℕ = told.3.0 in
    let t = took rows kept.rows m.0.claims (lent_of m.0.upper.ranges.own) held row its h.0 told.2 lo (subst
    (λ (y : ℕ). row ≤ y) size hi) told.3.1 in
    let one = taken_one_more row its m.0.claims told.2 in let now = h.1.now in
    let ever = h.1.ever in (
      t.0,
      subst (λ (x : MyTree × KeptRows). AreHeld rows x.1.rows x.0.0 (row ∷ held))
          (λ i. (sym told.3.2 i, sym same i))
          (t.1, record { now = omega arith; ever = omega arith }),
    )

-- By what taking a kept row again told.
pub reused_row : (rows like : ℕ) (kept kept' : KeptRows) (m m' : MyTree) (row : ℕ)
    → Reuses (again.Some row) like m m' kept kept'
    → AreKept rows m'.0.claims kept'.rows → (held : List ℕ)
    → length held < 8 → AreHeld rows kept.rows m.0 held → (¬ IsIn row held)
    × AreHeld rows kept'.rows m'.0 (row ∷ held)
reused_row rows like kept kept' m m' row told list held few h = let its : List ℕ = told.0.0 in
    let claims : List Claimed = claimed row (Holds its) m.0.claims in
    let out : IsTakenOut m.0.pin.told like row kept.rows.items kept'.rows.items = told.1 in
    let at : ℕ = (get_or kept.rows.items out.0 nobody).at in
    let own = subst (λ (r : ℕ). (0 < r) × (r ≤ rows) × (claim_of m.0.claims r ≡ some (Keeps at)))
    out.2
    (place_claimed rows m.0.claims kept.rows.items h.0.are_kept.are out.0 nobody out.1.inside) in
    let t = holds_too rows kept.rows kept'.rows m.0.claims (lent_of m.0.upper.ranges.own) held row its h.0
    (λ x e. not_kept m.0.claims row x at e own.2) (kept_unlent m.0.claims row at own.2) own.0 own.1 told.0.1
    (subst (λ (x : MyTree). AreKept rows x.0.claims kept'.rows) told.0.2 list) in
    let less = dropped_no_more row m.0.claims in let now = h.1.now in let ever = h.1.ever in (
      t.0,
      subst (λ (x : MyTree). AreHeld rows kept'.rows x.0 (row ∷ held)) (sym told.0.2)
          (t.1, record { now = omega arith; ever = omega arith }),
    )

-- By what a lost putting back told: the row is held still.
pub kept_row : (rows : ℕ) (kept kept' : KeptRows) (m m' : MyTree) (row : ℕ) → PutsRow false row m m'
    → kept' ≡ kept → (rest : List ℕ)
    → AreHeld rows kept.rows m.0 (row ∷ rest) → AreHeld rows kept'.rows m'.0 (row ∷ rest)
kept_row rows kept kept' m m' row told same rest h =
    let own = (h.0.each row (in_first row rest)).2 in
    let n = written_no_more row own.0 told.0 m.0.claims own.2 in let now = h.1.now in
    let ever = h.1.ever in
    subst (λ (x : MyTree × KeptRows). AreHeld rows x.1.rows x.0.0 (row ∷ rest))
    (λ i. (sym told.2 i, sym same i)) (
      wrote rows kept.rows m (
        record m.0 { claims = claimed row (Holds told.0) m.0.claims },
        m.1,
      ) (lent_of m.0.upper.ranges.own) (row ∷ rest) row told.0 (in_first row rest) told.1 h.0
          (rewritten row own.0 told.0 m
          (record m.0 { claims = claimed row (Holds told.0) m.0.claims }, m.1) own.2 refl),
      record { now = omega arith; ever = ever },
    )

-- By what one that won told.
pub gone_row : (rows : ℕ) (kept kept' : KeptRows) (m m' : MyTree) (row : ℕ) → PutsRow true row m m'
    → kept' ≡ kept → (rest : List ℕ) → ¬ IsIn row rest
    → AreHeld rows kept.rows m.0 (row ∷ rest) → AreHeld rows kept'.rows m'.0 rest
gone_row rows kept kept' m m' row told same rest out h =
    let own = (h.0.each row (in_first row rest)).2 in
    let less = dropped_one_less row m.0.claims (Holds own.0) refl own.2 in let now = h.1.now in
    let ever = h.1.ever in
    subst (λ (x : MyTree × KeptRows). AreHeld rows x.1.rows x.0.0 rest)
    (λ i. (sym told i, sym same i)) (
      put_back rows kept.rows m.0.claims (lent_of m.0.upper.ranges.own) rest row out h.0,
      record { now = omega arith; ever = ever },
    )

-- By what retiring told.
pub retired_row : (rows : ℕ) (kept kept' : Vec Kept Global) (m m' : MyTree) (row t : ℕ)
    → m' ≡ (record m.0 { claims = claimed row (Keeps t) m.0.claims }, m.1)
    → AreKept rows m'.0.claims kept' → (rest : List ℕ) → ¬ IsIn row rest
    → AreHeld rows kept m.0 (row ∷ rest) → AreHeld rows kept' m'.0 rest
retired_row rows kept kept' m m' row t told k rest out h =
    let own = (h.0.each row (in_first row rest)).2 in
    let less = claimed_one_less row (Keeps t) (Holds own.0) m.0.claims refl refl own.2 in
    let now = h.1.now in let ever = h.1.ever in
    subst (λ (x : MyTree). AreHeld rows kept' x.0 rest) (sym told) (
      retired rows kept kept' m.0.claims (lent_of m.0.upper.ranges.own) rest row t out h.0 (subst
          (λ (x : MyTree). AreKept rows x.0.claims kept') told k),
      record { now = omega arith; ever = ever },
    )
