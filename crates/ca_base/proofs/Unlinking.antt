-- The rows that a pass has after an update, as it retires what went.
use Rattle.std.proofs.Common.{◌≡◌, ◌⊎◌, ℕ, ◌+◌, ◌<◌, ◌≤◌, max, List, [], ◌∷◌, ◌++◌, length, Vec, sym, refl, ap, ◌∙◌, subst, inl, inr, ⊎_elim, arith, append_assoc, length-append}
use Rattle.std.specs.Global.{Global}
use mathlib.Core.Logic.{dite}
use mathlib.Core.Option.{some, none, some-injective, some-ne-none}
use native.Mathlib.Decide.{ℕ_discrete}
use Rattle.ca_model.specs.Event.{effect}
use Rattle.ca_model.specs.Lawful.{IsPlaceFrom}
use Rattle.ca_node.specs.Laws.{in_nothing}
use Rattle.ca_node.specs.Links.{IsIn, AreApart}
use Rattle.ca_rows.specs.Told.{met_of}
use Rattle.ca_node.specs.Told.{MyTree, IsKnown, Update, IsUpdated, given, one_more_lost, taken_out, updated, with_upper}
use Rattle.ca_node.specs.TreeView.{TreeView}
use Rattle.ca_node.proofs.HeldRows.{given_fewer, taken_out_more}
use Rattle.ca_node.proofs.Members.{in_rest, has, given_here, given_else, taken_here, taken_else, in_first}
use Rattle.ca_base.specs.Progress.{HasDone}
use Rattle.ca_base.specs.Taking.{HasHeld, AreHeld, HasTakenOut, AreUnlinked, lent_of}
use Rattle.ca_base.specs.Writing.{IsRewritten}
use Rattle.ca_base.proofs.Held.{else_held, lent_still, wrote}
use Rattle.ca_rows.specs.declared.kept.Kept.{Kept}
use Rattle.ca_rows.specs.declared.kept.KeptRows.{KeptRows}
use Rattle.ca_rows.specs.declared.sizes.Sizes.{Sizes}
use Rattle.ca_rows.specs.declared.view.Claim.{Claim}
use Rattle.ca_rows.specs.declared.view.Claim.TheVariants.{Holds, Lends, Unlinked, Keeps}
use Rattle.ca_rows.specs.declared.view.Claimed.{Claimed}
use Rattle.ca_rows.specs.declared.view.View.{View}
use Rattle.ca_rows.specs.Claims.{claim_of, claimed, held_count}
use Rattle.ca_rows.specs.Kept.{AreKept}
use Rattle.ca_rows.proofs.Claiming.{claimed_here, claimed_else}
use Rattle.ca_rows.proofs.HeldCount.{claimed_one_less}
use Rattle.ca_rows.proofs.Keeping.{kept_as}
use Rattle.ca_rows.specs.Layout.{row_words}

module _ (rows : ℕ) (kept : Vec Kept Global) (claims : List Claimed) (lent ins outs : List ℕ)
    (h : HasHeld rows kept claims lent ins)
    (free : (r : ℕ) → IsIn r outs → claim_of claims r ≡ none) where
  abbrev now : List Claimed
  now = taken_out outs (given ins claims)

  else_now : (r : ℕ) → ¬ IsIn r outs → ¬ IsIn r ins → claim_of now r ≡ claim_of claims r
  else_now r n m = taken_else outs (given ins claims) r n ∙ given_else ins claims r m

  kept_out : (r t : ℕ) → claim_of claims r ≡ some (Keeps t) → ¬ IsIn r outs
  kept_out r t e o = some-ne-none (Keeps t) (sym e ∙ free r o)

  kept_else : (r t : ℕ) → claim_of claims r ≡ some (Keeps t) → ¬ IsIn r ins
  kept_else r t e i = let w = (h.each r i).2 in
      let same = some-injective (Holds w.0) (Keeps t) (sym w.2 ∙ e) in absurd cc

  lent_stays : (r : ℕ) → claim_of claims r ≡ some Lends → ¬ IsIn r outs
  lent_stays r e o = some-ne-none Lends (sym e ∙ free r o)

  lent_not_held : (r : ℕ) → claim_of claims r ≡ some Lends → ¬ IsIn r ins
  lent_not_held r e i = let w = (h.each r i).2 in
      let same = some-injective (Holds w.0) Lends (sym w.2 ∙ e) in absurd cc

  -- A claim that is left is one on a row that went, or was there before.
  left : (r : ℕ) (c : Claim) → claim_of now r ≡ some c → ((c ≡ Unlinked) × IsIn r outs)
      ⊎ ((claim_of claims r ≡ some c) × ¬ IsIn r ins)
  left r c e = ⊎_elim
      (λ (o : IsIn r outs).
      inl (some-injective c Unlinked (sym e ∙ taken_here outs (given ins claims) r o), o))
      (λ (n : ¬ IsIn r outs). ⊎_elim
      (λ (i : IsIn r ins).
      absurd (some-ne-none c (sym e
      ∙ (taken_else outs (given ins claims) r n ∙ given_here ins claims r i))))
      (λ (m : ¬ IsIn r ins). inr (sym (else_now r n m) ∙ e, m)) (has ins r)) (has outs r)

  -- The rows that the seat held came, and others went that nobody claimed: those it has unlinked.
  pub unlinked_then : HasTakenOut rows kept now lent outs
  unlinked_then = record {
    are_kept = kept_as rows claims kept h.are_kept now
        (λ r t e. ⊎_elim
        (λ (o : (Keeps t ≡ Unlinked) × IsIn r outs). let same = o.0 in absurd cc)
        (λ (o : (claim_of claims r ≡ some (Keeps t)) × ¬ IsIn r ins). o.0) (left r (Keeps t) e))
        (λ r t e. else_now r (kept_out r t e) (kept_else r t e) ∙ e);
    only = λ r c e. ⊎_elim (λ (o : (c ≡ Unlinked) × IsIn r outs). inr (inl o.1))
        (λ (o : (claim_of claims r ≡ some c) × ¬ IsIn r ins). ⊎_elim (λ k. inl k)
        (λ is. ⊎_elim (λ (i : IsIn r ins). absurd (o.1 i)) (λ (l : IsIn r lent). inr (inr l)) is)
        (h.only r c o.0)) (left r c e);
    each = λ r o. taken_here outs (given ins claims) r o;
    lends = λ r i. let e = h.lends r i in else_now r (lent_stays r e) (lent_not_held r e) ∙ e;
  }

-- A row that was unlinked was retired.
retired_claim : (rows : ℕ) (kept kept' : Vec Kept Global) (claims : List Claimed) (row t : ℕ)
    → AreKept rows (claimed row (Keeps t) claims) kept'
    → (lent rest : List ℕ) → ¬ IsIn row rest → HasTakenOut rows kept claims lent (row ∷ rest)
    → HasTakenOut rows kept' (claimed row (Keeps t) claims) lent rest
retired_claim rows kept kept' claims row t k lent rest out h = record {
  are_kept = k;
  only = λ r c e. dite (ℕ_discrete r row)
      (λ (f : r ≡ row). inl (
        t,
        some-injective c (Keeps t) (sym e ∙ (ap (claim_of (claimed row (Keeps t) claims)) f
            ∙ claimed_here claims row (Keeps t))),
      ))
      (λ n. ⊎_elim (λ y. inl y)
      (λ i. inr (else_held row r rest lent n i))
      (h.only r c (sym (claimed_else claims row r (Keeps t) n) ∙ e)));
  each = λ r i. claimed_else claims row r (Keeps t) (λ f. out (subst (λ (y : ℕ). IsIn y rest) f i))
      ∙ h.each r (in_rest r row rest i);
  lends = lent_still claims (claimed row (Keeps t) claims) lent row h.lends
      (λ e. let same = some-injective Unlinked Lends (sym (h.each row (in_first row rest)) ∙ e) in absurd cc)
      (λ r n. claimed_else claims row r (Keeps t) n);
}

pub retired_too : (rows : ℕ) (kept kept' : Vec Kept Global) (m m' : MyTree) (row t : ℕ)
    → m' ≡ (record m.0 { claims = claimed row (Keeps t) m.0.claims }, m.1)
    → AreKept rows m'.0.claims kept' → (rest : List ℕ) → ¬ IsIn row rest
    → AreUnlinked rows kept m.0 (row ∷ rest) → AreUnlinked rows kept' m'.0 rest
retired_too rows kept kept' m m' row t told k rest out h =
    let n = claimed_one_less row (Keeps t) Unlinked m.0.claims refl refl
    (h.0.each row (in_first row rest)) in let now = h.1.now in let ever = h.1.ever in
    subst (λ (x : MyTree). AreUnlinked rows kept' x.0 rest) (sym told) (
      retired_claim rows kept kept' m.0.claims row t (subst
          (λ (x : MyTree). AreKept rows x.0.claims kept') told k) (lent_of m.0.upper.ranges.own) rest out h.0,
      record { now = omega arith; ever = ever },
    )

-- Where none is left, none is held either.
pub none_left : (rows : ℕ) (kept : Vec Kept Global) (view : View TreeView)
    → AreUnlinked rows kept view [] → AreHeld rows kept view []
none_left rows kept view h = (
  record {
    are_kept = h.0.are_kept;
    only = h.0.only;
    each = λ r i.
        absurd (in_nothing r [] refl i);
    lends = h.0.lends;
  },
  h.1,
)

-- An exchange of a link was lost: the same rows are held.
pub held_still : (rows : ℕ) (kept kept' : KeptRows) (m m' : MyTree) (held : List ℕ)
    → m' ≡ with_upper m (one_more_lost m.0.upper) → kept' ≡ kept
    → AreHeld rows kept.rows m.0 held → AreHeld rows kept'.rows m'.0 held
held_still rows kept kept' m m' held same too h = subst
    (λ (x : MyTree × KeptRows). AreHeld rows x.1.rows x.0.0 held) (λ i. (sym same i, sym too i))
    (h.0, record { now = h.1.now; ever = h.1.ever })

-- As rows are unlinked, no more than eight are held at once.
pub few_at_once : (rows : List ℕ) (claims : List Claimed) (most : ℕ) → most ≤ 8
    → held_count claims + length rows ≤ 8
    → max most (held_count (taken_out rows claims)) ≤ 8
few_at_once rows claims most ever few = let went = taken_out_more rows claims in omega arith

-- After an update the old base and what went with it are unlinked, and apart.
pub swapped : (rows : ℕ) (kept kept' : KeptRows) (m m' : MyTree) (new : ℕ) (x : Update) (base : ℕ)
    (ins outs : List ℕ) → new ∷ x.comes ≡ ins
    → x.old.row ≡ base → x.goes ≡ outs → length outs ≤ 1 → IsUpdated new x m m' → kept' ≡ kept
    → AreApart ins → AreHeld rows kept.rows m.0 ins
    → (¬ IsIn base outs) × AreUnlinked rows kept'.rows m'.0 (base ∷ outs)
swapped rows kept kept' m m' new x base ins outs comes same goes few u too apart h =
    let held = subst (HasHeld rows kept.rows m.0.claims (lent_of m.0.upper.ranges.own)) (sym comes) h.0 in
    let then =
    unlinked_then rows kept.rows m.0.claims (lent_of m.0.upper.ranges.own) (new ∷ x.comes) (x.old.row ∷ x.goes) held
    u.unclaimed in
    let came = subst
    (λ (xs : List ℕ). held_count (given xs m.0.claims) + length xs ≤ held_count m.0.claims)
    (sym comes)
    (given_fewer ins m.0.claims apart (λ r i. let own = (h.0.each r i).2 in (own.0, own.2))) in
    let went = taken_out_more (x.old.row ∷ x.goes) (given (new ∷ x.comes) m.0.claims) in
    let many = ap (λ (xs : List ℕ). length xs) comes in
    let less = ap (λ (xs : List ℕ). length xs) goes in let before = h.1.now in
    let ever = h.1.ever in
    let now = subst
    (λ (y : MyTree × KeptRows). AreUnlinked rows y.1.rows y.0.0 (x.old.row ∷ x.goes))
    (λ i. (sym u.now i, sym too i)) (
      then,
      record {
        now =
            omega arith;
        ever =
            few_at_once (x.old.row ∷ x.goes) (given (new ∷ x.comes) m.0.claims) m.0.most ever
            (omega arith);
      },
    ) in
    subst (λ (y : ℕ × List ℕ). (¬ IsIn y.0 y.1) × AreUnlinked rows kept'.rows m'.0 (y.0 ∷ y.1))
    (λ i. (same i, goes i)) (u.apart, now)

-- The call that carried out an update is done.
pub is_done : (z : Sizes) (new : ℕ) (x : Update) (m m' : MyTree) (v : TreeView) → m.0.sizes ≡ z
    → 0 < z.rows → effect x.event ≡ x.edit ∷ []
    → IsUpdated new x m m' → v ≡ m'.0.upper → HasDone x.event m.0.upper v × IsKnown z v
is_done z new x m m' v sizes some_rows does u same = let w : v
    ≡ updated (met_of m) m.0.upper u.more new x = same ∙ ap (λ (y : MyTree). y.0.upper) u.now in
    let some_rows' : 0 < m.0.sizes.rows = subst (λ (y : Sizes). 0 < y.rows) (sym sizes) some_rows in
    subst (λ (y : TreeView). HasDone x.event m.0.upper y × IsKnown z y) (sym w) (
      record {
        number = refl;
        seen = (
          u.more ++ (m.0.upper.number, x.edit) ∷ [],
          append_assoc m.0.upper.seen u.more ((m.0.upper.number, x.edit) ∷ []),
        );
        at = length (m.0.upper.seen ++ u.more) + 1;
        from = subst (IsPlaceFrom (length m.0.upper.seen) (length (m.0.upper.seen ++ u.more) + 1))
            (sym does)
            (omega (arith, length-append m.0.upper.seen u.more));
        log = refl;
        counts = refl;
      },
      subst (λ (y : Sizes). IsKnown y (updated (met_of m) m.0.upper u.more new x)) sizes
          (u.known some_rows'),
    )

-- A row that is held was written: the same rows are held.
pub written_row : (rows : ℕ) (kept kept' : KeptRows) (m m' : MyTree) (held : List ℕ) (row : ℕ)
    (its : List ℕ) → IsIn row held → length its ≡ row_words
    → IsRewritten row its m m' → kept' ≡ kept → AreHeld rows kept.rows m.0 held
    → AreHeld rows kept'.rows m'.0 held
written_row rows kept kept' m m' held row its i long w too h = let n = w.no_more in
    let now = h.1.now in let ever = h.1.ever in
    subst (λ (x : KeptRows). AreHeld rows x.rows m'.0 held) (sym too) (
      subst (λ (x : MyTree). HasHeld rows kept.rows m'.0.claims (lent_of x.0.upper.ranges.own) held) (sym w.only)
          (wrote rows kept.rows m m' (lent_of m.0.upper.ranges.own) held row its i long h.0 w),
      record { now = omega arith; ever = subst (λ (x : MyTree). x.0.most ≤ 8) (sym w.only) ever },
    )
