-- Rows that are all taken but a few: where no row was free, what stays of it, and how many rows there are then.
use Rattle.std.proofs.Common.{◌≡◌, ◌≢◌, ◌⊎◌, ℕ, ◌+◌, ◌<◌, ◌≤◌, List, ◌++◌, length, map, Vec, vec_len, Result, Ok, Err, sym, ap, ◌∙◌, subst, inl, inr, ⊎_elim, arith, length-append}
use Rattle.std.proofs.lemmas.List.{length-map}
use Rattle.std.specs.Global.{Global}
use mathlib.Core.Option.{some}
use Rattle.ca_node.specs.Links.{IsIn}
use Rattle.ca_node.specs.Told.{MyTree}
use Rattle.ca_node.specs.TreeView.{Ranging, Quiet, Unmarked, Marking, Left, Joining, Secured, TreeView}
use Rattle.ca_node.proofs.Covering.{kept_row, three_cover}
use Rattle.ca_node.proofs.Listing.{in_front, in_back}
use Rattle.ca_base.specs.declared.stop.Stop.{Stop}
use Rattle.ca_base.specs.declared.stop.Stop.TheVariants as stop
use Rattle.ca_base.specs.Crowded.{FindsCrowded, IsCrowded, IsCrowdedBy, StaysCrowded}
use Rattle.ca_base.specs.Taking.{AreHeld, lent_of}
use Rattle.ca_base.proofs.Held.{not_kept}
use Rattle.ca_rows.specs.declared.kept.Kept.{Kept}
use Rattle.ca_rows.specs.declared.sizes.Sizes.{Sizes}
use Rattle.ca_rows.specs.declared.view.Claim.{Claim}
use Rattle.ca_rows.specs.declared.view.Claim.TheVariants.{Holds, Keeps}
use Rattle.ca_rows.specs.Claims.{claim_of, claimed, dropped}
use Rattle.ca_rows.specs.Kept.{AreKept}
use Rattle.ca_rows.specs.Told.{missed, with_claims}
use Rattle.ca_rows.proofs.Claiming.{claimed_else, dropped_else}

-- A seat lends one row at most to its own range.
lent_one : (own : Ranging) → length (lent_of own) ≤ 1
lent_one Quiet = omega arith
lent_one (Unmarked begun) = omega arith
lent_one (Marking begun border) = omega arith
lent_one Left = omega arith
lent_one (Joining x) = omega arith
lent_one (Secured x) = omega arith

-- Each row is listed or claimed, and of those that are claimed all but few are kept.
pub none_free : (rows : ℕ) (kept : Vec Kept Global) (m : MyTree) (held : List ℕ) → length held < 8
    → AreHeld rows kept m.0 held
    → ((r : ℕ) → 0 < r → r ≤ m.0.sizes.rows → (IsIn r m.0.upper.inventory.rows ⊎ (m.0.upper.number ≡ 0))
    ⊎ ((c : Claim) × (claim_of m.0.claims r ≡ some c)))
    → 0 < m.0.upper.number → IsCrowded m
none_free rows kept m held few h taken is_pass = let lent : List ℕ = lent_of m.0.upper.ranges.own in (
  held ++ lent,
  (let one = lent_one m.0.upper.ranges.own in omega (arith, length-append held lent)),
  λ r lo hi. ⊎_elim
      (λ (listed : IsIn r m.0.upper.inventory.rows ⊎ (m.0.upper.number ≡ 0)). ⊎_elim
      (λ (i : IsIn r m.0.upper.inventory.rows). inl i)
      (λ (e : m.0.upper.number ≡ 0). absurd (omega arith)) listed)
      (λ (own : (c : Claim) × (claim_of m.0.claims r ≡ some c)). inr (⊎_elim
      (λ (k : (at : ℕ) × (own.0 ≡ Keeps at)). inl (k.0, own.1 ∙ ap some k.1))
      (λ (i : IsIn r held ⊎ IsIn r lent). inr (⊎_elim (λ (j : IsIn r held). in_front held lent r j)
      (λ (l : IsIn r lent). in_back held lent r l) i))
      (h.0.only r own.0 own.1)))
      (taken r lo hi),
)

-- The tree has the same rows, and each row that was kept is kept: all rows but the same others are linked, or kept.
pub crowd_kept : (m m' : MyTree) → m'.0.sizes ≡ m.0.sizes
    → m'.0.upper.inventory.rows ≡ m.0.upper.inventory.rows
    → ((r at : ℕ) → claim_of m.0.claims r ≡ some (Keeps at) → (at' : ℕ) × (claim_of m'.0.claims r ≡ some (Keeps at')))
    → StaysCrowded m m'
crowd_kept m m' sizes linked kept others all r lo hi = let z = ap (λ (y : Sizes). y.rows) sizes in
    ⊎_elim (λ (i : IsIn r m.0.upper.inventory.rows). inl (subst (λ (rows : List ℕ). IsIn r rows) (sym linked) i))
    (λ (k : ((at : ℕ) × (claim_of m.0.claims r ≡ some (Keeps at))) ⊎ IsIn r others). inr (⊎_elim
    (λ (own : (at : ℕ) × (claim_of m.0.claims r ≡ some (Keeps at))). inl (kept r own.0 own.1))
    (λ (i : IsIn r others). inr i) k))
    (all r lo (omega arith))

-- So it is where the claims differ on one row alone, which wasn't kept.
pub crowd_stays : (m m' : MyTree) (row : ℕ) → m'.0.sizes ≡ m.0.sizes → m'.0.upper ≡ m.0.upper
    → ((at : ℕ) → claim_of m.0.claims row ≢ some (Keeps at))
    → ((r : ℕ) → r ≢ row → claim_of m'.0.claims r ≡ claim_of m.0.claims r) → StaysCrowded m m'
crowd_stays m m' row sizes upper unkept else = crowd_kept m m' sizes (ap (λ (u : TreeView). u.inventory.rows) upper)
    (λ r at e. (at, else r (λ f. unkept at (ap (claim_of m.0.claims) (sym f) ∙ e)) ∙ e))

-- A row that was held was put back.
pub put_crowd : (m m' : MyTree) (row : ℕ) (its : List ℕ) → claim_of m.0.claims row ≡ some (Holds its)
    → m' ≡ with_claims m (dropped row m.0.claims) → StaysCrowded m m'
put_crowd m m' row its own told = crowd_stays m m' row (ap (λ (x : MyTree). x.0.sizes) told)
    (ap (λ (x : MyTree). x.0.upper) told) (λ at. not_kept m.0.claims row its at own)
    (λ r n. ap (λ (x : MyTree). claim_of x.0.claims r) told ∙ dropped_else m.0.claims row r n)

-- That was lost, and the row was retired.
pub retired_crowd : (m l m' : MyTree) (row t : ℕ) (its now : List ℕ) → claim_of m.0.claims row ≡ some (Holds its)
    → l ≡ missed (with_claims m (claimed row (Holds now) m.0.claims))
    → m' ≡ (record l.0 { claims = claimed row (Keeps t) l.0.claims }, l.1) → StaysCrowded m m'
retired_crowd m l m' row t its now own lost told = crowd_stays m m' row
    (ap (λ (x : MyTree). x.0.sizes) told ∙ ap (λ (x : MyTree). x.0.sizes) lost)
    (ap (λ (x : MyTree). x.0.upper) told ∙ ap (λ (x : MyTree). x.0.upper) lost)
    (λ at. not_kept m.0.claims row its at own)
    (λ r n. ap (λ (x : MyTree). claim_of x.0.claims r) told ∙ (claimed_else l.0.claims row r (Keeps t) n
    ∙ (ap (λ (x : MyTree). claim_of x.0.claims r) lost ∙ claimed_else m.0.claims row r (Holds now) n)))

pub crowd_both : (k m n : MyTree) → StaysCrowded k m → StaysCrowded m n → StaysCrowded k n
crowd_both k m n one two others all = two others (one others all)

-- What was found behind another call is found from before it on, where that one changed but the pool and which rows are the pass's.
pub crowded_from : {T : Type 0} (r : Result T Stop) (k m n : MyTree) → m.0.sizes ≡ k.0.sizes
    → m.0.upper ≡ k.0.upper → FindsCrowded r m n → FindsCrowded r k n
crowded_from (Ok x) k m n sizes upper found = tt
crowded_from (Err (stop.Lost e)) k m n sizes upper found = tt
crowded_from (Err stop.Empty) k m n sizes upper found = λ only is_pass. found
    (subst (λ (z : Sizes). (0 < z.rows) × (z.passes ≡ 1)) (sym sizes) only)
    (subst (λ (u : TreeView). 0 < u.number) (sym upper) is_pass)
crowded_from (Err stop.Worn) k m n sizes upper found = tt

-- So it is where rows were put back then.
pub crowded_then : (why : Stop) (k m n l : MyTree) → m.0.sizes ≡ k.0.sizes → m.0.upper ≡ k.0.upper
    → IsCrowdedBy why m n → StaysCrowded n l → IsCrowdedBy why k l
crowded_then (stop.Lost e) k m n l sizes upper found stays = tt
crowded_then stop.Empty k m n l sizes upper found stays = λ only is_pass.
    let now = crowded_from {T = Unit {0}} (Err stop.Empty) k m n sizes upper found only is_pass in
    (now.0, now.1, stays now.0 now.2)
crowded_then stop.Worn k m n l sizes upper found stays = tt

-- There are no more rows in a space that is crowded than the tree has and the seat keeps, and eight.
pub crowd_counted : (rows : ℕ) (kept : Vec Kept Global) (m : MyTree) → IsCrowded m → AreKept rows m.0.claims kept
    → m.0.sizes.rows ≡ rows → rows ≤ length m.0.upper.inventory.rows + vec_len kept + 8
crowd_counted rows kept m crowded k sizes = let linked : List ℕ = m.0.upper.inventory.rows in
    let listed : List ℕ = map (λ (x : Kept). x.row) kept.items in let others : List ℕ = crowded.0 in
    let few = crowded.1 in let long = kept.ok.0 in let as_many = length-map kept.items (λ (x : Kept). x.row) in
    let many = three_cover rows linked listed others (λ r lo hi. ⊎_elim (λ (i : IsIn r linked). inl i)
    (λ (own : ((at : ℕ) × (claim_of m.0.claims r ≡ some (Keeps at))) ⊎ IsIn r others). inr (⊎_elim
    (λ (it : (at : ℕ) × (claim_of m.0.claims r ≡ some (Keeps at))).
    inl (kept_row kept.items r it.0 (k.are.are_listed r it.0 it.1)))
    (λ (i : IsIn r others). inr i) own))
    (crowded.2 r lo (omega arith))) in
    omega arith
