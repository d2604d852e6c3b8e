-- The range of a pass that is alone marks its first base, and one behind the other.
use Rattle.std.proofs.Common.{◌≡◌, ◌≢◌, ◌<◌, ◌≤◌, ℕ, suc, ◌+◌, true, List, [], ◌∷◌, ◌++◌, length, Ok, refl, sym, ap, ◌∙◌, subst, ⊎_elim, arith}
use mathlib.Core.Logic.{dite}
use mathlib.Core.Option.{some}
use native.Mathlib.Decide.{ℕ_discrete}
use Rattle.ca_base.specs.Counting.{losses}
use Rattle.ca_base.specs.Putting.{first_note}
use Rattle.ca_base.specs.Taking.{lent_of}
use Rattle.ca_node.specs.Copies.{Copy, copy_note, update_of}
use Rattle.ca_node.specs.Inventory.{IsListed, but_all, row_itself, row_of_base}
use Rattle.ca_node.specs.Laws.{in_nothing}
use Rattle.ca_node.specs.Links.{IsIn}
use Rattle.ca_node.specs.Place.{Place}
use Rattle.ca_node.specs.States.{IsAlone}
use Rattle.ca_node.specs.Told.{MyTree, exchanged_inventory}
use Rattle.ca_node.specs.TreeView.{Inventory, Note, TreeView}
use Rattle.ca_node.specs.Walking.{IsWalked, walked}
use Rattle.ca_node.specs.declared.cursor.Cursor.{Cursor}
use Rattle.ca_node.specs.declared.cursor.Spot.{Spot}
use Rattle.ca_base.proofs.Rest.{is_one}
use Rattle.ca_node.proofs.Looking.{in_more}
use Rattle.ca_node.proofs.Listing.{but_shorter, exchanged_length, in_back, in_but, in_but_all, not_one}
use Rattle.ca_rows.specs.declared.sizes.Sizes.{Sizes}
use Rattle.ca_range.specs.Farther.{reach, reach_to}
use Rattle.ca_range.specs.Lonely.{AreLentThere, GathersAlone, GathersNext, IsBehindLast, MarksAlone}
use Rattle.ca_range.specs.Marked.{IsMarkedNow, copy_of}
use Rattle.ca_range.specs.Opening.{HasPutFirst}
use Rattle.ca_range.specs.declared.copying.Mark.{Mark}
use Rattle.ca_range.specs.declared.opening.Rows.{Rows}
use Rattle.ca_range.proofs.LoneSteps.{marks_on, spends_on}

-- A copy takes the place of a base that is listed.
module _ (served : List ℕ) (row : ℕ) (x : Copy) (i : Inventory) (listed : IsListed i x.old) where
  abbrev then : Inventory
  then = exchanged_inventory served row (update_of x) i

  -- There are no more bases.
  pub bases_then : length then.bases ≤ length i.bases
  bases_then = let shorter = but_shorter row_of_base x.old.row i.bases (x.old.row, x.old.place) listed.base refl in omega arith

  -- A base that went so far did, or the copy does.
  pub far_then : (far : ℕ) → (r : ℕ) × (place : Place) × IsIn (r, place) i.bases × (reach_to place.span.high ≡ far)
      → (r : ℕ) × (place : Place) × IsIn (r, place) then.bases × (reach_to place.span.high ≡ far)
  far_then far b = dite (ℕ_discrete b.0 x.old.row)
      (λ (e : b.0 ≡ x.old.row). (
        row,
        x.old.place,
        (0, refl),
        ap (λ (p : Place). reach_to p.span.high) (sym (listed.one b.1 (subst (λ (r : ℕ). IsIn (r, b.1) i.bases) e b.2))) ∙ b.3,
      ))
      (λ (n : b.0 ≢ x.old.row). let j = in_but row_of_base x.old.row i.bases (b.0, b.1) b.2 n in (b.0, b.1, (suc j.0, j.1), b.3))

  -- Another row that was the tree's is it still.
  pub row_then : (r : ℕ) → IsIn r i.rows → r ≢ x.old.row → IsIn r then.rows
  row_then r j n = in_back (served ++ row ∷ []) (but_all row_itself (x.old.row ∷ []) i.rows) r
      (in_but_all row_itself (x.old.row ∷ []) i.rows r j (not_one r x.old.row n))

-- One place more is apart from the others, which are less far.
one_farther : (far : ℕ) (ends : List ℕ) → ((other : ℕ) → IsIn other ends → other < far) → ¬ ((y : ℕ) × IsIn y ends × (row_itself y ≡ row_itself far))
one_farther far ends less t = let l = less t.0 t.1 in let e : t.0 ≡ far = t.2 in omega arith

-- The next base is marked: it is a copy of the one that was shown last.
pub marked_on : (z : Sizes) (mark : Mark) (row kept a b : ℕ) (k m n : MyTree) → IsMarkedNow z (first_note m.0.upper.notes) mark row m.0.upper n.0.upper
    → MarksAlone {T = ℕ} (Ok row) a b m n → GathersNext kept a k m → GathersAlone kept b k n
marked_on z mark row kept a b k m n is marks h = let x : Copy = is.copy in let u = m.0.upper in
    let listed : IsListed u.inventory x.old = subst (IsListed u.inventory) (sym is.old_is) h.listed in
    let tree : n.0.upper.inventory ≡ exchanged_inventory [] row (update_of x) u.inventory = ap (λ (v : TreeView). v.inventory) is.now in
    let bases = bases_then [] row x u.inventory listed in let rows = exchanged_length [] row (update_of x) u.inventory listed.row in
    let fewer = ap (λ (i : Inventory). length i.bases) tree in let fewer' = ap (λ (i : Inventory). length i.rows) tree in
    let passed : n.0.upper.turns.passed ≡ u.turns.passed + 1 = ap (λ (v : TreeView). v.turns.passed) is.now in
    let helped : n.0.upper.turns.helped ≡ u.turns.helped = ap (λ (v : TreeView). v.turns.helped) is.now in
    let here : first_note n.0.upper.notes ≡ copy_note row x = ap (λ (v : TreeView). first_note v.notes) is.now in
    let far : reach n.0.upper ≡ reach u = ap (λ (y : Note). reach_to y.place.span.high) here ∙ ap (λ (y : Note). reach_to y.place.span.high) is.old_is in
    let s = h.spends in let s_passed = s.passed in let s_keeps = s.keeps in let s_bases = s.bases in let s_rows = s.rows in let keeps = marks.keeps in record {
      spends = record {
        unlost = marks.unlost ∙ s.unlost;
        unhelped = helped ∙ s.unhelped;
        passed = omega arith;
        keeps = omega arith;
        bases = omega arith;
        rows = omega arith;
        unmet = ap (λ (v : TreeView). v.ranges.unfinished) is.now ∙ s.unmet;
      };
      marked = record {
        ends = reach u ∷ h.marked.ends;
        once = (one_farther (reach u) h.marked.ends (λ other i. (h.marked.each other i).1), h.marked.once);
        each = λ other i. ⊎_elim
            (λ (e : reach u ≡ other). (
              subst (λ (j : Inventory). (r : ℕ) × (place : Place) × IsIn (r, place) j.bases × (reach_to place.span.high ≡ other)) (sym tree)
                  (row, x.old.place, (0, refl), ap (λ (y : Note). reach_to y.place.span.high) is.old_is ∙ e),
              (let less : other < reach n.0.upper + 1 = omega arith in less),
            ))
            (λ (j : IsIn other h.marked.ends). let b = h.marked.each other j in (
              subst (λ (y : Inventory). (r : ℕ) × (place : Place) × IsIn (r, place) y.bases × (reach_to place.span.high ≡ other)) (sym tree)
                  (far_then [] row x u.inventory listed other b.0),
              (let l = b.1 in let less : other < reach n.0.upper + 1 = omega arith in less),
            ))
            (in_more (reach u) other h.marked.ends i);
        many = let many = h.marked.many in omega arith;
      };
      last = subst (λ (y : Note × Inventory). IsIn (y.0.row, y.0.place) y.1.bases) (λ i. (sym here i, sym tree i)) (0, refl);
      lent = λ r i. let was : IsIn r (lent_of u.ranges.own) = subst (λ (v : TreeView). IsIn r (lent_of v.ranges.own)) is.now i in
          subst (λ (j : Inventory). IsIn r j.rows) (sym tree)
          (row_then [] row x u.inventory listed r (h.lent r was) (λ e. marks.lent row refl r was (e ∙ ap (λ (y : Note). y.row) is.old_is)));
    }

-- The first base is marked.
pub put_on : (rows : Rows) (a b : ℕ) (m n : MyTree) → HasPutFirst true rows m n → IsListed m.0.upper.inventory (first_note m.0.upper.notes)
    → m.0.upper.ranges.unfinished ≡ [] → losses n ≡ losses m → b ≤ a + 1 → GathersAlone a b m n
put_on rows a b m n is listed unmet lost more = let u = m.0.upper in let x : Copy = copy_of m rows.copy in let begun = is.0 in
    let tree : n.0.upper.inventory ≡ exchanged_inventory (begun.top ∷ []) rows.copy (update_of x) u.inventory = ap (λ (v : TreeView). v.inventory) is.2 in
    let bases = bases_then (begun.top ∷ []) rows.copy x u.inventory listed in
    let rows_then = exchanged_length (begun.top ∷ []) rows.copy (update_of x) u.inventory listed.row in
    let fewer = ap (λ (i : Inventory). length i.bases) tree in let fewer' = ap (λ (i : Inventory). length i.rows) tree in
    let passed : n.0.upper.turns.passed ≡ u.turns.passed + 1 = ap (λ (v : TreeView). v.turns.passed) is.2 in
    let helped : n.0.upper.turns.helped ≡ u.turns.helped = ap (λ (v : TreeView). v.turns.helped) is.2 in
    let here : first_note n.0.upper.notes ≡ copy_note rows.copy x = ap (λ (v : TreeView). first_note v.notes) is.2 in
    let far : reach n.0.upper ≡ reach u = ap (λ (y : Note). reach_to y.place.span.high) here in record {
      spends = record {
        unlost = lost;
        unhelped = helped;
        passed = omega arith;
        keeps = omega arith;
        bases = omega arith;
        rows = omega arith;
        unmet = ap (λ (v : TreeView). v.ranges.unfinished) is.2 ∙ unmet;
      };
      marked = record {
        ends = reach u ∷ [];
        once = (one_farther (reach u) [] (λ other i. absurd (in_nothing other [] refl i)), tt);
        each = λ other i. ⊎_elim
            (λ (e : reach u ≡ other). (
              subst (λ (j : Inventory). (r : ℕ) × (place : Place) × IsIn (r, place) j.bases × (reach_to place.span.high ≡ other)) (sym tree)
                  (rows.copy, x.old.place, (0, refl), e),
              (let less : other < reach n.0.upper + 1 = omega arith in less),
            ))
            (λ (j : IsIn other []). absurd (in_nothing other [] refl j))
            (in_more (reach u) other [] i);
        many = omega arith;
      };
      last = subst (λ (y : Note × Inventory). IsIn (y.0.row, y.0.place) y.1.bases) (λ i. (sym here i, sym tree i)) (0, refl);
      lent = subst AreLentThere (sym is.2) (λ r i. let e : begun.top ≡ r = is_one r begun.top i in (0, ap some e));
    }

-- A walk came to the next base.
pub walked_on : (z : Sizes) (spot : Spot) (kept a : ℕ) (k m n : MyTree) (cursor : Cursor) → IsWalked z spot m cursor n → IsAlone z m.0.upper
    → IsIn (first_note m.0.upper.notes) m.0.upper.notes → reach m.0.upper < reach n.0.upper → GathersAlone kept a k m → GathersNext kept a k n
walked_on z spot kept a k m n cursor w alone shown farther h = let u = m.0.upper in
    let v : TreeView = walked u w.more w.note w.ways w.loads in let is : n.0.upper ≡ v = ap (λ (x : MyTree). x.0.upper) w.now in
    let behind = w.behind alone in record {
      spends = spends_on kept a a 1 k m n h.spends (omega arith) (ap losses w.now) (ap (λ (x : TreeView). x.turns) is) (ap (λ (x : TreeView). x.inventory) is)
          (ap (λ (x : TreeView). x.ranges.unfinished) is ∙ h.spends.unmet);
      marked = marks_on k.0.upper.turns.passed (reach u + 1) (reach n.0.upper) u n.0.upper (ap (λ (x : TreeView). x.inventory) is)
          (ap (λ (x : TreeView). x.turns) is) (omega arith) h.marked;
      listed = subst (λ (x : TreeView). IsListed x.inventory (first_note x.notes)) (sym is) (w.listed alone);
      lent = subst (λ (x : TreeView). (r : ℕ) → IsIn r (lent_of x.ranges.own) → IsIn r x.inventory.rows) (sym is) h.lent;
      behind = subst IsBehindLast (sym is) record {
        latest = behind.latest;
        next = λ begun border key own marked ends has mine. behind.next begun border (first_note u.notes) key own shown marked ends has mine;
      };
    }
