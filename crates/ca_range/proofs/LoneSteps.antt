-- What a pass that is alone spent by steps of a snapshot, one after another.
use Rattle.std.proofs.Common.{◌≡◌, ◌≢◌, ◌<◌, ◌≤◌, ℕ, suc, ◌+◌, List, [], ◌∷◌, length, refl, sym, ap, ◌∙◌, subst, arith}
use Rattle.ca_base.specs.Counting.{losses}
use Rattle.ca_base.specs.Putting.{first_note}
use Rattle.ca_base.specs.Taking.{lent_of}
use Rattle.ca_model.specs.Edges.{Excluded}
use Rattle.ca_node.specs.Inventory.{AreOnce, IsListed, but, row_itself}
use Rattle.ca_node.specs.Links.{IsIn}
use Rattle.ca_node.specs.Place.{HasKey, Place}
use Rattle.ca_node.specs.Row.{IsMarkedBy, mark, mark_back, mark_bound, mark_number, mark_owner}
use Rattle.ca_node.specs.States.{IsAlone}
use Rattle.ca_node.specs.Told.{MyTree}
use Rattle.ca_node.specs.TreeView.{Begun, Border, Inventory, Marking, Note, Ranging, Turns, TreeView}
use Rattle.ca_node.proofs.Listing.{but_shorter, in_but}
use Rattle.ca_rows.specs.declared.sizes.Sizes.{Sizes}
use Rattle.ca_range.specs.Farther.{reach, reach_to}
use Rattle.ca_range.specs.Lonely.{AreLentThere, ComesAlone, EndsAlone, GathersAlone, GathersNext, IsBehindLast, IsOverAlone, LearnsAlone, MarksOnce, SpendsAlone}
use Rattle.ca_range.specs.Marked.{IsBehindRow, IsOwnLast, second_note}
use Rattle.ca_range.specs.Snapshots.{OnlyRanges}
use Rattle.ca_range.specs.declared.gathering.Further.{Further}
use Rattle.ca_range.specs.declared.gathering.Further.TheVariants as further
use Rattle.ca_range.specs.declared.sought.Snapped.{Snapped}
use Rattle.ca_range.specs.declared.sought.Snapped.TheVariants as snapped

-- how far a listed base goes
abbrev far_of : ℕ × Place → ℕ
far_of base = reach_to base.1.span.high

-- The pass is alone still.
pub lone_on : (z : Sizes) (u v : TreeView) → OnlyRanges z u v → IsAlone z u → IsAlone z v
lone_on z u v f alone = (alone.0, subst (λ (n : ℕ). 0 < n) (sym (ap (λ (x : TreeView). x.number) f.only)) alone.1)

-- No more places are apart, each of which a listed base goes to, than bases are listed.
ends_few : (ends : List ℕ) (bases : List (ℕ × Place)) → AreOnce row_itself ends
    → ((far : ℕ) → IsIn far ends → (row : ℕ) × (place : Place) × IsIn (row, place) bases × (reach_to place.span.high ≡ far)) → length ends ≤ length bases
ends_few [] bases once each = omega arith
ends_few (far ∷ ends) bases once each = let here = each far (0, refl) in let rest = but far_of far bases in
    let shorter = but_shorter far_of far bases (here.0, here.1) here.2 here.3 in
    let fewer = ends_few ends rest once.1 (λ other i. let b = each other (suc i.0, i.1) in (
      b.0,
      b.1,
      in_but far_of far bases (b.0, b.1) b.2 (λ (e : far_of (b.0, b.1) ≡ far). once.0 (other, i, sym b.3 ∙ e)),
      b.3,
    )) in omega arith

pub marks_few : (before below : ℕ) (u : TreeView) → MarksOnce before below u → u.turns.passed ≤ before + length u.inventory.bases
marks_few before below u h = let few = ends_few h.ends u.inventory.bases h.once (λ far i. (h.each far i).0) in let many = h.many in omega arith

-- The same places, where the tree has the same, and they are as far as this at most.
pub marks_on : (before below more : ℕ) (u v : TreeView) → v.inventory ≡ u.inventory → v.turns ≡ u.turns → below ≤ more → MarksOnce before below u
    → MarksOnce before more v
marks_on before below more u v tree turns up h = record {
  ends = h.ends;
  once = h.once;
  each = λ far i. let b = h.each far i in let less = b.1 in
      (subst (λ (x : Inventory). (row : ℕ) × (place : Place) × IsIn (row, place) x.bases × (reach_to place.span.high ≡ far)) (sym tree) b.0, omega arith);
  many = let same = ap (λ (t : Turns). t.passed) turns in let many = h.many in omega arith;
}

-- Nothing was spent behind it, and no more rows are kept.
pub spends_on : (kept a b lent : ℕ) (k m n : MyTree) → SpendsAlone kept a lent k m → b ≤ a → losses n ≡ losses m → n.0.upper.turns ≡ m.0.upper.turns
    → n.0.upper.inventory ≡ m.0.upper.inventory → n.0.upper.ranges.unfinished ≡ [] → SpendsAlone kept b lent k n
spends_on kept a b lent k m n s fewer lost turns tree unmet = let helped = ap (λ (t : Turns). t.helped) turns in
    let passed = ap (λ (t : Turns). t.passed) turns in
    let bases = ap (λ (i : Inventory). length i.bases) tree in let rows = ap (λ (i : Inventory). length i.rows) tree in
    let s_passed = s.passed in let s_keeps = s.keeps in let s_bases = s.bases in let s_rows = s.rows in record {
      unlost = lost ∙ s.unlost;
      unhelped = helped ∙ s.unhelped;
      passed = omega arith;
      keeps = omega arith;
      bases = omega arith;
      rows = omega arith;
      unmet = unmet;
    }

-- Nor was anything before it.
pub spends_from : (kept a b lent : ℕ) (k m n : MyTree) → a ≤ kept → losses m ≡ losses k → m.0.upper.turns ≡ k.0.upper.turns
    → m.0.upper.inventory ≡ k.0.upper.inventory → SpendsAlone a b lent m n → SpendsAlone kept b lent k n
spends_from kept a b lent k m n fewer lost turns tree s = let helped = ap (λ (t : Turns). t.helped) turns in let passed = ap (λ (t : Turns). t.passed) turns in
    let bases = ap (λ (i : Inventory). length i.bases) tree in let rows = ap (λ (i : Inventory). length i.rows) tree in
    let s_passed = s.passed in let s_keeps = s.keeps in let s_bases = s.bases in let s_rows = s.rows in record {
      unlost = s.unlost ∙ lost;
      unhelped = s.unhelped ∙ helped;
      passed = omega arith;
      keeps = omega arith;
      bases = omega arith;
      rows = omega arith;
      unmet = s.unmet;
    }

-- So it is of what steps came to.
pub comes_from : (z : Sizes) (f : Further) (kept a b : ℕ) (k m n : MyTree) → a ≤ kept → losses m ≡ losses k → m.0.upper.turns ≡ k.0.upper.turns
    → m.0.upper.inventory ≡ k.0.upper.inventory → ComesAlone z f a b m n → ComesAlone z f kept b k n
comes_from z (further.On next) kept a b k m n fewer lost turns tree c = record {
  spends = spends_from kept a b 1 k m n fewer lost turns tree c.spends;
  marked = subst (λ (t : Turns). MarksOnce t.passed (reach n.0.upper + 1) n.0.upper) turns c.marked;
  last = c.last;
  lent = c.lent;
}
comes_from z (further.Ended come) kept a b k m n fewer lost turns tree c = record {
  spends = spends_from (kept + 1) (a + 1) b 0 k m n (omega arith) lost turns tree c.spends;
  few = let few = c.few in let passed = ap (λ (t : Turns). t.passed) turns in let bases = ap (λ (i : Inventory). length i.bases) tree in omega arith;
  told = c.told;
  crowded = c.crowded;
}

-- No range was begun.
pub nothing_ended : (z : Sizes) (come : Snapped) (a b : ℕ) (k n : MyTree) → b ≤ a → losses n ≡ losses k → n.0.upper.turns ≡ k.0.upper.turns
    → n.0.upper.inventory ≡ k.0.upper.inventory → n.0.upper.ranges.unfinished ≡ [] → come ≢ snapped.Again
    → (come ≡ snapped.NoRow → z.rows ≤ length n.0.upper.inventory.rows + b + 8) → EndsAlone z come a b k n
nothing_ended z come a b k n fewer lost turns tree unmet told crowded = let helped = ap (λ (t : Turns). t.helped) turns in
    let passed = ap (λ (t : Turns). t.passed) turns in let bases = ap (λ (i : Inventory). length i.bases) tree in
    let rows = ap (λ (i : Inventory). length i.rows) tree in record {
      spends = record {
        unlost = lost;
        unhelped = helped;
        passed = omega arith;
        keeps = omega arith;
        bases = omega arith;
        rows = omega arith;
        unmet = unmet;
      };
      few = omega arith;
      told = told;
      crowded = crowded;
    }

-- The range ended behind bases that it marked, or behind one that it couldn't mark.
pub ended_alone : (z : Sizes) (come : Snapped) (kept b c below : ℕ) (begun : Begun) (border : Border) (k n p : MyTree) → SpendsAlone kept b 1 k n
    → MarksOnce k.0.upper.turns.passed below n.0.upper → AreLentThere n.0.upper → n.0.upper.ranges.own ≡ Marking begun border
    → IsOverAlone b c n.0.upper p.0.upper → losses p ≡ losses n → p.0.upper.turns ≡ n.0.upper.turns
    → p.0.upper.ranges.unfinished ≡ n.0.upper.ranges.unfinished → come ≢ snapped.Again
    → (come ≡ snapped.NoRow → z.rows ≤ length p.0.upper.inventory.rows + c + 8) → EndsAlone z come kept c k p
ended_alone z come kept b c below begun border k n p s marks lent own over lost turns unfinished told crowded =
    let helped = ap (λ (t : Turns). t.helped) turns in let passed = ap (λ (t : Turns). t.passed) turns in
    let s_passed = s.passed in let s_keeps = s.keeps in let s_bases = s.bases in let s_rows = s.rows in let one = over.keeps in
    let is_lent : IsIn border.row (lent_of n.0.upper.ranges.own) = subst (λ (r : Ranging). IsIn border.row (lent_of r)) (sym own) (0, refl) in
    let shorter = but_shorter row_itself border.row n.0.upper.inventory.rows border.row (lent border.row is_lent) refl in
    let rows = ap (λ (rs : List ℕ). length rs) (over.fewer border.row is_lent) in
    let bases = ap (λ (xs : List (ℕ × Place)). length xs) over.bases in let few = marks_few k.0.upper.turns.passed below n.0.upper marks in record {
      spends = record {
        unlost = lost ∙ s.unlost;
        unhelped = helped ∙ s.unhelped;
        passed = omega arith;
        keeps = omega arith;
        bases = omega arith;
        rows = omega arith;
        unmet = unfinished ∙ s.unmet;
      };
      few = omega arith;
      told = told;
      crowded = crowded;
    }

behind_on : (u v : TreeView) → v.notes ≡ u.notes → v.ranges.own ≡ u.ranges.own → v.number ≡ u.number → IsBehindLast u → IsBehindLast v
behind_on u v notes own number h = record {
  latest = subst (λ (x : List Note × Ranging × ℕ). (begun : Begun) (border : Border) → x.1 ≡ Marking begun border → mark (first_note x.0).its ≡ 1
      → mark_owner (first_note x.0).its ≡ x.2 → mark_number (first_note x.0).its ≤ begun.number) (λ i. (sym notes i, sym own i, sym number i)) h.latest;
  next = subst (λ (x : List Note × Ranging × ℕ). (begun : Begun) (border : Border) (key : List ℕ) → x.1 ≡ Marking begun border
      → IsMarkedBy (second_note x.0).its x.2 begun.number → (second_note x.0).place.span.high ≡ Excluded key → HasKey (first_note x.0).place.span key
      → IsMarkedBy (first_note x.0).its x.2 begun.number
      → (mark_back (first_note x.0).its ≡ (second_note x.0).row) × (mark_bound (first_note x.0).its ≡ mark_bound (second_note x.0).its))
      (λ i. (sym notes i, sym own i, sym number i)) h.next;
}

-- Steps that changed nothing of it but what is known of ranges.
pub next_learns : (kept a b : ℕ) (k m n : MyTree) → b ≤ a → losses n ≡ losses m → LearnsAlone m.0.upper n.0.upper → n.0.upper.notes ≡ m.0.upper.notes
    → n.0.upper.ranges.own ≡ m.0.upper.ranges.own → n.0.upper.number ≡ m.0.upper.number → GathersNext kept a k m → GathersNext kept b k n
next_learns kept a b k m n fewer lost learns notes own number h = record {
  spends = spends_on kept a b 1 k m n h.spends fewer lost learns.turns learns.tree learns.unmet;
  marked = marks_on k.0.upper.turns.passed (reach m.0.upper) (reach n.0.upper) m.0.upper n.0.upper learns.tree learns.turns
      (let same = ap (λ (ns : List Note). reach_to (first_note ns).place.span.high) notes in omega arith) h.marked;
  listed = subst (λ (x : Inventory × List Note). IsListed x.0 (first_note x.1)) (λ i. (sym learns.tree i, sym notes i)) h.listed;
  lent = subst (λ (x : Inventory × Ranging). (row : ℕ) → IsIn row (lent_of x.1) → IsIn row x.0.rows) (λ i. (sym learns.tree i, sym own i)) h.lent;
  behind = behind_on m.0.upper n.0.upper notes own number h.behind;
}

-- The next base is one that the range marked already.
pub followed : (kept a : ℕ) (k m : MyTree) → GathersNext kept a k m → GathersAlone kept a k m
followed kept a k m h = record {
  spends = h.spends;
  marked = marks_on k.0.upper.turns.passed (reach m.0.upper) (reach m.0.upper + 1) m.0.upper m.0.upper refl refl (omega arith) h.marked;
  last = h.listed.base;
  lent = h.lent;
}

-- A base that a range of the pass marked, no earlier one than that which is under way, was marked by that one, behind the last one.
pub behind_row : (u : TreeView) (number left bound : ℕ) (begun : Begun) (border : Border) → u.ranges.own ≡ Marking begun border → begun.number ≡ number
    → IsBehindLast u → (key : List ℕ) → IsMarkedBy (second_note u.notes).its u.number number → mark_bound (second_note u.notes).its ≡ bound
    → (second_note u.notes).row ≡ left → IsIn (second_note u.notes) u.notes → (second_note u.notes).place.span.high ≡ Excluded key
    → HasKey (first_note u.notes).place.span key → IsOwnLast u (first_note u.notes)
    → IsBehindRow (first_note u.notes) u.number number left bound
behind_row u number left bound begun border own same h key marked bound_is here shown ends has last =
    let most = h.latest begun border own last.0 last.1 in let least = last.2 (second_note u.notes) shown marked.0 marked.1 in
    let left_is = marked.2 in let is : mark_number (first_note u.notes).its ≡ begun.number = omega arith in
    let next = h.next begun border key own (subst (IsMarkedBy (second_note u.notes).its u.number) (sym same) marked) ends has (last.0, last.1, is) in
    ((last.0, last.1, is ∙ same), next.0 ∙ here, next.1 ∙ bound_is)

-- Loads of words that were shown.
pub next_read : (kept a b : ℕ) (k m n : MyTree) → b ≡ a → n ≡ m → GathersNext kept a k m → GathersNext kept b k n
next_read kept a b k m n same still h = subst (λ (x : ℕ × MyTree). GathersNext kept x.0 k x.1) (λ i. (sym same i, sym still i)) h

pub gathers_read : (kept a b : ℕ) (k m n : MyTree) → b ≡ a → n ≡ m → GathersAlone kept a k m → GathersAlone kept b k n
gathers_read kept a b k m n same still h = subst (λ (x : ℕ × MyTree). GathersAlone kept x.0 k x.1) (λ i. (sym same i, sym still i)) h
