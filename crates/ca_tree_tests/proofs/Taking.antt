-- What stays of a pass that took a row, retired one, or pinned itself.
use Rattle.std.proofs.Common.{◌≡◌, ℕ, Bool, false, ap, subst, sym, arith}
use Rattle.atomic_table.specs.declared.shared.Seat.{Seat}
use Rattle.atomic_table.specs.Seated.{TableId}
use Rattle.ca_node.specs.TreeView.{TreeView}
use Rattle.ca_rows.specs.declared.kept.KeptRows.{KeptRows}
use Rattle.ca_rows.specs.declared.sizes.Sizes.{Sizes}
use Rattle.ca_rows.specs.declared.taken.Taken.{Taken}
use Rattle.ca_rows.specs.declared.taken.Taken.TheVariants.{Row, Empty, Lost, Worn}
use Rattle.ca_rows.specs.declared.view.View.{View}
use Rattle.ca_rows.specs.Calls.{IsSame, IsStill, TakesRow}
use Rattle.ca_rows.specs.Kept.{AreKept}
use Rattle.ca_rows.specs.Told.{Mine}
use Rattle.ca_rows.proofs.Keeping.{taken_too}
use Rattle.ca_tree_tests.specs.Ready.{IsAt}

-- The same claims, and the same list of rows.
same_too : (rows : ℕ) (k k' : KeptRows) (m m' : Mine TreeView) → AreKept rows m.0.claims k.rows → m'.0.claims ≡ m.0.claims → k' ≡ k
    → AreKept rows m'.0.claims k'.rows
same_too rows k k' m m' are claims kept = subst (λ (x : Mine TreeView × KeptRows). AreKept rows x.0.0.claims x.1.rows) (λ i. ((record m.0 { claims = sym claims i }, m.1), sym kept i)) are

pub taken_ready : (table : TableId) (z : Sizes) (n n' : ℕ) (k k' : KeptRows) (p p' : Seat (Unit {0}) (View TreeView)) (r : Taken) → IsAt false table z n k p
    → IsStill p p' → n' ≡ n → k' ≡ k → TakesRow r p.me p'.me → IsAt false table z n' k' p'
taken_ready table z n n' k k' p p' r at still number kept took = record {
  of = (cc, cc);
  numbered = (cc, omega (arith, number, at.numbered.1), omega (arith, number, at.numbered.2));
  is_pinned = cc;
  are_kept = by r took;
}
  where
    by : (r : Taken) → TakesRow r p.me p'.me → AreKept z.rows p'.me.0.claims k'.rows
    by (Row q) t = taken_too z.rows k k' p.me p'.me q t.3.0 at.are_kept t.2 t.3.2 kept
    by Empty t = same_too z.rows k k' p.me p'.me at.are_kept (ap (λ (m : Mine TreeView). m.0.claims) t.1) kept
    by Lost t = same_too z.rows k k' p.me p'.me at.are_kept (ap (λ (m : Mine TreeView). m.0.claims) t) kept
    by Worn t = same_too z.rows k k' p.me p'.me at.are_kept (ap (λ (m : Mine TreeView). m.0.claims) t.2) kept

pub moved_ready : (b b' : Bool) (table : TableId) (z : Sizes) (n n' : ℕ) (k k' : KeptRows) (p p' : Seat (Unit {0}) (View TreeView)) → IsAt b table z n k p
    → IsSame p p' → n' ≡ n → k' ≡ k → p'.me.0.sizes ≡ p.me.0.sizes → p'.me.0.pin.number ≡ p.me.0.pin.number → p'.me.0.pin.pinned ≡ b'
    → p'.me.0.claims ≡ p.me.0.claims → IsAt b' table z n' k' p'
moved_ready b b' table z n n' k k' p p' at same number kept sizes numbered pinned claims = record {
  of = (cc, cc);
  numbered = (cc, omega (arith, number, at.numbered.1), omega (arith, number, at.numbered.2));
  is_pinned = pinned;
  are_kept = same_too z.rows k k' p.me p'.me at.are_kept claims kept;
}
