-- The next base, behind one that a range marked.
use Rattle.std.proofs.Common.{◌≡◌, suc, ◌≤◌, List, sym, ap, ◌∙◌, subst}
use Rattle.ca_base.specs.Finding.{IsBaseShown}
use Rattle.ca_base.specs.Putting.{first_note}
use Rattle.ca_node.specs.declared.cursor.Cursor.{Cursor}
use Rattle.ca_node.specs.Links.{IsIn}
use Rattle.ca_node.specs.Row.{mark_bound, IsMarkedBy}
use Rattle.ca_node.specs.TreeView.{Note, TreeView}
use Rattle.ca_rows.specs.declared.sizes.Sizes.{Sizes}
use Rattle.ca_range.specs.Ahead.{GoesBeyond, IsAtMarked, IsBefore}
use Rattle.ca_range.specs.Along.{IsGap}
use Rattle.ca_range.specs.Marked.{second_note}
use Rattle.ca_range.specs.declared.account.Range.{Range}

-- The next base isn't of the range.
pub is_gap : (z : Sizes) (range : Range) (left next : Cursor) (u v : TreeView) → IsAtMarked z u range left → IsBefore z range next u v
    → ¬ IsMarkedBy (first_note v.notes).its range.owner range.number → IsGap z v range left next
is_gap z range left next u v at b other = let second : first_note u.notes ≡ second_note v.notes = sym (ap second_note b.notes) in record {
  at = b.at;
  left_shown = subst (λ (x : Note). IsBaseShown z v left.base x) second record {
    noted = subst (λ (ns : List Note). IsIn (first_note u.notes) ns) (sym b.notes) (suc at.at.shown.noted.0, at.at.shown.noted.1);
    here = at.at.shown.here;
    is_base = at.at.shown.is_base;
  };
  left_marked = subst (λ (x : Note). IsMarkedBy x.its range.owner range.number) second at.marked;
  key = b.key;
  ends = ap (λ (x : Note). x.place.span.high) (sym second) ∙ b.ends;
  has = b.has;
  beyond = subst (λ (x : Note). GoesBeyond v x) second b.beyond;
  bound = subst (λ (x : Note). mark_bound x.its ≤ z.rows) second b.bound;
  other = other;
}

-- It is of the range.
pub at_next : (z : Sizes) (range : Range) (next : Cursor) (u v : TreeView) → IsBefore z range next u v
    → IsMarkedBy (first_note v.notes).its range.owner range.number → IsAtMarked z v range next
at_next z range next u v b m = record { at = b.at; marked = m }
