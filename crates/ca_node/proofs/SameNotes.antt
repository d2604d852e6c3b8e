-- Two notes on one base that are true at once say the same of its words, and of those of its objects.
use Rattle.std.proofs.Common.{◌≡◌, ℕ, List, map, sym, ap, ◌∙◌, subst}
use Rattle.ca_node.specs.Row.{row_at, IsBaseRow, items}
use Rattle.ca_node.specs.Shape.{Role}
use Rattle.ca_node.specs.True.{IsTrue}
use Rattle.ca_node.specs.TreeView.{Note}

pub same_notes : (rows : ℕ) (words : List ℕ) (role : ℕ → Role) (note old : Note) → IsBaseRow note.its
    → IsTrue rows words role note → IsTrue rows words role old → old.row ≡ note.row → (note.its ≡ old.its) × (note.objects ≡ old.objects)
same_notes rows words role note old base a b same = let its : note.its ≡ old.its = sym a.spells ∙ (ap (row_at words) (sym same) ∙ b.spells) in (
  its,
  sym (a.objects_are base) ∙ (ap (λ (t : List ℕ). map (λ r. row_at words r) (items t)) its ∙ b.objects_are (subst IsBaseRow its base)),
)
