-- Words of bases that were shown.
use Rattle.std.proofs.Common.{ℕ, get_or, refl, inl}
use Rattle.ca_rows.specs.declared.sizes.Sizes.{Sizes}
use Rattle.ca_node.specs.Told.{IsShownWord}
use Rattle.ca_node.specs.TreeView.{Note, TreeView}
use Rattle.ca_base.specs.Finding.{IsBaseShown}

-- A word of a base that was shown.
pub base_word : (z : Sizes) (u : TreeView) (base index : ℕ) (note : Note) → IsBaseShown z u base note → IsShownWord u base index (get_or note.its index 0)
base_word z u base index note s = (note.its, inl (note, s.noted, inl (s.here, refl)), refl)

-- Some word of it was shown.
pub some_word : (z : Sizes) (u : TreeView) (base index : ℕ) → (note : Note) × IsBaseShown z u base note → (word : ℕ) × IsShownWord u base index word
some_word z u base index s = (get_or s.0.its index 0, base_word z u base index s.0 s.1)
