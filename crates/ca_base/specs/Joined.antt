-- Bases that are joined: a new base has the objects of two that were shown, those of the left one first.
use Rattle.std.specs.Prelude.{◌≡◌, ℕ, ◌+◌, ◌<◌, ◌≤◌, List, ◌++◌, length, slice_index}
use Rattle.ca_node.specs.Row.{count, level, items, item_words, prefix, prefix_length, IsBaseRow, IsHeaded, IsUnmarked}
use Rattle.ca_node.specs.TreeView.{Note, TreeView}
use Rattle.ca_base.specs.declared.copying.Run.{Run}
use Rattle.ca_base.specs.declared.prefixes.Trimmed.{Trimmed}
use Rattle.ca_base.specs.declared.uniting.Part.{Part}
use Rattle.ca_base.specs.Finding.{IsBaseShown}
use Rattle.ca_base.specs.Prefixes.{AreShared, IsShift, IsTrimmed}
use Rattle.ca_base.specs.Trimming.{shifted_words}
use Rattle.ca_rows.specs.Layout.{row_words}
use Rattle.ca_rows.specs.declared.sizes.Sizes.{Sizes}

-- The pass was shown the base, which has the items of the run.
abbrev pub HasRun : Sizes → TreeView → Run → Note → Type 0
HasRun z u run note = IsBaseShown z u run.base note × (run.from + run.count ≤ length (item_words note.its))

-- The pass was shown the base, and the part is all of its items.
abbrev pub HasPart : Sizes → TreeView → Part → Note → Type 0
HasPart z u part note = IsBaseShown z u part.base note × (part.many ≡ length (item_words note.its))

-- the words of the part's items, with their heads shifted
abbrev pub words_in : Part → Note → List ℕ
words_in part note = shifted_words part.shift (item_words note.its)

-- The pass was shown both bases, which together have few enough items for a row.
pub record AreJoinable (z : Sizes) (u : TreeView) (left right : ℕ) (first second : Note) : Type 0 where
  pub left_shown : IsBaseShown z u left first
  pub right_shown : IsBaseShown z u right second
  pub few : count first.its + count second.its ≤ 120

-- What becomes of the prefixes of two bases that are joined, which have so many items: both are trimmed to what they begin with in common. The prefix of one
-- that has no item counts for nothing.
pub record AreTrimmed (low : List ℕ) (many : ℕ) (high : List ℕ) (more : ℕ) (first second : Trimmed) : Type 0 where
  pub one : first.prefix.now ≡ second.prefix.now
  pub shifts : IsShift first.shift.lead first.shift.bytes × IsShift second.shift.lead second.shift.bytes
  pub both : 0 < many → 0 < more → AreShared low high (length first.prefix.now)
  pub left_alone : more ≡ 0 → 0 < many → first.prefix.now ≡ low
  pub right_alone : many ≡ 0 → first.prefix.now ≡ high
  pub left_words : 0 < many → (key : List ℕ) × IsTrimmed low key first.prefix.now first.shift.lead first.shift.bytes
  pub right_words : 0 < more → (key : List ℕ) × IsTrimmed high key second.prefix.now second.shift.lead second.shift.bytes

-- The words are those of the base that both are joined to, at this level: it has the items of the left one and then those of the right one, no mark, and a
-- statistic of 0. Its prefix is the longest one that both begin with; where one has no item, it is that of the other one.
pub record SpellsJoined (left right : Note) (at_level : ℕ) (its : List ℕ) : Type 0 where
  pub long : length its ≡ row_words
  pub is_base : IsBaseRow its
  pub level_is : level its ≡ at_level
  pub count_is : count its ≡ count left.its + count right.its
  pub items_are : items its ≡ items left.its ++ items right.its
  pub headed : IsHeaded its (left.objects ++ right.objects)
  pub unmarked : IsUnmarked its
  pub statistic_is : slice_index its 1 ≡ 4294967296
  pub longest : 0 < count left.its → 0 < count right.its → AreShared (prefix left.its) (prefix right.its) (prefix_length its)
  pub left_alone : count right.its ≡ 0 → prefix its ≡ prefix left.its
  pub right_alone : count left.its ≡ 0 → prefix its ≡ prefix right.its
