-- Parts of the keys, and the places of a tree that lead to them.
use Rattle.std.specs.Prelude.{◌≡◌, ◌⊎◌, ℕ, ◌+◌, ◌*◌, Bool, true, false, cond, List}
use Rattle.ca_model.specs.Edges.{Unbounded, Included, Excluded, is_from, is_up_to, within}
use Rattle.ca_model.specs.Event.{Event, Get, Write, WriteNew, Remove, Change, Above, Below, Range}
use Rattle.ca_model.specs.History.{Edit, Put, Del}
use Rattle.ca_model.specs.StoreMap.{StoreMap}
pub use Rattle.ca_runs.specs.Runs.{Span}
use Rattle.ca_rows.specs.Layout.{row_words}
use Rattle.ca_node.specs.Layout.{root_word}

abbrev pub all_keys : Span
all_keys = record { low = Unbounded; high = Unbounded }

-- the keys of a part that are less than this one, and the others
abbrev pub left_of : List ℕ → Span → Span
left_of key span = record { low = span.low; high = Excluded key }

abbrev pub right_of : List ℕ → Span → Span
right_of key span = record { low = Included key; high = span.high }

-- whether a key is in the part
abbrev pub has_key : Span → List ℕ → Bool
has_key span key = cond (is_from span.low key) (is_up_to span.high key) false

abbrev pub HasKey : Span → List ℕ → Type 0
HasKey span key = has_key span key ≡ true

-- what a map has with such keys
abbrev pub part : Span → StoreMap → StoreMap
part span map = within span.low span.high map

-- where a row hangs: the word of its link, its level, and which keys are led there
pub record Place : Type 0 where
  pub link : ℕ
  pub level : ℕ
  pub span : Span

abbrev pub root_place : Place
root_place = record { link = root_word; level = 0; span = all_keys }

-- the place on the left of a route that stands here, and that on its right
abbrev pub left_place : Place → List ℕ → ℕ → Place
left_place place key route = record { link = row_words * route + 1; level = place.level + 1; span = left_of key place.span }

abbrev pub right_place : Place → List ℕ → ℕ → Place
right_place place key route = record { link = row_words * route + 2; level = place.level + 1; span = right_of key place.span }

-- The word is one of the two links of this route.
abbrev pub IsLinkOf : ℕ → ℕ → Type 0
IsLinkOf route link = (link ≡ row_words * route + 1) ⊎ (link ≡ row_words * route + 2)

-- the key that an edit is about
abbrev pub edit_key : Edit → List ℕ
edit_key (Put key object) = key
edit_key (Del key) = key

-- The call is about this key alone.
abbrev pub IsAbout : List ℕ → Event → Type 0
IsAbout key (Get k found) = k ≡ key
IsAbout key (Write k object) = k ≡ key
IsAbout key (WriteNew k object new) = k ≡ key
IsAbout key (Remove k found) = k ≡ key
IsAbout key (Change k found new) = k ≡ key
IsAbout key (Above lo found) = ⊥
IsAbout key (Below hi found) = ⊥
IsAbout key (Range lo hi cut objects) = ⊥
