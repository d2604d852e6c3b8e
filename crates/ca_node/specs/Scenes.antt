-- What ranges see of the tree in the words.
use Rattle.std.specs.Prelude.{◌≡◌, ℕ, List}
use Rattle.ca_runs.specs.Runs.{Mark, Span, Scene}
use Rattle.ca_node.specs.Links.{IsActive, HasBegun}
use Rattle.ca_node.specs.Place.{Place, all_keys}
use Rattle.ca_node.specs.Row.{row_at, mark, mark_owner, mark_number, mark_back, mark_bound}
use Rattle.ca_node.specs.Shape.{Role, Out, Base, Route}

-- The row is a base of the tree.
abbrev pub IsBase : (ℕ → Role) → ℕ → Type 0
IsBase role row = (place : Place) × (role row ≡ Base place)

-- which keys are led to what has this role
abbrev pub span_of : Role → Span
span_of Out = all_keys
span_of (Base place) = place.span
span_of (Route place key) = place.span

abbrev pub mark_of : List ℕ → Mark
mark_of its = record {
  kind = mark its;
  owner = mark_owner its;
  number = mark_number its;
  back = mark_back its;
  bound = mark_bound its;
}

-- A range was begun where its number is no greater than that of its pass's last one.
abbrev pub scene_of : List ℕ → (ℕ → Role) → Scene
scene_of words role = record {
  is_base = IsBase role;
  keys = λ row. span_of (role row);
  mark = λ row. mark_of (row_at words row);
  is_active = IsActive words;
  has_begun = HasBegun words;
}
