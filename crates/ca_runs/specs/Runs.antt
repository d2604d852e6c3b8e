-- Runs: bases that stand side by side, which one range marked from the left to the right. The range's pass says of it whether it is active; while it is,
-- its bases stay, and whoever ends it, the bases on the chain that leads to the left from one of them are one state of the map.
use Rattle.std.specs.Prelude.{◌≡◌, ◌⊎◌, ℕ, ◌<◌, true, List, [], ◌∷◌, ◌++◌}
use Rattle.ca_model.specs.Edges.{Bound, Included, Excluded, is_from, is_up_to, within}
use Rattle.ca_model.specs.StoreMap.{StoreMap}

abbrev pub IsAmong : ℕ → List ℕ → Type 0
IsAmong row [] = ⊥
IsAmong row (x ∷ rows) = (row ≡ x) ⊎ IsAmong row rows

-- What the row of a base says of the operation that marked it: which kind it is (0 none, 1 a range, 2 a join), whose it is, its number, the base on
-- the left that it marked before this one (0 where this one is the first), and the row that says up to which key it goes.
pub record Mark : Type 0 where
  pub kind : ℕ
  pub owner : ℕ
  pub number : ℕ
  pub back : ℕ
  pub bound : ℕ

-- a part of the keys: those within a lower and an upper bound
pub record Span : Type 0 where
  pub low : Bound
  pub high : Bound

-- What ranges see of a table between two steps: which rows are bases of the tree, which keys are led to each of them, what a row says as a mark, which
-- range of a pass is active, by its number, and which was begun, be it ended or not.
pub record Scene : Type 1 where
  pub is_base : ℕ → Type 0
  pub keys : ℕ → Span
  pub mark : ℕ → Mark
  pub is_active : ℕ → ℕ → Type 0
  pub has_begun : ℕ → ℕ → Type 0

-- The row has the mark of this range.
abbrev pub IsMarked : Scene → ℕ → ℕ → ℕ → Type 0
IsMarked s row pass number = ((s.mark row).kind ≡ 1) × ((s.mark row).owner ≡ pass) × ((s.mark row).number ≡ number)

-- Where the keys of the one end, those of the other begin.
abbrev pub AreNeighbours : Span → Span → Type 0
AreNeighbours left right = (key : List ℕ) × (left.high ≡ Excluded key) × (right.low ≡ Included key)

-- All keys from the edge on are from this bound on.
abbrev pub BeginsBefore : Bound → Bound → Type 0
BeginsBefore low edge = (key : List ℕ) → is_from edge key ≡ true → is_from low key ≡ true

-- a range: whose it is, its number, from where on it wants keys, and the row that says up to where
pub record Range : Type 0 where
  pub pass : ℕ
  pub number : ℕ
  pub edge : Bound
  pub top : ℕ

-- The row is a base that the range marked.
pub record IsOfRange (s : Scene) (range : Range) (row : ℕ) : Type 0 where
  pub is_base : s.is_base row
  pub some_row : 0 < row
  pub marked : IsMarked s row range.pass range.number
  pub ends : (s.mark row).bound ≡ range.top

-- These bases of the range, from the last one to the first, stand side by side. Each names the one on its left, and the first one has the range's edge.
abbrev pub IsRun : Scene → Range → List ℕ → Type 0
IsRun s range [] = Unit {0}
IsRun s range (row ∷ []) = IsOfRange s range row × ((s.mark row).back ≡ 0) × BeginsBefore (s.keys row).low range.edge
IsRun s range (row ∷ left ∷ rows) = IsOfRange s range row × ((s.mark row).back ≡ left) × AreNeighbours (s.keys left) (s.keys row)
    × IsRun s range (left ∷ rows)

-- from where to where the last range of a pass goes
pub record Ends : Type 0 where
  pub edge : Bound
  pub top : ℕ

abbrev pub range_of : (ℕ → Ends) → ℕ → ℕ → Range
range_of ends pass number = record { pass = pass; number = number; edge = (ends pass).edge; top = (ends pass).top }

-- What holds of all ranges between any two steps: what an active one marked is one run, and what is marked was begun.
pub record AreRuns (s : Scene) (ends : ℕ → Ends) : Type 0 where
  pub run : ℕ → List ℕ
  pub each : (pass number : ℕ) → s.is_active pass number → IsRun s (range_of ends pass number) (run pass)
  pub whole : (pass number row : ℕ) → s.is_active pass number → s.is_base row → IsMarked s row pass number → IsAmong row (run pass)
  pub begun : (pass number row : ℕ) → s.is_base row → IsMarked s row pass number → s.has_begun pass number

-- The keys that are led to the bases of a tree: a base has the key that its keys begin with, none ends before it begins, and no two have a key.
pub record AreApart (s : Scene) : Type 0 where
  pub begins : (row : ℕ) (key : List ℕ) → s.is_base row → (s.keys row).low ≡ Included key → is_up_to (s.keys row).high key ≡ true
  pub ends : (row : ℕ) (key : List ℕ) → s.is_base row → (s.keys row).high ≡ Excluded key → is_from (s.keys row).low key ≡ true
  pub apart : (a b : ℕ) (key : List ℕ) → s.is_base a → s.is_base b → (s.keys a).low ≡ Included key → (s.keys b).low ≡ Included key → a ≡ b

-- The chain from a row to the left has these rows.
abbrev pub IsChain : (ℕ → Mark) → ℕ → List ℕ → Type 0
IsChain mark row [] = row ≡ 0
IsChain mark row (x ∷ rows) = (row ≡ x) × (0 < x) × IsChain mark (mark x).back rows

-- what these rows have together, from the last one on
abbrev pub joined : (ℕ → StoreMap) → List ℕ → StoreMap
joined has [] = []
joined has (row ∷ rows) = joined has rows ++ has row

-- The chain from the last row, which is one of a pass's that are kept for it, has what a map has from the edge on, up to where the last base ends, and
-- maybe keys below the edge that the first base has, too.
pub record Shows (mark : ℕ → Mark) (has : ℕ → StoreMap) (is_kept : ℕ → Type 0) (map : StoreMap) (edge high : Bound) (last : ℕ) : Type 0 where
  pub rows : List ℕ
  pub chain : IsChain mark last rows
  pub kept : (row : ℕ) → IsAmong row rows → is_kept row
  pub low : Bound
  pub before : BeginsBefore low edge
  pub shown : joined has rows ≡ within low high map
