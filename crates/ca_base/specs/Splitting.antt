-- Splits of a base: what the words of a route spell, which rows are taken, and what a split comes to.
use Rattle.std.specs.Prelude.{◌≡◌, ℕ, ◌*◌, ◌/◌, List, [], ◌∷◌, length, slice_index, slice_index_or, Result, Ok, Err}
use Rattle.ca_node.specs.Layout.{base_form, object_form}
use Rattle.ca_node.specs.Row.{IsRouteRow, count, items, key, level, route_key}
use Rattle.ca_node.specs.Told.{MyTree, divided}
use Rattle.ca_node.specs.TreeView.{Note, TreeView, Division}
use Rattle.ca_node.specs.Links.{AreApart}
use Rattle.ca_base.specs.declared.stop.Stop.{Stop}
use Rattle.ca_base.specs.Putting.{first_note, stopped, words_of}
use Rattle.ca_rows.specs.Claims.{claim_of}
use Rattle.ca_rows.specs.Layout.{row_words}

-- The words are a route's, at this level: this key, these two links, and a join word that says so many attempts, and that none is under way.
pub record SpellsRoute (at_level : ℕ) (bytes : List ℕ) (left right attempt : ℕ) (its : List ℕ) : Type 0 where
  pub long : length its ≡ row_words
  pub is_route : IsRouteRow its
  pub level_is : level its ≡ at_level
  pub count_is : count its ≡ length bytes
  pub key_is : route_key its ≡ bytes
  pub left_is : slice_index its 1 ≡ left
  pub right_is : slice_index its 2 ≡ right
  pub join_is : slice_index its 3 ≡ attempt * 4

-- for which forms rows are taken: for the halves, and then for the route, which leaves former bases to bases
abbrev pub split_forms : List ℕ
split_forms = base_form ∷ base_form ∷ object_form ∷ []

-- Three rows are held, each once, or none.
abbrev pub HasTakenThree : Result (ℕ × ℕ × ℕ) Stop → (List ℕ → Type 0) → Type 0
HasTakenThree (Ok three) Now = AreApart (three.0 ∷ three.1 ∷ three.2 ∷ []) × Now (three.0 ∷ three.1 ∷ three.2 ∷ [])
HasTakenThree (Err why) Now = Now []

-- the split of a base by rows with these words: as many of its objects go left as the left half names
abbrev pub division_by : Note → ℕ → ℕ → ℕ → List ℕ → List ℕ → List ℕ → Division
division_by note route left right route_its left_its right_its = record {
  old = note;
  route = route;
  left = left;
  right = right;
  route_its = route_its;
  left_its = left_its;
  right_its = right_its;
  middle = length (items left_its);
}

-- the split by rows that the seat holds, of the base that it was shown last
abbrev pub division_of : MyTree → ℕ → ℕ → ℕ → Division
division_of m route left right = division_by (first_note m.0.upper.notes) route left right (words_of (claim_of m.0.claims route))
    (words_of (claim_of m.0.claims left)) (words_of (claim_of m.0.claims right))

-- The split is in the middle of so many objects, rounded down. The statistic of its halves is 0, and its route has had so many attempts to join.
pub record IsHalving (many attempt : ℕ) (x : Division) : Type 0 where
  pub middle_is : x.middle ≡ many / 2
  pub left_statistic : slice_index x.left_its 1 ≡ 4294967296
  pub right_statistic : slice_index x.right_its 1 ≡ 4294967296
  pub attempts : slice_index x.route_its 3 ≡ attempt * 4

-- The base was split in the middle of so many objects, and the route has the key of the first one that went right.
pub record IsSplit (note : Note) (many attempt : ℕ) (x : Division) : Type 0 where
  pub old_is : x.old ≡ note
  pub key_is : route_key x.route_its ≡ key (slice_index_or note.objects x.middle [])
  pub halving : IsHalving many attempt x

-- A try to exchange the base that was shown last against a route: the split is carried out, or it came to nothing.
abbrev pub HasSplit : {T : Type 0} → ℕ → ℕ → Result T Stop → TreeView → TreeView → Type 0
HasSplit many attempt (Ok x) u v = (x : Division) × IsSplit (first_note u.notes) many attempt x × (v ≡ divided x u)
HasSplit many attempt (Err why) u v = v ≡ stopped why u
