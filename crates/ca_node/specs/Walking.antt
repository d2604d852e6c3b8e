-- Walks from the root link to a base.
use Rattle.std.specs.Prelude.{◌≡◌, ◌⊎◌, Bool, true, false, not, ℕ, ◌+◌, ◌-◌, ◌*◌, ◌<◌, ◌≤◌, List, ◌∷◌, ◌++◌, length, take, drop, Option, None, Some}
use Rattle.std.specs.Int.{to_be_bytes, w64}
use Rattle.std.specs.Ordering.{is_lt, is_gt}
use Rattle.ca_model.specs.Edges.{Bound, Unbounded, Included, Excluded}
use Rattle.ca_model.specs.History.{History}
use Rattle.ca_model.specs.StoreMap.{bytes_cmp}
use Rattle.ca_rows.specs.declared.sizes.Sizes.{Sizes}
use Rattle.ca_node.specs.Aside.{LeavesNone, LetsLess}
use Rattle.ca_node.specs.declared.cursor.Cursor.{Cursor}
use Rattle.ca_node.specs.declared.cursor.Spot.{Spot}
use Rattle.ca_node.specs.declared.cursor.Spot.TheVariants as spot
use Rattle.ca_node.specs.declared.link.Link.{Link}
use Rattle.ca_node.specs.declared.link.Link.TheVariants as link
use Rattle.ca_node.specs.Inventory.{HasFewRows, IsListed}
use Rattle.ca_node.specs.Links.{IsIn}
use Rattle.ca_node.specs.Lone.{IsBehindOwn}
use Rattle.ca_node.specs.Layout.{root_word}
use Rattle.ca_node.specs.Place.{Span, HasKey, Place, IsLinkOf}
use Rattle.ca_node.specs.Row.{count, route_key}
use Rattle.ca_node.specs.Notes.{IsBaseNote}
use Rattle.ca_node.specs.Told.{MyTree, with_upper, IsRouteNote, IsKnown, IsKnownLink, IsShownRoute, link_word}
use Rattle.ca_node.specs.States.{HasState, IsAlone}
use Rattle.ca_node.specs.TreeView.{Note, Way, TreeView}
use Rattle.ca_rows.specs.Layout.{row_words}

-- The keys of this part are those that are looked for: the first ones, those among which this one is, those right below it, or the last ones.
abbrev pub IsSought : Spot → Span → Type 0
IsSought spot.First span = span.low ≡ Unbounded
IsSought (spot.At key) span = HasKey span key.now
IsSought (spot.Below key) span = LetsLess span.low key.now × LeavesNone span.high key.now
IsSought spot.Last span = span.high ≡ Unbounded

-- what a seat knows after a walk: a base was shown to it, and the routes on the way there
abbrev pub walked : TreeView → History → Note → List Way → ℕ → TreeView
walked u more note ways loads = record u { seen = u.seen ++ more; notes = note ∷ u.notes; ways = ways ++ u.ways; loads = u.loads + loads; last = note; shown = u.loads + loads }

-- Up to so many bytes two keys are equal: what is behind them tells how they stand.
abbrev pub AreAlikeUpTo : ℕ → List ℕ → List ℕ → Type 0
AreAlikeUpTo n key other = bytes_cmp key other ≡ bytes_cmp (drop n key) (drop n other)

-- The word begins with the bytes of the key, eight where there are as many.
abbrev pub BeginsWith : List ℕ → ℕ → Type 0
BeginsWith key word = take (length key) (to_be_bytes w64 word) ≡ take 8 key

-- The word begins with the bytes of the key from a place on, eight where there are as many.
abbrev pub HasBytesFrom : List ℕ → ℕ → ℕ → Type 0
HasBytesFrom key from word = take (length key - from) (to_be_bytes w64 word) ≡ take 8 (drop from key)

-- So does the word of the key that tells which base is looked for, if there is one.
abbrev pub HasFront : Spot → ℕ → Type 0
HasFront spot.First word = Unit {0}
HasFront (spot.At key) word = BeginsWith key.now word
HasFront (spot.Below key) word = BeginsWith key.now word
HasFront spot.Last word = Unit {0}

-- The pass was shown the route with these words.
pub record IsRouteShown (u : TreeView) (row : ℕ) (its : List ℕ) : Type 0 where
  pub shown : IsShownRoute u row its
  pub long : length its ≡ row_words
  pub short : count its ≤ 1000

-- The route, if one is named, is one that was shown, and its key is the lower bound, or the upper one.
abbrev pub IsLowRoute : Sizes → List Way → Option ℕ → Bound → Type 0
IsLowRoute z ways None bound = bound ≡ Unbounded
IsLowRoute z ways (Some route) bound = (way : Way) × IsIn way ways × (way.row ≡ route) × (bound ≡ Included (route_key way.its)) × IsRouteNote z way

abbrev pub IsHighRoute : Sizes → List Way → Option ℕ → Bound → Type 0
IsHighRoute z ways None bound = bound ≡ Unbounded
IsHighRoute z ways (Some route) bound = (way : Way) × IsIn way ways × (way.row ≡ route) × (bound ≡ Excluded (route_key way.its)) × IsRouteNote z way

-- The link is the root link, or one of a route that was shown.
abbrev pub IsLinkAmong : List Way → ℕ → Type 0
IsLinkAmong ways link = (link ≡ root_word) ⊎ ((way : Way) × IsIn way ways × IsLinkOf way.row link)

-- The route was shown, and hung on this link: one of those, within the table.
pub record IsHungOn (z : Sizes) (ways : List Way) (route : ℕ) (above : Link) : Type 0 where
  pub way : Way
  pub remembered : IsIn way ways
  pub row_is : way.row ≡ route
  pub link_is : way.place.link ≡ link_word above
  pub is_route : IsRouteNote z way
  pub known : IsLinkAmong ways (link_word above)
  pub inside : link_word above < row_words * z.rows + row_words

-- The link, if one is named, is the one on which the route hung whose link the other one is.
abbrev pub IsAbove : Sizes → List Way → Link → Option Link → Type 0
IsAbove z ways link.Root above = above ≡ None
IsAbove z ways (link.Left route) None = ⊥
IsAbove z ways (link.Left route) (Some above) = IsHungOn z ways route above
IsAbove z ways (link.Right route) None = ⊥
IsAbove z ways (link.Right route) (Some above) = IsHungOn z ways route above

-- The cursor tells the base that was shown, and where it hung.
pub record IsCursor (z : Sizes) (ways : List Way) (note : Note) (cursor : Cursor) : Type 0 where
  pub base : note.row ≡ cursor.base
  pub link : note.place.link ≡ link_word cursor.link
  pub level : note.place.level ≡ cursor.level
  pub above : IsAbove z ways cursor.link cursor.above
  pub low : IsLowRoute z ways cursor.low note.place.span.low
  pub high : IsHighRoute z ways cursor.high note.place.span.high

-- What is looked for is left of this key, or it isn't.
abbrev pub IsSide : Bool → Spot → List ℕ → Type 0
IsSide left spot.First key = left ≡ true
IsSide left (spot.At k) key = left ≡ is_gt (bytes_cmp key k.now)
IsSide left (spot.Below k) key = left ≡ not (is_lt (bytes_cmp key k.now))
IsSide left spot.Last key = left ≡ false

-- The cursor tells where a row hangs to which the routes lead that were shown.
pub record IsPlaced (z : Sizes) (ways : List Way) (place : Place) (cursor : Cursor) : Type 0 where
  pub link : place.link ≡ link_word cursor.link
  pub inside : link_word cursor.link < row_words * z.rows + row_words
  pub above : IsAbove z ways cursor.link cursor.above
  pub low : IsLowRoute z ways cursor.low place.span.low
  pub high : IsHighRoute z ways cursor.high place.span.high

-- A walk may begin with the cursor's link: it is the root link, or one of a route that is remembered. These keys are led there, and the cursor
-- tells where it hangs.
pub record IsBegin (z : Sizes) (u : TreeView) (span : Span) (cursor : Cursor) : Type 0 where
  pub least : ℕ
  pub is_link : IsKnownLink u (link_word cursor.link) least span
  pub placed : IsPlaced z u.ways (record { link = link_word cursor.link; level = least; span = span }) cursor

-- what a seat knows on its way down, when no base was shown to it yet
abbrev pub passed : TreeView → History → List Way → ℕ → TreeView
passed u more ways loads = record u { seen = u.seen ++ more; ways = ways ++ u.ways; loads = u.loads + loads }

-- The walk came to a route, under which the base is. It loaded at most one link more than the route's level.
pub record IsAtRoute (z : Sizes) (spot : Spot) (m : MyTree) (cursor : Cursor) (m' : MyTree) : Type 0 where
  pub way : Way
  pub more : History
  pub ways : List Way
  pub loads : ℕ
  pub now : m' ≡ with_upper m (passed m.0.upper more (way ∷ ways) loads)
  pub few : loads ≤ way.place.level + 1
  pub sought : IsSought spot way.place.span
  pub row : way.row ≡ cursor.base
  pub placed : IsPlaced z m'.0.upper.ways way.place cursor
  pub is_route : IsRouteNote z way

-- The walk came to a base, and it is the one that is looked for. It loaded a link at least, and at most one more than the base's level.
pub record IsAtBase (z : Sizes) (spot : Spot) (m : MyTree) (cursor : Cursor) (m' : MyTree) : Type 0 where
  pub note : Note
  pub more : History
  pub ways : List Way
  pub loads : ℕ
  pub now : m' ≡ with_upper m (walked m.0.upper more note ways loads)
  pub some : 0 < loads
  pub few : loads ≤ note.place.level + 1
  pub sought : IsSought spot note.place.span
  pub row : note.row ≡ cursor.base
  pub placed : IsPlaced z m'.0.upper.ways note.place cursor
  pub begins : IsBegin z m'.0.upper note.place.span cursor
  pub is_base : IsBaseNote z note
  pub has : HasState z m'.0.upper note
  pub known : IsKnown z m'.0.upper
  pub listed : IsAlone z m.0.upper → IsListed m.0.upper.inventory note
  pub shallow : IsAlone z m.0.upper → note.place.level ≤ m.0.upper.splits
  pub few_rows : IsAlone z m.0.upper → HasFewRows m.0.upper
  pub behind : IsAlone z m.0.upper → IsBehindOwn m.0.upper note
  pub alike : (old : Note) → IsIn old m.0.upper.notes → old.row ≡ note.row → old.its ≡ note.its

-- The walk came to a base or to a route.
abbrev pub IsWalking : Sizes → Spot → MyTree → Cursor → MyTree → Type 0
IsWalking z spot m cursor m' = IsAtBase z spot m cursor m' ⊎ IsAtRoute z spot m cursor m'

-- The walk came to the base that was looked for. It loaded a link at least, and at most one more than there are levels. Where the base's row was shown before,
-- it had these words.
pub record IsWalked (z : Sizes) (spot : Spot) (m : MyTree) (cursor : Cursor) (m' : MyTree) : Type 0 where
  pub note : Note
  pub more : History
  pub ways : List Way
  pub loads : ℕ
  pub now : m' ≡ with_upper m (walked m.0.upper more note ways loads)
  pub some : 0 < loads
  pub few : loads ≤ z.levels + 1
  pub sought : IsSought spot note.place.span
  pub cursor_is : IsCursor z m'.0.upper.ways note cursor
  -- The link is within the table, and another walk may begin with it.
  pub inside : link_word cursor.link < row_words * z.rows + row_words
  pub begins : IsBegin z m'.0.upper note.place.span cursor
  pub is_base : IsBaseNote z note
  pub has : HasState z m'.0.upper note
  pub known : IsKnown z m'.0.upper
  pub listed : IsAlone z m.0.upper → IsListed m.0.upper.inventory note
  pub shallow : IsAlone z m.0.upper → note.place.level ≤ m.0.upper.splits
  pub few_rows : IsAlone z m.0.upper → HasFewRows m.0.upper
  pub behind : IsAlone z m.0.upper → IsBehindOwn m.0.upper note
  pub alike : (old : Note) → IsIn old m.0.upper.notes → old.row ≡ note.row → old.its ≡ note.its
