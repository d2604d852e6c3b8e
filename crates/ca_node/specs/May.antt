-- What a load of a word of the tree may tell, and what an exchange may.
use Rattle.std.specs.Prelude.{◌≡◌, ◌⊎◌, Bool, ℕ, List}
use Rattle.atomic_table.specs.Table.{Step}
use Rattle.ca_model.specs.Event.{Event}
use Rattle.ca_model.specs.Known.{Counts}
use Rattle.ca_node.specs.Aside.{PassesOn}
use Rattle.ca_node.specs.Copies.{Copy, Copies}
use Rattle.ca_node.specs.Endings.{IsHelpStep, Helps}
use Rattle.ca_node.specs.JoinSteps.{LoadsJoin, SwapsJoin}
use Rattle.ca_node.specs.Told.{MyTree, Leads, Reads, ReadsLast, IsRise, Refuses, Watches, IsLastThere, Update, Updates, Divides}
use Rattle.ca_node.specs.OwnRanges.{Opens, WatchesOwn, DecidesOwn, Aborts, Leaves}
use Rattle.ca_node.specs.Unlinks.{UnlinksSome}
use Rattle.ca_node.specs.TreeView.{Note, Border, Begun, Division, KnownRanges, TreeView}

-- All that a load may tell of the tree: that of a link, that of a word that was shown, the ends of calls, which edit nothing or are refused, and how far a
-- range is, or a join; or that the seat had looked to the left. No load counts a lost exchange, a split or an update.
abbrev pub MayLoad : Step (Unit {0}) → MyTree → ℕ → MyTree → Type 0
MayLoad st m n m' = ((walks : Bool) × Leads walks st m n m') ⊎ (Reads st m n m' ⊎ (((event : Event) × ReadsLast event st m n m')
    ⊎ (((rise : Counts → Counts) × IsRise rise × Refuses rise st m n m') ⊎ (Watches st m n m' ⊎ (WatchesOwn st m n m'
    ⊎ (PassesOn st m n m' ⊎ LoadsJoin st m n m'))))))

-- The exchange is about the base that the seat's last load of that link showed: it expects its row, at the link where it hung.
abbrev pub IsShownLast : TreeView → Step (Unit {0}) → Note → Type 0
IsShownLast u st note = IsLastThere note u.notes × (st.first ≡ note.row) × (st.word ≡ note.place.link)

-- All that an exchange of the word of the seat's own range may tell: it is decided, or given up, behind a mark or before one.
abbrev pub SwapsOwn : Step (Unit {0}) → MyTree → ℕ → MyTree → Type 0
SwapsOwn st m n m' = ((begun : Begun) × (border : Border) × (last : Note) × DecidesOwn begun border last st m n m')
    ⊎ (((begun : Begun) × (border : Border) × Aborts begun border st m n m') ⊎ ((begun : Begun) × Leaves begun st m n m'))

-- All that an exchange may tell: an update, a split, a route that was unlinked, or a base that is marked for a range, or one exchange more that was lost; or
-- that another pass's range is over, or the seat's own one, or how far a join is.
abbrev pub MaySwap : Step (Unit {0}) → MyTree → ℕ → MyTree → Type 0
MaySwap st m n m' = ((x : Update) × IsShownLast m.0.upper st x.old × Updates x st m n m')
    ⊎ ((((x : Division) × IsShownLast m.0.upper st x.old × Divides x st m n m') ⊎ UnlinksSome st m n m')
    ⊎ (((x : Copy) × (served : List ℕ) × (ranges : KnownRanges) × IsShownLast m.0.upper st x.old × Copies served ranges x st m n m')
    ⊎ (((pass : ℕ) × (number : ℕ) × (border : ℕ) × IsHelpStep pass number st m × Helps pass number border st m n m')
    ⊎ (SwapsOwn st m n m' ⊎ SwapsJoin st m n m'))))

-- All that a store may tell: the seat began a range.
abbrev pub MayStore : Step (Unit {0}) → MyTree → ℕ → MyTree → Type 0
MayStore st m n m' = (begun : Begun) × Opens begun st m n m'
