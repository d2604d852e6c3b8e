-- What each step of the tree tells.
use Rattle.std.specs.Prelude.{◌≡◌, ◌≢◌, ◌==◌, ◌⊎◌, None, Bool, true, false, ℕ, ◌+◌, ◌-◌, ◌*◌, ◌/◌, ◌%◌, ◌<◌, ◌≤◌, max, List, [], ◌∷◌, ◌++◌, length, map, take, drop, nat_lt, cond, slice_index, slice_index_or, Option, Some}
use mathlib.Core.Option.{some, none}
use lib.ListN.{get_elem?}
use Rattle.atomic_table.specs.Table.{Step}
use Rattle.ca_model.specs.Event.{Event, Get, IsAnswer, effect}
use Rattle.ca_model.specs.History.{Edit, Del, History, after_edit, IsEdit, AreEdits, AreByPasses}
use Rattle.ca_model.specs.declared.outcome.Cause.{Cause}
use Rattle.ca_model.specs.Known.{Counts, one_more}
use Rattle.ca_model.specs.Lawful.{IsLawful}
use Rattle.ca_rows.specs.declared.sizes.Sizes.{Sizes}
use Rattle.ca_rows.specs.declared.view.Claim.TheVariants.{Holds, Lends, Unlinked}
use Rattle.ca_rows.specs.declared.view.Claimed.{Claimed}
use Rattle.ca_rows.specs.Claims.{claim_of, claimed, dropped}
use Rattle.ca_rows.specs.Rule.{fresh, no_sizes}
use Rattle.ca_rows.specs.declared.view.Met.{Met}
use Rattle.ca_rows.specs.Told.{Mine, met_of, relinked}
use Rattle.ca_node.specs.Joining.{IsRemembered}
use Rattle.ca_node.specs.Inventory.{AreOnce, but, but_all, row_itself, row_of_base, HasFewRows, IsListed}
use Rattle.ca_node.specs.Links.{IsIn}
use Rattle.ca_node.specs.Lone.{IsBehindOwn}
use Rattle.ca_node.specs.declared.link.Link.{Link}
use Rattle.ca_node.specs.declared.link.Link.TheVariants as link
use Rattle.ca_node.specs.declared.range_state.RangeState.{RangeState}
use Rattle.ca_node.specs.declared.range_state.RangeState.TheVariants.{Idle, Active, Decided}
use Rattle.ca_node.specs.Notes.{IsBaseNote}
use Rattle.ca_node.specs.Place.{Span, all_keys, left_of, right_of, HasKey, Place, left_place, right_place, IsLinkOf, edit_key}
use Rattle.ca_node.specs.Row.{IsObjectRow, IsBaseRow, IsRouteRow, IsBorderRow, count, level, items, mark, mark_owner, mark_number, mark_bound, IsMarkedBy, IsMarkedFor, IsUnmarked, IsIdle, key, route_key, pair, IsHeaded}
use Rattle.ca_node.specs.States.{HasState, IsAlone, IsReadAt}
use Rattle.ca_node.specs.Tree.{ArePast, IsFixed}
use Rattle.ca_node.specs.TreeView.{Note, Way, Over, Attempt, Finished, Quiet, Unfinished, Border, Turns, Renewal, Division, Inventory, TreeView, blank, no_note, one_passed}
use Rattle.ca_rows.specs.Layout.{row_words, pass_words, row_limit}
use Rattle.ca_node.specs.Layout.{root_word, sequence_unit, marked_by_range, marked_by_join}

abbrev pub MyTree : Type 0
MyTree = Mine TreeView

abbrev pub with_upper : MyTree → TreeView → MyTree
with_upper m u = (record m.0 { upper = u }, m.1)

-- The route has these words, and stands above the last level; its key is one of those that are led to it.
pub record IsRouteNote (z : Sizes) (way : Way) : Type 0 where
  pub some_row : 0 < way.row
  pub in_range : way.row ≤ z.rows
  pub is_route : IsRouteRow way.its
  pub long : length way.its ≡ row_words
  pub level_is : level way.its ≡ way.place.level
  pub above : way.place.level < z.levels
  pub short : count way.its ≤ 1000
  pub inside : HasKey way.place.span (route_key way.its)

-- This is a history as a pass may know it: what it edited is told by its log, whose places are in it.
pub record IsKnown (z : Sizes) (u : TreeView) : Type 0 where
  pub lawful : IsLawful u.number u.seen u.log
  pub past : ArePast (length u.seen) u.log
  pub edits : AreEdits z.keypos u.seen
  -- The pass is one of those that the space is for, and so are all that edited.
  pub enrolled : u.number ≤ z.passes
  pub by_passes : AreByPasses z.passes u.seen

-- The seat knows of the link which keys are led there, and from which level on rows hang there: it is the root link, or one of a route that it
-- remembers, whether that is in the tree still or was unlinked since the seat was pinned.
abbrev pub IsKnownLink : TreeView → ℕ → ℕ → Span → Type 0
IsKnownLink u link least span = ((link ≡ root_word) × (least ≡ 0) × (span ≡ all_keys))
    ⊎ ((way : Way) × IsIn way u.ways × (least ≡ way.place.level + 1)
    × (((link ≡ row_words * way.row + 1) × (span ≡ left_of (route_key way.its) way.place.span))
    ⊎ ((link ≡ row_words * way.row + 2) × (span ≡ right_of (route_key way.its) way.place.span))))

abbrev pub IsAnyLink : TreeView → ℕ → Type 0
IsAnyLink u link = (least : ℕ) × (span : Span) × IsKnownLink u link least span

-- the word of a link
abbrev pub link_word : Link → ℕ
link_word link.Root = root_word
link_word (link.Left route) = row_words * route + 1
link_word (link.Right route) = row_words * route + 2

-- the base that a walk came to last, once a link that names this one was loaded, by a walk or not
abbrev pub come_to : Bool → TreeView → Note → Note
come_to true u note = note
come_to false u note = u.last

-- how many links were loaded as a walk came to a base last
abbrev pub come_at : Bool → TreeView → ℕ
come_at true u = u.loads + 1
come_at false u = u.shown

-- what a seat knows after it loaded a link that names a base, or a route
abbrev pub led_to_base : TreeView → History → Note → Note → ℕ → TreeView
led_to_base u more note last shown = record u { seen = u.seen ++ more; notes = note ∷ u.notes; loads = u.loads + 1; last = last; shown = shown }

abbrev pub led_to_route : TreeView → History → Way → TreeView
led_to_route u more way = record u { seen = u.seen ++ more; ways = way ∷ u.ways; loads = u.loads + 1 }

-- A row hangs at a place that the seat knows of the link.
abbrev pub IsPlaceOf : TreeView → ℕ → Place → Type 0
IsPlaceOf u link place = (place.link ≡ link) × ((least : ℕ) (span : Span) → IsKnownLink u link least span → (least ≤ place.level) × (place.span ≡ span))

-- The link was loaded, by a walk or not: it names this base, which has what a state since the pin has of the keys that are led there. Where its row was shown
-- before as a base, it had these words.
pub record IsLedToBase (walks : Bool) (link : ℕ) (m : MyTree) (n : ℕ) (m' : MyTree) : Type 0 where
  pub note : Note
  pub more : History
  pub now : m' ≡ with_upper m (led_to_base m.0.upper more note (come_to walks m.0.upper note) (come_at walks m.0.upper))
  pub row_is : note.row ≡ n
  pub place : IsPlaceOf m.0.upper link note.place
  pub has : HasState m.0.sizes (led_to_base m.0.upper more note (come_to walks m.0.upper note) (come_at walks m.0.upper)) note
  pub known : 0 < m.0.sizes.rows → IsBaseNote m.0.sizes note
      × IsKnown m.0.sizes (led_to_base m.0.upper more note (come_to walks m.0.upper note) (come_at walks m.0.upper))
  pub listed : 0 < m.0.sizes.rows → IsAlone m.0.sizes m.0.upper → IsListed m.0.upper.inventory note
  pub shallow : 0 < m.0.sizes.rows → IsAlone m.0.sizes m.0.upper → note.place.level ≤ m.0.upper.splits
  pub few_rows : 0 < m.0.sizes.rows → IsAlone m.0.sizes m.0.upper → HasFewRows m.0.upper
  pub behind : 0 < m.0.sizes.rows → IsAlone m.0.sizes m.0.upper → IsBehindOwn m.0.upper note
  pub alike : (old : Note) → IsIn old m.0.upper.notes → old.row ≡ note.row → old.its ≡ note.its

-- The link was loaded: it names this route.
pub record IsLedToRoute (link : ℕ) (m : MyTree) (n : ℕ) (m' : MyTree) : Type 0 where
  pub way : Way
  pub more : History
  pub now : m' ≡ with_upper m (led_to_route m.0.upper more way)
  pub row_is : way.row ≡ n
  pub place : IsPlaceOf m.0.upper link way.place
  pub known : 0 < m.0.sizes.rows → IsRouteNote m.0.sizes way × IsKnown m.0.sizes (led_to_route m.0.upper more way)

-- The link was loaded, by a walk or not: it names a base or a route. A walk's load alone tells to which base a walk came last.
abbrev pub IsLed : Bool → ℕ → MyTree → ℕ → MyTree → Type 0
IsLed walks link m n m' = IsLedToBase walks link m n m' ⊎ IsLedToRoute link m n m'

-- The link was loaded of a route with this secured attempt: it names a base that the attempt marked. With each base that was shown before on the other link,
-- with the same mark, it has no more items than a leaf may have.
pub record IsShownSecured (link : ℕ) (x : Attempt) (m m' : MyTree) : Type 0 where
  pub note : Note
  pub shown : m'.0.upper.notes ≡ note ∷ m.0.upper.notes
  pub hangs : note.place.link ≡ link
  pub is_base : IsBaseRow note.its
  pub marked : IsMarkedFor note.its x.route x.number
  pub few : (other : Note) → IsIn other m.0.upper.notes → IsLinkOf x.route other.place.link → other.place.link ≢ link
      → IsMarkedFor other.its x.route x.number → count other.its + count note.its ≤ m.0.sizes.leaf

-- So it is for each attempt that the seat knows to be secured, whose route's link it loaded.
abbrev pub IsLedSecured : ℕ → MyTree → MyTree → Type 0
IsLedSecured link m m' = (x : Attempt) → IsIn x m.0.upper.ranges.joins.secured → IsLinkOf x.route link → IsShownSecured link x m m'

abbrev pub Leads : Bool → Step (Unit {0}) → MyTree → ℕ → MyTree → Type 0
Leads walks st m n m' = IsLed walks st.word m n m' × IsLedSecured st.word m m'

-- The note is on the row, with these words, or on a base that names it as an object row.
abbrev pub IsOfNote : Note → ℕ → List ℕ → Type 0
IsOfNote note row its = ((note.row ≡ row) × (note.its ≡ its)) ⊎ (IsBaseRow note.its
    × ((k : ℕ) × (get_elem? (items note.its) k ≡ some row) × (get_elem? note.objects k ≡ some its)))

-- The row was shown, with these words: it is one that a note is on, or an object row that such a base names.
abbrev pub IsShown : TreeView → ℕ → List ℕ → Type 0
IsShown u row its = (note : Note) × IsIn note u.notes × IsOfNote note row its

-- It was shown as one that says up to where a range goes, or is one of a run that was shown, or an object row that a base of the run names.
abbrev pub IsShownOfRange : TreeView → ℕ → List ℕ → Type 0
IsShownOfRange u row its = ((border : Border) × IsIn border u.ranges.borders × (border.row ≡ row) × (border.its ≡ its))
    ⊎ ((note : Note) × IsIn note u.ranges.run × IsOfNote note row its)

-- The route was shown, with these words.
abbrev pub IsShownRoute : TreeView → ℕ → List ℕ → Type 0
IsShownRoute u row its = (way : Way) × IsIn way u.ways × (way.row ≡ row) × (way.its ≡ its)

-- This word of the row was shown, and it stays: the row is no route, or it is neither one of its links nor its join word.
abbrev pub IsShownWord : TreeView → ℕ → ℕ → ℕ → Type 0
IsShownWord u row index word = (its : List ℕ) × (IsShown u row its ⊎ ((IsShownRoute u row its × IsFixed index) ⊎ IsShownOfRange u row its))
    × (word ≡ slice_index its index)

-- the word that says how far the last range of a pass is
abbrev pub status_word : Sizes → ℕ → ℕ
status_word z pass = row_words * z.rows + row_words + pass_words * pass - pass_words + 1

-- how far a range is, by that word: 1 in its state is an active one, 2 one that was decided with the base that the word names
abbrev pub status_of : ℕ → RangeState
status_of word = cond (word % sequence_unit == row_limit) (Active (word / sequence_unit))
    (cond (word / row_limit % 4 == 2) (Decided (word / sequence_unit) (word % row_limit)) (Idle (word / sequence_unit)))

-- the number of the range of the pass that is active by that word, if one is
abbrev pub active_of : ℕ → Option ℕ
active_of word = cond (word % sequence_unit == row_limit) (Some (word / sequence_unit)) None

-- The ranges of the pass that are over, by that word: all that were begun, but for the last one while it is active.
abbrev pub over_by : ℕ → ℕ → Over
over_by pass word = record { pass = pass; below = cond (word % sequence_unit == row_limit) (word / sequence_unit) (word / sequence_unit + 1) }

-- the ranges that were found unfinished, but for those of this pass
abbrev pub but_of : ℕ → List Unfinished → List Unfinished
but_of pass [] = []
but_of pass (x ∷ xs) = cond (x.pass == pass) (but_of pass xs) (x ∷ but_of pass xs)

-- how many of them are finished, by the word of this pass
abbrev pub finished_by : ℕ → ℕ → List Unfinished → ℕ
finished_by pass word [] = 0
finished_by pass word (x ∷ xs) = cond (x.pass == pass) (cond (word == sequence_unit * x.number + row_limit) 0 1) 0 + finished_by pass word xs

-- those that are unfinished still, and the one that the word tells of, where that is active
abbrev pub unfinished_by : ℕ → ℕ → List Unfinished → List Unfinished
unfinished_by pass word xs = cond (word % sequence_unit == row_limit) (record { pass = pass; number = word / sequence_unit } ∷ but_of pass xs) (but_of pass xs)

-- A range of another pass is finished that was found unfinished: the budget of a call counts it as one that was helped.
abbrev pub turned_by : ℕ → ℕ → TreeView → Turns
turned_by pass word u = cond (pass == u.number) u.turns (record u.turns { helped = u.turns.helped + finished_by pass word u.ranges.unfinished })

abbrev pub met_by : ℕ → ℕ → TreeView → List Unfinished
met_by pass word u = cond (pass == u.number) u.ranges.unfinished (unfinished_by pass word u.ranges.unfinished)

-- what a seat knows after it loaded that word
abbrev pub watched : TreeView → ℕ → ℕ → List Border → TreeView
watched u pass word borders = record u {
  ranges = record u.ranges {
    over = over_by pass word ∷ u.ranges.over;
    borders = borders ++ u.ranges.borders;
    unfinished = met_by pass word u;
  };
  turns = turned_by pass word u;
}

-- The word of a pass's last range was loaded. Each range of the pass that marked a base that was shown had begun, and one that is known to be over isn't
-- active. While one is active that marked a base which was shown, the row is shown that says up to where it goes.
pub record HasWatched (pass : ℕ) (m : MyTree) (n : ℕ) (m' : MyTree) : Type 0 where
  pub borders : List Border
  pub now : m' ≡ with_upper m (watched m.0.upper pass n borders)
  pub begun : (note : Note) → IsIn note m.0.upper.notes → mark note.its ≡ marked_by_range → mark_owner note.its ≡ pass
      → mark_number note.its ≤ n / sequence_unit
  pub ended : (x : Over) → IsIn x m.0.upper.ranges.over → x.pass ≡ pass → n % sequence_unit ≡ row_limit → x.below ≤ n / sequence_unit
  pub shown : (note : Note) → IsIn note m.0.upper.notes → n % sequence_unit ≡ row_limit → IsMarkedBy note.its pass (n / sequence_unit)
      → (border : Border) × IsIn border borders × (border.row ≡ mark_bound note.its) × (border.row ≤ m.0.sizes.rows) × IsBorderRow border.its
      × (length border.its ≡ row_words)
  -- A range that is active is one of a pass of the space. The seat's own is active only where it began one.
  pub made : n % sequence_unit ≡ row_limit → pass ≤ m.0.sizes.passes
  pub own : n % sequence_unit ≡ row_limit → pass ≡ m.0.upper.number → m.0.upper.ranges.own ≢ Quiet

abbrev pub Watches : Step (Unit {0}) → MyTree → ℕ → MyTree → Type 0
Watches st m n m' = (pass : ℕ) × (0 < pass) × (st.word ≡ status_word m.0.sizes pass) × HasWatched pass m n m'

-- A word of a row was loaded: where it was shown, it is the word that was shown.
abbrev pub IsRead : TreeView → ℕ → ℕ → Type 0
IsRead u place n = (row index word : ℕ) → place ≡ row_words * row + index → index < row_words → IsShownWord u row index word → n ≡ word

-- The routes of joins that marked bases which were shown are remembered, and the bases hung on a link of theirs.
abbrev pub AreHung : MyTree → Type 0
AreHung m = (note : Note) → IsIn note m.0.upper.notes → (route attempt : ℕ) → IsMarkedFor note.its route attempt
    → IsRemembered m.0.upper.ways route × (route ≤ m.0.sizes.rows) × IsLinkOf route note.place.link

abbrev pub Reads : Step (Unit {0}) → MyTree → ℕ → MyTree → Type 0
Reads st m n m' = (m' ≡ m) × IsRead m.0.upper st.word n × AreHung m

-- what a seat knows once its log has this call, at this place
abbrev pub entered : TreeView → Event → ℕ → TreeView
entered u event at = record u { log = u.log ++ (event, at) ∷ [] }

-- The call was entered in the log, at the place of a state since the pin, by which it answers.
pub record IsEntered (event : Event) (m m' : MyTree) : Type 0 where
  pub at : ℕ
  pub is_read : IsReadAt event at m.0.upper
  pub now : m' ≡ with_upper m (entered m.0.upper event at)

-- A word of a row was loaded, and the call that it ends was entered in the log.
abbrev pub ReadsLast : Event → Step (Unit {0}) → MyTree → ℕ → MyTree → Type 0
ReadsLast event st m n m' = IsEntered event m m' × IsRead m.0.upper st.word n

-- The note is among these, the last one first, and it is the last one of its link.
abbrev pub IsLastThere : Note → List Note → Type 0
IsLastThere note [] = ⊥
IsLastThere note (n ∷ notes) = (n ≡ note) ⊎ ((n.place.link ≢ note.place.link) × IsLastThere note notes)

-- An update: the base that it takes the place of, the new base's words and those of the objects that it names, which held object rows come
-- and which object rows go, the call, and its edit.
pub record Update : Type 0 where
  pub old : Note
  pub its : List ℕ
  pub objects : List (List ℕ)
  pub comes : List ℕ
  pub goes : List ℕ
  pub event : Event
  pub edit : Edit

abbrev pub no_update : Update
no_update = record { old = no_note; its = []; objects = []; comes = []; goes = []; event = Get [] None; edit = Del [] }

-- the claims once these rows are linked, or are unlinked by the seat
abbrev pub given : List ℕ → List Claimed → List Claimed
given [] claims = claims
given (row ∷ rows) claims = dropped row (given rows claims)

abbrev pub taken_out : List ℕ → List Claimed → List Claimed
taken_out [] claims = claims
taken_out (row ∷ rows) claims = claimed row Unlinked (taken_out rows claims)

-- the claims once these rows are lent to an operation
abbrev pub lent_out : List ℕ → List Claimed → List Claimed
lent_out [] claims = claims
lent_out (row ∷ rows) claims = claimed row Lends (lent_out rows claims)

-- The object row with these words was named by the old base, or is one that the seat holds.
abbrev pub IsObjectOf : MyTree → Update → ℕ → List ℕ → Type 0
IsObjectOf m x row its = ((i : ℕ) × (get_elem? (items x.old.its) i ≡ some row) × (get_elem? x.old.objects i ≡ some its)) ⊎ (IsIn row x.comes
    × (claim_of m.0.claims row ≡ some (Holds its)) × IsObjectRow its)

-- Where the new base has the row, it is one that comes, or stood in another place of the old base.
abbrev pub IsNotFrom : Update → ℕ → ℕ → Type 0
IsNotFrom x i row = IsIn row (items x.its) → IsIn row x.comes ⊎ ((j : ℕ) × (j ≢ i) × (get_elem? (items x.old.its) j ≡ some row))

-- No range has the base, or the seat knows that the one is over that marked it.
abbrev pub IsUnranged : TreeView → List ℕ → Type 0
IsUnranged u its = (mark its ≢ marked_by_range) ⊎ ((x : Over) × IsIn x u.ranges.over × (mark_owner its ≡ x.pass) × (mark_number its < x.below))

-- No join has the base, or the seat knows that the attempt is finished that marked it.
abbrev pub IsUnjoined : TreeView → List ℕ → Type 0
IsUnjoined u its = (mark its ≢ marked_by_join) ⊎ ((x : Finished) × IsIn x u.ranges.joins.finished × (mark_owner its ≡ x.route) × (mark_number its < x.below))

-- Neither a range has the base nor a join, as the seat knows.
abbrev pub IsSettled : TreeView → List ℕ → Type 0
IsSettled u its = IsUnranged u its × IsUnjoined u its

-- The seat may put the new row in the place of the old base: it is pinned, its last load of that link showed that base, which neither a range has nor a join,
-- and it holds the new one.
pub record IsUpdate (z : Sizes) (m : MyTree) (new : ℕ) (x : Update) : Type 0 where
  pub is_pinned : m.0.pin.pinned ≡ true
  pub is_pass : 0 < m.0.upper.number
  pub shown : IsLastThere x.old m.0.upper.notes
  pub old_base : IsBaseRow x.old.its
  pub settled : IsSettled m.0.upper x.old.its
  pub held : claim_of m.0.claims new ≡ some (Holds x.its)
  pub is_base : IsBaseRow x.its
  pub level_is : level x.its ≡ x.old.place.level
  pub few : count x.its ≤ z.leaf
  pub unmarked : IsUnmarked x.its
  pub as_many : length x.objects ≡ length (items x.its)
  pub headed : IsHeaded x.its x.objects
  pub are_objects : (k row : ℕ) (its : List ℕ) → get_elem? (items x.its) k ≡ some row → get_elem? x.objects k ≡ some its → IsObjectOf m x row its
  pub come : (row : ℕ) → IsIn row x.comes → IsIn row (items x.its) × ((its : List ℕ) × (claim_of m.0.claims row ≡ some (Holds its)))
  pub come_once : AreOnce row_itself x.comes
  pub one_comes : length x.comes ≤ 1
  -- What goes stood in one place of the old base, and no item of the new one is from there.
  pub go : (row : ℕ) → IsIn row x.goes → (i : ℕ) × (get_elem? (items x.old.its) i ≡ some row) × IsNotFrom x i row
  pub stay : (row : ℕ) → IsIn row (items x.old.its) → IsIn row (items x.its) ⊎ IsIn row x.goes
  -- What the new base has is what the old one had after the edit, which is what the call does, of a key that is led there.
  pub map_is : map pair x.objects ≡ after_edit x.edit (map pair x.old.objects)
  pub about : HasKey x.old.place.span (edit_key x.edit)
  pub does : effect x.event ≡ x.edit ∷ []
  pub answer : IsAnswer x.event (map pair x.old.objects)
  pub is_edit : IsEdit z.keypos x.edit

-- the new base of an update, where the old one hung
abbrev pub new_base : ℕ → Update → Note
new_base new x = record { row = new; its = x.its; objects = x.objects; place = x.old.place }

-- one update more
abbrev pub renewed_by : Met → TreeView → ℕ → Update → Renewal
renewed_by met u new x = record {
  count = u.renewal.count + 1;
  key = edit_key x.edit;
  old = x.old;
  new = new_base new x;
  lost = u.lost;
  splits = u.splits;
  joins = u.joins;
  loads = u.loads;
  passed = u.turns.passed;
  tries = u.tries;
  met = met;
}

-- what the tree has after the exchange by which a base takes the place of another one, and these rows are lent to an operation
abbrev pub exchanged_inventory : List ℕ → ℕ → Update → Inventory → Inventory
exchanged_inventory served new x i = record {
  rows = (served ++ new ∷ x.comes) ++ but_all row_itself (x.old.row ∷ x.goes) i.rows;
  bases = (new, x.old.place) ∷ but row_of_base x.old.row i.bases;
  most = max i.most (length ((served ++ new ∷ x.comes) ++ but_all row_itself (x.old.row ∷ x.goes) i.rows));
}

-- what the tree has after the update
abbrev pub updated_inventory : ℕ → Update → Inventory → Inventory
updated_inventory new x i = exchanged_inventory [] new x i

-- what a seat knows after it carried out the update, given what it had met of the pool: its edit is the last one of the history
abbrev pub updated : Met → TreeView → History → ℕ → Update → TreeView
updated met u more new x = record u {
  seen = u.seen ++ more ++ (u.number, x.edit) ∷ [];
  log = u.log ++ (x.event, length (u.seen ++ more) + 1) ∷ [];
  notes = new_base new x ∷ u.notes;
  last = new_base new x;
  renewal = renewed_by met u new x;
  inventory = updated_inventory new x u.inventory;
}

-- The update is carried out: the rows that came are linked, and those that went, which nobody claimed until then, are unlinked by the seat;
-- the old base is none of its objects.
-- What the seat has seen now is a history as it may know it.
pub record IsUpdated (new : ℕ) (x : Update) (m m' : MyTree) : Type 0 where
  pub more : History
  pub now : m' ≡ relinked m (taken_out (x.old.row ∷ x.goes) (given (new ∷ x.comes) m.0.claims)) (updated (met_of m) m.0.upper more new x)
  pub unclaimed : (row : ℕ) → IsIn row (x.old.row ∷ x.goes) → claim_of m.0.claims row ≡ none
  pub apart : ¬ IsIn x.old.row x.goes
  pub known : 0 < m.0.sizes.rows → IsKnown m.0.sizes (updated (met_of m) m.0.upper more new x)

-- what a seat knows that lost an exchange of a link: it remembers no base, so that it may try none before it is shown one again
abbrev pub one_more_lost : TreeView → TreeView
one_more_lost u = record u { notes = []; lost = u.lost + 1 }

-- A base that the seat lists can't be missed by a pass that is alone: no other one takes its place.
abbrev pub IsMissed : Note → MyTree → Type 0
IsMissed note m = 0 < m.0.sizes.rows → IsAlone m.0.sizes m.0.upper → ¬ IsIn (note.row, note.place) m.0.upper.inventory.bases

-- The link was exchanged, and the update is carried out; or the exchange was lost, which is counted, and nothing else changed.
abbrev pub Updates : Update → Step (Unit {0}) → MyTree → ℕ → MyTree → Type 0
Updates x st m n m' = (n ≡ st.first → IsUpdated st.second x m m')
    × (n ≢ st.first → (m' ≡ with_upper m (one_more_lost m.0.upper)) × IsMissed x.old m)

-- What the exchange of the link came to: the update is carried out, or one exchange more was lost.
abbrev pub HasUpdated : Bool → ℕ → Update → MyTree → MyTree → Type 0
HasUpdated true new x m m' = IsUpdated new x m m'
HasUpdated false new x m m' = m' ≡ with_upper m (one_more_lost m.0.upper)

abbrev pub no_division : Division
no_division = record { old = no_note; route = 0; left = 0; right = 0; route_its = []; left_its = []; right_its = []; middle = 0 }

-- These words are those of a half: a base of the level below, with these items, headed by these objects, and no mark.
pub record IsHalf (z : Sizes) (level_above : ℕ) (these : List ℕ) (objects : List (List ℕ)) (its : List ℕ) : Type 0 where
  pub is_base : IsBaseRow its
  pub level_is : level its ≡ level_above + 1
  pub few : count its ≤ z.leaf
  pub unmarked : IsUnmarked its
  pub items_are : items its ≡ these
  pub headed : IsHeaded its objects

-- The seat may put the route in the place of the old base: it is pinned, its last load of that link showed that base, which neither a range has nor a join and
-- which stands above the last level, and it holds the route and the halves.
pub record IsDivision (z : Sizes) (m : MyTree) (x : Division) : Type 0 where
  pub is_pinned : m.0.pin.pinned ≡ true
  pub is_pass : 0 < m.0.upper.number
  pub shown : IsLastThere x.old m.0.upper.notes
  pub old_base : IsBaseRow x.old.its
  pub settled : IsSettled m.0.upper x.old.its
  pub above : x.old.place.level < z.levels
  pub held_route : claim_of m.0.claims x.route ≡ some (Holds x.route_its)
  pub held_left : claim_of m.0.claims x.left ≡ some (Holds x.left_its)
  pub held_right : claim_of m.0.claims x.right ≡ some (Holds x.right_its)
  pub apart : (x.route ≢ x.left) × (x.route ≢ x.right) × (x.left ≢ x.right)
  pub is_route : IsRouteRow x.route_its
  pub route_level : level x.route_its ≡ x.old.place.level
  pub short : count x.route_its ≤ 1000
  pub idle : IsIdle x.route_its
  pub left_link : slice_index x.route_its 1 ≡ x.left
  pub right_link : slice_index x.route_its 2 ≡ x.right
  -- The route's key is that of the first object that goes right; one goes left.
  pub some_left : 0 < x.middle
  pub middle_is : x.middle < length x.old.objects
  pub key_is : route_key x.route_its ≡ key (slice_index_or x.old.objects x.middle [])
  pub is_left : IsHalf z x.old.place.level (take x.middle (items x.old.its)) (take x.middle x.old.objects) x.left_its
  pub is_right : IsHalf z x.old.place.level (drop x.middle (items x.old.its)) (drop x.middle x.old.objects) x.right_its

-- what the tree has after the split
abbrev pub divided_inventory : Division → Inventory → Inventory
divided_inventory x i = record {
  rows = x.route ∷ x.left ∷ x.right ∷ but row_itself x.old.row i.rows;
  bases = (x.left, left_place x.old.place (route_key x.route_its) x.route) ∷ (x.right, right_place x.old.place (route_key x.route_its) x.route)
      ∷ but row_of_base x.old.row i.bases;
  most = max i.most (length (x.route ∷ x.left ∷ x.right ∷ but row_itself x.old.row i.rows));
}

-- what a seat knows after it carried out the split: it remembers no base, so that it exchanges none before it is shown one again
abbrev pub divided : Division → TreeView → TreeView
divided x u = record u {
  notes = [];
  splits = u.splits + 1;
  turns = one_passed u.turns;
  inventory = divided_inventory x u.inventory;
  cuts = x ∷ u.cuts;
}

-- The split is carried out: the route and its bases are linked, and the old base, which nobody claimed until then, is unlinked by the seat.
pub record IsDivided (x : Division) (m m' : MyTree) : Type 0 where
  pub now : m' ≡ relinked m (taken_out (x.old.row ∷ []) (given (x.route ∷ x.left ∷ x.right ∷ []) m.0.claims)) (divided x m.0.upper)
  pub unclaimed : claim_of m.0.claims x.old.row ≡ none

-- The link was exchanged, and the split is carried out; or the exchange was lost, which is counted, and nothing else changed.
abbrev pub Divides : Division → Step (Unit {0}) → MyTree → ℕ → MyTree → Type 0
Divides x st m n m' = (n ≡ st.first → IsDivided x m m') × (n ≢ st.first → (m' ≡ with_upper m (one_more_lost m.0.upper)) × IsMissed x.old m)

-- What the exchange of the link came to: the split is carried out, or one exchange more was lost.
abbrev pub HasDivided : Bool → Division → MyTree → MyTree → Type 0
HasDivided true x m m' = IsDivided x m m'
HasDivided false x m m' = m' ≡ with_upper m (one_more_lost m.0.upper)

-- One refusal more, for some cause.
abbrev pub IsRise : (Counts → Counts) → Type 0
IsRise rise = (why : Cause) × (rise ≡ one_more why)

-- A word was loaded as a call was refused, and the call is counted so.
abbrev pub Refuses : (Counts → Counts) → Step (Unit {0}) → MyTree → ℕ → MyTree → Type 0
Refuses rise st m n m' = m' ≡ with_upper m (record m.0.upper { counts = rise m.0.upper.counts })

-- what a front knows: the history that the pass has seen
abbrev pub front_of : TreeView → TreeView
front_of u = record (blank 0) { seen = u.seen }

-- the longer one of two histories
abbrev pub longer : History → History → History
longer a b = cond (nat_lt (length a) (length b)) b a

-- what a pass knows that learnt of a front
abbrev pub learnt : TreeView → TreeView → TreeView
learnt u v = record u { seen = longer u.seen v.seen }

-- A front's half knows a history and nothing else.
abbrev pub IsFront : MyTree → Type 0
IsFront m = m ≡ (fresh no_sizes 0 (front_of m.0.upper), [])
