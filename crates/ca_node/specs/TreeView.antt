-- What a seat knows of the tree. It is data of proofs alone: lists, since a function is no value.
use Rattle.std.specs.Prelude.{ℕ, ◌+◌, ◌==◌, cond, List, [], ◌∷◌, None}
use Prim.Native.Nat.{zero, suc}
use mathlib.Core.Option.{Option, none}
use Rattle.ca_model.specs.Edges.{Bound, Unbounded}
use Rattle.ca_model.specs.Event.{Entry}
use Rattle.ca_model.specs.History.{History}
use Rattle.ca_model.specs.Known.{Counts}
use Rattle.ca_node.specs.Place.{Place, root_place}
use Rattle.ca_rows.specs.declared.view.Met.{Met}
use Rattle.ca_rows.specs.Pins.{nothing_met}

-- A base that was shown, with its words, those of the object rows that it names, and where it hung. The words stay as long as the note does.
pub record Note : Type 0 where
  pub row : ℕ
  pub its : List ℕ
  pub objects : List (List ℕ)
  pub place : Place

-- A route that was shown, with the words that it had, and where it hangs. Its links and its join word change, the other words stay as long as
-- the pass remembers it.
pub record Way : Type 0 where
  pub row : ℕ
  pub its : List ℕ
  pub place : Place

-- What a seat did to join bases: how often it exchanged a join word so that an attempt of its own begins, whether it won or lost that; and how many of its
-- attempts it found to be given up by another pass.
pub record Tries : Type 0 where
  pub tried : ℕ
  pub overtaken : ℕ

-- An update that the seat carried out: how many it has carried out with this one, the key that it was about, the base that was there and the one
-- that took its place; and how many exchanges of a link the seat had lost until then, how many splits and joins carried out, how many links loaded, how often it
-- had passed on to another place, what it had tried to join, and what it had met of the pool.
pub record Renewal : Type 0 where
  pub count : ℕ
  pub key : List ℕ
  pub old : Note
  pub new : Note
  pub lost : ℕ
  pub splits : ℕ
  pub joins : ℕ
  pub loads : ℕ
  pub passed : ℕ
  pub tries : Tries
  pub met : Met

-- A split: the base that it takes the place of, the route and the two new bases, with their words, and how many objects go left.
pub record Division : Type 0 where
  pub old : Note
  pub route : ℕ
  pub left : ℕ
  pub right : ℕ
  pub route_its : List ℕ
  pub left_its : List ℕ
  pub right_its : List ℕ
  pub middle : ℕ

-- What a tree has: the rows that are linked, and the bases among them with their places, each once; and the most rows that were linked at once.
pub record Inventory : Type 0 where
  pub rows : List ℕ
  pub bases : List (ℕ × Place)
  pub most : ℕ

-- What is left of a pass that was joined into a seat: its number, its calls, with their answers and places, how many were refused, and how many
-- splits and joins it carried out.
pub record Ended : Type 0 where
  pub number : ℕ
  pub log : List Entry
  pub counts : Counts
  pub splits : ℕ
  pub joins : ℕ

-- What the budget of a call counts beside the exchanges that a seat lost: how often it passed on to another place, as by a split, and how many
-- operations of others it helped to their end.
pub record Turns : Type 0 where
  pub passed : ℕ
  pub helped : ℕ

-- The ranges of a pass whose numbers are less than this one, of which it is known that they are over: each was decided, or given up.
pub record Over : Type 0 where
  pub pass : ℕ
  pub below : ℕ

-- A range of another pass that was found unfinished: whose it is, and its number.
pub record Unfinished : Type 0 where
  pub pass : ℕ
  pub number : ℕ

-- A row that says up to where a range goes, with its words. They stay as long as the pass remembers it.
pub record Border : Type 0 where
  pub row : ℕ
  pub its : List ℕ

-- a range that a pass began: its number, from where on it wants keys, and the row that says up to where
pub record Begun : Type 0 where
  pub number : ℕ
  pub edge : Bound
  pub top : ℕ

abbrev pub no_border : Border
no_border = record { row = 0; its = [] }

abbrev pub none_begun : Begun
none_begun = record { number = 0; edge = Unbounded; top = 0 }

-- An attempt to join the two bases under a route.
pub record Attempt : Type 0 where
  pub route : ℕ
  pub number : ℕ

-- How far the last operation of a pass is that others may meet. Of a range: it is over, or there was none; it was begun, and nothing is marked; something was
-- marked, with the row that says up to where it goes, and others may have ended it since; or the pass unpinned before it was over, and nothing is said of it.
-- Of an attempt to join: it was begun, and the pass didn't secure it, but others may have given it up since; or the pass secured it.
pub data Ranging : Type 0 where
  Quiet : Ranging
  Unmarked : Begun → Ranging
  Marking : Begun → Border → Ranging
  Left : Ranging
  Joining : Attempt → Ranging
  Secured : Attempt → Ranging

-- The attempts of a route whose numbers are less than this one, of which it is known that they are finished.
pub record Finished : Type 0 where
  pub route : ℕ
  pub below : ℕ

-- What a seat knows of the joins of routes that it remembers: attempts that were begun, some that are finished, some that are secured, and some that are
-- prepared no more, of which it doesn't know which of both they are; those that it found prepared since it gave one up; and the one that it may begin, where its
-- last load of a join word told so, and it exchanged none since.
pub record KnownJoins : Type 0 where
  pub begun : List Attempt
  pub finished : List Finished
  pub secured : List Attempt
  pub decided : List Attempt
  pub prepared : List Attempt
  pub next : List Attempt

-- What a seat knows of ranges: some that are over, some rows that say up to where one goes, how far its own last one is, that one's number, where it knows
-- it, the bases of a run of its own that it was shown, and those of other passes that it found unfinished since it was pinned, one a pass; and what it knows
-- of joins.
pub record KnownRanges : Type 0 where
  pub over : List Over
  pub borders : List Border
  pub own : Ranging
  pub sequence : Option ℕ
  pub run : List Note
  pub unfinished : List Unfinished
  pub joins : KnownJoins

pub record TreeView : Type 0 where
  -- the number of its pass; 0 of a seat that is no pass's
  pub number : ℕ
  -- the history that it has seen, and what it had seen when it was last pinned
  pub seen : History
  pub since : History
  -- its calls, with their answers and places, and how many were refused
  pub log : List Entry
  pub counts : Counts
  -- what it was shown since it was pinned
  pub notes : List Note
  pub ways : List Way
  pub ranges : KnownRanges
  -- how many links it loaded, and how many splits and joins it carried out
  pub loads : ℕ
  pub splits : ℕ
  pub joins : ℕ
  -- how many exchanges of a link it lost, and what else the budgets of its calls count
  pub lost : ℕ
  pub turns : Turns
  -- which attempts to join it tried to begin, and what became of them by others
  pub tries : Tries
  -- the base that a walk or an update came to last, whether it is pinned or not, how many links it had loaded as a walk came to a base last, and its
  -- last update
  pub last : Note
  pub shown : ℕ
  pub renewal : Renewal
  -- what the tree has, as far as the seat's own steps go: the whole of it, where its pass is the only one
  pub inventory : Inventory
  -- the splits that it carried out, the last one first
  pub cuts : List Division
  -- the passes that were joined into the seat, the last one first
  pub ended : List Ended

abbrev pub no_note : Note
no_note = record { row = 0; its = []; objects = []; place = root_place }

abbrev pub no_tries : Tries
no_tries = record { tried = 0; overtaken = 0 }

abbrev pub no_renewal : Renewal
no_renewal = record { count = 0; key = []; old = no_note; new = no_note; lost = 0; splits = 0; joins = 0; loads = 0; passed = 0; tries = no_tries; met = nothing_met }

abbrev pub no_refusals : Counts
no_refusals = record { busy = 0; full = 0; deep = 0; worn = 0; last = None }

abbrev pub no_turns : Turns
no_turns = record { passed = 0; helped = 0 }

abbrev pub no_joins : KnownJoins
no_joins = record { begun = []; finished = []; secured = []; decided = []; prepared = []; next = [] }

abbrev pub no_ranges : KnownRanges
no_ranges = record { over = []; borders = []; own = Quiet; sequence = none; run = []; unfinished = []; joins = no_joins }

-- one turn more, by which a seat passed on
abbrev pub one_passed : Turns → Turns
one_passed turns = record turns { passed = turns.passed + 1 }

-- one operation more that a seat helped to its end
abbrev pub one_helped : Turns → Turns
one_helped turns = record turns { helped = turns.helped + 1 }

-- one attempt more that a seat tried to begin
abbrev pub one_tried : Tries → Tries
one_tried tries = record tries { tried = tries.tried + 1 }

-- one more that another pass gave up
abbrev pub one_overtaken : Tries → Tries
one_overtaken tries = record tries { overtaken = tries.overtaken + 1 }

-- what the tree has at first: row 1, a base
abbrev pub first_inventory : Inventory
first_inventory = record { rows = 1 ∷ []; bases = (1, root_place) ∷ []; most = 1 }

-- what a seat with this number knows at first
abbrev pub blank : ℕ → TreeView
blank number = record {
  number = number;
  seen = [];
  since = [];
  log = [];
  counts = no_refusals;
  notes = [];
  ways = [];
  ranges = no_ranges;
  loads = 0;
  splits = 0;
  joins = 0;
  lost = 0;
  turns = no_turns;
  tries = no_tries;
  last = no_note;
  shown = 0;
  renewal = no_renewal;
  inventory = first_inventory;
  cuts = [];
  ended = [];
}

abbrev pub ended_of : TreeView → Ended
ended_of u = record { number = u.number; log = u.log; counts = u.counts; splits = u.splits; joins = u.joins }

-- these, and what is left of a seat, if it is a pass's by its number
abbrev pub and_ended : ℕ → Ended → List Ended → List Ended
and_ended zero x xs = xs
and_ended (suc before) x xs = x ∷ xs

-- what a seat knows that another one is joined into, which is spent then
abbrev pub ended_with : TreeView → TreeView → TreeView
ended_with u w = record u { ended = and_ended w.number (ended_of w) u.ended }

-- a range that isn't over as its pass unpins is left to others; an attempt of its own is its own still
abbrev pub left_over : Ranging → Ranging
left_over Quiet = Quiet
left_over (Unmarked begun) = Left
left_over (Marking begun border) = Left
left_over Left = Left
left_over (Joining x) = Joining x
left_over (Secured x) = Secured x

-- How far the last operation of a pass is behind an attempt that is over: if it was this one, which the pass had secured, it has none any more.
abbrev pub own_behind : Attempt → Ranging → Ranging
own_behind x Quiet = Quiet
own_behind x (Unmarked begun) = Unmarked begun
own_behind x (Marking begun border) = Marking begun border
own_behind x Left = Left
own_behind x (Joining y) = Joining y
own_behind x (Secured y) = cond (y.route == x.route) (cond (y.number == x.number) Quiet (Secured y)) (Secured y)

-- It is pinned, or not any more. As it is pinned it remembers no base and no route: those that it is shown since stood there since.
abbrev pub pinned : TreeView → TreeView
pinned u = record u {
  since = u.seen;
  notes = [];
  ways = [];
  ranges = record u.ranges { own = left_over u.ranges.own; unfinished = []; joins = no_joins };
}

abbrev pub unpinned : TreeView → TreeView
unpinned u = record u {
  notes = [];
  ways = [];
  ranges = record { over = []; borders = []; own = left_over u.ranges.own; sequence = u.ranges.sequence; run = []; unfinished = []; joins = no_joins };
}
