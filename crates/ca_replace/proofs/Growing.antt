-- How the tree of a pass that is alone grows by a call.
use Rattle.std.proofs.Common.{◌≡◌, ◌≢◌, ◌⊎◌, ℕ, zero, suc, ◌+◌, ◌/◌, ◌<◌, ◌≤◌, ℤ, List, [], ◌∷◌, ◌++◌, length, map, take, drop, get_or, Result, Ok, Err, IsErr, sym, refl, ap, ◌∙◌, subst, inl, inr, ⊎_elim, arith, length-append}
use Rattle.std.proofs.lemmas.List.{get_or-map, length-map, length-take, length-take-le, take-append-drop}
use Rattle.std.specs.declared.option.Option.{Option}
use Rattle.std.specs.declared.option.Option.TheVariants.{None, Some}
use Rattle.ca_base.specs.declared.stop.Stop.{Stop}
use Rattle.ca_replace.specs.declared.attempting.Halt.{Halt}
use Rattle.ca_replace.specs.declared.attempting.Halt.TheVariants as halt
use Rattle.ca_adapt.specs.declared.adapted.Adapted.{Adapted}
use Rattle.ca_adapt.specs.declared.adapted.Adapted.TheVariants as adapted
use Rattle.ca_adapt.specs.declared.adapted.Why.{Why}
use Rattle.ca_adapt.specs.declared.adapted.Why.TheVariants as why
use Rattle.ca_adapt.specs.declared.tuning.Tuning.{Tuning}
use Rattle.ca_adapt.specs.Splits.{IsSplitOutcome, IsWhyNotSplit, attempts_at_first}
use Rattle.ca_model.specs.declared.outcome.Spent.{Spent}
use Rattle.ca_model.specs.Event.{Event}
use Rattle.ca_model.specs.History.{Edit, History, after}
use Rattle.ca_model.specs.Known.{Counts}
use Rattle.ca_model.specs.StoreMap.{Pair, StoreMap, IsStoreMap}
use Rattle.ca_model.proofs.Edits.{map_after}
use Rattle.ca_node.specs.declared.cursor.Cursor.{Cursor}
use Rattle.ca_node.specs.Inventory.{but, but_all, row_itself, row_of_base, IsListed}
use Rattle.ca_node.specs.Links.{IsIn}
use Rattle.ca_node.specs.Place.{Place, Span, left_of, right_of, left_place, right_place, part}
use Rattle.ca_node.specs.Row.{count, pair, route_key, item_words, row_in}
use Rattle.ca_node.specs.Told.{MyTree, IsEntered, IsKnown, with_upper, divided, one_more_lost}
use Rattle.ca_node.specs.States.{IsAlone}
use Rattle.ca_node.specs.TreeView.{Inventory, Note, TreeView, unpinned, Division}
use Rattle.ca_node.proofs.Listing.{of_but, but_shorter, but_all_shorter}
use Rattle.ca_node.proofs.Looking.{in_more}
use Rattle.ca_node.proofs.Parts.{part_cut}
use Rattle.ca_base.specs.Progress.{IsFurther}
use Rattle.ca_base.specs.Putting.{HasRenewed, HasTried, IsRenewed, first_note, stopped}
use Rattle.ca_base.specs.Splitting.{IsSplit, HasSplit}
use Rattle.ca_replace.specs.declared.adapting.Adapting.{Adapting}
use Rattle.ca_model.specs.declared.outcome.Cause.{Cause}
use Rattle.ca_model.specs.declared.outcome.Cause.TheVariants as cause
use Rattle.ca_model.specs.declared.outcome.Outcome.{Outcome}
use Rattle.ca_replace.specs.Refusals.{outcome_by}
use Rattle.ca_replace.specs.Adapting.{HasSettled}
use Rattle.ca_replace.specs.Attempting.{HasNext, IsLooking, IsQuiet, HasTriedSince, HasTriedTo, come_to, refused_as, split_to}
use Rattle.ca_replace.specs.Growing.{Grows, GrowsInCall, IsSameTree, HasRoom, HasRoomFor, HasGrown, HasWaited, HasGrownInAttempts}
use Rattle.ca_replace.proofs.Settling.{IsSettling}
use Rattle.ca_replace.proofs.OneHand.{seen_still}
use Rattle.ca_replace.proofs.Showing.{stopped_same}
use Rattle.ca_replace.proofs.States.{has_last}
use Rattle.ca_rows.specs.declared.sizes.Sizes.{Sizes}
use Rattle.ca_rows.specs.declared.view.Met.{Met}
use Rattle.ca_node.specs.Layout.{items_word}

-- One growth behind another.
pub grows_both : (a b c d e f : ℕ) (u w v : TreeView) → Grows a b c u w → Grows d e f w v
    → Grows (a + d) (b + e) (c + f) u v
grows_both a b c d e f u w v g h = let s = g.splits_are in let r = g.rows_are in
    let n = g.bases_are in
    let s' = h.splits_are in let r' = h.rows_are in let n' = h.bases_are in let m = g.most_are in
    let m' = h.most_are in record {
      splits_are = omega arith;
      rows_are = omega arith;
      bases_are = omega arith;
      most_are = omega arith;
    }

-- What grows by little grows by no more than much.
pub grows_within : (a b c d e f : ℕ) (u v : TreeView) → a ≤ d → b ≤ e → c ≤ f → Grows a b c u v
    → Grows d e f u v
grows_within a b c d e f u v l m n g = let s = g.splits_are in let r = g.rows_are in
    let k = g.bases_are in let most = g.most_are in record {
      splits_are = omega arith;
      rows_are = omega arith;
      bases_are = omega arith;
      most_are = omega arith;
    }

-- A tree that has what it had grows by nothing.
pub same_grows : (a b c : ℕ) (u v : TreeView) → IsSameTree u v → Grows a b c u v
same_grows a b c u v same = let s = same.0 in
    let r = ap (λ (i : Inventory). length i.rows) same.1 in
    let n = ap (λ (i : Inventory). length i.bases) same.1 in
    let most = ap (λ (i : Inventory). i.most) same.1 in record {
      splits_are = omega arith;
      rows_are = omega arith;
      bases_are = omega arith;
      most_are = omega arith;
    }

pub same_both : (u w v : TreeView) → IsSameTree u w → IsSameTree w v → IsSameTree u v
same_both u w v a b = (b.0 ∙ a.0, b.1 ∙ a.1)

-- An update by which one object row comes at most.
pub update_grows : (met : Met) (z : Sizes) (word : ℕ) (edit : Edit) (u v : TreeView)
    → IsListed u.inventory (first_note u.notes) → IsRenewed z met word edit u v
    → Grows 0 1 0 u v
update_grows met z word edit u v l h = let x = h.inventory.0 in let few = h.inventory.2 in
    let outs : List ℕ = x.old.row ∷ x.goes in
    let old = subst (λ (n : Note). IsListed u.inventory n) (sym h.inventory.1) l in
    let fewer = but_all_shorter row_itself outs u.inventory.rows x.old.row old.row (0, refl) in
    let less = but_shorter row_of_base x.old.row u.inventory.bases (
      x.old.row,
      x.old.place,
    ) old.base refl in
    let sum = length-append x.comes (but_all row_itself outs u.inventory.rows) in
    let rows = ap (λ (i : Inventory). length i.rows) h.inventory.3 in
    let bases = ap (λ (i : Inventory). length i.bases) h.inventory.3 in
    let most = ap (λ (i : Inventory). i.most) h.inventory.3 in record {
      splits_are = omega (arith, h.same_splits);
      rows_are = omega arith;
      bases_are = omega arith;
      most_are = omega arith;
    }

-- A split, by which a base becomes a route over two.
pub split_grows : (u : TreeView) (x : Division) → IsListed u.inventory x.old
    → Grows 1 2 1 u (divided x u)
split_grows u x l =
    let fewer = but_shorter row_itself x.old.row u.inventory.rows x.old.row l.row refl in
    let less = but_shorter row_of_base x.old.row u.inventory.bases (
      x.old.row,
      x.old.place,
    ) l.base refl in record {
      splits_are = omega arith;
      rows_are = omega arith;
      bases_are = omega arith;
      most_are = omega arith;
    }

-- A try that came to nothing left the tree as it was.
stopped_tree : (why : Stop) (u v : TreeView) → v ≡ stopped why u → IsSameTree u v
stopped_tree why u v is = let e = is ∙ stopped_same why u in
    (ap (λ (w : TreeView). w.splits) e, ap (λ (w : TreeView). w.inventory) e)

-- What became of a split.
pub has_split_grows : (many attempt : ℕ) (r : Result (Unit {0}) Stop) (u v : TreeView)
    → IsListed u.inventory (first_note u.notes) → HasSplit many attempt r u v
    → Grows 1 2 1 u v
has_split_grows many attempt (Ok x) u v l h = subst (λ (w : TreeView). Grows 1 2 1 u w) (sym h.2)
    (split_grows u h.0 (subst (λ (n : Note). IsListed u.inventory n) (sym h.1.old_is) l))
has_split_grows many attempt (Err why) u v l h = same_grows 1 2 1 u v (stopped_tree why u v h)

-- From a place of a list on it begins with the member there.
from_there : {A : Type 0} (d : A) (n : ℕ) (xs : List A) → n < length xs → (ys : List A)
    × (drop n xs ≡ get_or xs n d ∷ ys)
from_there d n [] l = absurd (omega arith)
from_there d zero (x ∷ xs) l = (xs, refl)
from_there d (suc n) (x ∷ xs) l = from_there d n xs (omega arith)

-- The parts of a map on the two sides of the key at a place of it are as long as what stands before
-- that place, and as what stands from there on.
module _ (p : ℕ) (m : StoreMap) (is : IsStoreMap p m) (s : Span) (xs : StoreMap)
    (whole : xs ≡ part s m) (n : ℕ) (l : n < length xs) (k : List ℕ)
    (k_is : (get_or xs n ([], [])).0 ≡ k) where
  rest : (ys : StoreMap) × (drop n xs ≡ get_or xs n ([], []) ∷ ys)
  rest = from_there ([], []) n xs l

  first_is : get_or xs n ([], []) ≡ (k, (get_or xs n ([], [])).1)
  first_is = ap (λ (x : List ℕ). (x, (get_or xs n ([], [])).1)) k_is

  behind : drop n xs ≡ (k, (get_or xs n ([], [])).1) ∷ rest.0
  behind = rest.1 ∙ ap (λ (q : Pair). q ∷ rest.0) first_is

  sides : (part (left_of k s) m ≡ take n xs)
      × (part (right_of k s) m ≡ (k, (get_or xs n ([], [])).1) ∷ rest.0)
  sides = part_cut p s m (take n xs) rest.0 k (get_or xs n ([], [])).1 is
      (sym whole ∙ (sym (take-append-drop n xs) ∙ ap (λ (ys : StoreMap). take n xs ++ ys) behind))

  pub left_length : length (part (left_of k s) m) ≡ n
  left_length = ap (λ (ys : StoreMap). length ys) sides.0 ∙ length-take-le n xs (omega arith)

  pub right_length : length (part (right_of k s) m) + n ≡ length xs
  right_length = let a = ap (λ (ys : StoreMap). length ys) (sides.1 ∙ sym behind) in
      let b = length-append (take n xs) (drop n xs) in
      let c = ap (λ (ys : StoreMap). length ys) (take-append-drop n xs) in
      let d = length-take-le n xs (omega arith) in omega arith

-- After a base with objects was split in the middle, the one that has the key has room for one
-- object more, of a pass that is alone: it is one of the halves.
module _ (z : Sizes) (u : TreeView) (k : List ℕ) (cursor : Cursor) (l : IsLooking z u k cursor)
    (alone : IsAlone z u)
    (many attempt : ℕ) (x : Division) (h : IsSplit (first_note u.notes) many attempt x)
    (are : many ≡ length (first_note u.notes).objects)
    (least : 2 ≤ many) where
  abbrev note : Note
  note = first_note u.notes

  abbrev map' : StoreMap
  map' = after u.seen []

  as_many : length (map pair note.objects) ≡ many
  as_many = length-map note.objects pair ∙ sym are

  few : many ≤ z.leaf
  few = let b = l.readable.is_base in let c = b.as_many in let d = b.few in
      omega (
        arith,
        are,
        length-map (item_words note.its) row_in,
        length-take (count note.its) (drop items_word note.its),
      )

  middle : x.middle ≡ many / 2
  middle = h.halving.middle_is

  inside : x.middle < length (map pair note.objects)
  inside = let a = as_many in let b = middle in omega arith

  first_key : (get_or (map pair note.objects) x.middle ([], [])).0 ≡ route_key x.route_its
  first_key = ap
      (λ (q : Pair). q.0) (get_or-map pair note.objects x.middle [] (
        [],
        [],
      ) (subst (λ (n : ℕ). x.middle < n) (length-map note.objects pair) inside))
      ∙ sym h.key_is

  is_map : IsStoreMap z.keypos (after u.seen [])
  is_map = map_after z.keypos u.seen [] l.known.edits tt

  listed : IsListed u.inventory note
  listed = l.listed alone

  has : map pair note.objects ≡ part note.place.span (after u.seen [])
  has = has_last z u note alone l.has

  left_few : length (part (left_of (route_key x.route_its) note.place.span)
      (after u.seen [])) < z.leaf
  left_few =
      let a = left_length z.keypos (after u.seen []) is_map note.place.span (map pair note.objects)
      has x.middle inside (route_key x.route_its)
      first_key in
      let b = middle in let c = few in omega arith

  right_few : length (part (right_of (route_key x.route_its) note.place.span)
      (after u.seen [])) < z.leaf
  right_few =
      let a = right_length z.keypos (after u.seen []) is_map note.place.span (map pair note.objects)
      has x.middle inside (route_key x.route_its)
      first_key in
      let b = middle in let c = few in let d = as_many in omega arith

  -- What is listed then, and has the key.
  pub room_then : HasRoom z k (divided x u)
  room_then row place i has = ⊎_elim
      (λ (e : (x.left, left_place x.old.place (route_key x.route_its) x.route)
      ≡ (row, place)). there place (ap (λ (b : ℕ × Place). b.1) e) left_few)
      (λ j. ⊎_elim
      (λ (e : (x.right, right_place x.old.place (route_key x.route_its) x.route)
      ≡ (row, place)). there' place (ap (λ (b : ℕ × Place). b.1) e) right_few)
      (λ o. let w = of_but row_of_base x.old.row u.inventory.bases (row, place) o in
      absurd (w.1 (listed.only row place k w.0 has l.about
      ∙ ap (λ (n : Note). n.row) (sym h.old_is))))
      (in_more (x.right, right_place x.old.place (route_key x.route_its) x.route) (
        row,
        place,
      ) (but row_of_base x.old.row u.inventory.bases) j))
      (in_more (x.left, left_place x.old.place (route_key x.route_its) x.route) (row, place)
      ((x.right, right_place x.old.place (route_key x.route_its) x.route) ∷ but row_of_base
      x.old.row u.inventory.bases) i)
    where
      there : (place : Place) → left_place x.old.place (route_key x.route_its) x.route ≡ place
          → length (part (left_of (route_key x.route_its) note.place.span)
          (after u.seen [])) < z.leaf → length (part place.span (after u.seen [])) < z.leaf
      there place e less = subst (λ (q : Place). length (part q.span (after u.seen [])) < z.leaf) e
          (subst (λ (n : Note).
          length (part (left_of (route_key x.route_its) n.place.span)
          (after u.seen [])) < z.leaf) (sym h.old_is) less)

      there' : (place : Place) → right_place x.old.place (route_key x.route_its) x.route ≡ place
          → length (part (right_of (route_key x.route_its) note.place.span)
          (after u.seen [])) < z.leaf → length (part place.span (after u.seen [])) < z.leaf
      there' place e less = subst (λ (q : Place). length (part q.span (after u.seen [])) < z.leaf) e
          (subst (λ (n : Note).
          length (part (right_of (route_key x.route_its) n.place.span)
          (after u.seen [])) < z.leaf) (sym h.old_is) less)

-- A full base has none.
pub no_room : (z : Sizes) (u : TreeView) (k : List ℕ) (cursor : Cursor) → IsLooking z u k cursor
    → IsAlone z u
    → z.leaf ≤ length (first_note u.notes).objects → ¬ HasRoom z k u
no_room z u k cursor l alone full room = let note = first_note u.notes in
    let less = room note.row note.place (l.listed alone).base l.about in
    let same = ap (λ (xs : StoreMap). length xs) (has_last z u note alone l.has) in
    omega (arith, length-map note.objects pair)

-- What an attempt comes to that met a full base, and tried to split it.
pub made_room : (z : Sizes) (u v : TreeView) (k : List ℕ) (cursor : Cursor) (many attempt : ℕ)
    (r : Result (Unit {0}) Stop) → IsLooking z u k cursor
    → IsAlone z u → many ≡ length (first_note u.notes).objects
    → 2 ≤ many → z.leaf ≤ many → HasSplit many attempt r u v
    → HasGrown {T = Unit {0}} z (Some k) (Err (split_to r)) u v
made_room z u v k cursor many attempt (Ok x) l alone are least full h = (
  has_split_grows many attempt (Ok x) u v (l.listed alone) h,
  subst (λ (w : TreeView).
      HasRoom z k w) (sym h.2) (room_then z u k cursor l alone many attempt h.0 h.1 are least),
  no_room z u k cursor l alone (subst (λ (n : ℕ). z.leaf ≤ n) are full),
)
made_room z u v k cursor many attempt (Err why) l alone are least full h = stopped_tree why u v h

-- Where the exchange of a base was not won, nothing followed it.
pub settled_still : (z : Sizes) (t : Tuning) (statistic : ℤ) (tried : Result (Unit {0}) Stop)
    (a b : Adapting) (m m' : MyTree) → IsErr tried
    → HasSettled z t statistic tried a b m m' → m'.0.upper ≡ m.0.upper
settled_still z t statistic (Ok x) a b m m' n s = absurd cc
settled_still z t statistic (Err why) a b m m' n s = ap (λ (x : MyTree). x.0.upper) s.1

-- The pass has its number.
pub tried_number : (z : Sizes) (event : Event) (tried : Result (Unit {0}) Stop) (u w : TreeView)
    → HasTried event z tried u w → w.number ≡ u.number
tried_number z event (Ok x) u w h = h.0.number
tried_number z event (Err why) u w h = ap (λ (x : TreeView). x.number) (h ∙ stopped_same why u)

-- What an attempt comes to by its exchange, given what followed.
tried_grown : (met : Met) (z : Sizes) (adds : Option (List ℕ)) (event : Event) (edit : Edit)
    (word : ℕ) (tried : Result (Unit {0}) Stop) (u w v : TreeView)
    → IsListed u.inventory (first_note u.notes) → HasTried event z tried u w
    → HasRenewed z met word edit tried u w → Grows 1 2 1 w v
    → (IsErr tried → v ≡ w) → HasGrown z adds (come_to tried) u v
tried_grown met z adds event edit word (Ok x) u w v l h renewed then
    else = grows_both 0 1 0 1 2 1 u w v (update_grows met z word edit u w l renewed) then
tried_grown met z adds event edit word (Err why) u w v l h renewed then
    else = stopped_tree why u v (else refl ∙ h)

pub settled_grown : {z : Sizes} {t : Tuning} {tried : Result (Unit {0}) Stop}
    {r : Result (Unit {0}) Halt} {a b : Adapting} {k m m' m'' : MyTree}
    (s : IsSettling z t tried r a b k m m' m'') (adds : Option (List ℕ))
    → (IsAlone z k.0.upper → IsListed k.0.upper.inventory (first_note k.0.upper.notes))
    → (IsAlone z m'.0.upper → Grows 1 2 1 m'.0.upper m''.0.upper) → IsAlone z k.0.upper
    → HasGrown z adds r k.0.upper m''.0.upper
settled_grown {z} {t} {tried} {r} {a} {b} {k} {m} {m'} {m''} s adds listed then alone = subst
    (λ (x : Result (Unit {0}) Halt). HasGrown z adds x k.0.upper m''.0.upper) (sym s.is)
    (subst (λ (x : MyTree). HasGrown z adds (come_to tried) x.0.upper m''.0.upper) s.same
    (tried_grown s.met z adds s.event s.edit s.word tried m.0.upper m'.0.upper m''.0.upper
    (subst (λ (x : MyTree). IsListed x.0.upper.inventory (first_note x.0.upper.notes)) (sym s.same)
    (listed alone)) s.entered s.renewed
    (then (
      alone.0,
      subst (λ (n : ℕ). 0 < n) (sym (tried_number z s.event tried m.0.upper m'.0.upper s.entered
          ∙ ap (λ (x : MyTree). x.0.upper.number) s.same)) alone.1,
    ))
    (λ n. settled_still z t s.statistic tried a b m' m'' n s.settled)))

-- An exchange of a base comes to no split of a full one.
pub come_unsplit : (tried : Result (Unit {0}) Stop) (r : Result (Unit {0}) Halt) → r ≡ come_to tried
    → r ≢ Err halt.Split
come_unsplit (Ok x) r is e = cc
come_unsplit (Err why) r is e = cc

-- A try to split the base that is due.
pub due_grows : (z : Sizes) (a : Adapted) (k m m' : MyTree)
    → IsListed m.0.upper.inventory (first_note m.0.upper.notes) → IsSameTree k.0.upper m.0.upper
    → IsSplitOutcome z (first_note m.0.upper.notes) a m m' → Grows 1 2 1 k.0.upper m'.0.upper
due_grows z a k m m' l same h =
    grows_both 0 0 0 1 2 1 k.0.upper m.0.upper m'.0.upper
    (same_grows 0 0 0 k.0.upper m.0.upper same) (by a h)
  where
    still : m'.0.upper ≡ m.0.upper → Grows 1 2 1 m.0.upper m'.0.upper
    still e = same_grows 1 2 1 m.0.upper m'.0.upper (
      ap (λ (x : TreeView). x.splits) e,
      ap (λ (x : TreeView). x.inventory) e,
    )

    not_by : (w : Why) → IsWhyNotSplit z (first_note m.0.upper.notes) w m m'
        → Grows 1 2 1 m.0.upper m'.0.upper
    not_by why.Root h = absurd h
    not_by why.OneObject h = still (ap (λ (x : MyTree). x.0.upper) h.1)
    not_by why.AtLevel h = still (ap (λ (x : MyTree). x.0.upper) h.2)
    not_by why.SiblingRoute h = absurd h
    not_by why.TooMany h = absurd h
    not_by why.Taken h = absurd h
    not_by why.Lost h = ⊎_elim (λ (e : m'.0.upper ≡ m.0.upper). still e)
        (λ (e : m'.0.upper ≡ one_more_lost m.0.upper).
        same_grows 1 2 1 m.0.upper m'.0.upper (
          ap (λ (x : TreeView). x.splits) e,
          ap (λ (x : TreeView). x.inventory) e,
        )) h.3
    not_by why.NoRow h = still h.2
    not_by why.Worn h = still h.2

    by : (a : Adapted) → IsSplitOutcome z (first_note m.0.upper.notes) a m m'
        → Grows 1 2 1 m.0.upper m'.0.upper
    by adapted.Stay h = absurd h
    by adapted.Split h =
        has_split_grows (length (first_note m.0.upper.notes).objects) (attempts_at_first z)
        (Ok tt) m.0.upper m'.0.upper l h.2
    by adapted.Joined h = absurd h
    by (adapted.NotSplit w) h = not_by w h
    by (adapted.NotJoined w) h = absurd h

-- Room stays where the tree has what it had and nothing was learnt.
room_stays : (z : Sizes) (adds : Option (List ℕ)) (u v : TreeView) → v.seen ≡ u.seen
    → v.inventory ≡ u.inventory → HasRoomFor z adds u → HasRoomFor z adds v
room_stays z None u v seen same room = tt
room_stays z (Some k) u v seen same room = λ row place i has. subst
    (λ (h : History). length (part place.span (after h [])) < z.leaf) (sym seen)
    (room row place (subst (λ (j : Inventory). IsIn (row, place) j.bases) same i) has)

-- An attempt before which the pass looked, and that had seen as much.
pub grown_from : {T : Type 0} (z : Sizes) (adds : Option (List ℕ)) (r : Result T Halt)
    (u w v : TreeView) → w.seen ≡ u.seen → IsSameTree u w
    → HasGrown z adds r w v → HasGrown z adds r u v
grown_from z adds (Ok x) u w v seen same h =
    grows_both 0 0 0 1 3 1 u w v (same_grows 0 0 0 u w same) h
grown_from z adds (Err halt.Split) u w v seen same h = (
  grows_both 0 0 0 1 2 1 u w v (same_grows 0 0 0 u w same) h.0,
  h.1,
  λ room. h.2 (room_stays z adds u w seen same.1 room),
)
grown_from z adds (Err halt.Deep) u w v seen same h = same_both u w v same h
grown_from z adds (Err halt.Helped) u w v seen same h = h
grown_from z adds (Err (halt.Stopped why)) u w v seen same h = same_both u w v same h

-- Attempts behind others that did not do the call, of a pass that learnt of nothing.
module _ (z : Sizes) (adds : Option (List ℕ)) (u w v : TreeView) (before : HasWaited z adds u w)
    (as_much : w.seen ≡ u.seen) where
  -- If there was no room before the later ones, there was none before the first ones, if those
  -- changed nothing.
  none_before : IsSameTree u w → ¬ HasRoomFor z adds w → ¬ HasRoomFor z adds u
  none_before same none room = none (room_stays z adds u w as_much same.1 room)

  pub done : Grows 1 3 1 w v ⊎ (Grows 2 5 2 w v × ¬ HasRoomFor z adds w) → Grows 1 3 1 u v
      ⊎ (Grows 2 5 2 u v × ¬ HasRoomFor z adds u)
  done h = ⊎_elim
      (λ (same : IsSameTree u w). ⊎_elim
      (λ (g : Grows 1 3 1 w v). inl (grows_both 0 0 0 1 3 1 u w v (same_grows 0 0 0 u w same) g))
      (λ (t : Grows 2 5 2 w v × ¬ HasRoomFor z adds w).
      inr (grows_both 0 0 0 2 5 2 u w v (same_grows 0 0 0 u w same) t.0, none_before same t.1))
      h)
      (λ (t : Grows 1 2 1 u w × HasRoomFor z adds w × ¬ HasRoomFor z adds u). ⊎_elim
      (λ (g : Grows 1 3 1 w v). inr (grows_both 1 2 1 1 3 1 u w v t.0 g, t.2))
      (λ (s : Grows 2 5 2 w v × ¬ HasRoomFor z adds w). absurd (s.1 t.1))
      h)
      before

  pub waits : v.seen ≡ w.seen → HasWaited z adds w v → HasWaited z adds u v
  waits seen h = ⊎_elim
      (λ (same : IsSameTree u w). ⊎_elim
      (λ (s : IsSameTree w v). inl (same_both u w v same s))
      (λ (t : Grows 1 2 1 w v × HasRoomFor z adds v × ¬ HasRoomFor z adds w). inr (
        grows_both 0 0 0 1 2 1 u w v (same_grows 0 0 0 u w same) t.0,
        t.1,
        none_before same t.2,
      ))
      h)
      (λ (t : Grows 1 2 1 u w × HasRoomFor z adds w × ¬ HasRoomFor z adds u). ⊎_elim
      (λ (s : IsSameTree w v). inr (
        grows_both 1 2 1 0 0 0 u w v t.0 (same_grows 0 0 0 w v s),
        room_stays z adds w v seen s.1 t.1,
        t.2,
      ))
      (λ (s : Grows 1 2 1 w v × HasRoomFor z adds v × ¬ HasRoomFor z adds w). absurd (s.2 t.1))
      h)
      before

-- One attempt is so many.
one_attempt : {T : Type 0} (z : Sizes) (adds : Option (List ℕ)) (r : Result T Halt) (u v : TreeView)
    → HasGrown z adds r u v → HasGrownInAttempts z adds r u v
one_attempt z adds (Ok x) u v h = inl h
one_attempt z adds (Err halt.Split) u v h = inr h
one_attempt z adds (Err halt.Deep) u v h = inl h
one_attempt z adds (Err halt.Helped) u v h = absurd h
one_attempt z adds (Err (halt.Stopped why)) u v h = inl h

-- Whose number is that of a pass that is alone is alone.
pub alone_on : (z : Sizes) (u w : TreeView) → w.number ≡ u.number → IsAlone z u → IsAlone z w
alone_on z u w same a = (a.0, subst (λ (n : ℕ). 0 < n) (sym same) a.1)

-- Attempts behind others.
pub attempts_so_far : {T : Type 0} (tells : T → Event → Type 0) (z : Sizes) (adds : Option (List ℕ))
    (r : Result T Halt) (u w v : TreeView) → IsKnown z u
    → IsKnown z w → IsFurther u w → (IsAlone z u → HasWaited z adds u w) → HasTriedTo tells z r w v
    → (IsAlone z w → HasGrownInAttempts z adds r w v)
    → IsAlone z u → HasGrownInAttempts z adds r u v
attempts_so_far tells z adds (Ok x) u w v k l f before tried h a =
    done z adds u w v (before a) (seen_still z u w a k l f) (h (alone_on z u w f.number a))
attempts_so_far tells z adds (Err why) u w v k l f before tried h a =
    let b = alone_on z u w f.number a in
    waits z adds u w v (before a) (seen_still z u w a k l f) (seen_still z w v b l tried.1 tried.0)
    (h b)

-- Where the tree has what it had, and the pass learnt of nothing.
pub waited_on : (z : Sizes) (adds : Option (List ℕ)) (u w v : TreeView) → HasWaited z adds u w
    → v.seen ≡ w.seen → IsSameTree w v → HasWaited z adds u v
waited_on z adds u w v before seen same = ⊎_elim
    (λ (s : IsSameTree u w). inl (same_both u w v s same))
    (λ (t : Grows 1 2 1 u w × HasRoomFor z adds w × ¬ HasRoomFor z adds u). inr (
      grows_both 1 2 1 0 0 0 u w v t.0 (same_grows 0 0 0 w v same),
      room_stays z adds w v seen same.1 t.1,
      t.2,
    )) before

-- An attempt behind others.
pub one_more_attempt : {T : Type 0} (tells : T → Event → Type 0) (z : Sizes)
    (adds : Option (List ℕ)) (r : Result T Halt) (u w v : TreeView) → IsKnown z u
    → IsKnown z w → IsFurther u w → (IsAlone z u → HasWaited z adds u w)
    → HasTriedSince tells z r w v → (IsAlone z w → HasGrown z adds r w v)
    → IsAlone z u → HasGrownInAttempts z adds r u v
one_more_attempt {T} tells z adds (Ok x) u w v k l f before tried h a =
    done z adds u w v (before a) (seen_still z u w a k l f)
    (one_attempt {T = T} z adds (Ok x) w v (h (alone_on z u w f.number a)))
one_more_attempt {T} tells z adds (Err why) u w v k l f before tried h a =
    attempts_so_far tells z adds (Err why) u w v k l f before tried
    (λ b. one_attempt {T = T} z adds (Err why) w v (h b)) a

-- Attempts that came to a stop did not do the call.
pub has_waited : {T E : Type 0} (z : Sizes) (adds : Option (List ℕ)) (r : Result T E) (why : E)
    (u v : TreeView) → r ≡ Err why → HasGrownInAttempts z adds r u v
    → HasWaited z adds u v
has_waited {T} {E} z adds r why u v e h = subst (λ (x : Result T E). HasGrownInAttempts z adds x u
    v) e h

pub turn_waited : {T : Type 0} (z : Sizes) (adds : Option (List ℕ)) (r : Result T Halt)
    (u v : TreeView) → HasNext r → HasGrownInAttempts z adds r u v → HasWaited z adds u v
turn_waited z adds (Ok x) u v next h = absurd next
turn_waited z adds (Err why) u v next h = h

-- An attempt behind the look that it begins with.
pub looked_grown : {T : Type 0} (z : Sizes) (adds : Option (List ℕ)) (r : Result T Halt)
    (m m' : MyTree) (v : TreeView) → IsKnown z m.0.upper
    → IsKnown z m'.0.upper → IsFurther m.0.upper m'.0.upper → IsQuiet m m'
    → (IsAlone z m'.0.upper → HasGrown z adds r m'.0.upper v)
    → IsAlone z m.0.upper → HasGrown z adds r m.0.upper v
looked_grown z adds r m m' v k l f q h a =
    grown_from z adds r m.0.upper m'.0.upper v (seen_still z m.0.upper m'.0.upper a k l f)
    (q.splits_are, q.same_inventory) (h (alone_on z m.0.upper m'.0.upper f.number a))

-- A call that edits nothing.
pub entered_grown : (m m' m'' : MyTree) (event : Event) → IsQuiet m m'
    → IsEntered event m' m'' → Grows 1 3 1 m.0.upper m''.0.upper
entered_grown m m' m'' event q is = let e = ap (λ (x : MyTree). x.0.upper) is.now in
    same_grows 1 3 1 m.0.upper m''.0.upper (
      ap (λ (x : TreeView). x.splits) e ∙ q.splits_are,
      ap (λ (x : TreeView). x.inventory) e ∙ q.same_inventory,
    )

-- The pass unpins then.
pub grown_unpinned : {T : Type 0} (z : Sizes) (adds : Option (List ℕ)) (r : Result T Halt)
    (u v w : TreeView) → w ≡ unpinned v → HasGrown z adds r u v → HasGrown z adds r u w
grown_unpinned {T} z adds r u v w same h = subst
    (λ (x : TreeView). HasGrown z adds r u x) (sym same) (by r h)
  where
    grew : (a b c : ℕ) → Grows a b c u v → Grows a b c u (unpinned v)
    grew a b c g =
        record {
          splits_are =
              g.splits_are;
          rows_are = g.rows_are;
          bases_are = g.bases_are;
          most_are = g.most_are;
        }

    by : (r : Result T Halt) → HasGrown z adds r u v → HasGrown z adds r u (unpinned v)
    by (Ok x) h = grew 1 3 1 h
    by (Err halt.Split) h =
        (grew 1 2 1 h.0, room_stays z adds v (unpinned v) refl refl h.1, h.2)
    by (Err halt.Deep) h = h
    by (Err halt.Helped) h = h
    by (Err (halt.Stopped why)) h = h

-- What the attempts come to where the last one's is told otherwise.
pub grown_refused : {T : Type 0} (z : Sizes) (adds : Option (List ℕ)) (tried : Result T Halt)
    (r : Result T Cause) (spent : Spent) (levels : ℕ)
    (u w v : TreeView)
    → v ≡ w → r ≡ refused_as tried spent levels → HasGrownInAttempts z adds tried u w
    → HasGrownInAttempts z adds r u v
grown_refused {T} z adds tried r spent levels u w v same is h = subst
    (λ (x : Result T Cause). HasGrownInAttempts z adds x u v) (sym is)
    (subst (λ (x : TreeView).
    HasGrownInAttempts z adds (refused_as tried spent levels) u x) (sym same) (by tried h))
  where
    by : (tried : Result T Halt) → HasGrownInAttempts z adds tried u w
        → HasGrownInAttempts z adds (refused_as tried spent levels) u w
    by (Ok x) h = h
    by (Err why) h = h

-- One that is refused is counted then.
pub refused_grows : {T : Type 0} (z : Sizes) (adds : Option (List ℕ)) (counts : Counts)
    (why : Cause)
    (o : Outcome T) (u : TreeView) (m m' : MyTree) → o ≡ outcome_by why
    → HasWaited z adds u m.0.upper
    → m' ≡ with_upper m (record m.0.upper { counts = counts }) → GrowsInCall z adds o u m'.0.upper
refused_grows {T} z adds counts why o u m m' is h now = subst
    (λ (x : Outcome T). GrowsInCall z adds x u m'.0.upper) (sym is)
    (subst (λ (x : MyTree). GrowsInCall {T = T} z adds (outcome_by why) u x.0.upper) (sym now)
    (by why))
  where
    waited : HasWaited z adds u (record m.0.upper { counts = counts })
    waited = ⊎_elim (λ (same : IsSameTree u m.0.upper). inl (same.0, same.1))
        (λ (t : Grows 1 2 1 u m.0.upper × HasRoomFor z adds m.0.upper × ¬ HasRoomFor z adds u). inr (
          record {
            splits_are = t.0.splits_are;
            rows_are = t.0.rows_are;
            bases_are = t.0.bases_are;
            most_are = t.0.most_are;
          },
          room_stays z adds m.0.upper (record m.0.upper { counts = counts }) refl refl t.1,
          t.2,
        ))
        h

    by : (why : Cause) → GrowsInCall {T = T} z adds (outcome_by why) u
        (record m.0.upper { counts = counts })
    by (cause.Busy spent) = waited
    by (cause.Full full) = waited
    by (cause.Deep level) = waited
    by (cause.Worn counter) = waited
