-- What maps have within edges, and what a run of bases has of a state.
use Rattle.std.proofs.Common.{◌≡◌, ℕ, ◌<◌, ◌≤◌, Bool, true, false, List, [], ◌∷◌, ◌++◌, length, refl, sym, ap, subst, ◌∙◌, inl, inr, arith}
use Rattle.std.specs.Prelude.{None, Some, cond}
use denote.Ref.{Bor}
use denote.Param.Members.{Shared}
use Rattle.ca_base.specs.Putting.{first_note}
use Rattle.ca_model.specs.Edges.{Bound, Unbounded, bound_of, first_object, from, last_object, is_from, is_up_to, objects_of, up_to, within, IsCut, IsLower}
use Rattle.ca_model.specs.Event.{Above, Below, Entry, Event}
use Rattle.ca_model.specs.History.{History, state}
use Rattle.ca_model.specs.Runs.{HasCounted, Reaches}
use Rattle.ca_model.specs.StoreMap.{IsStoreMap, Pair, StoreMap}
use Rattle.ca_model.proofs.Cuts.{cuts_begin}
use Rattle.ca_model.proofs.Edits.{map_filter}
use Rattle.ca_model.proofs.Walking.{all_pairs}
use Rattle.ca_base.specs.Progress.{HasDone}
use Rattle.ca_base.specs.Readiness.{StaysReady}
use Rattle.ca_node.specs.Links.{IsIn}
use Rattle.ca_node.specs.States.{IsAtPin, IsReadSince, IsSince, IsUnanswered}
use Rattle.ca_node.specs.Told.{IsEntered, IsKnown, MyTree, entered}
use Rattle.ca_node.specs.Tree.{ArePast}
use Rattle.ca_node.specs.TreeView.{Note, TreeView}
use Rattle.ca_node.proofs.Parts.{filter_swap, filter_through}
use Rattle.ca_range.specs.Edged.{EndsBefore}
use Rattle.ca_range.specs.Snapshots.{HasRun, IsRemembered, bases_of}
use Rattle.ca_range.specs.declared.sought.Run.{Run}
use Rattle.ca_range.specs.declared.sought.Sought.{Sought}
use Rattle.ca_range.proofs.FirstBases.{state_is_map}
use Rattle.ca_replace.specs.Acts.{acts_of}
use Rattle.ca_replace.specs.Running.{all_of}
use Rattle.ca_replace.specs.Within.{FindsAbove, FindsBelow, HasLearnt, above_event, below_event, cut_of, range_event}
use Rattle.ca_replace.proofs.Entries.{held_upper, read_by}
use Rattle.ca_replace.proofs.Ready.{stays_both}
use Rattle.ca_replace.proofs.Showing.{entered_done}
use Rattle.ca_replace.proofs.States.{none_since, seen_before}
use Rattle.ca_replace.proofs.Tallies.{tallied_read}
use Rattle.ca_rows.specs.declared.space.Pass.{Pass}
use Rattle.ca_rows.specs.declared.space.Space.{Space}
use Rattle.ca_rows.specs.Passes.{KeepsList}
use Rattle.ca_rows.specs.declared.sizes.Sizes.{Sizes}
use Rattle.ca_runs.specs.Runs.{BeginsBefore}

-- whether a pair is within a lower edge, and within an upper one
abbrev in_from : Bound → Pair → Bool
in_from lo q = is_from lo q.0

abbrev pub in_up_to : Bound → Pair → Bool
in_up_to hi q = is_up_to hi q.0

-- What is within edges is so of what is within wider ones.
pub within_wider : (low high lo cut : Bound) (m : StoreMap) → BeginsBefore low lo
    → EndsBefore cut high
    → within lo cut (within low high m) ≡ within lo cut m
within_wider low high lo cut m begins ends = ap (up_to cut)
    (filter_swap (in_from lo) (in_up_to high) (from low m))
    ∙ (filter_through (in_up_to high) (in_up_to cut) (λ q. ends q.0) (from lo (from low m))
    ∙ ap (up_to cut) (filter_through (in_from low) (in_from lo) (λ q. begins q.0) m))

-- What has nothing behind an upper edge needs no cut there.
pub to_the_end : (low high lo : Bound) (m : StoreMap)
    → within lo Unbounded (within low high m) ≡ within lo high (within low high m)
to_the_end low high lo m = let swapped = filter_swap (in_from lo) (in_up_to high) (from low m) in
    all_pairs (from lo (within low high m)) ∙ (swapped
    ∙ (sym (filter_through (in_up_to high) (in_up_to high) (λ q e. e) (from lo (from low m)))
    ∙ ap (up_to high) (sym swapped)))

-- A map's part within edges is a map.
pub within_map : (keypos : ℕ) (low high : Bound) (m : StoreMap) → IsStoreMap keypos m
    → IsStoreMap keypos (within low high m)
within_map keypos low high m t = map_filter keypos (from low m) (in_up_to high)
    (map_filter keypos m (in_from low) t)

-- The first object of what begins with something is that one's first.
first_of : (a b : StoreMap) → 0 < length a → first_object (a ++ b) ≡ first_object a
first_of [] b some = absurd (omega (arith, some))
first_of (q ∷ a) b some = refl

-- Maps that have the same up to a cut, and something, have the same first object.
pub first_same : (keypos : ℕ) (lo cut : Bound) (x m : StoreMap) → IsStoreMap keypos x
    → IsStoreMap keypos m → IsCut cut Unbounded
    → within lo cut x ≡ within lo cut m → 0 < length (within lo cut x)
    → first_object (from lo x) ≡ first_object (from lo m)
first_same keypos lo cut x m tx tm is_cut same some = let a = cuts_begin keypos x lo cut Unbounded
    tx is_cut in
    let b = cuts_begin keypos m lo cut Unbounded tm is_cut in
    ap first_object (sym (all_pairs (from lo x)) ∙ a.1) ∙ (first_of (within lo cut x) a.0 some
    ∙ (ap first_object same
    ∙ sym (ap first_object (sym (all_pairs (from lo m)) ∙ b.1) ∙ first_of (within lo cut m) b.0
    (subst (λ (y : StoreMap). 0 < length y) same some))))

-- Where objects were counted, there are some.
counted_some : {F : Type 0} (g : Shared F (Bor (List ℕ) × Unit {0}) Bool) (f : F) (a : StoreMap)
    → HasCounted g f 1 (objects_of a)
    → 0 < length a
counted_some g f [] h = absurd h
counted_some g f (q ∷ a) h = omega arith

-- A read of the last object within an upper edge answers by a state since the pin.
pub by_last : (u : TreeView) (hi : Bound) (at : ℕ) → IsSince u at → IsUnanswered u
    → (found : Bool) (object : List ℕ)
    → last_object (up_to hi (state u.seen at)) ≡ cond found (Some object) None
    → IsReadSince (below_event hi found object) u
by_last u hi at since none true object last = read_by u (Below hi (Some object)) none refl
    (at, since, last)
by_last u hi at since none false object last = read_by u (Below hi None) none refl (at, since, last)

-- Bases of a run that a snapshot came to.
module _ {F : Type 0} (g : Shared F (Bor (List ℕ) × Unit {0}) Bool) (sought : Sought F) {z : Sizes}
    {u : TreeView} {run : Run}
    (h : HasRun g sought z u run) where
  abbrev lo : Bound
  lo = bound_of sought.lo

  abbrev hi : Bound
  hi = bound_of sought.hi

  abbrev high : Bound
  high = (first_note (bases_of run u)).place.span.high

  -- Their objects ascend.
  pub run_ordered : IsStoreMap z.keypos (all_of run u)
  run_ordered = subst (IsStoreMap z.keypos) (sym h.shown)
      (within_map z.keypos h.low high (state u.seen h.at)
      (state_is_map z.keypos h.at u.seen h.known.edits))

  -- Up to the cut they have what the state has.
  pub run_objects : within lo h.cut (all_of run u) ≡ within lo h.cut (state u.seen h.at)
  run_objects = ap (within lo h.cut) h.shown
      ∙ within_wider h.low high lo h.cut (state u.seen h.at) h.before h.inside

  -- The cut is the one that the call names.
  pub run_cut : (h.cut ≡ cut_of run u hi) × IsCut (cut_of run u hi) hi
  run_cut = by run.whole h.reaches h.cut_is
    where
      by : (whole : Bool)
          → Reaches g sought.counts.now hi h.cut sought.want
          (objects_of (within lo h.cut (all_of run u))) whole
          → (whole ≡ false → h.cut ≡ high) → (h.cut ≡ cond whole hi high)
          × IsCut (cond whole hi high) hi
      by true r e = (r, inl refl)
      by false r e = (e refl, inr (subst (λ (b : Bound). IsLower b hi) (e refl) r.0))

  -- So the call that opens the run answers by a state since the pin.
  pub run_read : IsUnanswered u → IsReadSince (range_event run u lo hi) u
  run_read none = read_by u (range_event run u lo hi) none refl (
    h.at,
    (h.later, h.seen),
    (
      run_cut.1,
      ap objects_of (subst (λ (b : Bound). within lo b (state u.seen h.at) ≡ within lo b
          (all_of run u)) run_cut.0
          (sym run_objects)),
    ),
  )

  -- Where one object is wanted, whatever the upper edge, the first one is that of the state.
  pub run_first : hi ≡ Unbounded → sought.want ≡ 1
      → first_object (from lo (all_of run u)) ≡ first_object (from lo (state u.seen h.at))
  run_first wide one = by run.whole h.reaches
    where
      by : (whole : Bool)
          → Reaches g sought.counts.now hi h.cut sought.want
          (objects_of (within lo h.cut (all_of run u))) whole
          → first_object (from lo (all_of run u)) ≡ first_object (from lo (state u.seen h.at))
      by true r = ap first_object (sym (all_pairs (from lo (all_of run u)))
          ∙ (subst (λ (b : Bound). within lo b (all_of run u) ≡ within lo b (state u.seen h.at))
          (r ∙ wide) run_objects
          ∙ all_pairs (from lo (state u.seen h.at))))
      by false r = first_same z.keypos lo h.cut (all_of run u) (state u.seen h.at) run_ordered
          (state_is_map z.keypos h.at u.seen h.known.edits)
          (inr (subst (λ (b : Bound). IsLower h.cut b) wide r.0))
          run_objects (counted_some g sought.counts.now (within lo h.cut (all_of run u))
          (subst (λ (n : ℕ). HasCounted g sought.counts.now n
          (objects_of (within lo h.cut (all_of run u)))) one r.2))

  -- So far the run is read: up to the cut.
  pub run_end : within lo (cond run.whole hi Unbounded) (all_of run u) ≡ within lo (cut_of run u hi)
      (all_of run u)
  run_end = by run.whole
    where
      by : (whole : Bool) → within lo (cond whole hi Unbounded) (all_of run u) ≡ within lo
          (cond whole hi high) (all_of run u)
      by true = refl
      by false = subst (λ (x : StoreMap). within lo Unbounded x ≡ within lo high x) (sym h.shown)
          (to_the_end h.low high lo (state u.seen h.at))

  -- These objects reach as far as was wanted.
  pub run_reaches : (objects : List (List ℕ))
      → objects ≡ objects_of (within lo (cut_of run u hi) (all_of run u))
      → Reaches g sought.counts.now hi (cut_of run u hi) sought.want objects run.whole
  run_reaches objects are = subst (λ (x : List (List ℕ)). Reaches g sought.counts.now hi
      (cut_of run u hi) sought.want x run.whole)
      (sym are) (subst (λ (b : Bound). Reaches g sought.counts.now hi b sought.want
      (objects_of (within lo b (all_of run u))) run.whole)
      run_cut.0 h.reaches)

  -- Where one object is wanted, whatever the upper edge, the read of the first one answers by a
  -- state since the pin.
  pub first_read : hi ≡ Unbounded → sought.want ≡ 1 → IsUnanswered u
      → IsReadSince (Above lo (first_object (from lo (all_of run u)))) u
  first_read wide one none = read_by u (Above lo (first_object (from lo (all_of run u)))) none refl (
    h.at,
    (h.later, h.seen),
    sym (run_first wide one),
  )

-- The first base of some is one of them.
first_in : (notes : List Note) → 0 < length notes → IsIn (first_note notes) notes
first_in [] some = absurd (omega (arith, some))
first_in (note ∷ notes) some = (0, refl)

-- The last base of a run has a row of the space.
pub last_inside : (z : Sizes) (u : TreeView) (run : Run) → IsRemembered z u run → run.last ≤ z.rows
last_inside z u run r = subst (λ (n : ℕ). n ≤ z.rows) r.last_is
    (r.readable (first_note (bases_of run u)) (first_in (bases_of run u) r.some)).is_base.in_range

-- Its bases are remembered still once a call is entered in the log.
pub remembered_entered : (z : Sizes) (u : TreeView) (run : Run) (event : Event) (at : ℕ)
    → IsRemembered z u run
    → IsRemembered z (entered u event at) run
remembered_entered z u run event at r = record {
  last_is = r.last_is;
  some = r.some;
  few = r.few;
  chained = r.chained;
  readable = λ note i. let n = r.readable note i in
      record {
        noted = n.noted;
        here = n.here;
        is_base = n.is_base;
        few = n.few;
        ordered =
            n.ordered;
      };
}

-- A pass that learnt of others' edits alone answered nothing since it was pinned, if it hadn't
-- before.
pub learnt_unanswered : (z : Sizes) (u v : TreeView) → IsAtPin u → IsKnown z u → HasLearnt z u v
    → IsUnanswered v
learnt_unanswered z u v first known l = subst (λ (x : History × List Entry). ArePast (length x.0)
    x.1)
    (λ i. (sym l.since i, sym l.further.log i)) (none_since z u known first)

-- A call that was entered in the log behind that is done.
pub learnt_done : (z : Sizes) (u : TreeView) (m m' : MyTree) (event : Event) → IsAtPin u
    → HasLearnt z u m.0.upper
    → IsEntered event m m' → HasDone event u m'.0.upper × IsKnown z m'.0.upper
    × (acts_of m'.0.upper ≡ acts_of u)
learnt_done z u m m' event first l e = let d = entered_done z u m m' event l.further l.known
    (seen_before u m.0.upper first l.since) e in
    (d.0, d.1, ap (λ (x : MyTree). acts_of x.0.upper) e.now ∙ l.acts)

-- So a call found an object, or none.
pub finds_above : (lo : Bound) (found : Bool) (object : List ℕ) → (found ≡ false → object ≡ [])
    → FindsAbove lo found object (above_event lo found object)
finds_above edge true object none = refl
finds_above edge false object none = (refl, none refl)

pub finds_below : (hi : Bound) (found : Bool) (object : List ℕ) → (found ≡ false → object ≡ [])
    → FindsBelow hi found object (below_event hi found object)
finds_below edge true object none = refl
finds_below edge false object none = (refl, none refl)

-- The pass stays ready as a call is entered in the log.
pub ready_entered : {R : Type 0} {space : Space R TreeView} {pass mid new : Pass R TreeView}
    (event : Event) → StaysReady space pass mid
    → KeepsList mid new → IsEntered event mid.seat.me new.seat.me → StaysReady space pass new
ready_entered {space = space} {mid = mid} {new = new} event s keeps e = stays_both s record {
  same = keeps.same;
  number = keeps.number;
  tally = tallied_read mid.tally new.tally mid.seat.me new.seat.me event keeps.tally e;
  pin = (ap (λ (m : MyTree). m.0.sizes) e.now, ap (λ (m : MyTree). m.0.pin) e.now);
  own_range = ap (λ (m : MyTree). m.0.upper.ranges.own) e.now;
  none = held_upper space.table.shared.key.rows mid.kept new.kept mid.seat.me new.seat.me _ []
      s.none e.now refl keeps.kept;
}
