-- Attempts that come to a stop, and what the next one begins with under the same pin.
use Rattle.std.proofs.Common.{◌≡◌, ℕ, ◌<◌, ◌≤◌, List, length, Option, Some, Result, Ok, Err, sym, refl, ap, ◌∙◌, subst, arith, Bool, false}
use Rattle.ca_adapt.specs.declared.tuning.Tuning.{Tuning}
use Rattle.ca_base.specs.declared.stop.Stop.{Stop}
use Rattle.ca_base.specs.Progress.{IsFurther}
use Rattle.ca_base.specs.Putting.{first_note, stopped}
use Rattle.ca_base.specs.Readiness.{StaysReady}
use Rattle.ca_base.specs.Splitting.{HasSplit}
use Rattle.ca_model.specs.Event.{Event, Entry}
use Rattle.ca_model.specs.History.{History}
use Rattle.ca_node.specs.declared.cursor.Cursor.{Cursor}
use Rattle.ca_node.specs.Laws.{starts_whole}
use Rattle.ca_node.specs.Place.{Span}
use Rattle.ca_node.specs.Told.{MyTree, IsKnown, IsKnownLink, link_word}
use Rattle.ca_node.specs.Tree.{ArePast, StartsWith}
use Rattle.ca_node.specs.TreeView.{TreeView, Way, unpinned}
use Rattle.ca_node.specs.Walking.{IsBegin, IsPlaced}
use Rattle.ca_replace.specs.declared.adapting.Adapting.{Adapting}
use Rattle.ca_replace.specs.declared.adapting.Course.{Course}
use Rattle.ca_replace.specs.declared.attempting.Halt.{Halt}
use Rattle.ca_replace.specs.Attempting.{BeginsAt, HasNext, HasTriedSince, HasTriedTo, IsAsking, IsLooking, StaysAt, at_pin}
use Rattle.ca_replace.specs.Between.{MayBegin}
use Rattle.ca_replace.specs.Turning.{course_after}
use Rattle.ca_replace.proofs.Meeting.{done_on, further_on}
use Rattle.ca_replace.proofs.Ready.{ready_after}
use Rattle.ca_replace.proofs.Settling.{IsSettling}
use Rattle.ca_replace.proofs.Showing.{stopped_same}
use Rattle.ca_replace.proofs.States.{none_since}
use Rattle.ca_replace.proofs.Turns.{tried_unpinned}
use Rattle.ca_rows.specs.declared.sizes.Sizes.{Sizes}
use Rattle.ca_rows.specs.declared.space.Pass.{Pass}
use Rattle.ca_rows.specs.declared.space.Space.{Space}

-- Where a walk may begin depends on the routes that the pass remembers alone.
begin_as : (z : Sizes) (u v : TreeView) (span : Span) (cursor : Cursor) → v.ways ≡ u.ways
    → IsBegin z u span cursor → IsBegin z v span cursor
begin_as z u v span cursor same b = record {
  least = b.least;
  is_link = subst
      (λ (ways : List Way).
      IsKnownLink (record u { ways = ways }) (link_word cursor.link) b.least span) (sym same)
      b.is_link;
  placed = subst (λ (ways : List Way). IsPlaced z ways (record {
    link = link_word cursor.link;
    level = b.least;
    span = span;
  }) cursor) (sym same) b.placed;
}

-- So it may begin with the link of the base that was looked at.
stays_with : (z : Sizes) (key : List ℕ) (cursor : Cursor) (u v : TreeView)
    → IsLooking z u key cursor → v.since ≡ u.since → v.ways ≡ u.ways
    → v.ranges.unfinished ≡ u.ranges.unfinished
    → (v.since ≡ u.since) × BeginsAt z key v (Some cursor)
    × (v.ranges.unfinished ≡ u.ranges.unfinished)
stays_with z key cursor u v l since ways met = (
  since,
  (
    (first_note u.notes).place.span,
    begin_as z u v (first_note u.notes).place.span cursor ways l.begins,
    l.about,
  ),
  met,
)

stopped_stays : (z : Sizes) (key : List ℕ) (cursor : Cursor) (why : Stop) (u v : TreeView)
    → IsLooking z u key cursor → v ≡ stopped why u
    → (v.since ≡ u.since) × BeginsAt z key v (Some cursor)
    × (v.ranges.unfinished ≡ u.ranges.unfinished)
stopped_stays z key cursor why u v l is = let same = is ∙ stopped_same why u in
    stays_with z key cursor u v l (ap (λ (x : TreeView). x.since) same)
    (ap (λ (x : TreeView). x.ways) same) (ap (λ (x : TreeView). x.ranges.unfinished) same)

-- Behind a try to split the base.
pub split_stays : (z : Sizes) (key : List ℕ) (cursor : Cursor) (many attempt : ℕ)
    (r : Result (Unit {0}) Stop) (u v : TreeView) → IsLooking z u key cursor
    → HasSplit many attempt r u v
    → (v.since ≡ u.since) × BeginsAt z key v (Some cursor)
    × (v.ranges.unfinished ≡ u.ranges.unfinished)
split_stays z key cursor many attempt (Ok x) u v l h = stays_with z key cursor u v l
    (ap (λ (x : TreeView). x.since) h.2) (ap (λ (x : TreeView). x.ways) h.2)
    (ap (λ (x : TreeView). x.ranges.unfinished) h.2)
split_stays z key cursor many attempt (Err why) u v l h = stopped_stays z key cursor why u v l h

-- Behind none.
pub deep_stays : (z : Sizes) (key : List ℕ) (cursor : Cursor) (u : TreeView)
    → IsLooking z u key cursor
    → (u.since ≡ u.since) × BeginsAt z key u (Some cursor)
    × (u.ranges.unfinished ≡ u.ranges.unfinished)
deep_stays z key cursor u l = stays_with z key cursor u u l refl refl refl

-- What is noted of a split of a full base is no cursor.
pub again_after : {T : Type 0} (r : Result T Stop) (c : Course) → (course_after r c).again ≡ c.again
again_after (Ok x) c = refl
again_after (Err why) c = refl

-- Behind an exchange of the base.
pub settled_stays : {z : Sizes} {t : Tuning} {r : Result (Unit {0}) Halt} {a b : Adapting}
    {k m m' m'' : MyTree} (tried : Result (Unit {0}) Stop) (key : List ℕ) (cursor : Cursor)
    → IsSettling z t tried r a b k m m' m'' → IsLooking z k.0.upper key cursor
    → StaysAt z key r k.0.upper m''.0.upper (Some cursor) false
settled_stays {z} {k = k} {m'' = m''} (Ok x) key cursor s l = subst
    (λ (y : Result (Unit {0}) Halt). StaysAt z key y k.0.upper m''.0.upper (Some cursor) false)
    (sym s.is) tt
settled_stays {z} {k = k} {m'' = m''} (Err why) key cursor s l = subst
    (λ (y : Result (Unit {0}) Halt). StaysAt z key y k.0.upper m''.0.upper (Some cursor) false)
    (sym s.is)
    (let h = stopped_stays z key cursor why k.0.upper m''.0.upper l
    (ap (λ (x : MyTree). x.0.upper) s.settled.1 ∙ (s.entered
    ∙ ap (λ (x : MyTree). stopped why x.0.upper) s.same)) in (h.0, h.1, λ _. h.2))

-- Behind a look, and what followed it.
pub stays_behind : {T : Type 0} (z : Sizes) (key : List ℕ) (r : Result T Halt) (u w v : TreeView)
    (again : Option Cursor) (before marked : Bool) → w.since ≡ u.since
    → (marked ≡ false → before ≡ false)
    → (marked ≡ false → w.ranges.unfinished ≡ u.ranges.unfinished)
    → StaysAt z key r w v again before → StaysAt z key r u v again marked
stays_behind z key (Ok x) u w v again before marked since none met h = tt
stays_behind z key (Err why) u w v again before marked since none met h =
    (h.0 ∙ since, h.1, λ e. h.2 (none e) ∙ met e)

-- Since it was pinned it learnt of others' edits alone.
pub asking_further : (u : TreeView) → IsAsking u → IsFurther (at_pin u) u
asking_further u a = record { number = refl; seen = a.before; log = refl; counts = refl }

-- Still so, where it learnt of others' edits alone.
pub asking_still : (u v : TreeView) → IsAsking u → IsFurther u v → v.since ≡ u.since
    → IsAsking v
asking_still u v a f since = record {
  before = subst (StartsWith v.seen) (sym since)
      (further_on (at_pin u) u v (asking_further u a) f).seen;
  unanswered = subst (λ (x : History × List Entry). ArePast (length x.0) x.1)
      (λ i. (sym since i, sym f.log i)) a.unanswered;
}

-- As it pins it has answered none.
pub asking_pinned : (z : Sizes) (u : TreeView) → IsKnown z u → u.since ≡ u.seen → IsAsking u
asking_pinned z u k first = record {
  before = subst (StartsWith u.seen) (sym first) (starts_whole u.seen);
  unanswered = none_since z u k first;
}

-- What it had seen as it was pinned is what it had seen before a look.
pub since_before : (u w : TreeView) → w.since ≡ u.since → length (at_pin u).seen ≤ length w.since
since_before u w same = let e = ap (λ (h : History). length h) same in
    let less : length u.since ≤ length w.since = omega arith in less

pub further_since : (u w : TreeView) → IsAsking u → IsFurther u w → IsFurther (at_pin u) w
further_since u w a f = further_on (at_pin u) u w (asking_further u a) f

-- What was tried is at a place that isn't before the pin.
pub since_tried : {T : Type 0} (tells : T → Event → Type 0) (z : Sizes) (r : Result T Halt)
    (u v : TreeView) → IsAsking u → HasTriedTo tells z r u v → HasTriedSince tells z r u v
since_tried tells z (Ok x) u v a h =
    ((h.0.0, h.0.1, done_on (at_pin u) u v h.0.0 (asking_further u a) h.0.2), h.1)
since_tried tells z (Err why) u v a h = h

-- So it was tried by whom had seen no more as it was pinned.
pub tried_since : {T : Type 0} (tells : T → Event → Type 0) (z : Sizes) (r : Result T Halt)
    (k u v : TreeView) → IsFurther k (at_pin u) → IsFurther k u → HasTriedSince tells z r u v
    → HasTriedTo tells z r k v
tried_since tells z (Ok x) k u v p f h =
    ((h.0.0, h.0.1, done_on k (at_pin u) v h.0.0 p h.0.2), h.1)
tried_since tells z (Err why) k u v p f h = (further_on k u v f h.0, h.1)

-- The pass unpinned then.
pub since_unpinned : {T : Type 0} (tells : T → Event → Type 0) (z : Sizes) (r : Result T Halt)
    (u v w : TreeView) → w ≡ unpinned v → HasTriedSince tells z r u v
    → HasTriedSince tells z r u w
since_unpinned tells z (Ok x) u v w same h = tried_unpinned tells z (Ok x) (at_pin u) v w same h
since_unpinned tells z (Err why) u v w same h = tried_unpinned tells z (Err why) u v w same h

-- Whatever was tried, its history is known, and the pass has its number.
pub known_since : {T : Type 0} (tells : T → Event → Type 0) (z : Sizes) (r : Result T Halt)
    (u v : TreeView) → HasTriedSince tells z r u v → IsKnown z v × (v.number ≡ u.number)
known_since tells z (Ok x) u v h = (h.1, h.0.2.number)
known_since tells z (Err why) u v h = (h.1, h.0.number)

-- An attempt that may be followed by another one.
next_stays : {T : Type 0} (z : Sizes) (key : List ℕ) (r : Result T Halt) (u v : TreeView)
    (again : Option Cursor) (marked : Bool) → HasNext r → StaysAt z key r u v again marked
    → (v.since ≡ u.since) × BeginsAt z key v again
    × (marked ≡ false → v.ranges.unfinished ≡ u.ranges.unfinished)
next_stays z key (Ok x) u v again marked next h = absurd next
next_stays z key (Err why) u v again marked next h = h

-- It pinned when the attempt before it had.
pub next_since : {T : Type 0} (z : Sizes) (key : List ℕ) (tells : T → Event → Type 0)
    (r : Result T Halt) (k u v : TreeView) (again : Option Cursor) (marked : Bool) → HasNext r
    → IsFurther k (at_pin u) → HasTriedSince tells z r u v → StaysAt z key r u v again marked
    → IsFurther k (at_pin v)
next_since z key tells (Ok x) k u v again marked next f tried h = absurd next
next_since z key tells (Err why) k u v again marked next f tried h = record {
  number = tried.0.number ∙ f.number;
  seen = subst (λ (x : History). StartsWith x k.seen) (sym h.0) f.seen;
  log = tried.0.log ∙ f.log;
  counts = tried.0.counts ∙ f.counts;
}

module _ {R : Type 0} {space : Space R TreeView} {pass new : Pass R TreeView} where
  -- Another attempt may begin behind one that it may follow.
  pub may_follow : {T : Type 0} (tells : T → Event → Type 0) (key : List ℕ) (r : Result T Halt)
      (before again : Option Cursor) (marked : Bool) → MayBegin space key before false pass
      → StaysReady space pass new → HasNext r
      → HasTriedSince tells space.table.shared.key r pass.seat.me.0.upper new.seat.me.0.upper
      → IsFurther pass.seat.me.0.upper new.seat.me.0.upper
      → StaysAt space.table.shared.key key r pass.seat.me.0.upper new.seat.me.0.upper again marked
      → MayBegin space key again marked new
  may_follow tells key r before again marked may s next tried f stays =
      let z = space.table.shared.key in let u = pass.seat.me.0.upper in
      let v = new.seat.me.0.upper in
      let next = next_stays z key r u v again marked next stays in record {
        ready = ready_after may.ready s (subst (λ n. 0 < n) (sym f.number) may.ready.number);
        known = (known_since tells z r u v tried).0;
        asking = asking_still u v may.asking f next.0;
        idle = record {
          number = s.number ∙ (may.idle.number ∙ sym f.number);
          quiet = s.own_range ∙ may.idle.quiet;
          none_met = λ e. next.2 e ∙ may.idle.none_met refl;
        };
        begins = next.1;
        tallied = s.tally may.tallied;
      }
