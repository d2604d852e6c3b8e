-- What a pass knows behind looks from base to base to the left, and what they cost.
use Rattle.std.proofs.Common.{◌≡◌, ℕ, ◌+◌, ◌≤◌, min, List, [], ◌∷◌, Bor, Option, Some, sym, refl, ap, ◌∙◌, subst, inl, inr, ⊎_elim, arith}
use Rattle.std.specs.declared.cmp.Ordering.TheVariants.{Less}
use Rattle.ca_base.specs.Counting.{HasMet, losses}
use Rattle.ca_base.specs.Finding.{IsReadable}
use Rattle.ca_base.specs.Putting.{first_note}
use Rattle.ca_base.specs.Readiness.{IsReady, StaysReady}
use Rattle.ca_model.specs.declared.outcome.Spent.{Spent}
use Rattle.ca_model.specs.Edges.{Bound, Unbounded, Included, Excluded}
use Rattle.ca_model.specs.StoreMap.{bytes_cmp}
use Rattle.ca_model.proofs.Places.{bytes_chain}
use Rattle.ca_node.specs.declared.cursor.Cursor.{Cursor}
use Rattle.ca_node.specs.declared.cursor.Spot.{Spot}
use Rattle.ca_node.specs.declared.cursor.Spot.TheVariants as spot
use Rattle.ca_node.specs.Row.{route_key}
use Rattle.ca_node.specs.Aside.{IsAside, IsLeftOf, IsRightBelow, LetsLess, passed_on}
use Rattle.ca_node.specs.Laws.{in_nothing}
use Rattle.ca_node.specs.Links.{IsIn}
use Rattle.ca_node.specs.Told.{MyTree, IsKnown, with_upper}
use Rattle.ca_node.specs.TreeView.{Note, TreeView, Way}
use Rattle.ca_node.specs.Walking.{IsLowRoute, IsWalked, walked}
use Rattle.ca_node.proofs.Looking.{in_more}
use Rattle.ca_node.proofs.Tallies.{tallied_still}
use Rattle.ca_range.specs.Reaching.{IsKeyShown}
use Rattle.ca_range.specs.Staying.{OnlySteps}
use Rattle.ca_range.proofs.FirstBases.{gone_to, readable_of}
use Rattle.ca_range.proofs.Stepping.{known_same, none_more, steps_both, steps_by_walk, steps_none}
use Rattle.ca_replace.specs.Acts.{acts_of}
use Rattle.ca_replace.specs.Aside.{HasGoneLeft, HasLookedAside, HasLookedLeft, IsLeftEnd, MayGoLeft}
use Rattle.ca_replace.specs.Attempting.{helps, passes}
use Rattle.ca_replace.specs.Ranging.{IsAtWork}
use Rattle.ca_replace.specs.Within.{HasLearnt}
use Rattle.ca_replace.proofs.Counted.{none_paid, paid_both}
use Rattle.ca_replace.proofs.Entries.{held_upper}
use Rattle.ca_replace.proofs.Working.{work_after}
use Rattle.ca_rows.specs.declared.sizes.Sizes.{Sizes}
use Rattle.ca_rows.specs.declared.space.Pass.{Pass}
use Rattle.ca_rows.specs.declared.space.Space.{Space}
use Rattle.ca_rows.specs.Passes.{KeepsList}

-- The route that bounds a base's keys below was shown, with its key.
pub low_shown : (z : Sizes) (u : TreeView) (route : ℕ) (bound : Bound)
    → IsLowRoute z u.ways (Some route) bound
    → (its : List ℕ) × IsKeyShown u route its × (bound ≡ Included (route_key its))
low_shown z u route bound h = (
  h.0.its,
  record {
    shown = λ index fixed. (h.0.its, inr (inl ((h.0, h.1, h.2, refl), fixed)), refl);
    long =
        h.4.long;
    short = h.4.short;
  },
  h.3,
)

-- It is one of the space's rows.
pub low_inside : (z : Sizes) (u : TreeView) (route : ℕ) → IsLeftEnd z u route → route ≤ z.rows
low_inside z u route h = subst (λ (n : ℕ). n ≤ z.rows) h.low.2 h.low.4.in_range

-- What is right below a bound is on its left, and so is what is on the left of that.
below_left : (bound : Bound) (note : Note) → IsRightBelow bound note → IsLeftOf bound note
below_left Unbounded note b = b
below_left (Included key) note b = b.0
below_left (Excluded key) note b = b

less_too : (low : Bound) (key other : List ℕ) → LetsLess low key → bytes_cmp key other ≡ Less
    → LetsLess low other
less_too Unbounded key other l less = tt
less_too (Included low) key other l less = bytes_chain low key other l less
less_too (Excluded low) key other l less = bytes_chain low key other l less

left_too : (bound : Bound) (note new : Note) → IsLeftOf bound note
    → IsRightBelow note.place.span.low new → IsLeftOf bound new
left_too bound note new l b = by bound note.place.span.low l b
  where
    by : (bound low : Bound) → IsLeftOf bound
        (record note { place = record note.place { span = record note.place.span { low = low } } })
        → IsRightBelow low new → IsLeftOf bound new
    by Unbounded low l b = l
    by (Included key) Unbounded l b = absurd b
    by (Included key) (Included low) l b = less_too new.place.span.low low key b.0 l
    by (Included key) (Excluded low) l b = absurd b
    by (Excluded key) low l b = l

-- At first one base was shown, which begins at the route's key.
pub left_end : (z : Sizes) (u : TreeView) (route : ℕ) (note : Note) → u.notes ≡ note ∷ []
    → IsLowRoute z u.ways (Some route) note.place.span.low
    → IsLeftEnd z u route
left_end z u route note notes low = record {
  bound = note.place.span.low;
  low = low;
  left = λ new b other i. subst (λ (n : Note). IsLeftOf n.place.span.low new)
      (only (subst (λ (ns : List Note). IsIn other ns) notes i))
      (below_left note.place.span.low new b);
  beside = (note, subst (λ (ns : List Note). IsIn note ns) (sym notes) (0, refl), refl);
}
  where
    only : {other : Note} → IsIn other (note ∷ []) → note ≡ other
    only {other} i = ⊎_elim (λ (e : note ≡ other). e)
        (λ (o : IsIn other []). absurd (in_nothing other [] refl o)) (in_more note other [] i)

-- A turn by which the pass passes on counts alone.
steps_passed : {z : Sizes} (u : TreeView) → OnlySteps z 0 u (passed_on u)
steps_passed {z} u = record {
  only = refl;
  seen = none_more u;
  over = λ x i. i;
  lost_is = omega arith;
  known = known_same z u (passed_on u) refl refl refl;
  helped = omega arith;
  unfinished = λ x i. inl i;
  joins = omega arith;
  joined = omega arith;
}

-- Such a walk may be counted.
pub aside_of : (z : Sizes) (route : ℕ) (key : Bor (List ℕ)) (m mid : MyTree) (cursor : Cursor)
    → ((its : List ℕ) → IsKeyShown m.0.upper route its → key.now ≡ route_key its)
    → IsWalked z (spot.Below key) m cursor mid → IsLeftEnd z m.0.upper route
    → IsAside mid.0.upper
aside_of z route key m mid cursor key_is w end = let shown = low_shown z m.0.upper route end.bound
    end.low in
    let below : IsRightBelow end.bound w.note = subst (λ (b : Bound). IsRightBelow b w.note)
    (sym shown.2)
    (subst (λ (k : List ℕ). IsRightBelow (Included k) w.note) (key_is shown.0 shown.1) w.sought) in
    subst (λ (x : MyTree). IsAside x.0.upper) (sym w.now) record {
      some_row = w.is_base.some_row;
      before = m.0.upper.notes;
      notes = refl;
      left = λ note i. end.left w.note below note i;
      beside = (
        end.beside.0,
        end.beside.1,
        subst (λ (b : Bound). IsRightBelow b w.note)
            (sym end.beside.2) below,
      );
    }

-- Nothing was looked at.
pub left_none : (z : Sizes) (a : Spent) (m : MyTree) → HasLookedLeft z a a m m
left_none z a m = record {
  raised = refl;
  steps = steps_none m.0.upper;
  no_join = refl;
  unfinished =
      refl;
  paid = none_paid a m m refl refl;
}

-- A walk is no turn.
pub left_walked : (z : Sizes) (a : Spent) (place : Spot) (m m' : MyTree) (cursor : Cursor)
    → IsWalked z place m cursor m' → HasLookedLeft z a a m m'
left_walked z a place m m' cursor w = record {
  raised = w.now ∙ sym (ap (λ (x : MyTree). with_upper m x.0.upper) w.now);
  steps = steps_by_walk place m m' cursor w;
  no_join = ap (λ (x : MyTree). x.0.upper.joins) w.now;
  unfinished = ap (λ (x : MyTree). x.0.upper.ranges.unfinished) w.now;
  paid = none_paid a m m' (ap losses w.now) (ap (λ (x : MyTree). x.0.upper.turns) w.now);
}

-- Looks behind looks.
pub left_both : (z : Sizes) (a b c : Spent) (k m n : MyTree) → HasLookedLeft z a b k m
    → HasLookedLeft z b c m n → HasLookedLeft z a c k n
left_both z a b c k m n x y = record {
  raised = y.raised ∙ ap (λ (t : MyTree). with_upper t n.0.upper) x.raised;
  steps = steps_both k.0.upper m.0.upper n.0.upper x.steps y.steps;
  no_join = y.no_join ∙ x.no_join;
  unfinished = y.unfinished ∙ x.unfinished;
  paid = paid_both a b c k m n x.paid y.paid;
}

-- One base more was looked at.
module _ (z : Sizes) (route : ℕ) (cursor : Cursor) (m m' : MyTree)
    (h : HasLookedAside z route cursor m m') where
  abbrev mid : MyTree
  mid = h.mid

  pub now : m' ≡ with_upper m
      (passed_on (walked m.0.upper h.walked.more h.walked.note h.walked.ways h.walked.loads))
  now = h.counted ∙ ap (λ (x : MyTree). with_upper x (passed_on x.0.upper)) h.walked.now

  same_lost : losses m' ≡ losses m
  same_lost = ap (λ (x : MyTree). losses x) now

  pub one_passed_on : passes m' ≡ passes m + 1
  one_passed_on = ap (λ (x : MyTree). passes x) now

  pub same_helped : helps m' ≡ helps m
  same_helped = ap (λ (x : MyTree). helps x) now

  aside_left : (a b : Spent) → b.passed ≡ min (a.passed + 1) 4294967295 → (b.lost ≡ a.lost)
      × (b.helped ≡ a.helped)
      → HasLookedLeft z a b m m'
  aside_left a b more others = let lost = same_lost in let helped = same_helped in
      let passed = one_passed_on in
      let l = others.0 in let p = others.1 in record {
        raised = now ∙ sym (ap (λ (x : MyTree). with_upper m x.0.upper) now);
        steps = steps_both m.0.upper mid.0.upper m'.0.upper (steps_by_walk (spot.Below h.key) m mid
            cursor h.walked)
            (subst (λ (x : MyTree). OnlySteps z 0 mid.0.upper x.0.upper) (sym h.counted)
            (steps_passed mid.0.upper));
        no_join = ap (λ (x : MyTree). x.0.upper.joins) now;
        unfinished = ap (λ (x : MyTree). x.0.upper.ranges.unfinished) now;
        paid = record {
          more = omega arith;
          lost = λ fits. omega arith;
          more_helped = omega arith;
          helped = λ fits. omega arith;
          more_passed = omega arith;
          passed = λ fits. omega arith;
        };
      }

  -- Behind others.
  pub one_more_left : (o a b : Spent) (k : MyTree) → HasLookedLeft z o a k m
      → b.passed ≡ min (a.passed + 1) 4294967295
      → (b.lost ≡ a.lost) × (b.helped ≡ a.helped) → HasLookedLeft z o b k m'
  one_more_left o a b k before more others = left_both z o a b k m m' before
      (aside_left a b more others)

  pub aside_readable : z.leaf ≤ 120 → IsReadable z m'.0.upper cursor.base
      (first_note m'.0.upper.notes)
  aside_readable most = let r = readable_of z mid.0.upper cursor
      (gone_to z (spot.Below h.key) m mid cursor h.walked most) in
      subst (λ (x : MyTree). IsReadable z x.0.upper cursor.base (first_note x.0.upper.notes))
      (sym h.counted)
      (record {
        noted = r.noted;
        here = r.here;
        is_base = r.is_base;
        few = r.few;
        ordered =
            r.ordered;
      })

  pub here : first_note m'.0.upper.notes ≡ h.walked.note
  here = ap (λ (x : MyTree). first_note x.0.upper.notes) now

  same_ways : m'.0.upper.ways ≡ mid.0.upper.ways
  same_ways = ap (λ (x : MyTree). x.0.upper.ways) h.counted

  -- It is right below where the one before begins.
  pub right_below : (bound : Bound) → IsLowRoute z m.0.upper.ways (Some route) bound
      → IsRightBelow bound (first_note m'.0.upper.notes)
  right_below bound low = let shown = low_shown z m.0.upper route bound low in
      subst (λ (n : Note). IsRightBelow bound n) (sym here)
      (subst (λ (b : Bound). IsRightBelow b h.walked.note) (sym shown.2)
      (subst (λ (k : List ℕ). IsRightBelow (Included k) h.walked.note) (h.key_is shown.0 shown.1)
      h.walked.sought))

  pub one_note : m'.0.upper.notes ≡ first_note m'.0.upper.notes ∷ m.0.upper.notes
  one_note = ap (λ (x : MyTree). x.0.upper.notes) now
      ∙ sym (ap (λ (x : MyTree). first_note x.0.upper.notes ∷ m.0.upper.notes) now)

  pub gone_left : (from : ℕ) (k : MyTree) → MayGoLeft z from route k m → HasGoneLeft z from k m'
  gone_left from k may = let turns = may.turns in let passed = one_passed_on in record {
    looks = first_note m'.0.upper.notes ∷ may.looks;
    some = omega arith;
    notes = one_note ∙ ap (λ (ns : List Note). first_note m'.0.upper.notes ∷ ns) may.notes;
    turns = omega arith;
    are = may.next (first_note m'.0.upper.notes) (right_below may.end.bound may.end.low);
  }

  -- Where it begins.
  pub aside_low : IsLowRoute z m'.0.upper.ways cursor.low
      (first_note m'.0.upper.notes).place.span.low
  aside_low = subst (λ (x : List Way × Note). IsLowRoute z x.0 cursor.low x.1.place.span.low)
      (λ i. (sym same_ways i, sym here i)) h.walked.cursor_is.low

  pub aside_bound : (next : ℕ) → cursor.low ≡ Some next → IsLeftEnd z m.0.upper route
      → IsLeftEnd z m'.0.upper next
  aside_bound next is end = let note : Note = first_note m'.0.upper.notes in
      let below = right_below end.bound end.low in record {
        bound = note.place.span.low;
        low = subst (λ (r : Option ℕ). IsLowRoute z m'.0.upper.ways r note.place.span.low) is
            aside_low;
        left = λ new b other i. ⊎_elim
            (λ (e : note ≡ other). subst (λ (n : Note). IsLeftOf n.place.span.low new) e
            (below_left note.place.span.low new b))
            (λ (o : IsIn other m.0.upper.notes). left_too other.place.span.low note new
            (end.left note below other o) b)
            (in_more note other m.0.upper.notes (subst (λ (ns : List Note). IsIn other ns) one_note
            i));
        beside = (note, subst (λ (ns : List Note). IsIn note ns) (sym one_note) (0, refl), refl);
      }

  -- Where it has no object, and begins with a route's key, the next one is right below that.
  pub may_go_on : (from next : ℕ) (k : MyTree) → MayGoLeft z from route k m → cursor.low ≡ Some next
      → (first_note m'.0.upper.notes).objects ≡ []
      → MayGoLeft z from next k m'
  unfolding gone_left aside_bound
  may_go_on from next k may is none = let gone = gone_left from k may in
      let note : Note = first_note m'.0.upper.notes in record {
        looks = gone.looks;
        notes = gone.notes;
        turns = gone.turns;
        end = aside_bound next is may.end;
        next = λ n below. (below, none, gone.are);
      }

-- At first the next look is one to the left of that route's key.
pub may_go_first : (z : Sizes) (from : ℕ) (m : MyTree) → IsLeftEnd z m.0.upper from
    → MayGoLeft z from from m m
may_go_first z from m b = record {
  looks = [];
  notes = refl;
  turns = omega arith;
  end = b;
  next = λ n below. (b.bound, b.low, below);
}

-- Looks learn of others' edits alone, and met nothing of the pool.
module _ (z : Sizes) (a b : Spent) (m m' : MyTree) (h : HasLookedLeft z a b m m') where
  pub left_learnt : IsKnown z m.0.upper → HasLearnt z m.0.upper m'.0.upper
  left_learnt known = let s = h.steps in record {
    further = record {
      number = ap (λ (u : TreeView). u.number) s.only;
      seen = s.seen;
      log = ap (λ (u : TreeView). u.log) s.only;
      counts = ap (λ (u : TreeView). u.counts) s.only;
    };
    known = s.known known;
    since = ap (λ (u : TreeView). u.since) s.only;
    acts = ap acts_of s.only;
  }

  pub left_met : HasMet 0 0 m m'
  left_met = let empty = ap (λ (x : MyTree). x.0.empty) h.raised in
      let worn = ap (λ (x : MyTree). x.0.worn) h.raised in (omega arith, omega arith)

-- Looks to the left behind a walk.
pub left_behind : (z : Sizes) (a b : Spent) (place : Spot) (k m n : MyTree) (cursor : Cursor)
    → IsWalked z place k cursor m → HasLookedLeft z a b m n
    → HasLookedLeft z a b k n
left_behind z a b place k m n cursor w h = left_both z a a b k m n
    (left_walked z a place k m cursor w) h

-- Nor do they move the pass.
module _ {R : Type 0} {space : Space R TreeView} {pass new : Pass R TreeView} {a b : Spent} where
  pub left_stays : IsReady space pass → KeepsList pass new → HasLookedLeft space.table.shared.key a
      b pass.seat.me new.seat.me → StaysReady space pass new
  left_stays r k h = let s = h.steps in record {
    same = k.same;
    number = k.number;
    tally = tallied_still pass.tally new.tally pass.seat.me.0.upper new.seat.me.0.upper k.tally
        (ap (λ (u : TreeView). u.splits) s.only)
        h.no_join;
    pin = (ap (λ (x : MyTree). x.0.sizes) h.raised, ap (λ (x : MyTree). x.0.pin) h.raised);
    own_range = ap (λ (u : TreeView). u.ranges.own) s.only;
    none = held_upper space.table.shared.key.rows pass.kept new.kept pass.seat.me new.seat.me
        new.seat.me.0.upper [] r.none h.raised
        (ap (λ (u : TreeView). u.ranges.own) s.only) k.kept;
  }

  pub left_work : IsAtWork space pass → KeepsList pass new → HasLookedLeft space.table.shared.key a
      b pass.seat.me new.seat.me → IsAtWork space new
  left_work w k h = work_after w (left_stays w.ready k h) (h.steps.known w.known)
      (ap (λ (u : TreeView). u.number) h.steps.only)

-- The same pass keeps the same rows behind two steps.
pub keeps_both : {R : Type 0} {pass mid new : Pass R TreeView} → KeepsList pass mid
    → KeepsList mid new → KeepsList pass new
keeps_both f g = record {
  same = (g.same.0 ∙ f.same.0, g.same.1 ∙ f.same.1);
  number = g.number ∙ f.number;
  tally = g.tally ∙ f.tally;
  kept = g.kept ∙ f.kept;
}
