-- A gap behind the bases that a range marked is filled.
use Rattle.std.specs.Prelude.{slice_index}
use Rattle.std.proofs.Common.{◌≡◌, ◌⊎◌, ℕ, ◌<◌, ◌≤◌, List, sym, refl, ap, ◌∙◌, subst, inl, inr, ⊎_elim, arith}
use Rattle.ca_model.specs.declared.outcome.Spent.{Spent}
use Rattle.ca_base.specs.Counting.{HasMet, losses}
use Rattle.ca_base.proofs.Counts.{met_both}
use Rattle.ca_range.specs.Farther.{reach, reach_to}
use Rattle.ca_range.specs.Filling.{GoesTo, HasStepped, IsCopyOf, IsEnded, IsHelpedTo, IsInUse, IsOneOver, IsPassedOn}
use Rattle.ca_range.specs.declared.account.Range.{Range}
use Rattle.ca_range.specs.declared.filling.Step.{Step}
use Rattle.ca_range.specs.declared.filling.Step.TheVariants as step
use Rattle.ca_range.specs.declared.helped.Helped.{Helped}
use Rattle.ca_range.specs.declared.helped.Helped.TheVariants as helped
use Rattle.ca_base.specs.Finding.{IsAtCursor, IsBaseShown}
use Rattle.ca_base.specs.Putting.{first_note}
use Rattle.ca_adapt.specs.Statistics.{IsPastWord}
use Rattle.ca_adapt.specs.declared.tuning.Tuning.{Tuning}
use Rattle.ca_node.specs.declared.cursor.Cursor.{Cursor}
use Rattle.ca_node.specs.Links.{IsIn}
use Rattle.ca_node.specs.Notes.{IsBaseNote}
use Rattle.ca_node.specs.Told.{MyTree, with_upper}
use Rattle.ca_node.specs.TreeView.{Note, Way, Unfinished, TreeView}
use Rattle.ca_node.specs.Walking.{IsAbove, IsHighRoute}
use Rattle.ca_rows.specs.declared.sizes.Sizes.{Sizes}
use Rattle.ca_range.specs.Ahead.{IsAtLast, IsAtMarked, IsFoundOver}
use Rattle.ca_range.specs.Filling.{RemembersAll}
use Rattle.ca_range.specs.Marked.{IsMarkedNow}
use Rattle.ca_range.specs.Staying.{HasJoined, IsCounted, OnlySteps}
use Rattle.ca_range.specs.declared.copying.Mark.{Mark}
use Rattle.ca_range.specs.declared.marks.MarkedBase.{MarkedBase}
use Rattle.ca_range.proofs.Stepping.{counted_both}

-- The same base was shown last.
pub at_same : (z : Sizes) (u v : TreeView) (cursor : Cursor) → RemembersAll u v → IsAtLast z u cursor → IsAtLast z v cursor
at_same z u v cursor all at = record {
  shown = record {
    noted = subst (λ (ns : List Note). IsIn (first_note ns) ns) (sym all.notes) at.shown.noted;
    here = ap (λ (ns : List Note). (first_note ns).row) all.notes ∙ at.shown.here;
    is_base = subst (λ (ns : List Note). IsBaseNote z (first_note ns)) (sym all.notes) at.shown.is_base;
  };
  at = subst (λ (ns : List Note). IsAtCursor z (first_note ns) cursor) (sym all.notes) at.at;
  above = subst (λ (ws : List Way). IsAbove z ws cursor.link cursor.above) (sym all.ways) at.above;
  high = subst (λ (p : List Way × List Note). IsHighRoute z p.0 cursor.high (first_note p.1).place.span.high) (λ i. (sym all.ways i, sym all.notes i)) at.high;
}

-- As one that was shown.
pub last_shown : (z : Sizes) (u : TreeView) (cursor : Cursor) → IsAtLast z u cursor → IsBaseShown z u cursor.base (first_note u.notes)
last_shown z u cursor at = record { noted = at.shown.noted; here = at.shown.here; is_base = at.shown.is_base }

-- The copy was shown last, where the base hung.
pub at_copy : (z : Sizes) (mark : Mark) (u v : TreeView) (next : Cursor) (row : ℕ) → IsAtLast z u next → IsMarkedNow z (first_note u.notes) mark row u v
    → IsAtMarked z v mark.range (record next { base = row })
at_copy z mark u v next row at k = subst (λ (x : TreeView). IsAtMarked z x mark.range (record next { base = row })) (sym k.now) record {
  at = record {
    shown = record { noted = (0, refl); here = refl; is_base = k.is_base };
    at = record {
      base = refl;
      link = ap (λ (n : Note). n.place.link) k.old_is ∙ at.at.link;
      level = ap (λ (n : Note). n.place.level) k.old_is ∙ at.at.level;
      inside = at.at.inside;
    };
    above = at.above;
    high = subst (λ (n : Note). IsHighRoute z u.ways next.high n.place.span.high) (sym k.old_is) at.high;
  };
  marked = k.marked;
}

-- It is a copy of that base, with the word of its mark for its statistic.
pub copy_is : (z : Sizes) (mark : Mark) (w u v : TreeView) (next : Cursor) (row : ℕ) → u.notes ≡ w.notes → IsMarkedNow z (first_note u.notes) mark row u v
    → IsCopyOf (first_note w.notes) mark.statistic (step.Marked next) v
copy_is z mark w u v next row same k = subst (IsCopyOf (first_note w.notes) mark.statistic (step.Marked next)) (sym k.now) (
  ap first_note same,
  ap (λ (n : Note). n.place) k.old_is ∙ ap (λ (ns : List Note). (first_note ns).place) same,
  ap (λ (n : Note). n.objects) k.old_is ∙ ap (λ (ns : List Note). (first_note ns).objects) same,
  k.statistic_is,
)

-- So it has what a range makes of the base's statistic, where that word is for it.
pub passed_on : (t : Tuning) (s : Step) (u v : TreeView) (word : ℕ) → IsPastWord t (slice_index (first_note u.notes).its 1) word
    → IsCopyOf (first_note u.notes) word s v → IsPassedOn t s v
passed_on t (step.Marked next) u v word p c = (
  c.1 ∙ sym (ap (λ (n : Note). n.place) c.0),
  c.2 ∙ sym (ap (λ (n : Note). n.objects) c.0),
  subst (λ (x : Note × ℕ). IsPastWord t (slice_index x.0.its 1) x.1) (λ i. (sym c.0 i, sym c.3 i)) p,
)
passed_on t (step.Met next) u v word p c = tt
passed_on t (step.Ended helped) u v word p c = tt

-- Of the pool nothing was met.
pub raised_met : (m m' : MyTree) (u : TreeView) → m' ≡ with_upper m u → HasMet 0 0 m m'
raised_met m m' u is = let e = ap (λ (x : MyTree). x.0.empty) is in let w = ap (λ (x : MyTree). x.0.worn) is in (omega arith, omega arith)

-- A join was carried out behind steps.
joined_after : {z : Sizes} {n : ℕ} (u v w : TreeView) → OnlySteps z n u v → HasJoined v w → HasJoined u w
joined_after u v w a j = let joins = a.joins in let helped = a.helped in let more = j.0 in let one = j.1 in (omega arith, omega arith)

-- A range was found over behind steps.
over_after : {z : Sizes} (range : Range) (u v w : TreeView) → OnlySteps z 0 u v → v.turns.helped ≤ w.turns.helped → reach u ≤ reach v
    → IsFoundOver range v w → IsFoundOver range u w
over_after range u v w steps more far o = record {
  over = o.over;
  counted = counted_both range u v w steps more o.counted;
  marked = o.marked;
  far = let then = o.far in omega arith;
}

-- A step came after others that met nothing of the pool.
ended_after : (z : Sizes) (range : Range) (h : Helped) (k m n : MyTree) → HasMet 0 0 k m → OnlySteps z 0 k.0.upper m.0.upper → losses k ≤ losses m
    → m.0.upper.turns.helped ≤ n.0.upper.turns.helped → reach k.0.upper ≤ reach m.0.upper → IsEnded z range h m n → IsEnded z range h k n
ended_after z range helped.Finished k m n met steps lost more far e = (
  ⊎_elim (λ (o : IsFoundOver range m.0.upper n.0.upper). inl (over_after range k.0.upper m.0.upper n.0.upper steps more far o))
      (λ (j : HasJoined m.0.upper n.0.upper). inr (joined_after k.0.upper m.0.upper n.0.upper steps j)) e.0,
  met_both 0 0 0 0 k m n met e.1,
)
ended_after z range (helped.Lost exchange) k m n met steps lost more far e = let some = e.0 in (omega arith, met_both 0 0 0 0 k m n met e.1)
ended_after z range (helped.Busy spent) k m n met steps lost more far e = e
ended_after z range helped.NoRow k m n met steps lost more far e = met_both 0 0 1 0 k m n met e
ended_after z range (helped.Worn which) k m n met steps lost more far e = (met_both 0 0 0 1 k m n met e.0, e.1)

pub stepped_after : (z : Sizes) (range : Range) (s : Step) (k m n : MyTree) → m ≡ with_upper k m.0.upper → OnlySteps z 0 k.0.upper m.0.upper
    → losses k ≤ losses m → k.0.upper.turns.passed ≤ m.0.upper.turns.passed → m.0.upper.turns.helped ≤ n.0.upper.turns.helped
    → reach k.0.upper ≤ reach m.0.upper → HasStepped z range s m n → HasStepped z range s k n
stepped_after z range (step.Marked next) k m n raised steps lost passed more far h = let less = h.1 in
    (h.0, omega arith, met_both 0 0 0 0 k m n (raised_met k m m.0.upper raised) h.2)
stepped_after z range (step.Met next) k m n raised steps lost passed more far h =
    (h.0, h.1, met_both 0 0 0 0 k m n (raised_met k m m.0.upper raised) h.2)
stepped_after z range (step.Ended h) k m n raised steps lost passed more far e =
    ended_after z range h k m n (raised_met k m m.0.upper raised) steps lost more far e

-- The help goes on with this range: it is the one that it began with, or was found unfinished, or one was counted.
abbrev pub IsHelpedNow : Range → Range → TreeView → TreeView → Type 0
IsHelpedNow first now u v = (now ≡ first) ⊎ (IsIn {A = Unfinished} (record { pass = now.owner; number = now.number }) v.ranges.unfinished
    ⊎ (u.turns.helped < v.turns.helped))

-- So it does after more steps.
pub now_still : {z : Sizes} (first now : Range) (u v w : TreeView) → OnlySteps z 0 u v → OnlySteps z 0 v w → IsHelpedNow first now u v
    → IsHelpedNow first now u w
now_still first now u v w a b (inl same) = inl same
now_still first now u v w a b (inr (inl met)) = let less = a.helped in
    ⊎_elim (λ (i : IsIn {A = Unfinished} (record { pass = now.owner; number = now.number }) w.ranges.unfinished). inr (inl i))
    (λ (l : v.turns.helped < w.turns.helped). inr (inr (omega arith))) (b.unfinished (record { pass = now.owner; number = now.number }) met)
now_still first now u v w a b (inr (inr more)) = let less = b.helped in inr (inr (omega arith))

-- Its end is counted.
pub one_over : {z : Sizes} (first now : Range) (u v w : TreeView) → OnlySteps z 0 u v → v.turns.helped ≤ w.turns.helped → IsHelpedNow first now u v
    → reach u ≤ reach v → IsFoundOver now v w → IsOneOver first u w
one_over first now u v w a more (inl same) far o = record {
  last = now;
  over = o.over;
  which = inl same;
  counted = counted_both first u v w a more (subst (λ (r : Range). IsCounted r v w) same o.counted);
  marked = o.marked;
  far = let then = o.far in omega arith;
}
one_over first now u v w a more (inr (inl met)) far o = let less = a.helped in let then = o.counted met in record {
  last = now;
  over = o.over;
  which = inr (omega arith);
  counted = λ i. omega arith;
  marked = o.marked;
  far = let on = o.far in omega arith;
}
one_over first now u v w a more (inr (inr one)) far o = record {
  last = now;
  over = o.over;
  which = inr (omega arith);
  counted = λ i. omega arith;
  marked = o.marked;
  far = let on = o.far in omega arith;
}

-- So the help ended.
pub helped_after : (z : Sizes) (first now : Range) (budget : ℕ) (spent : Spent) (h : Helped) (k m n : MyTree) → HasMet 0 0 k m
    → OnlySteps z 0 k.0.upper m.0.upper → losses k ≤ losses m → m.0.upper.turns.helped ≤ n.0.upper.turns.helped
    → IsHelpedNow first now k.0.upper m.0.upper → reach k.0.upper ≤ reach m.0.upper → IsEnded z now h m n → IsHelpedTo z first budget spent h k n
helped_after z first now budget spent helped.Finished k m n met steps lost more goes far e = (
  ⊎_elim (λ (o : IsFoundOver now m.0.upper n.0.upper). inl (one_over first now k.0.upper m.0.upper n.0.upper steps more goes far o))
      (λ (j : HasJoined m.0.upper n.0.upper). inr (joined_after k.0.upper m.0.upper n.0.upper steps j)) e.0,
  met_both 0 0 0 0 k m n met e.1,
)
helped_after z first now budget spent (helped.Lost exchange) k m n met steps lost more goes far e = let some = e.0 in
    (omega arith, met_both 0 0 0 0 k m n met e.1)
helped_after z first now budget spent (helped.Busy told) k m n met steps lost more goes far e = absurd e
helped_after z first now budget spent helped.NoRow k m n met steps lost more goes far e = met_both 0 0 1 0 k m n met e
helped_after z first now budget spent (helped.Worn which) k m n met steps lost more goes far e = (met_both 0 0 0 1 k m n met e.0, e.1)

-- So it ended behind steps that counted no operation.
pub helped_behind : (z : Sizes) (range : Range) (budget : ℕ) (spent : Spent) (h : Helped) (k m n : MyTree) → HasMet 0 0 k m → OnlySteps z 0 k.0.upper m.0.upper
    → losses k ≤ losses m → reach k.0.upper ≤ reach m.0.upper
    → m.0.upper.turns.helped ≤ n.0.upper.turns.helped → IsHelpedTo z range budget spent h m n → IsHelpedTo z range budget spent h k n
helped_behind z range budget spent helped.Finished k m n met steps lost far more e = (
  ⊎_elim (λ (o : IsOneOver range m.0.upper n.0.upper). let less = steps.helped in inl (record {
    last = o.last;
    over = o.over;
    which = ⊎_elim (λ (same : o.last ≡ range). inl same) (λ (one : m.0.upper.turns.helped < n.0.upper.turns.helped). inr (omega arith)) o.which;
    counted = counted_both range k.0.upper m.0.upper n.0.upper steps more o.counted;
    marked = o.marked;
    far = let then = o.far in omega arith;
  })) (λ (j : HasJoined m.0.upper n.0.upper). inr (joined_after k.0.upper m.0.upper n.0.upper steps j)) e.0,
  met_both 0 0 0 0 k m n met e.1,
)
helped_behind z range budget spent (helped.Lost exchange) k m n met steps lost far more e = let some = e.0 in
    (omega arith, met_both 0 0 0 0 k m n met e.1)
helped_behind z range budget spent (helped.Busy told) k m n met steps lost far more e = (e.0, e.1, met_both 0 0 0 0 k m n met e.2)
helped_behind z range budget spent helped.NoRow k m n met steps lost far more e = met_both 0 0 1 0 k m n met e
helped_behind z range budget spent (helped.Worn which) k m n met steps lost far more e = (met_both 0 0 0 1 k m n met e.0, e.1)

-- The base of another range was marked by it.
pub at_met : (z : Sizes) (u : TreeView) (next : MarkedBase) → IsAtLast z u next.cursor → IsInUse u (first_note u.notes) next.range
    → IsAtMarked z u next.range next.cursor
at_met z u next at used = record { at = at; marked = used.marked }

-- It goes as far as the one that was shown before.
pub far_same : (u v : TreeView) → RemembersAll u v → reach v ≡ reach u
far_same u v all = ap (λ (ns : List Note). reach_to (first_note ns).place.span.high) all.notes

pub far_copy : (z : Sizes) (mark : Mark) (w u v : TreeView) (row : ℕ) → u.notes ≡ w.notes → IsMarkedNow z (first_note u.notes) mark row u v → reach v ≡ reach w
far_copy z mark w u v row same k = ap reach k.now ∙ (ap (λ (n : Note). reach_to n.place.span.high) k.old_is
    ∙ ap (λ (ns : List Note). reach_to (first_note ns).place.span.high) same)

-- The least of how far it goes is less before other steps.
pub goes_to : (n m : ℕ) (s : Step) (u : TreeView) → n ≤ m → GoesTo m s u → GoesTo n s u
goes_to n m (step.Marked next) u less g = omega arith
goes_to n m (step.Met next) u less g = omega arith
goes_to n m (step.Ended helped) u less g = tt
