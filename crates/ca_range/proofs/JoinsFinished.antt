-- What comes of an attempt to join that was secured, and was to be carried out.
use Rattle.std.proofs.Common.{◌≡◌, ℕ, ◌+◌, ◌*◌, ◌<◌, ◌≤◌, ◌++◌, min, IsTrue, nat_lt, ◌↔◌, Bool, true, false, cond, List, Option, None, Some, sym, refl, ap, ◌∙◌, subst, inl, inr, ⊎_elim, arith}
use Rattle.std.proofs.lemmas.Bool.Decides.{nat_tests}
use Rattle.ca_adapt.specs.Finishing.{HasFinished, HasTriedNone, IsHungBy, IsSteps}
use Rattle.ca_adapt.specs.declared.finishing.Finish.{Finish}
use Rattle.ca_adapt.specs.declared.joining.Attempt.{Attempt as Marker}
use Rattle.ca_adapt.specs.declared.finishing.Finish.TheVariants as finish
use Rattle.ca_base.proofs.Counts.{met_both}
use Rattle.ca_base.specs.Counting.{losses, HasMet}
use Rattle.ca_base.specs.Finding.{IsBaseShown}
use Rattle.ca_base.specs.Spending.{RisesBy, IsSpentOn}
use Rattle.ca_model.specs.declared.outcome.Spent.{Spent}
use Rattle.ca_node.specs.Layout.{root_word}
use Rattle.ca_node.specs.Links.{IsIn}
use Rattle.ca_node.specs.Place.{IsLinkOf, all_keys, left_of, right_of}
use Rattle.ca_node.specs.Row.{mark, route_key, IsMarkedFor}
use Rattle.ca_node.specs.Told.{MyTree, IsAnyLink, link_word}
use Rattle.ca_node.specs.TreeView.{Border, Note, KnownRanges, Turns, Unfinished, Way, TreeView, one_helped}
use Rattle.ca_node.specs.Walking.{IsAbove, IsHungOn, IsLinkAmong}
use Rattle.ca_node.specs.declared.link.Link.{Link}
use Rattle.ca_node.specs.declared.link.Link.TheVariants as link
use Rattle.ca_rows.specs.Layout.{row_words}
use Rattle.ca_rows.specs.Passes.{KeepsList, OnlyReads}
use Rattle.ca_rows.specs.declared.sizes.Sizes.{Sizes}
use Rattle.ca_rows.specs.declared.space.Pass.{Pass}
use Rattle.ca_rows.specs.declared.space.Space.{Space}
use Rattle.ca_range.specs.Attempts.{CountsJoin, HasCarriedOut, HasEndedJoin, HasFinishedJoin, HasFreed, HasGivenUp, HasTriedJoin, IsMarkTold, IsNoJoin, LearnsOfJoins, helped_by, spent_with}
use Rattle.ca_range.specs.Clearing.{HasGone, none_spent, turns_at}
use Rattle.ca_range.specs.Filling.{IsEnded, links_lost, links_of}
use Rattle.ca_range.specs.Staying.{OnlySteps, with_steps_of}
use Rattle.ca_range.specs.declared.account.Range.{Range}
use Rattle.ca_range.specs.declared.helped.Helped.{Helped}
use Rattle.ca_range.specs.declared.helped.Helped.TheVariants as helped
use Rattle.ca_range.specs.declared.joins.JoinEnd.{JoinEnd}
use Rattle.ca_range.specs.declared.joins.JoinEnd.TheVariants as end
use Rattle.ca_range.proofs.Filled.{raised_met}
use Rattle.ca_range.proofs.JoinsEnded.{joined_none, joined_raised, joined_steps, joined_unfinished, joined_borders, learns_both, unjoined_by}
use Rattle.ca_range.proofs.Learning.{reads_keep}
use Rattle.ca_range.proofs.Readied.{reads_stay, stays_then}
use Rattle.ca_range.proofs.Stepping.{steps_both}

-- A link is one of one route.
one_route : (a b l : ℕ) → IsLinkOf a l → IsLinkOf b l → a ≡ b
one_route a b l of other = ⊎_elim
    (λ (e : l ≡ row_words * a + 1). ⊎_elim (λ (f : l ≡ row_words * b + 1). omega arith) (λ (f : l ≡ row_words * b + 2). omega arith) other)
    (λ (e : l ≡ row_words * a + 2). ⊎_elim (λ (f : l ≡ row_words * b + 1). omega arith) (λ (f : l ≡ row_words * b + 2). omega arith) other)
    of

not_root : (route : ℕ) → IsLinkOf route root_word → ⊥
not_root route of = ⊎_elim (λ (e : root_word ≡ row_words * route + 1). omega arith) (λ (e : root_word ≡ row_words * route + 2). omega arith) of

-- Where a base hangs on a link of a route, it is known on which link that one hung.
pub hung_above : (z : Sizes) (ways : List Way) (l : Link) (a : Option Link) (route : ℕ) → IsAbove z ways l a → IsLinkOf route (link_word l)
    → (above : Link) × (a ≡ Some above) × IsHungOn z ways route above
hung_above z ways link.Root a route is of = absurd (not_root route of)
hung_above z ways (link.Left r) None route is of = absurd is
hung_above z ways (link.Left r) (Some above) route is of =
    (above, refl, subst (λ (n : ℕ). IsHungOn z ways n above) (one_route r route (row_words * r + 1) (inl refl) of) is)
hung_above z ways (link.Right r) None route is of = absurd is
hung_above z ways (link.Right r) (Some above) route is of =
    (above, refl, subst (λ (n : ℕ). IsHungOn z ways n above) (one_route r route (row_words * r + 2) (inr refl) of) is)

-- A link of a route that is remembered is one that a seat knows.
any_link : (u : TreeView) (l : ℕ) → IsLinkAmong u.ways l → IsAnyLink u l
any_link u l (inl root) = (0, all_keys, inl (root, refl, refl))
any_link u l (inr (way, i, inl left)) = (way.place.level + 1, left_of (route_key way.its) way.place.span, inr (way, i, refl, inl (left, refl)))
any_link u l (inr (way, i, inr right)) = (way.place.level + 1, right_of (route_key way.its) way.place.span, inr (way, i, refl, inr (right, refl)))

pub hung_by : (z : Sizes) (u : TreeView) (route : ℕ) (above : Link) → IsHungOn z u.ways route above → IsHungBy z u route above
hung_by z u route above h = record {
  way = h.way;
  remembered = h.remembered;
  row_is = h.row_is;
  link_is = h.link_is;
  is_route = h.is_route;
  known = any_link u (link_word above) h.known;
  inside = h.inside;
}

-- What was spent was added.
rises_more : (a more from to : ℕ) → RisesBy 0 more from to → RisesBy a (min 4294967295 (a + more)) from to
rises_more a more from to r = let up = r.more in record { more = r.more; now_is = λ fits. let is = r.now_is (omega arith) in omega arith }

pub spent_more : (a more : Spent) (m m' : MyTree) → IsSpentOn none_spent more m m' → IsSpentOn a (spent_with a more) m m'
spent_more a more m m' s = record {
  lost = rises_more a.lost more.lost (losses m) (losses m') s.lost;
  helped = rises_more a.helped more.helped m.0.upper.turns.helped m'.0.upper.turns.helped s.helped;
  passed = rises_more a.passed more.passed m.0.upper.turns.passed m'.0.upper.turns.passed s.passed;
}

less_is : (a b : ℕ) → nat_lt a b ≡ true → a < b
less_is a b e = grind (arith, nat_tests)

not_less : (a b : ℕ) → nat_lt a b ≡ false → b ≤ a
not_less a b e = grind (arith, nat_tests)

none_tried : (m m' : MyTree) → HasTriedNone m.0.upper m'.0.upper → IsNoJoin 0 m.0.upper m'.0.upper
none_tried m m' t = (t.joins, t.turns, let same = t.lost in omega arith)

-- An exchange of the link was lost where one was counted.
module _ (z : Sizes) (counted : Bool) (more : Spent) (m m' : MyTree) (s : IsSpentOn none_spent more m m') where
  lost_none : losses m' ≡ losses m → more.lost ≡ 0
  lost_none same = let is = s.lost.now_is (omega arith) in omega arith

  lost_some : losses m < losses m' → 0 < more.lost
  lost_some less = let is = s.lost.now_is (omega arith) in omega arith

  by_count : (b : Bool) → b ≡ nat_lt 0 more.lost → IsTrue b ↔ (0 < more.lost)
  by_count true is = ((λ _. less_is 0 more.lost (sym is)), λ _. refl)
  by_count false is = ((λ on. let no : false ≡ true = on in cc), λ some. let none = not_less 0 more.lost (sym is) in absurd (omega arith))

  pub tried_join : (f : Finish) (b : Bool) → b ≡ nat_lt 0 more.lost → HasFinished z counted f m m' → HasTriedJoin counted (helped_by f b) m m'
  tried_join finish.Done true is h = ⊎_elim
      (λ won. let none = lost_none won.1 in let some = (by_count true is).0 refl in absurd (omega arith))
      (λ lost. (h.ends.0, lost.1, (lost.0.joins, lost.0.turns, lost.0.lost))) h.ends.1
  tried_join finish.Done false is h = ⊎_elim
      (λ won. (h.ends.0, won.0.joins, won.0.turns, won.0.lost, won.1))
      (λ lost. let no : false ≡ true = (by_count false is).1 (lost_some lost.1) in cc) h.ends.1
  tried_join finish.NoRow b is h = (h.ends.0, none_tried m m' h.ends.1)
  tried_join finish.Lost b is h = (h.ends.0, h.ends.2, none_tried m m' h.ends.1)
  tried_join finish.Worn b is h = (h.ends.0, refl, none_tried m m' h.ends.1)

-- what was counted of joins and turns: how many joins were carried out, how many operations were helped, how many exchanges of a link were lost
record Counts (m m' : MyTree) (lost : ℕ) (helped : Helped) : Type 0 where
  counts : CountsJoin helped m m'
  joins : m.0.upper.joins ≤ m'.0.upper.joins
  joined : m'.0.upper.joins + m.0.upper.turns.helped ≤ m.0.upper.joins + m'.0.upper.turns.helped
  more_helped : m.0.upper.turns.helped ≤ m'.0.upper.turns.helped
  lost_is : m'.0.upper.lost ≡ m.0.upper.lost + lost

-- It was tried to carry out an attempt behind loads of its join word, by a pass that may have counted it as helped.
module _ (counted : Bool) (m k m' : MyTree) (l : LearnsOfJoins counted m k) where
  none_joined : (lost : ℕ) → IsNoJoin lost k.0.upper m'.0.upper → (m'.0.upper.joins ≡ m.0.upper.joins) × (m'.0.upper.lost ≡ m.0.upper.lost + lost)
      × (m'.0.upper.turns ≡ k.0.upper.turns)
  none_joined lost t = let before = ap (λ (x : MyTree). x.0.upper.lost) l.1 in let now = t.2 in
      (t.0 ∙ joined_none counted m k l, omega arith, t.1)

  -- No fewer were helped then.
  helped_then : (b : Bool) → k.0.upper.turns ≡ cond b (one_helped m.0.upper.turns) m.0.upper.turns
      → (m.0.upper.turns.helped ≤ k.0.upper.turns.helped) × (k.0.upper.turns.passed ≡ m.0.upper.turns.passed)
  helped_then true is = let more = ap (λ (t : Turns). t.helped) is in let same = ap (λ (t : Turns). t.passed) is in (omega arith, omega arith)
  helped_then false is = let more = ap (λ (t : Turns). t.helped) is in let same = ap (λ (t : Turns). t.passed) is in (omega arith, omega arith)

  turns_before : k.0.upper.turns ≡ cond counted (one_helped m.0.upper.turns) m.0.upper.turns
  turns_before = ap (λ (x : MyTree). x.0.upper.turns) l.1

  -- In all one is counted as helped.
  one_in_all : (b : Bool) → k.0.upper.turns ≡ cond b (one_helped m.0.upper.turns) m.0.upper.turns
      → m'.0.upper.turns ≡ cond b k.0.upper.turns (one_helped k.0.upper.turns) → m'.0.upper.turns ≡ one_helped m.0.upper.turns
  one_in_all true before now = now ∙ before
  one_in_all false before now = now ∙ ap one_helped before

  counts_none : (lost : ℕ) (helped : Helped) → CountsJoin helped m m' → IsNoJoin lost k.0.upper m'.0.upper → Counts m m' lost helped
  counts_none lost helped c t = let n = none_joined lost t in let same = n.0 in let turns = ap (λ (x : Turns). x.helped) n.2 in
      let more = (helped_then counted turns_before).0 in record {
        counts = c;
        joins = omega arith;
        joined = omega arith;
        more_helped = omega arith;
        lost_is = n.1;
      }

  losses_before : losses k ≡ losses m
  losses_before = ap (λ (x : MyTree). losses x) l.1

  counts_of : (h : Helped) → HasTriedJoin counted h k m' → Counts m m' (links_lost h) h
  counts_of helped.Finished t = let all = one_in_all counted turns_before t.2 in let one = ap (λ (x : Turns). x.helped) all in
      let join : m'.0.upper.joins ≡ m.0.upper.joins + 1 = t.1 ∙ ap (λ (n : ℕ). n + 1) (joined_none counted m k l) in
      let before = ap (λ (x : MyTree). x.0.upper.lost) l.1 in let now = t.3 in record {
        counts = (join, all);
        joins = omega arith;
        joined = omega arith;
        more_helped = omega arith;
        lost_is = omega arith;
      }
  counts_of (helped.Lost x) t = let before = losses_before in let more = t.1 in
      counts_none (links_of x) (helped.Lost x) ((none_joined (links_of x) t.2).0, omega arith) t.2
  counts_of (helped.Busy spent) t = absurd t
  counts_of helped.NoRow t = counts_none 0 helped.NoRow (none_joined 0 t.1).0 t.1
  counts_of (helped.Worn which) t = counts_none 0 (helped.Worn which) (t.1, (none_joined 0 t.2).0) t.2

  met_before : HasMet 0 0 m k
  met_before = raised_met m k k.0.upper (joined_raised counted m k l)

  gone_by : (h : Helped) → HasTriedJoin counted h k m' → HasGone h m m'
  gone_by helped.Finished t = let all = one_in_all counted turns_before t.2 in let one = ap (λ (x : Turns). x.helped) all in
      let same = ap (λ (x : Turns). x.passed) all in let before = losses_before in let now = t.4 in
      (met_both 0 0 0 0 m k m' met_before t.0, omega arith)
  gone_by (helped.Lost x) t = let more = (helped_then counted turns_before) in let a = more.0 in let b = more.1 in
      let helps = ap (λ (y : Turns). y.helped) t.2.1 in let passed = ap (λ (y : Turns). y.passed) t.2.1 in let before = losses_before in let now = t.1 in
      (met_both 0 0 0 0 m k m' met_before t.0, omega arith)
  gone_by (helped.Busy spent) t = absurd t
  gone_by helped.NoRow t = met_both 0 0 1 0 m k m' met_before t.0
  gone_by (helped.Worn which) t = met_both 0 0 0 1 m k m' met_before t.0

  pub steps_tried : (z : Sizes) (h : Helped) → IsSteps z k.0.upper m'.0.upper → HasTriedJoin counted h k m'
      → OnlySteps z (links_lost h) m.0.upper m'.0.upper
  steps_tried z h s t = let c = counts_of h t in let first = joined_steps z counted m k l in let u = m.0.upper in let v = m'.0.upper in
      let now : v ≡ with_steps_of k.0.upper v = s.only ∙ sym (ap (λ (x : TreeView). with_steps_of k.0.upper x) s.only) in record {
        only = now ∙ ap (λ (x : TreeView). with_steps_of x v) first.only;
        seen = (s.seen.0, s.seen.1 ∙ ap (λ (x : MyTree). x.0.upper.seen ++ s.seen.0) l.1);
        over = λ x i. subst (λ (r : KnownRanges). IsIn x r.over) (sym (ap (λ (y : TreeView). y.ranges) s.only)) (first.over x i);
        lost_is = c.lost_is;
        known = λ known. s.known (first.known known);
        helped = c.more_helped;
        unfinished = λ x i. inl (subst (λ (xs : List Unfinished). IsIn x xs)
            (sym (ap (λ (y : TreeView). y.ranges.unfinished) s.only ∙ joined_unfinished counted m k l)) i);
        joins = c.joins;
        joined = c.joined;
      }

-- So it was tried by a pass that was ready, and holds no row then.
module _ {R : Type 0} (space : Space R TreeView) (counted : Bool) (h : Helped) (pass mid new : Pass R TreeView) where
  pub finished_join : KeepsList pass mid → LearnsOfJoins counted pass.seat.me mid.seat.me → HasCarriedOut space counted h mid new
      → 1 < space.table.shared.key.passes → HasFinishedJoin space h pass new
  finished_join keeps l c several = let z = space.table.shared.key in let m = pass.seat.me in let k = mid.seat.me in let m' = new.seat.me in record {
    frame = stays_then space pass mid new keeps (joined_raised counted m k l) (joined_none counted m k l) (joined_steps z counted m k l) c.frame;
    steps = steps_tried counted m k m' l z h c.steps c.tried;
    gone = gone_by counted m k m' l h c.tried;
    counts = (counts_of counted m k m' l h c.tried).counts;
    unfinished = ap (λ (y : TreeView). y.ranges.unfinished) c.steps.only ∙ joined_unfinished counted m k l;
    borders = λ border i. subst (λ (xs : List Border). IsIn border xs) (sym (ap (λ (y : TreeView). y.ranges.borders) c.steps.only))
        (joined_borders counted m k l border i);
    loads = c.loads ∙ ap (λ (x : MyTree). x.0.upper.loads + 2) l.1;
    several = several;
  }

-- Steps that keep the rows, one after another.
pub keeps_both : {R : Type 0} {pass mid new : Pass R TreeView} → KeepsList pass mid → KeepsList mid new → KeepsList pass new
keeps_both a b = record {
  same = (b.same.0 ∙ a.same.0, b.same.1 ∙ a.same.1);
  number = b.number ∙ a.number;
  tally = b.tally ∙ a.tally;
  kept = b.kept ∙ a.kept;
}

-- Loads, and steps behind them.
freed_behind : {R : Type 0} (space : Space R TreeView) (base : ℕ) (helped : Bool) (pass mid new : Pass R TreeView) → OnlyReads pass mid
    → HasFreed space base helped mid new → HasFreed space base helped pass new
freed_behind space base helped pass mid new r f = record {
  frame = reads_keep r f.frame;
  learnt = subst (λ (x : MyTree). LearnsOfJoins helped x new.seat.me) r.still f.learnt;
  unjoined = λ note s. f.unjoined note (subst (λ (x : MyTree). IsBaseShown space.table.shared.key x.0.upper base note) (sym r.still) s);
  several = f.several;
}

pub finished_read : {R : Type 0} (space : Space R TreeView) (h : Helped) (pass mid new : Pass R TreeView) → OnlyReads pass mid
    → HasFinishedJoin space h mid new → HasFinishedJoin space h pass new
finished_read space h pass mid new r f = record {
  frame = reads_stay space pass mid new r f.frame;
  steps = subst (λ (x : MyTree). OnlySteps space.table.shared.key (links_lost h) x.0.upper new.seat.me.0.upper) r.still f.steps;
  gone = subst (λ (x : MyTree). HasGone h x new.seat.me) r.still f.gone;
  counts = subst (λ (x : MyTree). CountsJoin h x new.seat.me) r.still f.counts;
  unfinished = f.unfinished ∙ ap (λ (x : MyTree). x.0.upper.ranges.unfinished) r.still;
  borders = λ border i. f.borders border (subst (λ (x : MyTree). IsIn border x.0.upper.ranges.borders) (sym r.still) i);
  loads = f.loads ∙ ap (λ (x : MyTree). x.0.upper.loads + 2) r.still;
  several = f.several;
}

-- So help ended, behind steps that met nothing of the pool.
pub gone_after : (h : Helped) (k m n : MyTree) → HasMet 0 0 k m → turns_at k ≤ turns_at m → HasGone h m n → HasGone h k n
gone_after helped.Finished k m n met less g = let more = g.1 in (met_both 0 0 0 0 k m n met g.0, omega arith)
gone_after (helped.Lost x) k m n met less g = let more = g.1 in (met_both 0 0 0 0 k m n met g.0, omega arith)
gone_after (helped.Busy spent) k m n met less g = let more = g.1 in (met_both 0 0 0 0 k m n met g.0, omega arith)
gone_after helped.NoRow k m n met less g = met_both 0 0 1 0 k m n met g
gone_after (helped.Worn which) k m n met less g = met_both 0 0 0 1 k m n met g

-- So much was counted, behind steps that counted nothing.
counts_after : (h : Helped) (k m n : MyTree) → m.0.upper.joins ≡ k.0.upper.joins → m.0.upper.turns ≡ k.0.upper.turns → losses m ≡ losses k
    → CountsJoin h m n → CountsJoin h k n
counts_after helped.Finished k m n joins turns lost c = (c.0 ∙ ap (λ (x : ℕ). x + 1) joins, c.1 ∙ ap one_helped turns)
counts_after (helped.Lost x) k m n joins turns lost c = let more = c.1 in (c.0 ∙ joins, omega arith)
counts_after (helped.Busy spent) k m n joins turns lost c = c
counts_after helped.NoRow k m n joins turns lost c = c ∙ joins
counts_after (helped.Worn which) k m n joins turns lost c = (c.0, c.1 ∙ joins)

-- So the help of a range ended that had the attempt in its way.
pub ended_by_join : (z : Sizes) (range : Range) (h : Helped) (m m' : MyTree) → HasGone h m m' → CountsJoin h m m' → IsEnded z range h m m'
ended_by_join z range helped.Finished m m' g c = let one = c.0 in let helps = ap (λ (t : Turns). t.helped) c.1 in (inr (omega arith, omega arith), g.0)
ended_by_join z range (helped.Lost x) m m' g c = (c.1, g.0)
ended_by_join z range (helped.Busy spent) m m' g c = c
ended_by_join z range helped.NoRow m m' g c = g
ended_by_join z range (helped.Worn which) m m' g c = (g, c.0)

module _ {R : Type 0} (space : Space R TreeView) (pass mid new : Pass R TreeView) where
  -- An attempt was carried out behind a load of its join word.
  finished_behind : (h : Helped) → KeepsList pass mid → LearnsOfJoins false pass.seat.me mid.seat.me → HasFinishedJoin space h mid new
      → HasFinishedJoin space h pass new
  finished_behind h keeps l g = let z = space.table.shared.key in let m = pass.seat.me in let k = mid.seat.me in let n = new.seat.me in
      let first = joined_steps z false m k l in let raised = joined_raised false m k l in record {
        frame = stays_then space pass mid new keeps raised (joined_none false m k l) first g.frame;
        steps = steps_both m.0.upper k.0.upper n.0.upper first g.steps;
        gone = gone_after h m k n (raised_met m k k.0.upper raised) (let same = ap turns_at l.1 in omega arith) g.gone;
        counts = counts_after h m k n (joined_none false m k l) (ap (λ (x : MyTree). x.0.upper.turns) l.1) (ap (λ (x : MyTree). losses x) l.1) g.counts;
        unfinished = g.unfinished ∙ joined_unfinished false m k l;
        borders = λ border i. g.borders border (joined_borders false m k l border i);
        loads = g.loads ∙ ap (λ (x : MyTree). x.0.upper.loads + 2) l.1;
        several = g.several;
      }

  -- An attempt was given up, or carried out, behind a load of its join word, which told that it is prepared.
  pub ended_given : (base : ℕ) (x : Marker) (e : JoinEnd) → KeepsList pass mid → LearnsOfJoins false pass.seat.me mid.seat.me
      → ((note : Note) → IsBaseShown space.table.shared.key pass.seat.me.0.upper base note → IsMarkedFor note.its x.route x.number)
      → 1 < space.table.shared.key.passes → HasGivenUp space x e mid new → HasEndedJoin space base e pass new
  ended_given base x end.Unmarked keeps l marked several g = absurd g
  ended_given base x end.Before keeps l marked several g = absurd g
  ended_given base x end.Now keeps l marked several g = record {
    frame = keeps_both keeps g.0;
    learnt = learns_both true pass.seat.me mid.seat.me new.seat.me l g.1;
    unjoined = λ note s. unjoined_by new.seat.me.0.upper note.its x (marked note s) g.2;
    several = λ _. several;
  }
  ended_given base x (end.Gone h) keeps l marked several g = finished_behind h keeps l g

-- The same behind loads of words that were shown.
pub ended_behind : {R : Type 0} (space : Space R TreeView) (base : ℕ) (e : JoinEnd) (pass mid new : Pass R TreeView) → OnlyReads pass mid
    → HasEndedJoin space base e mid new → HasEndedJoin space base e pass new
ended_behind space base end.Unmarked pass mid new r e = freed_behind space base false pass mid new r e
ended_behind space base end.Before pass mid new r e = freed_behind space base false pass mid new r e
ended_behind space base end.Now pass mid new r e = freed_behind space base true pass mid new r e
ended_behind space base (end.Gone h) pass mid new r e = finished_read space h pass mid new r e

-- An attempt that was given up, or carried out, had marked the base.
pub told_given : {R : Type 0} (space : Space R TreeView) (x : Marker) (e : JoinEnd) (pass new : Pass R TreeView) (its : List ℕ)
    → HasGivenUp space x e pass new → mark its ≡ 2 → IsMarkTold e its
told_given space x end.Unmarked pass new its g m = absurd g
told_given space x end.Before pass new its g m = m
told_given space x end.Now pass new its g m = m
told_given space x (end.Gone h) pass new its g m = m
