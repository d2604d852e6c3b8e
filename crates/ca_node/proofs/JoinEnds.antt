-- Exchanges of the join word of a route that a seat remembers: a prepared attempt is given up, or
-- left by the seat whose own it is, or secured by it.
use Rattle.std.proofs.Common.{◌≡◌, ◌≢◌, ℕ, ◌+◌, ◌*◌, ◌/◌, ◌%◌, ◌<◌, ◌≤◌, Bool, true, false, eqb, List, map, get_or, set, sym, refl, ap, ◌∙◌, subst, inl, inr, ⊎_elim, arith, eq-eqb, ne_eqb, max}
use mathlib.Core.Logic.{dite}
use mathlib.Core.Option.{some, none}
use native.Mathlib.Decide.{ℕ_discrete}
use lib.ListN.{get_elem?}
use prog.Atomic.{either}
use Rattle.atomic_table.specs.Table.{State, step, keeps, stepped, Allows}
use Rattle.atomic_table.proofs.Lists.{at_map}
use Rattle.ca_rows.specs.Calls.{Relinks}
use Rattle.ca_rows.specs.Claims.{held_count}
use Rattle.ca_rows.specs.Rule.{upper_of}
use Rattle.ca_rows.specs.Told.{relinked}
use Rattle.ca_rows.specs.declared.sizes.Sizes.{Sizes}
use Rattle.ca_rows.specs.declared.view.View.{View}
use Rattle.ca_node.specs.Attempts.{join_of, HasAttempt, IsPrepared, IsSecured, IsUnderWay, JoinGoesOn}
use Rattle.ca_node.specs.Joining.{AreJoining, IsRemembered, AreFinished, IsJoining}
use Rattle.ca_node.specs.JoinsStay.{joined_there, joined_still, under_way_same}
use Rattle.ca_node.specs.JoinSteps.{join_place, attempt_of, before, with_own, aborted, too_late, securing, leaving, own_too_late, joins_aborted, joins_secured, joins_too_late, IsSecuring, IsAborting, AbortsJoin, HasAbortedJoin, SecuresJoin, HasSecuredJoin, IsJoinStep, AbortsSome, SecuresSome}
use Rattle.ca_node.specs.Laws.{alive, noted_alike}
use Rattle.ca_node.specs.Links.{IsIn}
use Rattle.ca_node.specs.Lone.{IsOfTree, IsLone}
use Rattle.ca_node.specs.Marks.{AreJoined}
use Rattle.ca_node.specs.Place.{Place}
use Rattle.ca_node.specs.Row.{row_at, IsBaseRow, count, IsMarkedFor, route_key}
use Rattle.ca_node.specs.Shape.{Role, Route}
use Rattle.ca_node.specs.States.{IsAlone}
use Rattle.ca_node.specs.May.{MaySwap}
use Rattle.ca_node.specs.Told.{MyTree}
use Rattle.ca_node.specs.TreeView.{Note, Way, Attempt, Finished, Ranging, Quiet, Unmarked, Marking, Left, Joining, Secured, KnownJoins, Turns, Tries, TreeView, one_helped, one_overtaken}
use Rattle.ca_node.proofs.JoinTurns.{aborted_goes_on, secured_goes_on}
use Rattle.ca_node.proofs.JoinWord.{join_else, join_here, active_then, child_stays, joining_then, join_step}
use Rattle.ca_node.proofs.Lone.{no_other}
use Rattle.ca_node.proofs.Looking.{R, knows_upper, knows_ranges, in_more}
use Rattle.ca_node.proofs.OwnTurns.{TurnsOwn, IsRangeless, so_turned, marking_back}
use Rattle.ca_rows.specs.Layout.{row_words}

-- What a seat knows that knows one attempt more to be decided,
decided_more : (words : List ℕ) (notes : List Note) (ways : List Way) (joins : KnownJoins)
    (x : Attempt) → IsRemembered ways x.route
    → HasAttempt words x.route x.number → ¬ IsPrepared words x.route x.number
    → IsJoining words notes ways joins
    → IsJoining words notes ways (joins_too_late x joins)
decided_more words notes ways joins x known begun not k = record {
  hung = k.hung;
  begun = k.begun;
  finished = k.finished;
  secured = k.secured;
  decided = λ y i. ⊎_elim
      (λ (e : x ≡ y). subst (λ (w : Attempt). IsRemembered ways w.route
      × HasAttempt words w.route w.number × ¬ IsPrepared words w.route w.number) e
      (known, begun, not))
      (λ (o : IsIn y joins.decided). k.decided y o) (in_more x y joins.decided i);
}

-- or finished,
finished_more : (words : List ℕ) (notes : List Note) (ways : List Way) (joins : KnownJoins)
    (x : Attempt) → IsRemembered ways x.route
    → join_of words x.route ≡ 4 * x.number → IsJoining words notes ways joins
    → IsJoining words notes ways (joins_aborted x joins)
finished_more words notes ways joins x known is k = record {
  hung = k.hung;
  begun = k.begun;
  finished = λ y i. ⊎_elim
      (λ (e : before x.route (x.number + 1) ≡ y). subst
      (λ (w : Finished). IsRemembered ways w.route × AreFinished words w) e (known, now))
      (λ (o : IsIn y joins.finished). k.finished y o)
      (in_more (before x.route (x.number + 1)) y joins.finished i);
  secured = k.secured;
  decided = k.decided;
}
  where
    now : AreFinished words (before x.route (x.number + 1))
    now number less = dite (ℕ_discrete number x.number)
        (λ (e : number ≡ x.number). inl (omega (arith, is, e)))
        (λ (ne : number ≢ x.number). inr (let low : number < x.number = omega arith in
        omega (arith, is, low)))

-- or secured.
secured_more : (words : List ℕ) (notes : List Note) (ways : List Way) (joins : KnownJoins)
    (x : Attempt) → IsRemembered ways x.route
    → IsSecured words x.route x.number → IsJoining words notes ways joins
    → IsJoining words notes ways (joins_secured x joins)
secured_more words notes ways joins x known is k = let begun : HasAttempt words x.route x.number =
    omega (arith, is) in
    let decided = decided_more words notes ways joins x known begun (λ now. omega (arith, is, now))
    k in record {
      hung = k.hung;
      begun = k.begun;
      finished = k.finished;
      secured = λ y i. ⊎_elim
          (λ (e : x ≡ y). subst (λ (w : Attempt). IsRemembered ways w.route
          × IsSecured words w.route w.number) e (known, is))
          (λ (o : IsIn y joins.secured). k.secured y o) (in_more x y joins.secured i);
      decided = decided.decided;
    }

-- the attempt that is a seat's own
attempt_in : Ranging → Attempt
attempt_in Quiet = attempt_of 0 0
attempt_in (Unmarked begun) = attempt_of 0 0
attempt_in (Marking begun border) = attempt_of 0 0
attempt_in Left = attempt_of 0 0
attempt_in (Joining x) = x
attempt_in (Secured x) = x

-- An attempt that the seat didn't secure is its own, and no other one.
same_own : (own : Ranging) (x y : Attempt) → own ≡ Joining x → own ≡ Joining y → x ≡ y
unfolding attempt_in
same_own own x y mine other = ap attempt_in (sym mine ∙ other)

pub same_joining : (x y : Attempt) → Joining x ≡ Joining y → x ≡ y
unfolding attempt_in
same_joining x y e = ap attempt_in e

not_secured : (own : Ranging) (x y : Attempt) → own ≡ Joining x → own ≢ Secured y
not_secured own x y mine other = let c : Joining x ≡ Secured y = sym mine ∙ other in absurd cc

pub own_turns : (own own' : Ranging) (x : Attempt) → own ≡ Joining x → IsRangeless own'
    → TurnsOwn own own'
own_turns own own' x mine less = inr (subst IsRangeless (sym mine) tt, less)

module _ (z : Sizes) (s : State (Unit {0}) (View TreeView)) (r : R z s) (id : ℕ) (me : MyTree)
    (at : get_elem? s.views id ≡ some me.0) (x : Attempt)
    (known : IsRemembered me.0.upper.ways x.route) where
  abbrev role : ℕ → Role
  role = r.above.role

  abbrev u : TreeView
  u = me.0.upper

  abbrev place : Place
  place = known.0.place

  abbrev key : List ℕ
  key = route_key known.0.its

  -- The route is one of the tree, if no attempt of it is secured.
  pub is_route : ((attempt : ℕ) → ¬ IsSecured s.words x.route attempt)
      → r.above.role x.route ≡ Route known.0.place (route_key known.0.its)
  is_route free = subst (λ t. r.above.role t ≡ Route known.0.place (route_key known.0.its)) known.2
      (alive z s.words r.above.role me.0.upper.since r.above.history known.0
      ((knows_upper z s r id me.0 at).ways known.0 known.1)
      (λ attempt now. free attempt (subst (λ t. IsSecured s.words t attempt) known.2 now)))

  first : get_elem? (map upper_of s.views) id ≡ some me.0.upper
  first = at_map upper_of s.views id me.0 at

  abbrev known_joins : IsJoining s.words me.0.upper.notes me.0.upper.ways me.0.upper.ranges.joins
  known_joins = (knows_upper z s r id me.0 at).joining

  -- An attempt that is prepared is given up.
  module _ (hit : IsPrepared s.words x.route x.number) where
    spot : r.above.role x.route ≡ Route known.0.place (route_key known.0.its)
    spot = is_route (λ attempt now. omega (arith, hit, now))

    abbrev words' : List ℕ
    words' = set s.words (row_words * x.route + 3) (4 * x.number)

    here : join_of words' x.route ≡ 4 * x.number
    here = join_here z s r x.route place key spot (4 * x.number)

    on : JoinGoesOn s.words words' x.route
    on = aborted_goes_on s.words words' x.route x.number hit here

    same : (t : ℕ) → t ≢ x.route → join_of words' t ≡ join_of s.words t
    same t ne = join_else z s r x.route place key spot (4 * x.number) (row_words * t + 3)
        (λ e. ne (omega arith))

    -- Another one that is under way then was so.
    before_it : (t : ℕ) (attempt : ℕ) → IsUnderWay words' t attempt → IsUnderWay s.words t attempt
        × (t ≢ x.route)
    before_it t attempt now = dite (ℕ_discrete t x.route)
        (λ (e : t ≡ x.route). let w : join_of words' t ≡ 4 * x.number =
        ap (join_of words') e ∙ here in
        ⊎_elim (λ q. absurd (omega (arith, w, q))) (λ q. absurd (omega (arith, w, q))) now)
        (λ (ne : t ≢ x.route). (under_way_same s.words words' t attempt (same t ne) now, ne))

    joined_now : AreJoining z words' r.above.role
    joined_now = joined_still z s.words words' role
        (λ t p k attempt e now. let b = before_it t attempt (inr now) in sym (same t b.1) ∙ now)
        (λ t p k e state. dite (ℕ_discrete t x.route)
        (λ (w : t ≡ x.route). subst (λ n. n % 4 < 3) (sym (ap (join_of words') w ∙ here))
        (omega arith))
        (λ (ne : t ≢ x.route). subst (λ n. n % 4 < 3) (sym (same t ne)) state))
        (child_stays z s r x.route place key spot (4 * x.number)) r.above.joined

    -- The route has the same last attempt.
    last_same : (t : ℕ) → join_of words' t / 4 ≡ join_of s.words t / 4
    last_same t = dite (ℕ_discrete t x.route) (λ (w : t ≡ x.route).
        let now : join_of words' t ≡ 4 * x.number = ap (join_of words') w ∙ here in
        let was : join_of s.words t ≡ 4 * x.number + 1 = ap (join_of s.words) w ∙ hit in
        omega (arith, now, was)) (λ (ne : t ≢ x.route). ap (λ n. n / 4) (same t ne))

    lone_now : me.0.upper.ranges.own ≢ Joining x → IsLone s.words r.above.role me.0.upper.number
        me.0.upper.ranges.own me.0.upper.ways me.0.upper.ranges.joins.begun
        → IsLone words' r.above.role me.0.upper.number me.0.upper.ranges.own me.0.upper.ways
        me.0.upper.ranges.joins.begun
    lone_now other l = record {
      prepared = λ t p k attempt e now. l.prepared t p k attempt e
          (sym (same t (before_it t attempt (inl now)).1) ∙ now);
      secured = λ t p k attempt e now. l.secured t p k attempt e
          (sym (same t (before_it t attempt (inr now)).1) ∙ now);
      still = λ y mine. let b = l.still y mine in dite (ℕ_discrete y.route x.route)
          (λ (w : y.route ≡ x.route). let was : join_of s.words x.route ≡ 4 * y.number + 1 =
          ap (join_of s.words) (sym w) ∙ b.1 in
          let number : y.number ≡ x.number = omega (arith, was, hit) in
          absurd (other (mine ∙ (λ i. Joining (attempt_of (w i) (number i))))))
          (λ (ne : y.route ≢ x.route). (b.0, same y.route ne ∙ b.1));
      alive = l.alive;
      latest = λ y i. subst (λ n. IsOfTree role y.route
          × IsIn (attempt_of y.route n) u.ranges.joins.begun) (sym (last_same y.route))
          (l.latest y i);
      active = λ range border mine. active_then z s r x.route place key spot (4 * x.number)
          me.0.upper.number range.number (l.active range border mine);
    }

    else_now : 0 < me.0.upper.number → (j : ℕ) (v : TreeView) → j ≢ id
        → get_elem? (map upper_of s.views) j ≡ some v → r.made ≤ 1 → 0 < v.number
        → IsLone words' r.above.role v.number v.ranges.own v.ways v.ranges.joins.begun
    else_now is_pass j v ne here' few pass = absurd
        (no_other z r.made s.words r.above.role (map upper_of s.views) r.above.history
        r.above.each_seat id u first
        is_pass j v ne here' few pass)

    joining_now : IsJoining words' me.0.upper.notes me.0.upper.ways
        (joins_aborted x me.0.upper.ranges.joins)
    joining_now = finished_more words' u.notes u.ways u.ranges.joins x known here
        (joining_then z s r x.route place key spot (4 * x.number) on id u first)

    pub abort_step : 0 < me.0.upper.number → me.0.upper.ranges.own ≢ Joining x → R z record {
      words = set s.words (row_words * x.route + 3) (4 * x.number);
      homes = s.homes;
      views = set s.views id (relinked me me.0.claims (aborted x me.0.upper)).0;
    }
    abort_step is_pass other = join_step z s r x.route place key spot (4 * x.number) on id me.0 at
        (joins_aborted x u.ranges.joins) (one_helped u.turns) u.tries
        (max me.0.most (held_count me.0.claims)) joined_now joining_now u.ranges.own (inl refl)
        (λ few pass. lone_now other (r.above.lone id u first few pass)) (else_now is_pass)

    -- It is the seat's own one, and it leaves it: no attempt is under way then, if it is the only
    -- pass.
    module _ (is_pass : 0 < me.0.upper.number) (own : me.0.upper.ranges.own ≡ Joining x) where
      lone_left : r.made ≤ 1 → 0 < me.0.upper.number
          → IsLone words' r.above.role me.0.upper.number Quiet me.0.upper.ways
          me.0.upper.ranges.joins.begun
      lone_left few pass = let l = r.above.lone id u first few pass in record {
        prepared = λ t p k attempt e now. let b = (before_it t attempt (inl now)).1 in
            absurd (b (sym (ap (λ (y : Attempt). y.route)
            (same_own u.ranges.own x (attempt_of t attempt) own
            (l.prepared t p k attempt e (sym (same t b) ∙ now))))));
        secured = λ t p k attempt e now. absurd
            (not_secured u.ranges.own x (attempt_of t attempt) own
            (l.secured t p k attempt e (sym (same t (before_it t attempt (inr now)).1) ∙ now)));
        still = λ y mine. let c : Quiet ≡ Joining y = mine in absurd cc;
        alive = l.alive;
        latest = λ y i. subst (λ n. IsOfTree role y.route
            × IsIn (attempt_of y.route n) u.ranges.joins.begun) (sym (last_same y.route))
            (l.latest y i);
        active = λ range border mine. let c : Quiet ≡ Marking range border = mine in absurd cc;
      }

      pub leave_step : R z record {
        words = set s.words (row_words * x.route + 3) (4 * x.number);
        homes = s.homes;
        views = set s.views id (relinked me me.0.claims (leaving x me.0.upper)).0;
      }
      leave_step = join_step z s r x.route place key spot (4 * x.number) on id me.0 at
          (joins_aborted x u.ranges.joins) u.turns u.tries
          (max me.0.most (held_count me.0.claims)) joined_now joining_now Quiet
          (own_turns u.ranges.own Quiet x own tt) lone_left
          (else_now is_pass)

  -- The two bases under it have its mark, so it may be secured.
  module _ (left right : Note) (k : IsSecuring z.leaf me x left right)
      (hit : IsPrepared s.words x.route x.number) where
    spot_too : r.above.role x.route ≡ Route known.0.place (route_key known.0.its)
    spot_too = is_route (λ attempt now. omega (arith, hit, now))

    abbrev words'' : List ℕ
    words'' = set s.words (row_words * x.route + 3) (4 * x.number + 2)

    there : join_of words'' x.route ≡ 4 * x.number + 2
    there = join_here z s r x.route place key spot_too (4 * x.number + 2)

    on_too : JoinGoesOn s.words words'' x.route
    on_too = secured_goes_on s.words words'' x.route x.number hit there

    same_too : (t : ℕ) → t ≢ x.route → join_of words'' t ≡ join_of s.words t
    same_too t ne = join_else z s r x.route place key spot_too (4 * x.number + 2)
        (row_words * t + 3) (λ e. ne (omega arith))

    -- A base that was shown with its mark is under its link, and stays there.
    under : (note : Note) (link : ℕ) → IsIn note me.0.upper.notes
        → IsMarkedFor note.its x.route x.number → note.place.link ≡ link
        → row_at s.words (get_or s.words link 0) ≡ note.its
    under note link i m e = let h = known_joins.hung note i x.route x.number m in
        ap (λ c. row_at s.words c) (ap (λ c. get_or s.words c 0) (sym e) ∙ h.hangs (inl hit))
        ∙ ((knows_upper z s r id me.0 at).notes note i).spells

    -- So both are marked for it.
    mine : AreJoined z s.words x.route x.number
    mine = let left_its = under left (row_words * x.route + 1) k.left_shown k.left_marked
        k.left_link in
        let right_its = under right (row_words * x.route + 2) k.right_shown k.right_marked
        k.right_link in record {
          left = subst (λ its. IsBaseRow its × IsMarkedFor its x.route x.number) (sym left_its)
              (k.left_base, k.left_marked);
          right = subst (λ its. IsBaseRow its × IsMarkedFor its x.route x.number) (sym right_its)
              (k.right_base, k.right_marked);
          few = let few = k.few in omega (arith, ap count left_its, ap count right_its);
        }

    pub joined_too : AreJoining z (set s.words (row_words * x.route + 3) (4 * x.number + 2))
        r.above.role
    joined_too = record {
      secured = λ t p key' attempt e now. dite (ℕ_discrete t x.route)
          (λ (w : t ≡ x.route). let number : x.number ≡ attempt = let q =
          subst (λ c. IsSecured words'' c attempt) w now in omega (arith, there, q) in
          subst (λ (c : ℕ × ℕ). AreJoined z words'' c.0 c.1) (λ i. (sym w i, number i))
          (joined_there z s.words words'' x.route x.number
          (child_stays z s r x.route place key spot_too (4 * x.number + 2) x.route place key
          spot_too) mine))
          (λ (ne : t ≢ x.route). joined_there z s.words words'' t attempt
          (child_stays z s r x.route place key spot_too (4 * x.number + 2) t p key' e)
          (r.above.joined.secured t p key' attempt e (sym (same_too t ne) ∙ now)));
      states = λ t p key' e. dite (ℕ_discrete t x.route)
          (λ (w : t ≡ x.route). subst (λ n. n % 4 < 3) (sym (ap (join_of words'') w ∙ there))
          (omega arith))
          (λ (ne : t ≢ x.route). subst (λ n. n % 4 < 3) (sym (same_too t ne))
          (r.above.joined.states t p key' e));
    }

    -- If the pass is the only one, no other attempt is under way.
    lone_too : r.made ≤ 1 → 0 < me.0.upper.number
        → IsLone (set s.words (row_words * x.route + 3) (4 * x.number + 2)) r.above.role
        me.0.upper.number (Secured x) me.0.upper.ways
        me.0.upper.ranges.joins.begun
    lone_too few pass = let l = r.above.lone id u first few pass in record {
      prepared = λ t p key' attempt e now. dite (ℕ_discrete t x.route)
          (λ (w : t ≡ x.route). let word : join_of words'' t ≡ 4 * x.number + 2 =
          ap (join_of words'') w ∙ there in absurd (omega (arith, word, now)))
          (λ (ne : t ≢ x.route). let mine = same_own u.ranges.own x (attempt_of t attempt) k.own
          (l.prepared t p key' attempt e (sym (same_too t ne) ∙ now)) in
          absurd (ne (sym (ap (λ (y : Attempt). y.route) mine))));
      secured = λ t p key' attempt e now. dite (ℕ_discrete t x.route)
          (λ (w : t ≡ x.route). let word : join_of words'' t ≡ 4 * x.number + 2 =
          ap (join_of words'') w ∙ there in
          let number : x.number ≡ attempt = omega (arith, word, now) in
          λ i. Secured (attempt_of (sym w i) (number i)))
          (λ (ne : t ≢ x.route). absurd (not_secured u.ranges.own x (attempt_of t attempt) k.own
          (l.secured t p key' attempt e (sym (same_too t ne) ∙ now))));
      still = λ y mine. let c : Secured x ≡ Joining y = mine in absurd cc;
      alive = l.alive;
      latest = λ y i. let last : join_of words'' y.route / 4 ≡ join_of s.words y.route / 4 =
          dite (ℕ_discrete y.route x.route)
          (λ (w : y.route ≡ x.route). let now : join_of words'' y.route ≡ 4 * x.number + 2 =
          ap (join_of words'') w ∙ there in
          let was : join_of s.words y.route ≡ 4 * x.number + 1 = ap (join_of s.words) w ∙ hit in
          omega (arith, now, was))
          (λ (ne : y.route ≢ x.route). ap (λ n. n / 4) (same_too y.route ne)) in
          subst (λ n. IsOfTree role y.route × IsIn (attempt_of y.route n) u.ranges.joins.begun)
          (sym last) (l.latest y i);
      active = λ range border mine. let c : Secured x ≡ Marking range border = mine in absurd cc;
    }

    -- So the whole rule holds again.
    pub secure_step : R z record {
      words = set s.words (row_words * x.route + 3) (4 * x.number + 2);
      homes = s.homes;
      views = set s.views id (relinked me me.0.claims (securing x me.0.upper)).0;
    }
    secure_step = join_step z s r x.route place key spot_too (4 * x.number + 2) on_too id me.0 at
        (joins_secured x u.ranges.joins) u.turns u.tries
        (max me.0.most (held_count me.0.claims)) joined_too
        (secured_more words'' u.notes u.ways u.ranges.joins x known there
        (joining_then z s r x.route place key spot_too (4 * x.number + 2) on_too id u first))
        (Secured x) (own_turns u.ranges.own (Secured x) x k.own tt) lone_too
        (λ j v ne here' few pass. absurd
        (no_other z r.made s.words r.above.role (map upper_of s.views) r.above.history
        r.above.each_seat id u first
        k.is_pass j v ne here' few pass))

  -- It isn't prepared any more, and the seat learns that; these are its turns and tries then, and
  -- its own operation is so far.
  pub late_step : (turns : Turns) (tries : Tries) (own' : Ranging)
      → TurnsOwn me.0.upper.ranges.own own'
      → (r.made ≤ 1 → 0 < me.0.upper.number → IsLone s.words r.above.role me.0.upper.number
      me.0.upper.ranges.own me.0.upper.ways me.0.upper.ranges.joins.begun
      → IsLone s.words r.above.role me.0.upper.number own' me.0.upper.ways me.0.upper.ranges.joins.begun)
      → HasAttempt s.words x.route x.number → ¬ IsPrepared s.words x.route x.number → (i : ℕ)
      → R z record {
        words = set s.words i (get_or s.words i 0);
        homes = s.homes;
        views = set s.views id
            (record me.0 {
              upper =
                  record (with_own me.0.upper own' (joins_too_late x me.0.upper.ranges.joins))
                  { turns = turns; tries = tries };
            });
      }
  late_step turns tries own' turn lone begun miss i = let u' : TreeView =
      record (with_own u own' (joins_too_late x u.ranges.joins)) { turns = turns; tries = tries } in
      let ranging = r.above.ranged.each id u first in
      knows_ranges z s r i id me.0 at u'.ranges u'.turns u'.tries
      (decided_more s.words u.notes u.ways u.ranges.joins x known begun miss known_joins)
      (λ row n. inl (noted_alike s.words u u' (λ y m. m) (λ y m. m) (λ y m. m)
      (λ c o. (
        o.0,
        o.1,
        (
          o.2.0,
          o.2.1,
          marking_back u.ranges.own own' turn o.2.0 o.2.1 o.2.2,
          o.2.3,
        ),
        o.3,
        o.4,
      )) (λ y m. m) row n)) lone record {
        over = ranging.over;
        borders = ranging.borders;
        own = λ pass. so_turned z s.words role (r.above.ranged.ends u.number) u.since
            r.above.history u.number u.ranges.borders u.ranges.own own' turn
            (ranging.own pass);
        sequence = ranging.sequence;
        run = ranging.run;
      }

  -- It was the seat's own one, which so is over: another pass gave it up.
  pub own_late_step : me.0.upper.ranges.own ≡ Joining x → HasAttempt s.words x.route x.number
      → ¬ IsPrepared s.words x.route x.number → (i : ℕ) → R z record {
        words = set s.words i (get_or s.words i 0);
        homes = s.homes;
        views = set s.views id (record me.0 { upper = own_too_late x me.0.upper });
      }
  own_late_step own begun miss i = late_step u.turns (one_overtaken u.tries) Quiet
      (own_turns u.ranges.own Quiet x own tt)
      (λ few pass l. absurd (miss (l.still x own).1)) begun miss i

  -- Nobody else gives it up, where the pass is the only one.
  pub not_alone : me.0.upper.ranges.own ≡ Joining x → ¬ IsPrepared s.words x.route x.number
      → me.0.sizes ≡ z → ¬ IsAlone me.0.sizes me.0.upper
  not_alone own miss sized alone = let few : z.passes ≡ 1 =
      subst (λ (y : Sizes). y.passes ≡ 1) sized alone.0 in let within = r.within in
      miss ((r.above.lone id u first (omega (arith, few, within)) alone.1).still x own).1

module _ (z : Sizes) where
  -- The exchange that gives an attempt up.
  aborts_join : (slots id : ℕ) (me : MyTree) (x : Attempt) → IsAborting me x
      → Allows (R z) slots id me (row_words * x.route + 3)
      (λ n. either (eqb n (4 * x.number + 1)) (4 * x.number) n)
      (Relinks MaySwap AbortsSome
      (step slots (row_words * x.route + 3) (4 * x.number + 1) (4 * x.number) none) me)
  aborts_join slots id me x k s r _ at _ = let n : ℕ = get_or s.words (row_words * x.route + 3) 0 in
      dite (ℕ_discrete n (4 * x.number + 1))
      (λ (hit : n ≡ 4 * x.number + 1). let d' : View TreeView =
      (relinked me me.0.claims (aborted x me.0.upper)).0 in
      let told : AbortsSome
      (step slots (row_words * x.route + 3) (4 * x.number + 1) (4 * x.number) none) me n
      (d', me.1) =
      (x, (refl, refl), k.found, ((λ _. refl), λ miss. absurd (miss hit))) in (
        d',
        keeps,
        tt,
        subst (λ (y : ℕ). R z (stepped s (row_words * x.route + 3) y id me.1 d' keeps))
            (sym (ap (λ b. either b (4 * x.number) n) (eq-eqb n (4 * x.number + 1) hit)))
            (abort_step z s r id me at x k.remembered hit k.is_pass k.other),
        (
          (λ _. refl),
          (λ miss. absurd (miss hit)),
          inr (inr (inr (inr (inr (inr (inl told)))))),
          told,
        ),
      ))
      (λ miss. let late : View TreeView = record me.0 { upper = too_late x me.0.upper } in
      let told : AbortsSome
      (step slots (row_words * x.route + 3) (4 * x.number + 1) (4 * x.number) none) me n
      (late, me.1) =
      (x, (refl, refl), k.found, ((λ hit. absurd (miss hit)), λ _. refl)) in (
        late,
        keeps,
        tt,
        subst (λ (y : ℕ). R z (stepped s (row_words * x.route + 3) y id me.1 late keeps))
            (sym (ap (λ b. either b (4 * x.number) n) (ne_eqb n (4 * x.number + 1) miss)))
            (late_step z s r id me at x k.remembered (one_helped me.0.upper.turns) me.0.upper.tries
            me.0.upper.ranges.own (inl refl) (λ _ _ l. l)
            ((knows_upper z s r id me.0 at).joining.begun x k.begun).1 miss
            (row_words * x.route + 3)),
        (
          (λ hit. absurd (miss hit)),
          (λ _. refl),
          inr (inr (inr (inr (inr (inr (inl told)))))),
          told,
        ),
      ))

  -- The same, where the word has another name.
  pub aborts_join_at : (slots id : ℕ) (me : MyTree) (word : ℕ) (x : Attempt)
      → word ≡ join_place x.route → IsAborting me x
      → Allows (R z) slots id me word (λ n. either (eqb n (4 * x.number + 1)) (4 * x.number) n)
      (Relinks MaySwap AbortsSome (step slots word (4 * x.number + 1) (4 * x.number) none) me)
  aborts_join_at slots id me word x here k = subst
      (λ (i : ℕ). Allows (R z) slots id me i
      (λ n. either (eqb n (4 * x.number + 1)) (4 * x.number) n)
      (Relinks MaySwap AbortsSome (step slots i (4 * x.number + 1) (4 * x.number) none) me))
      (sym here) (aborts_join slots id me x k)

  -- The exchange that secures an attempt.
  secures_join : (slots id : ℕ) (me : MyTree) (x : Attempt) (left right : Note) → me.0.sizes ≡ z
      → IsSecuring z.leaf me x left right
      → Allows (R z) slots id me (row_words * x.route + 3)
      (λ n. either (eqb n (4 * x.number + 1)) (4 * x.number + 2) n)
      (Relinks MaySwap SecuresSome
      (step slots (row_words * x.route + 3) (4 * x.number + 1) (4 * x.number + 2) none) me)
  secures_join slots id me x left right sized k s r _ at _ = let n : ℕ =
      get_or s.words (row_words * x.route + 3) 0 in
      dite (ℕ_discrete n (4 * x.number + 1))
      (λ (hit : n ≡ 4 * x.number + 1). let d' : View TreeView =
      (relinked me me.0.claims (securing x me.0.upper)).0 in
      let told : SecuresSome
      (step slots (row_words * x.route + 3) (4 * x.number + 1) (4 * x.number + 2) none) me n
      (d', me.1) =
      (x, (refl, refl), ((λ _. refl), λ miss. absurd (miss hit))) in (
        d',
        keeps,
        tt,
        subst (λ (y : ℕ). R z (stepped s (row_words * x.route + 3) y id me.1 d' keeps))
            (sym (ap (λ b. either b (4 * x.number + 2) n) (eq-eqb n (4 * x.number + 1) hit)))
            (secure_step z s r id me at x k.remembered left right k hit),
        (
          (λ _. refl),
          (λ miss. absurd (miss hit)),
          inr
              (inr (inr (inr (inr (inr (inr (inl told))))))),
          told,
        ),
      ))
      (λ miss. let late : View TreeView = record me.0 { upper = own_too_late x me.0.upper } in
      let told : SecuresSome
      (step slots (row_words * x.route + 3) (4 * x.number + 1) (4 * x.number + 2) none) me n
      (late, me.1) = (
        x,
        (refl, refl),
        (
          (λ hit. absurd (miss hit)),
          λ _. (refl, not_alone z s r id me at x k.remembered k.own miss sized),
        ),
      ) in (
        late,
        keeps,
        tt,
        subst (λ (y : ℕ). R z (stepped s (row_words * x.route + 3) y id me.1 late keeps))
            (sym (ap (λ b. either b (4 * x.number + 2) n) (ne_eqb n (4 * x.number + 1) miss)))
            (own_late_step z s r id me at x k.remembered k.own
            ((knows_upper z s r id me.0 at).joining.hung left k.left_shown x.route x.number
            k.left_marked).begun miss (row_words * x.route + 3)),
        (
          (λ hit. absurd (miss hit)),
          (λ _. refl),
          inr
              (inr (inr (inr (inr (inr (inr (inl told))))))),
          told,
        ),
      ))

  pub secures_join_at : (slots id : ℕ) (me : MyTree) (word : ℕ) (x : Attempt) (left right : Note)
      → word ≡ join_place x.route
      → me.0.sizes ≡ z → IsSecuring z.leaf me x left right
      → Allows (R z) slots id me word
      (λ n. either (eqb n (4 * x.number + 1)) (4 * x.number + 2) n)
      (Relinks MaySwap SecuresSome (step slots word (4 * x.number + 1) (4 * x.number + 2) none) me)
  secures_join_at slots id me word x left right here sized k = subst
      (λ (i : ℕ). Allows (R z) slots id me i
      (λ n. either (eqb n (4 * x.number + 1)) (4 * x.number + 2) n)
      (Relinks MaySwap SecuresSome (step slots i (4 * x.number + 1) (4 * x.number + 2) none) me))
      (sym here) (secures_join slots id me x left right sized k)

-- An exchange that expects this attempt prepared is about it.
pub same_attempt : (x : Attempt) (slots word route number new : ℕ) → word ≡ join_place route
    → IsJoinStep x (step slots word (4 * number + 1) new none)
    → x ≡ attempt_of route number
same_attempt x slots word route number new at is = let there : word ≡ join_place x.route = is.0 in
    let here : 4 * number + 1 ≡ 4 * x.number + 1 = is.1 in
    let r : x.route ≡ route = omega arith in let n : x.number ≡ number = omega arith in
    λ i. attempt_of (r i) (n i)

-- The two ways that it goes.
pub has_aborted_join : (n slots word route number : ℕ) (m m' : MyTree) → word ≡ join_place route
    → AbortsSome (step slots word (4 * number + 1) (4 * number) none) m n m'
    → HasAbortedJoin (eqb n (4 * number + 1)) (attempt_of route number) m m'
has_aborted_join n slots word route number m m' at t = let told = subst
    (λ (x : Attempt). AbortsJoin x (step slots word (4 * number + 1) (4 * number) none) m n m')
    (same_attempt t.0 slots word route number (4 * number) at t.1) t.3 in
    dite (ℕ_discrete n (4 * number + 1))
    (λ hit. subst (λ (b : Bool). HasAbortedJoin b (attempt_of route number) m m')
    (sym (eq-eqb n (4 * number + 1) hit)) (told.0 hit))
    (λ miss. subst (λ (b : Bool). HasAbortedJoin b (attempt_of route number) m m')
    (sym (ne_eqb n (4 * number + 1) miss)) (told.1 miss))

pub has_secured_join : (n slots word route number : ℕ) (m m' : MyTree) → word ≡ join_place route
    → SecuresSome (step slots word (4 * number + 1) (4 * number + 2) none) m n m'
    → HasSecuredJoin (eqb n (4 * number + 1)) (attempt_of route number) m m'
has_secured_join n slots word route number m m' at t = let told = subst
    (λ (x : Attempt). SecuresJoin x (step slots word (4 * number + 1) (4 * number + 2) none) m n m')
    (same_attempt t.0 slots word route number (4 * number + 2) at t.1) t.2 in
    dite (ℕ_discrete n (4 * number + 1))
    (λ hit. subst (λ (b : Bool). HasSecuredJoin b (attempt_of route number) m m')
    (sym (eq-eqb n (4 * number + 1) hit)) (told.0 hit))
    (λ miss. subst (λ (b : Bool). HasSecuredJoin b (attempt_of route number) m m')
    (sym (ne_eqb n (4 * number + 1) miss)) (told.1 miss).0)

-- The pass isn't the only one, where its own attempt was given up.
pub lost_securing : (n slots word route number : ℕ) (m m' : MyTree)
    → SecuresSome (step slots word (4 * number + 1) (4 * number + 2) none) m n m'
    → eqb n (4 * number + 1) ≡ false → ¬ IsAlone m.0.sizes m.0.upper
lost_securing n slots word route number m m' t lost =
    (t.2.1 (λ hit. let e : true ≡ false = sym (eq-eqb n (4 * number + 1) hit) ∙ lost in
    absurd cc)).1
