-- A pass begins an attempt to join, behind one that is finished.
use Rattle.std.proofs.Common.{◌≡◌, ◌≢◌, ℕ, suc, ◌+◌, ◌*◌, ◌/◌, ◌%◌, ◌<◌, ◌≤◌, Bool, false, true, eqb, List, ◌∷◌, map, get_or, set, sym, refl, ap, ◌∙◌, subst, inl, inr, ⊎_elim, arith, max, eq-eqb, ne_eqb}
use mathlib.Core.Logic.{dite}
use mathlib.Core.Option.{some, none}
use native.Mathlib.Decide.{ℕ_discrete}
use lib.ListN.{get_elem?}
use prog.Atomic.{either}
use Rattle.atomic_table.specs.Table.{State, step, keeps, stepped, Allows}
use Rattle.atomic_table.proofs.Lists.{at_map}
use Rattle.ca_rows.specs.Calls.{Relinks}
use Rattle.ca_rows.specs.Claims.{held_count}
use Rattle.ca_rows.specs.Rule.{upper_of}
use Rattle.ca_rows.specs.Told.{relinked}
use Rattle.ca_rows.specs.declared.sizes.Sizes.{Sizes}
use Rattle.ca_rows.specs.declared.view.View.{View}
use Rattle.ca_node.specs.Attempts.{join_of, HasAttempt, IsPrepared, JoinGoesOn}
use Rattle.ca_node.specs.Joining.{AreJoining, IsRemembered, AreFinished, IsJoining}
use Rattle.ca_node.specs.JoinsStay.{joined_still}
use Rattle.ca_node.specs.JoinSteps.{join_place, attempt_of, before, beginning, joins_begun, one_begin_lost, IsBeginning, IsNext, BeginsJoin, HasBegunJoin, BeginsSome}
use Rattle.ca_node.specs.Laws.{noted_alike, numbered, relisted, seat_changed}
use Rattle.ca_node.specs.Links.{IsIn}
use Rattle.ca_node.specs.May.{MaySwap}
use Rattle.ca_node.specs.Place.{Place}
use Rattle.ca_node.specs.Row.{route_key}
use Rattle.ca_node.specs.Lone.{IsOfTree, IsLone}
use Rattle.ca_node.specs.States.{IsAlone}
use Rattle.ca_node.specs.LoneStays.{none_by_quiet}
use Rattle.ca_node.specs.Shape.{Route}
use Rattle.ca_node.specs.Told.{MyTree}
use Rattle.ca_node.specs.TreeView.{Note, Way, Attempt, Finished, KnownJoins, Marking, Joining, TreeView, one_tried}
use Rattle.ca_node.proofs.JoinEnds.{is_route, same_joining}
use Rattle.ca_node.proofs.JoinTurns.{begun_goes_on}
use Rattle.ca_node.proofs.JoinWord.{join_else, join_here, child_stays, joining_then, join_step}
use Rattle.ca_node.proofs.Lone.{no_other}
use Rattle.ca_node.proofs.Looking.{R, looked, knows_upper, in_more}
use Rattle.ca_node.proofs.OwnTurns.{TurnsOwn, IsRangeless}
use Rattle.ca_rows.specs.Layout.{row_words}

-- What a seat knows of joins that began this attempt.
pub begun_more : (words : List ℕ) (notes : List Note) (ways : List Way) (joins : KnownJoins) (x : Attempt) → IsRemembered ways x.route
    → join_of words x.route ≡ 4 * x.number + 1 → IsJoining words notes ways joins → IsJoining words notes ways (joins_begun x joins)
begun_more words notes ways joins x known is k = record {
  hung = k.hung;
  begun = λ y i. ⊎_elim
      (λ (e : x ≡ y). let b : HasAttempt words x.route x.number = omega (arith, is) in
      subst (λ (w : Attempt). IsRemembered ways w.route × HasAttempt words w.route w.number) e (known, b))
      (λ (o : IsIn y joins.begun). k.begun y o) (in_more x y joins.begun i);
  finished = λ y i. ⊎_elim
      (λ (e : before x.route x.number ≡ y). subst (λ (w : Finished). IsRemembered ways w.route × AreFinished words w) e
      (known, λ number less. inr (omega (arith, is, less))))
      (λ (o : IsIn y joins.finished). k.finished y o) (in_more (before x.route x.number) y joins.finished i);
  secured = k.secured;
  decided = k.decided;
}

module _ (z : Sizes) (s : State (Unit {0}) (View TreeView)) (r : R z s) (id : ℕ) (me : MyTree) (at : get_elem? s.views id ≡ some me.0) (x : Attempt)
    (known : IsRemembered me.0.upper.ways x.route) (last : ℕ) (next : x.number ≡ last + 1) (hit : join_of s.words x.route ≡ 4 * last) where
  abbrev words' : List ℕ
  words' = set s.words (row_words * x.route + 3) (4 * x.number + 1)

  abbrev place : Place
  place = known.0.place

  abbrev key : List ℕ
  key = route_key known.0.its

  spot : r.above.role x.route ≡ Route known.0.place (route_key known.0.its)
  spot = is_route z s r id me at x known (λ attempt now. omega (arith, hit, now))

  here : join_of words' x.route ≡ 4 * x.number + 1
  here = join_here z s r x.route place key spot (4 * x.number + 1)

  on : JoinGoesOn s.words words' x.route
  on = begun_goes_on s.words words' x.route last hit (here ∙ ap (λ n. 4 * n + 1) next)

  same : (t : ℕ) → t ≢ x.route → join_of words' t ≡ join_of s.words t
  same t ne = join_else z s r x.route place key spot (4 * x.number + 1) (row_words * t + 3) (λ e. ne (omega arith))

  -- No other join is secured then, and those that are have under their routes what they had.
  pub begun_joined : AreJoining z (set s.words (row_words * x.route + 3) (4 * x.number + 1)) r.above.role
  begun_joined = joined_still z s.words words' r.above.role
      (λ t p k attempt e now. dite (ℕ_discrete t x.route)
      (λ (w : t ≡ x.route). let word : join_of words' t ≡ 4 * x.number + 1 = ap (join_of words') w ∙ here in absurd (omega (arith, word, now)))
      (λ (ne : t ≢ x.route). sym (same t ne) ∙ now))
      (λ t p k e state. dite (ℕ_discrete t x.route)
      (λ (w : t ≡ x.route). subst (λ n. n % 4 < 3) (sym (ap (join_of words') w ∙ here)) (omega arith))
      (λ (ne : t ≢ x.route). subst (λ n. n % 4 < 3) (sym (same t ne)) state))
      (child_stays z s r x.route place key spot (4 * x.number + 1)) r.above.joined

  -- The seat knows that it was begun, and that those before are finished.
  pub begun_joining : IsJoining (set s.words (row_words * x.route + 3) (4 * x.number + 1)) me.0.upper.notes me.0.upper.ways
      (joins_begun x me.0.upper.ranges.joins)
  begun_joining = begun_more words' me.0.upper.notes me.0.upper.ways me.0.upper.ranges.joins x known here
      (joining_then z s r x.route place key spot (4 * x.number + 1) on id me.0.upper (at_map upper_of s.views id me.0 at))

  first : get_elem? (map upper_of s.views) id ≡ some me.0.upper
  first = at_map upper_of s.views id me.0 at

  module _ (k : IsBeginning me x) where
    -- No attempt of a route of the tree was under way, if the pass is the only one; now its own is.
    lone_then : r.made ≤ 1 → 0 < me.0.upper.number → IsLone (set s.words (row_words * x.route + 3) (4 * x.number + 1)) r.above.role
        me.0.upper.number (Joining x) me.0.upper.ways (x ∷ me.0.upper.ranges.joins.begun)
    lone_then few pass = let l = r.above.lone id me.0.upper first few pass in let none = none_by_quiet me.0.upper.ranges.own k.quiet in record {
      prepared = λ t p key' attempt e now. dite (ℕ_discrete t x.route)
          (λ (w : t ≡ x.route). let there : join_of words' t ≡ 4 * x.number + 1 = ap (join_of words') w ∙ here in
          let number : x.number ≡ attempt = omega (arith, there, now) in λ i. Joining (attempt_of (sym w i) (number i)))
          (λ (ne : t ≢ x.route). absurd ((none (attempt_of t attempt)).0 (l.prepared t p key' attempt e (sym (same t ne) ∙ now))));
      secured = λ t p key' attempt e now. dite (ℕ_discrete t x.route)
          (λ (w : t ≡ x.route). let there : join_of words' t ≡ 4 * x.number + 1 = ap (join_of words') w ∙ here in absurd (omega (arith, there, now)))
          (λ (ne : t ≢ x.route). absurd ((none (attempt_of t attempt)).1 (l.secured t p key' attempt e (sym (same t ne) ∙ now))));
      still = λ y e. subst (λ (w : Attempt). IsOfTree r.above.role w.route × IsPrepared words' w.route w.number) (same_joining x y e) ((place, key, spot), here);
      alive = l.alive;
      latest = λ y i. dite (ℕ_discrete y.route x.route)
          (λ (w : y.route ≡ x.route). subst (λ t. IsOfTree r.above.role t × IsIn (attempt_of t (join_of words' t / 4)) (x ∷ me.0.upper.ranges.joins.begun)) (sym w)
          ((place, key, spot), (0, let n : x.number ≡ join_of words' x.route / 4 = let h = here in omega arith in ap (λ k. some (attempt_of x.route k)) n)))
          (λ (ne : y.route ≢ x.route). ⊎_elim (λ (e : x ≡ y). absurd (ne (sym (ap (λ (w : Attempt). w.route) e))))
          (λ (o : IsIn y me.0.upper.ranges.joins.begun). let t = l.latest y o in
          subst (λ w. IsOfTree r.above.role y.route × IsIn (attempt_of y.route (w / 4)) (x ∷ me.0.upper.ranges.joins.begun)) (sym (same y.route ne))
          (t.0, (suc t.1.0, t.1.1))) (in_more x y me.0.upper.ranges.joins.begun i));
      active = λ range border mine. let c : Joining x ≡ Marking range border = mine in absurd cc;
    }

    turn : TurnsOwn me.0.upper.ranges.own (Joining x)
    turn = inr (subst IsRangeless (sym k.quiet) tt, tt)

    -- So the whole rule holds again.
    pub begin_step : R z record {
      words = set s.words (row_words * x.route + 3) (4 * x.number + 1);
      homes = s.homes;
      views = set s.views id (relinked me me.0.claims (beginning x me.0.upper)).0;
    }
    begin_step = join_step z s r x.route place key spot (4 * x.number + 1) on id me.0 at
        (joins_begun x me.0.upper.ranges.joins) me.0.upper.turns (one_tried me.0.upper.tries) (max me.0.most (held_count me.0.claims)) begun_joined begun_joining
        (Joining x) turn lone_then
        (λ j v ne here few pass. absurd (no_other z r.made s.words r.above.role (map upper_of s.views) r.above.history r.above.each_seat id me.0.upper first
        k.is_pass j v ne here few pass))

module _ (z : Sizes) where
  -- Where the route's last attempt isn't the one that the seat knows, or isn't finished, though it was so, the pass isn't the only one.
  not_alone : (s : State (Unit {0}) (View TreeView)) (r : R z s) (id : ℕ) (me : MyTree) → get_elem? s.views id ≡ some me.0 → (x : Attempt) (last : ℕ)
      → x.number ≡ last + 1 → me.0.sizes ≡ z → IsNext x me.0.upper.ranges.joins → get_or s.words (row_words * x.route + 3) 0 ≢ 4 * last
      → ¬ IsAlone me.0.sizes me.0.upper
  not_alone s r id me at x last next sized is_next miss alone = let few : z.passes ≡ 1 = subst (λ (y : Sizes). y.passes ≡ 1) sized alone.0 in
      let within = r.within in let before_it = is_next.next in
      let l = r.above.lone id me.0.upper (at_map upper_of s.views id me.0 at) (omega (arith, few, within)) alone.1 in
      let late = is_next.none_later (attempt_of x.route (join_of s.words x.route / 4)) (l.latest (attempt_of x.route is_next.last) is_next.begun).1 refl in
      let over = ((knows_upper z s r id me.0 at).joining.finished (before x.route (is_next.last + 1)) is_next.finished).1 is_next.last (omega arith) in
      ⊎_elim (λ (e : join_of s.words x.route ≡ 4 * is_next.last). miss (omega (arith, e, next, before_it)))
      (λ (m : 4 * is_next.last + 4 ≤ join_of s.words x.route). omega (arith, m, late)) over

  -- An exchange of a join word after which the seat counts one more that was lost, and may begin none.
  begin_lost : (s : State (Unit {0}) (View TreeView)) (r : R z s) (i id : ℕ) (d : View TreeView) → get_elem? s.views id ≡ some d → R z record {
    words = set s.words i (get_or s.words i 0);
    homes = s.homes;
    views = set s.views id (record d { upper = one_begin_lost d.upper });
  }
  begin_lost s r i id d at = let f = r.above in let us : List TreeView = map upper_of s.views in let first = at_map upper_of s.views id d at in
      let u' : TreeView = one_begin_lost d.upper in
      let k = relisted z r.made s.words f.role us (set us id u') f.history id d.upper (numbered us id d.upper u' first (λ _. refl)) (knows_upper z s r id d at) in
      looked z s r i id d u' at (λ row n. inl (noted_alike s.words d.upper u' (λ x m. m) (λ x m. m) (λ x m. m) (λ x m. m) (λ x m. m) row n))
      (seat_changed z r.made s.words us id d.upper u' f first (λ _. refl) (λ _. refl) (λ _ _ l. l) record {
        made_before = k.made_before;
        alone = k.alone;
        seen_first = k.seen_first;
        since_first = k.since_first;
        lawful = k.lawful;
        past = k.past;
        notes = k.notes;
        links = k.links;
        ways = k.ways;
        way_links = k.way_links;
        one_place = k.one_place;
        joining = record {
          hung = k.joining.hung;
          begun = k.joining.begun;
          finished = k.joining.finished;
          secured = k.joining.secured;
          decided = k.joining.decided;
        };
        ended = k.ended;
      }
      (let ranging = f.ranged.each id d.upper first in record {
        over = ranging.over;
        borders = ranging.borders;
        own = ranging.own;
        sequence = ranging.sequence;
        run = ranging.run;
      }))

  -- The exchange that begins an attempt.
  begins_join : (slots id : ℕ) (me : MyTree) (x : Attempt) (last : ℕ) → x.number ≡ last + 1 → me.0.sizes ≡ z → IsBeginning me x
      → Allows (R z) slots id me (row_words * x.route + 3) (λ n. either (eqb n (4 * last)) (4 * x.number + 1) n)
      (Relinks MaySwap BeginsSome (step slots (row_words * x.route + 3) (4 * last) (4 * x.number + 1) none) me)
  begins_join slots id me x last next sized k s r _ at _ = let n : ℕ = get_or s.words (row_words * x.route + 3) 0 in
      let first : 4 * last + 4 ≡ 4 * x.number = omega (arith, next) in
      dite (ℕ_discrete n (4 * last))
      (λ (hit : n ≡ 4 * last). let d' : View TreeView = (relinked me me.0.claims (beginning x me.0.upper)).0 in
      let told : BeginsSome (step slots (row_words * x.route + 3) (4 * last) (4 * x.number + 1) none) me n (d', me.1) =
      (x, (refl, first), k.next, ((λ _. refl), λ miss. absurd (miss hit))) in (
        d',
        keeps,
        tt,
        subst (λ (y : ℕ). R z (stepped s (row_words * x.route + 3) y id me.1 d' keeps))
            (sym (ap (λ b. either b (4 * x.number + 1) n) (eq-eqb n (4 * last) hit)))
            (begin_step z s r id me at x k.remembered last next hit k),
        ((λ _. refl), (λ miss. absurd (miss hit)), inr (inr (inr (inr (inr (inl told))))), told),
      ))
      (λ miss. let lost : View TreeView = record me.0 { upper = one_begin_lost me.0.upper } in
      let told : BeginsSome (step slots (row_words * x.route + 3) (4 * last) (4 * x.number + 1) none) me n (lost, me.1) =
      (x, (refl, first), k.next, ((λ hit. absurd (miss hit)), λ _. (refl, not_alone s r id me at x last next sized k.next miss))) in (
        lost,
        keeps,
        tt,
        subst (λ (y : ℕ). R z (stepped s (row_words * x.route + 3) y id me.1 lost keeps))
            (sym (ap (λ b. either b (4 * x.number + 1) n) (ne_eqb n (4 * last) miss)))
            (begin_lost s r (row_words * x.route + 3) id me.0 at),
        ((λ hit. absurd (miss hit)), (λ _. refl), inr (inr (inr (inr (inr (inl told))))), told),
      ))

  -- The same, where the word has another name.
  pub begins_join_at : (slots id : ℕ) (me : MyTree) (word : ℕ) (x : Attempt) (last : ℕ) → word ≡ join_place x.route → x.number ≡ last + 1 → me.0.sizes ≡ z
      → IsBeginning me x → Allows (R z) slots id me word (λ n. either (eqb n (4 * last)) (4 * x.number + 1) n)
      (Relinks MaySwap BeginsSome (step slots word (4 * last) (4 * x.number + 1) none) me)
  begins_join_at slots id me word x last here next sized k = subst
      (λ (i : ℕ). Allows (R z) slots id me i (λ n. either (eqb n (4 * last)) (4 * x.number + 1) n)
      (Relinks MaySwap BeginsSome (step slots i (4 * last) (4 * x.number + 1) none) me)) (sym here) (begins_join slots id me x last next sized k)

-- The two ways that it goes.
pub has_begun_join : (n slots word route number last : ℕ) (m m' : MyTree) → word ≡ join_place route → number ≡ last + 1
    → BeginsSome (step slots word (4 * last) (4 * number + 1) none) m n m' → HasBegunJoin (eqb n (4 * last)) (attempt_of route number) m m'
has_begun_join n slots word route number last m m' at next t = let there : word ≡ join_place t.0.route = t.1.0 in
    let here : 4 * last + 4 ≡ 4 * t.0.number = t.1.1 in let r : t.0.route ≡ route = omega (arith, there, at) in
    let i : t.0.number ≡ number = omega (arith, here, next) in
    let told = subst (λ (x : Attempt). BeginsJoin x (step slots word (4 * last) (4 * number + 1) none) m n m') (λ k. attempt_of (r k) (i k)) t.3 in
    dite (ℕ_discrete n (4 * last))
    (λ hit. subst (λ (b : Bool). HasBegunJoin b (attempt_of route number) m m') (sym (eq-eqb n (4 * last) hit)) (told.0 hit))
    (λ miss. subst (λ (b : Bool). HasBegunJoin b (attempt_of route number) m m') (sym (ne_eqb n (4 * last) miss)) (told.1 miss).0)

-- The pass isn't the only one, where another one began an attempt since.
pub lost_beginning : (n slots word last new : ℕ) (m m' : MyTree) → BeginsSome (step slots word (4 * last) new none) m n m' → eqb n (4 * last) ≡ false
    → ¬ IsAlone m.0.sizes m.0.upper
lost_beginning n slots word last new m m' t lost = (t.3.1 (λ hit. let e : true ≡ false = sym (eq-eqb n (4 * last) hit) ∙ lost in absurd cc)).1
