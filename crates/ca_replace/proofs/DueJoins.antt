-- A try to join the new base of an update, which is due: what it comes to.
use Rattle.std.proofs.Common.{◌≡◌, ◌≢◌, ◌⊎◌, ◌<◌, ℕ, ◌+◌, List, Option, Ok, Err, None, Some, sym, refl, ap, ◌∙◌, subst, inl, inr, ⊎_elim, arith, ◌≤◌}
use denote.Ref.{Bor}
use Rattle.ca_adapt.specs.declared.adapted.Adapted.{Adapted}
use Rattle.ca_adapt.specs.declared.adapted.Adapted.TheVariants as adapted
use Rattle.ca_adapt.specs.declared.adapted.Why.{Why}
use Rattle.ca_adapt.specs.declared.adapted.Why.TheVariants as why
use Rattle.ca_adapt.specs.declared.joining.Attempt.{Attempt}
use Rattle.ca_adapt.specs.Finishing.{IsHungBy}
use Rattle.ca_adapt.specs.Joins.{HasBegunAt}
use Rattle.ca_adapt.specs.Trying.{HasBegunThen, HasLeft, HasLooked, IsFoundUnranged, IsHungUnder, IsJoinOutcome, IsJoinSteps, IsLoneTry, IsLostTo, IsOvertaken, IsSpentTrying, IsUnlinkedBefore, IsWhyNotJoined, route_of}
use Rattle.ca_base.specs.Counting.{losses, HasMet}
use Rattle.ca_base.specs.Progress.{IsFurther}
use Rattle.ca_base.specs.Putting.{first_note}
use Rattle.ca_base.specs.Spending.{RisesBy}
use Rattle.ca_model.specs.declared.outcome.Spent.{Spent}
use Rattle.ca_node.specs.JoinSteps.{HasLoadedJoin}
use Rattle.ca_node.specs.Place.{HasKey, all_keys, left_of, right_of}
use Rattle.ca_node.specs.Row.{mark, route_key}
use Rattle.ca_node.specs.Told.{MyTree, IsAnyLink, IsKnown, link_word}
use Rattle.ca_node.specs.TreeView.{Inventory, Note, Renewal, Tries, Turns, TreeView, one_tried}
use Rattle.ca_node.specs.Walking.{IsAbove, IsHungOn, IsLinkAmong, IsWalked}
use Rattle.ca_node.specs.declared.cursor.Cursor.{Cursor}
use Rattle.ca_node.specs.declared.cursor.Spot.TheVariants as spot
use Rattle.ca_node.specs.declared.link.Link.{Link}
use Rattle.ca_node.specs.declared.link.Link.TheVariants as on
use Rattle.ca_replace.proofs.DueCauses.{walked_met}
use Rattle.ca_replace.proofs.JoinHelps.{HelpsOn}
use Rattle.ca_replace.proofs.Meeting.{further_on}
use Rattle.ca_replace.proofs.Showing.{walked_further, walked_quiet}
use Rattle.ca_replace.specs.Adapting.{HasLookedToJoin, HasLostSome, HasMetNothing, HasMetPool, HasTriedOne, IsCauseMet, IsMetUnjoined, IsNew}
use Rattle.ca_replace.specs.Attempting.{IsPaidBut, passes, helps}
use Rattle.ca_replace.specs.Cutting.{HasCutDue}
use Rattle.ca_replace.specs.Growing.{Grows}
use Rattle.ca_replace.specs.Winning.{StaysNewest}
use Rattle.ca_rows.specs.declared.sizes.Sizes.{Sizes}
use Rattle.ca_rows.specs.declared.view.Met.{Met}
use Rattle.ca_rows.specs.Told.{met_of}

-- A link of a route that is remembered is one that a seat knows.
any_link : (u : TreeView) (l : ℕ) → IsLinkAmong u.ways l → IsAnyLink u l
any_link u l (inl root) = (0, all_keys, inl (root, refl, refl))
any_link u l (inr (way, i, inl left)) = (
  way.place.level + 1,
  left_of (route_key way.its) way.place.span,
  inr
      (way, i, refl, inl (left, refl)),
)
any_link u l (inr (way, i, inr right)) = (
  way.place.level + 1,
  right_of (route_key way.its) way.place.span,
  inr
      (way, i, refl, inr (right, refl)),
)

hung_by : (z : Sizes) (u : TreeView) (route : ℕ) (above : Link) → IsHungOn z u.ways route above
    → IsHungBy z u route above
hung_by z u route above h = record {
  way = h.way;
  remembered = h.remembered;
  row_is = h.row_is;
  link_is = h.link_is;
  is_route = h.is_route;
  known = any_link u (link_word above) h.known;
  inside = h.inside;
}

-- So the walk that came to a base tells on which link the base's route hangs.
pub hung_under : (z : Sizes) (u : TreeView) (l : Link) (a : Option Link) → IsAbove z u.ways l a
    → IsHungUnder z u l a
hung_under z u on.Root a is = tt
hung_under z u (on.Left route) None is = absurd is
hung_under z u (on.Left route) (Some above) is = hung_by z u route above is
hung_under z u (on.Right route) None is = absurd is
hung_under z u (on.Right route) (Some above) is = hung_by z u route above is

-- From one of these moments to the other nothing was met of the pool, no exchange of a link was lost, and no attempt to join was begun.
abbrev MeetsNone : MyTree → MyTree → Type 0
MeetsNone m m' = (met_of m' ≡ met_of m) × (m'.0.upper.lost ≡ m.0.upper.lost)
    × (m'.0.upper.tries ≡ m.0.upper.tries)

meets_both : (k m n : MyTree) → MeetsNone k m → MeetsNone m n → MeetsNone k n
meets_both k m n a b = (b.0 ∙ a.0, b.1 ∙ a.1, b.2 ∙ a.2)

unranged_meets : (note : Note) (m m' : MyTree) → IsFoundUnranged note m m' → MeetsNone m m'
unranged_meets note m m'
    (inl (none, e)) =
    (ap met_of e, ap (λ (x : MyTree). x.0.upper.lost) e, ap (λ (x : MyTree). x.0.upper.tries) e)
unranged_meets note m m'
    (inr (one, (word, watched, not))) = (
      ap met_of watched.now,
      ap (λ (x : MyTree). x.0.upper.lost) watched.now,
      ap
          (λ (x : MyTree). x.0.upper.tries) watched.now,
    )

looked_meets : (z : Sizes) (l : Link) (note : Note) (m m' : MyTree) → HasLooked z l note m m'
    → MeetsNone m m'
looked_meets z l note m m' h = let led = h.found.led in meets_both m h.between m' (
  ap met_of led.now,
  ap (λ (x : MyTree). x.0.upper.lost) led.now,
  ap
      (λ (x : MyTree). x.0.upper.tries) led.now,
)
    (unranged_meets h.sibling h.between m' h.unranged)

-- Nor was any exchange lost.
looked_lost : (z : Sizes) (l : Link) (note : Note) (m m' : MyTree) → HasLooked z l note m m'
    → losses m' ≡ losses m
looked_lost z l note m m' h = let led = h.found.led in let first = ap losses led.now in
    ⊎_elim (λ (n : (mark h.sibling.its ≢ 1) × (m' ≡ h.between)). let then = ap losses n.1 in omega
    (arith, first, then))
    (λ o. let watched = o.1.1 in let then = ap losses watched.now in omega (arith, first, then))
    h.unranged

-- An attempt was begun behind such a look, or tried to be: that is one try.
begun_tries : (z : Sizes) (l : Link) (note : Note) (m m' n : MyTree) (x : Attempt) → HasLooked z l
    note m m' → HasBegunAt (route_of l) (Ok x) m' n
    → n.0.upper.tries ≡ one_tried m.0.upper.tries
begun_tries z l note m m' n x looked b = ap (λ (y : MyTree). y.0.upper.tries) b.2.5
    ∙ (ap (λ (y : MyTree). one_tried y.0.upper.tries) b.2.2.now ∙ ap one_tried
    (looked_meets z l note m m' looked).2)

unbegun_tries : (z : Sizes) (l : Link) (note : Note) (m m' n : MyTree) → HasLooked z l note m m'
    → HasBegunAt (route_of l) (Err why.Lost) m' n
    → n.0.upper.tries ≡ one_tried m.0.upper.tries
unbegun_tries z l note m m' n looked b = ap (λ (y : MyTree). y.0.upper.tries) b.3.2
    ∙ (ap (λ (y : MyTree). one_tried y.0.upper.tries) b.2.now ∙ ap one_tried
    (looked_meets z l note m m' looked).2)

-- A join word was loaded, and nothing was tried.
loaded_meets : (route word : ℕ) (m n m' : MyTree) → HasLoadedJoin route m word n → m' ≡ n
    → MeetsNone m m'
loaded_meets route word m n m' h
    same = (
      ap met_of (same ∙ h.now),
      ap (λ (x : MyTree). x.0.upper.lost) (same ∙ h.now),
      ap
          (λ (x : MyTree). x.0.upper.tries) (same ∙ h.now),
    )

-- Nothing had been met since the update until a moment, and nothing was from then on; or so much of the pool.
module _ (m m' : MyTree) (met : met_of m ≡ m.0.upper.renewal.met)
    (lost : m.0.upper.lost ≡ m.0.upper.renewal.lost)
    (none : m.0.upper.tries ≡ m.0.upper.renewal.tries)
    (same : m'.0.upper.renewal ≡ m.0.upper.renewal) where
  none_since : MeetsNone m m' → HasMetNothing m'.0.upper.renewal (met_of m') m'.0.upper.lost
      × (m'.0.upper.tries ≡ m'.0.upper.renewal.tries)
  none_since h = let now : met_of m' ≡ m'.0.upper.renewal.met = h.0
      ∙ (met ∙ ap (λ (r : Renewal). r.met) (sym same)) in
      let empty = ap (λ (x : Met). x.empty) now in let worn = ap (λ (x : Met). x.worn) now in
      let links : m'.0.upper.lost ≡ m'.0.upper.renewal.lost = h.1
      ∙ (lost ∙ ap (λ (r : Renewal). r.lost) (sym same)) in (
        ((omega arith, omega arith, omega arith), ap (λ (x : Met). x.lost) now),
        h.2 ∙ (none ∙ ap (λ (r : Renewal). r.tries) (sym same)),
      )

  pool_since : (empty worn : ℕ) → HasMet empty worn m m' → HasMetPool empty worn m'.0.upper.renewal
      (met_of m')
  pool_since empty worn h = let one = h.0 in let two = h.1 in
      let now : met_of m ≡ m'.0.upper.renewal.met = met ∙ ap (λ (r : Renewal). r.met) (sym same) in
      let before = ap (λ (x : Met). x.empty) now in let before' = ap (λ (x : Met). x.worn) now in
      (omega arith, omega arith)

  -- An exchange was lost since, where more were than until that moment.
  some_lost : losses m < losses m' → HasLostSome m'.0.upper.renewal (met_of m') m'.0.upper.lost
      m'.0.upper.tries
  some_lost less = let pool = ap (λ (x : Met). x.lost) met in let then_pool = ap
      (λ (r : Renewal). r.met.lost) same in
      let then_links = ap (λ (r : Renewal). r.lost) same in inl (omega (arith, lost, less))

  -- One was tried since, where one was since that moment.
  one_since : m'.0.upper.tries.tried ≡ m.0.upper.tries.tried + 1 → HasTriedOne m'.0.upper.renewal
      m'.0.upper.tries
  one_since one = one ∙ ap (λ (t : Tries). t.tried + 1)
      (none ∙ ap (λ (r : Renewal). r.tries) (sym same))

  overtaken_since : m'.0.upper.tries.overtaken ≡ m.0.upper.tries.overtaken + 1
      → HasLostSome m'.0.upper.renewal (met_of m') m'.0.upper.lost m'.0.upper.tries
  overtaken_since one = inr
      (one ∙ ap (λ (t : Tries). t.overtaken + 1) (none ∙ ap (λ (r : Renewal). r.tries) (sym same)))

  lost_some : (z : Sizes) (l : Link) (note : Note) (then : MyTree) → HasLooked z l note m then
      → HasBegunAt (route_of l) (Err why.Lost) then m' ⊎ HasBegunThen (route_of l)
      (λ x n. IsLostTo x n m') then
      → HasLostSome m'.0.upper.renewal (met_of m') m'.0.upper.lost m'.0.upper.tries × HasTriedOne
      m'.0.upper.renewal m'.0.upper.tries
  lost_some z l note then looked (inl b) = let none_lost = looked_lost z l note m then looked in
      let load = ap losses b.2.now in let one = ap losses b.3.2 in (
        some_lost (omega (arith, none_lost, load, one)),
        one_since (ap (λ (t : Tries). t.tried) (unbegun_tries z l note m then m' looked b)),
      )
  lost_some z l note then looked (inr t) = let none_lost = looked_lost z l note m then looked in
      let load = ap losses t.2.2.2.now in let began = ap losses t.2.2.5 in
      let same_lost : losses t.1 ≡ losses m = omega (arith, none_lost, load, began) in
      let tries = begun_tries z l note m then t.1 t.0 looked t.2 in let one = ap
      (λ (y : Tries). y.tried) tries in
      ⊎_elim
      (λ (left : HasLeft t.1 m' × (losses t.1 < losses m')). let less = left.1 in
      (some_lost (omega (arith, less, same_lost)), one_since (left.0.counts.tried ∙ one)))
      (λ (o : IsUnlinkedBefore t.1 m' ⊎ IsOvertaken t.0 t.1 m'). ⊎_elim
      (λ (before : IsUnlinkedBefore t.1 m'). let less = before.2 in
      (some_lost (omega (arith, less, same_lost)), one_since (before.0.tried ∙ one)))
      (λ (over : IsOvertaken t.0 t.1 m'). (
        overtaken_since (over.3 ∙ ap (λ (y : Tries). y.overtaken + 1) tries),
        one_since
            (over.0.tried ∙ one),
      )) o) t.3

  -- So it was of one that was begun and left.
  left_one : (z : Sizes) (l : Link) (note : Note) (then : MyTree) → HasLooked z l note m then
      → HasBegunThen (route_of l) (λ x n. HasLeft n m') then → HasTriedOne m'.0.upper.renewal
      m'.0.upper.tries
  left_one z l note then looked t = one_since
      (t.3.counts.tried ∙ ap (λ (y : Tries). y.tried)
      (begun_tries z l note m then t.1 t.0 looked t.2))

  -- Why a base was not joined was met since the update.
  unjoined_met : (z : Sizes) (l : Link) (note : Note) (w : Why) → IsWhyNotJoined z l note w m m'
      → IsMetUnjoined w m'.0.upper.renewal (met_of m') m'.0.upper.lost m'.0.upper.tries
  unjoined_met z l note why.Root h = none_since (
    ap met_of h.1,
    ap (λ (x : MyTree). x.0.upper.lost) h.1,
    ap (λ (x : MyTree). x.0.upper.tries)
        h.1,
  )
  unjoined_met z l note why.OneObject h = absurd h
  unjoined_met z l note why.AtLevel h = absurd h
  unjoined_met z l note why.SiblingRoute h = let led = h.1.1 in none_since (
    ap met_of led.now,
    ap (λ (x : MyTree). x.0.upper.lost) led.now,
    ap
        (λ (x : MyTree). x.0.upper.tries) led.now,
  )
  unjoined_met z l note why.TooMany h = let led = h.1.1 in none_since (
    ap met_of led.now,
    ap (λ (x : MyTree). x.0.upper.lost) led.now,
    ap
        (λ (x : MyTree). x.0.upper.tries) led.now,
  )
  unjoined_met z l note why.Taken (some, inl x) = let found = x.2 in let watched = x.3.1 in
      none_since
      (meets_both m x.1 m' (
        ap met_of found.led.now,
        ap (λ (x : MyTree). x.0.upper.lost) found.led.now,
        ap
            (λ (x : MyTree). x.0.upper.tries) found.led.now,
      ) (
        ap met_of watched.now,
        ap (λ (x : MyTree). x.0.upper.lost) watched.now,
        ap
            (λ (x : MyTree). x.0.upper.tries) watched.now,
      ))
  unjoined_met z l note why.Taken (some, inr x) = none_since
      (meets_both m x.0 m' (looked_meets z l note m x.0 x.1)
      (loaded_meets _ x.2.0 x.0 x.2.1 m' x.2.2 x.2.3.1))
  unjoined_met z l note why.Lost h = let some = lost_some z l note h.1.0 h.1.1 h.1.3 in
      (pool_since 0 0 h.1.2, some.0, some.1)
  unjoined_met z l note why.NoRow h = (pool_since 1 0 h.1.2, left_one z l note h.1.0 h.1.1 h.1.3)
  unjoined_met z l note why.Worn (some, (then, looked, inl begun)) = inr (none_since
      (meets_both m then m' (looked_meets z l note m then looked)
      (loaded_meets _ begun.0 then begun.1 m' begun.2 begun.3.2)))
  unjoined_met z l note why.Worn (some, (then, looked, inr left)) =
      inl (pool_since 0 1 left.0, left_one z l note then looked left.1)

  tried_met : (z : Sizes) (l : Link) (note : Note) (a : Adapted) → IsJoinOutcome z l note a m m'
      → IsCauseMet a (met_of m') m'.0.upper
  tried_met z l note adapted.Stay h = absurd h
  tried_met z l note adapted.Split h = absurd h
  tried_met z l note adapted.Joined h = let t = h.1.5 in (
    pool_since 0 0 h.1.2,
    (let pool = ap (λ (x : Met). x.lost) met in let then_pool = ap (λ (r : Renewal). r.met.lost)
        same in
        let then_links = ap (λ (r : Renewal). r.lost) same in let none_lost = h.1.3 in omega
        (arith, lost)),
    one_since (t.3.tried ∙ ap (λ (y : Tries). y.tried)
        (begun_tries z l note m h.1.0 t.1 t.0 h.1.1 t.2)),
  )
  tried_met z l note (adapted.NotSplit w) h = absurd h
  tried_met z l note (adapted.NotJoined w) h = unjoined_met z l note w h

-- After an update the pass walked to its key again, came to the new base, and tried once to join it.
module _ (z : Sizes) (key : Bor (List ℕ)) (placed : ℕ) (k m m' : MyTree) (cursor : Cursor)
    (a : Adapted)
    (new : IsNew placed key.now (met_of k) k.0.upper) (w : IsWalked z (spot.At key) k cursor m)
    (here : cursor.base ≡ placed)
    (steps : IsJoinSteps z m.0.upper m'.0.upper) where
  -- Nothing was updated.
  renewal_is : m'.0.upper.renewal ≡ k.0.upper.renewal
  renewal_is = ap (λ (u : TreeView). u.renewal) steps.only ∙ ap (λ (x : MyTree). x.0.upper.renewal)
      w.now

  last_is : m'.0.upper.last ≡ w.note
  last_is = ap (λ (u : TreeView). u.last) steps.only ∙ ap (λ (x : MyTree). x.0.upper.last) w.now

  row_is : m'.0.upper.last.row ≡ m'.0.upper.renewal.new.row
  row_is = ap (λ (n : Note). n.row) last_is
      ∙ (w.cursor_is.base ∙ (here ∙ (new.row ∙ ap (λ (r : Renewal). r.new.row) (sym renewal_is))))

  -- Nor did it pass on to another place on its way there.
  passed_there : m.0.upper.turns.passed ≡ m.0.upper.renewal.passed
  passed_there = ap (λ (x : MyTree). x.0.upper.turns.passed) w.now
      ∙ (new.passed_are ∙ ap (λ (r : Renewal). r.passed)
      (sym (ap (λ (x : MyTree). x.0.upper.renewal) w.now)))

  pub joins_there : k.0.sizes ≡ z → IsJoinOutcome z cursor.link (first_note m.0.upper.notes) a m m'
      → HasLookedToJoin z a k.0.upper m'.0.upper
  joins_there sized h = let met = walked_met z key placed k m cursor new w in
      let same : m.0.upper.renewal ≡ m'.0.upper.renewal = sym
      (ap (λ (u : TreeView). u.renewal) steps.only) in
      let last : m.0.upper.last ≡ m'.0.upper.last = sym (ap (λ (u : TreeView). u.last) steps.only)
      in
      let shown = ap (λ (u : TreeView). u.shown) steps.only in let first = ap
      (λ (x : MyTree). first_note x.0.upper.notes) w.now in (
        renewal_is,
        (
          (let loads = ap (λ (r : Renewal). r.loads) renewal_is in let at = new.loads_are in let
              some = w.some in let few = w.few in
              let now : m'.0.upper.shown ≡ k.0.upper.loads + w.loads = shown ∙ ap
              (λ (x : MyTree). x.0.upper.shown) w.now in (omega arith, omega arith)),
          subst (λ (r : Renewal). HasKey m'.0.upper.last.place.span r.key) (sym renewal_is)
              (subst (λ (n : Note). HasKey n.place.span k.0.upper.renewal.key) (sym last_is)
              (subst (HasKey w.note.place.span) (sym new.key_is) w.sought)),
          inr (
            row_is,
            (
              cursor.link,
              m,
              m',
              ap (λ (n : Note). n.place.link) last_is ∙ w.cursor_is.link,
              (
                ap (λ (x : MyTree). x.0.sizes) w.now ∙ sized,
                last,
                ap (λ (x : MyTree). x.0.upper.loads) w.now ∙ sym
                    (shown ∙ ap (λ (x : MyTree). x.0.upper.shown) w.now),
                same,
                sym (ap (λ (u : TreeView). u.since) steps.only),
                ap (λ (x : MyTree). x.0.upper.joins) w.now
                    ∙ (new.joins_are ∙ ap (λ (r : Renewal). r.joins) (sym renewal_is)),
                met.1 ∙ ap (λ (r : Renewal). r.lost) same,
                met.0 ∙ ap (λ (r : Renewal). r.met) same,
                passed_there ∙ ap (λ (r : Renewal). r.passed) same,
                met.2 ∙ ap (λ (r : Renewal). r.tries) same,
              ),
              (refl, refl, refl, refl, refl, refl),
              subst (λ (n : Note). IsJoinOutcome z cursor.link n a m m') (first ∙ sym last_is) h,
              ap (λ (u : TreeView). u.splits) steps.only
                  ∙ (ap (λ (x : MyTree). x.0.upper.splits) w.now
                  ∙ (new.splits_are ∙ ap (λ (r : Renewal). r.splits) (sym renewal_is))),
            ),
          ),
        ),
      )

  pub join_further : IsFurther k.0.upper m'.0.upper × IsKnown z m'.0.upper
  join_further = (
    further_on k.0.upper m.0.upper m'.0.upper (walked_further z (spot.At key) k m cursor w) record {
      number = ap (λ (u : TreeView). u.number) steps.only;
      seen = steps.seen;
      log = ap (λ (u : TreeView). u.log) steps.only;
      counts = ap (λ (u : TreeView). u.counts) steps.only;
    },
    steps.known w.known,
  )

  pub join_met : (l : Link) (note : Note) → IsJoinOutcome z l note a m m' → IsCauseMet a (met_of m')
      m'.0.upper
  join_met l note h = let met = walked_met z key placed k m cursor new w in
      tried_met m m' met.0 met.1 met.2 (ap (λ (u : TreeView). u.renewal) steps.only) z l note a h

  pub join_paid : (before now : Spent) → helps m ≤ helps m' → IsSpentTrying before now m m'
      → IsPaidBut before now k m'
  join_paid before now more s = let q = walked_quiet z (spot.At key) k m cursor w in record {
    more_helped = let help = ap (λ (t : Turns). t.helped) q.same_turns in omega arith;
    lost = subst (λ (n : ℕ). RisesBy before.lost now.lost n (losses m')) q.lost s.lost;
    passed = subst (λ (t : Turns). RisesBy before.passed now.passed t.passed (passes m'))
        q.same_turns s.passed;
  }

  pub join_cut : HasCutDue z k.0.upper.cuts m'.0.upper
  join_cut = inl
      (ap (λ (u : TreeView). u.cuts) steps.only ∙ ap (λ (x : MyTree). x.0.upper.cuts) w.now)

  -- A pass that is alone loses no exchange of a link, and helps nothing.
  pub join_won : IsLoneTry a m m' → HelpsOn m m' → StaysNewest k.0.upper m'.0.upper
  join_won alone on = (
    alone.by.won ∙ ap (λ (x : MyTree). x.0.upper.lost) w.now,
    row_is,
    λ none. on.1 (ap (λ (x : MyTree). x.0.upper.ranges.unfinished) w.now ∙ none) ∙ ap helps w.now,
  )

  -- Its tree grows no more than by a split.
  pub join_grows : IsLoneTry a m m' → Grows 1 2 1 k.0.upper m'.0.upper
  join_grows alone = let split = ap (λ (u : TreeView). u.splits) steps.only ∙ ap
      (λ (x : MyTree). x.0.upper.splits) w.now in
      let up = ap (λ (x : MyTree). x.0.upper.inventory) w.now in
      subst (λ (i : Inventory). Grows 1 2 1 (record k.0.upper { inventory = i }) m'.0.upper) up
      record {
        splits_are = omega (arith, split);
        rows_are = let r = alone.by.rows_are in omega arith;
        bases_are = let b = alone.by.bases_are in omega arith;
        most_are = let b = alone.by.most_are in omega arith;
      }
