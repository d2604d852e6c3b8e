-- What a pass knows that finished a secured attempt to join, from the loads of both links to the
-- exchange.
use Rattle.std.proofs.Common.{◌≡◌, ℕ, ◌+◌, ◌*◌, ◌<◌, ◌≤◌, Bool, true, false, not, List, [], ◌∷◌, ◌++◌, Err, sym, refl, ap, ◌∙◌, subst, inl, inr, arith, append-nil, append_assoc}
use Rattle.ca_node.proofs.LinkLoads.{led_to_marked}
use Rattle.ca_node.specs.Links.{IsIn}
use Rattle.ca_node.specs.Notes.{IsBaseNote}
use Rattle.ca_node.specs.Place.{left_of, right_of}
use Rattle.ca_node.specs.Row.{count, IsMarkedFor, route_key}
use Rattle.ca_node.specs.Told.{MyTree, IsAnyLink, IsKnown, IsLed, IsLedToBase, IsLedSecured, IsShownSecured, led_to_base}
use Rattle.ca_node.specs.TreeView.{Note, Way, Attempt, Turns, TreeView, no_joins, own_behind}
use Rattle.ca_node.specs.Unlinks.{Unlinking, attempt_by, one_unlinking_lost, turns_after, unlinked, unlinked_inventory}
use Rattle.ca_rows.specs.Layout.{row_words}
use Rattle.ca_rows.specs.declared.sizes.Sizes.{Sizes}
use Rattle.ca_base.specs.declared.stop.Stop.{Stop}
use Rattle.ca_base.specs.declared.stop.Stop.TheVariants as stop
use Rattle.ca_base.specs.Counting.{losses, HasFound, HasMet}
use Rattle.ca_base.specs.Joined.{AreJoinable}
use Rattle.ca_base.specs.Taking.{AreHeld}
use Rattle.ca_base.proofs.Counts.{met_both}
use Rattle.ca_rows.specs.declared.kept.KeptRows.{KeptRows}
use Rattle.ca_adapt.specs.declared.finishing.Finish.TheVariants as finish
use Rattle.ca_adapt.specs.Finishing.{HasFinished, HasLostJoin, HasPutJoined, HasTriedNone, HasUnitedBy, HasWonJoin, IsFinish, IsSteps, finish_by, helped_unless}
use Rattle.ca_adapt.proofs.JoinedRows.{none_met}

-- Steps follow each other.
pub steps_both : (z : Sizes) (u v w : TreeView) → IsSteps z u v → IsSteps z v w → IsSteps z u w
steps_both z u v w a b = record {
  only = subst (λ (y : TreeView). w ≡ (record y {
    seen = w.seen;
    notes = w.notes;
    ways = w.ways;
    ranges = record y.ranges { joins = w.ranges.joins };
    loads = w.loads;
    joins = w.joins;
    lost = w.lost;
    turns = w.turns;
    inventory = w.inventory;
  })) a.only b.only;
  seen = (
    a.seen.0 ++ b.seen.0,
    b.seen.1
        ∙ (ap (λ (xs : List (ℕ × _)). xs ++ b.seen.0) a.seen.1
        ∙ append_assoc u.seen a.seen.0 b.seen.0),
  );
  known = λ k. b.known (a.known k);
}

-- What was known of a history is known still where no more was seen.
known_still : (z : Sizes) (u v : TreeView) → v.number ≡ u.number → v.seen ≡ u.seen → v.log ≡ u.log
    → IsKnown z u → IsKnown z v
known_still z u v number seen log k =
    subst (λ (x : TreeView). IsKnown z (record v { number = x.number; seen = x.seen; log = x.log }))
    (λ i. record u { number = sym number i; seen = sym seen i; log = sym log i }) record {
      lawful = k.lawful;
      past = k.past;
      edits = k.edits;
      enrolled = k.enrolled;
      by_passes = k.by_passes;
    }

-- The load of a link.
step_led : (z : Sizes) (link : ℕ) (m : MyTree) (n : ℕ) (m' : MyTree) → m.0.sizes ≡ z → 0 < z.rows
    → IsLedToBase false link m n m'
    → IsSteps z m.0.upper m'.0.upper
step_led z link m n m' sizes some_rows b = subst (λ (x : TreeView). IsSteps z m.0.upper x)
    (sym (ap (λ (y : MyTree). y.0.upper) b.now)) record {
      only = refl;
      seen = (b.more, refl);
      known = λ k. subst (λ (y : Sizes). IsKnown y
          (led_to_base m.0.upper b.more b.note m.0.upper.last m.0.upper.shown)) sizes
          (b.known (subst (λ (y : Sizes). 0 < y.rows) (sym sizes) some_rows)).1;
    }

led_tries : (link : ℕ) (m : MyTree) (n : ℕ) (m' : MyTree) → IsLedToBase false link m n m'
    → HasTriedNone m.0.upper m'.0.upper
led_tries link m n m' b = subst (λ (x : TreeView). HasTriedNone m.0.upper x)
    (sym (ap (λ (y : MyTree). y.0.upper) b.now)) record {
      joins = refl;
      lost = refl;
      turns = refl;
      ways = refl;
      ranges = refl;
      inventory = refl;
    }

tries_both : (u v w : TreeView) → HasTriedNone u v → HasTriedNone v w → HasTriedNone u w
tries_both u v w a b = record {
  joins = b.joins ∙ a.joins;
  lost = b.lost ∙ a.lost;
  turns = b.turns ∙ a.turns;
  ways = b.ways ∙ a.ways;
  ranges = b.ranges ∙ a.ranges;
  inventory = b.inventory ∙ a.inventory;
}

-- The same rows are held.
held_led : (rows : ℕ) (kept : KeptRows) (link : ℕ) (m : MyTree) (n : ℕ) (m' : MyTree)
    (held : List ℕ) → IsLedToBase false link m n m'
    → AreHeld rows kept.rows m.0 held → AreHeld rows kept.rows m'.0 held
held_led rows kept link m n m' held b h = subst (λ (y : MyTree). AreHeld rows kept.rows y.0 held)
    (sym b.now)
    (h.0, record { now = h.1.now; ever = h.1.ever })

-- A link of a route that is remembered is known; it is after a load of such a link.
pub known_left : (u : TreeView) (route : ℕ) (way : Way) → IsIn way u.ways → way.row ≡ route
    → IsAnyLink u (row_words * route + 1)
known_left u route way i is = (
  way.place.level + 1,
  left_of (route_key way.its) way.place.span,
  inr (way, i, refl, inl (ap (λ (n : ℕ). row_words * n + 1) (sym is), refl)),
)

pub known_right : (u : TreeView) (route : ℕ) (way : Way) → IsIn way u.ways → way.row ≡ route
    → IsAnyLink u (row_words * route + 2)
known_right u route way i is = (
  way.place.level + 1,
  right_of (route_key way.its) way.place.span,
  inr (way, i, refl, inr (ap (λ (n : ℕ). row_words * n + 2) (sym is), refl)),
)

pub ways_after : (x : Attempt) (m k : MyTree) (left : ℕ) → IsIn x m.0.upper.ranges.joins.secured
    → IsLed false (row_words * x.route + 1) m left k
    → IsLedSecured (row_words * x.route + 1) m k → k.0.upper.ways ≡ m.0.upper.ways
ways_after x m k left i led secured =
    (led_tries (row_words * x.route + 1) m left k
    (led_to_marked false (row_words * x.route + 1) m left k x led
    (secured x i (inl refl))).0).ways

-- Both links of the route were loaded of which an attempt is known to be secured.
pub record AreLoaded (z : Sizes) (x : Attempt) (m k n : MyTree) (left right : ℕ) : Type 0 where
  pub sizes : m.0.sizes ≡ z
  pub some_rows : 0 < z.rows
  pub secured : IsIn x m.0.upper.ranges.joins.secured
  pub led_left : IsLed false (row_words * x.route + 1) m left k
  pub secured_left : IsLedSecured (row_words * x.route + 1) m k
  pub led_right : IsLed false (row_words * x.route + 2) k right n
  pub secured_right : IsLedSecured (row_words * x.route + 2) k n

-- So the seat was shown the two bases that the attempt marked, and otherwise it is as it was.
pub record AreBoth (z : Sizes) (x : Attempt) (m n : MyTree) (left right : ℕ) : Type 0 where
  pub first : Note
  pub second : Note
  pub last : (rest : List Note) × (n.0.upper.notes ≡ second ∷ first ∷ rest)
  pub joinable : AreJoinable z n.0.upper left right first second
  pub fit : count first.its + count second.its ≤ z.leaf
  pub left_marked : IsMarkedFor first.its x.route x.number
  pub left_link : first.place.link ≡ row_words * x.route + 1
  pub right_marked : IsMarkedFor second.its x.route x.number
  pub right_link : second.place.link ≡ row_words * x.route + 2
  pub sizes : n.0.sizes ≡ m.0.sizes
  pub pin : n.0.pin ≡ m.0.pin
  pub held : (rows : ℕ) (kept : KeptRows) (held : List ℕ) → AreHeld rows kept.rows m.0 held
      → AreHeld rows kept.rows n.0 held
  pub steps : IsSteps z m.0.upper n.0.upper
  pub tried : HasTriedNone m.0.upper n.0.upper
  pub loads : n.0.upper.loads ≡ m.0.upper.loads + 2
  pub met : HasMet 0 0 m n
  pub lost : losses n ≡ losses m

pub both_loaded : (z : Sizes) (x : Attempt) (m k n : MyTree) (left right : ℕ) → z.leaf ≤ 120
    → AreLoaded z x m k n left right
    → AreBoth z x m n left right
both_loaded z x m k n left right leaf l = record {
  first = a.0.note;
  second = b.0.note;
  last = (m.0.upper.notes, later ∙ ap (λ (xs : List Note). b.0.note ∷ xs) before);
  joinable = record {
    left_shown = record {
      noted = subst (λ (xs : List Note). IsIn a.0.note xs)
          (sym (later ∙ ap (λ (xs : List Note). b.0.note ∷ xs) before)) (1, refl);
      here = a.0.row_is;
      is_base = first_base;
    };
    right_shown = record {
      noted = subst (λ (xs : List Note). IsIn b.0.note xs) (sym later) (0, refl);
      here = b.0.row_is;
      is_base = subst (λ (y : Sizes). IsBaseNote y b.0.note) sizes_then
          (b.0.known (subst (λ (y : Sizes). 0 < y.rows) (sym sizes_then) l.some_rows)).0;
    };
    few = let f = together in omega arith;
  };
  fit = together;
  left_marked = subst (λ (y : Note). IsMarkedFor y.its x.route x.number) (sym a.1) s.marked;
  left_link = ap (λ (y : Note). y.place.link) a.1 ∙ s.hangs;
  right_marked = subst (λ (y : Note). IsMarkedFor y.its x.route x.number) (sym b.1) t.marked;
  right_link = ap (λ (y : Note). y.place.link) b.1 ∙ t.hangs;
  sizes = ap (λ (y : MyTree). y.0.sizes) b.0.now ∙ ap (λ (y : MyTree). y.0.sizes) a.0.now;
  pin = ap (λ (y : MyTree). y.0.pin) b.0.now ∙ ap (λ (y : MyTree). y.0.pin) a.0.now;
  held = λ rows kept held h. held_led rows kept _ k right n held b.0
      (held_led rows kept _ m left k held a.0 h);
  steps = steps_both z m.0.upper k.0.upper n.0.upper (step_led z _ m left k l.sizes l.some_rows a.0)
      (step_led z _ k right n sizes_then l.some_rows b.0);
  tried = tries_both m.0.upper k.0.upper n.0.upper (led_tries _ m left k a.0)
      (led_tries _ k right n b.0);
  loads = let one = ap (λ (y : MyTree). y.0.upper.loads) a.0.now in let two =
      ap (λ (y : MyTree). y.0.upper.loads) b.0.now in omega arith;
  met = none_met m n (ap (λ (y : MyTree). y.0.empty) b.0.now
      ∙ ap (λ (y : MyTree). y.0.empty) a.0.now)
      (ap (λ (y : MyTree). y.0.worn) b.0.now ∙ ap (λ (y : MyTree). y.0.worn) a.0.now);
  lost = ap losses b.0.now ∙ ap losses a.0.now;
}
  where
    s : IsShownSecured (row_words * x.route + 1) x m k
    s = l.secured_left x l.secured (inl refl)

    a : (b : IsLedToBase false (row_words * x.route + 1) m left k) × (b.note ≡ s.note)
    a = led_to_marked false (row_words * x.route + 1) m left k x l.led_left s

    t : IsShownSecured (row_words * x.route + 2) x k n
    t = l.secured_right x
        (subst (λ (y : TreeView). IsIn x y.ranges.joins.secured)
        (sym (ap (λ (y : MyTree). y.0.upper) a.0.now)) l.secured) (inr refl)

    b : (b : IsLedToBase false (row_words * x.route + 2) k right n) × (b.note ≡ t.note)
    b = led_to_marked false (row_words * x.route + 2) k right n x l.led_right t

    before : k.0.upper.notes ≡ a.0.note ∷ m.0.upper.notes
    before = ap (λ (y : MyTree). y.0.upper.notes) a.0.now

    later : n.0.upper.notes ≡ b.0.note ∷ k.0.upper.notes
    later = ap (λ (y : MyTree). y.0.upper.notes) b.0.now

    sizes_then : k.0.sizes ≡ z
    sizes_then = ap (λ (y : MyTree). y.0.sizes) a.0.now ∙ l.sizes

    first_base : IsBaseNote z a.0.note
    first_base = subst (λ (y : Sizes). IsBaseNote y a.0.note) l.sizes
        (a.0.known (subst (λ (y : Sizes). 0 < y.rows) (sym l.sizes) l.some_rows)).0

    here : a.0.note.place.link ≡ row_words * x.route + 1
    here = ap (λ (y : Note). y.place.link) a.1 ∙ s.hangs

    together : count a.0.note.its + count b.0.note.its ≤ z.leaf
    together = subst (λ (y : Note × Sizes). count a.0.note.its + count y.0.its ≤ y.1.leaf)
        (λ i. (sym b.1 i, sizes_then i))
        (t.few a.0.note (subst (λ (xs : List Note). IsIn a.0.note xs) (sym before) (0, refl))
        (inl here) (λ e. omega (arith, here, e))
        (subst (λ (y : Note). IsMarkedFor y.its x.route x.number) (sym a.1) s.marked))

-- The exchange won, or it was lost, of an attempt that isn't the seat's own.
step_won : (z : Sizes) (new : ℕ) (x : Unlinking) (u v : TreeView)
    → own_behind (attempt_by x) u.ranges.own ≡ u.ranges.own → v ≡ unlinked new x u → IsSteps z u v
step_won z new x u v own e = subst (λ (y : TreeView). IsSteps z u y) (sym e) record {
  only = λ i. record (unlinked new x u) {
    ranges =
        record u.ranges { own = own i; joins = no_joins };
  };
  seen = ([], sym (append-nil u.seen));
  known = λ k. known_still z u (unlinked new x u) refl refl refl k;
}

step_lost : (z : Sizes) (x : Unlinking) (u v : TreeView)
    → own_behind (attempt_by x) u.ranges.own ≡ u.ranges.own → v ≡ one_unlinking_lost x u
    → IsSteps z u v
step_lost z x u v own e = subst (λ (y : TreeView). IsSteps z u y) (sym e) record {
  only = λ i. record (one_unlinking_lost x u) {
    ranges =
        record u.ranges { own = own i; joins = no_joins };
  };
  seen = ([], sym (append-nil u.seen));
  known = λ k. known_still z u (one_unlinking_lost x u) refl refl refl k;
}

by_not : (counted : Bool) (turns : Turns) → turns_after (not counted) turns ≡ helped_unless
    counted turns
by_not true turns = refl
by_not false turns = refl

won_join : (counted : Bool) (new : ℕ) (x : Unlinking) (u v w : TreeView) → x.counts ≡ not counted
    → HasTriedNone u v → w ≡ unlinked new x v
    → HasWonJoin counted u w
won_join counted new x u v w counts t e = record {
  joins = ap (λ (y : TreeView). y.joins) e ∙ ap (λ (n : ℕ). n + 1) t.joins;
  lost = ap (λ (y : TreeView). y.lost) e ∙ t.lost;
  turns = ap (λ (y : TreeView). y.turns) e ∙ (ap (λ (c : Bool). turns_after c v.turns) counts
      ∙ (by_not counted v.turns ∙ ap (helped_unless counted) t.turns));
  forgotten = (
    ap (λ (y : TreeView). y.notes) e,
    ap (λ (y : TreeView). y.ways) e,
    ap (λ (y : TreeView). y.ranges.joins) e,
  );
}

lost_join : (x : Unlinking) (u v w : TreeView) → HasTriedNone u v → w ≡ one_unlinking_lost x v
    → HasLostJoin u w
lost_join x u v w t e = record {
  joins = ap (λ (y : TreeView). y.joins) e ∙ t.joins;
  lost = ap (λ (y : TreeView). y.lost) e ∙ ap (λ (n : ℕ). n + 1) t.lost;
  turns = ap (λ (y : TreeView). y.turns) e ∙ t.turns;
  forgotten = (
    ap (λ (y : TreeView). y.notes) e,
    ap (λ (y : TreeView). y.ways) e,
    ap (λ (y : TreeView). y.ranges.joins) e,
  );
  inventory = ap (λ (y : TreeView). y.inventory) e ∙ t.inventory;
}

-- Where it won, a base took the place of the route and of both bases under it.
pub finished_united : (a : Attempt) (m n l k : MyTree) (new : ℕ) (x : Unlinking) (won : Bool)
    → HasTriedNone m.0.upper n.0.upper → l.0.upper ≡ n.0.upper
    → losses l ≡ losses m → attempt_by x ≡ a → IsIn x.way l.0.upper.ways
    → HasPutJoined won new x l k → HasUnitedBy a finish.Done m k
finished_united a m n l k new x true t upper same is way put = λ _. (
  new,
  x,
  is,
  subst (λ (ways : List Way). IsIn x.way ways) (ap (λ (u : TreeView). u.ways) upper ∙ t.ways) way,
  ap (λ (u : TreeView). u.inventory) put.0 ∙ ap (unlinked_inventory new x)
      (ap (λ (u : TreeView). u.inventory) upper ∙ t.inventory),
)
finished_united a m n l k new x false t upper same is way put = λ none. let more = put.1 in
    absurd (omega (arith, same, none, more))

-- Where there was no row nothing did.
pub none_united : (a : Attempt) (why : Stop) (m m' : MyTree) → HasUnitedBy a (finish_by why) m m'
none_united a (stop.Lost exchange) m m' = tt
none_united a stop.Empty m m' = tt
none_united a stop.Worn m m' = tt

-- The exchange was made, of a base that was written meanwhile.
pub finished_done : (z : Sizes) (a : Attempt) (counted : Bool) (m n l k : MyTree)
    (left right new : ℕ) (x : Unlinking) (won : Bool)
    → own_behind (attempt_by x) n.0.upper.ranges.own ≡ n.0.upper.ranges.own
    → AreBoth z a m n left right
    → l.0.upper ≡ n.0.upper → HasMet 0 0 n l → losses l ≡ losses n → x.counts ≡ not counted
    → HasMet 0 0 l k → HasPutJoined won new x l k
    → HasFinished z counted finish.Done m k
finished_done z a counted m n l k left right new x true own h upper met same counts met' put =
    let now : k.0.upper ≡ unlinked new x n.0.upper = put.0 ∙ ap (unlinked new x) upper in record {
      steps = steps_both z m.0.upper n.0.upper k.0.upper h.steps
          (step_won z new x n.0.upper k.0.upper own now);
      loads = ap (λ (y : TreeView). y.loads) now ∙ h.loads;
      ends = (
        met_both 0 0 0 0 m n k h.met (met_both 0 0 0 0 n l k met met'),
        inl (
          won_join counted new x m.0.upper n.0.upper k.0.upper counts h.tried now,
          put.1
              ∙ (same ∙ h.lost),
        ),
      );
    }
finished_done z a counted m n l k left right new x false own h upper met same counts met' put =
    let now : k.0.upper ≡ one_unlinking_lost x n.0.upper =
    put.0 ∙ ap (one_unlinking_lost x) upper in record {
      steps = steps_both z m.0.upper n.0.upper k.0.upper h.steps
          (step_lost z x n.0.upper k.0.upper own now);
      loads = ap (λ (y : TreeView). y.loads) now ∙ h.loads;
      ends = (
        met_both 0 0 0 0 m n k h.met (met_both 0 0 0 0 n l k met met'),
        inr (
          lost_join x m.0.upper n.0.upper k.0.upper h.tried now,
          let more = put.1 in let before = h.lost in let then : losses m < losses k =
              omega (arith, same) in then,
        ),
      );
    }

-- There was no row.
pub finished_not : (z : Sizes) (a : Attempt) (counted : Bool) (m n l : MyTree) (left right : ℕ)
    (why : Stop) → AreBoth z a m n left right
    → l.0.upper ≡ n.0.upper → HasFound {T = ℕ} (Err why) n l
    → HasFinished z counted (finish_by why) m l
finished_not z a counted m n l left right why h upper found = record {
  steps = subst (λ (y : TreeView). IsSteps z m.0.upper y) (sym upper) h.steps;
  loads = ap (λ (y : TreeView). y.loads) upper ∙ h.loads;
  ends = by why found;
}
  where
    none : HasTriedNone m.0.upper l.0.upper
    none = subst (λ (y : TreeView). HasTriedNone m.0.upper y) (sym upper) h.tried

    by : (r : Stop) → HasFound {T = ℕ} (Err r) n l → IsFinish counted (finish_by r) m l
    by (stop.Lost x) f = (
      met_both 0 0 0 0 m n l h.met f.1,
      none,
      let e = h.lost in let more =
          f.0 in omega arith,
    )
    by stop.Empty f = (met_both 0 0 1 0 m n l h.met f, none)
    by stop.Worn f = (met_both 0 0 0 1 m n l h.met f, none)
