-- A call's attempts of which none did it so far, and the last one.
use Rattle.std.proofs.Common.{◌≡◌, ℕ, Bool, false, List, [], Option, Result, Ok, Err, sym, refl, ap, subst, inl, arith, ◌+◌}
use Rattle.ca_adapt.specs.declared.tuning.Tuning.{Tuning}
use Rattle.ca_base.specs.declared.stop.Stop.TheVariants as stop
use Rattle.ca_base.specs.Counting.{HasMet, losses}
use Rattle.ca_base.specs.Progress.{IsFurther}
use Rattle.ca_base.proofs.Counts.{met_both}
use Rattle.ca_model.specs.declared.outcome.Spent.{Spent}
use Rattle.ca_model.specs.Event.{Event}
use Rattle.ca_model.specs.History.{History}
use Rattle.ca_node.specs.Laws.{starts_whole}
use Rattle.ca_node.specs.States.{IsAlone}
use Rattle.ca_node.specs.Told.{MyTree, IsKnown}
use Rattle.ca_node.specs.TreeView.{Note, Way, TreeView, unpinned, KnownRanges}
use Rattle.ca_replace.specs.declared.adapting.Adapting.{Adapting}
use Rattle.ca_replace.specs.declared.adapting.Course.{Course}
use Rattle.ca_replace.specs.declared.attempting.Halt.{Halt}
use Rattle.ca_replace.specs.declared.attempting.Halt.TheVariants as halt
use Rattle.ca_replace.specs.Adapting.{IsCauseMetInAttempts, Waits}
use Rattle.ca_replace.specs.Attempting.{helps, HasHalted, HasNext, HasStopped, HasTriedSince, IsPaid, IsQuiet, passes}
use Rattle.ca_replace.specs.Cutting.{HasCutFull}
use Rattle.ca_replace.specs.Growing.{HasWaited}
use Rattle.ca_replace.specs.Turning.{AreTurns, IsTurn}
use Rattle.ca_replace.proofs.Again.{since_unpinned}
use Rattle.ca_replace.proofs.Counted.{met_turn, none_met, none_paid, paid_both, paid_after, paid_turn}
use Rattle.ca_replace.proofs.Cutting.{cut_unpinned, full_both, none_full, one_more_cut, turn_cut}
use Rattle.ca_replace.proofs.GoingOn.{gone_on, gone_unpinned, idle_waits, turn_waits, waits_on}
use Rattle.ca_replace.proofs.Growing.{alone_on, grown_unpinned, one_more_attempt, turn_waited, waited_on}
use Rattle.ca_replace.proofs.Meeting.{further_on}
use Rattle.ca_replace.proofs.Turns.{turn_further}
use Rattle.ca_replace.specs.Winning.{LosesNone}
use Rattle.ca_replace.proofs.Winning.{loses_both, quiet_won, turn_won, won_behind, won_unpinned}
use Rattle.ca_rows.specs.declared.sizes.Sizes.{Sizes}
use Rattle.ca_rows.specs.declared.view.Met.{Met}
use Rattle.ca_rows.specs.declared.view.Pin.{Pin}
use Rattle.ca_rows.specs.Told.{met_of}
use Rattle.ca_range.specs.Loading.{help_loads}
use Rattle.ca_replace.specs.Loading.{LoadsFew, loads_until, most_loads, unpaid}
use Rattle.ca_replace.proofs.Loads.{loads_more, loads_quiet, loads_unpinned}
use Rattle.ca_replace.proofs.Pacing.{paid_more, turn_more}

-- From one of these moments to the other a call made attempts of which none did it.
pub record IsWaiting (z : Sizes) (adds : Option (List ℕ)) (a b : Course) (k m : MyTree) : Type 0 where
  pub further : IsFurther k.0.upper m.0.upper
  pub counted : IsPaid a.spent b.spent k m
  pub met : HasMet 0 0 k m
  pub loads : LoadsFew (most_loads z) 0 m.0.upper.loads k m
  pub waits : Waits a.adapting b.adapting k.0.upper m.0.upper
  pub won : IsAlone z k.0.upper → LosesNone k.0.upper m.0.upper
  pub waited : IsAlone z k.0.upper → HasWaited z adds k.0.upper m.0.upper
  pub full : HasCutFull z adds k.0.upper m.0.upper

-- what a seat knows whose pin changed, and what it remembers since then
abbrev pub moved : MyTree → Pin → History → List Note → List Way → KnownRanges → MyTree
moved m pin since notes ways ranges = (
  record m.0 {
    pin = pin;
    upper = record m.0.upper { since = since; notes = notes; ways = ways; ranges = ranges };
  },
  m.1,
)

-- It met nothing by that.
pub moved_quiet : (m m' : MyTree) (pin : Pin) (since : History) (notes : List Note)
    (ways : List Way) (ranges : KnownRanges) → m' ≡ moved m pin since notes ways ranges → IsQuiet m m'
moved_quiet m m' pin since notes ways ranges is = subst (IsQuiet m) (sym is) record {
  lost = refl;
  met = none_met m;
  most = refl;
  splits_are = refl;
  same_turns = refl;
  idle = (refl, refl, refl);
  same_inventory = refl;
  same_cuts = refl;
}

pub moved_further : (m m' : MyTree) (pin : Pin) (since : History) (notes : List Note)
    (ways : List Way) (ranges : KnownRanges) → m' ≡ moved m pin since notes ways ranges → IsFurther m.0.upper m'.0.upper
moved_further m m' pin since notes ways ranges is = subst
    (λ (x : MyTree). IsFurther m.0.upper x.0.upper) (sym is)
    record { number = refl; seen = starts_whole m.0.upper.seen; log = refl; counts = refl }

-- No attempt was made.
pub waits_none : (z : Sizes) (adds : Option (List ℕ)) (a b : Course) (k m : MyTree)
    → (b.adapting ≡ a.adapting) × (b.spent ≡ a.spent) → IsQuiet k m
    → m.0.upper.seen ≡ k.0.upper.seen → m.0.upper.loads ≡ k.0.upper.loads → IsFurther k.0.upper m.0.upper → IsWaiting z adds a b k m
waits_none z adds a b k m course q seen loads f = record {
  further = f;
  counted = subst (λ (s : Spent). IsPaid a.spent s k m) (sym course.1)
      (none_paid a.spent k m q.lost q.same_turns);
  met = q.met;
  loads = omega arith;
  waits = subst (λ (c : Adapting). Waits a.adapting c k.0.upper m.0.upper) (sym course.0)
      (idle_waits a.adapting k.0.upper m.0.upper q.idle);
  won = λ _. quiet_won k m q;
  waited = λ _. inl (q.splits_are, q.same_inventory);
  full = none_full z adds k.0.upper.cuts m.0.upper.cuts q.same_cuts;
}

-- None was made behind others.
pub waits_quiet : (z : Sizes) (adds : Option (List ℕ)) (a b c : Course) (k m n : MyTree)
    → (c.adapting ≡ b.adapting) × (c.spent ≡ b.spent) → IsWaiting z adds a b k m → IsQuiet m n
    → n.0.upper.seen ≡ m.0.upper.seen → n.0.upper.loads ≡ m.0.upper.loads → IsFurther m.0.upper n.0.upper → IsWaiting z adds a c k n
waits_quiet z adds a b c k m n course x q seen loads f = let y = waits_none z adds b c m n course q seen loads f in
    let u = k.0.upper in let w = m.0.upper in let v = n.0.upper in record {
      further = further_on u w v x.further f;
      counted = paid_both a.spent b.spent c.spent k m n x.counted y.counted;
      met = met_both 0 0 0 0 k m n x.met y.met;
      loads = loads_quiet z k m n q.lost q.same_turns loads x.loads;
      waits = waits_on a.adapting b.adapting c.adapting u w v x.waits y.waits;
      won = λ alone. loses_both u w v (x.won alone) (quiet_won m n q);
      waited = λ alone. waited_on z adds u w v (x.waited alone) seen
          (q.splits_are, q.same_inventory);
      full = full_both z adds u.cuts w.cuts v.cuts x.full y.full;
    }

-- One attempt more was made.
module _ {T : Type 0} (tells : T → Event → Type 0) (edits : T → Bool) (z : Sizes)
    (adds : Option (List ℕ)) (t : Tuning) (a b c : Course) (met : Met) (r : Result T Halt)
    (k m n : MyTree) (known : IsKnown z k.0.upper) (now : IsKnown z m.0.upper)
    (x : IsWaiting z adds a b k m)
    (tried : HasTriedSince tells z r m.0.upper n.0.upper)
    (i : IsTurn edits adds z t (z.levels + 1) b c met r m n) where
  abbrev u : TreeView
  u = k.0.upper

  abbrev w : TreeView
  w = m.0.upper

  abbrev v : TreeView
  v = n.0.upper

  -- It did not do the call.
  pub waits_more : HasNext r → IsWaiting z adds a c k n
  waits_more next = record {
    further = further_on u w v x.further (turn_further tells z r w v next tried);
    counted = paid_both a.spent b.spent c.spent k m n x.counted (paid_turn r b.spent c.spent m n next i.counted);
    met = met_both 0 0 0 0 k m n x.met (met_turn r m n next i.found).0;
    loads = loads_more edits z r k m n next (paid_more a.spent b.spent k m x.counted)
        (turn_more b.spent c.spent m n (paid_turn r b.spent c.spent m n next i.counted) (met_turn r m n next i.found).1) x.loads i.loads;
    waits = waits_on a.adapting b.adapting c.adapting u w v x.waits
        (turn_waits edits z t b.adapting c.adapting r w v next i.gone_on);
    won = λ alone. turn_won edits r u v next (won_behind edits r u w v (x.won alone)
        (i.won (alone_on z u w x.further.number alone)));
    waited = λ alone. turn_waited z adds r u v next
        (one_more_attempt tells z adds r u w v known now x.further x.waited tried i.grown alone);
    full = turn_cut edits z adds r u v next (one_more_cut edits z adds r u w v x.full i.cut);
  }

-- What stopped an attempt stopped it, whatever it met then, which was nothing.
halted_left : (why : Halt) (k m n : MyTree) → losses n ≡ losses m → HasMet 0 0 m n
    → passes n ≡ passes m → helps n ≡ helps m → HasHalted why k m → HasHalted why k n
halted_left (halt.Stopped (stop.Lost x)) k m n lost met passed help h =
    let some = h.0 in (omega arith, met_both 0 0 0 0 k m n h.1 met)
halted_left (halt.Stopped stop.Empty) k m n lost met passed help h = met_both 1 0 0 0 k m n h met
halted_left (halt.Stopped stop.Worn) k m n lost met passed help h = met_both 0 1 0 0 k m n h met
halted_left halt.Deep k m n lost met passed help h = met_both 0 0 0 0 k m n h met
halted_left halt.Split k m n lost met passed help h =
    let more = h.1 in (met_both 0 0 0 0 k m n h.0 met, omega arith)
halted_left halt.Helped k m n lost met passed help h =
    let more = h.1 in (met_both 0 0 0 0 k m n h.0 met, omega arith)

stopped_left : {T : Type 0} (r : Result T Halt) (k m n : MyTree) → losses n ≡ losses m
    → HasMet 0 0 m n → passes n ≡ passes m → helps n ≡ helps m → HasStopped r k m
    → HasStopped r k n
stopped_left (Ok x) k m n lost met passed help h = tt
stopped_left (Err why) k m n lost met passed help h = halted_left why k m n lost met passed help h

-- The pass unpinned behind an attempt.
pub turn_unpinned : {T : Type 0} {links : ℕ} (edits : T → Bool) (z : Sizes) (adds : Option (List ℕ))
    (t : Tuning) (a b : Course) (r : Result T Halt) (k m n : MyTree)
    → IsTurn edits adds z t links a b (met_of m) r k m
    → n ≡ (
      record m.0 {
        pin =
            record m.0.pin {
              pinned =
                  false;
              left = met_of m;
            };
        upper = unpinned m.0.upper;
      },
      m.1,
    )
    → IsTurn edits adds z t links a b n.0.pin.left r k n
turn_unpinned {T} {links} edits z adds t a b r k m n i is = let u = k.0.upper in let w = m.0.upper in
    let v = n.0.upper in let same = ap (λ (x : MyTree). x.0.upper) is in
    let q = moved_quiet m n _ w.since [] [] (unpinned w).ranges is in record {
      met_as = subst (λ (x : MyTree).
          IsCauseMetInAttempts edits b.adapting.last r x.0.pin.left x.0.upper) (sym is) i.met_as;
      gone_on = gone_unpinned edits z t a.adapting b.adapting r u w v same i.gone_on;
      counted = paid_after r a.spent b.spent b.spent k m n i.counted
          (none_paid b.spent m n q.lost q.same_turns);
      found = stopped_left r k m n q.lost q.met (ap passes is) (ap helps is) i.found;
      loads = subst (λ (x : MyTree). LoadsFew (help_loads z) (links + unpaid z r) (loads_until edits r x.0.upper) k x) (sym is)
          (loads_unpinned edits z links r k m i.loads);
      grown = λ alone. grown_unpinned z adds r u w v same (i.grown alone);
      won = λ alone. won_unpinned edits r u w v same (i.won alone);
      cut = cut_unpinned edits z adds r u w v same i.cut;
    }

-- It is the last one, behind which the pass unpinned.
pub turns_left : {T : Type 0} (tells : T → Event → Type 0) (edits : T → Bool) (z : Sizes)
    (adds : Option (List ℕ)) (t : Tuning) (a b c : Course) (r : Result T Halt)
    (k m n p : MyTree) → IsKnown z k.0.upper → IsKnown z m.0.upper → IsWaiting z adds a b k m
    → HasTriedSince tells z r m.0.upper n.0.upper → IsTurn edits adds z t (z.levels + 1) b c (met_of n) r m n
    → p ≡ (
      record n.0 {
        pin =
            record n.0.pin {
              pinned =
                  false;
              left = met_of n;
            };
        upper = unpinned n.0.upper;
      },
      n.1,
    )
    → AreTurns edits adds z t a c p.0.pin.left r k p
turns_left tells edits z adds t a b c r k m n p known now x tried turn is = let u = k.0.upper in
    let w = m.0.upper in let v = p.0.upper in
    let i = turn_unpinned edits z adds t b c r m n p turn is in
    let same = ap (λ (y : MyTree). y.0.upper) is in record {
      met_as = i.met_as;
      gone_on = gone_on edits z t a.adapting b.adapting c.adapting r u w v x.waits i.gone_on;
      grown = λ alone. one_more_attempt tells z adds r u w v known now x.further x.waited
          (since_unpinned tells z r w n.0.upper v same tried) i.grown alone;
      won = λ alone. won_behind edits r u w v (x.won alone)
          (i.won (alone_on z u w x.further.number alone));
      cut = one_more_cut edits z adds r u w v x.full i.cut;
    }
