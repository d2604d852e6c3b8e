-- What an attempt comes to behind the look that it begins with.
use Rattle.std.proofs.Common.{◌+◌, ◌≡◌, ◌<◌, ℕ, Bool, true, false, List, [], Result, Ok, Err, IfErr, sym, refl, ap, ◌∙◌, subst, ◌≤◌, arith, vec_len}
use Rattle.std.specs.declared.option.Option.{Option}
use Rattle.ca_adapt.specs.declared.tuning.Tuning.{Tuning}
use Rattle.ca_base.specs.Counting.{losses}
use Rattle.ca_base.specs.Readiness.{IsReady, StaysReady}
use Rattle.ca_model.specs.Event.{Event}
use Rattle.ca_node.specs.declared.cursor.Cursor.{Cursor}
use Rattle.ca_node.specs.Told.{MyTree, IsEntered, IsKnown}
use Rattle.ca_node.specs.TreeView.{TreeView}
use Rattle.ca_replace.specs.declared.adapting.Course.{Course}
use Rattle.ca_replace.specs.declared.attempting.Halt.{Halt}
use Rattle.ca_replace.specs.declared.attempting.Halt.TheVariants as halt
use Rattle.ca_replace.specs.Adapting.{Goes, IfTrue, IsCauseMet}
use Rattle.ca_replace.specs.Attempting.{IsIdle}
use Rattle.ca_replace.specs.Crowding.{Crowds, HasFewAlone}
use Rattle.ca_replace.specs.Cutting.{HasCut, HasCutBehind}
use Rattle.ca_replace.specs.Growing.{HasGrown}
use Rattle.ca_replace.specs.Looking.{HasLooked}
use Rattle.ca_replace.specs.Turning.{IsTurn}
use Rattle.ca_replace.specs.Winning.{HasWon}
use Rattle.ca_replace.proofs.Counted.{none_paid, stopped_behind, paid_but}
use Rattle.ca_replace.proofs.Crowding.{few_looked}
use Rattle.ca_replace.proofs.Cutting.{entered_cut, looked_cut}
use Rattle.ca_replace.proofs.Entries.{held_looked, held_upper}
use Rattle.ca_replace.proofs.GoingOn.{adapts_after, entered_waits, gone_after, paid_behind, paid_looked}
use Rattle.ca_replace.proofs.Growing.{alone_on, entered_grown, looked_grown}
use Rattle.ca_replace.proofs.Numbering.{numbered_as}
use Rattle.ca_replace.proofs.Tallies.{tallied_read}
use Rattle.ca_replace.proofs.Winning.{entered_won, quiet_won, won_behind, won_on}
use Rattle.ca_rows.specs.declared.kept.KeptRows.{KeptRows}
use Rattle.ca_rows.specs.declared.sizes.Sizes.{Sizes}
use Rattle.ca_rows.specs.declared.space.Pass.{Pass}
use Rattle.ca_rows.specs.declared.space.Space.{Space}
use Rattle.ca_rows.specs.declared.view.Met.{Met}
use Rattle.ca_rows.specs.declared.view.Pin.{Pin}
use Rattle.ca_rows.specs.Passes.{KeepsList}
use Rattle.ca_range.specs.Loading.{help_loads}
use Rattle.ca_replace.specs.Loading.{LoadsFew, loads_by, loads_until, unpaid, unpaid_by}
use Rattle.ca_replace.proofs.Loads.{loads_behind, loads_entered}

-- An attempt that split no full base grew the tree, and split bases, as one whose call adds another
-- key, or none.
other_grown : (T U : Type 0) (z : Sizes) (adds adds' : Option (List ℕ)) (why : Halt)
    (u v : TreeView) → (why ≡ halt.Split → adds' ≡ adds) → HasGrown {T = T} z adds (Err why) u v
    → HasGrown {T = U} z adds' (Err why) u v
other_grown T U z adds adds' halt.Split u v same h = subst
    (λ (k : Option (List ℕ)). HasGrown {T = U} z k (Err halt.Split) u v) (sym (same refl)) h
other_grown T U z adds adds' halt.Deep u v same h = h
other_grown T U z adds adds' halt.Helped u v same h = h
other_grown T U z adds adds' (halt.Stopped why) u v same h = h

other_cut : {T U : Type 0} (edits : T → Bool) (edits' : U → Bool) (z : Sizes)
    (adds adds' : Option (List ℕ)) (why : Halt) (u v : TreeView)
    → (why ≡ halt.Split → adds' ≡ adds) → HasCut edits z adds (Err why) u v
    → HasCut edits' z adds' (Err why) u v
other_cut edits edits' z adds adds' halt.Split u v same h = subst
    (λ (k : Option (List ℕ)). HasCut edits z k (Err halt.Split) u v) (sym (same refl)) h
other_cut edits edits' z adds adds' halt.Deep u v same h = h
other_cut edits edits' z adds adds' halt.Helped u v same h = h
other_cut edits edits' z adds adds' (halt.Stopped why) u v same h = h

-- Whether a mark was met is nothing to what an attempt comes to.
pub turn_marked : {T : Type 0} {links : ℕ} (edits : T → Bool) (adds : Option (List ℕ)) (z : Sizes)
    (t : Tuning)
    (a b : Course) (met : Met) (r : Result T Halt) (m m' : MyTree) (marked : Bool)
    → IsTurn edits adds z t links a b met r m m'
    → IsTurn edits adds z t links a (record b { marked = marked }) met r m m'
turn_marked edits adds z t a b met r m m' marked i = record {
  met_as = i.met_as;
  gone_on = i.gone_on;
  counted = i.counted;
  found = i.found;
  loads = i.loads;
  grown = i.grown;
  won = i.won;
  cut = i.cut;
}

module _ {R : Type 0} {space : Space R TreeView} {key : List ℕ} {cursor : Cursor}
    {found : Result ℕ ℕ} {pass mid : Pass R TreeView}
    (l : HasLooked space key cursor found pass mid) (ready : IsReady space pass)
    (known : IsKnown space.table.shared.key pass.seat.me.0.upper) where
  abbrev z : Sizes
  z = space.table.shared.key

  -- The pass is ready still.
  pub ready_behind : IsReady space mid
  ready_behind = record {
    own = (l.same.0 ∙ ready.own.0, l.still.0 ∙ ready.own.1);
    numbered = numbered_as pass.number mid.number pass.seat.me.0.pin mid.seat.me.0.pin l.number
        (ap (λ (p : Pin). p.number) l.still.1) ready.numbered;
    pinned = ap (λ (p : Pin). p.pinned) l.still.1 ∙ ready.pinned;
    number = subst (λ n. 0 < n) (sym l.further.number) ready.number;
    none = held_looked z.rows pass.kept mid.kept pass.seat.me mid.seat.me [] ready.none l.kept
        l.still.2 l.quiet.most l.own_range;
  }

  -- So it is behind what it does then, where it is behind that alone.
  pub frame_behind : (new : Pass R TreeView) → StaysReady space mid new → StaysReady space pass new
  frame_behind new s = record {
    same = (s.same.0 ∙ l.same.0, s.same.1 ∙ l.same.1);
    number = s.number ∙ l.number;
    tally = λ h. s.tally (l.tally h);
    pin = (s.pin.0 ∙ l.still.0, s.pin.1 ∙ l.still.1);
    own_range = s.own_range ∙ l.own_range;
    none = s.none;
  }

  -- It has no range still.
  pub idle_behind : {marked : Bool}
      → mid.seat.me.0.upper.ranges.unfinished ≡ pass.seat.me.0.upper.ranges.unfinished
      → IsIdle marked pass → IsIdle marked mid
  idle_behind met i = record {
    number = l.number ∙ (i.number ∙ sym l.further.number);
    quiet = l.own_range ∙ i.quiet;
    none_met = λ e. met ∙ i.none_met e;
  }

  -- It keeps as few rows by the look and what it does then as by that alone.
  pub crowds_behind : (why : Halt) (new : Pass R TreeView) → Crowds {T = Unit {0}} space (Err why)
      mid new
      → Crowds {T = Unit {0}} space (Err why) pass new
  crowds_behind why new crowds alone = let did =
      crowds (alone_on z pass.seat.me.0.upper mid.seat.me.0.upper l.further.number alone) in
      let lost = l.quiet.lost in let cut = l.quiet.splits_are in
      let same = ap (λ (k : KeptRows). vec_len k.rows) l.kept in let few = did.0 in
      (omega arith, did.1)

  pub few_behind : {T : Type 0} (r : Result T Halt)
      → IfErr r (λ _. HasFewAlone z pass.seat.me.0.upper)
  few_behind (Ok x) = tt
  few_behind (Err why) = few_looked z pass.seat.me mid.seat.me l.quiet l.further.number
      l.looking.few_rows

  pub crowds_tried : (r : Result (Unit {0}) Halt) (new : Pass R TreeView) → Crowds space r mid new
      → Crowds space r pass new
  crowds_tried (Ok x) new crowds alone = tt
  crowds_tried (Err why) new crowds alone = crowds_behind why new crowds alone

  -- A call that edits nothing is entered in the log then.
  module _ (new : Pass R TreeView) (event : Event) (keeps : KeepsList mid new)
      (e : IsEntered event mid.seat.me new.seat.me) where
    pub frame_entered : StaysReady space pass new
    frame_entered = frame_behind new record {
      same = keeps.same;
      number = keeps.number;
      tally = tallied_read mid.tally new.tally mid.seat.me new.seat.me event keeps.tally e;
      pin = (ap (λ (m : MyTree). m.0.sizes) e.now, ap (λ (m : MyTree). m.0.pin) e.now);
      own_range = ap (λ (m : MyTree). m.0.upper.ranges.own) e.now;
      none = held_upper z.rows mid.kept new.kept mid.seat.me new.seat.me _ [] ready_behind.none
          e.now refl keeps.kept;
    }

    pub turn_entered : {T : Type 0} (edits : T → Bool) (adds : Option (List ℕ)) (t : Tuning)
        (a : Course) (met : Met) (x : T) → edits x ≡ false
        → (links : ℕ) → mid.seat.me.0.upper.loads ≤ pass.seat.me.0.upper.loads + links
        → IsTurn edits adds z t links a a met (Ok x) pass.seat.me new.seat.me
    turn_entered edits adds t a met x idle links few = let u = pass.seat.me.0.upper in
        let v = new.seat.me.0.upper in record {
          met_as = subst
              (λ b. IfTrue b (IsCauseMet a.adapting.last.adapted met v)) (sym idle) tt;
          gone_on = subst (λ b. Goes b z t a.adapting a.adapting u v) (sym idle)
              (entered_waits a.adapting u mid.seat.me.0.upper mid.seat.me new.seat.me event refl
              l.quiet.idle e);
          counted = paid_but a.spent a.spent pass.seat.me new.seat.me
              (none_paid a.spent pass.seat.me new.seat.me (ap losses e.now ∙ l.quiet.lost)
              (ap (λ (m : MyTree). m.0.upper.turns) e.now ∙ l.quiet.same_turns));
          found = tt;
          loads = loads_entered (help_loads z) links (edits x) pass.seat.me mid.seat.me new.seat.me
              idle few
              (ap (λ (m : MyTree). m.0.upper.loads) e.now);
          grown = λ alone. entered_grown pass.seat.me mid.seat.me new.seat.me event l.quiet e;
          won = λ alone. subst (λ b. HasWon b u v) (sym idle)
              (entered_won pass.seat.me mid.seat.me new.seat.me event l.quiet e);
          cut = subst (λ b. HasCutBehind b z u.cuts v) (sym idle)
              (entered_cut pass.seat.me mid.seat.me new.seat.me event l.quiet e);
        }

  -- Or the base that was shown is edited.
  module _ (new : Pass R TreeView) {T : Type 0} (edits : T → Bool) (adds adds' : Option (List ℕ))
      (t : Tuning) (a b : Course) (met : Met) where
    pub turn_edited : (x : T) → edits x ≡ true
        → IsTurn {T = Unit {0}} (λ _. true) adds z t 0 a b met (Ok tt) mid.seat.me new.seat.me
        → (links : ℕ) → mid.seat.me.0.upper.loads ≤ pass.seat.me.0.upper.loads + links
        → IsTurn edits adds' z t links a b met (Ok x) pass.seat.me new.seat.me
    turn_edited x did i links few = let u = pass.seat.me.0.upper in let w = mid.seat.me.0.upper in
        let v = new.seat.me.0.upper in record {
          met_as = subst
              (λ b'. IfTrue b' (IsCauseMet b.adapting.last.adapted met v)) (sym did) i.met_as;
          gone_on = subst (λ b'. Goes b' z t a.adapting b.adapting u v) (sym did)
              (adapts_after z t a.adapting b.adapting.last u w v l.quiet.idle i.gone_on);
          counted = paid_looked {T = Unit {0}} {E = Halt} (Ok tt) a.spent b.spent pass.seat.me
              mid.seat.me new.seat.me l.quiet
              i.counted;
          found = tt;
          loads = subst (λ b'. LoadsFew (help_loads z) (links + 0) (loads_by b' v) pass.seat.me
              new.seat.me) (sym did)
              (loads_behind (help_loads z) links 0 v.renewal.loads pass.seat.me mid.seat.me
              new.seat.me few l.quiet.lost l.quiet.same_turns i.loads);
          grown = looked_grown {T = Unit {0}} z adds (Ok tt) pass.seat.me mid.seat.me v known
              l.looking.known l.further l.quiet i.grown;
          won = λ alone. subst (λ b'. HasWon b' u v) (sym did)
              (won_on true u w v (quiet_won pass.seat.me mid.seat.me l.quiet)
              (i.won (alone_on z u w l.further.number alone)));
          cut = subst (λ b'. HasCutBehind b' z u.cuts v) (sym did)
              (looked_cut (λ (_ : Unit {0}). true) z adds (Ok tt) pass.seat.me mid.seat.me v
              l.quiet i.cut);
        }

    pub turn_tried : (r : Result (Unit {0}) Halt)
        → IsTurn (λ _. true) adds z t 0 a b met r mid.seat.me new.seat.me
        → (links : ℕ) → mid.seat.me.0.upper.loads ≤ pass.seat.me.0.upper.loads + links
        → IsTurn (λ _. true) adds z t links a b met r pass.seat.me new.seat.me
    turn_tried r i links few = let u = pass.seat.me.0.upper in let w = mid.seat.me.0.upper in
        let v = new.seat.me.0.upper in record {
          met_as = i.met_as;
          gone_on = gone_after (λ (_ : Unit {0}). true) z t a.adapting b.adapting r u w v
              l.quiet.idle i.gone_on;
          counted = paid_looked r a.spent b.spent pass.seat.me mid.seat.me new.seat.me l.quiet
              i.counted;
          found = stopped_behind r pass.seat.me mid.seat.me new.seat.me l.quiet i.found;
          loads = loads_behind (help_loads z) links (unpaid z r)
              (loads_until (λ (_ : Unit {0}). true) r v) pass.seat.me mid.seat.me new.seat.me few
              l.quiet.lost l.quiet.same_turns i.loads;
          grown = looked_grown z adds r pass.seat.me mid.seat.me v known l.looking.known l.further
              l.quiet i.grown;
          won = λ alone. won_behind (λ (_ : Unit {0}). true) r u w v
              (quiet_won pass.seat.me mid.seat.me l.quiet)
              (i.won (alone_on z u w l.further.number alone));
          cut = looked_cut (λ (_ : Unit {0}). true) z adds r pass.seat.me mid.seat.me v l.quiet
              i.cut;
        }

    pub turn_halted : (why : Halt) → (why ≡ halt.Split → adds' ≡ adds)
        → IsTurn {T = Unit {0}} (λ _. true) adds z t 0 a b met (Err why) mid.seat.me new.seat.me
        → (links : ℕ) → mid.seat.me.0.upper.loads ≤ pass.seat.me.0.upper.loads + links
        → IsTurn edits adds' z t links a b met (Err why) pass.seat.me new.seat.me
    turn_halted why same i links few = let u = pass.seat.me.0.upper in
        let w = mid.seat.me.0.upper in
        let v = new.seat.me.0.upper in record {
          met_as = tt;
          gone_on = gone_after edits z t a.adapting b.adapting (Err why) u w v l.quiet.idle
              i.gone_on;
          counted = paid_behind a.spent b.spent pass.seat.me mid.seat.me new.seat.me l.quiet
              i.counted;
          found = stopped_behind {T = T} (Err why) pass.seat.me mid.seat.me new.seat.me l.quiet
              i.found;
          loads = loads_behind (help_loads z) links (unpaid_by z why) v.loads pass.seat.me
              mid.seat.me new.seat.me few l.quiet.lost l.quiet.same_turns
              i.loads;
          grown = looked_grown {T = T} z adds' (Err why) pass.seat.me mid.seat.me v known
              l.looking.known l.further l.quiet
              (λ alone. other_grown (Unit {0}) T z adds adds' why w v same
              (i.grown alone));
          won = λ alone. won_on false u w v (quiet_won pass.seat.me mid.seat.me l.quiet)
              (i.won (alone_on z u w l.further.number alone));
          cut = looked_cut edits z adds' (Err why) pass.seat.me mid.seat.me v l.quiet
              (other_cut (λ (_ : Unit {0}). true) edits z adds adds' why w v same i.cut);
        }
