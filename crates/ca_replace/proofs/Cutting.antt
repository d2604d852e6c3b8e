-- Which bases a call split.
use Rattle.std.proofs.Common.{◌≡◌, ℕ, ◌≤◌, Bool, true, false, List, [], ◌∷◌, ◌++◌, length, map, Result, Ok, Err, IsErr, sym, refl, ap, ◌∙◌, subst, inl, inr, ⊎_elim, arith, append_assoc}
use denote.Ref.{Bor}
use Rattle.std.specs.declared.option.Option.{Option}
use Rattle.std.specs.declared.option.Option.TheVariants.{Some}
use Rattle.ca_base.specs.declared.stop.Stop.{Stop}
use Rattle.ca_replace.specs.declared.attempting.Halt.{Halt}
use Rattle.ca_replace.specs.declared.attempting.Halt.TheVariants as halt
use Rattle.ca_adapt.specs.declared.adapted.Adapted.{Adapted}
use Rattle.ca_adapt.specs.declared.adapted.Adapted.TheVariants as adapted
use Rattle.ca_adapt.specs.declared.adapted.Why.{Why}
use Rattle.ca_adapt.specs.declared.adapted.Why.TheVariants as why
use Rattle.ca_adapt.specs.declared.tuning.Tuning.{Tuning}
use Rattle.ca_adapt.specs.Splits.{IsSplitOutcome, IsWhyNotSplit, attempts_at_first}
use Rattle.ca_base.specs.Putting.{HasRenewed, HasTried, IsRoom, first_note}
use Rattle.ca_base.specs.Splitting.{HasSplit, IsSplit}
use Rattle.ca_model.specs.declared.outcome.Outcome.{Outcome}
use Rattle.ca_model.specs.declared.outcome.Spent.{Spent}
use Rattle.ca_model.specs.Event.{Event}
use Rattle.ca_model.specs.History.{Edit}
use Rattle.ca_model.specs.Known.{Counts}
use Rattle.ca_model.specs.Places.{IsPlace}
use Rattle.ca_node.specs.declared.cursor.Cursor.{Cursor}
use Rattle.ca_node.specs.declared.cursor.Spot.TheVariants as spot
use Rattle.ca_node.specs.Laws.{in_nothing}
use Rattle.ca_node.specs.Links.{IsIn}
use Rattle.ca_node.specs.Row.{pair}
use Rattle.ca_node.specs.Told.{MyTree, with_upper, IsEntered, one_more_lost}
use Rattle.ca_node.specs.TreeView.{Note, Division, TreeView, unpinned}
use Rattle.ca_node.specs.Walking.{IsWalked}
use Rattle.ca_node.proofs.Listing.{in_either}
use Rattle.ca_node.proofs.Looking.{in_more}
use Rattle.ca_replace.specs.declared.adapting.Adapting.{Adapting}
use Rattle.ca_model.specs.declared.outcome.Cause.{Cause}
use Rattle.ca_model.specs.declared.outcome.Cause.TheVariants as cause
use Rattle.ca_replace.specs.Adapting.{IsNew}
use Rattle.ca_replace.specs.Attempting.{HasNext, IsLooking, IsQuiet, come_to, refused_as, split_to}
use Rattle.ca_replace.specs.Cutting.{AreCutFull, HasCutForEdit, HasCut, HasCutInCall, HasCutDue, HasCutFull, HasCutBehind, HasCutInAttempts, IsCutInTwo, IsFullFor}
use Rattle.ca_replace.specs.Refusals.{outcome_by}
use Rattle.ca_replace.proofs.Settling.{IsSettling}
use Rattle.ca_replace.proofs.Growing.{settled_still}
use Rattle.ca_replace.proofs.Showing.{looking, stopped_same, walked_quiet}
use Rattle.ca_rows.specs.declared.sizes.Sizes.{Sizes}
use Rattle.ca_rows.specs.declared.view.Met.{Met}
use Rattle.ca_rows.specs.Told.{met_of}

-- Nothing was split.
pub none_full : (z : Sizes) (adds : Option (List ℕ)) (before now : List Division) → now ≡ before
    → AreCutFull z adds before now
none_full z adds before now same = ([], same, λ note i. absurd (in_nothing note [] refl i))

-- A full base was.
pub one_full : (z : Sizes) (adds : Option (List ℕ)) (before now : List Division) (x : Division)
    → now ≡ x ∷ before
    → IsFullFor z adds x.old × IsCutInTwo z x → AreCutFull z adds before now
one_full z adds before now x is full = (
  x ∷ [],
  is,
  λ y i. ⊎_elim (λ (e : x ≡ y). subst
      (λ (d : Division). IsFullFor z adds d.old × IsCutInTwo z d) e full)
      (λ (j : IsIn y []). absurd (in_nothing y [] refl j)) (in_more x y [] i),
)

-- Full bases, and full ones behind them.
pub full_both : (z : Sizes) (adds : Option (List ℕ)) (before then now : List Division)
    → AreCutFull z adds before then → AreCutFull z adds then now
    → AreCutFull z adds before now
full_both z adds before then now h g = (
  g.0 ++ h.0,
  g.1 ∙ (ap (λ (xs : List Division). g.0 ++ xs) h.1 ∙ sym (append_assoc g.0 h.0 before)),
  λ x i. ⊎_elim (λ (j : IsIn x g.0). g.2 x j) (λ (j : IsIn x h.0). h.2 x j) (in_either g.0 h.0 x i),
)

-- A base that has no room for a key that is new there is full, and the key is led to it.
pub full_for : (z : Sizes) (u : TreeView) (cursor : Cursor) (key : List ℕ) (place : Result ℕ ℕ)
    (many : ℕ) → IsLooking z u key cursor
    → IsPlace (map pair (first_note u.notes).objects) key place → ¬ IsRoom place many z.leaf
    → many ≡ length (first_note u.notes).objects
    → IsFullFor z (Some key) (first_note u.notes)
full_for z u cursor key (Ok at) many l p no_room is = absurd (no_room tt)
full_for z u cursor key (Err at) many l p no_room is =
    (let full : z.leaf ≤ many = omega (arith, no_room) in omega arith, l.about, p.equal)

-- A split of this base is one of its own: it is in the middle of its objects.
cut_in_two : (z : Sizes) (note : Note) (x : Division)
    → IsSplit note (length note.objects) (attempts_at_first z) x → IsCutInTwo z x
cut_in_two z note x h = subst
    (λ (n : Note). IsSplit n (length n.objects) (attempts_at_first z) x) (sym h.old_is) h

-- What an attempt comes to that met such a base, and tried to split it.
pub made_cut : {T : Type 0} (edits : T → Bool) (z : Sizes) (adds : Option (List ℕ))
    (many attempt : ℕ) (r : Result (Unit {0}) Stop) (u v : TreeView)
    → IsFullFor z adds (first_note u.notes) → many ≡ length (first_note u.notes).objects
    → attempt ≡ attempts_at_first z → HasSplit many attempt r u v
    → HasCut edits z adds (Err (split_to r)) u v
made_cut edits z adds many attempt (Ok x) u v full all starts h = (
  h.0,
  ap (λ (w : TreeView). w.cuts) h.2,
  subst (IsFullFor z adds) (sym h.1.old_is) full,
  cut_in_two z (first_note u.notes) h.0 (subst
      (λ (x : ℕ × ℕ). IsSplit (first_note u.notes) x.0 x.1 h.0) (λ i. (all i, starts i)) h.1),
)
made_cut edits z adds many attempt (Err why) u v full all starts h =
    ap (λ (w : TreeView). w.cuts) (h ∙ stopped_same why u)

-- A base that is due is one that was split, or none was, behind a step that split none.
due_behind : (z : Sizes) (before then : List Division) (v : TreeView) → then ≡ before
    → HasCutDue z then v → HasCutDue z before v
due_behind z before then v same h = subst (λ (xs : List Division). HasCutDue z xs v) same h

-- A try to split the base that is due, and was shown last.
pub due_cut : (z : Sizes) (a : Adapted) (k m m' : MyTree) → m.0.upper.cuts ≡ k.0.upper.cuts
    → m.0.upper.last ≡ first_note m.0.upper.notes
    → m.0.upper.last.row ≡ m.0.upper.renewal.new.row
    → IsSplitOutcome z (first_note m.0.upper.notes) a m m' → HasCutDue z k.0.upper.cuts m'.0.upper
due_cut z a k m m' same last row h =
    due_behind z k.0.upper.cuts m.0.upper.cuts m'.0.upper same (by a h)
  where
    not_by : (w : Why) → IsWhyNotSplit z (first_note m.0.upper.notes) w m m'
        → HasCutDue z m.0.upper.cuts m'.0.upper
    not_by why.Root h = absurd h
    not_by why.OneObject h = inl (ap (λ (x : MyTree). x.0.upper.cuts) h.1)
    not_by why.AtLevel h = inl (ap (λ (x : MyTree). x.0.upper.cuts) h.2)
    not_by why.SiblingRoute h = absurd h
    not_by why.TooMany h = absurd h
    not_by why.Taken h = absurd h
    not_by why.Lost h = inl (⊎_elim
        (λ (e : m'.0.upper ≡ m.0.upper). ap (λ (x : TreeView). x.cuts) e)
        (λ (e : m'.0.upper ≡ one_more_lost m.0.upper). ap (λ (x : TreeView). x.cuts) e) h.3)
    not_by why.NoRow h = inl (ap (λ (x : TreeView). x.cuts) h.2)
    not_by why.Worn h = inl (ap (λ (x : TreeView). x.cuts) h.2)

    by : (a : Adapted) → IsSplitOutcome z (first_note m.0.upper.notes) a m m'
        → HasCutDue z m.0.upper.cuts m'.0.upper
    by adapted.Stay h = absurd h
    by adapted.Split h = let e = h.2.2 in inr (
      h.2.0,
      ap (λ (x : TreeView). x.cuts) e,
      cut_in_two z (first_note m.0.upper.notes) h.2.0 h.2.1,
      h.2.1.old_is ∙ (sym last ∙ sym (ap (λ (x : TreeView). x.last) e)),
      ap (λ (x : TreeView). x.last.row) e
          ∙ (row ∙ sym (ap (λ (x : TreeView). x.renewal.new.row) e)),
    )
    by adapted.Joined h = absurd h
    by (adapted.NotSplit w) h = not_by w h
    by (adapted.NotJoined w) h = absurd h

-- After an update the pass walked to its key again, came to the new base, and tried to split it.
pub due_there : (z : Sizes) (key : Bor (List ℕ)) (placed : ℕ) (m m' m'' : MyTree) (cursor : Cursor)
    (a : Adapted) → IsNew placed key.now (met_of m) m.0.upper
    → IsWalked z (spot.At key) m cursor m' → z.leaf ≤ 120 → cursor.base ≡ placed
    → IsSplitOutcome z (first_note m'.0.upper.notes) a m' m''
    → HasCutDue z m.0.upper.cuts m''.0.upper
due_there z key placed m m' m'' cursor a new w most same h = let up = ap
    (λ (x : MyTree). x.0.upper) w.now in
    due_cut z a m m' m'' (walked_quiet z (spot.At key) m m' cursor w).same_cuts
    (looking z key m m' cursor w most).last
    (ap (λ (u : TreeView). u.last.row) up
    ∙ (w.cursor_is.base ∙ (same
    ∙ (new.row ∙ sym (ap (λ (u : TreeView). u.renewal.new.row) up))))) h

-- What an attempt comes to by its exchange, given what followed.
tried_cut : (met : Met) (z : Sizes) (adds : Option (List ℕ)) (event : Event) (edit : Edit)
    (word : ℕ) (tried : Result (Unit {0}) Stop) (u w v : TreeView)
    → HasTried event z tried u w → HasRenewed z met word edit tried u w → HasCutDue z w.cuts v
    → (IsErr tried → v ≡ w)
    → HasCut (λ (_ : Unit {0}). true) z adds (come_to tried) u v
tried_cut met z adds event edit word (Ok x) u w v h renewed then
    else = due_behind z u.cuts w.cuts v renewed.same_cuts then
tried_cut met z adds event edit word (Err why) u w v h renewed then
    else = ap (λ (x : TreeView). x.cuts) (else refl ∙ h ∙ stopped_same why u)

-- So it is with what its exchange and what followed it came to, given that the pass knew as much of
-- the tree at first as this one.
pub settled_cut : {z : Sizes} {t : Tuning} {tried : Result (Unit {0}) Stop}
    {r : Result (Unit {0}) Halt}
    {a b : Adapting} {k m m' m'' : MyTree}
    (s : IsSettling z t tried r a b k m m' m'') (adds : Option (List ℕ))
    → HasCutDue z m'.0.upper.cuts m''.0.upper
    → HasCut (λ _. true) z adds r k.0.upper m''.0.upper
settled_cut {z} {t} {tried} {r} {a} {b} {k} {m} {m'} {m''} s adds then = subst
    (λ (x : Result (Unit {0}) Halt). HasCut
    (λ (_ : Unit {0}). true) z adds x k.0.upper m''.0.upper) (sym s.is)
    (subst (λ (x : MyTree). HasCut
    (λ (_ : Unit {0}). true) z adds (come_to tried) x.0.upper m''.0.upper) s.same
    (tried_cut s.met z adds s.event s.edit s.word tried m.0.upper m'.0.upper m''.0.upper s.entered
    s.renewed then
    (λ n. settled_still z t s.statistic tried a b m' m'' n s.settled)))

-- An attempt behind the look that it begins with.
pub looked_cut : {T : Type 0} (edits : T → Bool) (z : Sizes) (adds : Option (List ℕ))
    (r : Result T Halt) (m m' : MyTree) (v : TreeView) → IsQuiet m m'
    → HasCut edits z adds r m'.0.upper v → HasCut edits z adds r m.0.upper v
looked_cut {T} edits z adds r m m' v q h = by r h
  where
    if_edits : (edited : Bool) → HasCutBehind edited z m'.0.upper.cuts v
        → HasCutBehind edited z m.0.upper.cuts v
    if_edits true h = due_behind z m.0.upper.cuts m'.0.upper.cuts v q.same_cuts h
    if_edits false h = h ∙ q.same_cuts

    by : (r : Result T Halt) → HasCut edits z adds r m'.0.upper v
        → HasCut edits z adds r m.0.upper v
    by (Ok x) h = if_edits (edits x) h
    by (Err halt.Split) h = (h.0, h.1 ∙ ap (λ (xs : List Division). h.0 ∷ xs) q.same_cuts, h.2, h.3)
    by (Err halt.Deep) h = h ∙ q.same_cuts
    by (Err halt.Helped) h = h ∙ q.same_cuts
    by (Err (halt.Stopped why)) h = h ∙ q.same_cuts

-- A call that edits nothing.
pub entered_cut : (m m' m'' : MyTree) (event : Event) → IsQuiet m m'
    → IsEntered event m' m'' → m''.0.upper.cuts ≡ m.0.upper.cuts
entered_cut m m' m'' event q is = ap (λ (x : MyTree). x.0.upper.cuts) is.now ∙ q.same_cuts

-- The pass unpins then.
pub cut_unpinned : {T : Type 0} (edits : T → Bool) (z : Sizes) (adds : Option (List ℕ))
    (r : Result T Halt) (u v w : TreeView) → w ≡ unpinned v
    → HasCut edits z adds r u v → HasCut edits z adds r u w
cut_unpinned {T} edits z adds r u v w same h = subst
    (λ (x : TreeView). HasCut edits z adds r u x) (sym same) (by r h)
  where
    if_edits : (edited : Bool) → HasCutBehind edited z u.cuts v → HasCutBehind edited z u.cuts
        (unpinned v)
    if_edits true h = h
    if_edits false h = h

    by : (r : Result T Halt) → HasCut edits z adds r u v
        → HasCut edits z adds r u (unpinned v)
    by (Ok x) h = if_edits (edits x) h
    by (Err halt.Split) h = h
    by (Err halt.Deep) h = h
    by (Err halt.Helped) h = h
    by (Err (halt.Stopped why)) h = h

-- An attempt behind others that did not do the call.
pub one_more_cut : {T : Type 0} (edits : T → Bool) (z : Sizes) (adds : Option (List ℕ))
    (r : Result T Halt) (u w v : TreeView) → HasCutFull z adds u w
    → HasCut edits z adds r w v → HasCutInAttempts edits z adds r u v
one_more_cut {T} edits z adds r u w v before h = by r h
  where
    still : v.cuts ≡ w.cuts → HasCutFull z adds u v
    still same = full_both z adds u.cuts w.cuts v.cuts before (none_full z adds w.cuts v.cuts same)

    if_edits : (edited : Bool) → HasCutBehind edited z w.cuts v → HasCutForEdit edited z adds u v
    if_edits true h = (w.cuts, before, h)
    if_edits false h = still h

    by : (r : Result T Halt) → HasCut edits z adds r w v → HasCutInAttempts edits z adds r u v
    by (Ok x) h = if_edits (edits x) h
    by (Err halt.Split) h =
        full_both z adds u.cuts w.cuts v.cuts before (one_full z adds w.cuts v.cuts h.0 h.1 (
          h.2,
          h.3,
        ))
    by (Err halt.Deep) h = still h
    by (Err halt.Helped) h = still h
    by (Err (halt.Stopped why)) h = still h

-- Attempts behind others that did not do the call.
pub cuts_so_far : {T E : Type 0} (edits : T → Bool) (z : Sizes) (adds : Option (List ℕ))
    (r : Result T E) (u w v : TreeView) → HasCutFull z adds u w
    → HasCutInAttempts edits z adds r w v → HasCutInAttempts edits z adds r u v
cuts_so_far {T} {E} edits z adds r u w v before h = by r h
  where
    if_edits : (edited : Bool) → HasCutForEdit edited z adds w v → HasCutForEdit edited z adds u v
    if_edits true h = (h.0, full_both z adds u.cuts w.cuts h.0 before h.1, h.2)
    if_edits false h = full_both z adds u.cuts w.cuts v.cuts before h

    by : (r : Result T E) → HasCutInAttempts edits z adds r w v → HasCutInAttempts edits z adds r u
        v
    by (Ok x) h = if_edits (edits x) h
    by (Err why) h = full_both z adds u.cuts w.cuts v.cuts before h

-- Attempts that came to a stop split no base but full ones.
pub stopped_cut : {T E : Type 0} (edits : T → Bool) (z : Sizes) (adds : Option (List ℕ))
    (r : Result T E) (why : E) (u v : TreeView) → r ≡ Err why
    → HasCutInAttempts edits z adds r u v → HasCutFull z adds u v
stopped_cut {T} {E} edits z adds r why u v e h = subst
    (λ (x : Result T E). HasCutInAttempts edits z adds x u v) e h

-- So did one after which another turn may follow.
pub turn_cut : {T : Type 0} (edits : T → Bool) (z : Sizes) (adds : Option (List ℕ))
    (r : Result T Halt) (u v : TreeView)
    → HasNext r → HasCutInAttempts edits z adds r u v → HasCutFull z adds u v
turn_cut edits z adds (Ok x) u v next h = absurd next
turn_cut edits z adds (Err why) u v next h = h

-- What the attempts come to where the last one's is told otherwise.
pub cut_refused : {T : Type 0} (edits : T → Bool) (z : Sizes) (adds : Option (List ℕ))
    (tried : Result T Halt) (r : Result T Cause) (spent : Spent)
    (levels : ℕ) (u w v : TreeView) → v ≡ w → r ≡ refused_as tried spent levels
    → HasCutInAttempts edits z adds tried u w → HasCutInAttempts edits z adds r u v
cut_refused {T} edits z adds tried r spent levels u w v same is h = subst
    (λ (x : Result T Cause). HasCutInAttempts edits z adds x u v) (sym is)
    (subst (λ (x : TreeView).
    HasCutInAttempts edits z adds (refused_as tried spent levels) u x) (sym same) (by tried h))
  where
    by : (tried : Result T Halt) → HasCutInAttempts edits z adds tried u w
        → HasCutInAttempts edits z adds (refused_as tried spent levels) u w
    by (Ok x) h = h
    by (Err why) h = h

-- A call that is refused is counted then.
pub refused_cuts : {T : Type 0} (edits : T → Bool) (z : Sizes) (adds : Option (List ℕ))
    (counts : Counts) (why : Cause) (o : Outcome T) (u : TreeView)
    (m m' : MyTree) → HasCutFull z adds u m.0.upper → o ≡ outcome_by why
    → m' ≡ with_upper m (record m.0.upper { counts = counts })
    → HasCutInCall edits z adds o u m'.0.upper
refused_cuts {T} edits z adds counts why o u m m' h come is = subst
    (λ (x : Outcome T). HasCutInCall edits z adds x u m'.0.upper) (sym come)
    (by why (subst (λ (x : MyTree). HasCutFull z adds u x.0.upper) (sym is) h))
  where
    by : (why : Cause) → HasCutFull z adds u m'.0.upper
        → HasCutInCall edits z adds (outcome_by {T = T} why) u m'.0.upper
    by (cause.Busy spent) h = h
    by (cause.Full full) h = h
    by (cause.Deep level) h = h
    by (cause.Worn counter) h = h
