-- A call's attempts, one after another, and its end.
use Rattle.std.proofs.Common.{◌≡◌, ◌≤◌, le_refl, ℕ, false, [], Result, Ok, Err, Vec, sym, refl, ap, ◌∙◌, subst, inl, ⊎_elim}
use Rattle.std.specs.Global.{Global}
use Rattle.ca_replace.specs.declared.attempting.Halt.{Halt}
use Rattle.atomic_table.specs.declared.shared.Seat.{Seat}
use Rattle.atomic_table.specs.Seated.{TableId}
use Rattle.ca_model.specs.declared.outcome.Outcome.{Outcome}
use Rattle.ca_model.specs.declared.outcome.Outcome.TheVariants as outcome
use Rattle.ca_model.specs.Answer.{IfDone, IfRefused}
use Rattle.ca_model.specs.Event.{Event}
use Rattle.ca_model.specs.declared.outcome.Cause.TheVariants as cause
use Rattle.ca_model.specs.Known.{Counts, Meets, Declines, one_more}
use Rattle.ca_node.specs.Laws.{in_nothing, starts_whole}
use Rattle.ca_node.specs.Links.{IsIn}
use Rattle.ca_node.specs.Tallied.{IsTallied}
use Rattle.ca_node.specs.Told.{MyTree, IsKnown}
use Rattle.ca_rows.specs.Told.{met_of}
use Rattle.ca_node.specs.TreeView.{Ranging, TreeView, pinned, unpinned, Quiet, left_over}
use Rattle.ca_model.specs.declared.outcome.Cause.{Cause}
use Rattle.ca_model.specs.declared.outcome.Spent.{Spent}
use Rattle.ca_replace.specs.Attempting.{HasAttempted, HasDoneSuch, HasNext, HasTriedSince, HasTriedTo, refused_as}
use Rattle.ca_base.specs.Progress.{IsFurther, HasDone, IsRefused}
use Rattle.ca_replace.specs.Resting.{IsResting, known_of}
use Rattle.ca_base.specs.Taking.{AreHeld, HasHeld, HoldsFew, lent_of}
use Rattle.ca_rows.specs.declared.kept.Kept.{Kept}
use Rattle.ca_rows.specs.declared.kept.KeptRows.{KeptRows}
use Rattle.ca_rows.specs.declared.sizes.Sizes.{Sizes}
use Rattle.ca_rows.specs.declared.tally.Tally.{Tally}
use Rattle.ca_rows.specs.declared.view.Pin.{Pin}
use Rattle.ca_rows.specs.declared.view.View.{View}
use Rattle.ca_rows.specs.Claims.{claim_of}
use Rattle.ca_rows.specs.Kept.{AreKept}
use Rattle.ca_replace.proofs.Meeting.{meets, declines}
use Rattle.ca_replace.proofs.Showing.{tried_on}

abbrev pub MySeat : Type 0
MySeat = Seat (Unit {0}) (View TreeView)

-- What is known stays known as the pass unpins.
pub known_unpinned : (z : Sizes) (u : TreeView) → IsKnown z u → IsKnown z (unpinned u)
known_unpinned z u k =
    record {
      lawful =
          k.lawful;
      past = k.past;
      edits = k.edits;
      enrolled = k.enrolled;
      by_passes = k.by_passes;
    }

-- So it does as it pins.
pub known_pinned : (z : Sizes) (u : TreeView) → IsKnown z u → IsKnown z (pinned u)
known_pinned z u k =
    record {
      lawful =
          k.lawful;
      past = k.past;
      edits = k.edits;
      enrolled = k.enrolled;
      by_passes = k.by_passes;
    }

-- A pass that rests holds no row.
pub holds_none : {tally : Tally} (table : TableId) (z : Sizes) (number : ℕ) (kept : Vec Kept Global)
    (seat : MySeat)
    → IsResting table z number tally kept seat
    → AreHeld z.rows kept seat.me.0 []
holds_none table z number kept seat r = (
  record {
    are_kept = r.are_kept;
    only = λ row c e. inl (r.only_keeps row c e);
    each = λ row i. absurd (in_nothing row [] refl i);
    lends = λ row i. absurd (in_nothing row (lent_of seat.me.0.upper.ranges.own)
        (ap lent_of r.quiet) i);
  },
  r.few,
)

-- What was tried by a pass that unpinned then.
pub tried_unpinned : {T : Type 0} (tells : T → Event → Type 0) (z : Sizes) (r : Result T Halt)
    (u v w : TreeView) → w ≡ unpinned v
    → HasTriedTo tells z r u v → HasTriedTo tells z r u w
tried_unpinned tells z (Ok x) u v w same h = let d = h.0.2 in
    subst (λ (y : TreeView). HasDoneSuch (tells x) u y × IsKnown z y) (sym same) (
      (
        h.0.0,
        h.0.1,
        record {
          number = d.number;
          seen = d.seen;
          at = d.at;
          from = d.from;
          log = d.log;
          counts = d.counts;
        },
      ),
      known_unpinned z v h.1,
    )
tried_unpinned tells z (Err why) u v w same h = subst
    (λ (y : TreeView). IsFurther u y × IsKnown z y) (sym same) (
      record { number = h.0.number; seen = h.0.seen; log = h.0.log; counts = h.0.counts },
      known_unpinned z v h.1,
    )

-- What was tried while it was pinned.
pub tried_pinned : {T : Type 0} (tells : T → Event → Type 0) (z : Sizes) (r : Result T Halt)
    (u v w : TreeView) → w ≡ unpinned v
    → HasTriedTo tells z r (pinned u) v → HasTriedTo tells z r u w
tried_pinned tells z r u v w same h = tried_unpinned tells z r u v w same
    (tried_on tells z r u (pinned u) v
    (record { number = refl; seen = starts_whole u.seen; log = refl; counts = refl }) h)

-- Whatever was tried, its history is known, and the pass has its number.
pub tried_known : {T : Type 0} (tells : T → Event → Type 0) (z : Sizes) (r : Result T Halt)
    (u v : TreeView) → HasTriedTo tells z r u v
    → IsKnown z v × (v.number ≡ u.number)
tried_known tells z (Ok x) u v h = (h.1, h.0.2.number)
tried_known tells z (Err why) u v h = (h.1, h.0.number)

-- What the last attempt came to is what the attempts came to.
pub attempted_as : {T : Type 0} (tells : T → Event → Type 0) (z : Sizes) (tried : Result T Halt)
    (r : Result T Cause) (spent : Spent) (levels : ℕ)
    (u w v : TreeView) → v ≡ w → r ≡ refused_as tried spent levels → HasTriedTo tells z tried u w
    → HasAttempted tells r u v
attempted_as {T} tells z tried r spent levels u w v same is h = subst
    (λ (x : Result T Cause). HasAttempted tells x u v) (sym is)
    (subst (λ (x : TreeView).
    HasAttempted tells (refused_as tried spent levels) u x) (sym same) (by tried h))
  where
    by : (tried : Result T Halt) → HasTriedTo tells z tried u w
        → HasAttempted tells (refused_as tried spent levels) u w
    by (Ok x) h = h.0
    by (Err why) h = h.0

-- A pass that was pinned, tried, and unpinned rests again.
pub rests_again : {tally tally' : Tally} (table : TableId) (z : Sizes) (number : ℕ)
    (kept kept' : Vec Kept Global) (seat one two last : MySeat)
    → IsResting table z number tally kept seat
    → (one.me.0.sizes ≡ seat.me.0.sizes) × (one.me.0.pin.number ≡ seat.me.0.pin.number)
    × (one.me.0.upper.number ≡ seat.me.0.upper.number)
    → two.table_id ≡ seat.table_id → (two.me.0.sizes ≡ one.me.0.sizes)
    × (two.me.0.pin ≡ one.me.0.pin) → AreHeld z.rows kept' two.me.0 []
    → IsKnown z two.me.0.upper × (two.me.0.upper.number ≡ one.me.0.upper.number)
    → last.table_id ≡ two.table_id
    → last.me ≡ (
      record two.me.0 {
        pin =
            record two.me.0.pin {
              pinned =
                  false;
              left = met_of two.me;
            };
        upper = unpinned two.me.0.upper;
      },
      two.me.1,
    )
    → (IsTallied tally seat.me.0.upper → IsTallied tally' two.me.0.upper)
    → two.me.0.upper.ranges.own ≡ Quiet → (z.passes ≡ 1 → last.me.0.lost ≡ 0)
    → IsResting table z number tally' kept' last
rests_again {tally' = tally'} table z number kept kept' seat one two last r pin table_two work held
    known table_last unpin counted quiet unlost = record {
      quiet = ap (λ (m : MyTree). m.0.upper.ranges.own) unpin ∙ ap left_over quiet;
      of = (
        table_last ∙ (table_two ∙ r.of.0),
        ap (λ (m : MyTree). m.0.sizes) unpin
            ∙ (work.0 ∙ (pin.0 ∙ r.of.1)),
      );
      numbered = (
        ap (λ (m : MyTree). m.0.pin.number) unpin
            ∙ (ap (λ (e : Pin). e.number) work.1 ∙ (pin.1 ∙ r.numbered.0)),
        r.numbered.1,
        r.numbered.2,
      );
      same_number = ap (λ (m : MyTree). m.0.upper.number) unpin
          ∙ (known.1 ∙ (pin.2 ∙ r.same_number));
      is_unpinned = ap (λ (m : MyTree). m.0.pin.pinned) unpin;
      only_keeps = λ row c e. ⊎_elim (λ k. k)
          (λ is. ⊎_elim (λ (i : IsIn row []). absurd (in_nothing row [] refl i))
          (λ (l : IsIn row (lent_of two.me.0.upper.ranges.own)). absurd
          (in_nothing row (lent_of two.me.0.upper.ranges.own) (ap lent_of quiet) l)) is)
          (held.0.only row c (sym (ap (λ (m : MyTree). claim_of m.0.claims row) unpin) ∙ e));
      are_kept = subst (λ (m : MyTree). AreKept z.rows m.0.claims kept') (sym unpin)
          held.0.are_kept;
      few = subst
          (λ (m : MyTree). HoldsFew 0 m.0) (sym unpin)
          (record { now = held.1.now; ever = held.1.ever });
      known = subst
          (λ (m : MyTree). IsKnown z m.0.upper) (sym unpin)
          (known_unpinned z two.me.0.upper known.0);
      left_before = subst
          (λ (m : MyTree). m.0.pin.left.lost ≤ m.0.lost) (sym unpin) (le_refl two.me.0.lost);
      unlost = unlost;
      tallied = subst (λ (m : MyTree). IsTallied tally' m.0.upper) (sym unpin) (counted r.tallied);
    }

-- A pass that rests and is counted a refusal rests.
pub rests_refused : {tally : Tally} (table : TableId) (z : Sizes) (number : ℕ)
    (kept : Vec Kept Global) (seat last : MySeat) (counts : Counts)
    → IsResting table z number tally kept seat → last.table_id ≡ seat.table_id
    → last.me ≡ (record seat.me.0 { upper = record seat.me.0.upper { counts = counts } }, seat.me.1)
    → IsResting table z number tally kept last
rests_refused {tally = tally} table z number kept seat last counts r same is = record {
  of = (same ∙ r.of.0, ap (λ (m : MyTree). m.0.sizes) is ∙ r.of.1);
  numbered = (ap (λ (m : MyTree). m.0.pin.number) is ∙ r.numbered.0, r.numbered.1, r.numbered.2);
  same_number = ap (λ (m : MyTree). m.0.upper.number) is ∙ r.same_number;
  is_unpinned = ap (λ (m : MyTree). m.0.pin.pinned) is ∙ r.is_unpinned;
  only_keeps = λ row c e. r.only_keeps row c (sym (ap (λ (m : MyTree). claim_of m.0.claims row) is)
      ∙ e);
  are_kept = subst (λ (m : MyTree). AreKept z.rows m.0.claims kept) (sym is) r.are_kept;
  few = subst
      (λ (m : MyTree). HoldsFew 0 m.0) (sym is) (record { now = r.few.now; ever = r.few.ever });
  known = subst (λ (m : MyTree). IsKnown z m.0.upper) (sym is)
      record {
        lawful =
            r.known.lawful;
        past =
            r.known.past;
        edits =
            r.known.edits;
        enrolled = r.known.enrolled;
        by_passes = r.known.by_passes;
      };
  quiet = ap (λ (m : MyTree). m.0.upper.ranges.own) is ∙ r.quiet;
  left_before = subst (λ (m : MyTree). m.0.pin.left.lost ≤ m.0.lost) (sym is) r.left_before;
  unlost = λ one. ap (λ (m : MyTree). m.0.lost) is ∙ r.unlost one;
  tallied = subst (λ (m : MyTree). IsTallied tally m.0.upper) (sym is) r.tallied;
}

pub is_refused : (rise : Counts → Counts) (m m' : MyTree)
    → m' ≡ (record m.0 { upper = record m.0.upper { counts = rise m.0.upper.counts } }, m.1)
    → IsRefused rise m.0.upper m'.0.upper
is_refused rise m m' is = subst (λ (y : MyTree). IsRefused rise m.0.upper y.0.upper) (sym is)
    record { number = refl; seen = starts_whole m.0.upper.seen; log = refl; counts = refl }

-- The same pass, by the names that it has now.
pub rests_as : {tally tally' : Tally} (table : TableId) (z : Sizes) (number number' : ℕ)
    (kept kept' : KeptRows) (seat : MySeat) → number' ≡ number
    → tally' ≡ tally → kept' ≡ kept → IsResting table z number tally kept.rows seat
    → IsResting table z number' tally' kept'.rows seat
rests_as table z number number' kept kept' seat a t b r = subst
    (λ (x : ℕ × Tally × KeptRows). IsResting table z x.0 x.1 x.2.rows seat)
    (λ i. (sym a i, sym t i, sym b i)) r

-- After it pinned it holds no row.
pub none_pinned : {tally : Tally} (table : TableId) (z : Sizes) (number : ℕ) (kept kept' : KeptRows)
    (seat one : MySeat) (e : Pin) (u : TreeView)
    → IsResting table z number tally kept.rows seat
    → one.me ≡ (record seat.me.0 { pin = e; upper = u }, seat.me.1) → u.ranges.own ≡ Quiet
    → kept' ≡ kept
    → AreHeld z.rows kept'.rows one.me.0 []
none_pinned table z number kept kept' seat one e u r is quiet same =
    let none = holds_none table z number kept.rows seat r in
    subst (λ (x : MyTree × KeptRows). AreHeld z.rows x.1.rows x.0.0 [])
    (λ i. (sym is i, sym same i)) (
      subst (λ (own : Ranging). HasHeld z.rows kept.rows seat.me.0.claims (lent_of own) [])
          (r.quiet ∙ sym quiet) none.0,
      record { now = none.1.now; ever = none.1.ever },
    )

-- An attempt that came to a stop learnt of others' edits alone.
pub stopped_further : {T : Type 0} (tells : T → Event → Type 0) (z : Sizes) (r : Result T Halt)
    (why : Halt) (u v : TreeView) → r ≡ Err why
    → HasTriedTo tells z r u v → IsFurther u v
stopped_further tells z r why u v e h =
    (subst (λ (x : Result _ Halt). HasTriedTo tells z x u v) e h).0

-- So did one after which another turn may follow.
pub turn_further : {T : Type 0} (tells : T → Event → Type 0) (z : Sizes) (r : Result T Halt)
    (u v : TreeView) → HasNext r → HasTriedSince tells z r u v → IsFurther u v
turn_further tells z (Ok x) u v next h = absurd next
turn_further tells z (Err why) u v next h = h.0

pub no_further : (u : TreeView) → IsFurther u u
no_further u = record { number = refl; seen = starts_whole u.seen; log = refl; counts = refl }

-- A call that is done meets its definition.
pub if_met : {T : Type 0} (event : T → Event) (table : TableId) (z : Sizes) (o : Outcome T)
    (u v : TreeView) → IsKnown z u → IsKnown z v
    → IfDone o (λ x. HasDoneSuch (λ e. e ≡ event x) u v)
    → IfDone o (λ x. Meets (known_of table z u) (known_of table z v) (event x))
if_met event table z (outcome.Done x) u v a b h =
    meets table z u v a b (event x) (subst (λ (e : Event). HasDone e u v) h.1 h.2)
if_met event table z (outcome.Busy s) u v a b h = tt
if_met event table z (outcome.Full s) u v a b h = tt
if_met event table z (outcome.Deep s) u v a b h = tt
if_met event table z (outcome.Worn s) u v a b h = tt

-- One that is refused declines.
pub if_declined : {T : Type 0} (table : TableId) (z : Sizes) (o : Outcome T) (u v : TreeView)
    → IsKnown z u → IsKnown z v
    → IfRefused o (λ rise. IsRefused rise u v)
    → IfRefused o (λ rise. Declines (known_of table z u) (known_of table z v) (rise u.counts))
if_declined table z (outcome.Done x) u v a b h = tt
if_declined table z (outcome.Busy s) u v a b h =
    declines table z u v a b (one_more (cause.Busy s)) h
if_declined table z (outcome.Full s) u v a b h =
    declines table z u v a b (one_more (cause.Full s)) h
if_declined table z (outcome.Deep s) u v a b h =
    declines table z u v a b (one_more (cause.Deep s)) h
if_declined table z (outcome.Worn s) u v a b h =
    declines table z u v a b (one_more (cause.Worn s)) h
