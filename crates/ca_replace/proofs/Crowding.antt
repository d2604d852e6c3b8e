-- How few rows a pass that is alone keeps behind attempts that did not do their call, and how few
-- rows there are where none was free.
use Rattle.std.proofs.Common.{◌≡◌, ◌<◌, ℕ, ◌+◌, List, [], ◌∷◌, length, length-append, vec_len, Result, Ok, Err, IfErr, refl, sym, ap, ◌∙◌, subst, arith}
use Rattle.ca_base.specs.declared.stop.Exchange.TheVariants as exchange
use Rattle.ca_base.specs.declared.stop.Stop.{Stop}
use Rattle.ca_base.specs.declared.stop.Stop.TheVariants as stop
use Rattle.ca_base.specs.Counting.{losses, HasCleared, HasFound, KeepsMore}
use Rattle.ca_base.specs.Crowded.{FindsCrowded}
use Rattle.ca_base.specs.Putting.{HasTried, stopped}
use Rattle.ca_base.specs.Readiness.{StaysReady}
use Rattle.ca_base.specs.Splitting.{HasSplit}
use Rattle.ca_base.specs.Taking.{AreHeld}
use Rattle.ca_base.proofs.Crowds.{crowd_counted}
use Rattle.ca_model.specs.Event.{Event}
use Rattle.ca_node.specs.Inventory.{HasFewRows}
use Rattle.ca_node.specs.Layout.{base_form}
use Rattle.ca_node.specs.States.{IsAlone}
use Rattle.ca_node.specs.Told.{MyTree}
use Rattle.ca_node.specs.TreeView.{Inventory, Renewal, TreeView}
use Rattle.ca_replace.specs.declared.attempting.Halt.{Halt}
use Rattle.ca_replace.specs.declared.attempting.Halt.TheVariants as halt
use Rattle.ca_replace.specs.Attempting.{come_to, HasNext, IsQuiet, split_to, splits}
use Rattle.ca_replace.specs.Crowding.{Crowds, CrowdsAt, HasCrowded, HasFewAlone, KeepsBySplits}
use Rattle.ca_replace.proofs.Growing.{alone_on}
use Rattle.ca_rows.specs.declared.kept.Kept.{Kept}
use Rattle.ca_rows.specs.declared.kept.KeptRows.{KeptRows}
use Rattle.ca_rows.specs.declared.sizes.Sizes.{Sizes}
use Rattle.ca_rows.specs.declared.space.Pass.{Pass}
use Rattle.ca_rows.specs.declared.space.Space.{Space}
use Rattle.ca_rows.specs.Passes.{OnlyReads}
use Rattle.ca_range.proofs.LoneSnaps.{takes_fewer_all}
use Rattle.ca_range.proofs.LoneMarks.{only_one}

-- A tree has few rows that has what one has that has few.
pub few_as : (u v : TreeView) → v.splits ≡ u.splits → v.inventory ≡ u.inventory
    → v.renewal ≡ u.renewal → HasFewRows v → HasFewRows u
few_as u v split has renewed few = subst
    (λ (x : ℕ × Inventory × Renewal). HasFewRows
    (record u { splits = x.0; inventory = x.1; renewal = x.2 }))
    (λ i. (split i, has i, renewed i)) few

-- So it has before a look that shows it.
pub few_looked : (z : Sizes) (m n : MyTree) → IsQuiet m n → n.0.upper.number ≡ m.0.upper.number
    → HasFewAlone z n.0.upper
    → HasFewAlone z m.0.upper
few_looked z m n q same few alone = few_as m.0.upper n.0.upper q.splits_are q.same_inventory
    q.idle.0
    (few (alone_on z m.0.upper n.0.upper same alone))

-- One more is kept than before.
keeps_one : (form row : ℕ) (ks next : List Kept) → KeepsMore form (row ∷ []) ks next
    → length next ≡ length ks + 1
keeps_one form row ks next h = let it : Kept = record { row = row; at = h.0; form = form } in
    let both = length-append ks (it ∷ []) in let all = ap (λ (l : List Kept). length l) h.1 in
    omega arith

-- A try that came to nothing splits no base.
none_split : (why : Stop) (u : TreeView) → (stopped why u).splits ≡ u.splits
none_split (stop.Lost exchange.Link) u = refl
none_split (stop.Lost exchange.Head) u = refl
none_split stop.Empty u = refl
none_split stop.Worn u = refl

-- It put back the rows that it held, but for those where that exchange was lost.
stopped_keeps : (likes gone : List ℕ) (base : ℕ) (why : Stop) (m m' : MyTree)
    (kept kept' : KeptRows) → splits m' ≡ splits m
    → HasCleared {T = Unit {0}} likes base gone (Err why) m m' kept kept'
    → KeepsBySplits (vec_len kept.rows) (vec_len kept'.rows) m m'
stopped_keeps likes gone base why m m' kept kept' same h = let fewer = takes_fewer_all m.0.pin.told
    likes kept.rows.items h.0 h.1 in
    let back = h.2.0 in let long = kept.rows.ok.0 in omega arith

-- Where no row was free for it, all but few are the tree's or kept.
stopped_crowd : (z : Sizes) (why : Stop) (m m' : MyTree) (kept' : KeptRows) → m.0.sizes ≡ z
    → m'.0.sizes ≡ m.0.sizes → 0 < z.rows
    → IsAlone z m.0.upper → AreHeld z.rows kept'.rows m'.0 [] → FindsCrowded {T = Unit {0}}
    (Err why) m m'
    → CrowdsAt (halt.Stopped why) z.rows (vec_len kept'.rows) m'
stopped_crowd z (stop.Lost e) m m' kept' own same rows alone held found = tt
stopped_crowd z stop.Empty m m' kept' own same rows alone held found = let z' =
    ap (λ (y : Sizes). y.rows) (same ∙ own) in
    crowd_counted z.rows kept'.rows m' (found (only_one z m own rows alone.0) alone.1)
    held.0.are_kept z'
stopped_crowd z stop.Worn m m' kept' own same rows alone held found = tt

module _ {R : Type 0} (space : Space R TreeView) where
  abbrev z : Sizes
  z = space.table.shared.key

  -- So it is of an attempt that came to nothing by this try.
  tried_crowds : (likes gone : List ℕ) (base : ℕ) (why : Stop) (pass new : Pass R TreeView)
      → pass.seat.me.0.sizes ≡ z
      → StaysReady space pass new → new.seat.me.0.upper ≡ stopped why pass.seat.me.0.upper
      → HasCleared {T = Unit {0}} likes base gone (Err why) pass.seat.me new.seat.me pass.kept
      new.kept
      → FindsCrowded {T = Unit {0}} (Err why) pass.seat.me new.seat.me
      → Crowds {T = Unit {0}} space (Err (halt.Stopped why)) pass new
  tried_crowds likes gone base why pass new own frame is cleared found alone = (
    stopped_keeps likes gone base why pass.seat.me new.seat.me pass.kept new.kept
        (ap (λ (u : TreeView). u.splits) is ∙ none_split why pass.seat.me.0.upper) cleared,
    stopped_crowd z why pass.seat.me new.seat.me new.kept own frame.pin.0 space.few.0 alone
        frame.none found,
  )

  -- A full base that was to be split: where it was, the old base is kept.
  pub room_crowds : (likes : List ℕ) (base many attempt : ℕ) (r : Result (Unit {0}) Stop)
      (pass new : Pass R TreeView) → pass.seat.me.0.sizes ≡ z
      → StaysReady space pass new → HasSplit many attempt r pass.seat.me.0.upper new.seat.me.0.upper
      → HasFound r pass.seat.me new.seat.me
      → HasCleared likes base [] r pass.seat.me new.seat.me pass.kept new.kept
      → FindsCrowded r pass.seat.me new.seat.me → Crowds {T = Unit {0}} space (Err (split_to r))
      pass new
  room_crowds likes base many attempt (Ok x) pass new own frame split met cleared found alone = (
    (let fewer = takes_fewer_all pass.seat.me.0.pin.told likes pass.kept.rows.items cleared.0
        cleared.2 in
        let one = keeps_one base_form base cleared.0 cleared.1 cleared.3 in
        let all = ap (λ (l : List Kept). length l) cleared.4 in
        let long = pass.kept.rows.ok.0 in let long' = new.kept.rows.ok.0 in let same = met.1 in
        let more = ap (λ (u : TreeView). u.splits) split.2 in omega arith),
    tt,
  )
  room_crowds likes base many attempt (Err why) pass new own frame split met cleared found alone =
      tried_crowds likes [] base why pass new own frame split cleared found alone

  -- What it was behind reads, it is from before them on.
  pub crowds_read : {T : Type 0} (r : Result T Halt) (pass mid new : Pass R TreeView)
      → OnlyReads pass mid → Crowds space r mid new
      → Crowds space r pass new
  crowds_read r pass mid new reads crowds alone = subst
      (λ (x : KeptRows × MyTree). HasCrowded r z.rows (vec_len x.0.rows) (vec_len new.kept.rows) x.1
      new.seat.me)
      (λ i. (reads.kept i, reads.still i))
      (crowds (subst (λ (m : MyTree). IsAlone z m.0.upper) (sym reads.still) alone))

  -- An attempt by an exchange of a base, behind reads, given what followed it.
  pub settled_crowds : (likes gone : List ℕ) (base : ℕ) (event : Event)
      (tried : Result (Unit {0}) Stop) (r : Result (Unit {0}) Halt)
      (pass mid next new : Pass R TreeView) → r ≡ come_to tried → OnlyReads pass mid
      → pass.seat.me.0.sizes ≡ z
      → StaysReady space mid next → HasTried event z tried mid.seat.me.0.upper next.seat.me.0.upper
      → HasCleared likes base gone tried mid.seat.me next.seat.me mid.kept next.kept
      → FindsCrowded tried mid.seat.me next.seat.me → IfErr tried (λ _. new ≡ next)
      → Crowds space r pass new
  settled_crowds likes gone base event tried r pass mid next new come reads own frame did cleared
      found still =
      subst (λ (x : Result (Unit {0}) Halt). Crowds space x pass new) (sym come)
      (by tried did cleared found still)
    where
      by : (tried : Result (Unit {0}) Stop) → HasTried event z tried mid.seat.me.0.upper
          next.seat.me.0.upper
          → HasCleared likes base gone tried mid.seat.me next.seat.me mid.kept next.kept
          → FindsCrowded tried mid.seat.me next.seat.me → IfErr tried (λ _. new ≡ next)
          → Crowds {T = Unit {0}} space (come_to tried) pass new
      by (Ok x) did cleared found still alone = tt
      by (Err why) did cleared found still alone = subst
          (λ (x : Pass R TreeView). HasCrowded {T = Unit {0}} (Err (halt.Stopped why)) z.rows
          (vec_len pass.kept.rows) (vec_len x.kept.rows) pass.seat.me x.seat.me)
          (sym still)
          (crowds_read {T = Unit {0}} (Err (halt.Stopped why)) pass mid next reads
          (tried_crowds likes gone base why mid next (ap (λ (m : MyTree). m.0.sizes) reads.still
          ∙ own) frame did cleared found) alone)

-- Attempts that another one may follow did not do their call.
pub next_keeps : {T : Type 0} (r : Result T Halt) (rows a b : ℕ) (m n : MyTree) → HasNext r
    → HasCrowded r rows a b m n → KeepsBySplits a b m n
next_keeps (Ok x) rows a b m n next h = absurd next
next_keeps (Err why) rows a b m n next h = h.0

-- So it is of what they tell of how they began.
pub stopped_few : {T : Type 0} (r : Result T Halt) (P : Type 0) → HasNext r → IfErr r (λ _. P) → P
stopped_few (Ok x) P next h = absurd next
stopped_few (Err why) P next h = h

pub few_before : {T : Type 0} (r : Result T Halt) (P Q : Type 0) → (P → Q) → IfErr r (λ _. P)
    → IfErr r (λ _. Q)
few_before (Ok x) P Q more h = tt
few_before (Err why) P Q more h = more h

-- The pass unpinned behind an attempt.
crowds_left : (why : Halt) (rows c d : ℕ) (n p : MyTree) → d ≡ c
    → length p.0.upper.inventory.rows ≡ length n.0.upper.inventory.rows
    → CrowdsAt why rows c n → CrowdsAt why rows d p
crowds_left (halt.Stopped (stop.Lost e)) rows c d n p kept tree h = tt
crowds_left (halt.Stopped stop.Empty) rows c d n p kept tree h = omega arith
crowds_left (halt.Stopped stop.Worn) rows c d n p kept tree h = tt
crowds_left halt.Deep rows c d n p kept tree h = tt
crowds_left halt.Split rows c d n p kept tree h = tt
crowds_left halt.Helped rows c d n p kept tree h = tt

-- That was the last one of several.
pub turns_crowd : {T : Type 0} (r : Result T Halt) (rows a b c d : ℕ) (k m n p : MyTree)
    → KeepsBySplits a b k m → HasCrowded r rows b c m n
    → d ≡ c → losses p ≡ losses n → splits p ≡ splits n → length p.0.upper.inventory.rows ≡ length
    n.0.upper.inventory.rows
    → HasCrowded r rows a d k p
turns_crowd (Ok x) rows a b c d k m n p before h kept lost cut tree = tt
turns_crowd (Err why) rows a b c d k m n p before h kept lost cut tree =
    (let few = h.0 in omega arith, crowds_left why rows c d n p kept tree h.1)
