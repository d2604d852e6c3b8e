-- How often a pass pins, over the turns of an attempt and from one attempt to the next.
use Rattle.std.proofs.Common.{◌≡◌, ◌⊎◌, ℕ, ◌+◌, ◌*◌, ◌<◌, ◌≤◌, Result, Ok, Err, ap, ◌∙◌, inl, inr, ⊎_elim, arith}
use Rattle.ca_base.specs.Counting.{losses}
use Rattle.ca_model.specs.declared.outcome.Spent.{Spent}
use Rattle.ca_node.specs.Told.{MyTree}
use Rattle.ca_node.specs.TreeView.{TreeView, Turns}
use Rattle.ca_range.specs.Clearing.{turns_at}
use Rattle.ca_replace.specs.Attempting.{IsPaid, IsPaidTo, passes}
use Rattle.ca_replace.specs.Bounded.{IsBounded, IsPaced, PinsNow, looked_in, pinned_in, spent_in}
use Rattle.ca_replace.specs.Causes.{GaveBack}
use Rattle.ca_rows.specs.declared.view.Met.{Met}
use Rattle.ca_rows.specs.declared.view.Pin.{Pin}

-- What is paid is spent.
pub paid_more : (a b : Spent) (m m' : MyTree) → IsPaid a b m m' → turns_at m ≤ turns_at m'
paid_more a b m m' x = let one = x.more in let two = x.more_helped in let three = x.more_passed in
    omega arith

pub paid_to_more : {T E : Type 0} (r : Result T E) (a b : Spent) (m m' : MyTree)
    → IsPaidTo r a b m m' → turns_at m ≤ turns_at m'
paid_to_more (Ok x) a b m m' h = let one = h.lost.more in let two = h.more_helped in
    let three = h.passed.more in omega arith
paid_to_more (Err why) a b m m' h = paid_more a b m m' h

-- So is a turn.
pub turn_more : (a b : Spent) (m m' : MyTree) → IsPaid a b m m'
    → (losses m < losses m') ⊎ (passes m < passes m') ⊎ (turns_at m < turns_at m')
    → turns_at m < turns_at m'
turn_more a b m m' x some = let one = x.more in let two = x.more_helped in
    let three = x.more_passed in ⊎_elim
    (λ (l : losses m < losses m'). let more : turns_at m < turns_at m' = omega arith in more)
    (λ (o : (passes m < passes m') ⊎ (turns_at m < turns_at m')). ⊎_elim
    (λ (l : passes m < passes m'). let more : turns_at m < turns_at m' = omega arith in more)
    (λ (l : turns_at m < turns_at m'). l) o) some

-- Rows were given back: no fewer turns were spent.
pub kept_more : (lost : ℕ) (m m' : MyTree) → GaveBack m m' → m'.0.lost ≡ m.0.lost + lost
    → turns_at m ≤ turns_at m'
kept_more lost m m' gave more = let links = ap (λ (u : TreeView). u.lost) gave.upper in
    let help = ap (λ (u : TreeView). u.turns.helped) gave.upper in
    let pass = ap (λ (u : TreeView). u.turns.passed) gave.upper in omega arith

-- It didn't pin again, whatever it spent.
pub paced_on : (k m n : MyTree) → IsPaced k m → n.0.pin.pins ≡ m.0.pin.pins
    → n.0.pin.entered ≡ m.0.pin.entered
    → turns_at m ≤ turns_at n → IsPaced k n
paced_on k m n x pins entered more = let one = x.pins in let two = x.most in let three = x.more in
    record {
      pins = omega arith;
      most = omega arith;
      more = omega arith;
      entered = ap (λ (e : Met). e.empty) entered ∙ x.entered;
    }

-- An attempt pinned once.
pub paced_by : (m m' : MyTree) → PinsNow m m' → turns_at m ≤ turns_at m' → IsPaced m m'
paced_by m m' once more = let pins = once.0 in
    record { pins = omega arith; most = omega arith; more = more; entered = once.1 }

-- It is pinned so still behind an attempt, and once it unpinned.
pub now_on : (m n p : MyTree) → PinsNow m n → p.0.pin.pins ≡ n.0.pin.pins
    → p.0.pin.entered ≡ n.0.pin.entered → PinsNow m p
now_on m n p once pins entered = (pins ∙ once.0, ap (λ (e : Met). e.empty) entered ∙ once.1)

-- It tried something by one pin, which spent a turn, and found the head empty no more often; and
-- pinned then.
pub paced_then : (k m n : MyTree) → m.0.pin.pins ≡ k.0.pin.pins + 1 → turns_at k < turns_at m
    → m.0.empty ≡ k.0.empty → IsPaced m n
    → IsPaced k n
paced_then k m n once turn empty x = let one = x.pins in let two = x.most in let three = x.more in
    record {
      pins = omega arith;
      most = omega arith;
      more = omega arith;
      entered = x.entered ∙ empty;
    }

-- Behind an attempt that spent a turn it pinned once more, or not at all.
pub paced_next : (k m n p : MyTree) → IsPaced k m → n.0.pin ≡ m.0.pin → turns_at m < turns_at n
    → n.0.empty ≡ k.0.empty
    → p.0.empty ≡ n.0.empty → losses p ≡ losses n → p.0.upper.turns ≡ n.0.upper.turns
    → (p.0.pin ≡ n.0.pin) ⊎ IsPaced n p → IsPaced k p
paced_next k m n p x same turn empty none lost turns next = let one = x.pins in let two = x.most in
    let three = x.more in
    let pins = ap (λ (e : Pin). e.pins) same in let entered = ap (λ (e : Pin). e.entered.empty)
    same in
    let help = ap (λ (t : Turns). t.helped) turns in let pass = ap (λ (t : Turns). t.passed)
    turns in ⊎_elim
    (λ (still : p.0.pin ≡ n.0.pin). let pins' = ap (λ (e : Pin). e.pins) still in record {
      pins = omega arith;
      most = omega arith;
      more = omega arith;
      entered = ap (λ (e : Pin). e.entered.empty) still ∙ (entered ∙ x.entered);
    })
    (λ (anew : IsPaced n p). let four = anew.pins in let five = anew.most in record {
      pins = omega arith;
      most = omega arith;
      more = omega arith;
      entered = anew.entered ∙ empty;
    }) next

-- Before an attempt begins, with so many rows kept: until then the pass pinned no more often than
-- it spent turns; or once more, where none is kept any more, rows were as the call began, and the
-- pool's head was found empty.
pub record IsBoundedYet (kept kept0 : ℕ) (k m : MyTree) : Type 0 where
  pub pins : k.0.pin.pins ≤ m.0.pin.pins
  pub turns : turns_at k ≤ turns_at m
  pub most : (pinned_in k m ≤ spent_in k m)
      ⊎ ((kept ≡ 0) × (0 < kept0) × (k.0.empty < m.0.empty) × (pinned_in k m ≤ 1 + spent_in k m))
  pub looks : looked_in k m ≤ 3 * pinned_in k m
  pub looked : k.0.pin.looks ≤ m.0.pin.looks

pub none_yet : (kept kept0 : ℕ) (m : MyTree) → IsBoundedYet kept kept0 m m
none_yet kept kept0 m = record {
  pins = omega arith;
  turns = omega arith;
  most = inl (omega arith);
  looks = omega arith;
  looked = omega arith;
}

-- The last attempt, behind which rows were given back, or none.
module _ (kept kept0 : ℕ) (k m n p : MyTree) (yet : IsBoundedYet kept kept0 k m)
    (paced : IsPaced m n)
    (looks : n.0.pin.looks ≡ m.0.pin.looks) (pins : p.0.pin.pins ≡ n.0.pin.pins)
    (looked : looked_in n p ≤ 3)
    (entered : p.0.pin.entered ≡ n.0.pin.entered) (more : turns_at n ≤ turns_at p) where
  pub bounded_by : IsBounded kept0 k p
  bounded_by = let one = yet.pins in let two = yet.turns in let three = yet.looks in
      let four = yet.looked in
      let five = paced.pins in let six = paced.most in let seven = paced.more in record {
        pins = omega arith;
        most = ⊎_elim (λ (l : pinned_in k m ≤ spent_in k m). inl (omega arith))
            (λ (l : (kept ≡ 0) × (0 < kept0) × (k.0.empty < m.0.empty)
            × (pinned_in k m ≤ 1 + spent_in k m)). let found = l.2 in
            let many = l.3 in let at : p.0.pin.entered.empty ≡ m.0.empty = ap (λ (e : Met). e.empty)
            entered ∙ paced.entered in
            inr (l.1, omega arith, omega arith)) yet.most;
        looks = omega arith;
      }

  -- Rows may be given back once more, where none were.
  pub looked_by : p.0.pin.looks ≡ n.0.pin.looks → looked_in k p + 3 ≤ 3 * pinned_in k p
  looked_by none = let one = yet.pins in let three = yet.looks in let four = yet.looked in
      let five = paced.pins in omega arith

  -- Another one follows.
  pub bounded_yet : (kept' : ℕ) → 0 < kept → (kept' ≡ 0) ⊎ (losses n < losses p)
      → p.0.upper ≡ n.0.upper
      → k.0.empty < p.0.empty → 0 < kept0 → n.0.pin.looks ≤ p.0.pin.looks
      → IsBoundedYet kept' kept0 k p
  bounded_yet kept' some next upper found began later = let one = yet.pins in let two = yet.turns in
      let three = yet.looks in let four = yet.looked in
      let five = paced.pins in let six = paced.most in let seven = paced.more in
      let help = ap (λ (u : TreeView). u.turns.helped) upper in
      let pass = ap (λ (u : TreeView). u.turns.passed) upper in
      let until : pinned_in k m ≤ spent_in k m = ⊎_elim (λ (l : pinned_in k m ≤ spent_in k m). l)
      (λ (l : (kept ≡ 0) × (0 < kept0) × (k.0.empty < m.0.empty)
      × (pinned_in k m ≤ 1 + spent_in k m)). let none = l.0 in absurd (omega arith))
      yet.most in record {
        pins = omega arith;
        turns = omega arith;
        most = ⊎_elim (λ (none : kept' ≡ 0). inr (none, began, found, omega arith))
            (λ (lost : losses n < losses p). inl (omega arith)) next;
        looks = omega arith;
        looked = omega arith;
      }

-- So it is where nothing but the counts of refusals changed, and nothing at all.
pub bounded_as : (kept : ℕ) (k m n : MyTree) → IsBounded kept k m → n.0.pin ≡ m.0.pin
    → turns_at n ≡ turns_at m → IsBounded kept k n
bounded_as kept k m n x same turns = let pins = ap (λ (e : Pin). e.pins) same in
    let looks = ap (λ (e : Pin). e.looks) same in
    let entered = ap (λ (e : Pin). e.entered.empty) same in let one = x.pins in let two = x.looks in
    record {
      pins = omega arith;
      most = ⊎_elim (λ (l : pinned_in k m ≤ 1 + spent_in k m). inl (omega arith))
          (λ (l : (0 < kept) × (k.0.empty < m.0.pin.entered.empty)
          × (pinned_in k m ≤ 2 + spent_in k m)). let found = l.1 in let many = l.2 in
          inr (l.0, omega arith, omega arith)) x.most;
      looks = omega arith;
    }
