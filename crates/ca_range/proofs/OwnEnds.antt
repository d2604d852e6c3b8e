-- What is left of what a pass knows once a range of its own is over.
use Rattle.std.proofs.Common.{◌≡◌, ℕ, suc, ◌<◌, ◌≤◌, ◌++◌, max, Bool, true, false, List, [], ◌∷◌, sym, refl, ◌∙◌, subst, inl, arith}
use mathlib.Core.Option.{Option}
use Rattle.ca_model.specs.History.{History}
use Rattle.ca_base.specs.Counting.{HasMet, losses}
use Rattle.ca_base.specs.Taking.{AreHeld, HasLent, IsOwnBorder}
use Rattle.ca_base.proofs.LentRows.{lent_after}
use Rattle.ca_node.specs.Links.{IsIn}
use Rattle.ca_node.specs.Endings.{over_up_to, without}
use Rattle.ca_node.specs.OwnRanges.{HasAborted, IsOwnDecided, aborted, given_up, own_over}
use Rattle.ca_node.specs.Told.{MyTree, IsKnown}
use Rattle.ca_node.specs.TreeView.{Begun, Border, Inventory, Joining, Left, Marking, Note, Over, Quiet, Ranging, Secured, TreeView, Unmarked, no_border, none_begun}
use Rattle.ca_rows.specs.Claims.{held_count}
use Rattle.ca_rows.specs.declared.kept.KeptRows.{KeptRows}
use Rattle.ca_rows.specs.declared.sizes.Sizes.{Sizes}
use Rattle.ca_range.specs.Gathering.{IsMarking}
use Rattle.ca_range.specs.Snapshots.{OnlyRanges}
use Rattle.ca_range.specs.Staying.{OnlySteps}
use Rattle.ca_range.specs.declared.own.Own.{Own}
use Rattle.ca_range.proofs.Stepping.{known_same, none_more}

-- the range that is under way, and the row that says up to where it goes
abbrev pub begun_of : Ranging → Begun
begun_of Quiet = none_begun
begun_of (Unmarked begun) = begun
begun_of (Marking begun border) = begun
begun_of Left = none_begun
begun_of (Joining x) = none_begun
begun_of (Secured x) = none_begun

abbrev pub border_of : Ranging → Border
border_of Quiet = no_border
border_of (Unmarked begun) = no_border
border_of (Marking begun border) = border
border_of Left = no_border
border_of (Joining x) = no_border
border_of (Secured x) = no_border

pub is_under_way : (own : Ranging) (begun : Begun) (border : Border) → own ≡ Marking begun border → own ≡ Marking (begun_of own) (border_of own)
is_under_way own begun border e = e ∙ (λ i. Marking (begun_of (sym e i)) (border_of (sym e i)))

-- The range is over, and else only what was seen, what is known of ranges, and what is linked changed.
pub record HasEndedOwn (z : Sizes) (m m' : MyTree) : Type 0 where
  pub only : OnlyRanges z m.0.upper m'.0.upper
  pub claims : m'.0.claims ≡ m.0.claims
  pub most : m.0.most ≤ 8 → held_count m.0.claims ≤ 0 → m'.0.most ≤ 8
  pub sizes : m'.0.sizes ≡ m.0.sizes
  pub pin : m'.0.pin ≡ m.0.pin
  pub empty : m'.0.empty ≡ m.0.empty
  pub worn : m'.0.worn ≡ m.0.worn
  pub lost : losses m' ≡ losses m
  pub quiet : m'.0.upper.ranges.own ≡ Quiet
  pub borders : m'.0.upper.ranges.borders ≡ m.0.upper.ranges.borders
  pub unfinished : m'.0.upper.ranges.unfinished ≡ m.0.upper.ranges.unfinished
  pub notes : m'.0.upper.notes ≡ m.0.upper.notes
  pub ways : m'.0.upper.ways ≡ m.0.upper.ways
  pub turns : m'.0.upper.turns ≡ m.0.upper.turns
  pub loads : m'.0.upper.loads ≡ m.0.upper.loads
  pub number : m'.0.upper.number ≡ m.0.upper.number
  pub splits : m'.0.upper.splits ≡ m.0.upper.splits
  pub joins : m'.0.upper.joins ≡ m.0.upper.joins

module _ (z : Sizes) (m : MyTree) (seen : History) (over : List Over) (run : List Note) (sequence : Option ℕ) (inventory : Inventory) (most : ℕ) where
  abbrev ended : TreeView
  ended = record m.0.upper {
    seen = seen;
    ranges = record m.0.upper.ranges { over = over; own = Quiet; run = run; sequence = sequence };
    inventory = inventory;
  }

  pub ended_own : ((more : History) × (seen ≡ m.0.upper.seen ++ more)) → (IsKnown z m.0.upper → IsKnown z ended)
      → most ≤ max m.0.most (held_count m.0.claims) → HasEndedOwn z m (record m.0 { upper = ended; most = most }, m.1)
  ended_own more known few = record {
    only = record { only = refl; seen = more; known = known; joins = omega arith; joined = omega arith };
    claims = refl;
    most = λ ever now. omega arith;
    sizes = refl;
    pin = refl;
    empty = refl;
    worn = refl;
    lost = refl;
    quiet = refl;
    borders = refl;
    unfinished = refl;
    notes = refl;
    ways = refl;
    turns = refl;
    loads = refl;
    number = refl;
    splits = refl;
    joins = refl;
  }

-- So it is given up, whether that was won or another pass had decided it.
pub aborted_so : (z : Sizes) (won : Bool) (begun : Begun) (border : Border) (m m' : MyTree) → HasAborted won begun border m m' → HasEndedOwn z m m'
aborted_so z true begun border m m' e = let u = m.0.upper in let v = aborted begun.number border.row u in subst (HasEndedOwn z m) (sym e)
    (ended_own z m u.seen v.ranges.over u.ranges.run u.ranges.sequence v.inventory (max m.0.most (held_count m.0.claims)) (none_more u)
    (known_same z u v refl refl refl) (omega arith))
aborted_so z false begun border m m' e = let u = m.0.upper in let v = given_up begun.number u in subst (HasEndedOwn z m) (sym e)
    (ended_own z m u.seen v.ranges.over u.ranges.run u.ranges.sequence u.inventory m.0.most (none_more u)
    (known_same z u v refl refl refl) (omega arith))

-- The row that was lent to it is lent still, and the pass knows it.
pub lent_still : (z : Sizes) (rows : ℕ) (kept kept' : KeptRows) (m m' : MyTree) (own : Own) → HasEndedOwn z m m' → IsMarking z m.0.upper own → kept' ≡ kept
    → AreHeld rows kept.rows m.0 [] → HasLent rows kept'.rows m'.0 own.border
lent_still z rows kept kept' m m' own e k same h = subst (HasLent rows kept'.rows m'.0) k.row_is
    (lent_after rows kept kept' m m' k.begun k.border k.is e.claims (e.most h.1.ever h.1.now) same h)

pub border_still : (z : Sizes) (m m' : MyTree) (own : Own) → HasEndedOwn z m m' → IsMarking z m.0.upper own → IsOwnBorder m'.0.upper own.border
border_still z m m' own e k =
    (k.border, subst (λ (xs : List Border). IsIn k.border xs) (sym e.borders) k.noted, k.row_is, k.owner_is ∙ sym e.number)

pub ended_met : (z : Sizes) (m m' : MyTree) → HasEndedOwn z m m' → HasMet 0 0 m m'
ended_met z m m' e = let a = e.empty in let b = e.worn in (omega arith, omega arith)

-- So it is decided by the pass.
pub decided_so : (z : Sizes) (begun : Begun) (border : Border) (last : Note) (m m' : MyTree) → m.0.sizes ≡ z → 0 < z.rows
    → IsOwnDecided m m' begun border last → HasEndedOwn z m m'
decided_so z begun border last m m' sizes rows d = subst (HasEndedOwn z m) (sym d.now)
    (ended_own z m (m.0.upper.seen ++ d.more) (over_up_to m.0.upper.number begun.number ∷ m.0.upper.ranges.over) d.run m.0.upper.ranges.sequence
    (without border.row m.0.upper.inventory) (max m.0.most (held_count m.0.claims)) (d.more, refl)
    (λ k. known_same z (record m.0.upper { seen = m.0.upper.seen ++ d.more }) _ refl refl refl
    (subst (λ (y : Sizes). IsKnown y (record m.0.upper { seen = m.0.upper.seen ++ d.more })) sizes
    (d.known (subst (λ (y : Sizes). 0 < y.rows) (sym sizes) rows)))) (omega arith))

-- It was decided by another pass, which the pass learns.
pub steps_over : {z : Sizes} (u : TreeView) (number : ℕ) → OnlySteps z 0 u (own_over number u)
steps_over {z} u number = record {
  only = refl;
  seen = none_more u;
  over = λ x i. (suc i.0, i.1);
  lost_is = omega arith;
  known = known_same z u (own_over number u) refl refl refl;
  helped = omega arith;
  unfinished = λ x i. inl i;
  joins = omega arith;
  joined = omega arith;
}
