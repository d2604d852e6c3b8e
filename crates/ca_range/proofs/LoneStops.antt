-- The range of a pass that is alone couldn't mark a base: no row was free, or the pool's tag can rise no more.
use Rattle.std.proofs.Common.{◌≡◌, ◌≢◌, ◌<◌, ◌≤◌, ℕ, ◌+◌, [], length, vec_len, Err, refl, sym, ap, ◌∙◌, subst, arith}
use Rattle.ca_base.specs.Counting.{losses, HasStoppedBy}
use Rattle.ca_base.specs.Crowded.{IsCrowded, StaysCrowded}
use Rattle.ca_base.specs.Putting.{stopped}
use Rattle.ca_base.specs.Taking.{AreHeld, lent_of}
use Rattle.ca_node.specs.Links.{IsIn}
use Rattle.ca_base.specs.declared.stop.Exchange.TheVariants as exchange
use Rattle.ca_base.specs.declared.stop.Stop.{Stop}
use Rattle.ca_base.specs.declared.stop.Stop.TheVariants as stop
use Rattle.ca_base.proofs.Crowds.{crowd_counted}
use Rattle.ca_node.specs.States.{IsAlone}
use Rattle.ca_node.specs.Told.{MyTree}
use Rattle.ca_node.specs.TreeView.{Begun, Border, Inventory, KnownRanges, Marking, Ranging, TreeView}
use Rattle.ca_rows.specs.declared.kept.KeptRows.{KeptRows}
use Rattle.ca_rows.specs.declared.sizes.Sizes.{Sizes}
use Rattle.ca_range.specs.Farther.{reach}
use Rattle.ca_range.specs.Gathering.{refused_by}
use Rattle.ca_range.specs.Lonely.{AreLentThere, EndsAlone, GathersNext, IsOverAlone, MarksAlone}
use Rattle.ca_range.specs.declared.sought.Snapped.TheVariants as snapped
use Rattle.ca_range.proofs.LoneSteps.{ended_alone, marks_on, spends_on}

-- What a try that came to nothing leaves.
pub record IsLeft (u v : TreeView) : Type 0 where
  pub tree : v.inventory ≡ u.inventory
  pub turns : v.turns ≡ u.turns
  pub ranges : v.ranges ≡ u.ranges
  pub number : v.number ≡ u.number

pub stopped_left : (why : Stop) (u : TreeView) → IsLeft u (stopped why u)
stopped_left (stop.Lost exchange.Link) u = record { tree = refl; turns = refl; ranges = refl; number = refl }
stopped_left (stop.Lost exchange.Head) u = record { tree = refl; turns = refl; ranges = refl; number = refl }
stopped_left stop.Empty u = record { tree = refl; turns = refl; ranges = refl; number = refl }
stopped_left stop.Worn u = record { tree = refl; turns = refl; ranges = refl; number = refl }

pub stopped_lone : (z : Sizes) (why : Stop) (u : TreeView) → IsAlone z u → IsAlone z (stopped why u)
stopped_lone z why u alone = (alone.0, subst (λ (n : ℕ). 0 < n) (sym (stopped_left why u).number) alone.1)

-- It wasn't for an exchange that was lost.
pub stopped_told : (why : Stop) (m n : MyTree) → losses n ≡ losses m → HasStoppedBy why m n → refused_by why ≢ snapped.Again
stopped_told (stop.Lost e) m n same s is = let more = s.0 in absurd (omega arith)
stopped_told stop.Empty m n same s is = absurd cc
stopped_told stop.Worn m n same s is = absurd cc

-- It was that no row was free.
pub stopped_empty : (why : Stop) → refused_by why ≡ snapped.NoRow → why ≡ stop.Empty
stopped_empty (stop.Lost e) is = absurd cc
stopped_empty stop.Empty is = refl
stopped_empty stop.Worn is = absurd cc

-- All rows but few are the tree's, or are kept.
pub crowds_now : (z : Sizes) (kept : KeptRows) (m : MyTree) → IsCrowded m → AreHeld z.rows kept.rows m.0 [] → m.0.sizes ≡ z
    → z.rows ≤ length m.0.upper.inventory.rows + vec_len kept.rows + 8
crowds_now z kept m crowded h own = crowd_counted z.rows kept.rows m crowded h.0.are_kept (ap (λ (y : Sizes). y.rows) own)

-- The range was given up then.
pub stopped_alone : (z : Sizes) (why : Stop) (kept a b : ℕ) (last : KeptRows) (begun : Begun) (border : Border) (k m n p : MyTree)
    → m.0.upper.ranges.own ≡ Marking begun border → MarksAlone {T = ℕ} (Err why) a b m n → HasStoppedBy why m n → n.0.upper ≡ stopped why m.0.upper
    → GathersNext kept a k m → IsOverAlone b (vec_len last.rows) n.0.upper p.0.upper → StaysCrowded n p
    → (losses p ≡ losses n) × (p.0.upper.turns ≡ n.0.upper.turns) → p.0.upper.ranges.unfinished ≡ n.0.upper.ranges.unfinished → p.0.sizes ≡ z
    → AreHeld z.rows last.rows p.0 [] → EndsAlone z (refused_by why) kept (vec_len last.rows) k p
stopped_alone z why kept a b last begun border k m n p own marks found is h over stays still unfinished sizes held =
    let left = subst (IsLeft m.0.upper) (sym is) (stopped_left why m.0.upper) in let few = marks.keeps in
    ended_alone z (refused_by why) kept b (vec_len last.rows) (reach m.0.upper) begun border k n p
    (spends_on kept a b 1 k m n h.spends (omega arith) marks.unlost left.turns left.tree
    (ap (λ (r : KnownRanges). r.unfinished) left.ranges ∙ h.spends.unmet))
    (marks_on k.0.upper.turns.passed (reach m.0.upper) (reach m.0.upper) m.0.upper n.0.upper left.tree left.turns (omega arith) h.marked)
    (lent_left m.0.upper n.0.upper left h.lent) (ap (λ (r : KnownRanges). r.own) left.ranges ∙ own) over still.0 still.1 unfinished
    (stopped_told why m n marks.unlost found)
    (λ e. let crowded = marks.crowded (ap (λ (w : Stop). Err w) (stopped_empty why e)) in
    crowds_now z last p (crowded.0, crowded.1, stays crowded.0 crowded.2) held sizes)
  where
    lent_left : (u v : TreeView) → IsLeft u v → AreLentThere u → AreLentThere v
    lent_left u v l h = subst (λ (x : Inventory × Ranging). (row : ℕ) → IsIn row (lent_of x.1) → IsIn row x.0.rows)
        (λ i. (sym l.tree i, sym (ap (λ (r : KnownRanges). r.own) l.ranges) i)) h
