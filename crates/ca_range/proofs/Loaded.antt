-- How many links are loaded by help and by a snapshot, over several steps.
use Rattle.std.proofs.Common.{◌≡◌, ℕ, ◌+◌, ◌*◌, ◌≤◌, ◌<◌, refl, ap, arith}
use Rattle.std.proofs.Math.Nat.{mul-add, mul-le-mul_left}
use Rattle.ca_base.specs.Putting.{stopped}
use Rattle.ca_base.specs.declared.stop.Exchange.TheVariants as exchange
use Rattle.ca_base.specs.declared.stop.Stop.{Stop}
use Rattle.ca_base.specs.declared.stop.Stop.TheVariants as stop
use Rattle.ca_node.specs.declared.cursor.Cursor.{Cursor}
use Rattle.ca_node.specs.Told.{MyTree, HasWatched}
use Rattle.ca_node.specs.TreeView.{TreeView}
use Rattle.ca_rows.specs.declared.sizes.Sizes.{Sizes}
use Rattle.ca_range.specs.Ahead.{IsAtLast}
use Rattle.ca_range.specs.Farther.{reach, room}
use Rattle.ca_range.specs.Gathering.{HasNoRun}
use Rattle.ca_range.specs.Loading.{EndsBy, GathersBy, GoesBy, StepsBy, begin_loads, help_loads, snapshot_loads}
use Rattle.ca_range.specs.declared.filling.Step.{Step}
use Rattle.ca_range.specs.declared.filling.Step.TheVariants as step
use Rattle.ca_range.specs.declared.gathering.Further.{Further}
use Rattle.ca_range.specs.declared.gathering.Further.TheVariants as further
use Rattle.ca_range.specs.declared.sought.Snapped.{Snapped}
use Rattle.ca_range.specs.declared.sought.Snapped.TheVariants as snapped
use Rattle.ca_range.proofs.Ranking.{far_inside}

-- No link was loaded.
pub goes_same : (z : Sizes) (u v : TreeView) → reach u ≤ reach v → reach v ≤ room 1000 → v.loads ≡ u.loads → GoesBy z u v
goes_same z u v far inside same = (0, omega arith, inside, omega arith)

-- The word of a range was loaded.
pub goes_watched : (z : Sizes) (pass word : ℕ) (m m' : MyTree) (cursor : Cursor) → HasWatched pass m word m' → IsAtLast z m.0.upper cursor
    → GoesBy z m.0.upper m'.0.upper
goes_watched z pass word m m' cursor h at = let inside = far_inside z m.0.upper cursor at in
    let same = ap (λ (x : MyTree). reach x.0.upper) h.now in
    goes_same z m.0.upper m'.0.upper (omega arith) (omega arith) (ap (λ (x : MyTree). x.0.upper.loads) h.now)

-- One walk was made.
pub goes_once : (z : Sizes) (u v : TreeView) → reach u < reach v → reach v ≤ room 1000 → v.loads ≤ u.loads + (z.levels + 1) → GoesBy z u v
goes_once z u v far inside few = (1, omega arith, inside, omega arith)

-- One after another.
pub goes_both : (z : Sizes) (u v w : TreeView) → GoesBy z u v → GoesBy z v w → GoesBy z u w
goes_both z u v w a b = let all = mul-add (z.levels + 1) a.0 b.0 in let one = a.1 in let two = b.1 in let few = a.3 in let few' = b.3 in
    (a.0 + b.0, omega arith, b.2, omega arith)

pub ends_after : (z : Sizes) (u v w : TreeView) → GoesBy z u v → EndsBy z v w → EndsBy z u w
ends_after z u v w a b = let all = mul-add (z.levels + 1) a.0 b.0 in let one = a.1 in let two = b.1 in let few = a.3 in let few' = b.2 in
    (a.0 + b.0, omega arith, omega arith)

-- Nothing more was loaded, or both links of a join.
pub ends_by : (z : Sizes) (u v : TreeView) → reach u ≤ room 1000 → v.loads ≤ u.loads + 2 → EndsBy z u v
ends_by z u v inside few = (0, omega arith, omega arith)

pub ends_here : (z : Sizes) (u v : TreeView) → GoesBy z u v → EndsBy z u v
ends_here z u v a = let one = a.1 in let inside = a.2 in let few = a.3 in (a.0, omega arith, omega arith)

pub steps_after : (z : Sizes) (s : Step) (u v w : TreeView) → GoesBy z u v → StepsBy z s v w → StepsBy z s u w
steps_after z (step.Marked next) u v w a b = goes_both z u v w a b
steps_after z (step.Met next) u v w a b = goes_both z u v w a b
steps_after z (step.Ended helped) u v w a b = ends_after z u v w a b

-- In all it was no more than that.
pub ends_few : (z : Sizes) (u v : TreeView) → EndsBy z u v → v.loads ≤ u.loads + help_loads z
ends_few z u v a = let one = a.1 in let most : (z.levels + 1) * a.0 ≤ (z.levels + 1) * room 1000 = mul-le-mul_left (z.levels + 1) (omega arith) in
    let few = a.2 in omega arith

-- A try that came to nothing loaded none.
pub stopped_loads : (why : Stop) (u : TreeView) → (stopped why u).loads ≡ u.loads
stopped_loads (stop.Lost exchange.Link) u = refl
stopped_loads (stop.Lost exchange.Head) u = refl
stopped_loads stop.Empty u = refl
stopped_loads stop.Worn u = refl

-- A step that gathers loaded none.
pub gathers_none : (z : Sizes) (f : Further) (u v : TreeView) → reach u ≤ room 1000 → v.loads ≡ u.loads → GathersBy z 0 f u v
gathers_none z (further.On next) u v inside same = omega arith
gathers_none z (further.Ended end) u v inside same = ends_by z u v inside (omega arith)

-- Others loaded none before it.
pub gathers_after : (z : Sizes) (f : Further) (u v w : TreeView) → reach u ≡ reach v → reach v ≤ room 1000 → v.loads ≡ u.loads → GathersBy z 0 f v w
    → GathersBy z 0 f u w
gathers_after z (further.On next) u v w far inside same g = omega arith
gathers_after z (further.Ended end) u v w far inside same g = ends_after z u v w (goes_same z u v (omega arith) inside same) g

-- One walk was made before it.
pub gathers_walked : (z : Sizes) (f : Further) (u v w : TreeView) → reach u < reach v → reach v ≤ room 1000 → v.loads ≤ u.loads + (z.levels + 1)
    → GathersBy z 0 f v w → GathersBy z (z.levels + 1) f u w
gathers_walked z (further.On next) u v w far inside few g = omega arith
gathers_walked z (further.Ended end) u v w far inside few g = ends_after z u v w (goes_once z u v far inside few) g

-- The first step of a snapshot loaded no more than those of its walk.
pub begins_few : (z : Sizes) (f : Further) (u v : TreeView) → v.loads ≤ u.loads + (z.levels + 1) → v.loads ≤ u.loads + begin_loads z f
begins_few z (further.On first) u v few = few
begins_few z (further.Ended (snapped.Run run)) u v few = few
begins_few z (further.Ended snapped.Again) u v few = omega arith
begins_few z (further.Ended snapped.Busy) u v few = omega arith
begins_few z (further.Ended snapped.NoRow) u v few = omega arith
begins_few z (further.Ended (snapped.Worn which)) u v few = omega arith

-- It loaded those of help beside, and came to no run.
pub begins_helped : (z : Sizes) (s : Snapped) (u v : TreeView) → HasNoRun (further.Ended s) → v.loads ≤ u.loads + snapshot_loads z
    → v.loads ≤ u.loads + begin_loads z (further.Ended s)
begins_helped z (snapped.Run run) u v none few = absurd none
begins_helped z snapped.Again u v none few = few
begins_helped z snapped.Busy u v none few = few
begins_helped z snapped.NoRow u v none few = few
begins_helped z (snapped.Worn which) u v none few = few

-- In all it was no more than a snapshot loads.
pub begins_most : (z : Sizes) (f : Further) (u v : TreeView) → v.loads ≤ u.loads + begin_loads z f → v.loads ≤ u.loads + snapshot_loads z
begins_most z (further.On first) u v few = omega arith
begins_most z (further.Ended (snapped.Run run)) u v few = omega arith
begins_most z (further.Ended snapped.Again) u v few = few
begins_most z (further.Ended snapped.Busy) u v few = few
begins_most z (further.Ended snapped.NoRow) u v few = few
begins_most z (further.Ended (snapped.Worn which)) u v few = few
