-- What stays of what a pass knows as it helps ranges.
use Rattle.std.specs.Prelude.{◌≡◌, ◌⊎◌, ℕ, ◌+◌, ◌<◌, ◌≤◌, ◌++◌}
use Rattle.ca_model.specs.History.{History}
use Rattle.ca_node.specs.Links.{IsIn}
use Rattle.ca_node.specs.Told.{IsKnown}
use Rattle.ca_node.specs.TreeView.{Over, Unfinished, TreeView}
use Rattle.ca_rows.specs.declared.sizes.Sizes.{Sizes}
use Rattle.ca_range.specs.declared.account.Range.{Range}

-- what a seat knows, with what another one has seen, was shown, met of others' ranges, knows of joins, loaded and counted
abbrev pub with_steps_of : TreeView → TreeView → TreeView
with_steps_of u v = record u {
  seen = v.seen;
  notes = v.notes;
  ways = v.ways;
  ranges = record u.ranges { over = v.ranges.over; borders = v.ranges.borders; unfinished = v.ranges.unfinished; joins = v.ranges.joins };
  loads = v.loads;
  joins = v.joins;
  lost = v.lost;
  turns = v.turns;
  last = v.last;
  shown = v.shown;
  inventory = v.inventory;
}

-- It has seen no less, knows of no fewer ranges that they are over, and else only what it was shown, loaded and counted changed: its log, its refusals, its
-- own range and what it edited are as before. It lost so many exchanges of a link.
pub record OnlySteps (z : Sizes) (lost : ℕ) (u v : TreeView) : Type 0 where
  pub only : v ≡ with_steps_of u v
  pub seen : (more : History) × (v.seen ≡ u.seen ++ more)
  pub over : (x : Over) → IsIn x u.ranges.over → IsIn x v.ranges.over
  pub lost_is : v.lost ≡ u.lost + lost
  -- A history as it may know it is one still.
  pub known : IsKnown z u → IsKnown z v
  -- A range that was found unfinished is so still, or one was counted as helped.
  pub helped : u.turns.helped ≤ v.turns.helped
  pub unfinished : (x : Unfinished) → IsIn x u.ranges.unfinished → IsIn x v.ranges.unfinished ⊎ (u.turns.helped < v.turns.helped)
  -- Each join that it carried out was counted as one that it helped.
  pub joins : u.joins ≤ v.joins
  pub joined : v.joins + u.turns.helped ≤ u.joins + v.turns.helped

-- A join was carried out that another pass had secured, and was counted as helped.
abbrev pub HasJoined : TreeView → TreeView → Type 0
HasJoined u v = (u.joins < v.joins) × (u.turns.helped < v.turns.helped)

-- Where the range was found unfinished, it was counted as helped.
abbrev pub IsCounted : Range → TreeView → TreeView → Type 0
IsCounted range u v = IsIn {A = Unfinished} (record { pass = range.owner; number = range.number }) u.ranges.unfinished → u.turns.helped < v.turns.helped
