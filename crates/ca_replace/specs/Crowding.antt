-- How few rows a pass that is alone keeps behind attempts that did not do their call, and how few rows there are where none was free.
use Rattle.std.specs.Prelude.{ℕ, ◌+◌, ◌≤◌, length, Result, Ok, Err, vec_len}
use Rattle.ca_base.specs.declared.stop.Stop.TheVariants as stop
use Rattle.ca_base.specs.Counting.{losses}
use Rattle.ca_node.specs.Inventory.{HasFewRows}
use Rattle.ca_node.specs.States.{IsAlone}
use Rattle.ca_node.specs.Told.{MyTree}
use Rattle.ca_node.specs.TreeView.{TreeView}
use Rattle.ca_replace.specs.declared.attempting.Halt.{Halt}
use Rattle.ca_replace.specs.declared.attempting.Halt.TheVariants as halt
use Rattle.ca_replace.specs.Attempting.{splits}
use Rattle.ca_rows.specs.declared.sizes.Sizes.{Sizes}
use Rattle.ca_rows.specs.declared.space.Pass.{Pass}
use Rattle.ca_rows.specs.declared.space.Space.{Space}

-- A seat that kept so many rows keeps so many now: one more at most for each exchange that it lost, and for each base that it split.
abbrev pub KeepsBySplits : ℕ → ℕ → MyTree → MyTree → Type 0
KeepsBySplits kept kept' m m' = kept' + (losses m + splits m) ≤ kept + (losses m' + splits m')

-- Where the pass is alone its tree has few rows.
abbrev pub HasFewAlone : Sizes → TreeView → Type 0
HasFewAlone z u = IsAlone z u → HasFewRows u

-- An attempt of a pass that keeps so many rows stopped so: where no row was free, all rows but eight at most are the tree's, or are kept.
abbrev pub CrowdsAt : Halt → ℕ → ℕ → MyTree → Type 0
CrowdsAt (halt.Stopped (stop.Lost exchange)) rows kept m = Unit {0}
CrowdsAt (halt.Stopped stop.Empty) rows kept m = rows ≤ length m.0.upper.inventory.rows + kept + 8
CrowdsAt (halt.Stopped stop.Worn) rows kept m = Unit {0}
CrowdsAt halt.Deep rows kept m = Unit {0}
CrowdsAt halt.Split rows kept m = Unit {0}
CrowdsAt halt.Helped rows kept m = Unit {0}

-- So it is of attempts of a space with so many rows, by what the last of them came to.
abbrev pub HasCrowded : {T : Type 0} → Result T Halt → ℕ → ℕ → ℕ → MyTree → MyTree → Type 0
HasCrowded (Ok x) rows kept kept' m m' = Unit {0}
HasCrowded (Err why) rows kept kept' m m' = KeepsBySplits kept kept' m m' × CrowdsAt why rows kept' m'

-- So it is of a pass of this space, where it is alone.
abbrev pub Crowds : {R T : Type 0} → Space R TreeView → Result T Halt → Pass R TreeView → Pass R TreeView → Type 0
Crowds space r pass new = IsAlone space.table.shared.key pass.seat.me.0.upper
    → HasCrowded r space.table.shared.key.rows (vec_len pass.kept.rows) (vec_len new.kept.rows) pass.seat.me new.seat.me
