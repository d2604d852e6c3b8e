-- An attempt's exchange of a base, and what followed it, as both told it.
use Rattle.std.proofs.Common.{◌≡◌, ℕ, ℤ, Result}
use Rattle.ca_base.specs.declared.stop.Stop.{Stop}
use Rattle.ca_replace.specs.declared.attempting.Halt.{Halt}
use Rattle.ca_adapt.specs.declared.tuning.Tuning.{Tuning}
use Rattle.ca_base.specs.Putting.{HasRenewed, HasTried}
use Rattle.ca_model.specs.Event.{Event}
use Rattle.ca_model.specs.History.{Edit}
use Rattle.ca_node.specs.Told.{MyTree}
use Rattle.ca_replace.specs.declared.adapting.Adapting.{Adapting}
use Rattle.ca_replace.specs.Adapting.{HasSettled}
use Rattle.ca_replace.specs.Attempting.{come_to}
use Rattle.ca_rows.specs.declared.sizes.Sizes.{Sizes}
use Rattle.ca_rows.specs.declared.view.Met.{Met}

pub record IsSettling (z : Sizes) (t : Tuning) (tried : Result (Unit {0}) Stop)
    (r : Result (Unit {0}) Halt) (a b : Adapting)
    (k m m' m'' : MyTree) : Type 0 where
  -- the update, the statistic of its new base with the word for it, and what was met of the pool
  -- until then
  pub event : Event
  pub edit : Edit
  pub statistic : ℤ
  pub word : ℕ
  pub met : Met
  -- The pass knew as much as the exchange began as at first.
  pub same : m ≡ k
  pub is : r ≡ come_to tried
  pub entered : HasTried event z tried m.0.upper m'.0.upper
  pub renewed : HasRenewed z met word edit tried m.0.upper m'.0.upper
  pub settled : HasSettled z t statistic tried a b m' m''
