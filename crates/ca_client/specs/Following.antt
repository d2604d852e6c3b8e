-- What a store on the tree promises of its calls that ask a function.
use Rattle.std.specs.Prelude.{ℕ, ◌<◌, None, vec_len}
use Rattle.ca_model.specs.declared.outcome.Changed.{Changed}
use Rattle.ca_model.specs.declared.outcome.Outcome.{Outcome}
use Rattle.ca_replace.specs.Adapting.{is_put}
use Rattle.ca_replace.specs.Called.{HasTold}
use Rattle.ca_replace.specs.Resting.{StoreAndRun}

-- It doesn't speak of the function.
abbrev pub asked_on_tree : ℕ → StoreAndRun → StoreAndRun → Outcome Changed → Type 0
asked_on_tree budget s t outcome = HasTold is_put None budget s.store t.store outcome

-- The store's pass keeps more rows than its calls leave where no other pass lags, so it can give them back only once that goes on.
abbrev pub keeps_many : StoreAndRun → Type 0
keeps_many s = 256 < vec_len s.store.kept
