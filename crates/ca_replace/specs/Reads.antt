-- Calls that edit nothing, as events.
use Rattle.std.specs.Prelude.{ℕ, Bool, true, false, List, Some, None}
use Rattle.ca_model.specs.Edges.{bound_of}
use Rattle.ca_model.specs.Event.{Event, Get, WriteNew, Remove, Change, Above, Below}
use Rattle.ca_replace.specs.declared.ending.Read.{Read}
use Rattle.ca_replace.specs.declared.ending.Read.TheVariants as read

-- the event that the call is
abbrev pub event_of : Read → Event
event_of (read.Got key object) = Get key.now (Some object.now)
event_of (read.GotNothing key) = Get key.now None
event_of (read.NotNew key object) = WriteNew key.now object.now false
event_of (read.NothingToRemove key) = Remove key.now None
event_of (read.NothingToChange key) = Change key.now None None
event_of (read.Unchanged key object) = Change key.now (Some object.now) None
event_of (read.First lo object) = Above (bound_of lo) (Some object.now)
event_of (read.NoneAbove lo) = Above (bound_of lo) None
event_of (read.Last hi object) = Below (bound_of hi) (Some object.now)
event_of (read.NoneBelow hi) = Below (bound_of hi) None

-- the read of a key, given whether an object was found, and which
abbrev pub get_event : List ℕ → Bool → List ℕ → Event
get_event key true object = Get key (Some object)
get_event key false object = Get key None
