use Rattle.std.proofs.Common.{◌≤◌, ◌+◌}
use Rattle.ca_model.specs.Known.{Stays}
use Rattle.ca_test_store.proofs.inner.add_rooms.Given as goal

abbrev pub invariant-loop-left : goal.invariant-loop-left
invariant-loop-left l = record { stays : Stays l.fn.objects l.objects; room : l.fn.objects.spare + l.count ≤ l.objects.spare + l.left }

abbrev pub decreases-loop-left : goal.decreases-loop-left
decreases-loop-left l = l.left
