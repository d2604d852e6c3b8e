use Rattle.std.proofs.Common.{◌≡◌}
use Rattle.ca_client.proofs.giving.give_back.Given as goal

-- nothing that is known of the table changes
abbrev pub invariant-loop-waits : goal.invariant-loop-waits
invariant-loop-waits g l = g.S.OrderedStore.knows l.table ≡ g.S.OrderedStore.knows l.initial.table
