use Rattle.std.proofs.Common.{◌≡◌, ◌-◌, ◌≤◌, vec_len, vec_capacity}
use Rattle.ca_client.specs.Sharing.{AreNew}
use Rattle.ca_client.proofs.running.enroll_all.Given as goal

abbrev pub invariant-loop-alloc : goal.invariant-loop-alloc
invariant-loop-alloc l = record {
  shared : l.tree.space.table.shared ≡ l.initial.tree.space.table.shared;
  sizes : l.tree.space.sizes ≡ l.initial.tree.space.sizes;
  tuning : l.tree.tuning ≡ l.initial.tree.tuning;
  made : l.tree.space.made ≡ vec_len l.made;
  few : vec_len l.made ≤ l.count;
  room : l.count ≤ vec_capacity l.made;
  each : AreNew l.initial.tree.space.table.shared.table_id l.initial.tree.space.table.shared.key 1 l.made.items;
}

abbrev pub decreases-loop-alloc : goal.decreases-loop-alloc
decreases-loop-alloc l = l.count - vec_len l.made
