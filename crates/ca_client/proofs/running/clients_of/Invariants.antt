use Rattle.std.proofs.Common.{◌≡◌, ◌≤◌, ◌+◌, length, take, vec_len, vec_capacity}
use Rattle.std.specs.Vec.Iter.{into_iter_items, into_iter_len}
use Rattle.ca_client.specs.Sharing.{AreNew, AreReady}
use Rattle.ca_client.proofs.running.clients_of.Given as goal

abbrev pub invariant-loop-pass : goal.invariant-loop-pass
invariant-loop-pass l = record {
  left : into_iter_len l.pass-iterator ≡ length (into_iter_items l.pass-iterator);
  places : l.place + length (into_iter_items l.pass-iterator) ≡ length l.files;
  each : AreNew l.tree.space.table.shared.table_id l.tree.space.table.shared.key (1 + l.place) (into_iter_items l.pass-iterator);
  ready : AreReady l.tree.space.table.shared.table_id l.tree.space.table.shared.key 1 (take l.place l.files) l.clients.items;
  made : vec_len l.clients ≡ l.place;
  room : length l.files ≤ vec_capacity l.clients;
}
