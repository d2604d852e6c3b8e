use Rattle.std.proofs.Common.{◌≡◌, ◌≤◌, ◌++◌, length, map, vec_len, vec_capacity}
use Rattle.std.specs.Vec.Iter.{into_iter_items, into_iter_len}
use Rattle.ca_replace.specs.Past.{left_by}
use Rattle.ca_client.specs.Ran.{splits_of, joins_of}
use Rattle.ca_client.specs.Sharing.{AreParts}
use Rattle.ca_client.proofs.running.parts_of.Given as goal

abbrev pub invariant-loop-client : goal.invariant-loop-client
invariant-loop-client l = record {
  items : l.fn.clients.items ≡ l.yielded ++ into_iter_items l.client-iterator;
  left : into_iter_len l.client-iterator ≡ length (into_iter_items l.client-iterator);
  each : AreParts l.yielded l.all.items l.passes.items;
  answers : vec_len l.all ≡ length l.yielded;
  taken : vec_len l.passes ≡ length l.yielded;
  room : length l.fn.clients.items ≤ vec_capacity l.all;
  room_too : length l.fn.clients.items ≤ vec_capacity l.passes;
  splits : l.splits ≡ splits_of (map left_by l.passes.items);
  joins : l.joins ≡ joins_of (map left_by l.passes.items);
}
