use Rattle.std.proofs.Common.{◌≡◌, ◌+◌, ◌-◌, ◌≤◌, ◌++◌, map, vec_len, vec_capacity}
use Rattle.ca_cmd.specs.Lines.{numbered}
use Rattle.ca_cli.specs.Summary.{clients_from}
use Rattle.ca_cli.proofs.lines.make_all.Given as goal

-- those so far, and those that are left
abbrev pub invariant-loop-i : goal.invariant-loop-i
invariant-loop-i l = record {
  made : map numbered l.all.items ++ clients_from l.seed l.count (l.i + 1) (l.clients - l.i) ≡ clients_from l.seed l.count 1 l.clients;
  count : vec_len l.all ≡ l.i;
  spare : l.clients ≤ vec_capacity l.all;
}
