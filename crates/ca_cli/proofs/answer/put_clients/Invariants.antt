use Rattle.std.proofs.Common.{◌≡◌, ◌+◌, ◌++◌, drop}
use Rattle.ca_cli.specs.Texts.{told_lines}
use Rattle.ca_cli.proofs.answer.put_clients.Given as goal

-- the clients so far, and those that are left
abbrev pub invariant-loop-told : goal.invariant-loop-told
invariant-loop-told l = record {
  counted : l.client ≡ l.told-index;
  lines : l.into.items ++ told_lines (l.told-index + 1) (drop l.told-index l.all) ≡ l.initial.into.items ++ told_lines 1 l.all;
}
