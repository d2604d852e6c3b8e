use Rattle.std.proofs.Common.{◌≡◌, ◌≤◌, ◌*◌, take, map}
use Rattle.ca_cmd.specs.File.{commands_in}
use Rattle.ca_cmd.specs.Lines.{numbered}
use Rattle.ca_cli.specs.Opening.{count_of_adding}
use Rattle.ca_cli.proofs.opening.adding.Given as goal

abbrev pub invariant-loop-lines : goal.invariant-loop-lines
invariant-loop-lines l = record {
  counted : l.count ≡ count_of_adding (map commands_in (map numbered (take l.lines-index l.files)));
  few : l.count ≤ l.lines-index * 4294967295;
}
