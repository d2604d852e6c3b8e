use Rattle.std.proofs.Common.{◌≡◌, ◌+◌, ◌≤◌, min, length, drop, sum_by}
use Rattle.ca_client.specs.Clients.{lines_in}
use Rattle.ca_client.proofs.running.lines_of.Given as goal

-- those so far, and those that are left
abbrev pub invariant-loop-file : goal.invariant-loop-file
invariant-loop-file l = record {
  few : l.lines ≤ 18446744073709551615;
  counted : min 18446744073709551615 (l.lines + sum_by (λ lines. length lines) (drop l.file-index l.files)) ≡ lines_in l.files;
}
