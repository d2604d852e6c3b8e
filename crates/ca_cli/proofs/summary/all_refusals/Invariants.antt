use Rattle.std.proofs.Common.{◌≡◌, ◌+◌, ◌*◌, ◌≤◌, drop}
use Rattle.ca_cli.specs.Texts.{told_refusals}
use Rattle.ca_cli.proofs.summary.all_refusals.Given as goal

-- those so far, and those that are left
abbrev pub invariant-loop-told : goal.invariant-loop-told
invariant-loop-told l = record {
  few : l.count ≤ 18446744073709551616 * l.told-index;
  counted : l.count + told_refusals (drop l.told-index l.all) ≡ told_refusals l.all;
}
