use Rattle.std.proofs.Common.{◌≡◌, map}
use Rattle.ca_term.specs.Add.{addition_of}
use Rattle.ca_ets.specs.Update.{additions_in, IsFilledList}
use Rattle.ca_ets.proofs.ListedOperations.{behind}
use Rattle.ca_ets.proofs.update.several.Given as goal

abbrev pub invariant-loop-head : goal.invariant-loop-head
invariant-loop-head l = record {
  asked : additions_in l.list ≡ behind (map addition_of l.adds.items) (additions_in l.rest);
  filled : IsFilledList l.rest → IsFilledList l.list;
}
