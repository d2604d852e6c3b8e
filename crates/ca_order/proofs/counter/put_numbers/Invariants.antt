use Rattle.std.proofs.Common.{◌≡◌, List, drop, length}
use Rattle.ca_term.specs.Tree.{Tree, row_of}
use Rattle.ca_term.specs.Code.{row_code}
use Rattle.ca_order.specs.Patches.{HasItems}
use Rattle.ca_order.proofs.NewNumbers.{IsKept}
use Rattle.ca_order.proofs.counter.put_numbers.Given as goal

abbrev pub invariant-loop-number : goal.invariant-loop-number
invariant-loop-number l = record {
  rest : (items : List Tree) → HasItems items l.code → length l.numbers ≡ length items → l.rest ≡ row_code (row_of (drop l.number-index items));
  kept : (items : List Tree) → HasItems items l.code → length l.numbers ≡ length items
      → IsKept items l.numbers l.number-index l.kept l.rest l.into.items l.fn.into.items;
}
