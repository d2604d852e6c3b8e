use Rattle.std.proofs.Common.{◌≡◌, List, length, take, drop, map}
use Rattle.ca_term.specs.Tree.{Tree, row_of}
use Rattle.ca_term.specs.Code.{row_code}
use Rattle.ca_term.specs.Updates.{integer_of}
use Rattle.ca_order.specs.Patches.{HasItems}
use Rattle.ca_order.proofs.counter.numbers_of.Given as goal

abbrev pub invariant-loop : goal.invariant-loop
invariant-loop l = record {
  size : (items : List Tree) → HasItems items l.code → l.size ≡ length items;
  numbers : (items : List Tree) → HasItems items l.code → l.numbers.items ≡ map integer_of (take l.counter items);
  rest : (items : List Tree) → HasItems items l.code → l.rest ≡ row_code (row_of (drop l.counter items));
}
