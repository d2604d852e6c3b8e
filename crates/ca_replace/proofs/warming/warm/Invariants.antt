use Rattle.ca_rows.specs.Passes.{OnlyReads}
use Rattle.ca_replace.proofs.warming.warm.Given as goal

abbrev pub invariant-loop-place : goal.invariant-loop-place
invariant-loop-place l = record {
  frame : OnlyReads l.fn.pass l.pass;
}
