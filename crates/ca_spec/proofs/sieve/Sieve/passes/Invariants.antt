-- The elements from one on are left.
use Rattle.std.proofs.Common.{◌≡◌, drop}
use Rattle.ca_order.specs.CodesView.{terms_of}
use Rattle.ca_spec.proofs.sieve.Sieve.passes.Given as goal

abbrev pub invariant-loop : goal.invariant-loop
invariant-loop l = terms_of l.left ≡ drop l.counter (terms_of l.initial.left)
