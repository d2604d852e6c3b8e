-- So many parts were passed over, of which none is the variable.
use Rattle.std.proofs.Common.{◌≡◌}
use Rattle.ca_spec.specs.SieveView.{first_place}
use Rattle.ca_spec.proofs.Sieves.{place_from}
use Rattle.ca_spec.proofs.sieve.place_of.Given as goal

abbrev pub invariant-loop-part : goal.invariant-loop-part
invariant-loop-part l = (l.place ≡ l.part-index) × (first_place l.number l.parts ≡ place_from l.number l.parts l.part-index)
