use Rattle.std.proofs.Common.{rules}
use Rattle.ca_spec.specs.declared.sieve.Sieve.{Sieve}
use Rattle.ca_spec.proofs.Sieves.{clause_found, clause_sieve, no_place_found}
use Rattle.ca_spec.proofs.sieve.sieve_of_clause.Goals as goal

pub returns : goal.returns
returns c =
    let sieve : Sieve = record { place = c.in_ok-place.place; orders = c.in_ok-number.orders; constant = c.in_ok-number.constant } in
    record {
      stops = clause_sieve sieve c.args.clause.now c.in_ok-parts.parts.now c.in_ok-guard.guard.now c.in_ok-guard.field-0-1.now c.in_ok-number.number
          c.in_ok-parts.ensures.parts (search rules) c.in_ok-number.ensures.compares c.in_ok-place.ensures.stands;
      found = clause_found sieve c.args.clause.now c.in_ok-parts.parts.now c.in_ok-guard.guard.now c.in_ok-guard.field-0-1.now c.in_ok-number.number
          c.in_ok-parts.ensures.parts (search rules) c.in_ok-number.ensures.compares c.in_ok-number.ensures.found c.in_ok-place.ensures.found;
    }

pub returns-in_err-place-clause-found : goal.returns-in_err-place-clause-found
returns-in_err-place-clause-found c =
    no_place_found c.args.clause.now c.in_ok-parts.parts.now c.in_ok-guard.guard.now c.in_ok-guard.field-0-1.now c.in_ok-number.number _
    (search rules) c.in_ok-parts.ensures.parts (search rules) c.in_ok-number.ensures.found c.in_err-place.ensures.found
