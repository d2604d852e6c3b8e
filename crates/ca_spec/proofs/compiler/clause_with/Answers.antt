use Rattle.std.proofs.Common.{arith, ap}
use Rattle.ca_spec.specs.Held.{AreOf}
use Rattle.ca_spec.specs.Places.{places}
use Rattle.ca_spec.proofs.Variables.{none_held}
use Rattle.ca_spec.proofs.compiler.clause_with.Goals as goal

pub guards-requires : goal.guards-requires
guards-requires c = none_held c.args.first.now c.none-variables.result c.head.new.variables c.none-variables.ensures c.in_ok-head.ensures.variables

pub body-requires : goal.body-requires
body-requires c = none_held c.args.first.now c.none-variables.result c.head.new.variables c.none-variables.ensures c.in_ok-head.ensures.variables

pub invariant_of-result : goal.invariant_of-result
invariant_of-result c =
    let held : AreOf c.args.first.now c.head.new.variables =
    none_held c.args.first.now c.none-variables.result c.head.new.variables c.none-variables.ensures c.in_ok-head.ensures.variables in
    record {
      exact = omega (arith, held.places_are, ap places c.in_ok-head.ensures.ok, c.places.ensures.value);
      in_range = c.places.ensures.within;
      front = c.asked_parts-asked.ensures;
    }
