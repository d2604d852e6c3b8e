use Rattle.std.proofs.Common.{◌≡◌, ◌<◌, length, take}
use Rattle.std.specs.Prelude.{IfSome, is_some, nat_lt}
use Rattle.ca_ets.specs.Step.{keyed_results, last_found, results_in}
use Rattle.ca_ets.proofs.selection.first_results.Given as goal

-- the results of the objects so far are fewer than were asked for, and the last of them is that of this key
abbrev pub invariant-loop-object : goal.invariant-loop-object
invariant-loop-object l = record {
  results : l.terms.items ≡ results_in (keyed_results l.keypos l.spec (take l.object-index l.objects));
  fewer : length l.terms.items < l.limit;
  last : IfSome l.last (λ k. k.now ≡ last_found (keyed_results l.keypos l.spec (take l.object-index l.objects)));
  some : is_some l.last ≡ nat_lt 0 (length l.terms.items);
}
