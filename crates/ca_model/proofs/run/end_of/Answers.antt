use Rattle.std.proofs.Common.{◌∙◌, ℕ, arith, take, sym, ap}
use Rattle.std.proofs.lemmas.List.{take_all}
use Rattle.ca_model.proofs.Walking.{all_pairs}
use Rattle.ca_model.proofs.run.end_of.Goals as goal

pub returns-in-Open-clause-end : goal.returns-in-Open-clause-end
returns-in-Open-clause-end c =
    let pairs = c.args.objects.now.pairs in
    rw c.in-Open.is (all_pairs pairs ∙ sym (ap (λ (n : ℕ). take n pairs) c.len.ensures ∙ take_all _ pairs (omega arith)))
