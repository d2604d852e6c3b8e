use Rattle.ca_model.proofs.Walking.{all_pairs}
use Rattle.ca_model.proofs.run.start_of.Goals as goal

pub returns-in-Open-clause-start : goal.returns-in-Open-clause-start
returns-in-Open-clause-start c = rw c.in-Open.is (all_pairs c.args.objects.now.pairs)
