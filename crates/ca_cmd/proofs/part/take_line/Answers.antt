use Rattle.std.proofs.Common.{Some, Ok, Bool, subst}
use Rattle.ca_cmd.specs.Content.{IsLine}
use Rattle.ca_cmd.specs.Kept.{IsAdded}
use Rattle.ca_cmd.proofs.part.take_line.Goals as goal

pub returns-in_ok-add-in-Ok-Some-clause-taken : goal.returns-in_ok-add-in-Ok-Some-clause-taken
returns-in_ok-add-in-Ok-Some-clause-taken c = (
  Some c.in-Ok-Some.cmd,
  subst (λ content. IsLine c.args.line.now (Ok content)) c.in-Ok-Some.field-0-is c.in-Ok-Some.ensures,
  subst (λ (adds : Bool). IsAdded c.args.place adds c.args.held.now c.add.new.self) c.may_add.ensures c.in_ok-add-in-Ok-Some.ensures,
)
