use Rattle.std.proofs.Common.{rules}
use Rattle.ca_cmd.specs.Refusal.{IsCauseIn}
use Rattle.ca_cmd.proofs.Parts.{fault_behind, part_none, parts_join}
use Rattle.ca_cmd.proofs.at_once.put_together.Goals as goal

pub loop-piece-init : goal.loop-piece-init
loop-piece-init c =
    let none = c.none-whole.ensures in part_none c.args.file.now c.none-whole.result none.places none.adding none.lines none.end

pub returns-in_err-rest-clause-refused : goal.returns-in_err-rest-clause-refused
returns-in_err-rest-clause-refused c =
    let cause : IsCauseIn c.args.file.now c.in_err-rest.field-0.0 =
    fault_behind c.args.file.now c.loop-piece.whole c.in_err-rest.field-0.0 c.loop-piece.invariant c.in_err-rest.ensures.refused in
    search (rules, cause)

pub returns-clause-read : goal.returns-clause-read
returns-clause-read c =
    parts_join c.args.file.now c.loop-piece.whole c.in_ok-rest.rest c.add.new.self c.loop-piece.invariant c.in_ok-rest.ensures.read c.in_ok-add.ensures
