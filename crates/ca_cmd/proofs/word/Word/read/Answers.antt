use Rattle.std.proofs.Common.{rules, refl}
use Rattle.ca_cmd.specs.Word.{form_of}
use Rattle.ca_cmd.proofs.Commands.{arguments_refused, end_refused}
use Rattle.ca_cmd.proofs.word.Word.read.Goals as goal

pub returns-in_err-arguments : goal.returns-in_err-arguments
returns-in_err-arguments c =
    let refused = rw c.count.ensures at c.in_err-arguments.ensures.value in
    search (rules, arguments_refused c.args.size (form_of c.args.self) c.args.bytes.now c.in_err-arguments.field-0.0 refused)

pub returns-in_err-end : goal.returns-in_err-end
returns-in_err-end c =
    let read = rw c.count.ensures at c.in_ok-arguments.ensures.value in
    search (rules, end_refused c.args.size (form_of c.args.self) c.args.bytes.now _ _ c.in_err-end.field-0.0 read c.in_err-end.ensures)

pub returns : goal.returns
returns c =
    let read = rw c.count.ensures at c.in_ok-arguments.ensures.value in
    rw c.command.ensures (_, read, (_, c.in_ok-end.ensures, refl))
