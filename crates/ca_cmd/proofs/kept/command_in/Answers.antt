use Rattle.std.proofs.Common.{Some, Ok, subst}
use Rattle.ca_cmd.specs.Content.{IsLine}
use Rattle.ca_cmd.proofs.Determined.{read_again, some_same}
use Rattle.ca_cmd.proofs.kept.command_in.Goals as goal

pub returns-in-Ok-Some : goal.returns-in-Ok-Some
returns-in-Ok-Some c command held =
    let line = c.cut_line.result.0.now in
    let read = subst (λ content. IsLine line (Ok content)) c.in-Ok-Some.field-0-is c.in-Ok-Some.ensures in
    some_same c.in-Ok-Some.cmd command (read_again c.args.file.now c.args.start line _ command (Some c.in-Ok-Some.cmd) c.cut_line.ensures.line read held)
