use Rattle.std.proofs.Common.{◌≤◌, length, sym, arith}
use Rattle.std.proofs.lemmas.Bool.Decides.{nat_tests}
use Rattle.std.specs.Str.{valid_up_to}
use Rattle.ca_cmd.specs.declared.line.TheConstants.{MOST_LINE_BYTES}
use Rattle.ca_cmd.proofs.Words.{text_well, text_ill}
use Rattle.ca_cmd.proofs.command.text_in.Goals as goal

pub returns-in-Ok-clause-value : goal.returns-in-Ok-clause-value
returns-in-Ok-clause-value c =
    let short : length c.args.line.now ≤ MOST_LINE_BYTES = grind (arith, nat_tests) in
    rw c.skip.ensures.value (sym (text_well c.args.line.now short c.in-Ok.ensures.cases.1))

pub returns-in-Err-clause-value : goal.returns-in-Err-clause-value
returns-in-Err-clause-value c =
    let short : length c.args.line.now ≤ MOST_LINE_BYTES = grind (arith, nat_tests) in
    let n = valid_up_to c.in-Err.fault in
    let within : n ≤ length c.args.line.now = omega (arith, c.in-Err.ensures.cases.1.short) in
    rw (c.refused.ensures, c.valid_up_to.ensures) (text_ill c.args.line.now n short c.in-Err.ensures.cases.0 within c.in-Err.ensures.valid_len)
