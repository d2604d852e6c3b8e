use Rattle.std.proofs.Common.{◌+◌, arith}
use Rattle.ca_cmd.proofs.CutLines.{first_line, last_line, behind_some, behind_all}
use Rattle.ca_cmd.proofs.cut.cut_line.Goals as goal

pub returns-in-Some-clause-line : goal.returns-in-Some-clause-line
returns-in-Some-clause-line c = rw c.without_cr.ensures (first_line c.args.bytes.now c.in-Some.end c.in-Some.ensures.0 c.in-Some.ensures.1)

pub returns-in-None-clause-line : goal.returns-in-None-clause-line
returns-in-None-clause-line c = rw c.without_cr-in-None.ensures (last_line c.args.bytes.now c.in-None.ensures c.requires)

pub returns-in-Some-clause-behind : goal.returns-in-Some-clause-behind
returns-in-Some-clause-behind c = behind_some c.args.bytes.now (c.in-Some.end + 1) (omega (arith, c.in-Some.ensures.0.high))

pub returns-in-None-clause-behind : goal.returns-in-None-clause-behind
returns-in-None-clause-behind c = behind_all c.args.bytes.now
