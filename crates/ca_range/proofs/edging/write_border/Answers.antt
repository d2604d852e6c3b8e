use Rattle.std.proofs.Common.{◌≤◌, [], sym, ap, subst, length, arith}
use Rattle.ca_model.specs.declared.edge.Edge.{Edge}
use Rattle.ca_model.specs.Edges.{IsProperBound, bound_of}
use Rattle.ca_range.proofs.Bordered.{bordered}
use Rattle.ca_range.proofs.edging.write_border.Goals as goal

pub returns-in-Open-clause-written : goal.returns-in-Open-clause-written
returns-in-Open-clause-written c = bordered c.args.row c.args.pass.now.number 0 [] (bound_of c.args.hi) c.args.pass.now.seat.me
    c.write_keyed.new.pass.seat.me (ap bound_of (sym c.in-Open.is)) (omega arith) c.write_keyed.ensures.written

pub returns-in-At-clause-written : goal.returns-in-At-clause-written
returns-in-At-clause-written c = let key = c.in-At.key.now in
    let proper = subst (λ (e : Edge). IsProperBound (bound_of e)) c.in-At.is c.requires.proper in let short : length key ≤ 1000 = proper.1 in
    bordered c.args.row c.args.pass.now.number 1 key (bound_of c.args.hi) c.args.pass.now.seat.me c.write_keyed-in-At.new.pass.seat.me
    (ap bound_of (sym c.in-At.is)) short c.write_keyed-in-At.ensures.written

pub returns-in-Past-clause-written : goal.returns-in-Past-clause-written
returns-in-Past-clause-written c = let key = c.in-Past.key.now in
    let proper = subst (λ (e : Edge). IsProperBound (bound_of e)) c.in-Past.is c.requires.proper in let short : length key ≤ 1000 = proper.1 in
    bordered c.args.row c.args.pass.now.number 2 key (bound_of c.args.hi) c.args.pass.now.seat.me c.write_keyed-in-Past.new.pass.seat.me
    (ap bound_of (sym c.in-Past.is)) short c.write_keyed-in-Past.ensures.written
