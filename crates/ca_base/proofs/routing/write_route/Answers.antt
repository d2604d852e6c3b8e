use Rattle.std.proofs.Common.{refl, arith}
use Rattle.ca_base.proofs.RouteWords.{route_written}
use Rattle.ca_base.proofs.routing.write_route.Goals as goal

pub returns-clause-written : goal.returns-clause-written
returns-clause-written c =
    route_written c.args.fork.route c.args.level c.args.fork.left c.args.fork.right c.args.attempt _
    _ c.args.key.now c.args.pass.now.seat.me
    c.write_words.new.pass.seat.me c.write_bytes.new.pass.seat.me c.requires.row.held.1 (omega arith)
    refl refl c.requires.short c.write_words.ensures.filled
    c.write_bytes.ensures.filled
