use Rattle.std.proofs.Common.{◌/◌, ◌%◌, ℕ, get_or, ap}
use Rattle.ca_adapt.proofs.JoinedRows.{way_word}
use Rattle.ca_node.specs.Layout.{count_limit}
use Rattle.ca_adapt.proofs.finishing.route_level.Goals as goal

pub load_word-requires-clause-shown : goal.load_word-requires-clause-shown
load_word-requires-clause-shown c = let s = c.requires.remembered in
    (get_or s.0.its 0 0, way_word c.args.pass.now.seat.me.0.upper c.args.route s.0 s.1 s.2)

pub returns-clause-level : goal.returns-clause-level
returns-clause-level c way i is = ap (λ (n : ℕ). n / count_limit % count_limit)
    (c.load_word.ensures.word (get_or way.its 0 0)
    (way_word c.args.pass.now.seat.me.0.upper c.args.route way i is))
