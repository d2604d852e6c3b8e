use Rattle.std.proofs.Common.{false, sym, subst}
use Rattle.ca_node.specs.Told.{MyTree, IsLedToBase, IsLedToRoute, link_word}
use Rattle.ca_adapt.proofs.Seen.{first_shown, is_base_by, is_route_by, some_rows}
use Rattle.ca_adapt.proofs.looking.load_base.Goals as goal

pub load_word-word-requires-clause-shown : goal.load_word-word-requires-clause-shown
load_word-word-requires-clause-shown c = let m = c.args.pass.now.seat.me in
    first_shown c.load_link-row.result m c.load_link-row.new.pass.seat.me
    (some_rows m c.args.space.now.table.shared.key c.requires.reading.own.1
    c.requires.rows)
    c.load_link-row.ensures.led

pub returns-then-word-clause-seen : goal.returns-then-word-clause-seen
returns-then-word-clause-seen c = let m = c.args.pass.now.seat.me in (
  c.load_link-row.result,
  subst (λ (x : MyTree). IsLedToRoute (link_word c.args.link) m c.load_link-row.result x)
      (sym c.load_word-word.ensures.frame.still)
      (is_route_by c.load_link-row.result m c.load_link-row.new.pass.seat.me
      (some_rows m c.args.space.now.table.shared.key c.requires.reading.own.1 c.requires.rows)
      c.load_word-word.result c.load_word-word.ensures.word
      c.if-word.true c.load_link-row.ensures.led),
)

pub returns-else-word-clause-seen : goal.returns-else-word-clause-seen
returns-else-word-clause-seen c = let m = c.args.pass.now.seat.me in
    subst (λ (x : MyTree). IsLedToBase false (link_word c.args.link) m c.load_link-row.result x)
    (sym c.load_word-word.ensures.frame.still)
    (is_base_by c.load_link-row.result m c.load_link-row.new.pass.seat.me
    (some_rows m c.args.space.now.table.shared.key c.requires.reading.own.1 c.requires.rows)
    c.load_word-word.result c.load_word-word.ensures.word
    c.if-word.false c.load_link-row.ensures.led)
