use Rattle.std.proofs.Common.{sym, ◌∙◌, subst, arith}
use Rattle.ca_base.specs.Finding.{IsAtCursor, IsBaseShown}
use Rattle.ca_node.specs.Told.{IsSettled, link_word}
use Rattle.ca_node.specs.TreeView.{Note}
use Rattle.ca_adapt.specs.Trying.{IsJoinOutcome, IsLoneTry}
use Rattle.ca_adapt.specs.declared.adapted.Adapted.{Adapted}
use Rattle.ca_adapt.proofs.LastOn.{shown_first}
use Rattle.ca_node.specs.Inventory.{IsListed}
use Rattle.ca_adapt.proofs.trying.try_join.Goals as goal

pub join_under-requires-clause-leaf : goal.join_under-requires-clause-leaf
join_under-requires-clause-leaf c = let most = c.requires.tuned.allowed.most_leaf in let leaf =
    c.requires.tuned.leaf in (omega arith, omega arith)

pub join_under-requires-clause-shown : goal.join_under-requires-clause-shown
join_under-requires-clause-shown c = let u = c.args.pass.now.seat.me.0.upper in
    subst (λ (n : Note). IsBaseShown c.args.space.now.table.shared.key u c.args.cursor.base n)
    (sym (shown_first (link_word c.args.cursor.link) u.notes c.requires.at.link)) c.requires.shown

pub join_under-requires-clause-at : goal.join_under-requires-clause-at
join_under-requires-clause-at c = let u = c.args.pass.now.seat.me.0.upper in
    subst (λ (n : Note). IsAtCursor c.args.space.now.table.shared.key n c.args.cursor)
    (sym (shown_first (link_word c.args.cursor.link) u.notes c.requires.at.link)) c.requires.at

pub join_under-requires-clause-settled : goal.join_under-requires-clause-settled
join_under-requires-clause-settled c = let u = c.args.pass.now.seat.me.0.upper in
    subst (λ (n : Note). IsSettled u n.its)
    (sym (shown_first (link_word c.args.cursor.link) u.notes c.requires.at.link))
    c.requires.settled

pub join_under-requires-clause-fork : goal.join_under-requires-clause-fork
join_under-requires-clause-fork c = c.in-Some.ensures c.args.space.now.table.shared.key
    c.args.pass.now.seat.me.0.upper c.requires.hung

pub returns-clause-frame : goal.returns-clause-frame
returns-clause-frame c = record {
  same = c.join_under.ensures.frame.same;
  number = c.join_under.ensures.frame.number;
  tally = c.join_under.ensures.frame.tally;
  pin = c.join_under.ensures.frame.pin;
  own_range = c.join_under.ensures.own ∙ sym c.requires.quiet;
  none = c.join_under.ensures.none;
}

pub returns-clause-joined : goal.returns-clause-joined
returns-clause-joined c = let u = c.args.pass.now.seat.me.0.upper in let z =
    c.args.space.now.table.shared.key in
    subst (λ (x : Note × Adapted). IsJoinOutcome z c.args.cursor.link x.0 x.1
    c.args.pass.now.seat.me c.join_under.new.pass.seat.me)
    (λ i. (
      shown_first (link_word c.args.cursor.link) u.notes c.requires.at.link i,
      sym c.outcome.ensures i,
    )) c.join_under.ensures.joined

pub returns-clause-alone : goal.returns-clause-alone
returns-clause-alone c alone known listed = let u = c.args.pass.now.seat.me.0.upper in
    subst (λ (a : Adapted). IsLoneTry a c.args.pass.now.seat.me c.join_under.new.pass.seat.me)
    (sym c.outcome.ensures)
    (c.join_under.ensures.alone alone known (subst (λ (n : Note). IsListed u.inventory n)
    (sym (shown_first (link_word c.args.cursor.link) u.notes c.requires.at.link)) listed))
