use Rattle.std.proofs.Common.{ap, subst, sym, arith}
use Rattle.ca_model.specs.Edges.{bound_of}
use Rattle.ca_node.specs.Told.{MyTree}
use Rattle.ca_node.specs.TreeView.{Note}
use Rattle.ca_range.specs.Looking.{HoldsEdge}
use Rattle.ca_range.proofs.FirstBases.{has_first, is_first}
use Rattle.ca_range.proofs.Stepping.{steps_by_walk}
use Rattle.ca_range.proofs.looking.walk_to_first.Goals as goal

pub returns-clause-steps : goal.returns-clause-steps
returns-clause-steps c = steps_by_walk _ c.args.pass.now.seat.me c.walk.new.pass.seat.me c.walk.result c.walk.ensures.walked

pub returns-clause-first : goal.returns-clause-first
returns-clause-first c = is_first c.args.space.now.table.shared.key _ _ c.args.pass.now.seat.me c.walk.new.pass.seat.me c.walk.result c.walk.ensures.walked
    c.requires.leaf (λ w. c.spot_of.ensures.begins w.note.place.span w.sought)

pub returns-clause-holds : goal.returns-clause-holds
returns-clause-holds c = let w = c.walk.ensures.walked in
    subst (λ (n : Note). HoldsEdge (bound_of c.args.lo) n.place.span) (sym (ap (λ (x : MyTree). x.0.upper.last) w.now))
    (c.spot_of.ensures.holds w.note.place.span w.sought)

pub returns-clause-has : goal.returns-clause-has
returns-clause-has c = has_first c.args.space.now.table.shared.key _ c.args.pass.now.seat.me c.walk.new.pass.seat.me c.walk.result c.walk.ensures.walked

pub returns-clause-loads : goal.returns-clause-loads
returns-clause-loads c = let w = c.walk.ensures.walked in let now = ap (λ (x : MyTree). x.0.upper.loads) w.now in let few = w.few in omega arith
