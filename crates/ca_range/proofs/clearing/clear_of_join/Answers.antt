use Rattle.ca_range.proofs.Unjoined.{cleared_free, cleared_gone, cleared_now, way_gone, way_now}
use Rattle.std.proofs.Common.{◌≡◌, true, false, refl, ap, ◌∙◌, inr, ⊎_elim}
use Rattle.ca_node.specs.Told.{MyTree}
use Rattle.ca_range.proofs.clearing.clear_of_join.Goals as goal

pub returns-in-Unmarked-clause-cleared : goal.returns-in-Unmarked-clause-cleared
returns-in-Unmarked-clause-cleared c = cleared_free c.args.space.now c.args.cursor c.args.pass.now c.end_join.new.pass false c.in-Unmarked.ensures.ended
    c.requires.at c.requires.unranged c.requires.none_met

pub returns-in-Unmarked-clause-way : goal.returns-in-Unmarked-clause-way
returns-in-Unmarked-clause-way c = λ budget. (
  (λ on. let no : false ≡ true = on in cc),
  λ marked. ⊎_elim (λ one. absurd (c.requires.unranged one)) (λ two. absurd (c.in-Unmarked.ensures.marked two)) marked,
)

pub returns-in-Before-clause-cleared : goal.returns-in-Before-clause-cleared
returns-in-Before-clause-cleared c = cleared_free c.args.space.now c.args.cursor c.args.pass.now c.end_join.new.pass true c.in-Before.ensures.ended
    c.requires.at c.requires.unranged c.requires.none_met

pub returns-in-Before-clause-way : goal.returns-in-Before-clause-way
returns-in-Before-clause-way c = λ budget. ((λ on. inr c.in-Before.ensures.marked), λ marked. refl)

pub returns-in-Now-clause-cleared : goal.returns-in-Now-clause-cleared
returns-in-Now-clause-cleared c = cleared_now c.args.space.now c.args.cursor c.args.pass.now c.end_join.new.pass c.end_join.new.spent c.requires.ready
    c.requires.at c.in-Now.ensures.ended c.end_join.ensures.counted

pub returns-in-Now-clause-way : goal.returns-in-Now-clause-way
returns-in-Now-clause-way c = λ budget. way_now c.args.space.now c.args.cursor budget c.args.pass.now c.end_join.new.pass c.end_join.new.spent c.requires.at
    c.in-Now.ensures.marked c.in-Now.ensures.ended

pub returns-in-Gone-clause-cleared : goal.returns-in-Gone-clause-cleared
returns-in-Gone-clause-cleared c = cleared_gone c.args.space.now c.args.cursor c.args.pass.now c.end_join.new.pass c.in-Gone.helped c.end_join.new.spent
    c.requires.at c.in-Gone.ensures.ended c.end_join.ensures.counted

pub returns-in-Gone-clause-way : goal.returns-in-Gone-clause-way
returns-in-Gone-clause-way c = λ budget. way_gone c.args.space.now c.args.cursor budget c.args.pass.now c.end_join.new.pass c.in-Gone.helped
    c.end_join.new.spent c.in-Gone.ensures.marked c.in-Gone.ensures.ended

pub returns-in-Unmarked-clause-unmet : goal.returns-in-Unmarked-clause-unmet
returns-in-Unmarked-clause-unmet c = ap (λ (x : MyTree). x.0.upper.ranges.unfinished) c.in-Unmarked.ensures.ended.learnt.1 ∙ c.requires.none_met

pub returns-in-Before-clause-unmet : goal.returns-in-Before-clause-unmet
returns-in-Before-clause-unmet c = ap (λ (x : MyTree). x.0.upper.ranges.unfinished) c.in-Before.ensures.ended.learnt.1 ∙ c.requires.none_met
