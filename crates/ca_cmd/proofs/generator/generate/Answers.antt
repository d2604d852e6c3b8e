use Rattle.std.proofs.Common.{rules, ◌+◌, ◌∙◌, Bool, refl, ap, subst, arith}
use Rattle.ca_cmd.specs.Adding.{may_add}
use Rattle.ca_cmd.specs.Kept.{IsAdded}
use Rattle.ca_cmd.specs.Lines.{numbered}
use Rattle.ca_cmd.specs.declared.kept.Place.{Place}
use Rattle.ca_cmd.proofs.Generating.{making_none, making_more, made_all}
use Rattle.ca_cmd.proofs.generator.generate.Goals as goal

pub loop-i-init : goal.loop-i-init
loop-i-init c =
    making_none c.args.seed c.args.client c.args.lines c.new-held.result c.start_of-x.result c.new-held.ensures.places c.new-held.ensures.adding c.start_of-x.ensures

pub add-requires : goal.add-requires
add-requires c = omega (arith, c.loop-i.invariant.few)

pub loop-i-preserved : goal.loop-i-preserved
loop-i-preserved c =
    let i = c.loop-i.i in
    let x = c.loop-i.x in
    let place : Place = record { number = i + 1; start = x } in
    let adds = c.may_add.ensures ∙ ap may_add c.in_ok-cmd.ensures in
    let added = subst (λ (b : Bool). IsAdded place b c.loop-i.held c.add.new.self) adds c.in_ok-add.ensures in
    making_more c.args.seed c.args.client c.args.lines c.loop-i.held c.add.new.self i x c.next_number-a.result c.next_number-k.result c.next_number-v.result
    place c.loop-i.invariant (search rules) refl refl c.next_number-a.ensures c.next_number-k.ensures c.next_number-v.ensures added

pub of-requires : goal.of-requires
of-requires c = (c.loop-i.invariant.made, c.loop-i.invariant.keeps)

pub returns : goal.returns
returns c =
    ap numbered (c.of.ensures c.loop-i.invariant.made c.loop-i.invariant.keeps)
    ∙ made_all c.args.seed c.args.client c.args.lines c.loop-i.held c.loop-i.i c.loop-i.x c.loop-i.invariant (omega (arith, c.loop-i-test.false))
