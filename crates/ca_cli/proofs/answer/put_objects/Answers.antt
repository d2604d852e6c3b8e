use Rattle.std.proofs.Common.{◌<◌, ◌++◌, ℕ, append-nil, arith, sym, ap, subst, ◌∙◌}
use Rattle.std.proofs.lemmas.List.{take_all}
use Rattle.ca_term.specs.Tree.{Tree, Nil}
use Rattle.ca_text.proofs.Fronts.{flat_step}
use Rattle.ca_cmd.specs.Output.{object_line}
use Rattle.ca_cli.proofs.answer.put_objects.Goals as goal

pub object-requires : goal.object-requires
object-requires c = subst (λ (n : ℕ). c.loop-at.at < n) c.len-at-end.ensures c.loop-at-test.true

pub loop-at-init : goal.loop-at-init
loop-at-init c = sym (append-nil _)

pub loop-at-preserved : goal.loop-at-preserved
loop-at-preserved c =
    let within = subst (λ (n : ℕ). c.loop-at.at < n) c.len-at-end.ensures c.loop-at-test.true in
    flat_step object_line c.args.into.now.items c.loop-at.into.items c.show_object.new.into.items c.args.table.now c.loop-at.at Nil within
    c.loop-at.invariant (c.in_ok-show_object.ensures.ok ∙ ap (λ (t : Tree). c.loop-at.into.items ++ object_line t) c.in_ok-object.ensures)

pub returns : goal.returns
returns c =
    let end = c.loop-at-test.false in
    let len = c.len-at-end.ensures in
    rw (take_all c.loop-at.at c.args.table.now (omega (arith, end, len))) at c.loop-at.invariant
