use Rattle.std.proofs.Common.{◌≡◌, ◌<◌, ◌+ℤ◌, ℕ, ℤ, take, arith, sym, ap, subst, ◌∙◌}
use Rattle.std.proofs.lemmas.Int.{ints, to_z-of_z}
use Rattle.std.proofs.lemmas.List.{take_all}
use Rattle.std.proofs.lemmas.List.Sums.{fold_more}
use Rattle.ca_term.specs.Tree.{Nil}
use Rattle.ca_cli.specs.Summary.{sum_of}
use Rattle.ca_cli.proofs.summary.sum.Goals as goal

pub object-requires : goal.object-requires
object-requires c = subst (λ (n : ℕ). c.loop-at.at < n) c.len-at-end.ensures c.loop-at-test.true

pub loop-at-preserved : goal.loop-at-preserved
loop-at-preserved c =
    let within = subst (λ (n : ℕ). c.loop-at.at < n) c.len-at-end.ensures c.loop-at-test.true in
    (grind (arith, ints, to_z-of_z, fold_more, within, c.in_ok-object.ensures), omega (arith, ints), omega (arith, ints))

pub returns : goal.returns
returns c =
    let end = c.loop-at-test.false in
    let len = c.len-at-end.ensures in
    rw (take_all c.loop-at.at c.args.table.now (omega (arith, end, len))) at c.loop-at.invariant.0
