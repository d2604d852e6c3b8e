use Rattle.std.proofs.Common.{refl, ◌∙◌, arith}
use Rattle.ca_node.specs.Layout.{prefix_word}
use Rattle.ca_base.specs.Writing.{HasEight}
use Rattle.ca_base.proofs.Filling.{begins, goes_on}
use Rattle.ca_base.proofs.Words.{eight_from}
use Rattle.ca_base.proofs.writing.write_prefix.Goals as goal

pub set_word-requires-clause-row : goal.set_word-requires-clause-row
set_word-requires-clause-row c = record {
  own = c.loop-place.invariant.0.of;
  held = (c.requires.row.held.0, c.loop-place.invariant.0.held);
}

pub loop-place-init : goal.loop-place-init
loop-place-init c = (
  begins _ _ c.args.row prefix_word (HasEight c.args.prefix.now) c.args.pass.now.seat
      c.requires.row.own c.requires.row.held.1,
  refl,
  refl,
  refl,
)

pub loop-place-preserved : goal.loop-place-preserved
loop-place-preserved c = let i = c.loop-place.invariant in (
  goes_on _ _ c.args.row prefix_word (HasEight c.args.prefix.now) c.args.pass.now.seat
      c.loop-place.pass.seat c.set_word.new.pass.seat c.loop-place.place
      _ _ (omega arith) (omega arith)
      (eight_from c.args.prefix.now c.loop-place.place c.min-from.result _ c.min-from.ensures
      c.word_of.ensures) i.0
      c.set_word.ensures.frame.same c.set_word.ensures.set,
  c.set_word.ensures.frame.number ∙ i.1,
  c.set_word.ensures.frame.kept ∙ i.2,
  c.set_word.ensures.frame.tally ∙ i.3,
)
