use Rattle.std.proofs.Common.{◌≡◌, ◌+◌, get_or, refl, ◌∙◌, arith}
use Rattle.ca_base.proofs.Filling.{begins, goes_on}
use Rattle.ca_base.proofs.writing.write_items.Goals as goal
use Rattle.ca_node.specs.Layout.{items_word}

pub set_word-requires-clause-row : goal.set_word-requires-clause-row
set_word-requires-clause-row c = record {
  own = c.loop-place.invariant.0.of;
  held = (c.requires.row.held.0, c.loop-place.invariant.0.held);
}

pub loop-place-init : goal.loop-place-init
loop-place-init c = (
  begins _ _ c.args.row (items_word + c.args.at)
      (λ k word. word ≡ get_or c.args.words.now k 0) c.args.pass.now.seat c.requires.row.own
      c.requires.row.held.1,
  refl,
  refl,
  refl,
)

pub loop-place-preserved : goal.loop-place-preserved
loop-place-preserved c = let i = c.loop-place.invariant in (
  goes_on _ _ c.args.row (items_word + c.args.at)
      (λ k word. word ≡ get_or c.args.words.now k 0) c.args.pass.now.seat c.loop-place.pass.seat
      c.set_word.new.pass.seat c.loop-place.place _ _ (omega arith) (omega arith) refl i.0
      c.set_word.ensures.frame.same c.set_word.ensures.set,
  c.set_word.ensures.frame.number ∙ i.1,
  c.set_word.ensures.frame.kept ∙ i.2,
  c.set_word.ensures.frame.tally ∙ i.3,
)
