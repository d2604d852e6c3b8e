use Rattle.std.proofs.Common.{ℕ, ◌<◌, List, length, get_or, arith, ◌∙◌}
use Rattle.ca_term.specs.Tree.{Tree, Nil, row_of}
use Rattle.ca_term.specs.Code.{row_code}
use Rattle.ca_order.specs.Patches.{HasItems}
use Rattle.ca_order.proofs.Items.{IsElementAt, few_items, not_empty, inside, size_there, next_there, element_at}
use Rattle.ca_order.proofs.ReadNumbers.{numbers_few, numbers_more, numbers_all}
use Rattle.ca_order.proofs.counter.numbers_of.Goals as goal

pub split_at-requires : goal.split_at-requires
split_at-requires c = not_empty c.requires.0 c.args.code.now c.requires.1

pub split_size-size-requires : goal.split_size-size-requires
split_size-size-requires c = size_there c.requires.0 c.args.code.now c.requires.1 c.split_at.result.1.now c.split_at.ensures.back

pub loop-init : goal.loop-init
loop-init c = record {
  size = λ items h. (c.split_size-size.ensures.size (length items) (row_code (row_of items)) (few_items items c.args.code.now h)
      (c.split_at.ensures.back ∙ inside items c.args.code.now h)).0;
  numbers = λ items h. c.new-numbers.ensures;
  rest = λ items h. (c.split_size-size.ensures.size (length items) (row_code (row_of items)) (few_items items c.args.code.now h)
      (c.split_at.ensures.back ∙ inside items c.args.code.now h)).1;
}

pub split_element-requires : goal.split_element-requires
split_element-requires c =
    let items = c.requires.0 in
    let h = c.requires.1 in
    next_there items c.args.code.now h c.loop.counter c.loop.rest.now (omega (arith, c.loop.invariant.size items h)) (c.loop.invariant.rest items h)

pub integer_in-requires : goal.integer_in-requires
integer_in-requires c =
    let items = c.requires.0 in
    let h = c.requires.1 in
    let at = element_at items c.args.code.now h c.loop.counter c.loop.rest.now c.split_element.result.0.now c.split_element.result.1.now
    (omega (arith, c.loop.invariant.size items h)) (c.loop.invariant.rest items h) c.split_element.ensures in
    (get_or items c.loop.counter Nil, at.narrow, at.code_is)

pub push-requires : goal.push-requires
push-requires c =
    let items = c.requires.0 in
    let h = c.requires.1 in (
      omega arith,
      numbers_few items c.args.code.now h c.loop.counter c.loop.numbers.items (omega (arith, c.loop.invariant.size items h))
          (c.loop.invariant.numbers items h),
    )

pub loop-preserved : goal.loop-preserved
loop-preserved c =
    let i : ℕ = c.loop.counter in
    let at : (items : List Tree) → HasItems items c.args.code.now → (i < length items) × IsElementAt items i c.loop.rest.now c.split_element.result.0.now
    c.split_element.result.1.now = λ items h.
    let l : i < length items = omega (arith, c.loop.invariant.size items h) in (
      l,
      element_at items c.args.code.now h i c.loop.rest.now c.split_element.result.0.now c.split_element.result.1.now l (c.loop.invariant.rest items h)
          c.split_element.ensures,
    ) in
    record {
      size = c.loop.invariant.size;
      numbers = λ items h.
          let e = at items h in
          numbers_more items i c.loop.numbers.items c.push.new.self.items c.integer_in.result e.0 (c.loop.invariant.numbers items h)
          (c.integer_in.ensures (get_or items i Nil) e.1.narrow e.1.code_is) c.push.ensures.items;
      rest = λ items h. (at items h).1.behind_is;
    }

pub returns : goal.returns
returns c = λ items h.
    numbers_all items c.loop.counter c.loop.numbers.items (omega (arith, c.loop.invariant.size items h)) (c.loop.invariant.numbers items h)
