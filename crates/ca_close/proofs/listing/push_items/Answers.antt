use Rattle.std.proofs.Common.{ℕ, List, ◌+◌, ◌*◌, ◌%◌, ◌++◌, ◌∷◌, [], length, take, ap, sym, ◌∙◌, arith, length-append, append_assoc}
use Rattle.std.proofs.lemmas.List.{take_more, take_all, length-take-le}
use Rattle.std.specs.Mem.Slots.{slots_items, slots_counts}
use Rattle.ca_node.specs.Layout.{items_word}
use Rattle.ca_node.specs.Row.{row_at, items}
use Rattle.ca_rows.specs.Layout.{row_words, row_limit}
use Rattle.ca_close.proofs.Reading.{many_are, item_is, items_many}
use Rattle.ca_close.proofs.listing.push_items.Goals as goal

pub at-word-requires : goal.at-word-requires
at-word-requires c = let words = c.args.words.now.closed.words in let long = (slots_counts words).0 in let few = c.requires.few in
    let whole = c.requires.inside.whole in let more = c.loop-place-test.true in
    let many = many_are (slots_items words) c.args.base c.at.result c.at.ensures in omega arith

pub push_reserved-requires : goal.push_reserved-requires
push_reserved-requires c = let words = slots_items c.args.words.now.closed.words in let few = c.requires.few in let room = c.requires.room in
    let more = c.loop-place-test.true in let inv = c.loop-place.invariant in
    let its = items (row_at words c.args.base) in
    let many = many_are words c.args.base c.at.result c.at.ensures in
    let all = (items_many words c.args.base c.requires.inside few).1 in
    let some = length-take-le c.loop-place.place its (omega arith) in
    let pushed = ap length inv.so_far ∙ length-append c.args.rows.now.items (take c.loop-place.place its) in
    let capacity = inv.room in omega arith

pub loop-place-preserved : goal.loop-place-preserved
loop-place-preserved c = let words = slots_items c.args.words.now.closed.words in let few = c.requires.few in
    let more = c.loop-place-test.true in let inv = c.loop-place.invariant in let place = c.loop-place.place in
    let its = items (row_at words c.args.base) in
    let many = many_are words c.args.base c.at.result c.at.ensures in
    let all = (items_many words c.args.base c.requires.inside few).1 in
    let item = item_is words c.args.base c.requires.inside place (row_words * c.args.base + items_word + place) c.at-word.result few (omega arith) (omega arith)
    c.at-word.ensures in
    record {
      so_far = c.push_reserved.ensures.items ∙ (ap (λ (xs : List ℕ). xs ++ c.at-word.result % row_limit ∷ []) inv.so_far
          ∙ (append_assoc c.args.rows.now.items (take place its) (c.at-word.result % row_limit ∷ [])
          ∙ (ap (λ (x : ℕ). c.args.rows.now.items ++ (take place its ++ x ∷ [])) (sym item)
          ∙ ap (λ (xs : List ℕ). c.args.rows.now.items ++ xs) (sym (take_more its place 0 (omega arith))))));
      room = c.push_reserved.ensures.capacity ∙ inv.room;
    }

pub returns-clause-rows : goal.returns-clause-rows
returns-clause-rows c = let words = slots_items c.args.words.now.closed.words in let few = c.requires.few in
    let over = c.loop-place-test.false in let inv = c.loop-place.invariant in let place = c.loop-place.place in
    let its = items (row_at words c.args.base) in
    let many = many_are words c.args.base c.at.result c.at.ensures in
    let all = (items_many words c.args.base c.requires.inside few).1 in
    inv.so_far ∙ ap (λ (xs : List ℕ). c.args.rows.now.items ++ xs) (take_all place its (omega arith))
