use Rattle.std.proofs.Common.{◌≡◌, ◌+◌, ◌++◌, ℕ, List, length, sym, ap, ◌∙◌, subst, arith}
use Rattle.std.specs.Mem.Slots.{slots_items}
use Rattle.ca_node.specs.LastTree.{rows_under}
use Rattle.ca_node.specs.Layout.{root_word}
use Rattle.ca_close.specs.Listing.{AreInside}
use Rattle.ca_close.proofs.Room.{rooms, all_inside}
use Rattle.ca_close.proofs.objects.Objects.list.Goals as goal

pub gather-requires-clause-room : goal.gather-requires-clause-room
gather-requires-clause-room c = let words = slots_items c.args.words.closed.words in
    let same : rows_under (c.from.result + 1) words root_word ≡ rows_under (c.args.levels + 1) words root_word =
    ap (λ (n : ℕ). rows_under (n + 1) words root_word) c.from.ensures in
    let room = rooms words c.args.levels _ c.requires.tree in let none = ap length c.requires.empty in let as_many = ap length same in omega arith

pub invariant_of-result : goal.invariant_of-result
invariant_of-result c = let words = slots_items c.args.words.closed.words in
    let rows : c.gather.new.rows.items ≡ rows_under (c.args.levels + 1) words root_word =
    c.gather.ensures.rows ∙ (ap (λ (xs : List ℕ). xs ++ rows_under (c.from.result + 1) words root_word) c.requires.empty
    ∙ ap (λ (n : ℕ). rows_under (n + 1) words root_word) c.from.ensures) in
    subst (AreInside words) (sym rows) (all_inside words c.args.levels _ c.requires.tree)
