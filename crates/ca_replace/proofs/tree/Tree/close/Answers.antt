use Rattle.std.proofs.Common.{◌≡◌, ◌∙◌, ℕ, suc, map, sym, ap, subst}
use Rattle.std.specs.Mem.Slots.{slots_items}
use Rattle.ca_close.specs.Listing.{objects_of}
use Rattle.ca_node.specs.LastTree.{IsLastTree, rows_under}
use Rattle.ca_node.specs.Layout.{root_word}
use Rattle.ca_node.specs.TreePasses.{tree_of}
use Rattle.ca_replace.specs.Closing.{IsClosed}
use Rattle.ca_replace.specs.Past.{TreePast}
use Rattle.ca_rows.specs.declared.sizes.Sizes.{Sizes}
use Rattle.ca_replace.proofs.Pasts.{is_closed}
use Rattle.ca_replace.proofs.tree.Tree.close.Goals as goal

pub returns-clause-closed : goal.returns-clause-closed
returns-clause-closed c =
    let tree = c.args.self in
    let passes = c.args.passes.items in
    let words = slots_items c.close_words-words.result.closed.words in
    let parts = c.into_parts-space in
    let objects = c.list-objects.result in
    let made = subst (λ (n : ℕ). IsLastTree parts.result.0.table.shared.key n (map tree_of passes) words) (ap (λ s. s.made) parts.ensures.0)
    c.close_words-words.ensures.last in
    let last = subst (λ (z : Sizes). IsLastTree z tree.space.made (map tree_of passes) words)
    (ap (λ s. s.table.shared.key) parts.ensures.0 ∙ sym tree.space.same) made in
    let levels : parts.result.1.levels ≡ tree.space.sizes.levels = ap (λ t. t.levels) parts.ensures.1 ∙ sym tree.tuned.levels in
    let listed = c.list-objects.ensures ∙ ap (λ (n : ℕ). objects_of words (rows_under (suc n) words root_word)) levels in
    subst (λ (past : TreePast). IsClosed past objects) (sym c.of-past.ensures) (is_closed tree passes words objects last listed)
