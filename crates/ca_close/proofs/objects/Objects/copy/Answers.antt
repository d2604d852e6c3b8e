use Rattle.std.proofs.Common.{◌≡◌, length, sym, ◌∙◌, ap, arith}
use Rattle.std.proofs.lemmas.List.{length-map}
use Rattle.std.specs.Mem.Slots.{slots_items}
use mathlib.Core.Option.{some}
use Rattle.ca_base.proofs.Items.{at_place}
use Rattle.ca_model.specs.StoreMap.{StoreMap}
use Rattle.ca_node.specs.Row.{row_at, pair}
use Rattle.ca_close.proofs.objects.Objects.copy.Goals as goal

pub copy_row-requires : goal.copy_row-requires
copy_row-requires c = let words = slots_items c.self.inside.words.closed.words in let rows = c.self.inside.rows.items in
    let many : length c.args.self.now ≡ length rows = sym (ap (λ (m : StoreMap). length m) c.self.view_is) ∙ length-map rows (λ row. pair (row_at words row)) in
    let inside = c.requires in
    c.self.invariant c.index.result.now (c.args.at, at_place rows c.args.at c.index.result.now (omega arith) ∙ ap some (sym c.index.ensures))
