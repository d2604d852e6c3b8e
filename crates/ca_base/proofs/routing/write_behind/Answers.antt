use Rattle.std.proofs.Common.{◌≡◌, ℕ, ◌+◌, [], get_or, sym, subst, ◌∙◌, arith}
use Rattle.ca_node.specs.Layout.{items_word}
use Rattle.ca_node.specs.Row.{items}
use Rattle.ca_node.specs.Told.{MyTree}
use Rattle.ca_node.specs.TreeView.{TreeView}
use Rattle.ca_base.specs.Finding.{IsObjectShown, IsReadable}
use Rattle.ca_base.specs.Prefixes.{worded}
use Rattle.ca_base.specs.Putting.{first_note, last_items}
use Rattle.ca_base.proofs.Filling.{goes_on_behind}
use Rattle.ca_base.proofs.HalfFronts.{word_there}
use Rattle.ca_base.proofs.routing.write_behind.Goals as goal

pub loop-place-preserved : goal.loop-place-preserved
loop-place-preserved c = let i = c.loop-place.invariant in
    let u = c.args.pass.now.seat.me.0.upper in let note = first_note u.notes in
    let z = c.args.space.now.table.shared.key in let run = c.args.run in
    let k : ℕ = run.from + c.loop-place.place in
    let one = c.item-object.ensures.frame in let two = c.word_behind-word.ensures.frame in
    let r = subst (λ (v : TreeView). IsReadable z v run.base note) (sym i.0.still.4) c.requires.readable in
    let there = c.item-object.ensures.item note r (omega arith) in
    let object = c.word_behind-word.ensures.word (get_or note.objects k [])
    (subst (λ (m : MyTree). IsObjectShown m.0.upper c.item-object.result (get_or note.objects k []))
    (sym one.still) there.1) in
    let word : c.word_behind-word.result ≡ get_or (worded c.args.skip (items note.its) note.objects) k 0 =
    word_there c.args.skip (items note.its) note.objects k c.item-object.result
    c.word_behind-word.result c.requires.readable.is_base.as_many there.0 object in (
      goes_on_behind _ _ c.args.row items_word
          (λ k word. word ≡ get_or (worded c.args.skip (last_items u) note.objects) (run.from + k) 0)
          c.args.pass.now.seat c.loop-place.pass.seat c.word_behind-word.new.pass.seat
          c.set_word.new.pass.seat c.loop-place.place _ _ (omega arith) (omega arith) word i.0
          (two.same.0 ∙ one.same.0, two.same.1 ∙ one.same.1) (two.still ∙ one.still)
          c.set_word.ensures.frame.same c.set_word.ensures.set,
      c.set_word.ensures.frame.number ∙ (two.number ∙ (one.number ∙ i.1)),
      c.set_word.ensures.frame.kept ∙ (two.kept ∙ (one.kept ∙ i.2)),
      c.set_word.ensures.frame.tally ∙ (two.tally ∙ (one.tally ∙ i.3)),
    )
