use Rattle.std.proofs.Common.{refl, get_or, inl, subst, sym}
use Rattle.ca_node.specs.Links.{IsIn}
use Rattle.ca_node.specs.Told.{MyTree}
use Rattle.ca_tree_tests.proofs.marked.word_at.Goals as goal

pub load_word-word-requires-clause-shown : goal.load_word-word-requires-clause-shown
load_word-word-requires-clause-shown c = let w = c.walk-cursor.ensures.walked in
    let shown : IsIn w.note c.walk-cursor.new.pass.seat.me.0.upper.notes = subst (λ (x : MyTree). IsIn w.note x.0.upper.notes) (sym w.now) (0, refl) in
    (get_or w.note.its c.args.index 0, (w.note.its, inl (w.note, shown, inl (w.cursor_is.base, refl)), refl))
