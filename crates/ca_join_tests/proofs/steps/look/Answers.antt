use Rattle.std.proofs.Common.{◌≡◌, [], get_or, refl, sym, ◌∙◌, subst, inl}
use Rattle.ca_node.specs.Links.{IsIn}
use Rattle.ca_node.specs.Row.{mark}
use Rattle.ca_node.specs.Told.{MyTree}
use Rattle.ca_node.specs.declared.cursor.Cursor.{Cursor}
use Rattle.ca_replace.proofs.Between.{may_first}
use Rattle.ca_join_tests.specs.Stopping.{HasLooked}
use Rattle.ca_join_tests.proofs.Looked.{walked_looked}
use Rattle.ca_join_tests.proofs.steps.look.Goals as goal

pub load_word-kind-requires-clause-shown : goal.load_word-kind-requires-clause-shown
load_word-kind-requires-clause-shown c = let w = c.walk-cursor.ensures.walked in
    let shown : IsIn w.note c.walk-cursor.new.pass.seat.me.0.upper.notes = subst (λ (x : MyTree). IsIn w.note x.0.upper.notes) (sym w.now) (0, refl) in
    (get_or w.note.its 2 0, (w.note.its, inl (w.note, shown, inl (w.cursor_is.base, refl)), refl))

pub returns : goal.returns
returns c = record {
  looked = λ x e. let space = c.args.space.now in let p = c.pin.new.pass in let f = c.pin.ensures.frame in let by = c.pin.ensures.pinned in
      let w = c.walk-cursor.ensures.walked in
      let shown : IsIn w.note c.walk-cursor.new.pass.seat.me.0.upper.notes = subst (λ (y : MyTree). IsIn w.note y.0.upper.notes) (sym w.now) (0, refl) in
      let kind = c.load_word-kind.ensures.word (get_or w.note.its 2 0) (w.note.its, inl (w.note, shown, inl (w.cursor_is.base, refl)), refl) in
      let none : mark w.note.its ≡ 0 = sym kind ∙ c.if-kind-ne0.false in let same : c.walk-cursor.result ≡ x = cc in
      subst (λ (y : Cursor). HasLooked space c.load_word-kind.new.pass y) same
      (walked_looked space p c.walk-cursor.new.pass c.load_word-kind.new.pass _ c.walk-cursor.result
      (may_first space c.args.pass.now p [] by.0 by.1 c.requires.rests f.same f.number f.kept f.tally by.3)
      c.walk-cursor.ensures.frame w c.load_word-kind.ensures.frame none);
}
