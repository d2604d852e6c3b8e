use Rattle.std.proofs.Common.{◌≡◌, ℕ, List, get_or, refl, sym, ◌∙◌, subst, inl}
use Rattle.ca_node.specs.Links.{IsIn}
use Rattle.ca_node.specs.Row.{mark}
use Rattle.ca_node.specs.Told.{MyTree}
use Rattle.ca_node.specs.declared.cursor.Cursor.{Cursor}
use Rattle.ca_join_tests.specs.Stopping.{IsBelow}
use Rattle.ca_join_tests.proofs.Stale.{is_below}
use Rattle.ca_join_tests.proofs.below.go.Goals as goal

pub load_word-kind-requires-clause-shown : goal.load_word-kind-requires-clause-shown
load_word-kind-requires-clause-shown c = let w = c.walk-cursor.ensures.walked in
    let shown : IsIn w.note c.walk-cursor.new.pass.seat.me.0.upper.notes = subst (λ (x : MyTree). IsIn w.note x.0.upper.notes) (sym w.now) (0, refl) in
    (get_or w.note.its 2 0, (w.note.its, inl (w.note, shown, inl (w.cursor_is.base, refl)), refl))

pub returns : goal.returns
returns c = record {
  below = λ x e. let space = c.args.space.now in let p = c.args.pass.now in let w = c.walk-cursor.ensures.walked in
      let shown : IsIn w.note c.walk-cursor.new.pass.seat.me.0.upper.notes = subst (λ (y : MyTree). IsIn w.note y.0.upper.notes) (sym w.now) (0, refl) in
      let kind = c.load_word-kind.ensures.word (get_or w.note.its 2 0) (w.note.its, inl (w.note, shown, inl (w.cursor_is.base, refl)), refl) in
      let none : mark w.note.its ≡ 0 = sym kind ∙ c.if-kind-ne0.false in let same : c.walk-cursor.result ≡ x = cc in
      subst (λ (y : List ℕ × Cursor). IsBelow space c.load_word-kind.new.pass y.0 y.1) (λ i. (c.key_code.ensures i, same i))
      (is_below space p c.walk-cursor.new.pass c.load_word-kind.new.pass _ c.walk-cursor.result c.requires.ready c.requires.quiet c.requires.leaf
      c.walk-cursor.ensures.frame w c.load_word-kind.ensures.frame none);
}
