use Rattle.std.proofs.Common.{◌≡◌, ◌+◌, ◌<◌, ℕ, drop, get_or, length, sym, refl, ap, subst, ◌∙◌, arith, length-take}
use Rattle.std.proofs.lemmas.List.{get_or-map, get_or-take, get_or-drop}
use Rattle.ca_node.specs.Layout.{items_word}
use Rattle.ca_node.specs.Row.{count, item_words}
use Rattle.ca_node.specs.Told.{MyTree, IsShownWord}
use Rattle.ca_node.specs.TreeView.{TreeView}
use Rattle.ca_base.specs.Finding.{IsBaseShown}
use Rattle.ca_base.specs.Prefixes.{reheaded}
use Rattle.ca_base.specs.Trimming.{shifted_words}
use Rattle.ca_base.specs.Writing.{IsHeld}
use Rattle.ca_base.proofs.Filling.{begins, goes_on_behind}
use Rattle.ca_base.proofs.ShownWords.{base_word, some_word}
use Rattle.ca_rows.specs.declared.view.Pin.{Pin}
use Rattle.ca_base.proofs.copying.copy_items.Goals as goal

pub loop-place-init : goal.loop-place-init
loop-place-init c = record {
  number = refl;
  kept = refl;
  tally = refl;
  filled = λ note s. begins _ _ c.args.row (items_word + c.args.to)
      (λ k word. word ≡ get_or (shifted_words c.args.shift (item_words note.its)) (c.args.run.from + k) 0) c.args.pass.now.seat
      c.requires.row.reading.own c.requires.row.held.1;
}

pub load_word-word-requires-clause-reading : goal.load_word-word-requires-clause-reading
load_word-word-requires-clause-reading c = let s = c.requires.shown in let f = c.loop-place.invariant.filled s.0 s.1 in record {
  own = f.of;
  pinned = ap (λ (p : Pin). p.pinned) f.still.3 ∙ c.requires.row.reading.pinned;
}

pub load_word-word-requires-clause-inside : goal.load_word-word-requires-clause-inside
load_word-word-requires-clause-inside c = let s = c.requires.shown in let here = s.1.0.here in let high = s.1.0.is_base.in_range in
    (omega arith, omega arith)

pub load_word-word-requires-clause-shown : goal.load_word-word-requires-clause-shown
load_word-word-requires-clause-shown c = let s = c.requires.shown in let f = c.loop-place.invariant.filled s.0 s.1 in
    subst (λ (u : TreeView). (word : ℕ) × IsShownWord u c.args.run.base (items_word + c.args.run.from + c.loop-place.place) word) (sym f.still.4)
    (some_word c.args.space.now.table.shared.key c.args.pass.now.seat.me.0.upper c.args.run.base (items_word + c.args.run.from + c.loop-place.place)
    (s.0, s.1.0))

pub set_word-requires-clause-row : goal.set_word-requires-clause-row
set_word-requires-clause-row c = let s = c.requires.shown in let f = c.loop-place.invariant.filled s.0 s.1 in record {
  own = (c.load_word-word.ensures.frame.same.0 ∙ f.of.0, ap (λ (m : MyTree). m.0.sizes) c.load_word-word.ensures.frame.still ∙ f.of.1);
  held = (c.requires.row.held.0, subst (λ (m : MyTree). IsHeld m c.args.row) (sym c.load_word-word.ensures.frame.still) f.held);
}

pub loop-place-preserved : goal.loop-place-preserved
loop-place-preserved c = let i = c.loop-place.invariant in let at : ℕ = c.args.run.from + c.loop-place.place in record {
  number = c.set_word.ensures.frame.number ∙ (c.load_word-word.ensures.frame.number ∙ i.number);
  kept = c.set_word.ensures.frame.kept ∙ (c.load_word-word.ensures.frame.kept ∙ i.kept);
  tally = c.set_word.ensures.frame.tally ∙ (c.load_word-word.ensures.frame.tally ∙ i.tally);
  filled = λ note s. let f = i.filled note s in let z = c.args.space.now.table.shared.key in
      let shown = subst (λ (u : TreeView). IsBaseShown z u c.args.run.base note) (sym f.still.4) s.0 in
      let loaded = c.load_word-word.ensures.word (get_or note.its (items_word + c.args.run.from + c.loop-place.place) 0)
      (base_word z c.loop-place.pass.seat.me.0.upper c.args.run.base (items_word + c.args.run.from + c.loop-place.place) note shown) in
      let there : items_word + c.args.run.from + c.loop-place.place ≡ items_word + at = omega arith in
      let inside : at < length (item_words note.its) = let l = s.1 in omega arith in
      let counted : at < count note.its = omega (arith, length-take (count note.its) (drop items_word note.its)) in
      let word : c.load_word-word.result ≡ get_or (item_words note.its) at 0 = loaded ∙ (ap (λ (k : ℕ). get_or note.its k 0) there
      ∙ sym (get_or-take (count note.its) (drop items_word note.its) at 0 counted ∙ get_or-drop items_word note.its at 0)) in
      let head = reheaded c.args.shift.lead c.args.shift.bytes in
      goes_on_behind _ _ c.args.row (items_word + c.args.to)
      (λ k word. word ≡ get_or (shifted_words c.args.shift (item_words note.its)) (c.args.run.from + k) 0) c.args.pass.now.seat
      c.loop-place.pass.seat c.load_word-word.new.pass.seat c.set_word.new.pass.seat c.loop-place.place _ _ (omega arith) (omega arith)
      (c.shifted.ensures ∙ (ap head word ∙ sym (get_or-map head (item_words note.its) at 0 0 inside))) f c.load_word-word.ensures.frame.same
      c.load_word-word.ensures.frame.still c.set_word.ensures.frame.same c.set_word.ensures.set;
}
