use Rattle.std.proofs.Common.{◌%◌, ℕ, get_or, ap, sym, ◌∙◌, subst, arith}
use Rattle.ca_base.specs.Finding.{IsBaseShown}
use Rattle.ca_base.specs.Writing.{IsHeld, IsRewritten}
use Rattle.ca_base.proofs.Filling.{rewritten_again}
use Rattle.ca_node.specs.Told.{MyTree}
use Rattle.ca_node.specs.TreeView.{TreeView}
use Rattle.ca_node.specs.Layout.{count_limit}
use Rattle.ca_base.proofs.ShownWords.{base_word, some_word}
use Rattle.ca_base.proofs.CopyWords.{spells_copy}
use Rattle.ca_base.proofs.copies.write_copy.Goals as goal

pub load_word-form-requires-clause-shown : goal.load_word-form-requires-clause-shown
load_word-form-requires-clause-shown c = some_word c.args.space.now.table.shared.key c.args.pass.now.seat.me.0.upper c.args.base 0 c.requires.shown

pub write_words-requires-clause-row : goal.write_words-requires-clause-row
write_words-requires-clause-row c = record {
  own = (
    c.load_word-form.ensures.frame.same.0 ∙ c.requires.row.reading.own.0,
    ap (λ (m : MyTree). m.0.sizes) c.load_word-form.ensures.frame.still
        ∙ c.requires.row.reading.own.1,
  );
  held = (c.requires.row.held.0, subst (λ (m : MyTree). IsHeld m c.args.row) (sym c.load_word-form.ensures.frame.still) c.requires.row.held.1);
}

pub copy_words-requires-clause-few : goal.copy_words-requires-clause-few
copy_words-requires-clause-few c = let s = c.requires.shown in let few = s.1.is_base.few in let leaf = c.requires.leaf in
    let word = c.load_word-form.ensures.word (get_or s.0.its 0 0)
    (base_word c.args.space.now.table.shared.key c.args.pass.now.seat.me.0.upper c.args.base 0 s.0 s.1) in
    let many = ap (λ (n : ℕ). n % count_limit) word in omega arith

pub returns-clause-written : goal.returns-clause-written
returns-clause-written c note s = let z = c.args.space.now.table.shared.key in let m = c.args.pass.now.seat.me in
    let still = c.load_word-form.ensures.frame.still in let h = c.requires.row.held.1 in
    let word = c.load_word-form.ensures.word (get_or note.its 0 0) (base_word z m.0.upper c.args.base 0 note s) in
    let has = subst (λ (x : MyTree). IsHeld x c.args.row) (sym still) h in
    let f = c.write_words.ensures.filled has.0 has.1 has.2 in
    let upper = c.write_words.ensures.frame.same.4 ∙ ap (λ (x : MyTree). x.0.upper) still in
    let shown = subst (λ (u : TreeView). IsBaseShown z u c.args.base note) (sym upper) s in
    let g = c.copy_words.ensures.filled note shown f.0 (f.1.long ∙ has.1) f.2.here in (
      g.0,
      spells_copy z note c.args.words c.load_word-form.result has.0 f.0 g.0 c.requires.leaf s.is_base word has.1 f.1 g.1,
      subst (λ (x : MyTree). IsRewritten c.args.row g.0 x c.copy_words.new.pass.seat.me) still
          (rewritten_again c.args.row f.0 g.0 c.load_word-form.new.pass.seat.me c.write_words.new.pass.seat.me c.copy_words.new.pass.seat.me f.2 g.2),
    )
