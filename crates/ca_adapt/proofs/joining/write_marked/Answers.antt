use Rattle.std.proofs.Common.{◌∙◌, ap, get_or, sym, subst, arith}
use Rattle.ca_base.specs.Finding.{IsBaseShown}
use Rattle.ca_base.specs.Writing.{IsHeld, IsRewritten}
use Rattle.ca_base.proofs.ShownWords.{base_word, some_word}
use Rattle.ca_node.specs.Told.{MyTree}
use Rattle.ca_node.specs.TreeView.{Note}
use Rattle.ca_adapt.proofs.joining.write_marked.Goals as goal

pub load_word-statistic-requires-clause-shown : goal.load_word-statistic-requires-clause-shown
load_word-statistic-requires-clause-shown c =
    some_word c.args.space.now.table.shared.key c.args.pass.now.seat.me.0.upper c.args.base 1
    c.requires.shown

pub write_copy-requires-clause-row : goal.write_copy-requires-clause-row
write_copy-requires-clause-row c = let still = c.load_word-statistic.ensures.frame.still in record {
  reading = record {
    own = (
      c.load_word-statistic.ensures.frame.same.0 ∙ c.requires.row.reading.own.0,
      ap (λ (m : MyTree). m.0.sizes) still ∙ c.requires.row.reading.own.1,
    );
    pinned = ap (λ (m : MyTree). m.0.pin.pinned) still ∙ c.requires.row.reading.pinned;
  };
  held = (
    c.requires.row.held.0,
    subst (λ (m : MyTree). IsHeld m c.args.row) (sym still)
        c.requires.row.held.1,
  );
}

pub write_copy-requires-clause-shown : goal.write_copy-requires-clause-shown
write_copy-requires-clause-shown c =
    subst (λ (m : MyTree). (note : Note) × IsBaseShown c.args.space.now.table.shared.key m.0.upper
    c.args.base note)
    (sym c.load_word-statistic.ensures.frame.still) c.requires.shown

pub returns-clause-written : goal.returns-clause-written
returns-clause-written c note s = let still = c.load_word-statistic.ensures.frame.still in let z =
    c.args.space.now.table.shared.key in
    let w = c.write_copy.ensures.written note
    (subst (λ (m : MyTree). IsBaseShown z m.0.upper c.args.base note) (sym still) s) in
    let word = c.load_word-statistic.ensures.word (get_or note.its 1 0)
    (base_word z c.args.pass.now.seat.me.0.upper c.args.base 1 note s) in (
      w.0,
      record {
        long = w.1.long;
        is_base = w.1.is_base;
        level_is = w.1.level_is;
        count_is = w.1.count_is;
        items_are = w.1.items_are;
        headed = w.1.headed;
        statistic_is = w.1.words_are 0 (omega arith) ∙ word;
        marked = (
          w.1.words_are 1 (omega arith),
          w.1.words_are 2 (omega arith)
              ∙ c.from-route.ensures,
          w.1.words_are 3 (omega arith),
        );
      },
      subst (λ (m : MyTree). IsRewritten c.args.row w.0 m c.write_copy.new.pass.seat.me) still w.2,
    )
