use Rattle.std.proofs.Common.{◌∙◌, arith}
use Rattle.ca_range.proofs.copying.write_copy.Goals as goal

pub returns-clause-written : goal.returns-clause-written
returns-clause-written c note s = let w = c.write_copy.ensures.written note s in (
  w.0,
  record {
    long = w.1.long;
    is_base = w.1.is_base;
    level_is = w.1.level_is;
    count_is = w.1.count_is;
    items_are = w.1.items_are;
    headed = w.1.headed;
    statistic_is = w.1.words_are 0 (omega arith);
    marked = (w.1.words_are 1 (omega arith), w.1.words_are 2 (omega arith) ∙ c.from-owner.ensures, w.1.words_are 3 (omega arith));
    back_is = w.1.words_are 4 (omega arith) ∙ c.from-back.ensures;
    bound_is = w.1.words_are 5 (omega arith) ∙ c.from-bound.ensures;
  },
  w.2,
)
