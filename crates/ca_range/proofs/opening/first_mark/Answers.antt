use Rattle.std.proofs.Common.{ℕ, ℤ, get_or, subst, w32}
use Rattle.std.proofs.lemmas.Int.{to_z-of_z}
use Rattle.ca_adapt.specs.Statistics.{IsKept, IsStatisticOf, IsWordOf}
use Rattle.ca_range.proofs.Basing.{base_word, some_word}
use Rattle.ca_range.proofs.opening.first_mark.Goals as goal

pub load_word-requires-clause-shown : goal.load_word-requires-clause-shown
load_word-requires-clause-shown c = some_word c.args.space.now.table.shared.key c.args.pass.now.seat.me.0.upper c.args.base 1 c.requires.shown

pub returns-clause-statistic : goal.returns-clause-statistic
returns-clause-statistic c note s = let old = c.statistic_of-old.result in let kept = c.kept.result in
    let word = c.load_word.ensures.word (get_or note.its 1 0)
    (base_word c.args.space.now.table.shared.key c.args.pass.now.seat.me.0.upper c.args.base 1 note s) in (
      old,
      kept,
      subst (λ (n : ℕ). IsStatisticOf n old) word c.statistic_of-old.ensures,
      subst (λ (x : ℤ). IsKept c.args.tuning.now x kept) (to_z-of_z w32 old record { sfits = c.statistic_of-old.type_inv }) c.kept.ensures.kept,
      subst (λ (x : ℤ). IsWordOf x c.word_of-statistic.result) (to_z-of_z w32 kept record { sfits = c.kept.type_inv }) c.word_of-statistic.ensures,
    )
