use Rattle.std.proofs.Common.{ℕ, ℤ, get_or, sym, subst, w32}
use Rattle.std.proofs.lemmas.Int.{to_z-of_z}
use Rattle.ca_adapt.specs.Statistics.{IsPast, IsStatisticOf, IsWordOf}
use Rattle.ca_node.specs.Told.{MyTree, IsShownWord}
use Rattle.ca_range.proofs.Basing.{base_word, some_word}
use Rattle.ca_range.proofs.helping.mark_for.Goals as goal

pub load_word-requires-clause-shown : goal.load_word-requires-clause-shown
load_word-requires-clause-shown c = subst (λ (m : MyTree). (word : ℕ) × IsShownWord m.0.upper c.args.next 1 word) (sym c.bound_of-bound.ensures.frame.still)
    (some_word c.args.space.now.table.shared.key c.args.pass.now.seat.me.0.upper c.args.next 1 c.requires.shown)

pub returns-clause-statistic : goal.returns-clause-statistic
returns-clause-statistic c note s = let old = c.statistic_of-old.result in let past = c.statistic_past.result in
    let word = c.load_word.ensures.word (get_or note.its 1 0)
    (subst (λ (m : MyTree). IsShownWord m.0.upper c.args.next 1 (get_or note.its 1 0)) (sym c.bound_of-bound.ensures.frame.still)
    (base_word c.args.space.now.table.shared.key c.args.pass.now.seat.me.0.upper c.args.next 1 note s)) in (
      old,
      past,
      subst (λ (n : ℕ). IsStatisticOf n old) word c.statistic_of-old.ensures,
      subst (λ (x : ℤ). IsPast c.args.tuning.now x past) (to_z-of_z w32 old record { sfits = c.statistic_of-old.type_inv }) c.statistic_past.ensures,
      subst (λ (x : ℤ). IsWordOf x c.word_of-statistic.result) (to_z-of_z w32 past record { sfits = c.statistic_past.type_inv }) c.word_of-statistic.ensures,
    )
