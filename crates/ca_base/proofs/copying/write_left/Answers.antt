use Rattle.std.proofs.Common.{◌≡◌, ℕ, suc, ◌+◌, List, ◌++◌, take, drop, sym, ap, ◌∙◌, subst, arith}
use Rattle.std.specs.List.{remove}
use Rattle.ca_node.specs.Told.{MyTree}
use Rattle.ca_base.specs.Putting.{last_words}
use Rattle.ca_base.specs.Writing.{HasWritten, SpellsBase}
use Rattle.ca_base.proofs.Behind.{none_shifted}
use Rattle.ca_base.proofs.copying.write_left.Goals as goal

pub returns-clause-written : goal.returns-clause-written
returns-clause-written c = let still = c.item_at-old.ensures.frame.still in let at = c.args.at in
    let xs : List ℕ = last_words c.args.pass.now.seat.me.0.upper in
    let same = ap (λ (m : MyTree). last_words m.0.upper) (sym still)
    ∙ sym (none_shifted (last_words c.item_at-old.new.pass.seat.me.0.upper)) in
    let next : at + 1 ≡ suc at = omega arith in
    let is : take at xs ++ drop (at + 1) xs ≡ remove xs at = ap (λ n. take at xs ++ drop n xs) next in
    subst (λ (ys : List ℕ).
    HasWritten c.args.row (SpellsBase c.args.prefix.now ys c.args.target.now.cursor.level
    c.args.target.now.statistic) c.args.pass.now.seat.me c.write_around.new.pass.seat.me) is
    (subst (λ (m : MyTree).
    HasWritten c.args.row (SpellsBase c.args.prefix.now (take at xs ++ drop (at + 1) xs)
    c.args.target.now.cursor.level c.args.target.now.statistic) m c.write_around.new.pass.seat.me)
    still (c.write_around.ensures.written xs same))
