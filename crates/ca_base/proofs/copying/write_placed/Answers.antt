use Rattle.std.proofs.Common.{◌≡◌, ℕ, suc, ◌+◌, List, ◌∷◌, ◌++◌, take, drop, set, sym, refl, ap, ◌∙◌, subst, arith, Result}
use Rattle.std.proofs.lemmas.List.{length-map, set_split}
use Rattle.ca_node.specs.Told.{MyTree}
use Rattle.ca_base.specs.Prefixes.{reheaded}
use Rattle.ca_base.specs.Putting.{IsPlaceFor, put_in, last_words}
use Rattle.ca_base.specs.Trimming.{shifted_words}
use Rattle.ca_base.specs.Writing.{HasWritten, SpellsBase}
use Rattle.ca_base.proofs.copying.write_placed.Goals as goal

pub returns-in-Ok-clause-written : goal.returns-in-Ok-clause-written
returns-in-Ok-clause-written c = let still = c.item_at-old.ensures.frame.still in
    let p = c.args.placed.now in let at = c.in-Ok.at in
    let xs = shifted_words p.trimmed.shift (last_words c.args.pass.now.seat.me.0.upper) in
    let same = ap (λ (m : MyTree). shifted_words p.trimmed.shift (last_words m.0.upper)) (sym still) in
    let low = subst
    (λ (q : Result ℕ ℕ). IsPlaceFor q c.args.target.now.many) c.in-Ok.is c.requires.place in
    let many = c.requires.shown.1.0 in
    let long = length-map (last_words c.args.pass.now.seat.me.0.upper)
    (reheaded p.trimmed.shift.lead p.trimmed.shift.bytes) in
    let next : at + 1 ≡ suc at = omega arith in
    let is : take at xs ++ p.word ∷ drop (at + 1) xs ≡ set xs at p.word =
    ap (λ n. take at xs ++ p.word ∷ drop n xs) next ∙ sym (set_split xs at p.word (omega arith)) in
    subst (λ (q : Result ℕ ℕ).
    HasWritten c.args.row (SpellsBase p.trimmed.prefix.now (put_in xs q p.word)
    c.args.target.now.cursor.level c.args.target.now.statistic) c.args.pass.now.seat.me
    c.write_around.new.pass.seat.me) (sym c.in-Ok.is)
    (subst (λ (ys : List ℕ).
    HasWritten c.args.row (SpellsBase p.trimmed.prefix.now ys c.args.target.now.cursor.level
    c.args.target.now.statistic) c.args.pass.now.seat.me c.write_around.new.pass.seat.me) is
    (subst (λ (m : MyTree).
    HasWritten c.args.row (SpellsBase p.trimmed.prefix.now
    (take at xs ++ p.word ∷ drop (at + 1) xs)
    c.args.target.now.cursor.level c.args.target.now.statistic) m c.write_around.new.pass.seat.me)
    still (c.write_around.ensures.written xs same)))

pub returns-in-Err-clause-written : goal.returns-in-Err-clause-written
returns-in-Err-clause-written c = let p = c.args.placed.now in
    subst (λ (q : Result ℕ ℕ).
    HasWritten c.args.row (SpellsBase p.trimmed.prefix.now
    (put_in (shifted_words p.trimmed.shift (last_words c.args.pass.now.seat.me.0.upper)) q p.word)
    c.args.target.now.cursor.level c.args.target.now.statistic) c.args.pass.now.seat.me
    c.write_around-in-Err.new.pass.seat.me) (sym c.in-Err.is)
    (c.write_around-in-Err.ensures.written
    (shifted_words p.trimmed.shift (last_words c.args.pass.now.seat.me.0.upper)) refl)
