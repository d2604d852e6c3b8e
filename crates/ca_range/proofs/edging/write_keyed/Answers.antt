use Rattle.std.proofs.Common.{ℕ, refl, ◌∙◌, subst}
use Rattle.ca_base.specs.Writing.{HasWritten}
use Rattle.ca_range.specs.Edged.{SpellsKeyed}
use Rattle.ca_range.proofs.Bordered.{keyed_written}
use Rattle.ca_range.proofs.edging.write_keyed.Goals as goal

pub returns-clause-written : goal.returns-clause-written
returns-clause-written c = let key = c.args.key.now in let small = c.requires.end in let end = c.args.end in
    let first = c.args.pass.now.seat.me in let last = c.write_bytes.new.pass.seat.me in
    subst (λ (owner : ℕ). HasWritten c.args.row (SpellsKeyed owner end key) first last) (c.from-number.ensures ∙ c.number.ensures)
    (keyed_written c.args.row c.from-number.result end _ key first c.write_words.new.pass.seat.me last c.requires.row.held.1 small
    refl c.requires.short c.write_words.ensures.filled c.write_bytes.ensures.filled)
