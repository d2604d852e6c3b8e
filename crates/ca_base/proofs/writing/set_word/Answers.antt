use Rattle.std.proofs.Common.{◌≡◌, set, sym, ap, ◌∙◌, subst}
use Rattle.std.proofs.lemmas.List.{set-get_or}
use Rattle.ca_base.specs.Writing.{IsRewritten}
use Rattle.ca_rows.specs.Claims.{claim_of}
use Rattle.ca_base.proofs.Filling.{rewritten, kept_so}
use Rattle.ca_base.proofs.writing.set_word.Goals as goal

pub returns-then-read_word-value-clause-set : goal.returns-then-read_word-value-clause-set
returns-then-read_word-value-clause-set c its has = let still = c.read_word.ensures.frame.still in
    let has' = ap (λ x. claim_of x.0.claims c.args.row) still ∙ has in
    subst (λ x.
    IsRewritten c.args.row (set its c.args.index c.args.value) x c.write_word.new.pass.seat.me)
    still
    (rewritten c.args.row its (set its c.args.index c.args.value) c.read_word.new.pass.seat.me
    c.write_word.new.pass.seat.me has'
    (c.write_word.ensures.written its has'))

pub returns-else-read_word-value-clause-set : goal.returns-else-read_word-value-clause-set
returns-else-read_word-value-clause-set c its has = let same : set its c.args.index c.args.value
    ≡ its =
    ap (set its c.args.index) (sym c.if-read_word-value.false ∙ c.read_word.ensures.word its has)
    ∙ set-get_or its c.args.index 0 in
    subst (λ xs. IsRewritten c.args.row xs c.args.pass.now.seat.me c.read_word.new.pass.seat.me)
    (sym same)
    (kept_so c.args.row its c.args.pass.now.seat.me c.read_word.new.pass.seat.me has
    c.read_word.ensures.frame.still)
