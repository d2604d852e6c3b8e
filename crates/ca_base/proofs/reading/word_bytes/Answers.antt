use Rattle.std.proofs.Common.{ap, sym, ◌∙◌, arith}
use Rattle.std.specs.Int.{to_be_bytes, w64}
use Rattle.ca_base.proofs.Items.{word_shown, as_shown}
use Rattle.ca_base.proofs.ObjectBytes.{code_at}
use Rattle.ca_base.proofs.reading.word_bytes.Goals as goal

pub load_word-word-requires-clause-shown : goal.load_word-word-requires-clause-shown
load_word-word-requires-clause-shown c =
    word_shown c.args.pass.now.seat.me.0.upper _ _ (c.requires.shown.0, c.requires.shown.1.shown)

pub returns-clause-bytes : goal.returns-clause-bytes
returns-clause-bytes c its shown = c.to_be_bytes.ensures ∙ ap (to_be_bytes w64)
    (as_shown c.args.pass.now.seat.me.0.upper _ _ _ c.load_word-word.ensures.word its shown.shown ∙ sym (code_at its c.args.at (omega arith)))
