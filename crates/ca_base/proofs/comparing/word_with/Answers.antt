use Rattle.std.proofs.Common.{arith, ◌/◌, ◌∙◌, sym}
use Rattle.ca_base.proofs.Items.{word_shown, as_shown}
use Rattle.ca_base.proofs.comparing.word_with.Goals as goal
use Rattle.ca_base.proofs.ObjectBytes.{code_at}

pub load_word-requires-clause-shown : goal.load_word-requires-clause-shown
load_word-requires-clause-shown c = let shown = c.requires.object.shown in
    word_shown c.args.pass.now.seat.me.0.upper _ _ (shown.0, shown.1.shown)

pub returns-then-at-stop-clause-word : goal.returns-then-at-stop-clause-word
returns-then-at-stop-clause-word c its shown l =
    as_shown c.args.pass.now.seat.me.0.upper _ _ _ c.load_word.ensures.word its shown.shown
    ∙ sym (code_at its (c.args.at / 8) (omega arith))
