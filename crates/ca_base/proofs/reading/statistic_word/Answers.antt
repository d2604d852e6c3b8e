use Rattle.ca_base.proofs.Items.{word_shown, as_shown, base_shown, shows}
use Rattle.ca_base.proofs.reading.statistic_word.Goals as goal

pub load_word-requires-clause-shown : goal.load_word-requires-clause-shown
load_word-requires-clause-shown c =
    word_shown c.args.pass.now.seat.me.0.upper _ _
    (base_shown _ _ _ c.requires.readable.0 c.requires.readable.1)

pub returns-clause-word : goal.returns-clause-word
returns-clause-word c note r =
    as_shown c.args.pass.now.seat.me.0.upper _ _ _ c.load_word.ensures.word note.its
    (shows _ _ _ note r)
