use Rattle.ca_base.proofs.Items.{word_shown, as_shown, base_shown, count_is}
use Rattle.ca_base.proofs.reading.count.Goals as goal

pub load_word-requires-clause-shown : goal.load_word-requires-clause-shown
load_word-requires-clause-shown c =
    word_shown c.args.pass.now.seat.me.0.upper _ _
    (base_shown _ _ _ c.requires.readable.0 c.requires.readable.1)

pub returns-clause-few : goal.returns-clause-few
returns-clause-few c =
    (count_is _ _ _ c.requires.readable.0 c.requires.readable.1 c.load_word.result
    (as_shown c.args.pass.now.seat.me.0.upper _ _ _ c.load_word.ensures.word)).1

pub returns-clause-count : goal.returns-clause-count
returns-clause-count c note r =
    (count_is _ _ _ note r c.load_word.result
    (as_shown c.args.pass.now.seat.me.0.upper _ _ _ c.load_word.ensures.word)).0
