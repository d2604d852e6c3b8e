use Rattle.ca_base.proofs.Fronted.{base_there, length_few, length_is}
use Rattle.ca_base.proofs.Items.{word_shown, as_shown}
use Rattle.ca_base.proofs.prefixes.prefix_len.Goals as goal

pub load_word-requires-clause-shown : goal.load_word-requires-clause-shown
load_word-requires-clause-shown c =
    word_shown c.args.pass.now.seat.me.0.upper _ _
    (base_there _ _ _ c.requires.shown.0 c.requires.shown.1)

pub returns-clause-few : goal.returns-clause-few
returns-clause-few c = length_few _ _ _ c.requires.shown.0 c.requires.shown.1 c.load_word.result
    (as_shown c.args.pass.now.seat.me.0.upper _ _ _ c.load_word.ensures.word)

pub returns-clause-len : goal.returns-clause-len
returns-clause-len c note r = length_is _ _ _ note r c.load_word.result
    (as_shown c.args.pass.now.seat.me.0.upper _ _ _ c.load_word.ensures.word)
