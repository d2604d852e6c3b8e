use Rattle.ca_base.proofs.Items.{word_shown, as_shown, base_shown, head_is, item_is, item_inside, object_is}
use Rattle.ca_base.proofs.reading.item_word.Goals as goal

pub load_word-requires-clause-shown : goal.load_word-requires-clause-shown
load_word-requires-clause-shown c =
    word_shown c.args.pass.now.seat.me.0.upper _ _
    (base_shown _ _ _ c.requires.readable.0 c.requires.readable.1)

pub returns-clause-inside : goal.returns-clause-inside
returns-clause-inside c =
    item_inside _ _ _ c.requires.readable.0 c.requires.readable.1 c.args.place c.load_word.result
    (as_shown c.args.pass.now.seat.me.0.upper _ _ _ c.load_word.ensures.word) c.requires.readable.2

pub returns-clause-item : goal.returns-clause-item
returns-clause-item c note r l = let word = c.load_word.result in
    let is = as_shown c.args.pass.now.seat.me.0.upper _ _ _ c.load_word.ensures.word in
    (item_is _ _ _ note r c.args.place word is l, object_is _ _ _ note r c.args.place word is l)

pub returns-clause-head : goal.returns-clause-head
returns-clause-head c note r l =
    head_is _ _ _ note r c.args.place c.load_word.result
    (as_shown c.args.pass.now.seat.me.0.upper _ _ _ c.load_word.ensures.word) l
