use Rattle.std.proofs.Common.{arith}
use Rattle.ca_base.specs.Putting.{first_note}
use Rattle.ca_base.proofs.Items.{word_shown, as_shown}
use Rattle.ca_base.proofs.LastItems.{last_shown, last_inside, last_item}
use Rattle.ca_base.proofs.copying.item_at.Goals as goal

pub load_word-requires-clause-inside : goal.load_word-requires-clause-inside
load_word-requires-clause-inside c = (last_inside _ _ _ c.requires.shown, omega arith)

pub load_word-requires-clause-shown : goal.load_word-requires-clause-shown
load_word-requires-clause-shown c = word_shown c.args.pass.now.seat.me.0.upper _ _
    ((first_note c.args.pass.now.seat.me.0.upper.notes).its, last_shown _ _ _ c.requires.shown)

pub returns-clause-item : goal.returns-clause-item
returns-clause-item c = let u = c.args.pass.now.seat.me.0.upper in
    last_item _ u _ c.requires.shown c.args.at c.load_word.result
    (as_shown c.args.pass.now.seat.me.0.upper _ _ _ c.load_word.ensures.word
    (first_note u.notes).its (last_shown _ _ _ c.requires.shown)) c.requires.place.0
