use Rattle.std.proofs.Common.{◌≡◌, ◌+◌, get_or, ◌∙◌, arith}
use Rattle.ca_base.proofs.Items.{as_shown, base_shown, shows, word_shown}
use Rattle.ca_range.specs.Snapshots.{bases_of}
use Rattle.ca_replace.proofs.RunLines.{chained_left, has_row, readable_at, row_small}
use Rattle.ca_node.specs.TreeView.{Note, no_note}
use Rattle.ca_replace.proofs.running.left_row.Goals as goal

pub load_word-requires-clause-inside : goal.load_word-requires-clause-inside
load_word-requires-clause-inside c = let z = c.args.space.now.table.shared.key in (
  (has_row z c.args.pass.now.seat.me.0.upper c.args.bases c.requires.remembered c.args.at
      c.args.row c.requires.here).1,
  omega arith,
)

pub load_word-requires-clause-shown : goal.load_word-requires-clause-shown
load_word-requires-clause-shown c = let z = c.args.space.now.table.shared.key in
    let u = c.args.pass.now.seat.me.0.upper in
    word_shown u _ _ (base_shown z u c.args.row _
    (readable_at z u c.args.bases c.requires.remembered c.args.at c.args.row c.requires.here))

pub overflow_cast-result : goal.overflow_cast-result
overflow_cast-result c = let z = c.args.space.now.table.shared.key in
    let u = c.args.pass.now.seat.me.0.upper in
    let note : Note = get_or (bases_of c.args.bases u) c.args.at no_note in
    let r = readable_at z u c.args.bases c.requires.remembered c.args.at c.args.row
    c.requires.here in
    let word : c.load_word.result ≡ get_or note.its 5 0 = as_shown u _ _ _ c.load_word.ensures.word
    note.its (shows z u c.args.row note r) in
    let is = chained_left z u c.args.bases c.requires.remembered c.if-bases.true c.args.at
    c.requires.here.0 in
    let small = row_small z u c.args.bases c.requires.remembered (c.args.at + 1) in
    let few = c.args.space.now.few.1 in
    omega (arith, word, is, small, few)

pub returns-then-bases-clause-left : goal.returns-then-bases-clause-left
returns-then-bases-clause-left c = let z = c.args.space.now.table.shared.key in
    let u = c.args.pass.now.seat.me.0.upper in
    let note : Note = get_or (bases_of c.args.bases u) c.args.at no_note in
    let r = readable_at z u c.args.bases c.requires.remembered c.args.at c.args.row
    c.requires.here in
    as_shown u _ _ _ c.load_word.ensures.word note.its (shows z u c.args.row note r)
    ∙ chained_left z u c.args.bases c.requires.remembered c.if-bases.true c.args.at
    c.requires.here.0
