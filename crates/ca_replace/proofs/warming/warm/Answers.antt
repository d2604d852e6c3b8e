use Rattle.std.proofs.Common.{◌<◌, ℕ, List, [], length, get_or, sym, subst, arith}
use Rattle.ca_base.proofs.Items.{word_shown}
use Rattle.ca_base.specs.Finding.{IsReadable, IsRowShown}
use Rattle.ca_base.specs.Objects.{reads_on}
use Rattle.ca_node.specs.Told.{MyTree}
use Rattle.ca_node.specs.TreeView.{Note, no_note}
use Rattle.ca_range.specs.Snapshots.{bases_of}
use Rattle.ca_replace.proofs.RunLines.{readable_at}
use Rattle.ca_replace.proofs.warming.warm.Goals as goal

-- the base that is read, as it was shown
pub count-requires-clause-readable : goal.count-requires-clause-readable
count-requires-clause-readable c = let u = c.args.pass.now.seat.me.0.upper in
    let run = c.args.run.now in let o = c.requires.opened in (
      get_or (bases_of run.bases u) run.at no_note,
      readable_at c.args.space.now.table.shared.key u run.bases o.remembered run.at run.base o.here,
    )

pub loop-place-init : goal.loop-place-init
loop-place-init c = record {
  frame = c.count.ensures.frame;
}

pub item-row-requires-clause-readable : goal.item-row-requires-clause-readable
item-row-requires-clause-readable c = let z = c.args.space.now.table.shared.key in
    let u = c.args.pass.now.seat.me.0.upper in
    let run = c.args.run.now in let o = c.requires.opened in
    let note : Note = get_or (bases_of run.bases u) run.at no_note in
    let r = readable_at z u run.bases o.remembered run.at run.base o.here in
    let many = c.count.ensures.count note r in let before = c.loop-place-test.true in (
      note,
      subst (λ (m : MyTree). IsReadable z m.0.upper run.base note)
          (sym c.loop-place.invariant.frame.still) r,
      omega arith,
    )

pub load_word-word-requires-clause-shown : goal.load_word-word-requires-clause-shown
load_word-word-requires-clause-shown c = let z = c.args.space.now.table.shared.key in
    let u = c.args.pass.now.seat.me.0.upper in
    let run = c.args.run.now in let o = c.requires.opened in
    let note : Note = get_or (bases_of run.bases u) run.at no_note in
    let r = readable_at z u run.bases o.remembered run.at run.base o.here in
    let many = c.count.ensures.count note r in let before = c.loop-place-test.true in
    let place : ℕ = c.loop-place.place in let its : List ℕ = get_or note.objects place [] in
    let l : place < length note.objects = omega arith in
    let now = subst (λ (m : MyTree). IsReadable z m.0.upper run.base note)
    (sym c.loop-place.invariant.frame.still) r in
    word_shown c.item-row.new.pass.seat.me.0.upper _ _ (
      its,
      subst (λ (m : MyTree). IsRowShown m.0.upper c.item-row.result its)
          (sym c.item-row.ensures.frame.still) (c.item-row.ensures.item note now l).1.shown,
    )

pub loop-place-preserved : goal.loop-place-preserved
loop-place-preserved c = record {
  frame = reads_on _ _ _ (reads_on _ _ _ c.loop-place.invariant.frame c.item-row.ensures.frame)
      c.load_word-word.ensures.frame;
}
