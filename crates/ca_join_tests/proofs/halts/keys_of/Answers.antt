use Rattle.std.proofs.Common.{rules, ◌≡◌, ◌+◌, get_or, sym, subst, ◌∙◌, arith}
use Rattle.ca_base.specs.Finding.{IsReadable}
use Rattle.ca_node.specs.Told.{MyTree}
use Rattle.ca_node.specs.TreeView.{Note, no_note}
use Rattle.ca_range.specs.Snapshots.{IsRemembered, bases_of}
use Rattle.ca_replace.specs.Running.{IsBaseAt, row_in}
use Rattle.ca_replace.proofs.RunLines.{is_there, readable_at}
use Rattle.ca_join_tests.proofs.halts.keys_of.Goals as goal

pub keys_at-keys-requires-clause-readable : goal.keys_at-keys-requires-clause-readable
keys_at-keys-requires-clause-readable c = let z = c.args.space.now.table.shared.key in let m = c.args.pass.now.seat.me in
    let inv = c.loop-row.invariant in let at = c.loop-row.at in let row = c.loop-row.row in
    let note : Note = get_or (bases_of c.args.run m.0.upper) at no_note in
    let here = is_there z m.0.upper c.args.run c.requires.may.remembered at row inv.here (omega (arith, c.loop-row-test.true)) in (
      note,
      subst (λ (x : MyTree). IsReadable z x.0.upper row note) (sym inv.still)
          (readable_at z m.0.upper c.args.run c.requires.may.remembered at row here),
    )

pub left_row-row-requires-clause-remembered : goal.left_row-row-requires-clause-remembered
left_row-row-requires-clause-remembered c = subst (λ (x : MyTree). IsRemembered c.args.space.now.table.shared.key x.0.upper c.args.run)
    (sym (c.keys_at-keys.ensures.reads.still ∙ c.loop-row.invariant.still)) c.requires.may.remembered

pub left_row-row-requires-clause-here : goal.left_row-row-requires-clause-here
left_row-row-requires-clause-here c = let z = c.args.space.now.table.shared.key in let m = c.args.pass.now.seat.me in
    let inv = c.loop-row.invariant in let at = c.loop-row.at in let row = c.loop-row.row in
    subst (λ (x : MyTree). IsBaseAt (bases_of c.args.run x.0.upper) at row) (sym (c.keys_at-keys.ensures.reads.still ∙ inv.still))
    (is_there z m.0.upper c.args.run c.requires.may.remembered at row inv.here (omega (arith, c.loop-row-test.true)))

pub loop-row-preserved : goal.loop-row-preserved
loop-row-preserved c = let z = c.args.space.now.table.shared.key in let m = c.args.pass.now.seat.me in
    let inv = c.loop-row.invariant in let at = c.loop-row.at in let row = c.loop-row.row in
    let here = is_there z m.0.upper c.args.run c.requires.may.remembered at row inv.here (omega (arith, c.loop-row-test.true)) in record {
      own = search rules;
      same = search rules;
      number = search rules;
      tally = search rules;
      kept = search rules;
      still = search rules;
      here = subst (λ (x : MyTree). c.left_row-row.result ≡ row_in (bases_of c.args.run x.0.upper) (at + 1)) (c.keys_at-keys.ensures.reads.still ∙ inv.still)
          c.left_row-row.ensures.left;
      inside = omega (arith, here.0);
    }
