use Rattle.std.proofs.Common.{rules, ◌≡◌, ◌+◌, ℕ, sym, subst, ap, ◌∙◌}
use Rattle.ca_node.specs.Told.{MyTree}
use Rattle.ca_range.specs.Snapshots.{bases_of}
use Rattle.ca_replace.specs.Running.{row_in}
use Rattle.ca_replace.proofs.running.walked_to.Goals as goal

pub loop-k-preserved : goal.loop-k-preserved
loop-k-preserved c = let inv = c.loop-k.invariant in let bases = c.args.bases in
    let row : ℕ → ℕ = row_in (bases_of bases c.args.pass.now.seat.me.0.upper) in record {
      own = search rules;
      same = search rules;
      number = search rules;
      tally = search rules;
      kept = search rules;
      still = search rules;
      walked = c.add_row.ensures.walked ∙ ap (λ (n : ℕ). n + 1) inv.walked;
      here = subst (λ (m : MyTree). c.left_row-row.result ≡ row_in (bases_of bases m.0.upper) (c.loop-k.k + 1)) inv.still c.left_row-row.ensures.left;
      rows = c.add_row.ensures.rows row inv.rows (inv.here ∙ ap row (sym inv.walked));
    }

pub returns-clause-rows : goal.returns-clause-rows
returns-clause-rows c = let inv = c.loop-k.invariant in let row : ℕ → ℕ = row_in (bases_of c.args.bases c.args.pass.now.seat.me.0.upper) in
    c.add_row-2.ensures.rows row inv.rows (inv.here ∙ ap row (sym inv.walked))
