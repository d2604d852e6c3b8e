use Rattle.std.proofs.Common.{rules, sym, subst, List, [], ℕ}
use Rattle.atomic_table.specs.Table.{opening}
use Rattle.ca_rows.specs.declared.sizes.Sizes.{Sizes}
use Rattle.ca_rows.specs.Opening.{AreInBounds, IsOpening}
use Rattle.ca_rows.specs.Rule.{Ruled, fresh}
use Rattle.ca_rows.proofs.Starting.{starts_ruled}
use Rattle.ca_rows.proofs.space.Space.new.Goals as goal

pub of_words-requires : goal.of_words-requires
of_words-requires g c =
    let z : Sizes = record {
      rows = c.args.rows;
      passes = c.args.passes;
      keypos = c.args.keypos;
      leaf = c.args.leaf;
      levels = c.args.levels;
      starts = c.args.starts;
    } in
    let bounds : AreInBounds z = search rules in
    let opened : IsOpening g.R.RowRule.opens g.R.RowRule.result_word z c.in-Ok.words.items = search rules in
    subst (λ (words : List ℕ).
    Ruled g.R.RowRule.linked g.R.RowRule.lent g.R.RowRule.noted g.R.RowRule.fact z
    (opening words [] (fresh z 0 g.R.RowRule.first)))
    (sym c.as_slice.ensures.value)
    (starts_ruled g.R.RowRule.linked g.R.RowRule.lent g.R.RowRule.noted g.R.RowRule.fact
    g.R.RowRule.opens g.R.RowRule.result_word g.R.RowRule.first g.met.R.RowRule.opening z
    c.in-Ok.words.items bounds c.requires opened)
