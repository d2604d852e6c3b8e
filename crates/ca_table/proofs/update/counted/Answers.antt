use Rattle.std.proofs.Common.{map}
use Rattle.ca_term.specs.Add.{addition_of}
use Rattle.ca_term.specs.Tree.{Tuple}
use Rattle.ca_table.specs.Renewed.{by_operations}
use Rattle.ca_table.proofs.Written.{count_update}
use Rattle.ca_table.proofs.update.counted.Goals as goal

pub is_written-requires : goal.is_written-requires
is_written-requires c =
    let row = c.requires.0 in
    let additions = map addition_of c.args.adds.now in (
      Tuple row,
      by_operations c.args.keypos additions (Tuple row),
      count_update c.args.keypos row additions _ _ _ c.requires.1 (c.patch-answer.ensures.object row c.requires.1.is_code),
    )

pub returns : goal.returns
returns c = λ row h.
    let additions = map addition_of c.args.adds.now in
    c.is_written.ensures (Tuple row) (by_operations c.args.keypos additions (Tuple row))
    (count_update c.args.keypos row additions _ _ _ h (c.patch-answer.ensures.object row h.is_code))
