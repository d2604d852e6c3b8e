use Rattle.std.proofs.Common.{map}
use Rattle.ca_term.specs.Add.{addition_of}
use Rattle.ca_table.specs.Renewed.{by_operations}
use Rattle.ca_table.proofs.Changing.{keeps_key, updated_done}
use Rattle.ca_table.proofs.update.count.Goals as goal

pub change-requires-clause-function : goal.change-requires-clause-function
change-requires-clause-function g c =
    keeps_key _ _ c.args.keypos c.requires.positive (by_operations c.args.keypos (map addition_of c.args.adds.now)) (λ shown into start row h. (row, h))
    (λ shown into start answer left number met. met) c.as_slice.result.now _ c.requires.keypos

pub returns-clause-updated : goal.returns-clause-updated
returns-clause-updated g c =
    updated_done _ _ c.args.keypos c.requires.positive (by_operations c.args.keypos (map addition_of c.args.adds.now)) (λ shown into start row h. (row, h))
    (λ shown into start answer left number met. met) _ _ c.as_slice.result.now _ _ c.change.result c.requires.keypos c.as_slice.ensures.value
    c.change.ensures.changed
