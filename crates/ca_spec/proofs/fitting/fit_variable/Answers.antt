use Rattle.ca_order.specs.CodesView.{terms_of}
use Rattle.ca_spec.proofs.PartTables.{variable_new}
use Rattle.ca_spec.proofs.fitting.fit_variable.Goals as goal

pub returns-in-None-clause-told : goal.returns-in-None-clause-told
returns-in-None-clause-told c =
    variable_new c.args.table.now c.args.number _ (terms_of c.args.codes.now) (terms_of c.split.result.1) c.split.result.0 c.requires.room c.in-None.is
    c.split.ensures
