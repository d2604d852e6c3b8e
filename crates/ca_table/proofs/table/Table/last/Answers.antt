use Rattle.ca_model.specs.Edges.{Unbounded}
use Rattle.ca_table.proofs.Walked.{below_object, below_lacks, last_done, last_ends}
use Rattle.ca_table.proofs.table.Table.last.Goals as goal

pub key_of-requires : goal.key_of-requires
key_of-requires g c =
    let old = g.S.OrderedStore.knows c.args.self.now in
    below_object old _ _ c.keypos-keypos.ensures.value c.keypos-keypos.ensures.positive _ _ Unbounded c.in-Ok-true.field-0-test
    c.in-Ok-true.ensures.found

pub returns-in_default-clause-comes : goal.returns-in_default-clause-comes
returns-in_default-clause-comes g c =
    let old = g.S.OrderedStore.knows c.args.self.now in
    below_lacks old _ _ c.keypos-keypos.ensures.value c.keypos-keypos.ensures.positive _ _ Unbounded c.in-Ok-true.field-0-test
    c.in-Ok-true.ensures.found

pub returns-in-Ok-true-clause-comes : goal.returns-in-Ok-true-clause-comes
returns-in-Ok-true-clause-comes g c =
    let old = g.S.OrderedStore.knows c.args.self.now in
    last_done old _ _ c.keypos-keypos.ensures.value c.keypos-keypos.ensures.positive _ _ c.in-Ok.found c.in-Ok-true.field-0-test
    c.in-Ok-true.ensures.found c.in-Ok.ensures

pub returns-in-Ok-false-clause-comes : goal.returns-in-Ok-false-clause-comes
returns-in-Ok-false-clause-comes g c =
    let old = g.S.OrderedStore.knows c.args.self.now in
    last_ends old _ _ c.keypos-keypos.ensures.value c.keypos-keypos.ensures.positive _ _ c.in-Ok-false.field-0-test
    c.in-Ok-false.ensures.found
