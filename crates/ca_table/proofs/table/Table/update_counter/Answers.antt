use Rattle.std.proofs.Common.{inr, map, refl}
use Rattle.ca_term.specs.Add.{addition_of}
use Rattle.ca_ets.specs.Asked.{operations_in}
use Rattle.ca_table.proofs.Keyed.{key_begins, only_read}
use Rattle.ca_table.proofs.Updating.{asked_for, none_asked, only_missed, counter_looks, counter_misses, counter_lacks, counter_fails, counter_passes}
use Rattle.ca_ets.specs.declared.command.Cmd.TheVariants.{UpdateCounter}
use Rattle.ca_table.proofs.Making.{declined_first, done_first}
use Rattle.ca_table.proofs.table.Table.update_counter.Goals as goal

pub get-requires-clause-key : goal.get-requires-clause-key
get-requires-clause-key g c = key_begins c.args.key.now _ c.in_default-key_code.ensures.1

pub returns-then-get-clause-comes : goal.returns-then-get-clause-comes
returns-then-get-clause-comes g c =
    let k = c.args.key.now in
    let op = c.args.op.now in
    let h = c.in_default-key_code.ensures.1 in
    let a = (g.S.OrderedStore.knows c.args.self.now) in
    let operations = operations_in c.in-Some.operations in
    let asked = asked_for c.keypos-keypos.result op c.in-Ok.asked c.in-Some.operations c.in-Ok.ensures.asked c.in-Some.is in
    let empty = none_asked operations c.as_slice-adds.result.now c.is_empty.result c.as_slice-adds.ensures c.is_empty.ensures c.if-is_empty.true in
    counter_looks k op _ h a (g.S.OrderedStore.knows c.get.new.self) _ c.keypos-keypos.ensures.value operations asked empty
    _ _ _ c.if-get.true c.get.ensures.got c.new-then-get.ensures.items

pub returns-then-get-clause-read : goal.returns-then-get-clause-read
returns-then-get-clause-read g c =
    let old = g.S.OrderedStore.knows c.args.self.now in
    λ empty. inr (only_read c.args.key.now _ c.in_default-key_code.ensures.1 old _ _ _ c.if-get.true c.get.ensures.got)

pub returns-then-is_empty-clause-comes : goal.returns-then-is_empty-clause-comes
returns-then-is_empty-clause-comes g c =
    let old = g.S.OrderedStore.knows c.args.self.now in
    let next = g.S.OrderedStore.knows c.get.new.self in
    let k = c.args.key.now in
    let op = c.args.op.now in
    let h = c.in_default-key_code.ensures.1 in
    let a = old in
    let operations = operations_in c.in-Some.operations in
    let asked = asked_for c.keypos-keypos.result op c.in-Ok.asked c.in-Some.operations c.in-Ok.ensures.asked c.in-Some.is in
    counter_misses k op _ h a next _ c.keypos-keypos.ensures.value operations asked _ _ c.if-get.false c.get.ensures.got

pub returns-then-is_empty-clause-read : goal.returns-then-is_empty-clause-read
returns-then-is_empty-clause-read g c =
    let old = g.S.OrderedStore.knows c.args.self.now in
    λ empty. inr (only_missed c.args.key.now c.args.op.now _ c.in_default-key_code.ensures.1 old _ _ _ c.if-get.false c.get.ensures.got)

pub count-requires-clause-key : goal.count-requires-clause-key
count-requires-clause-key g c = key_begins c.args.key.now _ c.in_default-key_code.ensures.1

pub returns-in-Ok-Put-clause-comes : goal.returns-in-Ok-Put-clause-comes
returns-in-Ok-Put-clause-comes g c =
    let k = c.args.key.now in
    let op = c.args.op.now in
    let h = c.in_default-key_code.ensures.1 in
    let a = (g.S.OrderedStore.knows c.args.self.now) in
    let operations = operations_in c.in-Some.operations in
    let asked = asked_for c.keypos-keypos.result op c.in-Ok.asked c.in-Some.operations c.in-Ok.ensures.asked c.in-Some.is in
    let put = rw c.in-Ok-Put.field-0-is at c.in-Ok-Put.ensures.updated in
    counter_passes k op _ h a (g.S.OrderedStore.knows c.count.new.self) _ c.keypos-keypos.ensures.value operations asked
    (map addition_of c.as_slice-adds.result.now) c.as_slice-adds.ensures _ put _ c.reply.ensures

pub returns-in-Ok-Kept-clause-comes : goal.returns-in-Ok-Kept-clause-comes
returns-in-Ok-Kept-clause-comes g c =
    let k = c.args.key.now in
    let op = c.args.op.now in
    let h = c.in_default-key_code.ensures.1 in
    let a = (g.S.OrderedStore.knows c.args.self.now) in
    let operations = operations_in c.in-Some.operations in
    let asked = asked_for c.keypos-keypos.result op c.in-Ok.asked c.in-Some.operations c.in-Ok.ensures.asked c.in-Some.is in
    let kept = rw c.in-Ok-Kept.field-0-is at c.in-Ok-Kept.ensures.updated in
    counter_fails k op _ h a (g.S.OrderedStore.knows c.count.new.self) _ c.keypos-keypos.ensures.value operations asked
    (map addition_of c.as_slice-adds.result.now) c.as_slice-adds.ensures _ kept _
    c.fault_of_counts-fault.ensures

pub returns-in-Ok-Absent-clause-comes : goal.returns-in-Ok-Absent-clause-comes
returns-in-Ok-Absent-clause-comes g c =
    let k = c.args.key.now in
    let op = c.args.op.now in
    let h = c.in_default-key_code.ensures.1 in
    let a = (g.S.OrderedStore.knows c.args.self.now) in
    let operations = operations_in c.in-Some.operations in
    let asked = asked_for c.keypos-keypos.result op c.in-Ok.asked c.in-Some.operations c.in-Ok.ensures.asked c.in-Some.is in
    let absent = rw c.in-Ok-Absent.field-0-is at c.in-Ok-Absent.ensures.updated in
    counter_lacks k op _ h a (g.S.OrderedStore.knows c.count.new.self) _ c.keypos-keypos.ensures.value operations asked absent

pub returns-in-Ok-Put-clause-made : goal.returns-in-Ok-Put-clause-made
returns-in-Ok-Put-clause-made g c =
    done_first g.S.OrderedStore.knows g.S.OrderedStore.promises g.W.Follower.asked
    (UpdateCounter c.args.key.now c.args.op.now) c.args.self.now c.count.new.self _ refl c.in-Ok-Put.ensures.edited tt

pub returns-in-Ok-Kept-clause-made : goal.returns-in-Ok-Kept-clause-made
returns-in-Ok-Kept-clause-made g c =
    done_first g.S.OrderedStore.knows g.S.OrderedStore.promises g.W.Follower.asked
    (UpdateCounter c.args.key.now c.args.op.now) c.args.self.now c.count.new.self _ refl c.in-Ok-Kept.ensures.edited tt

pub returns-in-Ok-Absent-clause-made : goal.returns-in-Ok-Absent-clause-made
returns-in-Ok-Absent-clause-made g c =
    done_first g.S.OrderedStore.knows g.S.OrderedStore.promises g.W.Follower.asked
    (UpdateCounter c.args.key.now c.args.op.now) c.args.self.now c.count.new.self _ refl c.in-Ok-Absent.ensures.edited tt

pub returns-in-Err-count-clause-made : goal.returns-in-Err-count-clause-made
returns-in-Err-count-clause-made g c =
    declined_first g.S.OrderedStore.knows g.S.OrderedStore.promises g.W.Follower.asked
    (UpdateCounter c.args.key.now c.args.op.now) c.args.self.now c.count.new.self
    c.in-Err-count.refusal refl c.in-Err-count.ensures.declined
