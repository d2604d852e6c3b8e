use Rattle.std.proofs.Common.{◌≡◌, rules, refl, to_z, of_z}
use Rattle.std.specs.Prelude.{FitsSigned}
use Rattle.std.specs.Int.{w64}
use Rattle.std.proofs.lemmas.Int.{to_z-of_z}
use Rattle.ca_order.specs.Patches.{IsElementCode}
use Rattle.ca_table.proofs.Keyed.{key_begins}
use Rattle.ca_table.proofs.Updating.{found_row, element_misses, element_lacks, element_fails, element_passes, element_reads}
use Rattle.ca_ets.specs.declared.command.Cmd.TheVariants.{UpdateElement}
use Rattle.ca_table.proofs.Making.{declined_first, done_first}
use Rattle.ca_table.proofs.table.Table.update_element.Goals as goal

pub get-requires-clause-key : goal.get-requires-clause-key
get-requires-clause-key g c = key_begins c.args.key.now _ c.in_default-key_code.ensures.1

pub fault_of_long_element-requires-clause-object : goal.fault_of_long_element-requires-clause-object
fault_of_long_element-requires-clause-object g c =
    let old = g.S.OrderedStore.knows c.args.self.now in
    found_row c.args.key.now c.args.op.now _ c.in_default-key_code.ensures.1 old _ c.keypos-keypos.ensures.positive _ _ c.if-get.true
    c.get.ensures.got

pub returns-then-get-clause-comes : goal.returns-then-get-clause-comes
returns-then-get-clause-comes g c =
    let old = g.S.OrderedStore.knows c.args.self.now in
    let next = g.S.OrderedStore.knows c.get.new.self in
    let fits : FitsSigned w64 c.in-Some.pos = search rules in
    let cast : to_z w64 (of_z w64 c.in-Some.pos) ≡ c.in-Some.pos = to_z-of_z w64 c.in-Some.pos fits in
    element_reads c.args.key.now c.args.op.now _ c.in_default-key_code.ensures.1 old next _ c.keypos-keypos.ensures.value
    c.in-Some.pos c.in-Some.value.now c.in-Some.ensures _ cast c.keypos-keypos.ensures.positive _ _ c.if-get.true c.get.ensures.got _
    (λ row code. c.fault_of_long_element.ensures row c.in-Some.value.now code (c.in_default-encode.ensures.too_long.0 refl))

pub returns-in_default-encode-clause-comes : goal.returns-in_default-encode-clause-comes
returns-in_default-encode-clause-comes g c =
    let old = g.S.OrderedStore.knows c.args.self.now in
    let next = g.S.OrderedStore.knows c.get.new.self in
    element_misses c.args.key.now c.args.op.now _ c.in_default-key_code.ensures.1 old next _ c.keypos-keypos.ensures.value
    c.in-Some.pos c.in-Some.value.now c.in-Some.ensures _ _ c.if-get.false c.get.ensures.got

pub replace-requires-clause-key : goal.replace-requires-clause-key
replace-requires-clause-key g c = key_begins c.args.key.now _ c.in_default-key_code.ensures.1

pub returns-in-Ok-Put-clause-comes : goal.returns-in-Ok-Put-clause-comes
returns-in-Ok-Put-clause-comes g c =
    let old = g.S.OrderedStore.knows c.args.self.now in
    let next = g.S.OrderedStore.knows c.replace.new.self in
    let fits : FitsSigned w64 c.in-Some.pos = search rules in
    let cast : to_z w64 (of_z w64 c.in-Some.pos) ≡ c.in-Some.pos = to_z-of_z w64 c.in-Some.pos fits in
    let code : IsElementCode c.in-Some.value.now c.encode.new.into.items =
    record { bounded = c.in-Some.ensures.bounded; shallow = c.in-Some.ensures.shallow; code_is = c.in-Ok.ensures.ok } in
    let there = rw c.in-Ok-Put.field-0-is at (c.in-Ok-Put.ensures.updated c.in-Some.value.now code) in
    element_passes c.args.key.now c.args.op.now _ c.in_default-key_code.ensures.1 old next _ c.keypos-keypos.ensures.value
    c.in-Some.pos c.in-Some.value.now c.in-Some.ensures _ cast _ there

pub returns-in-Ok-Kept-clause-comes : goal.returns-in-Ok-Kept-clause-comes
returns-in-Ok-Kept-clause-comes g c =
    let old = g.S.OrderedStore.knows c.args.self.now in
    let next = g.S.OrderedStore.knows c.replace.new.self in
    let fits : FitsSigned w64 c.in-Some.pos = search rules in
    let cast : to_z w64 (of_z w64 c.in-Some.pos) ≡ c.in-Some.pos = to_z-of_z w64 c.in-Some.pos fits in
    let code : IsElementCode c.in-Some.value.now c.encode.new.into.items =
    record { bounded = c.in-Some.ensures.bounded; shallow = c.in-Some.ensures.shallow; code_is = c.in-Ok.ensures.ok } in
    let there = rw c.in-Ok-Kept.field-0-is at (c.in-Ok-Kept.ensures.updated c.in-Some.value.now code) in
    element_fails c.args.key.now c.args.op.now _ c.in_default-key_code.ensures.1 old next _ c.keypos-keypos.ensures.value
    c.in-Some.pos c.in-Some.value.now c.in-Some.ensures _ cast _ there _
    (λ row fault h failed. c.fault_of_element-fault.ensures row c.in-Some.value.now fault h code failed)

pub returns-in-Ok-Absent-clause-comes : goal.returns-in-Ok-Absent-clause-comes
returns-in-Ok-Absent-clause-comes g c =
    let old = g.S.OrderedStore.knows c.args.self.now in
    let next = g.S.OrderedStore.knows c.replace.new.self in
    let code : IsElementCode c.in-Some.value.now c.encode.new.into.items =
    record { bounded = c.in-Some.ensures.bounded; shallow = c.in-Some.ensures.shallow; code_is = c.in-Ok.ensures.ok } in
    let there = rw c.in-Ok-Absent.field-0-is at (c.in-Ok-Absent.ensures.updated c.in-Some.value.now code) in
    element_lacks c.args.key.now c.args.op.now _ c.in_default-key_code.ensures.1 old next _ c.keypos-keypos.ensures.value
    c.in-Some.pos c.in-Some.value.now c.in-Some.ensures there

pub returns-in-Ok-Put-clause-made : goal.returns-in-Ok-Put-clause-made
returns-in-Ok-Put-clause-made g c =
    done_first g.S.OrderedStore.knows g.S.OrderedStore.promises g.W.Follower.asked
    (UpdateElement c.args.key.now c.args.op.now) c.args.self.now c.replace.new.self _ refl c.in-Ok-Put.ensures.edited tt

pub returns-in-Ok-Kept-clause-made : goal.returns-in-Ok-Kept-clause-made
returns-in-Ok-Kept-clause-made g c =
    done_first g.S.OrderedStore.knows g.S.OrderedStore.promises g.W.Follower.asked
    (UpdateElement c.args.key.now c.args.op.now) c.args.self.now c.replace.new.self _ refl c.in-Ok-Kept.ensures.edited tt

pub returns-in-Ok-Absent-clause-made : goal.returns-in-Ok-Absent-clause-made
returns-in-Ok-Absent-clause-made g c =
    done_first g.S.OrderedStore.knows g.S.OrderedStore.promises g.W.Follower.asked
    (UpdateElement c.args.key.now c.args.op.now) c.args.self.now c.replace.new.self _ refl c.in-Ok-Absent.ensures.edited tt

pub returns-in-Err-replace-clause-made : goal.returns-in-Err-replace-clause-made
returns-in-Err-replace-clause-made g c =
    declined_first g.S.OrderedStore.knows g.S.OrderedStore.promises g.W.Follower.asked
    (UpdateElement c.args.key.now c.args.op.now) c.args.self.now c.replace.new.self
    c.in-Err-replace.refusal refl c.in-Err-replace.ensures.declined
