use Rattle.std.proofs.Common.{inr, refl}
use Rattle.ca_table.proofs.Refusing.{refused_behind_reads}
use Rattle.ca_table.proofs.Keyed.{key_begins, take_none, take_put, take_gone, take_overtaken, got_some, only_read, read_code}
use Rattle.ca_ets.specs.declared.command.Cmd.TheVariants.{Take}
use Rattle.ca_table.specs.ComesTo.{one_lost}
use Rattle.ca_table.proofs.Making.{was_declined, was_done, was_overtaken}
use Rattle.ca_table.proofs.table.Table.take.Goals as goal

pub get-requires-clause-key : goal.get-requires-clause-key
get-requires-clause-key g c = key_begins c.args.key.now _ c.in_default.ensures.1

pub returns-then-not-get-clause-comes : goal.returns-then-not-get-clause-comes
returns-then-not-get-clause-comes g c =
    let old = g.S.OrderedStore.knows c.args.self.now in
    take_none c.args.key.now _ c.in_default.ensures.1 old _ _ _ _ c.if-not-get.true c.get.ensures.got c.new.ensures.items

pub only-requires : goal.only-requires
only-requires g c =
    let old = g.S.OrderedStore.knows c.args.self.now in
    read_code c.args.key.now _ c.in_default.ensures.1 old _ _ _ c.if-not-get.false c.get.ensures.got

pub returns-in_default-only-clause-comes : goal.returns-in_default-only-clause-comes
returns-in_default-only-clause-comes g c =
    (_, got_some c.args.key.now _ c.in_default.ensures.1 (g.S.OrderedStore.knows c.args.self.now) _ _ _ c.if-not-get.false c.get.ensures.got)

pub remove_same-requires-clause-key : goal.remove_same-requires-clause-key
remove_same-requires-clause-key g c = key_begins c.args.key.now _ c.in_default.ensures.1

pub returns-in-Ok-Put-clause-comes : goal.returns-in-Ok-Put-clause-comes
returns-in-Ok-Put-clause-comes g c =
    let old = g.S.OrderedStore.knows c.args.self.now in
    let next = g.S.OrderedStore.knows c.get.new.self in
    take_put c.args.key.now _ c.in_default.ensures.1 old next _ _ _ _ c.if-not-get.false c.get.ensures.got c.in-Ok.ensures
    (rw c.in-Ok-Put.field-0-is at c.in-Ok-Put.ensures.removed)

pub returns-in-Ok-Absent-clause-comes : goal.returns-in-Ok-Absent-clause-comes
returns-in-Ok-Absent-clause-comes g c =
    let old = g.S.OrderedStore.knows c.args.self.now in
    let next = g.S.OrderedStore.knows c.get.new.self in
    take_gone c.args.key.now _ c.in_default.ensures.1 old next _ _ _ _ c.if-not-get.false c.get.ensures.got c.in-Ok.ensures
    (rw c.in-Ok-Absent.field-0-is at c.in-Ok-Absent.ensures.removed) _ c.new-in-Ok-Absent.ensures.items

pub returns-in-Ok-Kept-clause-comes : goal.returns-in-Ok-Kept-clause-comes
returns-in-Ok-Kept-clause-comes g c =
    let old = g.S.OrderedStore.knows c.args.self.now in
    let next = g.S.OrderedStore.knows c.get.new.self in
    inr (
      refl,
      take_overtaken c.args.key.now _ c.in_default.ensures.1 old next _ _ _ _ c.if-not-get.false c.get.ensures.got c.in-Ok.ensures
          (rw c.in-Ok-Kept.field-0-is at c.in-Ok-Kept.ensures.removed),
    )

pub returns-in-Err-remove_same-clause-comes : goal.returns-in-Err-remove_same-clause-comes
returns-in-Err-remove_same-clause-comes g c =
    let old = g.S.OrderedStore.knows c.args.self.now in
    let next = g.S.OrderedStore.knows c.get.new.self in
    refused_behind_reads old next _ c.args.budget c.args.key.now c.in-Err-remove_same.refusal
    (only_read c.args.key.now _ c.in_default.ensures.1 old _ _ _ c.if-not-get.false c.get.ensures.got) c.in-Err-remove_same.ensures.refused
    c.in-Err-remove_same.ensures.never_deep

pub returns-in-Ok-Kept-clause-made : goal.returns-in-Ok-Kept-clause-made
returns-in-Ok-Kept-clause-made g c =
    let old = g.S.OrderedStore.knows c.args.self.now in
    let next = g.S.OrderedStore.knows c.get.new.self in
    was_overtaken g.S.OrderedStore.knows g.S.OrderedStore.promises g.W.Follower.asked
    (Take c.args.key.now) c.args.self.now c.get.new.self
    c.remove_same.new.self one_lost c.get.ensures.by_key c.in-Ok-Kept.ensures.edited (
      refl,
      take_overtaken c.args.key.now _ c.in_default.ensures.1
          old next _ _ _ _ c.if-not-get.false c.get.ensures.got c.in-Ok.ensures
          (rw c.in-Ok-Kept.field-0-is at c.in-Ok-Kept.ensures.removed),
    )

pub returns-in-Ok-Put-clause-made : goal.returns-in-Ok-Put-clause-made
returns-in-Ok-Put-clause-made g c =
    was_done g.S.OrderedStore.knows g.S.OrderedStore.promises g.W.Follower.asked (Take c.args.key.now) c.args.self.now c.get.new.self
    c.remove_same.new.self _ c.get.ensures.by_key c.in-Ok-Put.ensures.edited tt

pub returns-in-Ok-Absent-clause-made : goal.returns-in-Ok-Absent-clause-made
returns-in-Ok-Absent-clause-made g c =
    was_done g.S.OrderedStore.knows g.S.OrderedStore.promises g.W.Follower.asked (Take c.args.key.now) c.args.self.now c.get.new.self
    c.remove_same.new.self _ c.get.ensures.by_key c.in-Ok-Absent.ensures.edited tt

pub returns-in-Err-remove_same-clause-made : goal.returns-in-Err-remove_same-clause-made
returns-in-Err-remove_same-clause-made g c =
    was_declined g.S.OrderedStore.knows g.S.OrderedStore.promises g.W.Follower.asked (Take c.args.key.now) c.args.self.now c.get.new.self
    c.remove_same.new.self c.in-Err-remove_same.refusal c.get.ensures.by_key c.in-Err-remove_same.ensures.declined
