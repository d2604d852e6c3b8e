use Rattle.std.proofs.Common.{◌≡◌, ℕ, ◌+◌, ◌-◌, ◌≤◌, length, List, [], take, get_or, sym, ap, ◌∙◌, subst, arith, length-take}
use Rattle.ca_node.specs.Layout.{items_word}
use Rattle.ca_node.specs.Row.{items, key}
use Rattle.ca_node.specs.Told.{MyTree}
use Rattle.ca_node.specs.TreeView.{TreeView}
use Rattle.ca_base.specs.Finding.{IsObjectShown, IsReadable}
use Rattle.ca_base.specs.Prefixes.{worded}
use Rattle.ca_base.specs.Putting.{first_note, last_items}
use Rattle.ca_base.specs.Writing.{HasFilled, IsHeadWord}
use Rattle.ca_base.proofs.HalfFronts.{half_spells, worded_long}
use Rattle.ca_base.proofs.Items.{many}
use Rattle.ca_base.proofs.Halves.{half_written}
use Rattle.ca_base.proofs.routing.write_half.Goals as goal

pub returns-clause-written : goal.returns-clause-written
returns-clause-written c = let m = c.args.pass.now.seat.me in let u = m.0.upper in
    let z = c.args.space.now.table.shared.key in let note = first_note u.notes in
    let run = c.args.run in let n : ℕ = c.shared-skip.result in let r = c.requires.readable in
    let last : ℕ = run.from + run.count - 1 in let p = c.requires.places in
    let front : List ℕ = take n c.deref-3.result.now in
    let one = c.item-first.ensures.frame.still in let two = c.copy_part.ensures.frame.still in
    let three = c.item-last.ensures.frame.still in let four = c.copy_part-2.ensures.frame.still in
    let all = four ∙ (three ∙ (two ∙ one)) in
    let first = (c.item-first.ensures.item note r (omega arith)).1 in
    let low = c.deref.ensures.0 ∙ c.copy_part.ensures.part (get_or note.objects run.from [])
    (subst (λ (y : MyTree). IsObjectShown y.0.upper c.item-first.result (get_or note.objects run.from []))
    (sym one) first) in
    let end = (c.item-last.ensures.item note
    (subst (λ (y : MyTree). IsReadable z y.0.upper run.base note) (sym (two ∙ one)) r) (omega arith)).1 in
    let high = c.deref-2.ensures.0 ∙ c.copy_part-2.ensures.part (get_or note.objects last [])
    (subst (λ (y : MyTree). IsObjectShown y.0.upper c.item-last.result (get_or note.objects last []))
    (sym three) end) in
    let low_short : length c.deref.result.now ≤ 32 = omega (
      arith,
      ap (λ (xs : List ℕ). length xs) low,
      length-take 32 (key (get_or note.objects run.from [])),
    ) in
    let skip_short : n ≤ 32 = let within = c.shared-skip.ensures.within in omega arith in
    let as_many = r.is_base.as_many in let few = r.few in let items_many = many z u run.base note r in
    let these : List ℕ = worded n (items note.its) note.objects in
    let long = worded_long n (items note.its) note.objects as_many in
    let upper = c.write_head.ensures.frame.same.4 ∙ ap (λ (y : MyTree). y.0.upper) all in
    let w = half_written c.args.row c.args.level 4294967296 run.from run.count front these m
    c.write_head.new.pass.seat.me c.write_behind.new.pass.seat.me c.requires.row.held.1 (omega arith)
    (omega (arith, length-take n c.deref-3.result.now)) (omega arith) (omega arith)
    (subst (λ (y : MyTree). HasFilled c.args.row 0 11
    (IsHeadWord front c.args.level run.count 4294967296) y c.write_head.new.pass.seat.me)
    all c.write_head.ensures.filled)
    (subst (λ (v : TreeView). HasFilled c.args.row items_word run.count
    (λ k word. word ≡ get_or (worded n (last_items v) (first_note v.notes).objects) (run.from + k) 0)
    c.write_head.new.pass.seat.me c.write_behind.new.pass.seat.me) upper c.write_behind.ensures.filled) in (
      w.0,
      half_spells z.keypos note run.from run.count c.args.level n
          c.deref.result.now c.deref-2.result.now front w.0 r.ordered p.0 p.1 low high
          c.shared-skip.ensures
          (ap (take n) (c.deref-3.ensures.0 ∙ sym c.deref.ensures.0)) w.1,
      w.2,
    )
