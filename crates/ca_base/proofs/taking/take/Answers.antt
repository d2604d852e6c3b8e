use Rattle.std.proofs.Common.{[], inl, inr, ap, refl, sym, ◌∙◌, subst}
use Rattle.ca_node.specs.Told.{MyTree}
use Rattle.ca_base.specs.Counting.{HasPutBack, losses}
use Rattle.ca_rows.specs.Kept.{AreYoung}
use Rattle.ca_rows.specs.Told.{IsOnly}
use Rattle.ca_base.proofs.Counts.{none_spent, young_put}
use Rattle.ca_base.proofs.Held.{reused_row}
use Rattle.ca_rows.specs.declared.kept.KeptRows.{KeptRows}
use Rattle.ca_base.proofs.taking.take.Goals as goal

pub returns-in-Some-clause-taken : goal.returns-in-Some-clause-taken
returns-in-Some-clause-taken c held few h =
    reused_row c.args.space.now.table.shared.key.rows c.args.like c.args.pass.now.kept
    c.reuse_row.new.pass.kept c.args.pass.now.seat.me c.reuse_row.new.pass.seat.me c.in-Some.row
    c.in-Some.ensures.reused c.reuse_row.ensures.list held few h

pub returns-in-Some-clause-back : goal.returns-in-Some-clause-back
returns-in-Some-clause-back c =
    (c.reuse_row.new.pass.kept.rows.items, inl (c.in-Some.row, c.in-Some.ensures.reused.1), refl)

pub returns-in-None-clause-back : goal.returns-in-None-clause-back
returns-in-None-clause-back c = let none = c.in-None.ensures.reused in
    young_put c.take_free.result c.args.like [] c.args.pass.now.seat.me c.take_free.new.pass.seat.me
    c.args.pass.now.kept c.take_free.new.pass.kept none.2
    (subst (λ (x : MyTree × KeptRows). HasPutBack [] c.take_free.result x.0 c.take_free.new.pass.seat.me x.1
    c.take_free.new.pass.kept) (λ i. (none.0 i, none.1 i)) c.take_free.ensures.back)

pub returns-in-Some-clause-counted : goal.returns-in-Some-clause-counted
returns-in-Some-clause-counted c =
    none_spent c.args.spent.now c.args.pass.now.seat.me c.reuse_row.new.pass.seat.me
    (ap losses c.in-Some.ensures.reused.0.2)

pub returns-in-Some-clause-oldest : goal.returns-in-Some-clause-oldest
returns-in-Some-clause-oldest c = inl (c.in-Some.row, refl, c.in-Some.ensures.reused.1)

pub returns-in-None-clause-oldest : goal.returns-in-None-clause-oldest
returns-in-None-clause-oldest c = let none = c.in-None.ensures.reused in
    inr (none.2, ap (λ (k : KeptRows). k.rows.items) (c.take_free.ensures.frame.kept ∙ none.1))

pub take_free-requires-clause-young : goal.take_free-requires-clause-young
take_free-requires-clause-young c = let none = c.in-None.ensures.reused in
    subst (λ (x : MyTree × KeptRows). AreYoung x.0.0.pin.told x.1.rows.items) (λ i. (sym none.0 i, sym none.1 i)) none.2

pub take_free-requires-clause-list : goal.take_free-requires-clause-list
take_free-requires-clause-list c = c.reuse_row.ensures.list

pub returns-in-Some-clause-only : goal.returns-in-Some-clause-only
returns-in-Some-clause-only c = λ _. ap losses c.in-Some.ensures.reused.0.2

pub returns-in-None-clause-only : goal.returns-in-None-clause-only
returns-in-None-clause-only c = λ only. let none = c.in-None.ensures.reused in
    c.take_free.ensures.only (subst (λ (m : MyTree). IsOnly m) (sym none.0) only) ∙ ap losses none.0
