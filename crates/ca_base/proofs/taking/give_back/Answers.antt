use Rattle.ca_node.proofs.Members.{in_first}
use Rattle.std.proofs.Common.{◌≡◌, true, false, ◌++◌, ◌∷◌, [], ap, inl, inr, subst, arith}
use Rattle.ca_base.specs.Counting.{losses}
use Rattle.ca_base.proofs.Counts.{none_spent}
use Rattle.ca_base.proofs.Crowds.{put_crowd, retired_crowd}
use Rattle.ca_base.proofs.Held.{kept_row, gone_row, retired_row}
use Rattle.ca_rows.specs.declared.kept.KeptRows.{KeptRows}
use Rattle.ca_rows.specs.declared.view.Claim.TheVariants.{Holds}
use Rattle.ca_base.proofs.taking.give_back.Goals as goal

pub put_row-requires-clause-held : goal.put_row-requires-clause-held
put_row-requires-clause-held c = let h = c.requires.held in
    (h.2.0.each c.args.row (in_first c.args.row h.0)).2

pub put_row-requires-clause-inside : goal.put_row-requires-clause-inside
put_row-requires-clause-inside c = let h = c.requires.held in
    (h.2.0.each c.args.row (in_first c.args.row h.0)).1

pub retire-requires-clause-list : goal.retire-requires-clause-list
retire-requires-clause-list c = let h = c.requires.held in
    (kept_row c.args.space.now.table.shared.key.rows c.args.pass.now.kept c.put_row.new.pass.kept
    c.args.pass.now.seat.me c.put_row.new.pass.seat.me c.args.row
    c.if-not-put_row.ensures.given c.put_row.ensures.frame.kept h.0 h.2).0.are_kept

pub retire-requires-clause-mine : goal.retire-requires-clause-mine
retire-requires-clause-mine c = let h = c.requires.held in
    let now = kept_row c.args.space.now.table.shared.key.rows c.args.pass.now.kept
    c.put_row.new.pass.kept c.args.pass.now.seat.me c.put_row.new.pass.seat.me
    c.args.row c.if-not-put_row.ensures.given c.put_row.ensures.frame.kept h.0 h.2 in
    let own = (now.0.each c.args.row (in_first c.args.row h.0)).2 in (Holds own.0, own.2, tt)

pub returns-then-not-put_row-clause-given : goal.returns-then-not-put_row-clause-given
returns-then-not-put_row-clause-given c rest out h =
    let now = kept_row c.args.space.now.table.shared.key.rows c.args.pass.now.kept
    c.put_row.new.pass.kept c.args.pass.now.seat.me c.put_row.new.pass.seat.me
    c.args.row c.if-not-put_row.ensures.given c.put_row.ensures.frame.kept rest h in
    let told = c.retire.ensures.retired in
    retired_row c.args.space.now.table.shared.key.rows c.put_row.new.pass.kept.rows
    c.retire.new.pass.kept.rows c.put_row.new.pass.seat.me
    c.retire.new.pass.seat.me c.args.row told.0 told.2 c.retire.ensures.list rest out now

pub returns-else-not-put_row-clause-given : goal.returns-else-not-put_row-clause-given
returns-else-not-put_row-clause-given c rest out h =
    gone_row c.args.space.now.table.shared.key.rows c.args.pass.now.kept c.put_row.new.pass.kept
    c.args.pass.now.seat.me c.put_row.new.pass.seat.me c.args.row c.if-not-put_row.ensures.given
    c.put_row.ensures.frame.kept rest out h

pub returns-else-not-put_row-clause-counted : goal.returns-else-not-put_row-clause-counted
returns-else-not-put_row-clause-counted c =
    none_spent c.args.spent.now c.args.pass.now.seat.me c.put_row.new.pass.seat.me
    (ap losses c.if-not-put_row.ensures.given)

pub returns-then-not-put_row-clause-kept : goal.returns-then-not-put_row-clause-kept
returns-then-not-put_row-clause-kept c = let told = c.retire.ensures.retired in
    let missed = ap losses c.if-not-put_row.ensures.given.2 in
    let same = ap losses told.2 in inr (
      omega arith,
      (
        told.0,
        subst (λ (k : KeptRows). c.retire.new.pass.kept.rows.items
            ≡ k.rows.items ++ record { row = c.args.row; at = told.0; form = c.args.form } ∷ [])
            c.put_row.ensures.frame.kept told.1,
      ),
    )

pub returns-else-not-put_row-clause-kept : goal.returns-else-not-put_row-clause-kept
returns-else-not-put_row-clause-kept c = inl (
  ap losses c.if-not-put_row.ensures.given,
  ap (λ (k : KeptRows). k.rows.items) c.put_row.ensures.frame.kept,
)

pub returns-then-not-put_row-clause-only : goal.returns-then-not-put_row-clause-only
returns-then-not-put_row-clause-only c = λ only. let lost : false ≡ true = c.if-not-put_row.ensures.only only in absurd cc

pub returns-else-not-put_row-clause-only : goal.returns-else-not-put_row-clause-only
returns-else-not-put_row-clause-only c = λ _. ap losses c.if-not-put_row.ensures.given

pub returns-then-not-put_row-clause-crowded : goal.returns-then-not-put_row-clause-crowded
returns-then-not-put_row-clause-crowded c = let h = c.requires.held in
    let own = (h.2.0.each c.args.row (in_first c.args.row h.0)).2 in
    let lost = c.if-not-put_row.ensures.given in let told = c.retire.ensures.retired in
    retired_crowd c.args.pass.now.seat.me c.put_row.new.pass.seat.me c.retire.new.pass.seat.me c.args.row
    told.0 own.0 lost.0 own.2 lost.2 told.2

pub returns-else-not-put_row-clause-crowded : goal.returns-else-not-put_row-clause-crowded
returns-else-not-put_row-clause-crowded c = let h = c.requires.held in
    let own = (h.2.0.each c.args.row (in_first c.args.row h.0)).2 in
    put_crowd c.args.pass.now.seat.me c.put_row.new.pass.seat.me c.args.row own.0 own.2
    c.if-not-put_row.ensures.given
