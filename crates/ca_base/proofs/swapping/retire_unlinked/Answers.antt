use Rattle.std.proofs.Common.{ap, arith, rules}
use Rattle.ca_node.proofs.Members.{in_first}
use Rattle.ca_node.specs.Told.{MyTree}
use Rattle.ca_base.specs.Counting.{losses}
use Rattle.ca_base.proofs.Unlinking.{retired_too}
use Rattle.ca_rows.specs.declared.view.Claim.TheVariants.{Unlinked}
use Rattle.ca_base.proofs.swapping.retire_unlinked.Goals as goal

pub retire-requires-clause-list : goal.retire-requires-clause-list
retire-requires-clause-list c = c.requires.unlinked.2.0.are_kept

pub retire-requires-clause-mine : goal.retire-requires-clause-mine
retire-requires-clause-mine c = let h = c.requires.unlinked in
    (Unlinked, h.2.0.each c.args.row (in_first c.args.row h.0), tt)

pub returns-clause-frame : goal.returns-clause-frame
returns-clause-frame c = record {
  same = let told = c.retire.ensures.retired.2 in (
    c.retire.ensures.frame.same.0,
    c.retire.ensures.frame.same.1,
    ap (λ (m : MyTree). m.0.sizes) told,
    ap (λ (m : MyTree). m.0.pin) told,
    ap (λ (m : MyTree). m.0.upper) told,
  );
  number = search rules;
  tally = search rules;
}

pub returns-clause-met : goal.returns-clause-met
returns-clause-met c = let told = c.retire.ensures.retired.2 in
    let empty = ap (λ (m : MyTree). m.0.empty) told in
    let worn = ap (λ (m : MyTree). m.0.worn) told in (ap losses told, (omega arith, omega arith))

pub returns-clause-retired : goal.returns-clause-retired
returns-clause-retired c rest out h = let told = c.retire.ensures.retired in
    retired_too c.args.space.now.table.shared.key.rows c.args.pass.now.kept.rows
    c.retire.new.pass.kept.rows c.args.pass.now.seat.me c.retire.new.pass.seat.me
    c.args.row told.0 told.2 c.retire.ensures.list rest out h
