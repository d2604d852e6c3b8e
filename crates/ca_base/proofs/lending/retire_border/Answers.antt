use Rattle.std.proofs.Common.{ℕ, [], ap, ◌∙◌, subst, arith, rules}
use Rattle.ca_node.specs.Links.{IsLent}
use Rattle.ca_node.specs.Told.{MyTree}
use Rattle.ca_node.proofs.LentOver.{lent_over}
use Rattle.ca_node.proofs.Members.{in_first}
use Rattle.ca_base.specs.Counting.{losses}
use Rattle.ca_base.proofs.Crowds.{crowd_stays}
use Rattle.ca_base.proofs.Held.{lent_unkept}
use Rattle.ca_base.proofs.LentRows.{retired_border}
use Rattle.ca_rows.specs.declared.view.Claim.TheVariants.{Lends, Keeps}
use Rattle.ca_rows.specs.Claims.{claim_of}
use Rattle.ca_rows.proofs.Claiming.{claimed_else}
use Rattle.ca_base.proofs.lending.retire_border.Goals as goal

pub retire-requires-clause-list : goal.retire-requires-clause-list
retire-requires-clause-list c = c.requires.lent.0.are_kept

pub retire-requires-clause-mine : goal.retire-requires-clause-mine
retire-requires-clause-mine c = let own = c.requires.border in (
  Lends,
  c.requires.lent.0.lends c.args.row (in_first c.args.row []),
  λ made words uppers fact at. subst (λ (row : ℕ). ¬ IsLent words row) own.2
      (lent_over c.args.space.now.table.shared.key made words uppers c.args.pass.now.seat.id c.args.pass.now.seat.me.0.upper own.0 fact at c.requires.number
      c.requires.quiet own.1 own.3),
)

pub returns-clause-frame : goal.returns-clause-frame
returns-clause-frame c = record {
  same = let told = c.retire.ensures.retired.2 in (
    c.retire.ensures.frame.same.0,
    c.retire.ensures.frame.same.1,
    ap (λ (m : MyTree). m.0.sizes) told,
    ap (λ (m : MyTree). m.0.pin) told,
    ap (λ (m : MyTree). m.0.upper) told,
  );
  number = search rules;
  tally = search rules;
}

pub returns-clause-none : goal.returns-clause-none
returns-clause-none c = let told = c.retire.ensures.retired in
    retired_border c.args.space.now.table.shared.key.rows c.args.pass.now.kept.rows c.retire.new.pass.kept.rows c.args.pass.now.seat.me
    c.retire.new.pass.seat.me c.args.row told.0 told.2 c.retire.ensures.list c.requires.quiet c.requires.lent

pub returns-clause-met : goal.returns-clause-met
returns-clause-met c = let told = c.retire.ensures.retired.2 in
    let empty = ap (λ (m : MyTree). m.0.empty) told in
    let worn = ap (λ (m : MyTree). m.0.worn) told in (ap losses told, (omega arith, omega arith))

pub returns-clause-crowded : goal.returns-clause-crowded
returns-clause-crowded c = let told = c.retire.ensures.retired in let m = c.args.pass.now.seat.me in
    crowd_stays m c.retire.new.pass.seat.me c.args.row (ap (λ (x : MyTree). x.0.sizes) told.2)
    (ap (λ (x : MyTree). x.0.upper) told.2)
    (λ at. lent_unkept m.0.claims c.args.row at (c.requires.lent.0.lends c.args.row (in_first c.args.row [])))
    (λ r n. ap (λ (x : MyTree). claim_of x.0.claims r) told.2 ∙ claimed_else m.0.claims c.args.row r (Keeps told.0) n)
