use Rattle.std.proofs.Common.{◌≡◌, Option, List, ap, sym, ◌∙◌, subst}
use Rattle.ca_base.specs.Putting.{first_note}
use Rattle.ca_node.specs.Told.{MyTree}
use Rattle.ca_node.specs.TreeView.{Note, TreeView}
use Rattle.ca_range.specs.Filling.{IsInUse, IsUseOf}
use Rattle.ca_range.specs.Using.{HasFoundOf}
use Rattle.ca_range.specs.declared.account.Range.{Range}
use Rattle.ca_range.specs.Meeting.{AreMet}
use Rattle.ca_range.proofs.Filled.{at_same, last_shown}
use Rattle.ca_range.proofs.FirstBases.{gone_to}
use Rattle.ca_range.proofs.Readied.{ready_still}
use Rattle.ca_range.proofs.Stepping.{steps_by_walk}
use Rattle.ca_replace.proofs.Working.{work_first}
use Rattle.ca_join_tests.specs.Halting.{HasFoundRange}
use Rattle.ca_join_tests.specs.declared.halted.Met.{Met}
use Rattle.ca_range.proofs.GoingOn.{walked_raised}
use Rattle.ca_join_tests.proofs.halts.find.Goals as goal

pub range_in_use-requires-clause-ready : goal.range_in_use-requires-clause-ready
range_in_use-requires-clause-ready c = let space = c.args.space.now in let by = c.pin.ensures.pinned in let p = c.pin.new.pass in
    let n = c.walk-cursor.new.pass in let w = c.walk-cursor.ensures.walked in
    ready_still space p n (work_first {space = c.args.space.now} by.0 by.1 c.requires.rests c.pin.ensures.frame by.3).ready c.walk-cursor.ensures.frame
    (walked_raised space.table.shared.key _ p.seat.me n.seat.me c.walk-cursor.result w)
    (steps_by_walk _ p.seat.me n.seat.me c.walk-cursor.result w)

pub range_in_use-requires-clause-number : goal.range_in_use-requires-clause-number
range_in_use-requires-clause-number c = let by = c.pin.ensures.pinned in
    c.walk-cursor.ensures.frame.number ∙ ((work_first {space = c.args.space.now} by.0 by.1 c.requires.rests c.pin.ensures.frame by.3).number
    ∙ sym (ap (λ (x : MyTree). x.0.upper.number) c.walk-cursor.ensures.walked.now))

pub range_in_use-requires-clause-quiet : goal.range_in_use-requires-clause-quiet
range_in_use-requires-clause-quiet c = let by = c.pin.ensures.pinned in
    ap (λ (x : MyTree). x.0.upper.ranges.own) c.walk-cursor.ensures.walked.now
    ∙ (work_first {space = c.args.space.now} by.0 by.1 c.requires.rests c.pin.ensures.frame by.3).quiet

pub range_in_use-requires-clause-met : goal.range_in_use-requires-clause-met
range_in_use-requires-clause-met c = subst (AreMet c.new-account.result.met.numbers)
    (sym (ap (λ (x : MyTree). x.0.upper.ranges.unfinished) c.walk-cursor.ensures.walked.now
    ∙ ap (λ (x : MyTree). x.0.upper.ranges.unfinished) c.pin.ensures.pinned.3)) c.new-account.ensures.met

pub range_in_use-requires-clause-at : goal.range_in_use-requires-clause-at
range_in_use-requires-clause-at c = (gone_to c.args.space.now.table.shared.key _ c.pin.new.pass.seat.me c.walk-cursor.new.pass.seat.me c.walk-cursor.result
    c.walk-cursor.ensures.walked c.requires.leaf).at

pub returns-in-Ok-Some : goal.returns-in-Ok-Some
returns-in-Ok-Some c = record {
  found = λ x is. let space = c.args.space.now in let z = space.table.shared.key in let by = c.pin.ensures.pinned in
      let p = c.pin.new.pass in let n = c.walk-cursor.new.pass in let last = c.range_in_use.new.pass in let w = c.walk-cursor.ensures.walked in
      let work = work_first {space = c.args.space.now} by.0 by.1 c.requires.rests c.pin.ensures.frame by.3 in let learns = c.in-Ok-Some.ensures.in_use.0 in
      let h = subst (λ (r : Option Range). HasFoundOf space c.walk-cursor.result.base (λ w note. IsUseOf w note r) n last) c.in-Ok-Some.field-0-is
      c.in-Ok-Some.ensures.in_use in
      let ready = ready_still space p n work.ready c.walk-cursor.ensures.frame (walked_raised z _ p.seat.me n.seat.me c.walk-cursor.result w)
      (steps_by_walk _ p.seat.me n.seat.me c.walk-cursor.result w) in
      let at = (gone_to z _ p.seat.me n.seat.me c.walk-cursor.result w c.requires.leaf).at in
      let same : (record {
        from = record { cursor = c.walk-cursor.result; range = c.in-Ok-Some.range };
        account = c.range_in_use.new.account;
      }) ≡ x = cc in
      subst (λ (y : Met). HasFoundRange space last y) same record {
        ready = ready_still space n last ready learns.frame learns.raised learns.steps;
        number = learns.frame.number ∙ (c.walk-cursor.ensures.frame.number ∙ (work.number ∙ sym (ap (λ (y : MyTree). y.0.upper.number) w.now))
            ∙ sym (ap (λ (u : TreeView). u.number) learns.steps.only));
        quiet = ap (λ (u : TreeView). u.ranges.own) learns.steps.only ∙ (ap (λ (y : MyTree). y.0.upper.ranges.own) w.now ∙ work.quiet);
        met = c.range_in_use.ensures.met;
        at = at_same z n.seat.me.0.upper last.seat.me.0.upper c.walk-cursor.result learns.all at;
        used = subst (λ (ns : List Note). IsInUse last.seat.me.0.upper (first_note ns) c.in-Ok-Some.range) (sym learns.all.notes)
            (h.1 (first_note n.seat.me.0.upper.notes) (last_shown z n.seat.me.0.upper c.walk-cursor.result at));
      };
}
