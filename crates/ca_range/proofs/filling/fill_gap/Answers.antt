use Rattle.std.proofs.Common.{Option, List, sym, ap, ◌∙◌, subst, arith}
use Rattle.ca_base.proofs.Counts.{met_both}
use Rattle.ca_base.specs.Putting.{first_note, stopped}
use Rattle.ca_base.specs.declared.stop.Exchange.{Exchange}
use Rattle.ca_base.specs.declared.stop.Stop.{Stop}
use Rattle.ca_base.specs.declared.stop.Stop.TheVariants as stop
use Rattle.ca_node.specs.Told.{IsSettled}
use Rattle.ca_node.specs.TreeView.{Note, TreeView}
use Rattle.ca_range.specs.Filling.{IsInUse, IsUseOf, links_of}
use Rattle.ca_range.specs.Staying.{OnlySteps}
use Rattle.ca_range.specs.Using.{HasFoundOf}
use Rattle.ca_range.specs.declared.account.Range.{Range}
use Rattle.ca_range.proofs.Filled.{at_copy, at_same, copy_is, far_copy, far_same, last_shown, raised_met}
use Rattle.ca_range.proofs.JoinsFinished.{ended_by_join}
use Rattle.ca_range.proofs.Readied.{stays_then}
use Rattle.ca_base.proofs.Spends.{on_both}
use Rattle.ca_range.proofs.Stepping.{steps_both, steps_copied, steps_lost_by}
use Rattle.ca_range.proofs.Loaded.{ends_by, goes_same, stopped_loads}
use Rattle.ca_range.proofs.Ranking.{far_inside}
use Rattle.ca_range.proofs.filling.fill_gap.Goals as goal

pub returns-in-Ok-Some-clause-stepped : goal.returns-in-Ok-Some-clause-stepped
returns-in-Ok-Some-clause-stepped c = let z = c.args.space.now.table.shared.key in let u = c.args.pass.now.seat.me.0.upper in
    let v = c.range_in_use.new.pass.seat.me.0.upper in
    let h = subst (λ (r : Option Range). HasFoundOf c.args.space.now c.args.next.base (λ w note. IsUseOf w note r) c.args.pass.now c.range_in_use.new.pass)
    c.in-Ok-Some.field-0-is c.in-Ok-Some.ensures.in_use in (
      at_same z u v c.args.next h.0.all c.requires.at,
      subst (λ (ns : List Note). IsInUse v (first_note ns) c.in-Ok-Some.range) (sym h.0.all.notes)
          (h.1 (first_note u.notes) (last_shown z u c.args.next c.requires.at)),
      raised_met c.args.pass.now.seat.me c.range_in_use.new.pass.seat.me v h.0.raised,
    )

pub returns-in-Ok-Some-clause-goes : goal.returns-in-Ok-Some-clause-goes
returns-in-Ok-Some-clause-goes c = let same = far_same c.args.pass.now.seat.me.0.upper c.range_in_use.new.pass.seat.me.0.upper
    c.in-Ok-Some.ensures.in_use.0.all in omega arith

pub returns-in-Err-clause-stepped : goal.returns-in-Err-clause-stepped
returns-in-Err-clause-stepped c = let f = c.in-Err.ensures.in_use in ended_by_join c.args.space.now.table.shared.key c.args.mark.now.range c.in-Err.helped
    c.args.pass.now.seat.me c.range_in_use.new.pass.seat.me f.gone f.counts

pub mark_base-requires-clause-settled : goal.mark_base-requires-clause-settled
mark_base-requires-clause-settled c = let u = c.args.pass.now.seat.me.0.upper in
    let h = subst (λ (r : Option Range). HasFoundOf c.args.space.now c.args.next.base (λ w note. IsUseOf w note r) c.args.pass.now c.range_in_use.new.pass)
    c.in-Ok-None.field-0-is c.in-Ok-None.ensures.in_use in
    subst (λ (ns : List Note). IsSettled c.range_in_use.new.pass.seat.me.0.upper (first_note ns).its) (sym h.0.all.notes)
    (h.1 (first_note u.notes) (last_shown c.args.space.now.table.shared.key u c.args.next c.requires.at))

pub returns-in-Ok-clause-goes : goal.returns-in-Ok-clause-goes
returns-in-Ok-clause-goes c = let same = far_copy c.args.space.now.table.shared.key c.args.mark.now c.args.pass.now.seat.me.0.upper
    c.range_in_use.new.pass.seat.me.0.upper c.mark_base.new.pass.seat.me.0.upper c.in-Ok.base c.in-Ok-None.ensures.in_use.0.all.notes c.in-Ok.ensures.marked in
    omega arith

pub returns-in-Ok-clause-frame : goal.returns-in-Ok-clause-frame
returns-in-Ok-clause-frame c = stays_then c.args.space.now c.args.pass.now c.range_in_use.new.pass c.mark_base.new.pass
    c.in-Ok-None.ensures.in_use.0.frame c.in-Ok-None.ensures.in_use.0.raised c.in-Ok-None.ensures.in_use.0.no_join c.in-Ok-None.ensures.in_use.0.steps c.mark_base.ensures.frame

pub returns-in-Ok-clause-counted : goal.returns-in-Ok-clause-counted
returns-in-Ok-clause-counted c = on_both c.args.account.now.spent c.range_in_use.new.account.spent c.mark_base.new.spent c.args.pass.now.seat.me
    c.range_in_use.new.pass.seat.me c.mark_base.new.pass.seat.me c.range_in_use.ensures.counted c.mark_base.ensures.counted

pub returns-in-Err-Lost-clause-frame : goal.returns-in-Err-Lost-clause-frame
returns-in-Err-Lost-clause-frame c = stays_then c.args.space.now c.args.pass.now c.range_in_use.new.pass c.mark_base.new.pass
    c.in-Ok-None.ensures.in_use.0.frame c.in-Ok-None.ensures.in_use.0.raised c.in-Ok-None.ensures.in_use.0.no_join c.in-Ok-None.ensures.in_use.0.steps c.mark_base.ensures.frame

pub returns-in-Err-Lost-clause-counted : goal.returns-in-Err-Lost-clause-counted
returns-in-Err-Lost-clause-counted c = on_both c.args.account.now.spent c.range_in_use.new.account.spent c.mark_base.new.spent c.args.pass.now.seat.me
    c.range_in_use.new.pass.seat.me c.mark_base.new.pass.seat.me c.range_in_use.ensures.counted c.mark_base.ensures.counted

pub returns-in-Err-Empty-clause-frame : goal.returns-in-Err-Empty-clause-frame
returns-in-Err-Empty-clause-frame c = stays_then c.args.space.now c.args.pass.now c.range_in_use.new.pass c.mark_base.new.pass
    c.in-Ok-None.ensures.in_use.0.frame c.in-Ok-None.ensures.in_use.0.raised c.in-Ok-None.ensures.in_use.0.no_join c.in-Ok-None.ensures.in_use.0.steps c.mark_base.ensures.frame

pub returns-in-Err-Empty-clause-counted : goal.returns-in-Err-Empty-clause-counted
returns-in-Err-Empty-clause-counted c = on_both c.args.account.now.spent c.range_in_use.new.account.spent c.mark_base.new.spent c.args.pass.now.seat.me
    c.range_in_use.new.pass.seat.me c.mark_base.new.pass.seat.me c.range_in_use.ensures.counted c.mark_base.ensures.counted

pub returns-in-Err-Worn-clause-frame : goal.returns-in-Err-Worn-clause-frame
returns-in-Err-Worn-clause-frame c = stays_then c.args.space.now c.args.pass.now c.range_in_use.new.pass c.mark_base.new.pass
    c.in-Ok-None.ensures.in_use.0.frame c.in-Ok-None.ensures.in_use.0.raised c.in-Ok-None.ensures.in_use.0.no_join c.in-Ok-None.ensures.in_use.0.steps c.mark_base.ensures.frame

pub returns-in-Err-Worn-clause-counted : goal.returns-in-Err-Worn-clause-counted
returns-in-Err-Worn-clause-counted c = on_both c.args.account.now.spent c.range_in_use.new.account.spent c.mark_base.new.spent c.args.pass.now.seat.me
    c.range_in_use.new.pass.seat.me c.mark_base.new.pass.seat.me c.range_in_use.ensures.counted c.mark_base.ensures.counted

pub returns-in-Ok-clause-steps : goal.returns-in-Ok-clause-steps
returns-in-Ok-clause-steps c = let k = c.in-Ok.ensures.marked in let v = c.range_in_use.new.pass.seat.me.0.upper in
    steps_both c.args.pass.now.seat.me.0.upper v c.mark_base.new.pass.seat.me.0.upper c.in-Ok-None.ensures.in_use.0.steps
    (subst (λ (x : TreeView). OnlySteps c.args.space.now.table.shared.key 0 v x) (sym k.now) (steps_copied v c.in-Ok.base k.copy))

pub returns-in-Err-Lost-clause-steps : goal.returns-in-Err-Lost-clause-steps
returns-in-Err-Lost-clause-steps c = let k = c.in-Err-Lost.ensures.marked in let z = c.args.space.now.table.shared.key in
    let u = c.args.pass.now.seat.me.0.upper in let v = c.range_in_use.new.pass.seat.me.0.upper in let w = c.mark_base.new.pass.seat.me.0.upper in
    let why = c.in-Err-Lost.exchange in
    subst (λ (x : Exchange). OnlySteps z (links_of x) u w) (sym c.in-Err-Lost.exchange-is) (steps_both u v w c.in-Ok-None.ensures.in_use.0.steps
    (subst (λ (x : TreeView). OnlySteps z (links_of why) v x) (sym (k ∙ ap (λ (s : Stop). stopped s v) c.in-Err-Lost.field-0-is)) (steps_lost_by v why)))

pub returns-in-Ok-clause-stepped : goal.returns-in-Ok-clause-stepped
returns-in-Ok-clause-stepped c = let k = c.in-Ok.ensures.marked in let more = c.range_in_use.ensures.counted.passed.more in
    let z = c.args.space.now.table.shared.key in let m = c.args.pass.now.seat.me in let n = c.range_in_use.new.pass.seat.me in
    let one = ap (λ (u : TreeView). u.turns.passed) k.now in (
      at_copy z c.args.mark.now n.0.upper c.mark_base.new.pass.seat.me.0.upper c.args.next c.in-Ok.base
          (at_same z m.0.upper n.0.upper c.args.next c.in-Ok-None.ensures.in_use.0.all c.requires.at) k,
      omega arith,
      met_both 0 0 0 0 m n c.mark_base.new.pass.seat.me (raised_met m n n.0.upper c.in-Ok-None.ensures.in_use.0.raised) c.in-Ok.ensures.found.0,
    )

pub returns-in-Ok-clause-copied : goal.returns-in-Ok-clause-copied
returns-in-Ok-clause-copied c = copy_is c.args.space.now.table.shared.key c.args.mark.now c.args.pass.now.seat.me.0.upper
    c.range_in_use.new.pass.seat.me.0.upper c.mark_base.new.pass.seat.me.0.upper (record c.args.next { base = c.in-Ok.base }) c.in-Ok.base
    c.in-Ok-None.ensures.in_use.0.all.notes c.in-Ok.ensures.marked

pub returns-in-Ok-Some-clause-loads : goal.returns-in-Ok-Some-clause-loads
returns-in-Ok-Some-clause-loads c = let u = c.args.pass.now.seat.me.0.upper in let v = c.range_in_use.new.pass.seat.me.0.upper in
    let z = c.args.space.now.table.shared.key in let learns = c.in-Ok-Some.ensures.in_use.0 in let same = far_same u v learns.all in
    let inside = far_inside z u c.args.next c.requires.at in goes_same z u v (omega arith) (omega arith) learns.loads

pub returns-in-Err-clause-loads : goal.returns-in-Err-clause-loads
returns-in-Err-clause-loads c = let u = c.args.pass.now.seat.me.0.upper in let both = c.in-Err.ensures.in_use.loads in
    ends_by c.args.space.now.table.shared.key u c.range_in_use.new.pass.seat.me.0.upper (far_inside c.args.space.now.table.shared.key u c.args.next c.requires.at)
    (omega arith)

pub returns-in-Ok-clause-loads : goal.returns-in-Ok-clause-loads
returns-in-Ok-clause-loads c = let u = c.args.pass.now.seat.me.0.upper in let v = c.range_in_use.new.pass.seat.me.0.upper in
    let w = c.mark_base.new.pass.seat.me.0.upper in let z = c.args.space.now.table.shared.key in let k = c.in-Ok.ensures.marked in
    let learns = c.in-Ok-None.ensures.in_use.0 in let inside = far_inside z u c.args.next c.requires.at in
    let same = far_copy z c.args.mark.now u v w c.in-Ok.base learns.all.notes k in
    goes_same z u w (omega arith) (omega arith) (ap (λ (x : TreeView). x.loads) k.now ∙ learns.loads)

pub returns-in-Err-Lost-clause-loads : goal.returns-in-Err-Lost-clause-loads
returns-in-Err-Lost-clause-loads c = let u = c.args.pass.now.seat.me.0.upper in let v = c.range_in_use.new.pass.seat.me.0.upper in
    let w = c.mark_base.new.pass.seat.me.0.upper in let z = c.args.space.now.table.shared.key in
    let same = ap (λ (x : TreeView). x.loads) (c.in-Err-Lost.ensures.marked ∙ ap (λ (s : Stop). stopped s v) c.in-Err-Lost.field-0-is)
    ∙ (stopped_loads (stop.Lost c.in-Err-Lost.exchange) v ∙ c.in-Ok-None.ensures.in_use.0.loads) in
    ends_by z u w (far_inside z u c.args.next c.requires.at) (omega arith)

pub returns-in-Err-Empty-clause-loads : goal.returns-in-Err-Empty-clause-loads
returns-in-Err-Empty-clause-loads c = let u = c.args.pass.now.seat.me.0.upper in let v = c.range_in_use.new.pass.seat.me.0.upper in
    let w = c.mark_base.new.pass.seat.me.0.upper in let z = c.args.space.now.table.shared.key in
    let same = ap (λ (x : TreeView). x.loads) (c.in-Err-Empty.ensures.marked ∙ ap (λ (s : Stop). stopped s v) c.in-Err-Empty.field-0-is)
    ∙ (stopped_loads stop.Empty v ∙ c.in-Ok-None.ensures.in_use.0.loads) in
    ends_by z u w (far_inside z u c.args.next c.requires.at) (omega arith)

pub returns-in-Err-Worn-clause-loads : goal.returns-in-Err-Worn-clause-loads
returns-in-Err-Worn-clause-loads c = let u = c.args.pass.now.seat.me.0.upper in let v = c.range_in_use.new.pass.seat.me.0.upper in
    let w = c.mark_base.new.pass.seat.me.0.upper in let z = c.args.space.now.table.shared.key in
    let same = ap (λ (x : TreeView). x.loads) (c.in-Err-Worn.ensures.marked ∙ ap (λ (s : Stop). stopped s v) c.in-Err-Worn.field-0-is)
    ∙ (stopped_loads stop.Worn v ∙ c.in-Ok-None.ensures.in_use.0.loads) in
    ends_by z u w (far_inside z u c.args.next c.requires.at) (omega arith)
