use Rattle.std.proofs.Common.{◌<◌, ℕ, List, vec_len, sym, ap, ◌∙◌, subst, arith}
use Rattle.ca_base.specs.Putting.{first_note}
use Rattle.ca_base.proofs.Counts.{met_both}
use Rattle.ca_node.specs.Links.{IsIn}
use Rattle.ca_node.specs.LoneStays.{none_by_marking}
use Rattle.ca_node.specs.Told.{MyTree, IsSettled}
use Rattle.ca_node.specs.TreeView.{Note, TreeView, Unfinished}
use Rattle.ca_range.specs.Farther.{reach}
use Rattle.ca_range.specs.Filling.{IsInUse}
use Rattle.ca_range.specs.Gathering.{HasEnded, HasNoRun}
use Rattle.ca_range.specs.Marked.{IsOwnLast}
use Rattle.ca_range.specs.Meeting.{AreMet}
use Rattle.ca_range.specs.declared.gathering.Further.TheVariants as further
use Rattle.ca_range.specs.declared.sought.Snapped.{Snapped}
use Rattle.ca_range.proofs.Filled.{at_same, far_same, last_shown, raised_met}
use Rattle.ca_range.proofs.GoingOn.{further_on, goes_steps, no_run_refused, no_run_so, refused_ends, stays_pinned}
use Rattle.ca_range.proofs.NextGathered.{marking_on, next_on}
use Rattle.ca_range.proofs.OwnSteps.{ended_on, goes_both, goes_over, number_on, ready_on}
use Rattle.ca_range.proofs.Readied.{ready_after, ready_still}
use Rattle.ca_range.proofs.SnapshotSteps.{gone_ends, more_turns, no_less, no_less_both, ranges_by_steps}
use Rattle.ca_rows.specs.declared.kept.KeptRows.{KeptRows}
use Rattle.ca_range.proofs.LoneSteps.{next_learns}
use Rattle.ca_range.proofs.Loaded.{ends_after, ends_by, gathers_none, goes_same}
use Rattle.ca_range.proofs.Ranking.{far_inside}
use Rattle.ca_range.proofs.going.go_to.Goals as goal

pub use_of-requires-clause-other : goal.use_of-requires-clause-other
use_of-requires-clause-other g c = let own = c.requires.next.between.marking in
    none_by_marking c.args.pass.now.seat.me.0.upper.ranges.own own.begun own.border own.is

pub mark_on-requires-clause-ready : goal.mark_on-requires-clause-ready
mark_on-requires-clause-ready g c = ready_still c.args.space.now c.args.pass.now c.use_of.new.pass c.requires.ready c.in-Free.ensures.used.0.frame
    c.in-Free.ensures.used.0.raised c.in-Free.ensures.used.0.steps

pub mark_on-requires-clause-number : goal.mark_on-requires-clause-number
mark_on-requires-clause-number g c = c.in-Free.ensures.used.0.frame.number
    ∙ (c.requires.number ∙ sym (ap (λ (u : TreeView). u.number) c.in-Free.ensures.used.0.steps.only))

pub mark_on-requires-clause-next : goal.mark_on-requires-clause-next
mark_on-requires-clause-next g c = let e = c.in-Free.ensures.used.0 in
    next_on g.F.Fn c.args.search.now.sought.now c.args.space.now.table.shared.key c.args.pass.now.seat.me.0.upper c.use_of.new.pass.seat.me.0.upper c.args.from
    c.args.next e.all (ap (λ (u : TreeView). u.ranges.own) e.steps.only) (ap (λ (u : TreeView). u.number) e.steps.only) e.borders e.steps.known c.requires.next

pub mark_on-requires-clause-settled : goal.mark_on-requires-clause-settled
mark_on-requires-clause-settled g c = let u = c.args.pass.now.seat.me.0.upper in
    subst (λ (ns : List Note). IsSettled c.use_of.new.pass.seat.me.0.upper (first_note ns).its) (sym c.in-Free.ensures.used.0.all.notes)
    (c.in-Free.ensures.used.1 (first_note u.notes) (last_shown c.args.space.now.table.shared.key u c.args.next c.requires.next.gone.at))

pub returns-in-Free-clause-goes : goal.returns-in-Free-clause-goes
returns-in-Free-clause-goes g c = let e = c.in-Free.ensures.used.0 in let p = c.args.pass.now in let q = c.use_of.new.pass in
    goes_both c.args.space.now c.args.account.now.spent c.use_of.new.account.spent c.mark_on.new.account.spent p q c.mark_on.new.pass
    (goes_steps c.args.space.now c.args.account.now.spent c.use_of.new.account.spent p q c.requires.ready e.frame e.raised e.no_join e.steps
    c.use_of.ensures.counted)
    c.mark_on.ensures.goes

pub returns-in-Free-clause-further : goal.returns-in-Free-clause-further
returns-in-Free-clause-further g c = λ far less. let e = c.in-Free.ensures.used.0 in let m = c.args.pass.now.seat.me in let k = c.use_of.new.pass.seat.me in
    let same = far_same m.0.upper k.0.upper e.all in
    further_on g.F.Fn c.args.search.now.sought.now c.args.space.now.table.shared.key far c.args.search.now.budget c.mark_on.new.account.spent
    c.mark_on.result m k c.mark_on.new.pass.seat.me (raised_met m k k.0.upper e.raised)
    (more_turns c.args.account.now.spent c.use_of.new.account.spent m k c.use_of.ensures.counted)
    (c.mark_on.ensures.further far (let more : far < reach k.0.upper = omega arith in more))

pub follow-requires-clause-ready : goal.follow-requires-clause-ready
follow-requires-clause-ready g c = ready_still c.args.space.now c.args.pass.now c.use_of.new.pass c.requires.ready c.in-Own.ensures.used.0.frame
    c.in-Own.ensures.used.0.raised c.in-Own.ensures.used.0.steps

pub follow-requires-clause-number : goal.follow-requires-clause-number
follow-requires-clause-number g c = c.in-Own.ensures.used.0.frame.number
    ∙ (c.requires.number ∙ sym (ap (λ (u : TreeView). u.number) c.in-Own.ensures.used.0.steps.only))

pub follow-requires-clause-next : goal.follow-requires-clause-next
follow-requires-clause-next g c = let e = c.in-Own.ensures.used.0 in
    next_on g.F.Fn c.args.search.now.sought.now c.args.space.now.table.shared.key c.args.pass.now.seat.me.0.upper c.use_of.new.pass.seat.me.0.upper c.args.from
    c.args.next e.all (ap (λ (u : TreeView). u.ranges.own) e.steps.only) (ap (λ (u : TreeView). u.number) e.steps.only) e.borders e.steps.known c.requires.next

pub follow-requires-clause-own : goal.follow-requires-clause-own
follow-requires-clause-own g c = let u = c.args.pass.now.seat.me.0.upper in let v = c.use_of.new.pass.seat.me.0.upper in
    subst (λ (ns : List Note). IsOwnLast v (first_note ns)) (sym c.in-Own.ensures.used.0.all.notes)
    (c.in-Own.ensures.used.1 (first_note u.notes) (last_shown c.args.space.now.table.shared.key u c.args.next c.requires.next.gone.at))

pub returns-in-Own-clause-goes : goal.returns-in-Own-clause-goes
returns-in-Own-clause-goes g c = let e = c.in-Own.ensures.used.0 in let p = c.args.pass.now in let q = c.use_of.new.pass in let r = c.follow.new.pass in
    let a = c.args.account.now.spent in let b = c.use_of.new.account.spent in
    goes_both c.args.space.now a b b p q r (goes_steps c.args.space.now a b p q c.requires.ready e.frame e.raised e.no_join e.steps c.use_of.ensures.counted)
    (c.follow.ensures.goes b)

pub returns-in-Own-clause-met : goal.returns-in-Own-clause-met
returns-in-Own-clause-met g c = subst (AreMet c.use_of.new.account.met.numbers) (sym c.follow.ensures.unfinished) c.use_of.ensures.met

pub returns-in-Own-clause-further : goal.returns-in-Own-clause-further
returns-in-Own-clause-further g c = λ far less. let e = c.in-Own.ensures.used.0 in let m = c.args.pass.now.seat.me in let k = c.use_of.new.pass.seat.me in
    let same = far_same m.0.upper k.0.upper e.all in let spent = c.use_of.new.account.spent in
    further_on g.F.Fn c.args.search.now.sought.now c.args.space.now.table.shared.key far c.args.search.now.budget spent
    c.follow.result m k c.follow.new.pass.seat.me (raised_met m k k.0.upper e.raised)
    (more_turns c.args.account.now.spent spent m k c.use_of.ensures.counted)
    (c.follow.ensures.further far c.args.search.now.budget spent (let more : far < reach k.0.upper = omega arith in more))

pub give_up-requires-clause-ready : goal.give_up-requires-clause-ready
give_up-requires-clause-ready g c = ready_still c.args.space.now c.args.pass.now c.use_of.new.pass c.requires.ready c.in-Other.ensures.used.0.frame
    c.in-Other.ensures.used.0.raised c.in-Other.ensures.used.0.steps

pub give_up-requires-clause-number : goal.give_up-requires-clause-number
give_up-requires-clause-number g c = c.in-Other.ensures.used.0.frame.number
    ∙ (c.requires.number ∙ sym (ap (λ (u : TreeView). u.number) c.in-Other.ensures.used.0.steps.only))

pub give_up-requires-clause-marking : goal.give_up-requires-clause-marking
give_up-requires-clause-marking g c = let e = c.in-Other.ensures.used.0 in
    marking_on c.args.space.now.table.shared.key c.args.pass.now.seat.me.0.upper c.use_of.new.pass.seat.me.0.upper c.args.from.own
    (ap (λ (u : TreeView). u.ranges.own) e.steps.only) (ap (λ (u : TreeView). u.number) e.steps.only) e.borders c.requires.next.between.marking

pub help_first-requires-clause-ready : goal.help_first-requires-clause-ready
help_first-requires-clause-ready g c = let e = c.in-Other.ensures.used.0 in let q = c.use_of.new.pass in let r = c.give_up.new.pass in
    let s = c.give_up.ensures in
    ready_on c.args.space.now q r (ready_still c.args.space.now c.args.pass.now q c.requires.ready e.frame e.raised e.steps) s.frame s.steps

pub help_first-requires-clause-number : goal.help_first-requires-clause-number
help_first-requires-clause-number g c = let e = c.in-Other.ensures.used.0 in let q = c.use_of.new.pass in let r = c.give_up.new.pass in
    let s = c.give_up.ensures in
    number_on c.args.space.now q r (e.frame.number ∙ (c.requires.number ∙ sym (ap (λ (u : TreeView). u.number) e.steps.only))) s.frame s.steps

pub help_first-requires-clause-met : goal.help_first-requires-clause-met
help_first-requires-clause-met g c = subst (AreMet c.use_of.new.account.met.numbers) (sym c.give_up.ensures.unfinished) c.use_of.ensures.met

pub help_first-requires-clause-at : goal.help_first-requires-clause-at
help_first-requires-clause-at g c = let z = c.args.space.now.table.shared.key in let s = c.give_up.ensures in
    at_same z c.use_of.new.pass.seat.me.0.upper c.give_up.new.pass.seat.me.0.upper c.args.next (record { notes = s.notes.0; ways = s.notes.1 })
    (at_same z c.args.pass.now.seat.me.0.upper c.use_of.new.pass.seat.me.0.upper c.args.next c.in-Other.ensures.used.0.all c.requires.next.gone.at)

pub help_first-requires-clause-used : goal.help_first-requires-clause-used
help_first-requires-clause-used g c = let z = c.args.space.now.table.shared.key in let s = c.give_up.ensures in
    let u = c.args.pass.now.seat.me.0.upper in let range = c.in-Other.range in
    let used = c.in-Other.ensures.used.1 (first_note u.notes) (last_shown z u c.args.next c.requires.next.gone.at) in
    let number = ap (λ (x : TreeView). x.number) s.steps.only in
    subst (λ (ns : List Note). IsInUse c.give_up.new.pass.seat.me.0.upper (first_note ns) range) (sym (s.notes.0 ∙ c.in-Other.ensures.used.0.all.notes))
    record {
      marked = used.marked;
      unfinished = subst (λ (xs : List Unfinished). IsIn {A = Unfinished} (record { pass = range.owner; number = range.number }) xs) (sym s.unfinished)
          used.unfinished;
      other = (used.other.0, used.other.1, λ own. used.other.2 (own ∙ number));
    }

pub returns-in-Other-clause-goes : goal.returns-in-Other-clause-goes
returns-in-Other-clause-goes g c = let e = c.in-Other.ensures.used.0 in let p = c.args.pass.now in let q = c.use_of.new.pass in let r = c.give_up.new.pass in
    let t = c.help_first.new.pass in let s = c.give_up.ensures in let a = c.args.account.now.spent in let b = c.use_of.new.account.spent in
    let d = c.help_first.new.account.spent in
    goes_both c.args.space.now a b d p r t (goes_both c.args.space.now a b b p q r
    (goes_steps c.args.space.now a b p q c.requires.ready e.frame e.raised e.no_join e.steps c.use_of.ensures.counted)
    (goes_over c.args.space.now b q r s.frame s.steps s.still.0 s.still.1)) record {
      frame = stays_pinned c.args.space.now r t c.help_first.ensures.frame;
      steps = c.help_first.ensures.steps;
      counted = c.help_first.ensures.counted;
    }

pub returns-in-Other-clause-further : goal.returns-in-Other-clause-further
returns-in-Other-clause-further g c = λ far less. let m = c.args.pass.now.seat.me in let k = c.use_of.new.pass.seat.me in
    let l = c.give_up.new.pass.seat.me in let n = c.help_first.new.pass.seat.me in let z = c.args.space.now.table.shared.key in
    let sought = c.args.search.now.sought.now in let spent = c.help_first.new.account.spent in
    ended_on g.F.Fn sought z c.args.search.now.budget spent c.help_first.result m l n
    (met_both 0 0 0 0 m k l (raised_met m k k.0.upper c.in-Other.ensures.used.0.raised) c.give_up.ensures.met)
    (no_less_both m k l (more_turns c.args.account.now.spent c.use_of.new.account.spent m k c.use_of.ensures.counted)
    (no_less k l c.give_up.ensures.still.0 c.give_up.ensures.still.1))
    (refused_ends g.F.Fn sought z c.args.search.now.budget spent c.help_first.result l n c.help_first.ensures.refused)

pub returns-in-Other-clause-quiet : goal.returns-in-Other-clause-quiet
returns-in-Other-clause-quiet g c = c.help_first.ensures.frame.own_range ∙ c.give_up.ensures.quiet

pub give_up-requires-in-Gone-clause-ready : goal.give_up-requires-in-Gone-clause-ready
give_up-requires-in-Gone-clause-ready g c = let f = c.in-Gone.ensures.used in
    ready_after c.args.space.now c.args.pass.now c.use_of.new.pass c.requires.ready f.frame f.steps

pub give_up-requires-in-Gone-clause-number : goal.give_up-requires-in-Gone-clause-number
give_up-requires-in-Gone-clause-number g c = let f = c.in-Gone.ensures.used in
    f.frame.number ∙ (c.requires.number ∙ sym (ap (λ (u : TreeView). u.number) f.steps.only))

pub give_up-requires-in-Gone-clause-marking : goal.give_up-requires-in-Gone-clause-marking
give_up-requires-in-Gone-clause-marking g c = let f = c.in-Gone.ensures.used in
    marking_on c.args.space.now.table.shared.key c.args.pass.now.seat.me.0.upper c.use_of.new.pass.seat.me.0.upper c.args.from.own
    (ap (λ (u : TreeView). u.ranges.own) f.steps.only) (ap (λ (u : TreeView). u.number) f.steps.only) f.borders c.requires.next.between.marking

pub returns-in-Gone-clause-goes : goal.returns-in-Gone-clause-goes
returns-in-Gone-clause-goes g c = let f = c.in-Gone.ensures.used in let p = c.args.pass.now in let q = c.use_of.new.pass in
    let r = c.give_up-in-Gone.new.pass in let s = c.give_up-in-Gone.ensures in let a = c.args.account.now.spent in let b = c.use_of.new.account.spent in
    goes_both c.args.space.now a b b p q r record {
      frame = stays_pinned c.args.space.now p q f.frame;
      steps = ranges_by_steps p.seat.me.0.upper q.seat.me.0.upper f.steps;
      counted = c.use_of.ensures.counted;
    } (goes_over c.args.space.now b q r s.frame s.steps s.still.0 s.still.1)

pub returns-in-Gone-clause-met : goal.returns-in-Gone-clause-met
returns-in-Gone-clause-met g c = subst (AreMet c.use_of.new.account.met.numbers) (sym c.give_up-in-Gone.ensures.unfinished) c.use_of.ensures.met

pub returns-in-Gone-clause-further : goal.returns-in-Gone-clause-further
returns-in-Gone-clause-further g c = λ far less. let f = c.in-Gone.ensures.used in let m = c.args.pass.now.seat.me in let k = c.use_of.new.pass.seat.me in
    let n = c.give_up-in-Gone.new.pass.seat.me in let z = c.args.space.now.table.shared.key in let sought = c.args.search.now.sought.now in
    let spent = c.use_of.new.account.spent in
    subst (λ (s : Snapped). HasEnded g.F.Fn sought z c.args.search.now.budget spent s m n) (sym c.after_help.ensures)
    (gone_ends g.F.Fn sought z c.args.search.now.budget spent c.in-Gone.helped m k n f.gone f.counts c.give_up-in-Gone.ensures.met
    (no_less k n c.give_up-in-Gone.ensures.still.0 c.give_up-in-Gone.ensures.still.1))

pub returns-in-Other-clause-no_run : goal.returns-in-Other-clause-no_run
returns-in-Other-clause-no_run g c = no_run_refused c.args.search.now.budget c.help_first.new.account.spent c.help_first.result
    c.give_up.new.pass.seat.me c.help_first.new.pass.seat.me c.help_first.ensures.refused

pub returns-in-Gone-clause-no_run : goal.returns-in-Gone-clause-no_run
returns-in-Gone-clause-no_run g c = subst (λ (s : Snapped). HasNoRun (further.Ended s)) (sym c.after_help.ensures) (no_run_so c.in-Gone.helped)

pub returns-in-Free-clause-loads : goal.returns-in-Free-clause-loads
returns-in-Free-clause-loads g c = let z = c.args.space.now.table.shared.key in let u = c.args.pass.now.seat.me.0.upper in
    gathers_none z c.mark_on.result u c.mark_on.new.pass.seat.me.0.upper (far_inside z u c.args.next c.requires.next.gone.at)
    (c.mark_on.ensures.loads ∙ c.in-Free.ensures.used.0.loads)

pub returns-in-Own-clause-loads : goal.returns-in-Own-clause-loads
returns-in-Own-clause-loads g c = let z = c.args.space.now.table.shared.key in let u = c.args.pass.now.seat.me.0.upper in
    gathers_none z c.follow.result u c.follow.new.pass.seat.me.0.upper (far_inside z u c.args.next c.requires.next.gone.at)
    (c.follow.ensures.loads ∙ c.in-Own.ensures.used.0.loads)

pub returns-in-Other-clause-loads : goal.returns-in-Other-clause-loads
returns-in-Other-clause-loads g c = let z = c.args.space.now.table.shared.key in let u = c.args.pass.now.seat.me.0.upper in
    let v = c.use_of.new.pass.seat.me.0.upper in let w = c.give_up.new.pass.seat.me.0.upper in let e = c.in-Other.ensures.used.0 in
    let inside = far_inside z u c.args.next c.requires.next.gone.at in let same = far_same u v e.all in
    let same' = far_same v w (record { notes = c.give_up.ensures.notes.0; ways = c.give_up.ensures.notes.1 }) in
    let few = c.give_up.ensures.loads in let few' = e.loads in
    ends_after z u w c.help_first.new.pass.seat.me.0.upper (goes_same z u w (omega arith) (omega arith) (omega arith)) c.help_first.ensures.loads

pub returns-in-Gone-clause-loads : goal.returns-in-Gone-clause-loads
returns-in-Gone-clause-loads g c = let z = c.args.space.now.table.shared.key in let u = c.args.pass.now.seat.me.0.upper in
    let both = c.in-Gone.ensures.used.loads in let same = c.give_up-in-Gone.ensures.loads in
    ends_by z u c.give_up-in-Gone.new.pass.seat.me.0.upper (far_inside z u c.args.next c.requires.next.gone.at) (omega arith)

pub returns-in-Free-clause-alone : goal.returns-in-Free-clause-alone
returns-in-Free-clause-alone g c = λ kept m alone next. let e = c.in-Free.ensures.used.0 in let p = c.args.pass.now in let q = c.use_of.new.pass in
    let number = ap (λ (u : TreeView). u.number) e.steps.only in
    c.mark_on.ensures.alone kept m (alone.0, subst (λ (n : ℕ). 0 < n) (sym number) alone.1)
    (next_learns kept (vec_len p.kept.rows) (vec_len q.kept.rows) m p.seat.me q.seat.me
    (let same = ap (λ (x : KeptRows). vec_len x.rows) e.frame.kept in omega arith)
    (let lost = ap (λ (x : MyTree). x.0.lost) e.raised in let link = e.steps.lost_is in omega arith)
    (c.in-Free.ensures.alone alone c.requires.next.known next.spends.unmet).1 e.all.notes (ap (λ (u : TreeView). u.ranges.own) e.steps.only) number next)

pub returns-in-Own-clause-alone : goal.returns-in-Own-clause-alone
returns-in-Own-clause-alone g c = λ kept m alone next. let e = c.in-Own.ensures.used.0 in let p = c.args.pass.now in let q = c.use_of.new.pass in
    let number = ap (λ (u : TreeView). u.number) e.steps.only in
    c.follow.ensures.alone kept m (alone.0, subst (λ (n : ℕ). 0 < n) (sym number) alone.1)
    (next_learns kept (vec_len p.kept.rows) (vec_len q.kept.rows) m p.seat.me q.seat.me
    (let same = ap (λ (x : KeptRows). vec_len x.rows) e.frame.kept in omega arith)
    (let lost = ap (λ (x : MyTree). x.0.lost) e.raised in let link = e.steps.lost_is in omega arith)
    (c.in-Own.ensures.alone alone c.requires.next.known next.spends.unmet).1 e.all.notes (ap (λ (u : TreeView). u.ranges.own) e.steps.only) number next)

pub returns-in-Other-clause-alone : goal.returns-in-Other-clause-alone
returns-in-Other-clause-alone g c = λ kept m alone next. absurd (c.in-Other.ensures.alone alone c.requires.next.known next.spends.unmet).0

pub returns-in-Gone-clause-alone : goal.returns-in-Gone-clause-alone
returns-in-Gone-clause-alone g c = λ kept m alone next. absurd (c.in-Gone.ensures.alone alone c.requires.next.known next.spends.unmet).0
