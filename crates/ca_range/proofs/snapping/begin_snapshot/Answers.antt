use Rattle.std.proofs.Common.{◌<◌, ℕ, Option, List, false, vec_len, ◌+◌, ◌≤◌, sym, ap, subst, ◌∙◌, arith}
use Rattle.ca_base.specs.Counting.{HasMet}
use Rattle.ca_base.specs.Putting.{first_note}
use Rattle.ca_model.specs.Edges.{bound_of}
use Rattle.ca_node.specs.Inventory.{IsListed}
use Rattle.ca_node.specs.Told.{MyTree, IsSettled}
use Rattle.ca_node.specs.TreeView.{Inventory, Note, TreeView}
use Rattle.ca_range.specs.Attempts.{CountsJoin}
use Rattle.ca_range.specs.Clearing.{HasGone}
use Rattle.ca_range.specs.Filling.{IsUseOf}
use Rattle.ca_range.specs.Loading.{begin_loads}
use Rattle.ca_range.specs.Looking.{HasLooked, IsFirst, IsNotEnough}
use Rattle.ca_range.specs.Snapping.{GoesOn, snapped_so}
use Rattle.ca_range.specs.Snapshots.{HasRun, HasSnapped, IsInBudget}
use Rattle.ca_range.specs.Using.{HasFoundOf}
use Rattle.ca_range.specs.declared.account.Range.{Range}
use Rattle.ca_range.specs.declared.gathering.Further.TheVariants as further
use Rattle.ca_range.specs.declared.looking.Looked.TheVariants as looked
use Rattle.ca_range.specs.declared.sought.Snapped.{Snapped}
use Rattle.ca_range.specs.declared.sought.Snapped.TheVariants as snapped
use Rattle.ca_rows.specs.declared.kept.KeptRows.{KeptRows}
use Rattle.ca_range.proofs.LoneSteps.{comes_from, nothing_ended}
use Rattle.ca_range.proofs.Filled.{last_shown, raised_met}
use Rattle.ca_range.proofs.FirstBases.{first_still}
use Rattle.ca_range.proofs.FirstLooks.{first_goes, looks_alone}
use Rattle.ca_range.proofs.FirstRuns.{first_run}
use Rattle.ca_range.proofs.GoingOn.{begun_after, no_run_refused, no_run_so, stays_pinned}
use Rattle.ca_range.proofs.OwnSteps.{pinned_both}
use Rattle.ca_range.proofs.SnapshotSteps.{budget_refused, budget_so, gone_snaps, met_on, more_turns, no_less_both, ranges_both, ranges_by_steps, refused_after, refused_so, snapped_after, spent_on, steps_on, walked_still}
use Rattle.ca_base.proofs.Spends.{on_both}
use Rattle.ca_range.proofs.Loaded.{begins_few, begins_helped, ends_few}
use Rattle.ca_range.proofs.snapping.begin_snapshot.Goals as goal

pub returns-in-Done-clause-begun : goal.returns-in-Done-clause-begun
returns-in-Done-clause-begun g c = let z = c.args.space.now.table.shared.key in let m = c.args.pass.now.seat.me in
    let k = c.walk_to_first-first.new.pass.seat.me in let e = c.walk_to_first-first.ensures in
    subst (λ (x : MyTree). HasMet 0 0 m x × HasRun g.F.Fn c.args.search.now.sought.now z x.0.upper
    (record { last = c.walk_to_first-first.result.base; chained = false; whole = c.in-Done.whole })) (sym c.look.ensures.frame.still) (
      raised_met m k k.0.upper e.raised,
      first_run g.F.Fn c.args.search.now.sought.now z k.0.upper c.walk_to_first-first.result c.in-Done.whole _ e.first e.has c.in-Done.ensures.looked,
    )

-- The steps before the last one leave the own range.
helps_on : (g : _) → (c : goal.After-help_first g) → GoesOn c.args.space.now c.args.account.now.spent
    c.range_in_use.new.account.spent c.args.pass.now c.range_in_use.new.pass
helps_on g c = let e = c.walk_to_first-first.ensures in
    first_goes c.args.space.now c.args.pass.now c.walk_to_first-first.new.pass c.look.new.pass
    c.range_in_use.new.pass c.requires.ready e.frame e.raised e.steps e.no_join e.turns
    c.look.ensures.frame c.in-Ok-Some.ensures.in_use.0 c.args.account.now.spent
    c.range_in_use.new.account.spent c.range_in_use.ensures.counted

pub returns-in-Ok-Some-clause-steps : goal.returns-in-Ok-Some-clause-steps
returns-in-Ok-Some-clause-steps g c = ranges_both c.args.pass.now.seat.me.0.upper
    c.range_in_use.new.pass.seat.me.0.upper c.help_first.new.pass.seat.me.0.upper
    (helps_on g c).steps c.help_first.ensures.steps

pub returns-in-Ok-Some-clause-counted : goal.returns-in-Ok-Some-clause-counted
returns-in-Ok-Some-clause-counted g c = on_both c.args.account.now.spent
    c.range_in_use.new.account.spent c.help_first.new.account.spent c.args.pass.now.seat.me
    c.range_in_use.new.pass.seat.me c.help_first.new.pass.seat.me (helps_on g c).counted
    c.help_first.ensures.counted

pub returns-in-Ok-Some-clause-begun : goal.returns-in-Ok-Some-clause-begun
returns-in-Ok-Some-clause-begun g c = let z = c.args.space.now.table.shared.key in
    let m = c.args.pass.now.seat.me in let k = c.walk_to_first-first.new.pass.seat.me in
    let l = c.look.new.pass.seat.me in let n = c.range_in_use.new.pass.seat.me in
    let e = c.walk_to_first-first.ensures in let still = c.look.ensures.frame.still in
    let last = c.help_first.new.pass.seat.me in let spent = c.help_first.new.account.spent in
    let then = c.range_in_use.new.account.spent in
    let less = more_turns c.args.account.now.spent then m n (helps_on g c).counted in
    refused_so g.F.Fn c.args.search.now.sought.now z c.args.search.now.budget spent
    c.help_first.result m last
    (no_less_both m n last less (more_turns then spent n last c.help_first.ensures.counted))
    (refused_after c.args.search.now.budget spent c.help_first.result m n last
    (met_on z m k l n e.raised e.steps e.turns still c.in-Ok-Some.ensures.in_use.0.raised) less
    c.help_first.ensures.refused)

pub begin_range-requires-clause-first : goal.begin_range-requires-clause-first
begin_range-requires-clause-first g c = let z = c.args.space.now.table.shared.key in let e = c.walk_to_first-first.ensures in
    let cursor = c.walk_to_first-first.result in
    let lo = bound_of c.args.search.now.sought.now.lo in
    first_still z lo c.look.new.pass.seat.me.0.upper c.range_in_use.new.pass.seat.me.0.upper cursor c.in-Ok-None.ensures.in_use.0.all
    c.in-Ok-None.ensures.in_use.0.steps.known (subst (λ (x : MyTree). IsFirst z lo x.0.upper cursor) (sym c.look.ensures.frame.still) e.first)

pub begin_range-requires-clause-settled : goal.begin_range-requires-clause-settled
begin_range-requires-clause-settled g c = let z = c.args.space.now.table.shared.key in let l = c.look.new.pass.seat.me in
    let cursor = c.walk_to_first-first.result in
    let first = subst (λ (x : MyTree). IsFirst z (bound_of c.args.search.now.sought.now.lo) x.0.upper cursor) (sym c.look.ensures.frame.still)
    c.walk_to_first-first.ensures.first in
    let h = subst (λ (r : Option Range). HasFoundOf c.args.space.now cursor.base (λ w note. IsUseOf w note r) c.look.new.pass c.range_in_use.new.pass)
    c.in-Ok-None.field-0-is c.in-Ok-None.ensures.in_use in
    subst (λ (ns : List Note). IsSettled c.range_in_use.new.pass.seat.me.0.upper (first_note ns).its) (sym h.0.all.notes)
    (h.1 (first_note l.0.upper.notes) (last_shown z l.0.upper cursor first.gone.at))

pub begin_range-requires-clause-needed : goal.begin_range-requires-clause-needed
begin_range-requires-clause-needed g c = let e = c.walk_to_first-first.ensures in
    let last = c.in-Ok-None.ensures.in_use.0.last ∙ ap (λ (x : MyTree). x.0.upper.last) c.look.ensures.frame.still in (
      subst (λ (n : Note). IsNotEnough g.F.Fn c.args.search.now.sought.now n) (sym last) record {
        holds = e.holds;
        counted = c.in-On.field-0;
        key = c.look.new.key.items;
        looked = subst (λ (n : Note). HasLooked g.F.Fn c.args.search.now.sought.now 0 (looked.On c.in-On.field-0) c.look.new.key.items n) (sym e.last)
            c.in-On.ensures.looked;
      },
      last ∙ (e.last ∙ (sym (ap (λ (x : MyTree). first_note x.0.upper.notes) c.look.ensures.frame.still)
          ∙ sym (ap first_note c.in-Ok-None.ensures.in_use.0.all.notes))),
    )

-- So it is where a range was begun.
begins_on : (g : _) → (c : goal.After-begin_range g) → GoesOn c.args.space.now c.args.account.now.spent
    c.range_in_use.new.account.spent c.args.pass.now c.range_in_use.new.pass
begins_on g c = let e = c.walk_to_first-first.ensures in
    first_goes c.args.space.now c.args.pass.now c.walk_to_first-first.new.pass c.look.new.pass
    c.range_in_use.new.pass c.requires.ready e.frame e.raised e.steps e.no_join e.turns
    c.look.ensures.frame c.in-Ok-None.ensures.in_use.0 c.args.account.now.spent
    c.range_in_use.new.account.spent c.range_in_use.ensures.counted

pub returns-clause-steps : goal.returns-clause-steps
returns-clause-steps g c = ranges_both c.args.pass.now.seat.me.0.upper
    c.range_in_use.new.pass.seat.me.0.upper c.begin_range.new.pass.seat.me.0.upper
    (begins_on g c).steps c.begin_range.ensures.steps

pub returns-clause-counted : goal.returns-clause-counted
returns-clause-counted g c = on_both c.args.account.now.spent c.range_in_use.new.account.spent
    c.begin_range.new.account.spent c.args.pass.now.seat.me c.range_in_use.new.pass.seat.me
    c.begin_range.new.pass.seat.me (begins_on g c).counted c.begin_range.ensures.counted

pub returns-clause-begun : goal.returns-clause-begun
returns-clause-begun g c = let z = c.args.space.now.table.shared.key in
    let m = c.args.pass.now.seat.me in let k = c.walk_to_first-first.new.pass.seat.me in
    let l = c.look.new.pass.seat.me in let n = c.range_in_use.new.pass.seat.me in
    let e = c.walk_to_first-first.ensures in
    begun_after g.F.Fn c.args.search.now.sought.now z c.args.search.now.budget
    c.begin_range.new.account.spent c.begin_range.result m n c.begin_range.new.pass.seat.me
    (met_on z m k l n e.raised e.steps e.turns c.look.ensures.frame.still
    c.in-Ok-None.ensures.in_use.0.raised)
    (more_turns c.args.account.now.spent c.range_in_use.new.account.spent m n
    (begins_on g c).counted) c.begin_range.ensures.begun

pub returns-clause-frame : goal.returns-clause-frame
returns-clause-frame g c = pinned_both c.args.space.now c.args.pass.now
    c.range_in_use.new.pass c.begin_range.new.pass (begins_on g c).frame
    c.begin_range.ensures.frame

pub returns-in-Err-clause-steps : goal.returns-in-Err-clause-steps
returns-in-Err-clause-steps g c = let z = c.args.space.now.table.shared.key in let m = c.args.pass.now.seat.me in
    let k = c.walk_to_first-first.new.pass.seat.me in let l = c.look.new.pass.seat.me in let n = c.range_in_use.new.pass.seat.me in
    let e = c.walk_to_first-first.ensures in
    ranges_by_steps m.0.upper n.0.upper (steps_on z m k l n e.raised e.steps e.turns c.look.ensures.frame.still c.in-Err.ensures.in_use.steps)

pub returns-in-Err-clause-counted : goal.returns-in-Err-clause-counted
returns-in-Err-clause-counted g c = let z = c.args.space.now.table.shared.key in let m = c.args.pass.now.seat.me in
    let k = c.walk_to_first-first.new.pass.seat.me in let l = c.look.new.pass.seat.me in let n = c.range_in_use.new.pass.seat.me in
    let e = c.walk_to_first-first.ensures in
    spent_on z m k l n e.raised e.steps e.turns c.look.ensures.frame.still c.args.account.now.spent c.range_in_use.new.account.spent
    c.range_in_use.ensures.counted

pub returns-in-Err-clause-begun : goal.returns-in-Err-clause-begun
returns-in-Err-clause-begun g c = let z = c.args.space.now.table.shared.key in let m = c.args.pass.now.seat.me in
    let k = c.walk_to_first-first.new.pass.seat.me in let l = c.look.new.pass.seat.me in let n = c.range_in_use.new.pass.seat.me in
    let e = c.walk_to_first-first.ensures in let f = c.in-Err.ensures.in_use in let still = c.look.ensures.frame.still in
    let spent = c.range_in_use.new.account.spent in
    subst (λ (s : Snapped). HasSnapped g.F.Fn c.args.search.now.sought.now z c.args.search.now.budget spent s m n) (sym c.after_help.ensures)
    (snapped_after g.F.Fn c.args.search.now.sought.now z c.args.search.now.budget spent (snapped_so c.in-Err.helped) m k n
    (raised_met m k k.0.upper e.raised)
    (more_turns c.args.account.now.spent c.args.account.now.spent m k (walked_still z m k l n e.raised e.steps e.turns still c.args.account.now.spent))
    (gone_snaps g.F.Fn c.args.search.now.sought.now z c.args.search.now.budget spent c.in-Err.helped k n
    (subst (λ (x : MyTree). HasGone c.in-Err.helped x n) still f.gone) (subst (λ (x : MyTree). CountsJoin c.in-Err.helped x n) still f.counts)))

pub returns-in-Ok-Some-clause-in_budget : goal.returns-in-Ok-Some-clause-in_budget
returns-in-Ok-Some-clause-in_budget g c = budget_refused c.args.search.now.budget c.help_first.new.account.spent c.help_first.result
    c.range_in_use.new.pass.seat.me c.help_first.new.pass.seat.me c.help_first.ensures.refused

pub returns-in-Err-clause-in_budget : goal.returns-in-Err-clause-in_budget
returns-in-Err-clause-in_budget g c = subst (λ (s : Snapped). IsInBudget c.args.search.now.budget c.range_in_use.new.account.spent s) (sym c.after_help.ensures)
    (budget_so c.args.search.now.budget c.range_in_use.new.account.spent c.in-Err.helped)

pub returns-in-Done-clause-loads : goal.returns-in-Done-clause-loads
returns-in-Done-clause-loads g c = let few = c.walk_to_first-first.ensures.loads in
    let same = ap (λ (x : MyTree). x.0.upper.loads) c.look.ensures.frame.still in omega arith

pub returns-in-Ok-Some-clause-loads : goal.returns-in-Ok-Some-clause-loads
returns-in-Ok-Some-clause-loads g c = let z = c.args.space.now.table.shared.key in let v = c.range_in_use.new.pass.seat.me in
    let w = c.help_first.new.pass.seat.me in let few = c.walk_to_first-first.ensures.loads in
    let same = ap (λ (x : MyTree). x.0.upper.loads) c.look.ensures.frame.still in let same' = c.in-Ok-Some.ensures.in_use.0.loads in
    let more = ends_few z v.0.upper w.0.upper c.help_first.ensures.loads in
    begins_helped z c.help_first.result c.args.pass.now.seat.me.0.upper w.0.upper
    (no_run_refused c.args.search.now.budget c.help_first.new.account.spent c.help_first.result v w c.help_first.ensures.refused) (omega arith)

pub returns-in-Err-clause-loads : goal.returns-in-Err-clause-loads
returns-in-Err-clause-loads g c = let z = c.args.space.now.table.shared.key in let u = c.args.pass.now.seat.me.0.upper in
    let w = c.range_in_use.new.pass.seat.me.0.upper in let few = c.walk_to_first-first.ensures.loads in
    let same = ap (λ (x : MyTree). x.0.upper.loads) c.look.ensures.frame.still in let both = c.in-Err.ensures.in_use.loads in
    subst (λ (s : Snapped). w.loads ≤ u.loads + begin_loads z (further.Ended s)) (sym c.after_help.ensures)
    (begins_helped z (snapped_so c.in-Err.helped) u w (no_run_so c.in-Err.helped) (omega arith))

pub returns-clause-loads : goal.returns-clause-loads
returns-clause-loads g c = let few = c.walk_to_first-first.ensures.loads in
    let same = ap (λ (x : MyTree). x.0.upper.loads) c.look.ensures.frame.still in let same' = c.in-Ok-None.ensures.in_use.0.loads in
    let none = c.begin_range.ensures.loads in
    begins_few c.args.space.now.table.shared.key c.begin_range.result c.args.pass.now.seat.me.0.upper c.begin_range.new.pass.seat.me.0.upper (omega arith)

pub returns-in-Ok-Some-clause-frame : goal.returns-in-Ok-Some-clause-frame
returns-in-Ok-Some-clause-frame g c = let space = c.args.space.now in
    let t = c.range_in_use.new.pass in
    pinned_both space c.args.pass.now t c.help_first.new.pass (helps_on g c).frame
    (stays_pinned space t c.help_first.new.pass c.help_first.ensures.frame)

pub returns-in-Done-clause-alone : goal.returns-in-Done-clause-alone
returns-in-Done-clause-alone g c = λ alone unmet. let z = c.args.space.now.table.shared.key in
    let m = c.args.pass.now.seat.me in let l = c.look.new.pass.seat.me in
    let e = c.walk_to_first-first.ensures in let walks = e.alone alone in
    let looks = looks_alone z m c.walk_to_first-first.new.pass.seat.me l e.raised e.steps e.turns
    (e.unfinished ∙ unmet) e.first.known walks c.look.ensures.frame.still alone in (
      walks.few,
      nothing_ended z (snapped.Run (record {
        last = c.walk_to_first-first.result.base;
        chained = false;
        whole = c.in-Done.whole;
      })) (vec_len c.args.pass.now.kept.rows) (vec_len c.look.new.pass.kept.rows) m l
          (let same = ap (λ (x : KeptRows). vec_len x.rows) (c.look.ensures.frame.kept ∙ e.frame.kept) in
          omega arith) looks.unlost looks.turns looks.tree looks.unmet (λ e. absurd cc) (λ e. absurd cc),
    )

pub returns-in-Ok-Some-clause-alone : goal.returns-in-Ok-Some-clause-alone
returns-in-Ok-Some-clause-alone g c = λ alone unmet. let z = c.args.space.now.table.shared.key in
    let m = c.args.pass.now.seat.me in let l = c.look.new.pass.seat.me in
    let e = c.walk_to_first-first.ensures in let walks = e.alone alone in
    let looks = looks_alone z m c.walk_to_first-first.new.pass.seat.me l e.raised e.steps e.turns
    (e.unfinished ∙ unmet) e.first.known walks c.look.ensures.frame.still alone in
    let no = sym c.in-Ok-Some.is
    ∙ (c.range_in_use.ensures.alone looks.alone looks.known looks.unmet).0 in absurd cc

pub returns-in-Err-clause-alone : goal.returns-in-Err-clause-alone
returns-in-Err-clause-alone g c = λ alone unmet. let z = c.args.space.now.table.shared.key in
    let m = c.args.pass.now.seat.me in let l = c.look.new.pass.seat.me in
    let e = c.walk_to_first-first.ensures in let walks = e.alone alone in
    let looks = looks_alone z m c.walk_to_first-first.new.pass.seat.me l e.raised e.steps e.turns
    (e.unfinished ∙ unmet) e.first.known walks c.look.ensures.frame.still alone in
    let no = sym c.in-Err.is
    ∙ (c.range_in_use.ensures.alone looks.alone looks.known looks.unmet).0 in absurd cc

pub returns-clause-alone : goal.returns-clause-alone
returns-clause-alone g c = λ alone unmet. let z = c.args.space.now.table.shared.key in
    let m = c.args.pass.now.seat.me in let l = c.look.new.pass.seat.me in
    let e = c.walk_to_first-first.ensures in let walks = e.alone alone in
    let looks = looks_alone z m c.walk_to_first-first.new.pass.seat.me l e.raised e.steps e.turns
    (e.unfinished ∙ unmet) e.first.known walks c.look.ensures.frame.still alone in
    let p = c.args.pass.now in let t = c.range_in_use.new.pass in let b = c.begin_range.new.pass in
    let learns = c.in-Ok-None.ensures.in_use.0 in let kept = c.look.ensures.frame.kept ∙ e.frame.kept in
    let found = (c.range_in_use.ensures.alone looks.alone looks.known looks.unmet).1 in
    let tree = found.tree ∙ looks.tree in
    let number = ap (λ (u : TreeView). u.number) learns.steps.only in
    let notes = learns.all.notes ∙ ap (λ (x : MyTree). x.0.upper.notes) c.look.ensures.frame.still in
    let kept' = ap (λ (x : KeptRows). vec_len x.rows) (learns.frame.kept ∙ kept) in (
      walks.few,
      comes_from z c.begin_range.result (vec_len p.kept.rows) (vec_len t.kept.rows)
          (vec_len b.kept.rows) m t.seat.me b.seat.me (omega arith)
          (let pool = ap (λ (x : MyTree). x.0.lost) learns.raised in let link = learns.steps.lost_is in
          let before = looks.unlost in omega arith) (found.turns ∙ looks.turns) tree
          (c.begin_range.ensures.alone
          (looks.alone.0, subst (λ (n : ℕ). 0 < n) (sym number) looks.alone.1) found.unmet
          (subst (λ (x : Inventory × List Note). IsListed x.0 (first_note x.1))
          (λ i. (sym tree i, sym notes i)) walks.listed)),
    )
