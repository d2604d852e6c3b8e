use Rattle.std.proofs.Common.{◌≡◌, ◌≤◌, ◌<◌, ℕ, true, false, vec_len, inl, sym, refl, ap, ◌∙◌, subst, arith}
use Rattle.ca_base.specs.Counting.{losses}
use Rattle.ca_base.specs.Putting.{first_note}
use Rattle.ca_base.proofs.Counts.{met_both}
use Rattle.ca_model.specs.Edges.{bound_of}
use Rattle.ca_node.specs.Inventory.{IsListed}
use Rattle.ca_node.specs.States.{IsAlone}
use Rattle.ca_node.specs.Told.{MyTree, IsSettled}
use Rattle.ca_node.specs.TreeView.{TreeView, Turns}
use Rattle.ca_range.specs.Looking.{IsFirst, IsNotEnough}
use Rattle.ca_range.specs.Opening.{begun_at}
use Rattle.ca_range.specs.Lonely.{IsThere}
use Rattle.ca_range.specs.declared.gathering.Further.TheVariants as further
use Rattle.ca_rows.specs.declared.kept.KeptRows.{KeptRows}
use Rattle.ca_range.proofs.LoneMarked.{put_on}
use Rattle.ca_range.proofs.LoneSteps.{comes_from}
use Rattle.ca_range.proofs.OwnFirst.{first_begun, first_goes, first_ready, loads_now, lost_now, met_now, turns_now, upper_now}
use Rattle.ca_range.proofs.SnapshotSteps.{crossed_turns, more_turns, no_less, no_less_both}
use Rattle.ca_range.proofs.opening.begin_with.Goals as goal

pub put_first-requires-clause-ready : goal.put_first-requires-clause-ready
put_first-requires-clause-ready g c = let z = c.args.space.now.table.shared.key in let p = c.first_mark-mark.new.pass in let e = c.first_mark-mark.ensures in
    let o = c.requires.owner in let still = e.frame.still in let lo = bound_of c.args.search.now.sought.now.lo in
    let is_pass = subst (λ (n : ℕ). 0 < n) (sym (ap (λ (x : MyTree). x.0.upper.number) still ∙ o.same_number)) o.some_number in
    first_ready z p.seat.me c.write_first.new.pass.seat.me c.open_own.new.pass.seat.me c.args.rows c.args.first p.number lo
    (bound_of c.args.search.now.sought.now.hi) c.first_mark-mark.result
    (subst (λ (x : MyTree). IsFirst z lo x.0.upper c.args.first) (sym still) c.requires.first)
    (e.frame.number ∙ (sym o.same_number ∙ sym (ap (λ (x : MyTree). x.0.upper.number) still)))
    (e.range.0 ∙ sym e.frame.number) e.range.1 e.back e.bound c.requires.number.3 c.write_first.ensures.written c.open_own.ensures.opened
    (ap (λ (x : MyTree). x.0.pin.pinned) still ∙ o.reading.pinned) is_pass
    (subst (λ (x : MyTree). IsSettled x.0.upper (first_note x.0.upper.notes).its) (sym still) c.requires.settled)

pub returns-then-not-put_first-clause-goes : goal.returns-then-not-put_first-clause-goes
returns-then-not-put_first-clause-goes g c = first_goes c.args.space.now c.args.pass.now c.first_mark-mark.new.pass c.write_first.new.pass c.open_own.new.pass
    c.put_first.new.pass false c.args.rows (begun_at c.args.rows.own (bound_of c.args.search.now.sought.now.lo)) c.first_mark-mark.ensures.frame
    c.write_first.ensures.frame c.write_first.ensures.written.only c.open_own.ensures.frame c.open_own.ensures.opened c.put_first.ensures.frame
    c.if-not-put_first.ensures.done c.args.account.now.spent c.put_first.new.spent c.put_first.ensures.counted

pub returns-then-not-put_first-clause-begun : goal.returns-then-not-put_first-clause-begun
returns-then-not-put_first-clause-begun g c = let m = c.args.pass.now.seat.me in let k = c.open_own.new.pass.seat.me in let l = c.put_first.new.pass.seat.me in
    let d = c.if-not-put_first.ensures.done in let begun = begun_at c.args.rows.own (bound_of c.args.search.now.sought.now.lo) in
    let met = met_now c.args.space.now c.args.pass.now c.first_mark-mark.new.pass c.write_first.new.pass c.open_own.new.pass
    c.put_first.new.pass false c.args.rows begun c.first_mark-mark.ensures.frame
    c.write_first.ensures.frame c.write_first.ensures.written.only c.open_own.ensures.frame c.open_own.ensures.opened c.put_first.ensures.frame d in
    let before = lost_now c.args.space.now c.args.pass.now c.first_mark-mark.new.pass c.write_first.new.pass c.open_own.new.pass
    c.put_first.new.pass false c.args.rows begun c.first_mark-mark.ensures.frame
    c.write_first.ensures.frame c.write_first.ensures.written.only c.open_own.ensures.frame c.open_own.ensures.opened c.put_first.ensures.frame d in
    let turns = turns_now c.args.space.now c.args.pass.now c.first_mark-mark.new.pass c.write_first.new.pass c.open_own.new.pass
    c.put_first.new.pass false c.args.rows begun c.first_mark-mark.ensures.frame
    c.write_first.ensures.frame c.write_first.ensures.written.only c.open_own.ensures.frame c.open_own.ensures.opened c.put_first.ensures.frame d in
    let less = no_less_both m k l (no_less m k before turns) (more_turns c.args.account.now.spent c.put_first.new.spent k l c.put_first.ensures.counted) in
    let more = c.put_first.ensures.lost c.if-not-put_first.true in let lost : losses m < losses l = omega (arith, before, more) in
    (met_both 0 0 0 0 m k l met c.put_first.ensures.met, crossed_turns m l less (inl lost), inl (inl lost))

pub returns-clause-goes : goal.returns-clause-goes
returns-clause-goes g c = first_goes c.args.space.now c.args.pass.now c.first_mark-mark.new.pass c.write_first.new.pass c.open_own.new.pass
    c.put_first.new.pass true c.args.rows (begun_at c.args.rows.own (bound_of c.args.search.now.sought.now.lo)) c.first_mark-mark.ensures.frame
    c.write_first.ensures.frame c.write_first.ensures.written.only c.open_own.ensures.frame c.open_own.ensures.opened c.put_first.ensures.frame
    c.if-not-put_first.ensures.done c.args.account.now.spent c.put_first.new.spent c.put_first.ensures.counted

pub returns-clause-begun : goal.returns-clause-begun
returns-clause-begun g c = let m = c.args.pass.now.seat.me in let k = c.open_own.new.pass.seat.me in let l = c.put_first.new.pass.seat.me in
    let d = c.if-not-put_first.ensures.done in
    let begun = begun_at c.args.rows.own (bound_of c.args.search.now.sought.now.lo) in
    let met = met_now c.args.space.now c.args.pass.now c.first_mark-mark.new.pass c.write_first.new.pass c.open_own.new.pass
    c.put_first.new.pass true c.args.rows begun c.first_mark-mark.ensures.frame
    c.write_first.ensures.frame c.write_first.ensures.written.only c.open_own.ensures.frame c.open_own.ensures.opened c.put_first.ensures.frame d in
    let lost = lost_now c.args.space.now c.args.pass.now c.first_mark-mark.new.pass c.write_first.new.pass c.open_own.new.pass
    c.put_first.new.pass true c.args.rows begun c.first_mark-mark.ensures.frame
    c.write_first.ensures.frame c.write_first.ensures.written.only c.open_own.ensures.frame c.open_own.ensures.opened c.put_first.ensures.frame d in
    let turns = turns_now c.args.space.now c.args.pass.now c.first_mark-mark.new.pass c.write_first.new.pass c.open_own.new.pass
    c.put_first.new.pass true c.args.rows begun c.first_mark-mark.ensures.frame
    c.write_first.ensures.frame c.write_first.ensures.written.only c.open_own.ensures.frame c.open_own.ensures.opened c.put_first.ensures.frame d in
    let helped = ap (λ (t : Turns). t.helped) turns in let passed = ap (λ (t : Turns). t.passed) turns in
    let helped' = ap (λ (u : TreeView). u.turns.helped) d.2 in let passed' = ap (λ (u : TreeView). u.turns.passed) d.2 in
    let e = c.first_mark-mark.ensures in let z = c.args.space.now.table.shared.key in let p = c.first_mark-mark.new.pass in
    let o = c.requires.owner in let still = e.frame.still in let lo = bound_of c.args.search.now.sought.now.lo in
    let copy = c.requires.held.0.0.each c.args.rows.copy (0, refl) in let border = c.requires.held.0.0.each c.args.rows.own.border (1, refl) in
    first_begun z p.seat.me c.write_first.new.pass.seat.me c.open_own.new.pass.seat.me c.args.rows c.args.first p.number lo
    (bound_of c.args.search.now.sought.now.hi) c.first_mark-mark.result
    (subst (λ (x : MyTree). IsFirst z lo x.0.upper c.args.first) (sym still) c.requires.first)
    (e.frame.number ∙ (sym o.same_number ∙ sym (ap (λ (x : MyTree). x.0.upper.number) still)))
    (e.range.0 ∙ sym e.frame.number) e.range.1 e.back e.bound c.requires.number.3 c.write_first.ensures.written c.open_own.ensures.opened
    g.F.Fn c.args.search.now.sought.now l c.args.search.now.budget c.put_first.new.spent d refl refl copy.0 copy.1 border.1
    (subst (λ (n : ℕ). 0 < n) (sym e.frame.number) o.some_number) (subst (λ (n : ℕ). n ≤ 64) (sym e.frame.number) o.few)
    (subst (λ (x : MyTree). IsNotEnough g.F.Fn c.args.search.now.sought.now (first_note x.0.upper.notes)) (sym still) c.requires.needed) m
    (met_both 0 0 0 0 m k l met c.put_first.ensures.met) (let h = passed in let h' = passed' in omega arith)

pub returns-then-not-put_first-clause-loads : goal.returns-then-not-put_first-clause-loads
returns-then-not-put_first-clause-loads g c = loads_now c.args.space.now c.args.pass.now c.first_mark-mark.new.pass c.write_first.new.pass c.open_own.new.pass
    c.put_first.new.pass false c.args.rows (begun_at c.args.rows.own (bound_of c.args.search.now.sought.now.lo)) c.first_mark-mark.ensures.frame
    c.write_first.ensures.frame c.write_first.ensures.written.only c.open_own.ensures.frame c.open_own.ensures.opened c.put_first.ensures.frame
    c.if-not-put_first.ensures.done

pub returns-clause-loads : goal.returns-clause-loads
returns-clause-loads g c = loads_now c.args.space.now c.args.pass.now c.first_mark-mark.new.pass c.write_first.new.pass c.open_own.new.pass
    c.put_first.new.pass true c.args.rows (begun_at c.args.rows.own (bound_of c.args.search.now.sought.now.lo)) c.first_mark-mark.ensures.frame
    c.write_first.ensures.frame c.write_first.ensures.written.only c.open_own.ensures.frame c.open_own.ensures.opened c.put_first.ensures.frame
    c.if-not-put_first.ensures.done

pub returns-then-not-put_first-clause-alone : goal.returns-then-not-put_first-clause-alone
returns-then-not-put_first-clause-alone g c = λ alone unmet listed. let d = c.if-not-put_first.ensures.done in
    let begun = begun_at c.args.rows.own (bound_of c.args.search.now.sought.now.lo) in
    let upper = upper_now c.args.space.now c.args.pass.now c.first_mark-mark.new.pass c.write_first.new.pass c.open_own.new.pass
    c.put_first.new.pass false c.args.rows begun c.first_mark-mark.ensures.frame
    c.write_first.ensures.frame c.write_first.ensures.written.only c.open_own.ensures.frame c.open_own.ensures.opened c.put_first.ensures.frame d in
    let won = (c.put_first.ensures.alone (subst (λ (u : TreeView). IsAlone c.args.space.now.table.shared.key u) (sym upper) alone)
    (subst (λ (u : TreeView). IsThere u (first_note u.notes)) (sym upper) listed.base)).won_it in
    let no : false ≡ true = sym c.if-not-put_first.true ∙ won in absurd cc

pub returns-clause-alone : goal.returns-clause-alone
returns-clause-alone g c = λ alone unmet listed. let d = c.if-not-put_first.ensures.done in let z = c.args.space.now.table.shared.key in
    let begun = begun_at c.args.rows.own (bound_of c.args.search.now.sought.now.lo) in let m = c.args.pass.now.seat.me in
    let k = c.open_own.new.pass.seat.me in let l = c.put_first.new.pass.seat.me in
    let upper = upper_now c.args.space.now c.args.pass.now c.first_mark-mark.new.pass c.write_first.new.pass c.open_own.new.pass
    c.put_first.new.pass true c.args.rows begun c.first_mark-mark.ensures.frame
    c.write_first.ensures.frame c.write_first.ensures.written.only c.open_own.ensures.frame c.open_own.ensures.opened c.put_first.ensures.frame d in
    let lost = lost_now c.args.space.now c.args.pass.now c.first_mark-mark.new.pass c.write_first.new.pass c.open_own.new.pass
    c.put_first.new.pass true c.args.rows begun c.first_mark-mark.ensures.frame
    c.write_first.ensures.frame c.write_first.ensures.written.only c.open_own.ensures.frame c.open_own.ensures.opened c.put_first.ensures.frame d in
    let put = c.put_first.ensures.alone (subst (λ (u : TreeView). IsAlone z u) (sym upper) alone)
    (subst (λ (u : TreeView). IsThere u (first_note u.notes)) (sym upper) listed.base) in
    let kept = c.open_own.ensures.frame.kept ∙ (c.write_first.ensures.frame.kept ∙ c.first_mark-mark.ensures.frame.kept) in
    comes_from z (further.On (record { own = c.args.rows.own; left = record c.args.first { base = c.args.rows.copy }; counted = 0 }))
    (vec_len c.args.pass.now.kept.rows) (vec_len c.open_own.new.pass.kept.rows) (vec_len c.put_first.new.pass.kept.rows) m k l
    (let same = ap (λ (x : KeptRows). vec_len x.rows) kept in omega arith) lost (ap (λ (u : TreeView). u.turns) upper)
    (ap (λ (u : TreeView). u.inventory) upper)
    (put_on c.args.rows (vec_len c.open_own.new.pass.kept.rows) (vec_len c.put_first.new.pass.kept.rows) k l d
    (subst (λ (u : TreeView). IsListed u.inventory (first_note u.notes)) (sym upper) listed)
    (ap (λ (u : TreeView). u.ranges.unfinished) upper ∙ unmet) put.unlost put.keeps)
