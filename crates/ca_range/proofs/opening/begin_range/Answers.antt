use Rattle.std.proofs.Common.{◌≡◌, ◌<◌, [], ◌∷◌, vec_len, ◌∙◌, inl, refl, sym, ap, subst, arith}
use mathlib.Core.Option.{some}
use Rattle.ca_base.specs.Counting.{HasMet, HasStoppedBy, losses}
use Rattle.ca_base.specs.Putting.{first_note}
use Rattle.ca_base.specs.declared.stop.Stop.{Stop}
use Rattle.ca_model.specs.Edges.{bound_of}
use Rattle.ca_model.specs.declared.outcome.Counter.TheVariants as counter
use Rattle.ca_node.specs.Inventory.{IsListed}
use Rattle.ca_node.specs.Layout.{base_form, border_form}
use Rattle.ca_node.specs.States.{IsAlone}
use Rattle.ca_node.specs.Told.{MyTree, IsSettled}
use Rattle.ca_node.specs.TreeView.{Note, TreeView}
use Rattle.ca_range.specs.Gathering.{refused_by}
use Rattle.ca_range.specs.Lonely.{EndsAlone}
use Rattle.ca_range.specs.declared.sought.Snapped.TheVariants as snapped
use Rattle.ca_rows.specs.declared.kept.KeptRows.{KeptRows}
use Rattle.ca_range.proofs.LoneSnaps.{none_begun, took_fewer}
use Rattle.ca_range.proofs.LoneSteps.{comes_from, nothing_ended}
use Rattle.ca_range.specs.Looking.{IsFirst, IsNotEnough}
use Rattle.ca_range.proofs.NextNumbers.{numbered_first, taken_goes, taken_met, taken_spent, upper_taken}
use Rattle.ca_range.proofs.GoingOn.{begun_after}
use Rattle.ca_range.proofs.SnapshotSteps.{crossed_turns, more_turns}
use Rattle.ca_rows.specs.Layout.{last_sequence}
use Rattle.ca_range.proofs.opening.begin_range.Goals as goal

pub returns-in_default-clause-begun : goal.returns-in_default-clause-begun
returns-in_default-clause-begun g c = let m = c.args.pass.now.seat.me in let sought = c.args.search.now.sought.now in
    subst (λ (x : MyTree). HasMet 0 0 m x × (x.0.upper.ranges.sequence ≡ some last_sequence) × IsNotEnough g.F.Fn sought x.0.upper.last)
    (sym c.in_default.ensures.numbered) ((omega arith, omega arith), refl, c.requires.needed.0)

pub begin_with-requires-clause-first : goal.begin_with-requires-clause-first
begin_with-requires-clause-first g c = let n = c.in-Some.ensures.numbered in let lo = bound_of c.args.search.now.sought.now.lo in
    let z = c.args.space.now.table.shared.key in
    subst (λ (u : TreeView). IsFirst z lo u c.args.first) (sym (upper_taken c.args.space.now c.args.pass.now c.next_number.new.pass c.take_two.new.pass n.0
    c.next_number.ensures.frame n.1 c.take_two.ensures.frame)) (numbered_first z lo n.0 c.args.pass.now.seat.me.0.upper c.args.first c.requires.first)

pub begin_with-requires-clause-settled : goal.begin_with-requires-clause-settled
begin_with-requires-clause-settled g c = let n = c.in-Some.ensures.numbered in
    subst (λ (u : TreeView). IsSettled u (first_note u.notes).its) (sym (upper_taken c.args.space.now c.args.pass.now c.next_number.new.pass
    c.take_two.new.pass n.0 c.next_number.ensures.frame n.1 c.take_two.ensures.frame)) c.requires.settled

pub begin_with-requires-clause-needed : goal.begin_with-requires-clause-needed
begin_with-requires-clause-needed g c = let n = c.in-Some.ensures.numbered in
    subst (λ (u : TreeView). IsNotEnough g.F.Fn c.args.search.now.sought.now (first_note u.notes)) (sym (upper_taken c.args.space.now c.args.pass.now
    c.next_number.new.pass c.take_two.new.pass n.0 c.next_number.ensures.frame n.1 c.take_two.ensures.frame))
    (subst (λ (n : Note). IsNotEnough g.F.Fn c.args.search.now.sought.now n) c.requires.needed.1 c.requires.needed.0)

pub returns-in-Ok-clause-frame : goal.returns-in-Ok-clause-frame
returns-in-Ok-clause-frame g c = let n = c.in-Some.ensures.numbered in
    (taken_goes c.args.space.now c.args.pass.now c.next_number.new.pass c.take_two.new.pass n.0 c.next_number.ensures.frame n.1 c.take_two.ensures.frame
    c.begin_with.new.pass c.args.account.now.spent c.take_two.new.spent c.begin_with.new.account.spent c.take_two.ensures.counted
    c.begin_with.ensures.goes).frame

pub returns-in-Ok-clause-steps : goal.returns-in-Ok-clause-steps
returns-in-Ok-clause-steps g c = let n = c.in-Some.ensures.numbered in
    (taken_goes c.args.space.now c.args.pass.now c.next_number.new.pass c.take_two.new.pass n.0 c.next_number.ensures.frame n.1 c.take_two.ensures.frame
    c.begin_with.new.pass c.args.account.now.spent c.take_two.new.spent c.begin_with.new.account.spent c.take_two.ensures.counted
    c.begin_with.ensures.goes).steps

pub returns-in-Ok-clause-counted : goal.returns-in-Ok-clause-counted
returns-in-Ok-clause-counted g c = let n = c.in-Some.ensures.numbered in
    (taken_goes c.args.space.now c.args.pass.now c.next_number.new.pass c.take_two.new.pass n.0 c.next_number.ensures.frame n.1 c.take_two.ensures.frame
    c.begin_with.new.pass c.args.account.now.spent c.take_two.new.spent c.begin_with.new.account.spent c.take_two.ensures.counted
    c.begin_with.ensures.goes).counted

pub returns-in-Ok-clause-begun : goal.returns-in-Ok-clause-begun
returns-in-Ok-clause-begun g c = let n = c.in-Some.ensures.numbered in let m = c.args.pass.now.seat.me in let k = c.take_two.new.pass.seat.me in
    begun_after g.F.Fn c.args.search.now.sought.now c.args.space.now.table.shared.key c.args.search.now.budget c.begin_with.new.account.spent
    c.begin_with.result m k c.begin_with.new.pass.seat.me
    (taken_met c.args.space.now c.args.pass.now c.next_number.new.pass c.take_two.new.pass n.0 c.next_number.ensures.frame n.1 c.take_two.ensures.frame
    c.in-Ok.ensures.found.0)
    (more_turns c.args.account.now.spent c.take_two.new.spent m k
    (taken_spent c.args.space.now c.args.pass.now c.next_number.new.pass c.take_two.new.pass n.0 c.next_number.ensures.frame n.1 c.take_two.ensures.frame
    c.args.account.now.spent c.take_two.new.spent c.take_two.ensures.counted)) c.begin_with.ensures.begun

pub returns-in-Err-Lost-clause-begun : goal.returns-in-Err-Lost-clause-begun
returns-in-Err-Lost-clause-begun g c = let n = c.in-Some.ensures.numbered in let m = c.args.pass.now.seat.me in let k = c.take_two.new.pass.seat.me in
    let f = subst (λ (s : Stop). HasStoppedBy s c.next_number.new.pass.seat.me k) c.in-Err-Lost.field-0-is c.in-Err-Lost.ensures.found in
    let before = ap losses n.1 in let more = f.0 in let lost : losses m < losses k = omega arith in (
      taken_met c.args.space.now c.args.pass.now c.next_number.new.pass c.take_two.new.pass n.0 c.next_number.ensures.frame n.1 c.take_two.ensures.frame f.1,
      crossed_turns m k (more_turns c.args.account.now.spent c.take_two.new.spent m k
          (taken_spent c.args.space.now c.args.pass.now c.next_number.new.pass c.take_two.new.pass n.0 c.next_number.ensures.frame n.1
          c.take_two.ensures.frame c.args.account.now.spent c.take_two.new.spent c.take_two.ensures.counted)) (inl lost),
      inl (inl lost),
    )

pub returns-in-Err-Lost-clause-counted : goal.returns-in-Err-Lost-clause-counted
returns-in-Err-Lost-clause-counted g c = let n = c.in-Some.ensures.numbered in
    taken_spent c.args.space.now c.args.pass.now c.next_number.new.pass c.take_two.new.pass n.0 c.next_number.ensures.frame n.1 c.take_two.ensures.frame
    c.args.account.now.spent c.take_two.new.spent c.take_two.ensures.counted

pub returns-in-Err-Empty-clause-counted : goal.returns-in-Err-Empty-clause-counted
returns-in-Err-Empty-clause-counted g c = let n = c.in-Some.ensures.numbered in
    taken_spent c.args.space.now c.args.pass.now c.next_number.new.pass c.take_two.new.pass n.0 c.next_number.ensures.frame n.1 c.take_two.ensures.frame
    c.args.account.now.spent c.take_two.new.spent c.take_two.ensures.counted

pub returns-in-Err-Worn-clause-counted : goal.returns-in-Err-Worn-clause-counted
returns-in-Err-Worn-clause-counted g c = let n = c.in-Some.ensures.numbered in
    taken_spent c.args.space.now c.args.pass.now c.next_number.new.pass c.take_two.new.pass n.0 c.next_number.ensures.frame n.1 c.take_two.ensures.frame
    c.args.account.now.spent c.take_two.new.spent c.take_two.ensures.counted

pub returns-in_default-clause-loads : goal.returns-in_default-clause-loads
returns-in_default-clause-loads g c = ap (λ (x : MyTree). x.0.upper.loads) c.in_default.ensures.numbered

pub returns-in-Ok-clause-loads : goal.returns-in-Ok-clause-loads
returns-in-Ok-clause-loads g c = let n = c.in-Some.ensures.numbered in
    c.begin_with.ensures.loads ∙ ap (λ (u : TreeView). u.loads) (upper_taken c.args.space.now c.args.pass.now c.next_number.new.pass
    c.take_two.new.pass n.0 c.next_number.ensures.frame n.1 c.take_two.ensures.frame)

pub returns-in-Err-Lost-clause-loads : goal.returns-in-Err-Lost-clause-loads
returns-in-Err-Lost-clause-loads g c = let n = c.in-Some.ensures.numbered in
    ap (λ (u : TreeView). u.loads) (upper_taken c.args.space.now c.args.pass.now c.next_number.new.pass
    c.take_two.new.pass n.0 c.next_number.ensures.frame n.1 c.take_two.ensures.frame)

pub returns-in-Err-Empty-clause-loads : goal.returns-in-Err-Empty-clause-loads
returns-in-Err-Empty-clause-loads g c = let n = c.in-Some.ensures.numbered in
    ap (λ (u : TreeView). u.loads) (upper_taken c.args.space.now c.args.pass.now c.next_number.new.pass
    c.take_two.new.pass n.0 c.next_number.ensures.frame n.1 c.take_two.ensures.frame)

pub returns-in-Err-Worn-clause-loads : goal.returns-in-Err-Worn-clause-loads
returns-in-Err-Worn-clause-loads g c = let n = c.in-Some.ensures.numbered in
    ap (λ (u : TreeView). u.loads) (upper_taken c.args.space.now c.args.pass.now c.next_number.new.pass
    c.take_two.new.pass n.0 c.next_number.ensures.frame n.1 c.take_two.ensures.frame)

pub returns-in_default-clause-alone : goal.returns-in_default-clause-alone
returns-in_default-clause-alone g c = λ alone unmet listed. let n = c.in_default.ensures.numbered in let z = c.args.space.now.table.shared.key in
    nothing_ended z (snapped.Worn counter.Sequence) (vec_len c.args.pass.now.kept.rows) (vec_len c.next_number.new.pass.kept.rows) c.args.pass.now.seat.me
    c.next_number.new.pass.seat.me (let same = ap (λ (x : KeptRows). vec_len x.rows) c.next_number.ensures.frame.kept in omega arith) (ap losses n)
    (ap (λ (x : MyTree). x.0.upper.turns) n) (ap (λ (x : MyTree). x.0.upper.inventory) n)
    (ap (λ (x : MyTree). x.0.upper.ranges.unfinished) n ∙ unmet) (λ e. absurd cc) (λ e. absurd cc)

pub returns-in-Ok-clause-alone : goal.returns-in-Ok-clause-alone
returns-in-Ok-clause-alone g c = λ alone unmet listed. let n = c.in-Some.ensures.numbered in let z = c.args.space.now.table.shared.key in
    let p = c.args.pass.now in let q = c.take_two.new.pass in let r = c.begin_with.new.pass in
    let upper = upper_taken c.args.space.now c.args.pass.now c.next_number.new.pass
    c.take_two.new.pass n.0 c.next_number.ensures.frame n.1 c.take_two.ensures.frame in
    comes_from z c.begin_with.result (vec_len p.kept.rows) (vec_len q.kept.rows) (vec_len r.kept.rows) p.seat.me q.seat.me r.seat.me
    (let fewer = took_fewer c.next_number.new.pass.seat.me.0.pin.told (base_form ∷ border_form ∷ []) c.next_number.new.pass.kept q.kept c.in-Ok.ensures.back in
    let same = ap (λ (x : KeptRows). vec_len x.rows) c.next_number.ensures.frame.kept in omega arith)
    (c.in-Ok.ensures.found.1 ∙ ap losses n.1) (ap (λ (u : TreeView). u.turns) upper) (ap (λ (u : TreeView). u.inventory) upper)
    (c.begin_with.ensures.alone (subst (λ (u : TreeView). IsAlone z u) (sym upper) alone) (ap (λ (u : TreeView). u.ranges.unfinished) upper ∙ unmet)
    (subst (λ (u : TreeView). IsListed u.inventory (first_note u.notes)) (sym upper) listed))

pub returns-in-Err-Lost-clause-alone : goal.returns-in-Err-Lost-clause-alone
returns-in-Err-Lost-clause-alone g c = λ alone unmet listed. let n = c.in-Some.ensures.numbered in let z = c.args.space.now.table.shared.key in
    let p = c.args.pass.now in let k = c.next_number.new.pass in let q = c.take_two.new.pass in
    subst (λ (a : KeptRows). EndsAlone z (snapped.Again) (vec_len a.rows) (vec_len q.kept.rows) p.seat.me q.seat.me)
    c.next_number.ensures.frame.kept
    (subst (λ (w : Stop). EndsAlone z (refused_by w) (vec_len k.kept.rows) (vec_len q.kept.rows) p.seat.me q.seat.me) c.in-Err-Lost.field-0-is
    (none_begun z _ (base_form ∷ border_form ∷ []) k.kept q.kept p.seat.me k.seat.me q.seat.me
    (ap (λ (x : MyTree). x.0.sizes) n.1 ∙ c.requires.ready.own.1)
    (c.take_two.ensures.frame.same.2 ∙ (ap (λ (x : MyTree). x.0.sizes) n.1 ∙ c.requires.ready.own.1)) c.args.space.now.few.0
    (subst (λ (x : MyTree). IsAlone z x.0.upper) (sym n.1) alone) (ap losses n.1) (ap (λ (x : MyTree). x.0.upper.turns) n.1)
    (ap (λ (x : MyTree). x.0.upper.inventory) n.1) unmet (ap (λ (x : MyTree). x.0.upper.ranges.unfinished) n.1) c.take_two.ensures.frame.same.4
    c.take_two.ensures.only c.in-Err-Lost.ensures.found c.in-Err-Lost.ensures.crowded c.in-Err-Lost.ensures.back c.in-Err-Lost.ensures.taken))

pub returns-in-Err-Empty-clause-alone : goal.returns-in-Err-Empty-clause-alone
returns-in-Err-Empty-clause-alone g c = λ alone unmet listed. let n = c.in-Some.ensures.numbered in let z = c.args.space.now.table.shared.key in
    let p = c.args.pass.now in let k = c.next_number.new.pass in let q = c.take_two.new.pass in
    subst (λ (a : KeptRows). EndsAlone z (snapped.NoRow) (vec_len a.rows) (vec_len q.kept.rows) p.seat.me q.seat.me)
    c.next_number.ensures.frame.kept
    (subst (λ (w : Stop). EndsAlone z (refused_by w) (vec_len k.kept.rows) (vec_len q.kept.rows) p.seat.me q.seat.me) c.in-Err-Empty.field-0-is
    (none_begun z _ (base_form ∷ border_form ∷ []) k.kept q.kept p.seat.me k.seat.me q.seat.me
    (ap (λ (x : MyTree). x.0.sizes) n.1 ∙ c.requires.ready.own.1)
    (c.take_two.ensures.frame.same.2 ∙ (ap (λ (x : MyTree). x.0.sizes) n.1 ∙ c.requires.ready.own.1)) c.args.space.now.few.0
    (subst (λ (x : MyTree). IsAlone z x.0.upper) (sym n.1) alone) (ap losses n.1) (ap (λ (x : MyTree). x.0.upper.turns) n.1)
    (ap (λ (x : MyTree). x.0.upper.inventory) n.1) unmet (ap (λ (x : MyTree). x.0.upper.ranges.unfinished) n.1) c.take_two.ensures.frame.same.4
    c.take_two.ensures.only c.in-Err-Empty.ensures.found c.in-Err-Empty.ensures.crowded c.in-Err-Empty.ensures.back c.in-Err-Empty.ensures.taken))

pub returns-in-Err-Worn-clause-alone : goal.returns-in-Err-Worn-clause-alone
returns-in-Err-Worn-clause-alone g c = λ alone unmet listed. let n = c.in-Some.ensures.numbered in let z = c.args.space.now.table.shared.key in
    let p = c.args.pass.now in let k = c.next_number.new.pass in let q = c.take_two.new.pass in
    subst (λ (a : KeptRows). EndsAlone z (snapped.Worn counter.PoolTag) (vec_len a.rows) (vec_len q.kept.rows) p.seat.me q.seat.me)
    c.next_number.ensures.frame.kept
    (subst (λ (w : Stop). EndsAlone z (refused_by w) (vec_len k.kept.rows) (vec_len q.kept.rows) p.seat.me q.seat.me) c.in-Err-Worn.field-0-is
    (none_begun z _ (base_form ∷ border_form ∷ []) k.kept q.kept p.seat.me k.seat.me q.seat.me
    (ap (λ (x : MyTree). x.0.sizes) n.1 ∙ c.requires.ready.own.1)
    (c.take_two.ensures.frame.same.2 ∙ (ap (λ (x : MyTree). x.0.sizes) n.1 ∙ c.requires.ready.own.1)) c.args.space.now.few.0
    (subst (λ (x : MyTree). IsAlone z x.0.upper) (sym n.1) alone) (ap losses n.1) (ap (λ (x : MyTree). x.0.upper.turns) n.1)
    (ap (λ (x : MyTree). x.0.upper.inventory) n.1) unmet (ap (λ (x : MyTree). x.0.upper.ranges.unfinished) n.1) c.take_two.ensures.frame.same.4
    c.take_two.ensures.only c.in-Err-Worn.ensures.found c.in-Err-Worn.ensures.crowded c.in-Err-Worn.ensures.back c.in-Err-Worn.ensures.taken))
