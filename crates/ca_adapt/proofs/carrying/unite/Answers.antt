use Rattle.std.proofs.Common.{ℕ, ◌∷◌, [], ap, sym, refl, ◌∙◌, subst}
use Rattle.ca_base.specs.Counting.{losses, HasMet}
use Rattle.ca_base.specs.Spending.{RisesBy}
use Rattle.ca_node.specs.JoinSteps.{attempt_of}
use Rattle.ca_base.specs.Joined.{AreJoinable}
use Rattle.ca_base.specs.Taking.{AreHeld}
use Rattle.ca_base.proofs.Counts.{met_both, written_met}
use Rattle.ca_base.proofs.Unlinking.{written_row}
use Rattle.ca_node.specs.Told.{MyTree, link_word}
use Rattle.ca_node.specs.TreeView.{Secured, TreeView}
use Rattle.ca_rows.specs.declared.kept.KeptRows.{KeptRows}
use Rattle.ca_rows.specs.declared.view.Pin.{Pin}
use Rattle.ca_adapt.proofs.OwnSwaps.{joinable_then, link_is, rows_are, unlinking_by, unlinks}
use Rattle.ca_adapt.proofs.OwnUnited.{put_quiet, put_steps, put_united}
use Rattle.ca_adapt.proofs.Readied.{pinned_both, pinned_keeps, pinned_still}
use Rattle.ca_adapt.proofs.Securing.{inside_by, remembered_by}
use Rattle.ca_adapt.proofs.LoneTries.{lone_put}
use Rattle.ca_adapt.proofs.carrying.unite.Goals as goal

pub route_level-level-requires-clause-inside : goal.route_level-level-requires-clause-inside
route_level-level-requires-clause-inside c = inside_by c.args.space.now.table.shared.key
    c.args.pass.now.seat.me.0.upper c.args.uniting.attempt.route
    c.args.uniting.above c.requires.uniting.2.hung

pub route_level-level-requires-clause-remembered : goal.route_level-level-requires-clause-remembered
route_level-level-requires-clause-remembered c =
    remembered_by c.args.space.now.table.shared.key c.args.pass.now.seat.me.0.upper
    c.args.uniting.attempt.route c.args.uniting.above
    c.requires.uniting.2.hung

pub write_joined-requires-clause-row : goal.write_joined-requires-clause-row
write_joined-requires-clause-row c = let still = c.route_level-level.ensures.frame.still in let z =
    c.args.space.now.table.shared.key in
    let held = subst (λ (x : MyTree × KeptRows). AreHeld z.rows x.1.rows x.0.0
    (c.args.uniting.new ∷ []))
    (λ i. (sym still i, sym c.route_level-level.ensures.frame.kept i)) c.requires.held in
    let each = held.0.each c.args.uniting.new (0, refl) in record {
      reading = record {
        own = (
          c.route_level-level.ensures.frame.same.0 ∙ c.requires.reading.own.0,
          ap (λ (m : MyTree). m.0.sizes) still ∙ c.requires.reading.own.1,
        );
        pinned = ap (λ (m : MyTree). m.0.pin.pinned) still ∙ c.requires.reading.pinned;
      };
      held = (each.1, each.2);
    }

pub write_joined-requires-clause-shown : goal.write_joined-requires-clause-shown
write_joined-requires-clause-shown c = let p = c.args.pass.now in let q =
    c.route_level-level.new.pass in
    let z = c.args.space.now.table.shared.key in let x = c.args.uniting in let i =
    c.requires.uniting in
    let still = c.route_level-level.ensures.frame.still in
    let both : AreJoinable z q.seat.me.0.upper x.left x.right i.0 i.1 =
    joinable_then z p.seat.me q.seat.me x i.0 i.1 i.2 still c.requires.leaf in
    (i.0, i.1, both)

pub put_joined-requires-clause-unlinking : goal.put_joined-requires-clause-unlinking
put_joined-requires-clause-unlinking c = let p = c.args.pass.now in let q =
    c.route_level-level.new.pass in let w = c.write_joined.new.pass in
    let z = c.args.space.now.table.shared.key in let x = c.args.uniting in let i =
    c.requires.uniting in
    let still = c.route_level-level.ensures.frame.still in
    let both : AreJoinable z q.seat.me.0.upper x.left x.right i.0 i.1 =
    joinable_then z p.seat.me q.seat.me x i.0 i.1 i.2 still c.requires.leaf in
    let wrote = c.write_joined.ensures.written i.0 i.1 both in
    let upper = c.write_joined.ensures.frame.same.4 ∙ ap (λ (m : MyTree). m.0.upper) still in
    let pinned = ap (λ (e : Pin). e.pinned) c.write_joined.ensures.frame.same.3
    ∙ (ap (λ (m : MyTree). m.0.pin.pinned) still ∙ c.requires.reading.pinned) in
    unlinks z p.seat.me w.seat.me x i.0 i.1 i.2 upper pinned c.requires.number
    c.route_level-level.result wrote.0 wrote.2.here wrote.1
    c.route_level-level.ensures.level

pub put_joined-requires-clause-rows : goal.put_joined-requires-clause-rows
put_joined-requires-clause-rows c = let p = c.args.pass.now in let q =
    c.route_level-level.new.pass in let w = c.write_joined.new.pass in
    let z = c.args.space.now.table.shared.key in let x = c.args.uniting in let i =
    c.requires.uniting in
    let still = c.route_level-level.ensures.frame.still in
    let both : AreJoinable z q.seat.me.0.upper x.left x.right i.0 i.1 =
    joinable_then z p.seat.me q.seat.me x i.0 i.1 i.2 still c.requires.leaf in
    let wrote = c.write_joined.ensures.written i.0 i.1 both in
    let upper = c.write_joined.ensures.frame.same.4 ∙ ap (λ (m : MyTree). m.0.upper) still in
    let pinned = ap (λ (e : Pin). e.pinned) c.write_joined.ensures.frame.same.3
    ∙ (ap (λ (m : MyTree). m.0.pin.pinned) still ∙ c.requires.reading.pinned) in
    rows_are z p.seat.me w.seat.me x i.0 i.1 i.2 upper pinned c.requires.number
    c.route_level-level.result wrote.0 wrote.2.here wrote.1
    c.route_level-level.ensures.level

pub put_joined-requires-clause-link : goal.put_joined-requires-clause-link
put_joined-requires-clause-link c = let p = c.args.pass.now in let q =
    c.route_level-level.new.pass in let w = c.write_joined.new.pass in
    let z = c.args.space.now.table.shared.key in let x = c.args.uniting in let i =
    c.requires.uniting in
    let still = c.route_level-level.ensures.frame.still in
    let both : AreJoinable z q.seat.me.0.upper x.left x.right i.0 i.1 =
    joinable_then z p.seat.me q.seat.me x i.0 i.1 i.2 still c.requires.leaf in
    let wrote = c.write_joined.ensures.written i.0 i.1 both in
    let upper = c.write_joined.ensures.frame.same.4 ∙ ap (λ (m : MyTree). m.0.upper) still in
    let pinned = ap (λ (e : Pin). e.pinned) c.write_joined.ensures.frame.same.3
    ∙ (ap (λ (m : MyTree). m.0.pin.pinned) still ∙ c.requires.reading.pinned) in
    link_is z p.seat.me w.seat.me x i.0 i.1 i.2 upper pinned c.requires.number
    c.route_level-level.result wrote.0 wrote.2.here wrote.1
    c.route_level-level.ensures.level

pub put_joined-requires-clause-inside : goal.put_joined-requires-clause-inside
put_joined-requires-clause-inside c = c.requires.uniting.2.hung.inside

pub put_joined-requires-clause-held : goal.put_joined-requires-clause-held
put_joined-requires-clause-held c = let p = c.args.pass.now in let q =
    c.route_level-level.new.pass in let w = c.write_joined.new.pass in
    let z = c.args.space.now.table.shared.key in let x = c.args.uniting in let i =
    c.requires.uniting in
    let still = c.route_level-level.ensures.frame.still in
    let both : AreJoinable z q.seat.me.0.upper x.left x.right i.0 i.1 =
    joinable_then z p.seat.me q.seat.me x i.0 i.1 i.2 still c.requires.leaf in
    let wrote = c.write_joined.ensures.written i.0 i.1 both in
    let upper = c.write_joined.ensures.frame.same.4 ∙ ap (λ (m : MyTree). m.0.upper) still in
    let held = subst (λ (y : MyTree × KeptRows). AreHeld z.rows y.1.rows y.0.0 (x.new ∷ []))
    (λ k. (sym still k, sym c.route_level-level.ensures.frame.kept k)) c.requires.held in
    written_row z.rows q.kept w.kept q.seat.me w.seat.me (x.new ∷ []) x.new wrote.0 (0, refl)
    wrote.1.long wrote.2 c.write_joined.ensures.frame.kept held

pub returns-clause-frame : goal.returns-clause-frame
returns-clause-frame c = let p = c.args.pass.now in let q = c.route_level-level.new.pass in let w =
    c.write_joined.new.pass in let e = c.put_joined.new.pass in
    let z = c.args.space.now.table.shared.key in let x = c.args.uniting in let i =
    c.requires.uniting in
    let still = c.route_level-level.ensures.frame.still in
    let both : AreJoinable z q.seat.me.0.upper x.left x.right i.0 i.1 =
    joinable_then z p.seat.me q.seat.me x i.0 i.1 i.2 still c.requires.leaf in
    let r = c.route_level-level.ensures.frame in let s = c.write_joined.ensures.frame in
    pinned_both p q e (pinned_keeps p q record {
      same = r.same;
      number = r.number;
      tally =
          r.tally;
      kept = r.kept;
    } (ap (λ (m : MyTree). m.0.sizes) still)
    (ap (λ (m : MyTree). m.0.pin) still) (ap (λ (m : MyTree). m.0.upper.splits) still)
    (ap (λ (m : MyTree). m.0.upper.joins) still))
    (pinned_both q w e (pinned_still q w record {
      same = s.same;
      number = s.number;
      tally =
          s.tally;
    }) c.put_joined.ensures.frame)

pub returns-clause-own : goal.returns-clause-own
returns-clause-own c = let p = c.args.pass.now in let q = c.route_level-level.new.pass in let w =
    c.write_joined.new.pass in let e = c.put_joined.new.pass in
    let z = c.args.space.now.table.shared.key in let x = c.args.uniting in let i =
    c.requires.uniting in
    let still = c.route_level-level.ensures.frame.still in
    let both : AreJoinable z q.seat.me.0.upper x.left x.right i.0 i.1 =
    joinable_then z p.seat.me q.seat.me x i.0 i.1 i.2 still c.requires.leaf in
    let wrote = c.write_joined.ensures.written i.0 i.1 both in
    let upper = c.write_joined.ensures.frame.same.4 ∙ ap (λ (m : MyTree). m.0.upper) still in
    let pinned = ap (λ (e : Pin). e.pinned) c.write_joined.ensures.frame.same.3
    ∙ (ap (λ (m : MyTree). m.0.pin.pinned) still ∙ c.requires.reading.pinned) in
    let by = unlinking_by w.seat.me
    (record { attempt = x.attempt; left = x.left; right = x.right; new = x.new })
    (link_word x.above) in
    put_quiet z x.new by p.seat.me w.seat.me e.seat.me upper c.put_joined.result
    c.put_joined.ensures.done
    (c.requires.own ∙ ap (λ (n : ℕ). Secured (attempt_of n x.attempt.number))
    (sym (rows_are z p.seat.me w.seat.me x i.0 i.1 i.2 upper pinned
    c.requires.number c.route_level-level.result wrote.0 wrote.2.here wrote.1
    c.route_level-level.ensures.level).route))

pub returns-clause-steps : goal.returns-clause-steps
returns-clause-steps c = let p = c.args.pass.now in let q = c.route_level-level.new.pass in let w =
    c.write_joined.new.pass in let e = c.put_joined.new.pass in
    let z = c.args.space.now.table.shared.key in let x = c.args.uniting in let i =
    c.requires.uniting in
    let still = c.route_level-level.ensures.frame.still in
    let both : AreJoinable z q.seat.me.0.upper x.left x.right i.0 i.1 =
    joinable_then z p.seat.me q.seat.me x i.0 i.1 i.2 still c.requires.leaf in
    let wrote = c.write_joined.ensures.written i.0 i.1 both in
    let upper = c.write_joined.ensures.frame.same.4 ∙ ap (λ (m : MyTree). m.0.upper) still in
    let by = unlinking_by w.seat.me
    (record { attempt = x.attempt; left = x.left; right = x.right; new = x.new })
    (link_word x.above) in
    put_steps z x.new by p.seat.me w.seat.me e.seat.me upper c.put_joined.result
    c.put_joined.ensures.done

pub returns-clause-united : goal.returns-clause-united
returns-clause-united c = let p = c.args.pass.now in let q = c.route_level-level.new.pass in let w =
    c.write_joined.new.pass in let e = c.put_joined.new.pass in
    let z = c.args.space.now.table.shared.key in let x = c.args.uniting in let i =
    c.requires.uniting in
    let still = c.route_level-level.ensures.frame.still in
    let both : AreJoinable z q.seat.me.0.upper x.left x.right i.0 i.1 =
    joinable_then z p.seat.me q.seat.me x i.0 i.1 i.2 still c.requires.leaf in
    let wrote = c.write_joined.ensures.written i.0 i.1 both in
    let upper = c.write_joined.ensures.frame.same.4 ∙ ap (λ (m : MyTree). m.0.upper) still in
    let by = unlinking_by w.seat.me
    (record { attempt = x.attempt; left = x.left; right = x.right; new = x.new })
    (link_word x.above) in
    put_united z x.new by p.seat.me w.seat.me e.seat.me upper refl
    (ap losses wrote.2.only ∙ ap losses still)
    (met_both 0 0 0 0 p.seat.me w.seat.me e.seat.me
    (subst (λ (m : MyTree). HasMet 0 0 m w.seat.me) still
    (written_met x.new wrote.0 q.seat.me w.seat.me wrote.2))
    c.put_joined.ensures.met) c.put_joined.result c.put_joined.ensures.done

pub returns-clause-counted : goal.returns-clause-counted
returns-clause-counted c = let p = c.args.pass.now in let q = c.route_level-level.new.pass in
    let w = c.write_joined.new.pass in
    let e = c.put_joined.new.pass in
    let z = c.args.space.now.table.shared.key in let x = c.args.uniting in let i =
    c.requires.uniting in
    let still = c.route_level-level.ensures.frame.still in
    let both : AreJoinable z q.seat.me.0.upper x.left x.right i.0 i.1 =
    joinable_then z p.seat.me q.seat.me x i.0 i.1 i.2 still c.requires.leaf in
    let wrote = c.write_joined.ensures.written i.0 i.1 both in
    let upper = c.write_joined.ensures.frame.same.4 ∙ ap (λ (m : MyTree). m.0.upper) still in
    let on = c.put_joined.ensures.counted in record {
      lost = subst (λ (n : ℕ). RisesBy c.args.spent.now.lost c.put_joined.new.spent.lost n
          (losses e.seat.me))
          (ap losses wrote.2.only ∙ ap losses still) on.lost;
      passed = subst (λ (u : TreeView). RisesBy c.args.spent.now.passed
          c.put_joined.new.spent.passed u.turns.passed e.seat.me.0.upper.turns.passed) upper
          on.passed;
      helped = c.put_joined.ensures.helped refl;
    }

pub returns-clause-alone : goal.returns-clause-alone
returns-clause-alone c alone = let p = c.args.pass.now in let q = c.route_level-level.new.pass in
    let w = c.write_joined.new.pass in
    let e = c.put_joined.new.pass in
    let z = c.args.space.now.table.shared.key in let x = c.args.uniting in
    let upper = c.write_joined.ensures.frame.same.4
    ∙ ap (λ (m : MyTree). m.0.upper) c.route_level-level.ensures.frame.still in
    let by = unlinking_by w.seat.me
    (record { attempt = x.attempt; left = x.left; right = x.right; new = x.new })
    (link_word x.above) in
    lone_put z x.new by p.seat.me.0.upper c.put_joined.result w.seat.me e.seat.me
    c.put_joined.ensures.won upper c.put_joined.ensures.done alone
