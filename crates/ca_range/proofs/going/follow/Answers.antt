use Rattle.std.proofs.Common.{◌≡◌, ◌<◌, ◌≤◌, ℕ, List, vec_len, true, false, inr, sym, ap, ◌∙◌, subst, arith}
use Rattle.ca_base.specs.Putting.{first_note}
use Rattle.ca_base.proofs.Counts.{met_both}
use Rattle.ca_node.specs.Links.{IsIn}
use Rattle.ca_node.specs.Row.{mark_number, IsMarkedBy}
use Rattle.ca_node.specs.Told.{MyTree}
use Rattle.ca_node.specs.TreeView.{Note, TreeView}
use Rattle.ca_range.specs.Farther.{reach}
use Rattle.ca_range.specs.Gathering.{IsGathering, IsMarking}
use Rattle.ca_range.specs.Lonely.{GathersAlone}
use Rattle.ca_range.specs.Marked.{second_note}
use Rattle.ca_rows.specs.declared.kept.KeptRows.{KeptRows}
use Rattle.ca_range.proofs.Filled.{last_shown}
use Rattle.ca_range.proofs.LoneSteps.{behind_row, followed}
use Rattle.ca_range.proofs.NextGathered.{gathered_so}
use Rattle.ca_range.proofs.OwnSteps.{goes_reads, goes_then, met_reads}
use Rattle.ca_range.proofs.Readied.{ready_reads}
use Rattle.ca_range.proofs.going.follow.Goals as goal

pub is_behind-requires-clause-shown : goal.is_behind-requires-clause-shown
is_behind-requires-clause-shown g c = let u = c.args.pass.now.seat.me.0.upper in
    (first_note u.notes, last_shown c.args.space.now.table.shared.key u c.args.next c.requires.next.gone.at)

pub returns-then-is_behind-clause-goes : goal.returns-then-is_behind-clause-goes
returns-then-is_behind-clause-goes g c = λ spent. goes_reads c.args.space.now spent c.args.pass.now c.is_behind.new.pass c.requires.ready c.is_behind.ensures.frame

pub returns-then-is_behind-clause-further : goal.returns-then-is_behind-clause-further
returns-then-is_behind-clause-further g c = λ far budget spent less. let z = c.args.space.now.table.shared.key in let u = c.args.pass.now.seat.me.0.upper in
    let b = (c.is_behind.ensures.behind (first_note u.notes) (last_shown z u c.args.next c.requires.next.gone.at)).0 c.if-is_behind.true in
    let near = ap (λ (x : MyTree). reach x.0.upper) c.is_behind.ensures.frame.still in (
      subst (λ (x : MyTree). IsGathering g.F.Fn c.args.sought.now z x.0.upper (record c.args.from { left = c.args.next })) (sym c.is_behind.ensures.frame.still)
          (gathered_so g.F.Fn c.args.sought.now z u c.args.from c.args.next c.requires.next
          (b.0.0, b.0.1 ∙ (c.number.ensures ∙ c.requires.number), b.0.2) b.1 b.2),
      (let more : far < reach c.is_behind.new.pass.seat.me.0.upper = omega arith in more),
      met_reads c.args.space.now c.args.pass.now c.is_behind.new.pass c.is_behind.ensures.frame,
    )

pub give_up-requires-clause-ready : goal.give_up-requires-clause-ready
give_up-requires-clause-ready g c = ready_reads c.args.space.now c.args.pass.now c.is_behind.new.pass c.requires.ready c.is_behind.ensures.frame

pub give_up-requires-clause-number : goal.give_up-requires-clause-number
give_up-requires-clause-number g c = c.is_behind.ensures.frame.number ∙ (c.requires.number
    ∙ sym (ap (λ (x : MyTree). x.0.upper.number) c.is_behind.ensures.frame.still))

pub give_up-requires-clause-marking : goal.give_up-requires-clause-marking
give_up-requires-clause-marking g c = subst (λ (x : MyTree). IsMarking c.args.space.now.table.shared.key x.0.upper c.args.from.own)
    (sym c.is_behind.ensures.frame.still) c.requires.next.between.marking

pub returns-clause-goes : goal.returns-clause-goes
returns-clause-goes g c = λ spent. let e = c.give_up.ensures in
    goes_then c.args.space.now spent c.args.pass.now c.is_behind.new.pass c.give_up.new.pass c.requires.ready c.is_behind.ensures.frame e.frame e.steps e.still

pub returns-clause-unfinished : goal.returns-clause-unfinished
returns-clause-unfinished g c = c.give_up.ensures.unfinished ∙ ap (λ (x : MyTree). x.0.upper.ranges.unfinished) c.is_behind.ensures.frame.still

pub returns-clause-further : goal.returns-clause-further
returns-clause-further g c = λ far budget spent less. let p = c.args.pass.now in let q = c.is_behind.new.pass in
    let u = p.seat.me.0.upper in let v = c.give_up.new.pass.seat.me.0.upper in let k = c.requires.next in
    let next = last_shown c.args.space.now.table.shared.key u c.args.next k.gone.at in
    let notes = c.give_up.ensures.notes.0 ∙ ap (λ (x : MyTree). x.0.upper.notes) c.is_behind.ensures.frame.still in
    let number = ap (λ (w : TreeView). w.number) c.give_up.ensures.steps.only ∙ ap (λ (x : MyTree). x.0.upper.number) c.is_behind.ensures.frame.still in
    let mine = c.number.ensures ∙ c.requires.number in (
      met_both 0 0 0 0 p.seat.me q.seat.me c.give_up.new.pass.seat.me (met_reads c.args.space.now p q c.is_behind.ensures.frame) c.give_up.ensures.met,
      inr record {
        left = second_note u.notes;
        next = first_note u.notes;
        number = c.args.from.own.number;
        left_shown = subst (λ (ns : List Note). IsIn (second_note u.notes) ns) (sym notes) k.left_shown.noted;
        next_shown = subst (λ (ns : List Note). IsIn (first_note u.notes) ns) (sym notes) next.noted;
        left_marked = subst (λ (n : ℕ). IsMarkedBy (second_note u.notes).its n c.args.from.own.number) (sym number) k.left_marked;
        key = k.key;
        ends = k.ends;
        has = k.has;
        own = (
          c.requires.own.0,
          c.requires.own.1 ∙ sym number,
          subst (λ (n : ℕ). n ≤ mark_number (first_note u.notes).its) k.left_marked.2
              (c.requires.own.2 (second_note u.notes) k.left_shown.noted k.left_marked.0 k.left_marked.1),
        );
        apart = λ is. let no : false ≡ true = sym c.if-is_behind.false ∙ (c.is_behind.ensures.behind (first_note u.notes) next).1 (
          (is.0.0, is.0.1 ∙ (number ∙ sym mine), is.0.2),
          is.1 ∙ k.left_shown.here,
          is.2 ∙ k.left_bound,
        ) in cc;
      },
    )

pub returns-clause-loads : goal.returns-clause-loads
returns-clause-loads g c = c.give_up.ensures.loads ∙ ap (λ (x : MyTree). x.0.upper.loads) c.is_behind.ensures.frame.still

pub returns-then-is_behind-clause-loads : goal.returns-then-is_behind-clause-loads
returns-then-is_behind-clause-loads g c = ap (λ (x : MyTree). x.0.upper.loads) c.is_behind.ensures.frame.still

pub returns-then-is_behind-clause-alone : goal.returns-then-is_behind-clause-alone
returns-then-is_behind-clause-alone g c = λ kept m alone next. subst
    (λ (x : KeptRows × MyTree). GathersAlone kept (vec_len x.0.rows) m x.1)
    (λ i. (sym c.is_behind.ensures.frame.kept i, sym c.is_behind.ensures.frame.still i))
    (followed kept (vec_len c.args.pass.now.kept.rows) m c.args.pass.now.seat.me next)

pub returns-clause-alone : goal.returns-clause-alone
returns-clause-alone g c = λ kept m alone next. let u = c.args.pass.now.seat.me.0.upper in let k = c.requires.next in
    let mine = c.number.ensures ∙ c.requires.number in let first = last_shown c.args.space.now.table.shared.key u c.args.next k.gone.at in
    let is = behind_row u c.args.from.own.number c.args.from.left.base c.args.from.own.border k.between.marking.begun k.between.marking.border
    k.between.marking.is k.between.marking.number_is next.behind k.key k.left_marked k.left_bound k.left_shown.here k.left_shown.noted k.ends k.has
    c.requires.own in
    let no : false ≡ true = sym c.if-is_behind.false ∙ (c.is_behind.ensures.behind (first_note u.notes) first).1
    ((is.0.0, is.0.1 ∙ sym mine, is.0.2), is.1, is.2) in absurd cc
