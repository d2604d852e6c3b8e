use Rattle.std.proofs.Common.{◌≡◌, ◌≢◌, ◌≤◌, true, false, sym, refl, ap, ◌∙◌, subst, inl, arith}
use Rattle.ca_base.specs.Counting.{HasMet}
use Rattle.ca_base.specs.Putting.{first_note}
use Rattle.ca_model.specs.declared.outcome.Spent.{Spent}
use Rattle.ca_node.specs.LoneStays.{none_by_quiet}
use Rattle.ca_node.specs.Row.{IsMarkedBy}
use Rattle.ca_node.specs.States.{IsAlone}
use Rattle.ca_node.specs.Told.{MyTree, IsKnown, IsSettled}
use Rattle.ca_node.specs.TreeView.{Note, TreeView}
use Rattle.ca_rows.specs.declared.sizes.Sizes.{Sizes}
use Rattle.ca_range.specs.Ahead.{IsAtLast}
use Rattle.ca_range.specs.Clearing.{LearnsOfRanges, none_spent}
use Rattle.ca_range.specs.Farther.{reach, reach_to}
use Rattle.ca_range.specs.Meeting.{AreMet}
use Rattle.ca_base.specs.Spending.{IsSpentOn}
use Rattle.ca_range.proofs.Filled.{helped_behind}
use Rattle.ca_range.proofs.Learning.{counts_help, has_gone, keeps_then, learns, learns_alone, no_join_then, noted_then, notes_then, other_then, raised_then, settled_now, steps_then}
use Rattle.ca_range.proofs.Readied.{ready_still, stays_then}
use Rattle.ca_base.proofs.Spends.{on_both}
use Rattle.ca_range.proofs.Stepping.{steps_both}
use Rattle.ca_range.proofs.Unjoined.{cleared_behind, way_behind}
use Rattle.ca_range.proofs.Watched.{at_now, is_active, met_by_word}
use Rattle.ca_range.proofs.Loaded.{ends_after, goes_same}
use Rattle.ca_range.proofs.Ranking.{far_inside}
use Rattle.ca_range.proofs.clearing.clear.Goals as goal

pub watch-state-requires-clause-met : goal.watch-state-requires-clause-met
watch-state-requires-clause-met c = subst (AreMet c.new-account.result.met.numbers)
    (sym (ap (λ (x : MyTree). x.0.upper.ranges.unfinished) c.range_of.ensures.frame.still ∙ c.requires.none_met)) c.new-account.ensures.met

pub returns-then-not-is_active-clause-cleared : goal.returns-then-not-is_active-clause-cleared
returns-then-not-is_active-clause-cleared c = let w = c.watch-state.ensures.watched in let note = first_note c.args.pass.now.seat.me.0.upper.notes in
    let m = c.range_of.new.pass.seat.me in let n = c.watch-state.new.pass.seat.me in let mark = c.in-Some.ensures.range note c.requires.at.shown in (
      keeps_then c.args.space.now.table.shared.key c.args.pass.now c.range_of.new.pass c.watch-state.new.pass c.in-Some.range.owner
          c.watch-state.ensures.watched.0
          c.range_of.ensures.frame c.watch-state.ensures.frame c.watch-state.ensures.watched.2,
      subst (λ (x : Note). IsSettled n.0.upper x.its) (sym (notes_then c.args.space.now.table.shared.key c.args.pass.now c.range_of.new.pass
          c.watch-state.new.pass c.in-Some.range.owner c.watch-state.ensures.watched.0
          c.range_of.ensures.frame c.watch-state.ensures.frame c.watch-state.ensures.watched.2))
          (settled_now c.in-Some.range m n w.0 note w.2 (noted_then c.args.space.now.table.shared.key c.args.pass.now c.range_of.new.pass
          c.watch-state.new.pass c.in-Some.range.owner c.watch-state.ensures.watched.0
          c.range_of.ensures.frame c.watch-state.ensures.frame c.watch-state.ensures.watched.2
          note c.requires.at.shown.noted) mark.0
          (λ on. let no : false ≡ true = sym c.if-not-is_active.true ∙ (c.is_active.ensures.active w.0 w.1).1 on in cc)),
      subst (λ (x : MyTree). LearnsOfRanges true x n) c.range_of.ensures.frame.still
          (learns c.in-Some.range.owner w.0 m n w.2 (ap (λ (x : MyTree). x.0.upper.ranges.unfinished) c.range_of.ensures.frame.still ∙ c.requires.none_met)),
    )

pub returns-then-not-is_active-clause-way : goal.returns-then-not-is_active-clause-way
returns-then-not-is_active-clause-way c = let mark = c.in-Some.ensures.range (first_note c.args.pass.now.seat.me.0.upper.notes) c.requires.at.shown in
    ((λ on. inl mark.0.0), λ marked. refl)

pub help_ranges-helped-requires-clause-ready : goal.help_ranges-helped-requires-clause-ready
help_ranges-helped-requires-clause-ready c = ready_still c.args.space.now c.args.pass.now c.watch-state.new.pass c.requires.ready
    (keeps_then c.args.space.now.table.shared.key c.args.pass.now c.range_of.new.pass c.watch-state.new.pass c.in-Some.range.owner
    c.watch-state.ensures.watched.0
    c.range_of.ensures.frame c.watch-state.ensures.frame c.watch-state.ensures.watched.2)
    (raised_then c.args.space.now.table.shared.key c.args.pass.now c.range_of.new.pass c.watch-state.new.pass c.in-Some.range.owner
    c.watch-state.ensures.watched.0
    c.range_of.ensures.frame c.watch-state.ensures.frame c.watch-state.ensures.watched.2)
    (steps_then c.args.space.now.table.shared.key c.args.pass.now c.range_of.new.pass c.watch-state.new.pass c.in-Some.range.owner
    c.watch-state.ensures.watched.0
    c.range_of.ensures.frame c.watch-state.ensures.frame c.watch-state.ensures.watched.2)

pub help_ranges-helped-requires-clause-number : goal.help_ranges-helped-requires-clause-number
help_ranges-helped-requires-clause-number c = (keeps_then c.args.space.now.table.shared.key c.args.pass.now c.range_of.new.pass c.watch-state.new.pass
    c.in-Some.range.owner c.watch-state.ensures.watched.0
    c.range_of.ensures.frame c.watch-state.ensures.frame c.watch-state.ensures.watched.2).number
    ∙ (c.requires.number ∙ sym (ap (λ (u : TreeView). u.number) (steps_then c.args.space.now.table.shared.key c.args.pass.now c.range_of.new.pass
    c.watch-state.new.pass c.in-Some.range.owner c.watch-state.ensures.watched.0
    c.range_of.ensures.frame c.watch-state.ensures.frame c.watch-state.ensures.watched.2).only))

pub help_ranges-helped-requires-clause-quiet : goal.help_ranges-helped-requires-clause-quiet
help_ranges-helped-requires-clause-quiet c = ap (λ (u : TreeView). u.ranges.own) (steps_then c.args.space.now.table.shared.key c.args.pass.now
    c.range_of.new.pass c.watch-state.new.pass c.in-Some.range.owner c.watch-state.ensures.watched.0
    c.range_of.ensures.frame c.watch-state.ensures.frame c.watch-state.ensures.watched.2).only ∙ c.requires.quiet

pub help_ranges-helped-requires-clause-other : goal.help_ranges-helped-requires-clause-other
help_ranges-helped-requires-clause-other c = let w = c.watch-state.ensures.watched in
    let mark = c.in-Some.ensures.range (first_note c.args.pass.now.seat.me.0.upper.notes) c.requires.at.shown in
    let on = (c.is_active.ensures.active w.0 w.1).0 c.if-not-is_active.false in (
      mark.1,
      mark.2,
      λ own. other_then c.args.space.now.table.shared.key c.args.pass.now c.range_of.new.pass c.watch-state.new.pass c.in-Some.range.owner
          c.watch-state.ensures.watched.0
          c.range_of.ensures.frame c.watch-state.ensures.frame c.watch-state.ensures.watched.2
          c.in-Some.range.number on c.requires.quiet (own ∙ ap (λ (x : MyTree). x.0.upper.number) w.2.now),
    )

pub help_ranges-helped-requires-clause-at : goal.help_ranges-helped-requires-clause-at
help_ranges-helped-requires-clause-at c = let w = c.watch-state.ensures.watched in let z = c.args.space.now.table.shared.key in
    let still = c.range_of.ensures.frame.still in
    let mark = c.in-Some.ensures.range (first_note c.args.pass.now.seat.me.0.upper.notes) c.requires.at.shown in
    at_now z c.in-Some.range c.args.cursor c.range_of.new.pass.seat.me c.watch-state.new.pass.seat.me w.0 w.2
    (ap (λ (x : MyTree). x.0.sizes) still ∙ c.requires.ready.own.1) record {
      at = subst (λ (x : MyTree). IsAtLast z x.0.upper c.args.cursor) (sym still) c.requires.at;
      marked = subst (λ (x : MyTree). IsMarkedBy (first_note x.0.upper.notes).its c.in-Some.range.owner c.in-Some.range.number) (sym still) mark.0;
    } ((c.is_active.ensures.active w.0 w.1).0 c.if-not-is_active.false)

pub returns-clause-cleared : goal.returns-clause-cleared
returns-clause-cleared c = let w = c.watch-state.ensures.watched in let z = c.args.space.now.table.shared.key in let h = c.help_ranges-helped.ensures in
    let m = c.args.pass.now.seat.me in let mid = c.range_of.new.pass.seat.me in let l = c.watch-state.new.pass.seat.me in
    let n = c.help_ranges-helped.new.pass.seat.me in let still = c.range_of.ensures.frame.still in
    let mark = c.in-Some.ensures.range (first_note m.0.upper.notes) c.requires.at.shown in
    let on = (c.is_active.ensures.active w.0 w.1).0 c.if-not-is_active.false in
    let other = other_then c.args.space.now.table.shared.key c.args.pass.now c.range_of.new.pass c.watch-state.new.pass c.in-Some.range.owner
    c.watch-state.ensures.watched.0
    c.range_of.ensures.frame c.watch-state.ensures.frame c.watch-state.ensures.watched.2
    c.in-Some.range.number on c.requires.quiet in
    let first : IsSpentOn none_spent c.watch-state.new.account.spent m l = subst (λ (x : Spent × MyTree).
    IsSpentOn x.0 c.watch-state.new.account.spent x.1 l) (λ i. (c.new-account.ensures.spent i, still i)) c.watch-state.ensures.counted in
    let all = on_both none_spent c.watch-state.new.account.spent c.help_ranges-helped.new.account.spent m l n first h.counted in
    let up = raised_then c.args.space.now.table.shared.key c.args.pass.now c.range_of.new.pass c.watch-state.new.pass c.in-Some.range.owner
    c.watch-state.ensures.watched.0
    c.range_of.ensures.frame c.watch-state.ensures.frame c.watch-state.ensures.watched.2 in
    let steps = steps_then c.args.space.now.table.shared.key c.args.pass.now c.range_of.new.pass c.watch-state.new.pass c.in-Some.range.owner
    c.watch-state.ensures.watched.0
    c.range_of.ensures.frame c.watch-state.ensures.frame c.watch-state.ensures.watched.2 in
    let near : reach l.0.upper ≡ reach m.0.upper = ap (λ (x : MyTree). reach x.0.upper) w.2.now ∙ ap (λ (x : MyTree). reach x.0.upper) still in record {
      frame = stays_then c.args.space.now c.args.pass.now c.watch-state.new.pass c.help_ranges-helped.new.pass
          (keeps_then c.args.space.now.table.shared.key c.args.pass.now c.range_of.new.pass c.watch-state.new.pass c.in-Some.range.owner
          c.watch-state.ensures.watched.0
          c.range_of.ensures.frame c.watch-state.ensures.frame c.watch-state.ensures.watched.2) up
          (no_join_then z c.args.pass.now c.range_of.new.pass c.watch-state.new.pass c.in-Some.range.owner w.0 c.range_of.ensures.frame
          c.watch-state.ensures.frame w.2) steps h.frame;
      steps = steps_both m.0.upper l.0.upper n.0.upper steps h.steps;
      counted = all;
      gone = has_gone z c.in-Some.range c.args.budget c.help_ranges-helped.new.account.spent m l n c.requires.budget
          (let empty = ap (λ (x : MyTree). x.0.empty) up in let worn = ap (λ (x : MyTree). x.0.worn) up in
          let none : HasMet 0 0 m l = (omega arith, omega arith) in none)
          (met_by_word c.in-Some.range mid l w.0 w.2 on other) first.lost.more first.helped.more all c.help_ranges-helped.result h.helped;
      loads = ends_after z m.0.upper l.0.upper n.0.upper
          (goes_same z m.0.upper l.0.upper (omega (arith, near)) (omega (arith, near, far_inside z m.0.upper c.args.cursor c.requires.at))
          (ap (λ (x : MyTree). x.0.upper.loads) w.2.now ∙ ap (λ (x : MyTree). x.0.upper.loads) still)) h.loads;
      several = λ known. let low = mark.1 in let mine = c.requires.ready.number in let enrolled = known.enrolled in
          let most = subst (λ (x : Sizes). c.in-Some.range.owner ≤ x.passes) (ap (λ (x : MyTree). x.0.sizes) still ∙ c.requires.ready.own.1)
          (w.2.made (is_active w.0 c.in-Some.range.number on).0) in
          let apart : c.in-Some.range.owner ≢ m.0.upper.number = λ own. other (own ∙ sym (ap (λ (x : MyTree). x.0.upper.number) still)) in
          omega arith;
    }

pub returns-clause-way : goal.returns-clause-way
returns-clause-way c = let w = c.watch-state.ensures.watched in let z = c.args.space.now.table.shared.key in let h = c.help_ranges-helped.ensures in
    let m = c.args.pass.now.seat.me in let mid = c.range_of.new.pass.seat.me in let l = c.watch-state.new.pass.seat.me in
    let n = c.help_ranges-helped.new.pass.seat.me in let still = c.range_of.ensures.frame.still in
    let mark = c.in-Some.ensures.range (first_note m.0.upper.notes) c.requires.at.shown in
    let on = (c.is_active.ensures.active w.0 w.1).0 c.if-not-is_active.false in
    let other = other_then z c.args.pass.now c.range_of.new.pass c.watch-state.new.pass c.in-Some.range.owner w.0
    c.range_of.ensures.frame c.watch-state.ensures.frame w.2 c.in-Some.range.number on c.requires.quiet in
    let first : IsSpentOn none_spent c.watch-state.new.account.spent m l = subst (λ (x : Spent × MyTree).
    IsSpentOn x.0 c.watch-state.new.account.spent x.1 l) (λ i. (c.new-account.ensures.spent i, still i)) c.watch-state.ensures.counted in
    let all = on_both none_spent c.watch-state.new.account.spent c.help_ranges-helped.new.account.spent m l n first h.counted in
    let up = raised_then z c.args.pass.now c.range_of.new.pass c.watch-state.new.pass c.in-Some.range.owner w.0
    c.range_of.ensures.frame c.watch-state.ensures.frame w.2 in
    let steps = steps_then z c.args.pass.now c.range_of.new.pass c.watch-state.new.pass c.in-Some.range.owner w.0
    c.range_of.ensures.frame c.watch-state.ensures.frame w.2 in
    let notes = notes_then z c.args.pass.now c.range_of.new.pass c.watch-state.new.pass c.in-Some.range.owner w.0
    c.range_of.ensures.frame c.watch-state.ensures.frame w.2 in
    let empty = ap (λ (x : MyTree). x.0.empty) up in let worn = ap (λ (x : MyTree). x.0.worn) up in
    let none : HasMet 0 0 m l = (omega arith, omega arith) in (
      inl (
        c.in-Some.range,
        mark.0,
        (λ own. other (own ∙ sym (ap (λ (x : MyTree). x.0.upper.number) still))),
        helped_behind z c.in-Some.range c.args.budget c.help_ranges-helped.new.account.spent c.help_ranges-helped.result m l n none steps first.lost.more
            (let same = ap (λ (x : Note). reach_to x.place.span.high) notes in omega arith) h.steps.helped h.helped,
      ),
      counts_help z c.in-Some.range c.args.budget c.help_ranges-helped.new.account.spent m l n c.requires.budget none
          (met_by_word c.in-Some.range mid l w.0 w.2 on other) first.lost.more first.helped.more all c.help_ranges-helped.result h.helped,
    )

pub returns-in_default-clause-cleared : goal.returns-in_default-clause-cleared
returns-in_default-clause-cleared c = cleared_behind c.args.space.now c.args.pass.now c.range_of.new.pass c.clear_of_join.new.pass c.clear_of_join.result
    c.range_of.ensures.frame c.clear_of_join.ensures.cleared

pub returns-in_default-clause-way : goal.returns-in_default-clause-way
returns-in_default-clause-way c = way_behind c.args.space.now c.args.budget c.args.pass.now c.range_of.new.pass c.clear_of_join.new.pass
    c.clear_of_join.result c.range_of.ensures.frame (c.clear_of_join.ensures.way c.args.budget)

pub clear_of_join-requires-clause-other : goal.clear_of_join-requires-clause-other
clear_of_join-requires-clause-other c = none_by_quiet c.range_of.new.pass.seat.me.0.upper.ranges.own
    (ap (λ (x : MyTree). x.0.upper.ranges.own) c.range_of.ensures.frame.still ∙ c.requires.quiet)

pub returns-then-not-is_active-clause-alone : goal.returns-then-not-is_active-clause-alone
returns-then-not-is_active-clause-alone c = λ alone known. let w = c.watch-state.ensures.watched in let z = c.args.space.now.table.shared.key in
    let still = c.range_of.ensures.frame.still in let mark = c.in-Some.ensures.range (first_note c.args.pass.now.seat.me.0.upper.notes) c.requires.at.shown in
    learns_alone z c.in-Some.range.owner w.0 c.range_of.new.pass.seat.me c.watch-state.new.pass.seat.me mark.1
    (ap (λ (x : MyTree). x.0.sizes) still ∙ c.requires.ready.own.1) (subst (λ (x : MyTree). IsAlone z x.0.upper) (sym still) alone)
    (subst (λ (x : MyTree). IsKnown z x.0.upper) (sym still) known) w.2
    (ap (λ (x : MyTree). x.0.upper.ranges.unfinished) still ∙ c.requires.none_met)

pub returns-in_default-clause-alone : goal.returns-in_default-clause-alone
returns-in_default-clause-alone c = λ alone known. c.clear_of_join.ensures.unmet
