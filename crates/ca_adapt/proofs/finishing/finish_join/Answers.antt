use Rattle.std.proofs.Common.{rules, ◌≡◌, ℕ, List, [], ◌∷◌, Ok, ap, refl, sym, ◌∙◌, subst, arith}
use Rattle.ca_base.specs.Counting.{losses, HasFound}
use Rattle.ca_base.specs.Joined.{AreJoinable}
use Rattle.ca_base.specs.Taking.{AreHeld}
use Rattle.ca_base.proofs.Counts.{met_both, none_spent, spent_both, written_met}
use Rattle.ca_base.proofs.Unlinking.{written_row}
use Rattle.ca_node.proofs.Tallies.{tallied_still}
use Rattle.ca_node.specs.JoinSteps.{attempt_of}
use Rattle.ca_node.specs.Links.{IsIn}
use Rattle.ca_node.specs.Row.{level}
use Rattle.ca_node.specs.Told.{MyTree, link_word}
use Rattle.ca_node.specs.TreeView.{KnownRanges, Way, TreeView}
use Rattle.ca_rows.specs.declared.kept.KeptRows.{KeptRows}
use Rattle.ca_rows.specs.declared.view.Pin.{Pin}
use Rattle.ca_adapt.specs.declared.finishing.Finish.{Finish}
use Rattle.ca_adapt.specs.Finishing.{HasFinished, HasUnitedBy, KeepsFinished}
use Rattle.ca_adapt.proofs.Finishes.{AreBoth, both_loaded, finished_done, finished_not, finished_united, known_left, known_right, none_united, ways_after}
use Rattle.ca_adapt.proofs.JoinSwaps.{is_written, link_is, rows_are, unlinking_of, unlinks}
use Rattle.ca_base.proofs.Spends.{on_both, on_lost, on_still}
use Rattle.ca_adapt.proofs.KeptJoins.{kept_not, kept_then}
use Rattle.ca_node.specs.TreeView.{Secured, own_behind}
use Rattle.ca_node.specs.Unlinks.{attempt_by}
use Rattle.ca_node.proofs.OwnTurns.{behind_else}
use Rattle.ca_adapt.proofs.finishing.finish_join.Goals as goal

pub load_link-left-requires-clause-known : goal.load_link-left-requires-clause-known
load_link-left-requires-clause-known c = let a = c.requires.above in
    known_left c.args.pass.now.seat.me.0.upper c.args.attempt.route a.way a.remembered a.row_is

pub load_link-right-requires-clause-known : goal.load_link-right-requires-clause-known
load_link-right-requires-clause-known c = let a = c.requires.above in let x =
    attempt_of c.args.attempt.route c.args.attempt.number in
    known_right c.load_link-left.new.pass.seat.me.0.upper c.args.attempt.route a.way
    (subst (λ (ways : List Way). IsIn a.way ways)
    (sym (ways_after x c.args.pass.now.seat.me c.load_link-left.new.pass.seat.me
    c.load_link-left.result c.requires.secured
    c.load_link-left.ensures.led c.load_link-left.ensures.secured)) a.remembered) a.row_is

pub route_level-level-requires-clause-remembered : goal.route_level-level-requires-clause-remembered
route_level-level-requires-clause-remembered c = let z = c.args.space.now.table.shared.key in
    let m = c.args.pass.now.seat.me in
    let x = attempt_of c.args.attempt.route c.args.attempt.number in
    let n = c.load_link-right.new.pass.seat.me in let left = c.load_link-left.result in let right =
    c.load_link-right.result in
    let h : AreBoth z x m n left right = both_loaded z x m c.load_link-left.new.pass.seat.me
    c.load_link-right.new.pass.seat.me left right
    c.requires.leaf (record {
      sizes = c.requires.ready.own.1;
      some_rows = c.args.space.now.few.0;
      secured = c.requires.secured;
      led_left = c.load_link-left.ensures.led;
      secured_left = c.load_link-left.ensures.secured;
      led_right = c.load_link-right.ensures.led;
      secured_right = c.load_link-right.ensures.secured;
    }) in
    let a = c.requires.above in (
      a.way,
      subst (λ (ways : List Way). IsIn a.way ways) (sym h.tried.ways) a.remembered,
      a.row_is,
    )

pub returns-in-Err-clause-frame : goal.returns-in-Err-clause-frame
returns-in-Err-clause-frame c = let z = c.args.space.now.table.shared.key in let m =
    c.args.pass.now.seat.me in
    let x = attempt_of c.args.attempt.route c.args.attempt.number in
    let n = c.route_level-level.new.pass.seat.me in let left = c.load_link-left.result in
    let right = c.load_link-right.result in
    let h : AreBoth z x m n left right = subst (λ (y : MyTree). AreBoth z x m y left right)
    (sym c.route_level-level.ensures.frame.still)
    (both_loaded z x m c.load_link-left.new.pass.seat.me c.load_link-right.new.pass.seat.me left
    right c.requires.leaf (record {
      sizes = c.requires.ready.own.1;
      some_rows = c.args.space.now.few.0;
      secured = c.requires.secured;
      led_left = c.load_link-left.ensures.led;
      secured_left = c.load_link-left.ensures.secured;
      led_right = c.load_link-right.ensures.led;
      secured_right = c.load_link-right.ensures.secured;
    })) in
    let kept = c.route_level-level.ensures.frame.kept
    ∙ (c.load_link-right.ensures.frame.kept ∙ c.load_link-left.ensures.frame.kept) in
    let none = subst (λ (k : KeptRows). AreHeld z.rows k.rows n.0 []) (sym kept)
    (h.held z.rows c.args.pass.now.kept [] c.requires.ready.none) in
    record {
      same = search rules;
      number = search rules;
      tally = tallied_still c.args.pass.now.tally c.take.new.pass.tally m.0.upper
          c.take.new.pass.seat.me.0.upper (search rules)
          (ap (λ (u : TreeView). u.splits) c.take.ensures.frame.same.4
          ∙ ap (λ (u : TreeView). u.splits) h.steps.only)
          (ap (λ (u : TreeView). u.joins) c.take.ensures.frame.same.4 ∙ h.tried.joins);
      pin = (c.take.ensures.frame.same.2 ∙ h.sizes, c.take.ensures.frame.same.3 ∙ h.pin);
      own_range = ap (λ (u : TreeView). u.ranges.own) (c.take.ensures.frame.same.4)
          ∙ ap (λ (r : KnownRanges). r.own) h.tried.ranges;
      none = c.in-Err.ensures.taken [] (omega arith) none;
    }

pub returns-in-Err-clause-finished : goal.returns-in-Err-clause-finished
returns-in-Err-clause-finished c = let z = c.args.space.now.table.shared.key in let m =
    c.args.pass.now.seat.me in
    let x = attempt_of c.args.attempt.route c.args.attempt.number in
    let n = c.route_level-level.new.pass.seat.me in let left = c.load_link-left.result in
    let right = c.load_link-right.result in
    let h : AreBoth z x m n left right = subst (λ (y : MyTree). AreBoth z x m y left right)
    (sym c.route_level-level.ensures.frame.still)
    (both_loaded z x m c.load_link-left.new.pass.seat.me c.load_link-right.new.pass.seat.me left
    right c.requires.leaf (record {
      sizes = c.requires.ready.own.1;
      some_rows = c.args.space.now.few.0;
      secured = c.requires.secured;
      led_left = c.load_link-left.ensures.led;
      secured_left = c.load_link-left.ensures.secured;
      led_right = c.load_link-right.ensures.led;
      secured_right = c.load_link-right.ensures.secured;
    })) in
    subst (λ (r : Finish). HasFinished z c.args.counted r m c.take.new.pass.seat.me)
    (sym c.lacking.ensures)
    (finished_not z x c.args.counted m n c.take.new.pass.seat.me left right c.in-Err.why h
    c.take.ensures.frame.same.4 c.in-Err.ensures.found)

pub returns-in-Err-clause-counted : goal.returns-in-Err-clause-counted
returns-in-Err-clause-counted c = let z = c.args.space.now.table.shared.key in let m =
    c.args.pass.now.seat.me in
    let x = attempt_of c.args.attempt.route c.args.attempt.number in
    let n = c.route_level-level.new.pass.seat.me in let left = c.load_link-left.result in
    let right = c.load_link-right.result in
    let h : AreBoth z x m n left right = subst (λ (y : MyTree). AreBoth z x m y left right)
    (sym c.route_level-level.ensures.frame.still)
    (both_loaded z x m c.load_link-left.new.pass.seat.me c.load_link-right.new.pass.seat.me left
    right c.requires.leaf (record {
      sizes = c.requires.ready.own.1;
      some_rows = c.args.space.now.few.0;
      secured = c.requires.secured;
      led_left = c.load_link-left.ensures.led;
      secured_left = c.load_link-left.ensures.secured;
      led_right = c.load_link-right.ensures.led;
      secured_right = c.load_link-right.ensures.secured;
    })) in
    on_lost c.args.spent.now c.take.new.spent m c.take.new.pass.seat.me
    (ap (λ (u : TreeView). u.turns) c.take.ensures.frame.same.4 ∙ h.tried.turns)
    (spent_both c.args.spent.now c.args.spent.now c.take.new.spent m n c.take.new.pass.seat.me
    (none_spent c.args.spent.now m n h.lost) c.take.ensures.counted)

pub write_joined-requires-clause-row : goal.write_joined-requires-clause-row
write_joined-requires-clause-row c = let z = c.args.space.now.table.shared.key in let m =
    c.args.pass.now.seat.me in
    let x = attempt_of c.args.attempt.route c.args.attempt.number in
    let n = c.route_level-level.new.pass.seat.me in let left = c.load_link-left.result in
    let right = c.load_link-right.result in
    let h : AreBoth z x m n left right = subst (λ (y : MyTree). AreBoth z x m y left right)
    (sym c.route_level-level.ensures.frame.still)
    (both_loaded z x m c.load_link-left.new.pass.seat.me c.load_link-right.new.pass.seat.me left
    right c.requires.leaf (record {
      sizes = c.requires.ready.own.1;
      some_rows = c.args.space.now.few.0;
      secured = c.requires.secured;
      led_left = c.load_link-left.ensures.led;
      secured_left = c.load_link-left.ensures.secured;
      led_right = c.load_link-right.ensures.led;
      secured_right = c.load_link-right.ensures.secured;
    })) in
    let kept = c.route_level-level.ensures.frame.kept
    ∙ (c.load_link-right.ensures.frame.kept ∙ c.load_link-left.ensures.frame.kept) in
    let none = subst (λ (k : KeptRows). AreHeld z.rows k.rows n.0 []) (sym kept)
    (h.held z.rows c.args.pass.now.kept [] c.requires.ready.none) in
    let taken = c.in-Ok.ensures.taken [] (omega arith) none in
    let each = taken.1.0.each c.in-Ok.row (0, refl) in
    record {
      reading = record {
        own = (
          c.take.ensures.frame.same.0
              ∙ (c.route_level-level.ensures.frame.same.0 ∙ (c.load_link-right.ensures.frame.same.0
              ∙ (c.load_link-left.ensures.frame.same.0 ∙ c.requires.ready.own.0))),
          c.take.ensures.frame.same.2 ∙ (h.sizes ∙ c.requires.ready.own.1),
        );
        pinned = ap (λ (p : Pin). p.pinned) (c.take.ensures.frame.same.3 ∙ h.pin)
            ∙ c.requires.ready.pinned;
      };
      held = (each.1, each.2);
    }

pub write_joined-requires-clause-shown : goal.write_joined-requires-clause-shown
write_joined-requires-clause-shown c = let z = c.args.space.now.table.shared.key in let m =
    c.args.pass.now.seat.me in
    let x = attempt_of c.args.attempt.route c.args.attempt.number in
    let n = c.route_level-level.new.pass.seat.me in let left = c.load_link-left.result in
    let right = c.load_link-right.result in
    let h : AreBoth z x m n left right = subst (λ (y : MyTree). AreBoth z x m y left right)
    (sym c.route_level-level.ensures.frame.still)
    (both_loaded z x m c.load_link-left.new.pass.seat.me c.load_link-right.new.pass.seat.me left
    right c.requires.leaf (record {
      sizes = c.requires.ready.own.1;
      some_rows = c.args.space.now.few.0;
      secured = c.requires.secured;
      led_left = c.load_link-left.ensures.led;
      secured_left = c.load_link-left.ensures.secured;
      led_right = c.load_link-right.ensures.led;
      secured_right = c.load_link-right.ensures.secured;
    })) in
    let join = subst (λ (u : TreeView). AreJoinable z u left right h.first h.second)
    (sym c.take.ensures.frame.same.4) h.joinable in
    (h.first, h.second, join)

pub put_joined-requires-clause-unlinking : goal.put_joined-requires-clause-unlinking
put_joined-requires-clause-unlinking c = let z = c.args.space.now.table.shared.key in let m =
    c.args.pass.now.seat.me in
    let x = attempt_of c.args.attempt.route c.args.attempt.number in
    let n = c.route_level-level.new.pass.seat.me in let left = c.load_link-left.result in
    let right = c.load_link-right.result in
    let h : AreBoth z x m n left right = subst (λ (y : MyTree). AreBoth z x m y left right)
    (sym c.route_level-level.ensures.frame.still)
    (both_loaded z x m c.load_link-left.new.pass.seat.me c.load_link-right.new.pass.seat.me left
    right c.requires.leaf (record {
      sizes = c.requires.ready.own.1;
      some_rows = c.args.space.now.few.0;
      secured = c.requires.secured;
      led_left = c.load_link-left.ensures.led;
      secured_left = c.load_link-left.ensures.secured;
      led_right = c.load_link-right.ensures.led;
      secured_right = c.load_link-right.ensures.secured;
    })) in
    let join = subst (λ (u : TreeView). AreJoinable z u left right h.first h.second)
    (sym c.take.ensures.frame.same.4) h.joinable in
    let w = c.write_joined.ensures.written h.first h.second join in
    let s = is_written z c.args.above c.args.counted m n c.take.new.pass.seat.me
    c.write_joined.new.pass.seat.me
    (record { attempt = c.args.attempt; left = left; right = right; new = c.in-Ok.row })
    c.route_level-level.result w.0 h c.requires.above
    c.take.ensures.frame.same.4 c.take.ensures.frame.same.3 c.write_joined.ensures.frame.same.4
    c.write_joined.ensures.frame.same.3
    c.requires.ready.pinned c.requires.ready.number c.requires.secured c.requires.decided
    (subst (λ (y : MyTree). (way : Way) → IsIn way y.0.upper.ways → way.row ≡ c.args.attempt.route
    → c.route_level-level.result ≡ level way.its)
    (sym c.route_level-level.ensures.frame.still) c.route_level-level.ensures.level) w.2.here w.1 in
    unlinks z c.args.above c.args.counted m n c.write_joined.new.pass.seat.me
    (record { attempt = c.args.attempt; left = left; right = right; new = c.in-Ok.row })
    c.route_level-level.result w.0 s

pub put_joined-requires-clause-rows : goal.put_joined-requires-clause-rows
put_joined-requires-clause-rows c = let z = c.args.space.now.table.shared.key in let m =
    c.args.pass.now.seat.me in
    let x = attempt_of c.args.attempt.route c.args.attempt.number in
    let n = c.route_level-level.new.pass.seat.me in let left = c.load_link-left.result in
    let right = c.load_link-right.result in
    let h : AreBoth z x m n left right = subst (λ (y : MyTree). AreBoth z x m y left right)
    (sym c.route_level-level.ensures.frame.still)
    (both_loaded z x m c.load_link-left.new.pass.seat.me c.load_link-right.new.pass.seat.me left
    right c.requires.leaf (record {
      sizes = c.requires.ready.own.1;
      some_rows = c.args.space.now.few.0;
      secured = c.requires.secured;
      led_left = c.load_link-left.ensures.led;
      secured_left = c.load_link-left.ensures.secured;
      led_right = c.load_link-right.ensures.led;
      secured_right = c.load_link-right.ensures.secured;
    })) in
    let join = subst (λ (u : TreeView). AreJoinable z u left right h.first h.second)
    (sym c.take.ensures.frame.same.4) h.joinable in
    let w = c.write_joined.ensures.written h.first h.second join in
    let s = is_written z c.args.above c.args.counted m n c.take.new.pass.seat.me
    c.write_joined.new.pass.seat.me
    (record { attempt = c.args.attempt; left = left; right = right; new = c.in-Ok.row })
    c.route_level-level.result w.0 h c.requires.above
    c.take.ensures.frame.same.4 c.take.ensures.frame.same.3 c.write_joined.ensures.frame.same.4
    c.write_joined.ensures.frame.same.3
    c.requires.ready.pinned c.requires.ready.number c.requires.secured c.requires.decided
    (subst (λ (y : MyTree). (way : Way) → IsIn way y.0.upper.ways → way.row ≡ c.args.attempt.route
    → c.route_level-level.result ≡ level way.its)
    (sym c.route_level-level.ensures.frame.still) c.route_level-level.ensures.level) w.2.here w.1 in
    rows_are z c.args.above c.args.counted m n c.write_joined.new.pass.seat.me
    (record { attempt = c.args.attempt; left = left; right = right; new = c.in-Ok.row })
    c.route_level-level.result w.0 s

pub put_joined-requires-clause-link : goal.put_joined-requires-clause-link
put_joined-requires-clause-link c = let z = c.args.space.now.table.shared.key in let m =
    c.args.pass.now.seat.me in
    let x = attempt_of c.args.attempt.route c.args.attempt.number in
    let n = c.route_level-level.new.pass.seat.me in let left = c.load_link-left.result in
    let right = c.load_link-right.result in
    let h : AreBoth z x m n left right = subst (λ (y : MyTree). AreBoth z x m y left right)
    (sym c.route_level-level.ensures.frame.still)
    (both_loaded z x m c.load_link-left.new.pass.seat.me c.load_link-right.new.pass.seat.me left
    right c.requires.leaf (record {
      sizes = c.requires.ready.own.1;
      some_rows = c.args.space.now.few.0;
      secured = c.requires.secured;
      led_left = c.load_link-left.ensures.led;
      secured_left = c.load_link-left.ensures.secured;
      led_right = c.load_link-right.ensures.led;
      secured_right = c.load_link-right.ensures.secured;
    })) in
    let join = subst (λ (u : TreeView). AreJoinable z u left right h.first h.second)
    (sym c.take.ensures.frame.same.4) h.joinable in
    let w = c.write_joined.ensures.written h.first h.second join in
    let s = is_written z c.args.above c.args.counted m n c.take.new.pass.seat.me
    c.write_joined.new.pass.seat.me
    (record { attempt = c.args.attempt; left = left; right = right; new = c.in-Ok.row })
    c.route_level-level.result w.0 h c.requires.above
    c.take.ensures.frame.same.4 c.take.ensures.frame.same.3 c.write_joined.ensures.frame.same.4
    c.write_joined.ensures.frame.same.3
    c.requires.ready.pinned c.requires.ready.number c.requires.secured c.requires.decided
    (subst (λ (y : MyTree). (way : Way) → IsIn way y.0.upper.ways → way.row ≡ c.args.attempt.route
    → c.route_level-level.result ≡ level way.its)
    (sym c.route_level-level.ensures.frame.still) c.route_level-level.ensures.level) w.2.here w.1 in
    link_is z c.args.above c.args.counted m n c.write_joined.new.pass.seat.me
    (record { attempt = c.args.attempt; left = left; right = right; new = c.in-Ok.row })
    c.route_level-level.result w.0 s

pub put_joined-requires-clause-held : goal.put_joined-requires-clause-held
put_joined-requires-clause-held c = let z = c.args.space.now.table.shared.key in let m =
    c.args.pass.now.seat.me in
    let x = attempt_of c.args.attempt.route c.args.attempt.number in
    let n = c.route_level-level.new.pass.seat.me in let left = c.load_link-left.result in
    let right = c.load_link-right.result in
    let h : AreBoth z x m n left right = subst (λ (y : MyTree). AreBoth z x m y left right)
    (sym c.route_level-level.ensures.frame.still)
    (both_loaded z x m c.load_link-left.new.pass.seat.me c.load_link-right.new.pass.seat.me left
    right c.requires.leaf (record {
      sizes = c.requires.ready.own.1;
      some_rows = c.args.space.now.few.0;
      secured = c.requires.secured;
      led_left = c.load_link-left.ensures.led;
      secured_left = c.load_link-left.ensures.secured;
      led_right = c.load_link-right.ensures.led;
      secured_right = c.load_link-right.ensures.secured;
    })) in
    let kept = c.route_level-level.ensures.frame.kept
    ∙ (c.load_link-right.ensures.frame.kept ∙ c.load_link-left.ensures.frame.kept) in
    let none = subst (λ (k : KeptRows). AreHeld z.rows k.rows n.0 []) (sym kept)
    (h.held z.rows c.args.pass.now.kept [] c.requires.ready.none) in
    let taken = c.in-Ok.ensures.taken [] (omega arith) none in
    let join = subst (λ (u : TreeView). AreJoinable z u left right h.first h.second)
    (sym c.take.ensures.frame.same.4) h.joinable in
    let w = c.write_joined.ensures.written h.first h.second join in
    written_row z.rows c.take.new.pass.kept c.write_joined.new.pass.kept c.take.new.pass.seat.me
    c.write_joined.new.pass.seat.me (c.in-Ok.row ∷ [])
    c.in-Ok.row w.0 (0, refl) w.1.long w.2 c.write_joined.ensures.frame.kept taken.1

pub returns-clause-frame : goal.returns-clause-frame
returns-clause-frame c = let z = c.args.space.now.table.shared.key in let m =
    c.args.pass.now.seat.me in
    let x = attempt_of c.args.attempt.route c.args.attempt.number in
    let n = c.route_level-level.new.pass.seat.me in let left = c.load_link-left.result in
    let right = c.load_link-right.result in
    let h : AreBoth z x m n left right = subst (λ (y : MyTree). AreBoth z x m y left right)
    (sym c.route_level-level.ensures.frame.still)
    (both_loaded z x m c.load_link-left.new.pass.seat.me c.load_link-right.new.pass.seat.me left
    right c.requires.leaf (record {
      sizes = c.requires.ready.own.1;
      some_rows = c.args.space.now.few.0;
      secured = c.requires.secured;
      led_left = c.load_link-left.ensures.led;
      secured_left = c.load_link-left.ensures.secured;
      led_right = c.load_link-right.ensures.led;
      secured_right = c.load_link-right.ensures.secured;
    })) in
    let join = subst (λ (u : TreeView). AreJoinable z u left right h.first h.second)
    (sym c.take.ensures.frame.same.4) h.joinable in
    let w = c.write_joined.ensures.written h.first h.second join in
    let s = is_written z c.args.above c.args.counted m n c.take.new.pass.seat.me
    c.write_joined.new.pass.seat.me
    (record { attempt = c.args.attempt; left = left; right = right; new = c.in-Ok.row })
    c.route_level-level.result w.0 h c.requires.above
    c.take.ensures.frame.same.4 c.take.ensures.frame.same.3 c.write_joined.ensures.frame.same.4
    c.write_joined.ensures.frame.same.3
    c.requires.ready.pinned c.requires.ready.number c.requires.secured c.requires.decided
    (subst (λ (y : MyTree). (way : Way) → IsIn way y.0.upper.ways → way.row ≡ c.args.attempt.route
    → c.route_level-level.result ≡ level way.its)
    (sym c.route_level-level.ensures.frame.still) c.route_level-level.ensures.level) w.2.here w.1 in
    let by = unlinking_of c.write_joined.new.pass.seat.me
    (record { attempt = c.args.attempt; left = left; right = right; new = c.in-Ok.row })
    c.args.counted
    (link_word c.args.above) in
    let route = (rows_are z c.args.above c.args.counted m n c.write_joined.new.pass.seat.me
    (record { attempt = c.args.attempt; left = left; right = right; new = c.in-Ok.row })
    c.route_level-level.result w.0 s).route in
    let other : own_behind (attempt_by by) n.0.upper.ranges.own ≡ n.0.upper.ranges.own =
    behind_else (attempt_by by) n.0.upper.ranges.own
    (λ e. c.requires.other (ap (λ (r : KnownRanges). r.own) (sym h.tried.ranges)
    ∙ (e ∙ ap (λ (r : ℕ). Secured (attempt_of r c.args.attempt.number)) route))) in
    let upper = c.write_joined.ensures.frame.same.4 ∙ c.take.ensures.frame.same.4 in record {
      same = search rules;
      number = search rules;
      tally = λ t. c.put_joined.ensures.frame.tally
          (tallied_still c.args.pass.now.tally c.write_joined.new.pass.tally m.0.upper
          c.write_joined.new.pass.seat.me.0.upper (search rules)
          (ap (λ (u : TreeView). u.splits) upper ∙ ap (λ (u : TreeView). u.splits) h.steps.only)
          (ap (λ (u : TreeView). u.joins) upper ∙ h.tried.joins) t);
      pin = (
        c.put_joined.ensures.frame.pin.0
            ∙ (c.write_joined.ensures.frame.same.2 ∙ (c.take.ensures.frame.same.2 ∙ h.sizes)),
        c.put_joined.ensures.frame.pin.1
            ∙ (c.write_joined.ensures.frame.same.3 ∙ (c.take.ensures.frame.same.3 ∙ h.pin)),
      );
      own_range = c.put_joined.ensures.own
          ∙ (ap (λ (u : TreeView). own_behind (attempt_by by) u.ranges.own) upper
          ∙ (other ∙ ap (λ (r : KnownRanges). r.own) h.tried.ranges));
      none = c.put_joined.ensures.none;
    }

pub returns-in-Err-clause-united : goal.returns-in-Err-clause-united
returns-in-Err-clause-united c = let m = c.args.pass.now.seat.me in let x =
    attempt_of c.args.attempt.route c.args.attempt.number in
    subst (λ (r : Finish). HasUnitedBy x r m c.take.new.pass.seat.me) (sym c.lacking.ensures)
    (none_united x c.in-Err.why m c.take.new.pass.seat.me)

pub returns-clause-united : goal.returns-clause-united
returns-clause-united c = let z = c.args.space.now.table.shared.key in let m =
    c.args.pass.now.seat.me in
    let x = attempt_of c.args.attempt.route c.args.attempt.number in
    let n = c.route_level-level.new.pass.seat.me in let left = c.load_link-left.result in
    let right = c.load_link-right.result in
    let h : AreBoth z x m n left right = subst (λ (y : MyTree). AreBoth z x m y left right)
    (sym c.route_level-level.ensures.frame.still)
    (both_loaded z x m c.load_link-left.new.pass.seat.me c.load_link-right.new.pass.seat.me left
    right c.requires.leaf (record {
      sizes = c.requires.ready.own.1;
      some_rows = c.args.space.now.few.0;
      secured = c.requires.secured;
      led_left = c.load_link-left.ensures.led;
      secured_left = c.load_link-left.ensures.secured;
      led_right = c.load_link-right.ensures.led;
      secured_right = c.load_link-right.ensures.secured;
    })) in
    let join = subst (λ (u : TreeView). AreJoinable z u left right h.first h.second)
    (sym c.take.ensures.frame.same.4) h.joinable in
    let w = c.write_joined.ensures.written h.first h.second join in
    let s = is_written z c.args.above c.args.counted m n c.take.new.pass.seat.me
    c.write_joined.new.pass.seat.me
    (record { attempt = c.args.attempt; left = left; right = right; new = c.in-Ok.row })
    c.route_level-level.result w.0 h c.requires.above
    c.take.ensures.frame.same.4 c.take.ensures.frame.same.3 c.write_joined.ensures.frame.same.4
    c.write_joined.ensures.frame.same.3
    c.requires.ready.pinned c.requires.ready.number c.requires.secured c.requires.decided
    (subst (λ (y : MyTree). (way : Way) → IsIn way y.0.upper.ways → way.row ≡ c.args.attempt.route
    → c.route_level-level.result ≡ level way.its)
    (sym c.route_level-level.ensures.frame.still) c.route_level-level.ensures.level) w.2.here w.1 in
    let by = unlinking_of c.write_joined.new.pass.seat.me
    (record { attempt = c.args.attempt; left = left; right = right; new = c.in-Ok.row })
    c.args.counted
    (link_word c.args.above) in
    let route = (rows_are z c.args.above c.args.counted m n c.write_joined.new.pass.seat.me
    (record { attempt = c.args.attempt; left = left; right = right; new = c.in-Ok.row })
    c.route_level-level.result w.0 s).route in
    let put = unlinks z c.args.above c.args.counted m n c.write_joined.new.pass.seat.me
    (record { attempt = c.args.attempt; left = left; right = right; new = c.in-Ok.row })
    c.route_level-level.result w.0 s in
    let had : HasFound {T = ℕ} (Ok c.in-Ok.row) n c.take.new.pass.seat.me = c.in-Ok.ensures.found in
    finished_united x m n c.write_joined.new.pass.seat.me c.put_joined.new.pass.seat.me c.in-Ok.row
    by c.put_joined.result h.tried
    (c.write_joined.ensures.frame.same.4 ∙ c.take.ensures.frame.same.4)
    (ap losses w.2.only ∙ (had.1 ∙ h.lost))
    (ap (λ (r : ℕ). attempt_of r c.args.attempt.number) route) put.remembered
    c.put_joined.ensures.done

pub returns-clause-finished : goal.returns-clause-finished
returns-clause-finished c = let z = c.args.space.now.table.shared.key in let m =
    c.args.pass.now.seat.me in
    let x = attempt_of c.args.attempt.route c.args.attempt.number in
    let n = c.route_level-level.new.pass.seat.me in let left = c.load_link-left.result in
    let right = c.load_link-right.result in
    let h : AreBoth z x m n left right = subst (λ (y : MyTree). AreBoth z x m y left right)
    (sym c.route_level-level.ensures.frame.still)
    (both_loaded z x m c.load_link-left.new.pass.seat.me c.load_link-right.new.pass.seat.me left
    right c.requires.leaf (record {
      sizes = c.requires.ready.own.1;
      some_rows = c.args.space.now.few.0;
      secured = c.requires.secured;
      led_left = c.load_link-left.ensures.led;
      secured_left = c.load_link-left.ensures.secured;
      led_right = c.load_link-right.ensures.led;
      secured_right = c.load_link-right.ensures.secured;
    })) in
    let join = subst (λ (u : TreeView). AreJoinable z u left right h.first h.second)
    (sym c.take.ensures.frame.same.4) h.joinable in
    let w = c.write_joined.ensures.written h.first h.second join in
    let s = is_written z c.args.above c.args.counted m n c.take.new.pass.seat.me
    c.write_joined.new.pass.seat.me
    (record { attempt = c.args.attempt; left = left; right = right; new = c.in-Ok.row })
    c.route_level-level.result w.0 h c.requires.above
    c.take.ensures.frame.same.4 c.take.ensures.frame.same.3 c.write_joined.ensures.frame.same.4
    c.write_joined.ensures.frame.same.3
    c.requires.ready.pinned c.requires.ready.number c.requires.secured c.requires.decided
    (subst (λ (y : MyTree). (way : Way) → IsIn way y.0.upper.ways → way.row ≡ c.args.attempt.route
    → c.route_level-level.result ≡ level way.its)
    (sym c.route_level-level.ensures.frame.still) c.route_level-level.ensures.level) w.2.here w.1 in
    let by = unlinking_of c.write_joined.new.pass.seat.me
    (record { attempt = c.args.attempt; left = left; right = right; new = c.in-Ok.row })
    c.args.counted
    (link_word c.args.above) in
    let route = (rows_are z c.args.above c.args.counted m n c.write_joined.new.pass.seat.me
    (record { attempt = c.args.attempt; left = left; right = right; new = c.in-Ok.row })
    c.route_level-level.result w.0 s).route in
    let other : own_behind (attempt_by by) n.0.upper.ranges.own ≡ n.0.upper.ranges.own =
    behind_else (attempt_by by) n.0.upper.ranges.own
    (λ e. c.requires.other (ap (λ (r : KnownRanges). r.own) (sym h.tried.ranges)
    ∙ (e ∙ ap (λ (r : ℕ). Secured (attempt_of r c.args.attempt.number)) route))) in
    let had : HasFound {T = ℕ} (Ok c.in-Ok.row) n c.take.new.pass.seat.me = c.in-Ok.ensures.found in
    let l = c.write_joined.new.pass.seat.me in let k = c.take.new.pass.seat.me in
    finished_done z x c.args.counted m n l c.put_joined.new.pass.seat.me left right c.in-Ok.row by
    c.put_joined.result other h
    (c.write_joined.ensures.frame.same.4 ∙ c.take.ensures.frame.same.4)
    (met_both 0 0 0 0 n k l had.0 (written_met c.in-Ok.row w.0 k l w.2))
    (ap losses w.2.only ∙ had.1) refl c.put_joined.ensures.met
    c.put_joined.ensures.done

pub returns-clause-counted : goal.returns-clause-counted
returns-clause-counted c = let z = c.args.space.now.table.shared.key in let m =
    c.args.pass.now.seat.me in
    let x = attempt_of c.args.attempt.route c.args.attempt.number in
    let n = c.route_level-level.new.pass.seat.me in let left = c.load_link-left.result in
    let right = c.load_link-right.result in
    let h : AreBoth z x m n left right = subst (λ (y : MyTree). AreBoth z x m y left right)
    (sym c.route_level-level.ensures.frame.still)
    (both_loaded z x m c.load_link-left.new.pass.seat.me c.load_link-right.new.pass.seat.me left
    right c.requires.leaf (record {
      sizes = c.requires.ready.own.1;
      some_rows = c.args.space.now.few.0;
      secured = c.requires.secured;
      led_left = c.load_link-left.ensures.led;
      secured_left = c.load_link-left.ensures.secured;
      led_right = c.load_link-right.ensures.led;
      secured_right = c.load_link-right.ensures.secured;
    })) in
    let join = subst (λ (u : TreeView). AreJoinable z u left right h.first h.second)
    (sym c.take.ensures.frame.same.4) h.joinable in
    let w = c.write_joined.ensures.written h.first h.second join in
    let l = c.write_joined.new.pass.seat.me in let k = c.take.new.pass.seat.me in let p =
    c.put_joined.new.pass.seat.me in
    on_both c.args.spent.now c.take.new.spent c.put_joined.new.spent m k p
    (on_lost c.args.spent.now c.take.new.spent m c.take.new.pass.seat.me
    (ap (λ (u : TreeView). u.turns) c.take.ensures.frame.same.4 ∙ h.tried.turns)
    (spent_both c.args.spent.now c.args.spent.now c.take.new.spent m n c.take.new.pass.seat.me
    (none_spent c.args.spent.now m n h.lost) c.take.ensures.counted))
    (on_both c.take.new.spent c.take.new.spent c.put_joined.new.spent k l p
    (on_still c.take.new.spent k l (ap losses w.2.only)
    (ap (λ (u : TreeView). u.turns) c.write_joined.ensures.frame.same.4))
    c.put_joined.ensures.counted)

pub returns-in-Err-clause-back : goal.returns-in-Err-clause-back
returns-in-Err-clause-back c = let z = c.args.space.now.table.shared.key in let m =
    c.args.pass.now.seat.me in
    let x = attempt_of c.args.attempt.route c.args.attempt.number in
    let n = c.route_level-level.new.pass.seat.me in let left = c.load_link-left.result in
    let right = c.load_link-right.result in
    let h : AreBoth z x m n left right = subst (λ (y : MyTree). AreBoth z x m y left right)
    (sym c.route_level-level.ensures.frame.still)
    (both_loaded z x m c.load_link-left.new.pass.seat.me c.load_link-right.new.pass.seat.me left
    right c.requires.leaf (record {
      sizes = c.requires.ready.own.1;
      some_rows = c.args.space.now.few.0;
      secured = c.requires.secured;
      led_left = c.load_link-left.ensures.led;
      secured_left = c.load_link-left.ensures.secured;
      led_right = c.load_link-right.ensures.led;
      secured_right = c.load_link-right.ensures.secured;
    })) in
    let kept = c.route_level-level.ensures.frame.kept
    ∙ (c.load_link-right.ensures.frame.kept ∙ c.load_link-left.ensures.frame.kept) in
    subst (λ (r : Finish). KeepsFinished c.args.attempt.route r m c.take.new.pass.seat.me
    c.args.pass.now.kept c.take.new.pass.kept)
    (sym c.lacking.ensures)
    (kept_not c.args.attempt.route c.in-Err.why m n c.take.new.pass.seat.me c.args.pass.now.kept
    c.route_level-level.new.pass.kept c.take.new.pass.kept h.lost h.pin kept c.in-Err.ensures.back)

pub returns-clause-back : goal.returns-clause-back
returns-clause-back c = let z = c.args.space.now.table.shared.key in let m =
    c.args.pass.now.seat.me in
    let x = attempt_of c.args.attempt.route c.args.attempt.number in
    let n = c.route_level-level.new.pass.seat.me in let left = c.load_link-left.result in
    let right = c.load_link-right.result in
    let h : AreBoth z x m n left right = subst (λ (y : MyTree). AreBoth z x m y left right)
    (sym c.route_level-level.ensures.frame.still)
    (both_loaded z x m c.load_link-left.new.pass.seat.me c.load_link-right.new.pass.seat.me left
    right c.requires.leaf (record {
      sizes = c.requires.ready.own.1;
      some_rows = c.args.space.now.few.0;
      secured = c.requires.secured;
      led_left = c.load_link-left.ensures.led;
      secured_left = c.load_link-left.ensures.secured;
      led_right = c.load_link-right.ensures.led;
      secured_right = c.load_link-right.ensures.secured;
    })) in
    let join = subst (λ (u : TreeView). AreJoinable z u left right h.first h.second)
    (sym c.take.ensures.frame.same.4) h.joinable in
    let w = c.write_joined.ensures.written h.first h.second join in
    let kept = c.route_level-level.ensures.frame.kept
    ∙ (c.load_link-right.ensures.frame.kept ∙ c.load_link-left.ensures.frame.kept) in
    let had : HasFound {T = ℕ} (Ok c.in-Ok.row) n c.take.new.pass.seat.me = c.in-Ok.ensures.found in
    kept_then (record { attempt = c.args.attempt; left = left; right = right; new = c.in-Ok.row }) m
    n c.write_joined.new.pass.seat.me
    c.put_joined.new.pass.seat.me c.args.pass.now.kept c.route_level-level.new.pass.kept
    c.take.new.pass.kept c.write_joined.new.pass.kept
    c.put_joined.new.pass.kept (ap losses w.2.only ∙ (had.1 ∙ h.lost)) h.pin kept
    c.in-Ok.ensures.back c.write_joined.ensures.frame.kept
    c.put_joined.ensures.back
