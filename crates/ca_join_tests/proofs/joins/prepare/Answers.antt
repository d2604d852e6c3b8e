use Rattle.std.proofs.Common.{◌≡◌, ◌≤◌, ◌∙◌, ℕ, List, [], get_or, refl, sym, ap, subst, inl}
use Rattle.ca_adapt.specs.declared.joining.Attempt.{Attempt}
use Rattle.ca_adapt.proofs.Tried.{begun_ready}
use Rattle.ca_node.specs.Joining.{IsRemembered}
use Rattle.ca_node.specs.Links.{IsIn}
use Rattle.ca_node.specs.Row.{mark}
use Rattle.ca_node.specs.Told.{MyTree}
use Rattle.ca_node.specs.TreeView.{Way, TreeView}
use Rattle.ca_replace.proofs.Between.{may_first}
use Rattle.ca_rows.specs.Calls.{IsNumbered}
use Rattle.ca_rows.specs.declared.view.Pin.{Pin}
use Rattle.ca_join_tests.proofs.Prepared.{begun_at, begun_in, begun_link, begun_settled, begun_shown, remembered_above, route_inside, walked_quiet, walked_ready, ways_are}
use Rattle.ca_join_tests.proofs.joins.prepare.Goals as goal

pub load_word-kind-requires-clause-shown : goal.load_word-kind-requires-clause-shown
load_word-kind-requires-clause-shown c = let w = c.walk-cursor.ensures.walked in
    let shown : IsIn w.note c.walk-cursor.new.pass.seat.me.0.upper.notes = subst (λ (x : MyTree). IsIn w.note x.0.upper.notes) (sym w.now) (0, refl) in
    (get_or w.note.its 2 0, (w.note.its, inl (w.note, shown, inl (w.cursor_is.base, refl)), refl))

pub begin_attempt-requires-clause-ready : goal.begin_attempt-requires-clause-ready
begin_attempt-requires-clause-ready c = let space = c.args.space.now in let p = c.pin.new.pass in let f = c.pin.ensures.frame in let e = c.pin.ensures.pinned in
    walked_ready space p c.walk-cursor.new.pass c.load_word-kind.new.pass _ c.walk-cursor.result
    (may_first space c.args.pass.now p [] e.0 e.1 c.requires.rests f.same f.number f.kept f.tally e.3)
    c.walk-cursor.ensures.frame c.walk-cursor.ensures.walked c.load_word-kind.ensures.frame

pub begin_attempt-requires-clause-inside : goal.begin_attempt-requires-clause-inside
begin_attempt-requires-clause-inside c = route_inside c.args.space.now.table.shared.key.rows c.in-Some.route _ (c.in-Some.ensures c.in-Some.route refl)
    c.walk-cursor.ensures.walked.inside

pub begin_attempt-requires-clause-remembered : goal.begin_attempt-requires-clause-remembered
begin_attempt-requires-clause-remembered c = let w = c.walk-cursor.ensures.walked in let cursor = c.walk-cursor.result in
    subst (λ (x : MyTree). IsRemembered x.0.upper.ways c.in-Some.route) (sym c.load_word-kind.ensures.frame.still)
    (remembered_above c.args.space.now.table.shared.key c.walk-cursor.new.pass.seat.me.0.upper.ways cursor.link cursor.above c.in-Some.route w.cursor_is.above
    (c.in-Some.ensures c.in-Some.route refl))

pub begin_attempt-requires-clause-quiet : goal.begin_attempt-requires-clause-quiet
begin_attempt-requires-clause-quiet c = let space = c.args.space.now in let p = c.pin.new.pass in let f = c.pin.ensures.frame in let e = c.pin.ensures.pinned in
    walked_quiet space p c.walk-cursor.new.pass c.load_word-kind.new.pass _ c.walk-cursor.result
    (may_first space c.args.pass.now p [] e.0 e.1 c.requires.rests f.same f.number f.kept f.tally e.3)
    c.walk-cursor.ensures.frame c.walk-cursor.ensures.walked c.load_word-kind.ensures.frame

pub mark_for-requires-clause-ready : goal.mark_for-requires-clause-ready
mark_for-requires-clause-ready c = let space = c.args.space.now in let p = c.pin.new.pass in let f = c.pin.ensures.frame in let e = c.pin.ensures.pinned in
    let may = may_first space c.args.pass.now p [] e.0 e.1 c.requires.rests f.same f.number f.kept f.tally e.3 in
    begun_ready space c.load_word-kind.new.pass c.begin_attempt.new.pass c.in-Some.route c.in-Ok.attempt c.begin_attempt.ensures.frame c.in-Ok.ensures.begun
    (walked_quiet space p c.walk-cursor.new.pass c.load_word-kind.new.pass _ c.walk-cursor.result may c.walk-cursor.ensures.frame
    c.walk-cursor.ensures.walked c.load_word-kind.ensures.frame)
    (walked_ready space p c.walk-cursor.new.pass c.load_word-kind.new.pass _ c.walk-cursor.result may c.walk-cursor.ensures.frame
    c.walk-cursor.ensures.walked c.load_word-kind.ensures.frame)

pub mark_for-requires-clause-shown : goal.mark_for-requires-clause-shown
mark_for-requires-clause-shown c = begun_shown c.args.space.now.table.shared.key _ c.walk-cursor.result c.in-Some.route c.in-Ok.attempt c.pin.new.pass.seat.me
    c.walk-cursor.new.pass.seat.me c.load_word-kind.new.pass.seat.me c.begin_attempt.new.pass.seat.me c.walk-cursor.ensures.walked
    c.load_word-kind.ensures.frame.still c.in-Ok.ensures.begun

pub mark_for-requires-clause-at : goal.mark_for-requires-clause-at
mark_for-requires-clause-at c = begun_at c.args.space.now.table.shared.key _ c.walk-cursor.result c.in-Some.route c.in-Ok.attempt c.pin.new.pass.seat.me
    c.walk-cursor.new.pass.seat.me c.load_word-kind.new.pass.seat.me c.begin_attempt.new.pass.seat.me c.walk-cursor.ensures.walked
    c.load_word-kind.ensures.frame.still c.in-Ok.ensures.begun

pub mark_for-requires-clause-settled : goal.mark_for-requires-clause-settled
mark_for-requires-clause-settled c = let w = c.walk-cursor.ensures.walked in
    let shown : IsIn w.note c.walk-cursor.new.pass.seat.me.0.upper.notes = subst (λ (x : MyTree). IsIn w.note x.0.upper.notes) (sym w.now) (0, refl) in
    let kind = c.load_word-kind.ensures.word (get_or w.note.its 2 0) (w.note.its, inl (w.note, shown, inl (w.cursor_is.base, refl)), refl) in
    let none : mark w.note.its ≡ 0 = sym kind ∙ c.if-kind-ne0.false in
    begun_settled c.args.space.now.table.shared.key _ c.walk-cursor.result c.in-Some.route c.in-Ok.attempt c.pin.new.pass.seat.me
    c.walk-cursor.new.pass.seat.me c.load_word-kind.new.pass.seat.me c.begin_attempt.new.pass.seat.me w c.load_word-kind.ensures.frame.still
    c.in-Ok.ensures.begun none

pub mark_for-requires-clause-link : goal.mark_for-requires-clause-link
mark_for-requires-clause-link c = begun_link c.args.space.now.table.shared.key _ c.walk-cursor.result c.in-Some.route c.in-Ok.attempt c.pin.new.pass.seat.me
    c.walk-cursor.new.pass.seat.me c.load_word-kind.new.pass.seat.me c.begin_attempt.new.pass.seat.me c.walk-cursor.ensures.walked
    c.load_word-kind.ensures.frame.still c.in-Ok.ensures.begun (c.in-Some.ensures c.in-Some.route refl)

pub mark_for-requires-clause-begun : goal.mark_for-requires-clause-begun
mark_for-requires-clause-begun c = begun_in c.args.space.now.table.shared.key _ c.walk-cursor.result c.in-Some.route c.in-Ok.attempt c.pin.new.pass.seat.me
    c.walk-cursor.new.pass.seat.me c.load_word-kind.new.pass.seat.me c.begin_attempt.new.pass.seat.me c.walk-cursor.ensures.walked
    c.load_word-kind.ensures.frame.still c.in-Ok.ensures.begun

pub returns-in-Ok-mark_for-clause-number : goal.returns-in-Ok-mark_for-clause-number
returns-in-Ok-mark_for-clause-number c x is = let space = c.args.space.now in let p = c.pin.new.pass in let f = c.pin.ensures.frame in
    let e = c.pin.ensures.pinned in let may = may_first space c.args.pass.now p [] e.0 e.1 c.requires.rests f.same f.number f.kept f.tally e.3 in
    let l = c.load_word-kind.new.pass in let b = c.in-Ok.ensures.begun in let s = c.mark_for.ensures.frame in
    let ready = begun_ready space l c.begin_attempt.new.pass c.in-Some.route c.in-Ok.attempt c.begin_attempt.ensures.frame b
    (walked_quiet space p c.walk-cursor.new.pass l _ c.walk-cursor.result may c.walk-cursor.ensures.frame c.walk-cursor.ensures.walked
    c.load_word-kind.ensures.frame)
    (walked_ready space p c.walk-cursor.new.pass l _ c.walk-cursor.result may c.walk-cursor.ensures.frame c.walk-cursor.ensures.walked
    c.load_word-kind.ensures.frame) in
    subst (λ (y : ℕ × Pin). IsNumbered y.0 y.1) (λ i. (sym s.number i, sym s.pin.1 i)) ready.numbered

pub returns-in-Ok-mark_for-clause-reading : goal.returns-in-Ok-mark_for-clause-reading
returns-in-Ok-mark_for-clause-reading c x is = let space = c.args.space.now in let p = c.pin.new.pass in let f = c.pin.ensures.frame in
    let e = c.pin.ensures.pinned in let may = may_first space c.args.pass.now p [] e.0 e.1 c.requires.rests f.same f.number f.kept f.tally e.3 in
    let l = c.load_word-kind.new.pass in let b = c.in-Ok.ensures.begun in let s = c.mark_for.ensures.frame in
    let ready = begun_ready space l c.begin_attempt.new.pass c.in-Some.route c.in-Ok.attempt c.begin_attempt.ensures.frame b
    (walked_quiet space p c.walk-cursor.new.pass l _ c.walk-cursor.result may c.walk-cursor.ensures.frame c.walk-cursor.ensures.walked
    c.load_word-kind.ensures.frame)
    (walked_ready space p c.walk-cursor.new.pass l _ c.walk-cursor.result may c.walk-cursor.ensures.frame c.walk-cursor.ensures.walked
    c.load_word-kind.ensures.frame) in record {
      own = (s.same.0 ∙ ready.own.0, s.pin.0 ∙ ready.own.1);
      pinned = ap (λ (y : Pin). y.pinned) s.pin.1 ∙ ready.pinned;
    }

pub returns-in-Ok-mark_for-clause-remembered : goal.returns-in-Ok-mark_for-clause-remembered
returns-in-Ok-mark_for-clause-remembered c x e = let w = c.walk-cursor.ensures.walked in let cursor = c.walk-cursor.result in
    let b = c.in-Ok.ensures.begun in let of = c.in-Some.ensures c.in-Some.route refl in let z = c.args.space.now.table.shared.key in
    let known = remembered_above z c.walk-cursor.new.pass.seat.me.0.upper.ways cursor.link cursor.above c.in-Some.route w.cursor_is.above of in
    let ways = ap (λ (u : TreeView). u.ways) c.in-Ok-mark_for.ensures.marked.now
    ∙ ways_are z _ cursor c.in-Some.route c.in-Ok.attempt c.pin.new.pass.seat.me c.walk-cursor.new.pass.seat.me c.load_word-kind.new.pass.seat.me
    c.begin_attempt.new.pass.seat.me w c.load_word-kind.ensures.frame.still b in
    let same : c.in-Ok.attempt ≡ x = cc in
    subst (λ (y : Attempt). IsRemembered c.mark_for.new.pass.seat.me.0.upper.ways y.route × (y.route ≤ z.rows)) same (
      subst (λ (y : List Way × ℕ). IsRemembered y.0 y.1) (λ i. (sym ways i, sym b.0 i)) known,
      subst (λ (y : ℕ). y ≤ z.rows) (sym b.0) (route_inside z.rows c.in-Some.route _ of w.inside),
    )
