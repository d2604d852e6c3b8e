use Rattle.std.proofs.Common.{◌≡◌, ◌≤◌, ℕ, List, Option, Some, true, false, sym, ap, ◌∙◌, subst, arith}
use Rattle.ca_model.specs.Edges.{Unbounded, Excluded}
use Rattle.ca_base.specs.Counting.{losses}
use Rattle.ca_base.specs.Putting.{first_note}
use Rattle.ca_node.specs.Row.{mark_bound, route_key, IsMarkedBy}
use Rattle.ca_node.specs.Told.{MyTree, IsShownWord, active_of}
use Rattle.ca_node.specs.TreeView.{Note}
use Rattle.ca_node.specs.Walking.{IsHighRoute}
use Rattle.ca_range.specs.Ahead.{GoesBeyond, IsAtMarked, IsWhole}
use Rattle.ca_range.specs.Farther.{reach, reach_to}
use Rattle.ca_range.specs.Reaching.{IsBorderShown, reaches_by}
use Rattle.ca_range.specs.Staying.{OnlySteps}
use Rattle.ca_base.proofs.Spends.{on_both, on_still}
use Rattle.ca_range.proofs.Stepping.{over_counted, steps_both, steps_by_walk, steps_by_word}
use Rattle.ca_range.proofs.Watched.{at_now, border_now, bound_word, high_now, is_active, is_before, met_now, over_now}
use Rattle.ca_range.specs.Loading.{GoesBy}
use Rattle.ca_range.proofs.Loaded.{goes_once, goes_watched}
use Rattle.ca_range.proofs.Ranking.{far_inside, next_farther}
use Rattle.ca_range.proofs.ahead.look_ahead.Goals as goal

pub returns-then-not-is_active-clause-steps : goal.returns-then-not-is_active-clause-steps
returns-then-not-is_active-clause-steps c = let w = c.watch.ensures.watched in
    steps_by_word c.args.range.owner w.0 c.args.pass.now.seat.me c.watch.new.pass.seat.me w.2

pub returns-then-not-is_active-clause-ahead : goal.returns-then-not-is_active-clause-ahead
returns-then-not-is_active-clause-ahead c = let w = c.watch.ensures.watched in let at = c.requires.at in
    let m = c.args.pass.now.seat.me in let m' = c.watch.new.pass.seat.me in let range = c.args.range in
    let off : ¬ (active_of w.0 ≡ Some range.number) =
    λ on. let no : false ≡ true = sym c.if-not-is_active.true ∙ (c.is_active.ensures.active w.0 w.1).1 on in cc in
    let notes = ap (λ (x : MyTree). first_note x.0.upper.notes) w.2.now in record {
      over = over_now range m m' w.0 (first_note m.0.upper.notes) w.2 at.at.shown.noted at.marked off;
      counted = over_counted range m m' w.0 w.2 c.requires.other.2 off;
      marked = subst (λ (n : Note). IsMarkedBy n.its range.owner range.number) (sym notes) at.marked;
      far = let same = ap (λ (n : Note). reach_to n.place.span.high) notes in omega arith;
    }

pub returns-in_default-clause-steps : goal.returns-in_default-clause-steps
returns-in_default-clause-steps c = let w = c.watch.ensures.watched in
    steps_by_word c.args.range.owner w.0 c.args.pass.now.seat.me c.watch.new.pass.seat.me w.2

pub returns-in_default-clause-ahead : goal.returns-in_default-clause-ahead
returns-in_default-clause-ahead c = let w = c.watch.ensures.watched in let z = c.args.space.now.table.shared.key in
    let m = c.args.pass.now.seat.me in let m' = c.watch.new.pass.seat.me in let at = c.requires.at in
    let on = (c.is_active.ensures.active w.0 w.1).0 c.if-not-is_active.false in
    let b = border_now z c.args.range c.args.left.now m m' w.0 w.2 c.requires.reading.own.1 at on in
    let open_end : (first_note m.0.upper.notes).place.span.high ≡ Unbounded =
    subst (λ (r : Option ℕ). IsHighRoute z m.0.upper.ways r (first_note m.0.upper.notes).place.span.high) c.in_default.is at.at.high in
    let notes = ap (λ (x : MyTree). first_note x.0.upper.notes) w.2.now in (
      at_now z c.args.range c.args.left.now m m' w.0 w.2 c.requires.reading.own.1 at on,
      record {
        met = met_now z c.args.range c.args.left.now m m' w.0 w.2 c.requires.reading.own.1 at on c.requires.other.2;
        border = b.0;
        border_shown = b.1.noted;
        border_is = b.1.here ∙ ap (λ (n : Note). mark_bound n.its) (sym notes);
        reaches = ap (reaches_by b.0.its) (ap (λ (n : Note). n.place.span.high) notes ∙ open_end);
        small = let a = is_active w.0 c.args.range.number on in let fits = w.3 in omega arith;
      },
      let same = ap (λ (n : Note). reach_to n.place.span.high) notes in omega arith,
    )

pub copy_key-requires-clause-shown : goal.copy_key-requires-clause-shown
copy_key-requires-clause-shown c = let w = c.watch.ensures.watched in let z = c.args.space.now.table.shared.key in let at = c.requires.at in
    let m = c.args.pass.now.seat.me in let m1 = c.watch.new.pass.seat.me in let range = c.args.range in let left = c.args.left.now in
    let on = (c.is_active.ensures.active w.0 w.1).0 c.if-not-is_active.false in let sizes = c.requires.reading.own.1 in
    let high = high_now z range left m m1 w.0 w.2 sizes at on c.in-Some.route c.in-Some.is in (high.0, high.1)

pub load_word-border-requires-clause-shown : goal.load_word-border-requires-clause-shown
load_word-border-requires-clause-shown c = let w = c.watch.ensures.watched in let z = c.args.space.now.table.shared.key in let at = c.requires.at in
    let m = c.args.pass.now.seat.me in let m1 = c.watch.new.pass.seat.me in let range = c.args.range in let left = c.args.left.now in
    let on = (c.is_active.ensures.active w.0 w.1).0 c.if-not-is_active.false in let sizes = c.requires.reading.own.1 in
    let row : ℕ = mark_bound (first_note m.0.upper.notes).its in
    (row, subst (λ (x : MyTree). IsShownWord x.0.upper left.base 6 row) (sym c.copy_key.ensures.frame.still) (bound_word z range left m m1 w.0 w.2 sizes at on))

pub reaches-requires-clause-inside : goal.reaches-requires-clause-inside
reaches-requires-clause-inside c = let w = c.watch.ensures.watched in let z = c.args.space.now.table.shared.key in let at = c.requires.at in
    let m = c.args.pass.now.seat.me in let m1 = c.watch.new.pass.seat.me in let range = c.args.range in let left = c.args.left.now in
    let on = (c.is_active.ensures.active w.0 w.1).0 c.if-not-is_active.false in let sizes = c.requires.reading.own.1 in
    let row : ℕ = mark_bound (first_note m.0.upper.notes).its in
    let is : c.load_word-border.result ≡ row = c.load_word-border.ensures.word row
    (subst (λ (x : MyTree). IsShownWord x.0.upper left.base 6 row) (sym c.copy_key.ensures.frame.still) (bound_word z range left m m1 w.0 w.2 sizes at on)) in
    let b = border_now z range left m m1 w.0 w.2 sizes at on in
    subst (λ (n : ℕ). n ≤ z.rows) (sym is) b.2

pub overflow_cast-border : goal.overflow_cast-border
overflow_cast-border c = let w = c.watch.ensures.watched in let z = c.args.space.now.table.shared.key in let at = c.requires.at in
    let m = c.args.pass.now.seat.me in let m1 = c.watch.new.pass.seat.me in let range = c.args.range in let left = c.args.left.now in
    let on = (c.is_active.ensures.active w.0 w.1).0 c.if-not-is_active.false in let sizes = c.requires.reading.own.1 in
    let row : ℕ = mark_bound (first_note m.0.upper.notes).its in
    let is : c.load_word-border.result ≡ row = c.load_word-border.ensures.word row
    (subst (λ (x : MyTree). IsShownWord x.0.upper left.base 6 row) (sym c.copy_key.ensures.frame.still) (bound_word z range left m m1 w.0 w.2 sizes at on)) in
    let b = border_now z range left m m1 w.0 w.2 sizes at on in
    let inside = b.2 in let few = c.args.space.now.few.1 in omega arith

pub reaches-requires-clause-shown : goal.reaches-requires-clause-shown
reaches-requires-clause-shown c = let w = c.watch.ensures.watched in let z = c.args.space.now.table.shared.key in let at = c.requires.at in
    let m = c.args.pass.now.seat.me in let m1 = c.watch.new.pass.seat.me in let range = c.args.range in let left = c.args.left.now in
    let on = (c.is_active.ensures.active w.0 w.1).0 c.if-not-is_active.false in let sizes = c.requires.reading.own.1 in
    let row : ℕ = mark_bound (first_note m.0.upper.notes).its in
    let is : c.load_word-border.result ≡ row = c.load_word-border.ensures.word row
    (subst (λ (x : MyTree). IsShownWord x.0.upper left.base 6 row) (sym c.copy_key.ensures.frame.still) (bound_word z range left m m1 w.0 w.2 sizes at on)) in
    let b = border_now z range left m m1 w.0 w.2 sizes at on in
    let read = c.load_word-border.ensures.frame.still ∙ c.copy_key.ensures.frame.still in
    (b.0, subst (λ (x : MyTree × ℕ). IsBorderShown x.0.0.upper x.1 b.0) (λ i. (sym read i, sym is i)) b.1)

pub returns-then-reaches-clause-steps : goal.returns-then-reaches-clause-steps
returns-then-reaches-clause-steps c = let w = c.watch.ensures.watched in
    subst (λ (x : MyTree). OnlySteps c.args.space.now.table.shared.key 0 c.args.pass.now.seat.me.0.upper x.0.upper)
    (sym (c.reaches.ensures.frame.still ∙ (c.load_word-border.ensures.frame.still ∙ c.copy_key.ensures.frame.still)))
    (steps_by_word c.args.range.owner w.0 c.args.pass.now.seat.me c.watch.new.pass.seat.me w.2)

pub returns-then-reaches-clause-ahead : goal.returns-then-reaches-clause-ahead
returns-then-reaches-clause-ahead c = let w = c.watch.ensures.watched in let z = c.args.space.now.table.shared.key in let at = c.requires.at in
    let m = c.args.pass.now.seat.me in let m1 = c.watch.new.pass.seat.me in let range = c.args.range in let left = c.args.left.now in
    let on = (c.is_active.ensures.active w.0 w.1).0 c.if-not-is_active.false in let sizes = c.requires.reading.own.1 in
    let row : ℕ = mark_bound (first_note m.0.upper.notes).its in
    let is : c.load_word-border.result ≡ row = c.load_word-border.ensures.word row
    (subst (λ (x : MyTree). IsShownWord x.0.upper left.base 6 row) (sym c.copy_key.ensures.frame.still) (bound_word z range left m m1 w.0 w.2 sizes at on)) in
    let b = border_now z range left m m1 w.0 w.2 sizes at on in
    let read = c.load_word-border.ensures.frame.still ∙ c.copy_key.ensures.frame.still in
    let high = high_now z range left m m1 w.0 w.2 sizes at on c.in-Some.route c.in-Some.is in
    let key = c.deref.ensures.0 ∙ c.copy_key.ensures.key high.0 high.1 in
    let notes = ap (λ (x : MyTree). first_note x.0.upper.notes) w.2.now in
    let reached : reaches_by b.0.its (Excluded (route_key high.0)) ≡ true = subst (λ (k : List ℕ). reaches_by b.0.its (Excluded k) ≡ true) key
    (c.reaches.ensures.reaches b.0 (subst (λ (x : MyTree × ℕ). IsBorderShown x.0.0.upper x.1 b.0) (λ i. (sym read i, sym is i)) b.1) c.if-reaches.true) in
    subst (λ (x : MyTree). IsAtMarked z x.0.upper range left × IsWhole x.0.upper range × (reach m.0.upper ≤ reach x.0.upper))
    (sym (c.reaches.ensures.frame.still ∙ read)) (
      at_now z range left m m1 w.0 w.2 sizes at on,
      record {
        met = met_now z range left m m1 w.0 w.2 sizes at on c.requires.other.2;
        border = b.0;
        border_shown = b.1.noted;
        border_is = b.1.here ∙ ap (λ (n : Note). mark_bound n.its) (sym notes);
        reaches = ap (reaches_by b.0.its) (ap (λ (n : Note). n.place.span.high) notes ∙ high.2) ∙ reached;
        small = let a = is_active w.0 range.number on in let fits = w.3 in omega arith;
      },
      let same = ap (λ (n : Note). reach_to n.place.span.high) notes in omega arith,
    )

pub returns-clause-steps : goal.returns-clause-steps
returns-clause-steps c = let w = c.watch.ensures.watched in let walk = c.walk.ensures.walked in
    let still = c.reaches.ensures.frame.still ∙ (c.load_word-border.ensures.frame.still ∙ c.copy_key.ensures.frame.still) in
    steps_both c.args.pass.now.seat.me.0.upper c.reaches.new.pass.seat.me.0.upper c.walk.new.pass.seat.me.0.upper
    (subst (λ (x : MyTree). OnlySteps c.args.space.now.table.shared.key 0 c.args.pass.now.seat.me.0.upper x.0.upper) (sym still)
    (steps_by_word c.args.range.owner w.0 c.args.pass.now.seat.me c.watch.new.pass.seat.me w.2))
    (steps_by_walk _ c.reaches.new.pass.seat.me c.walk.new.pass.seat.me c.walk.result walk)

pub returns-clause-ahead : goal.returns-clause-ahead
returns-clause-ahead c = let w = c.watch.ensures.watched in let z = c.args.space.now.table.shared.key in let at = c.requires.at in
    let m = c.args.pass.now.seat.me in let m1 = c.watch.new.pass.seat.me in let range = c.args.range in let left = c.args.left.now in
    let on = (c.is_active.ensures.active w.0 w.1).0 c.if-not-is_active.false in let sizes = c.requires.reading.own.1 in
    let row : ℕ = mark_bound (first_note m.0.upper.notes).its in
    let is : c.load_word-border.result ≡ row = c.load_word-border.ensures.word row
    (subst (λ (x : MyTree). IsShownWord x.0.upper left.base 6 row) (sym c.copy_key.ensures.frame.still) (bound_word z range left m m1 w.0 w.2 sizes at on)) in
    let b = border_now z range left m m1 w.0 w.2 sizes at on in
    let read = c.load_word-border.ensures.frame.still ∙ c.copy_key.ensures.frame.still in
    let high = high_now z range left m m1 w.0 w.2 sizes at on c.in-Some.route c.in-Some.is in
    let key = c.deref.ensures.0 ∙ c.copy_key.ensures.key high.0 high.1 in
    let same = ap (λ (x : MyTree). x.0.upper.notes) (c.reaches.ensures.frame.still ∙ read) ∙ ap (λ (x : MyTree). x.0.upper.notes) w.2.now in
    is_before z range c.deref-2.result c.reaches.new.pass.seat.me c.walk.new.pass.seat.me c.walk.result m.0.upper (route_key high.0) same
    c.walk.ensures.walked high.2 (c.deref-2.ensures.0 ∙ c.copy_key.ensures.key high.0 high.1)
    b.2 (subst (λ (x : MyTree). GoesBeyond x.0.upper (first_note m.0.upper.notes)) (sym c.reaches.ensures.frame.still) (
      (b.0, subst (λ (x : MyTree). IsBorderShown x.0.upper row b.0) (sym read) b.1),
      λ x s short. ap (reaches_by x.its) (high.2 ∙ ap Excluded (sym key))
          ∙ (sym (c.reaches.ensures.exact x (subst (λ (n : ℕ). IsBorderShown c.load_word-border.new.pass.seat.me.0.upper n x) (sym is) s) short)
          ∙ c.if-reaches.false),
    ))

pub returns-clause-counted : goal.returns-clause-counted
returns-clause-counted c = let walk = c.walk.ensures.walked in
    let still = c.reaches.ensures.frame.still ∙ (c.load_word-border.ensures.frame.still ∙ c.copy_key.ensures.frame.still) in
    on_both c.args.account.now.spent c.watch.new.account.spent c.watch.new.account.spent c.args.pass.now.seat.me c.watch.new.pass.seat.me
    c.walk.new.pass.seat.me c.watch.ensures.counted (on_still c.watch.new.account.spent c.watch.new.pass.seat.me c.walk.new.pass.seat.me
    (ap losses walk.now ∙ ap losses still) (ap (λ (x : MyTree). x.0.upper.turns) walk.now ∙ ap (λ (x : MyTree). x.0.upper.turns) still))

pub returns-then-not-is_active-clause-loads : goal.returns-then-not-is_active-clause-loads
returns-then-not-is_active-clause-loads c = goes_watched c.args.space.now.table.shared.key c.args.range.owner c.watch.ensures.watched.0
    c.args.pass.now.seat.me c.watch.new.pass.seat.me c.args.left.now c.watch.ensures.watched.2 c.requires.at.at

pub returns-in_default-clause-loads : goal.returns-in_default-clause-loads
returns-in_default-clause-loads c = goes_watched c.args.space.now.table.shared.key c.args.range.owner c.watch.ensures.watched.0
    c.args.pass.now.seat.me c.watch.new.pass.seat.me c.args.left.now c.watch.ensures.watched.2 c.requires.at.at

pub returns-then-reaches-clause-loads : goal.returns-then-reaches-clause-loads
returns-then-reaches-clause-loads c = let z = c.args.space.now.table.shared.key in let u = c.args.pass.now.seat.me.0.upper in
    subst (λ (x : MyTree). GoesBy z u x.0.upper)
    (sym (c.reaches.ensures.frame.still ∙ (c.load_word-border.ensures.frame.still ∙ c.copy_key.ensures.frame.still)))
    (goes_watched z c.args.range.owner c.watch.ensures.watched.0 c.args.pass.now.seat.me c.watch.new.pass.seat.me c.args.left.now
    c.watch.ensures.watched.2 c.requires.at.at)

pub returns-clause-loads : goal.returns-clause-loads
returns-clause-loads c = let z = c.args.space.now.table.shared.key in let m = c.args.pass.now.seat.me in let n = c.walk.new.pass.seat.me in
    let still = c.reaches.ensures.frame.still ∙ (c.load_word-border.ensures.frame.still ∙ c.copy_key.ensures.frame.still) in
    let b = returns-clause-ahead c in let walk = c.walk.ensures.walked in
    let before = ap (λ (x : MyTree). x.0.upper.loads) still ∙ ap (λ (x : MyTree). x.0.upper.loads) c.watch.ensures.watched.2.now in
    let now = ap (λ (x : MyTree). x.0.upper.loads) walk.now in let few = walk.few in
    goes_once z m.0.upper n.0.upper (next_farther z c.args.range c.args.left.now c.walk.result m.0.upper n.0.upper c.requires.at.at b)
    (far_inside z n.0.upper c.walk.result b.at) (omega arith)
