use Rattle.std.proofs.Common.{◌<◌, ℕ, List, Result, Err, ap, sym, refl, ◌∙◌, subst}
use Rattle.std.proofs.lemmas.Result.{err_from_is_err_and}
use Rattle.ca_base.specs.Finding.{IsBaseShown}
use Rattle.ca_node.specs.Joining.{IsRemembered}
use Rattle.ca_node.specs.Told.{MyTree, link_word}
use Rattle.ca_node.specs.TreeView.{Inventory, Note, Way}
use Rattle.ca_adapt.specs.Carrying.{outcome_of}
use Rattle.ca_adapt.specs.Finishing.{IsHungBy}
use Rattle.ca_adapt.specs.Joins.{last_on}
use Rattle.ca_adapt.specs.Pairs.{IsPair}
use Rattle.ca_adapt.specs.Trying.{FindsSibling, IsJoinOutcome, IsJoinSteps, IsLoneTry, OnlyLooks}
use Rattle.ca_adapt.specs.declared.adapted.Why.{Why}
use Rattle.ca_adapt.proofs.Begun.{is_pair, last_one, last_other}
use Rattle.ca_adapt.proofs.Looks.{looks_held, looks_pinned, looks_ready, looks_spent}
use Rattle.ca_adapt.proofs.MarkedPairs.{tried_both, tried_lost}
use Rattle.ca_adapt.proofs.Outcomes.{begun_counts, carried, not_begun}
use Rattle.ca_adapt.proofs.Readied.{pinned_both}
use Rattle.ca_adapt.proofs.Securing.{hung_still, inside_by, remembered_by}
use Rattle.ca_adapt.proofs.Tried.{begun_inventory, begun_lost, begun_number, begun_own, begun_pinned, begun_pool, begun_ready, begun_steps, begun_ways, finds_shown, keeps_reads}
use Rattle.ca_adapt.proofs.TrySteps.{steps_both}
use Rattle.ca_adapt.proofs.Unbegun.{unbegun, unbegun_held, unbegun_own, unbegun_passed, unbegun_pinned, unbegun_steps}
use Rattle.ca_adapt.proofs.LoneLooks.{free_looks, lone_behind, lone_looked, lone_unbegun}
use Rattle.ca_adapt.proofs.LoneTries.{lone_looks, lone_none, lone_sibling}
use Rattle.ca_node.specs.Inventory.{IsListed}
use Rattle.ca_adapt.specs.Pairs.{IsThere}
use Rattle.ca_adapt.proofs.trying.join_under.Goals as goal

pub look_aside-requires-clause-shown : goal.look_aside-requires-clause-shown
look_aside-requires-clause-shown c =
    (last_on (link_word c.args.cursor.link) c.args.pass.now.seat.me.0.upper.notes, c.requires.shown)

pub look_aside-requires-clause-fork : goal.look_aside-requires-clause-fork
look_aside-requires-clause-fork c =
    (c.requires.fork.0, c.requires.fork.2, c.requires.fork.3, c.requires.fork.1)

pub returns-in_err-base-clause-frame : goal.returns-in_err-base-clause-frame
returns-in_err-base-clause-frame c = let p = c.args.pass.now in let o = c.look_aside.new.pass in
    let z = c.args.space.now.table.shared.key in
    let note = last_on (link_word c.args.cursor.link) p.seat.me.0.upper.notes in
    looks_pinned c.args.space.now p o c.look_aside.ensures.frame
    c.look_aside.ensures.looks

pub returns-in_err-base-clause-none : goal.returns-in_err-base-clause-none
returns-in_err-base-clause-none c = let p = c.args.pass.now in let o = c.look_aside.new.pass in
    let z = c.args.space.now.table.shared.key in
    let note = last_on (link_word c.args.cursor.link) p.seat.me.0.upper.notes in
    looks_held c.args.space.now p o c.look_aside.ensures.frame
    c.look_aside.ensures.looks c.requires.ready.none

pub returns-in_err-base-clause-own : goal.returns-in_err-base-clause-own
returns-in_err-base-clause-own c = c.look_aside.ensures.looks.own ∙ c.requires.quiet

pub returns-in_err-base-clause-joined : goal.returns-in_err-base-clause-joined
returns-in_err-base-clause-joined c = let p = c.args.pass.now in let o = c.look_aside.new.pass in
    let z = c.args.space.now.table.shared.key in
    let note = last_on (link_word c.args.cursor.link) p.seat.me.0.upper.notes in
    let r = err_from_is_err_and c.from_residual.result c.from_residual.ensures.1 in
    subst (λ (x : Result (Unit {0}) Why). IsJoinOutcome z c.args.cursor.link note (outcome_of x)
    p.seat.me o.seat.me) (sym (r.1 ∙ ap Err r.2))
    (c.in_err-base.ensures.looked note c.requires.shown).0

pub returns-in_err-base-clause-counted : goal.returns-in_err-base-clause-counted
returns-in_err-base-clause-counted c = let p = c.args.pass.now in let o = c.look_aside.new.pass in
    let z = c.args.space.now.table.shared.key in
    let note = last_on (link_word c.args.cursor.link) p.seat.me.0.upper.notes in
    looks_spent c.args.spent.now p.seat.me o.seat.me c.look_aside.ensures.looks

pub base_level-level-requires-clause-shown : goal.base_level-level-requires-clause-shown
base_level-level-requires-clause-shown c = let p = c.args.pass.now in let o =
    c.look_aside.new.pass in let z = c.args.space.now.table.shared.key in
    let note = last_on (link_word c.args.cursor.link) p.seat.me.0.upper.notes in
    let f = c.in_ok-base.ensures.looked note c.requires.shown in
    (f.look.sibling, finds_shown z c.args.cursor.link note c.in_ok-base.base p.seat.me o.seat.me f)

pub try_begin-requires-clause-ready : goal.try_begin-requires-clause-ready
try_begin-requires-clause-ready c = let p = c.args.pass.now in let o = c.look_aside.new.pass in
    let z = c.args.space.now.table.shared.key in
    let note = last_on (link_word c.args.cursor.link) p.seat.me.0.upper.notes in
    let q = c.base_level-level.new.pass in
    let k = keeps_reads p o q c.look_aside.ensures.frame c.base_level-level.ensures.frame in
    let l = subst (λ (x : MyTree). OnlyLooks p.seat.me x)
    (sym c.base_level-level.ensures.frame.still) c.look_aside.ensures.looks in
    let f = subst (λ (x : MyTree). FindsSibling z c.args.cursor.link note c.in_ok-base.base
    p.seat.me x) (sym c.base_level-level.ensures.frame.still)
    (c.in_ok-base.ensures.looked note c.requires.shown) in
    looks_ready c.args.space.now p q k l c.requires.ready

pub try_begin-requires-clause-inside : goal.try_begin-requires-clause-inside
try_begin-requires-clause-inside c = let p = c.args.pass.now in let o = c.look_aside.new.pass in
    let z = c.args.space.now.table.shared.key in
    let note = last_on (link_word c.args.cursor.link) p.seat.me.0.upper.notes in
    inside_by z p.seat.me.0.upper c.args.fork.route c.args.fork.above
    c.requires.fork.3

pub try_begin-requires-clause-remembered : goal.try_begin-requires-clause-remembered
try_begin-requires-clause-remembered c = let p = c.args.pass.now in let o = c.look_aside.new.pass in
    let z = c.args.space.now.table.shared.key in
    let note = last_on (link_word c.args.cursor.link) p.seat.me.0.upper.notes in
    let q = c.base_level-level.new.pass in
    let k = keeps_reads p o q c.look_aside.ensures.frame c.base_level-level.ensures.frame in
    let l = subst (λ (x : MyTree). OnlyLooks p.seat.me x)
    (sym c.base_level-level.ensures.frame.still) c.look_aside.ensures.looks in
    let f = subst (λ (x : MyTree). FindsSibling z c.args.cursor.link note c.in_ok-base.base
    p.seat.me x) (sym c.base_level-level.ensures.frame.still)
    (c.in_ok-base.ensures.looked note c.requires.shown) in
    subst (λ (ws : List Way). IsRemembered ws c.args.fork.route)
    (sym (ap (λ (x : MyTree). x.0.upper.ways) f.now))
    (remembered_by z p.seat.me.0.upper c.args.fork.route c.args.fork.above c.requires.fork.3)

pub try_begin-requires-clause-quiet : goal.try_begin-requires-clause-quiet
try_begin-requires-clause-quiet c = let p = c.args.pass.now in let o = c.look_aside.new.pass in
    let z = c.args.space.now.table.shared.key in
    let note = last_on (link_word c.args.cursor.link) p.seat.me.0.upper.notes in
    let q = c.base_level-level.new.pass in
    let k = keeps_reads p o q c.look_aside.ensures.frame c.base_level-level.ensures.frame in
    let l = subst (λ (x : MyTree). OnlyLooks p.seat.me x)
    (sym c.base_level-level.ensures.frame.still) c.look_aside.ensures.looks in
    let f = subst (λ (x : MyTree). FindsSibling z c.args.cursor.link note c.in_ok-base.base
    p.seat.me x) (sym c.base_level-level.ensures.frame.still)
    (c.in_ok-base.ensures.looked note c.requires.shown) in
    l.own ∙ c.requires.quiet

pub returns-in_err-attempt-clause-frame : goal.returns-in_err-attempt-clause-frame
returns-in_err-attempt-clause-frame c = let p = c.args.pass.now in let o = c.look_aside.new.pass in
    let z = c.args.space.now.table.shared.key in
    let note = last_on (link_word c.args.cursor.link) p.seat.me.0.upper.notes in
    let q = c.base_level-level.new.pass in
    let k = keeps_reads p o q c.look_aside.ensures.frame c.base_level-level.ensures.frame in
    let l = subst (λ (x : MyTree). OnlyLooks p.seat.me x)
    (sym c.base_level-level.ensures.frame.still) c.look_aside.ensures.looks in
    let f = subst (λ (x : MyTree). FindsSibling z c.args.cursor.link note c.in_ok-base.base
    p.seat.me x) (sym c.base_level-level.ensures.frame.still)
    (c.in_ok-base.ensures.looked note c.requires.shown) in
    let n = c.try_begin.new.pass in pinned_both p q n (looks_pinned c.args.space.now p q k l)
    (unbegun_pinned q n c.try_begin.ensures.frame
    (unbegun c.args.fork.route c.in_err-attempt.field-0.0 q.seat.me n.seat.me
    c.in_err-attempt.ensures.begun))

pub returns-in_err-attempt-clause-none : goal.returns-in_err-attempt-clause-none
returns-in_err-attempt-clause-none c = let p = c.args.pass.now in let o = c.look_aside.new.pass in
    let z = c.args.space.now.table.shared.key in
    let note = last_on (link_word c.args.cursor.link) p.seat.me.0.upper.notes in
    let q = c.base_level-level.new.pass in
    let k = keeps_reads p o q c.look_aside.ensures.frame c.base_level-level.ensures.frame in
    let l = subst (λ (x : MyTree). OnlyLooks p.seat.me x)
    (sym c.base_level-level.ensures.frame.still) c.look_aside.ensures.looks in
    let f = subst (λ (x : MyTree). FindsSibling z c.args.cursor.link note c.in_ok-base.base
    p.seat.me x) (sym c.base_level-level.ensures.frame.still)
    (c.in_ok-base.ensures.looked note c.requires.shown) in
    let n = c.try_begin.new.pass in unbegun_held q n c.try_begin.ensures.frame
    (unbegun c.args.fork.route c.in_err-attempt.field-0.0 q.seat.me n.seat.me
    c.in_err-attempt.ensures.begun) z.rows
    (looks_held c.args.space.now p q k l c.requires.ready.none)

pub returns-in_err-attempt-clause-own : goal.returns-in_err-attempt-clause-own
returns-in_err-attempt-clause-own c = let p = c.args.pass.now in let o = c.look_aside.new.pass in
    let z = c.args.space.now.table.shared.key in
    let note = last_on (link_word c.args.cursor.link) p.seat.me.0.upper.notes in
    let q = c.base_level-level.new.pass in
    let k = keeps_reads p o q c.look_aside.ensures.frame c.base_level-level.ensures.frame in
    let l = subst (λ (x : MyTree). OnlyLooks p.seat.me x)
    (sym c.base_level-level.ensures.frame.still) c.look_aside.ensures.looks in
    let f = subst (λ (x : MyTree). FindsSibling z c.args.cursor.link note c.in_ok-base.base
    p.seat.me x) (sym c.base_level-level.ensures.frame.still)
    (c.in_ok-base.ensures.looked note c.requires.shown) in
    let n = c.try_begin.new.pass in
    unbegun_own q.seat.me n.seat.me
    (unbegun c.args.fork.route c.in_err-attempt.field-0.0 q.seat.me n.seat.me
    c.in_err-attempt.ensures.begun)
    ∙ (l.own ∙ c.requires.quiet)

pub returns-in_err-attempt-clause-steps : goal.returns-in_err-attempt-clause-steps
returns-in_err-attempt-clause-steps c = let p = c.args.pass.now in let o = c.look_aside.new.pass in
    let z = c.args.space.now.table.shared.key in
    let note = last_on (link_word c.args.cursor.link) p.seat.me.0.upper.notes in
    let q = c.base_level-level.new.pass in
    let k = keeps_reads p o q c.look_aside.ensures.frame c.base_level-level.ensures.frame in
    let l = subst (λ (x : MyTree). OnlyLooks p.seat.me x)
    (sym c.base_level-level.ensures.frame.still) c.look_aside.ensures.looks in
    let f = subst (λ (x : MyTree). FindsSibling z c.args.cursor.link note c.in_ok-base.base
    p.seat.me x) (sym c.base_level-level.ensures.frame.still)
    (c.in_ok-base.ensures.looked note c.requires.shown) in
    let steps = subst (λ (x : MyTree). IsJoinSteps z p.seat.me.0.upper x.0.upper)
    (sym c.base_level-level.ensures.frame.still) c.look_aside.ensures.steps in
    let n = c.try_begin.new.pass in steps_both z p.seat.me.0.upper q.seat.me.0.upper
    n.seat.me.0.upper steps
    (unbegun_steps q.seat.me n.seat.me
    (unbegun c.args.fork.route c.in_err-attempt.field-0.0 q.seat.me n.seat.me
    c.in_err-attempt.ensures.begun) z)

pub returns-in_err-attempt-clause-joined : goal.returns-in_err-attempt-clause-joined
returns-in_err-attempt-clause-joined c = let p = c.args.pass.now in let o = c.look_aside.new.pass in
    let z = c.args.space.now.table.shared.key in
    let note = last_on (link_word c.args.cursor.link) p.seat.me.0.upper.notes in
    let q = c.base_level-level.new.pass in
    let k = keeps_reads p o q c.look_aside.ensures.frame c.base_level-level.ensures.frame in
    let l = subst (λ (x : MyTree). OnlyLooks p.seat.me x)
    (sym c.base_level-level.ensures.frame.still) c.look_aside.ensures.looks in
    let f = subst (λ (x : MyTree). FindsSibling z c.args.cursor.link note c.in_ok-base.base
    p.seat.me x) (sym c.base_level-level.ensures.frame.still)
    (c.in_ok-base.ensures.looked note c.requires.shown) in
    let n = c.try_begin.new.pass in
    let r = err_from_is_err_and c.from_residual-in_err-attempt.result
    c.from_residual-in_err-attempt.ensures.1 in
    subst (λ (x : Result (Unit {0}) Why). IsJoinOutcome z c.args.cursor.link note (outcome_of x)
    p.seat.me n.seat.me) (sym (r.1 ∙ ap Err r.2))
    (not_begun z c.args.cursor.link note c.in_ok-base.base p.seat.me q.seat.me f n.seat.me
    c.args.fork.route c.in_err-attempt.field-0.0 c.requires.fork.0
    c.requires.fork.1 c.in_err-attempt.ensures.begun)

pub returns-in_err-attempt-clause-counted : goal.returns-in_err-attempt-clause-counted
returns-in_err-attempt-clause-counted c = let p = c.args.pass.now in let o =
    c.look_aside.new.pass in let z = c.args.space.now.table.shared.key in
    let note = last_on (link_word c.args.cursor.link) p.seat.me.0.upper.notes in
    let q = c.base_level-level.new.pass in
    let k = keeps_reads p o q c.look_aside.ensures.frame c.base_level-level.ensures.frame in
    let l = subst (λ (x : MyTree). OnlyLooks p.seat.me x)
    (sym c.base_level-level.ensures.frame.still) c.look_aside.ensures.looks in
    let f = subst (λ (x : MyTree). FindsSibling z c.args.cursor.link note c.in_ok-base.base
    p.seat.me x) (sym c.base_level-level.ensures.frame.still)
    (c.in_ok-base.ensures.looked note c.requires.shown) in
    let n = c.try_begin.new.pass in tried_both c.args.spent.now c.args.spent.now
    c.try_begin.new.spent p.seat.me q.seat.me n.seat.me
    (looks_spent c.args.spent.now p.seat.me q.seat.me l)
    (tried_lost c.args.spent.now c.try_begin.new.spent q.seat.me n.seat.me
    c.try_begin.ensures.counted
    (unbegun_passed q.seat.me n.seat.me
    (unbegun c.args.fork.route c.in_err-attempt.field-0.0 q.seat.me n.seat.me
    c.in_err-attempt.ensures.begun)))

pub carry_out-requires-clause-ready : goal.carry_out-requires-clause-ready
carry_out-requires-clause-ready c = let p = c.args.pass.now in let o = c.look_aside.new.pass in
    let z = c.args.space.now.table.shared.key in
    let note = last_on (link_word c.args.cursor.link) p.seat.me.0.upper.notes in
    let q = c.base_level-level.new.pass in
    let k = keeps_reads p o q c.look_aside.ensures.frame c.base_level-level.ensures.frame in
    let l = subst (λ (x : MyTree). OnlyLooks p.seat.me x)
    (sym c.base_level-level.ensures.frame.still) c.look_aside.ensures.looks in
    let f = subst (λ (x : MyTree). FindsSibling z c.args.cursor.link note c.in_ok-base.base
    p.seat.me x) (sym c.base_level-level.ensures.frame.still)
    (c.in_ok-base.ensures.looked note c.requires.shown) in
    let n = c.try_begin.new.pass in
    let x = c.in_ok-attempt.attempt in let b = c.in_ok-attempt.ensures.begun in
    begun_ready c.args.space.now q n c.args.fork.route x c.try_begin.ensures.frame b
    (l.own ∙ c.requires.quiet)
    (looks_ready c.args.space.now p q k l c.requires.ready)

pub carry_out-requires-clause-pair : goal.carry_out-requires-clause-pair
carry_out-requires-clause-pair c = let p = c.args.pass.now in let o = c.look_aside.new.pass in
    let z = c.args.space.now.table.shared.key in
    let note = last_on (link_word c.args.cursor.link) p.seat.me.0.upper.notes in
    let q = c.base_level-level.new.pass in
    let k = keeps_reads p o q c.look_aside.ensures.frame c.base_level-level.ensures.frame in
    let l = subst (λ (x : MyTree). OnlyLooks p.seat.me x)
    (sym c.base_level-level.ensures.frame.still) c.look_aside.ensures.looks in
    let f = subst (λ (x : MyTree). FindsSibling z c.args.cursor.link note c.in_ok-base.base
    p.seat.me x) (sym c.base_level-level.ensures.frame.still)
    (c.in_ok-base.ensures.looked note c.requires.shown) in
    let n = c.try_begin.new.pass in
    let x = c.in_ok-attempt.attempt in let b = c.in_ok-attempt.ensures.begun in
    let level = c.base_level-level.ensures.level f.look.sibling
    (subst (λ (y : MyTree). IsBaseShown z y.0.upper c.in_ok-base.base f.look.sibling)
    c.base_level-level.ensures.frame.still
    (finds_shown z c.args.cursor.link note c.in_ok-base.base p.seat.me q.seat.me f)) in
    subst (λ (s : Note × Note). IsPair z n.seat.me.0.upper (record {
      one = c.args.cursor;
      other = record c.args.cursor {
        base = c.in_ok-base.base;
        link = c.args.fork.other;
        level = c.base_level-level.result;
      };
      attempt = x;
    }) s.0 s.1)
    (λ i. (
      sym (last_one z c.args.cursor c.args.fork note c.in_ok-base.base c.base_level-level.result x
          p.seat.me q.seat.me n.seat.me f b c.requires.fork
          c.requires.shown c.requires.at c.requires.settled level refl) i,
      sym (last_other z c.args.cursor c.args.fork note c.in_ok-base.base c.base_level-level.result x
          p.seat.me q.seat.me n.seat.me f b c.requires.fork
          c.requires.shown c.requires.at c.requires.settled level) i,
    ))
    (is_pair z c.args.cursor c.args.fork note c.in_ok-base.base c.base_level-level.result x
    p.seat.me q.seat.me n.seat.me f b c.requires.fork
    c.requires.shown c.requires.at c.requires.settled level)

pub carry_out-requires-clause-hung : goal.carry_out-requires-clause-hung
carry_out-requires-clause-hung c = let p = c.args.pass.now in let o = c.look_aside.new.pass in
    let z = c.args.space.now.table.shared.key in
    let note = last_on (link_word c.args.cursor.link) p.seat.me.0.upper.notes in
    let q = c.base_level-level.new.pass in
    let k = keeps_reads p o q c.look_aside.ensures.frame c.base_level-level.ensures.frame in
    let l = subst (λ (x : MyTree). OnlyLooks p.seat.me x)
    (sym c.base_level-level.ensures.frame.still) c.look_aside.ensures.looks in
    let f = subst (λ (x : MyTree). FindsSibling z c.args.cursor.link note c.in_ok-base.base
    p.seat.me x) (sym c.base_level-level.ensures.frame.still)
    (c.in_ok-base.ensures.looked note c.requires.shown) in
    let n = c.try_begin.new.pass in
    let x = c.in_ok-attempt.attempt in let b = c.in_ok-attempt.ensures.begun in
    hung_still z p.seat.me.0.upper n.seat.me.0.upper x.route c.args.fork.above
    (begun_ways z c.args.fork.route x q.seat.me n.seat.me b
    ∙ ap (λ (y : MyTree). y.0.upper.ways) f.now)
    (subst (λ (r : ℕ). IsHungBy z p.seat.me.0.upper r c.args.fork.above) (sym b.0)
    c.requires.fork.3)

pub carry_out-requires-clause-own : goal.carry_out-requires-clause-own
carry_out-requires-clause-own c = let p = c.args.pass.now in let o = c.look_aside.new.pass in
    let z = c.args.space.now.table.shared.key in
    let note = last_on (link_word c.args.cursor.link) p.seat.me.0.upper.notes in
    let q = c.base_level-level.new.pass in
    let k = keeps_reads p o q c.look_aside.ensures.frame c.base_level-level.ensures.frame in
    let l = subst (λ (x : MyTree). OnlyLooks p.seat.me x)
    (sym c.base_level-level.ensures.frame.still) c.look_aside.ensures.looks in
    let f = subst (λ (x : MyTree). FindsSibling z c.args.cursor.link note c.in_ok-base.base
    p.seat.me x) (sym c.base_level-level.ensures.frame.still)
    (c.in_ok-base.ensures.looked note c.requires.shown) in
    let n = c.try_begin.new.pass in
    let x = c.in_ok-attempt.attempt in let b = c.in_ok-attempt.ensures.begun in
    begun_own z c.args.fork.route x q.seat.me n.seat.me b

pub carry_out-requires-clause-number : goal.carry_out-requires-clause-number
carry_out-requires-clause-number c = c.in_ok-attempt.ensures.begun.1

pub returns-clause-frame : goal.returns-clause-frame
returns-clause-frame c = let p = c.args.pass.now in let o = c.look_aside.new.pass in let z =
    c.args.space.now.table.shared.key in
    let note = last_on (link_word c.args.cursor.link) p.seat.me.0.upper.notes in
    let q = c.base_level-level.new.pass in
    let k = keeps_reads p o q c.look_aside.ensures.frame c.base_level-level.ensures.frame in
    let l = subst (λ (x : MyTree). OnlyLooks p.seat.me x)
    (sym c.base_level-level.ensures.frame.still) c.look_aside.ensures.looks in
    let f = subst (λ (x : MyTree). FindsSibling z c.args.cursor.link note c.in_ok-base.base
    p.seat.me x) (sym c.base_level-level.ensures.frame.still)
    (c.in_ok-base.ensures.looked note c.requires.shown) in
    let n = c.try_begin.new.pass in
    let x = c.in_ok-attempt.attempt in let b = c.in_ok-attempt.ensures.begun in
    let e = c.carry_out.new.pass in pinned_both p q e (looks_pinned c.args.space.now p q k l)
    (pinned_both q n e (begun_pinned c.args.space.now q n c.args.fork.route x
    c.try_begin.ensures.frame b) c.carry_out.ensures.frame)

pub returns-clause-steps : goal.returns-clause-steps
returns-clause-steps c = let p = c.args.pass.now in let o = c.look_aside.new.pass in let z =
    c.args.space.now.table.shared.key in
    let note = last_on (link_word c.args.cursor.link) p.seat.me.0.upper.notes in
    let q = c.base_level-level.new.pass in
    let k = keeps_reads p o q c.look_aside.ensures.frame c.base_level-level.ensures.frame in
    let l = subst (λ (x : MyTree). OnlyLooks p.seat.me x)
    (sym c.base_level-level.ensures.frame.still) c.look_aside.ensures.looks in
    let f = subst (λ (x : MyTree). FindsSibling z c.args.cursor.link note c.in_ok-base.base
    p.seat.me x) (sym c.base_level-level.ensures.frame.still)
    (c.in_ok-base.ensures.looked note c.requires.shown) in
    let steps = subst (λ (x : MyTree). IsJoinSteps z p.seat.me.0.upper x.0.upper)
    (sym c.base_level-level.ensures.frame.still) c.look_aside.ensures.steps in
    let n = c.try_begin.new.pass in
    let x = c.in_ok-attempt.attempt in let b = c.in_ok-attempt.ensures.begun in
    let e = c.carry_out.new.pass in steps_both z p.seat.me.0.upper q.seat.me.0.upper
    e.seat.me.0.upper steps
    (steps_both z q.seat.me.0.upper n.seat.me.0.upper e.seat.me.0.upper
    (begun_steps z c.args.fork.route x q.seat.me n.seat.me b) c.carry_out.ensures.steps)

pub returns-clause-joined : goal.returns-clause-joined
returns-clause-joined c = let p = c.args.pass.now in let o = c.look_aside.new.pass in let z =
    c.args.space.now.table.shared.key in
    let note = last_on (link_word c.args.cursor.link) p.seat.me.0.upper.notes in
    let q = c.base_level-level.new.pass in
    let k = keeps_reads p o q c.look_aside.ensures.frame c.base_level-level.ensures.frame in
    let l = subst (λ (x : MyTree). OnlyLooks p.seat.me x)
    (sym c.base_level-level.ensures.frame.still) c.look_aside.ensures.looks in
    let f = subst (λ (x : MyTree). FindsSibling z c.args.cursor.link note c.in_ok-base.base
    p.seat.me x) (sym c.base_level-level.ensures.frame.still)
    (c.in_ok-base.ensures.looked note c.requires.shown) in
    let n = c.try_begin.new.pass in
    let x = c.in_ok-attempt.attempt in let b = c.in_ok-attempt.ensures.begun in
    let e = c.carry_out.new.pass in carried z c.args.cursor.link note c.in_ok-base.base p.seat.me
    q.seat.me f c.args.fork.route x n.seat.me e.seat.me
    c.requires.fork.0 c.requires.fork.1 b c.carry_out.result c.carry_out.ensures.done

pub returns-clause-counted : goal.returns-clause-counted
returns-clause-counted c = let p = c.args.pass.now in let o = c.look_aside.new.pass in let z =
    c.args.space.now.table.shared.key in
    let note = last_on (link_word c.args.cursor.link) p.seat.me.0.upper.notes in
    let q = c.base_level-level.new.pass in
    let k = keeps_reads p o q c.look_aside.ensures.frame c.base_level-level.ensures.frame in
    let l = subst (λ (x : MyTree). OnlyLooks p.seat.me x)
    (sym c.base_level-level.ensures.frame.still) c.look_aside.ensures.looks in
    let f = subst (λ (x : MyTree). FindsSibling z c.args.cursor.link note c.in_ok-base.base
    p.seat.me x) (sym c.base_level-level.ensures.frame.still)
    (c.in_ok-base.ensures.looked note c.requires.shown) in
    let n = c.try_begin.new.pass in
    let x = c.in_ok-attempt.attempt in let b = c.in_ok-attempt.ensures.begun in
    let e = c.carry_out.new.pass in let same = begun_counts c.args.fork.route q.seat.me
    n.seat.me x b in
    tried_both c.args.spent.now c.args.spent.now c.carry_out.new.spent p.seat.me q.seat.me e.seat.me
    (looks_spent c.args.spent.now p.seat.me q.seat.me l)
    (tried_both c.args.spent.now c.try_begin.new.spent c.carry_out.new.spent q.seat.me
    n.seat.me e.seat.me
    (tried_lost c.args.spent.now c.try_begin.new.spent q.seat.me n.seat.me
    c.try_begin.ensures.counted same.passed) c.carry_out.ensures.counted)

pub returns-in_err-base-clause-alone : goal.returns-in_err-base-clause-alone
returns-in_err-base-clause-alone c alone known listed = let p = c.args.pass.now in let o =
    c.look_aside.new.pass in let z = c.args.space.now.table.shared.key in
    let note = last_on (link_word c.args.cursor.link) p.seat.me.0.upper.notes in
    let r = err_from_is_err_and c.from_residual.result c.from_residual.ensures.1 in
    subst (λ (x : Result (Unit {0}) Why). IsLoneTry (outcome_of x) p.seat.me o.seat.me)
    (sym (r.1 ∙ ap Err r.2))
    (lone_looked z c.args.cursor.link note p.seat.me o.seat.me record {
      sized = c.requires.ready.own.1;
      some_rows = c.args.space.now.few.0;
      alone = alone;
      quiet = c.requires.quiet;
    } known c.look_aside.ensures.looks c.in_err-base.field-0.0
    (c.in_err-base.ensures.looked note c.requires.shown).0)

pub returns-in_err-attempt-clause-alone : goal.returns-in_err-attempt-clause-alone
returns-in_err-attempt-clause-alone c alone known listed = let p = c.args.pass.now in let q =
    c.base_level-level.new.pass in let n = c.try_begin.new.pass in
    let z = c.args.space.now.table.shared.key in
    let l = subst (λ (x : MyTree). OnlyLooks p.seat.me x)
    (sym c.base_level-level.ensures.frame.still) c.look_aside.ensures.looks in
    let r = err_from_is_err_and c.from_residual-in_err-attempt.result
    c.from_residual-in_err-attempt.ensures.1 in
    let f = free_looks z p.seat.me q.seat.me record {
      sized = c.requires.ready.own.1;
      some_rows = c.args.space.now.few.0;
      alone = alone;
      quiet = c.requires.quiet;
    } l in
    subst (λ (x : Result (Unit {0}) Why). IsLoneTry (outcome_of x) p.seat.me n.seat.me)
    (sym (r.1 ∙ ap Err r.2))
    (lone_unbegun z c.args.fork.route c.in_err-attempt.field-0.0 p.seat.me q.seat.me n.seat.me f
    (lone_looks 0 p.seat.me q.seat.me l)
    (λ e. c.in_err-attempt.ensures.won f.alone (ap Err e)) c.in_err-attempt.ensures.begun)

pub returns-clause-alone : goal.returns-clause-alone
returns-clause-alone c alone known listed = let p = c.args.pass.now in let o =
    c.look_aside.new.pass in let z = c.args.space.now.table.shared.key in
    let note = last_on (link_word c.args.cursor.link) p.seat.me.0.upper.notes in
    let q = c.base_level-level.new.pass in
    let l = subst (λ (x : MyTree). OnlyLooks p.seat.me x)
    (sym c.base_level-level.ensures.frame.still) c.look_aside.ensures.looks in
    let f = subst (λ (x : MyTree). FindsSibling z c.args.cursor.link note c.in_ok-base.base
    p.seat.me x) (sym c.base_level-level.ensures.frame.still)
    (c.in_ok-base.ensures.looked note c.requires.shown) in
    let n = c.try_begin.new.pass in let e = c.carry_out.new.pass in
    let x = c.in_ok-attempt.attempt in let b = c.in_ok-attempt.ensures.begun in
    let level = c.base_level-level.ensures.level f.look.sibling
    (subst (λ (y : MyTree). IsBaseShown z y.0.upper c.in_ok-base.base f.look.sibling)
    c.base_level-level.ensures.frame.still
    (finds_shown z c.args.cursor.link note c.in_ok-base.base p.seat.me q.seat.me f)) in
    let one = last_one z c.args.cursor c.args.fork note c.in_ok-base.base c.base_level-level.result
    x p.seat.me q.seat.me n.seat.me f b c.requires.fork
    c.requires.shown c.requires.at c.requires.settled level refl in
    let other = last_other z c.args.cursor c.args.fork note c.in_ok-base.base
    c.base_level-level.result x p.seat.me q.seat.me n.seat.me f b c.requires.fork
    c.requires.shown c.requires.at c.requires.settled level in
    let same = begun_inventory z c.args.fork.route x q.seat.me n.seat.me b ∙ l.inventory in
    let number = begun_number z c.args.fork.route x q.seat.me n.seat.me b ∙ l.number in
    lone_behind c.carry_out.result p.seat.me n.seat.me e.seat.me
    (lone_none 0 p.seat.me.0.upper n.seat.me.0.upper
    (begun_lost z c.args.fork.route x q.seat.me n.seat.me b ∙ l.lost) same)
    (begun_pool z c.args.fork.route x q.seat.me n.seat.me b
    ∙ ap (λ (y : MyTree). y.0.lost) l.raised)
    (c.carry_out.ensures.alone (alone.0, subst (λ (k : ℕ). 0 < k) (sym number) alone.1)
    (subst (λ (y : Inventory × Note). IsListed y.0 y.1) (λ i. (sym same i, sym one i)) listed)
    (subst (λ (y : Inventory × Note). IsThere y.0 y.1) (λ i. (sym same i, sym other i))
    (lone_sibling z c.args.cursor.link note p.seat.me q.seat.me f.look c.requires.ready.own.1
    c.args.space.now.few.0 alone)))
