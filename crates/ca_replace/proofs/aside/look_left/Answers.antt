use Rattle.std.proofs.Common.{rules, ◌≡◌, ◌+◌, ℕ, List, [], ◌∷◌, length, Option, Some, true, refl, sym, ap, ◌∙◌, subst, arith}
use Rattle.ca_base.specs.Putting.{first_note}
use Rattle.ca_model.specs.Edges.{Included}
use Rattle.ca_node.specs.Told.{MyTree}
use Rattle.ca_node.specs.TreeView.{Note}
use Rattle.ca_node.specs.Walking.{IsLowRoute}
use Rattle.ca_range.specs.Reaching.{IsKeyShown}
use Rattle.ca_replace.specs.Aside.{HasGoneLeft, HasLookedLeft, IsEndOfLooks, MayGoLeft}
use Rattle.ca_replace.proofs.LooksLeft.{aside_bound, aside_low, gone_left, may_go_first, may_go_on, aside_readable, left_none, low_shown, one_more_left}
use Rattle.ca_replace.specs.Loading.{LoadsFew}
use Rattle.ca_replace.specs.LoneReads.{GoesLeftAlone}
use Rattle.ca_replace.proofs.LoneLooks.{LooksOnce, goes_left, left_alone, looks_first, looks_on}
use Rattle.ca_replace.proofs.Pacing.{paid_more}
use Rattle.ca_replace.proofs.ReadLoads.{look_more}
use Rattle.ca_replace.proofs.aside.look_left.Goals as goal

none_there : (objects : List (List ℕ)) → length objects ≡ 0 → objects ≡ []
none_there [] e = refl
none_there (o ∷ objects) e = absurd (omega (arith, e))

pub loop-cursor-init : goal.loop-cursor-init
loop-cursor-init c = record {
  same = search rules;
  number = search rules;
  tally = search rules;
  kept = search rules;
  looked = left_none c.args.space.now.table.shared.key c.args.spent.now c.args.pass.now.seat.me;
  may = may_go_first c.args.space.now.table.shared.key c.args.from c.args.pass.now.seat.me
      c.requires.from;
  looks = λ _. looks_first c.args.pass.now.seat.me;
  unspent = c.requires.unspent;
  loads = omega arith;
}

pub returns-then-spent_in_all-budget-clause-looked : goal.returns-then-spent_in_all-budget-clause-looked
returns-then-spent_in_all-budget-clause-looked c = let z = c.args.space.now.table.shared.key in
    let m = c.loop-cursor.pass.seat.me in
    let n = c.look_aside-cursor.new.pass.seat.me in let a = c.loop-cursor.spent in
    let b = c.look_aside-cursor.new.spent in
    one_more_left z c.loop-cursor.route c.look_aside-cursor.result m n
    c.look_aside-cursor.ensures.looked c.args.spent.now a b c.args.pass.now.seat.me
    c.loop-cursor.invariant.looked c.look_aside-cursor.ensures.passed
    c.look_aside-cursor.ensures.others

pub returns-in_default-clause-looked : goal.returns-in_default-clause-looked
returns-in_default-clause-looked c = let z = c.args.space.now.table.shared.key in
    let m = c.loop-cursor.pass.seat.me in
    let n = c.look_aside-cursor.new.pass.seat.me in let a = c.loop-cursor.spent in
    let b = c.look_aside-cursor.new.spent in
    one_more_left z c.loop-cursor.route c.look_aside-cursor.result m n
    c.look_aside-cursor.ensures.looked c.args.spent.now a b c.args.pass.now.seat.me
    c.loop-cursor.invariant.looked c.look_aside-cursor.ensures.passed
    c.look_aside-cursor.ensures.others

pub count-requires-clause-readable : goal.count-requires-clause-readable
count-requires-clause-readable c = let z = c.args.space.now.table.shared.key in
    let n = c.look_aside-cursor.new.pass.seat.me in (
      first_note n.0.upper.notes,
      aside_readable z c.loop-cursor.route c.look_aside-cursor.result c.loop-cursor.pass.seat.me n
          c.look_aside-cursor.ensures.looked c.requires.leaf,
    )

pub copy_key-requires-clause-shown : goal.copy_key-requires-clause-shown
copy_key-requires-clause-shown c = let z = c.args.space.now.table.shared.key in
    let n = c.look_aside-cursor.new.pass.seat.me in
    let next = c.in-Some.next in
    let bound = aside_bound z c.loop-cursor.route c.look_aside-cursor.result
    c.loop-cursor.pass.seat.me n c.look_aside-cursor.ensures.looked next c.in-Some.is
    c.loop-cursor.invariant.may.end in
    let low = low_shown z n.0.upper next bound.bound bound.low in (
      low.0,
      subst (λ (x : MyTree). IsKeyShown x.0.upper next low.0)
          (sym c.count.ensures.frame.still) low.1,
    )

pub returns-then-count-gt0-clause-looked : goal.returns-then-count-gt0-clause-looked
returns-then-count-gt0-clause-looked c = let z = c.args.space.now.table.shared.key in
    let m = c.loop-cursor.pass.seat.me in
    let n = c.look_aside-cursor.new.pass.seat.me in let a = c.loop-cursor.spent in
    let b = c.look_aside-cursor.new.spent in
    subst (λ (x : MyTree). HasLookedLeft z c.args.spent.now b c.args.pass.now.seat.me x)
    (sym (c.copy_key.ensures.frame.still ∙ c.count.ensures.frame.still))
    (one_more_left z c.loop-cursor.route c.look_aside-cursor.result m n
    c.look_aside-cursor.ensures.looked c.args.spent.now a b c.args.pass.now.seat.me
    c.loop-cursor.invariant.looked c.look_aside-cursor.ensures.passed
    c.look_aside-cursor.ensures.others)

pub returns-then-count-gt0-clause-ends : goal.returns-then-count-gt0-clause-ends
returns-then-count-gt0-clause-ends c = let z = c.args.space.now.table.shared.key in
    let m = c.loop-cursor.pass.seat.me in
    let n = c.look_aside-cursor.new.pass.seat.me in let next = c.in-Some.next in
    let h = c.look_aside-cursor.ensures.looked in
    let cursor = c.look_aside-cursor.result in let note : Note = first_note n.0.upper.notes in
    let low = low_shown z n.0.upper next note.place.span.low
    (subst (λ (r : Option ℕ). IsLowRoute z n.0.upper.ways r note.place.span.low) c.in-Some.is
    (aside_low z c.loop-cursor.route cursor m n h)) in
    let shown = subst (λ (x : MyTree). IsKeyShown x.0.upper next low.0)
    (sym c.count.ensures.frame.still) low.1 in
    let many = c.count.ensures.count note (aside_readable z c.loop-cursor.route cursor m n h
    c.requires.leaf) in
    let some = c.if-count-gt0.true in let all = c.spent_in_all.ensures in
    let less = c.if-spent_in_all-budget.false in let fits = c.ranges.budget.fits in
    subst (λ (x : MyTree). IsEndOfLooks c.args.budget c.look_aside-cursor.new.spent (Some true)
    c.copy_key.new.into.items x.0.upper)
    (sym (c.copy_key.ensures.frame.still ∙ c.count.ensures.frame.still)) (
      low.2 ∙ ap (λ (k : List ℕ). Included k) (sym (c.copy_key.ensures.key low.0 shown)),
      omega arith,
      omega arith,
    )

pub loop-cursor-preserved : goal.loop-cursor-preserved
loop-cursor-preserved c = let z = c.args.space.now.table.shared.key in
    let m = c.loop-cursor.pass.seat.me in
    let n = c.look_aside-cursor.new.pass.seat.me in let a = c.loop-cursor.spent in
    let b = c.look_aside-cursor.new.spent in
    let h = c.look_aside-cursor.ensures.looked in let cursor = c.look_aside-cursor.result in
    let next = c.in-Some.next in
    let all = c.spent_in_all.ensures in let less = c.if-spent_in_all-budget.false in
    let fits = c.ranges.budget.fits in record {
      same = search rules;
      number = search rules;
      tally = search rules;
      kept = search rules;
      looked = subst (λ (x : MyTree). HasLookedLeft z c.args.spent.now b c.args.pass.now.seat.me x)
          (sym c.count.ensures.frame.still)
          (one_more_left z c.loop-cursor.route cursor m n h c.args.spent.now a b
          c.args.pass.now.seat.me c.loop-cursor.invariant.looked
          c.look_aside-cursor.ensures.passed c.look_aside-cursor.ensures.others);
      may = subst (λ (x : MyTree). MayGoLeft z c.args.from next c.args.pass.now.seat.me x)
          (sym c.count.ensures.frame.still)
          (may_go_on z c.loop-cursor.route cursor m n h c.args.from next c.args.pass.now.seat.me
          c.loop-cursor.invariant.may c.in-Some.is
          (none_there (first_note n.0.upper.notes).objects
          (let many = c.count.ensures.count (first_note n.0.upper.notes)
          (aside_readable z c.loop-cursor.route cursor m n h c.requires.leaf) in
          let none = c.if-count-gt0.false in omega arith)));
      looks = λ alone. subst (λ (x : MyTree). LooksOnce c.args.pass.now.seat.me x)
          (sym c.count.ensures.frame.still)
          (looks_on z c.loop-cursor.route cursor m n h c.loop-cursor.invariant.may.end
          (left_alone z c.args.pass.now.seat.me m c.args.spent.now a c.loop-cursor.invariant.looked
          alone) c.args.pass.now.seat.me
          (c.loop-cursor.invariant.looks alone));
      unspent = omega arith;
      loads = subst (λ (x : MyTree). LoadsFew (z.levels + 1) 0 x.0.upper.loads
          c.args.pass.now.seat.me x) (sym c.count.ensures.frame.still)
          (look_more z c.loop-cursor.route cursor c.args.pass.now.seat.me m n h
          (paid_more c.args.spent.now a c.args.pass.now.seat.me m
          c.loop-cursor.invariant.looked.paid) c.loop-cursor.invariant.loads);
    }

pub look_aside-cursor-requires-clause-from : goal.look_aside-cursor-requires-clause-from
look_aside-cursor-requires-clause-from c = c.loop-cursor.invariant.may.end

pub returns-then-spent_in_all-budget-clause-gone : goal.returns-then-spent_in_all-budget-clause-gone
returns-then-spent_in_all-budget-clause-gone c = gone_left c.args.space.now.table.shared.key
    c.loop-cursor.route c.look_aside-cursor.result
    c.loop-cursor.pass.seat.me c.look_aside-cursor.new.pass.seat.me
    c.look_aside-cursor.ensures.looked c.args.from c.args.pass.now.seat.me
    c.loop-cursor.invariant.may

pub returns-in_default-clause-gone : goal.returns-in_default-clause-gone
returns-in_default-clause-gone c = gone_left c.args.space.now.table.shared.key c.loop-cursor.route
    c.look_aside-cursor.result
    c.loop-cursor.pass.seat.me c.look_aside-cursor.new.pass.seat.me
    c.look_aside-cursor.ensures.looked c.args.from c.args.pass.now.seat.me
    c.loop-cursor.invariant.may

pub returns-then-count-gt0-clause-gone : goal.returns-then-count-gt0-clause-gone
returns-then-count-gt0-clause-gone c = let z = c.args.space.now.table.shared.key in
    subst (λ (x : MyTree). HasGoneLeft z c.args.from c.args.pass.now.seat.me x)
    (sym (c.copy_key.ensures.frame.still ∙ c.count.ensures.frame.still))
    (gone_left z c.loop-cursor.route c.look_aside-cursor.result c.loop-cursor.pass.seat.me
    c.look_aside-cursor.new.pass.seat.me
    c.look_aside-cursor.ensures.looked c.args.from c.args.pass.now.seat.me
    c.loop-cursor.invariant.may)

pub returns-then-spent_in_all-budget-clause-loads : goal.returns-then-spent_in_all-budget-clause-loads
returns-then-spent_in_all-budget-clause-loads c = let z = c.args.space.now.table.shared.key in
    let m = c.loop-cursor.pass.seat.me in
    look_more z c.loop-cursor.route c.look_aside-cursor.result c.args.pass.now.seat.me m
    c.look_aside-cursor.new.pass.seat.me
    c.look_aside-cursor.ensures.looked
    (paid_more c.args.spent.now c.loop-cursor.spent c.args.pass.now.seat.me m
    c.loop-cursor.invariant.looked.paid) c.loop-cursor.invariant.loads

pub returns-in_default-clause-loads : goal.returns-in_default-clause-loads
returns-in_default-clause-loads c = let z = c.args.space.now.table.shared.key in
    let m = c.loop-cursor.pass.seat.me in
    look_more z c.loop-cursor.route c.look_aside-cursor.result c.args.pass.now.seat.me m
    c.look_aside-cursor.new.pass.seat.me
    c.look_aside-cursor.ensures.looked
    (paid_more c.args.spent.now c.loop-cursor.spent c.args.pass.now.seat.me m
    c.loop-cursor.invariant.looked.paid) c.loop-cursor.invariant.loads

pub returns-then-count-gt0-clause-loads : goal.returns-then-count-gt0-clause-loads
returns-then-count-gt0-clause-loads c = let z = c.args.space.now.table.shared.key in
    let m = c.loop-cursor.pass.seat.me in
    subst (λ (x : MyTree). LoadsFew (z.levels + 1) 0 x.0.upper.loads c.args.pass.now.seat.me x)
    (sym (c.copy_key.ensures.frame.still ∙ c.count.ensures.frame.still))
    (look_more z c.loop-cursor.route c.look_aside-cursor.result c.args.pass.now.seat.me m
    c.look_aside-cursor.new.pass.seat.me
    c.look_aside-cursor.ensures.looked
    (paid_more c.args.spent.now c.loop-cursor.spent c.args.pass.now.seat.me m
    c.loop-cursor.invariant.looked.paid) c.loop-cursor.invariant.loads)

pub returns-then-spent_in_all-budget-clause-alone : goal.returns-then-spent_in_all-budget-clause-alone
returns-then-spent_in_all-budget-clause-alone c alone known = let z =
    c.args.space.now.table.shared.key in let k = c.args.pass.now.seat.me in
    let m = c.loop-cursor.pass.seat.me in let n = c.look_aside-cursor.new.pass.seat.me in
    let a = c.loop-cursor.spent in
    let b = c.look_aside-cursor.new.spent in let h = c.look_aside-cursor.ensures.looked in
    goes_left z c.loop-cursor.route c.look_aside-cursor.result m n h c.loop-cursor.invariant.may.end
    (left_alone z k m c.args.spent.now a c.loop-cursor.invariant.looked alone) c.args.spent.now b k
    (one_more_left z c.loop-cursor.route c.look_aside-cursor.result m n h c.args.spent.now a b k
    c.loop-cursor.invariant.looked
    c.look_aside-cursor.ensures.passed c.look_aside-cursor.ensures.others)
    (c.loop-cursor.invariant.looks alone) known alone

pub returns-in_default-clause-alone : goal.returns-in_default-clause-alone
returns-in_default-clause-alone c alone known = let z = c.args.space.now.table.shared.key in
    let k = c.args.pass.now.seat.me in
    let m = c.loop-cursor.pass.seat.me in let n = c.look_aside-cursor.new.pass.seat.me in
    let a = c.loop-cursor.spent in
    let b = c.look_aside-cursor.new.spent in let h = c.look_aside-cursor.ensures.looked in
    goes_left z c.loop-cursor.route c.look_aside-cursor.result m n h c.loop-cursor.invariant.may.end
    (left_alone z k m c.args.spent.now a c.loop-cursor.invariant.looked alone) c.args.spent.now b k
    (one_more_left z c.loop-cursor.route c.look_aside-cursor.result m n h c.args.spent.now a b k
    c.loop-cursor.invariant.looked
    c.look_aside-cursor.ensures.passed c.look_aside-cursor.ensures.others)
    (c.loop-cursor.invariant.looks alone) known alone

pub returns-then-count-gt0-clause-alone : goal.returns-then-count-gt0-clause-alone
returns-then-count-gt0-clause-alone c alone known = let z = c.args.space.now.table.shared.key in
    let k = c.args.pass.now.seat.me in
    let m = c.loop-cursor.pass.seat.me in let n = c.look_aside-cursor.new.pass.seat.me in
    let a = c.loop-cursor.spent in
    let b = c.look_aside-cursor.new.spent in let h = c.look_aside-cursor.ensures.looked in
    subst (λ (x : MyTree). GoesLeftAlone z k x)
    (sym (c.copy_key.ensures.frame.still ∙ c.count.ensures.frame.still))
    (goes_left z c.loop-cursor.route c.look_aside-cursor.result m n h
    c.loop-cursor.invariant.may.end
    (left_alone z k m c.args.spent.now a c.loop-cursor.invariant.looked alone) c.args.spent.now b k
    (one_more_left z c.loop-cursor.route c.look_aside-cursor.result m n h c.args.spent.now a b k
    c.loop-cursor.invariant.looked
    c.look_aside-cursor.ensures.passed c.look_aside-cursor.ensures.others)
    (c.loop-cursor.invariant.looks alone) known alone)
