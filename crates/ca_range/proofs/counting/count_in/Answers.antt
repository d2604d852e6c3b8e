use Rattle.std.proofs.Common.{◌≡◌, ◌<◌, ◌+◌, ℕ, suc, List, [], length, get_or, refl, sym, ◌∙◌, subst, arith}
use Rattle.ca_base.specs.Finding.{IsObjectShown, IsReadable}
use Rattle.ca_base.specs.Objects.{reads_none, reads_on}
use Rattle.ca_model.specs.Runs.{HasCounted}
use Rattle.ca_node.specs.Row.{pair}
use Rattle.ca_node.specs.Told.{MyTree}
use Rattle.ca_node.specs.TreeView.{Note}
use Rattle.ca_range.specs.Counted.{IsCountOf}
use Rattle.ca_range.proofs.Counts.{count_counted, count_false, count_true, counted_before, is_pair, part_empty, part_end, part_longer, part_more, part_of}
use Rattle.ca_range.proofs.counting.count_in.Given.{Over}
use Rattle.ca_range.proofs.counting.count_in.Goals as goal
use Rattle.ca_range.proofs.counting.count_in.Goals.{then-counts, else-counts}

pub loop-place-init : goal.loop-place-init
loop-place-init g c = let part = c.args.part in record {
  frame = reads_none c.args.pass.now;
  most = omega arith;
  none = λ l. omega arith;
  counts = λ note r. (
    0,
    omega arith,
    subst (λ (os : List (List ℕ)). IsCountOf g.F.Fn c.args.sought.now.counts.now 0 os)
        (sym (part_empty note.objects part.from part.from (omega arith))) refl,
  );
}

pub counts-requires : goal.counts-requires
counts-requires g c = let z = c.args.space.now.table.shared.key in let n = c.requires.readable in let note = n.0 in
    let place : ℕ = c.loop-place.place in let its : List ℕ = get_or note.objects place [] in let base : ℕ = c.args.part.base in
    let r = subst (λ (m : MyTree). IsReadable z m.0.upper base note) (sym c.loop-place.invariant.frame.still) n.1 in
    let inside = c.requires.inside note n.1 in let before = c.loop-place-test.true in let l : place < length note.objects = omega arith in
    let same = c.copy_object.ensures.object its
    (subst (λ (m : MyTree). IsObjectShown m.0.upper c.item-row.result its) (sym c.item-row.ensures.frame.still) (c.item-row.ensures.item note r l).1) in
    c.requires.function (pair its) (is_pair z.keypos note.objects place n.1.ordered l) _ (c.deref.ensures.0 ∙ same)

pub returns-then-counted-sought-clause-counted : goal.returns-then-counted-sought-clause-counted
returns-then-counted-sought-clause-counted g c note r = let part = c.args.part in let f = c.args.sought.now.counts.now in
    let k = c.loop-place.invariant.counts note r in let before = c.loop-place-test.true in
    let split = part_longer note.objects part.from c.loop-place.place part.end (omega arith) in
    let all = part_of note.objects part.from c.loop-place.place in (
      k.0,
      k.1,
      subst (λ (os : List (List ℕ)). HasCounted g.F.Fn f k.0 os) (sym split.1)
          (counted_before g.F.Fn f k.0 all split.0 (count_counted g.F.Fn f k.0 all k.2)),
    )

pub copy_object-requires-clause-shown : goal.copy_object-requires-clause-shown
copy_object-requires-clause-shown g c = let z = c.args.space.now.table.shared.key in let n = c.requires.readable in let note = n.0 in
    let place : ℕ = c.loop-place.place in let its : List ℕ = get_or note.objects place [] in let base : ℕ = c.args.part.base in
    let r = subst (λ (m : MyTree). IsReadable z m.0.upper base note) (sym c.loop-place.invariant.frame.still) n.1 in
    let inside = c.requires.inside note n.1 in let before = c.loop-place-test.true in let l : place < length note.objects = omega arith in
    (its, subst (λ (m : MyTree). IsObjectShown m.0.upper c.item-row.result its) (sym c.item-row.ensures.frame.still) (c.item-row.ensures.item note r l).1)

pub loop-place-preserved : goal.loop-place-preserved
loop-place-preserved g c = let inv = c.loop-place.invariant in let before = c.loop-place-test.true in let less = c.if-counted-sought.false in
    let low = c.loop-place.auto.place in record {
      frame = reads_on _ _ _ (reads_on _ _ _ inv.frame c.item-row.ensures.frame) c.copy_object.ensures.frame;
      most = elim c.if-counts.branch [
        | then-counts w ↦ (let is = w.counted-is in omega arith)
        | else-counts w ↦ (let is = w.counted-is in let most = inv.most in omega arith)
      ];
      none = λ l. absurd (omega arith);
      counts = λ note r. let z = c.args.space.now.table.shared.key in let f = c.args.sought.now.counts.now in let part = c.args.part in
          let place : ℕ = c.loop-place.place in let its : List ℕ = get_or note.objects place [] in let o : List ℕ = (pair its).1 in
          let seen = subst (λ (m : MyTree). IsReadable z m.0.upper part.base note) (sym inv.frame.still) r in
          let inside = c.requires.inside note r in let l : place < length note.objects = omega arith in
          let same = c.copy_object.ensures.object its
          (subst (λ (m : MyTree). IsObjectShown m.0.upper c.item-row.result its) (sym c.item-row.ensures.frame.still)
          (c.item-row.ensures.item note seen l).1) in
          let k = inv.counts note r in let all = part_of note.objects part.from place in
          let more = sym (part_more note.objects part.from place low l) in
          elim c.if-counts.branch [
            | then-counts w ↦ (
              suc k.0,
              (let is = w.counted-is in let was = k.1 in omega arith),
              subst (λ (os : List (List ℕ)). IsCountOf g.F.Fn f (suc k.0) os) more (count_true g.F.Fn f k.0 all o k.2 record {
                shown = _;
                shows = c.deref.ensures.0 ∙ same;
                met = rw w.if-counts.true at c.counts.ensures;
              }),
            )
            | else-counts w ↦ (
              k.0,
              w.counted-is ∙ k.1,
              subst (λ (os : List (List ℕ)). IsCountOf g.F.Fn f k.0 os) more (count_false g.F.Fn f k.0 all o k.2 record {
                shown = _;
                shows = c.deref.ensures.0 ∙ same;
                met = rw w.if-counts.false at c.counts.ensures;
              }),
            )
          ];
    }

-- All objects of the part were asked for.
all_asked : (g : Over) (c : goal.After-loop-place g) (note : Note)
    → IsReadable c.args.space.now.table.shared.key c.args.pass.now.seat.me.0.upper c.args.part.base note
    → (n : ℕ) × (c.loop-place.counted ≡ c.args.counted + n)
    × IsCountOf g.F.Fn c.args.sought.now.counts.now n (part_of note.objects c.args.part.from c.args.part.end)
all_asked g c note r = let part = c.args.part in let k = c.loop-place.invariant.counts note r in (
  k.0,
  k.1,
  subst (λ (os : List (List ℕ)). IsCountOf g.F.Fn c.args.sought.now.counts.now k.0 os)
      (sym (part_end note.objects part.from c.loop-place.place part.end c.loop-place.auto.place-end c.loop-place.invariant.none c.loop-place-test.false)) k.2,
)

pub returns-clause-counted : goal.returns-clause-counted
returns-clause-counted g c note r = let k = all_asked g c note r in
    (k.0, k.1, count_counted g.F.Fn c.args.sought.now.counts.now k.0 (part_of note.objects c.args.part.from c.args.part.end) k.2)

pub returns-clause-all : goal.returns-clause-all
returns-clause-all g c less note r = all_asked g c note r
