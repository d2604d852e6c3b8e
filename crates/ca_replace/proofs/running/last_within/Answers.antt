use Rattle.std.proofs.Common.{rules, ◌≡◌, ◌+◌, ℕ, List, get_or, sym, subst, ap, ◌∙◌, arith, Some}
use Rattle.ca_base.specs.Finding.{IsReadable}
use Rattle.ca_model.specs.Edges.{bound_of}
use Rattle.ca_node.specs.Told.{MyTree}
use Rattle.ca_node.specs.TreeView.{Note, no_note}
use Rattle.ca_range.specs.Snapshots.{bases_of}
use Rattle.ca_replace.specs.Running.{row_in}
use Rattle.ca_replace.proofs.OpenRuns.{last_found, none_at_all, none_found}
use Rattle.ca_replace.proofs.RunLines.{all_walked, is_there, readable_at}
use Rattle.ca_replace.proofs.running.last_within.Goals as goal

pub place_to-place-requires-clause-readable : goal.place_to-place-requires-clause-readable
place_to-place-requires-clause-readable c = let z = c.args.space.now.table.shared.key in
    let m = c.args.pass.now.seat.me in
    let inv = c.loop-row.invariant in let at = c.loop-row.at in let row = c.loop-row.row in
    let note : Note = get_or (bases_of c.args.bases m.0.upper) at no_note in
    let here = is_there z m.0.upper c.args.bases c.requires.remembered at row inv.here
    (omega (arith, c.loop-row-test.true)) in (
      note,
      subst (λ (x : MyTree). IsReadable z x.0.upper row note) (sym inv.still)
          (readable_at z m.0.upper c.args.bases c.requires.remembered at row here),
    )

pub copy_at-requires-clause-readable : goal.copy_at-requires-clause-readable
copy_at-requires-clause-readable c = let z = c.args.space.now.table.shared.key in
    let m = c.args.pass.now.seat.me in
    let inv = c.loop-row.invariant in let at = c.loop-row.at in let row = c.loop-row.row in
    let note : Note = get_or (bases_of c.args.bases m.0.upper) at no_note in
    let here = is_there z m.0.upper c.args.bases c.requires.remembered at row inv.here
    (omega (arith, c.loop-row-test.true)) in
    let r = readable_at z m.0.upper c.args.bases c.requires.remembered at row here in
    let inside = c.place_to-place.ensures.inside note
    (subst (λ (x : MyTree). IsReadable z x.0.upper row note) (sym inv.still) r) in (
      note,
      subst (λ (x : MyTree). IsReadable z x.0.upper row note)
          (sym (c.place_to-place.ensures.frame.still ∙ inv.still)) r,
      omega (arith, inside, c.if-place-gt0.true),
    )

pub returns-then-place-gt0-clause-last : goal.returns-then-place-gt0-clause-last
returns-then-place-gt0-clause-last c = let z = c.args.space.now.table.shared.key in
    let m = c.args.pass.now.seat.me in
    let inv = c.loop-row.invariant in let at = c.loop-row.at in let row = c.loop-row.row in
    let notes : List Note = bases_of c.args.bases m.0.upper in
    let note : Note = get_or notes at no_note in
    let here = is_there z m.0.upper c.args.bases c.requires.remembered at row inv.here
    (omega (arith, c.loop-row-test.true)) in
    let r = readable_at z m.0.upper c.args.bases c.requires.remembered at row here in
    let r_one = subst (λ (x : MyTree). IsReadable z x.0.upper row note) (sym inv.still) r in
    let r_two = subst (λ (x : MyTree). IsReadable z x.0.upper row note)
    (sym (c.place_to-place.ensures.frame.still ∙ inv.still)) r in
    let place = c.place_to-place.result in
    let inside = c.place_to-place.ensures.inside note r_one in let some = c.if-place-gt0.true in
    last_found notes (bound_of c.args.cut) at place here.0 inv.none
    (c.place_to-place.ensures.end note r_one) some inside
    ∙ ap (λ (x : List ℕ). Some x)
    (sym (c.copy_at.ensures.object note r_two (omega (arith, inside, some))))

pub loop-row-preserved : goal.loop-row-preserved
loop-row-preserved c = let z = c.args.space.now.table.shared.key in
    let m = c.args.pass.now.seat.me in let bases = c.args.bases in
    let inv = c.loop-row.invariant in let at = c.loop-row.at in let row = c.loop-row.row in
    let notes : List Note = bases_of bases m.0.upper in
    let note : Note = get_or notes at no_note in
    let here = is_there z m.0.upper bases c.requires.remembered at row inv.here
    (omega (arith, c.loop-row-test.true)) in
    let r = readable_at z m.0.upper bases c.requires.remembered at row here in
    let r_one = subst (λ (x : MyTree). IsReadable z x.0.upper row note) (sym inv.still) r in
    record {
      own = search rules;
      same = search rules;
      number = search rules;
      tally = search rules;
      kept = search rules;
      still = search rules;
      here = subst (λ (x : MyTree). c.left_row-row.result ≡ row_in (bases_of bases x.0.upper)
          (at + 1)) (c.place_to-place.ensures.frame.still ∙ inv.still)
          c.left_row-row.ensures.left;
      inside = omega (arith, here.0);
      none = none_found notes (bound_of c.args.cut) at c.place_to-place.result here.0 inv.none
          (c.place_to-place.ensures.end note r_one)
          (omega (arith, c.if-place-gt0.false));
    }

pub returns-clause-last : goal.returns-clause-last
returns-clause-last c = let z = c.args.space.now.table.shared.key in
    let m = c.args.pass.now.seat.me in let bases = c.args.bases in
    let inv = c.loop-row.invariant in let at = c.loop-row.at in
    none_at_all (bases_of bases m.0.upper) (bound_of c.args.cut) at
    (all_walked z m.0.upper bases c.requires.remembered at c.loop-row.row inv.here
    c.loop-row-test.false) inv.none
