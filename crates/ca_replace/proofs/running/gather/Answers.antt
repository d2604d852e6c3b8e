use Rattle.std.proofs.Common.{List, get_or, refl, sym, subst, ◌∙◌, arith}
use Rattle.ca_base.specs.Finding.{IsReadable}
use Rattle.ca_model.specs.Edges.{bound_of}
use Rattle.ca_node.specs.Told.{MyTree}
use Rattle.ca_node.specs.TreeView.{Note, no_note}
use Rattle.ca_range.specs.Snapshots.{bases_of}
use Rattle.ca_replace.specs.Running.{row_in}
use Rattle.ca_replace.proofs.OpenRuns.{gathered_here, gathered_none}
use Rattle.ca_replace.proofs.RunLines.{part_long, readable_at}
use Rattle.ca_replace.proofs.running.gather.Goals as goal

pub count-many-requires-clause-readable : goal.count-many-requires-clause-readable
count-many-requires-clause-readable c = let u = c.args.pass.now.seat.me.0.upper in
    let run = c.args.run.now in (
      get_or (bases_of run.bases u) run.window.walked no_note,
      readable_at c.args.space.now.table.shared.key u run.bases c.requires.remembered
          run.window.walked
          c.args.row c.requires.here,
    )

pub place_from-start-requires-clause-readable : goal.place_from-start-requires-clause-readable
place_from-start-requires-clause-readable c = let z = c.args.space.now.table.shared.key in
    let u = c.args.pass.now.seat.me.0.upper in
    let run = c.args.run.now in let note : Note = get_or (bases_of run.bases u) run.window.walked
    no_note in (
      note,
      subst (λ (m : MyTree). IsReadable z m.0.upper c.args.row note)
          (sym c.count-many.ensures.frame.still)
          (readable_at z u run.bases c.requires.remembered run.window.walked c.args.row
          c.requires.here),
    )

pub place_to-end-requires-clause-readable : goal.place_to-end-requires-clause-readable
place_to-end-requires-clause-readable c = let z = c.args.space.now.table.shared.key in
    let u = c.args.pass.now.seat.me.0.upper in
    let run = c.args.run.now in let note : Note = get_or (bases_of run.bases u) run.window.walked
    no_note in (
      note,
      subst (λ (m : MyTree). IsReadable z m.0.upper c.args.row note)
          (sym (c.place_from-start.ensures.frame.still ∙ c.count-many.ensures.frame.still))
          (readable_at z u run.bases c.requires.remembered run.window.walked c.args.row
          c.requires.here),
    )

pub returns-then-start-many-clause-gathered : goal.returns-then-start-many-clause-gathered
returns-then-start-many-clause-gathered c = let z = c.args.space.now.table.shared.key in
    let m = c.args.pass.now.seat.me in
    let run = c.args.run.now in let at = run.window.walked in
    let notes : List Note = bases_of run.bases m.0.upper in
    let note : Note = get_or notes at no_note in
    let r = readable_at z m.0.upper run.bases c.requires.remembered at c.args.row c.requires.here in
    let one = c.count-many.ensures.frame.still in let two = c.place_from-start.ensures.frame.still
    ∙ one in
    let r_one = subst (λ (m : MyTree). IsReadable z m.0.upper c.args.row note) (sym one) r in
    let r_two = subst (λ (m : MyTree). IsReadable z m.0.upper c.args.row note) (sym two) r in
    let many_is = c.count-many.ensures.count note r in
    gathered_none z.keypos notes (bound_of c.args.lo) (bound_of c.args.cut) run _ c.args.row
    c.count-many.result c.place_from-start.result c.place_to-end.result
    c.requires.ordered c.requires.gathered c.requires.here record {
      ordered = r.ordered;
      few = c.count-many.ensures.few;
      long = part_long notes at ∙ sym many_is;
      start_is = c.place_from-start.ensures.start note r_one;
      end_is = c.place_to-end.ensures.end note r_two;
      end_inside = omega (arith, many_is, c.place_to-end.ensures.inside note r_two);
    } c.add_row.ensures.walked (c.add_row.ensures.rows (row_in notes) c.requires.gathered.window
    c.requires.here.1) (omega (arith, c.from.ensures, c.saturating_sub.ensures))
    c.if-start-many.true refl refl refl

pub returns-clause-gathered : goal.returns-clause-gathered
returns-clause-gathered c = let z = c.args.space.now.table.shared.key in
    let m = c.args.pass.now.seat.me in
    let run = c.args.run.now in let at = run.window.walked in
    let notes : List Note = bases_of run.bases m.0.upper in
    let note : Note = get_or notes at no_note in
    let r = readable_at z m.0.upper run.bases c.requires.remembered at c.args.row c.requires.here in
    let one = c.count-many.ensures.frame.still in let two = c.place_from-start.ensures.frame.still
    ∙ one in
    let r_one = subst (λ (m : MyTree). IsReadable z m.0.upper c.args.row note) (sym one) r in
    let r_two = subst (λ (m : MyTree). IsReadable z m.0.upper c.args.row note) (sym two) r in
    let many_is = c.count-many.ensures.count note r in
    gathered_here z.keypos notes (bound_of c.args.lo) (bound_of c.args.cut) run _ c.args.row
    c.count-many.result c.place_from-start.result c.place_to-end.result
    c.requires.ordered c.requires.gathered c.requires.here record {
      ordered = r.ordered;
      few = c.count-many.ensures.few;
      long = part_long notes at ∙ sym many_is;
      start_is = c.place_from-start.ensures.start note r_one;
      end_is = c.place_to-end.ensures.end note r_two;
      end_inside = omega (arith, many_is, c.place_to-end.ensures.inside note r_two);
    } c.add_row.ensures.walked (c.add_row.ensures.rows (row_in notes) c.requires.gathered.window
    c.requires.here.1) (omega (arith, c.from.ensures, c.saturating_sub.ensures))
    c.if-start-many.false (omega (arith, c.add_row.ensures.walked)) refl refl
