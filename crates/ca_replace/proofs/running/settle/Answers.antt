use Rattle.std.proofs.Common.{rules, ◌≡◌, get_or, refl, sym, subst, ◌∙◌}
use Rattle.ca_base.specs.Finding.{IsReadable}
use Rattle.ca_node.specs.Told.{MyTree}
use Rattle.ca_node.specs.TreeView.{Note, no_note}
use Rattle.ca_range.specs.Snapshots.{bases_of}
use Rattle.ca_replace.specs.Running.{IsOpenRun, left_of}
use Rattle.ca_replace.proofs.RunLines.{readable_at}
use Rattle.ca_replace.proofs.running.settle.Goals as goal

pub count-many-requires-clause-readable : goal.count-many-requires-clause-readable
count-many-requires-clause-readable c = let u = c.args.pass.now.seat.me.0.upper in
    let run = c.args.run.now in let o = c.requires.opened in (
      get_or (bases_of run.bases u) run.at no_note,
      readable_at c.args.space.now.table.shared.key u run.bases o.remembered run.at run.base o.here,
    )

pub loop-many-init : goal.loop-many-init
loop-many-init c = let z = c.args.space.now.table.shared.key in
    let u = c.args.pass.now.seat.me.0.upper in let run = c.args.run.now in
    let o = c.requires.opened in record {
      own = search rules;
      same = search rules;
      number = search rules;
      tally = search rules;
      kept = search rules;
      still = search rules;
      opened = o;
      left = refl;
      many_left = refl;
      many = c.count-many.ensures.count (get_or (bases_of run.bases u) run.at no_note)
          (readable_at z u run.bases o.remembered run.at run.base o.here);
      few = c.count-many.ensures.few;
    }

pub warm-requires-clause-opened : goal.warm-requires-clause-opened
warm-requires-clause-opened c = subst (λ (x : MyTree). IsOpenRun c.args.space.now.table.shared.key
    x.0.upper c.go_right.new.run)
    (sym c.go_right.ensures.frame.still) c.go_right.ensures.opened

pub count-many-requires-in-loop-many-clause-readable : goal.count-many-requires-in-loop-many-clause-readable
count-many-requires-in-loop-many-clause-readable c = let z = c.args.space.now.table.shared.key in
    let m = c.args.pass.now.seat.me in
    let run = c.go_right.new.run in let inv = c.loop-many.invariant in
    let note : Note = get_or (bases_of run.bases m.0.upper) run.at no_note in
    let o = subst (λ (x : MyTree). IsOpenRun z x.0.upper run) inv.still c.go_right.ensures.opened in (
      note,
      subst (λ (x : MyTree). IsReadable z x.0.upper run.base note)
          (sym (c.warm.ensures.frame.still ∙ (c.go_right.ensures.frame.still ∙ inv.still)))
          (readable_at z m.0.upper run.bases o.remembered run.at run.base o.here),
    )

pub loop-many-preserved : goal.loop-many-preserved
loop-many-preserved c = let z = c.args.space.now.table.shared.key in
    let m = c.args.pass.now.seat.me in
    let run = c.go_right.new.run in let inv = c.loop-many.invariant in
    let note : Note = get_or (bases_of run.bases m.0.upper) run.at no_note in
    let o = subst (λ (x : MyTree). IsOpenRun z x.0.upper run) inv.still c.go_right.ensures.opened in
    record {
      own = search rules;
      same = search rules;
      number = search rules;
      tally = search rules;
      kept = search rules;
      still = search rules;
      opened = o;
      left = subst (λ (x : MyTree). left_of x.0.upper run ≡ left_of x.0.upper c.loop-many.run)
          inv.still c.go_right.ensures.same ∙ inv.left;
      many_left = c.go_right.ensures.left ∙ inv.many_left;
      many = c.count-many-in-loop-many.ensures.count note
          (subst (λ (x : MyTree). IsReadable z x.0.upper run.base note)
          (sym (c.warm.ensures.frame.still ∙ (c.go_right.ensures.frame.still ∙ inv.still)))
          (readable_at z m.0.upper run.bases o.remembered run.at run.base o.here));
      few = c.count-many-in-loop-many.ensures.few;
    }
