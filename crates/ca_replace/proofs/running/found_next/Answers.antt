use Rattle.std.proofs.Common.{◌+◌, ◌-◌, ℕ, List, ◌∷◌, get_or, refl, sym, subst, ap, ◌∙◌, arith}
use Rattle.ca_base.specs.Finding.{IsReadable}
use Rattle.ca_node.specs.Told.{MyTree}
use Rattle.ca_node.specs.TreeView.{Note, no_note}
use Rattle.ca_range.specs.Snapshots.{bases_of}
use Rattle.ca_replace.specs.declared.opened.OpenRun.{OpenRun}
use Rattle.ca_replace.specs.Running.{left_of}
use Rattle.ca_replace.proofs.OpenRuns.{next_read}
use Rattle.ca_replace.proofs.RunLines.{readable_at}
use Rattle.ca_replace.proofs.running.found_next.Goals as goal

pub copy_at-requires-clause-readable : goal.copy_at-requires-clause-readable
copy_at-requires-clause-readable c = let z = c.args.space.now.table.shared.key in
    let m = c.args.pass.now.seat.me in let run = c.settle.new.run in
    let o = c.settle.ensures.opened in let note : Note = get_or (bases_of run.bases m.0.upper)
    run.at no_note in (
      note,
      subst (λ (x : MyTree). IsReadable z x.0.upper run.base note)
          (sym c.settle.ensures.frame.still)
          (readable_at z m.0.upper run.bases o.remembered run.at run.base o.here),
      c.settle.ensures.there.0,
    )

pub overflow_add-run : goal.overflow_add-run
overflow_add-run c = omega (arith, c.settle.ensures.there.1)

pub returns-clause-found : goal.returns-clause-found
returns-clause-found c is = let z = c.args.space.now.table.shared.key in
    let m = c.args.pass.now.seat.me in let run = c.settle.new.run in
    let o = c.settle.ensures.opened in let note : Note = get_or (bases_of run.bases m.0.upper)
    run.at no_note in
    let r = subst (λ (x : MyTree). IsReadable z x.0.upper run.base note)
    (sym c.settle.ensures.frame.still)
    (readable_at z m.0.upper run.bases o.remembered run.at run.base o.here) in
    let copied = c.copy_at.ensures.object note r c.settle.ensures.there.0 in
    let new : OpenRun = record run { next = run.next + 1; left = run.left - 1 } in
    sym c.settle.ensures.same ∙ (next_read z m.0.upper run new o c.settle.ensures.there refl refl
    refl refl (omega (arith, c.if-run-eq0.false, c.settle.ensures.left)) refl
    ∙ ap (λ (x : List ℕ). x ∷ left_of m.0.upper new) (sym copied))
