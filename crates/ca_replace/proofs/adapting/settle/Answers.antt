use Rattle.std.proofs.Common.{ℤ, Ok, Err, to_z, of_z, w32, refl, ap, ◌∙◌, subst, arith}
use Rattle.std.proofs.lemmas.Int.{ints, to_z-of_z}
use Rattle.ca_replace.specs.Adapting.{HasSettled, noted}
use Rattle.ca_replace.specs.declared.adapting.Course.{Course}
use Rattle.ca_replace.proofs.GoingOn.{settled_as}
use Rattle.ca_replace.proofs.adapting.settle.Goals.{in-Ok, in-Err}
use Rattle.ca_replace.proofs.adapting.settle.Goals as goal

pub returns-clause-settled : goal.returns-clause-settled
returns-clause-settled c = let z = c.args.tree.now.space.table.shared.key in
    let t = c.args.tree.now.tuning in let a = c.args.course.now.adapting in
    let m = c.args.pass.now.seat.me in
    elim c.match-tried.branch [
      | in-Ok w ↦
          subst (λ (k : ℤ).
          HasSettled z t k c.args.tried a c.match-tried.course.adapting m
          c.match-tried.pass.seat.me)
          (to_z-of_z w32 c.args.statistic (let small = c.ranges.statistic.sfits in
          omega (arith, ints)))
          (settled_as z t (to_z w32 (of_z w32 c.args.statistic)) c.args.tried (Ok tt) a
          c.match-tried.course.adapting
          (record a {
            last =
                record {
                  statistic =
                      to_z w32 (of_z w32 c.args.statistic);
                  adapted = w.adapt-adapted.result;
                };
          }) m
          c.match-tried.pass.seat.me w.adapt-adapted.new.pass.seat.me w.in-Ok.is
          (ap (λ (k : Course). k.adapting) w.course-is)
          (ap (λ p. p.seat.me) w.pass-is) (refl, w.adapt-adapted.ensures.adapted))
      | in-Err w ↦
          settled_as z t c.args.statistic c.args.tried (Err w.in-Err.why) a
          c.match-tried.course.adapting (noted w.in-Err.why a) m c.match-tried.pass.seat.me
          m w.in-Err.is (ap (λ (k : Course). k.adapting) w.course-is
          ∙ w.note_stop.ensures) (ap (λ p. p.seat.me) w.pass-is) (refl, refl)
    ]
