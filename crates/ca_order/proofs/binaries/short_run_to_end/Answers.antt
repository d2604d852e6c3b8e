use Rattle.ca_term.specs.Tree.{AreBytes}
use Rattle.ca_order.proofs.BinaryParts.{run_begins}
use Rattle.ca_order.proofs.binaries.short_run_to_end.Goals as goal

pub returns-in-End : goal.returns-in-End
returns-in-End c =
    let all : AreBytes c.args.bytes.now = λ k. (c.type_inv.bytes k).fits in (
      c.in_ok-run.ensures.0,
      run_begins c.args.bytes.now c.in_ok-run.run'.now c.in_ok-run.behind.now c.in-End.rest.now all
          c.in_ok-run.ensures.0 c.in_ok-run.ensures.1
          c.in-End.ensures,
    )
