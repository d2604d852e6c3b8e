use Rattle.std.proofs.Common.{◌≡◌, ◌∙◌, ap, List, ℕ, set, length-set}
use mathlib.Core.Option.{some}
use Rattle.ca_rows.specs.declared.view.Claim.TheVariants.{Holds}
use Rattle.ca_rows.specs.Claims.{claim_of}
use Rattle.ca_node.specs.TreeView.{TreeView}
use Rattle.ca_rows.specs.Told.{Mine}
use Rattle.ca_rows.proofs.Claiming.{claimed_here}
use Rattle.ca_tree_tests.proofs.rows.take_and_put.Goals as goal

pub put_row-requires-clause-held : goal.put_row-requires-clause-held
put_row-requires-clause-held c =
    let took = c.in-Row.ensures.row.3 in
    let its : List ℕ = took.0 in
    let row : ℕ = c.in-Row.row in
    let had : claim_of c.take_row.new.pass.seat.me.0.claims row ≡ some (Holds its) =
    ap (λ (m : Mine TreeView). claim_of m.0.claims row) took.2 ∙ claimed_here c.args.pass.now.seat.me.0.claims row (Holds its) in
    let wrote = c.write_word.ensures.written its had in (
      set its 5 c.args.value,
      length-set its 5 c.args.value ∙ took.1,
      ap (λ (m : Mine TreeView). claim_of m.0.claims row) wrote ∙ claimed_here c.take_row.new.pass.seat.me.0.claims row (Holds (set its 5 c.args.value)),
    )
