use Rattle.std.proofs.Common.{◌≡◌, ◌∙◌, ap, List, ℕ, set}
use mathlib.Core.Option.{some}
use Rattle.ca_rows.specs.declared.view.Claim.TheVariants.{Holds}
use Rattle.ca_rows.specs.Claims.{claim_of, claimed}
use Rattle.ca_node.specs.TreeView.{TreeView}
use Rattle.ca_rows.specs.Told.{Mine, with_claims, with_most}
use Rattle.ca_rows.proofs.Claiming.{claimed_here}
use Rattle.ca_tree_tests.proofs.rows.write_and_read.Goals as goal

-- The row was taken and a word of it written: it is held.
held_still : (m m1 m2 : Mine TreeView) (row k value : ℕ) (its : List ℕ) → m1 ≡ with_most (with_claims m (claimed row (Holds its) m.0.claims))
    → ((ws : List ℕ) → claim_of m1.0.claims row ≡ some (Holds ws) → m2 ≡ (record m1.0 { claims = claimed row (Holds (set ws k value)) m1.0.claims }, m1.1))
    → (ws : List ℕ) × (claim_of m2.0.claims row ≡ some (Holds ws))
held_still m m1 m2 row k value its took wrote = let had : claim_of m1.0.claims row ≡ some (Holds its) =
    ap (λ (x : Mine TreeView). claim_of x.0.claims row) took ∙ claimed_here m.0.claims row (Holds its) in
    (set its k value, ap (λ (x : Mine TreeView). claim_of x.0.claims row) (wrote its had) ∙ claimed_here m1.0.claims row (Holds (set its k value)))

pub read_word-requires-clause-held : goal.read_word-requires-clause-held
read_word-requires-clause-held c = let took = c.in-Row.ensures.row.3 in
    held_still c.args.pass.now.seat.me c.take_row.new.pass.seat.me c.write_word.new.pass.seat.me c.in-Row.row 5 c.args.value took.0 took.2
    c.write_word.ensures.written

pub read_word-requires-2-clause-held : goal.read_word-requires-2-clause-held
read_word-requires-2-clause-held c = let took = c.in-Row.ensures.row.3 in
    let held = held_still c.args.pass.now.seat.me c.take_row.new.pass.seat.me c.write_word.new.pass.seat.me c.in-Row.row 5 c.args.value took.0 took.2
    c.write_word.ensures.written in
    (held.0, ap (λ (x : Mine TreeView). claim_of x.0.claims c.in-Row.row) c.read_word.ensures.frame.still ∙ held.1)

pub read_word-requires-3-clause-held : goal.read_word-requires-3-clause-held
read_word-requires-3-clause-held c = let took = c.in-Row.ensures.row.3 in
    let held = held_still c.args.pass.now.seat.me c.take_row.new.pass.seat.me c.write_word.new.pass.seat.me c.in-Row.row 5 c.args.value took.0 took.2
    c.write_word.ensures.written in
    let same = c.read_word-2.ensures.frame.still ∙ c.read_word.ensures.frame.still in
    (held.0, ap (λ (x : Mine TreeView). claim_of x.0.claims c.in-Row.row) same ∙ held.1)
