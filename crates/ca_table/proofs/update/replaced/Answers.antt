use Rattle.std.proofs.Common.{ℕ, ℤ, List, sym, subst}
use Rattle.std.specs.Int.{w64}
use Rattle.std.proofs.lemmas.Int.{to_z-of_z}
use Rattle.ca_term.specs.Tree.{Tree, Row, Tuple}
use Rattle.ca_order.specs.Patches.{IsTupleCode, IsElementCode, IsPatched}
use Rattle.ca_table.specs.Renewed.{by_element}
use Rattle.ca_table.proofs.Written.{element_update}
use Rattle.ca_table.proofs.update.replaced.Goals as goal

written : (c : goal.After-is_written-arg-1) (row : Row) (v : Tree) → IsTupleCode row c.args.object.now → IsElementCode v c.args.value.now.items
    → IsPatched (by_element c.args.pos v (Tuple row)) c.set-answer.result c.set-answer.new.into.items
written c row v h e =
    subst (λ (x : ℤ). IsPatched (by_element x v (Tuple row)) c.set-answer.result c.set-answer.new.into.items) (to_z-of_z w64 c.args.pos c.ranges.pos)
    (c.set-answer.ensures.object row v h (subst (λ (x : List ℕ). IsElementCode v x) (sym c.as_slice.ensures.value) e))

pub is_written-requires : goal.is_written-requires
is_written-requires c =
    let row = c.requires.object.0 in
    let v = c.requires.value.0 in
    let h = c.requires.object.1 in
    let e = c.requires.value.1 in (
      Tuple row,
      by_element c.args.pos v (Tuple row),
      element_update c.args.keypos row c.args.pos v _ _ _ _ c.requires.pos h e (written c row v h.is_code e),
    )

pub returns : goal.returns
returns c = λ row v h e.
    c.is_written.ensures (Tuple row) (by_element c.args.pos v (Tuple row))
    (element_update c.args.keypos row c.args.pos v _ _ _ _ c.requires.pos h e (
    subst (λ (x : ℤ). IsPatched (by_element x v (Tuple row)) c.set-answer.result c.set-answer.new.into.items) (to_z-of_z w64 c.args.pos c.ranges.pos)
    (c.set-answer.ensures.object row v h.is_code (subst (λ (x : List ℕ). IsElementCode v x) (sym c.as_slice.ensures.value) e))))
