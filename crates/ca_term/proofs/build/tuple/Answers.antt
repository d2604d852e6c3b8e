use Rattle.std.proofs.Common.{◌≡◌, length, arith, ap}
use Rattle.ca_term.specs.Tree.{row_of, row_depth, size}
use Rattle.ca_term.proofs.Rows.{narrow_row, size_row}
use Rattle.ca_term.proofs.build.tuple.Goals as goal

pub invariant_of-result : goal.invariant_of-result
invariant_of-result c =
    let ts = c.items.inside.items.items in
    let n : size (row_of ts) ≡ length ts = size_row ts in
    let d : row_depth (row_of c.as_slice.result.now) ≡ row_depth (row_of ts) = ap (λ x. row_depth (row_of x)) c.as_slice.ensures.value in
    record {
      depth_is = omega arith;
      bounded = record { shallow = omega arith; narrow = (omega arith, narrow_row ts c.items.invariant) };
    }
