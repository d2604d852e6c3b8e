use Rattle.std.proofs.Common.{◌≡◌, ◌<◌, ◌+◌, List, ℕ, [], length, arith, sym, subst}
use Rattle.std.specs.Prelude.{Result}
use Rattle.ca_term.specs.declared.bounds.TheConstants.{MOST_CODE_BYTES}
use Rattle.ca_term.specs.Tree.{Tuple, row_of}
use Rattle.ca_term.specs.Code.{code_of}
use Rattle.ca_term.specs.Updates.{object_of}
use Rattle.ca_order.specs.declared.patched.Patched.TheVariants as answer
use Rattle.ca_order.specs.declared.room.TooLong.{TooLong}
use Rattle.ca_order.specs.Patches.{IsPatched}
use Rattle.ca_order.specs.Puts.{Puts}
use Rattle.ca_order.proofs.Finished.{fits, fits_not}
use Rattle.ca_order.proofs.patched.finish.Goals as goal

pub returns-in-Ok : goal.returns-in-Ok
returns-in-Ok c = λ items p.
    let into = c.args.into.now.items in
    let e : into ≡ code_of (Tuple (row_of items)) =
    subst (λ (r : Result (Unit {0}) TooLong). Puts r [] (code_of (Tuple (row_of items))) into) c.in-Ok.is p in
    fits items into e (omega (arith, c.len-length.ensures.value, c.len-length.ensures.fits))

pub returns-in-Err : goal.returns-in-Err
returns-in-Err c = λ items p.
    let into = c.args.into.now.items in
    let e : MOST_CODE_BYTES < 0 + length (code_of (Tuple (row_of items))) =
    subst (λ (r : Result (Unit {0}) TooLong). Puts r [] (code_of (Tuple (row_of items))) into) c.in-Err.is p in
    subst (λ (x : List ℕ). IsPatched (object_of items) answer.TooLong x) (sym c.clear.ensures) (fits_not items (omega (arith, e)))
