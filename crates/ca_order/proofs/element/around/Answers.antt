use Rattle.std.proofs.Common.{◌≡◌, ℕ, ◌<◌, ◌-◌, List, length, take, pos, nat_abs, arith, sym, ◌∙◌, ap, subst}
use Rattle.std.specs.Int.{w64, FitsUnsignedBits}
use Rattle.std.proofs.lemmas.Int.{to_z-of_z}
use Rattle.ca_term.specs.Tree.{Tuple, row_of}
use Rattle.ca_term.proofs.Rows.{size_row}
use Rattle.ca_order.specs.Patches.{IsAround}
use Rattle.ca_order.proofs.Around.{start_fits, end_fits, around, position_there}
use Rattle.ca_order.proofs.Items.{few_items}
use Rattle.ca_order.proofs.Replaced.{past, there, too_large, natural}
use Rattle.ca_order.proofs.element.around.Goals as goal

pub returns-in_default : goal.returns-in_default
returns-in_default c = λ items h.
    too_large c.args.pos (length items) (subst (λ x. FitsUnsignedBits 32 x → ⊥) (to_z-of_z w64 c.args.pos c.ranges.pos) c.in_default.ensures)
    (few_items items c.args.code.now h)

pub returns-in_err-start : goal.returns-in_err-start
returns-in_err-start c = λ items h.
    let p = c.args.pos in
    let position : p ≡ pos c.in-Ok.position =
    natural p c.requires.pos ∙ ap (λ x. pos (nat_abs x)) (sym (to_z-of_z w64 p c.ranges.pos)) ∙ ap pos (sym c.in-Ok.ensures.1) in
    let few : length items < c.in-Ok.position = omega (arith, c.in_err-start.ensures (Tuple (row_of items)) h.bounded h.code_is, size_row items) in
    rw c.from_residual.ensures (past (length items) c.in-Ok.position p position few)

pub split_at-requires : goal.split_at-requires
split_at-requires c =
    let items = c.requires.code.0 in
    let h = c.requires.code.1 in
    start_fits items c.in-Ok.position c.in_ok-start.start c.in_ok-start.end c.args.code.now h (c.in_ok-start.ensures (Tuple (row_of items)) h.bounded h.code_is)

pub split_at-requires-2 : goal.split_at-requires-2
split_at-requires-2 c =
    let items = c.requires.code.0 in
    let h = c.requires.code.1 in
    end_fits items c.in-Ok.position c.in_ok-start.start c.in_ok-start.end c.args.code.now h (c.in_ok-start.ensures (Tuple (row_of items)) h.bounded h.code_is)

pub returns : goal.returns
returns c = λ items h.
    let p = c.args.pos in
    let code = c.args.code.now in
    let start = c.in_ok-start.start in
    let end = c.in_ok-start.end in
    let position : p ≡ pos c.in-Ok.position =
    natural p c.requires.pos ∙ ap (λ x. pos (nat_abs x)) (sym (to_z-of_z w64 p c.ranges.pos)) ∙ ap pos (sym c.in-Ok.ensures.1) in
    let k = c.in_ok-start.ensures (Tuple (row_of items)) h.bounded h.code_is in
    let t = position_there items c.in-Ok.position start end code h k in
    let a = around items c.in-Ok.position start end code h k in
    record {
      at = c.in-Ok.position - 1;
      place_is = there (length items) c.in-Ok.position p position t.0 t.1;
      around = subst (λ (x : List ℕ). IsAround items (c.in-Ok.position - 1) x c.split_at-2.result.1.now) (sym c.split_at.ensures.front)
          (subst (λ (x : List ℕ). IsAround items (c.in-Ok.position - 1) (take start code) x) (sym c.split_at-2.ensures.back) a);
    }
