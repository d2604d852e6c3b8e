use Rattle.std.proofs.Common.{◌≡◌, ℕ, ◌<◌, ◌-◌, length, pos, nat_abs, arith, refl, sym, ◌∙◌, ap, subst, Option}
use Rattle.std.specs.Int.{w64, FitsUnsignedBits}
use Rattle.std.proofs.lemmas.Int.{to_z-of_z}
use Rattle.ca_term.specs.Tree.{Row, Tuple, elements, size}
use Rattle.ca_term.specs.Updates.{BadArgument, TooLarge}
use Rattle.ca_term.proofs.Rows.{length_elements, row_again}
use Rattle.ca_order.specs.KeyParts.{IsKeyParts, IsKeyPlace}
use Rattle.ca_order.proofs.Around.{position_there}
use Rattle.ca_order.proofs.Items.{few_items, has_items}
use Rattle.ca_order.proofs.Replaced.{natural, past, there, too_large}
use Rattle.ca_table.proofs.LongElements.{no_place, no_room}
use Rattle.ca_table.proofs.update.fault_of_long_element.Goals as goal

pub returns-in_default : goal.returns-in_default
returns-in_default c = λ row v h long. (
  BadArgument,
  no_place row v c.args.pos
      (too_large c.args.pos (length (elements row)) (subst (λ x. FitsUnsignedBits 32 x → ⊥) (to_z-of_z w64 c.args.pos c.ranges.pos) c.in_default.ensures)
      (few_items (elements row) c.args.object.now.items (has_items row c.args.object.now.items h))),
  refl,
)

pub returns-in-Some : goal.returns-in-Some
returns-in-Some c = λ row v h long.
    let p = c.args.pos in
    let code = c.args.object.now.items in
    let position : p ≡ pos c.in-Ok.position =
    natural p c.requires.pos ∙ ap (λ x. pos (nat_abs x)) (sym (to_z-of_z w64 p c.ranges.pos)) ∙ ap pos (sym c.in-Ok.ensures.1) in
    let parts = c.object_parts.ensures (Tuple row) h.bounded (c.as_slice.ensures.value ∙ h.code_is) in
    let k : IsKeyPlace row c.in-Ok.position c.in-Some.field-0.0 c.in-Some.field-0.1 =
    subst (λ (r : Option (ℕ × ℕ)). IsKeyParts (Tuple row) c.in-Ok.position r) c.in-Some.is parts in
    let t = position_there (elements row) c.in-Ok.position c.in-Some.field-0.0 c.in-Some.field-0.1 code (has_items row code h)
    (subst (λ (r : Row). IsKeyPlace r c.in-Ok.position c.in-Some.field-0.0 c.in-Some.field-0.1) (sym (row_again row)) k) in (
      TooLarge,
      no_room row v p (c.in-Ok.position - 1) (there (length (elements row)) c.in-Ok.position p position t.0 t.1) (omega (arith, t.0, t.1)) long,
      refl,
    )

pub returns-in-None : goal.returns-in-None
returns-in-None c = λ row v h long.
    let p = c.args.pos in
    let position : p ≡ pos c.in-Ok.position =
    natural p c.requires.pos ∙ ap (λ x. pos (nat_abs x)) (sym (to_z-of_z w64 p c.ranges.pos)) ∙ ap pos (sym c.in-Ok.ensures.1) in
    let few : size row < c.in-Ok.position =
    subst (λ (r : Option (ℕ × ℕ)). IsKeyParts (Tuple row) c.in-Ok.position r) c.in-None.is
    (c.object_parts.ensures (Tuple row) h.bounded (c.as_slice.ensures.value ∙ h.code_is)) in
    (BadArgument, no_place row v p (past (length (elements row)) c.in-Ok.position p position (omega (arith, few, length_elements row))), refl)
