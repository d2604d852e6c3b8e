use Rattle.std.proofs.Common.{◌≡◌, arith, inl, None, Some}
use Rattle.std.proofs.lemmas.Grind.{common_steps}
use Rattle.ca_outside.specs.Drawer.{next_bytes}
use Rattle.ca_outside.proofs.drawer.DrawerShelf.fetch.Goals as goal

pub returns-in_default-clause-over : goal.returns-in_default-clause-over
returns-in_default-clause-over c =
    let nothing : next_bytes c.args.self.now c.args.name.now ≡ None = grind (arith, common_steps) in
    λ n. (λ e. cc, λ over. absurd (rw nothing at over))

pub returns-in_default-clause-after : goal.returns-in_default-clause-after
returns-in_default-clause-after c = inl (grind (arith, common_steps))

pub returns-clause-fails : goal.returns-clause-fails
returns-clause-fails c =
    let some : next_bytes c.args.self.now c.args.name.now ≡ Some c.in-Some.bytes.now = grind (arith, common_steps) in
    λ n. (λ e. absurd (c.fill-result.ensures.sure e), λ h. cc)

pub returns-clause-after : goal.returns-clause-after
returns-clause-after c = inl (grind (arith, common_steps))
