use Rattle.std.proofs.Common.{◌<◌, ℕ, List, length, sym, subst}
use Rattle.std.specs.Coded.{le_prop}
use mathlib.Core.Logic.{∥∥₁_elim}
use Rattle.ca_cmd.specs.Kept.{HoldsAt, IsInText, IsFrom}
use Rattle.ca_cmd.proofs.kept.Source.command.Goals as goal

pub command_in-requires : goal.command_in-requires
command_in-requires c =
    let place = c.args.place in
    subst (λ (bytes : List ℕ). place.start < length bytes) (sym c.as_slice.ensures.value)
    (∥∥₁_elim c.requires le_prop (λ kept.
    let here : IsInText c.in-Text.file.items place kept.0 = subst (λ source. IsFrom source place kept.0) c.in-Text.is kept.1 in here.1))

pub returns-in-Text : goal.returns-in-Text
returns-in-Text c line kept =
    let place = c.args.place in
    let here : IsInText c.in-Text.file.items place line = subst (λ source. IsFrom source place line) c.in-Text.is kept in
    c.command_in.ensures line.cmd (subst (λ (bytes : List ℕ). HoldsAt bytes place.start line.cmd) (sym c.as_slice.ensures.value) here.2)
