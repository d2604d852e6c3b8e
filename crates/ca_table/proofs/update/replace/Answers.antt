use Rattle.std.proofs.Common.{◌≡◌, ℤ, sym, subst, to_z, of_z}
use Rattle.std.specs.Prelude.{FitsSigned, IsTrue}
use Rattle.std.specs.Int.{w64}
use Rattle.std.proofs.lemmas.Int.{to_z-of_z}
use Rattle.ca_term.specs.Tree.{Tuple}
use Rattle.ca_term.specs.Updates.{is_open}
use Rattle.ca_table.specs.Renewed.{Renews, by_element}
use Rattle.ca_table.proofs.Changing.{keeps_key, updated_done}
use Rattle.ca_table.proofs.update.replace.Goals as goal

pub change-requires-clause-function : goal.change-requires-clause-function
change-requires-clause-function g c =
    let p = c.args.keypos in
    let v = c.requires.value.0 in
    let e = c.requires.value.1 in
    let cast : to_z w64 (of_z w64 c.args.pos) ≡ c.args.pos = to_z-of_z w64 c.args.pos c.ranges.pos in
    keeps_key _ _ p c.requires.positive (by_element c.args.pos v)
    (λ shown into start row h.
    ((row, h), ((v, e), (subst (λ (x : ℤ). IsTrue (is_open p x)) (sym cast) c.requires.pos, subst (λ (x : ℤ). FitsSigned w64 x) (sym cast) c.ranges.pos))))
    (λ shown into start answer left number met row h.
    subst (λ (x : ℤ). Renews p (Tuple row) (by_element x v (Tuple row)) answer left.now.items number.now) cast (met row v h e)) c.as_slice.result.now _
    c.requires.keypos

pub returns-clause-updated : goal.returns-clause-updated
returns-clause-updated g c = λ v e.
    let p = c.args.keypos in
    let cast : to_z w64 (of_z w64 c.args.pos) ≡ c.args.pos = to_z-of_z w64 c.args.pos c.ranges.pos in
    updated_done _ _ p c.requires.positive (by_element c.args.pos v)
    (λ shown into start row h.
    ((row, h), ((v, e), (subst (λ (x : ℤ). IsTrue (is_open p x)) (sym cast) c.requires.pos, subst (λ (x : ℤ). FitsSigned w64 x) (sym cast) c.ranges.pos))))
    (λ shown into start answer left number met row h.
    subst (λ (x : ℤ). Renews p (Tuple row) (by_element x v (Tuple row)) answer left.now.items number.now) cast (met row v h e)) _ _ c.as_slice.result.now
    _ _ c.change.result c.requires.keypos c.as_slice.ensures.value c.change.ensures.changed
