use Rattle.std.proofs.Common.{◌≡◌, ℕ, subst, arith}
use Rattle.std.proofs.lemmas.Bool.Decides.{nat_tests}
use Rattle.ca_cmd.specs.Parts.{IsPart, IsFaultFrom}
use Rattle.ca_cmd.proofs.Parts.{parts_join, fault_behind}
use Rattle.ca_cmd.proofs.at_once.add_piece.Goals as goal

pub returns-in_ok-add-in-Ok-clause-added : goal.returns-in_ok-add-in-Ok-clause-added
returns-in_ok-add-in-Ok-clause-added c = λ file p r.
    let whole = c.args.whole.now in
    let cut = c.args.piece.now.cut in
    let from : cut.from ≡ whole.end = grind (arith, nat_tests) in
    let before : cut.before ≡ whole.lines = grind (arith, nat_tests) in
    let read = rw c.in-Ok.is at r in
    parts_join file whole c.in-Ok.part c.add.new.self p
    (subst (λ (n : ℕ). IsPart file whole.end n c.in-Ok.part) before (subst (λ (n : ℕ). IsPart file n cut.before c.in-Ok.part) from read))
    c.in_ok-add-in-Ok.ensures

pub returns-in-Err-clause-refused : goal.returns-in-Err-clause-refused
returns-in-Err-clause-refused c = λ file p r.
    let whole = c.args.whole.now in
    let cut = c.args.piece.now.cut in
    let from : cut.from ≡ whole.end = grind (arith, nat_tests) in
    let before : cut.before ≡ whole.lines = grind (arith, nat_tests) in
    let fault = rw c.in-Err.is at r in
    fault_behind file whole c.in-Err.fault p
    (subst (λ (n : ℕ). IsFaultFrom file whole.end n c.in-Err.fault) before (subst (λ (n : ℕ). IsFaultFrom file n cut.before c.in-Err.fault) from fault))
