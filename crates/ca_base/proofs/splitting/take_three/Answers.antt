use Rattle.std.proofs.Common.{ℕ, [], ◌∷◌, ap, subst, arith}
use Rattle.ca_node.specs.Layout.{base_form, object_form}
use Rattle.ca_rows.specs.declared.view.Pin.{Pin}
use Rattle.ca_base.specs.Counting.{TakesKept}
use Rattle.ca_base.proofs.Rest.{two_apart}
use Rattle.ca_base.proofs.Counts.{asked_more, back_after, takes_both}
use Rattle.ca_base.proofs.Crowds.{crowded_then}
use Rattle.std.proofs.lemmas.Result.{err_from_is_err_and}
use Rattle.ca_base.proofs.splitting.take_three.Goals as goal

pub returns-in-Ok-clause-taken : goal.returns-in-Ok-clause-taken
returns-in-Ok-clause-taken c = let two = c.in_ok-first.ensures.taken in
    let three =
    c.in-Ok.ensures.taken (c.in_ok-first.first ∷ c.in_ok-first.second ∷ []) (omega arith) two.1 in
    ((three.0, two_apart c.in_ok-first.first c.in_ok-first.second two.0), three.1)

pub give_back_all-requires-clause-held : goal.give_back_all-requires-clause-held
give_back_all-requires-clause-held c = let two = c.in_ok-first.ensures.taken in
    c.in-Err.ensures.taken (c.in_ok-first.first ∷ c.in_ok-first.second ∷ []) (omega arith) two.1

pub give_back_all-requires-clause-apart : goal.give_back_all-requires-clause-apart
give_back_all-requires-clause-apart c =
    two_apart c.in_ok-first.first c.in_ok-first.second c.in_ok-first.ensures.taken.0

pub returns-in_err-first-clause-back : goal.returns-in_err-first-clause-back
returns-in_err-first-clause-back c =
    let p = err_from_is_err_and c.from_residual.result c.from_residual.ensures.1 in
    rw (p.1, p.2) (asked_more c.in_err-first.field-0.0 (base_form ∷ base_form ∷ []) (object_form ∷ [])
    c.args.pass.now.seat.me c.take_two.new.pass.seat.me c.args.pass.now.kept c.take_two.new.pass.kept
    c.in_err-first.ensures.back)

pub returns-in-Err-clause-back : goal.returns-in-Err-clause-back
returns-in-Err-clause-back c = let one = c.in_ok-first.ensures in let two = c.in-Err.ensures in
    back_after c.in-Err.why (base_form ∷ base_form ∷ []) (object_form ∷ []) c.args.pass.now.seat.me c.take_two.new.pass.seat.me
    c.take.new.pass.seat.me c.give_back_all.new.pass.seat.me
    c.args.pass.now.kept c.take_two.new.pass.kept c.take.new.pass.kept c.give_back_all.new.pass.kept
    one.found.1 c.take_two.ensures.frame.same.3 one.back two.found two.counted.more two.back
    c.give_back_all.ensures.counted.more c.give_back_all.ensures.back

pub returns-in-Ok-clause-back : goal.returns-in-Ok-clause-back
returns-in-Ok-clause-back c = let one = c.in_ok-first.ensures.back in
    let two = c.in-Ok.ensures.back in let told = ap (λ (e : Pin). e.told) c.take_two.ensures.frame.same.3 in
    takes_both c.args.pass.now.seat.me.0.pin.told (base_form ∷ base_form ∷ []) (object_form ∷ [])
    c.args.pass.now.kept.rows.items c.take_two.new.pass.kept.rows.items c.take.new.pass.kept.rows.items one
    (subst (λ (t : ℕ). TakesKept t (object_form ∷ []) c.take_two.new.pass.kept.rows.items c.take.new.pass.kept.rows.items) told two)

pub returns-in_err-first-clause-crowded : goal.returns-in_err-first-clause-crowded
returns-in_err-first-clause-crowded c =
    let p = err_from_is_err_and c.from_residual.result c.from_residual.ensures.1 in
    rw (p.1, p.2) c.in_err-first.ensures.crowded

pub returns-in-Err-clause-crowded : goal.returns-in-Err-clause-crowded
returns-in-Err-clause-crowded c = let two = c.in_ok-first.ensures.taken in
    let same = c.take_two.ensures.frame.same in
    crowded_then c.in-Err.why c.args.pass.now.seat.me c.take_two.new.pass.seat.me c.take.new.pass.seat.me
    c.give_back_all.new.pass.seat.me same.2 same.4
    (c.in-Err.ensures.crowded (c.in_ok-first.first ∷ c.in_ok-first.second ∷ []) (omega arith) two.1)
    c.give_back_all.ensures.crowded
