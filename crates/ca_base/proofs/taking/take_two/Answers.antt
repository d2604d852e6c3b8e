use Rattle.std.proofs.Common.{ℕ, [], ◌∷◌, Ok, ap, refl, sym, ◌∙◌, subst, arith}
use Rattle.ca_rows.specs.Calls.{IsNumbered}
use Rattle.ca_rows.proofs.Heads.{is_only}
use Rattle.ca_base.specs.Taking.{TakesOldest}
use Rattle.ca_rows.specs.declared.view.Pin.{Pin}
use Rattle.ca_base.specs.Counting.{TakesKept}
use mathlib.Core.Option.{some}
use Rattle.std.proofs.lemmas.Result.{err_from_is_err_and}
use Rattle.ca_node.specs.Laws.{in_nothing}
use Rattle.ca_base.proofs.Counts.{asked_more, back_after, takes_both}
use Rattle.ca_base.proofs.Crowds.{crowded_then}
use Rattle.ca_base.proofs.Held.{either_first}
use Rattle.ca_base.proofs.taking.take_two.Goals as goal

pub returns-in_err-first-clause-taken : goal.returns-in_err-first-clause-taken
returns-in_err-first-clause-taken c =
    let p = err_from_is_err_and c.from_residual.result c.from_residual.ensures.1 in
    rw p.1 (c.in_err-first.ensures.taken [] (omega arith) c.requires.none)

pub give_back-requires-clause-held : goal.give_back-requires-clause-held
give_back-requires-clause-held c =
    let one = c.in_ok-first.ensures.taken [] (omega arith) c.requires.none in (
      [],
      in_nothing c.in_ok-first.first [] refl,
      c.in-Err.ensures.taken (c.in_ok-first.first ∷ []) (omega arith) one.1,
    )

pub returns-in-Ok-clause-taken : goal.returns-in-Ok-clause-taken
returns-in-Ok-clause-taken c =
    let one = c.in_ok-first.ensures.taken [] (omega arith) c.requires.none in
    let two = c.in-Ok.ensures.taken (c.in_ok-first.first ∷ []) (omega arith) one.1 in
    ((λ e. two.0 (0, ap some e)), either_first _ _ _ _ _ two.1)

pub returns-in-Err-clause-taken : goal.returns-in-Err-clause-taken
returns-in-Err-clause-taken c =
    let one = c.in_ok-first.ensures.taken [] (omega arith) c.requires.none in
    c.give_back.ensures.given [] (in_nothing c.in_ok-first.first [] refl)
    (c.in-Err.ensures.taken (c.in_ok-first.first ∷ []) (omega arith) one.1)

pub returns-in_err-first-clause-back : goal.returns-in_err-first-clause-back
returns-in_err-first-clause-back c =
    let p = err_from_is_err_and c.from_residual.result c.from_residual.ensures.1 in
    rw (p.1, p.2) (asked_more c.in_err-first.field-0.0 (c.args.likes.0 ∷ []) (c.args.likes.1 ∷ [])
    c.args.pass.now.seat.me c.take.new.pass.seat.me c.args.pass.now.kept c.take.new.pass.kept
    c.in_err-first.ensures.back)

pub returns-in-Err-clause-back : goal.returns-in-Err-clause-back
returns-in-Err-clause-back c = let one = c.in_ok-first.ensures in let two = c.in-Err.ensures in
    back_after c.in-Err.why (c.args.likes.0 ∷ []) (c.args.likes.1 ∷ []) c.args.pass.now.seat.me c.take.new.pass.seat.me
    c.take-2.new.pass.seat.me c.give_back.new.pass.seat.me
    c.args.pass.now.kept c.take.new.pass.kept c.take-2.new.pass.kept c.give_back.new.pass.kept
    one.found.1 c.take.ensures.frame.same.3 one.back two.found two.counted.more two.back
    c.give_back.ensures.counted.more c.give_back.ensures.back

pub returns-in-Ok-clause-back : goal.returns-in-Ok-clause-back
returns-in-Ok-clause-back c = let one = c.in_ok-first.ensures.back in
    let two = c.in-Ok.ensures.back in let told = ap (λ (e : Pin). e.told) c.take.ensures.frame.same.3 in
    takes_both c.args.pass.now.seat.me.0.pin.told (c.args.likes.0 ∷ []) (c.args.likes.1 ∷ [])
    c.args.pass.now.kept.rows.items c.take.new.pass.kept.rows.items c.take-2.new.pass.kept.rows.items one
    (subst (λ (t : ℕ). TakesKept t (c.args.likes.1 ∷ []) c.take.new.pass.kept.rows.items c.take-2.new.pass.kept.rows.items) told two)

pub returns-in-Ok-clause-oldest : goal.returns-in-Ok-clause-oldest
returns-in-Ok-clause-oldest c = let told = ap (λ (e : Pin). e.told) c.take.ensures.frame.same.3 in (
  c.take.new.pass.kept.rows.items,
  c.in_ok-first.ensures.oldest,
  subst (λ (t : ℕ). TakesOldest (Ok c.in-Ok.second) t c.args.likes.1 c.take.new.pass.kept.rows.items
      c.take-2.new.pass.kept.rows.items) told c.in-Ok.ensures.oldest,
)

pub take-requires-2 : goal.take-requires-2
take-requires-2 c = let f = c.take.ensures.frame in let may = c.requires.may in record {
  may = record {
    reading = record {
      own = (f.same.0 ∙ may.reading.own.0, f.same.2 ∙ may.reading.own.1);
      pinned = ap (λ (e : Pin). e.pinned) f.same.3 ∙ may.reading.pinned;
    };
    numbered = subst (λ (x : ℕ × Pin). IsNumbered x.0 x.1) (λ i. (sym f.number i, sym f.same.3 i)) may.numbered;
    list = (c.in_ok-first.ensures.taken [] (omega arith) c.requires.none).1.0.are_kept;
  };
}

pub returns-in_err-first-clause-only : goal.returns-in_err-first-clause-only
returns-in_err-first-clause-only c = c.in_err-first.ensures.only

pub returns-in-Ok-clause-only : goal.returns-in-Ok-clause-only
returns-in-Ok-clause-only c = λ only. c.in-Ok.ensures.only (is_only c.args.pass.now.seat.me c.take.new.pass.seat.me
    c.take.ensures.frame.same.2 only) ∙ c.in_ok-first.ensures.only only

pub returns-in-Err-clause-only : goal.returns-in-Err-clause-only
returns-in-Err-clause-only c = λ only. let m = c.args.pass.now.seat.me in
    let first = is_only m c.take.new.pass.seat.me c.take.ensures.frame.same.2 only in
    let second = is_only c.take.new.pass.seat.me c.take-2.new.pass.seat.me c.take-2.ensures.frame.same.2 first in
    c.give_back.ensures.only second ∙ (c.in-Err.ensures.only first ∙ c.in_ok-first.ensures.only only)

pub returns-in_err-first-clause-crowded : goal.returns-in_err-first-clause-crowded
returns-in_err-first-clause-crowded c =
    let p = err_from_is_err_and c.from_residual.result c.from_residual.ensures.1 in
    rw (p.1, p.2) (c.in_err-first.ensures.crowded [] (omega arith) c.requires.none)

pub returns-in-Err-clause-crowded : goal.returns-in-Err-clause-crowded
returns-in-Err-clause-crowded c =
    let one = c.in_ok-first.ensures.taken [] (omega arith) c.requires.none in
    let same = c.take.ensures.frame.same in
    crowded_then c.in-Err.why c.args.pass.now.seat.me c.take.new.pass.seat.me c.take-2.new.pass.seat.me
    c.give_back.new.pass.seat.me same.2 same.4
    (c.in-Err.ensures.crowded (c.in_ok-first.first ∷ []) (omega arith) one.1) c.give_back.ensures.crowded
