use Rattle.std.proofs.Common.{◌≡◌, ℕ, ◌<◌, ◌+◌, ◌-◌, ◌++◌, List, take, length, get_or, FitsSigned, arith, rules, ap, subst, ◌∙◌}
use Rattle.std.specs.Int.{w64}
use Rattle.std.proofs.lemmas.Int.{to_z-of_z}
use Rattle.ca_term.specs.Tree.{Tree, Nil}
use Rattle.ca_term.specs.Code.{int_code}
use Rattle.ca_term.specs.declared.bounds.TheConstants.{MOST_CODE_BYTES}
use Rattle.ca_order.specs.Patches.{HasItems}
use Rattle.ca_order.proofs.Items.{IsElementAt, head_there, behind_head, next_there, element_at}
use Rattle.ca_order.proofs.NewNumbers.{kept_none, kept_as, stretch_full, kept_same, kept_new, new_full, kept_all}
use Rattle.ca_order.proofs.counter.put_numbers.Goals.{in-Some+in_ok-put+in_ok-put_int, in_default}
use Rattle.ca_order.proofs.counter.put_numbers.Goals as goal

pub split_at-requires : goal.split_at-requires
split_at-requires c = head_there c.requires.0 c.args.code.now c.requires.1

pub loop-number-init : goal.loop-number-init
loop-number-init c = record {
  rest = λ items h l. c.split_at.ensures.back ∙ behind_head items c.args.code.now h;
  kept = λ items h l. kept_none items c.args.code.now h c.args.numbers.now c.split_at.result.1.now c.args.into.now.items c.split_at.ensures.back;
}

pub split_element-requires : goal.split_element-requires
split_element-requires c =
    let items = c.requires.0 in
    next_there items c.args.code.now c.requires.1 c.loop-number.number-index c.loop-number.rest.now (omega (arith, c.requires.2, c.loop-number-test.true))
    (c.loop-number.invariant.rest items c.requires.1 c.requires.2)

pub new_integer-requires : goal.new_integer-requires
new_integer-requires c =
    let items = c.requires.0 in
    let at = element_at items c.args.code.now c.requires.1 c.loop-number.number-index c.loop-number.rest.now c.split_element.result.0.now
    c.split_element.result.1.now (omega (arith, c.requires.2, c.loop-number-test.true)) (c.loop-number.invariant.rest items c.requires.1 c.requires.2)
    c.split_element.ensures in
    (get_or items c.loop-number.number-index Nil, at.narrow, at.code_is)

pub returns-in_err-put : goal.returns-in_err-put
returns-in_err-put c = λ items h l.
    let front = c.split_at-in-Some.ensures.front in
    let full : MOST_CODE_BYTES < length c.loop-number.into.items + length (take (length c.loop-number.kept.now - length c.loop-number.rest.now) c.loop-number.kept.now) =
    omega (arith, c.in_err-put.ensures, ap length front) in
    stretch_full items c.args.numbers.now c.loop-number.number-index c.loop-number.kept.now c.loop-number.rest.now c.loop-number.into.items c.args.into.now.items
    (c.loop-number.invariant.kept items h l) c.from_residual.result c.put.new.into.items c.from_residual.ensures.0 full

pub returns-in_err-put_int : goal.returns-in_err-put_int
returns-in_err-put_int c = λ items h l.
    let i : ℕ = c.loop-number.number-index in
    let kept = c.loop-number.kept.now in
    let rest = c.loop-number.rest.now in
    let v = c.in-Some.value in
    let f : FitsSigned w64 v = search rules in
    let at = element_at items c.args.code.now h i rest c.split_element.result.0.now c.split_element.result.1.now (omega (arith, l, c.loop-number-test.true))
    (c.loop-number.invariant.rest items h l) c.split_element.ensures in
    let full : MOST_CODE_BYTES < length c.put.new.into.items + length (int_code v) =
    subst (λ x. MOST_CODE_BYTES < length c.put.new.into.items + length (int_code x)) (to_z-of_z w64 v f) (c.in_err-put_int.ensures) in
    new_full items c.args.numbers.now i kept rest c.loop-number.into.items c.args.into.now.items (c.loop-number.invariant.kept items h l)
    c.split_element.result.0.now c.split_element.result.1.now l c.loop-number-test.true at v (c.in-Some.ensures (get_or items i Nil) at.narrow at.code_is)
    c.put.new.into.items (c.in_ok-put.ensures ∙ ap (λ x. c.loop-number.into.items ++ x) c.split_at-in-Some.ensures.front)
    c.from_residual-in_err-put_int.result c.put_int.new.into.items c.from_residual-in_err-put_int.ensures.0 full

pub loop-number-preserved : goal.loop-number-preserved
loop-number-preserved c =
    let i : ℕ = c.loop-number.number-index in
    let numbers = c.args.numbers.now in
    let kept = c.loop-number.kept.now in
    let rest = c.loop-number.rest.now in
    let old = c.args.into.now.items in
    let element = c.split_element.result.0.now in
    let behind = c.split_element.result.1.now in
    let at : (items : List Tree) → HasItems items c.args.code.now → length numbers ≡ length items → IsElementAt items i rest element behind = λ items h l.
    element_at items c.args.code.now h i rest element behind (omega (arith, l, c.loop-number-test.true)) (c.loop-number.invariant.rest items h l)
    c.split_element.ensures in
    elim c.match-new_integer.branch [
      | in-Some+in_ok-put+in_ok-put_int w ↦
          let v = w.in-Some.value in
          let f : FitsSigned w64 v = search rules in
          record {
            rest = λ items h l. ap (λ x. x.now) w.rest-is ∙ (at items h l).behind_is;
            kept = λ items h l.
                let e = at items h l in
                let new : w.put_int.new.into.items ≡ w.put.new.into.items ++ int_code v =
                w.in_ok-put_int.ensures ∙ ap (λ x. w.put.new.into.items ++ int_code x) (to_z-of_z w64 v f) in
                kept_as items numbers (i + 1) behind behind w.put_int.new.into.items old c.match-new_integer.kept.now c.match-new_integer.rest.now
                c.match-new_integer.into.items
                (kept_new items numbers i kept rest c.loop-number.into.items old (c.loop-number.invariant.kept items h l) element behind l
                c.loop-number-test.true e v (w.in-Some.ensures (get_or items i Nil) e.narrow e.code_is) w.put.new.into.items
                (w.in_ok-put.ensures ∙ ap (λ x. c.loop-number.into.items ++ x) w.split_at-in-Some.ensures.front) w.put_int.new.into.items new)
                (ap (λ x. x.now) w.kept-is) (ap (λ x. x.now) w.rest-is) (ap (λ x. x.items) w.into-is);
          }
      | in_default w ↦
          record {
            rest = λ items h l. ap (λ x. x.now) w.rest-is ∙ (at items h l).behind_is;
            kept = λ items h l.
                let e = at items h l in
                kept_as items numbers (i + 1) kept behind c.loop-number.into.items old c.match-new_integer.kept.now c.match-new_integer.rest.now
                c.match-new_integer.into.items
                (kept_same items numbers i kept rest c.loop-number.into.items old (c.loop-number.invariant.kept items h l) element behind l
                c.loop-number-test.true e (w.in_default.ensures (get_or items i Nil) e.narrow e.code_is))
                (ap (λ x. x.now) w.kept-is) (ap (λ x. x.now) w.rest-is) (ap (λ x. x.items) w.into-is);
          }
    ]

pub returns : goal.returns
returns c = λ items h l.
    kept_all items c.args.numbers.now c.loop-number.number-index c.loop-number.kept.now c.loop-number.rest.now c.loop-number.into.items c.args.into.now.items
    (c.loop-number.invariant.kept items h l) l c.loop-number-test.false (c.loop-number.invariant.rest items h l) c.put-2.result c.put-2.new.into.items
    c.put-2.ensures
