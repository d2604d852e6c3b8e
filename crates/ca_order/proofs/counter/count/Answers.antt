use Rattle.std.proofs.Common.{◌≡◌, ◌<◌, ℤ, List, Option, Some, None, Ok, length, set, get_or, FitsSigned, to_z, of_z, sym, ◌∙◌, ap, subst, rules}
use Rattle.std.proofs.lemmas.Int.{to_z-of_z}
use Rattle.std.proofs.lemmas.List.{length-set}
use Rattle.std.specs.Int.{w64, w128}
use Rattle.std.specs.List.{refill}
use Rattle.ca_term.specs.Updates.{count, counter_place, value_of}
use Rattle.ca_term.specs.Add.{addition_of}
use Rattle.ca_order.specs.Patches.{IsCount}
use Rattle.ca_order.proofs.Operations.{counted, in_range, refilled}
use Rattle.ca_order.proofs.counter.count.Goals as goal

pub returns : goal.returns
returns c = λ items e.
    let numbers = c.args.numbers.now.items in
    let at = c.in-Some.place in
    let v = c.in-Ok.value in
    let a = c.args.add.now in
    let fn : FitsSigned w64 c.in-Some-as_slice.number = search rules in
    let fs : FitsSigned w128 c.value.result = search rules in
    let out : FitsSigned w64 (to_z w128 (of_z w128 c.value.result)) × (v ≡ to_z w128 (of_z w128 c.value.result)) = c.in-Ok.ensures in
    let fv : FitsSigned w64 v = subst (FitsSigned w64) (sym out.1) out.0 in
    let p : Some at ≡ counter_place c.args.keypos (length numbers) a.pos =
    c.in-Some.ensures ∙ ap (λ n. counter_place c.args.keypos n a.pos) c.len.ensures.value in
    let g : get_or numbers at None ≡ Some c.in-Some-as_slice.number =
    ap (λ x. get_or x at None) (sym c.as_slice.ensures.value) ∙ c.in-Some-as_slice.is in
    let s : v ≡ value_of (addition_of a) c.in-Some-as_slice.number =
    out.1 ∙ to_z-of_z w128 c.value.result fs ∙ c.value.ensures ∙ ap (value_of (addition_of a)) (to_z-of_z w64 c.in-Some-as_slice.number fn) in
    let new : refill (length numbers) numbers (set c.as_mut_slice.result.now at (Some v)) ≡ set numbers at (Some v) =
    ap (λ x. refill (length numbers) numbers (set x at (Some v))) c.as_mut_slice.ensures.value
    ∙ refilled numbers (set numbers at (Some v)) (length-set numbers at (Some v)) in
    let l : at < length numbers = in_range c.args.keypos (length numbers) a.pos at p in
    let done = counted c.args.keypos items numbers (addition_of a) at c.in-Some-as_slice.number v e p l g s fv in
    subst (λ (x : ℤ). IsCount (count c.args.keypos items (addition_of a)) (Ok x) (refill (length numbers) numbers (set c.as_mut_slice.result.now at (Some x))))
    (sym (to_z-of_z w64 v fv))
    (subst (λ (x : List (Option ℤ)). IsCount (count c.args.keypos items (addition_of a)) (Ok v) x) (sym new) done)

pub bounds-as_slice-place : goal.bounds-as_slice-place
bounds-as_slice-place c =
    let p : Some c.in-Some.place ≡ counter_place c.args.keypos (length c.args.numbers.now.items) c.args.add.now.pos =
    c.in-Some.ensures ∙ ap (λ n. counter_place c.args.keypos n c.args.add.now.pos) c.len.ensures.value in
    rw c.as_slice.ensures.value (in_range c.args.keypos (length c.args.numbers.now.items) c.args.add.now.pos c.in-Some.place p)

pub bounds-as_mut_slice-place : goal.bounds-as_mut_slice-place
bounds-as_mut_slice-place c =
    let p : Some c.in-Some.place ≡ counter_place c.args.keypos (length c.args.numbers.now.items) c.args.add.now.pos =
    c.in-Some.ensures ∙ ap (λ n. counter_place c.args.keypos n c.args.add.now.pos) c.len.ensures.value in
    rw c.as_mut_slice.ensures.value (in_range c.args.keypos (length c.args.numbers.now.items) c.args.add.now.pos c.in-Some.place p)
