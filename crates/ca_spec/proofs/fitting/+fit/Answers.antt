use Rattle.std.proofs.Common.{◌≡◌, ◌<◌, ◌≤◌, length, Bool, Some, None, Option, ap, sym, ◌∙◌, subst, arith}
use Rattle.std.specs.Prelude.{IfSome, if◌then◌else◌}
use Rattle.ca_term.specs.Tree.{Tree, list_of, nodes}
use Rattle.ca_match.specs.Match.{Bindings, bind}
use Rattle.ca_order.specs.CodesView.{terms_of}
use Rattle.ca_spec.specs.PartBound.{first, others, parts_of}
use Rattle.ca_spec.specs.Parts.{tail_le-list}
use Rattle.ca_spec.specs.PatternView.{IsShape, tree_of_shape}
use Rattle.ca_spec.specs.Places.{places}
use Rattle.ca_spec.specs.Reached.{AreShort}
use Rattle.ca_spec.proofs.Binding.{equal_fits, head_nodes, head_places, tail_places}
use Rattle.ca_spec.proofs.CodeBinding.{head_step, head_there, left_step, place_step, tail_others, tail_there}
use Rattle.ca_spec.proofs.Reaching.{short_head, short_item, short_tail}
use Rattle.ca_spec.proofs.fitting.+fit.Goals as goal

pub fit-returns-in-Equal-clause-told : goal.fit-returns-in-Equal-clause-told
fit-returns-in-Equal-clause-told t c =
    let b = parts_of c.args.table.now in
    let u = first (terms_of c.args.codes.now) in
    let e : c.in-Equal.own ≡ c.args.pattern.now = sym (ap tree_of_shape c.in-Equal.is) ∙ c.pattern.view_is in
    subst (λ (x : Option Bindings). IfSome c.fit_equal.result (λ fits. x ≡ (if fits then Some b else None)))
    (sym (ap (λ (x : Tree). bind x u b) (sym e) ∙ equal_fits c.in-Equal.own u b (subst IsShape c.in-Equal.is c.pattern.invariant)))
    (c.fit_equal.ensures.told b)

pub fit_all-loop-part-preserved : goal.fit_all-loop-part-preserved
fit_all-loop-part-preserved t c =
    let left = terms_of c.loop-part.rest in
    let terms = terms_of c.args.codes.now in
    record {
      told = place_step c.args.parts.now terms left c.args.count c.loop-part.part-index c.part-item.result _ (parts_of c.loop-part.table)
          (parts_of c.fit.new.table) c.loop-part-test.true (omega arith) c.requires.some c.loop-part.invariant.left c.loop-part.invariant.told
          (ap (λ (x : Tree). bind x (first left) (parts_of c.loop-part.table)) (sym c.part-item.is) ∙ c.in-Some-true.ensures.told
          ∙ ap (λ (x : Bool). if x then Some (parts_of c.fit.new.table) else None) c.in-Some-true.field-0-test);
      left = left_step terms left (terms_of c.fit.new.codes) c.loop-part.part-index c.loop-part.invariant.left
          (c.fit.ensures.rest (c.in-Some-true.is ∙ ap (λ (x : Bool). Some x) c.in-Some-true.field-0-test));
    }

pub fit_cells-fit-requires : goal.fit_cells-fit-requires
fit_cells-fit-requires t c =
    let n : nodes c.head-item.result < nodes (list_of c.args.heads.now c.args.tail.now) =
    omega (arith, ap nodes c.head-item.is, head_nodes c.args.heads.now c.args.tail.now c.loop-head.head-index c.head-item.result (omega arith)) in
    let p : places c.head-item.result ≤ length c.args.table.now =
    omega (
      arith,
      ap places c.head-item.is,
      head_places c.args.heads.now c.args.tail.now c.loop-head.head-index (length c.args.table.now) c.head-item.result
          (omega arith) c.requires.room,
    ) in (
      omega (arith, c.decreases),
      (head_there (terms_of c.loop-head.codes) (terms_of c.in-Some.inside) c.in-Some.ensures, omega arith),
    )

pub fit_cells-loop-head-preserved : goal.fit_cells-loop-head-preserved
fit_cells-loop-head-preserved t c =
    let terms = terms_of c.loop-head.codes in
    let inside = terms_of c.in-Some.inside in
    let new = terms_of c.fit.new.codes in
    let rest : new ≡ others inside = c.fit.ensures.rest (c.in-Some-true.is ∙ ap (λ (x : Bool). Some x) c.in-Some-true.field-0-test) in
    record {
      told = head_step c.args.heads.now c.args.tail.now terms inside new c.loop-head.head-index c.head-item.result _ (parts_of c.loop-head.table)
          (parts_of c.fit.new.table) c.loop-head-test.true c.in-Some.ensures rest c.loop-head.invariant.told
          (ap (λ (x : Tree). bind x (first inside) (parts_of c.loop-head.table)) (sym c.head-item.is) ∙ c.in-Some-true.ensures.told
          ∙ ap (λ (x : Bool). if x then Some (parts_of c.fit.new.table) else None) c.in-Some-true.field-0-test);
      left = tail_others terms inside new c.in-Some.ensures rest ∙ c.loop-head.invariant.left;
      there = tail_there terms inside new c.in-Some.ensures rest;
    }

pub fit_cells-fit-requires-2 : goal.fit_cells-fit-requires-2
fit_cells-fit-requires-2 t c =
    let n = tail_le-list c.args.heads.now c.args.tail.now in
    let p = tail_places c.args.heads.now c.args.tail.now (length c.args.table.now) c.requires.room in
    (omega (arith, c.decreases), (c.loop-head.invariant.there, omega arith))

-- ---- what is known of short parts

pub fit_all-returns-in_default-2-clause-known : goal.fit_all-returns-in_default-2-clause-known
fit_all-returns-in_default-2-clause-known t c = λ s.
    c.fit.ensures.known
    (subst AreShort (sym c.part-item.is) (short_item c.args.parts.now c.loop-part.part-index c.part-item.result c.loop-part-test.true s))

pub fit_cells-returns-in_default-fit-2-clause-known : goal.fit_cells-returns-in_default-fit-2-clause-known
fit_cells-returns-in_default-fit-2-clause-known t c = λ s.
    c.fit.ensures.known
    (subst AreShort (sym c.head-item.is)
    (short_head c.args.heads.now c.args.tail.now c.loop-head.head-index c.head-item.result c.loop-head-test.true s))

pub fit_cells-returns-clause-known : goal.fit_cells-returns-clause-known
fit_cells-returns-clause-known t c = λ s. c.fit-2.ensures.known (short_tail c.args.heads.now c.args.tail.now s)
