use Rattle.std.proofs.Common.{List, ℕ, None, arith, length, sym, ap, subst}
use Rattle.ca_term.specs.Tree.{Tree}
use Rattle.ca_model.specs.Edges.{Included}
use Rattle.ca_table.specs.Codes.{HasKeyCode}
use Rattle.ca_ets.specs.Command.{Response}
use Rattle.ca_ets.specs.declared.command.Cmd.TheVariants.{SelectRange}
use Rattle.ca_table.specs.Collected.{AreWithin}
use Rattle.ca_table.specs.ComesTo.{StepsOnce}
use Rattle.ca_table.specs.ResultsView.{results_of}
use Rattle.ca_table.proofs.Keyed.{key_begins}
use Rattle.ca_table.proofs.Selecting.{select_range_done}
use Rattle.ca_table.proofs.table.Table.select_range.Goals as goal

pub within-requires-clause-lower_edge : goal.within-requires-clause-lower_edge
within-requires-clause-lower_edge g c =
    (omega (arith, key_begins c.args.lo.now _ c.in_default-key_code.ensures.1, ap length c.as_slice.ensures.value), c.as_slice.ensures.fits)

pub within-requires-clause-upper_edge : goal.within-requires-clause-upper_edge
within-requires-clause-upper_edge g c =
    (omega (arith, key_begins c.args.hi.now _ c.in_default-key_code-2.ensures.1, ap length c.as_slice-2.ensures.value), c.as_slice-2.ensures.fits)

pub returns-in-Ok-within-clause-comes : goal.returns-in-Ok-within-clause-comes
returns-in-Ok-within-clause-comes g c =
    let old = g.S.OrderedStore.knows c.args.self.now in
    let next = g.S.OrderedStore.knows c.within.new.self in
    λ l.
    let h = rw c.in-Some.is at c.in-Ok.ensures in
    let low = subst (λ (x : List ℕ). HasKeyCode c.args.lo.now x) (sym c.as_slice.ensures.value) c.in_default-key_code.ensures.1 in
    let high = subst (λ (x : List ℕ). HasKeyCode c.args.hi.now x) (sym c.as_slice-2.ensures.value) c.in_default-key_code-2.ensures.1 in
    let found = c.in-Ok-within.found in
    subst (λ (x : Response). StepsOnce old next l (SelectRange c.args.lo.now c.args.hi.now c.args.spec.now) x l)
    (sym c.into_reply.ensures)
    (select_range_done old next c.in-Ok-within.ensures.positive c.args.spec.now h.1 (results_of found.results) found.last l
    c.args.lo.now c.args.hi.now c.as_slice.result.now c.as_slice-2.result.now low high
    (subst (λ (s : Tree). AreWithin old next (Included c.as_slice.result.now) (Included c.as_slice-2.result.now) s None
    (results_of found.results) found.last) h.0 c.in-Ok-within.ensures.within))
