use Rattle.std.proofs.Common.{◌≡◌, ◌<◌, ◌+◌, ◌∷◌, [], ◌++◌, length, map, arith, refl, ◌∙◌, ap}
use Rattle.std.proofs.lemmas.List.{map-append}
use Rattle.std.proofs.lemmas.Result.{err_from_is_err_and}
use Rattle.std.specs.String.{string_bytes}
use Rattle.ca_outside.proofs.Counts.{risen_since}
use Rattle.ca_cmd.specs.Lines.{numbered}
use Rattle.ca_cli.specs.Call.{change_of}
use Rattle.ca_cli.proofs.Accepted.{first_held, held_on, reads_next, fault_cause}
use Rattle.ca_cli.proofs.files.read_all.Goals as goal

pub returns-in_err-lines-clause-refused : goal.returns-in_err-lines-clause-refused
returns-in_err-lines-clause-refused g c =
    let names = c.args.names.now in
    let content = g.F.Shelf.content c.args.shelf.now in
    let within : c.loop-name.name-index < length names = omega arith in
    let next = change_of (g.F.Shelf.fetches c.loop-name.shelf) (g.F.Shelf.fetches c.read_one.new.shelf) (g.F.Shelf.faults c.loop-name.shelf)
    (g.F.Shelf.faults c.read_one.new.shelf) in
    let fault = rw (c.loop-name.invariant.same c.as_str.result.now, c.as_str.ensures.value) at c.in_err-lines.ensures.refused in
    let p = err_from_is_err_and c.from_residual.result c.from_residual.ensures.1 in
    rw (p.1, p.2) (λ words keypos options asked. fault_cause string_bytes names c.loop-name.name-index c.name-item.result within c.name-item.is content _ _ next refl _
    c.loop-name.invariant.reading words keypos options asked (c.loop-name.number + 1) c.in_err-lines.field-0.0 (omega (arith, c.loop-name.invariant.number))
    c.loop-name.invariant.later fault)

pub returns-in_err-lines-clause-complete : goal.returns-in_err-lines-clause-complete
returns-in_err-lines-clause-complete g c w faultless =
    let names = c.args.names.now in
    let content = g.F.Shelf.content c.args.shelf.now in
    let within : c.loop-name.name-index < length names = omega arith in
    let held = first_held string_bytes names c.loop-name.name-index c.name-item.result within c.name-item.is content _ (c.loop-name.invariant.held w) in
    let complete = rw (c.loop-name.invariant.same c.as_str.result.now, c.as_str.ensures.value) at c.in_err-lines.ensures.complete in
    let p = err_from_is_err_and c.from_residual.result c.from_residual.ensures.1 in
    rw (p.1, p.2) (complete held.0 held.1 held.2 held.3 held.4 (λ r. faultless (risen_since _ _ _ c.loop-name.invariant.later r)))

pub loop-name-preserved : goal.loop-name-preserved
loop-name-preserved g c =
    let names = c.args.names.now in
    let content = g.F.Shelf.content c.args.shelf.now in
    let within : c.loop-name.name-index < length names = omega arith in
    let next = change_of (g.F.Shelf.fetches c.loop-name.shelf) (g.F.Shelf.fetches c.read_one.new.shelf) (g.F.Shelf.faults c.loop-name.shelf)
    (g.F.Shelf.faults c.read_one.new.shelf) in
    let read = rw (c.loop-name.invariant.same c.as_str.result.now, c.as_str.ensures.value) at c.in_ok-lines.ensures.read in
    let fetched = rw c.as_str.ensures.value at c.in_ok-lines.ensures.fetched in
    let more = reads_next string_bytes names c.loop-name.name-index c.name-item.result within c.name-item.is content _ _ next refl _
    c.loop-name.invariant.reading (numbered c.in_ok-lines.lines) c.in_ok-lines.count read fetched in
    let held = held_on string_bytes names c.loop-name.name-index c.name-item.result within c.name-item.is content _ _ _ read in
    let pushed : map numbered c.push_reserved.new.self.items ≡ map numbered c.loop-name.all.items ++ numbered c.in_ok-lines.lines ∷ [] =
    ap (map numbered) c.push_reserved.ensures.items ∙ map-append numbered c.loop-name.all.items _ in
    record {
      number = omega (arith, c.loop-name.invariant.number);
      reading = rw pushed more;
      held = λ w. held (c.loop-name.invariant.held w);
      count = omega (arith, c.push_reserved.ensures.len);
      spare = omega (arith, c.push_reserved.ensures.capacity);
      later = omega (arith, c.loop-name.invariant.later, c.in_ok-lines.ensures.later);
      told = λ s. c.in_ok-lines.ensures.told (λ e. cc) (c.loop-name.invariant.told s);
      same = λ m. c.in_ok-lines.ensures.same m ∙ c.loop-name.invariant.same m;
    }
