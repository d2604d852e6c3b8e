use Rattle.std.proofs.Common.{rules, ◌+◌, ◌-◌, ◌≤◌, length, drop, refl, arith}
use Rattle.std.proofs.lemmas.List.{length-drop, take_rest}
use Rattle.ca_cmd.specs.Parts.{IsFaultFrom}
use Rattle.ca_cmd.specs.declared.kept.Place.{Place}
use Rattle.ca_cmd.proofs.Files.{line_cause}
use Rattle.ca_cmd.proofs.Keeping.{IsNext, read_none, read_more, few_taken}
use Rattle.ca_cmd.proofs.Parts.{part_read}
use Rattle.ca_cmd.proofs.part.read_part.Goals as goal

pub loop-rest-init : goal.loop-rest-init
loop-rest-init c =
    let file = c.args.file.now in
    let from = c.args.from in
    let low = c.requires.place.0 in
    let middle = c.requires.place.1 in
    let high = c.requires.place.2 in
    let many = length-drop from file in
    let fewer : c.args.before + length (drop from file) ≤ length file = omega (arith, low, middle, high, many) in
    record {
      read = read_none c.args.before from file c.new-held.result (omega (arith, middle, high)) c.new-held.ensures.places c.new-held.ensures.adding;
      few = omega (arith, c.new-held.ensures.adding);
      fewer = rw (take_rest file from) fewer;
    }

pub returns-in_err-take_line-clause-refused : goal.returns-in_err-take_line-clause-refused
returns-in_err-take_line-clause-refused c =
    let cause : IsFaultFrom c.args.file.now c.args.from c.args.before c.in_err-take_line.field-0.0 =
    line_cause c.args.file.now c.args.from c.args.before c.loop-rest.rest.now _ c.cut_line.result.1.now c.loop-rest.invariant.read.lines
    c.loop-rest.number _ c.loop-rest.invariant.read.read c.cut_line.ensures.line c.in_err-take_line.ensures.refused in
    search (rules, cause)

pub loop-rest-preserved : goal.loop-rest-preserved
loop-rest-preserved c =
    let file = c.args.file.now in
    let origin = drop c.args.from file in
    let skipped = c.args.before in
    let rest = c.loop-rest.rest.now in
    let others = c.cut_line.result.1.now in
    let number = c.loop-rest.number in
    let kept = c.loop-rest.invariant in
    let place : Place = record { number = number + 1; start = length file - length rest } in
    let next : IsNext file rest c.cut_line.result.0.now others number place = record {
      cut = c.cut_line.ensures.line;
      shorter = c.cut_line.ensures.shorter;
      behind = c.cut_line.ensures.behind;
      number = refl;
      start = refl;
    } in record {
      read = read_more skipped origin file rest _ others c.loop-rest.held c.take_line.new.held number place kept.read next c.in_ok-take_line.ensures.taken;
      few = few_taken skipped origin file rest _ others c.loop-rest.held c.take_line.new.held number place kept.read next c.in_ok-take_line.ensures.taken
          kept.few;
      fewer = omega (arith, kept.fewer, c.cut_line.ensures.shorter);
    }

pub returns-clause-read : goal.returns-clause-read
returns-clause-read c =
    part_read c.args.file.now c.args.from c.args.before _ c.loop-rest.rest.now c.loop-rest.invariant.read refl c.loop-rest.invariant.fewer
    c.loop-rest.invariant.few
