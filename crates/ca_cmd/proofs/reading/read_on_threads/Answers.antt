use Rattle.std.proofs.Common.{rules, ◌≡◌, List, sym, subst, arith}
use Rattle.ca_cmd.specs.File.{lines_of, IsFileOf}
use Rattle.ca_cmd.specs.Lines.{numbered}
use Rattle.ca_cmd.specs.Refusal.{IsCauseIn}
use Rattle.ca_cmd.specs.declared.line.Line.{Line}
use Rattle.ca_cmd.proofs.Files.{lines_same, only_memory}
use Rattle.ca_cmd.proofs.Parts.{whole_read}
use Rattle.ca_cmd.proofs.reading.read_on_threads.Goals as goal

pub returns-in_err-part-clause-complete : goal.returns-in_err-part-clause-complete
returns-in_err-part-clause-complete g c lines f =
    let cause : IsCauseIn c.args.bytes.items c.in_err-part.field-0.0 = rw c.as_slice.ensures.value at c.in_err-part.ensures.refused in
    let memory = only_memory c.args.bytes.items lines c.in_err-part.field-0.0 f cause in
    search (rules, memory)

pub of-requires : goal.of-requires
of-requires g c = let part = rw c.as_slice.ensures.value at c.in_ok-part.ensures.read in (part.lines, part.keeps)

pub returns-clause-read : goal.returns-clause-read
returns-clause-read g c =
    let part = rw c.as_slice.ensures.value at c.in_ok-part.ensures.read in
    let whole = rw c.as_slice.ensures.value at c.in_ok-part.ensures.whole in
    let same : c.of.result ≡ part.lines = c.of.ensures part.lines part.keeps in
    subst (λ (lines : List Line). IsFileOf c.args.bytes.items (numbered lines)) (sym same)
    (whole_read c.args.bytes.items c.in_ok-part.part part (omega (arith, whole)))

pub returns-clause-complete : goal.returns-clause-complete
returns-clause-complete g c lines f = lines_same 1 (lines_of c.args.bytes.items) (numbered c.of.result) lines (returns-clause-read g c) f
