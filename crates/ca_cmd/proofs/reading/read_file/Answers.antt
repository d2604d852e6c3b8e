use Rattle.std.proofs.Common.{rules, ◌≡◌, ℕ, List, sym, subst}
use Rattle.ca_cmd.specs.File.{lines_of, IsFileOf}
use Rattle.ca_cmd.specs.Kept.{IsInText, Keeps}
use Rattle.ca_cmd.specs.Lines.{numbered}
use Rattle.ca_cmd.specs.Refusal.{IsCauseIn}
use Rattle.ca_cmd.specs.declared.line.Line.{Line}
use Rattle.ca_cmd.proofs.Files.{lines_same, only_memory}
use Rattle.ca_cmd.proofs.Parts.{fault_at_front, whole_read}
use Rattle.ca_cmd.proofs.reading.read_file.Goals as goal

pub returns-in_err-part-clause-refused : goal.returns-in_err-part-clause-refused
returns-in_err-part-clause-refused c =
    let cause : IsCauseIn c.args.bytes.now c.in_err-part.field-0.0 = fault_at_front c.args.bytes.now c.in_err-part.field-0.0 c.in_err-part.ensures.refused in
    search (rules, cause)

pub returns-in_err-part-clause-complete : goal.returns-in_err-part-clause-complete
returns-in_err-part-clause-complete c lines f =
    let cause : IsCauseIn c.args.bytes.now c.in_err-part.field-0.0 = fault_at_front c.args.bytes.now c.in_err-part.field-0.0 c.in_err-part.ensures.refused in
    let memory = only_memory c.args.bytes.now lines c.in_err-part.field-0.0 f cause in
    search (rules, memory)

pub of-requires : goal.of-requires
of-requires c =
    let part = c.in_ok-part.ensures.read in
    let copied = c.in_ok-to_vec.ensures.items_if_clones_equal (λ x y same. same) in
    (part.lines, subst (λ (bytes : List ℕ). Keeps (IsInText bytes) c.in_ok-part.part.held part.lines) (sym copied) part.keeps)

pub returns-clause-read : goal.returns-clause-read
returns-clause-read c =
    let part = c.in_ok-part.ensures.read in
    let copied = c.in_ok-to_vec.ensures.items_if_clones_equal (λ x y same. same) in
    let kept = subst (λ (bytes : List ℕ). Keeps (IsInText bytes) c.in_ok-part.part.held part.lines) (sym copied) part.keeps in
    let same : c.of.result ≡ part.lines = c.of.ensures part.lines kept in
    subst (λ (lines : List Line). IsFileOf c.args.bytes.now (numbered lines)) (sym same)
    (whole_read c.args.bytes.now c.in_ok-part.part part c.in_ok-part.ensures.reached)

pub returns-clause-complete : goal.returns-clause-complete
returns-clause-complete c lines f = lines_same 1 (lines_of c.args.bytes.now) (numbered c.of.result) lines (returns-clause-read c) f
