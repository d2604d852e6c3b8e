use Rattle.std.proofs.Common.{◌≡◌, ◌∷◌, ◌++◌, subst}
use Rattle.std.specs.Str.{encode_utf8_all}
use Rattle.ca_term.specs.declared.bounds.TheConstants.{MOST_CODE_POINTS}
use Rattle.ca_order.specs.Zeros.{opened}
use Rattle.ca_order.specs.Languages.{HasText}
use Rattle.ca_order.specs.Reads.{IsStep}
use Rattle.ca_order.proofs.Faults.{refused, fault_behind, fault_same}
use Rattle.ca_order.proofs.AtomParts.{read_none, read_more, read_end, text_rest}
use Rattle.ca_order.proofs.atoms.read_text.Goals as goal

pub loop-step-init : goal.loop-step-init
loop-step-init c = read_none c.args.bytes.now

pub returns-in_err-step : goal.returns-in_err-step
returns-in_err-step c =
    let r = c.loop-step.invariant in
    let rest = c.loop-step.rest.now in
    let e = c.in_err-step.field-0.0 in
    refused _ _ _ _ c.from_residual.ensures.1 (fault_same (HasText MOST_CODE_POINTS) c.args.bytes.now (opened (encode_utf8_all r.text) ++ rest) e r.parts
    (fault_behind (HasText MOST_CODE_POINTS) (HasText c.loop-step.room) (opened (encode_utf8_all r.text)) rest e
    (text_rest r.text c.loop-step.room MOST_CODE_POINTS r.many r.are_scalars) c.in_err-step.ensures))

pub returns-in-End : goal.returns-in-End
returns-in-End c =
    let w : c.loop-step.rest.now ≡ 0 ∷ 0 ∷ c.in-End.end.now = subst (IsStep c.loop-step.room c.loop-step.rest.now) c.in-End.is c.in_ok-step.ensures in
    read_end c.loop-step.room c.args.bytes.now c.loop-step.rest.now c.in-End.end.now c.loop-step.invariant w

pub loop-step-preserved : goal.loop-step-preserved
loop-step-preserved c =
    let w = subst (IsStep c.loop-step.room c.loop-step.rest.now) c.in-Char.is c.in_ok-step.ensures in
    read_more c.loop-step.room c.args.bytes.now c.loop-step.rest.now c.in-Char.behind.now w.1 c.loop-step.invariant w.0 w.2 w.3
