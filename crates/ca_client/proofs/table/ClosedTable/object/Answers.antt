use Rattle.std.proofs.Common.{◌≡◌, ◌∙◌, ℕ, List, length, get_or, sym, ap, subst, arith}
use Rattle.ca_term.specs.Tree.{Tree, Nil}
use Rattle.ca_order.specs.Languages.{IsTermCode}
use Rattle.ca_order.specs.Reads.{IsDecodeFault}
use Rattle.ca_client.proofs.Codes.{many, never_no_code, object_at}
use Rattle.ca_client.proofs.table.ClosedTable.object.Goals as goal

pub copy-requires : goal.copy-requires
copy-requires c =
    let kept = c.self.inside in
    let same : length kept.objects ≡ length c.args.self.now =
    many kept.objects kept.terms ∙ ap (λ (table : List Tree). length table) c.self.view_is in
    omega (arith, same, c.requires)

pub returns : goal.returns
returns c =
    let kept = c.self.inside in
    let same : length kept.objects ≡ length c.args.self.now =
    many kept.objects kept.terms ∙ ap (λ (table : List Tree). length table) c.self.view_is in
    let code = sym (c.as_slice.ensures.value ∙ c.copy.ensures) ∙ c.in-Ok.ensures.ok in
    subst (λ (table : List Tree). c.in-Ok.object ≡ get_or table c.args.at Nil) c.self.view_is
    (object_at kept.objects kept.terms c.args.at (omega (arith, same, c.requires)) c.in-Ok.object c.kind-kind.ensures.bounded code)

pub unreachable-requires : goal.unreachable-requires
unreachable-requires c =
    let kept = c.self.inside in
    let same : length kept.objects ≡ length c.args.self.now =
    many kept.objects kept.terms ∙ ap (λ (table : List Tree). length table) c.self.view_is in
    let fault = subst (λ e. IsDecodeFault c.as_slice.result.now e) c.in-Err-NotACode.field-0-is c.in-Err-NotACode.ensures.fault in
    never_no_code kept.objects kept.terms c.args.at (omega (arith, same, c.requires))
    (subst (λ (bytes : List ℕ). IsTermCode bytes → ⊥) (c.as_slice.ensures.value ∙ c.copy.ensures) fault.0)
