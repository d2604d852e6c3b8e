use Rattle.std.proofs.Common.{◌≡◌, ◌∙◌, List, length, ap, arith}
use Rattle.ca_cmd.specs.declared.line.Line.{Line}
use Rattle.ca_cmd.proofs.Determined.{many}
use Rattle.ca_cmd.proofs.line.Lines.len.Goals as goal

pub returns : goal.returns
returns c =
    let kept = c.self.inside in
    let same : length kept.held.places.items ≡ length c.args.self.now =
    many kept.source kept.held kept.keeps ∙ ap (λ (lines : List Line). length lines) c.self.view_is in
    omega (arith, same, c.len.ensures, kept.held.places.ok.0)
