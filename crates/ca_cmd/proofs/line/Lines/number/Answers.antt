use Rattle.std.proofs.Common.{◌≡◌, ◌∙◌, List, Some, length, refl, ap, subst, arith}
use Rattle.std.specs.Prelude.{slice_get, option_map}
use Rattle.std.proofs.lemmas.Option.{slice_get_read}
use Rattle.ca_cmd.specs.declared.line.Line.{Line}
use Rattle.ca_cmd.proofs.Determined.{many, number_at}
use Rattle.ca_cmd.proofs.line.Lines.number.Goals as goal

pub index-requires : goal.index-requires
index-requires c =
    let kept = c.self.inside in
    let same : length kept.held.places.items ≡ length c.args.self.now =
    many kept.source kept.held kept.keeps ∙ ap (λ (lines : List Line). length lines) c.self.view_is in
    omega (arith, same, c.requires, kept.held.places.ok.0)

pub returns : goal.returns
returns c =
    let kept = c.self.inside in
    let at = c.args.at in
    let same : length kept.held.places.items ≡ length c.args.self.now =
    many kept.source kept.held kept.keeps ∙ ap (λ (lines : List Line). length lines) c.self.view_is in
    let slot : slice_get kept.held.places.items at ≡ Some c.index.result.now =
    slice_get_read kept.held.places.items (length kept.held.places.items) at c.index.result.now refl (omega (arith, same, c.requires)) c.index.ensures in
    subst (λ (lines : List Line). option_map (λ (line : Line). line.number) (slice_get lines at) ≡ Some c.index.result.now.number) c.self.view_is
    (number_at kept.source kept.held kept.keeps at c.index.result.now slot)
