use Rattle.std.proofs.Common.{◌≡◌, ◌∙◌, List, Some, length, refl, ap, subst, arith}
use Rattle.std.specs.Prelude.{slice_get}
use Rattle.std.proofs.lemmas.Option.{slice_get_read}
use Rattle.ca_cmd.specs.declared.line.Line.{Line}
use Rattle.ca_cmd.proofs.Determined.{many, is_kept, line_made}
use Rattle.ca_cmd.proofs.line.Lines.line.Goals as goal

pub index-place-requires : goal.index-place-requires
index-place-requires c =
    let kept = c.self.inside in
    let same : length kept.held.places.items ≡ length c.args.self.now =
    many kept.source kept.held kept.keeps ∙ ap (λ (lines : List Line). length lines) c.self.view_is in
    omega (arith, same, c.requires, kept.held.places.ok.0)

pub command-requires : goal.command-requires
command-requires c =
    let kept = c.self.inside in
    let same : length kept.held.places.items ≡ length c.args.self.now =
    many kept.source kept.held kept.keeps ∙ ap (λ (lines : List Line). length lines) c.self.view_is in
    let slot : slice_get kept.held.places.items c.args.at ≡ Some c.index-place.result.now =
    slice_get_read kept.held.places.items (length kept.held.places.items) c.args.at c.index-place.result.now refl (omega (arith, same, c.requires))
    c.index-place.ensures in
    is_kept kept.source kept.held kept.keeps c.args.at c.index-place.result.now slot

pub returns : goal.returns
returns c =
    let kept = c.self.inside in
    let place = c.index-place.result.now in
    let same : length kept.held.places.items ≡ length c.args.self.now =
    many kept.source kept.held kept.keeps ∙ ap (λ (lines : List Line). length lines) c.self.view_is in
    let slot : slice_get kept.held.places.items c.args.at ≡ Some place =
    slice_get_read kept.held.places.items (length kept.held.places.items) c.args.at place refl (omega (arith, same, c.requires)) c.index-place.ensures in
    subst (λ (lines : List Line). slice_get lines c.args.at ≡ Some (record { number = place.number; cmd = c.in_ok-cmd.cmd })) c.self.view_is
    (line_made kept.source kept.held kept.keeps c.args.at place slot c.in_ok-cmd.cmd c.in_ok-cmd.ensures)
