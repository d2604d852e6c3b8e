use Rattle.std.proofs.Common.{◌∷◌, [], sym, ◌∙◌, ap}
use Rattle.std.proofs.lemmas.Slice.Eq.{strip_suffix_is}
use Rattle.std.proofs.lemmas.Bool.Decides.{Decides-eqb}
use Rattle.ca_cmd.specs.File.{without_cr, cr}
use Rattle.ca_cmd.proofs.CutLines.{with_cr, no_cr}
use Rattle.ca_cmd.proofs.cut.without_cr.Goals as goal

pub returns-in-Some : goal.returns-in-Some
returns-in-Some c =
    let whole = rw c.in-Some.is at (strip_suffix_is Decides-eqb c.args.line.now (cr ∷ []) c.strip_suffix.result c.strip_suffix.ensures.cases) in
    sym (ap without_cr whole ∙ with_cr c.in-Some.front.now)

pub returns-in-None : goal.returns-in-None
returns-in-None c =
    sym (no_cr c.args.line.now (rw c.in-None.is at (strip_suffix_is Decides-eqb c.args.line.now (cr ∷ []) c.strip_suffix.result c.strip_suffix.ensures.cases)))
