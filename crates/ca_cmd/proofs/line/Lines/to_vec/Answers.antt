use Rattle.std.proofs.Common.{◌<◌, ◌∷◌, [], ◌++◌, ◌∙◌, ℕ, List, sym, ap, subst, arith}
use Rattle.std.proofs.lemmas.List.{take_all}
use Rattle.ca_cmd.specs.declared.line.Line.{Line}
use Rattle.ca_cmd.proofs.Determined.{take_one}
use Rattle.ca_cmd.proofs.line.Lines.to_vec.Goals as goal

pub line-requires : goal.line-requires
line-requires c = subst (λ (n : ℕ). c.loop-at.at < n) c.len-at-end.ensures c.loop-at-test.true

pub loop-at-preserved : goal.loop-at-preserved
loop-at-preserved c =
    c.in-Ok.ensures.items ∙ ap (λ (lines : List Line). lines ++ c.in_ok-line.line ∷ []) c.loop-at.invariant
    ∙ sym (take_one c.args.self.now c.loop-at.at c.in_ok-line.line c.in_ok-line.ensures)

pub returns : goal.returns
returns c =
    c.loop-at.invariant ∙ take_all c.loop-at.at c.args.self.now (let low = c.loop-at-test.false in let len = c.len-at-end.ensures in omega (arith, low, len))
