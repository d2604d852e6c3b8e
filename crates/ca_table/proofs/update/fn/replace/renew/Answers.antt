use Rattle.std.proofs.Common.{ℤ, subst}
use Rattle.std.specs.Int.{w64}
use Rattle.std.proofs.lemmas.Int.{to_z-of_z}
use Rattle.ca_term.specs.Tree.{Tuple}
use Rattle.ca_table.specs.Renewed.{Renews, by_element}
use Rattle.ca_table.proofs.update.fn.replace.renew.Goals as goal

pub returns : goal.returns
returns c = λ row v h e.
    subst (λ (x : ℤ). Renews c.captures.keypos (Tuple row) (by_element x v (Tuple row)) c.replaced.result c.replaced.new.into.items c.replaced.new.at)
    (to_z-of_z w64 c.captures.pos c.requires.range) (c.replaced.ensures row v h e)
