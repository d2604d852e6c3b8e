use Rattle.std.proofs.Common.{◌∷◌, ◌∙◌, ap, subst}
use Rattle.ca_term.specs.Tree.{Tree}
use Rattle.ca_order.specs.Codes.{BeginsOtherwise}
use Rattle.ca_order.specs.CodesView.{terms_of}
use Rattle.ca_spec.proofs.CodeBinding.{equal_told, unequal_told}
use Rattle.ca_spec.proofs.fitting.fit_equal.Goals as goal

pub returns-in-Some-behind-clause-told : goal.returns-in-Some-behind-clause-told
returns-in-Some-behind-clause-told c = λ b.
    equal_told b c.args.constant.now (terms_of c.args.codes.now) (terms_of c.in-Some-behind.rest)
    (c.in-Some-behind.ensures ∙ ap (λ (x : Tree). x ∷ terms_of c.in-Some-behind.rest) c.in-Some.ensures.part)

pub returns-in-None-clause-told : goal.returns-in-None-clause-told
returns-in-None-clause-told c = λ b.
    unequal_told b c.args.constant.now (terms_of c.args.codes.now) c.requires
    (subst (λ (x : Tree). BeginsOtherwise x (terms_of c.args.codes.now)) c.in-Some.ensures.part c.in-None.ensures)
