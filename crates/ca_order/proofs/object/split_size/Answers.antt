use Rattle.std.proofs.Common.{◌≡◌, ℕ, List, ◌∷◌, ◌++◌, length, take, drop, get_or, arith, ◌∙◌, ap}
use Rattle.ca_order.proofs.Sizes.{four_small}
use Rattle.ca_order.proofs.object.split_size.Goals as goal

pub split_at-requires : goal.split_at-requires
split_at-requires c =
    let e = c.requires.3 ∙ ap (λ x. x ++ c.requires.1) (four_small c.requires.0 c.requires.2) in
    omega (arith, ap length e)

pub returns-clause-size : goal.returns-clause-size
returns-clause-size c = λ n rest h p.
    let e : c.args.bytes.now ≡ 0 ∷ 0 ∷ 0 ∷ n ∷ rest = p ∙ ap (λ x. x ++ rest) (four_small n h) in
    (c.from.ensures ∙ ap (λ (x : List ℕ). get_or x 3 0) (c.split_at.ensures.front ∙ ap (take 4) e), c.split_at.ensures.back ∙ ap (drop 4) e)
