use Rattle.std.proofs.Common.{◌≡◌, ◌++◌, ◌∷◌, [], List, ℕ, length, ◌∙◌, ap, arith}
use Rattle.std.proofs.lemmas.Grind.{common_steps}
use Rattle.ca_model.specs.Slab.{PairList, nothing}
use Rattle.ca_model.proofs.Slots.{slots_added, list_added}
use Rattle.ca_model.proofs.slab.Slab.add_room.Goals as goal

rows_are : (c : goal.After-push_reserved) → c.add.new.self ≡ c.self.inside.rows ++ nothing ∷ []
rows_are c = c.in_ok-add.ensures.ok

slot_is : (c : goal.After-push_reserved) → c.in-Ok.slot ≡ length c.self.inside.rows
slot_is c = let e = c.in-Ok.ensures.1 in let l = c.len.ensures in grind (arith, common_steps, e, l)

order_is : (c : goal.After-push_reserved) → c.push_reserved.new.self.items ≡ c.self.inside.order.items ++ length c.self.inside.rows ∷ []
order_is c = c.push_reserved.ensures.items ∙ ap (λ (n : ℕ). c.reserve.new.self.items ++ n ∷ []) (slot_is c)
    ∙ ap (λ (o : List ℕ). o ++ length c.self.inside.rows ∷ []) c.in_ok-reserve.ensures.items

pub invariant_of-self-2 : goal.invariant_of-self-2
invariant_of-self-2 c = slots_added c.self.inside.rows _ c.self.inside.order.items _ c.self.inside.len c.self.invariant (rows_are c) (order_is c)

pub returns-clause-pairs : goal.returns-clause-pairs
returns-clause-pairs c =
    list_added c.self.inside.rows _ c.self.inside.order.items _ c.self.inside.len c.self.invariant (rows_are c) (order_is c)
    ∙ ap (λ (l : PairList). l.pairs) c.self.view_is
