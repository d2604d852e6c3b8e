use Rattle.std.proofs.Common.{◌≡◌, ◌<◌, ℕ, List, ◌++◌, length, take, drop, arith, sym, ◌∙◌, ap}
use Rattle.std.specs.List.{remove}
use Rattle.ca_model.specs.Slab.{PairList, with_freed}
use Rattle.ca_model.proofs.Slots.{length_in, slots_removed, list_removed, written_over, length_freed}
use Rattle.ca_model.proofs.slab.Slab.remove.Goals as goal

in_list : (c : goal.After-self-2-1) → c.args.at < c.self.inside.len
in_list c =
    let many = ap (λ (l : PairList). length l.pairs) c.self.view_is in
    omega (arith, c.requires, many, length_in c.self.inside.rows c.self.inside.order.items c.self.inside.len c.self.invariant)

order_is : (c : goal.After-self-2-1)
    → take c.self.inside.order.len (c.set_free.new.order ++ drop (length c.set_free.new.order) c.self.inside.order.items) ≡ with_freed
    c.self.inside.order.items c.self.inside.len c.args.at
order_is c =
    let order = c.self.inside.order.items in
    let len = c.self.inside.len in
    written_over order c.set_free.new.order (with_freed order len c.args.at) c.self.inside.order.len
    (c.set_free.ensures ∙ ap (λ (o : List ℕ). with_freed o len c.args.at) c.as_mut_slice.ensures.value) (length_freed order len c.args.at (in_list c)
    c.self.invariant.within)
    (sym c.as_mut_slice.ensures.len ∙ ap (λ (ms : List ℕ). length ms) c.as_mut_slice.ensures.value)

pub invariant_of-self : goal.invariant_of-self
invariant_of-self c = slots_removed c.self.inside.rows c.self.inside.order.items _ c.self.inside.len c.args.at c.self.invariant (in_list c) (order_is c)

pub returns-clause-pairs : goal.returns-clause-pairs
returns-clause-pairs c =
    list_removed c.self.inside.rows c.self.inside.order.items _ c.self.inside.len c.args.at c.self.invariant (in_list c) (order_is c)
    ∙ ap (λ (l : PairList). remove l.pairs c.args.at) c.self.view_is
