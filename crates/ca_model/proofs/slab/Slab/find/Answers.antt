use Rattle.std.proofs.Common.{rules, ◌≡◌, ◌∙◌, List, ℕ, ap, subst, take, get_or}
use Rattle.std.proofs.lemmas.Fn.{always_returns_same}
use Rattle.std.specs.List.Sorted.{IsBinarySearchResult}
use Rattle.ca_model.specs.StoreMap.{bytes_cmp}
use Rattle.ca_model.specs.Slab.{PairList, nothing}
use Rattle.ca_model.specs.SlabView.{list_in}
use Rattle.ca_model.proofs.Slots.{found_in}
use Rattle.ca_model.proofs.slab.Slab.find.Goals as goal

-- the closure tells how the key in a slot stands to the key that is looked for
pub returns-clause-position : goal.returns-clause-position
returns-clause-position c =
    let rows = c.self.inside.rows in
    let order = c.deref.result.now in
    let facts = c.binary_search_by.ensures in
    let by_slot = facts.position (λ m. bytes_cmp (get_or rows m nothing).0 c.args.key.now) (always_returns_same _ _ _ (λ a r f called. search rules)) in
    let list_is : list_in rows order c.self.inside.len ≡ c.args.self.now =
    ap (λ (o : List ℕ). list_in rows o c.self.inside.len) c.deref.ensures.value ∙ c.self.view_is in
    subst (λ (l : PairList). IsBinarySearchResult (λ p. bytes_cmp p.0 c.args.key.now) l.pairs c.binary_search_by.result) list_is
    (found_in rows (take c.self.inside.len order) c.args.key.now c.binary_search_by.result facts.bound by_slot)
