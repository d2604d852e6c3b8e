use Rattle.std.proofs.Common.{rules, subst, ℕ, Result}
use Rattle.std.proofs.lemmas.Fn.{always_returns_same}
use Rattle.ca_term.specs.Order.{term_cmp}
use Rattle.ca_term.specs.Object.{key_of}
use Rattle.ca_ets.specs.Place.{IsPlace}
use Rattle.ca_ets.proofs.Places.{place_of, searched}
use Rattle.ca_ets.proofs.table.find.Goals as goal
use Rattle.ca_ets.proofs.table.find.Goals.{After-binary_search_by}

-- the closure tells how an object's key stands to the key that is looked for
place_is : (c : After-binary_search_by) → IsPlace c.args.keypos c.args.objects.now c.args.k.now (place_of c.binary_search_by.result)
place_is c =
    let facts = c.binary_search_by.ensures in
    let by_key = facts.position (λ o. term_cmp (key_of c.args.keypos o) c.args.k.now) (always_returns_same _ _ _ (λ a r f called. search rules)) in
    searched _ _ _ _ c.requires facts.bound by_key

pub returns-in-Ok : goal.returns-in-Ok
returns-in-Ok c =
    subst (λ (r : Result ℕ ℕ). IsPlace c.args.keypos c.args.objects.now c.args.k.now (place_of r)) c.in-Ok.is (place_is c.before)

pub returns-in-Err : goal.returns-in-Err
returns-in-Err c =
    subst (λ (r : Result ℕ ℕ). IsPlace c.args.keypos c.args.objects.now c.args.k.now (place_of r)) c.in-Err.is (place_is c.before)
