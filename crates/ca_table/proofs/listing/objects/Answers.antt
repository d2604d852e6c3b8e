use Rattle.std.proofs.Common.{◌<◌, ◌+◌, ℕ, List, length, sym, ◌∙◌, subst}
use Rattle.ca_term.specs.Tree.{Tree}
use Rattle.ca_order.specs.Languages.{IsTermCode}
use Rattle.ca_table.proofs.Listed.{AreListed, code_in, listed_more}
use Rattle.ca_table.proofs.listing.objects.Goals as goal

inside : (c : goal.After-object) → c.loop-at.at < length c.args.store.now.map
inside c = subst (λ (n : ℕ). c.loop-at.at < n) c.len-at-end.ensures.value c.loop-at-test.true

pub term_of-requires : goal.term_of-requires
term_of-requires c = subst (λ (b : List ℕ). IsTermCode b) (sym c.object.ensures)
    (code_in c.args.store.now.keypos c.args.store.now.map c.loop-at.at c.len-at-end.ensures.ordered (inside c))

pub loop-at-preserved : goal.loop-at-preserved
loop-at-preserved c =
    subst (λ (ts : List Tree). AreListed c.args.store.now.keypos c.args.store.now.map (c.loop-at.at + 1) ts) (sym (rw c.in-Ok.is at c.push.ensures.ok))
    (listed_more c.args.store.now.keypos c.args.store.now.map c.loop-at.at c.loop-at.objects.items c.in_ok-object.object c.len-at-end.ensures.ordered
    (subst (λ (n : ℕ). c.loop-at.at < n) c.len-at-end.ensures.value c.loop-at-test.true)
    c.loop-at.invariant c.in_ok-object.ensures.bounded (sym c.object.ensures ∙ c.in_ok-object.ensures.code))
