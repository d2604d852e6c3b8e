use Rattle.std.proofs.Common.{◌<◌, ◌≤◌, ℕ, sym, ap, ◌∙◌, subst}
use Rattle.ca_node.specs.Told.{status_word}
use Rattle.ca_node.proofs.OwnWatching.{watches_own}
use Rattle.ca_node.proofs.own_ranges.load_own_status.Goals as goal

pub load-requires-clause-rule : goal.load-requires-clause-rule
load-requires-clause-rule c = let own = c.requires.owner in
    watches_own c.args.space.now.table.shared.key _ _ _ c.status_word_of-word.result own.reading.own.1 own.reading.pinned
    (subst (λ (n : ℕ). 0 < n) (sym own.same_number) own.some_number) (subst (λ (n : ℕ). n ≤ 64) (sym own.same_number) own.few)
    (c.status_word_of-word.ensures.word
    ∙ ap (λ (n : ℕ). status_word c.args.space.now.table.shared.key n) (c.number.ensures ∙ sym own.same_number))

pub returns-clause-found : goal.returns-clause-found
returns-clause-found c = (c.load.result, c.state_of.ensures, c.load.ensures.told.2, c.load.type_inv)
