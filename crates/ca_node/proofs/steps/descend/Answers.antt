use Rattle.std.proofs.Common.{ℕ, true, sym, subst}
use Rattle.ca_node.specs.Told.{IsAnyLink, IsLed}
use Rattle.ca_node.proofs.LinkLoads.{leads}
use Rattle.ca_node.proofs.steps.descend.Goals as goal

pub load-requires-clause-rule : goal.load-requires-clause-rule
load-requires-clause-rule c =
    leads c.args.space.now.table.shared.key true _ _ _ c.word_of.result c.requires.reading.pinned c.requires.reading.own.1
    (subst (IsAnyLink c.args.pass.now.seat.me.0.upper) (sym c.word_of.ensures) c.requires.known)

pub returns-clause-led : goal.returns-clause-led
returns-clause-led c = subst
    (λ (i : ℕ). IsLed true i c.args.pass.now.seat.me c.load.result c.load.new.pass.seat.me)
    c.word_of.ensures c.load.ensures.told.0
