use Rattle.std.proofs.Common.{ℕ, false, sym, subst}
use Rattle.ca_node.specs.Told.{IsAnyLink, IsLed, IsLedSecured}
use Rattle.ca_node.proofs.LinkLoads.{leads}
use Rattle.ca_node.proofs.steps.load_link.Goals as goal

pub load-requires-clause-rule : goal.load-requires-clause-rule
load-requires-clause-rule c =
    leads c.args.space.now.table.shared.key false _ _ _ c.word_of.result c.requires.reading.pinned c.requires.reading.own.1
    (subst (IsAnyLink c.args.pass.now.seat.me.0.upper) (sym c.word_of.ensures) c.requires.known)

pub returns-clause-led : goal.returns-clause-led
returns-clause-led c = subst
    (λ (i : ℕ). IsLed false i c.args.pass.now.seat.me c.load.result c.load.new.pass.seat.me)
    c.word_of.ensures c.load.ensures.told.0

pub returns-clause-secured : goal.returns-clause-secured
returns-clause-secured c = subst
    (λ (i : ℕ). IsLedSecured i c.args.pass.now.seat.me c.load.new.pass.seat.me)
    c.word_of.ensures c.load.ensures.told.1
