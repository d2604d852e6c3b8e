use Rattle.std.proofs.Common.{Some, refl, subst, sym}
use Rattle.ca_base.specs.Progress.{IsRefused}
use Rattle.ca_model.specs.Answer.{IfRefused}
use Rattle.ca_model.specs.declared.outcome.Outcome.TheVariants as outcome
use Rattle.ca_model.specs.Edges.{bound_of}
use Rattle.ca_model.specs.Function.{MayBeAskedForAll}
use Rattle.ca_model.specs.Known.{Known}
use Rattle.ca_model.specs.Runs.{Opens}
use Rattle.ca_range.specs.Looking.{IsNotEnough}
use Rattle.ca_range.specs.declared.sought.Sought.{Sought}
use Rattle.ca_replace.specs.Ranging.{IsRangeCaused}
use Rattle.ca_replace.specs.Resting.{StoreAndRun, known_of, knows}
use Rattle.ca_replace.specs.Running.{left_of}
use Rattle.ca_replace.specs.Seen.{store_of}
use Rattle.ca_replace.specs.Causes.{IsSparing, IsUnspent}
use Rattle.ca_replace.specs.TreePromises.{HasRead, OpensInBudget}
use Rattle.ca_replace.specs.Within.{EndsTooSoon}
use Rattle.ca_replace.proofs.LoneReads.{reads_refused}
use Rattle.ca_replace.proofs.Misses.{if_caused_by, if_not_done, if_refused_by, range_needs}
use Rattle.ca_replace.proofs.Needing.{too_soon}
use Rattle.ca_replace.proofs.OpenStores.{of_both}
use Rattle.ca_replace.proofs.StoreCalls.{has_read, knows_first, rests_first, store_declined}
use Rattle.ca_replace.proofs.Opening.{at_run, opens}
use Rattle.ca_replace.proofs.store.TreeStoreOrderedStore.range.Goals as goal

pub read_or_refuse-requires-clause-may : goal.read_or_refuse-requires-clause-may
read_or_refuse-requires-clause-may g c = (
  c.requires.lower_edge,
  c.requires.upper_edge,
  subst (λ (s : StoreAndRun). MayBeAskedForAll g.F.Fn c.args.counts.now (knows s).keypos)
      (sym c.self.view_is) c.requires.function,
)

pub read_or_refuse-requires-clause-resting : goal.read_or_refuse-requires-clause-resting
read_or_refuse-requires-clause-resting g c = rests_first c.self.inside c.self.view_is
    c.requires.closed c.self.invariant

pub returns-in-Ok-clause-opens : goal.returns-in-Ok-clause-opens
returns-in-Ok-clause-opens g c = let table = c.self.inside.tree.now.space.table.shared.table_id in
    let z = c.self.inside.tree.now.space.table.shared.key in
    let u = c.self.inside.pass.seat.me.0.upper in let v = c.read_or_refuse.new.pass.seat.me.0.upper
    in
    let run = c.read_or_refuse.new.left in
    let rests = rests_first c.self.inside c.self.view_is c.requires.closed c.self.invariant in
    let sought : Sought g.row.F.Denot =
    record { lo = c.args.lo; hi = c.args.hi; want = c.args.want; counts = c.args.counts } in
    of_both (λ (k l : Known). Opens g.F.Fn c.args.counts.now k l (bound_of c.args.lo)
    (bound_of c.args.hi) c.args.want c.in-Ok.whole) _ _
    (known_of table z u) (record (known_of table z v) { run = Some (left_of v run) })
    (knows_first c.self.inside c.self.view_is c.requires.closed) refl
    (opens g.F.Fn sought table z u v c.in-Ok.whole run rests.known
    c.in-Ok.ensures.frame.at_work.known c.in-Ok.ensures.come.0)

pub returns-in-Err-clause-refused : goal.returns-in-Err-clause-refused
returns-in-Err-clause-refused g c = let u = c.self.inside.pass.seat.me.0.upper in
    let v = c.read_or_refuse.new.pass.seat.me.0.upper in
    store_declined c.self.inside c.self.view_is c.requires.closed c.read_or_refuse.new.pass
    c.self.inside.last c.outcome_by.result c.self.invariant
    c.in-Err.ensures.frame.resting.known
    (if_refused_by (λ rise. IsRefused rise u v) c.in-Err.why c.outcome_by.result
    c.outcome_by.ensures c.in-Err.ensures.come.0)

pub returns-in-Err-clause-promised : goal.returns-in-Err-clause-promised
returns-in-Err-clause-promised g c = let tree = c.self.inside.tree.now in
    let last = c.self.inside.last in let pass = c.self.inside.pass in
    let new = c.read_or_refuse.new.pass in let done = c.in-Err.ensures in let e =
    c.read_or_refuse.ensures in
    let before = store_of tree pass last in let behind = store_of tree new last in
    let z = tree.space.table.shared.key in let why = c.in-Err.why in let o = c.outcome_by.result in
    let is = c.outcome_by.ensures in let budget = c.args.budget in
    let sought : Sought g.row.F.Denot =
    record { lo = c.args.lo; hi = c.args.hi; want = c.args.want; counts = c.args.counts } in
    let Needs = EndsTooSoon (bound_of c.args.lo) (bound_of c.args.hi) in
    let caused = range_needs (IsNotEnough g.F.Fn sought) Needs
    (λ note n. too_soon g.F.Fn sought note n) z pass.number budget why pass.seat.me new.seat.me
    pass.kept.rows new.kept.rows done.caused in
    subst (λ (s : StoreAndRun). HasRead Needs budget s.store behind o
    × IfRefused o (λ _. IsSparing s.store behind) × OpensInBudget budget s.store behind o)
    c.self.view_is (
      has_read c.self.inside.tree.now c.self.inside.pass new c.self.inside.last Needs budget o
          (rests_first c.self.inside c.self.view_is c.requires.closed c.self.invariant)
          done.frame.number done.come.1
          (if_caused_by (λ w. IsRangeCaused Needs z pass.number budget w pass.seat.me
          pass.kept.rows new.seat.me new.kept.rows) why o is caused)
          (λ alone. reads_refused z why o pass.seat.me new.seat.me is (done.alone alone))
          e.bounds.bounded e.bounds.loads,
      if_refused_by (λ _. IsSparing before behind) why o is
          (done.few, done.frame.resting.few.ever, e.bounds.lags),
      if_not_done (λ _. IsUnspent budget pass.seat.me new.seat.me) why o is,
    )

pub returns-in-Ok-clause-promised : goal.returns-in-Ok-clause-promised
returns-in-Ok-clause-promised g c = let tree = c.self.inside.tree.now in
    let new = c.read_or_refuse.new.pass in let done = c.in-Ok.ensures in
    let behind = store_of tree new c.self.inside.last in let o = outcome.Done c.in-Ok.whole in
    let budget = c.args.budget in let e = c.read_or_refuse.ensures in
    let Needs = EndsTooSoon (bound_of c.args.lo) (bound_of c.args.hi) in
    subst (λ (s : StoreAndRun). HasRead Needs budget s.store behind o
    × IfRefused o (λ _. IsSparing s.store behind) × OpensInBudget budget s.store behind o)
    c.self.view_is (
      has_read c.self.inside.tree.now c.self.inside.pass new c.self.inside.last Needs budget o
          (rests_first c.self.inside c.self.view_is c.requires.closed c.self.invariant)
          done.frame.number done.come.1 tt (λ alone. ((done.alone alone).0, tt)) e.bounds.bounded
          e.bounds.loads,
      tt,
      done.answered.unspent,
    )

pub invariant_of-self : goal.invariant_of-self
invariant_of-self g c = let done = c.in-Ok.ensures in
    at_run c.self.inside.pass.seat.me c.read_or_refuse.new.left done.frame.at_work
    c.read_or_refuse.ensures.bounds.lags done.answered.all_seen done.come.0.1.opened
