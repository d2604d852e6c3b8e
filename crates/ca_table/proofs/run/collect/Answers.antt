use Rattle.std.proofs.Common.{◌∙◌, refl, sym, ap}
use Rattle.ca_table.specs.Collected.{is_full, left_of}
use Rattle.ca_table.proofs.Collecting.{collecting_none, collecting_more, collected_all, collected_full, handed_code, run_falls}
use Rattle.ca_explain.proofs.Calls.{both_beside_run}
use Rattle.ca_table.specs.Made.{HandsOut}
use Rattle.ca_table.proofs.Making.{read_both, read_nothing, read_once}
use Rattle.ca_table.proofs.run.collect.Goals as goal

pub objects-init : goal.objects-init
objects-init g c = record {
  collecting = rw (c.new-collected.ensures.results, c.new-collected.ensures.last)
      (collecting_none c.args.spec.now c.args.limit (g.S.OrderedStore.knows c.args.store.now) c.requires.run);
  read = read_nothing g.S.OrderedStore.promises c.args.store.now;
}

pub found-requires : goal.found-requires
found-requires g c = record { «open» = (left_of (g.S.OrderedStore.knows c.objects.store), c.objects.invariant.collecting.run) }

pub returns-then-not-found-clause-collected : goal.returns-then-not-found-clause-collected
returns-then-not-found-clause-collected g c =
    collected_all c.args.spec.now c.args.limit (g.S.OrderedStore.knows c.args.store.now) (g.S.OrderedStore.knows c.objects.store)
    (g.S.OrderedStore.knows c.found.new.self) c.found.new.into.items c.found.result _ _ c.objects.invariant.collecting
    (ap (is_full c.args.limit) (sym c.len.ensures) ∙ sym c.is_full.ensures ∙ c.objects-test.true) c.if-not-found.true c.found.ensures.handed_out

pub returns-then-not-found-clause-stays : goal.returns-then-not-found-clause-stays
returns-then-not-found-clause-stays g c =
    both_beside_run _ (g.S.OrderedStore.knows c.objects.store) _ c.objects.invariant.collecting.stays c.found.ensures.stays

pub sift-requires-clause-code : goal.sift-requires-clause-code
sift-requires-clause-code g c =
    handed_code (g.S.OrderedStore.knows c.args.store.now).keypos (g.S.OrderedStore.knows c.objects.store) (g.S.OrderedStore.knows c.found.new.self)
    c.found.new.into.items c.objects.invariant.collecting.left (rw c.if-not-found.false at c.found.ensures.handed_out)

pub objects-smaller : goal.objects-smaller
objects-smaller g c =
    run_falls (g.S.OrderedStore.knows c.objects.store) (g.S.OrderedStore.knows c.found.new.self) c.found.new.into.items
    (rw c.if-not-found.false at c.found.ensures.handed_out)

pub objects-preserved : goal.objects-preserved
objects-preserved g c = record {
  collecting = collecting_more c.args.spec.now c.args.limit (g.S.OrderedStore.knows c.args.store.now) (g.S.OrderedStore.knows c.objects.store)
      (g.S.OrderedStore.knows c.found.new.self) c.found.new.into.items c.found.result _ _ _ _ c.objects.invariant.collecting
      (ap (is_full c.args.limit) (sym c.len.ensures) ∙ sym c.is_full.ensures ∙ c.objects-test.true) c.if-not-found.false c.found.ensures.handed_out
      c.found.ensures.stays (rw c.in_ok-sift.was at c.sift.ensures);
  read = read_both g.S.OrderedStore.promises c.args.store.now c.objects.store c.found.new.self c.objects.invariant.read
      (read_once g.S.OrderedStore.promises HandsOut c.objects.store c.found.new.self refl c.found.ensures.promised);
}

pub returns-in_err-sift-clause-stays : goal.returns-in_err-sift-clause-stays
returns-in_err-sift-clause-stays g c = both_beside_run _ (g.S.OrderedStore.knows c.objects.store) _ c.objects.invariant.collecting.stays c.found.ensures.stays

pub returns-clause-collected : goal.returns-clause-collected
returns-clause-collected g c =
    collected_full c.args.spec.now c.args.limit (g.S.OrderedStore.knows c.args.store.now) (g.S.OrderedStore.knows c.objects.store)
    _ _ c.objects.invariant.collecting
    (ap (is_full c.args.limit) (sym c.len.ensures) ∙ sym c.is_full.ensures ∙ c.objects-test.false)

pub returns-clause-stays : goal.returns-clause-stays
returns-clause-stays g c = c.objects.invariant.collecting.stays

pub returns-then-not-found-clause-read : goal.returns-then-not-found-clause-read
returns-then-not-found-clause-read g c =
    read_both g.S.OrderedStore.promises c.args.store.now c.objects.store c.found.new.self c.objects.invariant.read
    (read_once g.S.OrderedStore.promises HandsOut c.objects.store c.found.new.self refl c.found.ensures.promised)

pub returns-in_err-sift-clause-read : goal.returns-in_err-sift-clause-read
returns-in_err-sift-clause-read g c =
    read_both g.S.OrderedStore.promises c.args.store.now c.objects.store c.found.new.self c.objects.invariant.read
    (read_once g.S.OrderedStore.promises HandsOut c.objects.store c.found.new.self refl c.found.ensures.promised)

pub returns-clause-read : goal.returns-clause-read
returns-clause-read g c = c.objects.invariant.read
