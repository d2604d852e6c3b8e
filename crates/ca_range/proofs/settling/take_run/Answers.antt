use Rattle.std.proofs.Common.{◌<◌, ℕ, true, sym, ap, ◌∙◌, subst}
use Rattle.ca_base.proofs.Counts.{met_both}
use Rattle.ca_node.specs.OwnRanges.{IsKnownEnded}
use Rattle.ca_node.specs.TreeView.{TreeView}
use Rattle.ca_node.proofs.Tallies.{tallied_still}
use Rattle.ca_range.specs.Snapshots.{HasRun, OnlyRanges}
use Rattle.ca_range.proofs.OwnEnds.{border_still, ended_met, lent_still}
use Rattle.ca_range.proofs.OwnTaken.{found_run, found_so}
use Rattle.ca_range.proofs.settling.take_run.Goals as goal

pub load_run-last-requires-clause-owner : goal.load_run-last-requires-clause-owner
load_run-last-requires-clause-owner g c = record {
  reading = record { own = c.requires.ready.own; pinned = c.requires.ready.pinned };
  same_number = sym c.requires.number;
  some_number = c.requires.ready.numbered.1;
  few = c.requires.ready.numbered.2;
}

pub load_run-last-requires-clause-marking : goal.load_run-last-requires-clause-marking
load_run-last-requires-clause-marking g c = let k = c.requires.between.marking in
    (k.begun, k.border, k.is, subst (λ (n : ℕ). IsKnownEnded c.args.pass.now.seat.me.0.upper n) (sym k.number_is) c.requires.over)

pub retire_border-requires-clause-own : goal.retire_border-requires-clause-own
retire_border-requires-clause-own g c = let z = c.args.space.now.table.shared.key in let m = c.args.pass.now.seat.me in
    let k = c.requires.between.marking in let l = c.load_run-last.ensures.loaded k.begun k.border k.is in
    let e = found_so z k.begun k.border l.0 m c.load_run-last.new.pass.seat.me c.requires.ready.own.1 c.requires.sizes.1 l.1 in
    (c.load_run-last.ensures.frame.same.0 ∙ c.requires.ready.own.0, e.sizes ∙ c.requires.ready.own.1)

pub retire_border-requires-clause-number : goal.retire_border-requires-clause-number
retire_border-requires-clause-number g c = let z = c.args.space.now.table.shared.key in let m = c.args.pass.now.seat.me in
    let k = c.requires.between.marking in let l = c.load_run-last.ensures.loaded k.begun k.border k.is in
    let e = found_so z k.begun k.border l.0 m c.load_run-last.new.pass.seat.me c.requires.ready.own.1 c.requires.sizes.1 l.1 in
    subst (λ (n : ℕ). 0 < n) (sym e.number) c.requires.ready.number

pub retire_border-requires-clause-quiet : goal.retire_border-requires-clause-quiet
retire_border-requires-clause-quiet g c = let z = c.args.space.now.table.shared.key in let m = c.args.pass.now.seat.me in
    let k = c.requires.between.marking in let l = c.load_run-last.ensures.loaded k.begun k.border k.is in
    (found_so z k.begun k.border l.0 m c.load_run-last.new.pass.seat.me c.requires.ready.own.1 c.requires.sizes.1 l.1).quiet

pub retire_border-requires-clause-border : goal.retire_border-requires-clause-border
retire_border-requires-clause-border g c = let z = c.args.space.now.table.shared.key in let m = c.args.pass.now.seat.me in
    let k = c.requires.between.marking in let l = c.load_run-last.ensures.loaded k.begun k.border k.is in
    let e = found_so z k.begun k.border l.0 m c.load_run-last.new.pass.seat.me c.requires.ready.own.1 c.requires.sizes.1 l.1 in
    border_still z m c.load_run-last.new.pass.seat.me c.args.own e k

pub retire_border-requires-clause-lent : goal.retire_border-requires-clause-lent
retire_border-requires-clause-lent g c = let z = c.args.space.now.table.shared.key in let m = c.args.pass.now.seat.me in
    let k = c.requires.between.marking in let l = c.load_run-last.ensures.loaded k.begun k.border k.is in
    let e = found_so z k.begun k.border l.0 m c.load_run-last.new.pass.seat.me c.requires.ready.own.1 c.requires.sizes.1 l.1 in
    lent_still z z.rows c.args.pass.now.kept c.load_run-last.new.pass.kept m c.load_run-last.new.pass.seat.me c.args.own e k
    c.load_run-last.ensures.frame.kept c.requires.ready.none

pub returns : goal.returns
returns g c = let z = c.args.space.now.table.shared.key in let m = c.args.pass.now.seat.me in let n = c.retire_border.new.pass.seat.me in
    let k = c.requires.between.marking in let l = c.load_run-last.ensures.loaded k.begun k.border k.is in let mid = c.load_run-last.new.pass.seat.me in
    let e = found_so z k.begun k.border l.0 m mid c.requires.ready.own.1 c.requires.sizes.1 l.1 in
    let s = c.retire_border.ensures.frame.same in let same = s.4 in record {
      frame = record {
        same = (s.0 ∙ c.load_run-last.ensures.frame.same.0, s.1 ∙ c.load_run-last.ensures.frame.same.1);
        number = c.retire_border.ensures.frame.number ∙ c.load_run-last.ensures.frame.number;
        tally = tallied_still c.args.pass.now.tally c.retire_border.new.pass.tally m.0.upper n.0.upper
            (c.retire_border.ensures.frame.tally ∙ c.load_run-last.ensures.frame.tally) (ap (λ (u : TreeView). u.splits) same ∙ e.splits)
            (ap (λ (u : TreeView). u.joins) same ∙ e.joins);
        pin = (s.2 ∙ e.sizes, s.3 ∙ e.pin);
        none = c.retire_border.ensures.none;
      };
      quiet = ap (λ (u : TreeView). u.ranges.own) same ∙ e.quiet;
      steps = subst (λ (u : TreeView). OnlyRanges z m.0.upper u) (sym same) e.only;
      unfinished = ap (λ (u : TreeView). u.ranges.unfinished) same ∙ e.unfinished;
      loads = ap (λ (u : TreeView). u.loads) same ∙ e.loads;
      still = (c.retire_border.ensures.met.0 ∙ e.lost, ap (λ (u : TreeView). u.turns) same ∙ e.turns);
      ended = (
        met_both 0 0 0 0 m mid n (ended_met z m mid e) c.retire_border.ensures.met.1,
        subst (λ (x : TreeView × ℕ). HasRun g.F.Fn c.args.sought.now z x.0 (record { last = x.1; chained = true; whole = true }))
            (λ i. (sym same i, l.2 i))
            (found_run g.F.Fn c.args.sought.now z l.0 m mid c.args.own c.requires.between c.requires.ready.own.1 c.requires.sizes.1 c.requires.sizes.0
            c.requires.known l.1),
      );
    }
