use Rattle.std.proofs.Common.{◌≡◌, ℕ, ap, subst, sym, ◌∙◌}
use Rattle.ca_node.specs.OwnRanges.{IsFoundSo, IsKnownEnded}
use Rattle.ca_node.specs.TreeView.{Begun}
use Rattle.ca_range.specs.Gathering.{HasLoadedRun}
use Rattle.ca_range.proofs.OwnEnds.{begun_of}
use Rattle.ca_range.proofs.OwnTaken.{last_in, loaded_by}
use Rattle.ca_range.proofs.settling.load_run.Goals as goal

pub returns-clause-loaded : goal.returns-clause-loaded
returns-clause-loaded c = λ begun border own. let w = c.load_own_status.ensures.found in let k = c.requires.marking in
    let m = c.args.pass.now.seat.me in let n = c.load_own_status.new.pass.seat.me in
    let same : k.0 ≡ begun = ap begun_of (sym k.2 ∙ own) in
    let l = loaded_by c.load_own_status.result m n w.0 begun border w.1 (subst (IsFoundSo m w.0 n) own w.2)
    (subst (λ (b : Begun). IsKnownEnded m.0.upper b.number) same k.3) in
    subst (λ (last : ℕ). HasLoadedRun begun border last m n) (sym (ap last_in (sym c.in-Decided.is ∙ l.1))) l.2

pub unreachable-requires : goal.unreachable-requires
unreachable-requires c = let w = c.load_own_status.ensures.found in let k = c.requires.marking in
    let m = c.args.pass.now.seat.me in let n = c.load_own_status.new.pass.seat.me in
    let l = loaded_by c.load_own_status.result m n w.0 k.0 k.1 w.1 (subst (IsFoundSo m w.0 n) k.2 w.2) k.3 in
    let wrong = sym c.in-Idle.is ∙ l.1 in cc

pub unreachable-requires-in-Active : goal.unreachable-requires-in-Active
unreachable-requires-in-Active c = let w = c.load_own_status.ensures.found in let k = c.requires.marking in
    let m = c.args.pass.now.seat.me in let n = c.load_own_status.new.pass.seat.me in
    let l = loaded_by c.load_own_status.result m n w.0 k.0 k.1 w.1 (subst (IsFoundSo m w.0 n) k.2 w.2) k.3 in
    let wrong = sym c.in-Active.is ∙ l.1 in cc
