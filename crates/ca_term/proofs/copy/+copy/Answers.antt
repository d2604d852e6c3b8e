use Rattle.std.proofs.Common.{◌≡◌, ◌∷◌, [], ◌++◌, arith, ap, sym, ◌∙◌, refl}
use Rattle.ca_term.specs.Tree.{Cons, nodes, depth}
use Rattle.ca_term.specs.View.{tree_of}
use Rattle.ca_term.specs.declared.term.Cell.{Cell}
use Rattle.ca_term.proofs.Cells.{kept_more, kept_last, IsKept}
use Rattle.ca_term.proofs.copy.+copy.Goals as goal

pub try_copy-loop-rest-preserved : goal.try_copy-loop-rest-preserved
try_copy-loop-rest-preserved t c =
    let here : Cons c.in-Cons.cell.value.head c.in-Cons.cell.value.tail ≡ c.loop-rest.rest.now = sym (ap tree_of c.in-Cons.is) ∙ c.rest.view_is in
    let kept : IsKept c.push.new.self.items c.in-Cons.cell.value.tail c.args.term.now =
    kept_more c.loop-rest.heads.items c.push.new.self.items c.in-Cons.cell.value.head c.rest.inside.depth c.in-Cons.cell.value.tail c.args.term.now c.loop-rest.rest.now
    c.loop-rest.invariant.kept here (c.rest.invariant.depth_is ∙ ap depth c.rest.view_is) (rw c.rest.view_is at c.rest.invariant.bounded)
    (c.in_ok-push.ensures.items ∙ (rw (c.in_ok-head.ensures.ok, c.deref.ensures) refl)) in
    record {
      kept = rw c.deref-in-Cons.ensures kept;
      fewer = omega (arith, ap (λ (x : Cell). nodes x.tail) c.deref-in-Cons.ensures, ap nodes here, c.loop-rest.invariant.fewer);
    }

pub try_copy-invariant_of-copy : goal.try_copy-invariant_of-copy
try_copy-invariant_of-copy t c =
    let popped : c.loop-head.heads.items ≡ c.pop.new.self.items ++ (c.in-Some.head, c.in-Some.depth) ∷ [] = rw (c.in-Some.is) at c.pop.ensures.items in
    let k = kept_last c.pop.new.self.items c.loop-head.heads.items c.in-Some.head c.in-Some.depth c.loop-head.copy c.args.term.now c.loop-head.invariant
    popped in
    record { depth_is = rw c.in_ok-cell.ensures.ok k.1; bounded = rw c.in_ok-cell.ensures.ok k.2 }

pub try_copy-loop-head-preserved : goal.try_copy-loop-head-preserved
try_copy-loop-head-preserved t c =
    let popped : c.loop-head.heads.items ≡ c.pop.new.self.items ++ (c.in-Some.head, c.in-Some.depth) ∷ [] = rw (c.in-Some.is) at c.pop.ensures.items in
    let k = kept_last c.pop.new.self.items c.loop-head.heads.items c.in-Some.head c.in-Some.depth c.loop-head.copy c.args.term.now c.loop-head.invariant
    popped in
    rw c.in_ok-cell.ensures.ok k.0
