-- Marks of both bases under a route, one behind the other.
use Rattle.std.proofs.Common.{◌≡◌, ℕ, suc, ◌+◌, min, List, ◌∷◌, Result, Ok, Err, sym, refl, ap, ◌∙◌, subst, arith}
use Rattle.ca_base.proofs.Spends.{rises_both}
use Rattle.ca_base.specs.Counting.{losses, IsSpent}
use Rattle.ca_base.specs.Putting.{stopped}
use Rattle.ca_base.specs.declared.stop.Exchange.TheVariants as exchange
use Rattle.ca_base.specs.declared.stop.Stop.{Stop}
use Rattle.ca_base.specs.declared.stop.Stop.TheVariants as stop
use Rattle.ca_model.specs.declared.outcome.Spent.{Spent}
use Rattle.ca_node.specs.Copies.{copy_note}
use Rattle.ca_node.specs.JoinSteps.{attempt_of}
use Rattle.ca_node.specs.Links.{IsIn}
use Rattle.ca_node.specs.Place.{Place}
use Rattle.ca_node.specs.Told.{MyTree, IsSettled, link_word}
use Rattle.ca_node.specs.TreeView.{KnownRanges, Note, TreeView}
use Rattle.ca_rows.specs.declared.sizes.Sizes.{Sizes}
use Rattle.ca_adapt.specs.Joins.{HasMarkedFor, last_on}
use Rattle.ca_adapt.specs.Pairs.{HasMarkedOne, IsMarkable, IsPair, Marks}
use Rattle.ca_adapt.specs.Trying.{IsJoinSteps, IsSpentTrying}
use Rattle.ca_adapt.specs.declared.joining.Attempt.{Attempt}
use Rattle.ca_adapt.specs.declared.marking.Pair.{Pair}
use Rattle.ca_adapt.proofs.LastOn.{behind}
use Rattle.ca_adapt.proofs.TrySteps.{no_steps}

pub no_marks : (u : TreeView) → Marks 0 u u
no_marks u = record { only = refl; passed = omega arith; helped = refl }

marks_stopped : (why : Stop) (u : TreeView) → Marks 0 u (stopped why u)
marks_stopped (stop.Lost exchange.Link) u =
    record { only = refl; passed = omega arith; helped = refl }
marks_stopped (stop.Lost exchange.Head) u = no_marks u
marks_stopped stop.Empty u = no_marks u
marks_stopped stop.Worn u = no_marks u

-- What one mark came to.
pub marked_one : (z : Sizes) (note : Note) (x : Attempt) (r : Result ℕ Stop) (u v : TreeView)
    → HasMarkedFor z note x r u v → HasMarkedOne z note x r u v
marked_one z note x (Ok row) u v c = (
  record {
    only = subst (λ (w : TreeView).
        w ≡ (record u { notes = w.notes; turns = w.turns; lost = w.lost; inventory = w.inventory }))
        (sym c.now) refl;
    passed = ap (λ (w : TreeView). w.turns.passed) c.now;
    helped = ap (λ (w : TreeView). w.turns.helped) c.now;
  },
  ap (λ (w : TreeView). w.lost) c.now,
  (
    copy_note row c.copy,
    ap (λ (w : TreeView). w.notes) c.now,
    record {
      row_is = refl;
      place_is = ap (λ (n : Note). n.place) c.old_is;
      is_base = c.is_base;
      marked = c.marked;
      count_is = c.count_is;
    },
  ),
)
marked_one z note x (Err why) u v e = subst (λ (w : TreeView). Marks 0 u w) (sym e)
    (marks_stopped why u)

pub marks_both : (a b : ℕ) (u v w : TreeView) → Marks a u v → Marks b v w → Marks (a + b) u w
marks_both a b u v w x y = let one = x.passed in let two = y.passed in record {
  only = y.only ∙ ap (λ (k : TreeView). record k
      { notes = w.notes; turns = w.turns; lost = w.lost; inventory = w.inventory }) x.only;
  passed = omega arith;
  helped = y.helped ∙ x.helped;
}

-- Behind one mark the other base may be marked still.
module _ (z : Sizes) (u v : TreeView) (pair : Pair) (note sibling copy : Note)
    (p : IsPair z u pair note sibling) (here : copy.place ≡ note.place)
    (marks : Marks 1 u v) (notes : v.notes ≡ copy ∷ u.notes) where
  abbrev ranges : v.ranges ≡ u.ranges
  ranges = ap (λ (w : TreeView). w.ranges) marks.only

  pub last_still : last_on (link_word pair.other.link) v.notes ≡ last_on
      (link_word pair.other.link) u.notes
  last_still = ap (λ (xs : List Note). last_on (link_word pair.other.link) xs) notes
      ∙ behind (link_word pair.other.link) copy u.notes
      (λ e. p.apart (sym p.one.at.link ∙ (ap (λ (k : Place). k.link) (sym here) ∙ e)))

  pub markable_still : IsMarkable z v pair.other pair.attempt sibling
  markable_still = record {
    shown = record {
      noted = subst (λ (xs : List Note). IsIn sibling xs) (sym notes)
          (suc p.other.shown.noted.0, p.other.shown.noted.1);
      here = p.other.shown.here;
      is_base = p.other.shown.is_base;
    };
    at = p.other.at;
    settled = subst (λ (w : TreeView). IsSettled w sibling.its) (sym marks.only) p.other.settled;
    is_link = p.other.is_link;
    begun = subst (λ (r : KnownRanges). IsIn (attempt_of pair.attempt.route pair.attempt.number)
        r.joins.begun) (sym ranges) p.other.begun;
  }

-- Marks are steps of a try.
pub marks_steps : (z : Sizes) (marks : ℕ) (u v : TreeView) → Marks marks u v → IsJoinSteps z u v
marks_steps z marks u v m = subst (λ (w : TreeView). IsJoinSteps z u w) (sym m.only) record {
  only = refl;
  seen = (no_steps z u).seen;
  known = λ k. record {
    lawful = k.lawful;
    past = k.past;
    edits = k.edits;
    enrolled =
        k.enrolled;
    by_passes = k.by_passes;
  };
}

-- What was spent, one after the other.
pub tried_both : (a b c : Spent) (k m n : MyTree) → IsSpentTrying a b k m → IsSpentTrying b c m n
    → IsSpentTrying a c k n
tried_both a b c k m n x y = record {
  lost = rises_both a.lost b.lost c.lost (losses k) (losses m) (losses n) x.lost y.lost;
  passed = rises_both a.passed b.passed c.passed k.0.upper.turns.passed m.0.upper.turns.passed
      n.0.upper.turns.passed x.passed y.passed;
  helped = y.helped ∙ x.helped;
}

-- Exchanges alone were lost, where no turn passed.
pub tried_lost : (a b : Spent) (m n : MyTree) → IsSpent a b m n
    → n.0.upper.turns.passed ≡ m.0.upper.turns.passed → IsSpentTrying a b m n
tried_lost a b m n x same = let kept = x.passed in record {
  lost = record { more = x.more; now_is = x.lost };
  passed = record { more = omega arith; now_is = λ fits. omega arith };
  helped = x.helped;
}

-- And so many turns passed.
pub tried_passed : (a b : Spent) (now : ℕ) (m n : MyTree) → IsSpent a b m n
    → n.0.upper.turns.passed ≡ m.0.upper.turns.passed + 1
    → now ≡ min 4294967295 (b.passed + 1) → IsSpentTrying a (record b { passed = now }) m n
tried_passed a b now m n x same is = let kept = x.passed in record {
  lost = record { more = x.more; now_is = x.lost };
  passed = record { more = omega arith; now_is = λ fits. omega arith };
  helped = x.helped;
}

pub tried_none : (a : Spent) (m n : MyTree) → losses n ≡ losses m
    → n.0.upper.turns.passed ≡ m.0.upper.turns.passed → IsSpentTrying a a m n
tried_none a m n lost same = record {
  lost = record { more = omega arith; now_is = λ fits. omega arith };
  passed = record { more = omega arith; now_is = λ fits. omega arith };
  helped = refl;
}
