-- What an attempt comes to that helped another pass's range in place of its edit, or gave up or
-- carried out an attempt to join.
use Rattle.std.proofs.Common.{◌≡◌, ◌≢◌, ℕ, ◌+◌, true, false, List, Option, Result, Ok, Err, OnOk, refl, ap, inl, inr, arith}
use Rattle.ca_adapt.specs.declared.tuning.Tuning.{Tuning}
use Rattle.ca_base.specs.declared.stop.Exchange.TheVariants as exchange
use Rattle.ca_base.specs.Progress.{IsFurther}
use Rattle.ca_model.specs.declared.outcome.Spent.{Spent}
use Rattle.ca_model.specs.Event.{Event}
use Rattle.ca_node.specs.States.{IsAlone}
use Rattle.ca_node.specs.Told.{MyTree, IsKnown}
use Rattle.ca_node.specs.TreeView.{TreeView}
use Rattle.ca_range.specs.Clearing.{HasGone, HasHelpedWith, none_spent}
use Rattle.ca_range.specs.Filling.{links_lost}
use Rattle.ca_base.specs.Spending.{IsSpentOn}
use Rattle.ca_range.specs.declared.helped.Helped.{Helped}
use Rattle.ca_range.specs.declared.helped.Helped.TheVariants as helped
use Rattle.ca_replace.specs.declared.adapting.Adapting.{Adapting}
use Rattle.ca_replace.specs.declared.adapting.Course.{Course}
use Rattle.ca_replace.specs.declared.attempting.Halt.{Halt}
use Rattle.ca_replace.specs.declared.attempting.Halt.TheVariants as halt
use Rattle.ca_replace.specs.Adapting.{HasLostSince}
use Rattle.ca_replace.specs.Attempting.{HasHalted, IsPaid}
use Rattle.ca_replace.specs.Cutting.{HasCut}
use Rattle.ca_replace.specs.Turning.{HasEdited, course_helped, helped_to, noted_help, paid}
use Rattle.ca_rows.specs.declared.sizes.Sizes.{Sizes}
use Rattle.ca_rows.specs.declared.space.Pass.{Pass}
use Rattle.ca_rows.specs.declared.space.Space.{Space}
use Rattle.ca_replace.proofs.Loads.{loads_by_help}

-- What holds, holds where there is a value.
pub on_ok_too : {T E P : Type 0} (r : Result T E) → P → OnOk r P
on_ok_too (Ok value) p = p
on_ok_too (Err error) p = tt

-- What an attempt halted for; one that didn't, for any.
abbrev pub halt_of : Result (Unit {0}) Halt → Halt
halt_of (Ok done) = halt.Helped
halt_of (Err halted) = halted

-- It isn't for want of levels.
pub help_not_deep : (how : Helped) → helped_to how ≢ halt.Deep
help_not_deep helped.Finished e = cc
help_not_deep (helped.Lost exchange) e = cc
help_not_deep (helped.Busy spent) e = cc
help_not_deep helped.NoRow e = cc
help_not_deep (helped.Worn counter) e = cc

-- It split no base.
pub help_not_split : (how : Helped) → helped_to how ≢ halt.Split
help_not_split helped.Finished e = cc
help_not_split (helped.Lost exchange) e = cc
help_not_split (helped.Busy spent) e = cc
help_not_split helped.NoRow e = cc
help_not_split (helped.Worn counter) e = cc

-- This stopped the attempt.
halted_by : (how : Helped) (m m' : MyTree) → HasGone how m m' → HasHalted (helped_to how) m m'
halted_by helped.Finished m m' h = h
halted_by (helped.Lost exchange) m m' h = h
halted_by (helped.Busy spent) m m' h = h
halted_by helped.NoRow m m' h = h
halted_by (helped.Worn counter) m m' h = h

-- No base was split.
cut_by : {T : Type 0} (edits : T → _) (z : Sizes) (adds : Option (List ℕ)) (how : Helped)
    (u v : TreeView) → v.cuts ≡ u.cuts
    → HasCut edits z adds (Err (helped_to how)) u v
cut_by edits z adds helped.Finished u v h = h
cut_by edits z adds (helped.Lost exchange) u v h = h
cut_by edits z adds (helped.Busy spent) u v h = h
cut_by edits z adds helped.NoRow u v h = h
cut_by edits z adds (helped.Worn counter) u v h = h

-- Whether an exchange of a link was lost is kept.
lost_since : (how : Helped) (a : Adapting) (few many : ℕ) → many ≡ few + links_lost how
    → HasLostSince a.lost (noted_help how a).lost few many
lost_since helped.Finished a few many is = inl (refl, omega arith)
lost_since (helped.Lost exchange.Link) a few many is = inr (refl, omega arith)
lost_since (helped.Lost exchange.Head) a few many is = inl (refl, omega arith)
lost_since (helped.Busy spent) a few many is = inl (refl, omega arith)
lost_since helped.NoRow a few many is = inl (refl, omega arith)
lost_since (helped.Worn counter) a few many is = inl (refl, omega arith)

same_last : (how : Helped) (a : Adapting) → (noted_help how a).last ≡ a.last
same_last helped.Finished a = refl
same_last (helped.Lost exchange.Link) a = refl
same_last (helped.Lost exchange.Head) a = refl
same_last (helped.Busy spent) a = refl
same_last helped.NoRow a = refl
same_last (helped.Worn counter) a = refl

-- What was spent was added.
paid_help : (a more : Spent) (m m' : MyTree) → IsSpentOn none_spent more m m'
    → IsPaid a (paid a more) m m'
paid_help a more m m' s = let x = s.lost.more in let y = s.helped.more in let w = s.passed.more in
    record {
      more = s.lost.more;
      lost = λ fits. let is = s.lost.now_is (omega arith) in omega arith;
      more_helped = s.helped.more;
      helped = λ fits. let is = s.helped.now_is (omega arith) in omega arith;
      more_passed = s.passed.more;
      passed = λ fits. let is = s.passed.now_is (omega arith) in omega arith;
    }

module _ {R : Type 0} (space : Space R TreeView) (t : Tuning) (tells : Event → Type 0)
    (key : List ℕ) (adds : Option (List ℕ)) (a : Course) (how : Helped)
    (spent : Spent) (pass new : Pass R TreeView) (h : HasHelpedWith space how spent pass new)
    (known : IsKnown space.table.shared.key pass.seat.me.0.upper) where
  abbrev u : TreeView
  u = pass.seat.me.0.upper

  abbrev v : TreeView
  v = new.seat.me.0.upper

  -- A pass that is alone meets no other one.
  not_alone : ¬ IsAlone space.table.shared.key u
  not_alone alone = let one = alone.0 in let many = h.several known in omega arith

  further : IsFurther u v
  further = record {
    number = ap (λ (x : TreeView). x.number) h.steps.only;
    seen = h.steps.seen;
    log = ap (λ (x : TreeView). x.log) h.steps.only;
    counts = ap (λ (x : TreeView). x.counts) h.steps.only;
  }

  pub edited_by_help : HasEdited space t tells key adds true a (course_helped how spent a)
      (Err (helped_to how)) pass new
  edited_by_help = record {
    frame = h.frame;
    tried = (further, h.steps.known known);
    stays = (ap (λ (x : TreeView). x.since) h.steps.only, tt, λ e. let no : true ≡ false = e in cc);
    crowds = λ alone. absurd (not_alone alone);
    turn = record {
      met_as = tt;
      gone_on = (
        same_last how a.adapting,
        ap (λ (x : TreeView). x.renewal) h.steps.only,
        lost_since how a.adapting u.lost v.lost h.steps.lost_is,
        ap (λ (x : TreeView). x.tries) h.steps.only,
      );
      counted = paid_help a.spent spent pass.seat.me new.seat.me h.counted;
      found = halted_by how pass.seat.me new.seat.me h.gone;
      loads = loads_by_help space how spent pass new h;
      grown = λ alone. absurd (not_alone alone);
      won = λ alone. absurd (not_alone alone);
      cut = cut_by (λ (_ : Unit {0}). true) space.table.shared.key adds how u v
          (ap (λ (x : TreeView). x.cuts) h.steps.only);
    };
  }
