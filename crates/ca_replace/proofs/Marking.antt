-- A look at the mark of the base that was shown last leaves all else that an attempt knows.
use Rattle.std.proofs.Common.{◌≡◌, ℕ, Bool, false, List, [], map, Result, sym, refl, ap, ◌∙◌, subst, inl}
use Rattle.ca_base.proofs.Fronted.{first_noted}
use Rattle.ca_base.specs.Progress.{IsFurther}
use Rattle.ca_base.specs.Putting.{first_note}
use Rattle.ca_model.specs.Places.{IsPlace}
use Rattle.ca_node.specs.declared.cursor.Cursor.{Cursor}
use Rattle.ca_node.specs.Laws.{starts_whole}
use Rattle.ca_node.specs.Row.{pair}
use Rattle.ca_node.specs.States.{IsUnanswered}
use Rattle.ca_node.specs.Tallied.{IsTallied}
use Rattle.ca_node.specs.Told.{MyTree, with_upper}
use Rattle.ca_node.specs.TreeView.{Note, KnownRanges, TreeView}
use Rattle.ca_range.specs.Clearing.{LearnsOfRanges}
use Rattle.ca_replace.specs.Attempting.{IsLooking, IsQuiet}
use Rattle.ca_replace.specs.Looking.{HasLooked}
use Rattle.ca_replace.proofs.Counted.{none_met}
use Rattle.ca_rows.specs.declared.sizes.Sizes.{Sizes}
use Rattle.ca_rows.specs.declared.space.Pass.{Pass}
use Rattle.ca_rows.specs.declared.space.Space.{Space}
use Rattle.ca_rows.specs.declared.tally.Tally.{Tally}
use Rattle.ca_rows.specs.Passes.{KeepsList}

-- The base is looked at still.
looking_still : (z : Sizes) (key : List ℕ) (cursor : Cursor) (u : TreeView) (ranges : KnownRanges)
    → IsLooking z u key cursor
    → IsLooking z (record u { ranges = ranges }) key cursor
looking_still z key cursor u ranges l = record {
  readable = record {
    noted = inl (first_noted z u cursor.base l.readable);
    here = l.readable.here;
    is_base = l.readable.is_base;
    few = l.readable.few;
    ordered = l.readable.ordered;
  };
  at = l.at;
  last = l.last;
  about = l.about;
  has = record { at = l.has.at; since = l.has.since; has = l.has.has; last = l.has.last };
  known = record {
    lawful = l.known.lawful;
    past = l.known.past;
    edits = l.known.edits;
    enrolled = l.known.enrolled;
    by_passes = l.known.by_passes;
  };
  listed = l.listed;
  shallow = l.shallow;
  few_rows = l.few_rows;
  begins = record { least = l.begins.least; is_link = l.begins.is_link; placed = l.begins.placed };
}

-- Nothing was lost or counted.
quiet_still : (m : MyTree) (ranges : KnownRanges)
    → IsQuiet m (with_upper m (record m.0.upper { ranges = ranges }))
quiet_still m ranges = record {
  lost = refl;
  met = none_met m;
  most = refl;
  splits_are = refl;
  same_turns = refl;
  idle = (refl, refl, refl);
  same_inventory = refl;
  same_cuts = refl;
}

module _ {R : Type 0} {pass new : Pass R TreeView} {marked : Bool} (keeps : KeepsList pass new)
    (l : LearnsOfRanges marked pass.seat.me new.seat.me) where
  abbrev u : TreeView
  u = pass.seat.me.0.upper

  pub same_note : first_note new.seat.me.0.upper.notes ≡ first_note u.notes
  same_note = ap (λ (x : MyTree). first_note x.0.upper.notes) l.3

  pub still_unmet : u.ranges.unfinished ≡ [] → marked ≡ false
      → new.seat.me.0.upper.ranges.unfinished ≡ u.ranges.unfinished
  still_unmet none e = ap (λ (x : MyTree). x.0.upper.ranges.unfinished) l.3 ∙ (l.1 e ∙ sym none)

  -- It is a look, like one that a walk begins with.
  pub marked_look : (space : Space R TreeView) (key : List ℕ) (cursor : Cursor) (found : Result ℕ ℕ)
      → IsLooking space.table.shared.key u key cursor
      → IsPlace (map pair (first_note u.notes).objects) key found → IsUnanswered u
      → HasLooked space key cursor found pass new
  marked_look space key cursor found looking place unanswered = record {
    same = keeps.same;
    number = keeps.number;
    tally = λ h. subst (λ (x : MyTree). IsTallied new.tally x.0.upper) (sym l.3)
        (subst (λ (t : Tally). IsTallied t u) (sym keeps.tally) h);
    kept = keeps.kept;
    own_range = ap (λ (x : MyTree). x.0.upper.ranges.own) l.3 ∙ l.2;
    still = (
      ap (λ (x : MyTree). x.0.sizes) l.3,
      ap (λ (x : MyTree). x.0.pin) l.3,
      ap (λ (x : MyTree). x.0.claims) l.3,
    );
    quiet = subst (IsQuiet pass.seat.me) (sym l.3) (quiet_still pass.seat.me l.0);
    looking = subst (λ (x : MyTree). IsLooking space.table.shared.key x.0.upper key cursor)
        (sym l.3)
        (looking_still space.table.shared.key key cursor u l.0 looking);
    place = subst (λ (n : Note). IsPlace (map pair n.objects) key found) (sym same_note) place;
    further = subst (λ (x : MyTree). IsFurther u x.0.upper) (sym l.3) record {
      number = refl;
      seen =
          starts_whole u.seen;
      log = refl;
      counts = refl;
    };
    since = ap (λ (x : MyTree). x.0.upper.since) l.3;
    unanswered = subst (λ (x : MyTree). IsUnanswered x.0.upper) (sym l.3) unanswered;
  }
