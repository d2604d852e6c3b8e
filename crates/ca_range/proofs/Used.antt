-- What a pass learns of a base that it is to mark, of ranges and of joins.
use Rattle.std.proofs.Common.{◌≡◌, ◌≢◌, ◌<◌, ◌≤◌, ℕ, Bool, List, Some, sym, ap, ◌∙◌, subst, inl, inr, arith}
use Rattle.ca_base.specs.Finding.{IsBaseShown}
use Rattle.ca_node.specs.Links.{IsIn}
use Rattle.ca_node.specs.Row.{mark, IsMarkedBy}
use Rattle.ca_node.specs.Told.{MyTree, IsSettled, HasWatched, active_of}
use Rattle.ca_node.specs.TreeView.{Note, TreeView}
use Rattle.ca_rows.specs.Passes.{KeepsList, OnlyReads}
use Rattle.ca_rows.specs.declared.space.Pass.{Pass}
use Rattle.ca_rows.specs.declared.space.Space.{Space}
use Rattle.ca_range.specs.Attempts.{HasFreed, LearnsOfJoins}
use Rattle.ca_range.specs.Filling.{IsInUse}
use Rattle.ca_range.specs.Marked.{IsOwnLast}
use Rattle.ca_range.specs.Using.{HasFoundOf, OnlyLearns}
use Rattle.ca_range.specs.declared.account.Range.{Range}
use Rattle.ca_range.proofs.JoinsEnded.{joined_all, joined_borders, joined_none, joined_raised, joined_steps}
use Rattle.ca_range.proofs.Learning.{keeps_then, no_join_then, raised_then, ranged_unjoined, reads_keep, steps_then}
use Rattle.ca_range.proofs.Watched.{is_active, met_by_word, over_now}
use Rattle.ca_range.proofs.WordsWatched.{borders_by_word}

module _ {R : Type 0} (space : Space R TreeView) (pass mid new : Pass R TreeView) (reads : OnlyReads pass mid) where
  abbrev u : TreeView
  u = pass.seat.me.0.upper

  -- No join has the base, and no range marked it.
  pub found_free : (base : ℕ) (helped : Bool) → HasFreed space base helped mid new
      → ((note : Note) → IsBaseShown space.table.shared.key u base note → mark note.its ≢ 1)
      → HasFoundOf space base (λ v note. IsSettled v note.its) pass new
  found_free base helped f unranged = let z = space.table.shared.key in let m = pass.seat.me in let n = new.seat.me in
      let l = subst (λ (x : MyTree). LearnsOfJoins helped x n) reads.still f.learnt in (
        record {
          frame = reads_keep reads f.frame;
          raised = joined_raised helped m n l;
          steps = joined_steps z helped m n l;
          all = joined_all helped m n l;
          borders = joined_borders helped m n l;
          no_join = joined_none helped m n l;
          last = ap (λ (x : MyTree). x.0.upper.last) l.1;
          loads = ap (λ (x : MyTree). x.0.upper.loads) l.1;
        },
        λ note s. (
          inl (unranged note s),
          f.unjoined note (subst (λ (x : MyTree). IsBaseShown z x.0.upper base note) (sym reads.still) s),
        ),
      )

  -- The word was loaded of the pass whose range marked it.
  module _ (range : Range) (word : ℕ) (keep : KeepsList mid new) (h : HasWatched range.owner mid.seat.me word new.seat.me) where
    pub only_watched : OnlyLearns space pass new
    only_watched = let z = space.table.shared.key in record {
      frame = keeps_then z pass mid new range.owner word reads keep h;
      raised = raised_then z pass mid new range.owner word reads keep h;
      steps = steps_then z pass mid new range.owner word reads keep h;
      all = record {
        notes = ap (λ (x : MyTree). x.0.upper.notes) h.now ∙ ap (λ (x : MyTree). x.0.upper.notes) reads.still;
        ways = ap (λ (x : MyTree). x.0.upper.ways) h.now ∙ ap (λ (x : MyTree). x.0.upper.ways) reads.still;
      };
      borders = λ border i. borders_by_word range.owner word mid.seat.me new.seat.me h border
          (subst (λ (x : MyTree). IsIn border x.0.upper.ranges.borders) (sym reads.still) i);
      no_join = no_join_then z pass mid new range.owner word reads keep h;
      last = ap (λ (x : MyTree). x.0.upper.last) h.now ∙ ap (λ (x : MyTree). x.0.upper.last) reads.still;
      loads = ap (λ (x : MyTree). x.0.upper.loads) h.now ∙ ap (λ (x : MyTree). x.0.upper.loads) reads.still;
    }

    -- That range isn't the one that is active.
    pub found_over : (base : ℕ) → ((note : Note) → IsBaseShown space.table.shared.key u base note → IsMarkedBy note.its range.owner range.number)
        → ¬ (active_of word ≡ Some range.number) → HasFoundOf space base (λ v note. IsSettled v note.its) pass new
    found_over base marked off = (
      only_watched,
      λ note s. let r = marked note s in
          let over = over_now range mid.seat.me new.seat.me word note h
          (subst (λ (x : MyTree). IsIn note x.0.upper.notes) (sym reads.still) s.noted) r off in (
            inr (over.0, over.1, r.1 ∙ sym over.2, subst (λ (n : ℕ). n < over.0.below) (sym r.2) over.3),
            ranged_unjoined new.seat.me.0.upper note.its r.0,
          ),
    )

    -- It is, and it is the pass's own.
    pub found_own : (base : ℕ) → ((note : Note) → IsBaseShown space.table.shared.key u base note → IsMarkedBy note.its range.owner range.number)
        → active_of word ≡ Some range.number → range.owner ≡ mid.seat.me.0.upper.number → HasFoundOf space base IsOwnLast pass new
    found_own base marked on own = let number = own ∙ sym (ap (λ (x : MyTree). x.0.upper.number) h.now) in (
      only_watched,
      λ note s. let r = marked note s in (
        r.0,
        r.1 ∙ number,
        λ other i mark owner. let here = h.begun other (subst (λ (ns : List Note). IsIn other ns) (ap (λ (x : MyTree). x.0.upper.notes) h.now) i) mark
            (owner ∙ sym number) in let last = (is_active word range.number on).1 in let same = r.2 in omega arith,
      ),
    )

    -- It is, and it isn't the pass's own.
    pub found_used : (base : ℕ) → ((note : Note) → IsBaseShown space.table.shared.key u base note
        → IsMarkedBy note.its range.owner range.number × (0 < range.owner) × (range.owner ≤ 64))
        → active_of word ≡ Some range.number → range.owner ≢ mid.seat.me.0.upper.number
        → HasFoundOf space base (λ v note. IsInUse v note range) pass new
    found_used base marked on other = (
      only_watched,
      λ note s. let r = marked note s in record {
        marked = r.0;
        unfinished = met_by_word range mid.seat.me new.seat.me word h on other;
        other = (r.1, r.2, λ own. other (own ∙ ap (λ (x : MyTree). x.0.upper.number) h.now));
      },
    )
