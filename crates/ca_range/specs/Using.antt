-- Which range has a base that a pass is to mark.
use Rattle.std.specs.Prelude.{◌≡◌, ℕ, Option, Result, Ok, Err}
use Rattle.ca_base.specs.Finding.{IsBaseShown}
use Rattle.ca_node.specs.Links.{IsIn}
use Rattle.ca_node.specs.Told.{IsSettled, with_upper}
use Rattle.ca_node.specs.TreeView.{Border, Note, TreeView}
use Rattle.ca_range.specs.Attempts.{HasFinishedJoin}
use Rattle.ca_range.specs.Filling.{IsInUse, IsUseOf, RemembersAll}
use Rattle.ca_range.specs.Marked.{IsOwnLast}
use Rattle.ca_range.specs.Staying.{OnlySteps}
use Rattle.ca_range.specs.declared.account.Range.{Range}
use Rattle.ca_range.specs.declared.helped.Helped.{Helped}
use Rattle.ca_range.specs.declared.using.Use.{Use}
use Rattle.ca_range.specs.declared.using.Use.TheVariants as using
use Rattle.ca_rows.specs.Passes.{KeepsList}
use Rattle.ca_rows.specs.declared.space.Pass.{Pass}
use Rattle.ca_rows.specs.declared.space.Space.{Space}

module _ {R : Type 0} where
  -- The pass learnt of ranges and of joins alone: it remembers the same bases and routes, and which base a walk came to last, carried out no join, and
  -- loaded no link.
  pub record OnlyLearns (space : Space R TreeView) (pass new : Pass R TreeView) : Type 0 where
    pub frame : KeepsList pass new
    pub raised : new.seat.me ≡ with_upper pass.seat.me new.seat.me.0.upper
    pub steps : OnlySteps space.table.shared.key 0 pass.seat.me.0.upper new.seat.me.0.upper
    pub all : RemembersAll pass.seat.me.0.upper new.seat.me.0.upper
    pub borders : (border : Border) → IsIn border pass.seat.me.0.upper.ranges.borders → IsIn border new.seat.me.0.upper.ranges.borders
    pub no_join : new.seat.me.0.upper.joins ≡ pass.seat.me.0.upper.joins
    pub last : new.seat.me.0.upper.last ≡ pass.seat.me.0.upper.last
    pub loads : new.seat.me.0.upper.loads ≡ pass.seat.me.0.upper.loads

  -- It found that of a base that it was shown.
  abbrev pub HasFoundOf : Space R TreeView → ℕ → (TreeView → Note → Type 0) → Pass R TreeView → Pass R TreeView → Type 0
  HasFoundOf space base Is pass new = OnlyLearns space pass new
      × ((note : Note) → IsBaseShown space.table.shared.key pass.seat.me.0.upper base note → Is new.seat.me.0.upper note)

  -- It found which range of another pass has the base, if one has; or an attempt to join that had it was to be finished, and came to this.
  abbrev pub HasFoundUse : Space R TreeView → ℕ → Result (Option Range) Helped → Pass R TreeView → Pass R TreeView → Type 0
  HasFoundUse space base (Ok range) pass new = HasFoundOf space base (λ u note. IsUseOf u note range) pass new
  HasFoundUse space base (Err helped) pass new = HasFinishedJoin space helped pass new

  -- No range has the base, as the pass knows; or one of its own; or this one of another pass, which was found unfinished; or so it is with an attempt to join.
  abbrev pub IsUsedBy : Space R TreeView → ℕ → Use → Pass R TreeView → Pass R TreeView → Type 0
  IsUsedBy space base using.Free pass new = HasFoundOf space base (λ u note. IsSettled u note.its) pass new
  IsUsedBy space base using.Own pass new = HasFoundOf space base IsOwnLast pass new
  IsUsedBy space base (using.Other range) pass new = HasFoundOf space base (λ u note. IsInUse u note range) pass new
  IsUsedBy space base (using.Gone helped) pass new = HasFinishedJoin space helped pass new
