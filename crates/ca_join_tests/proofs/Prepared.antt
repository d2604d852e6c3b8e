-- A pass that walked to a base remembers the route on whose link it hangs. It may begin an attempt to join, and mark the base for it.
use Rattle.std.proofs.Common.{◌≡◌, ℕ, ◌+◌, ◌*◌, ◌<◌, ◌≤◌, List, [], ◌∷◌, Option, None, Ok, false, refl, sym, ap, ◌∙◌, subst, inl, ⊎_elim, arith}
use Rattle.ca_adapt.specs.Joins.{HasBegunAt, last_on}
use Rattle.ca_adapt.specs.declared.joining.Attempt.{Attempt}
use Rattle.ca_adapt.proofs.LastOn.{first_on}
use Rattle.ca_base.specs.Finding.{IsAtCursor, IsBaseShown}
use Rattle.ca_base.specs.Readiness.{IsReady}
use Rattle.ca_node.specs.Joining.{IsRemembered}
use Rattle.ca_node.specs.JoinSteps.{attempt_of}
use Rattle.ca_node.specs.Links.{IsIn}
use Rattle.ca_node.specs.Place.{IsLinkOf}
use Rattle.ca_node.specs.Row.{mark}
use Rattle.ca_node.specs.Told.{MyTree, IsSettled, link_word, with_upper}
use Rattle.ca_node.specs.TreeView.{Note, Quiet, TreeView, Way}
use Rattle.ca_node.specs.Walking.{IsAbove, IsWalked}
use Rattle.ca_node.specs.declared.cursor.Cursor.{Cursor}
use Rattle.ca_node.specs.declared.cursor.Spot.{Spot}
use Rattle.ca_node.specs.declared.link.Link.{Link}
use Rattle.ca_range.proofs.JoinsFinished.{hung_above}
use Rattle.ca_range.proofs.Readied.{ready_reads, ready_still}
use Rattle.ca_range.proofs.Stepping.{steps_by_walk}
use Rattle.ca_replace.specs.Between.{MayBegin}
use Rattle.ca_rows.specs.Layout.{row_words}
use Rattle.ca_rows.specs.Passes.{KeepsList, OnlyReads}
use Rattle.ca_rows.specs.declared.sizes.Sizes.{Sizes}
use Rattle.ca_rows.specs.declared.space.Pass.{Pass}
use Rattle.ca_rows.specs.declared.space.Space.{Space}

pub remembered_above : (z : Sizes) (ways : List Way) (l : Link) (above : Option Link) (route : ℕ) → IsAbove z ways l above → IsLinkOf route (link_word l)
    → IsRemembered ways route
remembered_above z ways l above route a of = let h = hung_above z ways l above route a of in (h.2.way, h.2.remembered, h.2.row_is)

-- The route is within the table.
pub route_inside : (rows route l : ℕ) → IsLinkOf route l → l < row_words * rows + row_words → route ≤ rows
route_inside rows route l of inside = ⊎_elim (λ (e : l ≡ row_words * route + 1). omega arith) (λ (e : l ≡ row_words * route + 2). omega arith) of

-- A pass that pinned, walked to a base and loaded a word of it is ready, and has no operation under way that others may meet.
module _ {R : Type 0} (space : Space R TreeView) (pass new last : Pass R TreeView) (spot : Spot) (cursor : Cursor) (may : MayBegin space [] None false pass)
    (k : KeepsList pass new) (w : IsWalked space.table.shared.key spot pass.seat.me cursor new.seat.me) (r : OnlyReads new last) where
  pub walked_ready : IsReady space last
  walked_ready = ready_reads space new last (ready_still space pass new may.ready k
      (w.now ∙ ap (λ (x : MyTree). with_upper pass.seat.me x.0.upper) (sym w.now)) (steps_by_walk spot pass.seat.me new.seat.me cursor w)) r

  pub walked_quiet : last.seat.me.0.upper.ranges.own ≡ Quiet
  walked_quiet = ap (λ (x : MyTree). x.0.upper.ranges.own) r.still ∙ (ap (λ (x : MyTree). x.0.upper.ranges.own) w.now ∙ may.idle.quiet)

-- The base may be marked for an attempt that was begun then, of the route on whose link it hangs.
module _ (z : Sizes) (spot : Spot) (cursor : Cursor) (route : ℕ) (x : Attempt) (m m' n n' : MyTree) (w : IsWalked z spot m cursor m') (still : n ≡ m')
    (b : HasBegunAt route (Ok x) n n') where
  notes_are : n'.0.upper.notes ≡ w.note ∷ m.0.upper.notes
  notes_are = ap (λ (y : MyTree). y.0.upper.notes) b.2.5 ∙ (ap (λ (y : MyTree). y.0.upper.notes) b.2.2.now
      ∙ (ap (λ (y : MyTree). y.0.upper.notes) still ∙ ap (λ (y : MyTree). y.0.upper.notes) w.now))

  pub ways_are : n'.0.upper.ways ≡ m'.0.upper.ways
  ways_are = ap (λ (y : MyTree). y.0.upper.ways) b.2.5 ∙ (ap (λ (y : MyTree). y.0.upper.ways) b.2.2.now ∙ ap (λ (y : MyTree). y.0.upper.ways) still)

  last_is : last_on (link_word cursor.link) n'.0.upper.notes ≡ w.note
  last_is = ap (λ (notes : List Note). last_on (link_word cursor.link) notes) notes_are
      ∙ first_on (link_word cursor.link) w.note m.0.upper.notes w.cursor_is.link

  pub begun_shown : IsBaseShown z n'.0.upper cursor.base (last_on (link_word cursor.link) n'.0.upper.notes)
  begun_shown = subst (λ (y : Note). IsBaseShown z n'.0.upper cursor.base y) (sym last_is) record {
    noted = subst (λ (notes : List Note). IsIn w.note notes) (sym notes_are) (0, refl);
    here = w.cursor_is.base;
    is_base = w.is_base;
  }

  pub begun_at : IsAtCursor z (last_on (link_word cursor.link) n'.0.upper.notes) cursor
  begun_at = subst (λ (y : Note). IsAtCursor z y cursor) (sym last_is) record {
    base = w.cursor_is.base;
    link = w.cursor_is.link;
    level = w.cursor_is.level;
    inside = w.inside;
  }

  pub begun_settled : mark w.note.its ≡ 0 → IsSettled n'.0.upper (last_on (link_word cursor.link) n'.0.upper.notes).its
  begun_settled none = subst (λ (y : Note). IsSettled n'.0.upper y.its) (sym last_is) (
    inl (λ one. let e : mark w.note.its ≡ 1 = one in absurd (omega (arith, none, e))),
    inl (λ two. let e : mark w.note.its ≡ 2 = two in absurd (omega (arith, none, e))),
  )

  pub begun_link : IsLinkOf route (link_word cursor.link) → IsLinkOf x.route (last_on (link_word cursor.link) n'.0.upper.notes).place.link
  begun_link of = subst (λ (l : ℕ). IsLinkOf x.route l) (sym (ap (λ (y : Note). y.place.link) last_is ∙ w.cursor_is.link))
      (subst (λ (r : ℕ). IsLinkOf r (link_word cursor.link)) (sym b.0) of)

  pub begun_in : IsIn (attempt_of x.route x.number) n'.0.upper.ranges.joins.begun
  begun_in = subst (λ (y : MyTree). IsIn (attempt_of x.route x.number) y.0.upper.ranges.joins.begun) (sym b.2.5) (0, refl)
