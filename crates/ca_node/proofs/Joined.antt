-- Joins, once a link of the tree was exchanged on which a base hung that no join under way had.
use Rattle.std.proofs.Common.{◌≡◌, ◌≢◌, ℕ, ◌+◌, ◌*◌, ◌%◌, ◌<◌, List, get_or, set, sym, ap, ◌∙◌, subst, inr, ⊎_elim, arith}
use mathlib.Core.Option.{some, some-ne-none}
use lib.ListN.{get_elem?}
use Rattle.atomic_table.specs.Table.{State}
use Rattle.ca_model.specs.StoreMap.{StoreMap}
use Rattle.ca_rows.specs.declared.sizes.Sizes.{Sizes}
use Rattle.ca_rows.specs.declared.view.View.{View}
use Rattle.ca_node.specs.Attempts.{IsSecured, IsUnderWay, IsJoinWord}
use Rattle.ca_node.specs.Joining.{AreJoining, IsHung, IsJoining}
use Rattle.ca_node.specs.JoinsStay.{remembered_route, join_same, joining_goes_on, mark_hangs}
use Rattle.ca_node.specs.Links.{IsIn}
use Rattle.ca_node.specs.Marks.{IsMarkIn, IsMarkedUnder, AreJoined}
use Rattle.ca_node.specs.Place.{Span, Place}
use Rattle.ca_node.specs.Reached.{base_at, route_at, hung}
use Rattle.ca_node.specs.Row.{row_at, IsBaseRow, count, mark, mark_owner, mark_number, IsMarkedFor}
use Rattle.ca_node.specs.Shape.{Role, Out, Base, Route, place_of, LeadsTo, IsShape}
use Rattle.ca_node.specs.Told.{IsUnjoined}
use Rattle.ca_node.specs.Tree.{IsLinkOfView, IsTrue}
use Rattle.ca_node.specs.TreeView.{Note, Finished, TreeView}
use Rattle.ca_node.proofs.Looking.{R, knows_upper}
use Rattle.ca_node.proofs.Relinked.{IsRoute, relinked_here, relinked_else, relinked_joins, relinked_marks, relinked_row}
use Rattle.ca_rows.specs.Layout.{row_words}

-- An attempt is finished that marked a base which no join has, as a seat knows.
pub unjoined_over : (z : Sizes) (s : State (Unit {0}) (View TreeView)) (r : R z s) (id : ℕ) (d : View TreeView) → get_elem? s.views id ≡ some d
    → (its : List ℕ) → IsUnjoined d.upper its → (route attempt : ℕ) → IsMarkedFor its route attempt → ¬ IsUnderWay s.words route attempt
unjoined_over z s r id d at its unjoined route attempt m now = ⊎_elim
    (λ (n : mark its ≢ 2). n m.0)
    (λ (t : (y : Finished) × IsIn y d.upper.ranges.joins.finished × (mark_owner its ≡ y.route) × (mark_number its < y.below)).
    let less = t.3 in let same = m.2 in let over = ((knows_upper z s r id d at).joining.finished t.0 t.1).1 attempt (omega arith) in
    let here = subst (λ (c : ℕ). IsUnderWay s.words c attempt) (sym m.1 ∙ t.2) now in
    ⊎_elim (λ e. ⊎_elim (λ q. absurd (omega (arith, e, q))) (λ q. absurd (omega (arith, e, q))) here)
    (λ e. ⊎_elim (λ q. absurd (omega (arith, e, q))) (λ q. absurd (omega (arith, e, q))) here) over)
    unjoined

-- The link of what hangs there names another row then; no join under way has it, if it is a base.
module _ (z : Sizes) (words : List ℕ) (role : ℕ → Role) (m : StoreMap) (shape : IsShape z words role m) (old : ℕ) (place : Place)
    (is : place_of (role old) ≡ some place) (row : ℕ)
    (over : IsBaseRow (row_at words old) → (route attempt : ℕ) → IsMarkedFor (row_at words old) route attempt → ¬ IsUnderWay words route attempt) where
  abbrev words' : List ℕ
  words' = set words place.link row

  -- Another base under a link is there still, with the words that it had.
  child_keeps : (link least : ℕ) (span : Span) → LeadsTo words role link least span → IsBaseRow (row_at words (get_or words link 0)) → link ≢ place.link
      → row_at words' (get_or words' link 0) ≡ row_at words (get_or words link 0)
  child_keeps link least span l base ne = let c = get_or words link 0 in
      let h = hung z words role m shape c _ l.hangs in
      ap (row_at words') (relinked_else z words role m shape old place is row link ne)
      ∙ relinked_row z words role m shape old place is row c h.2 h.3
      (λ (t : IsRoute role c). let three = (route_at z words role m shape c t.0 t.1 t.2).is_route in omega arith)

  -- The link of a base that a secured join has isn't this one.
  other_link : (route attempt link : ℕ) → IsSecured words route attempt → IsMarkedUnder words route attempt link → link ≢ place.link
  other_link route attempt link now marked e = let here = ap (λ i. get_or words i 0) e ∙ (hung z words role m shape old place is).0 in
      over (subst (λ c. IsBaseRow (row_at words c)) here marked.0) route attempt
      (subst (λ c. IsMarkedFor (row_at words c) route attempt) here marked.1) (inr now)

  -- A secured join has under its route what it had.
  pub joined_keeps : AreJoining z words role → (route : ℕ) (p : Place) (key : List ℕ) (attempt : ℕ) → role route ≡ Route p key
      → IsSecured (set words place.link row) route attempt → AreJoined z (set words place.link row) route attempt
  joined_keeps joined route p key attempt e now =
      let before : IsSecured words route attempt = sym (relinked_joins z words role m shape old place is row route) ∙ now in
      let j = joined.secured route p key attempt e before in let at = route_at z words role m shape route p key e in
      let left = child_keeps (row_words * route + 1) _ _ at.left j.left.0 (other_link route attempt (row_words * route + 1) before j.left) in
      let right = child_keeps (row_words * route + 2) _ _ at.right j.right.0 (other_link route attempt (row_words * route + 2) before j.right) in record {
        left = subst (λ its. IsBaseRow its × IsMarkedFor its route attempt) (sym left) j.left;
        right = subst (λ its. IsBaseRow its × IsMarkedFor its route attempt) (sym right) j.right;
        few = let few = j.few in omega (arith, ap count left, ap count right);
      }

  pub states_keep : AreJoining z words role → (route : ℕ) (p : Place) (key : List ℕ) → role route ≡ Route p key
      → IsJoinWord (set words place.link row) route
  states_keep joined route p key e =
      subst (λ n. n % 4 < 3) (sym (relinked_joins z words role m shape old place is row route)) (joined.states route p key e)

  -- A seat knows of joins what it knew.
  pub joining_keeps : (u : TreeView) → ((note : Note) → IsIn note u.notes → IsLinkOfView u note.place.link)
      → ((note : Note) → IsIn note u.notes → IsTrue z.rows words role note) → IsJoining words u.notes u.ways u.ranges.joins
      → IsJoining (set words place.link row) u.notes u.ways u.ranges.joins
  joining_keeps u links trues = joining_goes_on words words' u.notes u.ways u.ranges.joins
      (λ route _. join_same words words' route (relinked_joins z words role m shape old place is row route))
      (λ note i route of. remembered_route u note.place.link route (links note i) of)
      (λ note i route attempt of marked now there. relinked_else z words role m shape old place is row note.place.link
      (λ e. let here = sym there ∙ (ap (λ k. get_or words k 0) e ∙ (hung z words role m shape old place is).0) in let t = trues note i in
      over (old_base note here t) route attempt (subst (λ c. IsMarkedFor (row_at words c) route attempt) here
      (subst (λ its. IsMarkedFor its route attempt) (sym t.spells) marked)) now) ∙ there)
    where
      -- A note is on a base, if what hangs there is what it is on.
      old_base : (note : Note) → note.row ≡ old → IsTrue z.rows words role note → IsBaseRow (row_at words old)
      old_base note same t = ⊎_elim
          (λ (e : role note.row ≡ Base note.place). subst (λ c. IsBaseRow (row_at words c)) same (base_at z words role m shape note.row note.place e).is_base)
          (λ (e : role note.row ≡ Out). absurd (some-ne-none place (sym is ∙ (ap (λ c. place_of (role c)) (sym same) ∙ ap place_of e))))
          t.stands

  -- The mark of a base that comes is one that hangs.
  pub new_hangs : (note : Note) → IsMarkIn words note.place note.its → note.place.link ≡ place.link → note.row ≡ row → (route attempt : ℕ)
      → IsMarkedFor note.its route attempt → IsHung (set words place.link row) note route attempt
  new_hangs note marked here same = mark_hangs words' note (relinked_marks z words role m shape old place is row note.place note.its marked)
      (ap (λ i. get_or words' i 0) here ∙ (relinked_here z words role m shape old place is row ∙ sym same))
