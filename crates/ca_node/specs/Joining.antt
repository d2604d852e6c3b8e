-- Joins in the tree: what a secured one has under its route, and that what each seat knows of joins is so.
use Rattle.std.specs.Prelude.{◌≡◌, ℕ, ◌<◌, List, slice_index}
use Rattle.ca_rows.specs.declared.sizes.Sizes.{Sizes}
use Rattle.ca_node.specs.Attempts.{HasAttempt, IsPrepared, IsSecured, IsUnderWay, IsFinished, IsJoinWord}
use Rattle.ca_node.specs.Links.{IsIn}
use Rattle.ca_node.specs.Marks.{AreJoined}
use Rattle.ca_node.specs.Place.{Place, IsLinkOf}
use Rattle.ca_node.specs.Row.{IsMarkedFor}
use Rattle.ca_node.specs.Shape.{Role, Route}
use Rattle.ca_node.specs.TreeView.{Note, Way, Attempt, Finished, KnownJoins}

-- Both bases under a route whose join is secured have its mark, and together no more items than a leaf may have. A base of the tree that has the mark of a
-- join hangs on a link of its route (`IsMarkIn`).
pub record AreJoining (z : Sizes) (words : List ℕ) (role : ℕ → Role) : Type 0 where
  pub secured : (route : ℕ) (place : Place) (key : List ℕ) (attempt : ℕ) → role route ≡ Route place key → IsSecured words route attempt
      → AreJoined z words route attempt
  pub states : (route : ℕ) (place : Place) (key : List ℕ) → role route ≡ Route place key → IsJoinWord words route

-- The route is one of those that a seat remembers.
abbrev pub IsRemembered : List Way → ℕ → Type 0
IsRemembered ways route = (way : Way) × IsIn way ways × (way.row ≡ route)

-- This attempt marked the base that the note is on, which hung on a link of the route; that link names it while the attempt is under way.
pub record IsHung (words : List ℕ) (note : Note) (route attempt : ℕ) : Type 0 where
  pub is_link : IsLinkOf route note.place.link
  pub begun : HasAttempt words route attempt
  pub hangs : IsUnderWay words route attempt → slice_index words note.place.link ≡ note.row

abbrev pub AreFinished : List ℕ → Finished → Type 0
AreFinished words x = (number : ℕ) → number < x.below → IsFinished words x.route number

-- What a seat with these notes, that remembers these routes, knows of joins is so.
pub record IsJoining (words : List ℕ) (notes : List Note) (ways : List Way) (joining : KnownJoins) : Type 0 where
  pub hung : (note : Note) → IsIn note notes → (route attempt : ℕ) → IsMarkedFor note.its route attempt → IsHung words note route attempt
  pub begun : (x : Attempt) → IsIn x joining.begun → IsRemembered ways x.route × HasAttempt words x.route x.number
  pub finished : (x : Finished) → IsIn x joining.finished → IsRemembered ways x.route × AreFinished words x
  pub secured : (x : Attempt) → IsIn x joining.secured → IsRemembered ways x.route × IsSecured words x.route x.number
  pub decided : (x : Attempt) → IsIn x joining.decided → IsRemembered ways x.route × HasAttempt words x.route x.number × ¬ IsPrepared words x.route x.number
