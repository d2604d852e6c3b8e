-- The bases that were shown last on links.
use Rattle.std.proofs.Common.{◌≡◌, ◌≢◌, ◌⊎◌, ℕ, Bool, cond, List, [], ◌∷◌, sym, refl, ap, ◌∙◌, subst, inl, inr, ⊎_elim, eq-eqb, ne_eqb}
use mathlib.Core.Logic.{dite}
use native.Mathlib.Decide.{ℕ_discrete}
use Rattle.ca_base.specs.Putting.{first_note}
use Rattle.ca_node.specs.Laws.{in_nothing}
use Rattle.ca_node.specs.Links.{IsIn}
use Rattle.ca_node.specs.Told.{MyTree, IsLastThere}
use Rattle.ca_node.specs.TreeView.{Note, TreeView}
use Rattle.ca_base.specs.Finding.{IsBaseShown}
use Rattle.ca_rows.specs.declared.sizes.Sizes.{Sizes}
use Rattle.ca_node.proofs.Looking.{in_more}
use Rattle.ca_adapt.specs.Joins.{last_on}

-- It is the one that was shown last, where that hangs there.
pub first_on : (link : ℕ) (note : Note) (notes : List Note) → note.place.link ≡ link
    → last_on link (note ∷ notes) ≡ note
first_on link note notes here = ap (λ (b : Bool). cond b note (last_on link notes))
    (eq-eqb note.place.link link here)

-- Where that hangs elsewhere, it is as before.
pub behind : (link : ℕ) (note : Note) (notes : List Note) → note.place.link ≢ link
    → last_on link (note ∷ notes) ≡ last_on link notes
behind link note notes away = ap (λ (b : Bool). cond b note (last_on link notes))
    (ne_eqb note.place.link link away)

pub shown_first : (link : ℕ) (notes : List Note) → (first_note notes).place.link ≡ link
    → last_on link notes ≡ first_note notes
shown_first link [] here = refl
shown_first link (note ∷ notes) here = first_on link note notes here

-- It is the last one of its link.
pub last_there : (link : ℕ) (notes : List Note) → IsIn (last_on link notes) notes
    → (last_on link notes).place.link ≡ link
    → IsLastThere (last_on link notes) notes
last_there link [] i here = absurd (in_nothing (last_on link []) [] refl i)
last_there link (note ∷ notes) i here = dite (ℕ_discrete note.place.link link)
    (λ e. inl (sym (first_on link note notes e)))
    (λ away. let same = behind link note notes away in
    subst (λ (x : Note). (note ≡ x) ⊎ ((note.place.link ≢ x.place.link) × IsLastThere x notes))
    (sym same) (inr (
      (λ e. away (e ∙ (ap (λ (x : Note). x.place.link) (sym same) ∙ here))),
      last_there link notes (further link note notes away same i here)
          (ap (λ (x : Note). x.place.link) (sym same) ∙ here),
    )))
  where
    further : (link : ℕ) (note : Note) (notes : List Note) → note.place.link ≢ link
        → last_on link (note ∷ notes) ≡ last_on link notes
        → IsIn (last_on link (note ∷ notes)) (note ∷ notes)
        → (last_on link (note ∷ notes)).place.link ≡ link → IsIn (last_on link notes) notes
    further link note notes away same i here = ⊎_elim
        (λ (e : note ≡ last_on link (note ∷ notes)). absurd
        (away (ap (λ (x : Note). x.place.link) e ∙ here)))
        (λ (j : IsIn (last_on link (note ∷ notes)) notes). subst (λ (x : Note). IsIn x notes) same
        j) (in_more note (last_on link (note ∷ notes)) notes i)

-- A base that was shown is shown still, where the same is known of the tree.
pub kept_shown : (z : Sizes) (m m' : MyTree) (base : ℕ) → m'.0.upper ≡ m.0.upper → (note : Note)
    → IsBaseShown z m.0.upper base note
    → IsBaseShown z m'.0.upper base note
kept_shown z m m' base same note shown = subst (λ (u : TreeView). IsBaseShown z u base note)
    (sym same) shown
