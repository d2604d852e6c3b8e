-- Rows that a seat holds, and rows that nobody claims.
use Rattle.std.proofs.Common.{◌≡◌, ℕ, ◌<◌, ◌≤◌, List, [], refl, sym, ◌∙◌, ⊎_elim, arith}
use Rattle.std.proofs.lemmas.Grind.{same_number_lists}
use mathlib.Core.Option.{some, none}
use lib.ListN.{get_elem?}
use Rattle.atomic_table.specs.Table.{State}
use Rattle.ca_rows.specs.declared.sizes.Sizes.{Sizes}
use Rattle.ca_rows.specs.declared.view.Claim.{Claim}
use Rattle.ca_rows.specs.declared.view.Claim.TheVariants.{Holds, Lends, Unlinked, Keeps}
use Rattle.ca_rows.specs.declared.view.View.{View}
use Rattle.ca_rows.specs.Account.{IsOut, IsClaim, IsRow}
use Rattle.ca_rows.specs.Chain.{Owner, Free, Linked, Of}
use Rattle.ca_rows.specs.Claims.{claim_of, claim_at}
use Rattle.ca_rows.specs.Rule.{NotedAt}
use Rattle.ca_rows.proofs.Claiming.{claim_there}
use Rattle.ca_rows.proofs.Steps.{owned}
use Rattle.ca_node.specs.Laws.{tree_frames}
use Rattle.ca_node.specs.Links.{IsLinked, IsLent, IsNoted}
use Rattle.ca_node.specs.Reached.{linked_range}
use Rattle.ca_node.specs.Row.{row_at}
use Rattle.ca_node.specs.Stays.{row_long, word_at}
use Rattle.ca_node.specs.Tree.{IsTree}
use Rattle.ca_node.specs.TreeView.{TreeView}
use Rattle.ca_model.specs.History.{after}
use Rattle.ca_node.proofs.Looking.{R}

module _ (z : Sizes) (s : State (Unit {0}) (View TreeView)) (r : R z s) (id : ℕ) (d : View TreeView)
    (at : get_elem? s.views id ≡ some d) where
  -- What the seat holds: a row in range, with these words, that nobody can reach or has a note on.
  pub held_row : (row : ℕ) (its : List ℕ) → claim_of d.claims row ≡ some (Holds its) → (0 < row)
      × (row ≤ z.rows) × (row_at s.words row ≡ its)
      × ¬ IsLinked s.words row
      × ((j : ℕ) (y : View TreeView) → get_elem? s.views j ≡ some y
      → ¬ IsNoted s.words y.upper row)
  held_row row its e =
      let o = owned IsLinked IsLent IsNoted IsTree tree_frames z s r id d at row (Holds its) e in
      let long = row_long s.words z.rows row r.wide o.1 in let long' = o.3.0 in (
        o.0,
        o.1,
        same_number_lists (row_at s.words row) its (long ∙ sym long')
            (λ k l. word_at s.words row k (omega arith) ∙ o.3.1 k (omega arith)),
        o.3.2.0,
        λ j y here n. o.3.2.1 y.pin.moment record {
          seat =
              j;
          d = y;
          here = here;
          note = n;
          at = refl;
        },
      )

  abbrev N : ℕ → ℕ → Type 0
  N = NotedAt IsNoted s.words s.views

  -- A row that is linked, and not lent, is nobody's.
  nobodys : (row : ℕ) (o : Owner) → IsLinked s.words row → ¬ IsLent s.words row
      → IsRow s.words (IsLinked s.words) (IsLent s.words) N (claim_at s.views) row o
      → claim_at s.views id row ≡ none
  nobodys row (Free k) l n w = absurd (w.0.0 l)
  nobodys row Linked l n w = w.2 id
  nobodys row (Of i) l n w = absurd (by w.0.0 w.0.2)
    where
      by : (c : Claim) → IsClaim s.words (IsLinked s.words) (IsLent s.words) N row c → ⊥
      by (Holds its) k = k.2.0 l
      by Lends k = ⊎_elim
          (λ b. n b)
          (λ (o : (age : ℕ) × IsOut s.words (IsLinked s.words) (IsLent s.words) N row age). o.1.0 l)
          k
      by Unlinked k = k.1.0 l
      by (Keeps t) k = k.3.0 l

  -- So the seat doesn't claim it.
  pub unclaimed_row : (row : ℕ) → IsLinked s.words row → ¬ IsLent s.words row
      → claim_of d.claims row ≡ none
  unclaimed_row row l n =
      let range =
      linked_range z s.words r.above.role (after r.above.history []) r.above.shape row l in
      sym (claim_there s.views id d d at row)
      ∙ nobodys row (r.owner row) l n (r.row row range.0 range.1)
