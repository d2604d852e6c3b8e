-- Whoever ends an active range with one of its bases: the chain from there to the left has what the map has then, and goes on to have it.
use Rattle.std.proofs.Common.{◌≡◌, ℕ, true, List, [], ◌∷◌, ◌++◌, sym, refl, ap, ◌∙◌, subst, inl, inr, ⊎_elim}
use Rattle.ca_model.specs.Edges.{Bound, Included, Excluded, is_from, is_up_to, within}
use Rattle.ca_model.specs.StoreMap.{StoreMap}
use Rattle.ca_runs.specs.Runs.{IsAmong, Mark, Scene, IsMarked, Range, BeginsBefore, IsRun, Ends, range_of, AreRuns, AreApart, IsChain, joined, Shows}
use Rattle.ca_runs.proofs.Keeping.{of_run}

-- A run goes on to the left of each of its bases.
pub left_part : (s : Scene) (range : Range) (rows : List ℕ) (row : ℕ) → IsRun s range rows → IsAmong row rows
    → (rest : List ℕ) × IsRun s range (row ∷ rest)
left_part s range [] row run i = absurd i
left_part s range (x ∷ []) row run i = ⊎_elim
    (λ e. ([], subst (λ y. IsRun s range (y ∷ [])) (sym e) run)) (λ none. absurd none) i
left_part s range (x ∷ left ∷ rows) row run i = ⊎_elim
    (λ e. (left ∷ rows, subst (λ y. IsRun s range (y ∷ left ∷ rows)) (sym e) run))
    (λ j. left_part s range (left ∷ rows) row run.3 j) i

-- The rows of a run are the chain from the last one.
chain_of : (s : Scene) (range : Range) (row : ℕ) (rows : List ℕ) → IsRun s range (row ∷ rows) → IsChain s.mark row (row ∷ rows)
chain_of s range row [] run = (refl, run.0.some_row, run.1)
chain_of s range row (left ∷ rows) run = (
  refl,
  run.0.some_row,
  subst (λ y. IsChain s.mark y (left ∷ rows)) (sym run.1) (chain_of s range left rows run.3),
)

-- from where on the bases of a run have keys
abbrev first_bound : Scene → ℕ → List ℕ → Bound
first_bound s row [] = (s.keys row).low
first_bound s row (left ∷ rows) = first_bound s left rows

-- A key cuts what a map has within two bounds in two.
abbrev pub IsCutByKeys : StoreMap → Type 0
IsCutByKeys map = (low high : Bound) (key : List ℕ) → is_from low key ≡ true → is_up_to high key ≡ true
    → within low high map ≡ within low (Excluded key) map ++ within (Included key) high map

-- What is within a lower bound is within one that is as low.
abbrev pub IsChained : Type 0
IsChained = (low : Bound) (a b : List ℕ) → is_from low a ≡ true → is_from (Included a) b ≡ true → is_from low b ≡ true

module _ (s : Scene) (range : Range) (has : ℕ → StoreMap) (map : StoreMap) (apart : AreApart s) (cuts : IsCutByKeys map) (chained : IsChained)
    (each : (row : ℕ) → s.is_base row → has row ≡ within (s.keys row).low (s.keys row).high map) where
  -- The first base begins before the range's edge.
  begins_before : (row : ℕ) (rows : List ℕ) → IsRun s range (row ∷ rows) → BeginsBefore (first_bound s row rows) range.edge
  begins_before row [] run = run.2
  begins_before row (left ∷ rows) run = begins_before left rows run.3

  -- No base of a run ends before the first one begins.
  ends_behind : (row : ℕ) (rows : List ℕ) (key : List ℕ) → IsRun s range (row ∷ rows) → (s.keys row).high ≡ Excluded key
      → is_from (first_bound s row rows) key ≡ true
  ends_behind row [] key run e = apart.ends row key run.0.is_base e
  ends_behind row (left ∷ rows) key run e = chained (first_bound s left rows) run.2.0 key (ends_behind left rows run.2.0 run.3 run.2.1)
      (subst (λ bound. is_from bound key ≡ true) run.2.2 (apart.ends row key run.0.is_base e))

  -- The bases of a run have what the map has from where the first one begins to where the last one ends.
  joined_part : (row : ℕ) (rows : List ℕ) → IsRun s range (row ∷ rows)
      → joined has (row ∷ rows) ≡ within (first_bound s row rows) (s.keys row).high map
  joined_part row [] run = each row run.0.is_base
  joined_part row (left ∷ rows) run = let key = run.2.0 in
      let before : joined has (left ∷ rows) ≡ within (first_bound s left rows) (Excluded key) map =
      joined_part left rows run.3 ∙ ap (λ bound. within (first_bound s left rows) bound map) run.2.1 in
      let this : has row ≡ within (Included key) (s.keys row).high map =
      each row run.0.is_base ∙ ap (λ bound. within bound (s.keys row).high map) run.2.2 in
      ap (λ xs. xs ++ has row) before ∙ ap (λ xs. within (first_bound s left rows) (Excluded key) map ++ xs) this
      ∙ sym (cuts (first_bound s left rows) (s.keys row).high key (ends_behind left rows key run.3 run.2.1)
      (apart.begins row key run.0.is_base run.2.2))

  -- The chain from any base of a run shows the map from the range's edge on to where that base ends.
  pub run_shows : (rows : List ℕ) (row : ℕ) → IsRun s range rows → IsAmong row rows → Shows s.mark has s.is_base map range.edge (s.keys row).high row
  run_shows rows row run i = let part = left_part s range rows row run i in record {
    rows = row ∷ part.0;
    chain = chain_of s range row part.0 part.1;
    kept = λ x j. (of_run s range (row ∷ part.0) x part.1 j).is_base;
    low = first_bound s row part.0;
    before = begins_before row part.0 part.1;
    shown = joined_part row part.0 part.1;
  }

-- Whoever decides an active range, and with whichever of its bases: the chain shows the map as it is then.
pub decides : (s : Scene) (ends : ℕ → Ends) (has : ℕ → StoreMap) (map : StoreMap) → AreRuns s ends → AreApart s → IsCutByKeys map → IsChained
    → ((row : ℕ) → s.is_base row → has row ≡ within (s.keys row).low (s.keys row).high map)
    → (pass number row : ℕ) → s.is_active pass number → s.is_base row → IsMarked s row pass number
    → Shows s.mark has s.is_base map (ends pass).edge (s.keys row).high row
decides s ends has map runs apart cuts chained each pass number row now base marked =
    run_shows s (range_of ends pass number) has map apart cuts chained each (runs.run pass) row (runs.each pass number now)
    (runs.whole pass number row now base marked)

-- A chain stays one while its rows keep their marks.
chain_still : (mark mark' : ℕ → Mark) (row : ℕ) (rows : List ℕ) → ((x : ℕ) → IsAmong x rows → mark' x ≡ mark x) → IsChain mark row rows
    → IsChain mark' row rows
chain_still mark mark' row [] same chain = chain
chain_still mark mark' row (x ∷ rows) same chain = (
  chain.0,
  chain.1,
  chain_still mark mark' (mark' x).back rows (λ y i. same y (inr i))
      (subst (λ (m : Mark). IsChain mark m.back rows) (sym (same x (inl refl))) chain.2),
)

joined_still : (has has' : ℕ → StoreMap) (rows : List ℕ) → ((x : ℕ) → IsAmong x rows → has' x ≡ has x) → joined has' rows ≡ joined has rows
joined_still has has' [] same = refl
joined_still has has' (row ∷ rows) same = ap (λ xs. xs ++ has' row) (joined_still has has' rows (λ x i. same x (inr i)))
    ∙ ap (λ xs. joined has rows ++ xs) (same row (inl refl))

-- What a chain shows it still shows while its rows are kept with their marks and what they have.
pub shows_still : (mark mark' : ℕ → Mark) (has has' : ℕ → StoreMap) (is_kept is_kept' : ℕ → Type 0) (map : StoreMap) (edge high : Bound) (last : ℕ)
    → ((row : ℕ) → is_kept row → is_kept' row × (mark' row ≡ mark row) × (has' row ≡ has row))
    → Shows mark has is_kept map edge high last → Shows mark' has' is_kept' map edge high last
shows_still mark mark' has has' is_kept is_kept' map edge high last same shows = record {
  rows = shows.rows;
  chain = chain_still mark mark' last shows.rows (λ x i. (same x (shows.kept x i)).1) shows.chain;
  kept = λ row i. (same row (shows.kept row i)).0;
  low = shows.low;
  before = shows.before;
  shown = joined_still has has' shows.rows (λ x i. (same x (shows.kept x i)).2) ∙ shows.shown;
}
