-- Bases that a pass which is alone marks: what it keeps, and that no exchange is lost.
use Rattle.std.proofs.Common.{◌≡◌, ◌≢◌, ◌<◌, ◌≤◌, ℕ, ◌+◌, List, [], ◌∷◌, take, drop, length, length-append, length-drop, vec_len, Result, Ok, Err, sym, ap, ◌∙◌, subst, ⊎_elim, arith}
use Rattle.std.proofs.lemmas.List.{length-take-le}
use Rattle.ca_base.specs.Counting.{losses, KeepsMore}
use Rattle.ca_base.specs.Crowded.{FindsCrowded, IsCrowded}
use Rattle.ca_base.specs.Putting.{first_note}
use Rattle.ca_base.specs.Taking.{TakesOldest, lent_of}
use Rattle.ca_base.specs.declared.stop.Stop.{Stop}
use Rattle.ca_base.specs.declared.stop.Stop.TheVariants as stop
use Rattle.ca_node.specs.Links.{IsIn}
use Rattle.ca_node.specs.States.{IsAlone}
use Rattle.ca_node.specs.Told.{MyTree}
use Rattle.ca_node.specs.TreeView.{TreeView}
use Rattle.ca_rows.specs.declared.kept.Kept.{Kept}
use Rattle.ca_rows.specs.declared.kept.KeptRows.{KeptRows}
use Rattle.ca_rows.specs.declared.sizes.Sizes.{Sizes}
use Rattle.ca_rows.specs.Kept.{AreYoung, IsTakenOut}
use Rattle.ca_rows.specs.Told.{IsOnly}
use Rattle.ca_range.specs.Lonely.{MarksAlone, as_many_marked}

-- No more rows are kept than before one was taken.
pub taken_fewer : (told like row : ℕ) (ks next : List Kept) → IsTakenOut told like row ks next → length next ≤ length ks
taken_fewer told like row ks next h = let inside = h.1.inside in let front = length-take-le h.0 ks (omega arith) in
    let back = length-drop (h.0 + 1) ks in let both = length-append (take h.0 ks) (drop (h.0 + 1) ks) in
    let all = ap (λ (l : List Kept). length l) h.3 in omega arith

pub takes_fewer : (r : Result ℕ Stop) (told like : ℕ) (kept kept' : KeptRows) → TakesOldest r told like kept.rows.items kept'.rows.items
    → vec_len kept'.rows ≤ vec_len kept.rows
takes_fewer r told like kept kept' h = let long = kept.rows.ok.0 in let long' = kept'.rows.ok.0 in
    ⊎_elim (λ (t : (row : ℕ) × (r ≡ Ok row) × IsTakenOut told like row kept.rows.items kept'.rows.items).
    let few = taken_fewer told like t.0 kept.rows.items kept'.rows.items t.2 in
    let some : vec_len kept'.rows ≤ vec_len kept.rows = omega arith in some)
    (λ (t : AreYoung told kept.rows.items × (kept'.rows.items ≡ kept.rows.items)). let same = ap (λ (l : List Kept). length l) t.1 in
    let none : vec_len kept'.rows ≤ vec_len kept.rows = omega arith in none) h

-- One more is kept than before.
pub keeps_one : (form row : ℕ) (kept kept' : KeptRows) → KeepsMore form (row ∷ []) kept.rows.items kept'.rows.items
    → vec_len kept'.rows ≡ vec_len kept.rows + 1
keeps_one form row kept kept' h = let it : Kept = record { row = row; at = h.0; form = form } in let long = kept.rows.ok.0 in
    let long' = kept'.rows.ok.0 in let both = length-append kept.rows.items (it ∷ []) in let all = ap (λ (l : List Kept). length l) h.1 in omega arith

-- The pass is the only one, as its seat knows.
pub only_one : (z : Sizes) (m : MyTree) → m.0.sizes ≡ z → 0 < z.rows → z.passes ≡ 1 → IsOnly m
only_one z m own rows one = subst (λ (y : Sizes). (0 < y.rows) × (y.passes ≡ 1)) (sym own) (rows, one)

-- All rows but few are the tree's, or are kept, where that is why a try came to nothing.
pub crowded_alone : {T : Type 0} (r : Result T Stop) (why : Stop) (z : Sizes) (m m' : MyTree) → r ≡ Err why → m.0.sizes ≡ z → 0 < z.rows
    → IsAlone z m.0.upper → FindsCrowded {T = ℕ} (Err why) m m' → r ≡ Err stop.Empty → IsCrowded m'
crowded_alone r (stop.Lost e) z m m' is own rows alone found empty = let no = sym is ∙ empty in absurd cc
crowded_alone r stop.Empty z m m' is own rows alone found empty = found (only_one z m own rows alone.0) alone.1
crowded_alone r stop.Worn z m m' is own rows alone found empty = let no = sym is ∙ empty in absurd cc

-- No row was had for the copy.
pub none_taken : {T : Type 0} (r : Result T Stop) (why : Stop) (z : Sizes) (told like : ℕ) (kept kept' : KeptRows) (m m' : MyTree) → r ≡ Err why
    → m.0.sizes ≡ z → 0 < z.rows → IsAlone z m.0.upper → (IsOnly m → losses m' ≡ losses m) → FindsCrowded {T = ℕ} (Err why) m m'
    → TakesOldest (Err why) told like kept.rows.items kept'.rows.items → MarksAlone r (vec_len kept.rows) (vec_len kept'.rows) m m'
none_taken r why z told like kept kept' m m' is own rows alone only found oldest = record {
  unlost = only (only_one z m own rows alone.0);
  keeps = let few = takes_fewer (Err why) told like kept kept' oldest in omega arith;
  lent = λ x e. let no = sym is ∙ e in absurd cc;
  crowded = crowded_alone r why z m m' is own rows alone found;
}

-- The copy was put in place behind other steps, or not.
pub marked_then : {T U : Type 0} (r : Result T Stop) (p : Result U Stop) (a b c : ℕ) (m l n : MyTree) → as_many_marked p ≡ as_many_marked r
    → ((x : T) → r ≡ Ok x → (y : U) × (p ≡ Ok y)) → (r ≡ Err stop.Empty → p ≡ Err stop.Empty) → b ≤ a → losses l ≡ losses m
    → l.0.upper ≡ m.0.upper → MarksAlone p b c l n → MarksAlone r a c m n
marked_then r p a b c m l n as_many won empty few lost same k = record {
  unlost = k.unlost ∙ lost;
  keeps = let one = k.keeps in omega arith;
  lent = λ x e. subst (λ (u : TreeView). (row : ℕ) → IsIn row (lent_of u.ranges.own) → row ≢ (first_note u.notes).row) same
      (k.lent (won x e).0 (won x e).1);
  crowded = λ e. k.crowded (empty e);
}
