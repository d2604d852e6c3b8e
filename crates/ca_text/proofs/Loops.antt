-- Reading one part after another, as a loop does.
use Rattle.std.proofs.Common.{◌≡◌, ℕ, suc, ◌-◌, ◌+◌, ◌<◌, ◌≤◌, Bool, true, false, List, [], ◌∷◌, ◌++◌, None, Some, Result, Ok, Err, refl, sym, ap, ◌∙◌, append_assoc, arith, add-one}
use Rattle.std.proofs.lemmas.List.{append-nil}
use Rattle.ca_text.specs.Bytes.{close_bracket}
use Rattle.ca_text.specs.declared.fault.Fault.{Fault}
use Rattle.ca_text.specs.declared.fault.Why.{Why}
use Rattle.ca_text.specs.declared.fault.Stop.{Stop}
use Rattle.ca_text.specs.declared.fault.Stop.TheVariants as stop
use Rattle.ca_text.specs.Grammar.{skip}
use Rattle.ca_text.specs.Inner.Reading.{◌>>=◌, Read, Fails, characters_at, next_point_at, closing_at, with_front, syntax_fault, series_at, expect, Head, Inner, Last, cell_step, cells_at, brackets_at, with_heads}
use Rattle.ca_term.specs.Tree.{Tree, Cons, list_of}
use Rattle.ca_term.proofs.Lists.{list_push}

regroup : {B : Type 0} (front xs : List B) (read : Read (List B)) → with_front front (with_front xs read) ≡ with_front (front ++ xs) read
regroup {B} front xs (Ok x) = ap (λ (cs : List B). Ok (cs, x.1)) (sym (append_assoc front xs x.0))
regroup front xs (Err f) = refl

abbrev listed : List Tree → Tree → Result (List ℕ) Fault → Read Tree
listed heads t r = ◌>>=◌ {B = Tree × List ℕ} r (λ rest. Ok (list_of heads t, rest))

bracketed_head : (heads : List Tree) (head t : Tree) (r : Result (List ℕ) Fault) → listed heads (Cons head t) r ≡ listed (heads ++ head ∷ []) t r
bracketed_head heads head t (Ok rest) = ap (λ (x : Tree). Ok (x, rest)) (sym (list_push heads head t))
bracketed_head heads head t (Err f) = refl

regroup_head : (heads : List Tree) (head : Tree) (owed : ℕ) (read : Read Tree)
    → with_heads heads owed (read >>= λ x. Ok (Cons head x.0, x.1)) ≡ with_heads (heads ++ head ∷ []) owed read
regroup_head heads head owed (Ok x) = bracketed_head heads head x.0 (brackets_at owed x.1)
regroup_head heads head owed (Err f) = refl

regroup_bracket : (heads : List Tree) (head t : Tree) (owed : ℕ) (r : Result (List ℕ) Fault)
    → with_heads heads owed (◌>>=◌ {B = Tree × List ℕ} r (λ after. Ok (Cons head t, after))) ≡ listed (heads ++ head ∷ []) t
    (r >>= λ rest. brackets_at owed rest)
regroup_bracket heads head t owed (Ok after) = bracketed_head heads head t (brackets_at owed after)
regroup_bracket heads head t owed (Err f) = refl

regroup_inner : (heads : List Tree) (head : Tree) (owed : ℕ) (read : Read Tree)
    → with_heads heads owed (read >>= λ x. ◌>>=◌ {B = Tree × List ℕ} (expect close_bracket (skip x.1)) (λ after. Ok (Cons head x.0, after))) ≡ with_heads
    (heads ++ head ∷ []) (suc owed) read
unfolding brackets_at
regroup_inner heads head owed (Ok x) = regroup_bracket heads head x.0 owed (expect close_bracket (skip x.1))
regroup_inner heads head owed (Err f) = refl

with_none : {B : Type 0} (read : Read (List B)) → with_front [] read ≡ read
with_none (Ok x) = refl
with_none (Err f) = refl

with_no_heads : (read : Read Tree) → with_heads [] 0 read ≡ read
unfolding brackets_at
with_no_heads (Ok x) = refl
with_no_heads (Err f) = refl

-- ---- loops, and what is left of them

-- a loop over code points has these behind it, and what is left comes to the whole
pub record PointsSoFar (over : Why) (close most limit i : ℕ) (front bytes : List ℕ) (total : Read (List ℕ)) : Type 0 where
  pub rest : with_front front (characters_at over close most (limit - i) bytes) ≡ total

-- A loop over code points begins with none.
pub points_start : (over : Why) (close most limit : ℕ) (bytes : List ℕ)
    → PointsSoFar over close most limit 0 [] bytes (characters_at over close most limit bytes)
points_start over close most limit bytes =
    record { rest = with_none (characters_at over close most (limit - 0) bytes) ∙ ap (λ n. characters_at over close most n bytes) (omega arith) }

module _ {over : Why} {close most limit i : ℕ} {front bytes : List ℕ} {total : Read (List ℕ)} (so_far : PointsSoFar over close most limit i front bytes total)
  where
    -- One code point more.
    pub points_go_on : {c : ℕ} {after : List ℕ} → i < limit → next_point_at close most bytes ≡ Ok (Some c, after)
        → PointsSoFar over close most limit (i + 1) (front ++ c ∷ []) after total
    unfolding characters_at
    points_go_on {c} {after} lt h =
        let k : limit - i ≡ suc (limit - (i + 1)) = omega arith in
        let one : with_front front (characters_at over close most (limit - i) bytes) ≡ with_front (front ++ c ∷ [])
        (characters_at over close most (limit - (i + 1)) after) = rw (k, h)
        (regroup front (c ∷ []) (characters_at over close most (limit - (i + 1)) after)) in
        record { rest = sym one ∙ so_far.rest }

    -- At the closing quote the loop has come to its code points.
    pub points_closed : {after : List ℕ} → i < limit → next_point_at close most bytes ≡ Ok (None, after) → total ≡ Ok (front, after)
    unfolding characters_at
    points_closed {after} lt h =
        let k : limit - i ≡ suc (limit - (i + 1)) = omega arith in
        let one : with_front front (characters_at over close most (limit - i) bytes) ≡ Ok (front, after) = rw (k, h, append-nil front) refl in
        sym so_far.rest ∙ one

    -- A fault of a code point is that of the loop.
    pub points_fail : (e : Stop) → i < limit → Fails e (next_point_at close most bytes) → Fails e total
    unfolding characters_at
    points_fail stop.NoMemory lt h = tt
    points_fail (stop.At f) lt h =
        let k : limit - i ≡ suc (limit - (i + 1)) = omega arith in
        let one : with_front front (characters_at over close most (limit - i) bytes) ≡ Err f = rw (k, h) refl in
        sym so_far.rest ∙ one

    -- Behind as many code points as may stand the closing quote ends the loop.
    pub points_end : {after : List ℕ} → limit ≤ i → closing_at over close most bytes ≡ Ok after → total ≡ Ok (front, after)
    unfolding characters_at
    points_end {after} le h =
        let k : limit - i ≡ 0 = omega arith in
        let one : with_front front (characters_at over close most (limit - i) bytes) ≡ Ok (front, after) = rw (k, h, append-nil front) refl in
        sym so_far.rest ∙ one

    -- A fault of the closing quote is that of the loop.
    pub points_end_fail : (e : Stop) → limit ≤ i → Fails e (closing_at over close most bytes) → Fails e total
    unfolding characters_at
    points_end_fail stop.NoMemory le h = tt
    points_end_fail (stop.At f) le h =
        let k : limit - i ≡ 0 = omega arith in
        let one : with_front front (characters_at over close most (limit - i) bytes) ≡ Err f = rw (k, h) refl in
        sym so_far.rest ∙ one

-- a loop over parts has these behind it, and what is left comes to the whole
pub record SeriesSoFar {B : Type 0} (step : ℕ → List ℕ → Read (List B × Bool)) (limit i : ℕ) (front : List B) (bytes : List ℕ) (total : Read (List B)) : Type 0
  where
    pub rest : with_front front (series_at step (limit - i) bytes) ≡ total

-- A loop over parts begins with none.
pub series_start : {B : Type 0} (step : ℕ → List ℕ → Read (List B × Bool)) (limit : ℕ) (bytes : List ℕ)
    → SeriesSoFar step limit 0 [] bytes (series_at step limit bytes)
series_start step limit bytes = record { rest = with_none (series_at step (limit - 0) bytes) ∙ ap (λ n. series_at step n bytes) (omega arith) }

module _ {B : Type 0} {step : ℕ → List ℕ → Read (List B × Bool)} {limit i : ℕ} {front : List B} {bytes : List ℕ} {total : Read (List B)}
    (so_far : SeriesSoFar step limit i front bytes total) where
  -- One part more.
  pub series_goes_on : {xs : List B} {after : List ℕ} → i < limit → step (limit - (i + 1)) bytes ≡ Ok ((xs, true), after)
      → SeriesSoFar step limit (i + 1) (front ++ xs) after total
  unfolding series_at
  series_goes_on {xs} {after} lt h =
      let k : limit - i ≡ suc (limit - (i + 1)) = omega arith in
      let one : with_front front (series_at step (limit - i) bytes) ≡ with_front (front ++ xs) (series_at step (limit - (i + 1)) after) =
      rw (k, h) (regroup front xs (series_at step (limit - (i + 1)) after)) in
      record { rest = sym one ∙ so_far.rest }

  -- At the last part the loop has come to its parts.
  pub series_closed : {xs : List B} {after : List ℕ} → i < limit → step (limit - (i + 1)) bytes ≡ Ok ((xs, false), after) → total ≡ Ok (front ++ xs, after)
  unfolding series_at
  series_closed {xs} {after} lt h =
      let k : limit - i ≡ suc (limit - (i + 1)) = omega arith in
      let one : with_front front (series_at step (limit - i) bytes) ≡ Ok (front ++ xs, after) = rw (k, h) refl in
      sym so_far.rest ∙ one

  -- A fault of a part is that of the loop.
  pub series_fails : (e : Stop) → i < limit → Fails e (step (limit - (i + 1)) bytes) → Fails e total
  unfolding series_at
  series_fails stop.NoMemory lt h = tt
  series_fails (stop.At f) lt h =
      let k : limit - i ≡ suc (limit - (i + 1)) = omega arith in
      let one : with_front front (series_at step (limit - i) bytes) ≡ Err f = rw (k, h) refl in
      sym so_far.rest ∙ one

  -- A loop over no further parts comes to a fault.
  pub series_ends : limit ≤ i → total ≡ syntax_fault bytes
  unfolding series_at
  series_ends le =
      let k : limit - i ≡ 0 = omega arith in
      let one : with_front front (series_at step (limit - i) bytes) ≡ syntax_fault bytes = rw k refl in
      sym so_far.rest ∙ one

-- a loop over heads has these behind it, with so many brackets owed, and what is left comes to the whole
pub record CellsSoFar (element other : List ℕ → Read Tree) (limit i owed : ℕ) (heads : List Tree) (bytes : List ℕ) (total : Read Tree) : Type 0 where
  pub rest : with_heads heads owed (cells_at element other (limit - i) bytes) ≡ total
  pub few : owed ≤ i

-- A loop over heads begins with none, and no bracket is owed.
pub cells_start : (element other : List ℕ → Read Tree) (limit : ℕ) (bytes : List ℕ)
    → CellsSoFar element other limit 0 0 [] bytes (cells_at element other limit bytes)
cells_start element other limit bytes =
    record { rest = with_no_heads (cells_at element other (limit - 0) bytes) ∙ ap (λ n. cells_at element other n bytes) (omega arith); few = omega arith }

module _ {element other : List ℕ → Read Tree} {limit i owed : ℕ} {heads : List Tree} {bytes : List ℕ} {total : Read Tree}
    (so_far : CellsSoFar element other limit i owed heads bytes total) where
  -- A fault of a cell is that of the loop.
  pub cells_fail : (e : Stop) → i < limit → Fails e (cell_step element other bytes) → Fails e total
  unfolding cells_at
  cells_fail stop.NoMemory lt h = tt
  cells_fail (stop.At f) lt h =
      let k : limit - i ≡ suc (limit - (i + 1)) = omega arith in
      let one : with_heads heads owed (cells_at element other (limit - i) bytes) ≡ Err f = rw (k, h) refl in
      sym so_far.rest ∙ one

  -- A loop over no further cells comes to a fault.
  pub cells_end : limit ≤ i → total ≡ syntax_fault bytes
  unfolding cells_at
  cells_end le =
      let k : limit - i ≡ 0 = omega arith in
      let one : with_heads heads owed (cells_at element other (limit - i) bytes) ≡ syntax_fault bytes = rw k refl in
      sym so_far.rest ∙ one

  -- One head more.
  pub head_follows : {head : Tree} {after : List ℕ} → i < limit → cell_step element other bytes ≡ Ok (head, Head after)
      → CellsSoFar element other limit (i + 1) owed (heads ++ head ∷ []) after total
  unfolding cells_at
  head_follows {head} {after} lt h =
      let k : limit - i ≡ suc (limit - (i + 1)) = omega arith in
      let one : with_heads heads owed (cells_at element other (limit - i) bytes) ≡ with_heads (heads ++ head ∷ []) owed
      (cells_at element other (limit - (i + 1)) after) = rw (k, h) (regroup_head heads head owed (cells_at element other (limit - (i + 1)) after)) in
      record { rest = sym one ∙ so_far.rest; few = omega (arith, so_far.few) }

  -- A head and a list behind a bar: one bracket more is owed.
  pub inner_follows : {head : Tree} {after : List ℕ} → i < limit → cell_step element other bytes ≡ Ok (head, Inner after)
      → CellsSoFar element other limit (i + 1) (owed + 1) (heads ++ head ∷ []) after total
  unfolding cells_at
  inner_follows {head} {after} lt h =
      let k : limit - i ≡ suc (limit - (i + 1)) = omega arith in
      let one : with_heads heads owed (cells_at element other (limit - i) bytes) ≡ with_heads (heads ++ head ∷ []) (owed + 1)
      (cells_at element other (limit - (i + 1)) after) = rw (k, h, add-one owed)
      (regroup_inner heads head owed (cells_at element other (limit - (i + 1)) after)) in
      record { rest = sym one ∙ so_far.rest; few = omega (arith, so_far.few) }

  -- At a last tail the loop has come to its list.
  pub last_follows : {head tail : Tree} {after : List ℕ} → i < limit → cell_step element other bytes ≡ Ok (head, Last tail after)
      → total ≡ with_heads (heads ++ head ∷ []) owed (Ok (tail, after))
  unfolding cells_at
  last_follows {head} {tail} {after} lt h =
      let k : limit - i ≡ suc (limit - (i + 1)) = omega arith in
      let one : with_heads heads owed (cells_at element other (limit - i) bytes) ≡ with_heads (heads ++ head ∷ []) owed (Ok (tail, after)) =
      rw (k, h) (regroup_head heads head owed (Ok (tail, after))) in
      sym so_far.rest ∙ one

-- a loop over closing brackets has so many behind it, and what is left comes to the whole
pub record BracketsSoFar (owed i : ℕ) (bytes : List ℕ) (total : Result (List ℕ) Fault) : Type 0 where
  pub rest : brackets_at (owed - i) bytes ≡ total

-- A loop over closing brackets begins with none.
pub brackets_start : (owed : ℕ) (bytes : List ℕ) → BracketsSoFar owed 0 bytes (brackets_at owed bytes)
brackets_start owed bytes = record { rest = ap (λ n. brackets_at n bytes) (omega arith) }

module _ {owed i : ℕ} {bytes : List ℕ} {total : Result (List ℕ) Fault} (so_far : BracketsSoFar owed i bytes total) where
  -- A fault of a closing bracket is that of the loop.
  pub brackets_fail : (e : Stop) → i < owed → Fails e (expect close_bracket (skip bytes)) → Fails e total
  unfolding brackets_at
  brackets_fail stop.NoMemory lt h = tt
  brackets_fail (stop.At f) lt h =
      let k : owed - i ≡ suc (owed - (i + 1)) = omega arith in
      let one : brackets_at (owed - i) bytes ≡ Err f = rw (k, h) refl in
      sym so_far.rest ∙ one

  -- One closing bracket more.
  pub brackets_go_on : {after : List ℕ} → i < owed → expect close_bracket (skip bytes) ≡ Ok after → BracketsSoFar owed (i + 1) after total
  unfolding brackets_at
  brackets_go_on {after} lt h =
      let k : owed - i ≡ suc (owed - (i + 1)) = omega arith in
      let one : brackets_at (owed - i) bytes ≡ brackets_at (owed - (i + 1)) after = rw (k, h) refl in
      record { rest = sym one ∙ so_far.rest }

  -- Behind the brackets that were owed the loop ends.
  pub brackets_end : owed ≤ i → total ≡ Ok bytes
  unfolding brackets_at
  brackets_end le =
      let k : owed - i ≡ 0 = omega arith in
      let one : brackets_at (owed - i) bytes ≡ Ok bytes = rw k refl in
      sym so_far.rest ∙ one
