-- Which rows a pass keeps that finished a join, or found no row.
use Rattle.std.proofs.Common.{◌≡◌, ℕ, ◌+◌, ◌≤◌, List, [], ◌∷◌, length, Err, vec_len, sym, ◌∙◌, subst, arith}
use Rattle.ca_node.specs.Layout.{base_form}
use Rattle.ca_node.specs.Told.{MyTree}
use Rattle.ca_rows.specs.declared.kept.KeptRows.{KeptRows}
use Rattle.ca_rows.specs.declared.view.Pin.{Pin}
use Rattle.ca_base.specs.declared.stop.Exchange.TheVariants as exchange
use Rattle.ca_base.specs.declared.stop.Stop.{Stop}
use Rattle.ca_base.specs.declared.stop.Stop.TheVariants as stop
use Rattle.ca_base.specs.Counting.{losses, KeepsMore, PutsBack, TakesKept, TakesTooFew}
use Rattle.ca_base.proofs.Counts.{back_both, cleared_after, cleared_none, keeps_last, none_back}
use Rattle.ca_adapt.specs.declared.finishing.Finish.TheVariants as finish
use Rattle.ca_adapt.specs.declared.finishing.Union.{Union}
use Rattle.ca_adapt.specs.Finishing.{KeepsFinished, KeepsJoined, finish_by, route_form}

-- The exchange was lost, and then the row was put back.
pub kept_lost : (rows : Union) (m n l : MyTree) (kept kept' kept'' : KeptRows)
    → losses n ≡ losses m + 1 → losses n ≤ losses l → kept' ≡ kept
    → PutsBack [] 0 n l kept' kept'' → KeepsJoined rows m l kept kept''
kept_lost rows m n l kept kept' kept'' lost more same back = (
  λ none. absurd (omega arith),
  λ some. back_both [] 1 m n l kept kept' kept'' (omega arith) more
      (none_back 1 m n kept kept' lost same) back,
)

-- It won, and then three rows were retired.
pub kept_won : (rows : Union) (m l : MyTree) (kept a b d e : KeptRows)
    → losses l ≡ losses m → a ≡ kept
    → KeepsMore route_form (rows.attempt.route ∷ []) a.rows.items b.rows.items
    → KeepsMore base_form (rows.left ∷ []) b.rows.items d.rows.items
    → KeepsMore base_form (rows.right ∷ []) d.rows.items e.rows.items → KeepsJoined rows m l kept e
kept_won rows m l kept a b d e same still one two three = (
  λ none. (
    b.rows.items,
    subst (λ (k : KeptRows). KeepsMore route_form (rows.attempt.route ∷ []) k.rows.items
        b.rows.items) still one,
    keeps_last base_form (rows.left ∷ []) rows.right b.rows.items d.rows.items
        e.rows.items two three,
  ),
  λ some. absurd (omega arith),
)

-- Rows were put back, of one that had lost nothing before.
put_from : (likes : List ℕ) (a : ℕ) (m n l : MyTree) (kept kept' kept'' : KeptRows)
    → losses n ≡ losses m → n.0.pin ≡ m.0.pin → kept' ≡ kept
    → PutsBack likes a n l kept' kept'' → PutsBack likes a m l kept kept''
put_from likes a m n l kept kept' kept'' lost pin same p = (
  p.0,
  subst (λ (x : Pin × KeptRows). TakesKept x.0.told likes x.1.rows.items p.0)
      (λ i. (pin i, same i)) p.1,
  subst (λ (k : ℕ). (vec_len kept''.rows + k + a ≡ length p.0 + losses l)
      × (losses l ≤ k + a → kept''.rows.items ≡ p.0)) lost p.2,
)

-- There was no row.
pub kept_not : (route : ℕ) (why : Stop) (m n l : MyTree) (kept kept' kept'' : KeptRows)
    → losses n ≡ losses m → n.0.pin ≡ m.0.pin → kept' ≡ kept
    → TakesTooFew (base_form ∷ []) why n l kept' kept''
    → KeepsFinished route (finish_by why) m l kept kept''
kept_not route (stop.Lost x) m n l kept kept' kept'' lost pin same t =
    put_from (base_form ∷ []) 1 m n l kept kept' kept'' lost pin same
    (cleared_none (stop.Lost x) (base_form ∷ []) n l kept' kept'' t)
kept_not route stop.Empty m n l kept kept' kept'' lost pin same t =
    put_from (base_form ∷ []) 0 m n l kept kept' kept'' lost pin same
    (cleared_none stop.Empty (base_form ∷ []) n l kept' kept'' t)
kept_not route stop.Worn m n l kept kept' kept'' lost pin same t =
    put_from (base_form ∷ []) 0 m n l kept kept' kept'' lost pin same
    (cleared_none stop.Worn (base_form ∷ []) n l kept' kept'' t)

-- There was one, and then the exchange was made.
pub kept_then : (rows : Union) (m n k l : MyTree) (kept kept' taken taken' kept'' : KeptRows)
    → losses k ≡ losses m → n.0.pin ≡ m.0.pin → kept' ≡ kept
    → TakesKept n.0.pin.told (base_form ∷ []) kept'.rows.items taken.rows.items → taken' ≡ taken
    → KeepsJoined rows k l taken' kept''
    → KeepsFinished rows.attempt.route finish.Done m l kept kept''
kept_then rows m n k l kept kept' taken taken' kept'' lost pin same takes still joined = (
  λ none. let won = joined.0 (none ∙ sym lost) in (
    taken.rows.items,
    won.0,
    rows.left,
    rows.right,
    from,
    subst (λ (x : KeptRows). KeepsMore route_form (rows.attempt.route ∷ []) x.rows.items won.0)
        still won.1,
    won.2,
  ),
  λ some. cleared_after (Err (stop.Lost exchange.Link)) (base_form ∷ []) 0 [] m k l kept taken
      taken' kept'' lost from still
      (joined.1 (let e = lost in omega arith)),
)
  where
    from : TakesKept m.0.pin.told (base_form ∷ []) kept.rows.items taken.rows.items
    from = subst (λ (x : Pin × KeptRows). TakesKept x.0.told (base_form ∷ []) x.1.rows.items
        taken.rows.items) (λ i. (pin i, same i)) takes
