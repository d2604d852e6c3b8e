-- What became of a base that was to be split, by what became of its exchange.
use Rattle.std.proofs.Common.{◌≡◌, ◌≢◌, ℕ, [], length, Result, Ok, Err, sym, refl, subst, inl, inr}
use Rattle.ca_adapt.specs.declared.adapted.Adapted.{Adapted}
use Rattle.ca_adapt.specs.Splits.{HasSplitBack, IsOneTry, IsSplitOutcome, MayBeSplit, IsPoolsLoss, answer_to, attempts_at_first}
use Rattle.ca_base.specs.declared.stop.Exchange.TheVariants as exchange
use Rattle.ca_base.specs.declared.stop.Stop.{Stop}
use Rattle.ca_base.specs.declared.stop.Stop.TheVariants as stop
use Rattle.ca_base.specs.Counting.{HasCleared, HasFound}
use Rattle.ca_base.specs.Putting.{first_note}
use Rattle.ca_base.specs.Splitting.{HasSplit, split_forms}
use Rattle.ca_node.specs.Inventory.{IsListed}
use Rattle.ca_node.specs.Told.{MyTree}
use Rattle.ca_node.specs.States.{IsAlone}
use Rattle.ca_node.specs.TreeView.{Note}
use Rattle.ca_rows.specs.declared.kept.KeptRows.{KeptRows}
use Rattle.ca_rows.specs.declared.sizes.Sizes.{Sizes}

-- It was split where the exchange won; else there is the cause.
split_by : (z : Sizes) (note : Note) (r : Result (Unit {0}) Stop) (m m' : MyTree)
    → MayBeSplit z note
    → HasFound r m m'
    → HasSplit (length note.objects) (attempts_at_first z) r m.0.upper m'.0.upper
    → IsSplitOutcome z note (answer_to r) m m'
split_by z note (Ok x) m m' may ended split = (may, ended.0, split)
split_by z note (Err (stop.Lost exchange.Link)) m m' may ended split =
    (may, ended.0, ended.1, inr split)
split_by z note (Err (stop.Lost exchange.Head)) m m' may ended split =
    (may, ended.0, ended.1, inl split)
split_by z note (Err stop.Empty) m m' may ended split = (may, ended, split)
split_by z note (Err stop.Worn) m m' may ended split = (may, ended, split)

-- The same, where the objects were counted and the pass knew as much before.
pub split_as : (z : Sizes) (note : Note) (r : Result (Unit {0}) Stop) (a : Adapted)
    (many attempt : ℕ)
    (k m m' : MyTree) → m ≡ k → many ≡ length note.objects
    → attempt ≡ attempts_at_first z → a ≡ answer_to r → MayBeSplit z note → HasFound r m m'
    → HasSplit many attempt r m.0.upper m'.0.upper → IsSplitOutcome z note a k m'
split_as z note r a many attempt k m m' same are first is may ended split = subst
    (λ (x : Adapted). IsSplitOutcome z note x k m') (sym is)
    (subst (λ (x : MyTree). IsSplitOutcome z note (answer_to r) x m') same
    (split_by z note r m m' may ended
    (subst (λ (n : ℕ × ℕ). HasSplit n.0 n.1 r m.0.upper m'.0.upper) (λ i. (are i, first i)) split)))

-- Where the exchange of the base wasn't lost, that of the pool's head was.
pools_by : (r : Result (Unit {0}) Stop) (many attempt : ℕ) (m m' : MyTree)
    → r ≢ Err (stop.Lost exchange.Link)
    → HasSplit many attempt r m.0.upper m'.0.upper
    → IsPoolsLoss (answer_to r) m m'
pools_by (Ok x) many attempt m m' won split e = absurd cc
pools_by (Err (stop.Lost exchange.Link)) many attempt m m' won split e = absurd (won refl)
pools_by (Err (stop.Lost exchange.Head)) many attempt m m' won split e = split
pools_by (Err stop.Empty) many attempt m m' won split e = split
pools_by (Err stop.Worn) many attempt m m' won split e = split

-- The same, where the pass knew as much before.
pub pools_as : (z : Sizes) (r : Result (Unit {0}) Stop) (a : Adapted) (many attempt : ℕ)
    (k m m' : MyTree) → m ≡ k → a ≡ answer_to r
    → (IsAlone z m.0.upper → IsListed m.0.upper.inventory (first_note m.0.upper.notes)
    → r ≢ Err (stop.Lost exchange.Link))
    → HasSplit many attempt r m.0.upper m'.0.upper
    → IsAlone z k.0.upper → IsListed k.0.upper.inventory (first_note k.0.upper.notes)
    → IsPoolsLoss a k m'
pools_as z r a many attempt k m m' same is so split alone listed = subst
    (λ (x : Adapted). IsPoolsLoss x k m') (sym is)
    (subst (λ (x : MyTree). IsPoolsLoss (answer_to r) x m') same
    (pools_by r many attempt m m' (so here.0 here.1) split))
  where
    here : IsAlone z m.0.upper × IsListed m.0.upper.inventory (first_note m.0.upper.notes)
    here = subst (λ (x : MyTree). IsAlone z x.0.upper
        × IsListed x.0.upper.inventory (first_note x.0.upper.notes)) (sym same) (alone, listed)

-- A split that was carried out lost no exchange.
one_try : (r : Result (Unit {0}) Stop) (m m' : MyTree) → HasFound r m m'
    → IsOneTry (answer_to r) m m'
one_try (Ok x) m m' ended e = ended.1
one_try (Err (stop.Lost x)) m m' ended e = absurd cc
one_try (Err stop.Empty) m m' ended e = absurd cc
one_try (Err stop.Worn) m m' ended e = absurd cc

-- The rows of one that wasn't were put back.
put_back : (r : Result (Unit {0}) Stop) (base : ℕ) (m m' : MyTree) (kept kept' : KeptRows)
    → HasCleared split_forms base [] r m m' kept kept' → HasSplitBack (answer_to r) m m' kept kept'
put_back (Ok x) base m m' kept kept' h = tt
put_back (Err (stop.Lost x)) base m m' kept kept' h = h
put_back (Err stop.Empty) base m m' kept kept' h = h
put_back (Err stop.Worn) base m m' kept kept' h = h

-- The same, where the pass knew and kept as much before.
pub one_try_as : (r : Result (Unit {0}) Stop) (a : Adapted) (k m m' : MyTree) → m ≡ k
    → a ≡ answer_to r
    → HasFound r m m' → IsOneTry a k m'
one_try_as r a k m m' same is ended = subst (λ (x : Adapted). IsOneTry x k m') (sym is)
    (subst (λ (x : MyTree). IsOneTry (answer_to r) x m') same (one_try r m m' ended))

pub put_back_as : (r : Result (Unit {0}) Stop) (base : ℕ) (a : Adapted) (k m m' : MyTree)
    (kept kept0 kept' : KeptRows) → m ≡ k → kept0 ≡ kept → a ≡ answer_to r
    → HasCleared split_forms base [] r m m' kept0 kept' → HasSplitBack a k m' kept kept'
put_back_as r base a k m m' kept kept0 kept' same list is h = subst
    (λ (x : Adapted). HasSplitBack x k m' kept kept') (sym is)
    (subst (λ (x : MyTree × KeptRows). HasSplitBack (answer_to r) x.0 m' x.1 kept')
    (λ i. (same i, list i)) (put_back r base m m' kept0 kept' h))
