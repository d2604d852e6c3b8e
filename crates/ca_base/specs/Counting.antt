-- What calls count: the exchanges that they lost, and how often they found the pool's head empty or worn.
use Rattle.std.specs.Prelude.{◌≡◌, ℕ, ◌⊎◌, ◌+◌, ◌-◌, ◌<◌, ◌≤◌, min, List, [], ◌∷◌, ◌++◌, length, Result, Ok, Err, vec_len}
use Rattle.ca_model.specs.declared.outcome.Spent.{Spent}
use Rattle.ca_node.specs.Layout.{base_form, object_form}
use Rattle.ca_node.specs.Told.{MyTree}
use Rattle.ca_base.specs.declared.stop.Stop.{Stop}
use Rattle.ca_base.specs.declared.stop.Stop.TheVariants as stop
use Rattle.ca_rows.specs.declared.kept.Kept.{Kept}
use Rattle.ca_rows.specs.declared.kept.KeptRows.{KeptRows}
use Rattle.ca_rows.specs.Kept.{AreYoung, IsTakenOut}

-- how many exchanges a seat lost: of the pool's head, and of a link
abbrev pub losses : MyTree → ℕ
losses m = m.0.lost + m.0.upper.lost

-- The exchanges that were lost were added to what was spent, up to the last number that 32 bits hold. Their number was one of 32 bits before, too.
pub record IsSpent (before now : Spent) (m m' : MyTree) : Type 0 where
  pub more : losses m ≤ losses m'
  pub lost : before.lost ≤ 4294967295 → now.lost ≡ min 4294967295 (before.lost + (losses m' - losses m))
  pub helped : now.helped ≡ before.helped
  pub passed : now.passed ≡ before.passed

-- As a row was to be taken, the head was found so many times more empty, and so many times more with its tag at the last value.
abbrev pub HasMet : ℕ → ℕ → MyTree → MyTree → Type 0
HasMet empty worn m m' = (m'.0.empty ≡ m.0.empty + empty) × (m'.0.worn ≡ m.0.worn + worn)

-- This is why a try came to nothing: an exchange was lost, or the head was empty, or its tag could rise no more.
abbrev pub HasStoppedBy : Stop → MyTree → MyTree → Type 0
HasStoppedBy (stop.Lost exchange) m m' = (losses m < losses m') × HasMet 0 0 m m'
HasStoppedBy stop.Empty m m' = HasMet 1 0 m m'
HasStoppedBy stop.Worn m m' = HasMet 0 1 m m'

-- Where a try came to something no exchange was lost; else this is why it did not.
abbrev pub HasFound : {T : Type 0} → Result T Stop → MyTree → MyTree → Type 0
HasFound (Ok x) m m' = HasMet 0 0 m m' × (losses m' ≡ losses m)
HasFound (Err why) m m' = HasStoppedBy why m m'

-- For each of these forms in turn the kept row was taken that is to be taken again for it by the epoch which the pass announced, and where no row was that
-- old, none was taken for it. The others are kept still, in their order, and no more are.
abbrev pub TakesKept : ℕ → List ℕ → List Kept → List Kept → Type 0
TakesKept told [] ks left = left ≡ ks
TakesKept told (like ∷ likes) ks left = (next : List Kept)
    × (((row : ℕ) × IsTakenOut told like row ks next) ⊎ (AreYoung told ks × (next ≡ ks))) × TakesKept told likes next left

-- Rows that were held were put back, where these were kept already: each exchange that was lost by it is that of one row, which is kept now, too. So many
-- exchanges were lost by something else.
abbrev pub KeepsBack : ℕ → MyTree → MyTree → List Kept → KeptRows → Type 0
KeepsBack else m m' left kept' = (vec_len kept'.rows + losses m + else ≡ length left + losses m') × (losses m' ≤ losses m + else → kept'.rows.items ≡ left)

-- Rows were taken for these forms, kept ones first, and all were put back.
abbrev pub PutsBack : List ℕ → ℕ → MyTree → MyTree → KeptRows → KeptRows → Type 0
PutsBack likes else m m' kept kept' = (left : List Kept) × TakesKept m.0.pin.told likes kept.rows.items left × KeepsBack else m m' left kept'

-- how many exchanges were lost by a try itself that came to nothing
abbrev pub lost_by : Stop → ℕ
lost_by (stop.Lost exchange) = 1
lost_by stop.Empty = 0
lost_by stop.Worn = 0

-- The same of rows that were too few, by this cause: none of those that were left was old enough.
abbrev pub TakesTooFew : List ℕ → Stop → MyTree → MyTree → KeptRows → KeptRows → Type 0
TakesTooFew likes why m m' kept kept' = (left : List Kept) × TakesKept m.0.pin.told likes kept.rows.items left × AreYoung m.0.pin.told left
    × KeepsBack (lost_by why) m m' left kept'

-- Rows were taken for these forms, or too few, and those were put back.
abbrev pub HasPutBack : {T : Type 0} → List ℕ → Result T Stop → MyTree → MyTree → KeptRows → KeptRows → Type 0
HasPutBack likes (Ok x) m m' kept kept' = TakesKept m.0.pin.told likes kept.rows.items kept'.rows.items
HasPutBack likes (Err why) m m' kept kept' = TakesTooFew likes why m m' kept kept'

-- These rows are kept behind the others, as rows of this form.
abbrev pub KeepsMore : ℕ → List ℕ → List Kept → List Kept → Type 0
KeepsMore form [] ks ks' = ks' ≡ ks
KeepsMore form (row ∷ rows) ks ks' = (at : ℕ) × KeepsMore form rows (ks ++ record { row = row; at = at; form = form } ∷ []) ks'

-- A row that was held was put back; or that exchange was lost, and the row is kept behind the others, as one of this form.
abbrev pub KeepsLost : ℕ → ℕ → MyTree → MyTree → List Kept → List Kept → Type 0
KeepsLost form row m m' ks ks' = ((losses m' ≡ losses m) × (ks' ≡ ks)) ⊎ ((losses m' ≡ losses m + 1) × KeepsMore form (row ∷ []) ks ks')

-- The same of one that exchanges a base then: where it won, that base is kept behind the others, and these objects that went with it behind the base.
abbrev pub HasCleared : {T : Type 0} → List ℕ → ℕ → List ℕ → Result T Stop → MyTree → MyTree → KeptRows → KeptRows → Type 0
HasCleared likes base gone (Ok x) m m' kept kept' = (left : List Kept) × (next : List Kept) × TakesKept m.0.pin.told likes kept.rows.items left
    × KeepsMore base_form (base ∷ []) left next × KeepsMore object_form gone next kept'.rows.items
HasCleared likes base gone (Err why) m m' kept kept' = PutsBack likes (lost_by why) m m' kept kept'
