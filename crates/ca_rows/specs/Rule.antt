-- The rule of the rows, which holds between any two steps.
use Rattle.std.specs.Prelude.{◌≡◌, ◌⊎◌, ℕ, ◌<◌, ◌≤◌, true, List, [], map}
use mathlib.Core.Option.{some}
use lib.ListN.{get_elem?}
use Rattle.atomic_table.specs.Table.{State}
use Rattle.ca_rows.specs.declared.sizes.Sizes.{Sizes}
use Rattle.ca_rows.specs.declared.view.Claim.{Claim}
use Rattle.ca_rows.specs.declared.view.Pin.{Pin}
use Rattle.ca_rows.specs.declared.view.View.{View}
use Rattle.ca_rows.specs.declared.view.Stage.TheVariants.{Idle}
use Rattle.ca_rows.specs.Account.{IsRow}
use Rattle.ca_rows.specs.Chain.{Owner, IsChain, IsHead, IsStage}
use Rattle.ca_rows.specs.Claims.{claim_of, claim_at}
use Rattle.ca_rows.specs.Pins.{ArePins, unpinned}
use Rattle.ca_rows.specs.Words.{IsWide}
use Rattle.ca_rows.specs.Layout.{row_limit}

abbrev pub upper_of : {U : Type 0} → View U → U
upper_of d = d.upper

abbrev pub pin_of : {U : Type 0} → View U → Pin
pin_of d = d.pin

-- the sizes in a view that knows none
abbrev pub no_sizes : Sizes
no_sizes = record { rows = 0; passes = 0; keypos = 0; leaf = 0; levels = 0; starts = record { tag = 0; epoch = 0; sequence = 0; attempt = 0 } }

-- a seat that knows nothing and has no row
abbrev pub fresh : {U : Type 0} → Sizes → ℕ → U → View U
fresh z number u = record {
  sizes = z;
  made = 0;
  stage = Idle;
  claims = [];
  pin = unpinned number;
  lost = 0;
  back = 0;
  empty = 0;
  worn = 0;
  most = 0;
  upper = u;
}

module _ {U : Type 0} (noted : List ℕ → U → ℕ → Type 0) (words : List ℕ) (views : List (View U)) where
  -- A pass that was pinned at this epoch has a note on the row.
  pub record NotedAt (moment r : ℕ) : Type 0 where
    pub seat : ℕ
    pub d : View U
    pub here : get_elem? views seat ≡ some d
    pub note : noted words d.upper r
    pub at : d.pin.moment ≡ moment

module _ {U : Type 0} (noted : List ℕ → U → ℕ → Type 0) (z : Sizes) (made : ℕ) (owner : ℕ → Owner) (words : List ℕ) where
  -- what the seat number j knows
  pub record Knows (j : ℕ) (d : View U) : Type 0 where
    pub sizes_are : d.sizes.rows ≡ 0 ⊎ d.sizes ≡ z
    pub made_are : j ≡ 0 → d.made ≡ made
    pub stage_is : IsStage z.rows owner words d.stage
    pub head_is : IsHead made words d.pin.number d.stage
    -- Where the space is for one pass, no exchange of the pool's head or of the epoch was lost.
    pub unlost : z.passes ≡ 1 → d.lost ≡ 0
    pub in_range : (r : ℕ) (c : Claim) → claim_of d.claims r ≡ some c → (0 < r) × (r ≤ z.rows)
    -- Only a pinned pass has notes.
    pub noted_pinned : (r : ℕ) → noted words d.upper r → d.pin.pinned ≡ true

-- Only passes take rows from the pool, and unlink them. So where one pass was made at most, no seat has a row before it is made; and a seat that has one then is
-- that of the pass, or took that in: no other seat is a pass's.
abbrev pub AreOfOne : {U : Type 0} → ℕ → List (View U) → Type 0
AreOfOne {U} made views = made ≤ 1 → (i r : ℕ) (c : Claim) → claim_at views i r ≡ some c
    → (made ≡ 1) × ((j : ℕ) (d : View U) → get_elem? views j ≡ some d → 0 < d.pin.number → j ≡ i)

module _ {U : Type 0} (linked lent : List ℕ → ℕ → Type 0) (noted : List ℕ → U → ℕ → Type 0) (fact : Sizes → ℕ → List ℕ → List U → Type 0) where
  pub record Ruled (z : Sizes) (s : State (Unit {0}) (View U)) : Type 0 where
    pub owner : ℕ → Owner
    -- how many rows are free, and how many passes were made, of those that the space is for
    pub count : ℕ
    pub made : ℕ
    pub few : z.rows < row_limit
    pub within : made ≤ z.passes
    pub wide : IsWide z.rows s.words
    pub chain : IsChain z.rows owner s.words count
    pub row : (r : ℕ) → 0 < r → r ≤ z.rows → IsRow s.words (linked s.words) (lent s.words) (NotedAt noted s.words s.views) (claim_at s.views) r (owner r)
    pub seat : (j : ℕ) (d : View U) → get_elem? s.views j ≡ some d → Knows noted z made owner s.words j d
    pub claims : AreOfOne made s.views
    pub pins : ArePins made s.words (map pin_of s.views)
    -- the upper fact
    pub above : fact z made s.words (map upper_of s.views)
