-- What a rule above the rows has to show. Its fact knows the sizes, how many passes were made, the words, and what each seat knows.
use Rattle.std.specs.Prelude.{◌≡◌, ◌⊎◌, ◌≢◌, ℕ, ◌+◌, ◌*◌, ◌<◌, ◌≤◌, List, [], ◌∷◌, ◌++◌, length, slice_index, slice_set}
use mathlib.Core.Option.{some}
use lib.ListN.{get_elem?}
use Rattle.ca_rows.specs.declared.sizes.Sizes.{Sizes}
use Rattle.ca_rows.specs.Opening.{AreInBounds, AreUsable}
use Rattle.ca_rows.specs.Words.{IsWide, result_of}
use Rattle.ca_rows.specs.Layout.{row_words, passes_words}

module _ {U : Type 0} (linked lent : List ℕ → ℕ → Type 0) (noted : List ℕ → U → ℕ → Type 0) (fact : Sizes → ℕ → List ℕ → List U → Type 0) where
  -- A seat has a note on the row.
  abbrev pub IsNoted : List ℕ → List U → ℕ → Type 0
  IsNoted words uppers r = (j : ℕ) × (u : U) × (get_elem? uppers j ≡ some u) × noted words u r

  -- The rule above doesn't see the difference: its control words are the same, and so are those of the ranges and each row that is linked or noted.
  pub record Agrees (uppers : List U) (words others : List ℕ) : Type 0 where
    pub wide : length others ≡ length words
    pub control : (i : ℕ) → 2 ≤ i → i < row_words → slice_index others i ≡ slice_index words i
    pub results : (pass : ℕ) → 0 < pass → pass ≤ 64 → result_of others pass ≡ result_of words pass
    pub seen : (r k : ℕ) → 0 < r → row_words * r + row_words + passes_words ≤ length words → linked words r ⊎ IsNoted words uppers r → k < row_words
        → slice_index others (row_words * r + k) ≡ slice_index words (row_words * r + k)

  -- The upper fact stays, the same rows are linked and lent, and nobody has a note more.
  pub record Framed (z : Sizes) (made : ℕ) (uppers : List U) (words others : List ℕ) : Type 0 where
    pub stays : fact z made others uppers
    pub links : (r : ℕ) → (linked others r → linked words r) × (linked words r → linked others r)
    pub lents : (r : ℕ) → (lent others r → lent words r) × (lent words r → lent others r)
    pub notes : (j : ℕ) (u : U) → get_elem? uppers j ≡ some u → (r : ℕ) → noted others u r → noted words u r

  -- Each step of the rows by themselves: loads, and stores and exchanges that the rule above doesn't see.
  abbrev pub Frames : Type 0
  Frames = (z : Sizes) (made : ℕ) (uppers : List U) (words others : List ℕ) → fact z made words uppers → Agrees uppers words others
      → Framed z made uppers words others

  -- What is lent is linked.
  abbrev pub Lends : Type 0
  Lends = (z : Sizes) (made : ℕ) (uppers : List U) (words : List ℕ) → fact z made words uppers → (r : ℕ) → lent words r → linked words r

  -- Which rows a seat knows to be linked, where one pass was made at most: all that are.
  abbrev pub Listing : (U → ℕ → Type 0) → Type 0
  Listing listed = (z : Sizes) (made : ℕ) (uppers : List U) (words : List ℕ) → fact z made words uppers → made ≤ 1
      → (j : ℕ) (u : U) → get_elem? uppers j ≡ some u → (r : ℕ) → linked words r → listed u r

  -- A pass that pins or unpins: its upper part becomes that of `enters` or `leaves`. It has no note more, and none after it unpinned.
  pub record Pinning (enters leaves : U → U) : Type 0 where
    pub keeps_entering : (z : Sizes) (made : ℕ) (uppers : List U) (words : List ℕ) (i : ℕ) (u : U) → fact z made words uppers → get_elem? uppers i ≡ some u
        → fact z made words (slice_set uppers i (enters u))
    pub entering_notes : (words : List ℕ) (u : U) (r : ℕ) → noted words (enters u) r → noted words u r
    pub keeps_leaving : (z : Sizes) (made : ℕ) (uppers : List U) (words : List ℕ) (i : ℕ) (u : U) → fact z made words uppers → get_elem? uppers i ≡ some u
        → fact z made words (slice_set uppers i (leaves u))
    pub leaving_notes : (words : List ℕ) (u : U) (r : ℕ) → ¬ noted words (leaves u) r

  -- A pass that is made, and has the next number, begins with this upper part, and with no note.
  pub record Making (begins : ℕ → U) : Type 0 where
    pub keeps_making : (z : Sizes) (made : ℕ) (uppers : List U) (words : List ℕ) → fact z made words uppers
        → fact z (made + 1) words (uppers ++ begins (made + 1) ∷ [])
    pub making_notes : (words : List ℕ) (pass r : ℕ) → ¬ noted words (begins pass) r

  -- A seat is joined into the space's own one, and is spent.
  pub record Closing (both : U → U → U) (spent : U) : Type 0 where
    pub keeps_closing : (z : Sizes) (made : ℕ) (uppers : List U) (words : List ℕ) (i j : ℕ) (v w : U) → fact z made words uppers
        → get_elem? uppers i ≡ some v → j ≢ i → get_elem? uppers j ≡ some w
        → fact z made words (slice_set (slice_set uppers i (both v w)) j spent)
    pub closing_notes : (words : List ℕ) (v w : U) (r : ℕ) → noted words (both v w) r → noted words v r ⊎ noted words w r
    pub spent_notes : (words : List ℕ) (r : ℕ) → ¬ noted words spent r

  -- The start: the control words and row 1 are as the rule says, and row 1 alone is linked.
  pub record Opened (z : Sizes) (first : U) (words : List ℕ) : Type 0 where
    pub stands : fact z 0 words (first ∷ [])
    pub links : (r : ℕ) → (linked words r → r ≡ 1) × (r ≡ 1 → linked words r)
    pub lents : (r : ℕ) → ¬ lent words r
    pub notes : (r : ℕ) → ¬ noted words first r

  abbrev pub Opening : (Sizes → ℕ → ℕ) → (Sizes → ℕ) → U → Type 0
  Opening opens result first = (z : Sizes) (words : List ℕ) → AreInBounds z → AreUsable z → IsWide z.rows words
      → ((i : ℕ) → 2 ≤ i → i < 272 → slice_index words i ≡ opens z i)
      → ((pass : ℕ) → 0 < pass → pass ≤ 64 → result_of words pass ≡ result z) → Opened z first words
