-- How walks by key end: `first`, `last`, `next` and `prev`.
use Rattle.std.proofs.Common.{◌≡◌, ℕ, ◌≤◌, Bool, true, false, List, length, refl, sym, ◌∙◌, ap, subst, Some, None, arith}
use Rattle.std.specs.Prelude.{nat_le}
use Rattle.std.proofs.lemmas.Bool.Decides.{nat_tests}
use Rattle.ca_term.specs.Tree.{Tree, Row, Tuple}
use Rattle.ca_term.specs.Code.{code_of}
use Rattle.ca_term.specs.Object.{key_of}
use Rattle.ca_term.specs.declared.bounds.TheConstants.{MOST_CODE_BYTES}
use Rattle.ca_ets.specs.Command.{Continuation, Value, End}
use Rattle.ca_ets.specs.declared.command.Cmd.TheVariants.{First, Last, Next, Prev}
use Rattle.ca_model.specs.Edges.{Bound, Unbounded, Excluded, IsProperBound}
use Rattle.ca_model.specs.Event.{Above, Below}
use Rattle.ca_model.specs.Known.{Known, Meets}
use Rattle.ca_model.specs.Answer.{FoundAbove, FoundBelow}
use Rattle.ca_explain.proofs.Walks.{IsKeyFound, first_call, last_call, next_call, prev_call}
use Rattle.ca_table.specs.Codes.{HasKeyCode}
use Rattle.ca_table.specs.ComesTo.{HasFound, StepsOnce}
use Rattle.ca_table.specs.Renewed.{IsObjectCode}
use Rattle.ca_table.proofs.Keyed.{key_begins}
use Rattle.ca_table.proofs.ReadBack.{above_row, below_row}
use Rattle.ca_table.proofs.Once.{once}

short : {n : ℕ} → nat_le n MOST_CODE_BYTES ≡ true → n ≤ MOST_CODE_BYTES
short e = grind (arith, nat_tests)

-- A key's code may be handed to a store as an edge.
pub proper_key : (k : Tree) (bytes edge : List ℕ) → HasKeyCode k bytes → edge ≡ bytes → IsProperBound (Excluded edge)
proper_key k bytes edge h same =
    subst (λ (x : List ℕ). (1 ≤ length x) × (length x ≤ MOST_CODE_BYTES)) (sym same)
    (key_begins k bytes h, subst (λ (x : List ℕ). length x ≤ MOST_CODE_BYTES) (sym h.code_is) (short h.fitting))

-- These bytes are the code of an object, and this is its key.
record IsKeyRead (p : ℕ) (bytes : List ℕ) (key : Tree) : Type 0 where
  object : (row : Row) × IsObjectCode p row bytes
  key_is : (row : Row) → IsObjectCode p row bytes → key ≡ key_of p (Tuple row)

key_found : (p : ℕ) (bytes : List ℕ) (key : Tree) → IsKeyRead p bytes key → IsKeyFound p (Some bytes) (Value key)
key_found p bytes key r =
    (Tuple r.object.0, r.object.1.is_code.bounded, r.object.1.is_code.code_is, ap Value (r.key_is r.object.0 r.object.1))

module _ (a b : Known) (p : ℕ) (same : p ≡ a.keypos) (positive : 1 ≤ a.keypos) (found : Bool) (into : List ℕ) where
  -- ---- from a lower edge on

  above_met : (lo : Bound) → found ≡ true → FoundAbove a b lo found into → Meets a b (Above lo (Some into))
  above_met lo e h = subst (λ (f : Bool). FoundAbove a b lo f into) e h

  above_missed : (lo : Bound) → found ≡ false → FoundAbove a b lo found into → Meets a b (Above lo None)
  above_missed lo e h = let none : FoundAbove a b lo false into = subst (λ (f : Bool). FoundAbove a b lo f into) e h in none.0

  -- What is found is the code of an object.
  pub above_object : (lo : Bound) → found ≡ true → FoundAbove a b lo found into → (row : Row) × IsObjectCode p row into
  above_object lo e h =
      subst (λ (n : ℕ). (row : Row) × IsObjectCode n row into) (sym same) (above_row a b lo into positive (above_met lo e h))

  -- It was found by this call.
  pub above_lacks : (lo : Bound) → found ≡ true → FoundAbove a b lo found into → HasFound a b (λ object. Above lo (Some object))
  above_lacks lo e h = (into, above_met lo e h)

  above_found : (lo : Bound) (key : Tree) → found ≡ true → FoundAbove a b lo found into
      → ((row : Row) → IsObjectCode p row into → key ≡ key_of p (Tuple row)) → IsKeyFound a.keypos (Some into) (Value key)
  above_found lo key e h is =
      subst (λ (n : ℕ). IsKeyFound n (Some into) (Value key)) same (key_found p into key (record { object = above_object lo e h; key_is = is }))

  -- ---- up to an upper edge

  below_met : (hi : Bound) → found ≡ true → FoundBelow a b hi found into → Meets a b (Below hi (Some into))
  below_met hi e h = subst (λ (f : Bool). FoundBelow a b hi f into) e h

  below_missed : (hi : Bound) → found ≡ false → FoundBelow a b hi found into → Meets a b (Below hi None)
  below_missed hi e h = let none : FoundBelow a b hi false into = subst (λ (f : Bool). FoundBelow a b hi f into) e h in none.0

  -- What is found is the code of an object.
  pub below_object : (hi : Bound) → found ≡ true → FoundBelow a b hi found into → (row : Row) × IsObjectCode p row into
  below_object hi e h =
      subst (λ (n : ℕ). (row : Row) × IsObjectCode n row into) (sym same) (below_row a b hi into positive (below_met hi e h))

  -- It was read, and no edit was made.
  pub below_lacks : (hi : Bound) → found ≡ true → FoundBelow a b hi found into → HasFound a b (λ object. Below hi (Some object))
  below_lacks hi e h = (into, below_met hi e h)

  below_found : (hi : Bound) (key : Tree) → found ≡ true → FoundBelow a b hi found into
      → ((row : Row) → IsObjectCode p row into → key ≡ key_of p (Tuple row)) → IsKeyFound a.keypos (Some into) (Value key)
  below_found hi key e h is =
      subst (λ (n : ℕ). IsKeyFound n (Some into) (Value key)) same (key_found p into key (record { object = below_object hi e h; key_is = is }))

  -- ---- the ends of the table

  -- `first` answers the key of what is found, or the table's end.
  pub first_done : (key : Tree) → found ≡ true → FoundAbove a b Unbounded found into
      → ((row : Row) → IsObjectCode p row into → key ≡ key_of p (Tuple row)) → (l : Continuation) → StepsOnce a b l First (Value key) l
  first_done key e h is l =
      (once a b _ l l _ _ (above_met Unbounded e h) (first_call a.keypos l (Some into) (Value key) (above_found Unbounded key e h is)))

  pub first_ends : found ≡ false → FoundAbove a b Unbounded found into → (l : Continuation) → StepsOnce a b l First End l
  first_ends e h l = (once a b _ l l _ _ (above_missed Unbounded e h) (first_call a.keypos l None End refl))

  -- `last` does so of the other end.
  pub last_done : (key : Tree) → found ≡ true → FoundBelow a b Unbounded found into
      → ((row : Row) → IsObjectCode p row into → key ≡ key_of p (Tuple row)) → (l : Continuation) → StepsOnce a b l Last (Value key) l
  last_done key e h is l =
      (once a b _ l l _ _ (below_met Unbounded e h) (last_call a.keypos l (Some into) (Value key) (below_found Unbounded key e h is)))

  pub last_ends : found ≡ false → FoundBelow a b Unbounded found into → (l : Continuation) → StepsOnce a b l Last End l
  last_ends e h l = (once a b _ l l _ _ (below_missed Unbounded e h) (last_call a.keypos l None End refl))

  -- ---- from a key on

  module _ (k : Tree) (bytes edge : List ℕ) (code : HasKeyCode k bytes) (edge_is : edge ≡ bytes) where
    past : edge ≡ code_of k
    past = edge_is ∙ code.code_is

    -- An object was found past the key's code, or before it.
    pub next_lacks : found ≡ true → FoundAbove a b (Excluded edge) found into → HasFound a b (λ object. Above (Excluded (code_of k)) (Some object))
    next_lacks e h = (into, subst (λ (x : List ℕ). Meets a b (Above (Excluded x) (Some into))) past (above_met (Excluded edge) e h))

    pub prev_lacks : found ≡ true → FoundBelow a b (Excluded edge) found into → HasFound a b (λ object. Below (Excluded (code_of k)) (Some object))
    prev_lacks e h = (into, subst (λ (x : List ℕ). Meets a b (Below (Excluded x) (Some into))) past (below_met (Excluded edge) e h))

    -- `next` answers the key of what is found past the key's code, or the table's end.
    pub next_done : (key : Tree) → found ≡ true → FoundAbove a b (Excluded edge) found into
        → ((row : Row) → IsObjectCode p row into → key ≡ key_of p (Tuple row)) → (l : Continuation) → StepsOnce a b l (Next k) (Value key) l
    next_done key e h is l =
        let met = subst (λ (x : List ℕ). Meets a b (Above (Excluded x) (Some into))) past (above_met (Excluded edge) e h) in
        (once a b _ l l _ _ met
        (next_call a.keypos l (Some into) (Value key) (above_found (Excluded edge) key e h is) k code.bounded code.fitting))

    pub next_ends : found ≡ false → FoundAbove a b (Excluded edge) found into → (l : Continuation) → StepsOnce a b l (Next k) End l
    next_ends e h l =
        let met = subst (λ (x : List ℕ). Meets a b (Above (Excluded x) None)) past (above_missed (Excluded edge) e h) in
        (once a b _ l l _ _ met (next_call a.keypos l None End refl k code.bounded code.fitting))

    -- `prev` does so of what is found before it.
    pub prev_done : (key : Tree) → found ≡ true → FoundBelow a b (Excluded edge) found into
        → ((row : Row) → IsObjectCode p row into → key ≡ key_of p (Tuple row)) → (l : Continuation) → StepsOnce a b l (Prev k) (Value key) l
    prev_done key e h is l =
        let met = subst (λ (x : List ℕ). Meets a b (Below (Excluded x) (Some into))) past (below_met (Excluded edge) e h) in
        (once a b _ l l _ _ met
        (prev_call a.keypos l (Some into) (Value key) (below_found (Excluded edge) key e h is) k code.bounded code.fitting))

    pub prev_ends : found ≡ false → FoundBelow a b (Excluded edge) found into → (l : Continuation) → StepsOnce a b l (Prev k) End l
    prev_ends e h l =
        let met = subst (λ (x : List ℕ). Meets a b (Below (Excluded x) None)) past (below_missed (Excluded edge) e h) in
        (once a b _ l l _ _ met (prev_call a.keypos l None End refl k code.bounded code.fitting))
