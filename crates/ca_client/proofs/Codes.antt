-- The table of a closed tree is the one list of the terms whose codes its objects are.
use Rattle.std.proofs.Common.{◌≡◌, ℕ, zero, suc, ◌+◌, ◌<◌, List, [], ◌∷◌, length, map, get_or, refl, sym, ◌∙◌, ap, arith}
use Rattle.std.proofs.lemmas.List.{get_or-map, length-map, take_all}
use Rattle.std.specs.Coded.{Coded-set, codes, coded_ℕ}
use mathlib.Core.Logic.{∥∥₁_elim}
use Rattle.ca_term.specs.Tree.{Tree, Nil, IsTerm, AreTerms}
use Rattle.ca_term.specs.Code.{code_of}
use Rattle.ca_term.specs.Object.{key_of}
use Rattle.ca_term.specs.Stored.{tree_stored}
use Rattle.ca_order.specs.Languages.{IsTermCode}
use Rattle.ca_model.specs.Slab.{nothing}
use Rattle.ca_model.specs.StoreMap.{Pair, StoreMap, IsPair, IsStoreMap}
use Rattle.ca_explain.specs.Stands.{Stands, pair_of}
use Rattle.ca_explain.proofs.Filters.{same_code}
use Rattle.ca_explain.proofs.Pairs.{object_of_pair}
use Rattle.ca_table.proofs.Listed.{listed_all}
use Rattle.ca_cmd.specs.Sole.{Sole}
use Rattle.ca_client.specs.Table.{AreObjectsOf}

-- The objects of a store map are the codes of some terms.
pub table_in : (keypos : ℕ) (objects : StoreMap) → IsStoreMap keypos objects → (table : List Tree) × AreObjectsOf objects table
table_in keypos [] h = ([], record { codes = refl; bounded = tt })
table_in keypos (pair ∷ objects) h =
    let first = object_of_pair keypos pair h.0 in
    let rest = table_in keypos objects h.2 in (
      first.object ∷ rest.0,
      record { codes = λ i. first.object_is i ∷ rest.1.codes i; bounded = (first.bounded, rest.1.bounded) },
    )

same_terms : (one other : List Tree) → AreTerms one → AreTerms other → map code_of one ≡ map code_of other → one ≡ other
same_terms [] [] h k e = refl
same_terms [] (y ∷ other) h k e = let code = code_of y in let no : [] ≡ code ∷ map code_of other = e in cc
same_terms (x ∷ one) [] h k e = let code = code_of x in let no : code ∷ map code_of one ≡ [] = e in cc
same_terms (x ∷ one) (y ∷ other) h k e =
    let first : code_of x ≡ code_of y = cc in
    let rest : map code_of one ≡ map code_of other = cc in
    let same : x ≡ y = same_code x y h.0 k.0 first in
    let others : one ≡ other = same_terms one other h.1 k.1 rest in
    λ i. same i ∷ others i

-- There is one list of such terms.
pub the_table : (objects : StoreMap) (table : List Tree) → AreObjectsOf objects table → Sole (List Tree) (AreObjectsOf objects)
the_table objects table h =
    (table, (∣ h ∣₁, λ other k. same_terms other table k.bounded h.bounded (sym k.codes ∙ h.codes)))

-- A pair is that of the object whose code it has.
same_pair : (keypos : ℕ) (pair : Pair) (object : Tree) → IsPair keypos pair → IsTerm object → pair.1 ≡ code_of object → pair ≡ pair_of keypos object
same_pair keypos pair object h bounded e =
    let found = object_of_pair keypos pair h in
    let same : found.object ≡ object = same_code found.object object found.bounded bounded (sym found.object_is ∙ e) in
    let key : pair.0 ≡ code_of (key_of keypos object) = found.key_is ∙ ap (λ (t : Tree). code_of (key_of keypos t)) same in
    λ i. (key i, e i)

pairs : (keypos : ℕ) (objects : StoreMap) (table : List Tree) → IsStoreMap keypos objects → map (λ (pair : Pair). pair.1) objects ≡ map code_of table
    → AreTerms table → objects ≡ map (pair_of keypos) table
pairs keypos [] [] h e bounded = refl
pairs keypos [] (object ∷ table) h e bounded = let code = code_of object in let no : [] ≡ code ∷ map code_of table = e in cc
pairs keypos (pair ∷ objects) [] h e bounded =
    let code = pair.1 in let no : code ∷ map (λ (p : Pair). p.1) objects ≡ [] = e in cc
pairs keypos (pair ∷ objects) (object ∷ table) h e bounded =
    let code = pair.1 in
    let other = code_of object in
    let others = map (λ (p : Pair). p.1) objects in
    let all : code ∷ others ≡ other ∷ map code_of table = e in
    let first : code ≡ other = cc in
    let rest : others ≡ map code_of table = cc in
    let one = same_pair keypos pair object h.0 bounded.0 first in
    let more = pairs keypos objects table h.2 rest bounded.1 in
    λ i. one i ∷ more i

-- The map stands for this table.
pub table_stands : (keypos : ℕ) (objects : StoreMap) (table : List Tree) → IsStoreMap keypos objects → AreObjectsOf objects table
    → Stands keypos objects table
table_stands keypos objects table h are = listed_all keypos objects table h (record {
  codes = take_all (length objects) objects (omega arith) ∙ pairs keypos objects table h are.codes are.bounded;
  bounded = are.bounded;
})

many_of : (objects : StoreMap) (table : List Tree) → AreObjectsOf objects table → length objects ≡ length table
many_of objects table h =
    sym (length-map objects (λ (pair : Pair). pair.1)) ∙ ap (λ (codes : List (List ℕ)). length codes) h.codes ∙ length-map table code_of

term_in : (table : List Tree) (at : ℕ) → AreTerms table → at < length table → IsTerm (get_or table at Nil)
term_in [] at h l = absurd (omega (arith, l))
term_in (t ∷ table) zero h l = h.0
term_in (t ∷ table) (suc at) h l = term_in table at h.1 (omega (arith, l))

module _ (objects : StoreMap) (table : List Tree) (at : ℕ) (within : at < length objects) where
  code_at : AreObjectsOf objects table → (get_or objects at nothing).1 ≡ code_of (get_or table at Nil)
  code_at h =
      let many = many_of objects table h in
      sym (get_or-map (λ (pair : Pair). pair.1) objects at nothing [] within)
      ∙ ap (λ (codes : List (List ℕ)). get_or codes at []) h.codes
      ∙ get_or-map code_of table at Nil [] (omega (arith, within, many))

  object_is : (object : Tree) → IsTerm object → (get_or objects at nothing).1 ≡ code_of object → AreObjectsOf objects table → object ≡ get_or table at Nil
  object_is object bounded e h =
      let many = many_of objects table h in
      same_code object (get_or table at Nil) bounded (term_in table at h.bounded (omega (arith, within, many))) (sym e ∙ code_at h)

  is_code : AreObjectsOf objects table → IsTermCode (get_or objects at nothing).1
  is_code h = let many = many_of objects table h in (get_or table at Nil, term_in table at h.bounded (omega (arith, within, many)), code_at h)

module _ (objects : StoreMap) (sole : Sole (List Tree) (AreObjectsOf objects)) where
  -- There are as many objects as terms.
  pub many : length objects ≡ length sole.0
  many = ∥∥₁_elim sole.1.0 (Coded-set coded_ℕ _ _) (λ h. many_of objects sole.0 h)

  module _ (at : ℕ) (within : at < length objects) where
    -- What stands in a place is the code of a term.
    pub never_no_code : (IsTermCode (get_or objects at nothing).1 → ⊥) → ⊥
    never_no_code wrong = ∥∥₁_elim sole.1.0 (λ (x y : ⊥). absurd x) (λ h. wrong (is_code objects sole.0 at within h))

    -- The term of which it is the code is that of the table.
    pub object_at : (object : Tree) → IsTerm object → (get_or objects at nothing).1 ≡ code_of object → object ≡ get_or sole.0 at Nil
    object_at object bounded e = ∥∥₁_elim sole.1.0 (Coded-set tree_stored _ _) (λ h. object_is objects sole.0 at within object bounded e h)
