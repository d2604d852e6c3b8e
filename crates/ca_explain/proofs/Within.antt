-- A run of objects that is cut, or handed out in part, is the beginning of what stands within its edges.
use Rattle.std.proofs.Common.{◌≡◌, ℕ, ◌≤◌, List, [], ◌∷◌, ◌++◌, map, refl, sym, ◌∙◌, ap, subst, append_assoc}
use Rattle.std.proofs.lemmas.List.{map-append}
use Rattle.ca_term.specs.Tree.{Tree, IsTerm, AreTerms}
use Rattle.ca_term.specs.Code.{code_of}
use Rattle.ca_term.specs.Object.{key_of}
use Rattle.ca_term.proofs.Codes.{compare_as_terms}
use Rattle.ca_ets.specs.OrderedMap as terms
use Rattle.ca_ets.specs.OrderedMap.{IsTable}
use Rattle.ca_model.specs.StoreMap.{Pair, StoreMap, IsStoreMap, AreAbove}
use Rattle.ca_model.specs.Edges.{Bound, within, objects_of}
use Rattle.ca_model.specs.Event.{Range, IsAnswer}
use Rattle.ca_model.proofs.Cuts.{cuts_begin}
use Rattle.ca_explain.specs.Stands.{Stands, pair_of}
use Rattle.ca_explain.proofs.Filters.{same_code}
use Rattle.ca_explain.proofs.Keys.{key_is_term}
use Rattle.ca_explain.proofs.Pairs.{pair_of_object}

-- The objects of a map that stands for a table are the codes of the table's.
pub objects_stand : (p : ℕ) (t : List Tree) → objects_of (map (pair_of p) t) ≡ map code_of t
objects_stand p [] = refl
objects_stand p (o ∷ t) = ap (λ (x : List (List ℕ)). code_of o ∷ x) (objects_stand p t)

-- the terms behind these first ones
pub record IsBegun (t first : List Tree) : Type 0 where
  pub rest : List Tree
  pub whole : t ≡ first ++ rest

-- Where the codes of some terms stand first among the codes of others, the terms stand first among them.
pub codes_begin : (t first : List Tree) (left : List (List ℕ)) → AreTerms t → AreTerms first → map code_of t ≡ map code_of first ++ left → IsBegun t first
codes_begin t [] left b c e = record { rest = t; whole = refl }
codes_begin [] (x ∷ first) left b c e = let code = code_of x in let no : [] ≡ code ∷ (map code_of first ++ left) = e in cc
codes_begin (y ∷ t) (x ∷ first) left b c e =
    let one = code_of y in
    let other = code_of x in
    let whole : one ∷ map code_of t ≡ other ∷ (map code_of first ++ left) = e in
    let same : one ≡ other = cc in
    let others : map code_of t ≡ map code_of first ++ left = cc in
    let behind = codes_begin t first left b.1 c.1 others in
    record { rest = behind.rest; whole = λ i. same_code y x b.0 c.0 same i ∷ behind.whole i }

-- Terms with the same codes are the same.
pub codes_same : (t u : List Tree) → AreTerms t → AreTerms u → map code_of t ≡ map code_of u → t ≡ u
codes_same [] [] b c e = refl
codes_same [] (x ∷ u) b c e = let code = code_of x in let no : [] ≡ code ∷ map code_of u = e in cc
codes_same (y ∷ t) [] b c e = let code = code_of y in let no : code ∷ map code_of t ≡ [] = e in cc
codes_same (y ∷ t) (x ∷ u) b c e =
    let one = code_of y in
    let other = code_of x in
    let whole : one ∷ map code_of t ≡ other ∷ map code_of u = e in
    let same : one ≡ other = cc in
    let others : map code_of t ≡ map code_of u = cc in
    let behind = codes_same t u b.1 c.1 others in
    λ i. same_code y x b.0 c.0 same i ∷ behind i

above_stand : (p : ℕ) (o : Tree) (t : List Tree) → IsTerm o → AreTerms t → terms.AreAbove p o t → AreAbove (code_of (key_of p o)) (map (pair_of p) t)
above_stand p o [] b c a = tt
above_stand p o (q ∷ t) b c a =
    (compare_as_terms (key_of p o) (key_of p q) (key_is_term p o b) (key_is_term p q c.0) ∙ a.0, above_stand p o t b c.1 a.1)

table_map : (p : ℕ) (t : List Tree) → 1 ≤ p → AreTerms t → IsTable p t → IsStoreMap p (map (pair_of p) t)
table_map p [] positive b h = tt
table_map p (o ∷ t) positive b h =
    (pair_of_object p o positive b.0 h.0, above_stand p o t b.0 b.1 h.1, table_map p t positive b.1 h.2)

-- What stands for a table is a store map.
pub stands_map : (p : ℕ) (m : StoreMap) (t : List Tree) → 1 ≤ p → Stands p m t → IsStoreMap p m
stands_map p m t positive st = subst (λ (x : StoreMap). IsStoreMap p x) (sym st.codes) (table_map p t positive st.bounded st.ordered)

objects_append : (a b : StoreMap) → objects_of (a ++ b) ≡ objects_of a ++ objects_of b
objects_append a b = map-append (λ (q : Pair). q.1) a b

module _ (p : ℕ) (positive : 1 ≤ p) (m : StoreMap) (t : List Tree) (st : Stands p m t) (lo cut hi : Bound) (objects : List (List ℕ))
    (answer : IsAnswer (Range lo hi cut objects) m) (u : List Tree) (here : Stands p (within lo hi m) u) (first : List Tree) (bounded : AreTerms first) where
  -- What was handed out of a run first is the beginning of what stands within its edges.
  pub run_begins : (left : List (List ℕ)) → objects ≡ map code_of first ++ left → IsBegun u first
  run_begins left e =
      let cuts = cuts_begin p m lo cut hi (stands_map p m t positive st) answer.0 in
      let whole : map code_of u ≡ map code_of first ++ (left ++ objects_of cuts.0) =
      sym (objects_stand p u) ∙ ap objects_of (sym here.codes) ∙ ap objects_of cuts.1 ∙ objects_append (within lo cut m) cuts.0
      ∙ ap (λ (x : List (List ℕ)). x ++ objects_of cuts.0) (answer.1 ∙ e) ∙ append_assoc (map code_of first) left (objects_of cuts.0) in
      codes_begin u first (left ++ objects_of cuts.0) here.bounded bounded whole

  -- What was handed out of a run that reaches its upper edge, up to its end, is all that stands within its edges.
  pub run_is : cut ≡ hi → objects ≡ map code_of first → u ≡ first
  run_is reaches e =
      let whole : map code_of u ≡ map code_of first =
      sym (objects_stand p u) ∙ ap objects_of (sym here.codes) ∙ ap (λ (b : Bound). objects_of (within lo b m)) (sym reaches) ∙ answer.1 ∙ e in
      codes_same u first here.bounded bounded whole
