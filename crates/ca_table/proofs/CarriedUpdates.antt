-- Which calls of a store carry `update_counter` and `update_element`.
use Rattle.std.proofs.Common.{◌≡◌, ℕ, ℤ, true, false, List, [], ◌∷◌, refl, sym, ◌∙◌, ap, subst, None, Some}
use Rattle.std.specs.Prelude.{Ok, Err}
use Rattle.ca_term.specs.Tree.{Tree, Integer, Atom, Tuple, Nil, Cons, Binary, IsTerm, row_of}
use Rattle.ca_term.specs.Code.{code_of}
use Rattle.ca_term.specs.Object.{is_object, key_of, elements_of, fits}
use Rattle.ca_term.specs.Updates.{ElementFault, update_of_counters, update_of_element}
use Rattle.ca_term.specs.UpdateLaws.{KeepsKey}
use Rattle.ca_term.proofs.Rows.{row_again}
use Rattle.ca_ets.specs.OrderedMap.{get, put}
use Rattle.ca_ets.specs.Command.{Continuation, Items, Truth, Error}
use Rattle.ca_ets.specs.Update.{Operations, Several, additions_of, operations_of, element_of}
use Rattle.ca_ets.specs.Step.{fault_of, reply_of}
use Rattle.ca_ets.specs.declared.command.Fault.TheVariants.{BadArg}
use Rattle.ca_ets.specs.declared.command.Cmd.TheVariants.{UpdateCounter, UpdateElement}
use Rattle.ca_model.specs.StoreMap as bytes
use Rattle.ca_model.specs.StoreMap.{StoreMap, IsFound}
use Rattle.ca_model.specs.Event.{Get, Change}
use Rattle.ca_explain.specs.Stands.{Stands}
use Rattle.ca_explain.specs.Carries.{Carries}
use Rattle.ca_explain.proofs.Filters.{put_stands, same_code}
use Rattle.ca_explain.proofs.Founds.{absent, found, found_object}
use Rattle.ca_table.proofs.SamePut.{put_same}

same_object : (p : ℕ) (o : Tree) → is_object p o ≡ true → Tuple (row_of (elements_of o)) ≡ o
same_object p (Tuple row) e = ap Tuple (row_again row)
same_object p (Integer n) e = let no : false ≡ true = e in cc
same_object p (Atom text) e = let no : false ≡ true = e in cc
same_object p Nil e = let no : false ≡ true = e in cc
same_object p (Cons head tail) e = let no : false ≡ true = e in cc
same_object p (Binary bytes) e = let no : false ≡ true = e in cc

-- A new object with the key of the one that is found takes its place.
renewed : (p : ℕ) (m : StoreMap) (t : List Tree) → Stands p m t → (k : Tree) → IsTerm k → (o new : Tree) → IsTerm o
    → IsFound m (code_of k) (Some (code_of o)) → KeepsKey p o new → Stands p (bytes.put m (code_of k) (code_of new)) (put p t new)
renewed p m t st k b o new c answer keeps =
    let f = found_object p m t st k b (code_of o) answer in
    let same : f.object ≡ o = same_code f.object o f.bounded c (sym f.code_is) in
    let key : key_of p new ≡ k = keeps.key_is ∙ ap (key_of p) (sym same) ∙ f.key_is in
    subst (λ (x : Tree). Stands p (bytes.put m (code_of x) (code_of new)) (put p t new)) key
    (put_stands p m t st new keeps.bounded (record { object = keeps.object; fitting = keeps.small }))

module _ (p : ℕ) (k op : Tree) (b : IsTerm k) (short : fits k ≡ true) (l : Continuation) where
  module _ (operations : Operations) (asked : operations_of p op ≡ Some operations) where
    -- `change` that finds nothing carries a refused `update_counter`.
    pub counter_absent : Carries p (Change (code_of k) None None) l (UpdateCounter k op) (Error BadArg) l
    counter_absent = record {
      at = λ m t st answer. let is : get p t k ≡ [] = absent p m t st k b answer in (t, rw (asked, short, is) refl, st);
    }

    -- So does `get`.
    pub counter_missing : Carries p (Get (code_of k) None) l (UpdateCounter k op) (Error BadArg) l
    counter_missing = record {
      at = λ m t st answer. let is : get p t k ≡ [] = absent p m t st k b answer in (t, rw (asked, short, is) refl, st);
    }

    module _ (o : Tree) (c : IsTerm o) where
      -- `change` that keeps the object carries an `update_counter` that fails.
      pub counter_kept : (e : ElementFault) → update_of_counters p o (additions_of operations) ≡ Err e
          → Carries p (Change (code_of k) (Some (code_of o)) None) l (UpdateCounter k op) (Error (fault_of e)) l
      counter_kept e failed = record {
        at = λ m t st answer. let is : get p t k ≡ o ∷ [] = found p m t st k b o c answer in (t, rw (asked, short, is, failed) refl, st);
      }

      -- `change` that puts the new object carries `update_counter`.
      pub counter_put : (new : Tree) (values : List ℤ) → update_of_counters p o (additions_of operations) ≡ Ok (new, values) → KeepsKey p o new
          → Carries p (Change (code_of k) (Some (code_of o)) (Some (code_of new))) l (UpdateCounter k op) (reply_of operations values) l
      counter_put new values done keeps = record {
        at = λ m t st answer.
            let is : get p t k ≡ o ∷ [] = found p m t st k b o c answer in
            (put p t new, rw (asked, short, is, done) refl, renewed p m t st k b o new c answer keeps);
      }

  -- `get` that finds an object carries an `update_counter` by no operations.
  pub counter_read : operations_of p op ≡ Some (Several []) → (o : Tree) → IsTerm o
      → Carries p (Get (code_of k) (Some (code_of o))) l (UpdateCounter k op) (Items []) l
  counter_read asked o c = record {
    at = λ m t st answer.
        let is : get p t k ≡ o ∷ [] = found p m t st k b o c answer in
        let f = found_object p m t st k b (code_of o) answer in
        let same : f.object ≡ o = same_code f.object o f.bounded c (sym f.code_is) in
        let again : Tuple (row_of (elements_of o)) ≡ o = same_object p o (ap (is_object p) (sym same) ∙ f.entry.object) in
        let fit : fits o ≡ true = ap fits (sym same) ∙ f.entry.fitting in
        let stays : put p t o ≡ t = put_same p t k o [] st.ordered is in
        (t, rw (asked, short, is, again, fit, stays) refl, st);
  }

  module _ (position : ℤ) (value : Tree) (asked : element_of p op ≡ Some (position, value)) where
    -- `change` that finds nothing carries `update_element`.
    pub element_absent : Carries p (Change (code_of k) None None) l (UpdateElement k op) (Truth false) l
    element_absent = record {
      at = λ m t st answer. let is : get p t k ≡ [] = absent p m t st k b answer in (t, rw (asked, short, is) refl, st);
    }

    -- So does `get`.
    pub element_missing : Carries p (Get (code_of k) None) l (UpdateElement k op) (Truth false) l
    element_missing = record {
      at = λ m t st answer. let is : get p t k ≡ [] = absent p m t st k b answer in (t, rw (asked, short, is) refl, st);
    }

    module _ (o : Tree) (c : IsTerm o) where
      -- `change` that keeps the object carries an `update_element` that fails.
      pub element_kept : (e : ElementFault) → update_of_element o position value ≡ Err e
          → Carries p (Change (code_of k) (Some (code_of o)) None) l (UpdateElement k op) (Error (fault_of e)) l
      element_kept e failed = record {
        at = λ m t st answer. let is : get p t k ≡ o ∷ [] = found p m t st k b o c answer in (t, rw (asked, short, is, failed) refl, st);
      }

      -- So does `get` that finds it.
      pub element_read : (e : ElementFault) → update_of_element o position value ≡ Err e
          → Carries p (Get (code_of k) (Some (code_of o))) l (UpdateElement k op) (Error (fault_of e)) l
      element_read e failed = record {
        at = λ m t st answer. let is : get p t k ≡ o ∷ [] = found p m t st k b o c answer in (t, rw (asked, short, is, failed) refl, st);
      }

      -- `change` that puts the new object carries `update_element`.
      pub element_put : (new : Tree) → update_of_element o position value ≡ Ok new → KeepsKey p o new
          → Carries p (Change (code_of k) (Some (code_of o)) (Some (code_of new))) l (UpdateElement k op) (Truth true) l
      element_put new done keeps = record {
        at = λ m t st answer.
            let is : get p t k ≡ o ∷ [] = found p m t st k b o c answer in
            (put p t new, rw (asked, short, is, done) refl, renewed p m t st k b o new c answer keeps);
      }
