-- The object of a key changed in a table: at each exit of the methods.
use Rattle.std.proofs.Common.{◌≡◌, ℕ, zero, suc, ◌≤◌, ◌<◌, ℤ, Bool, true, false, if◌then◌else◌, List, [], ◌∷◌, length, get_or, set, arith, refl, sym, ◌∙◌, ap, subst, Option, None, Some, Result, Ok}
use Rattle.std.specs.Prelude.{IfOk, IsTrue}
use Rattle.std.proofs.lemmas.Cmp.{tied_itself}
use Rattle.std.proofs.lemmas.List.{get_or_default}
use Rattle.ca_term.specs.Tree.{Tree, Nil}
use Rattle.ca_term.specs.Object.{key_of, elements_of}
use Rattle.ca_term.proofs.TotalOrder.{term_cmp_total}
use Rattle.ca_term.specs.Updates.{ElementFault, integer_of, is_open, update_of_counters, update_of_element}
use Rattle.ca_ets.specs.Command.{Response, Continuation, Never, Truth}
use Rattle.ca_ets.specs.OrderedMap.{IsEntry, IsTable, put}
use Rattle.ca_ets.specs.Place.{IsAt, IsPlace}
use Rattle.ca_ets.specs.Unless.{IsUnless}
use Rattle.ca_ets.specs.Step.{fault_of_key, reply_of, step_of_update_counter, step_of_update_element, with_map}
use Rattle.ca_ets.specs.Update.{Operations, additions_of, operations_of, element_of, open_position, position_in}
use Rattle.ca_ets.specs.Table.{Table}
use Rattle.ca_ets.specs.declared.table.Place.{Place}
use Rattle.ca_ets.specs.declared.table.Place.TheVariants.{At}
use Rattle.ca_ets.proofs.Places.{found, placed_is}
use Rattle.ca_ets.proofs.Puts.{table_put}
use Rattle.ca_ets.proofs.Updates.{KeepsEntry, counters_entry, element_entry}

entry_at : (p : ℕ) (m : List Tree) (i : ℕ) (d : Tree) → IsTable p m → i < length m → IsEntry p (get_or m i d)
entry_at p [] i d t h = absurd (omega arith)
entry_at p (o ∷ m) zero d t h = t.0
entry_at p (o ∷ m) (suc i) d t h = entry_at p m i d t.2 (omega arith)

module _ (p : ℕ) (l : 1 ≤ p) (m : List Tree) (k : Continuation) (key : Tree) (at : ℕ) (t : IsTable p m) (n : fault_of_key key ≡ None) (h : IsAt p m key at)
    (o : Tree) (is : o ≡ get_or m at o) where
  here : o ≡ get_or m at Nil
  here = is ∙ get_or_default m at o Nil h.in_range

  entry : IsEntry p o
  entry = subst (IsEntry p) (sym here) (entry_at p m at Nil t h.in_range)

  changed : (so : Type 0) (new : Tree) → so → KeepsEntry so p o new → (put p m new ≡ set m at new) × IsTable p (set m at new)
  changed so new x e =
      let old = key_of p (get_or m at Nil) in
      let own : IsAt p m old at = found p m old at t h.in_range (tied_itself term_cmp_total old) in
      let keys : old ≡ key_of p new = sym (e.key x ∙ ap (key_of p) here) in
      let same : put p m new ≡ set m at new = sym (placed_is p m new (At at) (subst (λ (q : Tree). IsAt p m q at) keys own)) in
      (same, subst (IsTable p) same (table_put p m new t e.entry))

  module _ (operations : Operations) (new : Tree) (values : List ℤ) (up : update_of_counters p o (additions_of operations) ≡ Ok (new, values)) where
    kept : KeepsEntry (1 ≤ p) p o new
    kept = subst (λ (r : Result (Tree × List ℤ) ElementFault). IfOk r (λ x. KeepsEntry (1 ≤ p) p o x.0)) up (counters_entry p o (additions_of
        operations) entry.object)

    -- `update_counter` leaves a table.
    pub counters_keep : IsTable p (set m at new)
    counters_keep = (changed (1 ≤ p) new l kept).1

    -- It leaves the changed object in its place, and answers with the values.
    pub counters_step : step_of_update_counter p m k key (Some operations) ≡ with_map (set m at new) k (reply_of operations values)
    counters_step = rw (n, h.equal, ← here, up) (ap (λ x. with_map x k (reply_of operations values)) (changed (1 ≤ p) new l kept).0)

  module _ (position : ℤ) (value new : Tree) (free : IsTrue (is_open p position)) (up : update_of_element o position value ≡ Ok new) where
    kept_element : KeepsEntry ((1 ≤ p) × IsTrue (is_open p position)) p o new
    kept_element = subst (λ (r : Result Tree ElementFault). IfOk r (KeepsEntry ((1 ≤ p) × IsTrue (is_open p position)) p o)) up (element_entry p o
        position value entry.object)

    -- `update_element` leaves a table.
    pub element_keeps : IsTable p (set m at new)
    element_keeps = (changed _ new (l, free) kept_element).1

    -- It leaves the changed object in its place.
    pub element_step : step_of_update_element p m k key (Some (position, value)) ≡ with_map (set m at new) k (Truth true)
    element_step = rw (n, h.equal, ← here, up) (ap (λ x. with_map x k (Truth true)) (changed _ new (l, free) kept_element).0)

-- ---- the exits of the methods, over the table that contracts see

open_of : (keypos : ℕ) (o : Option ℤ) (v : Tree) (new : ℤ × Tree) → open_position keypos o v ≡ Some new → IsTrue (is_open keypos new.0)
open_of keypos None v new e = cc
open_of keypos (Some q) v new e = by (is_open keypos q) refl e
  where
    position_of : Option (ℤ × Tree) → ℤ → ℤ
    position_of None d = d
    position_of (Some x) d = x.0

    by : (b : Bool) → is_open keypos q ≡ b → (if b then Some (q, v) else None) ≡ Some new → IsTrue (is_open keypos new.0)
    by true f e = subst (λ (x : ℤ). IsTrue (is_open keypos x)) (ap (λ x. position_of x q) e) f
    by false f e = cc

open_in : (keypos : ℕ) (items : List Tree) (new : ℤ × Tree) → position_in keypos items ≡ Some new → IsTrue (is_open keypos new.0)
open_in keypos [] new e = cc
open_in keypos (x ∷ []) new e = cc
open_in keypos (x ∷ y ∷ []) new e = open_of keypos (integer_of x) y new e
open_in keypos (x ∷ y ∷ z ∷ items) new e = cc

module _ (p : ℕ) (m : List Tree) (seen : Table) (view : record {
  keypos = p;
  objects =
      m;
} ≡ seen) (l : 1 ≤ p) (t : IsTable p m) (key : Tree) (at : ℕ) (r : Place)
    (h : IsUnless (fault_of_key key) (IsPlace seen.keypos seen.objects key) (Ok r)) (e : r ≡ At at) (o : Tree) (is : o ≡ get_or m at o) (left :
    List Tree) where
  place : IsAt p m key at
  place = subst (λ (x : Table). IsAt x.keypos x.objects key at) (sym view) (subst (λ (x : Place). IsPlace seen.keypos seen.objects key x) e h.1)

  -- what `update_counter` leaves
  pub counters_exit : (op : Tree) (operations : Operations) (new : Tree) (values : List ℤ) (response : Response) → operations_of p op ≡ Some operations
      → update_of_counters p o (additions_of operations) ≡ Ok (new, values) → response ≡ reply_of operations values → left ≡ set m at new
      → IsTable p left × ((k : Continuation) → step_of_update_counter seen.keypos seen.objects k key (operations_of seen.keypos op) ≡ with_map left k
      response)
  counters_exit op operations new values response a up r s = (
    subst (IsTable p) (sym s) (counters_keep p l m Never key at t h.0 place o is operations new values up),
    λ k. subst (λ (x : Table). step_of_update_counter x.keypos x.objects k key (operations_of x.keypos op) ≡ with_map left k response) view
        (rw a (counters_step p l m k key at t h.0 place o is operations new values up ∙ (λ i. with_map (sym s i) k (sym r i)))),
  )

  -- what `update_element` leaves
  pub element_exit : (op : Tree) (position : ℤ) (value new : Tree) → Some (position, value) ≡ element_of p op → update_of_element o position value ≡ Ok new
      → left ≡ set m at new
      → IsTable p left × ((k : Continuation) → step_of_update_element seen.keypos seen.objects k key (element_of seen.keypos op) ≡ with_map left k
      (Truth true))
  element_exit op position value new a up s =
      let free : IsTrue (is_open p position) = open_in p (elements_of op) (position, value) (sym a) in (
        subst (IsTable p) (sym s) (element_keeps p l m Never key at t h.0 place o is position value new free up),
        λ k. subst (λ (x : Table). step_of_update_element x.keypos x.objects k key (element_of x.keypos op) ≡ with_map left k (Truth true)) view
            (rw (← a) (element_step p l m k key at t h.0 place o is position value new free up ∙ ap (λ x. with_map x k (Truth true)) (sym s))),
      )
