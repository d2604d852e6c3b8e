-- How `insert` and `insert_new` put an object's code.
use Rattle.std.proofs.Common.{ℕ, ◌≤◌, Bool, true, List, sym, subst}
use Rattle.std.specs.List.{slice_range}
use Rattle.ca_term.specs.Tree.{Tree}
use Rattle.ca_term.specs.Code.{code_of}
use Rattle.ca_term.specs.Object.{key_of}
use Rattle.ca_ets.specs.Command.{Continuation, Truth}
use Rattle.ca_ets.specs.declared.command.Cmd.TheVariants.{Insert, InsertNew}
use Rattle.ca_model.specs.StoreMap.{Pair, IsPair}
use Rattle.ca_model.specs.Event.{Event, Write, WriteNew}
use Rattle.ca_model.specs.Known.{Known, Meets, Stays}
use Rattle.ca_explain.proofs.Calls.{stays_meets}
use Rattle.ca_explain.proofs.Carrying.{insert_put}
use Rattle.ca_explain.proofs.Pairs.{pair_of_object}
use Rattle.ca_table.specs.Codes.{HasObjectCode}
use Rattle.ca_table.proofs.Carried.{insert_new_call}
use Rattle.ca_table.specs.ComesTo.{StepsOnce}
use Rattle.ca_table.proofs.Once.{once}

module _ (a m : Known) (o : Tree) (bytes : List ℕ) (start end : ℕ) (h : HasObjectCode a.keypos o bytes start end) (s : Stays a m) where
  -- The object's code with its key's is a pair of the store's, after room was made.
  pub object_pair : 1 ≤ a.keypos → IsPair m.keypos (slice_range bytes start end, bytes)
  object_pair positive =
      let pair = pair_of_object a.keypos o positive h.bounded (record { object = h.is; fitting = h.fitting }) in
      subst (λ (n : ℕ). IsPair n (slice_range bytes start end, bytes)) (sym s.same.keypos)
      (subst (λ (q : Pair). IsPair a.keypos q) (λ i. (sym h.key_is i, sym h.code_is i)) pair)

  on_terms : (b : Known) (event : List ℕ → List ℕ → Event) → Meets m b (event (slice_range bytes start end) bytes)
      → Meets a b (event (code_of (key_of a.keypos o)) (code_of o))
  on_terms b event met =
      subst (λ (x : List ℕ). Meets a b (event x (code_of o))) h.key_is
      (subst (λ (x : List ℕ). Meets a b (event (slice_range bytes start end) x)) h.code_is (stays_meets a m b _ s met))

  -- The object is put: `insert` answers true.
  pub insert_done : (b : Known) → Meets m b (Write (slice_range bytes start end) bytes) → (l : Continuation) → StepsOnce a b l (Insert o) (Truth true) l
  insert_done b met l = (once a b _ l l _ _ (on_terms b Write met) (insert_put a.keypos o h.bounded h.is h.fitting l))

  -- The object is put where its key is new: `insert_new` answers whether it is.
  pub insert_new_done : (b : Known) (new : Bool) → Meets m b (WriteNew (slice_range bytes start end) bytes new) → (l : Continuation)
      → StepsOnce a b l (InsertNew o) (Truth new) l
  insert_new_done b new met l =
      (once a b _ l l _ _ (on_terms b (λ x y. WriteNew x y new) met) (insert_new_call a.keypos o h.bounded h.is h.fitting l new))
