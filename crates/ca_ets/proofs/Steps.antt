-- What a step leaves: at each exit of its command's method, and that it keeps a table and a continuation.
use Rattle.std.proofs.Common.{◌≡◌, ℕ, ◌≤◌, Bool, true, false, List, [], ◌∷◌, ℤ, Option, None, Some, Result, Ok, Err, refl, sym, ◌∙◌, subst, if◌then◌else◌}
use Rattle.std.specs.List.{remove}
use Rattle.std.specs.Ordering.{is_eq, is_gt}
use Rattle.std.specs.Prelude.{not, nat_le, length, take, IfOk, IsTrue}
use Rattle.ca_term.specs.Tree.{Tree}
use Rattle.ca_term.specs.Object.{is_object, fits, key_of}
use Rattle.ca_term.specs.Order.{term_cmp}
use Rattle.ca_ets.specs.Command.{Command, Response, Continuation, Never, At as Behind, AtEnd, IsContinuation}
use Rattle.ca_ets.specs.declared.command.Cmd.TheVariants.{Insert, InsertNew, Lookup, Member, Delete, Take, UpdateCounter, UpdateElement, First, Last, Next, Prev, Select, SelectRange, Batch, More}
use Rattle.ca_ets.specs.declared.command.Fault.{Fault}
use Rattle.ca_ets.specs.declared.command.Fault.TheVariants.{BadArg, Size}
use Rattle.ca_ets.specs.declared.table.Place.{Place}
use Rattle.ca_ets.specs.declared.table.Place.TheVariants.{At}
use Rattle.ca_ets.specs.OrderedMap.{IsEntry, IsTable, get, del, above}
use Rattle.ca_ets.specs.Place.{IsPlace, placed}
use Rattle.ca_match.specs.Specification.{IsSpecification}
use Rattle.ca_ets.specs.Step.{Step, step, step_of_change, step_of_operations, step_of_update_counter, step_of_element, step_of_update_element, is_found, unless, fault_of_key, fault_of_object, fault_of_specification, limit_of, keyed_results, last_found, step_of_results, step_of_full_batch, step_of_last_batch, step_of_batch}
use Rattle.ca_term.specs.Updates.{ElementFault, is_open, update_of_counters, update_of_element}
use Rattle.ca_ets.specs.Update.{Operations, additions_of, operations_of, element_of}
use Rattle.ca_ets.proofs.Updates.{bind_ok, counters_entry, element_entry, KeepsEntry}
use Rattle.ca_ets.proofs.Places.{placed_is}
use Rattle.ca_ets.proofs.Puts.{table_filter, table_put}
use Rattle.ca_ets.proofs.Results.{specification_is, limit_from, results_fit}

-- Of what is no object, it is said that it is none.
pub no_object : (p : ℕ) (o : Tree) → is_object p o ≡ false → fault_of_object p o ≡ Some BadArg
no_object p o e = rw e

-- An object that is too long is refused for its size.
pub long_object : (p : ℕ) (o : Tree) → is_object p o ≡ true → fits o ≡ false → fault_of_object p o ≡ Some Size
long_object p o e f = rw (e, f)

-- An object that fits is not refused.
pub good_object : (p : ℕ) (o : Tree) → is_object p o ≡ true → fits o ≡ true → fault_of_object p o ≡ None
good_object p o e f = rw (e, f)

-- What is not refused may stand in a table.
pub entry : (p : ℕ) (o : Tree) → fault_of_object p o ≡ None → IsEntry p o
entry p o n = by (is_object p o) (fits o) refl refl n
  where
    fault : Bool → Bool → Option Fault
    fault b c = if b then (if c then None else Some Size) else Some BadArg

    by : (b c : Bool) → is_object p o ≡ b → fits o ≡ c → fault b c ≡ None → IsEntry p o
    by true true e f n = record { object = e; fitting = f }
    by true false e f n = let no : fault true false ≡ None = n in cc
    by false c e f n = let no : fault false c ≡ None = n in cc

-- What a put leaves is a table.
pub put_keeps : (p : ℕ) (m : List Tree) (o : Tree) (r : Place) → IsTable p m → fault_of_object p o ≡ None → IsPlace p m (key_of p o) r
    → IsTable p (placed m r o)
put_keeps p m o r t n h = rw (placed_is p m o r h) (table_put p m o t (entry p o n))

table_without : (p : ℕ) (m : List Tree) (k : Tree) → IsTable p m → IsTable p (del p m k)
table_without p m k t = table_filter p m (λ o. not (is_eq (term_cmp (key_of p o) k))) t

-- What stands above a key is a table.
pub table_above : (p : ℕ) (m : List Tree) (k : Tree) → IsTable p m → IsTable p (above p m k)
table_above p m k t = table_filter p m (λ o. is_gt (term_cmp (key_of p o) k)) t

-- What is left without the object at its key's place is a table.
pub without_keeps : (p : ℕ) (m : List Tree) (k : Tree) (left : List Tree) (r : Place) (i : ℕ) → IsTable p m → IsPlace p m k r → r ≡ At i → left ≡ remove m i
    → IsTable p left
without_keeps p m k left r i t h e l =
    let at : IsPlace p m k (At i) = subst (λ (x : Place). IsPlace p m k x) e h in
    subst (λ (x : List Tree). IsTable p x) (at.others ∙ sym l) (table_without p m k t)

-- what the exits of the methods leave
pub ruleset leaving = (no_object, long_object, good_object, placed_is, put_keeps, without_keeps)

-- A step leaves a table and a continuation.
abbrev pub Keeps : ℕ → Step → Type 0
Keeps p s = IsTable p s.map × IsContinuation s.continuation

-- A command that is refused changes nothing, so it is enough that its meaning keeps both.
unless_keeps : (p : ℕ) (f : Option Fault) (m : List Tree) (k : Continuation) (s : Step) → IsTable p m → IsContinuation k → (f ≡ None → Keeps p s)
    → Keeps p (unless f m k s)
unless_keeps p None m k s t i meaning = meaning refl
unless_keeps p (Some fault) m k s t i meaning = (t, i)

either_keeps : (p : ℕ) (b : Bool) (s u : Step) → Keeps p s → Keeps p u → Keeps p (if b then s else u)
either_keeps p true s u x y = x
either_keeps p false s u x y = y

-- A change of an object keeps both where what it leaves may stand in a table.
change_keeps : (p : ℕ) (m : List Tree) (k : Continuation) (r : Result (Tree × Response) ElementFault) → IsTable p m → IsContinuation k
    → IfOk r (λ new. IsEntry p new.0) → Keeps p (step_of_change p m k r)
change_keeps p m k (Ok new) t i h = (table_put p m new.0 t h, i)
change_keeps p m k (Err fault) t i h = (t, i)

-- A batch leaves the table as it is.
results_leave : (p : ℕ) (m objects : List Tree) (s : Tree) (limit : ℕ) → IsTable p m → IsTable p (step_of_results m s limit (keyed_results p s objects)).map
results_leave p m objects s limit t = by (nat_le limit (length (keyed_results p s objects))) (keyed_results p s objects)
  where
    by : (b : Bool) (found : List (Tree × Tree)) → IsTable p (if b then step_of_full_batch m s limit (take limit found) else step_of_last_batch m found).map
    by true found = t
    by false [] = t
    by false (f ∷ found) = t

-- Where a batch goes on, it is behind a key that fits.
results_go_on : (p : ℕ) (m objects : List Tree) (s : Tree) (limit : ℕ) → IsTable p objects → IsSpecification s → 1 ≤ limit
    → IsContinuation (step_of_results m s limit (keyed_results p s objects)).continuation
results_go_on p m objects s limit t w l = by (nat_le limit (length (keyed_results p s objects))) (keyed_results p s objects) (results_fit p s objects t)
  where
    by : (b : Bool) (found : List (Tree × Tree)) → ((n : ℕ) → fits (last_found (take n found)) ≡ true)
        → IsContinuation (if b then step_of_full_batch m s limit (take limit found) else step_of_last_batch m found).continuation
    by true found f = (w, l, f limit)
    by false [] f = tt
    by false (f ∷ found) g = tt

-- A step keeps a table and a continuation.
pub step_keeps : (p : ℕ) (m : List Tree) (k : Continuation) (c : Command) → IsTable p m → IsContinuation k → Keeps p (step p m k c)
step_keeps p m k (Insert o) t i = unless_keeps p (fault_of_object p o) m k _ t i (λ n. (table_put p m o t (entry p o n), i))
step_keeps p m k (InsertNew o) t i =
    unless_keeps p (fault_of_object p o) m k _ t i (λ n. either_keeps p (is_found (get p m (key_of p o))) _ _ (t, i) (table_put p m o t (entry p o n), i))
step_keeps p m k (Lookup o) t i = unless_keeps p (fault_of_key o) m k _ t i (λ n. (t, i))
step_keeps p m k (Member o) t i = unless_keeps p (fault_of_key o) m k _ t i (λ n. (t, i))
step_keeps p m k (Delete o) t i = unless_keeps p (fault_of_key o) m k _ t i (λ n. (table_without p m o t, i))
step_keeps p m k (Take o) t i = unless_keeps p (fault_of_key o) m k _ t i (λ n. (table_without p m o t, i))
step_keeps p m k (UpdateCounter key op) t i = by_asked (operations_of p op)
  where
    by_found : (operations : Operations) (found : List Tree) → IsTable p found → Keeps p (step_of_operations p m k operations found)
    by_found operations [] f = (t, i)
    by_found operations (o ∷ others) f =
        change_keeps p m k _ t i (bind_ok (update_of_counters p o (additions_of operations)) _ (λ new. IsEntry p new.0)
        (λ new e. (subst (λ r. IfOk r (λ new. KeepsEntry (1 ≤ p) p o new.0)) e (counters_entry p o (additions_of operations) f.0.object)).entry))

    by_asked : (asked : Option Operations) → Keeps p (step_of_update_counter p m k key asked)
    by_asked None = (t, i)
    by_asked (Some operations) =
        unless_keeps p (fault_of_key key) m k _ t i (λ n. by_found operations (get p m key) (table_filter p m (λ o. is_eq (term_cmp (key_of p o) key)) t))
step_keeps p m k (UpdateElement key op) t i = by_asked (element_of p op)
  where
    by_found : (new : ℤ × Tree) (found : List Tree) → IsTable p found → Keeps p (step_of_element p m k new found)
    by_found new [] f = (t, i)
    by_found new (o ∷ others) f =
        change_keeps p m k _ t i (bind_ok (update_of_element o new.0 new.1) _ (λ new. IsEntry p new.0)
        (λ object e. (subst (λ r. IfOk r (KeepsEntry ((1 ≤ p) × IsTrue (is_open p new.0)) p o)) e (element_entry p o new.0 new.1 f.0.object)).entry))

    by_asked : (asked : Option (ℤ × Tree)) → Keeps p (step_of_update_element p m k key asked)
    by_asked None = (t, i)
    by_asked (Some new) =
        unless_keeps p (fault_of_key key) m k _ t i (λ n. by_found new (get p m key) (table_filter p m (λ o. is_eq (term_cmp (key_of p o) key)) t))
step_keeps p m k First t i = (t, i)
step_keeps p m k Last t i = (t, i)
step_keeps p m k (Next o) t i = unless_keeps p (fault_of_key o) m k _ t i (λ n. (t, i))
step_keeps p m k (Prev o) t i = unless_keeps p (fault_of_key o) m k _ t i (λ n. (t, i))
step_keeps p m k (Select s) t i = unless_keeps p (fault_of_specification s) m k _ t i (λ n. (t, i))
step_keeps p m k (SelectRange lo hi s) t i =
    unless_keeps p (fault_of_specification s) m k _ t i
    (λ n. unless_keeps p (fault_of_key lo) m k _ t i (λ n. unless_keeps p (fault_of_key hi) m k _ t i (λ n. (t, i))))
step_keeps p m k (Batch s n) t i = by_limit (limit_of n) refl
  where
    by_limit : (limit : Option ℕ) → limit_of n ≡ limit → Keeps p (step_of_batch p m k s limit)
    by_limit None e = (t, i)
    by_limit (Some limit) e =
        unless_keeps p (fault_of_specification s) m k _ t i
        (λ w. (results_leave p m m s limit t, results_go_on p m m s limit t (specification_is s w) (limit_from n limit e)))
step_keeps p m Never More t i = (t, i)
step_keeps p m (Behind s limit key) More t i =
    (results_leave p m (above p m key) s limit t, results_go_on p m (above p m key) s limit (table_above p m key t) i.0 i.1)
step_keeps p m AtEnd More t i = (t, i)
