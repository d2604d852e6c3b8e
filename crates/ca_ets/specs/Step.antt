-- One step of one thread: what a command does to the map and to its client's continuation, the reply, and the nature of each command.
-- Source: the ets manual's text on each call; the order of the checks and the error `size` are this project's own.
use Rattle.std.specs.Prelude.{ℕ, ℤ, pos, negsuc, Bool, true, false, nat_le, Option, None, Some, option_map, Result, Ok, Err, List, [], ◌∷◌, map, length, take, filter_map, if◌then◌else◌}
use Rattle.ca_term.specs.Tree.{Tree, Integer, Atom, Tuple, Nil, Cons, Binary}
use Rattle.ca_term.specs.Object.{is_object, key_of, fits}
use Rattle.ca_term.specs.Updates.{ElementFault, BadArgument, OutOfRange, TooLarge, and_then, update_of_counters, update_of_element}
use Rattle.ca_match.specs.Match.{chosen, result_of}
use Rattle.ca_ets.specs.OrderedMap.{put, get, del, above, below, between}
use Rattle.ca_match.specs.Specification.{first_fault}
use Rattle.ca_ets.specs.Update.{Operations, One, Several, additions_of, operations_of, element_of}
use Rattle.ca_ets.specs.Command.{Command, Response, Truth, Value, Items, Results, End, Error, Continuation, Never, At, AtEnd, response_of}
use Rattle.ca_ets.specs.Nature.{Nature, asking, ReadsKey, ReadsBy, ReadsMany, Edits, EditsBy, EditsRead, Puts, OfKey, OfLeastKey, OfGreatestKey, OfNextKey, OfPreviousKey, ForNothing, ForRoom, ForFound, ForOperations, ForResults}
use Rattle.ca_ets.specs.declared.command.Cmd.TheVariants.{Insert, InsertNew, Lookup, Member, Delete, Take, UpdateCounter, UpdateElement, First, Last, Next, Prev, Select, SelectRange, Batch, More}
use Rattle.ca_ets.specs.declared.command.Fault.{Fault}
use Rattle.ca_ets.specs.declared.command.Fault.TheVariants.{BadArg, Range, Size}
use Rattle.ca_ets.specs.declared.command.Reply.{Reply}

-- what a step leaves, and its reply
pub record Step : Type 0 where
  pub map : List Tree
  pub continuation : Continuation
  pub response : Response

-- a step that leaves the continuation as it is
abbrev pub with_map : List Tree → Continuation → Response → Step
with_map map continuation response = record { map = map; continuation = continuation; response = response }

-- a step that changes nothing
abbrev pub no_change : List Tree → Continuation → Response → Step
no_change map continuation response = with_map map continuation response

-- a command's meaning, unless an argument is refused
abbrev pub unless : Option Fault → List Tree → Continuation → Step → Step
unless None map continuation meaning = meaning
unless (Some fault) map continuation meaning = no_change map continuation (Error fault)

-- why a key is refused: its code is too long
abbrev pub fault_of_key : Tree → Option Fault
fault_of_key k = if fits k then None else Some Size

-- why an object is refused: it is none, or its code is too long
abbrev pub fault_of_object : ℕ → Tree → Option Fault
fault_of_object keypos o = if is_object keypos o then (if fits o then None else Some Size) else Some BadArg

-- whether an object was found
abbrev pub is_found : List Tree → Bool
is_found [] = false
is_found (o ∷ found) = true

-- `insert`: it replaces the object of an equal key
abbrev pub step_of_insert : ℕ → List Tree → Continuation → Tree → Step
step_of_insert keypos map continuation o = unless (fault_of_object keypos o) map continuation (with_map (put keypos map o) continuation (Truth true))

-- `insert_new`: it inserts where no object has the key
abbrev pub step_of_insert_new : ℕ → List Tree → Continuation → Tree → Step
step_of_insert_new keypos map continuation o =
    unless (fault_of_object keypos o) map continuation
    (if is_found (get keypos map (key_of keypos o))
    then no_change map continuation (Truth false)
    else with_map (put keypos map o) continuation (Truth true))

-- `lookup`: the list of the key's object, or the empty list
abbrev pub step_of_lookup : ℕ → List Tree → Continuation → Tree → Step
step_of_lookup keypos map continuation k = unless (fault_of_key k) map continuation (no_change map continuation (Items (get keypos map k)))

-- `member`: whether an object has the key
abbrev pub step_of_member : ℕ → List Tree → Continuation → Tree → Step
step_of_member keypos map continuation k = unless (fault_of_key k) map continuation (no_change map continuation (Truth (is_found (get keypos map k))))

-- `delete`: no object has the key behind it, whether or not one had it before
abbrev pub step_of_delete : ℕ → List Tree → Continuation → Tree → Step
step_of_delete keypos map continuation k = unless (fault_of_key k) map continuation (with_map (del keypos map k) continuation (Truth true))

-- `take`: it removes the key's object and answers with its list, or the empty list
abbrev pub step_of_take : ℕ → List Tree → Continuation → Tree → Step
step_of_take keypos map continuation k = unless (fault_of_key k) map continuation (with_map (del keypos map k) continuation (Items (get keypos map k)))

-- the error of a change that is refused
abbrev pub fault_of : ElementFault → Fault
fault_of BadArgument = BadArg
fault_of OutOfRange = Range
fault_of TooLarge = Size

-- a change of the key's object, with its reply, or why there is none
abbrev pub step_of_change : ℕ → List Tree → Continuation → Result (Tree × Response) ElementFault → Step
step_of_change keypos map continuation (Ok new) = with_map (put keypos map new.0) continuation new.1
step_of_change keypos map continuation (Err fault) = no_change map continuation (Error (fault_of fault))

-- the values that operations stored: that of one alone, or the list of several
abbrev pub reply_of : Operations → List ℤ → Response
reply_of (One a) [] = Items []
reply_of (One a) (value ∷ values) = Value (Integer value)
reply_of (Several additions) values = Items (map Integer values)

-- operations on the key's object, all or none; it must be there
abbrev pub step_of_operations : ℕ → List Tree → Continuation → Operations → List Tree → Step
step_of_operations keypos map continuation operations [] = no_change map continuation (Error BadArg)
step_of_operations keypos map continuation operations (o ∷ found) =
    step_of_change keypos map continuation
    (and_then (update_of_counters keypos o (additions_of operations)) (λ new. Ok (new.0, reply_of operations new.1)))

-- `update_counter`: first the form of the operations is checked, then the key, then the object
abbrev pub step_of_update_counter : ℕ → List Tree → Continuation → Tree → Option Operations → Step
step_of_update_counter keypos map continuation k None = no_change map continuation (Error BadArg)
step_of_update_counter keypos map continuation k (Some operations) =
    unless (fault_of_key k) map continuation (step_of_operations keypos map continuation operations (get keypos map k))

-- another element of the key's object, if it is there
abbrev pub step_of_element : ℕ → List Tree → Continuation → ℤ × Tree → List Tree → Step
step_of_element keypos map continuation new [] = no_change map continuation (Truth false)
step_of_element keypos map continuation new (o ∷ found) =
    step_of_change keypos map continuation (and_then (update_of_element o new.0 new.1) (λ object. Ok (object, Truth true)))

-- `update_element`: first the form of the argument is checked, then the key, then the object
abbrev pub step_of_update_element : ℕ → List Tree → Continuation → Tree → Option (ℤ × Tree) → Step
step_of_update_element keypos map continuation k None = no_change map continuation (Error BadArg)
step_of_update_element keypos map continuation k (Some new) =
    unless (fault_of_key k) map continuation (step_of_element keypos map continuation new (get keypos map k))

-- ---- walks by key

-- the least key of these objects, or that there is none
abbrev pub first_key : ℕ → List Tree → Response
first_key keypos [] = End
first_key keypos (o ∷ objects) = Value (key_of keypos o)

-- the greatest key of these objects, or that there is none
abbrev pub last_key : ℕ → List Tree → Response
last_key keypos [] = End
last_key keypos (o ∷ []) = Value (key_of keypos o)
last_key keypos (o ∷ p ∷ objects) = last_key keypos (p ∷ objects)

-- `first` and `last`: the least and the greatest key of the table
abbrev pub step_of_first : ℕ → List Tree → Continuation → Step
step_of_first keypos map continuation = no_change map continuation (first_key keypos map)

abbrev pub step_of_last : ℕ → List Tree → Continuation → Step
step_of_last keypos map continuation = no_change map continuation (last_key keypos map)

-- `next`: the least key above this one, which need not be there
abbrev pub step_of_next : ℕ → List Tree → Continuation → Tree → Step
step_of_next keypos map continuation k = unless (fault_of_key k) map continuation (no_change map continuation (first_key keypos (above keypos map k)))

-- `prev`: the greatest key below this one, which need not be there
abbrev pub step_of_prev : ℕ → List Tree → Continuation → Tree → Step
step_of_prev keypos map continuation k = unless (fault_of_key k) map continuation (no_change map continuation (last_key keypos (below keypos map k)))

-- ---- selections

-- why a match specification is refused: it is none
abbrev pub fault_of_specification : Tree → Option Fault
fault_of_specification s = option_map (λ fault. BadArg) (first_fault s)

-- `select`: the results of all objects that the specification chooses, in key order
abbrev pub step_of_select : List Tree → Continuation → Tree → Step
step_of_select map continuation s = unless (fault_of_specification s) map continuation (no_change map continuation (Items (chosen s map)))

-- `select_range`: the same over the objects from one key to another, both included
abbrev pub step_of_select_range : ℕ → List Tree → Continuation → Tree → Tree → Tree → Step
step_of_select_range keypos map continuation lo hi s =
    unless (fault_of_specification s) map continuation
    (unless (fault_of_key lo) map continuation
    (unless (fault_of_key hi) map continuation
    (no_change map continuation (Items (chosen s (between keypos map lo hi))))))

-- ---- batches

-- how many results a batch asks for: an integer of at least 1
abbrev pub limit_in : ℤ → Option ℕ
limit_in (pos n) = if nat_le 1 n then Some n else None
limit_in (negsuc n) = None

abbrev pub limit_of : Tree → Option ℕ
limit_of (Integer n) = limit_in n
limit_of (Atom text) = None
limit_of (Tuple row) = None
limit_of Nil = None
limit_of (Cons head tail) = None
limit_of (Binary bytes) = None

-- the key of each object that a specification chooses with its result, in key order
abbrev pub keyed_results : ℕ → Tree → List Tree → List (Tree × Tree)
keyed_results keypos s objects = filter_map (λ o. option_map (λ t. (key_of keypos o, t)) (result_of s o)) objects

abbrev pub results_in : List (Tree × Tree) → List Tree
results_in found = map (λ f. f.1) found

-- the key of the last object that gave a result
abbrev pub last_found : List (Tree × Tree) → Tree
last_found [] = Nil
last_found (f ∷ []) = f.0
last_found (f ∷ g ∷ found) = last_found (g ∷ found)

-- a batch with as many results as were asked for: the next one goes on behind the last of them
abbrev pub step_of_full_batch : List Tree → Tree → ℕ → List (Tree × Tree) → Step
step_of_full_batch map s limit found = with_map map (At s limit (last_found found)) (Results (results_in found) true)

-- a batch with the last results, or with none
abbrev pub step_of_last_batch : List Tree → List (Tree × Tree) → Step
step_of_last_batch map [] = with_map map AtEnd End
step_of_last_batch map (f ∷ found) = with_map map AtEnd (Results (results_in (f ∷ found)) false)

-- the batch of the first results, out of all that there are behind its beginning
abbrev pub step_of_results : List Tree → Tree → ℕ → List (Tree × Tree) → Step
step_of_results map s limit found =
    if nat_le limit (length found) then step_of_full_batch map s limit (take limit found) else step_of_last_batch map found

-- `batch`: a batch from the first object on
abbrev pub step_of_batch : ℕ → List Tree → Continuation → Tree → Option ℕ → Step
step_of_batch keypos map continuation s None = no_change map continuation (Error BadArg)
step_of_batch keypos map continuation s (Some limit) =
    unless (fault_of_specification s) map continuation (step_of_results map s limit (keyed_results keypos s map))

-- `more`: the next batch where one was full; a client that asked for none has no next one
abbrev pub step_of_more : ℕ → List Tree → Continuation → Step
step_of_more keypos map Never = no_change map Never (Error BadArg)
step_of_more keypos map (At s limit k) = step_of_results map s limit (keyed_results keypos s (above keypos map k))
step_of_more keypos map AtEnd = no_change map AtEnd End

abbrev pub step : ℕ → List Tree → Continuation → Command → Step
step keypos map continuation (Insert o) = step_of_insert keypos map continuation o
step keypos map continuation (InsertNew o) = step_of_insert_new keypos map continuation o
step keypos map continuation (Lookup k) = step_of_lookup keypos map continuation k
step keypos map continuation (Member k) = step_of_member keypos map continuation k
step keypos map continuation (Delete k) = step_of_delete keypos map continuation k
step keypos map continuation (Take k) = step_of_take keypos map continuation k
step keypos map continuation (UpdateCounter k op) = step_of_update_counter keypos map continuation k (operations_of keypos op)
step keypos map continuation (UpdateElement k op) = step_of_update_element keypos map continuation k (element_of keypos op)
step keypos map continuation First = step_of_first keypos map continuation
step keypos map continuation Last = step_of_last keypos map continuation
step keypos map continuation (Next k) = step_of_next keypos map continuation k
step keypos map continuation (Prev k) = step_of_prev keypos map continuation k
step keypos map continuation (Select s) = step_of_select map continuation s
step keypos map continuation (SelectRange lo hi s) = step_of_select_range keypos map continuation lo hi s
step keypos map continuation (Batch s n) = step_of_batch keypos map continuation s (limit_of n)
step keypos map continuation More = step_of_more keypos map continuation

-- what each command asks of the table, and what it takes memory for
abbrev pub nature_of : Command → Nature
nature_of (Insert o) = asking Puts ForRoom
nature_of (InsertNew o) = asking Puts ForRoom
nature_of (Lookup k) = asking ReadsKey (ForFound (OfKey k))
nature_of (Member k) = asking ReadsKey ForNothing
nature_of (Delete k) = asking Edits ForNothing
nature_of (Take k) = asking (EditsRead k) (ForFound (OfKey k))
nature_of (UpdateCounter k op) = asking (EditsBy op) (ForOperations op)
nature_of (UpdateElement k op) = asking Edits ForNothing
nature_of First = asking ReadsMany (ForFound OfLeastKey)
nature_of Last = asking ReadsMany (ForFound OfGreatestKey)
nature_of (Next k) = asking ReadsMany (ForFound (OfNextKey k))
nature_of (Prev k) = asking ReadsMany (ForFound (OfPreviousKey k))
nature_of (Select s) = asking (ReadsBy s) ForResults
nature_of (SelectRange lo hi s) = asking ReadsMany ForResults
nature_of (Batch s n) = asking ReadsMany ForResults
nature_of More = asking ReadsMany ForResults

-- the step that leaves this map and continuation, and gives this reply
abbrev pub step_of_reply : List Tree → Continuation → Reply → Step
step_of_reply map continuation reply = record { map = map; continuation = continuation; response = response_of reply }
