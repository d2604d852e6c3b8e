-- The natures of commands: what they ask of the table, and what they take memory for. What a call may answer follows of it.
use Rattle.ca_term.specs.Tree.{Tree}

-- what a command asks of the table
pub data Asking : Type 0 where
  -- to read the object of one key
  ReadsKey : Asking
  -- to read what a specification chooses: the object of one key alone, where it fixes the key
  ReadsBy : Tree → Asking
  -- to read along the keys
  ReadsMany : Asking
  -- to change or remove the object of one key
  Edits : Asking
  -- to change it by these operations; a list of none only reads it
  EditsBy : Tree → Asking
  -- to remove the object of this key as it was read before
  EditsRead : Tree → Asking
  -- to put an object, whose key may be new
  Puts : Asking

-- an object that is found: that of this key, of the least or the greatest one, or of the next or the previous one
pub data Found : Type 0 where
  OfKey : Tree → Found
  OfLeastKey : Found
  OfGreatestKey : Found
  OfNextKey : Tree → Found
  OfPreviousKey : Tree → Found

-- what it takes memory for, over a store that holds objects by their codes
pub data Memory : Type 0 where
  ForNothing : Memory
  -- for a key that is new
  ForRoom : Memory
  -- for a reply of an object that is found, or of its key
  ForFound : Found → Memory
  -- for operations in a list, and for their values
  ForOperations : Tree → Memory
  -- for a specification and its results
  ForResults : Memory

pub record Nature : Type 0 where
  pub asks : Asking
  pub takes : Memory

abbrev pub asking : Asking → Memory → Nature
asking asks takes = record { asks = asks; takes = takes }
