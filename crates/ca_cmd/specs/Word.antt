-- Command words, and the commands that they make of their arguments.
use Rattle.std.specs.Prelude.{◌≡◌, ℕ, suc, List, [], ◌∷◌, take, drop, slice_index_or, codes, bytes_eq, Option, None, Some, Ok, if◌then◌else◌}
use Rattle.ca_term.specs.Tree.{Tree, Nil}
use Rattle.ca_ets.specs.declared.command.Cmd.TheVariants as command
use Rattle.ca_ets.specs.Command.{Command}
use Rattle.ca_text.specs.Grammar.{is_blank}
use Rattle.ca_cmd.specs.declared.fault.LineWhy.TheVariants.{UnknownWord}
use Rattle.ca_cmd.specs.declared.word.Word.{Word}
use Rattle.ca_cmd.specs.declared.word.Word.TheVariants as word
use Rattle.ca_cmd.specs.Argument.{Found, IsAfter, AreArguments, IsEnd, place, refused}

-- how each command word is spelled
abbrev pub words : List (List ℕ × Word)
words =
    (codes "insert", word.Insert)
    ∷ (codes "insert_new", word.InsertNew)
    ∷ (codes "lookup", word.Lookup)
    ∷ (codes "member", word.Member)
    ∷ (codes "delete", word.Delete)
    ∷ (codes "take", word.Take)
    ∷ (codes "update_counter", word.UpdateCounter)
    ∷ (codes "update_element", word.UpdateElement)
    ∷ (codes "first", word.First)
    ∷ (codes "last", word.Last)
    ∷ (codes "next", word.Next)
    ∷ (codes "prev", word.Prev)
    ∷ (codes "select", word.Select)
    ∷ (codes "select_range", word.SelectRange)
    ∷ (codes "batch", word.Batch)
    ∷ (codes "more", word.More)
    ∷ []

-- a command by its arguments
pub data Form : Type 0 where
  Bare : Command → Form
  One : (Tree → Command) → Form
  Two : (Tree → Tree → Command) → Form
  Three : (Tree → Tree → Tree → Command) → Form

-- the command of each word
abbrev pub form_of : Word → Form
form_of word.Insert = One command.Insert
form_of word.InsertNew = One command.InsertNew
form_of word.Lookup = One command.Lookup
form_of word.Member = One command.Member
form_of word.Delete = One command.Delete
form_of word.Take = One command.Take
form_of word.UpdateCounter = Two command.UpdateCounter
form_of word.UpdateElement = Two command.UpdateElement
form_of word.First = Bare command.First
form_of word.Last = Bare command.Last
form_of word.Next = One command.Next
form_of word.Prev = One command.Prev
form_of word.Select = One command.Select
form_of word.SelectRange = Three command.SelectRange
form_of word.Batch = Two command.Batch
form_of word.More = Bare command.More

-- how many arguments a command has
abbrev pub count_of : Form → ℕ
count_of (Bare c) = 0
count_of (One c) = 1
count_of (Two c) = 2
count_of (Three c) = 3

-- the argument at this place, counted from 0
abbrev pub at_place : List Tree → ℕ → Tree
at_place arguments place = slice_index_or arguments place Nil

-- the command with these arguments
abbrev pub command_with : Form → List Tree → Command
command_with (Bare c) arguments = c
command_with (One c) arguments = c (at_place arguments 0)
command_with (Two c) arguments = c (at_place arguments 0) (at_place arguments 1)
command_with (Three c) arguments = c (at_place arguments 0) (at_place arguments 1) (at_place arguments 2)

-- the first word of this spelling
abbrev pub word_in : List (List ℕ × Word) → List ℕ → Option Word
word_in [] text = None
word_in (entry ∷ others) text = if bytes_eq text entry.0 then Some entry.1 else word_in others text

abbrev pub word_of : List ℕ → Option Word
word_of text = word_in words text

-- the longest run of bytes that aren't blanks
unfoldable pub word_length : List ℕ → ℕ
word_length [] = 0
word_length (b ∷ bytes) = if is_blank b then 0 else suc (word_length bytes)

-- Nothing stands behind a command.
abbrev pub IsWhole : ℕ → Command → List ℕ → Found Command → Type 0
IsWhole size command bytes found = IsAfter (IsEnd size bytes) (λ u whole. whole ≡ Ok command) found

-- the command of this form with its arguments, and nothing more, in the rest of a line of this size
abbrev pub IsOfForm : ℕ → Form → List ℕ → Found Command → Type 0
IsOfForm size form rest found = IsAfter (AreArguments size rest (count_of form)) (λ x. IsWhole size (command_with form x.0) x.1) found

-- A text that begins with no command word is refused where it begins.
abbrev pub IsOfText : ℕ → List ℕ → Option Word → List ℕ → Found Command → Type 0
IsOfText size text None rest found = found ≡ refused UnknownWord (place size text)
IsOfText size text (Some word) rest found = IsOfForm size (form_of word) rest found

-- the command that stands at the end of a line of this size
abbrev pub IsCommand : ℕ → List ℕ → Found Command → Type 0
IsCommand size text found = IsOfText size text (word_of (take (word_length text) text)) (drop (word_length text) text) found
