-- What a client's play and its lawful log say of its turns, before the merge begins.
use Rattle.std.proofs.Common.{◌≡◌, ℕ, suc, ◌≤◌, List, [], ◌∷◌, ◌++◌, length, map, arith, refl, sym, ◌∙◌, ap, subst, Some, None, Ok, Err}
use Rattle.std.specs.Prelude.{Option}
use Rattle.ca_ets.specs.Command.{Command, Answer, Continuation}
use Rattle.ca_ets.specs.Explained.{commands_of_replies, replies_of}
use Rattle.ca_model.specs.History.{Edit, History}
use Rattle.ca_model.specs.Event.{Entry, effect}
use Rattle.ca_model.specs.Lawful.{AreEntries, PlacesRise, IsPlaceFrom, IsLawful}
use Rattle.ca_explain.specs.Clients.{Part, from_event, log_of, AreReads, Plays}
use Rattle.ca_explain.specs.Places.{Turn, turns_of}
use Rattle.ca_explain.proofs.Updates.{updates, with_update, places_agree}
use Rattle.ca_explain.proofs.Waits.{Waits, AreTurns, entries_of}

weaker : (es : List Entry) (low high : ℕ) → low ≤ high → PlacesRise high es → PlacesRise low es
weaker [] low high h r = tt
weaker (entry ∷ es) low high h r = (by (effect entry.0) r.0, r.1)
  where
    by : (edits : List Edit) → IsPlaceFrom high entry.1 edits → IsPlaceFrom low entry.1 edits
    by [] f = omega arith
    by (x ∷ xs) f = omega arith

-- without the reads at the front
rise_past : (left rest : List Entry) (low : ℕ) → AreReads left → PlacesRise low (left ++ rest) → PlacesRise low rest
rise_past [] rest low reads r = r
rise_past (entry ∷ left) rest low reads r =
    let up : IsPlaceFrom low entry.1 [] = subst (λ (edits : List Edit). IsPlaceFrom low entry.1 edits) reads.0 r.0 in
    weaker rest low entry.1 up (rise_past left rest entry.1 reads.1 r.1)

entries_past : (i : ℕ) (h : History) (left rest : List Entry) → AreEntries i h (left ++ rest) → AreEntries i h rest
entries_past i h [] rest e = e
entries_past i h (entry ∷ left) rest e = entries_past i h left rest e.1

updates_past : (left rest : List Entry) → AreReads left → updates (left ++ rest) ≡ updates rest
updates_past [] rest reads = refl
updates_past (entry ∷ left) rest reads = rw reads.0 (updates_past left rest reads.1)

-- what the log of the parts says of the turns
record Begins (p i : ℕ) (h : History) (low : ℕ) (k : Continuation) (s : List Turn) (log : List Entry) : Type 0 where
  turns : AreTurns p k s
  entries : AreEntries i h (entries_of s)
  places : PlacesRise low (entries_of s)
  edits : updates (entries_of s) ≡ updates log

module _ (p i : ℕ) (h : History) where
  -- a refused command
  skipped : (low : ℕ) (k : Continuation) (s : List Turn) (left : List Entry) (event : Option Entry) (log : List Entry) → AreReads left → event ≡ None
      → (PlacesRise low log → AreEntries i h log → Begins p i h low k s log)
      → PlacesRise low (left ++ from_event event log) → AreEntries i h (left ++ from_event event log) → Begins p i h low k s (left ++ from_event event log)
  skipped low k s left event log reads none rec rise entries =
      let behind = from_event event log in
      let r : PlacesRise low log = subst (λ (e : Option Entry). PlacesRise low (from_event e log)) none (rise_past left behind low reads rise) in
      let e : AreEntries i h log = subst (λ (e : Option Entry). AreEntries i h (from_event e log)) none (entries_past i h left behind entries) in
      let b = rec r e in
      record {
        turns = b.turns;
        entries = b.entries;
        places = b.places;
        edits = b.edits ∙ sym (ap (λ (e : Option Entry). updates (from_event e log)) none) ∙ sym (updates_past left behind reads);
      }

  -- a command that was answered by a reply
  replied : (low : ℕ) (k l : Continuation) (x : Turn) (s : List Turn) (left : List Entry) (event : Option Entry) (log : List Entry) → x.event ≡ event
      → AreReads left → (AreTurns p l s → AreTurns p k (x ∷ s)) → ((low : ℕ) → PlacesRise low log → AreEntries i h log → Begins p i h low l s log)
      → PlacesRise low (left ++ from_event event log) → AreEntries i h (left ++ from_event event log)
      → Begins p i h low k (x ∷ s) (left ++ from_event event log)
  replied low k l x s left None log is reads turns rec rise entries =
      let b = rec low (rise_past left log low reads rise) (entries_past i h left log entries) in
      record {
        turns = turns b.turns;
        entries = rw is b.entries;
        places = rw is b.places;
        edits = rw is (b.edits ∙ sym (updates_past left log reads));
      }
  replied low k l x s left (Some entry) log is reads turns rec rise entries =
      let r : PlacesRise low (entry ∷ log) = rise_past left (entry ∷ log) low reads rise in
      let e : AreEntries i h (entry ∷ log) = entries_past i h left (entry ∷ log) entries in
      let b = rec entry.1 r.1 e.1 in
      record {
        turns = turns b.turns;
        entries = rw is (e.0, b.entries);
        places = rw is (r.0, b.places);
        edits = rw is (ap (with_update (effect entry.0) entry.1) b.edits ∙ sym (updates_past left (entry ∷ log) reads));
      }

  begins : (cs : List Command) (answers : List Answer) (parts : List Part) (low : ℕ) (k : Continuation) → Plays p k cs answers parts
      → PlacesRise low (log_of parts) → AreEntries i h (log_of parts) → Begins p i h low k (turns_of cs answers parts) (log_of parts)
  begins [] [] [] low k play rise entries = record { turns = tt; entries = tt; places = tt; edits = refl }
  begins [] [] (part ∷ parts) low k play rise entries = absurd play
  begins [] (a ∷ answers) parts low k play rise entries = absurd play
  begins (c ∷ cs) [] parts low k play rise entries = absurd play
  begins (c ∷ cs) (Ok r ∷ answers) [] low k play rise entries = absurd play
  begins (c ∷ cs) (Err e ∷ answers) [] low k play rise entries = absurd play
  begins (c ∷ cs) (Ok r ∷ answers) (part ∷ parts) low k play rise entries =
      replied low k play.1.0 (record { command = c; response = r; event = part.event }) (turns_of cs answers parts) part.left part.event (log_of parts) refl
      play.0 (λ t. (play.1.0, play.1.1, t)) (λ n rise' entries'. begins cs answers parts n play.1.0 play.1.2 rise' entries') rise entries
  begins (c ∷ cs) (Err e ∷ answers) (part ∷ parts) low k play rise entries =
      skipped low k (turns_of cs answers parts) part.left part.event (log_of parts) play.0 play.1
      (λ rise' entries'. begins cs answers parts low k play.2 rise' entries') rise entries

  -- A client that played as its lawful log tells waits with all its turns.
  pub start : (cs : List Command) (answers : List Answer) (parts : List Part) (k : Continuation) → Plays p k cs answers parts → IsLawful i h (log_of parts)
      → Waits p h 0 h i k (turns_of cs answers parts)
  start cs answers parts k play lawful =
      let b = begins cs answers parts 0 k play lawful.places lawful.entries in
      record { turns = b.turns; entries = b.entries; places = b.places; edits = places_agree i h (log_of parts) lawful ∙ sym b.edits }

-- what a play says of its commands and answers
pub record IsAnswered (cs : List Command) (answers : List Answer) (turns : List Turn) : Type 0 where
  pub one_each : length cs ≡ length answers
  pub commands : map (λ x. x.command) turns ≡ commands_of_replies cs answers
  pub responses : map (λ x. x.response) turns ≡ replies_of answers

-- A play has an answer for each command, and its turns are the commands that were answered by a reply, with the replies.
pub answered : (p : ℕ) (k : Continuation) (cs : List Command) (answers : List Answer) (parts : List Part) → Plays p k cs answers parts
    → IsAnswered cs answers (turns_of cs answers parts)
answered p k [] [] [] play = record { one_each = refl; commands = refl; responses = refl }
answered p k [] [] (part ∷ parts) play = absurd play
answered p k [] (a ∷ answers) parts play = absurd play
answered p k (c ∷ cs) [] parts play = absurd play
answered p k (c ∷ cs) (Ok r ∷ answers) [] play = absurd play
answered p k (c ∷ cs) (Err e ∷ answers) [] play = absurd play
answered p k (c ∷ cs) (Ok r ∷ answers) (part ∷ parts) play =
    let rest = answered p play.1.0 cs answers parts play.1.2 in
    record { one_each = ap suc rest.one_each; commands = ap (λ xs. c ∷ xs) rest.commands; responses = ap (λ xs. r ∷ xs) rest.responses }
answered p k (c ∷ cs) (Err e ∷ answers) (part ∷ parts) play =
    let rest = answered p k cs answers parts play.2 in
    record { one_each = ap suc rest.one_each; commands = rest.commands; responses = rest.responses }
