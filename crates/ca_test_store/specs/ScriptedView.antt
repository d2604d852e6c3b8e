-- What contracts see of a store with a script, and what it keeps.
use Rattle.std.specs.Prelude.{◌≡◌, ℕ, ◌+◌, ◌≤◌, ◌<◌, false, List, [], length, None}
use Rattle.ca_model.specs.History.{Edit}
use Rattle.ca_model.specs.Known.{Known, Counts}
use Rattle.ca_test_store.specs.Script.{ScriptTurn, ScriptedStore, after_edits, AreProper, AreProperTurns, count_edits}
use Rattle.ca_test_store.specs.Inner.{IsOwned}
use Rattle.ca_test_store.specs.declared.scripted.Scripted.TheInside.{Inside}

-- the store with this map and run, these turns and counts, this much room for its own new keys, and these edits of others that were made
-- behind the run: the others are one pass
abbrev pub store_with : Known → List ScriptTurn → Counts → ℕ → List Edit → ScriptedStore
store_with objects turns counts spare waiting = record {
  known = record {
    store = [];
    keypos = objects.keypos;
    pass = 1;
    passes = 2;
    alone = false;
    sure = false;
    map = after_edits waiting objects.map;
    seen = None;
    run = objects.run;
    spare = spare;
    counts = counts;
  };
  turns = turns;
  room = objects.spare;
}

-- No count is higher than the number of turns that were taken.
pub record AreCounted (turns : List ScriptTurn) (counts : Counts) (made : ℕ) : Type 0 where
  pub busy : counts.busy + length turns ≤ made
  pub full : counts.full + length turns ≤ made
  pub deep : counts.deep + length turns ≤ made
  pub worn : counts.worn + length turns ≤ made
  pub most : made < 0x1_0000_0000_0000_0000

pub record IsKeptWith (objects : Known) (turns : List ScriptTurn) (counts : Counts) (spare made : ℕ) (waiting : List Edit) : Type 0 where
  pub owned : IsOwned objects
  pub proper : AreProperTurns objects.keypos turns
  pub waiting_proper : AreProper objects.keypos waiting
  -- edits wait behind an open run alone
  pub closed : objects.run ≡ None → waiting ≡ []
  -- no edit of the script will want memory
  pub room : count_edits turns + length waiting + spare ≤ objects.spare
  pub counted : AreCounted turns counts made

abbrev pub store_of : Inside → ScriptedStore
store_of inside = store_with inside.objects inside.turns.items inside.tally inside.spare inside.waiting.items

abbrev pub IsKept : Inside → Type 0
IsKept inside = IsKeptWith inside.objects inside.turns.items inside.tally inside.spare inside.made inside.waiting.items
