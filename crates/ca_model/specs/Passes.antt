-- What is known of a pass over a shared history, and what one of its calls adds.
use Rattle.std.specs.Prelude.{◌≡◌, ℕ, true, List, [], ◌∷◌, ◌++◌, length, Some}
use Rattle.ca_model.specs.History.{History, state, by_pass, AreEdits, AreByPasses}
use Rattle.ca_model.specs.Event.{Event, Entry, effect}
use Rattle.ca_model.specs.Lawful.{IsLawful, IsPlaceFrom}
use Rattle.ca_model.specs.Known.{Known, Meets, IsSameStore}

-- The pass has seen this history and has this log, which is lawful for it, and knows the history's last state.
pub record HasSeen (a : Known) (history : History) (log : List Entry) : Type 0 where
  pub seen : a.seen ≡ Some (record { history = history; log = log })
  pub map : a.map ≡ state history (length history)
  pub lawful : IsLawful a.pass history log
  pub edits : AreEdits a.keypos history
  pub passes : AreByPasses a.passes history

-- The pass saw more of the history, and its log got one entry, whose place is not below what it had seen before.
pub record Advances (a b : Known) (event : Event) : Type 0 where
  pub history : History
  pub more : History
  pub log : List Entry
  pub at : ℕ
  pub same : IsSameStore a b
  pub before : HasSeen a history log
  pub behind : HasSeen b (history ++ more) (log ++ (event, at) ∷ [])
  pub from : IsPlaceFrom (length history) at (effect event)
  -- nobody else edits the map of a pass that is alone
  pub alone : a.alone ≡ true → more ≡ by_pass a.pass (effect event)
  pub counts : b.counts ≡ a.counts

-- Such a call meets a store's contract.
abbrev pub PassesMeet : Type 0
PassesMeet = (a b : Known) (event : Event) → Advances a b event → Meets a b event
