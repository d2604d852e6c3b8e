-- What a pass that is alone wins: each exchange of a link. So the walk behind its update comes to the new base. And what turns it spends.
use Rattle.std.specs.Prelude.{◌≡◌, ◌+◌, Bool, true, false, [], Result, Ok, Err}
use Rattle.ca_model.specs.declared.outcome.Outcome.{Outcome}
use Rattle.ca_model.specs.declared.outcome.Outcome.TheVariants as outcome
use Rattle.ca_node.specs.TreeView.{TreeView}

-- No exchange of a link was lost, and the new base of the last update was shown last. Where no range of another pass was found unfinished, none was helped.
abbrev pub StaysNewest : TreeView → TreeView → Type 0
StaysNewest u v = (v.lost ≡ u.lost) × (v.last.row ≡ v.renewal.new.row) × (u.ranges.unfinished ≡ [] → v.turns.helped ≡ u.turns.helped)

-- Each turn that was spent, but for lost exchanges, is that of a split, and each split is one: no operation of another pass was helped.
abbrev pub TurnsBySplits : TreeView → TreeView → Type 0
TurnsBySplits u v = (v.turns.passed + u.splits ≡ u.turns.passed + v.splits) × (v.turns.helped ≡ u.turns.helped)

-- No exchange of a link was lost, and turns were spent by splits alone.
abbrev pub LosesNone : TreeView → TreeView → Type 0
LosesNone u v = (v.lost ≡ u.lost) × TurnsBySplits u v

-- No exchange of a link was lost, and nothing was helped. Where an update was carried out, none had been lost until then, and its new base was shown last;
-- else turns were spent by splits alone.
abbrev pub HasWon : Bool → TreeView → TreeView → Type 0
HasWon true u v = (v.lost ≡ u.lost) × (v.renewal.lost ≡ u.lost) × (v.last.row ≡ v.renewal.new.row) × (v.turns.helped ≡ u.turns.helped)
HasWon false u v = LosesNone u v

-- So it is of attempts, by what they came to, and of a call, by its outcome.
abbrev pub HasWonInAttempts : {T E : Type 0} → (T → Bool) → Result T E → TreeView → TreeView → Type 0
HasWonInAttempts edits (Ok x) u v = HasWon (edits x) u v
HasWonInAttempts edits (Err why) u v = HasWon false u v

abbrev pub HasWonInCall : {T : Type 0} → (T → Bool) → Outcome T → TreeView → TreeView → Type 0
HasWonInCall edits (outcome.Done x) u v = HasWon (edits x) u v
HasWonInCall edits (outcome.Busy s) u v = HasWon false u v
HasWonInCall edits (outcome.Full s) u v = HasWon false u v
HasWonInCall edits (outcome.Deep s) u v = HasWon false u v
HasWonInCall edits (outcome.Worn s) u v = HasWon false u v
