-- Calls that edit nothing: what a pass knows after one, and what such a call tells.
use Rattle.std.proofs.Common.{◌≡◌, ◌≤◌, ℕ, Bool, true, false, List, [], length, sym, refl, subst, arith}
use Rattle.ca_model.specs.Answer.{Got}
use Rattle.ca_model.specs.Event.{Event, IsAnswer, effect}
use Rattle.ca_model.specs.Known.{Known, Meets}
use Rattle.ca_node.specs.States.{IsReadSince, IsUnanswered, OfSomeState}
use Rattle.ca_node.specs.Told.{MyTree, with_upper, IsEntered, IsKnown}
use Rattle.ca_node.specs.TreeView.{Ranging, TreeView}
use Rattle.ca_node.proofs.Logs.{read_lawful, past_more}
use Rattle.ca_node.proofs.Looking.{longer_past}
use Rattle.ca_base.specs.Taking.{AreHeld, HasHeld, lent_of}
use Rattle.ca_replace.specs.Reads.{get_event}
use Rattle.ca_rows.specs.declared.kept.KeptRows.{KeptRows}
use Rattle.ca_rows.specs.declared.sizes.Sizes.{Sizes}
use Rattle.ca_rows.specs.declared.view.Claimed.{Claimed}
use Rattle.ca_rows.specs.Claims.{held_count}

-- A call that edits nothing may be entered in the log by a state since the pin, where none was
-- answered since.
pub read_by : (u : TreeView) (event : Event) → IsUnanswered u → effect event ≡ []
    → OfSomeState u (IsAnswer event) → IsReadSince event u
read_by u event none nothing by = (
  by.0,
  record {
    edits_nothing = nothing;
    since = by.1;
    answer = by.2;
    first = longer_past (length u.since) by.0 u.log by.1.0 none;
  },
)

-- The log is lawful with the call in it.
pub known_read : (z : Sizes) (m m' : MyTree) (event : Event) → IsKnown z m.0.upper
    → IsEntered event m m' → IsKnown z m'.0.upper
known_read z m m' event k e = let u = m.0.upper in let at = e.at in let read = e.is_read in
    subst (λ (x : MyTree). IsKnown z x.0.upper) (sym e.now) record {
      lawful = read_lawful u.number event u.seen at u.log read.edits_nothing read.since.1
          read.answer read.first k.lawful;
      past = past_more (length u.seen) u.log (event, at) k.past read.since.1;
      edits = k.edits;
      enrolled = k.enrolled;
      by_passes = k.by_passes;
    }

-- What the pass holds doesn't depend on what it knows of the tree.
pub held_upper : (rows : ℕ) (kept kept' : KeptRows) (m m' : MyTree) (u : TreeView) (held : List ℕ)
    → AreHeld rows kept.rows m.0 held → m' ≡ with_upper m u → u.ranges.own ≡ m.0.upper.ranges.own
    → kept' ≡ kept → AreHeld rows kept'.rows m'.0 held
held_upper rows kept kept' m m' u held h is own same = subst
    (λ (x : MyTree × KeptRows). AreHeld rows x.1.rows x.0.0 held) (λ i. (sym is i, sym same i)) (
      subst (λ (o : Ranging). HasHeld rows kept.rows m.0.claims (lent_of o) held) (sym own) h.0,
      record { now = h.1.now; ever = h.1.ever },
    )

-- Nor on what it was shown by a look.
pub held_looked : (rows : ℕ) (kept kept' : KeptRows) (m m' : MyTree) (held : List ℕ)
    → AreHeld rows kept.rows m.0 held → kept' ≡ kept
    → m'.0.claims ≡ m.0.claims → m'.0.most ≡ m.0.most → m'.0.upper.ranges.own ≡ m.0.upper.ranges.own
    → AreHeld rows kept'.rows m'.0 held
held_looked rows kept kept' m m' held h same claims most own = let ever = h.1.ever in (
  subst (λ (x : KeptRows × List Claimed × Ranging). HasHeld rows x.0.rows x.1 (lent_of x.2) held)
      (λ i. (sym same i, sym claims i, sym own i)) h.0,
  record { now = subst (λ x. held_count x ≤ length held) (sym claims) h.1.now; ever = omega arith },
)

-- What such a call answers.
pub got_is : (a b : Known) (key object : List ℕ) (found : Bool)
    → Meets a b (get_event key found object) → (found ≡ false → object ≡ [])
    → Got a b key found object
got_is a b key object true meets none = meets
got_is a b key object false meets none = (meets, none refl)
