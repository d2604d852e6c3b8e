-- Where a client plays alone on a tree, its commands are refused for want of rows only late.
use Rattle.std.proofs.Common.{◌≡◌, ℕ, suc, ◌+◌, ◌*◌, ◌≤◌, Bool, true, List, [], ◌∷◌, length, arith, refl, sym, ◌∙◌, ap, subst, inl, inr, Ok, Err}
use Rattle.std.specs.Prelude.{Option, None, Some}
use Rattle.ca_ets.specs.Command.{Answer, Command, Deep, Full, Worn, response_of}
use Rattle.ca_ets.specs.declared.command.Reply.{Reply}
use Rattle.ca_model.specs.declared.outcome.Cause.{Cause}
use Rattle.ca_model.specs.declared.outcome.Cause.TheVariants as cause
use Rattle.ca_model.specs.declared.outcome.FullCause.{FullCause}
use Rattle.ca_model.specs.declared.outcome.Outcome.{Outcome}
use Rattle.ca_model.specs.declared.outcome.Outcome.TheVariants as outcome
use Rattle.ca_node.specs.TreeView.{TreeView}
use Rattle.ca_replace.proofs.Commands.{full_late}
use Rattle.ca_replace.proofs.Levels.{reads_none, split_by_commands}
use Rattle.ca_replace.specs.Adapting.{is_put}
use Rattle.ca_replace.specs.Alone.{IsCrowdedCall, IsShortOfRows}
use Rattle.ca_replace.specs.Levels.{HasPlayed, HasReadFor}
use Rattle.ca_replace.specs.Resting.{StoreAndRun, StoreView, knows}
use Rattle.ca_replace.specs.TreePromises.{tree_promises}
use Rattle.ca_rows.specs.declared.sizes.Sizes.{Sizes}
use Rattle.ca_table.specs.Made.{Read, Reserves, Gets, LooksAbove, LooksBelow, Opens, HandsOut, Closes, Edit, Puts, PutsNew, Removes, Asks, HasEdited, HasMadeFor, HasOnlyRead, HasPrepared, IsAnswerTo, IsEdit, IsRead, added_by, answer_for, refusal_of, refused_by, refused_read}
use Rattle.ca_client.specs.Chain.{HasBeenAnswered, HaveBeenAnswered, IsAnsweredSo}
use Rattle.ca_client.specs.Following.{asked_on_tree}
use Rattle.ca_client.specs.Ran.{AreFullLate}
use Rattle.ca_client.proofs.Levels.{answered_on, key_of, keys, only_read, prepared, read_stays, told_for, tries}

-- ---- calls that were refused for want of rows

-- how many rows a call takes of such a tree at most: a read as many as there are bases, and a few
abbrev most_taken : StoreView → ℕ
most_taken s = length s.seat.me.0.upper.inventory.bases + 11

-- The tree is short of rows for any call.
abbrev IsShort : StoreView → Type 0
IsShort s = IsShortOfRows s.z (most_taken s) s.seat.me.0.upper

-- So a call tells that was refused.
short_by : {T : Type 0} (z : Sizes) (more : ℕ) (u : TreeView) (o : Outcome T) (why : FullCause) → refusal_of o ≡ Some (cause.Full why)
    → IsCrowdedCall z more u o → IsShortOfRows z more u
short_by z more u (outcome.Done x) why e h = cc
short_by z more u (outcome.Busy spent) why e h = cc
short_by z more u (outcome.Full full) why e h = h
short_by z more u (outcome.Deep level) why e h = cc
short_by z more u (outcome.Worn counter) why e h = cc

short_for_edit : {T : Type 0} (s : StoreView) (o : Outcome T) (why : FullCause) → refusal_of o ≡ Some (cause.Full why)
    → IsCrowdedCall s.z 11 s.seat.me.0.upper o → IsShort s
short_for_edit s o why e h = let short = short_by s.z 11 s.seat.me.0.upper o why e h in
    ((let few = short.0 in omega (arith, few)), short.1)

full_is : (why : Cause) (full : FullCause) → outcome.Full full ≡ answer_for why → why ≡ cause.Full full
full_is (cause.Busy spent) full e = cc
full_is (cause.Full why) full e = cc
full_is (cause.Deep level) full e = cc
full_is (cause.Worn counter) full e = cc

module _ (s t : StoreAndRun) (one : s.store.z.passes ≡ 1) (why : FullCause) where
  full_read : (read : Read) → IsRead tree_promises read s t → refused_read read ≡ Some (cause.Full why) → IsShort s.store
  full_read Reserves h e = cc
  full_read (Gets budget key o into) h e = cc
  full_read (LooksAbove budget lo o into) h e = short_by s.store.z (most_taken s.store) s.store.seat.me.0.upper o why e (h.0.crowded one)
  full_read (LooksBelow budget hi o into) h e = short_by s.store.z (most_taken s.store) s.store.seat.me.0.upper o why e (h.0.crowded one)
  full_read (Opens budget lo hi want o) h e = short_by s.store.z (most_taken s.store) s.store.seat.me.0.upper o why e (h.0.crowded one)
  full_read HandsOut h e = cc
  full_read Closes h e = cc

  full_call : (adds : Option (List ℕ)) (edit : Edit) → IsEdit tree_promises asked_on_tree edit s t → added_by edit ≡ adds
      → refused_by edit ≡ Some (cause.Full why) → IsShort s.store
  full_call adds (Puts budget pair o) h key e =
      short_for_edit s.store o why e ((told_for adds s t (λ (x : Unit {0}). true) (Some pair.0) budget o key h).crowded one)
  full_call adds (PutsNew budget pair o) h key e =
      short_for_edit s.store o why e ((told_for adds s t (λ (x : Bool). x) (Some pair.0) budget o key h).crowded one)
  full_call adds (Removes budget k o old) h key e =
      short_for_edit s.store o why e ((told_for adds s t (λ (x : Bool). x) None budget o key h).crowded one)
  full_call adds (Asks budget o) h key e = short_for_edit s.store o why e ((told_for adds s t is_put None budget o key h).crowded one)

-- ---- a try that was refused so

module _ (command : Command) (s t : StoreAndRun) (one : s.store.z.passes ≡ 1) (why : FullCause) where
  -- Behind the reads of a try the tree is short of rows.
  abbrev IsShortBehind : Type 0
  IsShortBehind = (w : StoreView) × HasReadFor (key_of command s) s.store w × IsShort w

  -- The pass is alone behind its reads.
  still : (w : StoreView) → HasReadFor (key_of command s) s.store w → w.z.passes ≡ 1
  still w read = ap (λ (z : Sizes). z.passes) (read_stays (key_of command s) s.store w read).sizes ∙ one

  by_read : (adds : Option (List ℕ)) → adds ≡ key_of command s → HasOnlyRead tree_promises adds (outcome.Full why) s t → IsShortBehind
  by_read None e (inl h) = absurd h.1
  by_read None e (inr h) =
      let refused = h.3 in
      let read = subst (λ (k : Option (List ℕ)). HasReadFor k s.store refused.0.store) e (only_read s refused.0 refused.2) in
      let is = ap (λ (c : Cause). Some c) (full_is h.0 why h.1) in
      (refused.0.store, read, full_read refused.0 t (still refused.0.store read) why refused.1 refused.3 (refused.4 ∙ is))
  by_read (Some key) e h = absurd h.1

  by_edit : (between : StoreAndRun) (refusal : Option Cause) → HasPrepared tree_promises (key_of command s) s between
      → HasEdited tree_promises asked_on_tree (key_of command s) refusal between t
      → IsAnswerTo knows tree_promises asked_on_tree command s t refusal (outcome.Full why) → IsShortBehind
  by_edit between None first h (inl done) = absurd done
  by_edit between None first h (inr over) = let no : outcome.Full why ≡ outcome.Busy over.0 = over.1 in cc
  by_edit between (Some refusal) first h answered =
      let read = prepared (key_of command s) s between first in
      let is = ap (λ (c : Cause). Some c) (full_is refusal why answered) in
      (between.store, read, full_call between t (still between.store read) why (key_of command s) h.0 h.1 h.2 (h.3 ∙ is))

  full_on : HasMadeFor knows tree_promises asked_on_tree command s t (outcome.Full why) → IsShortBehind
  full_on (inl h) = by_read (key_of command s) refl h
  full_on (inr h) = by_edit h.between h.refusal h.prepared h.edited h.answered

-- ---- a command, and commands

-- the most rows that a tree has where a command is refused for want of them behind so many
abbrev most_rows : ℕ → ℕ
most_rows before = 8 * before + 448

module _ (command : Command) (answer : Answer) (s t : StoreAndRun) (alone : (knows s).alone ≡ true)
    (h : HasBeenAnswered knows tree_promises asked_on_tree command answer s t)
    (before : ℕ) (start : StoreView) (one : start.z.passes ≡ 1) (unsplit : start.seat.me.0.upper.splits ≡ 0)
    (unrenewed : start.seat.me.0.upper.renewal.count ≡ 0) (played : HasPlayed before start s.store) where
  at_full : (why : FullCause) → HasMadeFor knows tree_promises asked_on_tree command h.before t (outcome.Full why)
      → start.z.rows ≤ most_rows before
  at_full why made =
      let tried = tries command answer s t alone h in
      let first = (split_by_commands before start s.store one played).0 in
      let lone = ap (λ (z : Sizes). z.passes) (tried.same.sizes ∙ first.sizes) ∙ one in
      let full = full_on command h.before t lone why made in
      full_late before h.again start s.store h.before.store full.0 (key_of command s) one unsplit unrenewed played tried.tried
      (subst (λ (adds : Option (List ℕ)). HasReadFor adds h.before.store full.0) (keys command answer s t alone h) full.1) full.2

  by_outcome : (o : Outcome Reply) → IsAnsweredSo o answer → HasMadeFor knows tree_promises asked_on_tree command h.before t o
      → answer ≡ Err Full → start.z.rows ≤ most_rows before
  by_outcome (outcome.Done reply) so made e = let no : Ok (response_of reply) ≡ Err Full = sym so ∙ e in cc
  by_outcome (outcome.Busy spent) so made e = absurd so
  by_outcome (outcome.Full why) so made e = at_full why made
  by_outcome (outcome.Deep level) so made e = let no : Err Deep ≡ Err Full = sym so ∙ e in cc
  by_outcome (outcome.Worn counter) so made e = let no : Err Worn ≡ Err Full = sym so ∙ e in cc

  full_behind : answer ≡ Err Full → start.z.rows ≤ most_rows before
  full_behind e = by_outcome h.outcome h.answered h.made e

full_is_late : (before : ℕ) (start : StoreView) (s t : StoreAndRun) (commands : List Command) (answers : List Answer) → start.z.passes ≡ 1
    → start.seat.me.0.upper.splits ≡ 0 → start.seat.me.0.upper.renewal.count ≡ 0 → (knows s).alone ≡ true → HasPlayed before start s.store
    → HaveBeenAnswered knows tree_promises asked_on_tree commands answers s t → AreFullLate start.z.rows before answers
full_is_late before start s t [] [] one unsplit unrenewed alone played h = tt
full_is_late before start s t [] (answer ∷ answers) one unsplit unrenewed alone played h = absurd h
full_is_late before start s t (command ∷ commands) [] one unsplit unrenewed alone played h = absurd h
full_is_late before start s t (command ∷ commands) (answer ∷ answers) one unsplit unrenewed alone played h = (
  full_behind command answer s h.0 alone h.1 before start one unsplit unrenewed played,
  full_is_late (suc before) start h.0 t commands answers one unsplit unrenewed (h.1.same.alone ∙ alone)
      (key_of command s, s.store, h.0.store, played, answered_on command answer s h.0 alone h.1, reads_none h.0.store) h.2,
)

-- A client that begins with its pass.
pub begins_full_late : (s t : StoreAndRun) (commands : List Command) (answers : List Answer) → s.store.z.passes ≡ 1
    → s.store.seat.me.0.upper.splits ≡ 0 → s.store.seat.me.0.upper.renewal.count ≡ 0 → (knows s).alone ≡ true
    → HaveBeenAnswered knows tree_promises asked_on_tree commands answers s t → AreFullLate s.store.z.rows 0 answers
begins_full_late s t commands answers one unsplit unrenewed alone h =
    full_is_late 0 s.store s t commands answers one unsplit unrenewed alone (reads_none s.store) h
