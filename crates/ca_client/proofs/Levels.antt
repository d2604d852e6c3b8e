-- Where a client plays alone on a tree, its commands are refused for want of levels only late.
use Rattle.std.proofs.Common.{◌≡◌, ℕ, zero, suc, ◌*◌, ◌≤◌, Bool, true, List, [], ◌∷◌, sym, ◌∙◌, ap, subst, inl, inr, Ok, Err}
use Rattle.std.specs.Prelude.{Option, None, Some}
use Rattle.ca_ets.specs.Command.{Answer, Command, Deep, Full, Worn, response_of}
use Rattle.ca_ets.specs.Step.{nature_of}
use Rattle.ca_ets.specs.declared.command.Reply.{Reply}
use Rattle.ca_model.specs.Answer.{IsDone}
use Rattle.ca_model.specs.declared.outcome.Cause.{Cause}
use Rattle.ca_model.specs.declared.outcome.Cause.TheVariants as cause
use Rattle.ca_model.specs.declared.outcome.Outcome.{Outcome}
use Rattle.ca_model.specs.declared.outcome.Outcome.TheVariants as outcome
use Rattle.ca_node.specs.TreeView.{TreeView}
use Rattle.ca_replace.proofs.Levels.{deep_late, looks_none, reads_none, reads_on, split_by_commands, stays, stays_on}
use Rattle.ca_replace.specs.Adapting.{is_put}
use Rattle.ca_replace.specs.Alone.{HadNoRoom, HasLoneCause}
use Rattle.ca_replace.specs.Called.{HasTold, StaysStore}
use Rattle.ca_replace.specs.Levels.{Any, HasBeenAnswered as IsAnsweredOnTree, HasCalled, HasPlayed, HasReadFor, HasTried, IsLastTry, IsTry as IsTryOnTree, Refused}
use Rattle.ca_replace.specs.Resting.{StoreAndRun, StoreView, knows}
use Rattle.ca_replace.specs.TreePromises.{MakesNoUpdate, OnlyLooks, tree_promises}
use Rattle.ca_rows.specs.declared.sizes.Sizes.{Sizes}
use Rattle.ca_table.specs.Made.{Read, Reserves, Gets, LooksAbove, LooksBelow, Opens, HandsOut, Closes, Edit, Puts, PutsNew, Removes, Asks, AreReads, HasEdited, HasMadeFor, HasOnlyRead, HasPrepared, HasRead, HasRefusedRead, IsAnswerTo, IsEdit, IsRead, added_by, added_key, answer_for, refusal_of, refused_by}
use Rattle.ca_table.proofs.Sure.{not_overtaken}
use Rattle.ca_client.specs.Chain.{HasBeenAnswered, HasBeenTried, HaveBeenAnswered, IsAnsweredSo, IsTriedAgain}
use Rattle.ca_client.specs.Following.{asked_on_tree}
use Rattle.ca_client.specs.Ran.{AreDeepLate}
use Rattle.ca_client.proofs.Chain.{same_by}

-- ---- reads

no_update : (read : Read) (s t : StoreAndRun) → IsRead tree_promises read s t → MakesNoUpdate s.store t.store
no_update Reserves s t h = subst (λ (x : StoreAndRun). MakesNoUpdate s.store x.store) (sym h) (reads_none s.store)
no_update (Gets budget key outcome into) s t h = h.0.unchanged
no_update (LooksAbove budget lo outcome into) s t h = h.0.unchanged
no_update (LooksBelow budget hi outcome into) s t h = h.0.unchanged
no_update (Opens budget lo hi want outcome) s t h = h.0.unchanged
no_update HandsOut s t h = h.unchanged
no_update Closes s t h = h.looks.unchanged

no_updates : (reads : List Read) (s t : StoreAndRun) → AreReads tree_promises reads s t → MakesNoUpdate s.store t.store
no_updates [] s t h = subst (λ (x : StoreAndRun). MakesNoUpdate s.store x.store) (sym h) (reads_none s.store)
no_updates (read ∷ reads) s t h = reads_on s.store h.0.store t.store (no_update read s h.0 h.1) (no_updates reads h.0 t h.2)

-- Reads of which none was refused, and those of which the last one was.
pub only_read : (s t : StoreAndRun) → HasRead tree_promises s t → MakesNoUpdate s.store t.store
only_read s t h = no_updates h.0 s t h.2

refused_read_too : (answer : Outcome Reply) (s t : StoreAndRun) → HasRefusedRead tree_promises answer s t → MakesNoUpdate s.store t.store
refused_read_too answer s t h = let r = h.3 in
    reads_on s.store r.0.store t.store (only_read s r.0 r.2) (no_update r.1 r.0 t r.3)

pub prepared : (adds : Option (List ℕ)) (s t : StoreAndRun) → HasPrepared tree_promises adds s t → HasReadFor adds s.store t.store
prepared None s t h = no_updates h.0 s t h.2
prepared (Some key) s t h = subst (λ (x : StoreAndRun). OnlyLooks s.store x.store) (sym h) (looks_none s.store)

-- ---- calls that may edit

refused_so : {T : Type 0} (o : Outcome T) (why : Cause) → refusal_of o ≡ Some why → ¬ IsDone o
refused_so (outcome.Done x) why e done = cc
refused_so (outcome.Busy spent) why e done = done
refused_so (outcome.Full full) why e done = done
refused_so (outcome.Deep level) why e done = done
refused_so (outcome.Worn counter) why e done = done

-- Why a pass that is alone had no room.
no_room : {T : Type 0} (z : Sizes) (adds : Option (List ℕ)) (u : TreeView) (o : Outcome T) (level : ℕ)
    → refusal_of o ≡ Some (cause.Deep level) → HasLoneCause z adds u o → HadNoRoom z adds u
no_room z adds u (outcome.Done x) level e h = cc
no_room z adds u (outcome.Busy spent) level e h = cc
no_room z adds u (outcome.Full full) level e h = cc
no_room z adds u (outcome.Deep at) level e h = h
no_room z adds u (outcome.Worn counter) level e h = cc

module _ (adds : Option (List ℕ)) (s t : StoreAndRun) where
  pub told_for : {T : Type 0} (edits : T → Bool) (key : Option (List ℕ)) (budget : ℕ) (o : Outcome T) → key ≡ adds
      → HasTold edits key budget s.store t.store o → HasTold edits adds budget s.store t.store o
  told_for edits key budget o e h = subst (λ (k : Option (List ℕ)). HasTold edits k budget s.store t.store o) e h

  refused_call : (edit : Edit) (why : Cause) → IsEdit tree_promises asked_on_tree edit s t → added_by edit ≡ adds
      → refused_by edit ≡ Some why → HasCalled Refused adds s.store t.store
  refused_call (Puts budget pair o) why h key e =
      inl (o, refused_so o why e, (λ (x : Unit {0}). true), budget, told_for (λ (x : Unit {0}). true) (Some pair.0) budget o key h)
  refused_call (PutsNew budget pair o) why h key e =
      inr (inl (o, refused_so o why e, (λ (x : Bool). x), budget, told_for (λ (x : Bool). x) (Some pair.0) budget o key h))
  refused_call (Removes budget k o old) why h key e =
      inr (inl (o, refused_so o why e, (λ (x : Bool). x), budget, told_for (λ (x : Bool). x) None budget o key h))
  refused_call (Asks budget o) why h key e = inr (inr (o, refused_so o why e, is_put, budget, told_for is_put None budget o key h))

  call : (edit : Edit) → IsEdit tree_promises asked_on_tree edit s t → added_by edit ≡ adds → HasCalled Any adds s.store t.store
  call (Puts budget pair o) h key =
      inl (o, tt, (λ (x : Unit {0}). true), budget, told_for (λ (x : Unit {0}). true) (Some pair.0) budget o key h)
  call (PutsNew budget pair o) h key = inr (inl (o, tt, (λ (x : Bool). x), budget, told_for (λ (x : Bool). x) (Some pair.0) budget o key h))
  call (Removes budget k o old) h key = inr (inl (o, tt, (λ (x : Bool). x), budget, told_for (λ (x : Bool). x) None budget o key h))
  call (Asks budget o) h key = inr (inr (o, tt, is_put, budget, told_for is_put None budget o key h))

  deep_call : (edit : Edit) (level : ℕ) → s.store.z.passes ≡ 1 → IsEdit tree_promises asked_on_tree edit s t → added_by edit ≡ adds
      → refused_by edit ≡ Some (cause.Deep level) → HadNoRoom s.store.z adds s.store.seat.me.0.upper
  deep_call (Puts budget pair o) level one h key e = no_room s.store.z adds s.store.seat.me.0.upper o level e
      ((told_for (λ (x : Unit {0}). true) (Some pair.0) budget o key h).alone one)
  deep_call (PutsNew budget pair o) level one h key e = no_room s.store.z adds s.store.seat.me.0.upper o level e
      ((told_for (λ (x : Bool). x) (Some pair.0) budget o key h).alone one)
  deep_call (Removes budget k o old) level one h key e = no_room s.store.z adds s.store.seat.me.0.upper o level e
      ((told_for (λ (x : Bool). x) None budget o key h).alone one)
  deep_call (Asks budget o) level one h key e = no_room s.store.z adds s.store.seat.me.0.upper o level e
      ((told_for is_put None budget o key h).alone one)

-- ---- the tree stays

pub read_stays : (adds : Option (List ℕ)) (s t : StoreView) → HasReadFor adds s t → StaysStore s t
read_stays None s t h = h.same
read_stays (Some key) s t h = h.unchanged.same

refusal_stays : (adds : Option (List ℕ)) (s t : StoreView) → HasCalled Refused adds s t → StaysStore s t
refusal_stays adds s t (inl h) = h.4.same
refusal_stays adds s t (inr (inl h)) = h.4.same
refusal_stays adds s t (inr (inr h)) = h.4.same

try_stays : (adds : Option (List ℕ)) (s t : StoreView) → IsTryOnTree adds s t → StaysStore s t
try_stays adds s t (inl read) = read_stays adds s t read
try_stays adds s t (inr h) = stays_on s h.0 t (read_stays adds s h.0 h.1) (refusal_stays adds h.0 t h.2)

-- ---- tries

undone : (o : Outcome Reply) → IsTriedAgain o → IsDone o → ⊥
undone (outcome.Done reply) again done = again
undone (outcome.Busy spent) again done = done
undone (outcome.Full why) again done = done
undone (outcome.Deep level) again done = again
undone (outcome.Worn counter) again done = again

deep_is : (why : Cause) (level : ℕ) → outcome.Deep level ≡ answer_for why → Some why ≡ Some (cause.Deep level)
deep_is (cause.Busy spent) level e = cc
deep_is (cause.Full full) level e = cc
deep_is (cause.Deep at) level e = cc
deep_is (cause.Worn counter) level e = cc

-- the key that a command may add, by a store on the tree
abbrev pub key_of : Command → StoreAndRun → Option (List ℕ)
key_of command s = added_key s.store.z.keypos command

module _ (command : Command) (s t : StoreAndRun) where
  read_alone : (o : Outcome Reply) → HasOnlyRead tree_promises None o s t → MakesNoUpdate s.store t.store
  read_alone o (inl h) = only_read s t h.0
  read_alone o (inr h) = refused_read_too o s t h

  only_tried : (adds : Option (List ℕ)) (o : Outcome Reply) → IsTriedAgain o → HasOnlyRead tree_promises adds o s t
      → IsTryOnTree adds s.store t.store
  only_tried None o again h = inl (read_alone o h)
  only_tried (Some key) o again h = absurd (undone o again h.1)

  only_last : (adds : Option (List ℕ)) (o : Outcome Reply) → HasOnlyRead tree_promises adds o s t → IsLastTry adds s.store t.store
  only_last None o h = inl (read_alone o h)
  only_last (Some key) o h = inl (subst (λ (x : StoreAndRun). MakesNoUpdate s.store x.store) (sym h.0) (reads_none s.store))

  not_deep : (adds : Option (List ℕ)) (level : ℕ) → HasOnlyRead tree_promises adds (outcome.Deep level) s t → ⊥
  not_deep None level (inl h) = h.1
  not_deep None level (inr h) = h.2
  not_deep (Some key) level h = h.1

  -- Behind its reads a call was made that may edit.
  module _ (between : StoreAndRun) (first : HasPrepared tree_promises (key_of command s) s between) where
    edit_tried : (refusal : Option Cause) (o : Outcome Reply) → (knows s).alone ≡ true → IsTriedAgain o
        → HasEdited tree_promises asked_on_tree (key_of command s) refusal between t
        → IsAnswerTo knows tree_promises asked_on_tree command s t refusal o → IsTryOnTree (key_of command s) s.store t.store
    edit_tried None o alone again h (inl done) = absurd (undone o again done)
    edit_tried None o alone again h (inr over) = absurd (not_overtaken (knows s) (knows t) (nature_of command).asks over.0 alone over.2)
    edit_tried (Some why) o alone again h answered = inr (
      between.store,
      prepared (key_of command s) s between first,
      refused_call (key_of command s) between t h.0 why h.1 h.2 h.3,
    )

    edit_deep : (refusal : Option Cause) (level : ℕ) → s.store.z.passes ≡ 1
        → HasEdited tree_promises asked_on_tree (key_of command s) refusal between t
        → IsAnswerTo knows tree_promises asked_on_tree command s t refusal (outcome.Deep level)
        → HasReadFor (key_of command s) s.store between.store
        × HadNoRoom between.store.z (key_of command s) between.store.seat.me.0.upper
    edit_deep None level one h (inl done) = absurd done
    edit_deep None level one h (inr over) = let no : outcome.Deep level ≡ outcome.Busy over.0 = over.1 in cc
    edit_deep (Some why) level one h answered =
        let read = prepared (key_of command s) s between first in
        let still = ap (λ (z : Sizes). z.passes) (read_stays (key_of command s) s.store between.store read).sizes ∙ one in
        (read, deep_call (key_of command s) between t h.0 level still h.1 h.2 (h.3 ∙ deep_is why level answered))

  -- What it came to on the tree.
  tried_on : (o : Outcome Reply) → (knows s).alone ≡ true → IsTriedAgain o → HasMadeFor knows tree_promises asked_on_tree command s t o
      → IsTryOnTree (key_of command s) s.store t.store
  tried_on o alone again (inl h) = only_tried (key_of command s) o again h
  tried_on o alone again (inr h) = edit_tried h.between h.prepared h.refusal o alone again h.edited h.answered

  last_on : (o : Outcome Reply) → HasMadeFor knows tree_promises asked_on_tree command s t o
      → IsLastTry (key_of command s) s.store t.store
  last_on o (inl h) = only_last (key_of command s) o h
  last_on o (inr h) = inr (
    h.between.store,
    prepared (key_of command s) s h.between h.prepared,
    call (key_of command s) h.between t h.edited.0 h.edited.1 h.edited.2,
  )

  deep_on : (level : ℕ) → s.store.z.passes ≡ 1 → HasMadeFor knows tree_promises asked_on_tree command s t (outcome.Deep level)
      → (w : StoreView) × HasReadFor (key_of command s) s.store w × HadNoRoom w.z (key_of command s) w.seat.me.0.upper
  deep_on level one (inl h) = absurd (not_deep (key_of command s) level h)
  deep_on level one (inr h) = let deep = edit_deep h.between h.prepared h.refusal level one h.edited h.answered in
      (h.between.store, deep.0, deep.1)

-- Several tries.
pub record HasTriedOn (tries : ℕ) (command : Command) (s t : StoreAndRun) : Type 0 where
  pub tried : HasTried tries (key_of command s) s.store t.store
  pub same : StaysStore s.store t.store
  pub alone : (knows t).alone ≡ true

tries_on : (tries : ℕ) (command : Command) (s t : StoreAndRun) → (knows s).alone ≡ true
    → HasBeenTried knows tree_promises asked_on_tree tries command s t → HasTriedOn tries command s t
tries_on zero command s t alone h = record {
  tried = ap (λ (x : StoreAndRun). x.store) h;
  same = subst (λ (x : StoreAndRun). StaysStore s.store x.store) (sym h) (stays s.store);
  alone = ap (λ (x : StoreAndRun). (knows x).alone) h ∙ alone;
}
tries_on (suc tries) command s t alone h =
    let u = h.0 in
    let before = tries_on tries command s u alone h.1 in
    let keys : key_of command u ≡ key_of command s = ap (λ (z : Sizes). added_key z.keypos command) before.same.sizes in
    let one = tried_on command u t h.2.outcome before.alone h.2.again h.2.made in
    record {
      tried = (u.store, before.tried, subst (λ (adds : Option (List ℕ)). IsTryOnTree adds u.store t.store) keys one);
      same = stays_on s.store u.store t.store before.same (try_stays (key_of command u) u.store t.store one);
      alone = (same_by (knows u) (knows t) h.2.budget command h.2.outcome h.2.again h.2.comes).alone ∙ before.alone;
    }

-- ---- a command, and commands

module _ (command : Command) (answer : Answer) (s t : StoreAndRun) (alone : (knows s).alone ≡ true)
    (h : HasBeenAnswered knows tree_promises asked_on_tree command answer s t) where
  pub tries : HasTriedOn h.again command s h.before
  tries = tries_on h.again command s h.before alone h.tries

  pub keys : key_of command h.before ≡ key_of command s
  keys = ap (λ (z : Sizes). added_key z.keypos command) tries.same.sizes

  pub answered_on : IsAnsweredOnTree (key_of command s) s.store t.store
  answered_on = (
    h.again,
    h.before.store,
    tries.tried,
    subst (λ (adds : Option (List ℕ)). IsLastTry adds h.before.store t.store) keys (last_on command h.before t h.outcome h.made),
  )

  -- So many commands came before it, in a tree that had split no base before these.
  module _ (before : ℕ) (start : StoreView) (one : start.z.passes ≡ 1) (unsplit : start.seat.me.0.upper.splits ≡ 0)
      (played : HasPlayed before start s.store) where
    at_deep : (level : ℕ) → HasMadeFor knows tree_promises asked_on_tree command h.before t (outcome.Deep level) → start.z.levels ≤ 2 * before
    at_deep level made =
        let first = (split_by_commands before start s.store one played).0 in
        let still = ap (λ (z : Sizes). z.passes) (tries.same.sizes ∙ first.sizes) ∙ one in
        let deep = deep_on command h.before t level still made in
        deep_late before h.again start s.store h.before.store deep.0 (key_of command s) one unsplit played tries.tried
        (subst (λ (adds : Option (List ℕ)). HasReadFor adds h.before.store deep.0) keys deep.1)
        (subst (λ (adds : Option (List ℕ)). HadNoRoom deep.0.z adds deep.0.seat.me.0.upper) keys deep.2)

    by_outcome : (o : Outcome Reply) → IsAnsweredSo o answer → HasMadeFor knows tree_promises asked_on_tree command h.before t o
        → answer ≡ Err Deep → start.z.levels ≤ 2 * before
    by_outcome (outcome.Done reply) so made e = let no : Ok (response_of reply) ≡ Err Deep = sym so ∙ e in cc
    by_outcome (outcome.Busy spent) so made e = absurd so
    by_outcome (outcome.Full why) so made e = let no : Err Full ≡ Err Deep = sym so ∙ e in cc
    by_outcome (outcome.Deep level) so made e = at_deep level made
    by_outcome (outcome.Worn counter) so made e = let no : Err Worn ≡ Err Deep = sym so ∙ e in cc

    deep_behind : answer ≡ Err Deep → start.z.levels ≤ 2 * before
    deep_behind e = by_outcome h.outcome h.answered h.made e

pub deep_is_late : (before : ℕ) (start : StoreView) (s t : StoreAndRun) (commands : List Command) (answers : List Answer) → start.z.passes ≡ 1
    → start.seat.me.0.upper.splits ≡ 0 → (knows s).alone ≡ true → HasPlayed before start s.store
    → HaveBeenAnswered knows tree_promises asked_on_tree commands answers s t → AreDeepLate start.z.levels before answers
deep_is_late before start s t [] [] one unsplit alone played h = tt
deep_is_late before start s t [] (answer ∷ answers) one unsplit alone played h = absurd h
deep_is_late before start s t (command ∷ commands) [] one unsplit alone played h = absurd h
deep_is_late before start s t (command ∷ commands) (answer ∷ answers) one unsplit alone played h = (
  deep_behind command answer s h.0 alone h.1 before start one unsplit played,
  deep_is_late (suc before) start h.0 t commands answers one unsplit (h.1.same.alone ∙ alone)
      (key_of command s, s.store, h.0.store, played, answered_on command answer s h.0 alone h.1, reads_none h.0.store) h.2,
)

-- A client that begins with its pass.
pub begins_late : (s t : StoreAndRun) (commands : List Command) (answers : List Answer) → s.store.z.passes ≡ 1
    → s.store.seat.me.0.upper.splits ≡ 0 → (knows s).alone ≡ true
    → HaveBeenAnswered knows tree_promises asked_on_tree commands answers s t → AreDeepLate s.store.z.levels 0 answers
begins_late s t commands answers one unsplit alone h = deep_is_late 0 s.store s t commands answers one unsplit alone (reads_none s.store) h
