-- Which calls of its store a command made, by the exits of its method.
use Rattle.std.proofs.Common.{◌≡◌, ℕ, List, [], ◌∷◌, ◌++◌, refl, sym, subst, inl, inr}
use Rattle.std.specs.Prelude.{Option, None, Some, Result, IfOk, IfErr}
use Rattle.ca_ets.specs.Command.{Command}
use Rattle.ca_ets.specs.Step.{nature_of}
use Rattle.ca_ets.specs.declared.command.Reply.{Reply}
use Rattle.ca_model.specs.declared.outcome.Cause.{Cause}
use Rattle.ca_model.specs.declared.outcome.Cause.TheVariants as cause
use Rattle.ca_model.specs.declared.outcome.Changed.{Changed}
use Rattle.ca_model.specs.declared.outcome.Outcome.{Outcome}
use Rattle.ca_model.specs.declared.outcome.Outcome.TheVariants as outcome
use Rattle.ca_model.specs.declared.outcome.Spent.{Spent}
use Rattle.ca_model.specs.Answer.{IsDone, IsNeverDeep}
use Rattle.ca_model.specs.Known.{Known}
use Rattle.ca_model.specs.Promises.{Promises}
use Rattle.ca_table.specs.ComesTo.{IsOvertaken}
use Rattle.ca_table.specs.Made.{Read, Edit, AreDone, AreReads, HasDeclined, HasEdited, HasMadeFor, HasPrepared, HasRead, HasReadKeys, HasRefusedRead, IsByKey, IsEdit, IsRead, added_by, added_key, answer_for, refusal_of, refused_by, refused_read}
use Rattle.ca_table.specs.Refusals.{IsParted}

module _ {S : Type 0} (promises : Promises S) where
  pub read_nothing : (s : S) → HasRead promises s s
  read_nothing s = ([], tt, refl)

  pub read_once : (read : Read) (s t : S) → refused_read read ≡ None → IsRead promises read s t → HasRead promises s t
  read_once read s t done h = (read ∷ [], (done, tt), (t, h, refl))

  -- It was made of the store in a table.
  pub read_inside : (read : Read) (inside s t : S) → inside ≡ s → refused_read read ≡ None → IsRead promises read inside t
      → HasRead promises s t
  read_inside read inside s t same done h = read_once read s t done (subst (λ (x : S). IsRead promises read x t) same h)

  -- So it was of a call by key.
  pub key_inside : (read : Read) (inside s t : S) → inside ≡ s → IsByKey read → IsRead promises read inside t → HasReadKeys promises s t
  key_inside read inside s t same by_key h =
      (read ∷ [], (by_key, tt), (t, subst (λ (x : S). IsRead promises read x t) same h, refl))

  no_keys : (s : S) → HasReadKeys promises s s
  no_keys s = ([], tt, refl)

  both_done : (reads more : List Read) → AreDone reads → AreDone more → AreDone (reads ++ more)
  both_done [] more done h = h
  both_done (read ∷ reads) more done h = (done.0, both_done reads more done.1 h)

  both_are : (reads more : List Read) (s t u : S) → AreReads promises reads s t → AreReads promises more t u
      → AreReads promises (reads ++ more) s u
  both_are [] more s t u same h = subst (λ (x : S). AreReads promises more x u) same h
  both_are (read ∷ reads) more s t u first h = (first.0, first.1, both_are reads more first.0 t u first.2 h)

  pub read_both : (s t u : S) → HasRead promises s t → HasRead promises t u → HasRead promises s u
  read_both s t u x y = (x.0 ++ y.0, both_done x.0 y.0 x.1 y.1, both_are x.0 y.0 s t u x.2 y.2)

  -- By the value of a read, and by its refusal as the table's answer.
  module _ (read : Read) (inside s t : S) (same : inside ≡ s) (inner : IsRead promises read inside t) where
    was_refused : (refusal : Cause) (answer : Outcome Reply) → refused_read read ≡ Some refusal → answer ≡ answer_for refusal
        → IsNeverDeep answer → HasRefusedRead promises answer s t
    was_refused refusal answer e is never =
        (refusal, is, never, (s, read, read_nothing s, subst (λ (x : S). IsRead promises read x t) same inner, e))

    pub read_done : {T : Type 0} (o : Outcome T) (parted : Result T (Outcome Reply)) → refused_read read ≡ refusal_of o → IsParted o parted
        → IfOk parted (λ x. HasRead promises s t)
    read_done (outcome.Done x) parted e is =
        subst (λ r. IfOk r (λ x. HasRead promises s t)) (sym is) (read_inside read inside s t same e inner)
    read_done (outcome.Busy spent) parted e is = subst (λ r. IfOk r (λ x. HasRead promises s t)) (sym is) tt
    read_done (outcome.Full why) parted e is = subst (λ r. IfOk r (λ x. HasRead promises s t)) (sym is) tt
    read_done (outcome.Deep level) parted e is = subst (λ r. IfOk r (λ x. HasRead promises s t)) (sym is) tt
    read_done (outcome.Worn counter) parted e is = subst (λ r. IfOk r (λ x. HasRead promises s t)) (sym is) tt

    pub read_refused : {T : Type 0} (o : Outcome T) (parted : Result T (Outcome Reply)) → refused_read read ≡ refusal_of o → IsParted o parted
        → IsNeverDeep o → IfErr parted (λ answer. HasRefusedRead promises answer s t)
    read_refused (outcome.Done x) parted e is never = subst (λ r. IfErr r (λ answer. HasRefusedRead promises answer s t)) (sym is) tt
    read_refused (outcome.Busy spent) parted e is never = subst (λ r. IfErr r (λ answer. HasRefusedRead promises answer s t)) (sym is)
        (was_refused (cause.Busy spent) (outcome.Busy spent) e refl tt)
    read_refused (outcome.Full why) parted e is never = subst (λ r. IfErr r (λ answer. HasRefusedRead promises answer s t)) (sym is)
        (was_refused (cause.Full why) (outcome.Full why) e refl tt)
    read_refused (outcome.Deep level) parted e is never = absurd never
    read_refused (outcome.Worn counter) parted e is never = subst (λ r. IfErr r (λ answer. HasRefusedRead promises answer s t)) (sym is)
        (was_refused (cause.Worn counter) (outcome.Worn counter) e refl tt)

module _ {S : Type 0} (promises : Promises S) (asked : ℕ → S → S → Outcome Changed → Type 0) (adds : Option (List ℕ)) (edit : Edit)
    (inside s t : S) (same : inside ≡ s) (inner : IsEdit promises asked edit inside t) (key : added_by edit ≡ adds) where
  made : IsEdit promises asked edit s t
  made = subst (λ (x : S). IsEdit promises asked edit x t) same inner

  -- By the value of a call that may edit, and by its refusal as the table's answer.
  pub edited : {T : Type 0} (o : Outcome T) (parted : Result T (Outcome Reply)) → refused_by edit ≡ refusal_of o → IsParted o parted
      → IfOk parted (λ x. HasEdited promises asked adds None s t)
  edited (outcome.Done x) parted e is = subst (λ r. IfOk r (λ x. HasEdited promises asked adds None s t)) (sym is) (edit, made, key, e)
  edited (outcome.Busy spent) parted e is = subst (λ r. IfOk r (λ x. HasEdited promises asked adds None s t)) (sym is) tt
  edited (outcome.Full why) parted e is = subst (λ r. IfOk r (λ x. HasEdited promises asked adds None s t)) (sym is) tt
  edited (outcome.Deep level) parted e is = subst (λ r. IfOk r (λ x. HasEdited promises asked adds None s t)) (sym is) tt
  edited (outcome.Worn counter) parted e is = subst (λ r. IfOk r (λ x. HasEdited promises asked adds None s t)) (sym is) tt

  pub declined : {T : Type 0} (o : Outcome T) (parted : Result T (Outcome Reply)) → refused_by edit ≡ refusal_of o → IsParted o parted
      → IfErr parted (λ answer. HasDeclined promises asked adds answer s t)
  declined (outcome.Done x) parted e is = subst (λ r. IfErr r (λ answer. HasDeclined promises asked adds answer s t)) (sym is) tt
  declined (outcome.Busy spent) parted e is =
      subst (λ r. IfErr r (λ answer. HasDeclined promises asked adds answer s t)) (sym is) (cause.Busy spent, refl, (edit, made, key, e))
  declined (outcome.Full why) parted e is =
      subst (λ r. IfErr r (λ answer. HasDeclined promises asked adds answer s t)) (sym is) (cause.Full why, refl, (edit, made, key, e))
  declined (outcome.Deep level) parted e is =
      subst (λ r. IfErr r (λ answer. HasDeclined promises asked adds answer s t)) (sym is) (cause.Deep level, refl, (edit, made, key, e))
  declined (outcome.Worn counter) parted e is =
      subst (λ r. IfErr r (λ answer. HasDeclined promises asked adds answer s t)) (sym is) (cause.Worn counter, refl, (edit, made, key, e))

module _ {S : Type 0} (knows : S → Known) (promises : Promises S) (asked : ℕ → S → S → Outcome Changed → Type 0) (command : Command) where
  -- Its last call was done, or refused.
  pub was_done : (s u t : S) (answer : Outcome Reply) → HasPrepared promises (added_key (knows s).keypos command) s u
      → HasEdited promises asked (added_key (knows s).keypos command) None u t → IsDone answer
      → HasMadeFor knows promises asked command s t answer
  was_done s u t answer first last done = inr (record { between = u; prepared = first; refusal = None; edited = last; answered = inl done })

  pub was_declined : (s u t : S) (answer : Outcome Reply) → HasPrepared promises (added_key (knows s).keypos command) s u
      → HasDeclined promises asked (added_key (knows s).keypos command) answer u t
      → HasMadeFor knows promises asked command s t answer
  was_declined s u t answer first last =
      inr (record { between = u; prepared = first; refusal = Some last.0; edited = last.2; answered = last.1 })

  -- It was done, but the command was overtaken.
  pub was_overtaken : (s u t : S) (spent : Spent) → HasPrepared promises (added_key (knows s).keypos command) s u
      → HasEdited promises asked (added_key (knows s).keypos command) None u t → IsOvertaken (knows s) (knows t) (nature_of command).asks spent
      → HasMadeFor knows promises asked command s t (outcome.Busy spent)
  was_overtaken s u t spent first last over =
      inr (record { between = u; prepared = first; refusal = None; edited = last; answered = inr (spent, refl, over) })

  -- So it was of a command that adds no key, and read nothing before.
  nothing_first : (s : S) → added_key (knows s).keypos command ≡ None
      → HasPrepared promises (added_key (knows s).keypos command) s s
  nothing_first s none =
      subst (λ (adds : Option (List ℕ)). HasPrepared promises adds s s) (sym none) (no_keys promises s)

  pub done_first : (s t : S) (answer : Outcome Reply) → added_key (knows s).keypos command ≡ None
      → HasEdited promises asked (added_key (knows s).keypos command) None s t → IsDone answer
      → HasMadeFor knows promises asked command s t answer
  done_first s t answer none last done = was_done s s t answer (nothing_first s none) last done

  pub declined_first : (s t : S) (answer : Outcome Reply) → added_key (knows s).keypos command ≡ None
      → HasDeclined promises asked (added_key (knows s).keypos command) answer s t
      → HasMadeFor knows promises asked command s t answer
  declined_first s t answer none last = was_declined s s t answer (nothing_first s none) last
