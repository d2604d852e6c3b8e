-- The logs of the worked history are lawful, and explain its answers.
use Rattle.std.proofs.Common.{◌≡◌, ℕ, zero, suc, ◌≤◌, ◌<◌, ◌^◌, true, [], ◌∷◌, arith, refl, Some}
use Rattle.ca_term.specs.Tree.{Nil, IsTerm}
use Rattle.ca_term.specs.Code.{code_of, row_code, int_code, digits, trim, four_bytes}
use Rattle.ca_term.specs.Object.{fits}
use Rattle.ca_term.proofs.Grammar.{signed_pos}
use Rattle.ca_ets.specs.Command.{Never, Error}
use Rattle.ca_ets.specs.declared.command.Cmd.TheVariants.{Insert}
use Rattle.ca_ets.specs.declared.command.Fault.TheVariants.{BadArg}
use Rattle.ca_model.specs.History.{state}
use Rattle.ca_model.specs.StoreMap.{IsFound}
use Rattle.ca_model.specs.Lawful.{IsLawful}
use Rattle.ca_explain.specs.Stands.{Stands}
use Rattle.ca_explain.specs.Carries.{IsFree}
use Rattle.ca_explain.specs.Clients.{Plays, log_of}
use Rattle.ca_explain.specs.Explaining.{client_of}
use Rattle.ca_explain.specs.Worked.{key, object, worked_history, worked_first, worked_second, worked_clients, HaveWorkedLogs}
use Rattle.ca_explain.proofs.Filters.{empty_stands, put_stands, get_stands}
use Rattle.ca_explain.proofs.Carrying.{insert_put, lookup_found}

key_term : (n : ℕ) → n < 2 ^ 63 → IsTerm (key n)
key_term n h = record { shallow = omega arith; narrow = signed_pos n h }

object_term : (n : ℕ) → n < 2 ^ 63 → IsTerm (object n)
object_term n h = record { shallow = omega arith; narrow = (omega arith, (signed_pos n h, tt)) }

objects_fit : (fits (object 1) ≡ true) × (fits (object 2) ≡ true) × (fits (object 3) ≡ true)
unfolding code_of row_code int_code digits trim four_bytes
objects_fit = (refl, refl, refl)

keys_fit : (fits (key 1) ≡ true) × (fits (key 2) ≡ true) × (fits (key 3) ≡ true)
unfolding code_of row_code int_code digits trim four_bytes
keys_fit = (refl, refl, refl)

first_state : Stands 1 (state worked_history 1) (object 1 ∷ [])
first_state = put_stands 1 [] [] (empty_stands 1) (object 1) (object_term 1 (omega arith)) (record { object = refl; fitting = objects_fit.0 })

second_state : Stands 1 (state worked_history 2) (object 1 ∷ object 2 ∷ [])
second_state = put_stands 1 _ _ first_state (object 2) (object_term 2 (omega arith)) (record { object = refl; fitting = objects_fit.1 })

third_state : Stands 1 (state worked_history 3) (object 1 ∷ object 2 ∷ object 3 ∷ [])
third_state = put_stands 1 _ _ second_state (object 3) (object_term 3 (omega arith)) (record { object = refl; fitting = objects_fit.2 })

finds_one : IsFound (state worked_history 2) (code_of (key 1)) (Some (code_of (object 1)))
finds_one = (get_stands 1 _ _ second_state (key 1) (key_term 1 (omega arith))).codes

finds_two : IsFound (state worked_history 2) (code_of (key 2)) (Some (code_of (object 2)))
finds_two = (get_stands 1 _ _ second_state (key 2) (key_term 2 (omega arith))).codes

finds_three : IsFound (state worked_history 3) (code_of (key 3)) (Some (code_of (object 3)))
finds_three = (get_stands 1 _ _ third_state (key 3) (key_term 3 (omega arith))).codes

no_call : IsFree 1 Never (Insert Nil) (Error BadArg) Never
no_call = record { at = λ t h b. refl }

first_plays : Plays 1 Never worked_first.commands worked_first.answers worked_first.parts
first_plays =
    let one = insert_put 1 (object 1) (object_term 1 (omega arith)) refl objects_fit.0 Never in
    let two = lookup_found 1 (key 2) (key_term 2 (omega arith)) keys_fit.1 Never (object 2) (object_term 2 (omega arith)) in
    let three = insert_put 1 (object 3) (object_term 3 (omega arith)) refl objects_fit.2 Never in
    (tt, (Never, no_call, (tt, (Never, one, (tt, (Never, two, (tt, (Never, no_call, (tt, (Never, three, tt))))))))))

second_plays : Plays 1 Never worked_second.commands worked_second.answers worked_second.parts
second_plays =
    let one = insert_put 1 (object 2) (object_term 2 (omega arith)) refl objects_fit.1 Never in
    let two = lookup_found 1 (key 1) (key_term 1 (omega arith)) keys_fit.0 Never (object 1) (object_term 1 (omega arith)) in
    let three = lookup_found 1 (key 3) (key_term 3 (omega arith)) keys_fit.2 Never (object 3) (object_term 3 (omega arith)) in
    (tt, (Never, one, (tt, (Never, two, ((refl, tt), refl, (tt, (Never, no_call, (tt, (Never, three, tt)))))))))

plays : (i : ℕ) → 1 ≤ i → i ≤ 2
    → Plays 1 Never (client_of worked_clients i).commands (client_of worked_clients i).answers (client_of worked_clients i).parts
plays zero h k = absurd (omega arith)
plays (suc zero) h k = first_plays
plays (suc (suc zero)) h k = second_plays
plays (suc (suc (suc n))) h k = absurd (omega arith)

lawful : (i : ℕ) → 1 ≤ i → i ≤ 2 → IsLawful i worked_history (log_of (client_of worked_clients i).parts)
lawful zero h k = absurd (omega arith)
lawful (suc zero) h k = record {
  entries = ((omega arith, omega arith, refl, tt), ((omega arith, finds_two), ((omega arith, omega arith, refl, tt), tt)));
  places = (omega arith, (omega arith, (omega arith, tt)));
  edits = refl;
}
lawful (suc (suc zero)) h k = record {
  entries = ((omega arith, omega arith, refl, tt), ((omega arith, finds_one), ((omega arith, finds_one), ((omega arith, finds_three), tt))));
  places = (omega arith, (omega arith, (omega arith, (omega arith, tt))));
  edits = refl;
}
lawful (suc (suc (suc n))) h k = absurd (omega arith)

-- The clients of the worked history have logs that are lawful for it.
pub worked_logs : HaveWorkedLogs
worked_logs = record {
  enrolled = (omega arith, omega arith, (omega arith, omega arith, (omega arith, omega arith, tt)));
  plays = plays;
  lawful = lawful;
  ends = third_state;
}
