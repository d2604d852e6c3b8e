use Rattle.std.proofs.Common.{◌≡◌, ◌+◌, ◌≤◌, ℕ, zero, suc, length, List, [], ◌∷◌, ◌++◌, drop, Ok, Err, refl, ap, subst, arith}
use Rattle.std.specs.Prelude.{OnErr, Result}
use Rattle.ca_ets.specs.Command.{continuation_of}
use Rattle.ca_cmd.specs.Answers.{answer_of}
use Rattle.ca_cmd.specs.File.{commands_in}
use Rattle.ca_cmd.specs.Lines.{numbered}
use Rattle.ca_cmd.specs.declared.line.Line.{Line}
use Rattle.ca_cmd.proofs.Determined.{drop_one}
use Rattle.ca_client.proofs.Chain.{AreCommands, all_commands, no_commands, one_command}
use Rattle.ca_client.proofs.Commands.{IsPlaying, begins, plays_on, stops, ends}
use Rattle.ca_client.proofs.Telling.{nothing_told, one_told, all_told}
use Rattle.ca_client.proofs.Trying.{read_nothing}
use Rattle.ca_client.proofs.playing.play.Goals as goal

on_err : {A B P : Type 0} (r : Result A B) → P → OnErr r P
on_err (Ok x) p = tt
on_err (Err e) p = p

none_left : {A : Type 0} (xs : List A) (i : ℕ) → length xs ≤ i → drop i xs ≡ []
none_left [] zero h = refl
none_left [] (suc i) h = refl
none_left (x ∷ xs) zero h = absurd (omega arith)
none_left (x ∷ xs) (suc i) h = none_left xs i (omega arith)

pub loop-at-init : goal.loop-at-init
loop-at-init g c =
    let table = (g.S.OrderedStore.knows c.args.table.now) in
    let lines = c.args.lines.now in record {
      so_far = record {
        answers = [];
        playing = begins table (commands_in (numbered lines));
        made = no_commands g.S.OrderedStore.knows g.S.OrderedStore.promises g.W.Follower.asked (commands_in (numbered lines)) c.args.table.now;
        telling = nothing_told lines c.new-answers.result c.new-answers.ensures.text c.new-answers.ensures.refused;
      };
      continuation = tt;
    }

pub returns-in_err-line-clause-stopped : goal.returns-in_err-line-clause-stopped
returns-in_err-line-clause-stopped g c =
    let first = g.S.OrderedStore.knows c.args.table.now in
    let table = g.S.OrderedStore.knows c.loop-at.table in
    let now = c.loop-at.invariant.so_far in
    on_err c.from_residual.result
    (stops first table (continuation_of c.loop-at.cont) (commands_in (numbered c.args.lines.now))
    (commands_in (numbered (drop c.loop-at.at c.args.lines.now))) now.answers now.playing table (read_nothing table))

pub returns-in_err-answer-clause-stopped : goal.returns-in_err-answer-clause-stopped
returns-in_err-answer-clause-stopped g c =
    let first = g.S.OrderedStore.knows c.args.table.now in
    let table = g.S.OrderedStore.knows c.loop-at.table in
    let next = g.S.OrderedStore.knows c.answer_to.new.table in
    let now = c.loop-at.invariant.so_far in
    on_err c.from_residual-in_err-answer.result
    (stops first table (continuation_of c.loop-at.cont) (commands_in (numbered c.args.lines.now))
    (commands_in (numbered (drop c.loop-at.at c.args.lines.now))) now.answers now.playing
    next c.in_err-answer.ensures.stopped)

pub add-requires : goal.add-requires
add-requires g c =
    let few = c.loop-at.invariant.so_far.telling.few in
    let test = c.loop-at-test.true in omega (arith, few, test)

-- The answer to the next line is given.
pub returns-in_err-add-clause-stopped : goal.returns-in_err-add-clause-stopped
returns-in_err-add-clause-stopped g c =
    let i = c.loop-at.at in
    let lines = c.args.lines.now in
    let item = c.in_ok-line.line in
    let first = g.S.OrderedStore.knows c.args.table.now in
    let table = g.S.OrderedStore.knows c.loop-at.table in
    let next = g.S.OrderedStore.knows c.answer_to.new.table in
    let now = continuation_of c.loop-at.cont in
    let behind = continuation_of c.answer_to.new.cont in
    let commands = commands_in (numbered lines) in
    let rest = commands_in (numbered (drop (i + 1) lines)) in
    let so_far = c.loop-at.invariant.so_far in
    let given = answer_of c.in_ok-answer.answer in
    let here : IsPlaying first table now commands (item.cmd ∷ rest) so_far.answers =
    subst (λ (ls : List Line). IsPlaying first table now commands (commands_in (numbered ls)) so_far.answers)
    (drop_one lines i item c.in_ok-line.ensures) so_far.playing in
    let on = plays_on first table next now behind commands item.cmd rest so_far.answers here given c.in_ok-answer.ensures.answered in
    on_err c.from_residual-in_err-add.result
    (stops first next behind commands rest (so_far.answers ++ given ∷ []) on next (read_nothing next))

pub loop-at-preserved : goal.loop-at-preserved
loop-at-preserved g c =
    let i = c.loop-at.at in
    let lines = c.args.lines.now in
    let item = c.in_ok-line.line in
    let left : drop i lines ≡ item ∷ drop (i + 1) lines = drop_one lines i item c.in_ok-line.ensures in
    let first = g.S.OrderedStore.knows c.args.table.now in
    let table = g.S.OrderedStore.knows c.loop-at.table in
    let next = g.S.OrderedStore.knows c.answer_to.new.table in
    let now = continuation_of c.loop-at.cont in
    let behind = continuation_of c.answer_to.new.cont in
    let commands = commands_in (numbered lines) in
    let rest = commands_in (numbered (drop (i + 1) lines)) in
    let so_far = c.loop-at.invariant.so_far in
    let given = answer_of c.in_ok-answer.answer in
    let here : IsPlaying first table now commands (item.cmd ∷ rest) so_far.answers =
    subst (λ (ls : List Line). IsPlaying first table now commands (commands_in (numbered ls)) so_far.answers) left so_far.playing in
    let made = one_command g.S.OrderedStore.knows g.S.OrderedStore.promises g.W.Follower.asked commands rest so_far.answers item.cmd given
    c.args.table.now c.loop-at.table c.answer_to.new.table
    (subst (λ (ls : List Line). AreCommands g.S.OrderedStore.knows g.S.OrderedStore.promises g.W.Follower.asked commands
    (commands_in (numbered ls)) so_far.answers c.args.table.now c.loop-at.table) left so_far.made) c.in_ok-answer.ensures.made in
    let added = c.in_ok-add.ensures in record {
      so_far = record {
        answers = so_far.answers ++ given ∷ [];
        playing = plays_on first table next now behind commands item.cmd rest so_far.answers here given c.in_ok-answer.ensures.answered;
        made = made;
        telling = one_told lines i so_far.answers c.loop-at.answers so_far.telling item given c.add.new.self left added.text added.refused;
      };
      continuation = c.answer_to.ensures.continuation;
    }

pub returns-clause-played : goal.returns-clause-played
returns-clause-played g c =
    let first = g.S.OrderedStore.knows c.args.table.now in
    let table = g.S.OrderedStore.knows c.loop-at.table in
    let i = c.loop-at.at in
    let lines = c.args.lines.now in
    let low = c.loop-at-test.false in
    let len = c.len-at-end.ensures in
    let none : drop i lines ≡ [] = none_left lines i (omega (arith, low, len)) in
    let so_far = c.loop-at.invariant.so_far in record {
      answers = so_far.answers;
      played = ends first table (continuation_of c.loop-at.cont) (commands_in (numbered lines)) (commands_in (numbered (drop i lines)))
          so_far.answers so_far.playing (ap (λ (ls : List Line). commands_in (numbered ls)) none);
      made = all_commands g.S.OrderedStore.knows g.S.OrderedStore.promises g.W.Follower.asked (commands_in (numbered lines))
          (commands_in (numbered (drop i lines))) so_far.answers c.args.table.now c.loop-at.table so_far.made
          (ap (λ (ls : List Line). commands_in (numbered ls)) none);
      are_told = all_told lines i so_far.answers c.loop-at.answers so_far.telling none;
    }
