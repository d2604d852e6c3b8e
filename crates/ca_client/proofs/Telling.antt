-- A client's answers become text, line by line.
use Rattle.std.proofs.Common.{◌≡◌, ℕ, ◌+◌, ◌≤◌, List, [], ◌∷◌, ◌++◌, drop, Ok, Err, sym, ◌∙◌, ap, arith, append_assoc, append-nil}
use Rattle.ca_ets.specs.Command.{Answer, Continuation}
use Rattle.ca_cmd.specs.Answers.{refusals}
use Rattle.ca_cmd.specs.File.{commands_in}
use Rattle.ca_cmd.specs.Lines.{numbered}
use Rattle.ca_cmd.specs.Output.{answer_line, answer_lines}
use Rattle.ca_cmd.specs.Told.{AreTold}
use Rattle.ca_cmd.specs.declared.answers.Answers.{Answers}
use Rattle.ca_cmd.specs.declared.line.Line.{Line}
use Rattle.ca_model.specs.declared.outcome.Changed.{Changed}
use Rattle.ca_model.specs.declared.outcome.Outcome.{Outcome}
use Rattle.ca_model.specs.Known.{Known}
use Rattle.ca_model.specs.Promises.{Promises}
use Rattle.ca_client.proofs.Chain.{AreCommands}
use Rattle.ca_client.proofs.Commands.{IsPlaying}

-- The answers to the lines before a place are told, and those to the other lines come behind them, whatever they are.
pub record IsTelling (lines : List Line) (at : ℕ) (answers : List Answer) (told : Answers) : Type 0 where
  pub goes_on : (more : List Answer) → answer_lines (numbered lines) (answers ++ more) ≡ told.text.items ++ answer_lines (numbered (drop at lines)) more
  pub refused : told.refused ≡ refusals answers
  pub few : told.refused ≤ at

pub nothing_told : (lines : List Line) (told : Answers) → told.text.items ≡ [] → told.refused ≡ 0 → IsTelling lines 0 [] told
nothing_told lines told text refused = record {
  goes_on = λ more. ap (λ (xs : List ℕ). xs ++ answer_lines (numbered lines) more) (sym text);
  refused = refused;
  few = omega (arith, refused);
}

refusals_more : (answers : List Answer) (answer : Answer) → refusals (answers ++ answer ∷ []) ≡ refusals answers + refusals (answer ∷ [])
refusals_more [] answer = omega arith
refusals_more (Ok response ∷ answers) answer = refusals_more answers answer
refusals_more (Err refusal ∷ answers) answer = let h = refusals_more answers answer in omega (arith, h)

one_refusal : (answer : Answer) → refusals (answer ∷ []) ≤ 1
one_refusal (Ok response) = omega arith
one_refusal (Err refusal) = omega arith

module _ (lines : List Line) (at : ℕ) (answers : List Answer) (told : Answers) (t : IsTelling lines at answers told) where
  -- With the answer to the next line.
  pub one_told : (line : Line) (answer : Answer) (next : Answers) → drop at lines ≡ line ∷ drop (at + 1) lines
      → next.text.items ≡ told.text.items ++ answer_line line.number answer → next.refused ≡ told.refused + refusals (answer ∷ [])
      → IsTelling lines (at + 1) (answers ++ answer ∷ []) next
  one_told line answer next left text refused = record {
    goes_on = λ more.
        let rest = answer_lines (numbered (drop (at + 1) lines)) more in
        ap (λ (all : List Answer). answer_lines (numbered lines) all) (append_assoc answers (answer ∷ []) more) ∙ t.goes_on (answer ∷ more)
        ∙ ap (λ (ls : List Line). told.text.items ++ answer_lines (numbered ls) (answer ∷ more)) left
        ∙ sym (append_assoc told.text.items (answer_line line.number answer) rest) ∙ ap (λ (xs : List ℕ). xs ++ rest) (sym text);
    refused = refused ∙ ap (λ (n : ℕ). n + refusals (answer ∷ [])) t.refused ∙ sym (refusals_more answers answer);
    few = let low = t.few in let one = one_refusal answer in omega (arith, low, one, refused);
  }

  -- No line is left.
  pub all_told : drop at lines ≡ [] → AreTold (numbered lines) answers told
  all_told none = record {
    text = sym (append-nil told.text.items) ∙ ap (λ (ls : List Line). told.text.items ++ answer_lines (numbered ls) []) (sym none) ∙ sym (t.goes_on [])
        ∙ ap (λ (all : List Answer). answer_lines (numbered lines) all) (append-nil answers);
    refused = t.refused;
  }

-- The lines before a place were played, by such calls of the store, and their answers are told.
module _ {S : Type 0} (knows : S → Known) (promises : Promises S) (asked : ℕ → S → S → Outcome Changed → Type 0) where
  pub record IsAt (s t : S) (now : Continuation) (lines : List Line) (at : ℕ) (told : Answers) : Type 0 where
    pub answers : List Answer
    pub playing : IsPlaying (knows s) (knows t) now (commands_in (numbered lines)) (commands_in (numbered (drop at lines))) answers
    pub made : AreCommands knows promises asked (commands_in (numbered lines)) (commands_in (numbered (drop at lines))) answers s t
    pub telling : IsTelling lines at answers told
