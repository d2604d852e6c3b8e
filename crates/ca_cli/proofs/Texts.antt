-- The text of what clients were told is that of their answers.
use Rattle.std.proofs.Common.{◌≡◌, ℕ, ◌+◌, List, [], ◌∷◌, ◌++◌, refl, sym, ◌∙◌, ap, append_assoc}
use Rattle.std.specs.Prelude.{fold}
use Rattle.ca_term.specs.Tree.{Tree}
use Rattle.ca_ets.specs.Command.{Answer}
use Rattle.ca_cmd.specs.Answers.{refusals}
use Rattle.ca_cmd.specs.File.{Numbered}
use Rattle.ca_cmd.specs.Output.{answer_lines, client_line, client_lines, table_text}
use Rattle.ca_cmd.specs.Told.{AreAllTold}
use Rattle.ca_cmd.specs.declared.answers.Answers.{Answers}
use Rattle.ca_words.specs.Grammar.{Request, Files, Generated}
use Rattle.ca_cli.specs.Printed.{text_of}
use Rattle.ca_cli.specs.Summary.{summary_text}
use Rattle.ca_cli.specs.Texts.{told_lines, told_text}

lines_are : (client : ℕ) (files : List (List Numbered)) (answers : List (List Answer)) (all : List Answers) → AreAllTold files answers all
    → told_lines client all ≡ client_lines client files answers
lines_are client [] [] [] h = refl
lines_are client [] [] (t ∷ all) h = absurd h
lines_are client [] (a ∷ answers) all h = absurd h
lines_are client (f ∷ files) [] all h = absurd h
lines_are client (f ∷ files) (a ∷ answers) [] h = absurd h
lines_are client (f ∷ files) (a ∷ answers) (t ∷ all) h =
    ap (λ (xs : List ℕ). client_line client ++ (xs ++ told_lines (client + 1) all)) h.0.text
    ∙ ap (λ (xs : List ℕ). client_line client ++ (answer_lines f a ++ xs)) (lines_are (client + 1) files answers all h.1)
    ∙ sym (append_assoc (client_line client) (answer_lines f a) (client_lines (client + 1) files answers))

refusals_from : (n : ℕ) (files : List (List Numbered)) (answers : List (List Answer)) (all : List Answers) → AreAllTold files answers all
    → fold (λ (sum : ℕ) (told : Answers). sum + told.refused) n all ≡ fold (λ (sum : ℕ) (own : List Answer). sum + refusals own) n answers
refusals_from n [] [] [] h = refl
refusals_from n [] [] (t ∷ all) h = absurd h
refusals_from n [] (a ∷ answers) all h = absurd h
refusals_from n (f ∷ files) [] all h = absurd h
refusals_from n (f ∷ files) (a ∷ answers) [] h = absurd h
refusals_from n (f ∷ files) (a ∷ answers) (t ∷ all) h =
    refusals_from (n + t.refused) files answers all h.1
    ∙ ap (λ (one : ℕ). fold (λ (sum : ℕ) (own : List Answer). sum + refusals own) (n + one) answers) h.0.refused

-- What is told of answers is their text.
pub told_is : (request : Request) (lines : List (List Numbered)) (answers : List (List Answer)) (all : List Answers) (table : List Tree)
    → AreAllTold lines answers all → told_text request all table ≡ text_of request lines answers table
told_is (Files keypos names) lines answers all table h = ap (λ (xs : List ℕ). xs ++ table_text table) (lines_are 1 lines answers all h)
told_is (Generated seed clients count) lines answers all table h = ap (λ (n : ℕ). summary_text clients count n table) (refusals_from 0 lines answers all h)
