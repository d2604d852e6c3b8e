-- Answers as plain data.
use Rattle.std.specs.Prelude.{ℕ, suc, List, [], ◌∷◌, Ok, Err}
use Rattle.ca_ets.specs.Command.{Answer as PlainAnswer, Full, Deep, Worn, response_of}
use Rattle.ca_cmd.specs.declared.answer.Answer.{Answer}
use Rattle.ca_cmd.specs.declared.answer.Answer.TheVariants as answer

abbrev pub answer_of : Answer → PlainAnswer
answer_of (answer.Replied reply) = Ok (response_of reply)
answer_of answer.Full = Err Full
answer_of answer.Deep = Err Deep
answer_of answer.Worn = Err Worn

-- how many commands were refused
abbrev pub refusals : List PlainAnswer → ℕ
refusals [] = 0
refusals (Ok response ∷ answers) = refusals answers
refusals (Err refusal ∷ answers) = suc (refusals answers)
