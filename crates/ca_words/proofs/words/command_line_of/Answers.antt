use Rattle.std.proofs.Common.{◌≡◌, ℕ, List, Option, None, Some, option_map, map, refl, sym, ◌∙◌}
use Rattle.std.proofs.lemmas.Result.{IfOk-weaker}
use Rattle.std.specs.Prelude.{IfSome}
use Rattle.std.specs.String.{string_bytes}
use Rattle.ca_words.specs.declared.words.CommandLine.{CommandLine}
use Rattle.ca_words.specs.Grammar.{IsBounded, IsWithin}
use Rattle.ca_words.specs.Words.{asking_in, line_of, request_in}
use Rattle.ca_words.proofs.Bounds.{options_within, request_within}
use Rattle.ca_words.proofs.Sound.{line_told}
use Rattle.ca_words.proofs.Spelled.{line_read}
use Rattle.ca_words.proofs.words.command_line_of.Goals as goal

pub returns-clause-sound : goal.returns-clause-sound
returns-clause-sound c = IfOk-weaker c.read.result _ _ (λ r e request tree h. line_told _ request tree (sym e ∙ h)) c.read.ensures

pub returns-clause-complete : goal.returns-clause-complete
returns-clause-complete c = IfOk-weaker c.read.result _ _ (λ r e request tree l. e ∙ line_read _ request tree l) c.read.ensures

within : (words : List (List ℕ)) (r : Option CommandLine) → option_map asking_in r ≡ line_of words → IfSome r (λ line. IsWithin line.tree)
within words None e = tt
within words (Some line) e = options_within words _ line.tree (line_told words _ line.tree (sym e))

pub returns-clause-within : goal.returns-clause-within
returns-clause-within c = IfOk-weaker c.read.result _ _ (λ r e. within (map string_bytes c.args.words.now) r e) c.read.ensures

bounded : (words : List (List ℕ)) (r : Option CommandLine) → option_map asking_in r ≡ line_of words → IfSome r (λ line. IsBounded (request_in line.request))
bounded words None e = tt
bounded words (Some line) e = request_within words _ line.tree (line_told words _ line.tree (sym e))

pub returns-clause-bounded : goal.returns-clause-bounded
returns-clause-bounded c = IfOk-weaker c.read.result _ _ (λ r e. bounded (map string_bytes c.args.words.now) r e) c.read.ensures
