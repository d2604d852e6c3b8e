-- The run of a call's clients.
use Rattle.std.specs.Prelude.{◌≡◌, ℕ, List, ◌++◌, map}
use Rattle.ca_cmd.specs.File.{Numbered, commands_in}
use Rattle.ca_words.specs.Grammar.{Request}
use Rattle.ca_words.specs.declared.tree.TreeOptions.{TreeOptions}
use Rattle.ca_cli.specs.Call.{Call}
use Rattle.ca_cli.specs.Accepted.{IsAccepted}
use Rattle.ca_cli.specs.Printed.{keypos_of, shape_text}
use Rattle.ca_cli.specs.Texts.{told_text}
use Rattle.ca_client.specs.Ran.{HasRun}
use Rattle.ca_cli.specs.Opening.{IsMadeFor}
use Rattle.ca_client.specs.declared.running.Ran.{Ran}

-- these bytes tell of the run: of its answers and its table, and of the shape that it left, where that is asked for
abbrev pub text_of_ran : Request → TreeOptions → Ran → List ℕ
text_of_ran request options ran = told_text request ran.answers.items ran.table ++ shape_text options ran.splits ran.joins

-- Clients with these lines played on a tree that was made for them as these options ask, and this is their run.
pub record IsRunOf (request : Request) (options : TreeOptions) (lines : List (List Numbered)) (ran : Ran) : Type 0 where
  pub made : IsMadeFor (keypos_of request) options (map commands_in lines) ran.past
  pub played : HasRun (keypos_of request) lines ran

-- What the words ask for was accepted and played. This is its run, and these bytes tell of it.
pub record HasPlayed (call : Call) (ran : Ran) (bytes : List ℕ) : Type 0 where
  pub accepted : IsAccepted call
  pub run : IsRunOf accepted.request accepted.options accepted.lines ran
  pub written : bytes ≡ text_of_ran accepted.request accepted.options ran
