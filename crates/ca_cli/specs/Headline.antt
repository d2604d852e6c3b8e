-- The headline: what is printed is what one thread gives that runs a merge of the clients' commands on an ordered set.
use Rattle.std.specs.Prelude.{◌≡◌, ℕ, All, List, ◌++◌, length, map}
use Rattle.ca_term.specs.Tree.{Tree}
use Rattle.ca_ets.specs.Command.{Answer}
use Rattle.ca_ets.specs.Explained.{Explained}
use Rattle.ca_cmd.specs.File.{commands_in}
use Rattle.ca_client.specs.Ran.{AreDeepLate, AreFullLate}
use Rattle.ca_cli.specs.Call.{Call, Change, Adds}
use Rattle.ca_cli.specs.Accepted.{IsAccepted}
use Rattle.ca_cli.specs.Opening.{rows_of, tuning_of}
use Rattle.ca_cli.specs.Printed.{keypos_of, shape_text, text_of}

-- The words and the files were accepted, or lines were made, and in this call the sink took the text of these answers and this table, or their summary;
-- they are explained for the commands of the clients' lines. Behind it stands the line of the shape, where it is asked for. Of one client alone no command is
-- refused for want of levels before half as many were answered as there are levels; nor for want of rows, where there are more than eight for each that was
-- answered before it, and 448.
pub record Prints (call : Call) (output : Change ℕ) (answers : List (List Answer)) (table : List Tree) (bytes : List ℕ) : Type 0 where
  pub accepted : IsAccepted call
  pub explained : Explained (keypos_of accepted.request) (map commands_in accepted.lines) answers table
  pub splits : ℕ
  pub joins : ℕ
  pub written : bytes ≡ text_of accepted.request accepted.lines answers table ++ shape_text accepted.options splits joins
  pub taken : Adds output bytes
  pub deep_late : length accepted.lines ≡ 1 → All (λ given. AreDeepLate (tuning_of accepted.options).levels 0 given) answers
  pub full_late : length accepted.lines ≡ 1 → All (λ given. AreFullLate (rows_of accepted.options (map commands_in accepted.lines)) 0 given) answers
