-- What a run of clients on one tree comes to.
use Rattle.std.specs.Prelude.{◌≡◌, ℕ, suc, ◌+◌, ◌*◌, ◌≤◌, min, All, List, [], ◌∷◌, length, map, sum_by, Err}
use Rattle.ca_ets.specs.Command.{Answer, Deep, Full}
use Rattle.ca_ets.specs.Explained.{ExplainedBy}
use Rattle.ca_model.specs.History.{History}
use Rattle.ca_node.specs.TreeView.{Ended, no_refusals}
use Rattle.ca_cmd.specs.File.{Numbered, commands_in}
use Rattle.ca_cmd.specs.Told.{AreAllTold}
use Rattle.ca_explain.specs.Clients.{Client, log_of}
use Rattle.ca_explain.specs.Explaining.{HaveLogs, merge_of}
use Rattle.ca_replace.specs.Past.{TreePast}
use Rattle.ca_replace.specs.Resting.{numbers_of}
use Rattle.ca_replace.specs.declared.tree.Tree.{Tree}
use Rattle.ca_client.specs.Played.{AreCounted}
use Rattle.ca_client.specs.declared.running.Ran.{Ran}

-- the answers to each client
abbrev pub answers_in : List Client → List (List Answer)
answers_in clients = map (λ client. client.answers) clients

-- how many splits and how many joins these passes carried out together, each up to the last number that 64 bits hold
abbrev pub splits_of : List Ended → ℕ
splits_of passes = min 18446744073709551615 (sum_by (λ pass. pass.splits) passes)

abbrev pub joins_of : List Ended → ℕ
joins_of passes = min 18446744073709551615 (sum_by (λ pass. pass.joins) passes)

-- The client of this number played by this pass: the pass has the client's number, its log is that of the client's parts, and for each kind of refusal
-- it counted no fewer than the client's answers tell.
pub record IsPlayedBy (number : ℕ) (client : Client) (pass : Ended) : Type 0 where
  pub number_is : pass.number ≡ number
  pub log : pass.log ≡ log_of client.parts
  pub counted : AreCounted no_refusals pass.counts client.answers

-- The clients, of which the first has this number, played by these passes, one each.
abbrev pub ArePlayedBy : ℕ → List Client → List Ended → Type 0
ArePlayedBy first [] [] = Unit {0}
ArePlayedBy first (client ∷ clients) (pass ∷ passes) = IsPlayedBy first client pass × ArePlayedBy (suc first) clients passes
ArePlayedBy first clients passes = ⊥

-- It is the past of this tree: the table is its own, and so are what it was made with and how it adapts.
pub record IsPastOf (tree : Tree) (past : TreePast) : Type 0 where
  pub table : past.table ≡ numbers_of tree.space.table.shared.table_id
  pub sizes : past.sizes ≡ tree.space.sizes
  pub tuning : past.tuning ≡ tree.tuning

-- Of these answers, before which so many were given, one that refuses for want of levels has half as many before it as there are levels, or more.
abbrev pub AreDeepLate : ℕ → ℕ → List Answer → Type 0
AreDeepLate levels before [] = Unit {0}
AreDeepLate levels before (answer ∷ answers) = (answer ≡ Err Deep → levels ≤ 2 * before) × AreDeepLate levels (suc before) answers

-- So it is with one that refuses for want of rows: the tree has eight rows, at most, for each answer before it, and 448.
abbrev pub AreFullLate : ℕ → ℕ → List Answer → Type 0
AreFullLate rows before [] = Unit {0}
AreFullLate rows before (answer ∷ answers) = (answer ≡ Err Full → rows ≤ 8 * before + 448) × AreFullLate rows (suc before) answers

-- The clients played these lines by the passes of the closed tree, which made one for each, and no other. There is one history for which the passes' logs
-- are lawful, and whose last state stands for the table; so the merge by places explains the answers and the table. What is told of the answers is their
-- printed lines, and how many of them refuse. Splits and joins are those of the passes. In a tree for one pass no answer refuses for want of levels before half
-- as many commands were played as there are levels; nor for want of rows, where the tree has more than eight for each command played before it, and 448.
pub record HasRun (keypos : ℕ) (lines : List (List Numbered)) (ran : Ran) : Type 0 where
  pub made : ran.past.made ≡ length lines
  pub history : History
  pub clients : List Client
  pub commands_are : map (λ client. client.commands) clients ≡ map commands_in lines
  pub are_told : AreAllTold lines (answers_in clients) ran.answers.items
  pub logs : HaveLogs keypos history clients ran.table
  pub played : ArePlayedBy 1 clients ran.past.passes
  pub splits_are : ran.splits ≡ splits_of ran.past.passes
  pub joins_are : ran.joins ≡ joins_of ran.past.passes
  pub deep_late : ran.past.sizes.passes ≡ 1 → All (λ answers. AreDeepLate ran.past.sizes.levels 0 answers) (answers_in clients)
  pub full_late : ran.past.sizes.passes ≡ 1 → All (λ answers. AreFullLate ran.past.sizes.rows 0 answers) (answers_in clients)
  pub explained : ExplainedBy keypos (map commands_in lines) (answers_in clients) (merge_of history clients) ran.table

-- The history of a run is told by the logs of its passes: there is no other one.
abbrev pub HaveOneHistory : Type 0
HaveOneHistory = (keypos : ℕ) (lines : List (List Numbered)) (ran : Ran) (one other : HasRun keypos lines ran) → one.history ≡ other.history
