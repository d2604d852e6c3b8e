-- Passes that were just made, the clients that play by them, and what these leave.
use Rattle.std.specs.Prelude.{◌≡◌, ℕ, suc, false, List, [], ◌∷◌, map, Some}
use Rattle.atomic_table.specs.Seated.{TableId}
use Rattle.ca_cmd.specs.declared.answers.Answers.{Answers}
use Rattle.ca_cmd.specs.declared.line.Line.{Line}
use Rattle.ca_node.specs.TreePasses.{tree_of}
use Rattle.ca_node.specs.TreeView.{TreeView, blank}
use Rattle.ca_replace.specs.Past.{left_by}
use Rattle.ca_replace.specs.Resting.{IsResting, StoreAndRun, known_of, knows}
use Rattle.ca_rows.specs.declared.sizes.Sizes.{Sizes}
use Rattle.ca_rows.specs.declared.space.Pass.{Pass}
use Rattle.ca_rows.specs.Rule.{fresh}
use Rattle.ca_client.specs.Ran.{splits_of, joins_of}
use Rattle.ca_client.specs.declared.clients.Client.{Client}
use Rattle.ca_client.specs.declared.following.OnTree.{OnTree}
use Rattle.ca_client.specs.declared.running.Parts.{Parts}

module _ {R : Type 0} (table : TableId) (z : Sizes) where
  -- The pass is one of this table, has this number, and was just made.
  pub record IsNew (number : ℕ) (pass : Pass R TreeView) : Type 0 where
    pub begins : pass.seat.me ≡ (fresh z number (blank number), [])
    pub resting : IsResting table z pass.number pass.tally pass.kept.rows pass.seat

  -- So are these, of which the first has this number.
  abbrev pub AreNew : ℕ → List (Pass R TreeView) → Type 0
  AreNew first [] = Unit {0}
  AreNew first (pass ∷ passes) = IsNew first pass × AreNew (suc first) passes

module _ (table : TableId) (z : Sizes) where
  -- The client has these lines, and its store is that of the pass of this number, which was just made: it split no base, and carried
  -- out no update.
  pub record IsReady (number : ℕ) (file : List Line) (client : Client StoreAndRun OnTree) : Type 0 where
    pub lines : client.lines.now ≡ file
    pub begins : knows client.table ≡ known_of table z (blank number)
    pub sizes : client.table.store.z ≡ z
    pub unsplit : client.table.store.seat.me.0.upper.splits ≡ 0
    pub unrenewed : client.table.store.seat.me.0.upper.renewal.count ≡ 0

  -- So it is with a client for each file, of which the first has this number.
  abbrev pub AreReady : ℕ → List (List Line) → List (Client StoreAndRun OnTree) → Type 0
  AreReady first [] [] = Unit {0}
  AreReady first (file ∷ files) (client ∷ clients) = IsReady first file client × AreReady (suc first) files clients
  AreReady first files clients = ⊥

module _ {R : Type 0} where
  -- The client was told so, and this is its store's pass, which isn't pinned.
  pub record IsPart (client : Client StoreAndRun OnTree) (told : Answers) (pass : Pass R TreeView) : Type 0 where
    pub answered : client.answers ≡ Some told
    pub z : Sizes
    pub known : knows client.table ≡ known_of pass.seat.table_id z (tree_of pass)
    pub unpinned : pass.seat.me.0.pin.pinned ≡ false

  -- So it is with each client.
  abbrev pub AreParts : List (Client StoreAndRun OnTree) → List Answers → List (Pass R TreeView) → Type 0
  AreParts [] [] [] = Unit {0}
  AreParts (client ∷ clients) (told ∷ all) (pass ∷ passes) = IsPart client told pass × AreParts clients all passes
  AreParts clients all passes = ⊥

-- These are the clients' answers and passes, and what all passes together did to the tree.
pub record AreLeft (clients : List (Client StoreAndRun OnTree)) (parts : Parts) : Type 0 where
  pub each : AreParts clients parts.answers.items parts.passes.items
  pub splits_are : parts.splits ≡ splits_of (map left_by parts.passes.items)
  pub joins_are : parts.joins ≡ joins_of (map left_by parts.passes.items)
