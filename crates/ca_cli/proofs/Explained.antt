-- A run that was printed is explained.
use Rattle.std.proofs.Common.{◌≡◌, ℕ, List, ◌++◌, length, map, ◌∙◌, ap, subst}
use Rattle.std.proofs.lemmas.List.{length-map}
use Rattle.std.specs.Prelude.{All, Option, None, Some}
use Rattle.ca_term.specs.Tree.{Tree}
use Rattle.ca_ets.specs.Command.{Answer}
use Rattle.ca_explain.specs.Explaining.{merge_of}
use Rattle.ca_cmd.specs.File.{Numbered, commands_in}
use Rattle.ca_client.specs.Ran.{AreDeepLate, AreFullLate, answers_in}
use Rattle.ca_client.specs.declared.running.Ran.{Ran}
use Rattle.ca_cli.specs.Call.{Call, Change, Adds}
use Rattle.ca_cli.specs.Causes.{IsCause}
use Rattle.ca_cli.specs.Headline.{Prints}
use Rattle.ca_cli.specs.Opening.{rows_of, tuning_of}
use Rattle.ca_cli.specs.Printed.{shape_text}
use Rattle.ca_cli.specs.Run.{HasPlayed, IsRunOf}
use Rattle.ca_cli.specs.Written.{IsOutcome}
use Rattle.ca_rows.specs.declared.sizes.Sizes.{Sizes}
use Rattle.ca_words.specs.Grammar.{Request}
use Rattle.ca_words.specs.declared.tree.TreeOptions.{TreeOptions}
use Rattle.ca_cli.proofs.Texts.{told_is}
use Rattle.ca_cli.specs.declared.status.Status.{Status}
use Rattle.ca_cli.specs.declared.status.Status.TheVariants.{Done}

-- One client's commands are refused for want of levels, and of rows, only late: the tree has a pass for it alone, and the levels and rows that are asked for.
module _ (request : Request) (options : TreeOptions) (lines : List (List Numbered)) (ran : Ran) (run : IsRunOf request options lines ran)
    (one : length lines ≡ 1) where
  alone : ran.past.sizes.passes ≡ 1
  alone = ap (λ (z : Sizes). z.passes) run.made.sizes ∙ length-map lines commands_in ∙ one

  late : All (λ (given : List Answer). AreDeepLate (tuning_of options).levels 0 given) (answers_in run.played.clients)
  late = subst (λ (levels : ℕ). All (λ (given : List Answer). AreDeepLate levels 0 given) (answers_in run.played.clients))
      (ap (λ (z : Sizes). z.levels) run.made.sizes) (run.played.deep_late alone)

  late_rows : All (λ (given : List Answer). AreFullLate (rows_of options (map commands_in lines)) 0 given) (answers_in run.played.clients)
  late_rows = subst (λ (rows : ℕ). All (λ (given : List Answer). AreFullLate rows 0 given) (answers_in run.played.clients))
      (ap (λ (z : Sizes). z.rows) run.made.sizes) (run.played.full_late alone)

printed : (call : Call) (output : Change ℕ) (ran : Ran) (bytes : List ℕ) → HasPlayed call ran bytes → Adds output bytes
    → (answers : List (List Answer)) × (table : List Tree) × (bytes : List ℕ) × Prints call output answers table bytes
printed call output ran bytes h taken = (
  answers_in h.run.played.clients,
  ran.table,
  bytes,
  record {
    accepted = h.accepted;
    explained = (merge_of h.run.played.history h.run.played.clients, h.run.played.explained);
    splits = ran.splits;
    joins = ran.joins;
    written = h.written
        ∙ ap (λ (text : List ℕ). text ++ shape_text h.accepted.options ran.splits ran.joins)
        (told_is h.accepted.request h.accepted.lines (answers_in h.run.played.clients) ran.answers.items ran.table h.run.played.are_told);
    taken = taken;
    deep_late = λ one. late h.accepted.request h.accepted.options h.accepted.lines ran h.run one;
    full_late = λ one. late_rows h.accepted.request h.accepted.options h.accepted.lines ran h.run one;
  },
)

-- With `Done` there is a run, and the bytes tell of it.
pub headline_whole : (call : Call) (output : Change ℕ) (ran : Option Ran) (status : Status) (bytes : List ℕ) → IsOutcome call ran status bytes
    → Adds output bytes → status ≡ Done → (answers : List (List Answer)) × (table : List Tree) × (bytes : List ℕ) × Prints call output answers table bytes
headline_whole call output (Some ran) status bytes h taken done = printed call output ran bytes h.1 taken
headline_whole call output None status bytes h taken done = absurd (subst (IsCause call) done h.0)
