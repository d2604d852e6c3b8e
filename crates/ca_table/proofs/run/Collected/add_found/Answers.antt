use Rattle.std.proofs.Common.{ℕ, ◌∙◌, sym, refl, ap, length, Some, if◌then◌else◌}
use Rattle.std.specs.Prelude.{option_map}
use Rattle.ca_spec.specs.FoundView.{tree_of_found}
use Rattle.ca_table.specs.Collected.{is_full}
use Rattle.ca_table.specs.ResultsView.{results_of}
use Rattle.ca_table.specs.declared.results.Results.{Results}
use Rattle.ca_table.proofs.run.Collected.add_found.Goals as goal

pub returns-in_default : goal.returns-in_default
returns-in_default c = λ o b e. rw (sym (c.in_ok-found.ensures.found o b (c.as_slice.ensures.value ∙ e)) ∙ ap (option_map tree_of_found) c.in_default.is) (refl, refl)

pub returns : goal.returns
returns c = λ o b e.
    rw (sym (c.in_ok-found.ensures.found o b (c.as_slice.ensures.value ∙ e)) ∙ ap (option_map tree_of_found) c.in-Some.is) (
      ap results_of c.keep.ensures.results ∙ c.in_ok-push.ensures,
      c.keep.ensures.last o b e
          ∙ ap (λ (found : ℕ). if is_full c.args.limit found then Some o else c.args.self.now.last)
          (sym (ap (λ (kept : Results). length (results_of kept)) c.keep.ensures.results)),
    )
