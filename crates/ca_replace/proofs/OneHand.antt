-- A history that one pass alone made is told by its log.
use Rattle.std.proofs.Common.{◌≡◌, ℕ, ◌<◌, List, [], ◌++◌, sym, ap, ◌∙◌, subst, append-nil}
use Rattle.ca_model.specs.declared.outcome.Cause.{Cause}
use Rattle.ca_model.specs.declared.outcome.Cause.TheVariants as cause
use Rattle.ca_model.specs.declared.outcome.Outcome.{Outcome}
use Rattle.ca_model.specs.Answer.{IfRefused}
use Rattle.ca_model.specs.Event.{Entry, Event, effect}
use Rattle.ca_model.specs.History.{Edit, by_pass}
use Rattle.ca_model.specs.Lawful.{edits_of_log}
use Rattle.ca_model.proofs.Parts.{log_more}
use Rattle.ca_node.specs.Told.{IsKnown}
use Rattle.ca_node.specs.States.{IsAlone}
use Rattle.ca_node.specs.TreeView.{TreeView}
use Rattle.ca_range.proofs.LoneSnaps.{seen_is}
use Rattle.ca_base.specs.Progress.{HasDone, IsFurther}
use Rattle.ca_replace.specs.Refusals.{outcome_by}
use Rattle.ca_rows.specs.declared.sizes.Sizes.{Sizes}

-- It learns of nothing while no call is entered in its log.
pub seen_still : (z : Sizes) (u v : TreeView) → IsAlone z u → IsKnown z u → IsKnown z v
    → IsFurther u v → v.seen ≡ u.seen
seen_still z u v a k l f = seen_is z v (a.0, subst (λ (n : ℕ). 0 < n) (sym f.number) a.1) l
    ∙ (ap (λ (log : List Entry). by_pass 1 (edits_of_log log)) f.log ∙ sym (seen_is z u a k))

-- Nor by a call that edits nothing.
pub read_still : (z : Sizes) (u v : TreeView) (event : Event) → IsAlone z u → IsKnown z u → IsKnown z v
    → HasDone event u v → effect event ≡ [] → v.seen ≡ u.seen
read_still z u v event a k l d none = seen_is z v (a.0, subst (λ (n : ℕ). 0 < n) (sym d.number) a.1) l
    ∙ (ap (λ (log : List Entry). by_pass 1 (edits_of_log log)) d.log
    ∙ (ap (by_pass 1) (log_more u.log event d.at ∙ (ap (λ (es : List Edit). edits_of_log u.log ++ es) none ∙ append-nil (edits_of_log u.log)))
    ∙ sym (seen_is z u a k)))

-- So it is of a call that was refused.
pub refused_still : {T : Type 0} (why : Cause) (o : Outcome T) (u v : TreeView) → o ≡ outcome_by why → v.seen ≡ u.seen
    → IfRefused o (λ _. v.seen ≡ u.seen)
refused_still {T} why o u v is same = subst (λ (x : Outcome T). IfRefused x (λ _. v.seen ≡ u.seen)) (sym is) (by why)
  where
    by : (why : Cause) → IfRefused (outcome_by {T = T} why) (λ _. v.seen ≡ u.seen)
    by (cause.Busy spent) = same
    by (cause.Full full) = same
    by (cause.Deep level) = same
    by (cause.Worn counter) = same
