-- Steps of a try to join, one after another.
use Rattle.std.proofs.Common.{[], ◌++◌, sym, refl, ap, ◌∙◌, append-nil, append_assoc}
use Rattle.ca_model.specs.History.{History}
use Rattle.ca_node.specs.TreeView.{TreeView}
use Rattle.ca_rows.specs.declared.sizes.Sizes.{Sizes}
use Rattle.ca_adapt.specs.Trying.{IsJoinSteps, with_try_of}

pub no_steps : (z : Sizes) (u : TreeView) → IsJoinSteps z u u
no_steps z u = record { only = refl; seen = ([], sym (append-nil u.seen)); known = λ k. k }

pub steps_both : (z : Sizes) (u v w : TreeView) → IsJoinSteps z u v → IsJoinSteps z v w
    → IsJoinSteps z u w
steps_both z u v w a b = record {
  only = b.only ∙ ap (λ (x : TreeView). with_try_of x w) a.only;
  seen = (
    a.seen.0 ++ b.seen.0,
    b.seen.1
        ∙ (ap (λ (h : History). h ++ b.seen.0) a.seen.1 ∙ append_assoc u.seen a.seen.0 b.seen.0),
  );
  known = λ k. b.known (a.known k);
}
