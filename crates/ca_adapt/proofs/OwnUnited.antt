-- What became of the exchange by which an own attempt is carried out.
use Rattle.std.proofs.Common.{◌≡◌, ℕ, ◌<◌, Bool, true, false, sym, refl, ap, ◌∙◌, subst}
use Rattle.ca_base.specs.Counting.{losses, HasMet}
use Rattle.ca_node.specs.Told.{MyTree}
use Rattle.ca_node.specs.TreeView.{Quiet, Secured, TreeView, own_behind}
use Rattle.ca_node.specs.Unlinks.{Unlinking, attempt_by, one_unlinking_lost, turns_after, unlinked}
use Rattle.ca_node.proofs.OwnTurns.{behind_own}
use Rattle.ca_rows.specs.declared.sizes.Sizes.{Sizes}
use Rattle.ca_adapt.specs.Carrying.{HasUnited}
use Rattle.ca_adapt.specs.Finishing.{HasPutJoined}
use Rattle.ca_adapt.specs.Trying.{IsJoinSteps}
use Rattle.ca_adapt.proofs.TrySteps.{no_steps}

module _ (z : Sizes) (new : ℕ) (x : Unlinking) where
  steps_won : (u : TreeView) → IsJoinSteps z u (unlinked new x u)
  steps_won u = record {
    only = refl;
    seen = (no_steps z u).seen;
    known = λ k. record {
      lawful = k.lawful;
      past = k.past;
      edits = k.edits;
      enrolled =
          k.enrolled;
      by_passes = k.by_passes;
    };
  }

  steps_lost : (u : TreeView) → IsJoinSteps z u (one_unlinking_lost x u)
  steps_lost u = record {
    only = refl;
    seen = (no_steps z u).seen;
    known = λ k. record {
      lawful = k.lawful;
      past = k.past;
      edits = k.edits;
      enrolled =
          k.enrolled;
      by_passes = k.by_passes;
    };
  }

  -- A base was written meanwhile, and nothing else was learnt.
  module _ (m l e : MyTree) (upper : l.0.upper ≡ m.0.upper) where
    pub put_steps : (b : Bool) → HasPutJoined b new x l e → IsJoinSteps z m.0.upper e.0.upper
    put_steps true h = subst (λ (v : TreeView). IsJoinSteps z m.0.upper v)
        (sym (h.0 ∙ ap (unlinked new x) upper)) (steps_won m.0.upper)
    put_steps false h = subst (λ (v : TreeView). IsJoinSteps z m.0.upper v)
        (sym (h.0 ∙ ap (one_unlinking_lost x) upper)) (steps_lost m.0.upper)

    put_own : (b : Bool) → HasPutJoined b new x l e
        → e.0.upper.ranges.own ≡ own_behind (attempt_by x) m.0.upper.ranges.own
    put_own true h = ap (λ (v : TreeView). v.ranges.own) (h.0 ∙ ap (unlinked new x) upper)
    put_own false h = ap (λ (v : TreeView). v.ranges.own) (h.0 ∙ ap (one_unlinking_lost x) upper)

    pub put_quiet : (b : Bool) → HasPutJoined b new x l e
        → m.0.upper.ranges.own ≡ Secured (attempt_by x) → e.0.upper.ranges.own ≡ Quiet
    put_quiet b h own = put_own b h
        ∙ (ap (own_behind (attempt_by x)) own ∙ behind_own (attempt_by x))

    pub put_united : x.counts ≡ false → losses l ≡ losses m → HasMet 0 0 m e → (b : Bool)
        → HasPutJoined b new x l e → HasUnited b m e
    put_united counts same met true h = let v = h.0 ∙ ap (unlinked new x) upper in (
      record {
        joins = ap (λ (w : TreeView). w.joins) v;
        lost = ap (λ (w : TreeView). w.lost) v;
        turns = ap (λ (w : TreeView). w.turns) v ∙ ap
            (λ (c : Bool). turns_after c m.0.upper.turns) counts;
        forgotten = (
          ap (λ (w : TreeView). w.notes) v,
          ap (λ (w : TreeView). w.ways) v,
          ap (λ (w : TreeView). w.ranges.joins) v,
        );
      },
      h.1 ∙ same,
      met,
      ap (λ (w : TreeView). w.loads) v,
      ap (λ (w : TreeView). w.tries) v,
    )
    put_united counts same met false h = let v = h.0 ∙ ap (one_unlinking_lost x) upper in (
      record {
        joins = ap (λ (w : TreeView). w.joins) v;
        lost = ap (λ (w : TreeView). w.lost) v;
        turns = ap (λ (w : TreeView). w.turns) v;
        forgotten = (
          ap (λ (w : TreeView). w.notes) v,
          ap (λ (w : TreeView). w.ways) v,
          ap (λ (w : TreeView). w.ranges.joins) v,
        );
        inventory = ap (λ (w : TreeView). w.inventory) v;
      },
      subst (λ (k : ℕ). k < losses e) same h.1,
      met,
      ap (λ (w : TreeView). w.loads) v,
      ap (λ (w : TreeView). w.tries) v,
    )
