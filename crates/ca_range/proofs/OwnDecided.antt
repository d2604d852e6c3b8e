-- A range of a pass's own was decided by it: which run that is.
use Rattle.std.proofs.Common.{◌≡◌, ℕ, ◌+◌, ◌<◌, ◌≤◌, ◌++◌, Bool, true, false, List, ◌∷◌, map, sym, refl, ap, ◌∙◌, subst, ⊎_elim, arith}
use denote.Ref.{Bor}
use denote.Param.Members.{Shared}
use Rattle.ca_base.specs.Putting.{first_note}
use Rattle.ca_model.specs.Edges.{Bound, IsLower, bound_of, from, objects_of, within}
use Rattle.ca_model.specs.History.{state}
use Rattle.ca_model.specs.Runs.{HasCounted, Reaches}
use Rattle.ca_model.specs.StoreMap.{StoreMap}
use Rattle.ca_node.specs.declared.cursor.Cursor.{Cursor}
use Rattle.ca_node.specs.Links.{IsIn}
use Rattle.ca_node.specs.OwnRanges.{IsOwnDecided}
use Rattle.ca_node.specs.Ranging as ranging
use Rattle.ca_node.specs.Row.{pair}
use Rattle.ca_node.specs.Told.{MyTree}
use Rattle.ca_node.specs.TreeView.{Note, Ranging, TreeView}
use Rattle.ca_node.proofs.Looking.{in_more}
use Rattle.ca_rows.specs.declared.sizes.Sizes.{Sizes}
use Rattle.ca_range.specs.Edged.{EndsBefore, reaches_to}
use Rattle.ca_range.specs.Gathering.{IsEnough, IsGathering}
use Rattle.ca_range.specs.Looking.{HasLooked, IsGoneTo}
use Rattle.ca_range.specs.Snapshots.{HasRun}
use Rattle.ca_range.specs.declared.looking.Looked.TheVariants as looked
use Rattle.ca_range.specs.declared.own.Gathered.{Gathered}
use Rattle.ca_range.specs.declared.sought.Sought.{Sought}
use Rattle.ca_range.proofs.CountedObjects.{counted_fewer, from_both, up_to_all}
use Rattle.ca_range.proofs.Counts.{counted_both}
use Rattle.ca_range.proofs.Edges.{reaches_ends, reaches_lower}
use Rattle.ca_range.proofs.NextGathered.{needed_on}
use Rattle.ca_range.proofs.OwnEnds.{begun_of, border_of, decided_so}
use Rattle.ca_range.proofs.OwnRuns.{own_run, same_runs}

-- There are rows where a base was shown.
pub rows_of : (z : Sizes) (u : TreeView) (cursor : Cursor) → IsGoneTo z u cursor → 0 < z.rows
rows_of z u cursor k = let low = k.at.shown.is_base.some_row in let high = k.at.shown.is_base.in_range in omega arith

module _ {F : Type 0} (g : Shared F (Bor (List ℕ) × Unit {0}) Bool) (sought : Sought F) where
  module _ (z : Sizes) (m m' : MyTree) (last : Gathered) (k : IsGathering g sought z m.0.upper last) (sizes : m.0.sizes ≡ z) (leaf : z.leaf ≤ 120)
      (d : IsOwnDecided m m' (begun_of m.0.upper.ranges.own) (border_of m.0.upper.ranges.own) (first_note m.0.upper.notes)) where
    abbrev note : Note
    note = first_note m.0.upper.notes

    some_rows : 0 < z.rows
    some_rows = rows_of z m.0.upper last.left k.gone

    edge_is : (begun_of m.0.upper.ranges.own).edge ≡ bound_of sought.lo
    edge_is = ap (λ (r : Ranging). (begun_of r).edge) k.between.marking.is ∙ k.between.edge

    -- The bases that were gone along are those of the run.
    same_objects : ranging.objects_of d.run ≡ ranging.objects_of (note ∷ k.passed.bases)
    same_objects = same_runs m.0.upper.notes d.run (note ∷ k.passed.bases) note.row d.seen.shown.chained
        (refl, k.gone.at.shown.is_base.some_row, k.passed.chained)
        (λ x i. ⊎_elim (λ (e : note ≡ x). subst (λ (y : Note). IsIn y m.0.upper.notes) e k.gone.at.shown.noted)
        (λ (j : IsIn x k.passed.bases). k.passed.noted x j) (in_more note x k.passed.bases i)) d.seen.alike

    abbrev run_of : (whole : Bool) → ℕ → Type 0
    run_of whole row = HasRun g sought z m'.0.upper (record { last = row; chained = true; whole = whole })

    by_run : (whole : Bool) (cut : Bound) → EndsBefore cut d.seen.shown.high → (whole ≡ false → cut ≡ d.seen.shown.high)
        → Reaches g sought.counts.now (bound_of sought.hi) cut sought.want
        (objects_of (within (bound_of sought.lo) cut (ranging.objects_of d.run))) whole
        → run_of whole last.left.base
    by_run whole cut inside cut_is reaches = subst (run_of whole) k.gone.at.shown.here
        (own_run g sought z m m' (begun_of m.0.upper.ranges.own) d.more note.row d.run d.seen k.gone.at.shown.is_base.some_row
        (ap (λ (x : MyTree). x.0.upper.ranges.run) d.now) (ap (λ (x : MyTree). x.0.upper.seen) d.now) (ap (λ (x : MyTree). x.0.upper.since) d.now)
        sizes some_rows leaf ((decided_so z (begun_of m.0.upper.ranges.own) (border_of m.0.upper.ranges.own) note m m' sizes some_rows d).only.known k.known)
        whole cut edge_is inside cut_is reaches last.own.number
        (needed_on g sought m.0.upper m'.0.upper last.own.number (ap (λ (x : MyTree). x.0.upper.number) d.now)
        (λ x i. subst (λ (ns : List Note). IsIn x ns) (sym (ap (λ (y : MyTree). y.0.upper.notes) d.now)) i) k.between.needed))

    -- It has all up to the upper edge,
    pub whole_run : reaches_to (bound_of sought.hi) (first_note m.0.upper.notes).place.span.high ≡ true → HasRun g sought z m'.0.upper
        (record { last = last.left.base; chained = true; whole = true })
    whole_run l = by_run true (bound_of sought.hi)
        (subst (EndsBefore (bound_of sought.hi)) (sym d.high_is) (reaches_ends (bound_of sought.hi) note.place.span.high l))
        (λ e. let no : true ≡ false = e in absurd cc) refl

    -- or as many objects as are wanted.
    pub cut_run : (key : List ℕ) → HasLooked g sought last.counted (looked.Done false) key (first_note m.0.upper.notes) → HasRun g sought z m'.0.upper
        (record { last = last.left.base; chained = true; whole = false })
    cut_run key l = by_run false d.seen.shown.high (λ x up. up) (λ e. refl) (
      subst (λ (b : Bound). IsLower b (bound_of sought.hi)) (sym (d.high_is ∙ l.0))
          (reaches_lower (bound_of sought.hi) key (ap (reaches_to (bound_of sought.hi)) (sym l.0) ∙ l.1)),
      l.2,
      subst (λ (p : StoreMap). HasCounted g sought.counts.now sought.want (objects_of p)) (sym all_within) enough,
    )
      where
        all_within : within (bound_of sought.lo) d.seen.shown.high (ranging.objects_of d.run) ≡ from (bound_of sought.lo) (ranging.objects_of d.run)
        all_within = subst (λ (p : StoreMap). within (bound_of sought.lo) d.seen.shown.high p ≡ from (bound_of sought.lo) p) (sym d.seen.shown.shown)
            (up_to_all (bound_of sought.lo) d.seen.shown.low d.seen.shown.high (state (m.0.upper.seen ++ d.more) d.seen.shown.at))

        both : HasCounted g sought.counts.now (last.counted + l.3.1.0) (objects_of (from (bound_of sought.lo) (ranging.objects_of d.run)))
        both = subst (λ (p : StoreMap). HasCounted g sought.counts.now (last.counted + l.3.1.0) (objects_of (from (bound_of sought.lo) p))) (sym same_objects)
            (subst (HasCounted g sought.counts.now (last.counted + l.3.1.0))
            (sym (from_both (bound_of sought.lo) (ranging.objects_of k.passed.bases) (map pair note.objects)))
            (counted_both g sought.counts.now last.counted l.3.1.0 (objects_of (from (bound_of sought.lo) (ranging.objects_of k.passed.bases)))
            (objects_of (from (bound_of sought.lo) (map pair note.objects))) k.passed.counted_so l.3.1.2))

        enough : HasCounted g sought.counts.now sought.want (objects_of (from (bound_of sought.lo) (ranging.objects_of d.run)))
        enough = counted_fewer g sought.counts.now sought.want (last.counted + l.3.1.0)
            (objects_of (from (bound_of sought.lo) (ranging.objects_of d.run))) (let now = l.3.1.1 in let want = l.3.2 in omega arith) both

  -- So it is, by what was found at its last base.
  pub decided_run : (z : Sizes) (m m' : MyTree) (last : Gathered) (whole : Bool) → IsEnough g sought z m.0.upper last whole → m.0.sizes ≡ z → z.leaf ≤ 120
      → IsOwnDecided m m' (begun_of m.0.upper.ranges.own) (border_of m.0.upper.ranges.own) (first_note m.0.upper.notes)
      → HasRun g sought z m'.0.upper (record { last = last.left.base; chained = true; whole = whole })
  decided_run z m m' last true e sizes leaf d = whole_run z m m' last e.0 sizes leaf d e.1.1
  decided_run z m m' last false e sizes leaf d = cut_run z m m' last e.0 sizes leaf d e.1.0 e.1.1
