-- A marked base takes the place of a base: the run of its range gets one base more, or the range is over by then, and nothing comes of it.
use Rattle.std.proofs.Common.{◌≡◌, ◌≢◌, ◌⊎◌, ℕ, List, [], ◌∷◌, eqb, cond, sym, refl, ap, ◌∙◌, subst, inl, inr, ⊎_elim, eq-eqb, ne_eqb}
use mathlib.Core.Logic.{dite}
use native.Mathlib.Decide.{ℕ_discrete}
use Rattle.ca_model.specs.Edges.{Included, Excluded, is_from}
use Rattle.ca_runs.specs.Runs.{IsAmong, Span, Scene, IsMarked, AreNeighbours, Range, IsOfRange, IsRun, Ends, range_of, AreRuns, AreApart}
use Rattle.ca_runs.specs.Scenes.{Replaces, IsFirst, IsNext}
use Rattle.ca_runs.proofs.Keeping.{marked_alike, of_run, run_still, runs_still, replaced_stays}

-- a function that is changed at one number
abbrev pub with_at : {A : Type 0} → (ℕ → A) → ℕ → A → ℕ → A
with_at f i a j = cond (eqb j i) a (f j)

pub with_here : {A : Type 0} (f : ℕ → A) (i : ℕ) (a : A) (j : ℕ) → j ≡ i → with_at f i a j ≡ a
with_here f i a j e = ap (λ b. cond b a (f j)) (eq-eqb j i e)

pub with_else : {A : Type 0} (f : ℕ → A) (i : ℕ) (a : A) (j : ℕ) → j ≢ i → with_at f i a j ≡ f j
with_else f i a j n = ap (λ b. cond b a (f j)) (ne_eqb j i n)

-- Two bounds that take the same key in have the same key.
same_included : (a b : List ℕ) → Included a ≡ Included b → a ≡ b
same_included a b e = cc

-- Two bounds that leave the same key out have the same key.
same_excluded : (a b : List ℕ) → Excluded a ≡ Excluded b → a ≡ b
same_excluded a b e = cc

-- A base of a run is its last one, or the run has a base that begins where this one ends.
pub last_or_beside : (s : Scene) (range : Range) (rows : List ℕ) (row : ℕ) → IsRun s range rows → IsAmong row rows
    → ((rest : List ℕ) × (rows ≡ row ∷ rest)) ⊎ ((next : ℕ) × IsAmong next rows × AreNeighbours (s.keys row) (s.keys next))
last_or_beside s range [] row run i = absurd i
last_or_beside s range (x ∷ []) row run i = ⊎_elim (λ e. inl ([], ap (λ y. y ∷ []) (sym e))) (λ none. absurd none) i
last_or_beside s range (x ∷ left ∷ rows) row run i = ⊎_elim
    (λ e. inl (left ∷ rows, ap (λ y. y ∷ left ∷ rows) (sym e)))
    (λ j. ⊎_elim
    (λ t. let same : left ≡ row = heads left rows row t.0 t.1 in inr (x, inl refl, subst (λ y. AreNeighbours (s.keys y) (s.keys x)) same run.2))
    (λ t. inr (t.0, inr t.1, t.2))
    (last_or_beside s range (left ∷ rows) row run.3 j))
    i
  where
    heads : (a : ℕ) (xs : List ℕ) (b : ℕ) (ys : List ℕ) → a ∷ xs ≡ b ∷ ys → a ≡ b
    heads a xs b ys e = cc

-- The run that nothing was marked for is empty.
none_marked : (s : Scene) (range : Range) (rows : List ℕ) → IsRun s range rows
    → ((row : ℕ) → s.is_base row → ¬ IsMarked s row range.pass range.number) → rows ≡ []
none_marked s range [] run none = refl
none_marked s range (row ∷ rows) run none = let o = of_run s range (row ∷ rows) row run (inl refl) in absurd (none row o.is_base o.marked)

module _ (s s' : Scene) (ends : ℕ → Ends) (pass number old new : ℕ) (runs : AreRuns s ends) (apart : AreApart s)
    (one : (pass a b : ℕ) → s.is_active pass a → s.is_active pass b → a ≡ b)
    (t : Replaces s s' old new) (marked : IsMarked s' new pass number) (begun : s.has_begun pass number) where
  -- The new base has no other mark.
  only : (p n : ℕ) → IsMarked s' new p n → (p ≡ pass) × (n ≡ number)
  only p n m = (sym m.1 ∙ marked.1, sym m.2 ∙ marked.2)

  abbrev Fits : Type 0
  Fits = IsFirst s s' ends pass number old new ⊎ ((left : ℕ) × IsNext s s' pass number old new left)

  -- The runs of active ranges are runs behind the exchange, too: the base that goes is of none.
  old_run : (p n : ℕ) → s.is_active p n → (range : Range) → range.pass ≡ p → range.number ≡ n → (rows : List ℕ) → IsRun s range rows
      → IsRun s' range rows
  old_run p n now range is_pass is_number rows run = run_still s s' range rows
      (λ row i o. let other : row ≢ old = λ e. t.free p n now (subst (λ (x : ℕ). IsMarked s x p n) e
      (o.marked.0, o.marked.1 ∙ is_pass, o.marked.2 ∙ is_number)) in
      (t.others row o.is_base other, t.keys row o.is_base other, t.marks row o.is_base))
      run

  module _ (now : s.is_active pass number) where
    abbrev this : Range
    this = range_of ends pass number

    run : IsRun s this (runs.run pass)
    run = runs.each pass number now

    -- The base that is marked before the new one is the last one of the run: where another one followed, it would stand where the old base stood.
    is_last : (left : ℕ) → IsNext s s' pass number old new left → (rest : List ℕ) × (runs.run pass ≡ left ∷ rest)
    is_last left next = ⊎_elim (λ e. e)
        (λ e. let o = of_run s this (runs.run pass) e.0 run e.1 in
        let same_key : e.2.0 ≡ next.beside.0 = same_excluded e.2.0 next.beside.0 (sym e.2.1 ∙ next.beside.1) in
        let there : (s.keys e.0).low ≡ Included next.beside.0 = e.2.2 ∙ ap (λ k. Included k) same_key in
        let same : e.0 ≡ old = apart.apart e.0 old next.beside.0 o.is_base t.was there next.beside.2 in
        absurd (t.free pass number now (subst (λ (x : ℕ). IsMarked s x pass number) same o.marked)))
        (last_or_beside s this (runs.run pass) left run (runs.whole pass number left now next.is_base next.marked))

    new_of_range : (s'.mark new).bound ≡ (ends pass).top → IsOfRange s' this new
    new_of_range top = record { is_base = t.is; some_row = t.some_row; marked = marked; ends = top }

    begun_run : IsFirst s s' ends pass number old new → IsRun s' this (new ∷ runs.run pass)
    begun_run first = subst (λ rows. IsRun s' this (new ∷ rows)) (sym (none_marked s this (runs.run pass) run first.none)) (
      new_of_range first.top,
      first.back,
      λ key from. ap (λ (x : Span). is_from x.low key) t.same_keys ∙ first.before key from,
    )

    longer_by : (left : ℕ) → IsNext s s' pass number old new left → (rest : List ℕ) → runs.run pass ≡ left ∷ rest
        → IsRun s' this (new ∷ runs.run pass)
    longer_by left next rest e = let was : IsRun s this (left ∷ rest) = subst (IsRun s this) e run in
        let o = of_run s this (left ∷ rest) left was (inl refl) in
        subst (λ rows. IsRun s' this (new ∷ rows)) (sym e) (
          new_of_range (next.top ∙ o.ends),
          next.back,
          (
            next.beside.0,
            ap (λ (x : Span). x.high) (t.keys left o.is_base
                (λ e. t.free pass number now (subst (λ (x : ℕ). IsMarked s x pass number) e next.marked))) ∙ next.beside.1,
            ap (λ (x : Span). x.low) t.same_keys ∙ next.beside.2,
          ),
          old_run pass number now this refl refl (left ∷ rest) was,
        )

    longer_run : Fits → IsRun s' this (new ∷ runs.run pass)
    longer_run fits = ⊎_elim (λ first. begun_run first)
        (λ next. let e = is_last next.0 next.1 in longer_by next.0 next.1 e.0 e.1) fits

    abbrev run_with : ℕ → List ℕ
    run_with = with_at runs.run pass (new ∷ runs.run pass)

    each_run : Fits → (p n : ℕ) → s'.is_active p n → IsRun s' (range_of ends p n) (run_with p)
    each_run fits p n act = let was = t.alike.was_active p n act in dite (ℕ_discrete p pass)
        (λ (e : p ≡ pass). let same : n ≡ number = one pass n number (subst (λ (x : ℕ). s.is_active x n) e was) now in
        subst (IsRun s' (range_of ends p n)) (sym (with_here runs.run pass (new ∷ runs.run pass) p e))
        (subst (λ (x : ℕ × ℕ). IsRun s' (range_of ends x.0 x.1) (new ∷ runs.run pass)) (λ k. (sym e k, sym same k)) (longer_run fits)))
        (λ d. subst (IsRun s' (range_of ends p n)) (sym (with_else runs.run pass (new ∷ runs.run pass) p d))
        (old_run p n was (range_of ends p n) refl refl (runs.run p) (runs.each p n was)))

    whole_run : (p n row : ℕ) → s'.is_active p n → s'.is_base row → IsMarked s' row p n → IsAmong row (run_with p)
    whole_run p n row act base m = let was = t.alike.was_active p n act in ⊎_elim
        (λ (e : row ≡ new). let w = only p n (subst (λ (x : ℕ). IsMarked s' x p n) e m) in
        subst (IsAmong row) (sym (with_here runs.run pass (new ∷ runs.run pass) p w.0)) (inl e))
        (λ w. let in_it = runs.whole p n row was w.0 (marked_alike s' s row p n (sym (t.marks row w.0)) m) in dite (ℕ_discrete p pass)
        (λ (e : p ≡ pass). subst (IsAmong row) (sym (with_here runs.run pass (new ∷ runs.run pass) p e))
        (inr (subst (λ (x : ℕ). IsAmong row (runs.run x)) e in_it)))
        (λ d. subst (IsAmong row) (sym (with_else runs.run pass (new ∷ runs.run pass) p d)) in_it))
        (t.from_where row base)

    begun_then : (p n row : ℕ) → s'.is_base row → IsMarked s' row p n → s'.has_begun p n
    begun_then p n row base m = t.alike.begun p n (⊎_elim
        (λ (e : row ≡ new). let w = only p n (subst (λ (x : ℕ). IsMarked s' x p n) e m) in
        subst (λ (x : ℕ × ℕ). s.has_begun x.0 x.1) (λ k. (sym w.0 k, sym w.1 k)) begun)
        (λ w. runs.begun p n row w.0 (marked_alike s' s row p n (sym (t.marks row w.0)) m))
        (t.from_where row base))

    -- While the range is active, its run gets the base.
    pub marks_active : Fits → AreRuns s' ends
    marks_active fits = record { run = run_with; each = each_run fits; whole = whole_run; begun = begun_then }

  -- Whoever marks a base for a range, its pass or another one: where the range is over by then, that base is one as any other.
  pub marks : s.is_active pass number ⊎ (¬ s.is_active pass number) → (s.is_active pass number → Fits) → AreRuns s' ends
  marks known fits = ⊎_elim (λ now. marks_active now (fits now))
      (λ late. runs_still s s' ends runs (replaced_stays s s' ends old new runs t
      (λ p n m. let w = only p n m in subst (λ (x : ℕ × ℕ). s.has_begun x.0 x.1 × ¬ s.is_active x.0 x.1) (λ k. (sym w.0 k, sym w.1 k)) (begun, late))))
      known
