-- What active ranges marked stays a run through each step that leaves it alone.
use Rattle.std.proofs.Common.{◌≡◌, ◌≢◌, ℕ, List, [], ◌∷◌, sym, refl, ap, ◌∙◌, subst, inl, inr, ⊎_elim}
use Rattle.ca_model.specs.Edges.{is_from}
use Rattle.ca_runs.specs.Runs.{IsAmong, Mark, Span, Scene, IsMarked, Range, IsOfRange, IsRun, Ends, range_of, AreRuns}
use Rattle.ca_runs.specs.Scenes.{Stays, Replaces}

-- A row with the same mark has the mark of the same range.
pub marked_alike : (s s' : Scene) (row pass number : ℕ) → s'.mark row ≡ s.mark row → IsMarked s row pass number → IsMarked s' row pass number
marked_alike s s' row pass number e m = subst (λ (x : Mark). (x.kind ≡ 1) × (x.owner ≡ pass) × (x.number ≡ number)) (sym e) m

-- A row of a run is a base that the range marked.
pub of_run : (s : Scene) (range : Range) (rows : List ℕ) (row : ℕ) → IsRun s range rows → IsAmong row rows → IsOfRange s range row
of_run s range [] row run i = absurd i
of_run s range (x ∷ []) row run i = ⊎_elim (λ e. subst (IsOfRange s range) (sym e) run.0) (λ none. absurd none) i
of_run s range (x ∷ left ∷ rows) row run i = ⊎_elim (λ e. subst (IsOfRange s range) (sym e) run.0)
    (λ j. of_run s range (left ∷ rows) row run.3 j) i

-- What stays of a row: it is a base, with the same keys and the same mark.
abbrev pub StaysRow : Scene → Scene → ℕ → Type 0
StaysRow s s' row = s'.is_base row × (s'.keys row ≡ s.keys row) × (s'.mark row ≡ s.mark row)

-- So it is of the same range.
of_range_still : (s s' : Scene) (range : Range) (row : ℕ) → StaysRow s s' row → IsOfRange s range row → IsOfRange s' range row
of_range_still s s' range row t o = record {
  is_base = t.0;
  some_row = o.some_row;
  marked = marked_alike s s' row range.pass range.number t.2 o.marked;
  ends = ap (λ (x : Mark). x.bound) t.2 ∙ o.ends;
}

back_still : (s s' : Scene) (row : ℕ) → StaysRow s s' row → (s'.mark row).back ≡ (s.mark row).back
back_still s s' row t = ap (λ (x : Mark). x.back) t.2

-- A run stays one where its rows stay.
pub run_still : (s s' : Scene) (range : Range) (rows : List ℕ) → ((row : ℕ) → IsAmong row rows → IsOfRange s range row → StaysRow s s' row)
    → IsRun s range rows → IsRun s' range rows
run_still s s' range [] stay run = tt
run_still s s' range (row ∷ []) stay run = let t = stay row (inl refl) run.0 in (
  of_range_still s s' range row t run.0,
  back_still s s' row t ∙ run.1,
  λ key from. ap (λ (x : Span). is_from x.low key) t.1 ∙ run.2 key from,
)
run_still s s' range (row ∷ left ∷ rows) stay run = let t = stay row (inl refl) run.0 in
    let u = stay left (inr (inl refl)) (of_run s range (left ∷ rows) left run.3 (inl refl)) in (
      of_range_still s s' range row t run.0,
      back_still s s' row t ∙ run.1,
      (run.2.0, ap (λ (x : Span). x.high) u.1 ∙ run.2.1, ap (λ (x : Span). x.low) t.1 ∙ run.2.2),
      run_still s s' range (left ∷ rows) (λ x i o. stay x (inr i) o) run.3,
    )

-- A step by which no range is begun or ended, and which leaves alone what active ones marked, keeps all runs.
pub runs_still : (s s' : Scene) (ends : ℕ → Ends) → AreRuns s ends → Stays s s' → AreRuns s' ends
runs_still s s' ends runs t = record {
  run = runs.run;
  each = λ pass number now. let was = t.alike.was_active pass number now in run_still s s' (range_of ends pass number) (runs.run pass)
      (λ row i o. t.stay pass number row was o.is_base o.marked) (runs.each pass number was);
  whole = λ pass number row now base marked. let was = t.alike.was_active pass number now in let w = t.were pass number row base marked was in
      runs.whole pass number row was w.0 w.1;
  begun = t.begun;
}

-- So does one by which a base takes the place of another one, where neither has the mark of an active range.
pub replaced_stays : (s s' : Scene) (ends : ℕ → Ends) (old new : ℕ) → AreRuns s ends → Replaces s s' old new
    → ((pass number : ℕ) → IsMarked s' new pass number → s.has_begun pass number × ¬ s.is_active pass number) → Stays s s'
replaced_stays s s' ends old new runs t over = record {
  alike = t.alike;
  stay = λ pass number row now base marked.
      let other : row ≢ old = λ e. t.free pass number now (subst (λ (x : ℕ). IsMarked s x pass number) e marked) in
      (t.others row base other, t.keys row base other, t.marks row base);
  begun = λ pass number row base marked. t.alike.begun pass number (⊎_elim
      (λ e. (over pass number (subst (λ (x : ℕ). IsMarked s' x pass number) e marked)).0)
      (λ w. runs.begun pass number row w.0 (marked_alike s' s row pass number (sym (t.marks row w.0)) marked))
      (t.from_where row base));
  were = λ pass number row base marked now. ⊎_elim
      (λ e. absurd ((over pass number (subst (λ (x : ℕ). IsMarked s' x pass number) e marked)).1 now))
      (λ w. (w.0, marked_alike s' s row pass number (sym (t.marks row w.0)) marked))
      (t.from_where row base);
}
