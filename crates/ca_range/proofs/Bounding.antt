-- Bases that have all keys up to where a range goes.
use Rattle.std.proofs.Common.{◌≡◌, ◌≢◌, ℕ, suc, List, [], ◌∷◌, Bool, true, false, not, cond, eqb, sym, refl, ap, ◌∙◌, subst, ⊎_elim, eq-eqb, ne_eqb}
use Rattle.std.specs.declared.cmp.Ordering.{Ordering}
use Rattle.std.specs.declared.cmp.Ordering.TheVariants.{Less, Equal, Greater}
use Rattle.std.specs.Ordering.{is_lt, is_gt, is_le}
use Rattle.ca_model.specs.Edges.{Bound, Unbounded, Included, Excluded, is_up_to}
use Rattle.ca_model.specs.StoreMap.{bytes_cmp}
use Rattle.ca_model.proofs.Places.{bytes_chain}
use Rattle.ca_term.proofs.Bytes.{same_bytes}
use mathlib.Core.Logic.{dite}
use native.Mathlib.Decide.{ℕ_discrete}
use Rattle.ca_node.specs.Laws.{in_nothing}
use Rattle.ca_node.specs.Links.{IsIn}
use Rattle.ca_node.proofs.Looking.{in_more}
use Rattle.ca_node.specs.Ranging.{Reaches, top_of}
use Rattle.ca_node.specs.Row.{edge_form, route_key}
use Rattle.ca_node.specs.TreeView.{Border}
use Rattle.ca_node.proofs.Parts.{is_less}
use Rattle.ca_range.specs.Reaching.{border_for, reaches_by}

module _ (its key : List ℕ) where
  -- What such an upper edge lets in is less than the key.
  abbrev IsBelow : Bound → Type 0
  IsBelow top = (k : List ℕ) → is_up_to top k ≡ true → is_lt (bytes_cmp k key) ≡ true

  -- The range goes up to a key that is less.
  pub reaches_included : edge_form its ≡ 1 → is_lt (bytes_cmp (route_key its) key) ≡ true → Reaches its (Excluded key)
  reaches_included one less = subst IsBelow
      (sym (ap (λ (n : ℕ). cond (eqb n 0) Unbounded (cond (eqb n 1) (Included (route_key its)) (Excluded (route_key its)))) one))
      (λ k up. by k (bytes_cmp k (route_key its)) refl up)
    where
      by : (k : List ℕ) (o : Ordering) → bytes_cmp k (route_key its) ≡ o → not (is_gt o) ≡ true → is_lt (bytes_cmp k key) ≡ true
      by k Less e up = ap is_lt (bytes_chain k (route_key its) key e (is_less (bytes_cmp (route_key its) key) less))
      by k Equal e up = ap (λ (x : List ℕ). is_lt (bytes_cmp x key)) (same_bytes k (route_key its) e) ∙ less
      by k Greater e up = cc

  -- It goes up to below a key that isn't greater.
  pub reaches_excluded : edge_form its ≢ 0 → edge_form its ≢ 1 → is_le (bytes_cmp (route_key its) key) ≡ true → Reaches its (Excluded key)
  reaches_excluded some other less = subst IsBelow (sym top) (λ k up. by k (bytes_cmp (route_key its) key) refl less (is_less (bytes_cmp k (route_key its)) up))
    where
      top : top_of its ≡ Excluded (route_key its)
      top = ap (λ (b : Bool). cond b Unbounded (cond (eqb (edge_form its) 1) (Included (route_key its)) (Excluded (route_key its))))
          (ne_eqb (edge_form its) 0 some)
          ∙ ap (λ (b : Bool). cond b (Included (route_key its)) (Excluded (route_key its))) (ne_eqb (edge_form its) 1 other)

      by : (k : List ℕ) (o : Ordering) → bytes_cmp (route_key its) key ≡ o → is_le o ≡ true → bytes_cmp k (route_key its) ≡ Less
          → is_lt (bytes_cmp k key) ≡ true
      by k Less e l less' = ap is_lt (bytes_chain k (route_key its) key less' e)
      by k Equal e l less' = ap is_lt (subst (λ (x : List ℕ). bytes_cmp k x ≡ Less) (same_bytes (route_key its) key e) less')
      by k Greater e l less' = cc

  -- So it is told by comparing.
  pub of_none : edge_form its ≡ 0 → reaches_by its (Excluded key) ≡ false
  of_none none = ap (λ (n : ℕ). cond (eqb n 0) false (cond (eqb n 1) (is_lt (bytes_cmp (route_key its) key)) (is_le (bytes_cmp (route_key its) key)))) none

  pub of_included : edge_form its ≡ 1 → reaches_by its (Excluded key) ≡ is_lt (bytes_cmp (route_key its) key)
  of_included one = ap (λ (n : ℕ). cond (eqb n 0) false (cond (eqb n 1) (is_lt (bytes_cmp (route_key its) key)) (is_le (bytes_cmp (route_key its) key)))) one

  pub of_excluded : edge_form its ≢ 0 → edge_form its ≢ 1 → reaches_by its (Excluded key) ≡ is_le (bytes_cmp (route_key its) key)
  of_excluded some other =
      ap (λ (b : Bool). cond b false (cond (eqb (edge_form its) 1) (is_lt (bytes_cmp (route_key its) key)) (is_le (bytes_cmp (route_key its) key))))
      (ne_eqb (edge_form its) 0 some)
      ∙ ap (λ (b : Bool). cond b (is_lt (bytes_cmp (route_key its) key)) (is_le (bytes_cmp (route_key its) key))) (ne_eqb (edge_form its) 1 other)

  -- What is told so is so.
  told : reaches_by its (Excluded key) ≡ true → Reaches its (Excluded key)
  told is = dite (ℕ_discrete (edge_form its) 0)
      (λ (e : edge_form its ≡ 0). let no : false ≡ true = sym (of_none e) ∙ is in absurd cc)
      (λ n. dite (ℕ_discrete (edge_form its) 1)
      (λ (e : edge_form its ≡ 1). reaches_included e (sym (of_included e) ∙ is))
      (λ m. reaches_excluded n m (sym (of_excluded n m) ∙ is)))

pub reaches_told : (its : List ℕ) (high : Bound) → reaches_by its high ≡ true → Reaches its high
reaches_told its Unbounded is = λ key up. refl
reaches_told its (Included high) is = cc
reaches_told its (Excluded high) is = told its high is

-- The first row that says so is one of them, where one does.
abbrev IsFound : ℕ → Bound → List Border → Border → Type 0
IsFound row high xs x = IsIn x xs × (x.row ≡ row) × (reaches_by x.its high ≡ true)

found_later : (row : ℕ) (high : Bound) (y : Border) (xs : List Border) (x : Border) → IsFound row high xs x → IsFound row high (y ∷ xs) x
found_later row high y xs x f = ((suc f.0.0, f.0.1), f.1, f.2)

pub border_found : (row : ℕ) (high : Bound) (xs : List Border) (x : Border) → IsIn x xs → x.row ≡ row → reaches_by x.its high ≡ true
    → IsFound row high xs (border_for row high xs)
border_found row high [] x i here is = absurd (in_nothing x [] refl i)
border_found row high (y ∷ ys) x i here is = goes (λ j. border_found row high ys x j here is)
  where
    later : (y ≢ x) → (IsIn x ys → IsFound row high ys (border_for row high ys)) → IsFound row high (y ∷ ys) (border_for row high ys)
    later n rest = found_later row high y ys (border_for row high ys) (rest (⊎_elim (λ (e : y ≡ x). absurd (n e)) (λ (j : IsIn x ys). j) (in_more y x ys i)))

    by : (IsIn x ys → IsFound row high ys (border_for row high ys)) → y.row ≡ row → (b : Bool) → reaches_by y.its high ≡ b
        → IsFound row high (y ∷ ys) (cond b y (border_for row high ys))
    by rest e true told = ((0, refl), e, told)
    by rest e false told = later (λ f. let no : false ≡ true = sym told ∙ (ap (λ (z : Border). reaches_by z.its high) f ∙ is) in cc) rest

    goes : (IsIn x ys → IsFound row high ys (border_for row high ys)) → IsFound row high (y ∷ ys) (border_for row high (y ∷ ys))
    goes rest = dite (ℕ_discrete y.row row)
        (λ e. subst (λ (b : Bool). IsFound row high (y ∷ ys) (cond b (cond (reaches_by y.its high) y (border_for row high ys)) (border_for row high ys)))
        (sym (eq-eqb y.row row e)) (by rest e (reaches_by y.its high) refl))
        (λ n. subst (λ (b : Bool). IsFound row high (y ∷ ys) (cond b (cond (reaches_by y.its high) y (border_for row high ys)) (border_for row high ys)))
        (sym (ne_eqb y.row row n)) (later (λ f. n (ap (λ (z : Border). z.row) f ∙ here)) rest))
