-- A list's heads, and what stands behind them.
use Rattle.std.proofs.Common.{false, ◌≡◌, ℕ, List, [], ◌∷◌, ◌++◌, refl, sym, ◌∙◌, ap, subst}
use Rattle.ca_term.specs.Tree.{Tree, Cons, IsTerm, depth, is_cell}

-- the list of these heads, each with the depth of its cell, and this tail
abbrev pub cells : List (Tree × ℕ) → Tree → Tree
cells [] t = t
cells (h ∷ hs) t = Cons h.0 (cells hs t)

-- each cell is a term of its depth
abbrev AreCells : List (Tree × ℕ) → Tree → Type 0
AreCells [] t = Unit {0}
AreCells (h ∷ hs) t = (h.1 ≡ depth (Cons h.0 (cells hs t))) × IsTerm (Cons h.0 (cells hs t)) × AreCells hs t

pub record IsKept (hs : List (Tree × ℕ)) (t whole : Tree) : Type 0 where
  pub whole_is : cells hs t ≡ whole
  pub kept : AreCells hs t

cells_more : (hs : List (Tree × ℕ)) (h : Tree × ℕ) (t : Tree) → cells (hs ++ h ∷ []) t ≡ cells hs (Cons h.0 t)
cells_more [] h t = refl
cells_more (g ∷ hs) h t = λ i. Cons g.0 (cells_more hs h t i)

more : (hs : List (Tree × ℕ)) (h : Tree × ℕ) (t : Tree) → AreCells hs (Cons h.0 t) → h.1 ≡ depth (Cons h.0 t) → IsTerm (Cons h.0 t) → AreCells (hs ++ h ∷ []) t
more [] h t a d b = (d, b, tt)
more (g ∷ hs) h t a d b = rw (cells_more hs h t) (a.0, a.1, more hs h t a.2 d b)

last : (hs : List (Tree × ℕ)) (h : Tree × ℕ) (t : Tree) → AreCells (hs ++ h ∷ []) t
    → AreCells hs (Cons h.0 t) × (h.1 ≡ depth (Cons h.0 t)) × IsTerm (Cons h.0 t)
last [] h t a = (tt, a.0, a.1)
last (g ∷ hs) h t a =
    let r = last hs h t a.2 in
    ((rw (cells_more hs h t) at a.0, rw (cells_more hs h t) at a.1, r.0), r.1, r.2)

-- Before any cell is passed, the whole list stands behind.
pub kept_none : (t : Tree) → IsKept [] t t
kept_none t = record { whole_is = refl; kept = tt }

-- Passing one more cell keeps the whole list.
pub kept_more : (hs gs : List (Tree × ℕ)) (h : Tree) (d : ℕ) (t whole here : Tree) → IsKept hs here whole → Cons h t ≡ here → d ≡ depth here → IsTerm here
    → gs ≡ hs ++ (h, d) ∷ [] → IsKept gs t whole
kept_more hs gs h d t whole here k e f b g =
    let a : AreCells hs (Cons h t) = subst (λ (x : Tree). AreCells hs x) (sym e) k.kept in
    rw g (record {
      whole_is = cells_more hs (h, d) t ∙ ap (cells hs) e ∙ k.whole_is;
      kept = more hs (h, d) t a (subst (λ (x : Tree). d ≡ depth x) (sym e) f) (subst IsTerm (sym e) b);
    })

-- The last head goes back in front of what stands behind it, at the depth that was kept with it.
pub kept_last : (hs gs : List (Tree × ℕ)) (h : Tree) (d : ℕ) (t whole : Tree) → IsKept gs t whole → gs ≡ hs ++ (h, d) ∷ []
    → IsKept hs (Cons h t) whole × (d ≡ depth (Cons h t)) × IsTerm (Cons h t)
kept_last hs gs h d t whole k g =
    let a : AreCells (hs ++ (h, d) ∷ []) t = rw (← g) k.kept in
    let r = last hs (h, d) t a in
    (record { whole_is = sym (cells_more hs (h, d) t) ∙ (rw (← g) k.whole_is); kept = r.0 }, r.1, r.2)

-- Once no head is left, the whole list is made.
pub kept_all : (hs : List (Tree × ℕ)) (t whole : Tree) → IsKept hs t whole → hs ≡ [] → t ≡ whole
kept_all hs t whole k e = let w : cells [] t ≡ whole = rw e at k.whole_is in w

-- A term that is no list cell is no head and tail.
pub cell_is : (t : Tree) → is_cell t ≡ false → (h u : Tree) → t ≡ Cons h u → ⊥
cell_is t n h u e = let c : is_cell (Cons h u) ≡ false = subst (λ (x : Tree). is_cell x ≡ false) e n in cc
