-- A text is a text within larger limits and on more levels.
use Rattle.std.proofs.Common.{◌≡◌, ℕ, zero, suc, ◌+◌, ◌≤◌, List, arith}
use Rattle.ca_term.specs.Tree.{Tree, Row}
use Rattle.ca_text.specs.Grammar.{Limits, IsAtom, Plain, Quoted, IsTextOf, AnInteger, AnAtom, NoElements, ATuple, ANil, AList, NoString, AString, NoBytes, ABinary, AreElements, LastElement, MoreElements, AreCells, LastCell, MoreCells, LastTail}

-- so many levels more
abbrev pub raised_by : ℕ → ℕ → ℕ
raised_by more zero = more
raised_by more (suc levels) = suc (raised_by more levels)

-- Levels raised by so many are their sum.
pub raised_sum : (more levels : ℕ) → raised_by more levels ≡ levels + more
raised_sum more zero = omega arith
raised_sum more (suc levels) = omega (arith, raised_sum more levels)

-- no limit is smaller
pub record AtLeast (limits wider : Limits) : Type 0 where
  pub elements : limits.elements ≤ wider.elements
  pub characters : limits.characters ≤ wider.characters

atom_widened : (limits wider : Limits) (text name : List ℕ) → AtLeast limits wider → IsAtom limits text name → IsAtom wider text name
atom_widened _ wider _ _ w (Plain limits name form few) = Plain wider name form (omega (arith, few, w.characters))
atom_widened _ wider _ _ w (Quoted limits text cs are few) = Quoted wider text cs are (omega (arith, few, w.characters))

mutual
  -- A text within some limits is one within wider limits.
  pub text_widened : (limits wider : Limits) (more levels : ℕ) (text : List ℕ) (t : Tree) → AtLeast limits wider → IsTextOf limits levels text t
      → IsTextOf wider (raised_by more levels) text t
  text_widened _ wider more _ _ _ w (AnInteger limits levels text n is) = AnInteger wider (raised_by more levels) text n is
  text_widened _ wider more _ _ _ w (AnAtom limits levels text name is) =
      AnAtom wider (raised_by more levels) text name (atom_widened limits wider text name w is)
  text_widened _ wider more _ _ _ w (NoElements limits levels blanks are) = NoElements wider (raised_by more levels) blanks are
  text_widened _ wider more _ _ _ w (ATuple limits levels blanks rest row are is few) =
      ATuple wider (raised_by more levels) blanks rest row are (elements_widened limits wider more levels rest row w is) (omega (arith, few, w.elements))
  text_widened _ wider more _ _ _ w (ANil limits levels blanks are) = ANil wider (raised_by more levels) blanks are
  text_widened _ wider more _ _ _ w (AList limits levels blanks rest t are is) =
      AList wider (raised_by more levels) blanks rest t are (cells_widened limits wider more levels rest t w is)
  text_widened _ wider more _ _ _ w (NoString limits levels) = NoString wider (raised_by more levels)
  text_widened _ wider more _ _ _ w (AString limits levels c text cs are) = AString wider (raised_by more levels) c text cs are
  text_widened _ wider more _ _ _ w (NoBytes limits levels blanks are) = NoBytes wider (raised_by more levels) blanks are
  text_widened _ wider more _ _ _ w (ABinary limits levels blanks rest bytes are is) = ABinary wider (raised_by more levels) blanks rest bytes are is

  elements_widened : (limits wider : Limits) (more levels : ℕ) (text : List ℕ) (row : Row) → AtLeast limits wider → AreElements limits levels text row
      → AreElements wider (raised_by more levels) text row
  elements_widened _ wider more _ _ _ w (LastElement limits levels text blanks t is are) =
      LastElement wider (raised_by more levels) text blanks t (text_widened limits wider more levels text t w is) are
  elements_widened _ wider more _ _ _ w (MoreElements limits levels text before after rest t row is one two others) =
      MoreElements wider (raised_by more levels) text before after rest t row (text_widened limits wider more levels text t w is) one two
      (elements_widened limits wider more levels rest row w others)

  cells_widened : (limits wider : Limits) (more levels : ℕ) (text : List ℕ) (t : Tree) → AtLeast limits wider → AreCells limits levels text t
      → AreCells wider (raised_by more levels) text t
  cells_widened _ wider more _ _ _ w (LastCell limits levels text blanks head is are) =
      LastCell wider (raised_by more levels) text blanks head (text_widened limits wider more levels text head w is) are
  cells_widened _ wider more _ _ _ w (MoreCells limits levels text before after rest head tail is one two others) =
      MoreCells wider (raised_by more levels) text before after rest head tail (text_widened limits wider more levels text head w is) one two
      (cells_widened limits wider more levels rest tail w others)
  cells_widened _ wider more _ _ _ w (LastTail limits levels text before after last blanks head tail is one two is_last are) =
      LastTail wider (raised_by more levels) text before after last blanks head tail (text_widened limits wider more levels text head w is) one two
      (text_widened limits wider more (suc levels) last tail w is_last) are
