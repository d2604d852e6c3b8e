-- The kind of a term by the first byte of its code.
use Rattle.std.proofs.Common.{◌≡◌, ◌≢◌, ℕ, ◌≤◌, pos, negsuc, List, ◌∷◌, length, refl, sym, ap, ◌∙◌, arith}
use Rattle.ca_term.specs.Tree.{Tree, Integer, Atom, Tuple, Nil, Cons, Binary}
use Rattle.ca_term.specs.Order.{rank}
use Rattle.ca_order.specs.Languages.{IsTermCode}
use Rattle.ca_order.proofs.FirstBytes.{IsOfKind, of_kind, tagged}
use Rattle.ca_order.proofs.Skipped.{begun}

-- A code has a first byte.
pub not_empty : (bytes : List ℕ) → IsTermCode bytes → length bytes ≡ 0 → ⊥
not_empty bytes p e = let b = begun p.0 in let n = ap length (p.2 ∙ b.2) in absurd (omega (arith, e, n))

-- The first byte of a code is one of its term's kind.
pub kind_there : (bytes inside : List ℕ) (b : ℕ) (p : IsTermCode bytes) → bytes ≡ b ∷ inside → IsOfKind p.0 b
kind_there bytes inside b p e = of_kind b inside p.0 (tagged p.0 b inside (sym e ∙ p.2))

-- The place of the kind whose first bytes those are.
pub rank_of_integer : (t : Tree) (b : ℕ) → IsOfKind t b → 0x17 ≤ b → b ≤ 0x28 → 0 ≡ rank t
rank_of_integer (Integer n) b h l k = refl
rank_of_integer (Atom text) b h l k = absurd (omega (arith, h))
rank_of_integer (Tuple row) b h l k = absurd (omega (arith, h))
rank_of_integer Nil b h l k = absurd (omega (arith, h))
rank_of_integer (Cons head tail) b h l k = absurd (omega (arith, h))
rank_of_integer (Binary bytes) b h l k = absurd (omega (arith, h))

pub rank_of_atom : (t : Tree) (b : ℕ) → IsOfKind t b → b ≡ 0x30 → 1 ≡ rank t
rank_of_atom (Integer (pos n)) b h e = absurd (omega (arith, h.1, e))
rank_of_atom (Integer (negsuc m)) b h e = absurd (omega (arith, h.1, e))
rank_of_atom (Atom text) b h e = refl
rank_of_atom (Tuple row) b h e = absurd (omega (arith, h, e))
rank_of_atom Nil b h e = absurd (omega (arith, h, e))
rank_of_atom (Cons head tail) b h e = absurd (omega (arith, h, e))
rank_of_atom (Binary bytes) b h e = absurd (omega (arith, h, e))

pub rank_of_tuple : (t : Tree) (b : ℕ) → IsOfKind t b → b ≡ 0x40 → 2 ≡ rank t
rank_of_tuple (Integer (pos n)) b h e = absurd (omega (arith, h.1, e))
rank_of_tuple (Integer (negsuc m)) b h e = absurd (omega (arith, h.1, e))
rank_of_tuple (Atom text) b h e = absurd (omega (arith, h, e))
rank_of_tuple (Tuple row) b h e = refl
rank_of_tuple Nil b h e = absurd (omega (arith, h, e))
rank_of_tuple (Cons head tail) b h e = absurd (omega (arith, h, e))
rank_of_tuple (Binary bytes) b h e = absurd (omega (arith, h, e))

pub rank_of_nil : (t : Tree) (b : ℕ) → IsOfKind t b → b ≡ 0x60 → 3 ≡ rank t
rank_of_nil (Integer (pos n)) b h e = absurd (omega (arith, h.1, e))
rank_of_nil (Integer (negsuc m)) b h e = absurd (omega (arith, h.1, e))
rank_of_nil (Atom text) b h e = absurd (omega (arith, h, e))
rank_of_nil (Tuple row) b h e = absurd (omega (arith, h, e))
rank_of_nil Nil b h e = refl
rank_of_nil (Cons head tail) b h e = absurd (omega (arith, h, e))
rank_of_nil (Binary bytes) b h e = absurd (omega (arith, h, e))

pub rank_of_cell : (t : Tree) (b : ℕ) → IsOfKind t b → b ≡ 0x70 → 4 ≡ rank t
rank_of_cell (Integer (pos n)) b h e = absurd (omega (arith, h.1, e))
rank_of_cell (Integer (negsuc m)) b h e = absurd (omega (arith, h.1, e))
rank_of_cell (Atom text) b h e = absurd (omega (arith, h, e))
rank_of_cell (Tuple row) b h e = absurd (omega (arith, h, e))
rank_of_cell Nil b h e = absurd (omega (arith, h, e))
rank_of_cell (Cons head tail) b h e = refl
rank_of_cell (Binary bytes) b h e = absurd (omega (arith, h, e))

pub rank_of_binary : (t : Tree) (b : ℕ) → IsOfKind t b → (0x17 ≤ b → b ≤ 0x28 → ⊥) → b ≢ 0x30 → b ≢ 0x40 → b ≢ 0x60 → b ≢ 0x70 → 5 ≡ rank t
rank_of_binary (Integer (pos n)) b h i a u l c = absurd (i (omega (arith, h.0)) h.1)
rank_of_binary (Integer (negsuc m)) b h i a u l c = absurd (i h.0 (omega (arith, h.1)))
rank_of_binary (Atom text) b h i a u l c = absurd (a h)
rank_of_binary (Tuple row) b h i a u l c = absurd (u h)
rank_of_binary Nil b h i a u l c = absurd (l h)
rank_of_binary (Cons head tail) b h i a u l c = absurd (c h)
rank_of_binary (Binary bytes) b h i a u l c = refl
