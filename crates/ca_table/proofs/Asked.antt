-- What the argument of `update_element` asks for.
use Rattle.std.proofs.Common.{◌≡◌, ℕ, ℤ, ◌<◌, Bool, true, false, List, [], ◌∷◌, arith, refl, sym, ap, subst, if◌then◌else◌, Option, None, Some}
use Rattle.std.specs.Prelude.{IsTrue, MatchOption}
use Rattle.std.specs.Option.{option_map}
use denote.Bor.{Bor}
use Rattle.ca_term.specs.Tree.{Tree, Row, Integer, Atom, Tuple, Nil, Cons, Binary, IsTerm, IsNarrowRow, row_of, elements, depth, row_depth}
use Rattle.ca_term.specs.Updates.{integer_of, is_open}
use Rattle.ca_term.specs.declared.bounds.TheConstants.{MOST_DEPTH}
use Rattle.ca_term.proofs.Rows.{row_again}
use Rattle.ca_ets.specs.Update.{element_of, open_position, position_in}
use Rattle.ca_table.specs.Codes.{IsAsked}

-- a value at a position that may be changed
record IsOpen (p : ℕ) (value : Tree) (new : ℤ × Tree) : Type 0 where
  free : IsTrue (is_open p new.0)
  same : new.1 ≡ value

abbrev position_of : Option (ℤ × Tree) → ℤ → ℤ
position_of None d = d
position_of (Some x) d = x.0

abbrev value_of : Option (ℤ × Tree) → Tree
value_of None = Nil
value_of (Some x) = x.1

is_open_at : (p : ℕ) (o : Option ℤ) (v : Tree) (new : ℤ × Tree) → open_position p o v ≡ Some new → IsOpen p v new
is_open_at p None v new e = cc
is_open_at p (Some q) v new e = by (is_open p q) refl e
  where
    by : (b : Bool) → is_open p q ≡ b → (if b then Some (q, v) else None) ≡ Some new → IsOpen p v new
    by true f e =
        record { free = subst (λ (x : ℤ). IsTrue (is_open p x)) (ap (λ x. position_of x q) e) f; same = sym (ap value_of e) }
    by false f e = cc

in_items : (p : ℕ) (op : Tree) (items : List Tree) (new : ℤ × Tree) → element_of p op ≡ Some new → position_in p items ≡ Some new
    → IsNarrowRow (row_of items) → row_depth (row_of items) < MOST_DEPTH → IsAsked p op new.0 new.1
in_items p op [] new a e n d = cc
in_items p op (x ∷ []) new a e n d = cc
in_items p op (x ∷ y ∷ []) new a e n d =
    let o = is_open_at p (integer_of x) y new e in
    let shallow : depth y < MOST_DEPTH = omega (arith, d) in
    let term : IsTerm y = record { shallow = omega (arith, shallow); narrow = n.1.0 } in
    record {
      asked = a;
      free = o.free;
      bounded = subst IsTerm (sym o.same) term;
      shallow = subst (λ (t : Tree). depth t < MOST_DEPTH) (sym o.same) shallow;
    }
in_items p op (x ∷ y ∷ z ∷ items) new a e n d = cc

asked_in : (p : ℕ) (op : Tree) (new : ℤ × Tree) → IsTerm op → element_of p op ≡ Some new → IsAsked p op new.0 new.1
asked_in p (Tuple row) new b e =
    let again = sym (row_again row) in
    let deep = b.shallow in
    let shallow : row_depth row < MOST_DEPTH = omega (arith, deep) in
    in_items p (Tuple row) (elements row) new e e (subst IsNarrowRow again b.narrow.1) (subst (λ (r : Row). row_depth r < MOST_DEPTH) again shallow)
asked_in p (Integer n) new b e = cc
asked_in p (Atom text) new b e = cc
asked_in p Nil new b e = cc
asked_in p (Cons head tail) new b e = cc
asked_in p (Binary bytes) new b e = cc

-- What is found in a term's elements is what was asked for.
pub asked_is : (p : ℕ) (op : Tree) (found : Option (ℤ × Bor Tree)) → IsTerm op
    → option_map (λ (x : ℤ × Bor Tree). (x.0, x.1.now)) found ≡ element_of p op
    → MatchOption found (element_of p op ≡ None) (λ x. IsAsked p op x.0 x.1.now)
asked_is p op None b e = sym e
asked_is p op (Some x) b e = asked_in p op (x.0, x.1.now) b (sym e)
