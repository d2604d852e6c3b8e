-- Lists are read head by head, and rows item by item.
use Rattle.std.proofs.Common.{◌≡◌, ℕ, zero, suc, ◌≤◌, ◌<◌, ◌+◌, ◌-◌, max, List, [], ◌∷◌, ◌++◌, length, arith, refl, sym, ◌∙◌, ap, subst, append_assoc, append-nil, length-append}
use Rattle.ca_term.specs.declared.bounds.TheConstants.{MOST_DEPTH, MOST_ELEMENTS}
use Rattle.ca_order.specs.declared.fault.ReadFault.{ReadFault}
use Rattle.ca_term.specs.Tree.{Tree, Tuple, Cons, Ends, row_of, list_of, size, depth, row_depth, IsTerm, IsNarrow, AreTerms}
use Rattle.ca_term.specs.Code.{code_of, row_code, four_bytes}
use Rattle.ca_term.proofs.Rows.{size_row, narrow_row, AreTerms_push}
use Rattle.ca_order.specs.Stuck.{IsRest}
use Rattle.ca_term.specs.Levels.{HasTerm, HasRow}
use Rattle.ca_order.specs.Reads.{IsReadFault, BeginsWithTerm, BeginsWithRow}
use Rattle.ca_order.proofs.Parts.{at_cons, at_tuple, begins_as}
use Rattle.ca_order.proofs.FirstBytes.{HasCell, cons_rest, tail_rest, terms_prefix_free, cell_begins, cell_goes_on, row_rest, row_begins, row_goes_on}
use Rattle.ca_order.proofs.Faults.{fault_behind, fault_first, fault_same}

rest_then : (L M N : List ℕ → Type 0) (u v : List ℕ) → IsRest L u M → IsRest M v N → IsRest L (u ++ v) N
rest_then L M N u v p q = record {
  into = λ x w. q.into x (p.into (v ++ x) (subst L (append_assoc u v x) w));
  back = λ x w. subst L (sym (append_assoc u v x)) (p.back (v ++ x) (q.back x w));
}

rest_same : (L : List ℕ → Type 0) → IsRest L [] L
rest_same L = record { into = λ x w. w; back = λ x w. w }

-- ---- lists

-- the codes of the cells up to their tail
abbrev heads_code : List Tree → List ℕ
heads_code [] = []
heads_code (h ∷ hs) = 0x70 ∷ code_of h ++ heads_code hs

-- terms of at most so many levels
abbrev AreShallow : ℕ → List Tree → Type 0
AreShallow levels [] = Unit {0}
AreShallow levels (t ∷ ts) = (depth t ≤ levels) × IsTerm t × AreShallow levels ts

heads_push : (hs : List Tree) (h : Tree) → heads_code (hs ++ h ∷ []) ≡ heads_code hs ++ 0x70 ∷ code_of h
heads_push [] h = ap (λ (x : List ℕ). 0x70 ∷ x) (append-nil (code_of h))
heads_push (g ∷ hs) h =
    ap (λ (x : List ℕ). 0x70 ∷ code_of g ++ x) (heads_push hs h)
    ∙ ap (λ (x : List ℕ). 0x70 ∷ x) (sym (append_assoc (code_of g) (heads_code hs) (0x70 ∷ code_of h)))

shallow_push : (l : ℕ) (hs : List Tree) (h : Tree) → AreShallow l hs → depth h ≤ l → IsTerm h → AreShallow l (hs ++ h ∷ [])
shallow_push l [] h a d b = (d, b, tt)
shallow_push l (g ∷ hs) h a d b = (a.0, a.1, shallow_push l hs h a.2 d b)

heads_rest : (l : ℕ) (hs : List Tree) → AreShallow l hs → IsRest (HasTerm (suc l)) (heads_code hs) (HasTerm (suc l))
heads_rest l [] a = rest_same (HasTerm (suc l))
heads_rest l (h ∷ hs) a =
    rest_then (HasTerm (suc l)) (HasTerm (suc l)) (HasTerm (suc l)) (0x70 ∷ code_of h) (heads_code hs)
    (rest_then (HasTerm (suc l)) (HasCell l) (HasTerm (suc l)) (0x70 ∷ []) (code_of h) (cons_rest l) (tail_rest l h a.0 a.1.narrow)) (heads_rest l hs a.2)

-- how far a list was read
pub record IsHeads (levels : ℕ) (bytes : List ℕ) (heads : List Tree) (rest : List ℕ) : Type 0 where
  pub parts : bytes ≡ heads_code heads ++ rest
  pub shallow : AreShallow (levels - 1) heads

-- One more head is read.
pub heads_more : (levels : ℕ) (bytes : List ℕ) (heads new : List Tree) (rest inside : List ℕ) (h : Tree) (behind : List ℕ) → IsHeads levels bytes heads rest
    → rest ≡ 0x70 ∷ inside → BeginsWithTerm (levels - 1) inside h behind → new ≡ heads ++ h ∷ [] → IsHeads levels bytes new behind
heads_more levels bytes heads new rest inside h behind p e w f =
    subst (λ (x : List Tree). IsHeads levels bytes x behind) (sym f) (record {
      parts = p.parts ∙ ap (λ x. heads_code heads ++ x) (e ∙ ap (λ (x : List ℕ). 0x70 ∷ x) w.parts)
          ∙ sym (append_assoc (heads_code heads) (0x70 ∷ code_of h) behind) ∙ ap (λ x. x ++ behind) (sym (heads_push heads h));
      shallow = shallow_push (levels - 1) heads h p.shallow w.shallow w.bounded;
    })

-- A fault behind heads is a fault of the list.
pub heads_fault : (levels : ℕ) (bytes : List ℕ) (heads : List Tree) (rest : List ℕ) (e : ReadFault) → 1 ≤ levels → IsHeads levels bytes heads rest
    → IsReadFault (HasTerm levels) rest e → IsReadFault (HasTerm levels) bytes e
heads_fault zero bytes heads rest e l p f = absurd (omega arith)
heads_fault (suc l) bytes heads rest e k p f =
    let n : suc l - 1 ≡ l = omega arith in
    fault_same (HasTerm (suc l)) bytes (heads_code heads ++ rest) e p.parts
    (fault_behind (HasTerm (suc l)) (HasTerm (suc l)) (heads_code heads) rest e (heads_rest l heads (subst (λ (x : ℕ). AreShallow x heads) n p.shallow)) f)

-- stuck in a head
pub head_fault : (levels : ℕ) (rest inside : List ℕ) (e : ReadFault) → 1 ≤ levels → rest ≡ 0x70 ∷ inside → IsReadFault (HasTerm (levels - 1)) inside e
    → IsReadFault (HasTerm levels) rest e
head_fault zero rest inside e l p f = absurd (omega arith)
head_fault (suc l) rest inside e k p f =
    let n : suc l - 1 ≡ l = omega arith in
    fault_same (HasTerm (suc l)) rest (0x70 ∷ inside) e p
    (fault_behind (HasTerm (suc l)) (HasCell l) (0x70 ∷ []) inside e (cons_rest l)
    (fault_first (HasTerm l) (HasCell l) inside e (terms_prefix_free l) (cell_begins l) (cell_goes_on l)
    (subst (λ (x : ℕ). IsReadFault (HasTerm x) inside e) n f)))

list_code : (hs : List Tree) (t : Tree) → code_of (list_of hs t) ≡ heads_code hs ++ code_of t
list_code [] t = refl
list_code (h ∷ hs) t =
    at_cons (Cons h (list_of hs t)) h (list_of hs t) refl ∙ ap (λ (x : List ℕ). 0x70 ∷ code_of h ++ x) (list_code hs t)
    ∙ ap (λ (x : List ℕ). 0x70 ∷ x) (sym (append_assoc (code_of h) (heads_code hs) (code_of t)))

list_depth : (l : ℕ) (hs : List Tree) (t : Tree) → AreShallow l hs → depth t ≤ suc l → depth (list_of hs t) ≤ suc l
list_depth l [] t a d = d
list_depth l (h ∷ hs) t a d = omega (arith, a.0, list_depth l hs t a.2 d)

list_narrow : (l : ℕ) (hs : List Tree) (t : Tree) → AreShallow l hs → IsNarrow t → IsNarrow (list_of hs t)
list_narrow l [] t a n = n
list_narrow l (h ∷ hs) t a n = (a.1.narrow, list_narrow l hs t a.2 n)

-- Heads and a tail that were read make a list.
pub heads_term : (levels : ℕ) (bytes : List ℕ) (heads : List Tree) (rest : List ℕ) (last whole : Tree) (behind : List ℕ) → 1 ≤ levels → levels ≤ MOST_DEPTH
    → IsHeads levels bytes heads rest → BeginsWithTerm levels rest last behind → whole ≡ list_of heads last → BeginsWithTerm levels bytes whole behind
heads_term zero bytes heads rest last whole behind l m p w e = absurd (omega arith)
heads_term (suc l) bytes heads rest last whole behind k m p w e =
    let n : suc l - 1 ≡ l = omega arith in
    let a : AreShallow l heads = subst (λ (x : ℕ). AreShallow x heads) n p.shallow in
    let d : depth (list_of heads last) ≤ suc l = list_depth l heads last a w.shallow in
    subst (λ (x : Tree). BeginsWithTerm (suc l) bytes x behind) (sym e) (record {
      parts = p.parts ∙ ap (λ x. heads_code heads ++ x) w.parts ∙ sym (append_assoc (heads_code heads) (code_of last) behind)
          ∙ ap (λ x. x ++ behind) (sym (list_code heads last));
      shallow = d;
      bounded = record { shallow = omega (arith, d); narrow = list_narrow l heads last a w.bounded.narrow };
    })

-- ---- rows

pub row_push : (ts : List Tree) (t : Tree) → row_code (row_of (ts ++ t ∷ [])) ≡ row_code (row_of ts) ++ code_of t
unfolding row_code
row_push [] t = append-nil (code_of t)
row_push (u ∷ ts) t = ap (λ x. code_of u ++ x) (row_push ts t) ∙ sym (append_assoc (code_of u) (row_code (row_of ts)) (code_of t))

depth_push : (ts : List Tree) (t : Tree) → row_depth (row_of (ts ++ t ∷ [])) ≡ max (row_depth (row_of ts)) (depth t)
depth_push [] t = omega arith
depth_push (u ∷ ts) t = omega (arith, depth_push ts t)

row_nil : [] ≡ row_code Ends
unfolding row_code
row_nil = refl

-- At first no item is read.
pub row_none : (levels : ℕ) (bytes : List ℕ) (items : List Tree) → items ≡ [] → BeginsWithRow levels 0 bytes items bytes
row_none levels bytes items e =
    subst (λ (x : List Tree). BeginsWithRow levels 0 bytes x bytes) (sym e)
    (record { parts = ap (λ x. x ++ bytes) row_nil; shallow = omega arith; bounded = tt; many = refl })

-- One more item is read.
pub row_more : (levels k : ℕ) (bytes : List ℕ) (items new : List Tree) (rest : List ℕ) (t : Tree) (behind : List ℕ) → BeginsWithRow levels k bytes items rest
    → BeginsWithTerm levels rest t behind → new ≡ items ++ t ∷ [] → BeginsWithRow levels (k + 1) bytes new behind
row_more levels k bytes items new rest t behind r w e =
    subst (λ (x : List Tree). BeginsWithRow levels (k + 1) bytes x behind) (sym e) (record {
      parts = r.parts ∙ ap (λ x. row_code (row_of items) ++ x) w.parts ∙ sym (append_assoc (row_code (row_of items)) (code_of t) behind)
          ∙ ap (λ x. x ++ behind) (sym (row_push items t));
      shallow = omega (arith, depth_push items t, r.shallow, w.shallow);
      bounded = AreTerms_push items t r.bounded w.bounded;
      many = omega (arith, length-append items (t ∷ []), r.many);
    })

items_rest : (l m : ℕ) (ts : List Tree) → row_depth (row_of ts) ≤ l → AreTerms ts → IsRest (HasRow l (length ts + m)) (row_code (row_of ts)) (HasRow l m)
unfolding row_code
items_rest l m [] d b = subst (λ (n : ℕ). IsRest (HasRow l n) [] (HasRow l m)) (let e : m ≡ 0 + m = omega arith in e) (rest_same (HasRow l m))
items_rest l m (t ∷ ts) d b =
    subst (λ (n : ℕ). IsRest (HasRow l n) (code_of t ++ row_code (row_of ts)) (HasRow l m))
    (let e : suc (length ts + m) ≡ length (t ∷ ts) + m = omega arith in e)
    (rest_then (HasRow l (suc (length ts + m))) (HasRow l (length ts + m)) (HasRow l m) (code_of t) (row_code (row_of ts))
    (row_rest l (length ts + m) t (omega arith) b.0.narrow) (items_rest l m ts (omega arith) b.1))

-- A fault in an item is a fault of the row.
pub item_fault : (levels k count : ℕ) (bytes : List ℕ) (items : List Tree) (rest : List ℕ) (e : ReadFault) → k < count → BeginsWithRow levels k bytes items rest
    → IsReadFault (HasTerm levels) rest e → IsReadFault (HasRow levels count) bytes e
item_fault levels k count bytes items rest e h r f =
    let n : length items + suc (count - k - 1) ≡ count = omega (arith, r.many) in
    let q : IsRest (HasRow levels count) (row_code (row_of items)) (HasRow levels (suc (count - k - 1))) =
    subst (λ (x : ℕ). IsRest (HasRow levels x) (row_code (row_of items)) (HasRow levels (suc (count - k - 1)))) n
    (items_rest levels (suc (count - k - 1)) items r.shallow r.bounded) in
    fault_same (HasRow levels count) bytes (row_code (row_of items) ++ rest) e r.parts
    (fault_behind (HasRow levels count) (HasRow levels (suc (count - k - 1))) (row_code (row_of items)) rest e q
    (fault_first (HasTerm levels) (HasRow levels (suc (count - k - 1))) rest e (terms_prefix_free levels) (row_begins levels (count - k - 1))
    (row_goes_on levels (count - k - 1)) f))

-- the tuple of a row
pub begins_tuple : (levels count : ℕ) (bytes inside : List ℕ) (items : List Tree) (rest : List ℕ) (t : Tree) → levels < MOST_DEPTH → count ≤ MOST_ELEMENTS
    → bytes ≡ four_bytes count ++ inside → BeginsWithRow levels count inside items rest → t ≡ Tuple (row_of items)
    → BeginsWithTerm (levels + 1) (0x40 ∷ bytes) t rest
begins_tuple levels count bytes inside items rest t h k e r f =
    let n : size (row_of items) ≡ count = size_row items ∙ r.many in
    let c : code_of (Tuple (row_of items)) ≡ 0x40 ∷ four_bytes count ++ row_code (row_of items) =
    at_tuple (Tuple (row_of items)) items refl ∙ ap (λ m. 0x40 ∷ four_bytes m ++ row_code (row_of items)) r.many in
    let p : bytes ≡ (four_bytes count ++ row_code (row_of items)) ++ rest =
    e ∙ ap (λ x. four_bytes count ++ x) r.parts ∙ sym (append_assoc (four_bytes count) (row_code (row_of items)) rest) in
    begins_as (levels + 1) (0x40 ∷ bytes) rest t (Tuple (row_of items)) f (ap (λ (x : List ℕ). 0x40 ∷ x) p ∙ ap (λ x. x ++ rest) (sym c))
    (omega (arith, r.shallow)) (record { shallow = omega (arith, r.shallow); narrow = (omega (arith, n), narrow_row items r.bounded) })
