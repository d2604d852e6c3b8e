use Rattle.std.proofs.Common.{◌≡◌, ℕ, ◌+◌, List, [], ◌∷◌, ◌++◌, length, drop, arith, refl, sym, subst, append-nil}
use Rattle.std.proofs.lemmas.Int.{to_z-of_z}
use Rattle.std.specs.Int.{w64}
use Rattle.ca_term.specs.Code.{code_of, escaped, int_code, four_bytes, row_code}
use Rattle.ca_term.specs.Tree.{Integer, IsNarrow, row_of}
use Rattle.ca_order.specs.Puts.{Puts}
use Rattle.ca_order.proofs.Put.{IsPut, put_more, put_all, puts_all, puts_err, puts_tagged}
use Rattle.ca_order.proofs.Parts.{at_int, at_atom, at_tuple, at_nil, at_cons, at_binary, cons_falls, size_bytes, at_item, no_item}
use Rattle.ca_order.proofs.writing.+code.Goals as goal

pub put_row-returns-in_err-put : goal.put_row-returns-in_err-put
put_row-returns-in_err-put t c =
    let ts = c.args.items.now in
    let whole : List ℕ = four_bytes (length ts) ++ row_code (row_of ts) in
    puts_err _ c.args.into.now.items whole c.args.into.now.items whole (four_bytes (length ts)) (row_code (row_of ts)) _
    c.from_residual.ensures.0 (record { parts = refl }) refl (rw (size_bytes (length ts) c.to_be_bytes.result c.to_be_bytes.ensures) at c.in_err-put.ensures)

pub put_row-loop-item-init : goal.put_row-loop-item-init
put_row-loop-item-init t c =
    let ts = c.args.items.now in
    let whole : List ℕ = four_bytes (length ts) ++ row_code (row_of ts) in
    put_more c.args.into.now.items whole c.args.into.now.items whole (four_bytes (length ts)) (row_code (row_of ts)) c.put.new.into.items
    (record { parts = refl }) refl (rw (size_bytes (length ts) c.to_be_bytes.result c.to_be_bytes.ensures) at c.in_ok-put.ensures)

pub put_row-returns-in_err-put_term : goal.put_row-returns-in_err-put_term
put_row-returns-in_err-put_term t c =
    let ts = c.args.items.now in
    let i = c.loop-item.item-index in
    let item = c.item-item.result in
    puts_err _ c.loop-item.into.items (row_code (row_of (drop i ts))) c.args.into.now.items (four_bytes (length ts) ++ row_code (row_of ts)) (code_of item)
    (row_code (row_of (drop (i + 1) ts))) _
    c.from_residual-in_err-put_term.ensures.0 c.loop-item.invariant (at_item ts i item c.loop-item-test.true c.item-item.is) c.in_err-put_term.ensures

pub put_row-loop-item-preserved : goal.put_row-loop-item-preserved
put_row-loop-item-preserved t c =
    let ts = c.args.items.now in
    let i = c.loop-item.item-index in
    let item = c.item-item.result in
    put_more c.loop-item.into.items (row_code (row_of (drop i ts))) c.args.into.now.items (four_bytes (length ts) ++ row_code (row_of ts)) (code_of item)
    (row_code (row_of (drop (i + 1) ts))) c.put_term.new.into.items
    c.loop-item.invariant (at_item ts i item c.loop-item-test.true c.item-item.is) c.in_ok-put_term.ensures

pub put_row-returns : goal.put_row-returns
put_row-returns t c =
    let ts = c.args.items.now in
    let i = c.loop-item.item-index in
    put_all c.loop-item.into.items (row_code (row_of (drop i ts))) c.args.into.now.items (four_bytes (length ts) ++ row_code (row_of ts)) c.loop-item.into.items
    c.loop-item.invariant (rw (no_item ts i c.loop-item-test.false) (sym (append-nil c.loop-item.into.items)))

pub put_term-returns-in-Int : goal.put_term-returns-in-Int
put_term-returns-in-Int t c =
    let n = c.in-Int.value in
    let b : IsNarrow (Integer n) = subst IsNarrow (sym c.in-Int.ensures.kind) c.in-Int.ensures.bounded.narrow in
    let e : code_of c.cells.rest.now ≡ int_code n = at_int c.cells.rest.now n c.in-Int.ensures.kind in
    let p : Puts c.put_int.result c.cells.into.items (code_of c.cells.rest.now) c.put_int.new.into.items = rw e (rw (to_z-of_z w64 n b) at c.put_int.ensures) in
    puts_all _ c.cells.into.items (code_of c.cells.rest.now) c.args.into.now.items (code_of c.args.term.now) _ c.cells.invariant.put p

pub put_term-returns-in_err-put-in-Atom : goal.put_term-returns-in_err-put-in-Atom
put_term-returns-in_err-put-in-Atom t c =
    puts_err _ c.cells.into.items (code_of c.cells.rest.now) c.args.into.now.items (code_of c.args.term.now) (0x30 ∷ []) (escaped c.in-Atom.text.now) _
    c.from_residual.ensures.0 c.cells.invariant.put (at_atom c.cells.rest.now c.in-Atom.text.now c.in-Atom.ensures.kind) c.in_err-put-in-Atom.ensures

pub put_term-returns-in-Atom : goal.put_term-returns-in-Atom
put_term-returns-in-Atom t c =
    let same : c.as_bytes.result.now ≡ c.in-Atom.text.now = c.as_bytes.ensures.value in
    puts_tagged _ c.cells.into.items (code_of c.cells.rest.now) c.args.into.now.items (code_of c.args.term.now)
    (escaped c.in-Atom.text.now) c.put.new.into.items _ 0x30
    c.cells.invariant.put (at_atom c.cells.rest.now c.in-Atom.text.now c.in-Atom.ensures.kind) c.in_ok-put-in-Atom.ensures (rw same at c.put_escaped.ensures)

pub put_term-returns-in_err-put-in-Tuple : goal.put_term-returns-in_err-put-in-Tuple
put_term-returns-in_err-put-in-Tuple t c =
    let ts = c.in-Tuple.items.now in
    puts_err _ c.cells.into.items (code_of c.cells.rest.now) c.args.into.now.items (code_of c.args.term.now) (0x40 ∷ [])
    (four_bytes (length ts) ++ row_code (row_of ts)) _
    c.from_residual-in_err-put-in-Tuple.ensures.0 c.cells.invariant.put (at_tuple c.cells.rest.now ts c.in-Tuple.ensures.kind) c.in_err-put-in-Tuple.ensures

pub put_term-returns-in-Tuple : goal.put_term-returns-in-Tuple
put_term-returns-in-Tuple t c =
    let ts = c.in-Tuple.items.now in
    puts_tagged _ c.cells.into.items (code_of c.cells.rest.now) c.args.into.now.items (code_of c.args.term.now)
    (four_bytes (length ts) ++ row_code (row_of ts)) c.put-in-Tuple.new.into.items _ 0x40
    c.cells.invariant.put (at_tuple c.cells.rest.now ts c.in-Tuple.ensures.kind) c.in_ok-put-in-Tuple.ensures c.put_row.ensures

pub put_term-returns-in-Nil : goal.put_term-returns-in-Nil
put_term-returns-in-Nil t c =
    puts_all _ c.cells.into.items (code_of c.cells.rest.now) c.args.into.now.items (code_of c.args.term.now) _ c.cells.invariant.put
    (rw (at_nil c.cells.rest.now c.in-Nil.ensures.kind) c.put-in-Nil.ensures)

pub put_term-returns-in_err-put-in-Cons : goal.put_term-returns-in_err-put-in-Cons
put_term-returns-in_err-put-in-Cons t c =
    let head = c.in-Cons.head.now in
    let tail = c.in-Cons.tail.now in
    puts_err _ c.cells.into.items (code_of c.cells.rest.now) c.args.into.now.items (code_of c.args.term.now) (0x70 ∷ []) (code_of head ++ code_of tail) _
    c.from_residual-in_err-put-in-Cons.ensures.0 c.cells.invariant.put (at_cons c.cells.rest.now head tail c.in-Cons.ensures.kind) c.in_err-put-in-Cons.ensures

pub put_term-returns-in_err-put_term-in-Cons : goal.put_term-returns-in_err-put_term-in-Cons
put_term-returns-in_err-put_term-in-Cons t c =
    let head = c.in-Cons.head.now in
    let tail = c.in-Cons.tail.now in
    let p : IsPut c.put-in-Cons.new.into.items (code_of head ++ code_of tail) c.args.into.now.items (code_of c.args.term.now) =
    put_more c.cells.into.items (code_of c.cells.rest.now) c.args.into.now.items (code_of c.args.term.now) (0x70 ∷ [])
    (code_of head ++ code_of tail) c.put-in-Cons.new.into.items
    c.cells.invariant.put (at_cons c.cells.rest.now head tail c.in-Cons.ensures.kind) c.in_ok-put-in-Cons.ensures in
    puts_err _ c.put-in-Cons.new.into.items (code_of head ++ code_of tail) c.args.into.now.items (code_of c.args.term.now) (code_of head) (code_of tail) _
    c.from_residual-in_err-put_term-in-Cons.ensures.0 p refl c.in_err-put_term-in-Cons.ensures

pub put_term-cells-preserved : goal.put_term-cells-preserved
put_term-cells-preserved t c =
    let head = c.in-Cons.head.now in
    let tail = c.in-Cons.tail.now in
    let p : IsPut c.put-in-Cons.new.into.items (code_of head ++ code_of tail) c.args.into.now.items (code_of c.args.term.now) =
    put_more c.cells.into.items (code_of c.cells.rest.now) c.args.into.now.items (code_of c.args.term.now) (0x70 ∷ [])
    (code_of head ++ code_of tail) c.put-in-Cons.new.into.items
    c.cells.invariant.put (at_cons c.cells.rest.now head tail c.in-Cons.ensures.kind) c.in_ok-put-in-Cons.ensures in
    record {
      put = put_more c.put-in-Cons.new.into.items (code_of head ++ code_of tail) c.args.into.now.items (code_of c.args.term.now) (code_of head)
          (code_of tail) c.put_term.new.into.items p refl c.in_ok-put_term-in-Cons.ensures;
      fewer = omega (arith, cons_falls c.cells.rest.now head tail c.in-Cons.ensures.kind, c.cells.invariant.fewer);
    }

pub put_term-returns-in_err-put-in-Bin : goal.put_term-returns-in_err-put-in-Bin
put_term-returns-in_err-put-in-Bin t c =
    puts_err _ c.cells.into.items (code_of c.cells.rest.now) c.args.into.now.items (code_of c.args.term.now) (0x80 ∷ []) (escaped c.in-Bin.bytes.now) _
    c.from_residual-in_err-put-in-Bin.ensures.0 c.cells.invariant.put
    (at_binary c.cells.rest.now c.in-Bin.bytes.now c.in-Bin.ensures.kind) c.in_err-put-in-Bin.ensures

pub put_term-returns-in-Bin : goal.put_term-returns-in-Bin
put_term-returns-in-Bin t c =
    puts_tagged _ c.cells.into.items (code_of c.cells.rest.now) c.args.into.now.items (code_of c.args.term.now)
    (escaped c.in-Bin.bytes.now) c.put-in-Bin.new.into.items _ 0x80
    c.cells.invariant.put (at_binary c.cells.rest.now c.in-Bin.bytes.now c.in-Bin.ensures.kind) c.in_ok-put-in-Bin.ensures c.put_escaped-in-Bin.ensures
