use Rattle.std.proofs.Common.{◌≡◌, ℕ, List, [], ◌∷◌, length, ap, sym, ◌∙◌, arith, append-nil}
use Rattle.std.proofs.lemmas.List.{take_all}
use Rattle.std.specs.Int.{from_be_bytes, w64}
use borrow.Rule.Slice.PartMut.{put_mid}
use Rattle.ca_node.proofs.EightBytes.{top_begins, top_zeros}
use Rattle.ca_node.proofs.comparing.top_of.Goals as goal

pub returns-then-bytes-lt8-clause-front : goal.returns-then-bytes-lt8-clause-front
returns-then-bytes-lt8-clause-front c = let bytes : List ℕ = c.args.bytes.now in let few = c.if-bytes-lt8.true in
    top_begins bytes (length bytes) c.from_be_bytes.result c.copy_from_slice.new.self
    (λ i. (c.type_inv.bytes i).fits)
    (omega arith) (c.copy_from_slice.ensures.after
    ∙ sym (take_all (length bytes) bytes (omega arith))) c.from_be_bytes.ensures

pub returns-then-bytes-lt8-clause-zeros : goal.returns-then-bytes-lt8-clause-zeros
returns-then-bytes-lt8-clause-zeros c = let bytes : List ℕ = c.args.bytes.now in let few = c.if-bytes-lt8.true in
    top_zeros bytes (length bytes) c.from_be_bytes.result c.copy_from_slice.new.self
    (λ i. (c.type_inv.bytes i).fits)
    (omega arith) (c.copy_from_slice.ensures.after
    ∙ sym (take_all (length bytes) bytes (omega arith))) c.from_be_bytes.ensures

pub returns-clause-front : goal.returns-clause-front
returns-clause-front c = let many = c.if-bytes-lt8.false in let part : List ℕ = c.copy_from_slice-2.new.self in
    let whole : put_mid 0 8 (0 ∷ 0 ∷ 0 ∷ 0 ∷ 0 ∷ 0 ∷ 0 ∷ 0 ∷ []) part ≡ part = append-nil part in
    top_begins c.args.bytes.now 8 c.from_be_bytes-2.result part (λ i. (c.type_inv.bytes i).fits)
    (omega arith) c.copy_from_slice-2.ensures.after (c.from_be_bytes-2.ensures
    ∙ ap (from_be_bytes w64) (sym whole))

pub returns-clause-zeros : goal.returns-clause-zeros
returns-clause-zeros c = let many = c.if-bytes-lt8.false in let part : List ℕ = c.copy_from_slice-2.new.self in
    let whole : put_mid 0 8 (0 ∷ 0 ∷ 0 ∷ 0 ∷ 0 ∷ 0 ∷ 0 ∷ 0 ∷ []) part ≡ part = append-nil part in
    top_zeros c.args.bytes.now 8 c.from_be_bytes-2.result part (λ i. (c.type_inv.bytes i).fits)
    (omega arith) c.copy_from_slice-2.ensures.after (c.from_be_bytes-2.ensures
    ∙ ap (from_be_bytes w64) (sym whole))
