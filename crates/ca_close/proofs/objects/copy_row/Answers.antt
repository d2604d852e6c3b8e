use Rattle.std.proofs.Common.{◌≡◌, ℕ, List, ◌+◌, ◌*◌, ◌%◌, ◌++◌, min, length, get_or, take, ap, sym, ◌∙◌, arith}
use Rattle.std.proofs.lemmas.List.{take_min}
use Rattle.std.specs.Int.{to_be_bytes, w64}
use Rattle.std.specs.Mem.Slots.{slots_items}
use Rattle.ca_base.proofs.ObjectBytes.{one_more, code_long, code_at}
use Rattle.ca_node.proofs.WordOrder.{bytes_long}
use Rattle.ca_node.specs.Layout.{code_word, count_limit}
use Rattle.ca_node.specs.Row.{row_at, bytes_in, count, code_words}
use Rattle.ca_rows.specs.Layout.{row_words}
use Rattle.ca_close.proofs.Reading.{got_of, row_long}
use Rattle.ca_close.proofs.objects.copy_row.Goals as goal

pub loop-i-preserved : goal.loop-i-preserved
loop-i-preserved c = let i : ℕ = c.loop-i.i in let len : ℕ = c.min-len.result in let words = slots_items c.args.words.now.closed.words in
    let its : List ℕ = row_at words c.args.row in let more = c.loop-i-test.true in let m = c.min-len.ensures in
    let there : row_words * c.args.row + code_word + i ≡ row_words * c.args.row + (code_word + i) = omega arith in
    let word : c.at-in-loop-i.result ≡ get_or (code_words its) i 0 =
    got_of words c.args.row (code_word + i) (row_words * c.args.row + code_word + i) c.at-in-loop-i.result (omega arith) there c.at-in-loop-i.ensures
    ∙ sym (code_at its i (omega arith)) in
    let bytes : c.to_be_bytes-bytes.result ≡ to_be_bytes w64 (get_or (code_words its) i 0) = c.to_be_bytes-bytes.ensures ∙ ap (to_be_bytes w64) word in
    let long = code_long its (row_long words c.args.row c.requires) in
    c.append.ensures
    ∙ (ap (λ (xs : List ℕ). xs ++ take c.min.result c.to_be_bytes-bytes.result) c.loop-i.invariant
    ∙ (ap (λ (xs : List ℕ). take (min len (8 * i)) (bytes_in (code_words its)) ++ take c.min.result xs) bytes
    ∙ one_more (code_words its) len i c.min.result (omega arith) (omega arith) c.min.ensures))

pub returns : goal.returns
returns c = let over = c.loop-i-test.false in let words = slots_items c.args.words.now.closed.words in
    let its : List ℕ = row_at words c.args.row in
    let bytes : List ℕ = bytes_in (code_words its) in
    let long = code_long its (row_long words c.args.row c.requires) in
    let all : length bytes ≡ 1000 = omega (arith, bytes_long (code_words its)) in
    let whole : min c.min-len.result (8 * c.loop-i.i) ≡ c.min-len.result = omega arith in
    let here : row_words * c.args.row ≡ row_words * c.args.row + 0 = omega arith in
    let word = got_of words c.args.row 0 (row_words * c.args.row) c.at.result (omega arith) here c.at.ensures in
    let len : c.min-len.result ≡ min (count its) (length bytes) = omega (arith, c.min-len.ensures, ap (λ (n : ℕ). n % count_limit) word) in
    c.loop-i.invariant ∙ (ap (λ (k : ℕ). take k bytes) (whole ∙ len) ∙ take_min (count its) bytes)
