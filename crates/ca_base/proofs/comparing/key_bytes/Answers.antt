use Rattle.std.proofs.Common.{ℕ, List, ◌≡◌, ◌+◌, ◌-◌, ◌/◌, ◌%◌, min, length, take, drop, ap, sym, ◌∙◌, arith}
use Rattle.ca_node.specs.Row.{bytes_in, count, key_place, key_length, code_words}
use Rattle.ca_node.proofs.WordOrder.{bytes_long}
use Rattle.ca_node.specs.Layout.{count_limit}
use Rattle.ca_base.proofs.Items.{word_shown, as_shown}
use Rattle.ca_base.proofs.ObjectBytes.{clipped, code_long}
use Rattle.ca_base.proofs.comparing.key_bytes.Goals as goal

pub load_word-word-requires-clause-shown : goal.load_word-word-requires-clause-shown
load_word-word-requires-clause-shown c = let shown = c.requires.object.shown in
    word_shown c.args.pass.now.seat.me.0.upper _ _ (shown.0, shown.1.shown)

pub returns-clause-key : goal.returns-clause-key
returns-clause-key c its shown = let long = shown.long in
    let bytes : List ℕ = bytes_in (code_words its) in
    let word =
    as_shown c.args.pass.now.seat.me.0.upper _ _ _ c.load_word-word.ensures.word its
    shown.shown in
    let all : length bytes ≡ 1000 = omega (arith, bytes_long (code_words its), code_long its long) in
    let end : ℕ = c.min-end.result in let start : ℕ = c.min-start.result in
    let len : ℕ = c.min-len.result in
    let e : end ≡ min (length bytes) (count its) = c.min-end.ensures
    ∙ (ap (λ (n : ℕ). min n (c.load_word-word.result % count_limit)) (sym all)
    ∙ ap (λ (n : ℕ). min (length bytes) (n % count_limit)) word) in
    let s : start ≡ min end (key_place its) = c.min-start.ensures
    ∙ ap (λ (n : ℕ). min end (n / count_limit % count_limit)) word in
    let l : len ≡ min (end - start) (key_length its) = c.min-len.ensures
    ∙ ap (λ (n : ℕ). min (end - start) (n / 4294967296 % 16777216)) word in
    let n : start + len - start ≡ len = omega arith in
    clipped bytes (count its) (key_place its) (key_length its) end start len e s l
    ∙ ap (λ (k : ℕ). take k (drop start bytes)) (sym n)
