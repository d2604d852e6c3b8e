use Rattle.std.proofs.Common.{rules, ℕ, List, ◌≡◌, ◌*◌, ◌%◌, ◌++◌, min, length, get_or, take, ap, sym, subst, ◌∙◌, arith}
use Rattle.std.proofs.lemmas.List.{take_min}
use Rattle.std.specs.Int.{to_be_bytes, w64}
use Rattle.std.specs.List.{flat_map}
use Rattle.ca_node.specs.Row.{bytes_in, count, code_words}
use Rattle.ca_node.specs.Told.{MyTree}
use Rattle.ca_base.specs.Finding.{IsObjectShown}
use Rattle.ca_base.proofs.FourWords.{four_more}
use Rattle.ca_base.proofs.Items.{word_shown, as_shown}
use Rattle.ca_base.proofs.ObjectBytes.{one_more, code_long}
use Rattle.ca_node.proofs.WordOrder.{bytes_long}
use Rattle.ca_node.specs.Layout.{count_limit}
use Rattle.ca_base.proofs.reading.copy_object.Goals as goal

pub load_word-requires-clause-shown : goal.load_word-requires-clause-shown
load_word-requires-clause-shown c =
    word_shown c.args.pass.now.seat.me.0.upper _ _ (c.requires.shown.0, c.requires.shown.1.shown)

pub four_words-words-requires-clause-shown : goal.four_words-words-requires-clause-shown
four_words-words-requires-clause-shown c = let its : List ℕ = c.requires.shown.0 in
    (its, subst (λ (m : MyTree). IsObjectShown m.0.upper c.args.row its) (sym c.loop-four.invariant.still) c.requires.shown.1)

pub loop-four-preserved : goal.loop-four-preserved
loop-four-preserved c = let k : ℕ = c.loop-four.four in let len : ℕ = c.min-len.result in
    let more = c.loop-four-test.true in let inv = c.loop-four.invariant in
    record {
      own = search rules;
      same = search rules;
      number = search rules;
      tally = search rules;
      kept = search rules;
      still = search rules;
      copied = λ its shown. let long = shown.long in let m = c.min-len.ensures in
          let s = subst (λ (m : MyTree). IsObjectShown m.0.upper c.args.row its) (sym inv.still) shown in
          let words = c.four_words-words.ensures.words its s in
          c.append.ensures
          ∙ (ap (λ (xs : List ℕ). c.loop-four.into.items ++ xs) c.as_flattened.ensures.value
          ∙ (ap (λ (xs : List ℕ). xs ++ flat_map (λ (x : List ℕ). x) c.four_words-words.result) (inv.copied its shown)
          ∙ (ap (λ (four : List (List ℕ)). take (32 * k) (bytes_in (code_words its)) ++ flat_map (λ (x : List ℕ). x) four) words
          ∙ four_more (code_words its) k (omega (arith, code_long its long)))));
    }

pub word_bytes-bytes-requires-clause-shown : goal.word_bytes-bytes-requires-clause-shown
word_bytes-bytes-requires-clause-shown c = let its : List ℕ = c.requires.shown.0 in
    (its, subst (λ (m : MyTree). IsObjectShown m.0.upper c.args.row its) (sym c.loop-i.invariant.still) c.requires.shown.1)

pub loop-i-preserved : goal.loop-i-preserved
loop-i-preserved c = let i : ℕ = c.loop-i.i in let len : ℕ = c.min-len.result in
    let more = c.loop-i-test.true in let inv = c.loop-i.invariant in
    record {
      own = search rules;
      same = search rules;
      number = search rules;
      tally = search rules;
      kept = search rules;
      still = search rules;
      copied = λ its shown. let long = shown.long in let m = c.min-len.ensures in
          let s = subst (λ (m : MyTree). IsObjectShown m.0.upper c.args.row its) (sym inv.still) shown in
          let bytes : c.word_bytes-bytes.result ≡ to_be_bytes w64 (get_or (code_words its) i 0) = c.word_bytes-bytes.ensures.bytes its s in
          c.append-in-loop-i.ensures
          ∙ (ap (λ (xs : List ℕ). xs ++ take c.min.result c.word_bytes-bytes.result) (inv.copied its shown)
          ∙ (ap (λ (xs : List ℕ). take (min len (8 * i)) (bytes_in (code_words its)) ++ take c.min.result xs) bytes
          ∙ one_more (code_words its) len i c.min.result (omega arith) (omega (arith, code_long its long)) c.min.ensures));
    }

pub returns-clause-object : goal.returns-clause-object
returns-clause-object c its shown = let over = c.loop-i-test.false in
    let bytes : List ℕ = bytes_in (code_words its) in
    let long = shown.long in
    let all : length bytes ≡ 1000 =
    omega (arith, bytes_long (code_words its), code_long its long) in
    let whole : min c.min-len.result (8 * c.loop-i.i) ≡ c.min-len.result = omega arith in
    let word =
    as_shown c.args.pass.now.seat.me.0.upper _ _ _ c.load_word.ensures.word its shown.shown in
    let len : c.min-len.result ≡ min (count its) (length bytes) =
    omega (arith, c.min-len.ensures, ap (λ (n : ℕ). n % count_limit) word) in
    c.loop-i.invariant.copied its shown
    ∙ (ap (λ (k : ℕ). take k bytes) (whole ∙ len) ∙ take_min (count its) bytes)
