use Rattle.std.proofs.Common.{rules, ℕ, List, ◌≡◌, ◌+◌, ◌*◌, ◌%◌, ◌++◌, min, length, get_or, take, drop, ap, sym, subst, ◌∙◌, arith, length-take, length-drop}
use Rattle.std.proofs.lemmas.List.{get_or-drop}
use Rattle.std.specs.Int.{to_be_bytes, w64}
use Rattle.ca_node.specs.Layout.{key_word, count_limit}
use Rattle.ca_node.specs.Row.{bytes_in, count}
use Rattle.ca_node.specs.Told.{MyTree}
use Rattle.ca_node.proofs.RouteWords.{first_fixed, key_fixed}
use Rattle.ca_base.proofs.ObjectBytes.{one_more}
use Rattle.ca_range.specs.Reaching.{IsKeyShown}
use Rattle.ca_range.proofs.reaching.copy_key.Goals as goal

pub load_word-requires-clause-shown : goal.load_word-requires-clause-shown
load_word-requires-clause-shown c = let s = c.requires.shown in (get_or s.0 0 0, s.1.shown 0 first_fixed)

pub load_word-requires-in-loop-i-clause-shown : goal.load_word-requires-in-loop-i-clause-shown
load_word-requires-in-loop-i-clause-shown c = let its = c.requires.shown.0 in let more = c.loop-i-test.true in let m = c.min-len.ensures in
    let s = subst (λ (m : MyTree). IsKeyShown m.0.upper c.args.row its) (sym c.loop-i.invariant.still) c.requires.shown.1 in
    (get_or its (key_word + c.loop-i.i) 0, s.shown (key_word + c.loop-i.i) (key_fixed c.loop-i.i (omega arith)))

pub append-requires : goal.append-requires
append-requires c = let s = c.requires.shown in let m = c.min-len.ensures in let n = c.min.ensures in let more = c.loop-i-test.true in
    omega (
      arith,
      ap (λ (xs : List ℕ). length xs) (c.loop-i.invariant.copied s.0 s.1),
      length-take (min c.min-len.result (8 * c.loop-i.i)) (bytes_in (drop key_word s.0)),
      length-take c.min.result c.to_be_bytes-bytes.result,
    )

pub loop-i-preserved : goal.loop-i-preserved
loop-i-preserved c = let i : ℕ = c.loop-i.i in let len : ℕ = c.min-len.result in
    let more = c.loop-i-test.true in let inv = c.loop-i.invariant in
    record {
      own = search rules;
      same = search rules;
      number = search rules;
      tally = search rules;
      kept = search rules;
      still = search rules;
      copied = λ its shown. let long = shown.long in let m = c.min-len.ensures in let words : List ℕ = drop key_word its in
          let s = subst (λ (m : MyTree). IsKeyShown m.0.upper c.args.row its) (sym inv.still) shown in
          let word : c.load_word-in-loop-i.result ≡ get_or words i 0 =
          c.load_word-in-loop-i.ensures.word (get_or its (key_word + i) 0) (s.shown (key_word + i) (key_fixed i (omega arith)))
          ∙ sym (get_or-drop key_word its i 0) in
          let bytes : c.to_be_bytes-bytes.result ≡ to_be_bytes w64 (get_or words i 0) =
          c.to_be_bytes-bytes.ensures ∙ ap (to_be_bytes w64) word in
          c.append.ensures
          ∙ (ap (λ (xs : List ℕ). xs ++ take c.min.result c.to_be_bytes-bytes.result) (inv.copied its shown)
          ∙ (ap (λ (xs : List ℕ). take (min len (8 * i)) (bytes_in words) ++ take c.min.result xs) bytes
          ∙ one_more words len i c.min.result (omega arith) (omega (arith, length-drop key_word its)) c.min.ensures));
    }

pub returns-clause-key : goal.returns-clause-key
returns-clause-key c its shown = let over = c.loop-i-test.false in let bytes : List ℕ = bytes_in (drop key_word its) in
    let short = shown.short in let m = c.min-len.ensures in
    let word = c.load_word.ensures.word (get_or its 0 0) (shown.shown 0 first_fixed) in
    let first : count its ≡ c.load_word.result % count_limit = ap (λ (n : ℕ). n % count_limit) (sym word) in
    let whole : min c.min-len.result (8 * c.loop-i.i) ≡ count its = omega arith in
    c.loop-i.invariant.copied its shown ∙ ap (λ (k : ℕ). take k bytes) whole
