use Rattle.std.proofs.Common.{rules, ◌≡◌, ◌+◌, ◌-◌, ◌*◌, ◌/◌, ◌%◌, ◌++◌, ℕ, List, length, take, drop, get_or, sym, ap, subst, ◌∙◌, arith, length-drop}
use Rattle.std.proofs.lemmas.List.{length-take-le}
use Rattle.std.specs.Int.{to_be_bytes, w64}
use Rattle.ca_node.specs.Row.{bytes_in, code_words}
use Rattle.ca_node.specs.Told.{MyTree}
use Rattle.ca_base.specs.Finding.{IsRowShown, IsObjectShown, all_bytes}
use Rattle.ca_base.proofs.Items.{word_shown, as_shown}
use Rattle.ca_node.proofs.WordOrder.{bytes_long}
use Rattle.ca_base.proofs.SplitKeys.{next_part, part_behind}
use Rattle.ca_base.proofs.routing.copy_part.Goals as goal
use Rattle.ca_node.specs.Layout.{code_word}
use Rattle.ca_base.proofs.ObjectBytes.{code_long, code_at}

pub load_word-requires-clause-shown : goal.load_word-requires-clause-shown
load_word-requires-clause-shown g c = let s = c.requires.object.shown in
    word_shown c.loop-at.pass.seat.me.0.upper c.args.row (code_word + c.loop-at.at / 8) (
      s.0,
      subst (λ (m : MyTree). IsRowShown m.0.upper c.args.row s.0) (sym c.loop-at.invariant.still)
          s.1.shown,
    )

pub loop-at-preserved : goal.loop-at-preserved
loop-at-preserved g c = let start : ℕ = c.key_bytes-first.result.0 + c.min.result in
    let end : ℕ = start + c.min-2.result in let a = c.min.ensures in let b = c.min-2.ensures in
    let at : ℕ = c.loop-at.at in let to : ℕ = c.min-to.result in let i = c.loop-at.invariant in
    let low = i.low in let high = i.high in
    let more = c.loop-at-test.true in let m = c.min-to.ensures in
    let range = c.key_bytes-first.ensures.range in
    let n : at % 8 + (to - at) - at % 8 ≡ to - at = omega arith in
    let bytes : c.to_be_bytes-bytes.result ≡ to_be_bytes w64 c.load_word.result =
    c.to_be_bytes-bytes.ensures in
    let copied = λ (its : List ℕ)
    (shown : IsObjectShown c.args.pass.now.seat.me.0.upper c.args.row its).
    let long = shown.long in
    let all : 8 * length (code_words its) ≡ 1000 = omega (arith, code_long its long) in
    let s = subst (λ (m : MyTree). IsRowShown m.0.upper c.args.row its) (sym i.still) shown.shown in
    let word : c.load_word.result ≡ get_or (code_words its) (at / 8) 0 =
    as_shown c.loop-at.pass.seat.me.0.upper c.args.row (code_word + at / 8) c.load_word.result
    c.load_word.ensures.word its s ∙ sym (code_at its (at / 8) (omega arith)) in
    c.append.ensures
    ∙ (ap (λ (bs : List ℕ).
    c.loop-at.into.items ++ take (at % 8 + (to - at) - at % 8) (drop (at % 8) bs)) bytes
    ∙ (ap (λ (k : ℕ).
    c.loop-at.into.items ++ take k (drop (at % 8) (to_be_bytes w64 c.load_word.result))) n
    ∙ next_part (code_words its) c.loop-at.into.items start at to c.load_word.result low (omega arith)
    (omega arith) (omega arith) word (i.copied its shown))) in
    let its : List ℕ = c.requires.object.shown.0 in let long = c.requires.object.shown.1.long in
    let there : length (drop start (bytes_in (code_words its))) ≡ 1000 - start =
    omega (
      arith,
      length-drop start (bytes_in (code_words its)),
      bytes_long (code_words its),
      code_long its long,
    ) in
    record {
      own = search rules;
      same = search rules;
      number = search rules;
      tally = search rules;
      kept = search rules;
      still = search rules;
      low = omega arith;
      high = omega arith;
      many = ap (λ (xs : List ℕ). length xs) (copied its c.requires.object.shown.1)
          ∙ length-take-le (to - start) (drop start (bytes_in (code_words its))) (omega arith);
      copied = copied;
    }

pub loop-at-init : goal.loop-at-init
loop-at-init g c = let a = c.min.ensures in let b = c.min-2.ensures in record {
  own = search rules;
  same = search rules;
  number = search rules;
  tally = search rules;
  kept = search rules;
  still = search rules;
  low = omega arith;
  high = omega arith;
  many = ap (λ (xs : List ℕ). length xs) c.clear.ensures ∙ omega arith;
  copied = λ its shown. let start : ℕ = c.key_bytes-first.result.0 + c.min.result in
      let none : 0 ≡ start - start = omega arith in c.clear.ensures ∙ ap (λ (n : ℕ). take n (drop start (all_bytes its))) none;
}

pub returns-clause-part : goal.returns-clause-part
returns-clause-part g c its shown = let i = c.loop-at.invariant in let a = c.min.ensures in let b = c.min-2.ensures in
    let first : ℕ = c.key_bytes-first.result.0 in let last : ℕ = c.key_bytes-first.result.1 in
    let start : ℕ = first + c.min.result in let done = c.loop-at-test.false in
    let low = i.low in let high = i.high in let range = c.key_bytes-first.ensures.range in
    let all : c.loop-at.at - start ≡ c.min-2.result = omega arith in
    i.copied its shown ∙ (ap (λ (n : ℕ). take n (drop start (all_bytes its))) all
    ∙ (part_behind (all_bytes its) first last c.args.skip g.row.N c.min.result c.min-2.result range.0
    (omega (arith, bytes_long (code_words its), code_long its shown.long)) a b
    ∙ ap (λ (k : List ℕ). take g.row.N (drop c.args.skip k)) (sym (c.key_bytes-first.ensures.key its shown))))
