use Rattle.std.proofs.Common.{rules, ℕ, List, ◌≡◌, ◌<◌, ◌+◌, ◌-◌, ◌*◌, ◌/◌, get_or, ap, sym, subst, ◌∙◌, arith}
use Rattle.ca_model.specs.StoreMap.{bytes_cmp}
use Rattle.ca_node.specs.Row.{bytes_in, code_words}
use Rattle.ca_node.specs.Told.{MyTree}
use Rattle.ca_node.proofs.WordOrder.{bytes_long}
use Rattle.ca_base.specs.Finding.{IsObjectShown}
use Rattle.ca_node.proofs.KeyOrder.{is_equal, is_other, front_part, first_word, left_first, decided, left_on, left_none}
use Rattle.ca_base.proofs.ObjectBytes.{joined_part, code_long}
use Rattle.ca_base.proofs.comparing.compare_by.Goals as goal

pub loop-at-init : goal.loop-at-init
loop-at-init c = let start : ℕ = c.key_bytes-start.result.0 in
    let none : start - start ≡ 0 = omega arith in record {
      own = search rules;
      same = search rules;
      number = search rules;
      tally = search rules;
      kept = search rules;
      still = search rules;
      low = omega arith;
      high = omega arith;
      word = λ its shown. c.word_with-word.ensures.word its
          (subst (λ (m : MyTree). IsObjectShown m.0.upper c.args.row its)
          (sym c.key_bytes-start.ensures.frame.still) shown);
      other = first_word c.args.key.now (start - start) c.args.front none c.requires.front.front;
      left = λ its _.
          left_first (bytes_in (code_words its)) c.args.key.now start c.key_bytes-start.result.1;
    }

pub returns-then-is_ne-clause-order : goal.returns-then-is_ne-clause-order
returns-then-is_ne-clause-order c its shown = let start : ℕ = c.key_bytes-start.result.0 in
    let end : ℕ = c.key_bytes-start.result.1 in
    let at : ℕ = c.loop-at.at in let n : ℕ = c.min-count.result in
    let key : List ℕ = c.args.key.now in
    let i = c.loop-at.invariant in let low = i.low in let more = c.loop-at-test.true in
    let m = c.min-count.ensures in let s = c.min.ensures in
    let range = c.key_bytes-start.ensures.range in let long = shown.long in
    let there = subst
    (λ (m : MyTree). IsObjectShown m.0.upper c.args.row its) (sym i.still) shown in
    let has = joined_part (code_words its) at n c.loop-at.word c.word_with-next.result c.joined.result
    (omega arith) (omega (arith, code_long its long))
    c.joined.ensures (i.word its shown more)
    (λ (l : at / 8 * 8 + 8 < at + n). c.word_with-next.ensures.word its there (omega arith)) in
    let has_too =
    front_part key (at - start) n c.loop-at.other i.other (omega arith) (omega arith) in
    decided (bytes_in (code_words its)) key start end at n c.joined.result c.loop-at.other low
    (omega arith) (i.left its shown) has has_too
    c.compare_tops-order.result c.compare_tops-order.ensures
    (is_other c.compare_tops-order.result (sym c.is_ne.ensures ∙ c.if-is_ne.true))
    ∙ ap (λ (k : List ℕ). bytes_cmp k key) (sym (c.key_bytes-start.ensures.key its shown))

pub loop-at-preserved : goal.loop-at-preserved
loop-at-preserved c = let start : ℕ = c.key_bytes-start.result.0 in
    let end : ℕ = c.key_bytes-start.result.1 in
    let at : ℕ = c.loop-at.at in let n : ℕ = c.min-count.result in
    let key : List ℕ = c.args.key.now in
    let i = c.loop-at.invariant in let low = i.low in let more = c.loop-at-test.true in
    let m = c.min-count.ensures in let s = c.min.ensures in
    let range = c.key_bytes-start.ensures.range in
    let next = λ (its : List ℕ)
    (shown : IsObjectShown c.args.pass.now.seat.me.0.upper c.args.row its).
    c.word_with-next.ensures.word its (subst
    (λ (m : MyTree). IsObjectShown m.0.upper c.args.row its) (sym i.still) shown) in
    let has_too =
    front_part key (at - start) n c.loop-at.other i.other (omega arith) (omega arith) in
    record {
      own = search rules;
      same = search rules;
      number = search rules;
      tally = search rules;
      kept = search rules;
      still = search rules;
      low = omega arith;
      high = omega arith;
      word = λ its shown l. let e : (at / 8 * 8 + 8) / 8 ≡ (at + n) / 8 = omega arith in
          next its shown (omega arith) ∙ ap (λ (k : ℕ). get_or (code_words its) k 0) e;
      other = c.next_word-other.ensures;
      left = λ its shown. let long = shown.long in
          let has = joined_part (code_words its) at n c.loop-at.word c.word_with-next.result
          c.joined.result (omega arith) (omega (arith, code_long its long))
          c.joined.ensures (i.word its shown more)
          (λ (l : at / 8 * 8 + 8 < at + n). next its shown (omega arith)) in
          left_on (bytes_in (code_words its)) key start end at n c.joined.result c.loop-at.other low
          (omega arith) (i.left its shown) has has_too
          c.compare_tops-order.result c.compare_tops-order.ensures
          (is_equal c.compare_tops-order.result (sym c.is_ne.ensures ∙ c.if-is_ne.false));
    }

pub returns-clause-order : goal.returns-clause-order
returns-clause-order c its shown = let start : ℕ = c.key_bytes-start.result.0 in
    let end : ℕ = c.key_bytes-start.result.1 in
    let bytes : List ℕ = bytes_in (code_words its) in let key : List ℕ = c.args.key.now in
    let i = c.loop-at.invariant in let low = i.low in let high = i.high in
    let over = c.loop-at-test.false in let s = c.min.ensures in
    let range = c.key_bytes-start.ensures.range in let long = shown.long in
    c.cmp.ensures
    ∙ (left_none bytes key start end c.loop-at.at (omega arith) (omega (
      arith,
      bytes_long (code_words its),
      code_long its long,
    )) (omega arith)
    (i.left its shown)
    ∙ ap (λ (k : List ℕ). bytes_cmp k key) (sym (c.key_bytes-start.ensures.key its shown)))
