use Rattle.std.proofs.Common.{rules, ℕ, List, ◌≡◌, ◌+◌, ◌-◌, ◌*◌, min, length, take, drop, ap, sym, subst, ◌∙◌, arith, length-take}
use Rattle.std.specs.Int.{to_be_bytes, w64}
use Rattle.std.specs.Ordering.{nat_cmp}
use Rattle.ca_model.specs.StoreMap.{bytes_cmp}
use Rattle.ca_node.specs.Row.{bytes_in, prefix_words}
use Rattle.ca_node.specs.Told.{MyTree}
use Rattle.ca_node.proofs.WordOrder.{bytes_long}
use Rattle.ca_base.proofs.Fronted.{shows, words_long, part_at, front_part_of}
use Rattle.ca_base.proofs.Items.{word_shown, as_shown}
use Rattle.ca_node.proofs.KeyOrder.{IsLeft, is_equal, is_other, front_part, decided, left_on, left_none}
use Rattle.ca_base.specs.Finding.{IsRowShown}
use Rattle.ca_base.proofs.prefixes.compare_prefix.Goals as goal

pub load_word-word-requires-clause-shown : goal.load_word-word-requires-clause-shown
load_word-word-requires-clause-shown c = let s = c.requires.shown in
    word_shown c.loop-place.pass.seat.me.0.upper _ _ (
      s.0.its,
      subst (λ (m : MyTree). IsRowShown m.0.upper c.args.base s.0.its) (sym c.loop-place.invariant.still)
          (shows _ _ _ s.0 s.1),
    )

pub returns-then-is_ne-clause-order : goal.returns-then-is_ne-clause-order
returns-then-is_ne-clause-order c note r same = let place : ℕ = c.loop-place.place in
    let n : ℕ = c.min-count.result in let key : List ℕ = c.args.key.now in
    let len : ℕ = c.args.len in let front : List ℕ = take len key in
    let bytes : List ℕ = bytes_in (prefix_words note.its) in
    let inv = c.loop-place.invariant in let more = c.loop-place-test.true in
    let m = c.min-count.ensures in let s = c.min-stop.ensures in let few = c.requires.few in
    let d = c.div_ceil-place-end.ensures in
    let there : min c.min-stop.result (8 * place) ≡ 8 * place = omega arith in
    let there' : 8 * place - 0 ≡ 8 * place = omega arith in
    let word = as_shown c.loop-place.pass.seat.me.0.upper _ _ _ c.load_word-word.ensures.word note.its
    (subst (λ (m : MyTree). IsRowShown m.0.upper c.args.base note.its) (sym inv.still) (shows _ _ _ note r)) in
    let has = part_at note.its place n c.load_word-word.result r.is_base.long (omega arith) (omega arith) word in
    let has_too : take n (to_be_bytes w64 c.word_from.result) ≡ take n (drop (8 * place) front) =
    front_part key (8 * place) n c.word_from.result c.word_from.ensures (omega arith) (omega arith)
    ∙ sym (front_part_of key len (8 * place) n (omega arith)) in
    let left = subst (IsLeft bytes front 0 len) there (inv.left note r same) in
    decided bytes front 0 len (8 * place) n c.load_word-word.result c.word_from.result (omega arith)
    (omega arith) left has
    (subst (λ (k : ℕ). take n (to_be_bytes w64 c.word_from.result) ≡ take n (drop k front)) (sym there') has_too)
    c.compare_tops-order.result c.compare_tops-order.ensures
    (is_other c.compare_tops-order.result (sym c.is_ne.ensures ∙ c.if-is_ne.true))
    ∙ ap (λ (k : ℕ). bytes_cmp (take k bytes) front) (omega (arith, same))

pub loop-place-preserved : goal.loop-place-preserved
loop-place-preserved c = let place : ℕ = c.loop-place.place in
    let n : ℕ = c.min-count.result in let key : List ℕ = c.args.key.now in
    let len : ℕ = c.args.len in let front : List ℕ = take len key in
    let inv = c.loop-place.invariant in let more = c.loop-place-test.true in
    let m = c.min-count.ensures in let s = c.min-stop.ensures in let few = c.requires.few in
    let d = c.div_ceil-place-end.ensures in
    let there : min c.min-stop.result (8 * place) ≡ 8 * place = omega arith in
    let there' : 8 * place - 0 ≡ 8 * place = omega arith in
    let next : 8 * place + n ≡ min c.min-stop.result (8 * (place + 1)) = omega arith in record {
      own = search rules;
      same = search rules;
      number = search rules;
      tally = search rules;
      kept = search rules;
      still = search rules;
      left = λ note r same. let bytes : List ℕ = bytes_in (prefix_words note.its) in
          let word = as_shown c.loop-place.pass.seat.me.0.upper _ _ _ c.load_word-word.ensures.word note.its
          (subst (λ (m : MyTree). IsRowShown m.0.upper c.args.base note.its) (sym inv.still) (shows _ _ _ note r)) in
          let has = part_at note.its place n c.load_word-word.result r.is_base.long (omega arith) (omega arith) word in
          let has_too : take n (to_be_bytes w64 c.word_from.result) ≡ take n (drop (8 * place) front) =
          front_part key (8 * place) n c.word_from.result c.word_from.ensures (omega arith) (omega arith)
          ∙ sym (front_part_of key len (8 * place) n (omega arith)) in
          let left = subst (IsLeft bytes front 0 len) there (inv.left note r same) in
          subst (IsLeft bytes front 0 len) next
          (left_on bytes front 0 len (8 * place) n c.load_word-word.result c.word_from.result (omega arith)
          (omega arith) left has
          (subst (λ (k : ℕ). take n (to_be_bytes w64 c.word_from.result) ≡ take n (drop k front)) (sym there') has_too)
          c.compare_tops-order.result c.compare_tops-order.ensures
          (is_equal c.compare_tops-order.result (sym c.is_ne.ensures ∙ c.if-is_ne.false)));
    }

pub returns-clause-order : goal.returns-clause-order
returns-clause-order c note r same = let key : List ℕ = c.args.key.now in
    let len : ℕ = c.args.len in let front : List ℕ = take len key in
    let bytes : List ℕ = bytes_in (prefix_words note.its) in
    let over = c.loop-place-test.false in let s = c.min-stop.ensures in
    let d = c.div_ceil-place-end.ensures in let few = c.requires.few in
    let long = words_long note.its r.is_base.long in let auto = c.loop-place.auto in
    let all : min c.min-stop.result (8 * c.loop-place.place) ≡ c.min-stop.result = omega arith in
    let stop : c.min-stop.result ≡ length front = omega (arith, length-take len key) in
    let left = subst (IsLeft bytes front 0 len) all (c.loop-place.invariant.left note r same) in
    let none : len - 0 ≡ len = omega arith in
    c.cmp.ensures
    ∙ (ap (nat_cmp len) stop ∙ (sym (ap (λ (k : ℕ). nat_cmp k (length front)) none)
    ∙ (left_none bytes front 0 len c.min-stop.result (omega arith)
    (omega (arith, bytes_long (prefix_words note.its))) (omega (arith, stop)) left
    ∙ ap (λ (k : ℕ). bytes_cmp (take k bytes) front) (omega (arith, same)))))
