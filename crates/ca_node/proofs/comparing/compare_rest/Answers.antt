use Rattle.std.proofs.Common.{rules, ℕ, List, ◌≡◌, ◌+◌, ◌-◌, ◌*◌, min, length, get_or, take, drop, ap, sym, subst, ◌∙◌, arith, length-drop}
use Rattle.std.specs.Int.{to_be_bytes, w64}
use Rattle.std.specs.Ordering.{nat_cmp}
use Rattle.ca_model.specs.StoreMap.{bytes_cmp}
use Rattle.ca_node.specs.Layout.{key_word}
use Rattle.ca_node.specs.Row.{bytes_in, count}
use Rattle.ca_node.specs.Told.{MyTree}
use Rattle.ca_node.specs.Walking.{IsRouteShown}
use Rattle.ca_node.proofs.KeyOrder.{IsLeft, is_equal, is_other, front_part, behind, left_alike, decided, left_on, left_none}
use Rattle.ca_node.proofs.RouteWords.{fixed_word, key_fixed}
use Rattle.ca_node.proofs.WordOrder.{bytes_long, route_part}
use Rattle.ca_node.proofs.comparing.compare_rest.Goals as goal

pub loop-place-init : goal.loop-place-init
loop-place-init c = let more = c.requires.more in let t = c.min-stop.ensures in
    let eight : min c.min-stop.result (8 * 1) ≡ 8 = omega arith in record {
      own = search rules;
      same = search rules;
      number = search rules;
      tally = search rules;
      kept = search rules;
      still = search rules;
      left = λ its s. subst (IsLeft (bytes_in (drop key_word its)) c.args.key.now 0 (count its)) (sym eight)
          (left_alike (bytes_in (drop key_word its)) c.args.key.now (count its) 8 (c.requires.alike its s));
    }

pub load_word-word-requires-clause-inside : goal.load_word-word-requires-clause-inside
load_word-word-requires-clause-inside c = let s = c.requires.shown in let short = s.1.short in
    let m = c.min-stop.ensures in let more = c.loop-place-test.true in
    let d = c.div_ceil-place-end.ensures in
    let len = c.requires.len s.0 s.1 in (c.requires.inside, omega arith)

pub load_word-word-requires-clause-shown : goal.load_word-word-requires-clause-shown
load_word-word-requires-clause-shown c = let s = c.requires.shown in let short = s.1.short in
    let m = c.min-stop.ensures in let more = c.loop-place-test.true in
    let d = c.div_ceil-place-end.ensures in
    let len = c.requires.len s.0 s.1 in (
      get_or s.0 (key_word + c.loop-place.place) 0,
      fixed_word c.loop-place.pass.seat.me.0.upper c.args.route s.0 (key_word + c.loop-place.place)
          (subst (λ (m : MyTree). IsRouteShown m.0.upper c.args.route s.0)
          (sym c.loop-place.invariant.still) s.1) (key_fixed c.loop-place.place (omega arith)),
    )

pub returns-then-is_ne-clause-order : goal.returns-then-is_ne-clause-order
returns-then-is_ne-clause-order c its s = let place : ℕ = c.loop-place.place in
    let n : ℕ = c.min-count.result in let key : List ℕ = c.args.key.now in
    let short = s.short in
    let inv = c.loop-place.invariant in let more = c.loop-place-test.true in
    let m = c.min-count.ensures in let t = c.min-stop.ensures in
    let d = c.div_ceil-place-end.ensures in
    let len = c.requires.len its s in
    let there : min c.min-stop.result (8 * place) ≡ 8 * place = omega arith in
    let there' : 8 * place - 0 ≡ 8 * place = omega arith in
    let word = c.load_word-word.ensures.word _
    (fixed_word c.loop-place.pass.seat.me.0.upper c.args.route its (key_word + place)
    (subst (λ (m : MyTree). IsRouteShown m.0.upper c.args.route its) (sym inv.still) s)
    (key_fixed place (omega arith))) in
    decided (bytes_in (drop key_word its)) key 0 (count its) (8 * place) n c.load_word-word.result
    c.top_of-other.result (omega arith) (omega arith)
    (subst (IsLeft (bytes_in (drop key_word its)) key 0 (count its)) there (inv.left its s))
    (route_part its place n c.load_word-word.result s.long (omega arith) (omega arith) word)
    (subst (λ (k : ℕ). take n (to_be_bytes w64 c.top_of-other.result) ≡ take n (drop k key)) (sym there')
    (front_part key (8 * place) n c.top_of-other.result (behind key (8 * place) c.top_of-other.result c.top_of-other.ensures.front) (omega arith) (omega arith)))
    c.compare_tops-order.result c.compare_tops-order.ensures
    (is_other c.compare_tops-order.result (sym c.is_ne.ensures ∙ c.if-is_ne.true))
    ∙ ap (λ (k : ℕ). bytes_cmp (take k (bytes_in (drop key_word its))) key) (omega arith)

pub loop-place-preserved : goal.loop-place-preserved
loop-place-preserved c = let place : ℕ = c.loop-place.place in
    let n : ℕ = c.min-count.result in let key : List ℕ = c.args.key.now in
    let inv = c.loop-place.invariant in let more = c.loop-place-test.true in
    let m = c.min-count.ensures in let t = c.min-stop.ensures in
    let d = c.div_ceil-place-end.ensures in
    let there : min c.min-stop.result (8 * place) ≡ 8 * place = omega arith in
    let there' : 8 * place - 0 ≡ 8 * place = omega arith in
    let next : 8 * place + n ≡ min c.min-stop.result (8 * (place + 1)) = omega arith in record {
      own = search rules;
      same = search rules;
      number = search rules;
      tally = search rules;
      kept = search rules;
      still = search rules;
      left = λ its s. let short = s.short in
          let len = c.requires.len its s in
          let word = c.load_word-word.ensures.word _
          (fixed_word c.loop-place.pass.seat.me.0.upper c.args.route its (key_word + place)
          (subst (λ (m : MyTree). IsRouteShown m.0.upper c.args.route its) (sym inv.still) s)
          (key_fixed place (omega arith))) in
          subst (IsLeft (bytes_in (drop key_word its)) key 0 (count its)) next
          (left_on (bytes_in (drop key_word its)) key 0 (count its) (8 * place) n c.load_word-word.result
          c.top_of-other.result (omega arith) (omega arith)
          (subst (IsLeft (bytes_in (drop key_word its)) key 0 (count its)) there (inv.left its s))
          (route_part its place n c.load_word-word.result s.long (omega arith) (omega arith) word)
          (subst (λ (k : ℕ). take n (to_be_bytes w64 c.top_of-other.result) ≡ take n (drop k key)) (sym there')
          (front_part key (8 * place) n c.top_of-other.result (behind key (8 * place) c.top_of-other.result c.top_of-other.ensures.front) (omega arith) (omega arith)))
          c.compare_tops-order.result c.compare_tops-order.ensures
          (is_equal c.compare_tops-order.result (sym c.is_ne.ensures ∙ c.if-is_ne.false)));
    }

pub returns-clause-order : goal.returns-clause-order
returns-clause-order c its s = let key : List ℕ = c.args.key.now in
    let bytes : List ℕ = bytes_in (drop key_word its) in
    let over = c.loop-place-test.false in let t = c.min-stop.ensures in
    let d = c.div_ceil-place-end.ensures in let auto = c.loop-place.auto in
    let short = s.short in let long = s.long in
    let len = c.requires.len its s in
    let all : min c.min-stop.result (8 * c.loop-place.place) ≡ c.min-stop.result = omega arith in
    let left = subst (IsLeft bytes key 0 (count its)) all (c.loop-place.invariant.left its s) in
    c.cmp.ensures
    ∙ (ap (λ (k : ℕ). nat_cmp k (length key)) (omega (arith, len))
    ∙ (left_none bytes key 0 (count its) c.min-stop.result (omega arith)
    (omega (arith, bytes_long (drop key_word its), length-drop key_word its)) (omega arith) left
    ∙ ap (λ (k : ℕ). bytes_cmp (take k bytes) key) (omega arith)))
