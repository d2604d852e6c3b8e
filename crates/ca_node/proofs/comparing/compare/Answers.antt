use Rattle.std.proofs.Common.{ℕ, List, ◌≡◌, ◌+◌, ◌%◌, length, get_or, take, drop, ap, sym, refl, subst, ◌∙◌, arith, length-drop}
use Rattle.std.specs.Ordering.{nat_cmp}
use Rattle.ca_model.specs.StoreMap.{bytes_cmp}
use Rattle.ca_node.specs.Layout.{key_word, count_limit}
use Rattle.ca_node.specs.Row.{bytes_in, count}
use Rattle.ca_node.specs.Told.{MyTree}
use Rattle.ca_node.specs.Walking.{IsRouteShown}
use Rattle.ca_node.proofs.KeyOrder.{IsLeft, is_equal, is_other, front_part, first_word, left_first, alike_left, decided, left_on, left_none}
use Rattle.ca_node.proofs.RouteWords.{fixed_word, first_fixed, key_fixed}
use Rattle.ca_node.proofs.WordOrder.{bytes_long, route_part}
use Rattle.ca_node.proofs.comparing.compare.Goals as goal

pub load_word-requires-clause-shown : goal.load_word-requires-clause-shown
load_word-requires-clause-shown c = let s = c.requires.shown in
    (get_or s.0 0 0, fixed_word c.args.pass.now.seat.me.0.upper c.args.route s.0 0 s.1 first_fixed)

pub returns-then-stop-eq0-clause-order : goal.returns-then-stop-eq0-clause-order
returns-then-stop-eq0-clause-order c its s = let key : List ℕ = c.args.key.now in
    let bytes : List ℕ = bytes_in (drop key_word its) in
    let t = c.min-stop.ensures in let none = c.if-stop-eq0.true in
    let short = s.short in let long = s.long in
    let first =
    c.load_word.ensures.word _
    (fixed_word c.args.pass.now.seat.me.0.upper c.args.route its 0 s first_fixed) in
    let len : c.load_word.result % count_limit ≡ count its = ap (λ (n : ℕ). n % count_limit) first in
    c.cmp.ensures
    ∙ (ap (λ (k : ℕ). nat_cmp k (length key)) (omega (arith, len))
    ∙ (left_none bytes key 0 (count its) 0 (omega arith)
    (omega (arith, bytes_long (drop key_word its), length-drop key_word its)) (omega arith)
    (left_first bytes key 0 (count its))
    ∙ ap (λ (k : ℕ). bytes_cmp (take k bytes) key) (omega arith)))

pub load_word-word-requires-clause-shown : goal.load_word-word-requires-clause-shown
load_word-word-requires-clause-shown c = let s = c.requires.shown in (
  get_or s.0 key_word 0,
  fixed_word c.load_word.new.pass.seat.me.0.upper c.args.route s.0 key_word
      (subst (λ (m : MyTree). IsRouteShown m.0.upper c.args.route s.0)
      (sym c.load_word.ensures.frame.still) s.1) (key_fixed 0 (omega arith)),
)

pub returns-then-is_ne-clause-order : goal.returns-then-is_ne-clause-order
returns-then-is_ne-clause-order c its s = let n : ℕ = c.min.result in
    let key : List ℕ = c.args.key.now in let bytes : List ℕ = bytes_in (drop key_word its) in
    let m = c.min.ensures in let t = c.min-stop.ensures in let some = c.if-stop-eq0.false in
    let first =
    c.load_word.ensures.word _
    (fixed_word c.args.pass.now.seat.me.0.upper c.args.route its 0 s first_fixed) in
    let len : c.load_word.result % count_limit ≡ count its = ap (λ (n : ℕ). n % count_limit) first in
    let word = c.load_word-word.ensures.word _
    (fixed_word c.load_word.new.pass.seat.me.0.upper c.args.route its key_word
    (subst (λ (m : MyTree). IsRouteShown m.0.upper c.args.route its) (sym c.load_word.ensures.frame.still) s)
    (key_fixed 0 (omega arith))) in
    decided bytes key 0 (count its) 0 n c.load_word-word.result c.args.front (omega arith) (omega arith)
    (left_first bytes key 0 (count its))
    (route_part its 0 n c.load_word-word.result s.long (omega arith) (omega arith) word)
    (front_part key 0 n c.args.front (first_word key 0 c.args.front refl c.requires.front) (omega arith) (omega arith))
    c.compare_tops-order.result c.compare_tops-order.ensures
    (is_other c.compare_tops-order.result (sym c.is_ne.ensures ∙ c.if-is_ne.true))
    ∙ ap (λ (k : ℕ). bytes_cmp (take k bytes) key) (omega arith)

pub returns-then-stop-le8-clause-order : goal.returns-then-stop-le8-clause-order
returns-then-stop-le8-clause-order c its s = let n : ℕ = c.min.result in
    let key : List ℕ = c.args.key.now in let bytes : List ℕ = bytes_in (drop key_word its) in
    let m = c.min.ensures in let t = c.min-stop.ensures in let some = c.if-stop-eq0.false in
    let few = c.if-stop-le8.true in let short = s.short in let long = s.long in
    let first =
    c.load_word.ensures.word _
    (fixed_word c.args.pass.now.seat.me.0.upper c.args.route its 0 s first_fixed) in
    let len : c.load_word.result % count_limit ≡ count its = ap (λ (n : ℕ). n % count_limit) first in
    let word = c.load_word-word.ensures.word _
    (fixed_word c.load_word.new.pass.seat.me.0.upper c.args.route its key_word
    (subst (λ (m : MyTree). IsRouteShown m.0.upper c.args.route its) (sym c.load_word.ensures.frame.still) s)
    (key_fixed 0 (omega arith))) in
    let left = left_on bytes key 0 (count its) 0 n c.load_word-word.result c.args.front (omega arith) (omega arith)
    (left_first bytes key 0 (count its))
    (route_part its 0 n c.load_word-word.result s.long (omega arith) (omega arith) word)
    (front_part key 0 n c.args.front (first_word key 0 c.args.front refl c.requires.front) (omega arith) (omega arith))
    c.compare_tops-order.result c.compare_tops-order.ensures
    (is_equal c.compare_tops-order.result (sym c.is_ne.ensures ∙ c.if-is_ne.false)) in
    c.cmp-then-stop-le8.ensures
    ∙ (ap (λ (k : ℕ). nat_cmp k (length key)) (omega (arith, len))
    ∙ (left_none bytes key 0 (count its) (0 + n) (omega arith)
    (omega (arith, bytes_long (drop key_word its), length-drop key_word its)) (omega (arith, len)) left
    ∙ ap (λ (k : ℕ). bytes_cmp (take k bytes) key) (omega arith)))

pub compare_rest-requires-clause-len : goal.compare_rest-requires-clause-len
compare_rest-requires-clause-len c its there =
    let s = subst (λ (m : MyTree). IsRouteShown m.0.upper c.args.route its)
    (c.load_word-word.ensures.frame.still ∙ c.load_word.ensures.frame.still) there in
    ap (λ (n : ℕ). n % count_limit)
    (c.load_word.ensures.word _
    (fixed_word c.args.pass.now.seat.me.0.upper c.args.route its 0 s first_fixed))

pub compare_rest-requires-clause-alike : goal.compare_rest-requires-clause-alike
compare_rest-requires-clause-alike c its there = let n : ℕ = c.min.result in
    let s = subst (λ (m : MyTree). IsRouteShown m.0.upper c.args.route its)
    (c.load_word-word.ensures.frame.still ∙ c.load_word.ensures.frame.still) there in
    let key : List ℕ = c.args.key.now in let bytes : List ℕ = bytes_in (drop key_word its) in
    let m = c.min.ensures in let t = c.min-stop.ensures in
    let many = c.if-stop-le8.false in
    let first =
    c.load_word.ensures.word _
    (fixed_word c.args.pass.now.seat.me.0.upper c.args.route its 0 s first_fixed) in
    let len : c.load_word.result % count_limit ≡ count its = ap (λ (n : ℕ). n % count_limit) first in
    let word = c.load_word-word.ensures.word _
    (fixed_word c.load_word.new.pass.seat.me.0.upper c.args.route its key_word
    (subst (λ (m : MyTree). IsRouteShown m.0.upper c.args.route its) (sym c.load_word.ensures.frame.still) s)
    (key_fixed 0 (omega arith))) in
    let eight : 0 + n ≡ 8 = omega arith in
    alike_left bytes key (count its) 8 (subst (IsLeft bytes key 0 (count its)) eight
    (left_on bytes key 0 (count its) 0 n c.load_word-word.result c.args.front (omega arith) (omega arith)
    (left_first bytes key 0 (count its))
    (route_part its 0 n c.load_word-word.result s.long (omega arith) (omega arith) word)
    (front_part key 0 n c.args.front (first_word key 0 c.args.front refl c.requires.front) (omega arith) (omega arith))
    c.compare_tops-order.result c.compare_tops-order.ensures
    (is_equal c.compare_tops-order.result (sym c.is_ne.ensures ∙ c.if-is_ne.false))))
