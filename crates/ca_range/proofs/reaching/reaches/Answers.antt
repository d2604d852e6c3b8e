use Rattle.std.proofs.Common.{◌≡◌, ◌≤◌, ◌/◌, ◌%◌, ℕ, List, get_or, ap, sym, ◌∙◌, subst, arith}
use Rattle.std.specs.Ordering.{is_lt, is_le}
use Rattle.ca_model.specs.Edges.{Excluded}
use Rattle.ca_model.specs.StoreMap.{bytes_cmp}
use Rattle.ca_node.specs.Row.{edge_form}
use Rattle.ca_node.specs.Told.{MyTree}
use Rattle.ca_node.specs.TreeView.{Border}
use Rattle.ca_node.specs.Layout.{count_limit}
use Rattle.ca_range.specs.Reaching.{IsBorderShown, IsKeyShown, reaches_by}
use Rattle.ca_range.proofs.Basing.{border_word, key_shown}
use Rattle.ca_range.proofs.Bounding.{of_none, of_included, of_excluded}
use Rattle.ca_range.proofs.reaching.reaches.Goals as goal

-- What the first word says up to where the range goes.
edge_is : (x : Border) (word : ℕ) → word ≡ get_or x.its 0 0 → edge_form x.its ≡ word / count_limit % 1099511627776
edge_is x word is = ap (λ (n : ℕ). n / count_limit % 1099511627776) (sym is)

-- The key of a row was shown whose first word says that it isn't too long.
key_is : (m m' : MyTree) (row word : ℕ) (x : Border) → m' ≡ m → IsBorderShown m.0.upper row x → word ≡ get_or x.its 0 0 → word % count_limit ≤ 1000
    → IsKeyShown m'.0.upper row x.its
key_is m m' row word x still s is less = let many = ap (λ (n : ℕ). n % count_limit) is in
    subst (λ (y : MyTree). IsKeyShown y.0.upper row x.its) (sym still) (key_shown m.0.upper row x s (omega arith))

-- The words of the row tell by comparing.
by_included : (c : goal.After-is_lt) (x : Border) → IsBorderShown c.args.pass.now.seat.me.0.upper c.args.border x
    → c.is_lt.result ≡ reaches_by x.its (Excluded c.args.key.now)
by_included c x s = let m = c.args.pass.now.seat.me in let less = c.if-word-gt1000.false in
    let word = c.load_word-word.ensures.word (get_or x.its 0 0) (border_word m.0.upper c.args.border 0 x s) in
    let key = c.copy_key.ensures.key x.its
    (key_is m c.load_word-word.new.pass.seat.me c.args.border c.load_word-word.result x c.load_word-word.ensures.frame.still s word (omega arith)) in
    c.is_lt.ensures ∙ (ap is_lt (c.cmp-order.ensures ∙ ap (λ (k : List ℕ). bytes_cmp k c.args.key.now) (c.deref.ensures.0 ∙ key))
    ∙ sym (of_included x.its c.args.key.now (edge_is x c.load_word-word.result word ∙ c.if-edge-eq-TO_KEY.true)))

by_excluded : (c : goal.After-is_le) (x : Border) → IsBorderShown c.args.pass.now.seat.me.0.upper c.args.border x
    → c.is_le.result ≡ reaches_by x.its (Excluded c.args.key.now)
by_excluded c x s = let m = c.args.pass.now.seat.me in let less = c.if-word-gt1000.false in
    let word = c.load_word-word.ensures.word (get_or x.its 0 0) (border_word m.0.upper c.args.border 0 x s) in
    let key = c.copy_key.ensures.key x.its
    (key_is m c.load_word-word.new.pass.seat.me c.args.border c.load_word-word.result x c.load_word-word.ensures.frame.still s word (omega arith)) in
    let edge = edge_is x c.load_word-word.result word in
    c.is_le.ensures ∙ (ap is_le (c.cmp-order.ensures ∙ ap (λ (k : List ℕ). bytes_cmp k c.args.key.now) (c.deref.ensures.0 ∙ key))
    ∙ sym (of_excluded x.its c.args.key.now (λ e. c.if-edge-eq-TO_NO_END.false (sym edge ∙ e)) (λ e. c.if-edge-eq-TO_KEY.false (sym edge ∙ e))))

pub load_word-word-requires-clause-shown : goal.load_word-word-requires-clause-shown
load_word-word-requires-clause-shown c = let s = c.requires.shown in (get_or s.0.its 0 0, border_word c.args.pass.now.seat.me.0.upper c.args.border 0 s.0 s.1)

pub copy_key-requires-clause-shown : goal.copy_key-requires-clause-shown
copy_key-requires-clause-shown c = let s = c.requires.shown in let less = c.if-word-gt1000.false in let m = c.args.pass.now.seat.me in (
  s.0.its,
  key_is m c.load_word-word.new.pass.seat.me c.args.border c.load_word-word.result s.0 c.load_word-word.ensures.frame.still s.1
      (c.load_word-word.ensures.word (get_or s.0.its 0 0) (border_word m.0.upper c.args.border 0 s.0 s.1)) (omega arith),
)

pub returns-then-edge-eq-TO_NO_END-clause-exact : goal.returns-then-edge-eq-TO_NO_END-clause-exact
returns-then-edge-eq-TO_NO_END-clause-exact c x s short =
    let word = c.load_word-word.ensures.word (get_or x.its 0 0) (border_word c.args.pass.now.seat.me.0.upper c.args.border 0 x s) in
    sym (of_none x.its c.args.key.now (edge_is x c.load_word-word.result word ∙ c.if-edge-eq-TO_NO_END.true))

pub returns-then-word-gt1000-clause-exact : goal.returns-then-word-gt1000-clause-exact
returns-then-word-gt1000-clause-exact c x s short = let u = c.args.pass.now.seat.me.0.upper in let more = c.if-word-gt1000.true in
    let many = ap (λ (n : ℕ). n % count_limit) (c.load_word-word.ensures.word (get_or x.its 0 0) (border_word u c.args.border 0 x s)) in absurd (omega arith)

pub returns-then-edge-eq-TO_KEY-clause-exact : goal.returns-then-edge-eq-TO_KEY-clause-exact
returns-then-edge-eq-TO_KEY-clause-exact c x s short = by_included c x s

pub returns-else-edge-eq-TO_KEY-clause-exact : goal.returns-else-edge-eq-TO_KEY-clause-exact
returns-else-edge-eq-TO_KEY-clause-exact c x s short = by_excluded c x s

pub returns-then-edge-eq-TO_KEY-clause-reaches : goal.returns-then-edge-eq-TO_KEY-clause-reaches
returns-then-edge-eq-TO_KEY-clause-reaches c x s is = sym (by_included c x s) ∙ is

pub returns-else-edge-eq-TO_KEY-clause-reaches : goal.returns-else-edge-eq-TO_KEY-clause-reaches
returns-else-edge-eq-TO_KEY-clause-reaches c x s is = sym (by_excluded c x s) ∙ is
