use Rattle.std.proofs.Common.{◌≡◌, ℕ, ◌≤◌, ◌+◌, ◌-◌, List, ◌∷◌, ◌++◌, length, slice_index, arith, sym, ◌∙◌, ap, subst, true, false}
use Rattle.ca_term.specs.declared.bounds.TheConstants.{MOST_CODE_POINTS, MOST_ELEMENTS}
use Rattle.ca_term.specs.Code.{four_bytes}
use Rattle.ca_term.specs.Levels.{HasTerm, HasRow}
use Rattle.ca_order.specs.Languages.{HasDigits, HasTuple, HasText, HasBytes}
use Rattle.ca_order.proofs.Faults.{refused, fault_at, fault_behind, fault_same}
use Rattle.ca_order.proofs.FirstBytes.{IsNoTag, atom_rest, binary_rest, tuple_rest}
use Rattle.ca_order.proofs.Lasts.{with_first_byte, digits_rest, stuck_no_tag, nil_term}
use Rattle.ca_order.proofs.Lists.{heads_more, heads_fault, head_fault, heads_term, row_none, row_more, item_fault, begins_tuple}
use Rattle.ca_order.proofs.Sizes.{size_fault, elements_rest, most_fits}
use Rattle.ca_order.proofs.Turned.{same_first}
use Rattle.ca_order.proofs.reading.+read.Goals as goal

-- ---- the items of a row

pub read_items-loop-init : goal.read_items-loop-init
read_items-loop-init t c = row_none c.args.levels c.args.bytes.now c.reserve.new.self.items (c.reserve.ensures.items ∙ c.new-items.ensures.items)

pub read_items-returns-in_err-item : goal.read_items-returns-in_err-item
read_items-returns-in_err-item t c =
    refused _ _ _ _ c.from_residual-in_err-item.ensures.1 (item_fault c.args.levels c.loop.counter c.args.count c.args.bytes.now c.loop.items.items c.loop.rest.now
    c.in_err-item.field-0.0 c.loop-test.true c.loop.invariant c.in_err-item.ensures)

pub read_items-loop-preserved : goal.read_items-loop-preserved
read_items-loop-preserved t c =
    row_more c.args.levels c.loop.counter c.args.bytes.now c.loop.items.items c.push.new.self.items c.loop.rest.now c.in_ok-item.item c.in_ok-item.behind.now
    c.loop.invariant c.in_ok-item.ensures c.in_ok-push.ensures.ok

-- ---- a term by its first byte

pub read_last-returns-in_default : goal.read_last-returns-in_default
read_last-returns-in_default t c =
    let bytes = c.args.bytes.now in
    fault_at (HasTerm c.args.levels) bytes bytes c.stuck.result c.stuck.ensures
    (stuck_no_tag c.args.levels bytes c.requires.least (λ b more e. absurd (omega (arith, ap length e, c.in_default.ensures.cases))))

pub read_last-returns-in-23-to-31 : goal.read_last-returns-in-23-to-31
read_last-returns-in-23-to-31 t c =
    let len : ℕ = 0x1f - c.in-Some.tag.now in
    let same : c.in-Some.tag.now ≡ 0x1f - len = omega arith in
    with_first_byte c.args.levels 1 (0x1f - len) (λ l. HasDigits true len) _ _ (λ p. p.0) (λ p. p.1.now)
    (record {
      least = c.requires.least;
      within = c.requires.least;
      parts = c.in-Some.ensures.cases.0 ∙ ap (λ (x : ℕ). x ∷ c.in-Some.inside.now) same;
      rest = λ l. digits_rest true len l (omega arith);
    }) c.read_integer.result c.read_integer.ensures

pub read_last-returns-in-32-to-40 : goal.read_last-returns-in-32-to-40
read_last-returns-in-32-to-40 t c =
    let len : ℕ = c.in-Some.tag.now - 0x20 in
    let same : c.in-Some.tag.now ≡ 0x20 + len = omega arith in
    with_first_byte c.args.levels 1 (0x20 + len) (λ l. HasDigits false len) _ _ (λ p. p.0) (λ p. p.1.now)
    (record {
      least = c.requires.least;
      within = c.requires.least;
      parts = c.in-Some.ensures.cases.0 ∙ ap (λ (x : ℕ). x ∷ c.in-Some.inside.now) same;
      rest = λ l. digits_rest false len l (omega arith);
    }) c.read_integer-in-32-to-40.result c.read_integer-in-32-to-40.ensures

pub read_last-returns-in-48 : goal.read_last-returns-in-48
read_last-returns-in-48 t c =
    with_first_byte c.args.levels 1 0x30 (λ l. HasText MOST_CODE_POINTS) _ _ (λ p. p.0) (λ p. p.1.now)
    (record {
      least = c.requires.least;
      within = c.requires.least;
      parts = c.in-Some.ensures.cases.0 ∙ ap (λ (x : ℕ). x ∷ c.in-Some.inside.now) c.in-48.is;
      rest = atom_rest;
    }) c.read_atom.result c.read_atom.ensures

pub read_last-returns-in-64 : goal.read_last-returns-in-64
read_last-returns-in-64 t c =
    with_first_byte c.args.levels (c.args.levels - 1 + 1) 0x40 HasTuple _ _ (λ p. p.0) (λ p. p.1.now)
    (record {
      least = c.requires.least;
      within = omega (arith, c.requires.least);
      parts = c.in-Some.ensures.cases.0 ∙ ap (λ (x : ℕ). x ∷ c.in-Some.inside.now) c.in-64.is;
      rest = tuple_rest;
    }) c.read_tuple.result c.read_tuple.ensures

pub read_last-returns-in-96 : goal.read_last-returns-in-96
read_last-returns-in-96 t c =
    let inside = c.in-Some.inside.now in
    let e : c.args.bytes.now ≡ 0x60 ∷ inside = c.in-Some.ensures.cases.0 ∙ ap (λ (x : ℕ). x ∷ inside) c.in-96.is in
    nil_term c.args.levels c.args.bytes.now inside c.nil.result c.requires.least e c.nil.ensures

pub read_last-returns-in-128 : goal.read_last-returns-in-128
read_last-returns-in-128 t c =
    with_first_byte c.args.levels 1 0x80 (λ l. HasBytes) _ _ (λ p. p.0) (λ p. p.1.now)
    (record {
      least = c.requires.least;
      within = c.requires.least;
      parts = c.in-Some.ensures.cases.0 ∙ ap (λ (x : ℕ). x ∷ c.in-Some.inside.now) c.in-128.is;
      rest = binary_rest;
    }) c.read_binary.result c.read_binary.ensures

pub read_last-returns-in_default-tag : goal.read_last-returns-in_default-tag
read_last-returns-in_default-tag t c =
    let bytes = c.args.bytes.now in
    let tag = c.in-Some.tag.now in
    let no_cons : 2 ≤ c.args.levels → tag ≡ 0x70 → ⊥ = λ h e. c.requires.no_cell h (ap (λ (x : List ℕ). slice_index x 0) c.in-Some.ensures.cases.0 ∙ e) in
    let none : IsNoTag c.args.levels tag = record {
      no_int = λ h k. grind arith;
      no_atom = λ e. grind arith;
      no_tuple = λ e. grind arith;
      no_nil = λ e. grind arith;
      no_cons = no_cons;
      no_binary = λ e. grind arith;
    } in
    fault_at (HasTerm c.args.levels) bytes bytes c.stuck-in_default-tag.result c.stuck-in_default-tag.ensures
    (stuck_no_tag c.args.levels bytes c.requires.least
    (λ b more e. subst (IsNoTag c.args.levels) (sym (same_first b tag more c.in-Some.inside.now bytes e c.in-Some.ensures.cases.0)) none))

-- ---- a list by its heads

pub read_list-returns-in_err-head : goal.read_list-returns-in_err-head
read_list-returns-in_err-head t c =
    let e = c.in_err-head.field-0.0 in
    let rest = c.loop-inside.rest.now in
    refused _ _ _ _ c.from_residual.ensures.1 (heads_fault c.args.levels c.args.bytes.now c.loop-inside.heads.items rest e c.requires.least
    c.loop-inside.invariant
    (head_fault c.args.levels rest c.in-Some.inside.now e c.requires.least c.in-Some.ensures.1 c.in_err-head.ensures))

pub read_list-loop-inside-preserved : goal.read_list-loop-inside-preserved
read_list-loop-inside-preserved t c =
    heads_more c.args.levels c.args.bytes.now c.loop-inside.heads.items c.push.new.self.items c.loop-inside.rest.now c.in-Some.inside.now c.in_ok-head.head
    c.in_ok-head.behind.now c.loop-inside.invariant c.in-Some.ensures.1 c.in_ok-head.ensures c.in_ok-push.ensures.ok

pub read_list-returns-in_err-last : goal.read_list-returns-in_err-last
read_list-returns-in_err-last t c =
    refused _ _ _ _ c.from_residual-in_err-last.ensures.1 (heads_fault c.args.levels c.args.bytes.now c.loop-inside.heads.items c.loop-inside.rest.now
    c.in_err-last.field-0.0 c.requires.least c.loop-inside.invariant c.in_err-last.ensures)

pub read_list-returns : goal.read_list-returns
read_list-returns t c =
    heads_term c.args.levels c.args.bytes.now c.loop-inside.heads.items c.loop-inside.rest.now c.in_ok-last.last c.in_ok-list.field-0 c.in_ok-last.behind.now
    c.requires.least c.requires.most c.loop-inside.invariant c.in_ok-last.ensures c.in_ok-list.ensures.ok

-- ---- a tuple

pub read_tuple-returns-in_err-count : goal.read_tuple-returns-in_err-count
read_tuple-returns-in_err-count t c =
    refused _ _ _ _ c.from_residual.ensures.1 (size_fault c.args.levels c.args.bytes.now c.in_err-count.field-0.0
    (rw c.most_elements.ensures at c.in_err-count.ensures))

pub read_tuple-returns-in_err-items : goal.read_tuple-returns-in_err-items
read_tuple-returns-in_err-items t c =
    let l = c.args.levels in
    let n = c.in_ok-count.count in
    let inside = c.in_ok-count.inside.now in
    let e = c.in_err-items.field-0.0 in
    let fits : n ≤ MOST_ELEMENTS = omega (arith, c.in_ok-count.ensures.0, c.most_elements.ensures, most_fits l) in
    refused _ _ _ _ c.from_residual-in_err-items.ensures.1 (fault_same (HasTuple l) c.args.bytes.now (four_bytes n ++ inside) e c.in_ok-count.ensures.1
    (fault_behind (HasTuple l) (HasRow l n) (four_bytes n) inside e (elements_rest l n fits) c.in_err-items.ensures))

pub read_tuple-returns : goal.read_tuple-returns
read_tuple-returns t c =
    let l = c.args.levels in
    let n = c.in_ok-count.count in
    let fits : n ≤ MOST_ELEMENTS = omega (arith, c.in_ok-count.ensures.0, c.most_elements.ensures, most_fits l) in
    begins_tuple l n c.args.bytes.now c.in_ok-count.inside.now c.in_ok-items.items.items c.in_ok-items.rest.now c.in_ok-tuple.field-0 c.requires fits
    c.in_ok-count.ensures.1 c.in_ok-items.ensures c.in_ok-tuple.ensures.ok
