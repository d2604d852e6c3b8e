use Rattle.std.proofs.Common.{◌≡◌, ℕ, List, ◌+◌, ◌-◌, ◌*◌, ◌++◌, length, ap, sym, ◌∙◌, arith, length-append, append_assoc, true, false}
use Rattle.std.specs.Mem.Slots.{slots_items}
use Rattle.ca_rows.specs.Layout.{row_words}
use Rattle.ca_node.specs.LastTree.{rows_under}
use Rattle.ca_close.proofs.Walking.{Forks, Ends, some_left, forks, ends}
use Rattle.ca_close.proofs.listing.+gather.Goals as goal

pub gather-requires : goal.gather-requires
gather-requires t c = let words = slots_items c.args.words.now.closed.words in let z = c.requires.walkable.0 in let w = c.requires.walkable.1 in
    let row : ℕ = c.follow-row.result.0 in let deep : ℕ = c.args.deep in
    let f : Forks z words c.args.link deep row =
    forks z words c.args.link deep w row c.follow-row.ensures.row (c.follow-row.ensures.route.0 c.if-is_route.true) in
    let some_more = some_left z words c.args.link deep w in let less = c.decreases in let room = c.requires.room in
    let all = ap length f.rows ∙ length-append (rows_under (deep - 1) words (row_words * row + 1)) (rows_under (deep - 1) words (row_words * row + 2)) in
    (omega arith, ((z, f.left), omega arith))

pub gather-requires-then-is_route : goal.gather-requires-then-is_route
gather-requires-then-is_route t c = let words = slots_items c.args.words.now.closed.words in let z = c.requires.walkable.0 in let w = c.requires.walkable.1 in
    let row : ℕ = c.follow-row.result.0 in let deep : ℕ = c.args.deep in
    let f : Forks z words c.args.link deep row =
    forks z words c.args.link deep w row c.follow-row.ensures.row (c.follow-row.ensures.route.0 c.if-is_route.true) in
    let some_more = some_left z words c.args.link deep w in let less = c.decreases in let room = c.requires.room in
    let lefts : List ℕ = rows_under (deep - 1) words (row_words * row + 1) in
    let all = ap length f.rows ∙ length-append lefts (rows_under (deep - 1) words (row_words * row + 2)) in
    let some = ap length c.gather.ensures.rows ∙ length-append c.args.rows.now.items lefts in let same = c.gather.ensures.room_is in
    (omega arith, ((z, f.right), omega arith))

pub push_items-requires-clause-few : goal.push_items-requires-clause-few
push_items-requires-clause-few t c = let words = slots_items c.args.words.now.closed.words in let w = c.requires.walkable.1 in
    let e : Ends words c.args.link c.args.deep c.follow-row.result.0 =
    ends c.requires.walkable.0 words c.args.link c.args.deep w c.follow-row.result.0 c.follow-row.ensures.row
    (λ is. let no : true ≡ false = sym (c.follow-row.ensures.route.1 is) ∙ c.if-is_route.false in cc) in e.few

pub push_items-requires-clause-room : goal.push_items-requires-clause-room
push_items-requires-clause-room t c = let words = slots_items c.args.words.now.closed.words in let w = c.requires.walkable.1 in
    let e : Ends words c.args.link c.args.deep c.follow-row.result.0 =
    ends c.requires.walkable.0 words c.args.link c.args.deep w c.follow-row.result.0 c.follow-row.ensures.row
    (λ is. let no : true ≡ false = sym (c.follow-row.ensures.route.1 is) ∙ c.if-is_route.false in cc) in
    let room = c.requires.room in let as_many = ap length e.rows in omega arith

pub returns-then-is_route-clause-rows : goal.returns-then-is_route-clause-rows
returns-then-is_route-clause-rows t c = let words = slots_items c.args.words.now.closed.words in let z = c.requires.walkable.0 in let w = c.requires.walkable.1 in
    let row : ℕ = c.follow-row.result.0 in let deep : ℕ = c.args.deep in
    let f : Forks z words c.args.link deep row =
    forks z words c.args.link deep w row c.follow-row.ensures.row (c.follow-row.ensures.route.0 c.if-is_route.true) in
    let lefts : List ℕ = rows_under (deep - 1) words (row_words * row + 1) in let rights : List ℕ = rows_under (deep - 1) words (row_words * row + 2) in
    c.gather-then-is_route.ensures.rows ∙ (ap (λ (xs : List ℕ). xs ++ rights) c.gather.ensures.rows
    ∙ (append_assoc c.args.rows.now.items lefts rights ∙ ap (λ (xs : List ℕ). c.args.rows.now.items ++ xs) (sym f.rows)))

pub returns-else-is_route-clause-rows : goal.returns-else-is_route-clause-rows
returns-else-is_route-clause-rows t c = let words = slots_items c.args.words.now.closed.words in let w = c.requires.walkable.1 in
    let e : Ends words c.args.link c.args.deep c.follow-row.result.0 =
    ends c.requires.walkable.0 words c.args.link c.args.deep w c.follow-row.result.0 c.follow-row.ensures.row
    (λ is. let no : true ≡ false = sym (c.follow-row.ensures.route.1 is) ∙ c.if-is_route.false in cc) in
    c.push_items.ensures.rows ∙ ap (λ (xs : List ℕ). c.args.rows.now.items ++ xs) (sym e.rows)
