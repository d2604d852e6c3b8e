use Rattle.std.proofs.Common.{◌≡◌, ℕ, ◌+◌, ◌<◌, ◌++◌, ◌∷◌, [], List, vec_len, vec_capacity, sym, ap, ◌∙◌, subst, arith}
use Rattle.ca_rows.specs.declared.kept.KeptRows.{KeptRows}
use Rattle.ca_rows.specs.declared.sizes.Sizes.{Sizes}
use Rattle.ca_rows.specs.declared.view.Claimed.{Claimed}
use Rattle.ca_rows.specs.Kept.{AreKept}
use Rattle.ca_rows.specs.Told.{Mine}
use Rattle.ca_rows.proofs.Keeping.{retired_too, finds_room}
use Rattle.ca_rows.proofs.space.Space.retire.Goals as goal
use Rattle.ca_rows.specs.Layout.{row_limit}

pub push-requires-clause-room : goal.push-requires-clause-room
push-requires-clause-room g c = let p = c.args.pass.now in let told = c.retire_as-at.ensures.keeps in
    let frame = c.retire_as-at.ensures.frame in
    let some_rows = c.args.self.now.few.0 in
    let sized = ap (λ (z : Sizes). z.rows) c.requires.own.1 in let high = told.1 (omega arith) in
    let wide = c.requires.list.room in
    let found =
    finds_room g.R.RowRule.lent g.R.RowRule.fact c.args.self.now.table.shared.key p.seat.id
    p.seat.me.0 p.kept.rows c.args.row c.requires.list
    c.requires.mine told.0 (omega arith) in let less = found.0 in
    subst (λ (k : KeptRows).
    vec_len k.rows < vec_capacity k.rows) (sym frame.kept) (omega arith)

pub push-requires-clause-few : goal.push-requires-clause-few
push-requires-clause-few g c = let p = c.args.pass.now in let told = c.retire_as-at.ensures.keeps in
    let frame = c.retire_as-at.ensures.frame in
    let some_rows = c.args.self.now.few.0 in
    let sized = ap (λ (z : Sizes). z.rows) c.requires.own.1 in let high = told.1 (omega arith) in
    let few = c.args.self.now.few.1 in
    let found =
    finds_room g.R.RowRule.lent g.R.RowRule.fact c.args.self.now.table.shared.key p.seat.id
    p.seat.me.0 p.kept.rows c.args.row c.requires.list
    c.requires.mine told.0 (omega arith) in let less = found.0 in
    subst (λ (k : KeptRows). vec_len k.rows + 1 < row_limit) (sym frame.kept) (omega arith)

pub returns-clause-list : goal.returns-clause-list
returns-clause-list g c = let p = c.args.pass.now in let told = c.retire_as-at.ensures.keeps in
    let frame = c.retire_as-at.ensures.frame in
    let some_rows = c.args.self.now.few.0 in
    let sized = ap (λ (z : Sizes). z.rows) c.requires.own.1 in let high = told.1 (omega arith) in
    let rows : ℕ = c.args.self.now.table.shared.key.rows in
    let found =
    finds_room g.R.RowRule.lent g.R.RowRule.fact c.args.self.now.table.shared.key p.seat.id
    p.seat.me.0 p.kept.rows c.args.row c.requires.list
    c.requires.mine told.0 (omega arith) in
    let grown : c.push.new.self.rows.items
    ≡ p.kept.rows.items ++ record { row = c.args.row; at = c.retire_as-at.result; form = c.args.form } ∷ [] =
    c.push.ensures.rows ∙ ap
    (λ (k : KeptRows). k.rows.items ++ record {
      row =
          c.args.row;
      at = c.retire_as-at.result;
      form = c.args.form;
    } ∷ []) frame.kept in
    let same = ap (λ (k : KeptRows). vec_capacity k.rows) frame.kept in
    let more = c.push.ensures.room in let wide = c.requires.list.room in
    subst (λ (xs : List Claimed).
    AreKept rows xs c.push.new.self.rows)
    (sym (ap (λ (m : Mine g.row.R-Upper.Denot). m.0.claims) told.5))
    (retired_too rows p.seat.me.0.claims p.kept.rows c.push.new.self.rows c.requires.list c.args.row
    c.retire_as-at.result c.args.form told.0 (omega arith) found.1
    told.4 grown (omega arith))
