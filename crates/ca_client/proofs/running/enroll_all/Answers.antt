use Rattle.std.proofs.Common.{◌≡◌, ◌+◌, ◌∷◌, ◌++◌, [], ◌≤◌, ℕ, List, length, vec_len, vec_capacity, sym, ◌∙◌, ap, subst, arith}
use Rattle.ca_node.specs.TreeView.{TreeView, blank}
use Rattle.ca_replace.specs.Resting.{IsResting}
use Rattle.ca_rows.specs.declared.sizes.Sizes.{Sizes}
use Rattle.ca_rows.specs.Rule.{fresh}
use Rattle.ca_client.specs.Sharing.{AreNew}
use Rattle.ca_client.proofs.Sharing.{new_more}
use Rattle.ca_client.proofs.running.enroll_all.Goals as goal

pub loop-alloc-preserved : goal.loop-alloc-preserved
loop-alloc-preserved c =
    let space = c.args.tree.now.space in
    let pass = c.in-Ok.pass in
    let passes = c.loop-alloc.made in
    let kept = c.loop-alloc.invariant in
    let now = c.in-Ok.ensures in
    let test = c.loop-alloc-test.true in
    let sizes : c.loop-alloc.tree.space.sizes ≡ space.table.shared.key = kept.sizes ∙ space.same in
    let counted : c.enroll.new.self.space.made ≡ c.loop-alloc.tree.space.made + 1 = now.counted in
    let number : pass.number ≡ 1 + length passes.items =
    now.number ∙ counted ∙ (let made = kept.made in let len = passes.ok.0 in omega (arith, made, len)) in
    let all = new_more space.table.shared.table_id space.table.shared.key 1 pass.number passes.items pass number kept.each record {
      begins = now.begins.1 ∙ ap (λ (z : Sizes). (fresh z pass.number (blank pass.number), [])) sizes;
      resting = subst (λ (z : Sizes). IsResting space.table.shared.table_id z pass.number pass.tally pass.kept.rows pass.seat)
          (ap (λ s. s.key) kept.shared) (subst (λ t. IsResting t c.loop-alloc.tree.space.table.shared.key pass.number pass.tally pass.kept.rows pass.seat)
          (ap (λ s. s.table_id) kept.shared) now.resting);
    } in record {
      shared = now.same.0 ∙ kept.shared;
      sizes = now.same.1 ∙ kept.sizes;
      tuning = now.same.2 ∙ kept.tuning;
      made = counted ∙ ap (λ (n : ℕ). n + 1) kept.made ∙ sym c.push_reserved.ensures.len;
      few = let len = c.push_reserved.ensures.len in let is = c.len.ensures in omega (arith, len, is, test);
      room = subst (λ (n : ℕ). c.args.count ≤ n) (sym c.push_reserved.ensures.capacity) kept.room;
      each = subst (λ ps. AreNew space.table.shared.table_id space.table.shared.key 1 ps) (sym c.push_reserved.ensures.items) all;
    }
