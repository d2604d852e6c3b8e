use Rattle.std.proofs.Common.{◌≡◌, ◌+◌, ◌≤◌, ℕ, suc, [], ◌∷◌, ◌++◌, length, map, sym, ◌∙◌, ap, subst, arith, append_assoc}
use Rattle.std.proofs.lemmas.List.{length_push}
use Rattle.std.specs.Vec.Iter.{into_iter_items}
use Rattle.ca_replace.specs.Past.{left_by}
use Rattle.ca_client.specs.Ran.{splits_of, joins_of}
use Rattle.ca_client.specs.Sharing.{AreParts}
use Rattle.ca_client.proofs.Sharing.{parts_more, splits_more, joins_more}
use Rattle.ca_client.proofs.running.parts_of.Goals as goal

pub loop-client-preserved : goal.loop-client-preserved
loop-client-preserved c =
    let kept = c.loop-client.invariant in
    let yielded = c.loop-client.yielded in
    let client = c.in-Some.client in
    let answers = c.in-Some-part_of.answers in
    let pass = c.in-Some-part_of.pass in
    let all = c.loop-client.all in
    let passes = c.loop-client.passes in
    let left = into_iter_items c.next.new.self in
    let step = c.in-Some.ensures.steps in
    let part = c.in-Some-part_of.ensures in
    let told = c.adapted-splits_more.ensures in
    let behind = c.push_reserved.ensures in
    let taken = c.push_reserved-in-loop-client.ensures in
    let one : length (into_iter_items c.loop-client.client-iterator) ≡ suc (length left) = ap (λ cs. length cs) step.0 in
    let more = parts_more yielded all.items passes.items client answers pass kept.each part.0 in record {
      items = kept.items ∙ ap (λ cs. yielded ++ cs) step.0 ∙ sym (append_assoc yielded (client ∷ []) left);
      left = let before = kept.left in let len = step.1 in omega (arith, before, len, one);
      each = subst (λ xs. AreParts (yielded ++ client ∷ []) xs c.push_reserved-in-loop-client.new.self.items) (sym behind.items)
          (subst (λ ps. AreParts (yielded ++ client ∷ []) (all.items ++ answers ∷ []) ps) (sym taken.items) more);
      answers = behind.len ∙ ap (λ (n : ℕ). n + 1) kept.answers ∙ sym (length_push yielded client);
      taken = taken.len ∙ ap (λ (n : ℕ). n + 1) kept.taken ∙ sym (length_push yielded client);
      room = subst (λ (n : ℕ). length c.args.clients.items ≤ n) (sym behind.capacity) kept.room;
      room_too = subst (λ (n : ℕ). length c.args.clients.items ≤ n) (sym taken.capacity) kept.room_too;
      splits = c.saturating_add-splits.ensures
          ∙ splits_more passes.items pass c.loop-client.splits c.adapted-splits_more.result.0 kept.splits (told.splits ∙ part.1.0)
          ∙ ap (λ ps. splits_of (map left_by ps)) (sym taken.items);
      joins = c.saturating_add-joins.ensures
          ∙ joins_more passes.items pass c.loop-client.joins c.adapted-splits_more.result.1 kept.joins (told.joins ∙ part.1.1)
          ∙ ap (λ ps. joins_of (map left_by ps)) (sym taken.items);
    }
