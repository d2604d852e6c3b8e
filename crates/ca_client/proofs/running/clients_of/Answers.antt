use Rattle.std.proofs.Common.{◌≡◌, ◌+◌, ◌≤◌, ℕ, suc, List, [], ◌∷◌, ◌++◌, length, take, vec_capacity, sym, ◌∙◌, ap, subst, arith}
use Rattle.std.proofs.lemmas.List.{take_more}
use Rattle.std.specs.Vec.Iter.{into_iter_items}
use Rattle.ca_cmd.specs.declared.line.Line.{Line}
use Rattle.ca_client.specs.Sharing.{AreNew, AreReady}
use Rattle.ca_client.proofs.Sharing.{ready_more}
use Rattle.ca_client.proofs.running.clients_of.Goals as goal

pub loop-pass-preserved : goal.loop-pass-preserved
loop-pass-preserved c =
    let table = c.args.tree.now.space.table.shared.table_id in
    let z = c.args.tree.now.space.table.shared.key in
    let kept = c.loop-pass.invariant in
    let place = c.loop-pass.place in
    let clients = c.loop-pass.clients in
    let files = c.args.files.now in
    let file = c.index-files-place.result in
    let step = c.in-Some.ensures.steps in
    let all = subst (λ ps. AreNew table z (1 + place) ps) step.0 kept.each in
    let next : suc (1 + place) ≡ 1 + (place + 1) = omega arith in
    let one : length (into_iter_items c.loop-pass.pass-iterator) ≡ suc (length (into_iter_items c.next.new.self)) = ap (λ ps. length ps) step.0 in
    let number : 1 + place ≡ 1 + length clients.items = (let made = kept.made in let len = clients.ok.0 in omega (arith, made, len)) in
    let inside : suc place ≤ length files = (let places = kept.places in omega (arith, places, one)) in
    let taken : take (place + 1) files ≡ take place files ++ file ∷ [] =
    take_more files place file (omega (arith, inside)) ∙ ap (λ (f : List Line). take place files ++ f ∷ []) (sym c.index-files-place.is) in
    let ready = ready_more table z 1 (1 + place) (take place files) clients.items file c.client_on.result number kept.ready
    (c.client_on.ensures (1 + place) all.0) in record {
      left = let left = kept.left in let len = step.1 in omega (arith, left, len, one);
      places = let places = kept.places in omega (arith, places, one);
      each = subst (λ (n : ℕ). AreNew table z n (into_iter_items c.next.new.self)) next all.1;
      ready = subst (λ fs. AreReady table z 1 fs c.push_reserved.new.self.items) (sym taken)
          (subst (λ cs. AreReady table z 1 (take place files ++ file ∷ []) cs) (sym c.push_reserved.ensures.items) ready);
      made = c.push_reserved.ensures.len ∙ ap (λ (n : ℕ). n + 1) kept.made;
      room = subst (λ (n : ℕ). length files ≤ n) (sym c.push_reserved.ensures.capacity) kept.room;
    }
