use Rattle.std.proofs.Common.{◌≡◌, ℕ, List, map, sym, ◌∙◌, ap, subst, arith}
use Rattle.ca_cmd.specs.Lines.{numbered}
use Rattle.ca_model.specs.StoreMap.{IsStoreMap}
use Rattle.ca_term.specs.Tree.{Tree}
use Rattle.ca_explain.specs.Stands.{Stands}
use Rattle.ca_replace.specs.Past.{TreePast, past_of}
use Rattle.ca_replace.specs.Resting.{numbers_of}
use Rattle.ca_rows.specs.declared.sizes.Sizes.{Sizes}
use Rattle.ca_client.specs.Ran.{HasRun}
use Rattle.ca_client.specs.declared.running.Ran.{Ran}
use Rattle.ca_client.proofs.Shares.{shares_left, closable, closed_map, has_run}
use Rattle.ca_client.proofs.Codes.{table_in, table_stands}
use Rattle.ca_client.proofs.running.run_clients.Goals as goal

pub close-requires : goal.close-requires
close-requires g c =
    let shared = c.enroll_all.new.tree.space.table.shared in
    let clients = c.in_ok-clients.clients in
    let parts = c.in_ok-parts.parts in
    closable shared.table_id shared.key 1 c.args.files.now parts.answers.items parts.passes.items
    (shares_left shared.table_id shared.key c.args.files.now clients.len clients.items c.as_mut_slice.result.now c.play_all.new.clients parts clients.ok.0
    c.as_mut_slice.ensures.value c.play_all.ensures.same c.in_ok-clients.ensures.ready c.play_all.ensures.played c.in_ok-parts.ensures)

pub of-requires : goal.of-requires
of-requires g c =
    let closed = c.in-Ok.closed in table_in closed.past.sizes.keypos closed.objects (closed_map closed.past closed.objects c.in-Ok.ensures.closed)

pub returns : goal.returns
returns g c =
    let space = c.enroll_all.new.tree.space in
    let shared = space.table.shared in
    let same = c.in_ok-passes.ensures.same in
    let clients = c.in_ok-clients.clients in
    let parts = c.in_ok-parts.parts in
    let past = c.in-Ok.closed.past in
    let objects = c.in-Ok.closed.objects in
    let files = c.args.files.now in
    let told : past ≡ past_of c.enroll_all.new.tree parts.passes.items = c.in-Ok.ensures.past in
    let ran : Ran = record { answers = parts.answers; table = c.of.result; splits = parts.splits; joins = parts.joins; past = past } in
    let shares = shares_left shared.table_id shared.key files clients.len clients.items c.as_mut_slice.result.now c.play_all.new.clients parts clients.ok.0
    c.as_mut_slice.ensures.value c.play_all.ensures.same c.in_ok-clients.ensures.ready c.play_all.ensures.played c.in_ok-parts.ensures in
    let past_keypos : past.sizes.keypos ≡ shared.key.keypos =
    ap (λ (p : TreePast). p.sizes.keypos) told ∙ ap (λ (z : Sizes). z.keypos) space.same in
    let keypos : shared.key.keypos ≡ c.args.keypos =
    ap (λ (z : Sizes). z.keypos) (sym space.same ∙ same.1) ∙ sym c.requires.keypos.0 in
    let wide : shared.key.passes ≡ c.args.tree.space.sizes.passes = ap (λ (z : Sizes). z.passes) (sym space.same ∙ same.1) in
    let few = c.requires.few in
    let map_is = subst (λ (k : ℕ). IsStoreMap k objects) past_keypos (closed_map past objects c.in-Ok.ensures.closed) in
    let table = table_in shared.key.keypos objects map_is in
    let stands : Stands shared.key.keypos objects c.of.result =
    subst (λ (terms : List Tree). Stands shared.key.keypos objects terms) (sym (c.of.ensures table.0 table.1))
    (table_stands shared.key.keypos objects table.0 map_is table.1) in
    record {
      ran = subst (λ (k : ℕ). HasRun k (map numbered files) ran) keypos
          (has_run shared.table_id shared.key files parts.passes.items objects ran shares (ap (λ (p : TreePast). p.sizes) told ∙ space.same)
          (omega (arith, few, wide)) (ap (λ (p : TreePast). p.passes) told)
          (ap (λ (p : TreePast). p.made) told ∙ c.in_ok-passes.ensures.made) c.in-Ok.ensures.closed stands
          c.in_ok-parts.ensures.splits_are c.in_ok-parts.ensures.joins_are);
      past = record {
        table = ap (λ (p : TreePast). p.table) told ∙ ap (λ s. numbers_of s.table_id) same.0;
        sizes = ap (λ (p : TreePast). p.sizes) told ∙ same.1;
        tuning = ap (λ (p : TreePast). p.tuning) told ∙ same.2;
      };
    }
