use Rattle.std.proofs.Common.{◌≡◌, ◌+◌, ◌∷◌, [], ◌++◌, map, arith, ap, ◌∙◌, sym, append_assoc}
use Rattle.std.proofs.lemmas.List.{map-append}
use Rattle.ca_cmd.specs.Generator.{generated}
use Rattle.ca_cmd.specs.Lines.{numbered}
use Rattle.ca_cli.proofs.Made.{made_next}
use Rattle.ca_cli.proofs.lines.make_all.Goals as goal

pub loop-i-preserved : goal.loop-i-preserved
loop-i-preserved c =
    let own : numbered c.in_ok-lines.lines ≡ generated c.args.seed (c.loop-i.i + 1) c.args.count = c.in_ok-lines.ensures in
    let pushed : map numbered c.push_reserved.new.self.items ≡ map numbered c.loop-i.all.items ++ generated c.args.seed (c.loop-i.i + 1) c.args.count ∷ [] =
    ap (map numbered) c.push_reserved.ensures.items ∙ map-append numbered c.loop-i.all.items _ ∙ ap (λ x. map numbered c.loop-i.all.items ++ x ∷ []) own in
    record {
      made = made_next c.args.seed c.args.count c.loop-i.i c.args.clients _ _ (omega (arith, c.loop-i-test.true)) pushed ∙ c.loop-i.invariant.made;
      count = omega (arith, c.push_reserved.ensures.len, c.loop-i.invariant.count);
      spare = omega (arith, c.push_reserved.ensures.capacity, c.loop-i.invariant.spare);
    }
