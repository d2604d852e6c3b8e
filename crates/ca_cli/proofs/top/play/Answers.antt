use Rattle.std.proofs.Common.{ℕ, map, subst}
use Rattle.ca_cmd.specs.File.{commands_in}
use Rattle.ca_cmd.specs.Lines.{numbered}
use Rattle.ca_client.specs.Ran.{HasRun}
use Rattle.ca_cli.specs.Opening.{IsMadeFor}
use Rattle.ca_cli.proofs.Openings.{made_for}
use Rattle.ca_cli.proofs.top.play.Goals as goal

pub returns-clause-run : goal.returns-clause-run
returns-clause-run g c =
    let all = map commands_in (map numbered c.args.files.now) in
    let keypos = c.keypos_of-keypos.result in
    let tree = c.in_ok-tree.tree in
    let ran = c.in_ok-ran.ran in
    record {
      made = subst (λ (n : ℕ). IsMadeFor n c.args.line.tree all ran.past) c.keypos_of-keypos.ensures
          (made_for keypos c.args.line.tree all tree ran.past c.in_ok-tree.ensures.made c.in_ok-ran.ensures.past);
      played = subst (λ (n : ℕ). HasRun n (map numbered c.args.files.now) ran) c.keypos_of-keypos.ensures c.in_ok-ran.ensures.ran;
    }
