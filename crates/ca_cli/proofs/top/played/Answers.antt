use Rattle.std.proofs.Common.{rules, ◌≡◌, ◌≤◌, length, map, arith, sym, ◌∙◌, ap, subst, inr, Some}
use Rattle.std.proofs.lemmas.List.{length-map}
use Rattle.std.proofs.lemmas.Result.{err_from_is_err_and}
use Rattle.std.specs.Option.{option_map}
use Rattle.std.specs.String.{string_bytes}
use Rattle.ca_cmd.specs.Lines.{numbered}
use Rattle.ca_words.specs.Grammar.{IsBounded, IsLineOf}
use Rattle.ca_words.specs.Words.{asking_in, request_in}
use Rattle.ca_cli.proofs.Bounded.{clients_bounded}
use Rattle.ca_cli.proofs.top.played.Goals as goal

pub returns-in_err-files-clause-early : goal.returns-in_err-files-clause-early
returns-in_err-files-clause-early g c =
    let line = c.in-Some.line in
    let found : option_map asking_in c.in-Ok.line ≡ Some (asking_in line) = search rules in
    let p = err_from_is_err_and c.from_residual.result c.from_residual.ensures.1 in
    rw (p.1, p.2) (c.in_err-files.ensures.refused (map string_bytes c.args.words.now) line.tree (c.in-Ok.ensures.sound _ _ found))

pub play-requires-clause-clients : goal.play-requires-clause-clients
play-requires-clause-clients g c κs within =
    let bounded : IsBounded (request_in c.in-Some.line.request) = search rules in
    let files = c.in_ok-files.files.items in
    let few = clients_bounded _ _ (request_in c.in-Some.line.request) (map numbered files) bounded c.in_ok-files.ensures.found in
    let same = length-map files numbered in
    let long : length c.as_slice.result.now ≡ length files = ap (λ l. length l) c.as_slice.ensures.value in
    (omega (arith, few.0, same, long), omega (arith, few.1, same, long))

pub returns-in_default-play-clause-early : goal.returns-in_default-play-clause-early
returns-in_default-play-clause-early g c =
    let line = c.in-Some.line in
    let found : option_map asking_in c.in-Ok.line ≡ Some (asking_in line) = search rules in
    inr (inr (record {
      request = request_in line.request;
      options = line.tree;
      asked = c.in-Ok.ensures.sound _ _ found;
      lines = map numbered c.in_ok-files.files.items;
      found = c.in_ok-files.ensures.found;
    }))

pub returns-clause-played : goal.returns-clause-played
returns-clause-played g c =
    let line = c.in-Some.line in
    let found : option_map asking_in c.in-Ok.line ≡ Some (asking_in line) = search rules in
    record {
      accepted = record {
        request = request_in line.request;
        options = line.tree;
        asked = c.in-Ok.ensures.sound _ _ found;
        lines = map numbered c.in_ok-files.files.items;
        found = c.in_ok-files.ensures.found;
      };
      run = rw c.as_slice.ensures.value at c.in-Ok-play.ensures.run;
      written = c.in-Ok-play.ensures.bytes;
    }
