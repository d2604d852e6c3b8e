use Rattle.std.proofs.Common.{[], ◌∷◌, refl, ◌∙◌, ap}
use Rattle.ca_term.specs.Code.{escaped}
use Rattle.ca_order.proofs.Put.{IsPut, put_more, puts_all, puts_err}
use Rattle.ca_order.proofs.FirstZero.{escaped_run, escaped_no_zero}
use Rattle.ca_order.proofs.writing.put_escaped.Goals as goal

pub returns-in_err-put : goal.returns-in_err-put
returns-in_err-put c =
    let run = c.in-Some.run'.now in
    let behind = c.in-Some.behind.now in
    puts_err _ c.loop-run.into.items (escaped c.loop-run.rest.now) c.args.into.now.items (escaped c.args.bytes.now) run (0 ∷ 0xff ∷ escaped behind) _
    c.from_residual.ensures.0 c.loop-run.invariant (ap escaped c.in-Some.ensures.1 ∙ escaped_run run behind c.in-Some.ensures.0) c.in_err-put.ensures

pub returns-in_err-put-2 : goal.returns-in_err-put-2
returns-in_err-put-2 c =
    let run = c.in-Some.run'.now in
    let behind = c.in-Some.behind.now in
    let p : IsPut c.put.new.into.items (0 ∷ 0xff ∷ escaped behind) c.args.into.now.items (escaped c.args.bytes.now) =
    put_more c.loop-run.into.items (escaped c.loop-run.rest.now) c.args.into.now.items (escaped c.args.bytes.now) run
    (0 ∷ 0xff ∷ escaped behind) c.put.new.into.items
    c.loop-run.invariant (ap escaped c.in-Some.ensures.1 ∙ escaped_run run behind c.in-Some.ensures.0) c.in_ok-put.ensures in
    puts_err _ c.put.new.into.items (0 ∷ 0xff ∷ escaped behind) c.args.into.now.items (escaped c.args.bytes.now) (0 ∷ 0xff ∷ []) (escaped behind) _
    c.from_residual-in_err-put-2.ensures.0 p refl c.in_err-put-2.ensures

pub loop-run-preserved : goal.loop-run-preserved
loop-run-preserved c =
    let run = c.in-Some.run'.now in
    let behind = c.in-Some.behind.now in
    let p : IsPut c.put.new.into.items (0 ∷ 0xff ∷ escaped behind) c.args.into.now.items (escaped c.args.bytes.now) =
    put_more c.loop-run.into.items (escaped c.loop-run.rest.now) c.args.into.now.items (escaped c.args.bytes.now) run
    (0 ∷ 0xff ∷ escaped behind) c.put.new.into.items
    c.loop-run.invariant (ap escaped c.in-Some.ensures.1 ∙ escaped_run run behind c.in-Some.ensures.0) c.in_ok-put.ensures in
    put_more c.put.new.into.items (0 ∷ 0xff ∷ escaped behind) c.args.into.now.items (escaped c.args.bytes.now) (0 ∷ 0xff ∷ [])
    (escaped behind) c.put-in-Some.new.into.items p refl c.in_ok-put-2.ensures

pub returns-in_err-put-3 : goal.returns-in_err-put-3
returns-in_err-put-3 c =
    let rest = c.loop-run.rest.now in
    puts_err _ c.loop-run.into.items (escaped rest) c.args.into.now.items (escaped c.args.bytes.now) rest (0 ∷ 0 ∷ []) _
    c.from_residual-in_err-put-3.ensures.0 c.loop-run.invariant (escaped_no_zero rest c.in_default.ensures) c.in_err-put-3.ensures

pub returns : goal.returns
returns c =
    let rest = c.loop-run.rest.now in
    let p : IsPut c.put-2.new.into.items (0 ∷ 0 ∷ []) c.args.into.now.items (escaped c.args.bytes.now) =
    put_more c.loop-run.into.items (escaped rest) c.args.into.now.items (escaped c.args.bytes.now) rest (0 ∷ 0 ∷ []) c.put-2.new.into.items
    c.loop-run.invariant (escaped_no_zero rest c.in_default.ensures) c.in_ok-put-3.ensures in
    puts_all c.put-3.result c.put-2.new.into.items (0 ∷ 0 ∷ []) c.args.into.now.items (escaped c.args.bytes.now) c.put-3.new.into.items p c.put-3.ensures
