use Rattle.std.proofs.Common.{◌≡◌, suc, ◌-◌, ◌++◌, add-one, arith, sym, ◌∙◌, ap}
use Rattle.std.proofs.lemmas.Result.{MatchResult-weaker}
use Rattle.ca_order.specs.Languages.{zero_bytes}
use Rattle.ca_order.proofs.Faults.{refused}
use Rattle.ca_order.proofs.Sizes.{zero_fault, last_fault, zero_more, size_all}
use Rattle.ca_order.proofs.reading.read_size.Goals as goal

pub returns-in_err-rest : goal.returns-in_err-rest
returns-in_err-rest c =
    let k = c.loop.counter in
    refused _ _ _ _ c.from_residual.ensures.1 (zero_fault k (2 - k) c.args.most c.args.bytes.now c.loop.rest.now c.in_err-rest.field-0.0 (omega arith)
    c.loop.invariant c.in_err-rest.ensures)

pub loop-preserved : goal.loop-preserved
loop-preserved c =
    let more : c.args.bytes.now ≡ zero_bytes (suc c.loop.counter) ++ c.in_ok-rest.field-0.1.now =
    zero_more c.loop.counter c.in_ok-rest.field-0.0 c.args.bytes.now c.loop.rest.now c.in_ok-rest.field-0.1.now c.loop.invariant c.in_ok-rest.ensures.0
    c.in_ok-rest.ensures.1 in
    more ∙ ap (λ k. zero_bytes k ++ c.in_ok-rest.field-0.1.now) (sym (add-one c.loop.counter))

pub returns : goal.returns
returns c =
    let three : c.loop.counter ≡ 3 = omega arith in
    let rest = c.loop.rest.now in
    let all : c.args.bytes.now ≡ zero_bytes 3 ++ rest = c.loop.invariant ∙ ap (λ k. zero_bytes k ++ rest) three in
    MatchResult-weaker c.read_byte-2.result c.read_byte-2.ensures
    (λ p w. (w.0, size_all c.args.most p.0 c.args.bytes.now rest p.1.now c.requires w.0 all w.1))
    (λ e w. last_fault c.args.most c.args.bytes.now rest e all w)
