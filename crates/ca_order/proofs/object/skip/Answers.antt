use Rattle.std.proofs.Common.{◌+◌, ◌-◌, arith}
use Rattle.ca_order.specs.KeyParts.{HasCodes}
use Rattle.ca_order.proofs.Skipped.{codes_le, codes_done, codes_more}
use Rattle.ca_order.proofs.object.skip.Goals as goal

pub skip_tag-opened-requires : goal.skip_tag-opened-requires
skip_tag-opened-requires c =
    let end = c.requires.0 in (
      c.loop-pending.pending - 1,
      end,
      codes_more c.loop-pending.pending c.loop-pending.rest.now end (omega arith)
          (c.loop-pending.invariant.codes end c.requires.1),
    )

pub overflow_add-pending : goal.overflow_add-pending
overflow_add-pending c =
    let end = c.requires.0 in
    let n = c.loop-pending.pending in
    let h : HasCodes (n - 1 + 1) c.loop-pending.rest.now end =
    codes_more n c.loop-pending.rest.now end (omega arith) (c.loop-pending.invariant.codes end c.requires.1) in
    let few = codes_le (n - 1 + c.skip_tag-opened.result.0) c.skip_tag-opened.result.1.now end (c.skip_tag-opened.ensures.codes (n - 1) end h) in
    omega (arith, few, c.skip_tag-opened.ensures.shorter, c.loop-pending.invariant.shorter)

pub loop-pending-preserved : goal.loop-pending-preserved
loop-pending-preserved c = record {
  codes = λ end h. c.skip_tag-opened.ensures.codes (c.loop-pending.pending - 1) end
      (codes_more c.loop-pending.pending c.loop-pending.rest.now end (omega arith) (c.loop-pending.invariant.codes end h));
  shorter = omega (arith, c.skip_tag-opened.ensures.shorter, c.loop-pending.invariant.shorter);
}

pub returns-clause-rest : goal.returns-clause-rest
returns-clause-rest c = λ end h. codes_done c.loop-pending.pending c.loop-pending.rest.now end (omega arith) (c.loop-pending.invariant.codes end h)
