use Rattle.std.proofs.Common.{arith}
use Rattle.ca_order.proofs.Skipped.{codes_done, from_none}
use Rattle.ca_order.proofs.object.skip_one.Goals as goal

pub skip_tag-opened-requires : goal.skip_tag-opened-requires
skip_tag-opened-requires c = (0, c.requires.0, c.requires.1)

pub returns-then-opened-eq0-clause-rest : goal.returns-then-opened-eq0-clause-rest
returns-then-opened-eq0-clause-rest c = λ end h.
    codes_done c.skip_tag-opened.result.0 c.skip_tag-opened.result.1.now end (omega arith)
    (from_none c.skip_tag-opened.result.0 c.skip_tag-opened.result.1.now end (c.skip_tag-opened.ensures.codes 0 end h))

pub skip-requires : goal.skip-requires
skip-requires c = (
  c.requires.0,
  from_none c.skip_tag-opened.result.0 c.skip_tag-opened.result.1.now c.requires.0 (c.skip_tag-opened.ensures.codes 0 c.requires.0 c.requires.1),
)

pub returns-clause-rest : goal.returns-clause-rest
returns-clause-rest c = λ end h.
    c.skip.ensures.rest end
    (from_none c.skip_tag-opened.result.0 c.skip_tag-opened.result.1.now end (c.skip_tag-opened.ensures.codes 0 end h))
