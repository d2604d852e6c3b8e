use Rattle.ca_base.proofs.writing.word_of.Goals as goal

pub returns : goal.returns
returns c = record {
  front = c.top_of.ensures.front;
  zeros = c.top_of.ensures.zeros;
}
