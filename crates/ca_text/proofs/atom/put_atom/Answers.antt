use Rattle.ca_text.proofs.Fronts.{begins_on}
use Rattle.ca_text.proofs.atom.put_atom.Goals as goal

pub returns-in_err-put_characters-clause-front : goal.returns-in_err-put_characters-clause-front
returns-in_err-put_characters-clause-front c = begins_on c.in_ok-put.ensures.front c.in_err-put_characters.ensures.front

pub returns-clause-front : goal.returns-clause-front
returns-clause-front c = begins_on (begins_on c.in_ok-put.ensures.front c.in_ok-put_characters.ensures.front) c.put-3.ensures.front
