use Rattle.std.proofs.Common.{◌≡◌, ◌++◌, ap, ◌∙◌}
use Rattle.std.specs.Str.{chars}
use Rattle.std.proofs.lemmas.Iterator.{YieldsList-from_chars}
use Rattle.std.proofs.lemmas.Iterator.Consumers.{YieldsList-end}
use Rattle.std.proofs.lemmas.List.{map-id, flat_map_more}
use Rattle.ca_text.specs.Text.{escaped_char}
use Rattle.ca_text.proofs.Fronts.{begins_by, begins_on}
use Rattle.ca_text.proofs.atom.put_characters.Goals as goal

pub returns-clause-ok : goal.returns-clause-ok
returns-clause-ok c =
    let t = YieldsList-end (YieldsList-from_chars c.args.text.now c.utf8.text cc)
    c.loop-c.yielded _ c.loop-c.yielded_by _ _ c.in-None.is c.next.ensures.steps in
    let all : c.loop-c.yielded ≡ chars c.args.text.now = rw (map-id c.loop-c.yielded) at t.0 in
    rw (← all) c.loop-c.invariant

pub loop-c-preserved : goal.loop-c-preserved
loop-c-preserved c =
    c.in_ok-put_character.ensures.ok ∙ ap (λ z. z ++ escaped_char c.in-Some.c) c.loop-c.invariant
    ∙ flat_map_more escaped_char c.args.into.now.items c.loop-c.yielded c.in-Some.c

pub returns-in_err-put_character-clause-front : goal.returns-in_err-put_character-clause-front
returns-in_err-put_character-clause-front c = begins_on (begins_by _ _ c.loop-c.invariant) c.in_err-put_character.ensures.front

pub returns-clause-front : goal.returns-clause-front
returns-clause-front c = begins_by _ _ c.loop-c.invariant
