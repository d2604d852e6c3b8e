use Rattle.std.proofs.Common.{◌≡◌, Some, sym, ◌∙◌}
use Rattle.std.proofs.lemmas.Bool.{false≢true}
use Rattle.bstr.specs.Utf8.{decoded}
use Rattle.ca_term.proofs.Characters.{a_scalar, fits, spelled, no_lead, no_character}
use Rattle.ca_term.proofs.utf8.character.Goals as goal

pub split_at-requires : goal.split_at-requires
split_at-requires c = fits c.args.bytes.now c.in-Some.char c.decode-char.result.1 (sym c.decode-char.ensures.char ∙ c.in-Some.is) c.decode-char.ensures.size

pub returns-in-Some-clause-read : goal.returns-in-Some-clause-read
returns-in-Some-clause-read c =
    let found : (decoded c.args.bytes.now).char ≡ Some c.in-Some.char = sym c.decode-char.ensures.char ∙ c.in-Some.is in
    spelled c.args.bytes.now c.split_at.result.1.now c.in-Some.char c.decode-char.result.1 found c.decode-char.ensures.size c.split_at.ensures.back

pub returns-in-Some-clause-scalar : goal.returns-in-Some-clause-scalar
returns-in-Some-clause-scalar c = a_scalar c.args.bytes.now c.in-Some.char (sym c.decode-char.ensures.char ∙ c.in-Some.is)

pub returns-in-None-clause-refused : goal.returns-in-None-clause-refused
returns-in-None-clause-refused c =
    let lead = c.begins_character.ensures.0 c.if-begins_character.true in
    no_character c.args.bytes.now c.decode-char.result.1 (sym c.decode-char.ensures.char ∙ c.in-None.is) c.decode-char.ensures.size lead.0 lead.1

pub returns-in-None-2-clause-refused : goal.returns-in-None-2-clause-refused
returns-in-None-2-clause-refused c =
    no_lead c.args.bytes.now (sym c.decode-char.ensures.char ∙ c.in-None.is) (λ h. false≢true
    (sym c.if-begins_character.false ∙ c.begins_character.ensures.1 h))
