-- What a word with its arguments comes to, at each exit of its reader.
use Rattle.std.proofs.Common.{ℕ, List, Ok, Err, refl}
use Rattle.ca_term.specs.Tree.{Tree}
use Rattle.ca_cmd.specs.Argument.{AreArguments, IsEnd}
use Rattle.ca_cmd.specs.Finds.{IsFault}
use Rattle.ca_cmd.specs.Word.{Form, IsOfForm, count_of}
use Rattle.ca_cmd.specs.declared.fault.LineFault.{LineFault}
use Rattle.ca_cmd.specs.declared.fault.LineFault.TheVariants.{Refused, NoMemory}

module _ (size : ℕ) (form : Form) (bytes : List ℕ) where
  -- The line is refused at an argument.
  pub arguments_refused : (e : LineFault) → IsFault (AreArguments size bytes (count_of form)) e → IsFault (IsOfForm size form bytes) e
  arguments_refused (Refused at why) p = (Err (record { at = at; why = why }), p, refl)
  arguments_refused NoMemory p = tt

  -- The line is refused behind the last argument.
  pub end_refused : (terms : List Tree) (rest : List ℕ) (e : LineFault) → AreArguments size bytes (count_of form) (Ok (terms, rest))
      → IsFault (IsEnd size rest) e → IsFault (IsOfForm size form bytes) e
  end_refused terms rest (Refused at why) p q = (Ok (terms, rest), p, (Err (record { at = at; why = why }), q, refl))
  end_refused terms rest NoMemory p q = tt
