-- One line has one content.
use Rattle.std.proofs.Common.{◌≡◌, ℕ, zero, suc, true, false, List, [], ◌∷◌, ◌++◌, length, drop, Option, None, Some, Result, Ok, Err, sym, ◌∙◌, ap, subst}
use Rattle.std.specs.Prelude.{MatchBool, eqb, take}
use Rattle.ca_term.specs.Tree.{Tree}
use Rattle.ca_ets.specs.Command.{Command}
use Rattle.ca_text.specs.declared.fault.TextFault.{TextFault}
use Rattle.ca_text.specs.declared.fault.TextFault.TheVariants as text
use Rattle.ca_cmd.proofs.TermTexts.{term_sure}
use Rattle.ca_cmd.specs.Argument.{Refused, Found, IsThen, IsAfter, apart, IsTermRefused, IsTermAt, IsFirstTerm, IsArgument, AreArguments, IsEnd}
use Rattle.ca_cmd.specs.Word.{Form, form_of, count_of, word_of, command_with, word_length, IsWhole, IsOfForm, IsOfText, IsCommand}
use Rattle.ca_cmd.specs.declared.word.Word.{Word}
use Rattle.ca_cmd.specs.Content.{IsHeld, IsText, IsLine, text_in, percent}

-- at most one value is found
abbrev pub IsSure : {B : Type 0} → (Found B → Type 0) → Type 0
IsSure {B} Is = (x y : Found B) → Is x → Is y → x ≡ y

then_sure : {A B : Type 0} (first : Found A) (Follows : A → Found B → Type 0) → ((a : A) → IsSure (Follows a)) → IsSure (λ found. IsThen first Follows found)
then_sure (Ok a) Follows sure x y p q = sure a x y p q
then_sure (Err e) Follows sure x y p q = p ∙ sym q

-- What is found, and then what follows it, is one.
after_sure : {A B : Type 0} (Is : Found A → Type 0) (Follows : A → Found B → Type 0) → IsSure Is → ((a : A) → IsSure (Follows a))
    → IsSure (IsAfter Is Follows)
after_sure Is Follows sure follows x y p q =
    then_sure p.0 Follows follows x y p.2 (subst (λ f. IsThen f Follows y) (sym (sure p.0 q.0 p.1 q.1)) q.2)

refused_sure : (size : ℕ) (bytes : List ℕ) (fault : TextFault) (x y : Refused) → IsTermRefused size bytes fault x → IsTermRefused size bytes fault y → x ≡ y
refused_sure size bytes (text.Syntax at) x y p q = p ∙ sym q
refused_sure size bytes (text.AtomTooLong at) x y p q = p ∙ sym q
refused_sure size bytes (text.TooDeep at) x y p q = p ∙ sym q
refused_sure size bytes (text.TooWide at) x y p q = p ∙ sym q
refused_sure size bytes text.NoMemory x y p q = absurd p

ok_same : {A B : Type 0} (x y : A) → ◌≡◌ {A = Result A B} (Ok x) (Ok y) → x ≡ y
ok_same x y e = cc

term_at_sure : (size : ℕ) (bytes : List ℕ) → IsSure (IsTermAt size bytes)
term_at_sure size bytes (Ok x) (Ok y) p q =
    let e : (x.0, p.0) ≡ (y.0, q.0) = ok_same (x.0, p.0) (y.0, q.0) (term_sure bytes (Ok (x.0, p.0)) (Ok (y.0, q.0)) p.1 q.1) in
    let rest : x.1 ≡ y.1 = p.2 ∙ ap (λ (z : Tree × ℕ). drop z.1 bytes) e ∙ sym q.2 in
    λ i. Ok ((e i).0, rest i)
term_at_sure size bytes (Ok x) (Err f) p q = let e = term_sure bytes (Ok (x.0, p.0)) (Err q.0) p.1 q.1 in absurd cc
term_at_sure size bytes (Err e) (Ok y) p q = let e = term_sure bytes (Err p.0) (Ok (y.0, q.0)) p.1 q.1 in absurd cc
term_at_sure size bytes (Err e) (Err f) p q =
    let same : p.0 ≡ q.0 = let h = term_sure bytes (Err p.0) (Err q.0) p.1 q.1 in cc in
    ap (λ (z : Refused). Err z) (refused_sure size bytes p.0 e f p.2 (subst (λ z. IsTermRefused size bytes z f) (sym same) q.2))

first_term_sure : (size : ℕ) (bytes : List ℕ) → IsSure (IsFirstTerm size bytes)
first_term_sure size [] x y p q = p ∙ sym q
first_term_sure size (b ∷ bytes) x y p q = term_at_sure size (b ∷ bytes) x y p q

argument_sure : (size : ℕ) (bytes : List ℕ) → IsSure (IsArgument size bytes)
argument_sure size bytes = then_sure (apart size bytes) (λ rest. IsFirstTerm size rest) (first_term_sure size)

end_sure : (size : ℕ) (bytes : List ℕ) → IsSure (IsEnd size bytes)
end_sure size bytes = then_sure (apart size bytes) _ (λ rest x y p q. p ∙ sym q)

whole_sure : (size : ℕ) (command : Command) (bytes : List ℕ) → IsSure (IsWhole size command bytes)
whole_sure size command bytes = after_sure (IsEnd size bytes) (λ u whole. whole ≡ Ok command) (end_sure size bytes) (λ u x y p q. p ∙ sym q)

arguments_sure : (size : ℕ) (bytes : List ℕ) (count : ℕ) → IsSure (AreArguments size bytes count)
arguments_sure size bytes zero x y p q = p ∙ sym q
arguments_sure size bytes (suc count) x y p q =
    after_sure (AreArguments size bytes count) (λ x. IsAfter (IsArgument size x.1) (λ y more. more ≡ Ok (x.0 ++ y.0 ∷ [], y.1)))
    (arguments_sure size bytes count)
    (λ x. after_sure (IsArgument size x.1) (λ y more. more ≡ Ok (x.0 ++ y.0 ∷ [], y.1)) (argument_sure size x.1) (λ y a b p q. p ∙ sym q)) x y p q

form_sure : (size : ℕ) (form : Form) (rest : List ℕ) → IsSure (IsOfForm size form rest)
form_sure size form rest =
    after_sure (AreArguments size rest (count_of form)) (λ x. IsWhole size (command_with form x.0) x.1) (arguments_sure size rest (count_of form))
    (λ x. whole_sure size (command_with form x.0) x.1)

of_text_sure : (size : ℕ) (text : List ℕ) (word : Option Word) (rest : List ℕ) → IsSure (IsOfText size text word rest)
of_text_sure size text None rest x y p q = p ∙ sym q
of_text_sure size text (Some word) rest x y p q = form_sure size (form_of word) rest x y p q

command_sure : (size : ℕ) (bytes : List ℕ) → IsSure (IsCommand size bytes)
command_sure size bytes = of_text_sure size bytes (word_of (take (word_length bytes) bytes)) (drop (word_length bytes) bytes)

held_sure : (size : ℕ) (bytes : List ℕ) → IsSure (IsAfter (IsCommand size bytes) IsHeld)
held_sure size bytes = after_sure (IsCommand size bytes) IsHeld (command_sure size bytes) (λ c x y p q. p ∙ sym q)

text_sure : (size : ℕ) (bytes : List ℕ) → IsSure (IsText size bytes)
text_sure size [] x y p q = p ∙ sym q
text_sure size (b ∷ bytes) x y p q =
    elim (eqb b percent) as (λ z. MatchBool z (x ≡ Ok None) (IsAfter (IsCommand size (b ∷ bytes)) IsHeld x)
    → MatchBool z (y ≡ Ok None) (IsAfter (IsCommand size (b ∷ bytes)) IsHeld y) → x ≡ y) [
      | true ↦ λ p q. p ∙ sym q
      | false ↦ λ p q. held_sure size (b ∷ bytes) x y p q
    ] p q

-- A line has one content.
pub line_sure : (line : List ℕ) → IsSure (IsLine line)
line_sure line = then_sure (text_in line) (IsText (length line)) (text_sure (length line))
