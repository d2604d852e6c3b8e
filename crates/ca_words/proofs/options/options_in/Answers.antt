use Rattle.std.proofs.Common.{rules, ◌≡◌, ◌∙◌, ◌==◌, sym, ap, refl, subst, inl, inr, map, length, arith, true, false, List, [], ◌∷◌, Option, None, ℕ, if◌then◌else◌}
use Rattle.std.proofs.lemmas.Bool.Decides.{nat_tests}
use denote.Enum.Bare.{sameb}
use Rattle.clap.specs.contracts.error.kind.ErrorKind as kinds
use Rattle.clap.specs.Kinds.{HasKind, Kinds}
use Rattle.clap.specs.Values.{kind_of}
use Rattle.clap.specs.declared.error.Error.{Error}
use Rattle.clap.specs.declared.error.kind.ErrorKind.TheVariants.{OutOfMemory}
use Rattle.std.specs.String.{string_bytes}
use Rattle.clap.specs.Words.{app_of, fault_of, first_of, found_of, is_simple, is_simple_and_free, matches_of}
use Rattle.clap.proofs.WalkLemmas.{first_value-rows}
use Rattle.ca_words.specs.declared.words.Name.{Name}
use Rattle.ca_words.specs.declared.words.Name.TheVariants.{Keypos, Seed, Clients, Lines, Rows, Levels, Leaf, High, Low, Calm, Heat}
use Rattle.ca_words.specs.Words.{bare, command, flag, given_in, options_in}
use Rattle.ca_words.proofs.options.options_in.Goals as goal

same_texts : (f g : Name → Option (List ℕ)) (shown told : Option (List ℕ)) → ((n : Name) → f n ≡ g n) → shown ≡ told → given_in f shown ≡ given_in g told
same_texts f g shown told same flags = rw (same Keypos, same Seed, same Clients, same Lines, same Rows, same Levels, same Leaf, same High, same Low, same Calm, same Heat, flags) refl

is_read : is_simple command ≡ true
is_read = refl

is_free : is_simple_and_free command ≡ true
is_free = refl

pub returns-in-Ok : goal.returns-in-Ok
unfolding options_in
returns-in-Ok c =
    let app : app_of c.in_ok-command.field-0 ≡ command = search rules in
    let words : List (List ℕ) = map string_bytes c.args.words.now in
    let rows = (c.in-Ok.ensures.matches (ap is_simple app)).0 ∙ ap (λ a. matches_of a words) app in
    let none = c.in-Ok.ensures.kinds (ap is_simple_and_free app) in
    let fine = sym (ap (λ a. fault_of a words) app) ∙ none in
    c.given_in.ensures ∙ same_texts _ (λ n. first_of (bare n) (matches_of command words)) _
    (first_of flag (matches_of command words)) (λ n. first_value-rows (found_of c.in-Ok.matches) (bare n) ∙ ap (first_of (bare n)) rows)
    (first_value-rows (found_of c.in-Ok.matches) flag ∙ ap (first_of flag) rows)
    ∙ rw fine refl

-- where a kind may come, there are no values
none_of : {X : Type 0} (kinds : Kinds) (e : Error) (given : Option X) → HasKind kinds e → (kind_of e ≡ OutOfMemory → ⊥)
    → None ≡ (if length kinds == 0 then given else None)
none_of [] e given (inl memory) other = absurd (other memory)
none_of [] e given (inr h) other = absurd h
none_of (k ∷ kinds) e given h other = let some : (length (k ∷ kinds) == 0) ≡ false = grind (arith, nat_tests) in rw some refl

pub returns-in-Err-2 : goal.returns-in-Err-2
unfolding options_in
returns-in-Err-2 c =
    let app : app_of c.in_ok-command.field-0 ≡ command = search rules in
    let words : List (List ℕ) = map string_bytes c.args.words.now in
    let fails = c.in-Err.ensures.kinds (ap is_simple_and_free app) in
    let h : HasKind (fault_of command words) c.in-Err.error = subst (λ a. HasKind (fault_of a words) c.in-Err.error) app fails in
    none_of (fault_of command words) c.in-Err.error _ h (λ memory.
    let same : false ≡ true = c.if-eq.ensures ∙ ap (λ k. sameb kinds.the_type k OutOfMemory) (c.kind.ensures ∙ memory) in absurd cc)
