-- Arguments one after another.
use Rattle.std.proofs.Common.{◌≡◌, ℕ, zero, suc, ◌+◌, ◌-◌, ◌≤◌, ◌<◌, List, [], ◌∷◌, ◌++◌, length, Ok, Err, refl, arith}
use Rattle.ca_term.specs.Tree.{Tree}
use Rattle.ca_cmd.specs.Argument.{Refused, AreArguments, IsArgument}
use Rattle.ca_cmd.specs.Finds.{IsFault}
use Rattle.ca_cmd.specs.Word.{at_place}
use Rattle.ca_cmd.specs.declared.fault.LineFault.{LineFault}
use Rattle.ca_cmd.specs.declared.fault.LineFault.TheVariants as fault

-- One more argument stands behind those so far.
pub one_more : (size : ℕ) (bytes : List ℕ) (count : ℕ) (terms : List Tree) (rest after : List ℕ) (t : Tree) → AreArguments size bytes count (Ok (terms, rest))
    → IsArgument size rest (Ok (t, after)) → AreArguments size bytes (suc count) (Ok (terms ++ t ∷ [], after))
one_more size bytes count terms rest after t p q = (Ok (terms, rest), p, (Ok (t, after), q, refl))

-- so many more
abbrev and_more : ℕ → ℕ → ℕ
and_more zero count = count
and_more (suc more) count = suc (and_more more count)

and_more_is : (more count : ℕ) → and_more more count ≡ more + count
and_more_is zero count = omega arith
and_more_is (suc more) count = omega (arith, and_more_is more count)

-- Where an argument is refused, no further one is looked for.
still_refused : (size : ℕ) (bytes : List ℕ) (count more : ℕ) (e : Refused) → AreArguments size bytes count (Err e)
    → AreArguments size bytes (and_more more count) (Err e)
still_refused size bytes count zero e p = p
still_refused size bytes count (suc more) e p = (Err e, still_refused size bytes count more e p, refl)

-- A fault of one more argument is a fault of all arguments.
pub stays_refused : (size : ℕ) (bytes : List ℕ) (count whole : ℕ) (terms : List Tree) (rest : List ℕ) (e : LineFault)
    → AreArguments size bytes count (Ok (terms, rest)) → IsFault (IsArgument size rest) e → suc count ≤ whole → IsFault (AreArguments size bytes whole) e
stays_refused size bytes count whole terms rest (fault.Refused at why) p q h =
    let e : Refused = record { at = at; why = why } in
    let here : AreArguments size bytes (suc count) (Err e) = (Ok (terms, rest), p, (Err e, q, refl)) in
    let same : and_more (whole - suc count) (suc count) ≡ whole = omega (arith, and_more_is (whole - suc count) (suc count)) in
    rw same at (still_refused size bytes (suc count) (whole - suc count) e here)
stays_refused size bytes count whole terms rest fault.NoMemory p q h = tt

-- The last argument stands behind all others.
pub last_argument : (front : List Tree) (last : Tree) (place : ℕ) → place ≡ length front → at_place (front ++ last ∷ []) place ≡ last
last_argument [] last place h = rw h refl
last_argument (t ∷ front) last zero h = absurd (omega arith)
last_argument (t ∷ front) last (suc place) h = last_argument front last place (omega arith)

-- The arguments before the last one stay at their places.
pub front_argument : (front : List Tree) (last : Tree) (place : ℕ) → place < length front → at_place (front ++ last ∷ []) place ≡ at_place front place
front_argument [] last place h = absurd (omega arith)
front_argument (t ∷ front) last zero h = refl
front_argument (t ∷ front) last (suc place) h = front_argument front last place (omega arith)
