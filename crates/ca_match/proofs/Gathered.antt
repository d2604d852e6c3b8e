-- Values of several expressions, gathered one after the other.
use Rattle.std.proofs.Common.{◌≡◌, ℕ, ◌≤◌, ◌<◌, ◌+◌, List, [], ◌∷◌, ◌++◌, length, drop, get_or, Option, Some, None, refl, ap, sym, ◌∙◌, add-one, drop-cons, append_assoc, append-nil}
use Rattle.std.proofs.lemmas.List.{drop_all}
use Rattle.std.specs.Prelude.{option_and_then, option_map}
use Rattle.ca_term.specs.Tree.{Tree, row_of}
use Rattle.ca_term.proofs.Rows.{nodes_item}
use Rattle.ca_match.specs.Match.{Scene, all_values, value, values}

-- The values of the parts from one on.
abbrev pub values_from : Scene → List Tree → ℕ → Option (List Tree)
values_from s parts k = all_values (values s (row_of (drop k parts)))

-- These values with more values behind them.
abbrev pub behind : List Tree → Option (List Tree) → Option (List Tree)
behind ts more = option_map (λ us. ts ++ us) more

-- Before the first value all values are still to come.
pub behind_none : (more : Option (List Tree)) → more ≡ behind [] more
behind_none None = refl
behind_none (Some us) = refl

abbrev with_first : Option Tree → Option (List Tree) → Option (List Tree)
with_first a more = option_and_then (λ t. option_map (λ ts. t ∷ ts) more) a

value_at : (s : Scene) (parts : List Tree) (k : ℕ) (d : Tree) → k < length parts
    → values_from s parts k ≡ with_first (value s (get_or parts k d)) (values_from s parts (k + 1))
unfolding values
value_at s parts k d h = rw (add-one, drop-cons parts k d) refl

behind_one : (ts : List Tree) (t : Tree) (more : Option (List Tree)) → behind ts (with_first (Some t) more) ≡ behind (ts ++ t ∷ []) more
behind_one ts t None = refl
behind_one ts t (Some us) = ap (λ (x : List Tree). Some x) (sym (append_assoc ts (t ∷ []) us))

-- The value of the next part goes behind those so far.
pub one_more_value : (s : Scene) (parts : List Tree) (k : ℕ) (d t : Tree) (ts : List Tree) (all : Option (List Tree)) → k < length parts
    → all ≡ behind ts (values_from s parts k) → Some t ≡ value s (get_or parts k d) → all ≡ behind (ts ++ t ∷ []) (values_from s parts (k + 1))
one_more_value s parts k d t ts all h a e =
    a ∙ ap (behind ts) (value_at s parts k d h ∙ ap (λ (x : Option Tree). with_first x (values_from s parts (k + 1))) (sym e))
    ∙ behind_one ts t (values_from s parts (k + 1))

-- Where the next part fails, there are no values.
pub no_more_values : (s : Scene) (parts : List Tree) (k : ℕ) (d : Tree) (ts : List Tree) (all : Option (List Tree)) → k < length parts
    → all ≡ behind ts (values_from s parts k) → None ≡ value s (get_or parts k d) → None ≡ all
no_more_values s parts k d ts all h a e =
    sym (a ∙ ap (behind ts) (value_at s parts k d h ∙ ap (λ (x : Option Tree). with_first x (values_from s parts (k + 1))) (sym e)))

-- Behind the last part the values are those so far.
pub all_the_values : (s : Scene) (parts : List Tree) (k : ℕ) (ts : List Tree) (all : Option (List Tree)) → length parts ≤ k
    → all ≡ behind ts (values_from s parts k) → Some ts ≡ all
unfolding values
all_the_values s parts k ts all h a = sym (a ∙ (rw (drop_all k parts h, append-nil ts) refl))

-- The values of several expressions, gathered one after the other.
pub ruleset part_values = (behind_none, one_more_value, no_more_values, all_the_values, nodes_item)
