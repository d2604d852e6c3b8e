-- What the bounds of a request bound.
use Rattle.std.proofs.Common.{◌≡◌, ℕ, suc, ◌≤◌, List, [], ◌∷◌, length, refl, ◌∙◌, ap, arith}
use Rattle.ca_outside.specs.Fetches.{Fetched}
use Rattle.ca_outside.specs.Known.{Content}
use Rattle.ca_cmd.specs.File.{Numbered}
use Rattle.ca_words.specs.Grammar.{Request, Files, Generated, IsBounded}
use Rattle.ca_cli.specs.Accepted.{AreLinesOf, ArePairs}
use Rattle.ca_cli.specs.Call.{Change}
use Rattle.ca_cli.proofs.Made.{made_length}

pairs_length : {X Y : Type 0} (R : X → Y → Type 0) (xs : List X) (ys : List Y) → ArePairs R xs ys → length ys ≡ length xs
pairs_length R [] [] h = refl
pairs_length R [] (y ∷ ys) h = absurd h
pairs_length R (x ∷ xs) [] h = absurd h
pairs_length R (x ∷ xs) (y ∷ ys) h = ap (λ (n : ℕ). suc n) (pairs_length R xs ys h.1)

-- A call has 1 to 64 clients.
pub clients_bounded : (content : List ℕ → Content) (shelf : Change Fetched) (request : Request) (lines : List (List Numbered)) → IsBounded request
    → AreLinesOf content shelf request lines → (1 ≤ length lines) × (length lines ≤ 64)
clients_bounded content shelf (Files keypos names) lines b read =
    let fetched = pairs_length _ names read.files read.accepted.fetched in
    let held = pairs_length _ read.files lines read.accepted.read in
    (omega (arith, b.2, fetched, held), omega (arith, b.3, fetched, held))
clients_bounded content shelf (Generated seed clients count) lines b made =
    let same : length lines ≡ clients = ap (λ (l : List (List Numbered)). length l) made.0 ∙ made_length seed count 1 clients in
    (omega (arith, b.0, same), omega (arith, b.1, same))
