-- Lines that are made client by client.
use Rattle.std.proofs.Common.{◌≡◌, ℕ, suc, zero, ◌+◌, ◌-◌, ◌<◌, List, [], ◌∷◌, ◌++◌, length, refl, sym, ◌∙◌, ap, append_assoc, arith}
use Rattle.ca_cmd.specs.File.{Numbered}
use Rattle.ca_cmd.specs.Generator.{generated}
use Rattle.ca_cli.specs.Summary.{clients_from}

-- The lines of the clients that are left are the next one's and those behind it.
pub next_made : (seed count client i clients : ℕ) → i < clients
    → clients_from seed count client (clients - i) ≡ generated seed client count ∷ clients_from seed count (client + 1) (clients - (i + 1))
next_made seed count client i clients h =
    let e : clients - i ≡ suc (clients - (i + 1)) = omega (arith, h) in ap (λ (n : ℕ). clients_from seed count client n) e

pub made_length : (seed count client clients : ℕ) → length (clients_from seed count client clients) ≡ clients
made_length seed count client zero = refl
made_length seed count client (suc more) = ap (λ (n : ℕ). suc n) (made_length seed count (client + 1) more)

-- The next client's lines stand behind those so far.
pub made_next : (seed count i clients : ℕ) (all more : List (List Numbered)) → i < clients → more ≡ all ++ generated seed (i + 1) count ∷ []
    → more ++ clients_from seed count (i + 1 + 1) (clients - (i + 1)) ≡ all ++ clients_from seed count (i + 1) (clients - i)
made_next seed count i clients all more h e =
    ap (λ l. l ++ clients_from seed count (i + 1 + 1) (clients - (i + 1))) e
    ∙ append_assoc all (generated seed (i + 1) count ∷ []) (clients_from seed count (i + 1 + 1) (clients - (i + 1)))
    ∙ ap (λ l. all ++ l) (sym (next_made seed count (i + 1) i clients h))
