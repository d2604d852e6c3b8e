-- The first and the last object of a store map, as the least and the greatest key of the table that it stands for.
use Rattle.std.proofs.Common.{◌≡◌, ℕ, true, List, [], ◌∷◌, map, refl, sym, ◌∙◌, ap, Some, None}
use Rattle.std.specs.Prelude.{Option}
use Rattle.ca_term.specs.Tree.{Tree, IsTerm, AreTerms}
use Rattle.ca_term.specs.Code.{code_of}
use Rattle.ca_term.specs.Object.{key_of, fits}
use Rattle.ca_ets.specs.OrderedMap.{above, below}
use Rattle.ca_ets.specs.Command.{Response, Continuation, Value, End}
use Rattle.ca_ets.specs.Step.{first_key, last_key}
use Rattle.ca_ets.specs.declared.command.Cmd.TheVariants.{First, Last, Next, Prev}
use Rattle.ca_model.specs.StoreMap.{StoreMap}
use Rattle.ca_model.specs.Edges.{Unbounded, Excluded, from, up_to, first_object, last_object}
use Rattle.ca_model.specs.Event.{Above, Below}
use Rattle.ca_explain.specs.Stands.{Stands, pair_of}
use Rattle.ca_explain.specs.Carries.{Carries}
use Rattle.ca_explain.proofs.Filters.{same_code}
use Rattle.ca_explain.proofs.Edged.{from_all, up_to_all, from_past, up_to_past}

-- the key of an object that was found, whose code these bytes are, or the table's end
abbrev pub IsKeyFound : ℕ → Option (List ℕ) → Response → Type 0
IsKeyFound p None response = response ≡ End
IsKeyFound p (Some bytes) response = (o : Tree) × IsTerm o × (bytes ≡ code_of o) × (response ≡ Value (key_of p o))

some_same : (a b : List ℕ) → Some a ≡ Some b → a ≡ b
some_same a b e = cc

first_of : (p : ℕ) (t : List Tree) → AreTerms t → (found : Option (List ℕ)) (response : Response) → first_object (map (pair_of p) t) ≡ found
    → IsKeyFound p found response → first_key p t ≡ response
first_of p [] b None response e h = sym h
first_of p [] b (Some bytes) response e h = cc
first_of p (x ∷ t) b None response e h = cc
first_of p (x ∷ t) b (Some bytes) response e h =
    let same : x ≡ h.0 = same_code x h.0 b.0 h.1 (some_same (code_of x) bytes e ∙ h.2) in
    ap (λ (o : Tree). Value (key_of p o)) same ∙ sym h.3

last_of : (p : ℕ) (t : List Tree) → AreTerms t → (found : Option (List ℕ)) (response : Response) → last_object (map (pair_of p) t) ≡ found
    → IsKeyFound p found response → last_key p t ≡ response
last_of p [] b None response e h = sym h
last_of p [] b (Some bytes) response e h = cc
last_of p (x ∷ []) b None response e h = cc
last_of p (x ∷ []) b (Some bytes) response e h =
    let same : x ≡ h.0 = same_code x h.0 b.0 h.1 (some_same (code_of x) bytes e ∙ h.2) in
    ap (λ (o : Tree). Value (key_of p o)) same ∙ sym h.3
last_of p (x ∷ y ∷ t) b found response e h = last_of p (y ∷ t) b.1 found response e h

module _ (p : ℕ) (m : StoreMap) (t : List Tree) (st : Stands p m t) (found : Option (List ℕ)) (response : Response) where
  -- The least key is the one of the first object that was found.
  pub first_is : first_object m ≡ found → IsKeyFound p found response → first_key p t ≡ response
  first_is e h = first_of p t st.bounded found response (sym (ap first_object st.codes) ∙ e) h

  -- The greatest key is the one of the last object that was found.
  pub last_is : last_object m ≡ found → IsKeyFound p found response → last_key p t ≡ response
  last_is e h = last_of p t st.bounded found response (sym (ap last_object st.codes) ∙ e) h

module _ (p : ℕ) (l : Continuation) (found : Option (List ℕ)) (response : Response) (h : IsKeyFound p found response) where
  -- The first object of all carries `first`, and the last one carries `last`.
  pub first_call : Carries p (Above Unbounded found) l First response l
  first_call = record {
    at = λ m t st answer.
        let is : first_key p t ≡ response = first_is p (from Unbounded m) t (from_all p m t st) found response answer h in (t, rw is refl, st);
  }

  pub last_call : Carries p (Below Unbounded found) l Last response l
  last_call = record {
    at = λ m t st answer.
        let is : last_key p t ≡ response = last_is p (up_to Unbounded m) t (up_to_all p m t st) found response answer h in (t, rw is refl, st);
  }

  module _ (k : Tree) (b : IsTerm k) (short : fits k ≡ true) where
    -- The first object past a key's code carries `next`, and the last one before it carries `prev`.
    pub next_call : Carries p (Above (Excluded (code_of k)) found) l (Next k) response l
    next_call = record {
      at = λ m t st answer.
          let is : first_key p (above p t k) ≡ response =
          first_is p (from (Excluded (code_of k)) m) (above p t k) (from_past p m t st k b) found response answer h in
          (t, rw (short, is) refl, st);
    }

    pub prev_call : Carries p (Below (Excluded (code_of k)) found) l (Prev k) response l
    prev_call = record {
      at = λ m t st answer.
          let is : last_key p (below p t k) ≡ response =
          last_is p (up_to (Excluded (code_of k)) m) (below p t k) (up_to_past p m t st k b) found response answer h in
          (t, rw (short, is) refl, st);
    }
