-- Which calls of a store carry which commands.
use Rattle.std.proofs.Common.{◌≡◌, ℕ, true, [], ◌∷◌, refl, Some, None}
use Rattle.ca_term.specs.Tree.{Tree, IsTerm}
use Rattle.ca_term.specs.Code.{code_of}
use Rattle.ca_term.specs.Object.{is_object, key_of, fits}
use Rattle.ca_ets.specs.OrderedMap.{get, put}
use Rattle.ca_ets.specs.Command.{Continuation, Items, Truth}
use Rattle.ca_ets.specs.declared.command.Cmd.TheVariants.{Insert, Lookup}
use Rattle.ca_model.specs.Event.{Get, Write}
use Rattle.ca_explain.specs.Carries.{Carries}
use Rattle.ca_explain.proofs.Filters.{put_stands}
use Rattle.ca_explain.proofs.Founds.{absent, found}

-- `put` carries `insert`.
pub insert_put : (p : ℕ) (o : Tree) → IsTerm o → is_object p o ≡ true → fits o ≡ true → (l : Continuation)
    → Carries p (Write (code_of (key_of p o)) (code_of o)) l (Insert o) (Truth true) l
insert_put p o b e f l = record {
  at = λ m t st answer. (put p t o, rw (e, f) refl, put_stands p m t st o b (record { object = e; fitting = f }));
}

module _ (p : ℕ) (k : Tree) (b : IsTerm k) (short : fits k ≡ true) (l : Continuation) where
  -- `get` that finds a term's code carries `lookup`.
  pub lookup_found : (x : Tree) → IsTerm x → Carries p (Get (code_of k) (Some (code_of x))) l (Lookup k) (Items (x ∷ [])) l
  lookup_found x c = record { at = λ m t st answer. let is : get p t k ≡ x ∷ [] = found p m t st k b x c answer in (t, rw (short, is) refl, st) }

  -- `get` that finds nothing carries `lookup`.
  pub lookup_absent : Carries p (Get (code_of k) None) l (Lookup k) (Items []) l
  lookup_absent = record { at = λ m t st answer. let is : get p t k ≡ [] = absent p m t st k b answer in (t, rw (short, is) refl, st) }
