-- Which calls of a store carry `insert_new`, `member`, `delete` and `take`.
use Rattle.std.proofs.Common.{◌≡◌, ◌≢◌, ℕ, Bool, true, false, List, [], ◌∷◌, refl, Some, None}
use Rattle.ca_term.specs.Tree.{Tree, IsTerm}
use Rattle.ca_term.specs.Code.{code_of}
use Rattle.ca_term.specs.Object.{is_object, key_of, fits}
use Rattle.ca_ets.specs.OrderedMap.{get, put, del}
use Rattle.ca_ets.specs.Command.{Continuation, Items, Truth}
use Rattle.ca_ets.specs.Step.{is_found}
use Rattle.ca_ets.specs.declared.command.Cmd.TheVariants.{InsertNew, Member, Delete, Take}
use Rattle.ca_model.specs.Event.{Get, WriteNew, Remove}
use Rattle.ca_explain.specs.Carries.{Carries}
use Rattle.ca_explain.proofs.Filters.{put_stands, del_stands}
use Rattle.ca_explain.proofs.Founds.{absent, present, found, found_object, del_none}
use Rattle.ca_explain.proofs.Keys.{key_is_term}

found_some : (t : List Tree) → t ≢ [] → is_found t ≡ true
found_some [] some = absurd (some refl)
found_some (o ∷ t) some = refl

-- `put_new` carries `insert_new`.
pub insert_new_call : (p : ℕ) (o : Tree) → IsTerm o → is_object p o ≡ true → fits o ≡ true → (l : Continuation) (new : Bool)
    → Carries p (WriteNew (code_of (key_of p o)) (code_of o) new) l (InsertNew o) (Truth new) l
insert_new_call p o b e f l true = record {
  at = λ m t st answer.
      let none : get p t (key_of p o) ≡ [] = absent p m t st (key_of p o) (key_is_term p o b) answer in
      (put p t o, rw (e, f, none) refl, put_stands p m t st o b (record { object = e; fitting = f }));
}
insert_new_call p o b e f l false = record {
  at = λ m t st answer.
      let some : is_found (get p t (key_of p o)) ≡ true =
      found_some (get p t (key_of p o)) (present p m t st (key_of p o) (key_is_term p o b) answer) in
      (t, rw (e, f, some) refl, st);
}

module _ (p : ℕ) (k : Tree) (b : IsTerm k) (short : fits k ≡ true) (l : Continuation) where
  -- `get` that finds something carries `member`.
  pub member_found : (bytes : List ℕ) → Carries p (Get (code_of k) (Some bytes)) l (Member k) (Truth true) l
  member_found bytes = record {
    at = λ m t st answer. let f = found_object p m t st k b bytes answer in let is : get p t k ≡ f.object ∷ [] = f.got in (t, rw (short, is) refl, st);
  }

  -- `get` that finds nothing carries `member`.
  pub member_absent : Carries p (Get (code_of k) None) l (Member k) (Truth false) l
  member_absent = record { at = λ m t st answer. let is : get p t k ≡ [] = absent p m t st k b answer in (t, rw (short, is) refl, st) }

  -- `remove` that removes something carries `delete`.
  pub delete_found : (bytes : List ℕ) → Carries p (Remove (code_of k) (Some bytes)) l (Delete k) (Truth true) l
  delete_found bytes = record { at = λ m t st answer. (del p t k, rw short refl, del_stands p m t st k b) }

  -- `remove` that finds nothing carries `delete`.
  pub delete_absent : Carries p (Remove (code_of k) None) l (Delete k) (Truth true) l
  delete_absent = record {
    at = λ m t st answer. let same : del p t k ≡ t = del_none p t k (absent p m t st k b answer) in (t, rw (short, same) refl, st);
  }

  -- `remove` of a term's code carries `take`.
  pub take_found : (x : Tree) → IsTerm x → Carries p (Remove (code_of k) (Some (code_of x))) l (Take k) (Items (x ∷ [])) l
  take_found x c = record {
    at = λ m t st answer. let is : get p t k ≡ x ∷ [] = found p m t st k b x c answer in (del p t k, rw (short, is) refl, del_stands p m t st k b);
  }

  -- `get` that finds nothing carries `take`.
  pub take_absent : Carries p (Get (code_of k) None) l (Take k) (Items []) l
  take_absent = record {
    at = λ m t st answer.
        let none : get p t k ≡ [] = absent p m t st k b answer in
        let same : del p t k ≡ t = del_none p t k none in
        (t, rw (short, none, same) refl, st);
  }
