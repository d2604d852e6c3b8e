-- Where a key's object is another one after some edits, they put an object under the key.
use Rattle.std.proofs.Common.{◌≡◌, ℕ, Bool, true, false, List, [], ◌∷◌, ◌++◌, refl, sym, ◌∙◌, ap, subst, Some, append-nil, append_assoc, inl, inr, if◌then◌else◌}
use Rattle.std.specs.Prelude.{filter, not, ◌⊎◌}
use Rattle.std.specs.declared.cmp.Ordering.{Ordering}
use Rattle.std.specs.declared.cmp.Ordering.TheVariants.{Less, Equal, Greater}
use Rattle.std.specs.Ordering.{is_lt, is_eq, is_gt}
use Rattle.ca_term.proofs.Bytes.{same_bytes, bytes_itself}
use Rattle.ca_model.specs.StoreMap.{Pair, StoreMap, bytes_cmp, get, put, del, below, above}
use Rattle.ca_model.specs.History.{Put, Del, History, after, AreByOthers}
use Rattle.ca_model.specs.Event.{Event, Get}
use Rattle.ca_model.specs.Known.{Known, Meets, around, place_of}
use Rattle.ca_explain.specs.Steps.{HasPut, Overtaken}
use Rattle.ca_explain.proofs.TakenUpdates.{after-append}
use Rattle.ca_explain.proofs.Learning.{learns_both, others_both}
use Rattle.ca_explain.proofs.Calls.{read_others, read_alone}

is_equal : (r : Ordering) → is_eq r ≡ true → r ≡ Equal
is_equal Less e = let no : false ≡ true = e in cc
is_equal Equal e = refl
is_equal Greater e = let no : false ≡ true = e in cc

module _ (k l : List ℕ) (test : Ordering → Bool) where
  abbrev kept : StoreMap → StoreMap
  kept m = filter (λ q. test (bytes_cmp q.0 k)) m

  -- of the pairs that are kept by how their key compares with k, those with the key l are all or none
  get_kept : (m : StoreMap) → get (kept m) l ≡ (if test (bytes_cmp l k) then get m l else [])
  get_kept [] = by (test (bytes_cmp l k))
    where
      by : (b : Bool) → get [] l ≡ (if b then get [] l else [])
      by true = refl
      by false = refl
  get_kept (q ∷ m) = by (test (bytes_cmp q.0 k)) refl (is_eq (bytes_cmp q.0 l)) refl (get_kept m)
    where
      whose : (g : Bool) → test (bytes_cmp q.0 k) ≡ g → is_eq (bytes_cmp q.0 l) ≡ true → test (bytes_cmp l k) ≡ g
      whose g e same = ap (λ (x : List ℕ). test (bytes_cmp x k)) (sym (same_bytes q.0 l (is_equal (bytes_cmp q.0 l) same))) ∙ e

      by : (g : Bool) → test (bytes_cmp q.0 k) ≡ g → (c : Bool) → is_eq (bytes_cmp q.0 l) ≡ c → get (kept m) l ≡ (if test (bytes_cmp l k) then get m l else [])
          → get (if g then q ∷ kept m else kept m) l ≡ (if test (bytes_cmp l k) then (if c then q ∷ get m l else get m l) else [])
      by true e true same rest =
          let all : test (bytes_cmp l k) ≡ true = whose true e same in
          let others : get (kept m) l ≡ get m l = rw all at rest in
          rw (same, all) (ap (λ (x : StoreMap). q ∷ x) others)
      by false e true same rest =
          let none : test (bytes_cmp l k) ≡ false = whose false e same in
          let others : get (kept m) l ≡ [] = rw none at rest in
          rw none others
      by true e false apart rest = rw apart rest
      by false e false apart rest = rest

get-append : (xs ys : StoreMap) (k : List ℕ) → get (xs ++ ys) k ≡ get xs k ++ get ys k
get-append [] ys k = refl
get-append (x ∷ xs) ys k = by (is_eq (bytes_cmp x.0 k)) (get-append xs ys k)
  where
    by : (b : Bool) → get (xs ++ ys) k ≡ get xs k ++ get ys k
        → (if b then x ∷ get (xs ++ ys) k else get (xs ++ ys) k) ≡ (if b then x ∷ get xs k else get xs k) ++ get ys k
    by true e = ap (λ zs. x ∷ zs) e
    by false e = e

-- A put of another key doesn't change what a key has.
pub put_other : (m : StoreMap) (k x l : List ℕ) → is_eq (bytes_cmp k l) ≡ false → get (put m k x) l ≡ get m l
put_other m k x l other =
    get-append (below m k) ((k, x) ∷ above m k) l ∙ (rw other refl)
    ∙ ap (λ (z : StoreMap). z ++ get (above m k) l) (get_kept k l is_lt m)
    ∙ ap (λ (z : StoreMap). (if is_lt (bytes_cmp l k) then get m l else []) ++ z) (get_kept k l is_gt m)
    ∙ by (bytes_cmp l k) refl
  where
    by : (r : Ordering) → bytes_cmp l k ≡ r → (if is_lt r then get m l else []) ++ (if is_gt r then get m l else []) ≡ get m l
    by Less e = append-nil (get m l)
    by Equal e =
        let same : is_eq (bytes_cmp k l) ≡ true = ap (λ (z : List ℕ). is_eq (bytes_cmp k z)) (same_bytes l k e) ∙ ap is_eq (bytes_itself k) in
        let no : true ≡ false = sym same ∙ other in cc
    by Greater e = refl

-- the key has this object, or none
abbrev Had : List ℕ → List ℕ → StoreMap → Type 0
Had k o m = (get m k ≡ []) ⊎ (get m k ≡ (k, o) ∷ [])

had_del : (m : StoreMap) (l k o : List ℕ) → Had k o m → Had k o (del m l)
had_del m l k o had = subst (λ (x : StoreMap). (x ≡ []) ⊎ (x ≡ (k, o) ∷ [])) (sym (get_kept l k (λ r. not (is_eq r)) m)) (by (not (is_eq (bytes_cmp k l))))
  where
    by : (b : Bool) → ((if b then get m k else []) ≡ []) ⊎ ((if b then get m k else []) ≡ (k, o) ∷ [])
    by true = had
    by false = inl refl

-- Where a key had one object or none and has another one after some edits, they put an object under it.
pub replaced : (steps : History) (m : StoreMap) (k o n : List ℕ) → Had k o m → get (after steps m) k ≡ (k, n) ∷ [] → (n ≡ o → ⊥) → HasPut k steps
replaced [] m k o n (inl none) is differ = let pair : Pair = (k, n) in let no : [] ≡ pair ∷ [] = sym none ∙ is in cc
replaced [] m k o n (inr one) is differ =
    let old : Pair = (k, o) in
    let new : Pair = (k, n) in
    let both : old ∷ [] ≡ new ∷ [] = sym one ∙ is in
    let same : old ≡ new = cc in
    absurd (differ (sym (ap (λ (q : Pair). q.1) same)))
replaced ((pass, Put l x) ∷ steps) m k o n had is differ = by (bytes_cmp l k) refl (λ h. replaced steps (put m l x) k o n h is differ)
  where
    other : is_eq (bytes_cmp l k) ≡ false → Had k o (put m l x)
    other apart = subst (λ (y : StoreMap). (y ≡ []) ⊎ (y ≡ (k, o) ∷ [])) (sym (put_other m l x k apart)) had

    by : (r : Ordering) → bytes_cmp l k ≡ r → (Had k o (put m l x) → HasPut k steps) → ((y : List ℕ) × (Put l x ≡ Put k y)) ⊎ HasPut k steps
    by Less r rec = inr (rec (other (ap is_eq r)))
    by Equal r rec = inl (x, ap (λ (y : List ℕ). Put y x) (same_bytes l k r))
    by Greater r rec = inr (rec (other (ap is_eq r)))
replaced ((pass, Del l) ∷ steps) m k o n had is differ = inr (replaced steps (del m l) k o n (had_del m l k o had) is differ)

put_left : (k : List ℕ) (xs ys : History) → HasPut k xs → HasPut k (xs ++ ys)
put_left k [] ys h = absurd h
put_left k (x ∷ xs) ys (inl h) = inl h
put_left k (x ∷ xs) ys (inr h) = inr (put_left k xs ys h)

put_right : (k : List ℕ) (xs ys : History) → HasPut k ys → HasPut k (xs ++ ys)
put_right k [] ys h = h
put_right k (x ∷ xs) ys h = inr (put_right k xs ys h)

-- Where two reads of a key find two objects, the second one was put in between.
pub overtaken : (a b d : Known) (k o n : List ℕ) → Meets a b (Get k (Some o)) → Meets b d (Get k (Some n)) → (n ≡ o → ⊥) → Overtaken a d k
overtaken a b d k o n first second differ =
    let E = first.earlier in
    let F = first.later in
    let G = second.earlier in
    let H = second.later in
    let m = after E a.map in
    let xs : around a.pass E (Get k (Some o)) F ≡ E ++ F = ap (λ (z : History). z ++ F) (append-nil E) in
    let ys : around b.pass G (Get k (Some n)) H ≡ G ++ H = ap (λ (z : History). z ++ H) (append-nil G) in
    let known : b.map ≡ after F m = first.learns.map ∙ ap (λ (z : History). after z a.map) xs ∙ after-append E F a.map in
    let found : get (after (F ++ G) m) k ≡ (k, n) ∷ [] =
    ap (λ (z : StoreMap). get z k) (after-append F G m ∙ ap (after G) (sym known)) ∙ second.answer in
    let between : HasPut k (F ++ G) = replaced (F ++ G) m k o n (inr first.answer) found differ in
    let whole : around a.pass E (Get k (Some o)) F ++ around b.pass G (Get k (Some n)) H ≡ E ++ (F ++ G) ++ H =
    ap (λ (z : History). z ++ around b.pass G (Get k (Some n)) H) xs ∙ ap (λ (z : History). (E ++ F) ++ z) ys
    ∙ sym (append_assoc (E ++ F) G H) ∙ ap (λ (z : History). z ++ H) (append_assoc E F G) in
    let one : Event = Get k (Some o) in
    let two : Event = Get k (Some n) in
    let others = others_both a.pass (around a.pass E one F) (around b.pass G two H) (read_others a b one refl first)
    (subst (λ (i : ℕ). AreByOthers i (around b.pass G two H)) first.learns.same.pass (read_others b d two refl second)) in
    let logged = learns_both a b d (around a.pass E one F) (around b.pass G two H) ((one, place_of a E one) ∷ []) ((two, place_of b G two) ∷ [])
    first.learns second.learns in
    record {
      refrains = record {
        left = (one, place_of a E one) ∷ (two, place_of b G two) ∷ [];
        reads = (refl, (refl, tt));
        learnt = around a.pass E one F ++ around b.pass G two H;
        learns = logged;
        others = others;
        alone = λ h. ap (λ (z : History). z ++ around b.pass G two H) (read_alone a b one refl first h)
            ∙ read_alone b d two refl second (first.learns.same.alone ∙ h);
        counts_are = second.counts ∙ first.counts;
      };
      put = subst (λ (z : History). HasPut k z) (sym whole) (put_left k (E ++ (F ++ G)) H (put_right k E (F ++ G) between));
    }
