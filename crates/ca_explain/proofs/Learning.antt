-- What two calls of a store learn, one after the other.
use Rattle.std.proofs.Common.{◌≡◌, ℕ, ◌+◌, List, [], ◌∷◌, ◌++◌, length, arith, refl, sym, ◌∙◌, ap, subst, Some, None, append_assoc, length-append}
use Rattle.std.specs.Prelude.{Option}
use Rattle.ca_model.specs.History.{History, after, AreEdits, AreByPasses, AreByOthers}
use Rattle.ca_model.specs.Event.{Event, Entry}
use Rattle.ca_model.specs.Known.{Known, Seen, IsSameStore, Learns, seen_with, place}
use Rattle.ca_explain.proofs.TakenUpdates.{after-append}

edits_both : (p : ℕ) (xs ys : History) → AreEdits p xs → AreEdits p ys → AreEdits p (xs ++ ys)
edits_both p [] ys e f = f
edits_both p (x ∷ xs) ys e f = (e.0, edits_both p xs ys e.1 f)

passes_both : (n : ℕ) (xs ys : History) → AreByPasses n xs → AreByPasses n ys → AreByPasses n (xs ++ ys)
passes_both n [] ys e f = f
passes_both n (x ∷ xs) ys e f = (e.0, e.1, passes_both n xs ys e.2 f)

-- Edits of others before edits of others are edits of others.
pub others_both : (i : ℕ) (xs ys : History) → AreByOthers i xs → AreByOthers i ys → AreByOthers i (xs ++ ys)
others_both i [] ys e f = f
others_both i (x ∷ xs) ys e f = (e.0, others_both i xs ys e.1 f)

-- What is seen of two calls is what is seen of one that learns what both learn.
pub seen_twice : (s : Option Seen) (xs ys : History) (es fs : List Entry) → seen_with (seen_with s xs es) ys fs ≡ seen_with s (xs ++ ys) (es ++ fs)
seen_twice None xs ys es fs = refl
seen_twice (Some s) xs ys es fs = rw (append_assoc s.history xs ys, append_assoc s.log es fs) refl

-- A store is the same as it is.
pub same_as_it_is : (a : Known) → IsSameStore a a
same_as_it_is a = record { store = refl; keypos = refl; pass = refl; passes = refl; alone = refl; sure = refl }

-- What never changed in two calls.
pub same_store : (a b d : Known) → IsSameStore a b → IsSameStore b d → IsSameStore a d
same_store a b d x y = record {
  store = y.store ∙ x.store;
  keypos = y.keypos ∙ x.keypos;
  pass = y.pass ∙ x.pass;
  passes = y.passes ∙ x.passes;
  alone = y.alone ∙ x.alone;
  sure = y.sure ∙ x.sure;
}

-- Two calls learn what the first one learnt and then what the second one did.
pub learns_both : (a b d : Known) (xs ys : History) (es fs : List Entry) → Learns a b xs es → Learns b d ys fs → Learns a d (xs ++ ys) (es ++ fs)
learns_both a b d xs ys es fs x y = record {
  same = same_store a b d x.same y.same;
  map = y.map ∙ ap (after ys) x.map ∙ sym (after-append xs ys a.map);
  seen = y.seen ∙ ap (λ (s : Option Seen). seen_with s ys fs) x.seen ∙ seen_twice a.seen xs ys es fs;
  valid = x.valid;
  edits = edits_both a.keypos xs ys x.edits (subst (λ (n : ℕ). AreEdits n ys) x.same.keypos y.edits);
  passes = passes_both a.passes xs ys x.passes (subst (λ (n : ℕ). AreByPasses n ys) x.same.passes y.passes);
}

-- The place of an event, counted from an earlier moment.
pub place_since : (s : Option Seen) (xs ys earlier : History) (left : List Entry) (event : Event) (n : ℕ)
    → seen_with s ys (left ++ (event, place (seen_with s xs left) + length earlier + n) ∷ [])
    ≡ seen_with s ys (left ++ (event, place s + length (xs ++ earlier) + n) ∷ [])
place_since None xs ys earlier left event n = refl
place_since (Some s) xs ys earlier left event n =
    let same : length (s.history ++ xs) + length earlier + n ≡ length s.history + length (xs ++ earlier) + n =
    omega (arith, length-append s.history xs, length-append xs earlier) in
    ap (λ (i : ℕ). seen_with (Some s) ys (left ++ (event, i) ∷ [])) same
