-- A run up to a cut is the beginning of the whole one.
use Rattle.std.proofs.Common.{◌≡◌, ℕ, Bool, true, false, List, [], ◌∷◌, ◌++◌, if◌then◌else◌, refl, sym, ◌∙◌, ap, subst, inl, inr}
use Rattle.std.specs.Prelude.{not}
use Rattle.std.specs.declared.cmp.Ordering.{Ordering}
use Rattle.std.specs.declared.cmp.Ordering.TheVariants.{Less, Equal, Greater}
use Rattle.std.specs.Ordering.{is_lt, is_gt, ordering_reverse}
use Rattle.std.specs.Cmp.Lexicographic.{nat_list_cmp_total}
use Rattle.ca_model.specs.StoreMap.{StoreMap, bytes_cmp, IsStoreMap}
use Rattle.ca_model.specs.Edges.{Bound, Unbounded, Included, Excluded, is_from, is_up_to, from, up_to, IsLower, IsCut, CutsBegin}
use Rattle.ca_model.proofs.Places.{bytes_flip, bytes_chain}
use Rattle.ca_model.proofs.Edits.{map_filter}
use Rattle.ca_model.proofs.Spots.{none_behind}

is_less : (o : Ordering) → is_lt o ≡ true → o ≡ Less
is_less Less e = refl
is_less Equal e = cc
is_less Greater e = cc

not_above : (k c h : List ℕ) → not (is_gt (bytes_cmp k c)) ≡ true → bytes_cmp c h ≡ Less → bytes_cmp k h ≡ Less
not_above k c h low less = by (bytes_cmp k c) refl low
  where
    by : (o : Ordering) → bytes_cmp k c ≡ o → not (is_gt o) ≡ true → bytes_cmp k h ≡ Less
    by Less is low = bytes_chain k c h is less
    by Equal is low = nat_list_cmp_total.congr k c h is ∙ less
    by Greater is low = cc

below_it : (k c h : List ℕ) → bytes_cmp k c ≡ Less → is_gt (bytes_cmp c h) ≡ false → bytes_cmp k h ≡ Less
below_it k c h less low = by (bytes_cmp c h) refl low
  where
    by : (o : Ordering) → bytes_cmp c h ≡ o → is_gt o ≡ false → bytes_cmp k h ≡ Less
    by Less is low = bytes_chain k c h less is
    by Equal is low = bytes_flip k h ∙ ap ordering_reverse (sym (nat_list_cmp_total.congr c h k is)) ∙ sym (bytes_flip k c) ∙ less
    by Greater is low = cc

-- A key within a lower upper edge is within the other one.
pub lower_within : (cut hi : Bound) (k : List ℕ) → IsLower cut hi → is_up_to cut k ≡ true → is_up_to hi k ≡ true
lower_within Unbounded hi k lower in_cut = absurd lower
lower_within (Included c) Unbounded k lower in_cut = refl
lower_within (Included c) (Included h) k lower in_cut = rw (not_above k c h in_cut (is_less _ lower)) refl
lower_within (Included c) (Excluded h) k lower in_cut = rw (not_above k c h in_cut (is_less _ lower)) refl
lower_within (Excluded c) Unbounded k lower in_cut = refl
lower_within (Excluded c) (Included h) k lower in_cut = rw (below_it k c h (is_less _ in_cut) lower) refl
lower_within (Excluded c) (Excluded h) k lower in_cut = rw (bytes_chain k c h (is_less _ in_cut) (is_less _ lower)) refl

cut_within : (cut hi : Bound) (k : List ℕ) → IsCut cut hi → is_up_to cut k ≡ true → is_up_to hi k ≡ true
cut_within cut hi k (inl e) in_cut = subst (λ (b : Bound). is_up_to b k ≡ true) e in_cut
cut_within cut hi k (inr lower) in_cut = lower_within cut hi k lower in_cut

begins : (p : ℕ) (m : StoreMap) (cut hi : Bound) → IsStoreMap p m → IsCut cut hi → (rest : StoreMap) × (up_to hi m ≡ up_to cut m ++ rest)
begins p [] cut hi t is_cut = ([], refl)
begins p (q ∷ m) cut hi t is_cut = by (is_up_to cut q.0) refl (begins p m cut hi t.2 is_cut)
  where
    by : (b : Bool) → is_up_to cut q.0 ≡ b → ((rest : StoreMap) × (up_to hi m ≡ up_to cut m ++ rest))
        → (rest : StoreMap) × (up_to hi (q ∷ m) ≡ (if b then q ∷ up_to cut m else up_to cut m) ++ rest)
    by true is rest = (rest.0, rw (cut_within cut hi q.0 is_cut is) (ap (λ x. q ∷ x) rest.1))
    by false is rest = (up_to hi (q ∷ m), ap (λ (x : StoreMap). x ++ up_to hi (q ∷ m)) (sym (none_behind cut q m is t.1)))

pub cuts_begin : CutsBegin
cuts_begin p m lo cut hi t is_cut = begins p (from lo m) cut hi (map_filter p m (λ q. is_from lo q.0) t) is_cut
