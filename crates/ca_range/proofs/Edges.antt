-- What goes up to one edge and what goes up to another, and where a base begins that has a key.
use Rattle.std.proofs.Common.{◌≡◌, ℕ, List, Bool, true, false, not, cond, eqb, refl, ap, ◌∙◌, subst}
use Rattle.std.specs.declared.cmp.Ordering.{Ordering}
use Rattle.std.specs.declared.cmp.Ordering.TheVariants.{Less, Equal, Greater}
use Rattle.std.specs.Ordering.{is_lt, is_gt, is_le, ordering_reverse}
use Rattle.ca_model.specs.Edges.{Bound, Unbounded, Included, Excluded, is_from, is_up_to, IsLower}
use Rattle.ca_model.specs.StoreMap.{bytes_cmp}
use Rattle.ca_model.proofs.Cuts.{lower_within}
use Rattle.ca_model.proofs.Places.{bytes_flip}
use Rattle.ca_term.proofs.Bytes.{same_bytes}
use Rattle.ca_node.specs.Place.{Span, HasKey}
use Rattle.ca_node.specs.Ranging.{top_of}
use Rattle.ca_node.specs.Row.{edge_form, route_key}
use Rattle.ca_node.proofs.Parts.{first_holds, greater_within}
use Rattle.ca_runs.specs.Runs.{BeginsBefore}
use Rattle.ca_range.specs.Edged.{EndsBefore, reaches_to}
use Rattle.ca_range.specs.Reaching.{reaches_by}

-- What reaches an edge has all keys up to it.
pub reaches_ends : (hi high : Bound) → reaches_to hi high ≡ true → EndsBefore hi high
reaches_ends Unbounded Unbounded is = λ key up. refl
reaches_ends (Included k) Unbounded is = λ key up. refl
reaches_ends (Excluded k) Unbounded is = λ key up. refl
reaches_ends Unbounded (Included h) is = cc
reaches_ends (Included k) (Included h) is = cc
reaches_ends (Excluded k) (Included h) is = cc
reaches_ends Unbounded (Excluded h) is = cc
reaches_ends (Included k) (Excluded h) is = λ key up. lower_within (Included k) (Excluded h) key is up
reaches_ends (Excluded k) (Excluded h) is = λ key up. by key (bytes_cmp k h) refl is up
  where
    by : (key : List ℕ) (o : Ordering) → bytes_cmp k h ≡ o → is_le o ≡ true → is_up_to (Excluded k) key ≡ true → is_up_to (Excluded h) key ≡ true
    by key Less e l up = lower_within (Excluded k) (Excluded h) key (ap is_lt e) up
    by key Equal e l up = subst (λ (x : List ℕ). is_up_to (Excluded x) key ≡ true) (same_bytes k h e) up
    by key Greater e l up = cc

-- What doesn't, and ends below a key, ends lower.
pub reaches_lower : (hi : Bound) (high : List ℕ) → reaches_to hi (Excluded high) ≡ false → IsLower (Excluded high) hi
reaches_lower Unbounded high is = tt
reaches_lower (Included k) high is = by (bytes_cmp k high) refl is
  where
    by : (o : Ordering) → bytes_cmp k high ≡ o → is_lt o ≡ false → is_gt (bytes_cmp high k) ≡ false
    by Less e l = cc
    by Equal e l = ap is_gt (bytes_flip high k ∙ ap ordering_reverse e)
    by Greater e l = ap is_gt (bytes_flip high k ∙ ap ordering_reverse e)
reaches_lower (Excluded k) high is = by (bytes_cmp k high) refl is
  where
    by : (o : Ordering) → bytes_cmp k high ≡ o → is_le o ≡ false → is_lt (bytes_cmp high k) ≡ true
    by Less e l = cc
    by Equal e l = cc
    by Greater e l = ap is_lt (bytes_flip high k ∙ ap ordering_reverse e)

-- A row that says up to where a range goes is reached as the edge is that it says.
pub reaches_top : (its : List ℕ) (high : Bound) → reaches_by its high ≡ reaches_to (top_of its) high
reaches_top its Unbounded = by (top_of its)
  where
    by : (top : Bound) → true ≡ reaches_to top Unbounded
    by Unbounded = refl
    by (Included k) = refl
    by (Excluded k) = refl
reaches_top its (Included h) = by (top_of its)
  where
    by : (top : Bound) → false ≡ reaches_to top (Included h)
    by Unbounded = refl
    by (Included k) = refl
    by (Excluded k) = refl
reaches_top its (Excluded h) = by (eqb (edge_form its) 0) (eqb (edge_form its) 1)
  where
    by : (none one : Bool) → cond none false (cond one (is_lt (bytes_cmp (route_key its) h)) (is_le (bytes_cmp (route_key its) h)))
        ≡ reaches_to (cond none Unbounded (cond one (Included (route_key its)) (Excluded (route_key its)))) (Excluded h)
    by true one = refl
    by false true = refl
    by false false = refl

-- A part of the keys that has a key begins before it.
from_low : (span : Span) (key : List ℕ) → HasKey span key → is_from span.low key ≡ true
from_low span key has = first_holds (is_from span.low key) (is_up_to span.high key) has

pub begins_at : (span : Span) (key : List ℕ) → HasKey span key → BeginsBefore span.low (Included key)
begins_at span key has x far = greater_within span.low x key far (from_low span key has)

pub begins_past : (span : Span) (key : List ℕ) → HasKey span key → BeginsBefore span.low (Excluded key)
begins_past span key has x far = greater_within span.low x key (by (bytes_cmp x key) far) (from_low span key has)
  where
    by : (o : Ordering) → is_gt o ≡ true → not (is_lt o) ≡ true
    by Less l = cc
    by Equal l = cc
    by Greater l = refl

-- What has no bound below begins before anything.
pub begins_open : (low edge : Bound) → low ≡ Unbounded → BeginsBefore low edge
begins_open low edge none x far = ap (λ (b : Bound). is_from b x) none
