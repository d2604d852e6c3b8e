-- What stands in front after one more attempt to write.
use Rattle.std.proofs.Common.{◌≡◌, ℕ, ◌+◌, ◌<◌, List, [], ◌++◌, length, take, get_or, flat_map, Result, Ok, Err, append_assoc, append-nil, sym, ap, ◌∙◌}
use Rattle.std.specs.Result.{OnOk}
use Rattle.std.proofs.lemmas.List.{take_more, flat_map_more}
use Rattle.ca_text.specs.Written.{BeginsWith}

-- What stands in front of a longer list stands in front of what it goes on to.
pub begins_more : (was now all xs : List ℕ) → now ≡ was ++ xs → BeginsWith all now → BeginsWith all was
begins_more was now all xs e b = record { rest = xs ++ b.rest; whole = b.whole ∙ ap (λ l. l ++ b.rest) e ∙ append_assoc was xs b.rest }

-- A list begins with itself.
pub begins_itself : (all : List ℕ) → BeginsWith all all
begins_itself all = record { rest = []; whole = sym (append-nil all) }

-- What was written behind a list leaves it in front.
pub begins_by : (was xs : List ℕ) {all : List ℕ} → all ≡ was ++ xs → BeginsWith all was
begins_by was xs e = record { rest = xs; whole = e }

-- One attempt after another leaves in front what the first one found.
pub begins_on : {was now all : List ℕ} → BeginsWith now was → BeginsWith all now → BeginsWith all was
begins_on {was} {now} {all} a b = begins_more was now all a.rest a.whole b

-- What a call wrote, if it is done, said in another way.
pub on_same : {A E : Type 0} (r : Result A E) (all : List ℕ) {a b : List ℕ} → a ≡ b → OnOk r (all ≡ a) → OnOk r (all ≡ b)
on_same (Ok x) all e p = p ∙ e
on_same (Err f) all e p = tt

-- Two parts were written in front of a rest.
pub written_two : (was x y rest : List ℕ) {now all : List ℕ} → now ≡ was ++ x → all ≡ now ++ y → all ++ rest ≡ was ++ (x ++ (y ++ rest))
written_two was x y rest {now} {all} e f =
    ap (λ z. z ++ rest) f ∙ append_assoc now y rest ∙ ap (λ z. z ++ (y ++ rest)) e ∙ append_assoc was x (y ++ rest)

-- One more item's text is written behind those of the items so far.
pub flat_step : {X : Type 0} (f : X → List ℕ) (was now next : List ℕ) (xs : List X) (i : ℕ) (d : X) → i < length xs → now ≡ was ++ flat_map f (take i xs)
    → next ≡ now ++ f (get_or xs i d) → next ≡ was ++ flat_map f (take (i + 1) xs)
flat_step f was now next xs i d h e g =
    g ∙ ap (λ z. z ++ f (get_or xs i d)) e ∙ flat_map_more f was (take i xs) (get_or xs i d) ∙ ap (λ z. was ++ flat_map f z) (sym (take_more xs i d h))
