-- How what is told grows from call to call.
use Rattle.std.proofs.Common.{ℕ, ◌≤◌, ◌+◌, List, [], ◌++◌, length, take, drop, sym, append_assoc, append-nil, take-add, take_all, None, Some}
use Rattle.std.specs.Prelude.{Option}
use Rattle.ca_outside.specs.Known.{Grows}

-- nothing more
pub grows_none : {A : Type 0} (a : Option (List A)) → Grows a a []
grows_none None = tt
grows_none (Some xs) = sym (append-nil xs)

-- one growth after another
pub grows_more : {A : Type 0} (a b c : Option (List A)) (xs ys : List A) → Grows a b xs → Grows b c ys → Grows a c (xs ++ ys)
grows_more None None None xs ys g h = tt
grows_more None None (Some z) xs ys g h = h
grows_more None (Some y) c xs ys g h = absurd g
grows_more (Some x) None None xs ys g h = tt
grows_more (Some x) None (Some z) xs ys g h = absurd h
grows_more (Some x) (Some y) None xs ys g h = tt
grows_more (Some x) (Some y) (Some z) xs ys g h = rw (h, g, append_assoc)

-- a further part of the bytes
pub grows_by : (a b c : Option (List ℕ)) (bytes : List ℕ) (at n : ℕ) → Grows a b (take at bytes) → Grows b c (take n (drop at bytes))
    → Grows a c (take (at + n) bytes)
grows_by a b c bytes at n g h = rw (take-add at n bytes) (grows_more a b c (take at bytes) (take n (drop at bytes)) g h)

-- the part that is the whole
pub grows_whole : (a b : Option (List ℕ)) (bytes : List ℕ) (at : ℕ) → length bytes ≤ at → Grows a b (take at bytes) → Grows a b bytes
grows_whole a b bytes at h g = rw (← take_all at bytes h) g

-- what a call that writes piece by piece adds
pub ruleset growing = (grows_by, grows_none, grows_whole)
