-- The files of a call, accepted one by one, and what the next one comes to.
use Rattle.std.proofs.Common.{◌≡◌, ℕ, ◌+◌, ◌-◌, ◌≤◌, ◌<◌, List, [], ◌∷◌, ◌++◌, length, map, take, drop, get_or, arith, zero-add, refl, sym, ◌∙◌, ap, subst, inr, inl, Ok, Err}
use Rattle.std.proofs.lemmas.List.{length-map, length-take-le, map-append}
use Rattle.std.proofs.lemmas.List.Sums.{sum_by-append}
use Rattle.std.specs.Prelude.{Result}
use Rattle.ca_outside.proofs.Counts.{risen_since}
use Rattle.ca_outside.proofs.Growth.{grows_more}
use Rattle.ca_outside.specs.Fetches.{Fetched, fetched}
use Rattle.ca_outside.specs.Known.{Content, Untold, Missing, Holds, Tells}
use Rattle.ca_outside.specs.declared.shelf.FetchFault.{FetchFault}
use Rattle.ca_outside.specs.declared.shelf.FetchFault.TheVariants as fault
use Rattle.ca_cmd.specs.File.{Numbered}
use Rattle.ca_cli.specs.Call.{Call, Change, change_of, call_of, Adds}
use Rattle.ca_cli.specs.Accepted.{AreAccepted, ArePairs, all_well, most_bytes, total_length}
use Rattle.ca_cli.specs.Causes.{IsCause, IsReached}
use Rattle.ca_cli.specs.Complete.{AreHeld}
use Rattle.ca_cli.specs.Reading.{wanted_of, IsRead, IsFault}
use Rattle.ca_words.specs.Grammar.{IsLineOf, Files}
use Rattle.ca_words.specs.declared.tree.TreeOptions.{TreeOptions}
use Rattle.ca_cli.specs.declared.status.Status.{Status}
use Rattle.ca_cli.specs.declared.status.Status.TheVariants.{Done, Usage, ShelfFault, SinkFault, BadLine, NoMemory, TooLong}
use Rattle.ca_cli.proofs.Firsts.{first_more, rest_here, split_here}

-- The files of these names were fetched well and accepted, and they leave this room.
pub record IsReading (content : List ℕ → Content) (shelf : Change Fetched) (names : List (List ℕ)) (lines : List (List Numbered)) (room : ℕ) : Type 0 where
  pub files : List (List ℕ)
  pub fetches : Adds shelf (all_well names)
  pub accepted : AreAccepted content names files lines
  pub left : total_length files + room ≡ most_bytes

pairs_more : {X Y : Type 0} (R : X → Y → Type 0) (xs : List X) (ys : List Y) (x : X) (y : Y) → ArePairs R xs ys → R x y →
    ArePairs R (xs ++ x ∷ []) (ys ++ y ∷ [])
pairs_more R [] [] x y h r = (r, tt)
pairs_more R [] (b ∷ ys) x y h r = absurd h
pairs_more R (a ∷ xs) [] x y h r = absurd h
pairs_more R (a ∷ xs) (b ∷ ys) x y h r = (h.0, pairs_more R xs ys x y h.1 r)

total_more : (files : List (List ℕ)) (file : List ℕ) → total_length (files ++ file ∷ []) ≡ total_length files + length file
total_more files file = sum_by-append (λ (f : List ℕ). length f) files (file ∷ []) ∙ ap (λ (n : ℕ). total_length files + n) (zero-add (length file))

told_same : (c : Content) (file found : List ℕ) → c ≡ Holds file → Tells c found → file ≡ found
told_same Untold file found e t = cc
told_same Missing file found e t = absurd t
told_same (Holds x) file found e t = let s : x ≡ file = cc in sym s ∙ t

-- The names, seen by f, one of them, and the room for its file.
module _ {X : Type 0} (f : X → List ℕ) (names : List X) (i : ℕ) (name : X) (inside : i < length names) (here : name ≡ get_or names i name)
    (content : List ℕ → Content) (room : ℕ) where
  -- where the shelf holds the files from this one on
  pub first_held : AreHeld content (map f (drop i names)) room → AreHeld content (f name ∷ map f (drop (i + 1) names)) room
  first_held w = subst (λ (x : List (List ℕ)). AreHeld content x room) (rest_here f names i name inside here) w

  -- once this one was read, the shelf holds those behind it in the room that is left
  pub held_on : (own : List Numbered) (count : ℕ) → IsRead (content (f name)) room own count →
      AreHeld content (map f (drop i names)) room → AreHeld content (map f (drop (i + 1) names)) (room - count)
  held_on own count r w =
      let h = first_held w in
      let same : length h.0 ≡ count = ap (λ (x : List ℕ). length x) (told_same (content (f name)) h.0 r.file h.2 r.fetched) ∙ sym r.counted in
      subst (λ (n : ℕ). AreHeld content (map f (drop (i + 1) names)) (room - n)) same h.5

  -- the files before this one were accepted, and then this one is fetched
  module _ (first next : Change Fetched) (joined : first.after ≡ next.before) (lines : List (List Numbered))
      (h : IsReading content first (map f (take i names)) lines room) where
    abbrev whole : Change Fetched
    whole = change_of first.before next.after first.faults_before next.faults_after

    adds_both : (xs ys : List Fetched) → Adds first xs → Adds next ys → Adds whole (xs ++ ys)
    adds_both xs ys g k = grows_more first.before first.after next.after xs ys g (rw joined k)

    -- it was read
    pub reads_next : (own : List Numbered) (count : ℕ) → IsRead (content (f name)) room own count → Adds next (fetched (f name) (Ok tt) ∷ [])
        → IsReading content whole (map f (take (i + 1) names)) (lines ++ own ∷ []) (room - count)
    reads_next own count r g =
        let before = map f (take i names) in
        let total : total_length (h.files ++ r.file ∷ []) ≡ total_length h.files + count =
        total_more h.files r.file ∙ ap (λ (n : ℕ). total_length h.files + n) (sym r.counted) in
        subst (λ (x : List (List ℕ)). IsReading content whole x (lines ++ own ∷ []) (room - count)) (sym (first_more f names i name inside here))
        record {
          files = h.files ++ r.file ∷ [];
          fetches = rw (map-append (λ (n : List ℕ). fetched n (Ok tt)) before (f name ∷ [])) (adds_both (all_well before) _ h.fetches g);
          accepted = record {
            fetched = pairs_more _ before h.files (f name) r.file h.accepted.fetched r.fetched;
            limit = omega (arith, total, h.left, r.fits);
            read = pairs_more _ h.files lines r.file own h.accepted.read r.read;
          };
          left = omega (arith, total, h.left, r.fits);
        }

    module _ (words : List (List ℕ)) (keypos : ℕ) (options : TreeOptions) (asked : IsLineOf words (Files keypos (map f names)) options) where
      abbrev call : Call
      call = call_of words content whole

      abbrev reached : (number : ℕ) (end : Result (Unit {0}) FetchFault) → number ≡ i + 1 → Adds next (fetched (f name) end ∷ []) → IsReached call number end
      reached number end e g = record {
        keypos = keypos;
        names = map f names;
        options = options;
        asked = asked;
        earlier = map f (take i names);
        name = f name;
        later = map f (drop (i + 1) names);
        named = split_here f names i name inside here;
        place = e ∙ ap (λ (k : ℕ). k + 1) (sym (length-map (take i names) f ∙ length-take-le i names (omega (arith, inside))));
        files = h.files;
        lines = lines;
        accepted = h.accepted;
        fetches = adds_both (all_well (map f (take i names))) (fetched (f name) end ∷ []) h.fetches g;
      }

      -- it was not accepted: the cause of the status that the call comes to, where these files are asked for
      pub fault_cause : (number : ℕ) (status : Status) → number ≡ i + 1 → first.faults_before ≤ next.faults_before →
          IsFault next (wanted_of number (f name) (content (f name)) room) status → IsCause call status
      fault_cause number Done e o b = absurd b
      fault_cause number Usage e o b = absurd b
      fault_cause number (ShelfFault file) e o b = (reached file (Err fault.Failed) (b.0 ∙ e) b.2, risen_since _ _ _ o b.1)
      fault_cause number SinkFault e o b = absurd b
      fault_cause number (BadLine file line at) e o b = record {
        reached = reached file (Ok tt) (b.0 ∙ e) b.2;
        file = b.1.file;
        fetched = b.1.fetched;
        limit = omega (arith, h.left, b.1.fits);
        why = b.1.why;
        refused = b.1.refused;
      }
      fault_cause number NoMemory e o b = inr (inl (number, b.0, reached number b.0 e b.1))
      fault_cause number (TooLong file) e o b =
          let left : room ≡ most_bytes - total_length h.files = omega (arith, h.left) in
          record { reached = reached file (Err fault.TooLong) (b.0 ∙ e) b.2; over = rw left at b.1 }
