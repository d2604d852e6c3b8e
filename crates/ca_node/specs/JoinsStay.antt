-- What holds of joins stays so, where steps leave the words that it speaks of, or take a join a step further.
use Rattle.std.proofs.Common.{◌≡◌, ℕ, zero, suc, ◌+◌, ◌*◌, ◌%◌, ◌<◌, List, [], ◌∷◌, get_or, sym, refl, ap, ◌∙◌, subst, inl, inr, ⊎_elim, arith}
use mathlib.Core.Option.{some, some-injective, some-ne-none}
use lib.ListN.{get_elem?}
use Rattle.ca_rows.specs.declared.sizes.Sizes.{Sizes}
use Rattle.ca_node.specs.Attempts.{join_of, IsJoinWord, HasAttempt, IsSecured, IsUnderWay, JoinGoesOn}
use Rattle.ca_node.specs.Joining.{AreJoining, IsRemembered, IsHung, IsJoining}
use Rattle.ca_node.specs.Links.{IsIn}
use Rattle.ca_node.specs.Marks.{IsOfRange, IsOfJoin, IsMarkIn, AreJoined}
use Rattle.ca_node.specs.Place.{Place, IsLinkOf}
use Rattle.ca_node.specs.Row.{row_at, IsBaseRow, count, mark_owner, mark_number, IsMarkedFor, IsUnmarked}
use Rattle.ca_node.specs.Shape.{Role, Route}
use Rattle.ca_node.specs.Stays.{IsSameRow}
use Rattle.ca_node.specs.Tree.{IsLinkOfView}
use Rattle.ca_node.specs.TreeView.{Note, Way, KnownJoins, TreeView, no_joins}
use Rattle.ca_rows.specs.Layout.{row_words}
use Rattle.ca_node.specs.Layout.{root_word}

-- A link is one of one route.
pub link_of_one : (a b link : ℕ) → IsLinkOf a link → IsLinkOf b link → a ≡ b
link_of_one a b link of other = ⊎_elim
    (λ (e : link ≡ row_words * a + 1). ⊎_elim (λ (f : link ≡ row_words * b + 1). omega arith) (λ (f : link ≡ row_words * b + 2). omega arith) other)
    (λ (e : link ≡ row_words * a + 2). ⊎_elim (λ (f : link ≡ row_words * b + 1). omega arith) (λ (f : link ≡ row_words * b + 2). omega arith) other)
    of

-- The route of a link that a seat remembers is one that it remembers.
pub remembered_route : (u : TreeView) (link route : ℕ) → IsLinkOfView u link → IsLinkOf route link → IsRemembered u.ways route
remembered_route u link route known of = ⊎_elim
    (λ (e : link ≡ root_word). absurd (⊎_elim (λ (l : link ≡ row_words * route + 1). omega arith) (λ (r : link ≡ row_words * route + 2). omega arith) of))
    (λ (t : (way : Way) × IsIn way u.ways × IsLinkOf way.row link). (t.0, t.1, link_of_one t.0.row route link t.2 of))
    known

-- A join goes on where its word is the same.
pub join_same : (words others : List ℕ) (route : ℕ) → join_of others route ≡ join_of words route → JoinGoesOn words others route
join_same words others route same = record {
  begun = λ attempt b. omega (arith, same);
  under_way = λ attempt b u. ⊎_elim (λ p. inl (sym same ∙ p)) (λ p. inr (sym same ∙ p)) u;
  finished = λ attempt f. ⊎_elim (λ e. inl (same ∙ e)) (λ l. inr (omega (arith, same))) f;
  secured = λ attempt e. same ∙ e;
  prepared = λ attempt b p. sym same ∙ p;
}

-- A seat knows still what it knew, where joins go on, and the links that named bases of joins under way name them still.
pub joining_goes_on : (words others : List ℕ) (notes : List Note) (ways : List Way) (joining : KnownJoins)
    → ((route : ℕ) → IsRemembered ways route → JoinGoesOn words others route)
    → ((note : Note) → IsIn note notes → (route : ℕ) → IsLinkOf route note.place.link → IsRemembered ways route)
    → ((note : Note) → IsIn note notes → (route attempt : ℕ) → IsLinkOf route note.place.link → IsMarkedFor note.its route attempt
    → IsUnderWay words route attempt → get_or words note.place.link 0 ≡ note.row → get_or others note.place.link 0 ≡ note.row)
    → IsJoining words notes ways joining → IsJoining others notes ways joining
joining_goes_on words others notes ways joining go remembered links k = record {
  hung = λ note i route attempt m. let h = k.hung note i route attempt m in let on = go route (remembered note i route h.is_link) in record {
    is_link = h.is_link;
    begun = on.begun attempt h.begun;
    hangs = λ now. let before = on.under_way attempt h.begun now in links note i route attempt h.is_link m before (h.hangs before);
  };
  begun = λ x i. let b = k.begun x i in (b.0, (go x.route b.0).begun x.number b.1);
  finished = λ x i. let b = k.finished x i in (b.0, λ number l. (go x.route b.0).finished number (b.1 number l));
  secured = λ x i. let b = k.secured x i in (b.0, (go x.route b.0).secured x.number b.1);
  decided = λ x i. let b = k.decided x i in let on = go x.route b.0 in
      (b.0, on.begun x.number b.1, λ now. b.2 (on.prepared x.number b.1 now));
}

-- So it does where each route that it remembers has the words that it had.
pub joining_same : (words others : List ℕ) (u : TreeView) → ((note : Note) → IsIn note u.notes → IsLinkOfView u note.place.link)
    → ((way : Way) → IsIn way u.ways → IsSameRow words others way.row) → IsJoining words u.notes u.ways u.ranges.joins
    → IsJoining others u.notes u.ways u.ranges.joins
joining_same words others u links same = joining_goes_on words others u.notes u.ways u.ranges.joins
    (λ route r. join_same words others route (subst (λ t. join_of others t ≡ join_of words t) r.2 (same r.0 r.1 3 (omega arith))))
    (λ note i route of. remembered_route u note.place.link route (links note i) of)
    (λ note i route attempt of marked now there. let r = remembered_route u note.place.link route (links note i) of in ⊎_elim
    (λ (e : note.place.link ≡ row_words * route + 1). ap (λ k. get_or others k 0) e
    ∙ (subst (λ t. get_or others (row_words * t + 1) 0 ≡ get_or words (row_words * t + 1) 0) r.2 (same r.0 r.1 1 (omega arith))
    ∙ (sym (ap (λ k. get_or words k 0) e) ∙ there)))
    (λ (e : note.place.link ≡ row_words * route + 2). ap (λ k. get_or others k 0) e
    ∙ (subst (λ t. get_or others (row_words * t + 2) 0 ≡ get_or words (row_words * t + 2) 0) r.2 (same r.0 r.1 2 (omega arith))
    ∙ (sym (ap (λ k. get_or words k 0) e) ∙ there)))
    of)

-- A mark for a join that is one at a place hangs there, where the link of the place names its base.
pub mark_hangs : (words : List ℕ) (note : Note) → IsMarkIn words note.place note.its → get_or words note.place.link 0 ≡ note.row
    → (route attempt : ℕ) → IsMarkedFor note.its route attempt → IsHung words note route attempt
mark_hangs words note is under route attempt m = ⊎_elim
    (λ (none : IsUnmarked note.its). let two = m.0 in absurd (omega arith))
    (λ some_mark. ⊎_elim
    (λ (r : IsOfRange note.its × _). let one = r.0.0 in let two = m.0 in absurd (omega arith))
    (λ (j : IsOfJoin note.place note.its × HasAttempt words (mark_owner note.its) (mark_number note.its)). record {
      is_link = subst (λ t. IsLinkOf t note.place.link) m.1 j.0.1;
      begun = subst (λ t. HasAttempt words t attempt) m.1 (subst (HasAttempt words (mark_owner note.its)) m.2 j.1);
      hangs = λ _. under;
    })
    some_mark) is

-- What a seat knows of joins with one note more, of a base that hangs,
pub joining_noted : (words : List ℕ) (note : Note) (notes : List Note) (ways : List Way) (joining : KnownJoins)
    → ((route attempt : ℕ) → IsMarkedFor note.its route attempt → IsHung words note route attempt)
    → IsJoining words notes ways joining → IsJoining words (note ∷ notes) ways joining
joining_noted words note notes ways joining here k = record {
  hung = λ n i. by n i.0 i.1;
  begun = k.begun;
  finished = k.finished;
  secured = k.secured;
  decided = k.decided;
}
  where
    by : (n : Note) (k' : ℕ) → get_elem? (note ∷ notes) k' ≡ some n → (route attempt : ℕ) → IsMarkedFor n.its route attempt → IsHung words n route attempt
    by n zero e = subst (λ (y : Note). (route attempt : ℕ) → IsMarkedFor y.its route attempt → IsHung words y route attempt) (some-injective note n e) here
    by n (suc k') e = k.hung n (k', e)

-- with no note,
pub joining_unnoted : (words : List ℕ) (notes : List Note) (ways : List Way) (joining : KnownJoins) → IsJoining words notes ways joining
    → IsJoining words [] ways joining
joining_unnoted words notes ways joining k = record {
  hung = λ n i. absurd (some-ne-none n (sym i.1));
  begun = k.begun;
  finished = k.finished;
  secured = k.secured;
  decided = k.decided;
}

-- and with one route more that it remembers.
pub joining_further : (words : List ℕ) (notes : List Note) (way : Way) (ways : List Way) (joining : KnownJoins) → IsJoining words notes ways joining
    → IsJoining words notes (way ∷ ways) joining
joining_further words notes way ways joining k = record {
  hung = k.hung;
  begun = λ x i. let b = k.begun x i in ((b.0.0, (suc b.0.1.0, b.0.1.1), b.0.2), b.1);
  finished = λ x i. let b = k.finished x i in ((b.0.0, (suc b.0.1.0, b.0.1.1), b.0.2), b.1);
  secured = λ x i. let b = k.secured x i in ((b.0.0, (suc b.0.1.0, b.0.1.1), b.0.2), b.1);
  decided = λ x i. let b = k.decided x i in ((b.0.0, (suc b.0.1.0, b.0.1.1), b.0.2), b.1, b.2);
}

-- Who knows nothing of joins knows what is so.
pub nothing_joining : (words : List ℕ) → IsJoining words [] [] no_joins
nothing_joining words = record {
  hung = λ n i. absurd (some-ne-none n (sym i.1));
  begun = λ x i. absurd (some-ne-none x (sym i.1));
  finished = λ x i. absurd (some-ne-none x (sym i.1));
  secured = λ x i. absurd (some-ne-none x (sym i.1));
  decided = λ x i. absurd (some-ne-none x (sym i.1));
}

-- A route has two bases under it that an attempt marked, where the bases under it have the words that they had.
pub joined_there : (z : Sizes) (words others : List ℕ) (route attempt : ℕ)
    → ((link : ℕ) → IsLinkOf route link → IsBaseRow (row_at words (get_or words link 0))
    → row_at others (get_or others link 0) ≡ row_at words (get_or words link 0))
    → AreJoined z words route attempt → AreJoined z others route attempt
joined_there z words others route attempt child j = let left = child (row_words * route + 1) (inl refl) j.left.0 in
    let right = child (row_words * route + 2) (inr refl) j.right.0 in record {
      left = subst (λ its. IsBaseRow its × IsMarkedFor its route attempt) (sym left) j.left;
      right = subst (λ its. IsBaseRow its × IsMarkedFor its route attempt) (sym right) j.right;
      few = let few = j.few in omega (arith, ap count left, ap count right);
    }

-- Secured joins have under their routes what they had, in a table in which no other one is secured, and the bases under routes have the words that they had.
pub joined_still : (z : Sizes) (words others : List ℕ) (role : ℕ → Role)
    → ((route : ℕ) (place : Place) (key : List ℕ) (attempt : ℕ) → role route ≡ Route place key → IsSecured others route attempt
    → IsSecured words route attempt)
    → ((route : ℕ) (place : Place) (key : List ℕ) → role route ≡ Route place key → IsJoinWord words route → IsJoinWord others route)
    → ((route : ℕ) (place : Place) (key : List ℕ) → role route ≡ Route place key → (link : ℕ) → IsLinkOf route link
    → IsBaseRow (row_at words (get_or words link 0)) → row_at others (get_or others link 0) ≡ row_at words (get_or words link 0))
    → AreJoining z words role → AreJoining z others role
joined_still z words others role before states child joined = record {
  secured = λ route place key attempt is now. joined_there z words others route attempt (child route place key is)
      (joined.secured route place key attempt is (before route place key attempt is now));
  states = λ route place key is. states route place key is (joined.states route place key is);
}

-- So they have where the join words are the same.
pub joined_same : (z : Sizes) (words others : List ℕ) (role : ℕ → Role)
    → ((route : ℕ) (place : Place) (key : List ℕ) → role route ≡ Route place key → join_of others route ≡ join_of words route)
    → ((route : ℕ) (place : Place) (key : List ℕ) → role route ≡ Route place key → (link : ℕ) → IsLinkOf route link
    → IsBaseRow (row_at words (get_or words link 0)) → row_at others (get_or others link 0) ≡ row_at words (get_or words link 0))
    → AreJoining z words role → AreJoining z others role
joined_same z words others role same child = joined_still z words others role
    (λ route place key attempt is now. sym (same route place key is) ∙ now)
    (λ route place key is state. subst (λ n. n % 4 < 3) (sym (same route place key is)) state) child

-- An attempt is under way where it was, by the same join word.
pub under_way_same : (words others : List ℕ) (route attempt : ℕ) → join_of others route ≡ join_of words route → IsUnderWay others route attempt
    → IsUnderWay words route attempt
under_way_same words others route attempt same now = ⊎_elim (λ q. inl (sym same ∙ q)) (λ q. inr (sym same ∙ q)) now
