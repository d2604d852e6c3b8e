-- Commands that are played one after the other.
use Rattle.std.proofs.Common.{◌≡◌, ℕ, zero, suc, ◌+◌, ◌≤◌, List, [], ◌∷◌, ◌++◌, length, take, drop, refl, sym, ◌∙◌, ap, subst, arith, append_assoc, append-nil, Some, None, Ok, Err}
use Rattle.std.specs.Prelude.{Option}
use Rattle.ca_ets.specs.Command.{Command, Continuation, Response, Never, Answer}
use Rattle.ca_model.specs.Event.{Entry}
use Rattle.ca_model.specs.History.{History}
use Rattle.ca_model.specs.Known.{Known, Counts}
use Rattle.ca_explain.specs.Clients.{Part, from_event, log_of, AreReads, Plays}
use Rattle.ca_client.specs.Tries.{Tries, AreAllTries, with_tries, with_all_tries}
use Rattle.ca_client.specs.Played.{AreCounted, HasGrown, HasRead, HasAnswered, HasPlayed, HasStopped, IsPlayed}
use Rattle.ca_client.proofs.Refusals.{with_one_more, all_and_one, counted_all}
use Rattle.ca_client.proofs.Trying.{grown_none, grown_both}

-- The first of these commands were answered, and these are left: whatever answers and parts they come to, they come behind those that are there.
pub record IsPlaying (a b : Known) (now : Continuation) (commands left : List Command) (answers : List Answer) : Type 0 where
  pub done : List Command
  pub all : commands ≡ done ++ left
  pub parts : List Part
  pub goes_on : (rest : List Command) (more : List Answer) (behind : List Part) → Plays a.keypos now rest more behind
      → Plays a.keypos Never (done ++ rest) (answers ++ more) (parts ++ behind)
  pub learnt : History
  pub grown : HasGrown a b learnt (log_of parts)
  pub tries : List Tries
  pub tried : AreAllTries tries answers
  pub counts : b.counts ≡ with_all_tries tries a.counts

pub begins : (a : Known) (commands : List Command) → IsPlaying a a Never commands commands []
begins a commands = record {
  done = [];
  all = refl;
  parts = [];
  goes_on = λ rest more behind p. p;
  learnt = [];
  grown = grown_none a;
  tries = [];
  tried = tt;
  counts = refl;
}

from_append : (event : Option Entry) (xs ys : List Entry) → from_event event (xs ++ ys) ≡ from_event event xs ++ ys
from_append None xs ys = refl
from_append (Some x) xs ys = refl

log_more : (parts : List Part) (part : Part) → log_of (parts ++ part ∷ []) ≡ log_of parts ++ (part.left ++ from_event part.event [])
log_more [] part = refl
log_more (p ∷ parts) part =
    let own = part.left ++ from_event part.event [] in
    ap (λ (es : List Entry). p.left ++ from_event p.event es) (log_more parts part)
    ∙ ap (λ (es : List Entry). p.left ++ es) (from_append p.event (log_of parts) own)
    ∙ sym (append_assoc p.left (from_event p.event (log_of parts)) own)

module _ (a b d : Known) (now next : Continuation) (commands : List Command) (command : Command) (left : List Command) (answers : List Answer)
    (p : IsPlaying a b now commands (command ∷ left) answers) where
  step_on : (answer : Answer) (part : Part) → AreReads part.left → IsPlayed a.keypos now command answer part next
      → (rest : List Command) (more : List Answer) (behind : List Part) → Plays a.keypos next rest more behind
      → Plays a.keypos now (command ∷ rest) (answer ∷ more) (part ∷ behind)
  step_on (Ok response) part reads played rest more behind plays = (reads, (next, played, plays))
  step_on (Err refusal) part reads played rest more behind plays =
      (reads, played.0, subst (λ (k : Continuation). Plays a.keypos k rest more behind) played.1 plays)

  -- One command more was answered.
  pub plays_on : (answer : Answer) → HasAnswered b d now command answer next → IsPlaying a d next commands left (answers ++ answer ∷ [])
  plays_on answer h = let own = h.part.left ++ from_event h.part.event [] in record {
    done = p.done ++ command ∷ [];
    all = p.all ∙ sym (append_assoc p.done (command ∷ []) left);
    parts = p.parts ++ h.part ∷ [];
    goes_on = λ rest more behind plays.
        subst (λ (cs : List Command). Plays a.keypos Never cs ((answers ++ answer ∷ []) ++ more) ((p.parts ++ h.part ∷ []) ++ behind))
        (sym (append_assoc p.done (command ∷ []) rest))
        (subst (λ (given : List Answer). Plays a.keypos Never (p.done ++ command ∷ rest) given ((p.parts ++ h.part ∷ []) ++ behind))
        (sym (append_assoc answers (answer ∷ []) more))
        (subst (λ (ps : List Part). Plays a.keypos Never (p.done ++ command ∷ rest) (answers ++ answer ∷ more) ps)
        (sym (append_assoc p.parts (h.part ∷ []) behind))
        (p.goes_on (command ∷ rest) (answer ∷ more) (h.part ∷ behind)
        (step_on answer h.part h.reads (subst (λ (n : ℕ). IsPlayed n now command answer h.part next) p.grown.same.keypos h.played)
        rest more behind plays))));
    learnt = p.learnt ++ h.learnt;
    grown = subst (λ (es : List Entry). HasGrown a d (p.learnt ++ h.learnt) es) (sym (log_more p.parts h.part))
        (grown_both a b d p.learnt h.learnt (log_of p.parts) own p.grown h.grown);
    tries = p.tries ++ h.tries ∷ [];
    tried = all_and_one p.tries h.tries answers answer p.tried h.tried;
    counts = h.counts ∙ ap (with_tries h.tries) p.counts ∙ sym (with_one_more p.tries h.tries a.counts);
  }

module _ (a b : Known) (now : Continuation) (commands left : List Command) (answers : List Answer) (p : IsPlaying a b now commands left answers) where
  -- What was played so far.
  so_far : Plays a.keypos Never p.done answers p.parts
  so_far =
      subst (λ (cs : List Command). Plays a.keypos Never cs answers p.parts) (append-nil p.done)
      (subst (λ (given : List Answer). Plays a.keypos Never (p.done ++ []) given p.parts) (append-nil answers)
      (subst (λ (ps : List Part). Plays a.keypos Never (p.done ++ []) (answers ++ []) ps) (append-nil p.parts) (p.goes_on [] [] [] tt)))

  -- All commands were answered.
  pub ends : left ≡ [] → HasPlayed a b commands answers
  ends none = record {
    parts = p.parts;
    plays = subst (λ (cs : List Command). Plays a.keypos Never cs answers p.parts)
        (sym (p.all ∙ ap (λ (cs : List Command). p.done ++ cs) none ∙ append-nil p.done)) so_far;
    learnt = p.learnt;
    grown = p.grown;
    tries = p.tries;
    tried = p.tried;
    counts = p.counts;
    counted = subst (λ (counts : Counts). AreCounted a.counts counts answers) (sym p.counts) (counted_all p.tries answers a.counts p.tried);
  }

  take_front : {A : Type 0} (xs ys : List A) → take (length xs) (xs ++ ys) ≡ xs
  take_front [] ys = refl
  take_front (x ∷ xs) ys = ap (λ zs. x ∷ zs) (take_front xs ys)

  front_length : {A : Type 0} (xs ys : List A) → length xs ≤ length (xs ++ ys)
  front_length [] ys = omega arith
  front_length (x ∷ xs) ys = let h = front_length xs ys in omega arith

  -- The next one's tries read, and found no memory.
  pub stops : (d : Known) → HasRead b d → HasStopped a d commands
  stops d h = record {
    done = length p.done;
    before = subst (λ (cs : List Command). length p.done ≤ length cs) (sym p.all) (front_length p.done left);
    answers = answers;
    parts = p.parts;
    plays = subst (λ (cs : List Command). Plays a.keypos Never cs answers p.parts)
        (sym (ap (λ (cs : List Command). take (length p.done) cs) p.all ∙ take_front p.done left)) so_far;
    left = h.left;
    reads = h.reads;
    learnt = p.learnt ++ h.learnt;
    grown = grown_both a b d p.learnt h.learnt (log_of p.parts) h.left p.grown h.grown;
  }
