-- A command that is tried until it is answered.
use Rattle.std.proofs.Common.{◌≡◌, ℕ, suc, ◌+◌, ◌*◌, ◌≤◌, ◌<◌, min, List, [], ◌∷◌, ◌++◌, refl, sym, ◌∙◌, ap, subst, inl, inr, arith, append_assoc, append-nil, Some, None, Ok, Err}
use Rattle.std.specs.Prelude.{Option, ◌⊎◌, IsSome}
use Rattle.ca_ets.specs.Command.{Command, Continuation, Response, Answer, Refusal, Full, Deep, Worn}
use Rattle.ca_ets.specs.Nature.{Asking, ReadsKey, ReadsBy, ReadsMany, Edits, EditsBy, EditsRead, Puts, Found, OfKey, OfLeastKey, OfGreatestKey, OfNextKey, OfPreviousKey, Memory, ForNothing, ForRoom, ForFound, ForOperations, ForResults}
use Rattle.ca_model.specs.declared.outcome.Cause.{Cause}
use Rattle.ca_model.specs.declared.outcome.Cause.TheVariants as cause
use Rattle.ca_model.specs.declared.outcome.FullCause.{FullCause}
use Rattle.ca_model.specs.declared.outcome.Spent.{Spent}
use Rattle.ca_model.specs.Event.{Event, Entry, effect}
use Rattle.ca_model.specs.History.{History, after}
use Rattle.ca_model.specs.Known.{Known, Seen, Counts, IsSameStore, Learns, Meets, Stays, seen_with, place_of, around, one_more}
use Rattle.ca_explain.specs.Carries.{Carries, IsFree}
use Rattle.ca_explain.specs.Clients.{Part, from_event, AreReads}
use Rattle.ca_explain.specs.Steps.{Steps, Refrains, Refused}
use Rattle.ca_explain.proofs.Calls.{both_reads, one_read}
use Rattle.ca_explain.proofs.Learning.{same_as_it_is, same_store, seen_twice}
use Rattle.ca_explain.proofs.TakenUpdates.{after-append}
use Rattle.ca_table.specs.ComesTo.{IsOvertaken, EditsNothing, HasOutcome, Lacks, StepsOnce, finding}
use Rattle.ca_model.specs.declared.outcome.Outcome.TheVariants as outcome
use Rattle.ca_ets.specs.Step.{nature_of}
use Rattle.ca_table.proofs.Once.{steps_of}
use Rattle.ca_client.specs.Tries.{AreTriedAgain, IsAnsweredBy, doubled, waits_in, with_refusals}
use Rattle.ca_client.specs.Played.{HasGrown, HasRead, HasAnswered}
use Rattle.ca_client.proofs.Refusals.{with_more, again_more, budget_after, budget_more, budget_stays, waits_more, waits_stay}

seen_nothing : (s : Option Seen) → s ≡ seen_with s [] []
seen_nothing None = refl
seen_nothing (Some s) = rw (append-nil s.history, append-nil s.log) refl

-- Nothing was learnt, and nothing came into the log.
pub grown_none : (a : Known) → HasGrown a a [] []
grown_none a = record { same = same_as_it_is a; map = refl; seen = seen_nothing a.seen }

-- What grew twice grew by both.
pub grown_both : (a b d : Known) (xs ys : History) (es fs : List Entry) → HasGrown a b xs es → HasGrown b d ys fs → HasGrown a d (xs ++ ys) (es ++ fs)
grown_both a b d xs ys es fs x y = record {
  same = same_store a b d x.same y.same;
  map = y.map ∙ ap (after ys) x.map ∙ sym (after-append xs ys a.map);
  seen = y.seen ∙ ap (λ (s : Option Seen). seen_with s ys fs) x.seen ∙ seen_twice a.seen xs ys es fs;
}

of_learns : (a b : Known) (xs : History) (es : List Entry) → Learns a b xs es → HasGrown a b xs es
of_learns a b xs es x = record { same = x.same; map = x.map; seen = x.seen }

of_stays : (a b : Known) → Stays a b → HasGrown a b [] []
of_stays a b x = record { same = x.same; map = x.map; seen = x.seen ∙ seen_nothing a.seen }

-- Nothing was tried.
pub read_nothing : (a : Known) → HasRead a a
read_nothing a = record { left = []; reads = tt; learnt = []; grown = grown_none a }

read_both : (a b d : Known) → HasRead a b → HasRead b d → HasRead a d
read_both a b d x y = record {
  left = x.left ++ y.left;
  reads = both_reads x.left y.left x.reads y.reads;
  learnt = x.learnt ++ y.learnt;
  grown = grown_both a b d x.learnt y.learnt x.left y.left x.grown y.grown;
}

of_refrains : (a b : Known) (counts : Counts) → Refrains a b counts → HasRead a b
of_refrains a b counts r = record { left = r.left; reads = r.reads; learnt = r.learnt; grown = of_learns a b r.learnt r.left r.learns }

read_stays : (a b : Known) → Stays a b → HasRead a b
read_stays a b x = record { left = []; reads = tt; learnt = []; grown = of_stays a b x }

-- The command was tried so far: the next try has this budget, and so many waits were made.
pub record IsTried (a b : Known) (budget waits : ℕ) : Type 0 where
  pub read : HasRead a b
  pub again : List Cause
  pub tried : AreTriedAgain 64 0 again
  pub budget_is : budget_after 64 again ≤ budget
  pub waits_are : waits_in again ≡ waits
  pub counts : b.counts ≡ with_refusals again a.counts

pub not_tried : (a : Known) → IsTried a a 64 0
not_tried a = record { read = read_nothing a; again = []; tried = tt; budget_is = omega arith; waits_are = refl; counts = refl }

module _ (a b d : Known) (budget waits : ℕ) (t : IsTried a b budget waits) where
  counted_more : (x : Cause) → d.counts ≡ one_more x b.counts → d.counts ≡ with_refusals (t.again ++ x ∷ []) a.counts
  counted_more x e = e ∙ ap (one_more x) t.counts ∙ sym (with_more t.again x a.counts)

  -- It was busy, and its next budget is at least twice this one.
  pub behind_busy : (spent : Spent) (next : ℕ) → Refused b d (one_more (cause.Busy spent) b.counts) → budget ≤ spent.lost + spent.helped + spent.passed
      → doubled budget ≤ next → IsTried a d next waits
  behind_busy spent next r all twice = let low = t.budget_is in record {
    read = read_both a b d t.read (of_refrains b d (one_more (cause.Busy spent) b.counts) r.refrains);
    again = t.again ++ cause.Busy spent ∷ [];
    tried = again_more t.again (cause.Busy spent) 64 0 t.tried (omega arith, tt);
    budget_is = subst (λ (n : ℕ). n ≤ next) (sym (budget_more t.again spent 64)) (omega arith);
    waits_are = waits_stay t.again spent ∙ t.waits_are;
    counts = counted_more (cause.Busy spent) r.refrains.counts_are;
  }

  -- Another client's object was put under its key meanwhile.
  pub behind_overtaken : (next : ℕ) → Refrains b d b.counts → budget ≤ next → IsTried a d next waits
  behind_overtaken next r more = let low = t.budget_is in record {
    read = read_both a b d t.read (of_refrains b d b.counts r);
    again = t.again;
    tried = t.tried;
    budget_is = omega arith;
    waits_are = t.waits_are;
    counts = r.counts_are ∙ t.counts;
  }

  -- It found no room while another pass lagged, and waited.
  pub behind_wait : (why : FullCause) → Refused b d (one_more (cause.Full why) b.counts) → IsSome why.lag → waits < 1000 → IsTried a d budget (waits + 1)
  behind_wait why r lags few = let n = t.waits_are in record {
    read = read_both a b d t.read (of_refrains b d (one_more (cause.Full why) b.counts) r.refrains);
    again = t.again ++ cause.Full why ∷ [];
    tried = again_more t.again (cause.Full why) 64 0 t.tried (lags, omega arith, tt);
    budget_is = subst (λ (n : ℕ). n ≤ budget) (sym (budget_stays t.again why 64)) t.budget_is;
    waits_are = let one : suc waits ≡ waits + 1 = omega arith in waits_more t.again why ∙ ap (λ (n : ℕ). suc n) t.waits_are ∙ one;
    counts = counted_more (cause.Full why) r.refrains.counts_are;
  }

  module _ (before behind : Continuation) (command : Command) where
    stepped : (response : Response) → Steps b d before command response behind → HasAnswered a d before command (Ok response) behind
    stepped response (inl s) =
        let entry : Entry = (s.event, place_of b s.earlier s.event) in
        let new = around b.pass s.earlier s.event s.later in record {
          part = record { left = t.read.left ++ s.left; event = Some entry };
          reads = both_reads t.read.left s.left t.read.reads s.reads;
          played = subst (λ (n : ℕ). Carries n s.event before command response behind) t.read.grown.same.keypos s.carries;
          learnt = t.read.learnt ++ new;
          grown = subst (λ (es : List Entry). HasGrown a d (t.read.learnt ++ new) es) (sym (append_assoc t.read.left s.left (entry ∷ [])))
              (grown_both a b d t.read.learnt new t.read.left (s.left ++ entry ∷ []) t.read.grown (of_learns b d new (s.left ++ entry ∷ []) s.learns));
          tries = record { again = t.again; last = None };
          tried = record { again = t.tried; answered = tt };
          counts = s.counts ∙ t.counts;
        }
    stepped response (inr s) = record {
      part = record { left = t.read.left; event = None };
      reads = t.read.reads;
      played = subst (λ (n : ℕ). IsFree n before command response behind) t.read.grown.same.keypos s.free;
      learnt = t.read.learnt ++ [];
      grown = grown_both a b d t.read.learnt [] t.read.left [] t.read.grown (of_stays b d s.stays);
      tries = record { again = t.again; last = None };
      tried = record { again = t.tried; answered = tt };
      counts = s.stays.counts ∙ t.counts;
    }

    -- The last try is answered by a reply.
    pub replied : (response : Response) → StepsOnce b d before command response behind → HasAnswered a d before command (Ok response) behind
    replied response s = stepped response (steps_of b d before behind command response s)

    -- Or by a refusal.
    pub refused : (refusal : Refusal) (x : Cause) → Refused b d (one_more x b.counts) → behind ≡ before → IsAnsweredBy waits (Some x) (Err refusal)
        → HasAnswered a d before command (Err refusal) behind
    refused refusal x r stays ends = let read = read_both a b d t.read (of_refrains b d (one_more x b.counts) r.refrains) in record {
      part = record { left = read.left; event = None };
      reads = read.reads;
      played = (refl, stays);
      learnt = read.learnt;
      grown = subst (λ (es : List Entry). HasGrown a d read.learnt es) (sym (append-nil read.left)) read.grown;
      tries = record { again = t.again; last = Some x };
      tried = record { again = t.tried; answered = subst (λ (n : ℕ). IsAnsweredBy n (Some x) (Err refusal)) (sym t.waits_are) ends };
      counts = r.refrains.counts_are ∙ ap (one_more x) t.counts;
    }

  -- The last try found no memory.
  pub stopped : HasRead b d → HasRead a d
  stopped = read_both a b d t.read

-- A wait isn't worth it where no pass lags, or behind all waits.
pub at_last : (why : FullCause) (waits : ℕ) → (why.lag ≡ None) ⊎ (1000 ≤ waits) → waits ≤ 1000 → IsAnsweredBy waits (Some (cause.Full why)) (Err Full)
at_last why waits (inl none) few = inl none
at_last why waits (inr all) few = inr (omega arith)

-- A command that was overtaken read.
pub overtaken_reads : (a b : Known) (asks : Asking) (spent : Spent) → IsOvertaken a b asks spent → Refrains a b a.counts
overtaken_reads a b ReadsKey spent x = absurd x
overtaken_reads a b (ReadsBy s) spent x = absurd x
overtaken_reads a b ReadsMany spent x = absurd x
overtaken_reads a b Edits spent x = absurd x
overtaken_reads a b (EditsBy op) spent x = absurd x
overtaken_reads a b (EditsRead k) spent x = x.1.refrains
overtaken_reads a b Puts spent x = absurd x

finds : (found : Found) (object : List ℕ) → effect (finding found object) ≡ []
finds (OfKey k) object = refl
finds OfLeastKey object = refl
finds OfGreatestKey object = refl
finds (OfNextKey k) object = refl
finds (OfPreviousKey k) object = refl

edits_nothing : (a b : Known) → EditsNothing a b → HasRead a b
edits_nothing a b (inl s) = read_stays a b s
edits_nothing a b (inr r) = of_refrains a b a.counts r

-- A command that found no memory read.
pub lacking_reads : (a b : Known) (takes : Memory) → Lacks a b takes → HasRead a b
lacking_reads a b ForNothing x = absurd x
lacking_reads a b ForRoom x = read_stays a b x.0
lacking_reads a b (ForFound found) x = of_refrains a b a.counts (one_read a b (finding found x.0) (finds found x.0) x.1)
lacking_reads a b (ForOperations op) x = read_stays a b x.0
lacking_reads a b ForResults x = edits_nothing a b x

-- A command that was busy, or overtaken, is tried again.
pub tried_again : (a b d : Known) (budget waits next : ℕ) (command : Command) (spent : Spent) → IsTried a b budget waits
    → HasOutcome b d budget command (outcome.Busy spent) → doubled budget ≤ next → budget ≤ next → IsTried a d next waits
tried_again a b d budget waits next command spent t (inl busy) twice more = behind_busy a b d budget waits t spent next busy.1 busy.2 twice
tried_again a b d budget waits next command spent t (inr over) twice more =
    behind_overtaken a b d budget waits t next (overtaken_reads b d (nature_of command).asks spent over) more
