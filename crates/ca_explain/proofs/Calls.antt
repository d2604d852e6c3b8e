-- Calls of a store, one after the other, as one call of a table: reads, and then the call that makes the step or is refused.
use Rattle.std.proofs.Common.{◌≡◌, ℕ, ◌+◌, true, List, [], ◌∷◌, ◌++◌, length, refl, sym, ◌∙◌, ap, subst, append_assoc}
use Rattle.std.specs.Prelude.{Option}
use Rattle.ca_ets.specs.Command.{Command, Response, Continuation}
use Rattle.ca_model.specs.StoreMap.{StoreMap}
use Rattle.ca_model.specs.History.{Edit, History, after, by_pass, AreByOthers}
use Rattle.ca_model.specs.Event.{Event, Entry, IsAnswer, effect}
use Rattle.ca_model.specs.Known.{Known, Seen, Counts, Learns, Meets, Declines, Stays, StaysBesideRun, seen_with, place, around, place_of}
use Rattle.ca_explain.specs.Carries.{Carries}
use Rattle.ca_explain.specs.Clients.{AreReads}
use Rattle.ca_explain.specs.Steps.{ByCall, Refrains, Refused}
use Rattle.ca_explain.proofs.TakenUpdates.{after-append}
use Rattle.ca_explain.proofs.Learning.{same_store, learns_both, others_both, place_since}

-- One call makes the step that it carries.
pub one_call : (a b : Known) (event : Event) (k l : Continuation) (c : Command) (r : Response) → Meets a b event → Carries a.keypos event k c r l
    → ByCall a b k c r l
one_call a b event k l c r m carries = record {
  left = [];
  reads = tt;
  event = event;
  carries = carries;
  earlier = m.earlier;
  later = m.later;
  answer = m.answer;
  learns = m.learns;
  others_earlier = m.others_earlier;
  others_later = m.others_later;
  alone = m.alone;
  counts = m.counts;
}

module _ (a b : Known) (event : Event) (none : effect event ≡ []) (m : Meets a b event) where
  -- All that a read learns of was done by others.
  pub read_others : AreByOthers a.pass (around a.pass m.earlier event m.later)
  read_others =
      subst (λ (es : List Edit). AreByOthers a.pass (m.earlier ++ by_pass a.pass es ++ m.later)) (sym none)
      (others_both a.pass (m.earlier ++ []) m.later (others_both a.pass m.earlier [] m.others_earlier tt) m.others_later)

  -- A read learns of nothing where nobody else edits the store.
  pub read_alone : a.alone ≡ true → around a.pass m.earlier event m.later ≡ []
  read_alone h =
      ap (λ (es : List Edit). m.earlier ++ by_pass a.pass es ++ m.later) none ∙ ap (λ (z : History). z ++ [] ++ m.later) (m.alone h).0 ∙ (m.alone h).1

  -- A read makes no edit.
  pub one_read : Refrains a b a.counts
  one_read = record {
    left = (event, place_of a m.earlier event) ∷ [];
    reads = (none, tt);
    learnt = around a.pass m.earlier event m.later;
    learns = m.learns;
    others = read_others;
    alone = read_alone;
    counts_are = m.counts;
  }

-- A refused call makes no edit.
pub one_refusal : (a b : Known) (counts : Counts) → Declines a b counts → Refused a b counts
one_refusal a b counts d = record {
  refrains = record {
    left = [];
    reads = tt;
    learnt = d.learnt;
    learns = d.learns;
    others = d.others;
    alone = d.alone;
    counts_are = d.counts_are;
  };
  unsure = d.unsure;
}

-- Reads before reads are reads.
pub both_reads : (xs ys : List Entry) → AreReads xs → AreReads ys → AreReads (xs ++ ys)
both_reads [] ys h k = k
both_reads (x ∷ xs) ys h k = (h.0, both_reads xs ys h.1 k)

-- Where no edit was made and then none again, none was made.
pub then_refrains : (a b d : Known) (counts : Counts) → Refrains a b a.counts → Refrains b d counts → Refrains a d counts
then_refrains a b d counts x y = record {
  left = x.left ++ y.left;
  reads = both_reads x.left y.left x.reads y.reads;
  learnt = x.learnt ++ y.learnt;
  learns = learns_both a b d x.learnt y.learnt x.left y.left x.learns y.learns;
  others = others_both a.pass x.learnt y.learnt x.others (subst (λ (i : ℕ). AreByOthers i y.learnt) x.learns.same.pass y.others);
  alone = λ h. ap (λ (z : History). z ++ y.learnt) (x.alone h) ∙ y.alone (x.learns.same.alone ∙ h);
  counts_are = y.counts_are;
}

-- A call behind reads makes the step that it carries.
pub then_call : (a b d : Known) (event : Event) (k l : Continuation) (c : Command) (r : Response) → Refrains a b a.counts → Meets b d event
    → Carries a.keypos event k c r l → ByCall a d k c r l
then_call a b d event k l c r x m carries =
    let n = length (effect event) in
    let own = by_pass a.pass (effect event) in
    let entry : Entry = (event, place_of b m.earlier event) in
    let all = x.learnt ++ around b.pass m.earlier event m.later in
    let whole = learns_both a b d x.learnt (around b.pass m.earlier event m.later) x.left (entry ∷ []) x.learns m.learns in
    let grouped : all ≡ around a.pass (x.learnt ++ m.earlier) event m.later =
    ap (λ (i : ℕ). x.learnt ++ around i m.earlier event m.later) x.learns.same.pass
    ∙ sym (append_assoc x.learnt (m.earlier ++ own) m.later) ∙ ap (λ (z : History). z ++ m.later) (sym (append_assoc x.learnt m.earlier own)) in
    let moved : after (x.learnt ++ m.earlier) a.map ≡ after m.earlier b.map =
    after-append x.learnt m.earlier a.map ∙ ap (after m.earlier) (sym x.learns.map) in
    let seen : d.seen ≡ seen_with a.seen all (x.left ++ (event, place_of a (x.learnt ++ m.earlier) event) ∷ []) =
    whole.seen
    ∙ ap (λ (s : Option Seen). seen_with a.seen all (x.left ++ (event, place s + length m.earlier + n) ∷ []))
    x.learns.seen
    ∙ place_since a.seen x.learnt all m.earlier x.left event n in
    record {
      left = x.left;
      reads = x.reads;
      event = event;
      carries = carries;
      earlier = x.learnt ++ m.earlier;
      later = m.later;
      answer = subst (λ (s : StoreMap). IsAnswer event s) (sym moved) m.answer;
      learns = subst (λ (z : History). Learns a d z (x.left ++ (event, place_of a (x.learnt ++ m.earlier) event) ∷ [])) grouped
          (record { same = whole.same; map = whole.map; seen = seen; valid = whole.valid; edits = whole.edits; passes = whole.passes });
      others_earlier = others_both a.pass x.learnt m.earlier x.others (subst (λ (i : ℕ). AreByOthers i m.earlier) x.learns.same.pass m.others_earlier);
      others_later = subst (λ (i : ℕ). AreByOthers i m.later) x.learns.same.pass m.others_later;
      alone = λ h.
          let other : b.alone ≡ true = x.learns.same.alone ∙ h in
          (ap (λ (z : History). z ++ m.earlier) (x.alone h) ∙ (m.alone other).0, (m.alone other).1);
      counts = m.counts ∙ x.counts_are;
    }

-- A refused call behind reads makes no edit, and its refusal is counted.
pub then_refusal : (a b d : Known) (rise : Counts → Counts) → Refrains a b a.counts → Declines b d (rise b.counts) → Refused a d (rise a.counts)
then_refusal a b d rise x y =
    let n : Declines b d (rise a.counts) = subst (λ (counts : Counts). Declines b d (rise counts)) x.counts_are y in
    let last = one_refusal b d (rise a.counts) n in
    record { refrains = then_refrains a b d (rise a.counts) x last.refrains; unsure = sym x.learns.same.sure ∙ last.unsure }

-- what is known of a store with other room
abbrev with_room : Known → ℕ → Known
with_room a spare = record a { spare = spare }

same_but_room : (a b : Known) → Stays a b → b ≡ with_room a b.spare
same_but_room a b s = λ i. record {
  store = s.same.store i;
  keypos = s.same.keypos i;
  pass = s.same.pass i;
  passes = s.same.passes i;
  alone = s.same.alone i;
  sure = s.same.sure i;
  map = s.map i;
  seen = s.seen i;
  run = s.run i;
  spare = b.spare;
  counts = s.counts i;
}

room_learns : (a d : Known) (n : ℕ) (xs : History) (es : List Entry) → Learns (with_room a n) d xs es → Learns a d xs es
room_learns a d n xs es l = record {
  same = record { store = l.same.store; keypos = l.same.keypos; pass = l.same.pass; passes = l.same.passes; alone = l.same.alone; sure = l.same.sure };
  map = l.map;
  seen = l.seen;
  valid = l.valid;
  edits = l.edits;
  passes = l.passes;
}

-- A call behind one that changed nothing but the room is the same event from before it on.
pub stays_meets : (a b d : Known) (event : Event) → Stays a b → Meets b d event → Meets a d event
stays_meets a b d event s met =
    let m = subst (λ (x : Known). Meets x d event) (same_but_room a b s) met in
    record {
      earlier = m.earlier;
      later = m.later;
      answer = m.answer;
      learns = room_learns a d b.spare _ _ m.learns;
      others_earlier = m.others_earlier;
      others_later = m.others_later;
      alone = m.alone;
      counts = m.counts;
    }

-- A call with its run handed out and ended behind it is the same event up to then.
pub beside_run_meets : (a b d : Known) (event : Event) → Meets a b event → StaysBesideRun b d → Meets a d event
beside_run_meets a b d event m s = record {
  earlier = m.earlier;
  later = m.later;
  answer = m.answer;
  learns = record {
    same = same_store a b d m.learns.same s.same;
    map = s.map ∙ m.learns.map;
    seen = s.seen ∙ m.learns.seen;
    valid = m.learns.valid;
    edits = m.learns.edits;
    passes = m.learns.passes;
  };
  others_earlier = m.others_earlier;
  others_later = m.others_later;
  alone = m.alone;
  counts = s.counts ∙ m.counts;
}

-- What is handed out of a run and then its end leave all else as it was.
pub both_beside_run : (a b d : Known) → StaysBesideRun a b → StaysBesideRun b d → StaysBesideRun a d
both_beside_run a b d x y = record {
  same = same_store a b d x.same y.same;
  map = y.map ∙ x.map;
  seen = y.seen ∙ x.seen;
  counts = y.counts ∙ x.counts;
}

-- How many reads stand before a call, and how many a read is.
pub one_call_left : (a b : Known) (event : Event) (k l : Continuation) (c : Command) (r : Response) (m : Meets a b event)
    (carries : Carries a.keypos event k c r l) → (one_call a b event k l c r m carries).left ≡ []
unfolding one_call
one_call_left a b event k l c r m carries = refl

pub then_call_left : (a b d : Known) (event : Event) (k l : Continuation) (c : Command) (r : Response) (x : Refrains a b a.counts) (m : Meets b d event)
    (carries : Carries a.keypos event k c r l) → (then_call a b d event k l c r x m carries).left ≡ x.left
unfolding then_call
then_call_left a b d event k l c r x m carries = refl

pub one_read_left : (a b : Known) (event : Event) (none : effect event ≡ []) (m : Meets a b event) → length (one_read a b event none m).left ≡ 1
unfolding one_read
one_read_left a b event none m = refl
