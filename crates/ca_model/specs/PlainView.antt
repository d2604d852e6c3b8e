-- What contracts know of a plain store: it is alone and sure, and its pass is the only one.
use Rattle.std.specs.Prelude.{◌≡◌, ℕ, ◌+◌, ◌≤◌, true, List, [], Option, None}
use Rattle.ca_term.specs.declared.bounds.TheConstants.{MOST_ELEMENTS}
use Rattle.ca_model.specs.StoreMap.{StoreMap, IsStoreMap}
use Rattle.ca_model.specs.Answer.{IfDone}
use Rattle.ca_model.specs.Known.{Known}
use Rattle.ca_model.specs.Promises.{Promises}
use Rattle.ca_model.specs.RunView.{left_in, IsPart}
use Rattle.ca_model.specs.declared.plain.Plain.TheInside.{Inside}

abbrev pub known_alone : ℕ → StoreMap → Option (List (List ℕ)) → ℕ → Known
known_alone keypos map run spare = record {
  store = [];
  keypos = keypos;
  pass = 1;
  passes = 1;
  alone = true;
  sure = true;
  map = map;
  seen = None;
  run = run;
  spare = spare;
  counts = record { busy = 0; full = 0; deep = 0; worn = 0; last = None };
}

abbrev pub known_of : Inside → Known
known_of plain = known_alone plain.keypos plain.objects.pairs (left_in plain.objects.pairs plain.run) plain.objects.spare

pub record IsKept (plain : Inside) : Type 0 where
  pub from_one : 1 ≤ plain.keypos
  pub narrow : plain.keypos ≤ MOST_ELEMENTS
  pub ordered : IsStoreMap plain.keypos plain.objects.pairs
  pub part : IsPart plain.objects.pairs plain.run

-- Beyond the trait a plain store tells how much room it has: no call but `put` and `put_new` takes any, and these take one at most. No run is cut.
abbrev pub plain_promises : Promises Known
plain_promises = record {
  reserve = λ a b. Unit {0};
  get = λ budget a b key found into. a.spare ≤ b.spare;
  put = λ budget a b pair found. a.spare ≤ b.spare + 1;
  put_new = λ budget a b pair found. a.spare ≤ b.spare + 1;
  remove = λ budget a b key found old. a.spare ≤ b.spare;
  remove_if = λ g f budget a b key found old. a.spare ≤ b.spare;
  change = λ g f budget a b key found old. a.spare ≤ b.spare;
  above = λ budget a b edge found into. a.spare ≤ b.spare;
  below = λ budget a b edge found into. a.spare ≤ b.spare;
  range = λ budget a b lo hi want found. (a.spare ≤ b.spare) × IfDone found (λ whole. whole ≡ true);
  found = λ a b. a.spare ≤ b.spare;
  close_run = λ a b. a.spare ≤ b.spare;
}
