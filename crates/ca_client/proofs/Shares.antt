-- What clients that shared a tree come to, once the tree is closed.
use Rattle.std.proofs.Common.{◌≡◌, ℕ, zero, suc, ◌+◌, ◌≤◌, ◌<◌, List, [], ◌∷◌, ◌++◌, length, map, take, get_or, drop, ◌==◌, true, false, refl, sym, ◌∙◌, ap, subst, arith}
use Rattle.std.specs.Prelude.{All, cond}
use Rattle.std.proofs.lemmas.List.{length-map, take_all}
use Rattle.std.proofs.lemmas.List.Elements.{All-cons}
use Rattle.std.proofs.Math.Seq.{take-append_seam}
use Rattle.atomic_table.specs.Seated.{TableId}
use Rattle.ca_term.specs.Tree.{Tree}
use Rattle.ca_ets.specs.Command.{Command, Never, Answer}
use Rattle.ca_ets.specs.Explained.{ExplainedBy}
use Rattle.ca_cmd.specs.File.{commands_in}
use Rattle.ca_cmd.specs.Lines.{numbered}
use Rattle.ca_cmd.specs.Told.{AreTold, AreAllTold}
use Rattle.ca_cmd.specs.declared.answers.Answers.{Answers}
use Rattle.ca_cmd.specs.declared.line.Line.{Line}
use Rattle.ca_model.specs.Event.{Entry}
use Rattle.ca_model.specs.History.{History, after, AreByPasses}
use Rattle.ca_model.specs.Known.{Known}
use Rattle.ca_model.specs.Lawful.{IsLawful}
use Rattle.ca_model.specs.StoreMap.{StoreMap, IsStoreMap}
use Rattle.ca_model.proofs.Edits.{map_after}
use Rattle.ca_node.specs.Links.{IsIn}
use Rattle.ca_node.specs.TreePasses.{tree_of}
use Rattle.ca_node.specs.TreeView.{Ended, TreeView, no_refusals}
use Rattle.ca_replace.specs.Closing.{IsClosed}
use Rattle.ca_replace.specs.Past.{TreePast, left_by}
use Rattle.ca_replace.specs.Resting.{StoreAndRun, knows, numbers_of}
use Rattle.ca_replace.specs.TreePromises.{tree_promises}
use Rattle.ca_rows.specs.Closed.{IsClosable}
use Rattle.ca_rows.specs.declared.sizes.Sizes.{Sizes}
use Rattle.ca_rows.specs.declared.space.Pass.{Pass}
use Rattle.ca_explain.specs.Clients.{Client as Player, Part, log_of, Plays}
use Rattle.ca_explain.specs.Explaining.{HaveLogs, client_of, merge_of, nobody}
use Rattle.ca_explain.specs.Stands.{Stands}
use Rattle.ca_explain.proofs.Explains.{explains}
use Rattle.ca_client.specs.Clients.{IsBehind, HavePlayed}
use Rattle.ca_client.specs.Played.{AreCounted, HasPlayed}
use Rattle.ca_client.specs.Following.{asked_on_tree}
use Rattle.ca_client.specs.Told.{HasToldBefore}
use Rattle.ca_client.specs.Ran.{AreDeepLate, AreFullLate, HasRun, IsPlayedBy, ArePlayedBy, answers_in, splits_of, joins_of}
use Rattle.ca_client.specs.Sharing.{IsReady, AreReady, IsPart, AreParts, AreLeft}
use Rattle.ca_client.specs.declared.clients.Client.{Client}
use Rattle.ca_client.specs.declared.following.OnTree.{OnTree}
use Rattle.ca_client.specs.declared.running.Parts.{Parts}
use Rattle.ca_client.specs.declared.running.Ran.{Ran}
use Rattle.ca_client.proofs.Levels.{begins_late}
use Rattle.ca_client.proofs.Logs.{log_of_parts}
use Rattle.ca_client.proofs.Rows.{begins_full_late}

-- The numbers of a table tell it from all others.
pub one_table : (a b : TableId) → numbers_of a ≡ numbers_of b → a ≡ b
one_table a b e = λ i. record {
  words = get_or (e i) 0 0;
  slots = get_or (e i) 1 0;
  views_name = get_or (e i) 2 0;
  atom = get_or (e i) 3 0;
  block = get_or (e i) 4 0;
  offset = get_or (e i) 5 0;
  slot_names = drop 6 (e i);
}

-- In a tree of this size such answers refuse for want of levels, and of rows, only late.
abbrev pub AreLate : Sizes → List Answer → Type 0
AreLate z answers = AreDeepLate z.levels 0 answers × AreFullLate z.rows 0 answers

-- What a client's play on its pass comes to: it played these lines, by this pass, which is one of the table and isn't pinned.
pub record IsShare {R : Type 0} (table : TableId) (z : Sizes) (number : ℕ) (file : List Line) (told : Answers) (pass : Pass R TreeView) : Type 0 where
  pub answers : List Answer
  pub are_told : AreTold (numbered file) answers told
  pub parts : List Part
  pub plays : Plays z.keypos Never (commands_in (numbered file)) answers parts
  pub played : IsPlayedBy number (record { commands = commands_in (numbered file); answers = answers; parts = parts }) (left_by pass)
  pub closable : IsClosable table pass.seat
  pub late : z.passes ≡ 1 → number ≡ 1 → AreLate z answers

-- A pass of a space for one is alone.
is_alone : (passes number : ℕ) → passes ≡ 1 → number ≡ 1 → cond (passes == 1) (number == 1) false ≡ true
is_alone passes number one first = rw (one, first) refl

module _ {R : Type 0} (table : TableId) (z : Sizes) where
  -- So it is with clients, of which the first has this number.
  abbrev pub AreShares : ℕ → List (List Line) → List Answers → List (Pass R TreeView) → Type 0
  AreShares first [] [] [] = Unit {0}
  AreShares first (file ∷ files) (told ∷ all) (pass ∷ passes) = IsShare table z first file told pass × AreShares (suc first) files all passes
  AreShares first files all passes = ⊥

module _ {R : Type 0} (table : TableId) (z : Sizes) where
  module _ (number : ℕ) (file : List Line) (a b : Client StoreAndRun OnTree) (told : Answers) (pass : Pass R TreeView)
      (ready : IsReady table z number file a) (behind : IsBehind knows tree_promises asked_on_tree a b) (part : IsPart b told pass) where
    tells : HasToldBefore knows tree_promises asked_on_tree a.table b.table (numbered a.lines.now) told
    tells = behind.played told part.answered

    play : HasPlayed (knows a.table) (knows b.table) (commands_in (numbered a.lines.now)) tells.1.answers
    play = subst (λ (k : Known). HasPlayed (knows a.table) k (commands_in (numbered a.lines.now)) tells.1.answers) (sym tells.2) tells.1.played

    late : z.passes ≡ 1 → number ≡ 1 → AreLate z tells.1.answers
    late one first =
        let commands = commands_in (numbered a.lines.now) in
        let passes = ap (λ (y : Sizes). y.passes) ready.sizes ∙ one in
        let alone = ap (λ (k : Known). k.alone) ready.begins ∙ is_alone z.passes number one first in
        subst (λ (y : Sizes). AreLate y tells.1.answers) ready.sizes (
          begins_late a.table tells.0 commands tells.1.answers passes ready.unsplit alone tells.1.made,
          begins_full_late a.table tells.0 commands tells.1.answers passes ready.unsplit ready.unrenewed alone tells.1.made,
        )

    -- What a pass that was just made played is its client's share.
    pub share : IsShare table z number file told pass
    share = record {
      answers = tells.1.answers;
      are_told = subst (λ (l : List Line). AreTold (numbered l) tells.1.answers told) ready.lines tells.1.are_told;
      parts = play.parts;
      plays = subst (λ (l : List Line). Plays z.keypos Never (commands_in (numbered l)) tells.1.answers play.parts) ready.lines
          (subst (λ (k : Known). Plays k.keypos Never (commands_in (numbered a.lines.now)) tells.1.answers play.parts) ready.begins play.plays);
      played = record {
        number_is = sym (ap (λ (k : Known). k.pass) part.known) ∙ play.grown.same.pass ∙ ap (λ (k : Known). k.pass) ready.begins;
        log = log_of_parts (knows a.table) (knows b.table) (commands_in (numbered a.lines.now)) tells.1.answers [] (tree_of pass).seen (tree_of pass).log play
            (ap (λ (k : Known). k.seen) ready.begins) (ap (λ (k : Known). k.seen) part.known);
        counted = subst (λ (k : Known). AreCounted no_refusals k.counts tells.1.answers) part.known
            (subst (λ (k : Known). AreCounted k.counts (knows b.table).counts tells.1.answers) ready.begins play.counted);
      };
      closable = (
        one_table pass.seat.table_id table
            (sym (ap (λ (k : Known). k.store) part.known) ∙ play.grown.same.store ∙ ap (λ (k : Known). k.store) ready.begins),
        part.unpinned,
      );
      late = late;
    }

  -- What these played is their clients' shares.
  pub shares : (first : ℕ) (files : List (List Line)) (olds news : List (Client StoreAndRun OnTree)) (all : List Answers) (passes : List (Pass R TreeView))
      → length news ≡ length olds → AreReady table z first files olds → HavePlayed knows tree_promises asked_on_tree olds news
      → AreParts news all passes → AreShares table z first files all passes
  shares first [] [] [] [] [] e ready played parts = tt
  shares first [] [] [] [] (p ∷ passes) e ready played parts = absurd parts
  shares first [] [] [] (x ∷ all) passes e ready played parts = absurd parts
  shares first [] [] (b ∷ news) all passes e ready played parts = absurd (omega (arith, e))
  shares first [] (a ∷ olds) news all passes e ready played parts = absurd ready
  shares first (f ∷ files) [] news all passes e ready played parts = absurd ready
  shares first (f ∷ files) (a ∷ olds) [] all passes e ready played parts = absurd (omega (arith, e))
  shares first (f ∷ files) (a ∷ olds) (b ∷ news) [] passes e ready played parts = absurd parts
  shares first (f ∷ files) (a ∷ olds) (b ∷ news) (x ∷ all) [] e ready played parts = absurd parts
  shares first (f ∷ files) (a ∷ olds) (b ∷ news) (x ∷ all) (p ∷ passes) e ready played parts = (
    share first f a b x p ready.0 (played 0 a (omega arith)) parts.0,
    shares (suc first) files olds news all passes (omega (arith, e)) ready.1 (λ i d l. played (suc i) d (omega (arith, l))) parts.1,
  )

-- The same of clients that were lent to be played, and came back.
pub shares_left : (table : TableId) (z : Sizes) (files : List (List Line)) (n : ℕ) (olds lent news : List (Client StoreAndRun OnTree)) (parts : Parts)
    → n ≡ length olds → lent ≡ olds → length news ≡ length lent → AreReady table z 1 files olds → HavePlayed knows tree_promises asked_on_tree lent news
    → AreLeft (take n (news ++ drop (length news) olds)) parts → AreShares table z 1 files parts.answers.items parts.passes.items
shares_left table z files n olds lent news parts many same all ready played left =
    let count : length news ≡ length olds = all ∙ ap (λ cs. length cs) same in
    let whole : take n (news ++ drop (length news) olds) ≡ news =
    ap (λ (k : ℕ). take k (news ++ drop (length news) olds)) (many ∙ sym count) ∙ take-append_seam news (drop (length news) olds) in
    shares table z 1 files olds news parts.answers.items parts.passes.items count ready
    (subst (λ cs. HavePlayed knows tree_promises asked_on_tree cs news) same played)
    (subst (λ cs. AreParts cs parts.answers.items parts.passes.items) whole left.each)

-- What a closed tree has is a map.
pub closed_map : (past : TreePast) (objects : StoreMap) → IsClosed past objects → IsStoreMap past.sizes.keypos objects
closed_map past objects closed = let keypos = past.sizes.keypos in
    subst (λ (m : StoreMap). IsStoreMap keypos m) (sym closed.has) (map_after keypos closed.history [] closed.edits tt)

-- Clients that played these files by these passes, and were told so.
pub record ArePlayers (z : Sizes) (first : ℕ) (files : List (List Line)) (all : List Answers) (passes : List Ended) : Type 0 where
  pub clients : List Player
  pub count : length clients ≡ length files
  pub commands_are : map (λ (c : Player). c.commands) clients ≡ map commands_in (map numbered files)
  pub are_told : AreAllTold (map numbered files) (answers_in clients) all
  pub played : ArePlayedBy first clients passes
  pub plays : All (λ (c : Player). Plays z.keypos Never c.commands c.answers c.parts) clients
  pub late : z.passes ≡ 1 → first ≡ 1 → length files ≤ 1 → All (λ (answers : List Answer). AreLate z answers) (answers_in clients)

module _ {R : Type 0} (table : TableId) (z : Sizes) where
  -- The passes of such clients may be closed with the table.
  pub closable : (first : ℕ) (files : List (List Line)) (all : List Answers) (passes : List (Pass R TreeView))
      → AreShares table z first files all passes → All (λ (pass : Pass R TreeView). IsClosable table pass.seat) passes
  closable first [] [] [] shares = λ k d l. absurd (omega (arith, l))
  closable first [] [] (p ∷ passes) shares = absurd shares
  closable first [] (x ∷ all) passes shares = absurd shares
  closable first (f ∷ files) [] passes shares = absurd shares
  closable first (f ∷ files) (x ∷ all) [] shares = absurd shares
  closable first (f ∷ files) (x ∷ all) (p ∷ passes) shares =
      All-cons (λ (pass : Pass R TreeView). IsClosable table pass.seat) p passes shares.0.closable (closable (suc first) files all passes shares.1)

  pub players : (first : ℕ) (files : List (List Line)) (all : List Answers) (passes : List (Pass R TreeView))
      → AreShares table z first files all passes → ArePlayers z first files all (map left_by passes)
  players first [] [] [] shares =
      record {
        clients = [];
        count = refl;
        commands_are = refl;
        are_told = tt;
        played = tt;
        plays = λ k d l. absurd (omega (arith, l));
        late = λ one is few k d l. absurd (omega (arith, l));
      }
  players first [] [] (p ∷ passes) shares = absurd shares
  players first [] (x ∷ all) passes shares = absurd shares
  players first (f ∷ files) [] passes shares = absurd shares
  players first (f ∷ files) (x ∷ all) [] shares = absurd shares
  players first (f ∷ files) (x ∷ all) (p ∷ passes) shares =
      let rest = players (suc first) files all passes shares.1 in
      let player : Player = record { commands = commands_in (numbered f); answers = shares.0.answers; parts = shares.0.parts } in
      record {
        clients = player ∷ rest.clients;
        count = ap (λ (n : ℕ). suc n) rest.count;
        commands_are = ap (λ (cs : List (List Command)). commands_in (numbered f) ∷ cs) rest.commands_are;
        are_told = (shares.0.are_told, rest.are_told);
        played = (shares.0.played, rest.played);
        plays = All-cons (λ (c : Player). Plays z.keypos Never c.commands c.answers c.parts) player rest.clients shares.0.plays rest.plays;
        late = λ one is few.
            All-cons (λ (answers : List Answer). AreLate z answers) shares.0.answers (answers_in rest.clients) (shares.0.late one is)
            (λ k d l. absurd (let count = rest.count in let many = length-map rest.clients (λ (c : Player). c.answers) in omega (arith, l, few, count, many)));
      }

-- The log of each client is lawful, where those of the passes are.
lawful_at : (first : ℕ) (clients : List Player) (passes : List Ended) (history : History) → 0 < first → ArePlayedBy first clients passes
    → ((pass : Ended) → IsIn pass passes → 0 < pass.number → IsLawful pass.number history pass.log)
    → (i : ℕ) → i < length clients → IsLawful (first + i) history (log_of (get_or clients i nobody).parts)
lawful_at first [] passes history low played lawful i l = absurd (omega (arith, l))
lawful_at first (c ∷ clients) [] history low played lawful i l = absurd played
lawful_at first (c ∷ clients) (p ∷ passes) history low played lawful zero l =
    let number = played.0.number_is in
    let same : p.number ≡ first + 0 = omega (arith, number) in
    subst (λ (n : ℕ). IsLawful n history (log_of c.parts)) same
    (subst (λ (log : List Entry). IsLawful p.number history log) played.0.log (lawful p (0, refl) (omega (arith, number, low))))
lawful_at first (c ∷ clients) (p ∷ passes) history low played lawful (suc i) l =
    let next : suc first + i ≡ first + suc i = omega arith in
    subst (λ (n : ℕ). IsLawful n history (log_of (get_or clients i nobody).parts)) next
    (lawful_at (suc first) clients passes history (omega arith) played.1 (λ u is_in positive. lawful u (suc is_in.0, is_in.1) positive) i (omega (arith, l)))

-- A fact of each client, by its number.
by_number : (P : ℕ → Player → Type 0) (clients : List Player) → ((i : ℕ) → i < length clients → P (1 + i) (get_or clients i nobody))
    → (i : ℕ) → 1 ≤ i → i ≤ length clients → P i (client_of clients i)
by_number P clients at zero low high = absurd (omega (arith, low))
by_number P clients at (suc i) low high =
    let same : 1 + i ≡ suc i = omega arith in subst (λ (n : ℕ). P n (get_or clients i nobody)) same (at i (omega (arith, high)))

have_logs : (keypos : ℕ) (past : TreePast) (clients : List Player) (objects : StoreMap) (table : List Tree) (closed : IsClosed past objects)
    → past.made ≡ length clients → ArePlayedBy 1 clients past.passes → All (λ (c : Player). Plays keypos Never c.commands c.answers c.parts) clients
    → Stands keypos objects table → HaveLogs keypos closed.history clients table
have_logs keypos past clients objects table closed e played plays stands = let h = closed.history in record {
  enrolled = subst (λ (n : ℕ). AreByPasses n h) e closed.by_passes;
  plays = by_number (λ i c. Plays keypos Never c.commands c.answers c.parts) clients (λ i l. plays i nobody l);
  lawful = by_number (λ i c. IsLawful i h (log_of c.parts)) clients (lawful_at 1 clients past.passes h (omega arith) played closed.lawful);
  ends = subst (λ (m : StoreMap). Stands keypos m table)
      (closed.has ∙ ap (λ (steps : History). after steps []) (sym (take_all (length h) h (omega arith)))) stands;
}

-- Clients that shared a tree have run, once it is closed.
module _ {R : Type 0} (table : TableId) (z : Sizes) (files : List (List Line)) (passes : List (Pass R TreeView)) (objects : StoreMap) (ran : Ran)
    (shares : AreShares table z 1 files ran.answers.items passes) (sizes : ran.past.sizes ≡ z) (few : length files ≤ z.passes)
    (left : ran.past.passes ≡ map left_by passes) (made : ran.past.made ≡ length files)
    (closed : IsClosed ran.past objects) (stands : Stands z.keypos objects ran.table) where
  players_are : ArePlayers z 1 files ran.answers.items ran.past.passes
  players_are = subst (λ (xs : List Ended). ArePlayers z 1 files ran.answers.items xs) (sym left)
      (players table z 1 files ran.answers.items passes shares)

  all_late : ran.past.sizes.passes ≡ 1 → All (λ (answers : List Answer). AreLate ran.past.sizes answers) (answers_in players_are.clients)
  all_late one =
      let alone = ap (λ (y : Sizes). y.passes) (sym sizes) ∙ one in
      subst (λ (y : Sizes). All (λ (answers : List Answer). AreLate y answers) (answers_in players_are.clients)) (sym sizes)
      (players_are.late alone refl (omega (arith, few, alone)))

  pub has_run : ran.splits ≡ splits_of (map left_by passes) → ran.joins ≡ joins_of (map left_by passes)
      → HasRun z.keypos (map numbered files) ran
  has_run splits joins =
      let p = players_are in
      let logs = have_logs z.keypos ran.past p.clients objects ran.table closed (made ∙ sym p.count) p.played p.plays stands in
      let merge = merge_of closed.history p.clients in
      let terms = ran.table in
      record {
        made = made ∙ sym (length-map files numbered);
        history = closed.history;
        clients = p.clients;
        commands_are = p.commands_are;
        are_told = p.are_told;
        logs = logs;
        played = p.played;
        splits_are = splits ∙ ap (λ (xs : List Ended). splits_of xs) (sym left);
        joins_are = joins ∙ ap (λ (xs : List Ended). joins_of xs) (sym left);
        deep_late = λ one k d l. (all_late one k d l).0;
        full_late = λ one k d l. (all_late one k d l).1;
        explained = subst (λ (cs : List (List Command)). ExplainedBy z.keypos cs (answers_in p.clients) merge terms) p.commands_are
            (explains z.keypos closed.history p.clients terms logs);
      }
