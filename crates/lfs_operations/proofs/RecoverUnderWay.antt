-- How far a recovery is, from its beginning to its end.
use Rattle.lfs_operations.proofs.Common.{ℕ, suc, ◌≡◌, ◌≢◌, ◌+◌, ◌-◌, ◌<◌, ◌≤◌, ◌⊎◌, inl, inr, true, false, cond, nat_eq, eq-eqb, List, [], ◌∷◌, ◌++◌, length, take, drop, Option, Some, None, refl, sym, ap, ap₂, subst, ◌∙◌, arith, append_assoc, length-append, slice_get, ne_eqb, Blocks, Disk, directory_address, continued_directory_address, AllCallsSince, HasEitherTree as IsLeftOf, SurvivesLossSince, with_blocks, Gstate, zero_gstate, same_pair, Pair, pairs_blocks, pairs_from_root, first_address, pairs_gstate, count_before_root, address_blocks, IsAccepted, IsReachedDirectory, disk_tree, used_blocks, IsWritable, survives_then, occurrence_count, count_append, once_from_distinct, HasDirectory, chain_of_thread, led_directory, HasNoMove, HoldsAtLosses-weaker, joined_singles, onward_all, Ends, pair_back, pair_itself, pair_on, same_number, file_blocks, all_slots, IsReady, IsUnthreaded, same_parts, CleanLossLeaves, KeptThread, SameGeometryAs, ChangesThreadBlocks, empty_anchor, thread_pair, is_some, slice_index_or, recovery_begins, AreUnreachedNumbers, AreUnreachedFrom, CanDropPairs, list_blocks_of_pairs, gstate_while_dropping, HasSameBlocksInFlight, CanDropAt, LeftByDrop, IsPairDropped, content_after_drop}
use Rattle.lfs_model.proofs.Histories.{AllCallsSince-weaker, goes_on_by}
use Rattle.lfs_operations.proofs.RecoverLists.{lists_kept, lists_more, numbered}
use Rattle.lfs_model.proofs.RecoveryWay.{FirstsOnly, IsAtDrop, IsAtEnd, IsOnWay, all_but, drops, goes_to, ready, soft, stands, sync_set, unled}
use Rattle.lfs_operations.proofs.RecoverMap.{HasMap, map_drops}
use Rattle.lfs_operations.proofs.Dropped.{IsToBeDropped, blocks_left, can_drop_pair, files_left, pairs_left}
use Rattle.lfs_model.proofs.PairsInFront.{last_pair}
use Rattle.lfs_operations.proofs.RecoverWrites.{two_fewer, writes_fewer, writes_none}
use Rattle.lfs_operations.proofs.Putting.{writes_trans, survives_step}
use Rattle.lfs_operations.proofs.RecoverSteps.{IsUnled, over_left, over_on, site_of}
use Rattle.lfs_model.proofs.PairLists.{get_behind}
use Rattle.std.proofs.Math.Seq.{drop-cons}
use Rattle.std.proofs.lemmas.List.{drop_all, length-drop}

-- ---- the device

-- as many blocks and pages, of the same sizes; and the history goes on
pub record StaysOn (old new : KeptThread) : Type 0 where
  pub shape : SameGeometryAs old.disk new.disk
  pub calls : AllCallsSince (λ e. Unit {0}) old.history new.history

pub stays_itself : (t : KeptThread) → StaysOn t t
stays_itself t = record { shape = record { block_size = refl; page = refl; order = refl; profile = refl; count = refl }; calls = record { events = []; extends = refl; each = tt } }

pub stays_then : (a b c : KeptThread) → StaysOn a b → StaysOn b c → StaysOn a c
stays_then a b c h k = record {
  shape = record { block_size = k.shape.block_size ∙ h.shape.block_size; page = k.shape.page ∙ h.shape.page; order = k.shape.order ∙ h.shape.order; profile = k.shape.profile ∙ h.shape.profile; count = k.shape.count ∙ h.shape.count };
  calls = goes_on_by h.calls k.calls;
}

pub stays_by : (bs : List ℕ) (a b : KeptThread) → ChangesThreadBlocks bs a b → StaysOn a b
stays_by bs a b w = record { shape = w.shape; calls = AllCallsSince-weaker (λ e k. tt) w.at_worst }

-- a power loss in a step that leaves the tree, after others that left it
pub survives_behind : (old now new : KeptThread) → StaysOn old now → StaysOn now new → disk_tree now.disk now.pairs ≡ disk_tree old.disk old.pairs
    → SurvivesLossSince old.disk old.history now.history (disk_tree old.disk old.pairs) (disk_tree old.disk old.pairs) → SurvivesLossSince now.disk now.history new.history (disk_tree now.disk now.pairs) (disk_tree now.disk now.pairs)
    → SurvivesLossSince old.disk old.history new.history (disk_tree old.disk old.pairs) (disk_tree old.disk old.pairs)
survives_behind old now new h k shows before after = survives_then old.disk old.history now.history new.history (disk_tree old.disk old.pairs) (disk_tree old.disk old.pairs) h.calls k.calls before
    (λ clean. HoldsAtLosses-weaker (λ left x. subst (λ z. IsLeftOf z (disk_tree old.disk old.pairs) (disk_tree old.disk old.pairs)) (disk_is left) (subst (λ z. IsLeftOf (with_blocks left now.disk) z z) shows x)) (after clean))
  where
    disk_is : (left : Blocks) → with_blocks left now.disk ≡ with_blocks left old.disk
    disk_is left = λ j. record { block_size = h.shape.block_size j; page = h.shape.page j; order = h.shape.order j; profile = h.shape.profile j; blocks = left }

-- ---- the beginning

ends_on : (from : Option (ℕ × ℕ)) (p : Pair) (ps : List Pair) → Ends (p ∷ ps) → onward_all from (p ∷ ps) ≡ None
ends_on from p [] h = ap (λ b. cond b (Some (directory_address from p)) None) h
ends_on from p (q ∷ ps) h = ends_on (continued_directory_address from p) q ps h

ends_none : (before : List Pair) → Ends before → onward_all None before ≡ None
ends_none [] h = refl
ends_none (p ∷ ps) h = ends_on None p ps h

module _ (disk : Disk) (ps : List Pair) (ok : IsAccepted disk ps) where
  abbrev chain : List Pair
  chain = take (count_before_root ps) ps

  abbrev whole : ps ≡ take (count_before_root ps) ps ++ pairs_from_root ps
  whole = (chain_of_thread ps).0

  -- no path leads to a pair that a hard tail leads to
  not_led : (xs : List Pair) (y : Pair) (ys : List Pair) → pairs_from_root ps ≡ xs ++ y ∷ ys → is_some (onward_all None xs) ≡ true → IsReachedDirectory ps y.at → ⊥
  not_led xs y ys parts hard (path, a, (l, s)) =
      let d : HasDirectory (pairs_from_root ps) a = led_directory disk ps path a ok l in
      let one : ps ≡ (chain ++ d.before) ++ d.first ∷ (d.run ++ d.after) = whole ∙ ap (λ z. chain ++ z) d.is ∙ sym (append_assoc chain d.before (d.first ∷ (d.run ++ d.after))) in
      let two : ps ≡ (chain ++ xs) ++ y ∷ ys = whole ∙ ap (λ z. chain ++ z) parts ∙ sym (append_assoc chain xs (y ∷ ys)) in
      let first = ap (λ z. slice_get z (length (chain ++ d.before))) one ∙ get_behind (chain ++ d.before) d.first (d.run ++ d.after) in
      let second = ap (λ z. slice_get z (length (chain ++ xs))) two ∙ get_behind (chain ++ xs) y ys in
      let n = same_number ps (length (chain ++ d.before)) (length (chain ++ xs)) d.first y ok.thread.distinct first second (pair_on d.first.at a y.at d.at (pair_back y.at a s)) in
      let same = same_parts d.before d.first (d.run ++ d.after) xs y ys (let e = length-append chain d.before in let f = length-append chain xs in omega arith) (sym d.is ∙ parts) in
      absurd (let none = ap (onward_all None) (sym same.front) ∙ ends_none d.before d.ends in let z = sym hard ∙ ap is_some none in cc)

  firsts_from : (xs ys : List Pair) → pairs_from_root ps ≡ xs ++ ys → FirstsOnly (IsReachedDirectory ps) (onward_all None xs) ys
  firsts_from xs [] parts = tt
  firsts_from xs (y ∷ ys) parts = (
    not_led xs y ys parts,
    subst (λ z. FirstsOnly (IsReachedDirectory ps) z ys) (end_at None xs) (firsts_from (xs ++ y ∷ []) ys (parts ∙ sym (append_assoc xs (y ∷ []) ys))),
  )
    where
      end_at : (from : Option (ℕ × ℕ)) (xs : List Pair) → onward_all from (xs ++ y ∷ []) ≡ continued_directory_address (onward_all from xs) y
      end_at from [] = refl
      end_at from (x ∷ xs) = end_at (continued_directory_address from x) xs

  root_reached : (x : Pair) (xs : List Pair) → pairs_from_root ps ≡ x ∷ xs → IsReachedDirectory ps x.at
  root_reached x xs e = ([], first_address (pairs_from_root ps), (refl, subst (λ z. same_pair x.at (first_address z) ≡ true) (sym e) (pair_itself x.at)))

-- ---- on the way

pub record IsUnderWay (old now : KeptThread) (dropped : ℕ) (numbers : List ℕ) : Type 0 where
  pub seen : List Pair
  pub todo : List Pair
  pub parts : List (List Pair)
  pub kept : List Pair
  pub way : IsOnWay old.disk old.pairs now.disk now.pairs dropped (take (count_before_root old.pairs) old.pairs) seen todo parts kept numbers
  pub state : 0 < dropped → numbers ≡ [] → pairs_gstate now.pairs ≡ zero_gstate
  pub device : StaysOn old now
  pub gone : List ℕ
  pub map : HasMap now gone
  pub was : IsAccepted old.disk old.pairs
  pub took : List ℕ
  pub reported : AreUnreachedNumbers old.pairs (took ++ numbers)
  pub gone_are : gone ≡ list_blocks_of_pairs old took
  pub lost : (b : ℕ) → occurrence_count b gone + occurrence_count b (file_blocks now.disk (all_slots now.pairs)) ≡ occurrence_count b (file_blocks old.disk (all_slots old.pairs))
  pub flying : HasSameBlocksInFlight old.map now.map
  pub fewer : (b : ℕ) → occurrence_count b (pairs_blocks now.pairs) ≤ occurrence_count b (pairs_blocks old.pairs)
  pub writes : ChangesThreadBlocks (pairs_blocks old.pairs) old now
  pub survives : SurvivesLossSince old.disk old.history now.history (disk_tree old.disk old.pairs) (disk_tree old.disk old.pairs)

pub begins : (t : KeptThread) (numbers : List ℕ) → CanDropPairs t numbers → IsUnderWay t t 0 numbers
begins t numbers can =
    let ok = can.accepted in
    let fits = can.writable in
    let none = can.none in
    let reported = can.reported in
    let e = chain_of_thread t.pairs in
    let occurrence_count : count_before_root t.pairs ≡ length (take (count_before_root t.pairs) t.pairs) + 0 + 0 = let a = ap count_before_root e.0 in let b = e.1 in omega arith in
    record {
      seen = [];
      todo = pairs_from_root t.pairs;
      parts = [];
      kept = [];
      way = record {
        is = recovery_begins t.disk t.pairs ok fits none;
        there = e.0;
        counted = refl;
        no_move = none;
        reported = subst (λ n. AreUnreachedFrom (IsReachedDirectory t.pairs) n None (pairs_from_root t.pairs) numbers) occurrence_count reported;
        firsts = firsts_from t.disk t.pairs ok [] (pairs_from_root t.pairs) refl;
        filled = fits.no_empty_pair;
        begins = tt;
        goes_on = inl refl;
        root = λ n x xs is. root_reached t.disk t.pairs ok x xs is;
      };
      state = λ some n. absurd (omega arith);
      device = stays_itself t;
      gone = [];
      was = ok;
      took = [];
      reported = reported;
      gone_are = refl;
      map = record {
        owned = used_blocks t.disk t.pairs;
        are = can.used;
        same = λ b. omega arith;
        once = λ b. once_from_distinct (used_blocks t.disk t.pairs) ok.owned_once b;
        size = can.size;
      };
      lost = λ b. omega arith;
      flying = λ b. ((λ flies. flies), (λ flies. flies));
      fewer = λ b. omega arith;
      writes = writes_none (pairs_blocks t.pairs) t;
      survives = λ clean. record { events = []; extends = refl; each = tt };
    }

-- ---- the next pair that is dropped

-- the pair at an index goes, which stands behind the one before it
pub record IsNext (old now : KeptThread) (dropped number : ℕ) (rest : List ℕ) : Type 0 where
  pub goes : IsAtDrop old.disk old.pairs now.disk now.pairs dropped (take (count_before_root old.pairs) old.pairs) (number ∷ rest)
  pub front : List Pair
  pub before : Pair
  pub split : goes.kept ≡ front ++ before ∷ []
  pub number_is : number ≡ length (take (count_before_root old.pairs) old.pairs) + length front + 1 + dropped

pub next_goes : (old now : KeptThread) (dropped number : ℕ) (rest : List ℕ) → IsUnderWay old now dropped (number ∷ rest) → IsNext old now dropped number rest
next_goes old now dropped number rest u = go (goes_to old.disk old.pairs now.disk now.pairs dropped (take (count_before_root old.pairs) old.pairs) u.seen u.todo u.parts u.kept (number ∷ rest) u.way)
  where
    head : {a b : ℕ} {us vs : List ℕ} → a ∷ us ≡ b ∷ vs → a ≡ b
    head e = cc

    go : IsAtEnd old.disk old.pairs now.disk now.pairs dropped (take (count_before_root old.pairs) old.pairs) (number ∷ rest) ⊎ IsAtDrop old.disk old.pairs now.disk now.pairs dropped (take (count_before_root old.pairs) old.pairs) (number ∷ rest)
        → IsNext old now dropped number rest
    go (inl d) = absurd (let l = ap length d.none in omega arith)
    go (inr d) =
        let l = last_pair d.kept (λ none. d.unreached (d.way.root none d.x d.todo refl)) in
        record { goes = d; front = l.front; before = l.last; split = l.is; number_is = let h = head d.is in let a = ap length l.is in let b = length-append l.front (l.last ∷ []) in omega arith }

-- The pair of that number stands at an index now, and goes. The state that is wanted is none with the last one.
pub record IsTaking (old now : KeptThread) (dropped number : ℕ) (rest : List ℕ) (g : Gstate) (behind : ℕ) : Type 0 where
  pub under : IsUnderWay old now dropped (number ∷ rest)
  pub next : IsNext old now dropped number rest
  pub last : rest ≡ [] → g ≡ zero_gstate
  pub other : rest ≢ [] → g ≡ pairs_gstate now.pairs
  pub sum : behind + dropped ≡ number

module _ {old now : KeptThread} {dropped number : ℕ} {rest : List ℕ} {g : Gstate} {behind : ℕ} (k : IsTaking old now dropped number rest g behind) where
  abbrev u : IsUnderWay old now dropped (number ∷ rest)
  u = k.under

  abbrev n : IsNext old now dropped number rest
  n = k.next

  abbrev C : List Pair
  C = take (count_before_root old.pairs) old.pairs

  more : AreUnreachedFrom (IsReachedDirectory old.pairs) (suc (length C + length n.goes.kept + dropped)) (continued_directory_address (onward_all None n.goes.seen) n.goes.x) n.goes.todo rest
  more = subst (AreUnreachedFrom (IsReachedDirectory old.pairs) (suc (length C + length n.goes.kept + dropped)) (continued_directory_address (onward_all None n.goes.seen) n.goes.x) n.goes.todo) (tail n.goes.is) n.goes.more
    where
      tail : {a b : ℕ} {us vs : List ℕ} → a ∷ us ≡ b ∷ vs → vs ≡ us
      tail e = cc

  whole_is : now.pairs ≡ C ++ (n.front ++ n.before ∷ n.goes.x ∷ n.goes.todo)
  whole_is = stands n.goes.way n.goes.unreached n.front n.before n.split

  is_ready : IsReady now.disk C (n.front ++ n.before ∷ n.goes.x ∷ n.goes.todo)
  is_ready = subst (IsReady now.disk C) (ap (λ z. z ++ n.goes.x ∷ n.goes.todo) n.split ∙ append_assoc n.front (n.before ∷ []) (n.goes.x ∷ n.goes.todo))
      (ready n.goes.way n.goes.unreached n.front n.before n.split)

  now_none : HasNoMove (pairs_gstate now.pairs)
  now_none = subst (λ z. HasNoMove (pairs_gstate z)) (sym whole_is) is_ready.no_move

  cases : (HasNoMove g) × (g.sync ≡ false → rest ≡ [])
  cases = go rest refl
    where
      go : (r : List ℕ) → rest ≡ r → (HasNoMove g) × (g.sync ≡ false → rest ≡ [])
      go [] e = (subst HasNoMove (sym (k.last e)) (record { kind = refl; id = refl; pair = refl }), λ off. e)
      go (r ∷ rs) e =
          let is = k.other (λ none. absurd (let l = ap length (sym e ∙ none) in omega arith)) in
          (subst HasNoMove (sym is) now_none, λ off. absurd (sync_set n.goes.way n.goes.unreached n.front n.before n.split (ap (λ (z : Gstate). z.sync) (sym is) ∙ off)))

  is_unled : IsUnled now g n.before n.goes.x
  is_unled = record {
    none = cases.0;
    soft = soft n.goes.way n.goes.unreached n.front n.before n.split;
    unled = unled n.goes.way n.goes.unreached n.front n.before n.split;
    reached = λ off. all_but n.goes.way n.goes.unreached n.front n.before n.split
        (subst (λ z. AreUnreachedFrom (IsReachedDirectory old.pairs) (suc (length C + length n.goes.kept + dropped)) (continued_directory_address (onward_all None n.goes.seen) n.goes.x) n.goes.todo z) (cases.1 off) more);
  }

  dropping : IsToBeDropped now behind g (site_of C n.front n.goes.todo) n.before n.goes.x
  dropping = record {
    accepted = subst (IsAccepted now.disk) (sym whole_is) is_ready.accepted;
    writable = subst (IsWritable now.disk) (sym whole_is) is_ready.writable;
    storable = record {
      kind = let e = cases.0.kind in omega arith;
      id = let e = cases.0.id in omega arith;
      pair = ((let e = ap (λ (z : ℕ × ℕ). z.0) cases.0.pair in omega arith), (let e = ap (λ (z : ℕ × ℕ). z.1) cases.0.pair in omega arith));
    };
    there = whole_is;
    number = let i = n.number_is in let c = length-append C n.front in let e = k.sum in omega arith;
  }

  pub can_take : CanDropAt now behind g
  can_take = can_drop_pair dropping

  shows : disk_tree now.disk now.pairs ≡ disk_tree old.disk old.pairs
  shows = ap (disk_tree now.disk) (n.goes.way.there ∙ ap (λ z. C ++ (n.goes.kept ++ z)) (sym (joined_singles (n.goes.x ∷ n.goes.todo)))) ∙ n.goes.way.is.taken.follows.shows

  number_there : slice_index_or old.pairs number empty_anchor ≡ n.goes.x
  number_there = numbered old.pairs C n.goes.seen n.goes.x n.goes.todo number n.goes.way.is.are
      (let i = n.number_is in let c = n.goes.way.counted in let a = ap length n.split in let b = length-append n.front (n.before ∷ []) in omega arith)

  pub survives_on : (new : KeptThread) → StaysOn now new → CleanLossLeaves now.history new.history (LeftByDrop now (behind - 1) g)
      → SurvivesLossSince old.disk old.history new.history (disk_tree old.disk old.pairs) (disk_tree old.disk old.pairs)
  survives_on new on stops = survives_behind old now new u.device on shows u.survives (survives_step now.disk (over_left now C n.front n.before n.goes.x n.goes.todo behind g dropping is_ready is_unled) stops)

  pub writes_on : (new : KeptThread) → ChangesThreadBlocks (address_blocks (thread_pair now (behind - 1)).at) now new → ChangesThreadBlocks (pairs_blocks old.pairs) old new
  writes_on new writes =
      let can = can_take in
      let low : behind - 1 < length now.pairs = let w = can.above in let z = can.below in omega arith in
      writes_trans u.writes (writes_fewer _ (pairs_blocks old.pairs) (λ b. let f = u.fewer b in let l = two_fewer now.pairs (behind - 1) low b in omega arith) writes)

  pub moves_on : (new : KeptThread) → IsPairDropped now (behind - 1) g new → ChangesThreadBlocks (address_blocks (thread_pair now (behind - 1)).at) now new → CleanLossLeaves now.history new.history (LeftByDrop now (behind - 1) g)
      → IsUnderWay old new (suc dropped) rest
  moves_on new is writes stops =
      let on = stays_by _ now new writes in
      let q : Pair = record { at = n.before.at; content = content_after_drop now (behind - 1) g } in
      let apart = over_on now C n.front n.before n.goes.x n.goes.todo behind g dropping is_ready is_unled new.disk is.written in
      let m = map_drops dropping new is now_none cases.0 u.gone u.map in
      record {
        gone = u.gone ++ file_blocks now.disk n.goes.x.content.slots;
        was = u.was;
        took = u.took ++ number ∷ [];
        reported = subst (AreUnreachedNumbers old.pairs) (sym (append_assoc u.took (number ∷ []) rest)) u.reported;
        gone_are = ap₂ (λ a b. a ++ b) u.gone_are (lists_kept old now C n.goes.seen n.goes.x n.goes.todo n.goes.way.is.are u.was n.goes.way.no_move u.writes) ∙ sym (lists_more old u.took number n.goes.x number_there);
        map = m.0;
        lost = λ b.
            let f = files_left dropping new is now_none cases.0 b in
            let a = count_append b u.gone (file_blocks now.disk n.goes.x.content.slots) in
            let l = u.lost b in
            omega arith;
        flying = λ b. ((λ flies. (u.flying b).0 ((m.1 b).0 flies)), (λ flies. (m.1 b).1 ((u.flying b).1 flies)));
        fewer = λ b. let f = u.fewer b in let e = blocks_left dropping new is b in omega arith;
        writes = writes_on new writes;
        seen = n.goes.seen ++ n.goes.x ∷ [];
        todo = n.goes.todo;
        parts = n.goes.parts ++ [] ∷ [];
        kept = n.front ++ q ∷ [];
        way = drops n.goes.way n.goes.unreached n.front n.before n.split new.disk new.pairs q rest more
            (subst (λ z. IsUnthreaded now.disk new.disk C n.front n.before n.goes.x q z) (sym (joined_singles n.goes.todo)) apart) (pairs_left dropping new is);
        state = λ some none. is.gstate ∙ k.last none;
        device = stays_then old now new u.device on;
        survives = survives_on new on stops;
      }

-- ---- in the list of numbers

-- the next one goes, with the state that is wanted then
pub taking : (old now : KeptThread) (xs : List ℕ) (dropped : ℕ) (g : Gstate) → dropped < length xs → IsUnderWay old now dropped (drop dropped xs) → g ≡ gstate_while_dropping now (nat_eq (dropped + 1) (length xs))
    → IsTaking old now dropped (slice_index_or xs dropped 0) (drop (suc dropped) xs) g (slice_index_or xs dropped 0 - dropped)
taking old now xs dropped g low way is = record {
  under = under;
  next = next;
  last = λ none. is ∙ ap (gstate_while_dropping now) (eq-eqb (dropped + 1) (length xs) (let l = length-drop (suc dropped) xs in let n = ap length none in omega arith));
  other = λ some. is ∙ ap (gstate_while_dropping now) (ne_eqb (dropped + 1) (length xs) (λ e. some (drop_all (suc dropped) xs (omega arith))));
  sum = let i = next.number_is in omega arith;
}
  where
    under : IsUnderWay old now dropped (slice_index_or xs dropped 0 ∷ drop (suc dropped) xs)
    under = subst (IsUnderWay old now dropped) (drop-cons xs dropped 0 low) way

    next : IsNext old now dropped (slice_index_or xs dropped 0) (drop (suc dropped) xs)
    next = next_goes old now dropped (slice_index_or xs dropped 0) (drop (suc dropped) xs) under

-- so many are gone that its number is no less
pub enough_behind : (old now : KeptThread) (xs : List ℕ) (dropped : ℕ) → dropped < length xs → IsUnderWay old now dropped (drop dropped xs) → dropped ≤ slice_index_or xs dropped 0
enough_behind old now xs dropped low way = let t = (taking old now xs dropped (gstate_while_dropping now (nat_eq (dropped + 1) (length xs))) low way refl).sum in omega arith

-- none is left
pub none_left : (old now : KeptThread) (xs : List ℕ) (dropped : ℕ) → length xs ≤ dropped → IsUnderWay old now dropped (drop dropped xs) → IsUnderWay old now dropped []
none_left old now xs dropped past way = subst (IsUnderWay old now dropped) (drop_all dropped xs past) way
