-- A pair that is changed, or split into two free blocks.
use Rattle.lfs_operations.proofs.Common.{ℕ, ◌≡◌, ◌≢◌, ◌∙◌, ◌≤◌, ◌⊎◌, Option, None, Some, inl, inr, List, [], ◌∷◌, ◌++◌, pairs_blocks, Result, Ok, Err, arith, refl, sym, set, Blocks, BlockStates, Free, InFlight, ContentChange, Disk, PairContent, CallEvent, OnlyReadsSince, fault_count, slice_get-set_same, slice_get-set_other, HoldsAtLosses-weaker, HoldsAtLosses-trans, OthersStayUnprogrammed-refl, OthersStayUnprogrammed-trans, AllCallsSince-until, AllCallsSince-behind, OnlyReadsSince-trans, OthersStayUnprogrammed-read_count, HoldsAtLosses-read_count, LossLeavesAtWorst-read, CleanLossLeaves, KeptThread, thread_pair, SplitOnDisk, PartsFit, CanSplitAt, LossLeavesPair, HasOldPair, LossLeavesThreadSplit, OnlyReadsThread, HasSplit, ChangesThreadBlocks, addresses_blocks, SameExceptBlocks-trans, SameExceptBlocks-wider, OthersStayUnprogrammed-wider, All, Error, FreshInFlight, AreTwoFreeBlocks, CanCommitOrSplit, IsPairSplit, IsSplitInto, LeftByCommitOrSplit, OverfillsPair, LeftBySplit, ReportsSpaceErrors, WritesPairAndTwoFree, WritesThreadAndTwoFree, map_allocating_two, Tree, HasEitherTree, with_blocks, SurvivesLossSince, survives_then, All-from_recursion, recursion_from_All, each_counted, each_from_counted, occurrence_count}
use Rattle.lfs_model.proofs.Histories.{began}
use Rattle.lfs_thread.specs.CachedLog.{reads_unless_cached}
use Rattle.lfs_operations.proofs.Taking.{within}

-- ---- the blocks that steps change

pub writes_wider : {bs : List ℕ} (cs : List ℕ) {old new : KeptThread} → ((b : ℕ) → All (λ c. c ≢ b) cs → All (λ c. c ≢ b) bs) → ChangesThreadBlocks bs old new → ChangesThreadBlocks cs old new
writes_wider cs f h = record {
  others = SameExceptBlocks-wider cs f h.others;
  elsewhere = OthersStayUnprogrammed-wider cs f h.elsewhere;
  shape = h.shape;
  at_worst = HoldsAtLosses-weaker (λ blocks k. SameExceptBlocks-wider cs f k) h.at_worst;
}

-- where each of these blocks is one of those
pub writes_among : {bs cs : List ℕ} {old new : KeptThread} → ((b : ℕ) → 1 ≤ occurrence_count b bs → 1 ≤ occurrence_count b cs) → ChangesThreadBlocks bs old new → ChangesThreadBlocks cs old new
writes_among {bs = bs} {cs = cs} of = writes_wider cs (λ k h. All-from_recursion (λ c. c ≢ k) bs (each_from_counted (λ c. c ≢ k) bs (λ b some. each_counted (λ c. c ≢ k) cs (recursion_from_All (λ c. c ≢ k) cs h) b (of b some))))

pub writes_trans : {bs : List ℕ} {old mid new : KeptThread} → ChangesThreadBlocks bs old mid → ChangesThreadBlocks bs mid new → ChangesThreadBlocks bs old new
writes_trans first second = record {
  others = SameExceptBlocks-trans first.others second.others;
  elsewhere = OthersStayUnprogrammed-trans first.elsewhere second.elsewhere;
  shape = record {
    block_size = second.shape.block_size ∙ first.shape.block_size;
    page = second.shape.page ∙ first.shape.page;
    order = second.shape.order ∙ first.shape.order;
    profile = second.shape.profile ∙ first.shape.profile;
    count = second.shape.count ∙ first.shape.count;
  };
  at_worst = HoldsAtLosses-trans first.at_worst (HoldsAtLosses-weaker (λ blocks k. SameExceptBlocks-trans first.others k) second.at_worst);
}

-- ---- atomic steps, one after another

-- a step that leaves one of two trees at a power loss
pub survives_step : (disk : Disk) {old new : List CallEvent} {before after : Tree} {P : Blocks → Type 0} → ((left : Blocks) → P left → HasEitherTree (with_blocks left disk) before after) → CleanLossLeaves old new P → SurvivesLossSince disk old new before after
survives_step disk left stops clean = HoldsAtLosses-weaker left (stops clean)

-- and one more, after steps that left one of them
pub survives_more : {t mid new : KeptThread} {bs cs : List ℕ} (before after : Tree) {P : Blocks → Type 0} → ChangesThreadBlocks bs t mid → ChangesThreadBlocks cs mid new → SurvivesLossSince t.disk t.history mid.history before after
    → ((left : Blocks) → P left → HasEitherTree (with_blocks left t.disk) before after) → CleanLossLeaves mid.history new.history P → SurvivesLossSince t.disk t.history new.history before after
survives_more {t = t} {mid = mid} {new = new} before after one two first left stops =
    survives_then t.disk t.history mid.history new.history before after one.at_worst two.at_worst first (λ clean. HoldsAtLosses-weaker left (stops clean))

-- ---- with other states of the blocks, and after other calls

module _ {t : KeptThread} {sets : BlockStates} {h : List CallEvent} {index : ℕ} where
  parts_same : {content : PairContent} {cut : ℕ} {fresh : ℕ × ℕ} {disk : Disk} → PartsFit (record t { map = sets; history = h }) index content cut fresh disk → PartsFit t index content cut fresh disk
  parts_same p = record { front_fits = p.front_fits; back_fits = p.back_fits; inside = p.inside; first = p.first }

  cut_same : {changes : List ContentChange} {fresh : ℕ × ℕ} {left : Blocks} → LossLeavesThreadSplit (record t { map = sets; history = h }) index fresh changes left → LossLeavesThreadSplit t index fresh changes left
  cut_same {changes = changes} {fresh = fresh} {left = left} l = record { others = l.others; content = go l.content }
    where
      go : HasOldPair (record t { map = sets; history = h }) index (record t.disk { blocks = left }) ⊎ SplitOnDisk (record t { map = sets; history = h }) index changes fresh (record t.disk { blocks = left })
          → HasOldPair t index (record t.disk { blocks = left }) ⊎ SplitOnDisk t index changes fresh (record t.disk { blocks = left })
      go (inl b) = inl (record { holds = b.holds; first = b.first })
      go (inr k) = inr (record { content = k.content; made = k.made; cut = k.cut; front = k.front; back = k.back; parts = parts_same k.parts })

-- with other states of the blocks
abbrev pub with_map : KeptThread → BlockStates → KeptThread
with_map t sets = record t { map = sets }

pub held : (sets : BlockStates) (fresh : ℕ × ℕ) → AreTwoFreeBlocks sets fresh → FreshInFlight (map_allocating_two sets fresh) fresh
held sets fresh two = record {
  apart = two.apart;
  first = slice_get-set_other first_taken fresh.1 fresh.0 InFlight two.apart ∙ slice_get-set_same sets fresh.0 InFlight (within sets fresh.0 Free two.first);
  second = slice_get-set_same first_taken fresh.1 InFlight
      (within first_taken fresh.1 Free (slice_get-set_other sets fresh.0 fresh.1 InFlight (λ e. two.apart (sym e)) ∙ two.second));
}
  where
    first_taken : BlockStates
    first_taken = set sets fresh.0 InFlight

pub can_split : (t : KeptThread) (index : ℕ) (fresh : ℕ × ℕ) (changes : List ContentChange) → CanCommitOrSplit t index changes → AreTwoFreeBlocks t.map fresh → CanSplitAt (with_map t (map_allocating_two t.map fresh)) index fresh changes
can_split t index fresh changes can two = record {
  can = record { below = can.can.below; content = can.can.content; made = can.can.made; next = can.can.next };
  held = held t.map fresh two;
  raw = can.raw;
  made = can.made;
  cut = can.cut;
}

-- ---- the result

module _ (t : KeptThread) (index : ℕ) (fresh : ℕ × ℕ) (changes : List ContentChange) (two : AreTwoFreeBlocks t.map fresh) where
  abbrev mid : KeptThread
  mid = with_map t (map_allocating_two t.map fresh)

  pub cut_in : (new : KeptThread) → HasSplit mid index fresh changes new → ChangesThreadBlocks (addresses_blocks (thread_pair t index).at fresh) mid new → IsSplitInto t index fresh changes new
  cut_in new is writes = record {
    free = two;
    content = is.content;
    made = is.made;
    cut = is.cut;
    parts = parts_same is.parts;
    others = writes.others;
    shape = writes.shape;
    pairs = is.pairs;
    thread = is.thread;
    map = is.map;
    writes = record { others = writes.others; elsewhere = writes.elsewhere; shape = writes.shape; at_worst = writes.at_worst };
  }

  pub stops_by_cut : (new : List CallEvent) → CleanLossLeaves t.history new (LossLeavesThreadSplit mid index fresh changes) → CleanLossLeaves t.history new (LeftBySplit t index changes)
  stops_by_cut new stops clean = HoldsAtLosses-weaker (λ left l. (fresh, (two, cut_same l))) (stops clean)

  pub writes_in : (new : KeptThread) → ChangesThreadBlocks (addresses_blocks (thread_pair t index).at fresh) mid new → WritesPairAndTwoFree t index new
  writes_in new w = record {
    fresh = fresh.0 ∷ fresh.1 ∷ [];
    few = omega arith;
    free = (two.first, (two.second, tt));
    writes = record { others = w.others; elsewhere = w.elsewhere; shape = w.shape; at_worst = w.at_worst };
  }

-- ---- errors

pub same_err : {A : Type 0} (a b : Error) (r : Result A Error) → r ≡ Err a → r ≡ Err b → a ≡ b
same_err a b r h k = cc

pub not_both : {A : Type 0} (r : Result A Error) (a : A) (e : Error) → r ≡ Ok a → r ≡ Err e → ⊥
not_both r a e h k = absurd (cc)

-- ---- nothing was done

none_change : (bs : List ℕ) (t : KeptThread) → ChangesThreadBlocks bs t t
none_change bs t = record {
  others = record { count = refl; sizes = λ b. refl; others = λ b apart. refl };
  elsewhere = OthersStayUnprogrammed-refl bs t.history;
  shape = record { block_size = refl; page = refl; order = refl; profile = refl; count = refl };
  at_worst = began;
}

pub writes_none : (t : KeptThread) (index : ℕ) → WritesPairAndTwoFree t index t
writes_none t index = record { fresh = []; few = omega arith; free = tt; writes = none_change ((thread_pair t index).at.0 ∷ (thread_pair t index).at.1 ∷ []) t }

pub thread_stays : (t : KeptThread) → WritesThreadAndTwoFree t t
thread_stays t = record { fresh = []; few = omega arith; free = tt; writes = none_change (pairs_blocks t.pairs ++ []) t }

-- ---- after reads

-- with a later history
abbrev pub with_history : KeptThread → List CallEvent → KeptThread
with_history t h = record t { history = h }

pub read_is : (t mid : KeptThread) → OnlyReadsThread t mid → mid ≡ with_history t mid.history
read_is t mid r = λ j. record { disk = r.disk j; history = mid.history; pairs = r.pairs j; map = r.map j }

module _ (t : KeptThread) (h : List CallEvent) (reads : OnlyReadsSince t.disk.blocks t.history h) (index : ℕ) (changes : List ContentChange) where
  abbrev later : KeptThread
  later = with_history t h

  writes_behind : (bs : List ℕ) (new : KeptThread) → ChangesThreadBlocks bs later new → ChangesThreadBlocks bs t new
  writes_behind bs new w = record {
    others = w.others;
    elsewhere = OthersStayUnprogrammed-trans (OthersStayUnprogrammed-read_count bs reads) w.elsewhere;
    shape = w.shape;
    at_worst = HoldsAtLosses-trans (HoldsAtLosses-read_count LossLeavesAtWorst-read reads (record { count = refl; sizes = λ b. refl; others = λ b apart. refl })) w.at_worst;
  }

  pub cut_later : (new : KeptThread) → IsPairSplit later index changes new → IsPairSplit t index changes new
  cut_later new (fresh, is) = (
    fresh,
    record {
      free = is.free;
      content = is.content;
      made = is.made;
      cut = is.cut;
      parts = parts_same is.parts;
      others = is.others;
      shape = is.shape;
      pairs = is.pairs;
      thread = is.thread;
      map = is.map;
      writes = writes_behind (addresses_blocks (thread_pair t index).at fresh) new is.writes;
    },
  )

  pub left_later : (left : Blocks) → LeftBySplit later index changes left → LeftBySplit t index changes left
  left_later left (fresh, (two, l)) = (fresh, (two, cut_same l))

  pub reports_later : {X : Type 0} (new : KeptThread) (result : Result X Error) → fault_count h ≡ fault_count t.history → ReportsSpaceErrors later new result → ReportsSpaceErrors t new result
  reports_later new result same reported = record {
    errors = reported.errors;
    fault = λ io. (let k = reported.fault io in omega (arith, k, same));
    no_fault = λ other. reported.no_fault other ∙ same;
    unwritten = λ none. (let u = reported.unwritten none in record { disk = u.disk; reads = OnlyReadsSince-trans reads u.reads refl });
    unchanged = λ none. (let u = reported.unchanged none in record { disk = u.disk; reads = OnlyReadsSince-trans reads u.reads refl; pairs = u.pairs; map = u.map });
    no_space = reported.no_space;
  }

  pub writes_later : (new : KeptThread) → WritesPairAndTwoFree later index new → WritesPairAndTwoFree t index new
  writes_later new w = record {
    fresh = w.fresh;
    few = w.few;
    free = w.free;
    writes = writes_behind ((thread_pair t index).at.0 ∷ (thread_pair t index).at.1 ∷ w.fresh) new w.writes;
  }

  pub stops_later : (new : KeptThread) → OverfillsPair t index changes → WritesPairAndTwoFree later index new → CleanLossLeaves t.history h (LossLeavesPair t index changes) → CleanLossLeaves h new.history (LeftBySplit later index changes)
      → CleanLossLeaves t.history new.history (LeftByCommitOrSplit t index changes)
  stops_later new large w first second clean =
      HoldsAtLosses-trans (HoldsAtLosses-weaker (λ left l. inl l) (first (AllCallsSince-until clean reads w.writes.at_worst)))
      (HoldsAtLosses-weaker (λ left l. inr (large, left_later left l)) (second (AllCallsSince-behind clean reads w.writes.at_worst)))

-- ---- how often a step reads

pub read_at_most : (block : Option (List ℕ)) → reads_unless_cached block ≤ 1
read_at_most None = omega arith
read_at_most (Some bytes) = omega arith
