-- An operation that is carried out, by what its steps say.
use Rattle.std.proofs.Common.{ℕ, zero, suc, ◌≡◌, ◌≢◌, ◌⊎◌, inl, inr, ◌<◌, ◌≤◌, ◌∙◌, true, false, List, [], ◌∷◌, ◌++◌, length, refl, sym, ap, subst, append_assoc, length-append, slice_index_or, arith}
use Rattle.std.specs.Prelude.{All, Contains, slice_get}
use Rattle.lfs_tree.proofs.Common.{AllByRecursion, All-from_recursion, same_Some, is_file, AreUsed, BlockStates, IsFree, IsInFlight, IsUsedBlock, Free, InFlight, Used, Disk, disk_block, CallEvent, OnlyReadsSince, fault_count, IsDirectoryPair, struct_at, Operation, is_recover, renames_itself, OpenFilesByNumber, Slot, zero_gstate, Pair, pairs_blocks, pairs_gstate, Path, IsAccepted, IsWritable, all_unmoved_slots, struct_blocks, disk_tree, used_blocks, arranged_settled, Contains-head, Contains-tail, SameGeometry, IsLayoutAfterRecovery, Contains-occurrence_count, occurrence_count-Contains, CompletesOperation, recovered_from, Each, occurrence_count, count_append, each_from_counted, each_pieces, each_weaker, once_from_distinct, is_unprogrammed_byte-read_count, file_blocks, WritesThreadAndFree, IsRecoveredWritableImage, KeptThread, OnlyReadsThread, ChangesThreadBlocks, empty_anchor, thread_pair, AppliesBeforeRelocation, AppliesOperation, KeepsFileAt, KeepsListBytes}
use Rattle.lfs_model.proofs.KeptStructs.{none_stored}
use Rattle.lfs_model.proofs.Unmoved.{nothing_moves}
use Rattle.lfs_tree.specs.KeptFiles.{list_blocks_at}
use Rattle.lfs_tree.proofs.KeptFiles.{keeps_by, list_used, no_pairs}
use Rattle.lfs_tree.proofs.TakenEdits.{room_taken}

-- the same thread, after other calls
abbrev pub with_history : KeptThread → List CallEvent → KeptThread
with_history t history = record t { history = history }

pub read_is : (a b : KeptThread) → OnlyReadsThread a b → b ≡ with_history a b.history
read_is a b r =
    ap (λ (d : Disk). let k : KeptThread = record { disk = d; history = b.history; pairs = b.pairs; map = b.map } in k) r.disk
    ∙ ap (λ (ps : List Pair). let k : KeptThread = record { disk = a.disk; history = b.history; pairs = ps; map = b.map } in k) r.pairs
    ∙ ap (λ (sets : BlockStates). let k : KeptThread = record { disk = a.disk; history = b.history; pairs = a.pairs; map = sets } in k) r.map

-- ---- blocks that an operation may write

-- a pair's, or free
abbrev pub IsPairsOrFree : KeptThread → ℕ → Type 0
IsPairsOrFree t b = Contains (pairs_blocks t.pairs) b ⊎ IsFree t.map b

apart_state : (sets : BlockStates) (b c : ℕ) → IsInFlight sets b → IsUsedBlock sets c → c ≢ b
apart_state sets b c flies used e = let k : InFlight ≡ Used = same_Some InFlight Used (sym flies ∙ ap (slice_get sets) (sym e) ∙ used) in absurd (cc)

apart_free : (sets : BlockStates) (b c : ℕ) → IsInFlight sets b → IsFree sets c → c ≢ b
apart_free sets b c flies free e = let k : InFlight ≡ Free = same_Some InFlight Free (sym flies ∙ ap (slice_get sets) (sym e) ∙ free) in absurd (cc)

in_left : (xs ys : List ℕ) (b : ℕ) → Contains xs b → Contains (xs ++ ys) b
in_left xs ys b h = let k = occurrence_count-Contains xs b h in let e = count_append b xs ys in Contains-occurrence_count (xs ++ ys) b (omega arith)

pub pair_blocks : (ps : List Pair) (index : ℕ) → index < length ps → Contains (pairs_blocks ps) (slice_index_or ps index empty_anchor).at.0 × Contains (pairs_blocks ps) (slice_index_or ps index empty_anchor).at.1
pair_blocks [] index below = absurd (omega arith)
pair_blocks (p ∷ ps) zero below = (Contains-head p.at.0 (p.at.1 ∷ pairs_blocks ps), Contains-tail p.at.0 p.at.1 (p.at.1 ∷ pairs_blocks ps) (Contains-head p.at.1 (pairs_blocks ps)))
pair_blocks (p ∷ ps) (suc index) below =
    let k = pair_blocks ps index (omega arith) in
    let q = slice_index_or ps index empty_anchor in
    (Contains-tail p.at.0 q.at.0 (p.at.1 ∷ pairs_blocks ps) (Contains-tail p.at.1 q.at.0 (pairs_blocks ps) k.0), Contains-tail p.at.0 q.at.1 (p.at.1 ∷ pairs_blocks ps) (Contains-tail p.at.1 q.at.1 (pairs_blocks ps) k.1))

-- those of a pair, and some that are free
pub among_one : (t : KeptThread) (index : ℕ) (fresh : List ℕ) → index < length t.pairs → AllByRecursion (IsFree t.map) fresh → AllByRecursion (IsPairsOrFree t) ((thread_pair t index).at.0 ∷ (thread_pair t index).at.1 ∷ fresh)
among_one t index fresh below free = let k = pair_blocks t.pairs index below in (inl k.0, (inl k.1, each_weaker (IsFree t.map) (IsPairsOrFree t) (λ c f. inr f) fresh free))

-- those of two pairs, and some that are free
pub among_two : (t : KeptThread) (index last : ℕ) (fresh : List ℕ) → index < length t.pairs → last < length t.pairs → AllByRecursion (IsFree t.map) fresh
    → AllByRecursion (IsPairsOrFree t) ((thread_pair t index).at.0 ∷ (thread_pair t index).at.1 ∷ (thread_pair t last).at.0 ∷ (thread_pair t last).at.1 ∷ fresh)
among_two t index last fresh below within free = let k = pair_blocks t.pairs index below in (inl k.0, (inl k.1, among_one t last fresh within free))

-- no block that is in flight is one of them
pub apart_flying : (t : KeptThread) (bs : List ℕ) → AreUsed t.map (used_blocks t.disk t.pairs) → AllByRecursion (IsPairsOrFree t) bs → (b : ℕ) → IsInFlight t.map b → All (λ c. c ≢ b) bs
apart_flying t bs used each b flies = All-from_recursion (λ c. c ≢ b) bs (each_weaker (IsPairsOrFree t) (λ c. c ≢ b) other bs each)
  where
    other : (c : ℕ) → IsPairsOrFree t c → c ≢ b
    other c (inl h) = apart_state t.map b c flies ((used c).1 (in_left (pairs_blocks t.pairs) _ c h))
    other c (inr free) = apart_free t.map b c flies free

-- nor one of a file's list
pub apart_listed : (t : KeptThread) (bs : List ℕ) → IsAccepted t.disk t.pairs → AreUsed t.map (used_blocks t.disk t.pairs) → AllByRecursion (IsPairsOrFree t) bs → (path : Path) (b : ℕ) → Contains (list_blocks_at t path) b → All (λ c. c ≢ b) bs
apart_listed t bs accepted used each path b has = All-from_recursion (λ c. c ≢ b) bs (each_weaker (IsPairsOrFree t) (λ c. c ≢ b) other bs each)
  where
    other : (c : ℕ) → IsPairsOrFree t c → c ≢ b
    other c (inl h) e = no_pairs t path accepted b has (subst (Contains (pairs_blocks t.pairs)) e h)
    other c (inr free) e =
        let is = list_used t path accepted used b has in
        let k : Free ≡ Used = same_Some Free Used (sym (subst (IsFree t.map) e free) ∙ is) in
        absurd (cc)

-- the files of an image stay if only such blocks are written and their structs stay
pub keeps_writing : (a c : KeptThread) (bs : List ℕ) → IsAccepted a.disk a.pairs → AreUsed a.map (used_blocks a.disk a.pairs) → AllByRecursion (IsPairsOrFree a) bs → ChangesThreadBlocks bs a c
    → (path : Path) → is_file (disk_tree a.disk a.pairs path) ≡ true → struct_at c.pairs path ≡ struct_at a.pairs path → KeepsFileAt a c path
keeps_writing a c bs accepted used each w path file same =
    keeps_by a c path file same (record { block_size = w.shape.block_size; page = w.shape.page; order = w.shape.order; profile = w.shape.profile; count = w.shape.count }) (λ b has. w.others.others b (apart_listed a bs accepted used each path b has))

-- ---- the lists of all files

-- none of their blocks is one of these
pub apart_files : (t : KeptThread) (bs : List ℕ) → IsAccepted t.disk t.pairs → AreUsed t.map (used_blocks t.disk t.pairs) → AllByRecursion (IsPairsOrFree t) bs → (b : ℕ) → 1 ≤ occurrence_count b (file_blocks t.disk (all_unmoved_slots t.pairs)) → All (λ c. c ≢ b) bs
apart_files t bs accepted used each b some = All-from_recursion (λ c. c ≢ b) bs (each_weaker (IsPairsOrFree t) (λ c. c ≢ b) other bs each)
  where
    here : IsUsedBlock t.map b
    here = let e = count_append b (pairs_blocks t.pairs) (file_blocks t.disk (all_unmoved_slots t.pairs)) in (used b).1 (Contains-occurrence_count (used_blocks t.disk t.pairs) b (omega arith))

    other : (c : ℕ) → IsPairsOrFree t c → c ≢ b
    other c (inl h) e =
        let k = occurrence_count-Contains (pairs_blocks t.pairs) b (subst (Contains (pairs_blocks t.pairs)) e h) in
        let f = count_append b (pairs_blocks t.pairs) (file_blocks t.disk (all_unmoved_slots t.pairs)) in
        let o = once_from_distinct (used_blocks t.disk t.pairs) accepted.owned_once b in
        absurd (omega arith)
    other c (inr free) e = let k : Free ≡ Used = same_Some Free Used (sym (subst (IsFree t.map) e free) ∙ here) in absurd (cc)

pub lists_from : (disk new : Disk) (ps : List Pair) → ((b : ℕ) → 1 ≤ occurrence_count b (file_blocks disk (all_unmoved_slots ps)) → disk_block new b ≡ disk_block disk b) → KeepsListBytes disk ps new
lists_from disk new ps h =
    All-from_recursion (λ (s : Slot). All (λ b. disk_block new b ≡ disk_block disk b) (struct_blocks disk s.struct)) (all_unmoved_slots ps)
    (each_weaker (λ (s : Slot). Each (λ b. disk_block new b ≡ disk_block disk b) (struct_blocks disk s.struct)) (λ (s : Slot). All (λ b. disk_block new b ≡ disk_block disk b) (struct_blocks disk s.struct))
    (λ s k. All-from_recursion (λ b. disk_block new b ≡ disk_block disk b) (struct_blocks disk s.struct) k) (all_unmoved_slots ps)
    (each_pieces (λ b. disk_block new b ≡ disk_block disk b) (λ (s : Slot). struct_blocks disk s.struct) (all_unmoved_slots ps) (each_from_counted (λ b. disk_block new b ≡ disk_block disk b) (file_blocks disk (all_unmoved_slots ps)) h)))

-- they stay if only such blocks are written
pub lists_stay : (t c : KeptThread) (bs : List ℕ) → IsAccepted t.disk t.pairs → AreUsed t.map (used_blocks t.disk t.pairs) → AllByRecursion (IsPairsOrFree t) bs → ChangesThreadBlocks bs t c → KeepsListBytes t.disk t.pairs c.disk
lists_stay t c bs accepted used each w = lists_from t.disk c.disk t.pairs (λ b some. w.others.others b (apart_files t bs accepted used each b some))

pub all_pairs : (t : KeptThread) → AllByRecursion (IsPairsOrFree t) (pairs_blocks t.pairs)
all_pairs t = each_from_counted (IsPairsOrFree t) (pairs_blocks t.pairs) (λ b some. inl (Contains-occurrence_count (pairs_blocks t.pairs) b some))

-- a pair of a directory is one of the thread
pub behind_below : (ps : List Pair) (first index : ℕ) (pair : Pair) (rest : List Pair) → IsDirectoryPair ps first index pair rest → index < length ps
behind_below ps first index pair rest h =
    let e = ap length h.parts in
    let a = length-append h.front (h.left ++ pair ∷ rest) in
    let b = length-append h.left (pair ∷ rest) in
    let n = h.number in
    omega arith

-- ---- what is carried out

-- The result of an operation by calls that write blocks of pairs and free ones, after calls that only read.
pub record IsWorked (a : KeptThread) (h : List CallEvent) (op : Operation) (c : KeptThread) : Type 0 where
  pub accepted : IsAccepted a.disk a.pairs
  pub used : AreUsed a.map (used_blocks a.disk a.pairs)
  pub writable : IsWritable a.disk a.pairs
  pub settled : pairs_gstate a.pairs ≡ zero_gstate
  pub reads : OnlyReadsSince a.disk.blocks a.history h
  pub ready : IsRecoveredWritableImage c
  pub stay : (b : ℕ) → IsInFlight a.map b → IsInFlight c.map b
  pub none_comes : (b : ℕ) → IsInFlight c.map b → IsInFlight a.map b
  pub completed : (files : OpenFilesByNumber) → CompletesOperation a.disk a.pairs (record { tree = disk_tree a.disk a.pairs; files = files }) op c.disk c.pairs
  pub writes : WritesThreadAndFree (with_history a h) c
  pub no_fault : fault_count c.history ≡ fault_count a.history

pub carried : (a : KeptThread) (h : List CallEvent) (op : Operation) (c : KeptThread) → IsWorked a h op c → renames_itself op ≡ false → is_recover op ≡ false → AppliesBeforeRelocation a op c
carried a h op c w other asks = record { applied = applied; stays = stays }
  where
    wrote : ChangesThreadBlocks w.writes.blocks (with_history a h) c
    wrote = w.writes.writes

    geometry : SameGeometry a.disk c.disk
    geometry = record { block_size = wrote.shape.block_size; page = wrote.shape.page; order = wrote.shape.order; profile = wrote.shape.profile; count = wrote.shape.count }

    calls : List CallEvent
    calls = wrote.at_worst.events ++ w.reads.events

    stays : (files : OpenFilesByNumber) → IsLayoutAfterRecovery a.disk a.pairs (record { tree = disk_tree a.disk a.pairs; files = files }) op c.disk c.pairs
    stays files = arranged_settled a.disk a.pairs (record { tree = disk_tree a.disk a.pairs; files = files }) op c.disk c.pairs w.accepted w.writable w.settled (w.completed files).laid_out

    applied : AppliesOperation a op c
    applied = record {
      works = refl;
      sound = record { accepted = w.ready.accepted; fits = λ e. w.ready.writable; is_kept = λ k. refl; used = w.ready.used; size = w.ready.size };
      writable = refl;
      geometry = geometry;
      calls = calls;
      called = wrote.at_worst.extends ∙ ap (λ z. wrote.at_worst.events ++ z) w.reads.extends ∙ sym (append_assoc wrote.at_worst.events w.reads.events a.history);
      no_fault = w.no_fault;
      fits = w.ready.writable;
      recovered = recovered_from c.disk c.pairs w.ready.accepted w.ready.settled;
      shows = λ around files. (w.completed files).tree around;
      arranged = λ called files. nothing_moves a.disk a.pairs (record { tree = disk_tree a.disk a.pairs; files = files }) op calls c.disk c.pairs geometry w.ready.accepted (stays files);
      itself = λ e. let k = sym other ∙ e in absurd (cc);
      nothing_left = λ e. let k = sym asks ∙ e in absurd (cc);
      flight = record {
        stay = w.stay;
        none_comes = w.none_comes;
        bytes = λ b flies. wrote.others.others b (apart_flying a w.writes.blocks w.used w.writes.each b flies);
        unprogrammed_still = λ b k flies was. wrote.elsewhere.stays b k (apart_flying a w.writes.blocks w.used w.writes.each b flies) (is_unprogrammed_byte-read_count b k w.reads ∙ was);
      };
      keeps = λ path file away.
          let k = keeps_writing (with_history a h) c w.writes.blocks w.accepted w.used w.writes.each wrote path file ((w.completed []).structs path file away (none_stored (disk_tree a.disk a.pairs) op path)) in
          record { file = k.file; struct = k.struct; list = k.list; bytes = k.bytes };
      taken = room_taken a.disk c.disk a.pairs c.pairs (disk_tree a.disk a.pairs) op w.writable geometry (stays []);
      lists = λ none. lists_stay (with_history a h) c w.writes.blocks w.accepted w.used w.writes.each wrote;
    }
