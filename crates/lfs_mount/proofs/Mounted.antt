-- A thread that was read and checked, and put together again.
use Rattle.std.proofs.Common.{ℕ, ◌≡◌, ◌++◌, List, [], ◌∷◌, ap₂, length, Err, refl, sym, ap, subst, ◌∙◌, arith, false}
use Rattle.std.specs.Prelude.{Contains}
use Rattle.lfs_device.specs.declared.device.BlockDevice.{Ghosts}
use Rattle.lfs_device.specs.declared.error.Error.TheVariants.{Io}
use Rattle.lfs_mount.proofs.Common.{ReadsOnly, disk_of_blocks, AreInFlight, AreUsed, BlockStates, content_at, Disk, block_count, CallEvent, OnlyReadsSince, fault_count, Gstate, IsThread, Pair, pairs_blocks, pairs_gstate, IsAccepted, struct_blocks, all_unmoved_slots, used_blocks, Contains-occurrence_count, count_here, OnlyReadsSince-trans, GivesDeviceBack, PairHeader, IsKeptOnDisk, KeptThread, ThreadView, disk_of_device, header_pairs, ReadsReportingFaults, error_of_mount, MapUsesBlocks, IsThreadRead, flat_map}
use Rattle.lfs_model.proofs.BlockSets.{Contains-tail}
use Rattle.lfs_thread.specs.Kept.{AllBlocksUsed, WasKeptOnDisk, kept_view}
use Rattle.lfs_thread.specs.declared.mount_error.MountError.{MountError}
use Rattle.lfs_thread.specs.declared.mount_error.MountError.TheVariants as mount
use Rattle.lfs_mount.specs.Accepted.{IsMountedUnwritten}
use Rattle.lfs_mount.proofs.Called.{err_same}

-- ---- before the check

pub read_is : (old disk : Disk) (n : ℕ) (history : List CallEvent) (hs items : List PairHeader) (sets : BlockStates) (g : Gstate) (t : KeptThread) → kept_view disk history items sets ≡ t → hs ≡ items → t.disk ≡ old → block_count old ≡ n
    → IsKeptOnDisk disk history items sets → IsThread (content_at old) n t.pairs → AreUsed t.map (pairs_blocks t.pairs) → AreInFlight t.map [] → g ≡ pairs_gstate t.pairs → IsThreadRead disk history hs sets g
read_is old disk n history hs items sets g t same is from size kept thread used none global =
    subst (λ (xs : List PairHeader). IsThreadRead disk history xs sets g) (sym is)
    (record {
      kept = kept;
      thread = subst (λ (d : Disk). IsThread (content_at d) (block_count d) (header_pairs disk items)) (sym here)
          (subst (λ (m : ℕ). IsThread (content_at old) m (header_pairs disk items)) (sym size) (subst (λ (k : KeptThread). IsThread (content_at old) n k.pairs) (sym same) thread));
      used = subst (λ (k : KeptThread). AreUsed k.map (pairs_blocks k.pairs)) (sym same) used;
      none_in_flight = subst (λ (k : KeptThread). AreInFlight k.map []) (sym same) none;
      global = global ∙ ap (λ (k : KeptThread). pairs_gstate k.pairs) (sym same);
    })
  where
    here : disk ≡ old
    here = ap (λ (k : KeptThread). k.disk) same ∙ from

-- ---- behind it

all_used : (sets : BlockStates) (bs more : List ℕ) → ((b : ℕ) → Contains (bs ++ more) b → AllBlocksUsed sets (b ∷ [])) → AllBlocksUsed sets bs
all_used sets [] more f = tt
all_used sets (b ∷ bs) more f = (
  (f b (Contains-occurrence_count (b ∷ (bs ++ more)) b (let h = count_here b (bs ++ more) in omega arith))).0,
  all_used sets bs more (λ x has. f x (Contains-tail b x (bs ++ more) has)),
)

pub kept_again : (disk now : Disk) (history later : List CallEvent) (items hs : List PairHeader) (sets new : BlockStates) → now ≡ disk → hs ≡ items → OnlyReadsSince disk.blocks history later → IsKeptOnDisk disk history items sets
    → MapUsesBlocks sets new (used_blocks disk (header_pairs disk hs)) → WasKeptOnDisk now later items new
kept_again disk now history later items hs sets new same is reads kept marked =
    subst (λ (d : Disk). WasKeptOnDisk d later items new) (sym same) (record {
      before = history;
      since = reads;
      each = kept.each;
      links = kept.links;
      distinct = kept.distinct;
      size = marked.len ∙ kept.size;
      used = all_used new (pairs_blocks (header_pairs disk items)) (flat_map (λ s. struct_blocks disk s.struct) (all_unmoved_slots (header_pairs disk items)))
          (λ b has. ((marked.used b).1 (subst (λ (xs : List PairHeader). Contains (used_blocks disk (header_pairs disk xs)) b) (sym is) has), tt));
    })

pub is_mounted : (old disk now : Disk) (first history later : List CallEvent) (items hs : List PairHeader) (sets new : BlockStates) (t : ThreadView) → disk ≡ old → now ≡ disk → hs ≡ items
    → OnlyReadsSince old.blocks first history → OnlyReadsSince disk.blocks history later → IsAccepted disk (header_pairs disk hs) → MapUsesBlocks sets new (used_blocks disk (header_pairs disk hs)) → length sets ≡ block_count disk → fault_count later ≡ fault_count first → t.failed ≡ false → t.kept ≡ kept_view now later items new → IsMountedUnwritten old first t
is_mounted old disk now first history later items hs sets new t from same is before after accepted marked size none works kept = record {
  works = works;
  disk_is = ap (λ (k : KeptThread). k.disk) kept ∙ same ∙ from;
  reads = subst (OnlyReadsSince old.blocks first) (sym (ap (λ (k : KeptThread). k.history) kept)) (OnlyReadsSince-trans before after (ap (λ (d : Disk). d.blocks) from));
  accepted = subst (IsAccepted old) (sym pairs) (subst (λ (d : Disk). IsAccepted d (header_pairs disk hs)) from accepted);
  used = subst (λ (s : BlockStates). AreUsed s (used_blocks old t.kept.pairs)) (sym map_is) (subst (λ (ps : List Pair). AreUsed new (used_blocks old ps)) (sym pairs) (subst (λ (d : Disk). AreUsed new (used_blocks d (header_pairs disk hs))) from marked.used));
  none_in_flight = subst (λ (s : BlockStates). AreInFlight s []) (sym map_is) marked.none_in_flight;
  size = ap (λ (s : BlockStates). length s) map_is ∙ marked.len ∙ size ∙ ap block_count from;
  no_fault = ap (λ (k : KeptThread). fault_count k.history) kept ∙ none;
}
  where
    pairs : t.kept.pairs ≡ header_pairs disk hs
    pairs = ap (λ (k : KeptThread). k.pairs) kept ∙ ap (λ (d : Disk). header_pairs d items) same ∙ ap (header_pairs disk) (sym is)

    map_is : t.kept.map ≡ new
    map_is = ap (λ (k : KeptThread). k.map) kept

-- ---- after an error

pub disk_now : {D : Type 0} {g : Ghosts D} {old new : D} → ReadsOnly g old new → disk_of_device g new ≡ disk_of_device g old
disk_now read = ap₂ disk_of_blocks read.geometry read.same

io_same : (e : MountError) → error_of_mount e ≡ Io → e ≡ mount.Io
io_same (mount.Corrupt violation) is = absurd (cc)
io_same mount.Io is = refl
io_same mount.NoMemory is = absurd (cc)

pub given_back : {D X : Type 0} (g : Ghosts D) (old mid back : D) (error : MountError) → disk_of_device g mid ≡ disk_of_device g old → OnlyReadsSince (g.blocks old) (g.history old) (g.history mid) → fault_count (g.history mid) ≡ fault_count (g.history old)
    → ReadsReportingFaults {X = X} g mid back (Err error) → GivesDeviceBack g old back (error_of_mount error)
given_back {X = X} g old mid back error same before none reports = record {
  disk = disk_now reports.device ∙ same;
  reads = OnlyReadsSince-trans before reports.device.reads (ap (λ (d : Disk). d.blocks) same);
  fault = λ io. let rose = reports.fault (ap Err (io_same error io)) in omega (arith, none, rose);
  no_fault = λ other. reports.no_fault (λ io. other (ap error_of_mount (err_same {Y = X} io))) ∙ none;
}
