-- A writer's contents, written to blocks that the image doesn't use.
use Rattle.std.proofs.Common.{ℕ, ◌≡◌, ◌<◌, ◌≤◌, ◌+◌, ◌/◌, ◌∙◌, Bool, true, false, List, length, min, Option, Some, None, Result, Ok, Err, inl, refl, sym, ap, subst, arith}
use Rattle.lfs_tree.proofs.Common.{min-le_right, is_file, AreUsed, used_count, SameGeometry, disk_block, block_count, inline_limit, DiskSummary, slot_of_path, Slot, Pair, pairs_gstate, count_before_root, Path, Tree, IsAccepted, IsWritable, disk_tree, used_blocks, Blocks, CachedBlocks, HasEitherTree, SurvivesLossSince, with_blocks, IsChangedImage, HoldsAtLosses-weaker, HoldsAtLosses-worst, SameFileBlocks, file_blocks_same, AreContentsOnDisk, CanTruncate, CanWriteToContents, HaveContentsForm, KeepsPairs, ThreadReportsFaults, contents_list_blocks, KeptThread, ThreadView, IsSoundUnlessFailed, IsSoundWithRoot, uncached_state, thread_state, CanTruncateIn, CanWriteIn, AreThreadContents, slot_blocks, writer_contents_bytes, list_blocks_at, IsFailedTree, HasErrorCause, IsSoundState, TreeState, contents_bytes, contents_form, ContentsForm, AreUsedAmong}
use Rattle.std.specs.Prelude.{Contains, IfErr, IfOk, OnErr, OnOk}
use Rattle.lfs_device.specs.declared.error.Error.{Error}
use Rattle.lfs_device.specs.declared.error.Error.TheVariants.{Io}
use Rattle.lfs_model.specs.declared.limits.Profile.{Profile}
use Rattle.lfs_file.specs.Hand.{KeepsUsedBytes}
use Rattle.lfs_tree.specs.OpenContents.{WritesUnusedOrFails, KeepsImage}
use Rattle.lfs_tree.proofs.BesideImage.{files_still, geometry_back, still_follows, used_still, writable_on}
use Rattle.lfs_tree.proofs.SameErrors.{same_error}
use Rattle.lfs_tree.proofs.Asking.{behind}
use Rattle.lfs_tree.proofs.SlotsHave.{slot_has}
use Rattle.lfs_tree.proofs.UsedBlocks.{count_is}
use Rattle.lfs_file.specs.Contents.{truncation_room, write_room}
use Rattle.lfs_file.specs.declared.contents.WriterContents.{WriterContents}
use Rattle.lfs_file.proofs.Used.{used_back}

-- the bytes and the form of contents on a thread's device
pub bytes_of_held : (t : KeptThread) (c : WriterContents) (bytes : List ℕ) (shape : ContentsForm) → HaveContentsForm t c bytes shape → writer_contents_bytes t c ≡ bytes
bytes_of_held t c bytes shape h = ap (λ (n : ℕ). contents_bytes t.disk.blocks n c) (sym h.divided.block_size) ∙ h.has.has

pub geometry_beside : (a b : KeptThread) → KeepsPairs a b → SameGeometry a.disk b.disk
geometry_beside a b l = record { block_size = l.shape.block_size; page = l.shape.page; order = l.shape.order; profile = l.shape.profile; count = l.shape.count }

module _ (a b : KeptThread) (leaves : KeepsPairs a b) (accepted : IsAccepted a.disk a.pairs) (used : AreUsed a.map (used_blocks a.disk a.pairs)) where
  used_same : (x : ℕ) → Contains (used_blocks a.disk a.pairs) x → disk_block b.disk x ≡ disk_block a.disk x
  used_same x has = leaves.spared.same x ((used x).1 has)

  follows : IsChangedImage a.disk a.pairs b.disk a.pairs (λ t. t) (λ d. d)
  follows = still_follows a.disk b.disk a.pairs accepted (geometry_beside a b leaves) used_same

  pub accepted_beside : IsAccepted b.disk b.pairs
  accepted_beside = subst (IsAccepted b.disk) (sym leaves.pairs) follows.accepted

  pub tree_beside : disk_tree b.disk b.pairs ≡ disk_tree a.disk a.pairs
  tree_beside = ap (disk_tree b.disk) leaves.pairs ∙ follows.shows

  pub used_blocks_beside : used_blocks b.disk b.pairs ≡ used_blocks a.disk a.pairs
  used_blocks_beside = ap (used_blocks b.disk) leaves.pairs ∙ used_still a.disk b.disk a.pairs accepted (geometry_beside a b leaves) used_same

  pub are_used_beside : AreUsed b.map (used_blocks b.disk b.pairs)
  are_used_beside = subst (AreUsed b.map) (sym used_blocks_beside) (λ x. ((λ u. (used x).0 (used_back leaves.map x u)), (λ has. leaves.map.stays x ((used x).1 has))))

  -- the file at a path has its list in the same blocks
  pub list_beside : (path : Path) → list_blocks_at b path ≡ list_blocks_at a path
  list_beside path = ap (λ (ps : List Pair). slot_blocks b.disk (slot_of_path ps path)) leaves.pairs ∙ go (slot_of_path a.pairs path) refl
    where
      go : (o : Option Slot) → slot_of_path a.pairs path ≡ o → slot_blocks b.disk o ≡ slot_blocks a.disk o
      go None e = refl
      go (Some s) e = file_blocks_same a.disk b.disk s.struct (geometry_beside a b leaves)
          (slot_has (λ (x : Slot). SameFileBlocks a.disk b.disk x.struct) a.disk a.pairs accepted (files_still a.disk b.disk a.pairs accepted (geometry_beside a b leaves) used_same) tt path s e)

  -- what a call makes of contents is over the same file
  pub over_beside : (path : Path) (contents c : WriterContents) (bytes : List ℕ) (shape : ContentsForm) → AreThreadContents a path contents → HaveContentsForm b c bytes shape → AreUsedAmong b.map (contents_list_blocks a contents) (contents_list_blocks b c) → AreThreadContents b path c
  over_beside path contents c bytes shape over holds owned = record {
    file = ap (λ (t : Tree). is_file (t path)) tree_beside ∙ over.file;
    stands = record { geometry = holds.geometry; divided = holds.divided; stands = holds.has.stands };
    owned = record {
      each = λ x has is. subst (λ (bs : List ℕ). Contains bs x) (sym (list_beside path)) (over.owned.each x (owned.each x has is) (used_back leaves.map x is));
    };
  }

sound_beside : (a b : KeptThread) (writable : Bool) → KeepsPairs a b → IsSoundState (uncached_state a writable false) → IsSoundState (uncached_state b writable false)
sound_beside a b writable leaves s = record {
  accepted = accepted_beside a b leaves s.accepted s.used;
  fits = λ e. subst (IsWritable b.disk) (sym leaves.pairs) (writable_on a.disk b.disk a.pairs (geometry_beside a b leaves) (s.fits e));
  is_kept = λ w. s.is_kept (subst (IsWritable a.disk) leaves.pairs (writable_on b.disk a.disk b.pairs (geometry_back a.disk b.disk (geometry_beside a b leaves)) w));
  used = are_used_beside a b leaves s.accepted s.used;
  size = leaves.map.count ∙ s.size ∙ sym leaves.shape.count;
}

around_is : (writable : Bool) (profile profile_now : Profile) (block_size page count block_size_now page_now count_now : ℕ) (used used_now : List ℕ) (ps qs : List Pair) → profile_now ≡ profile → block_size_now ≡ block_size → page_now ≡ page → count_now ≡ count → used_now ≡ used → qs ≡ ps
    → (let x : DiskSummary = record { writable = writable; profile = profile_now; block_size = block_size_now; page = page_now; block_count = count_now; used = used_now; gstate = pairs_gstate qs } in x)
    ≡ record { writable = writable; profile = profile; block_size = block_size; page = page; block_count = count; used = used; gstate = pairs_gstate ps }
around_is writable profile profile_now block_size page count block_size_now page_now count_now used used_now ps qs f b p c u q = λ i. record { writable = writable; profile = f i; block_size = b i; page = p i; block_count = c i; used = u i; gstate = pairs_gstate (q i) }

-- a disk of which no used block changed
pub left_beside : (t : KeptThread) (blocks : Blocks) {after : Tree} → IsAccepted t.disk t.pairs → IsWritable t.disk t.pairs → AreUsed t.map (used_blocks t.disk t.pairs) → KeepsUsedBytes t.map t.disk.blocks blocks
    → HasEitherTree (with_blocks blocks t.disk) (disk_tree t.disk t.pairs) after
left_beside t blocks accepted fits used spared =
    let same : SameGeometry t.disk (with_blocks blocks t.disk) = record { block_size = refl; page = refl; order = refl; profile = refl; count = spared.count } in
    let f = still_follows t.disk (with_blocks blocks t.disk) t.pairs accepted same (λ x has. spared.same x ((used x).1 has)) in
    record { pairs = t.pairs; accepted = f.accepted; writable = writable_on t.disk (with_blocks blocks t.disk) t.pairs same fits; tree = inl f.shows }

-- the calls of a tree
module _ (a b : ThreadView) (root : ℕ) (writable : Bool) (h : IsSoundWithRoot a root writable) (still : b.failed ≡ false) (leaves : KeepsPairs a.kept b.kept) where
  abbrev sound : IsSoundState (uncached_state a.kept writable false)
  sound = h.sound

  pub rooted_beside : IsSoundWithRoot b root writable
  rooted_beside = record { works = still; sound = sound_beside a.kept b.kept writable leaves sound; root_is = h.root_is ∙ ap count_before_root (sym leaves.pairs) }

  written_beside : (r : Result WriterContents Error) → ThreadReportsFaults a.kept b.kept r → OnOk r (KeepsImage (thread_state a writable) (thread_state (behind b r) writable))
  written_beside (Err e) t = tt
  written_beside (Ok c) t =
      let s = sound_beside a.kept b.kept writable leaves sound in
      record {
        works = still;
        sound = record { accepted = s.accepted; fits = s.fits; is_kept = s.is_kept; used = s.used; size = s.size };
        writable = refl;
        pairs = leaves.pairs;
        shows = tree_beside a.kept b.kept leaves sound.accepted sound.used;
        around = around_is writable _ _ _ _ _ _ _ _ _ _ a.kept.pairs b.kept.pairs leaves.shape.profile leaves.shape.block_size leaves.shape.page leaves.shape.count (used_blocks_beside a.kept b.kept leaves sound.accepted sound.used) leaves.pairs;
        stay = used_same a.kept b.kept leaves sound.accepted sound.used;
        lists = list_beside a.kept b.kept leaves sound.accepted sound.used;
        geometry = geometry_beside a.kept b.kept leaves;
        calls = leaves.at_worst.events;
        called = leaves.at_worst.extends;
        no_fault = t.no_fault (λ e. absurd (cc));
      }

  broken_beside : (r : Result WriterContents Error) → OnErr r (IsFailedTree (thread_state a writable) (thread_state (behind b r) writable))
  broken_beside (Ok c) = tt
  broken_beside (Err e) = record { failed = refl; geometry = geometry_beside a.kept b.kept leaves; calls = leaves.at_worst.events; called = leaves.at_worst.extends }

  reported_beside : (r : Result WriterContents Error) → ThreadReportsFaults a.kept b.kept r → IfErr r (HasErrorCause (thread_state a writable) (thread_state (behind b r) writable))
  reported_beside (Ok c) t = tt
  reported_beside (Err e) t = record {
    errors = t.errors;
    fault = λ io. t.fault (ap Err io);
    no_fault = λ other. t.no_fault (λ z. other (same_error e Io z));
  }

  -- a power loss on the way leaves the image as it was
  survives_beside : writable ≡ true → SurvivesLossSince a.kept.disk a.kept.history b.kept.history (disk_tree a.kept.disk a.kept.pairs) (disk_tree a.kept.disk a.kept.pairs)
  survives_beside may clean = HoldsAtLosses-weaker (λ blocks spared. left_beside a.kept blocks sound.accepted (sound.fits may) sound.used spared) (HoldsAtLosses-worst leaves.at_worst)

  pub writing : (now : TreeState) (r : Result WriterContents Error) (c : ThreadView) → thread_state a writable ≡ now → c ≡ behind b r → ThreadReportsFaults a.kept b.kept r → WritesUnusedOrFails now r (thread_state c writable)
  writing now r c view is t =
      subst (λ (s : TreeState). WritesUnusedOrFails s r (thread_state c writable)) view
      (subst (λ (t : ThreadView). WritesUnusedOrFails (thread_state a writable) r (thread_state t writable)) (sym is)
      (record { beside = written_beside r t; broken = broken_beside r; errors = reported_beside r t; survives = survives_beside }))

  -- and the thread is still that of the image
  pub held_beside : (r : Result WriterContents Error) (c : ThreadView) → c ≡ behind b r → IsSoundUnlessFailed c root writable
  held_beside r c is = subst (λ (t : ThreadView). IsSoundUnlessFailed t root writable) (sym is) (go r)
    where
      go : (r : Result WriterContents Error) → IsSoundUnlessFailed (behind b r) root writable
      go (Err e) f = absurd (cc)
      go (Ok x) f = rooted_beside

  pub all_over : (path : Path) (contents : WriterContents) (bytes : List ℕ) (shape : ContentsForm) (r : Result WriterContents Error) → AreThreadContents a.kept path contents → IfOk r (λ c. HaveContentsForm b.kept c bytes shape)
      → IfOk r (λ c. AreUsedAmong b.kept.map (contents_list_blocks a.kept contents) (contents_list_blocks b.kept c)) → IfOk r (AreThreadContents b.kept path)
  all_over path contents bytes shape (Err e) over holds owned = tt
  all_over path contents bytes shape (Ok c) over holds owned = over_beside a.kept b.kept leaves sound.accepted sound.used path contents c bytes shape over holds owned

-- ---- what is asked for, on the thread

limit_short : (t : KeptThread) (contents : WriterContents) → AreContentsOnDisk t contents → inline_limit t.disk.profile t.disk.block_size < t.disk.block_size
limit_short t contents stands =
    let size : stands.geometry.block_size ≡ t.disk.block_size = stands.divided.block_size in
    let large = stands.geometry.valid.no_smaller in
    let m = min-le_right t.disk.profile.inline_max (min (t.disk.block_size / 8) 1022) in
    let n = min-le_right (t.disk.block_size / 8) 1022 in
    omega arith

module _ (t : KeptThread) (writable : Bool) (sound : IsSoundState (uncached_state t writable false)) where
  room_is : (need : ℕ) → length (used_blocks t.disk t.pairs) + need ≤ block_count t.disk → used_count t.map + need ≤ length t.map
  room_is need room = let e = count_is (uncached_state t writable false) sound in let s = sound.size in omega arith

  pub can_write : {cache : CachedBlocks} (failed : Bool) (contents : WriterContents) (place count : ℕ) → CanWriteIn (record (uncached_state t writable failed) { cache = cache }) contents place count → CanWriteToContents t contents place count
  can_write failed contents place count can = record {
    stands = can.stands;
    fits = record {
      large = can.large;
      short = limit_short t contents can.stands;
      some = can.some;
      small = can.small;
      room = λ past. room_is (write_room t.disk.block_size place count (contents_form contents)) (can.room past);
    };
  }

  pub can_truncate : {cache : CachedBlocks} (failed : Bool) (contents : WriterContents) (size : ℕ) → CanTruncateIn (record (uncached_state t writable failed) { cache = cache }) contents size → CanTruncate t contents size
  can_truncate failed contents size can = record {
    stands = can.stands;
    fits = record {
      large = can.large;
      short = limit_short t contents can.stands;
      small = can.small;
      room = λ needs. room_is (truncation_room t.disk.block_size size (contents_form contents)) (can.room needs);
    };
  }
