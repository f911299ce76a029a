-- A session that only reads its device, and a mount that adopts the image's limits.
use Rattle.std.proofs.Common.{ℕ, ◌≡◌, ◌<◌, ◌∙◌, inl, inr, Bool, true, false, cond, List, ◌++◌, Some, Result, Ok, Err, refl, sym, ap, ap₂, subst, flat_map}
use Rattle.std.specs.Prelude.{All, IfErr, IfOk, OnOk, nat_eq}
use Rattle.std.specs.List.{IsDistinct}
use Rattle.std.proofs.lemmas.List.Elements.{All-weaker}
use Rattle.lfs_fs.proofs.Common.{disk_with_profile, disk_with_order, Disk, block_count, OnlyReadsSince-trans, one_thread, content_at, CallEvent, OnlyReadsSince, fault_count, IsJustMounted, OpenFilesByNumber, SessionHealth, all_unmoved_slots, struct_blocks, used_blocks, Slot, Struct, Inline, Ctz, Branch, Pair, pairs_blocks, IsAccepted, disk_of_device, TreeState, OnlyReadsTree, RuntimeFiles, files_view, HasSessionInvariant, DeviceConforms, ReturnsUnchangedDevice, SessionView, session_view, view_with_files, system_state}
use Rattle.lfs_device.specs.declared.device.BlockDevice.{Ghosts}
use Rattle.lfs_device.specs.declared.error.Error.{Error}
use Rattle.lfs_device.specs.declared.error.Error.TheVariants.{Corrupt}
use Rattle.lfs_model.specs.format.EntryTypes.{SuperblockFields, superblock_fields}
use Rattle.lfs_model.specs.tree.Profile.{are_limits_usable, profile_with_limits, image_superblock_fields}
use Rattle.lfs_model.specs.tree.View.{IsWellFormedList, BeginsWithSuperblock, accepts_version, superblock_chain_pairs}
use Rattle.lfs_model.specs.declared.limits.Profile.{Profile}
use Rattle.lfs_model.specs.declared.order.NameOrder.{NameOrder}
use Rattle.lfs_model.specs.declared.order.NameOrder.TheVariants.{LongerFirst, ShorterFirst}
use Rattle.lfs_tree.specs.TreeState.{ReadsTreeOrFails}
use Rattle.lfs_fs.specs.ImageLimits.{FailedByRead, BeginsWithImageLimits, OnlyReadsSession}
use Rattle.lfs_fs.specs.SessionView.{BeginsByMount}
use Rattle.lfs_fs.proofs.Answered.{asked_ready}

-- ---- a session that is only read

was_read : (t new : TreeState) (files : RuntimeFiles) (now : SessionView) → session_view t files ≡ now → false ≡ t.failed → OnlyReadsTree t new → OnlyReadsSession now (session_view new files)
was_read t new files now is works asked =
    subst (λ h. OnlyReadsSession h (session_view new files)) is (record { works = sym works; tree = asked; files = ap (λ z. files_view z files) asked.same })

pub read_if_ok : {A : Type 0} (t new : TreeState) (files : RuntimeFiles) (now : SessionView) (r : Result A Error) → session_view t files ≡ now → false ≡ t.failed → OnOk r (OnlyReadsTree t new) → OnOk r (OnlyReadsSession now (session_view new files))
read_if_ok t new files now (Ok x) is works asked = was_read t new files now is works asked
read_if_ok t new files now (Err e) is works asked = tt

pub ready_if_read : {A : Type 0} (t new : TreeState) (files : RuntimeFiles) (r : Result A Error) → HasSessionInvariant t files → ReadsTreeOrFails t r new → DeviceConforms new → HasSessionInvariant new files
ready_if_read t new files (Ok x) between reads left = record { ready = asked_ready t new files between.ready reads.asked; reported = λ works. left }
ready_if_read t new files (Err e) between reads left = record { ready = λ works. absurd (let k = sym reads.broken.failed ∙ works in cc); reported = λ works. left }

-- ---- one image, by two profiles of the same versions

module _ (disk : Disk) (from to : Profile) (same : from.versions ≡ to.versions) where
  is_list : (s : Struct) → IsWellFormedList (disk_with_profile from disk) s → IsWellFormedList (disk_with_profile to disk) s
  is_list (Inline bytes) ok = ok
  is_list (Ctz head size) ok = ok
  is_list (Branch at) ok = ok

  files : (s : Struct) → struct_blocks (disk_with_profile from disk) s ≡ struct_blocks (disk_with_profile to disk) s
  files (Inline bytes) = refl
  files (Ctz head size) = refl
  files (Branch at) = refl

  used : (ps : List Pair) → used_blocks (disk_with_profile from disk) ps ≡ used_blocks (disk_with_profile to disk) ps
  used ps = ap (λ (f : Struct → List ℕ). pairs_blocks ps ++ flat_map (λ (s : Slot). f s.struct) (all_unmoved_slots ps)) (λ i s. files s i)

  pub accepted_by : (ps : List Pair) → IsAccepted (disk_with_profile from disk) ps → IsAccepted (disk_with_profile to disk) ps
  accepted_by ps ok =
      let (bytes, (struct, chain)) = ok.superblock in
      record {
        thread = ok.thread;
        first = ok.first;
        named = ok.named;
        root = ok.root;
        superblock = (
          bytes,
          (
            record { len = struct.len; version = subst (λ v. accepts_version v (superblock_fields bytes).version ≡ true) same struct.version; block_size = struct.block_size; block_count = struct.block_count },
            subst (λ v. All (λ (p : Pair). BeginsWithSuperblock v bytes p.content.slots) (superblock_chain_pairs ps)) same chain,
          ),
        );
        slots = ok.slots;
        order = ok.order;
        branches = ok.branches;
        once = ok.once;
        reached = ok.reached;
        move = ok.move;
        lists = All-weaker (λ (s : Slot). IsWellFormedList (disk_with_profile from disk) s.struct) (λ (s : Slot). IsWellFormedList (disk_with_profile to disk) s.struct) (λ s. is_list s.struct) (all_unmoved_slots ps) ok.lists;
        owned_once = subst (IsDistinct nat_eq) (used ps) ok.owned_once;
      }

pub same_versions : (fields : SuperblockFields) (profile : Profile) → (profile_with_limits fields profile).versions ≡ profile.versions
same_versions fields profile = go (are_limits_usable fields)
  where
    limits : Profile
    limits = record profile { name_max = fields.name_max; file_max = fields.file_max; attr_max = fields.attr_max }

    go : (b : Bool) → (cond b limits profile).versions ≡ profile.versions
    go true = refl
    go false = refl

-- if the superblock's limits are the profile's, the profile with these limits is the same
pub same_limits : (fields : SuperblockFields) (profile limits : Profile) → limits ≡ profile_with_limits fields profile → (limits.name_max ≡ profile.name_max) × (limits.file_max ≡ profile.file_max) × (limits.attr_max ≡ profile.attr_max) → limits ≡ profile
same_limits fields profile limits is same =
    is ∙ go (are_limits_usable fields) (sym (ap (λ (k : Profile). k.name_max) is) ∙ same.0) (sym (ap (λ (k : Profile). k.file_max) is) ∙ same.1) (sym (ap (λ (k : Profile). k.attr_max) is) ∙ same.2)
  where
    made : ℕ → ℕ → ℕ → Profile
    made n f a = record profile { name_max = n; file_max = f; attr_max = a }

    go : (b : Bool) → (cond b (made fields.name_max fields.file_max fields.attr_max) profile).name_max ≡ profile.name_max → (cond b (made fields.name_max fields.file_max fields.attr_max) profile).file_max ≡ profile.file_max → (cond b (made fields.name_max fields.file_max fields.attr_max) profile).attr_max ≡ profile.attr_max →
        cond b (made fields.name_max fields.file_max fields.attr_max) profile ≡ profile
    go true n f a = λ i. made (n i) (f i) (a i)
    go false n f a = refl

-- the pairs don't depend on the order of names or the profile
pub same_pairs : (disk : Disk) (order other : NameOrder) (from to : Profile) (ps qs : List Pair) → IsAccepted (disk_with_order order (disk_with_profile from disk)) ps → IsAccepted (disk_with_order other (disk_with_profile to disk)) qs → ps ≡ qs
same_pairs disk order other from to ps qs one two = one_thread (content_at disk) (block_count disk) ps qs one.thread two.thread

-- ---- a mounted session that was only read since then

begun_read : (disk : Disk) (history : List CallEvent) (s new : SessionView) → BeginsByMount disk history s → OnlyReadsSession s new → BeginsByMount disk history new
begun_read disk history s new begun read = record {
  works = ap (λ (t : TreeState). t.failed) read.tree.same ∙ begun.works;
  disk_is = ap (λ (t : TreeState). t.disk) read.tree.same ∙ begun.disk_is;
  accepted = subst (λ (t : TreeState). IsAccepted disk t.pairs) (sym read.tree.same) begun.accepted;
  reads = OnlyReadsSince-trans begun.reads read.tree.reads (ap (λ (d : Disk). d.blocks) begun.disk_is);
  no_fault = read.tree.no_fault ∙ begun.no_fault;
  no_files = read.files ∙ begun.no_files;
}

just_read : (disk : Disk) (s new : SessionView) → IsJustMounted disk (system_state s) → OnlyReadsSession s new → IsJustMounted disk (system_state new)
just_read disk s new just read = record {
  on = ap (λ (t : TreeState). t.disk) read.tree.same ∙ just.on;
  tree = just.tree;
  shows = just.shows;
  healthy = ap (λ t. state_of t new.files) read.tree.same ∙ ap (state_of s.tree) read.files ∙ just.healthy;
}
  where
    state_of : TreeState → OpenFilesByNumber → SessionHealth
    state_of t files = (system_state (view_with_files t files)).state

-- ---- a mount by limits

-- the device was only read, by calls that didn't fail
pub record OnlyReadsDevice {D : Type 0} (g : Ghosts D) (device back : D) : Type 0 where
  pub disk : (order : NameOrder) (limits : Profile) → disk_with_order order (disk_with_profile limits (disk_of_device g back)) ≡ disk_with_order order (disk_with_profile limits (disk_of_device g device))
  pub reads : OnlyReadsSince (g.blocks device) (g.history device) (g.history back)
  pub no_fault : fault_count (g.history back) ≡ fault_count (g.history device)

module _ {D : Type 0} (g : Ghosts D) (device : D) (profile : Profile) (s read : SessionView)
    (begun : BeginsByMount (disk_with_order s.tree.disk.order (disk_with_profile profile (disk_of_device g device))) (g.history device) s) where
  abbrev below : NameOrder → Profile → Disk
  below order limits = disk_with_order order (disk_with_profile limits (disk_of_device g device))

  its_profile : s.tree.disk.profile ≡ profile
  its_profile = ap (λ (d : Disk). d.profile) begun.disk_is

  -- ---- if the image has the profile's limits

  module _ (only : OnlyReadsSession s read) where
    is_below : below s.tree.disk.order profile ≡ below read.tree.disk.order read.tree.disk.profile
    is_below = ap₂ below (sym (ap (λ (t : TreeState). t.disk.order) only.tree.same)) (sym (ap (λ (t : TreeState). t.disk.profile) only.tree.same ∙ its_profile))

    pub begun_at_once : (fields : SuperblockFields) (limits : Profile) → image_superblock_fields s.tree.pairs ≡ Some fields → limits ≡ profile_with_limits fields profile → limits ≡ profile → BeginsWithImageLimits (disk_of_device g device) (g.history device) profile read
    begun_at_once fields limits has limits_is same = record {
      fields = fields;
      superblock = ap (λ (t : TreeState). image_superblock_fields t.pairs) only.tree.same ∙ has;
      limits = ap (λ (t : TreeState). t.disk.profile) only.tree.same ∙ its_profile ∙ sym same ∙ limits_is;
      begun = subst (λ d. BeginsByMount d (g.history device) read) is_below (begun_read (below s.tree.disk.order profile) (g.history device) s read begun only);
    }

    pub just_at_once : IsJustMounted (below s.tree.disk.order profile) (system_state s) → IsJustMounted (below read.tree.disk.order read.tree.disk.profile) (system_state read)
    just_at_once just = subst (λ d. IsJustMounted d (system_state read)) is_below (just_read (below s.tree.disk.order profile) s read just only)

    pub longer_at_once : (s.tree.disk.order ≡ ShorterFirst → (ps : List Pair) → IsAccepted (below LongerFirst profile) ps → ⊥) → read.tree.disk.order ≡ ShorterFirst → (ps : List Pair) → IsAccepted (below LongerFirst read.tree.disk.profile) ps → ⊥
    longer_at_once longer short ps ok =
        longer (sym (ap (λ (t : TreeState). t.disk.order) only.tree.same) ∙ short) ps (subst (λ k. IsAccepted (below LongerFirst k) ps) (ap (λ (t : TreeState). t.disk.profile) only.tree.same ∙ its_profile) ok)

  -- ---- the device of the session

  same_below : (kept : Profile) (back : D) → disk_with_order read.tree.disk.order (disk_with_profile kept (disk_of_device g back)) ≡ read.tree.disk → read.tree.disk ≡ s.tree.disk → (order : NameOrder) (limits : Profile) →
      disk_with_order order (disk_with_profile limits (disk_of_device g back)) ≡ below order limits
  same_below kept back given same order limits = ap (λ (d : Disk). disk_with_order order (disk_with_profile limits d)) (given ∙ same ∙ begun.disk_is)

  read_on : read.tree.disk ≡ s.tree.disk → OnlyReadsSince s.tree.disk.blocks s.tree.history read.tree.history → OnlyReadsSince (g.blocks device) (g.history device) read.tree.history
  read_on same reads = OnlyReadsSince-trans begun.reads reads (ap (λ (d : Disk). d.blocks) begun.disk_is)

  pub given_back : (kept : Profile) (inner back : D) → back ≡ inner → disk_with_order read.tree.disk.order (disk_with_profile kept (disk_of_device g inner)) ≡ read.tree.disk → g.history inner ≡ read.tree.history → OnlyReadsSession s read → OnlyReadsDevice g device back
  given_back kept inner back is disk history only =
      let same = ap (λ (t : TreeState). t.disk) only.tree.same in
      subst (OnlyReadsDevice g device) (sym is) (record {
        disk = same_below kept inner disk same;
        reads = subst (OnlyReadsSince (g.blocks device) (g.history device)) (sym history) (read_on same only.tree.reads);
        no_fault = ap fault_count history ∙ only.tree.no_fault ∙ begun.no_fault;
      })

  -- if its superblock can't be read
  pub failing_back : (kept : Profile) (inner back : D) (e : Error) → back ≡ inner → disk_with_order read.tree.disk.order (disk_with_profile kept (disk_of_device g inner)) ≡ read.tree.disk → g.history inner ≡ read.tree.history → FailedByRead s read e →
      ReturnsUnchangedDevice g device back e
  failing_back kept inner back e is disk history (inl failed) = absurd (let k = sym failed.0 ∙ begun.works in cc)
  failing_back kept inner back e is disk history (inr (works, broken, error)) =
      subst (λ d. ReturnsUnchangedDevice g device d e) (sym is) (record {
        disk = same_below kept inner disk broken.disk;
        reads = subst (OnlyReadsSince (g.blocks device) (g.history device)) (sym history) (read_on broken.disk broken.reads);
        fault = λ io. subst (λ n. n < fault_count (g.history inner)) begun.no_fault (subst (λ h. fault_count s.tree.history < fault_count h) (sym history) (error.fault io));
        no_fault = λ other. ap fault_count history ∙ error.no_fault other ∙ begun.no_fault;
      })

  -- ---- if the image has other limits

  module _ (back : D) (again : OnlyReadsDevice g device back) (limits : Profile) where
    abbrev first : NameOrder → Disk
    first order = disk_with_order order (disk_with_profile limits (disk_of_device g back))

    begun_earlier : (h : SessionView) → BeginsByMount (first h.tree.disk.order) (g.history back) h → BeginsByMount (below h.tree.disk.order limits) (g.history device) h
    begun_earlier h later = record {
      works = later.works;
      disk_is = later.disk_is ∙ again.disk h.tree.disk.order limits;
      accepted = subst (λ d. IsAccepted d h.tree.pairs) (again.disk h.tree.disk.order limits) later.accepted;
      reads = OnlyReadsSince-trans again.reads later.reads (ap (λ (d : Disk). d.blocks) (again.disk h.tree.disk.order limits));
      no_fault = later.no_fault ∙ again.no_fault;
      no_files = later.no_files;
    }

    new_profile : (h : SessionView) → h.tree.disk ≡ first h.tree.disk.order → limits ≡ h.tree.disk.profile
    new_profile h is = sym (ap (λ (d : Disk). d.profile) is)

    begun_again : (fields : SuperblockFields) (h : SessionView) → image_superblock_fields s.tree.pairs ≡ Some fields → limits ≡ profile_with_limits fields profile → BeginsByMount (first h.tree.disk.order) (g.history back) h → BeginsWithImageLimits (disk_of_device g device) (g.history device) profile h
    begun_again fields h has limits_is later =
        let earlier = begun_earlier h later in
        record {
          fields = fields;
          superblock = ap image_superblock_fields (same_pairs (disk_of_device g device) h.tree.disk.order s.tree.disk.order limits profile h.tree.pairs s.tree.pairs earlier.accepted begun.accepted) ∙ has;
          limits = sym (new_profile h later.disk_is) ∙ limits_is;
          begun = subst (λ k. BeginsByMount (below h.tree.disk.order k) (g.history device) h) (new_profile h later.disk_is) earlier;
        }

    pub begun_if_ok : {A : Type 0} (fields : SuperblockFields) (r : Result SessionView A) → image_superblock_fields s.tree.pairs ≡ Some fields → limits ≡ profile_with_limits fields profile → IfOk r (λ h. BeginsByMount (first h.tree.disk.order) (g.history back) h) →
        IfOk r (BeginsWithImageLimits (disk_of_device g device) (g.history device) profile)
    begun_if_ok fields (Ok h) has limits_is later = begun_again fields h has limits_is later
    begun_if_ok fields (Err e) has limits_is later = tt

    pub just_if_ok : {A : Type 0} (r : Result SessionView A) → IfOk r (λ h. BeginsByMount (first h.tree.disk.order) (g.history back) h) → IfOk r (λ h. IsJustMounted (first h.tree.disk.order) (system_state h)) →
        IfOk r (λ h. IsJustMounted (below h.tree.disk.order h.tree.disk.profile) (system_state h))
    just_if_ok (Ok h) later just =
        subst (λ k. IsJustMounted (below h.tree.disk.order k) (system_state h)) (new_profile h later.disk_is)
        (subst (λ d. IsJustMounted d (system_state h)) (again.disk h.tree.disk.order limits) just)
    just_if_ok (Err e) later just = tt

    pub longer_if_ok : {A : Type 0} (r : Result SessionView A) → IfOk r (λ h. BeginsByMount (first h.tree.disk.order) (g.history back) h) → IfOk r (λ h. h.tree.disk.order ≡ ShorterFirst → (ps : List Pair) → IsAccepted (first LongerFirst) ps → ⊥) →
        IfOk r (λ h. h.tree.disk.order ≡ ShorterFirst → (ps : List Pair) → IsAccepted (below LongerFirst h.tree.disk.profile) ps → ⊥)
    longer_if_ok (Ok h) later longer = λ short ps ok.
        longer short ps (subst (λ d. IsAccepted d ps) (sym (again.disk LongerFirst limits)) (subst (λ k. IsAccepted (below LongerFirst k) ps) (sym (new_profile h later.disk_is)) ok))
    longer_if_ok (Err e) later longer = tt

    pub corrupt_if_err : {A : Type 0} (fields : SuperblockFields) (r : Result A (D × Error)) → limits ≡ profile_with_limits fields profile → IfErr r (λ e. e.1 ≡ Corrupt → (order : NameOrder) (ps : List Pair) → IsAccepted (first order) ps → ⊥) →
        IfErr r (λ e. e.1 ≡ Corrupt → (order : NameOrder) (ps : List Pair) → IsAccepted (below order profile) ps → ⊥)
    corrupt_if_err fields (Ok x) limits_is corrupt = tt
    corrupt_if_err fields (Err e) limits_is corrupt = λ is order ps ok.
        corrupt is order ps (subst (λ d. IsAccepted d ps) (sym (again.disk order limits))
        (accepted_by (disk_with_order order (disk_of_device g device)) profile limits (sym (ap (λ (k : Profile). k.versions) limits_is ∙ same_versions fields profile)) ps ok))

    back_again : (end : D) (e : Error) → ReturnsUnchangedDevice g back end e → ReturnsUnchangedDevice g device end e
    back_again end e given = record {
      disk = λ order k. given.disk order k ∙ again.disk order k;
      reads = OnlyReadsSince-trans again.reads given.reads (ap (λ (d : Disk). d.blocks) (again.disk LongerFirst limits));
      fault = λ io. subst (λ n. n < fault_count (g.history end)) again.no_fault (given.fault io);
      no_fault = λ other. given.no_fault other ∙ again.no_fault;
    }

    pub back_if_err : {A : Type 0} (r : Result A (D × Error)) → IfErr r (λ e. ReturnsUnchangedDevice g back e.0 e.1) → IfErr r (λ e. ReturnsUnchangedDevice g device e.0 e.1)
    back_if_err (Ok x) given = tt
    back_if_err (Err e) given = back_again e.0 e.1 given
