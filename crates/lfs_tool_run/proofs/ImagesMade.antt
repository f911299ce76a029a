-- From a run of a source's operations to the image that it leaves.
use Rattle.std.proofs.Common.{ℕ, ◌≡◌, ◌∙◌, ◌≤◌, ◌+◌, ◌*◌, ◌/◌, ◌%◌, List, length, Option, Some, None, ap, ap₂, arith, false, subst, sym, flat_map}
use Rattle.std.specs.Prelude.{Err, IfErr, IfSome, IsErrAnd, Ok, Result, ◌≢◌}
use Rattle.lfs_device.specs.declared.error.Error.{Error}
use Rattle.lfs_device.specs.declared.error.Error.TheVariants.{NoMemory}
use Rattle.std.proofs.lemmas.Nat.{div-mul-add, mod-mul-add}
use Rattle.lfs_device.specs.DeviceDisk as device
use Rattle.lfs_device.specs.declared.geometry.Geometry.{Geometry}
use Rattle.lfs_tool_run.proofs.Common.{ram_geometry, ram_blocks, ram_bytes, Disk, block_count, disk_with_order, disk_of_image, IsFreshDisk, empty_tree, session_after_all, SystemState, Session, IsSourceTree, TreeSource, Healthy, SessionHealth, is_remount, mounted_session, IsAccepted, Each, fresh_defined, SessionView, system_state, AreSourceEntries, AreApplied, IsFirstRefusal, entry_operations, entries_operations, IsFirstEntriesRefusal}
use Rattle.lfs_device.specs.declared.ram.RamDevice.{RamDevice}
use Rattle.lfs_model.specs.format.Blocks.{cut}
use Rattle.lfs_model.specs.format.Content.{content_at}
use Rattle.lfs_model.specs.format.Disk.{SameGeometry}
use Rattle.lfs_model.specs.format.Geometry.{IsValidGeometry}
use Rattle.lfs_model.specs.session.Headline.{IsRecoveredDisk, HasDiskTree}
use Rattle.lfs_model.specs.session.State.{HasFailed}
use Rattle.lfs_model.specs.declared.order.NameOrder.{NameOrder}
use Rattle.lfs_model.specs.tree.Profile.{IsWritable}
use Rattle.lfs_model.specs.tree.Shown.{disk_tree}
use Rattle.lfs_model.proofs.Counts.{each_always, each_joined}
use Rattle.lfs_model.proofs.Cuts.{length-cut}
use Rattle.lfs_model.proofs.Kept.{fresh_settled, fresh_true}
use Rattle.lfs_model.proofs.Uniqueness.{one_thread}
use Rattle.lfs_tool.specs.declared.entries.SourceEntry.{SourceEntry}
use Rattle.lfs_tool_run.specs.MadeImages.{AreImageBytes, IsFreshSession, IsSourceImage}
use Rattle.lfs_tool_run.proofs.Growing.{carried_tree, tree_after}
use Rattle.lfs_fs.proofs.StepShapes.{steps_keep_order, steps_keep_shape}
use Rattle.lfs_tool_run.proofs.Refusing.{IsFromFresh, anywhere, comes, has_carried, no_remount}

-- ---- the geometry

pub begins : (g : Geometry) (o : NameOrder) (d : RamDevice) (h : SessionView) → ram_geometry d ≡ g → IsFreshDisk h.tree.disk → (system_state h).state ≡ Healthy (mounted_session empty_tree) → SameGeometry (disk_with_order o (device.disk_of_blocks (ram_geometry d) (ram_blocks d))) h.tree.disk
    → IsFreshSession g o (system_state h)
begins g o d h is fresh state same = record {
  fresh = fresh;
  block_size = same.block_size ∙ ap (λ (x : Geometry). x.block_size) is;
  page = same.page ∙ ap (λ (x : Geometry). x.page) is;
  order_is = same.order;
  profile = same.profile ∙ ap (λ (x : Geometry). x.profile) is;
  count = same.count ∙ length-cut (ram_geometry d).block_size (ram_geometry d).block_count (ram_bytes d) ∙ ap (λ (x : Geometry). x.block_count) is;
  mounts = state;
}

count_of : (size count : ℕ) (bytes : List ℕ) → 1 ≤ size → length bytes ≡ size * count → length bytes / size ≡ count
count_of size count bytes some e =
    let turned : length bytes ≡ count * size + 0 = omega (arith, e) in
    ap (λ n. n / size) turned ∙ div-mul-add count size 0 (omega (arith, some))

whole_of : (size count : ℕ) (bytes : List ℕ) → 1 ≤ size → length bytes ≡ size * count → length bytes % size ≡ 0
whole_of size count bytes some e =
    let turned : length bytes ≡ count * size + 0 = omega (arith, e) in
    ap (λ n. n % size) turned ∙ mod-mul-add count size 0 (omega (arith, some))

some_bytes : (g : Geometry) → 1 ≤ g.block_size
some_bytes g = let least : 1024 ≤ g.block_size = g.valid.no_smaller in omega (arith, least)

-- what the run left in the device
pub left : (g : Geometry) (o : NameOrder) (from to : SystemState) (es : List SourceEntry) (d : RamDevice) (bytes : List ℕ) → IsFreshSession g o from → AreApplied from (entries_operations es) to
    → disk_with_order to.disk.order (device.disk_of_blocks (ram_geometry d) (ram_blocks d)) ≡ to.disk
    → bytes ≡ ram_bytes d → AreImageBytes g o es bytes
left g o from to es d bytes b c shown is =
    let same = steps_keep_shape (entries_operations es) c.replies from to c.session_steps in
    let size : (ram_geometry d).block_size ≡ g.block_size = ap (λ (k : Disk). k.block_size) shown ∙ same.block_size ∙ b.block_size in
    let page : (ram_geometry d).page ≡ g.page = ap (λ (k : Disk). k.page) shown ∙ same.page ∙ b.page in
    let none = each_joined (λ op. is_remount op ≡ false) entry_operations es (each_always (λ e. Each (λ op. is_remount op ≡ false) (entry_operations e)) no_remount es) in
    let order : to.disk.order ≡ o = steps_keep_order (entries_operations es) c.replies from to none c.session_steps ∙ b.order_is in
    let profile : (ram_geometry d).profile ≡ g.profile = ap (λ (k : Disk). k.profile) shown ∙ same.profile ∙ b.profile in
    let count : (ram_geometry d).block_count ≡ g.block_count = sym (length-cut (ram_geometry d).block_size (ram_geometry d).block_count (ram_bytes d)) ∙ ap block_count shown ∙ same.count ∙ b.count in
    let len : length bytes ≡ g.block_size * g.block_count = ap length is ∙ d.size ∙ ap₂ (λ x y. x * y) size count in
    let blocks : (ram_geometry d).block_count ≡ length bytes / g.block_size = count ∙ sym (count_of g.block_size g.block_count bytes (some_bytes g) len) in
    record {
      from = from;
      begins = b;
      to = to;
      carried = c;
      len = len;
      disk = sym shown ∙ (λ j. record { block_size = size j; page = page j; order = order j; profile = profile j; blocks = cut (size j) (ram_geometry d).block_count (ram_bytes d) })
          ∙ ap₂ (λ n xs. record { block_size = g.block_size; page = g.page; order = o; profile = g.profile; blocks = cut g.block_size n xs }) blocks (sym is);
    }

-- ---- the image

same_session : (s t : Session) → Healthy s ≡ Healthy t → s ≡ t
same_session s t e = ap or_else e
  where
    or_else : SessionHealth → Session
    or_else HasFailed = s
    or_else (Healthy z) = z

pub made : (g : Geometry) (o : NameOrder) (known : Option TreeSource) (es : List SourceEntry) (bytes : List ℕ) → AreSourceEntries known es → AreImageBytes g o es bytes → IsSourceImage g o known bytes
made g o known es bytes all l = record {
  len = l.len;
  image = record {
    geometry = subst (IsValidGeometry g.block_size g.page) (sym (count_of g.block_size g.block_count bytes (some_bytes g) l.len)) g.valid;
    whole = whole_of g.block_size g.block_count bytes (some_bytes g) l.len;
  };
  pairs = s.pairs;
  accepted = subst (λ k. IsAccepted k s.pairs) l.disk s.accepted;
  writable = subst (λ k. IsWritable k s.pairs) l.disk s.writable;
  gstate = s.recovered.gstate;
  tree = shows known all;
}
  where
    f : IsFromFresh l.from
    f = record { fresh = l.begins.fresh; mounts = l.begins.mounts }

    s : IsRecoveredDisk l.to.disk
    s = fresh_settled (entries_operations es) l.carried.replies l.to (comes l.from l.to (entries_operations es) (record { fresh = l.begins.fresh; mounts = l.begins.mounts }) l.carried)

    t : HasDiskTree l.to
    t = fresh_true (entries_operations es) l.carried.replies l.to (comes l.from l.to (entries_operations es) (record { fresh = l.begins.fresh; mounts = l.begins.mounts }) l.carried)

    after : t.session ≡ session_after_all anywhere (mounted_session empty_tree) (flat_map entry_operations es) l.carried.replies
    after = same_session t.session (session_after_all anywhere (mounted_session empty_tree) (flat_map entry_operations es) l.carried.replies)
        (sym t.healthy ∙ fresh_defined (entries_operations es) l.carried.replies l.to anywhere (comes l.from l.to (entries_operations es) (record { fresh = l.begins.fresh; mounts = l.begins.mounts }) l.carried))

    shows : (k : Option TreeSource) → AreSourceEntries k es → IfSome k (λ src. IsSourceTree src (disk_tree (disk_of_image g.block_size g.page g.profile o bytes) s.pairs))
    shows None a = tt
    shows (Some src) a =
        let whole = carried_tree src es a in
        let one = one_thread (content_at l.to.disk) (block_count l.to.disk) s.pairs t.shows.0 s.accepted.thread t.shows.1.0.thread in
        let tree : disk_tree l.to.disk s.pairs ≡ tree_after es empty_tree =
        ap (disk_tree l.to.disk) one ∙ sym t.shows.1.1 ∙ ap (λ (x : Session). x.tree) after ∙ (has_carried l.from l.to es (record { fresh = l.begins.fresh; mounts = l.begins.mounts }) l.carried).tree whole.new in
        subst (IsSourceTree src) (sym tree ∙ ap (λ k. disk_tree k s.pairs) l.disk) whole.tree

-- ---- what is passed on

pub refused : {X : Type 0} (r : Result X Error) (e : Error) (g : Geometry) (o : NameOrder) (from : SystemState) (es : List SourceEntry) → IsErrAnd r (λ f. f ≡ e) → IsFreshSession g o from → (e ≢ NoMemory → IsFirstRefusal from (entries_operations es) e)
    → IfErr r (λ f. f ≢ NoMemory → IsFirstEntriesRefusal g o es f)
refused (Ok x) e g o from es is b h = tt
refused (Err f) e g o from es is b h = λ other. record { from = from; begins = b; first = subst (IsFirstRefusal from (entries_operations es)) (sym is) (h (λ x. other (is ∙ x))) }

pub passed : (g : Geometry) (o : NameOrder) (es slice : List SourceEntry) (image written : List ℕ) → slice ≡ es → written ≡ image → AreImageBytes g o slice image → AreImageBytes g o es written
passed g o es slice image written same is l = subst (λ xs. AreImageBytes g o es xs) (sym is) (subst (λ xs. AreImageBytes g o xs image) same l)
