-- What a loss of power in an operation leaves, and what a mount and a recovery make of it.
use Rattle.std.proofs.Common.{◌≡◌, ◌⊎◌, inl, inr, ℕ, Bool, true, false, cond, not, List, [], ◌∷◌, ◌++◌, Option, Some, refl, sym, ap, ap₂, subst, ◌∙◌, append_assoc}
use Rattle.std.specs.Prelude.{Any}
use Rattle.lfs_model.proofs.Common.{same_Some, append_cancel_right, Blocks, Disk, SameGeometry, block_count, disk_with_order, content_at, Pair, pairs_gstate, Tree, IsAccepted, IsWritable, IsWritableDisk, disk_tree, used_blocks, Operation, Reply, Session, DiskSummary, refuse_if, operation_result, unless_refused, SessionHealth, Healthy, nonremount_result, mounted_session, IsRecovered, SystemState, ShowsTree, HealthyHasDiskTree, is_refusal, IsTreeStep, HasDiskTree, LeftByLoss, ErasesCleanly, HasEitherTree, with_blocks, IsHealthySession, SurvivesPowerLoss, IsJustMounted, KeepsTree, CallEvent, AllCalls, AllCallsSince, HoldsAtLosses}
use Rattle.lfs_model.specs.declared.order.NameOrder.{NameOrder}
use Rattle.lfs_model.specs.declared.limits.Profile.{Profile}
use Rattle.lfs_model.specs.session.Operations as ops
use Rattle.lfs_model.specs.session.Operations.{ReadOnly}
use Rattle.lfs_model.specs.crash.RepeatedPowerLoss.{SameBytes, RecoversTree, LeftInCall, LeftBetween}
use Rattle.lfs_model.proofs.AfterStops.{left_before}
use Rattle.lfs_model.proofs.Sites.{HoldsForSome, among_from, any_from, among_parts}
use Rattle.lfs_model.proofs.Uniqueness.{one_thread}
use Rattle.lfs_model.proofs.Kept.{mount_begins, one_tree}

-- ---- a recovery

pub record IsRecoveredFrom (disk : Disk) (ps : List Pair) (reply : Reply) (new : Disk) : Type 0 where
  pub done : reply ≡ ops.Done
  pub pairs : List Pair
  pub accepted : IsAccepted new pairs
  pub writable : IsWritable new pairs
  pub recovered : IsRecovered pairs
  pub tree : disk_tree new pairs ≡ disk_tree disk ps

-- the session that a mount of the disk begins, and a recover in it
pub recover_keeps : (from to : SystemState) (reply : Reply) (ps : List Pair) → IsAccepted from.disk ps → IsWritable from.disk ps → from.state ≡ Healthy (mounted_session (disk_tree from.disk ps)) →
    IsTreeStep from ops.Recover reply to → IsRecoveredFrom from.disk ps reply to.disk
recover_keeps from to reply ps ok fits state turn =
    let a = turn.answered in
    let s = a.surrounds (mounted_session (disk_tree from.disk ps)) state in
    let same = one_thread (content_at from.disk) (block_count from.disk) ps s.0 ok.thread s.1.0.thread in
    let writes = s.1.1.writable.1 (subst (IsWritable from.disk) same fits) in
    let answer = sym (ap (λ state. nonremount_result a.around state ops.Recover) state) ∙ a.answers in
    let e = allowed a.around writes ∙ answer in
    let done : reply ≡ ops.Done = sym (same_Some ops.Done reply (ap (λ (z : Option Reply × SessionHealth). z.0) e)) in
    let shown = subst (HealthyHasDiskTree to.disk) (sym (ap (λ (z : Option Reply × SessionHealth). z.1) e)) turn.agrees in
    let carried = turn.effect_on_disk (ap is_refusal done) (mounted_session (disk_tree from.disk ps)) state ps shown.0 ok shown.1.0 in
    record {
      done = done;
      pairs = shown.0;
      accepted = shown.1.0;
      writable = carried.profile fits;
      recovered = carried.recovered refl;
      tree = sym shown.1.1;
    }
  where
    allowed : (around : DiskSummary) → around.writable ≡ true →
        (Some ops.Done, Healthy (mounted_session (disk_tree from.disk ps))) ≡ nonremount_result around (Healthy (mounted_session (disk_tree from.disk ps))) ops.Recover
    allowed around e = ap (λ b. (
      Some (unless_refused (refuse_if (not b) ReadOnly) (mounted_session (disk_tree from.disk ps)) (ops.Done, mounted_session (disk_tree from.disk ps))).0,
      Healthy (unless_refused (refuse_if (not b) ReadOnly) (mounted_session (disk_tree from.disk ps)) (ops.Done, mounted_session (disk_tree from.disk ps))).1,
    )) (sym e)

-- ---- a mount, in either order of names

writable_too : (disk : Disk) (other : Disk) (ps : List Pair) → SameBytes disk other → IsWritable disk ps → IsWritable other ps
writable_too disk other ps same w = subst (λ d. IsWritable d ps) (sym same) (record { pairs = w.pairs; slots = w.slots; no_empty_pair = w.no_empty_pair })

same_thread : (disk other : Disk) (ps qs : List Pair) → SameBytes disk other → IsAccepted disk ps → IsAccepted other qs → ps ≡ qs
same_thread disk other ps qs same a b = one_thread (content_at disk) (block_count disk) ps qs a.thread (subst (λ d. IsAccepted d qs) same b).thread

-- the pairs that a mount finds, and the tree
record IsFound (disk : Disk) (ps : List Pair) (begin : SystemState) : Type 0 where
  accepted : IsAccepted begin.disk ps
  writable : IsWritable begin.disk ps
  tree : disk_tree begin.disk ps ≡ disk_tree disk ps
  state : begin.state ≡ Healthy (mounted_session (disk_tree disk ps))

found : (disk other : Disk) (ps : List Pair) (begin : SystemState) → IsAccepted disk ps → IsWritable disk ps → SameBytes disk other → IsJustMounted other begin → IsFound disk ps begin
found disk other ps begin ok fits same m =
    let s = m.shows in
    let pairs = same_thread disk other ps s.0 same ok s.1.0 in
    let is = m.on ∙ same in
    let tree : disk_tree other ps ≡ disk_tree disk ps = ap (λ d. disk_tree d ps) same in
    record {
      accepted = subst (λ d. IsAccepted d ps) (sym m.on) (subst (IsAccepted other) (sym pairs) s.1.0);
      writable = subst (λ d. IsWritable d ps) (sym m.on) (writable_too disk other ps same fits);
      tree = ap (λ d. disk_tree d ps) is;
      state = m.healthy ∙ ap (λ t. Healthy (mounted_session t)) (s.1.1 ∙ ap (disk_tree other) (sym pairs) ∙ tree);
    }

restored : (disk : Disk) (ps : List Pair) (begin to : SystemState) (reply : Reply) → IsFound disk ps begin → IsTreeStep begin ops.Recover reply to → RecoversTree (disk_tree disk ps) reply to.disk
restored disk ps begin to reply f turn =
    let r = recover_keeps begin to reply ps f.accepted f.writable (f.state ∙ ap (λ t. Healthy (mounted_session t)) (sym f.tree)) turn in
    record { done = r.done; pairs = r.pairs; accepted = r.accepted; writable = r.writable; recovered = r.recovered; kept = r.tree ∙ f.tree }

pub safe_with : (disk : Disk) (ps : List Pair) → IsAccepted disk ps → IsWritable disk ps → KeepsTree (disk_tree disk ps) disk
safe_with disk ps ok fits = record {
  pairs = ps;
  accepted = ok;
  writable = fits;
  shows = refl;
  mounts = λ other begin same m. (found disk other ps begin ok fits same m).state;
  recovers = λ other begin to reply same m turn. restored disk ps begin to reply (found disk other ps begin ok fits same m) turn;
}

-- a session that mounts a disk with a safe tree may write there
pub start_may : (tree : Tree) (order : NameOrder) (left : Disk) (begin : SystemState) → KeepsTree tree (disk_with_order order left) → SameBytes left begin.disk → IsJustMounted begin.disk begin → HasDiskTree begin × IsWritableDisk begin.disk
start_may tree order left begin safe same mounts =
    let f = found (disk_with_order order left) begin.disk safe.pairs begin safe.accepted safe.writable same mounts in
    (mount_begins begin.disk begin mounts, (safe.pairs, (f.accepted, f.writable)))

-- ---- a stop in an operation

-- a session that has its disk's tree
shows_tree : (at : SystemState) (s : Session) → HasDiskTree at → at.state ≡ Healthy s → ShowsTree at.disk (Some s.tree)
shows_tree at s agrees healthy = subst (HealthyHasDiskTree at.disk) (sym agrees.healthy ∙ healthy) agrees.shows

stays : (at : SystemState) (s : Session) (ps : List Pair) (around : DiskSummary) (after : Tree) → HasDiskTree at → IsHealthySession at s ps around → HasEitherTree at.disk s.tree after
stays at s ps around after agrees work = left_before at.disk ps s.tree after work.accepted work.writable
    (one_tree at.disk (disk_tree at.disk ps) s.tree (ps, (work.accepted, refl)) (shows_tree at s agrees work.healthy))

abbrev pub around_of : Disk → List Pair → DiskSummary
around_of disk ps = record { writable = true; profile = disk.profile; block_size = disk.block_size; page = disk.page; block_count = block_count disk; used = used_blocks disk ps; gstate = pairs_gstate ps }

pub at_work : (at : SystemState) (agrees : HasDiskTree at) (profile : IsWritableDisk at.disk) → IsHealthySession at agrees.session profile.0 (around_of at.disk profile.0)
at_work at agrees profile = record {
  healthy = agrees.healthy;
  accepted = profile.1.0;
  writable = profile.1.1;
  surrounds = record { profile = refl; block_size = refl; page = refl; block_count = refl; used = refl; gstate = refl; writable = ((λ e. profile.1.1), λ w. refl) };
}

-- what a stop at any time leaves has P, so has what this one left
pub stopped_has : (P : Blocks → Type 0) (old new : List CallEvent) (blocks : Blocks) → HoldsAtLosses LeftByLoss old new P → LeftInCall old new blocks → P blocks
stopped_has P old new blocks all since =
    among all.events (all.each) (among_from (λ e. LeftByLoss e blocks) all.events (subst (λ es. Any (λ e. LeftByLoss e blocks) es) (append_cancel_right since.events all.events old (sym since.extends ∙ all.extends)) since.stopped))
  where
    among : (events : List CallEvent) → AllCalls (λ e. (disk : Blocks) → LeftByLoss e disk → P disk) events → HoldsForSome (λ e. LeftByLoss e blocks) events → P blocks
    among [] h k = absurd k
    among (e ∷ events) h (inl k) = h.0 blocks k
    among (e ∷ events) h (inr k) = among events h.1 k

pub stop_leaves : (from to : SystemState) (op : Operation) (s : Session) (ps : List Pair) (around : DiskSummary) (left : Disk) → HasDiskTree from → IsHealthySession from s ps around → SurvivesPowerLoss from op to →
    AllCallsSince ErasesCleanly from.calls to.calls → LeftBetween from to left → HasEitherTree left s.tree (operation_result around s op).1.tree
stop_leaves from to op s ps around left agrees work survives_loss cleanly stop = go stop
  where
    after : Tree
    after = (operation_result around s op).1.tree

    go : LeftBetween from to left → HasEitherTree left s.tree (operation_result around s op).1.tree
    go (inl e) = subst (λ d. HasEitherTree d s.tree after) (sym e) (stays from s ps around after agrees work)
    go (inr (inl (blocks, (e, since)))) = subst (λ d. HasEitherTree d s.tree after) (sym e)
        (stopped_has (λ b. HasEitherTree (with_blocks b from.disk) s.tree after) from.calls to.calls blocks (survives_loss.stops s ps around work cleanly) since)
    go (inr (inr (e, fails))) = subst (λ d. HasEitherTree d s.tree after) (sym e) (survives_loss.stands s ps around work cleanly fails)

-- ---- a stop in a life

-- a disk that was left, with the tree that it has where it was cut, and the order of its names there
pub record IsSurvivedWith (Cut : Disk → Tree → Type 0) (NoRemount : Type 0) (left : Disk) : Type 0 where
  pub order : NameOrder
  pub stays : NoRemount → order ≡ left.order
  pub tree : Tree
  pub cut : Cut (disk_with_order order left) tree
  pub safe : KeepsTree tree (disk_with_order order left)

-- ---- where in the calls it was

-- a stop in either of two stretches
abbrev pub IsEither : (from next to : SystemState) (blocks : Blocks) → Type 0
IsEither from next to blocks = LeftInCall from.calls next.calls blocks ⊎ LeftInCall next.calls to.calls blocks

pub either_part : (from next to : SystemState) (blocks : Blocks) {P Q : CallEvent → Type 0} → AllCallsSince P from.calls next.calls → AllCallsSince Q next.calls to.calls → LeftInCall from.calls to.calls blocks → IsEither from next to blocks
either_part from next to blocks first second since = go (among_parts (λ e. LeftByLoss e blocks) second.events first.events (subst (HoldsForSome (λ e. LeftByLoss e blocks)) same (among_from (λ e. LeftByLoss e blocks) since.events since.stopped)))
  where
    same : since.events ≡ second.events ++ first.events
    same = append_cancel_right since.events (second.events ++ first.events) from.calls
        (sym since.extends ∙ second.extends ∙ ap (λ (l : List CallEvent). second.events ++ l) first.extends ∙ sym (append_assoc second.events first.events from.calls))

    go : HoldsForSome (λ e. LeftByLoss e blocks) second.events ⊎ HoldsForSome (λ e. LeftByLoss e blocks) first.events → IsEither from next to blocks
    go (inl k) = inr (record { events = second.events; extends = second.extends; stopped = any_from (λ e. LeftByLoss e blocks) second.events k })
    go (inr k) = inl (record { events = first.events; extends = first.extends; stopped = any_from (λ e. LeftByLoss e blocks) first.events k })

abbrev disk_with : ℕ → ℕ → NameOrder → Profile → Blocks → Disk
disk_with block_size page order profile blocks = record { block_size = block_size; page = page; order = order; profile = profile; blocks = blocks }

pub same_blocks : (disk new : Disk) (blocks : Blocks) → SameGeometry disk new → with_blocks blocks disk ≡ with_blocks blocks new
same_blocks disk new blocks g =
    ap₂ (λ b p. disk_with b p disk.order disk.profile blocks) (sym g.block_size) (sym g.page) ∙ ap₂ (λ o v. disk_with new.block_size new.page o v blocks) (sym g.order) (sym g.profile)

-- a remount alone changes the order of the names
pub shape_in_order : (b : Bool) (disk new : Disk) → SameGeometry (cond b (disk_with_order new.order disk) disk) new → SameGeometry (disk_with_order new.order disk) new
shape_in_order true disk new g = g
shape_in_order false disk new g = record { block_size = g.block_size; page = g.page; order = refl; profile = g.profile; count = g.count }

pub order_stays : (b : Bool) (disk new : Disk) → SameGeometry (cond b (disk_with_order new.order disk) disk) new → b ≡ false → new.order ≡ disk.order
order_stays true disk new g e = absurd (cc)
order_stays false disk new g e = g.order
