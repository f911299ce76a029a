-- A rename across pairs after the old slot was read.
use Rattle.lfs_operations.proofs.Common.{ℕ, ◌≡◌, ◌⊎◌, ◌<◌, length, inl, inr, Bool, true, false, List, ◌∷◌, ◌++◌, Option, None, Some, Result, Err, refl, sym, ap, ap₂, subst, ◌∙◌, arith, ContentChange, PutMove, Disk, Blocks, Slot, Pair, Site, Gstate, Tree, gstate_xor, pairs_blocks, with_blocks, HasEitherTree, fault_count, Name, SurvivesLossSince, disk_tree, AreU32Addresses, survives_then, HoldsAtLosses-weaker, OnlyReadsSince-trans, KeptThread, ThreadView, ThreadReportsErrors, OnlyReadsThread, thread_pair, IfErr, Error, Io, NoMemory, AreCommittedOrSplit, LeftByCommitOrSplit, OverfillsPair, HasTwoFreeBlocks, has_failed_after, CanEndMoveAfterCopy, IsMoveCopiedAndEnded, PowerLossKeepsEitherTree, ReportsAllocatingCommits, WritesPairsAndTwoFree, CanMoveBetweenPairs, removal_changes, move_start_changes, gstate_with_move, IsRecoveredWritableImage, slot_without_name_at, NamelessSlot, slot_creation_changes, IsMovedBetweenPairs, IsRenamedBetweenPairs, Route, file_blocks, target_slots, struct_blocks, append-nil}
use Rattle.lfs_operations.proofs.Held.{below}
use Rattle.lfs_operations.proofs.MovPlaced.{IsAimed, completed_moved, once_moved, shows_moved}
use Rattle.lfs_operations.proofs.MovRename.{aimed_new}
use Rattle.lfs_operations.proofs.MovReplace.{aimed_onto}
use Rattle.lfs_operations.proofs.MovReporting.{writes_first, reports_spaced}
use Rattle.lfs_operations.proofs.Putting.{read_is, with_history}
use Rattle.lfs_operations.proofs.RenameRead.{left_earlier, put_earlier, read_survives, read_writes}
use Rattle.lfs_operations.proofs.RenameReadOver.{writes_earlier, reported_again}

-- ---- the steps

pub changes_are : {t mid : KeptThread} (only : OnlyReadsThread t mid) (replaces sync : Bool) (route : Route) (name : Name) {cs : List ContentChange} {m : Gstate} {z : NamelessSlot} → cs ≡ PutMove m ∷ (removal_changes replaces route.new_id ++ slot_creation_changes route.new_id name z)
    → m ≡ gstate_xor (gstate_with_move sync (thread_pair mid route.old_pair).at route.old_id) (thread_pair mid route.new_pair).content.move → z ≡ slot_without_name_at t route.old_pair route.old_id → cs ≡ move_start_changes replaces sync t route name
changes_are {t = t} {mid = mid} only replaces sync route name are move parts =
    are ∙ ap₂ (λ m z. PutMove m ∷ (removal_changes replaces route.new_id ++ slot_creation_changes route.new_id name z))
    (move ∙ ap (λ k. gstate_xor (gstate_with_move sync (thread_pair k route.old_pair).at route.old_id) (thread_pair k route.new_pair).content.move) (read_is t mid only)) parts

pub ends_after_read : {t mid last : KeptThread} (only : OnlyReadsThread t mid) {old_pair old_id : ℕ} {goes : Bool} {new_pair : ℕ} → CanEndMoveAfterCopy t old_pair old_id goes new_pair last → CanEndMoveAfterCopy mid old_pair old_id goes new_pair last
ends_after_read {t = t} {mid = mid} {last = last} only {old_pair = old_pair} {old_id = old_id} {goes = goes} {new_pair = new_pair} x =
    subst (λ k. CanEndMoveAfterCopy k old_pair old_id goes new_pair last) (sym (read_is t mid only)) (record { apart = x.apart; grown = x.grown; can = x.can; at = x.at })

module _ {t mid new : KeptThread} (only : OnlyReadsThread t mid) {new_pair : ℕ} {changes : List ContentChange} where
  pub done_after_read : {old_pair old_id : ℕ} {goes : Bool} → IsMoveCopiedAndEnded mid old_pair old_id goes new_pair changes new → IsMoveCopiedAndEnded t old_pair old_id goes new_pair changes new
  done_after_read {old_pair = old_pair} {old_id = old_id} {goes = goes} is = earlier (subst (λ k. IsMoveCopiedAndEnded k old_pair old_id goes new_pair changes new) (read_is t mid only) is)
    where
      earlier : IsMoveCopiedAndEnded (with_history t mid.history) old_pair old_id goes new_pair changes new → IsMoveCopiedAndEnded t old_pair old_id goes new_pair changes new
      earlier f = record {
        mid = f.mid;
        put = put_earlier t mid.history only.reads new_pair changes f.mid f.put;
        ended = f.ended;
        blocks = record {
          written = record {
            fresh = f.blocks.written.fresh;
            few = f.blocks.written.few;
            free = f.blocks.written.free;
            writes = writes_earlier t mid.history new (pairs_blocks t.pairs ++ f.blocks.written.fresh) only.reads f.blocks.written.writes;
          };
          within = f.blocks.within;
        };
      }

  pub survives_after_read : {one : ℕ} {after : Tree} → WritesPairsAndTwoFree mid one new_pair new → PowerLossKeepsEitherTree mid new_pair changes new → IsRecoveredWritableImage t
      → ((left : Blocks) → LeftByCommitOrSplit t new_pair changes left → HasEitherTree (with_blocks left t.disk) (disk_tree t.disk t.pairs) after) → ((last : KeptThread) → AreCommittedOrSplit t new_pair changes last → disk_tree last.disk last.pairs ≡ after)
      → SurvivesLossSince t.disk t.history new.history (disk_tree t.disk t.pairs) after
  survives_after_read {after = after} w both ready left shows =
      survives_then t.disk t.history mid.history new.history (disk_tree t.disk t.pairs) after only.reads w.writes.at_worst (read_survives t mid.history only.reads ready after)
      (subst (λ k. PowerLossKeepsEitherTree k new_pair changes new) (read_is t mid only) both (disk_tree t.disk t.pairs) after
      (λ calls stops clean. HoldsAtLosses-weaker (λ blocks l. left blocks (left_earlier t mid.history only.reads new_pair changes blocks l)) (stops clean))
      (λ last is. shows last (put_earlier t mid.history only.reads new_pair changes last is)))

-- ---- where the entry moves to

pub address_before : {t mid : KeptThread} → OnlyReadsThread t mid → (pair : ℕ) → AreU32Addresses (thread_pair mid pair).at → AreU32Addresses (thread_pair t pair).at
address_before {t = t} {mid = mid} only pair address = subst (λ k. AreU32Addresses (thread_pair k pair).at) (read_is t mid only) address

-- there is a pair of the new number
pub new_below : (replaces sync : Bool) (t : KeptThread) (route : Route) (name : Name) → CanMoveBetweenPairs replaces sync t route name → route.new_pair < length t.pairs
new_below false sync t route name rename = let b = rename.target.belongs in below t rename.old.ready rename.to_first route.new_pair b.pair (b.later ++ b.rest) b.place
new_below true sync t route name rename = let b = rename.target.there in below t rename.old.ready rename.to_first route.new_pair b.pair b.rest b.place

-- what is known of it, to a new name and onto an entry
pub record HasAim (replaces sync : Bool) (t : KeptThread) (route : Route) (name : Name) (rename : CanMoveBetweenPairs replaces sync t route name) : Type 0 where
  pub w : Site
  pub p : Pair
  pub l : List Slot
  pub target : Option Slot
  pub r : List Slot
  pub aimed : IsAimed replaces sync t route name rename.old rename.path w p l target r
  pub blocks : file_blocks t.disk (target_slots target) ≡ rename.gone

pub aim : (replaces sync : Bool) (t : KeptThread) (route : Route) (name : Name) (rename : CanMoveBetweenPairs replaces sync t route name) → AreU32Addresses (thread_pair t route.old_pair).at → HasAim replaces sync t route name rename
aim false sync t route name rename address = record { w = _; p = _; l = _; target = None; r = _; aimed = aimed_new sync t route name rename address; blocks = sym rename.target.none }
aim true sync t route name rename address =
    let g = rename.target.there.stands.slot in
    record { w = _; p = _; l = _; target = Some g; r = _; aimed = aimed_onto sync t route name rename address; blocks = append-nil (struct_blocks t.disk g.struct) ∙ rename.target.blocks }

pub renamed_across : {replaces : Bool} {t new : KeptThread} {route : Route} {name : Name} (rename : CanMoveBetweenPairs replaces false t route name) → IsMovedBetweenPairs replaces false t route name new
    → IsRenamedBetweenPairs t new rename.old.path rename.old.name rename.path name rename.gone
renamed_across {replaces = replaces} {t = t} {new = new} {route = route} {name = name} rename h =
    let at = aim replaces false t route name rename h.address in
    subst (IsRenamedBetweenPairs t new rename.old.path rename.old.name rename.path name) at.blocks
    (record { now = shows_moved at.aimed h.done refl; once = once_moved at.aimed h.done; completed = completed_moved at.aimed h.done refl })

-- ---- errors

only_then : (a b c : KeptThread) → OnlyReadsThread a b → OnlyReadsThread b c → OnlyReadsThread a c
only_then a b c x y = record {
  disk = y.disk ∙ x.disk;
  reads = OnlyReadsSince-trans x.reads y.reads (ap (λ (d : Disk). d.blocks) x.disk);
  pairs = y.pairs ∙ x.pairs;
  map = y.map ∙ x.map;
}

pub reports_after_read : {X : Type 0} {old mid new : ThreadView} {index : ℕ} {changes : List ContentChange} {r : Result X Error} → OnlyReadsThread old.kept mid.kept → fault_count mid.kept.history ≡ fault_count old.kept.history
    → ReportsAllocatingCommits mid new index changes r → ReportsAllocatingCommits old new index changes r
reports_after_read {old = old} {mid = mid} {new = new} {index = index} {changes = changes} {r = r} only same h = record {
  failed = go h.failed;
  errors = h.errors;
  fault = λ io. (let k = h.fault io in omega (arith, k, same));
  no_fault = λ other. h.no_fault other ∙ same;
  unchanged = λ none. only_then old.kept mid.kept new.kept only (h.unchanged none);
  no_space = λ none. subst (λ m. HasTwoFreeBlocks m → ⊥) only.map (h.no_space none);
  too_large = λ none. subst (λ k. OverfillsPair k index changes) (read_is old.kept mid.kept only) (h.too_large none);
}
  where
    go : (new.failed ≡ has_failed_after r) ⊎ ((new.failed ≡ false) × OnlyReadsThread mid.kept new.kept) → (new.failed ≡ has_failed_after r) ⊎ ((new.failed ≡ false) × OnlyReadsThread old.kept new.kept)
    go (inl e) = inl e
    go (inr (e, o)) = inr (e, only_then old.kept mid.kept new.kept only o)

-- the slot wasn't read
pub reports_unread : {X Y : Type 0} {old new : ThreadView} {index : ℕ} {changes : List ContentChange} {e : Error} {result : Result X Error} {given : Result Y Error} → result ≡ Err e → given ≡ Err e
    → new.failed ≡ false → OnlyReadsThread old.kept new.kept → ThreadReportsErrors old.kept new.kept result → ReportsAllocatingCommits old new index changes given
reports_unread {old = old} {new = new} {index = index} {changes = changes} {e = e} {result = result} {given = given} is same works only reported =
    let again = reported_again old.kept new.kept e result given is same reported in
    reports_spaced old new index changes given (inr (works, only)) again.errors again.fault again.no_fault

-- no room for the changes
pub reports_unmade : {Y : Type 0} {old new : ThreadView} {index : ℕ} {changes : List ContentChange} {given : Result Y Error} → given ≡ Err NoMemory → new.failed ≡ false → OnlyReadsThread old.kept new.kept
    → fault_count new.kept.history ≡ fault_count old.kept.history → ReportsAllocatingCommits old new index changes given
reports_unmade {old = old} {new = new} {index = index} {changes = changes} {given = given} same works only none =
    reports_spaced old new index changes given (inr (works, only)) (subst (λ r. IfErr r (λ x. (x ≡ Io) ⊎ (x ≡ NoMemory))) (sym same) (inr refl)) (λ io. absurd (let z = sym same ∙ io in cc)) (λ other. none)

pub writes_after_read : {t mid new : KeptThread} {one other : ℕ} → OnlyReadsThread t mid → WritesPairsAndTwoFree mid one other new → WritesPairsAndTwoFree t one other new
writes_after_read {t = t} {mid = mid} {new = new} {one = one} {other = other} only w =
    let f = subst (λ k. WritesPairsAndTwoFree k one other new) (read_is t mid only) w in
    record { fresh = f.fresh; few = f.few; free = f.free; writes = writes_earlier t mid.history new _ only.reads f.writes }

pub writes_read : {t mid : KeptThread} {one other : ℕ} → OnlyReadsThread t mid → WritesPairsAndTwoFree t one other mid
writes_read {t = t} {mid = mid} {one = one} {other = other} only = writes_first t mid one other (read_writes t mid only other)
