-- Two steps of the thread that remove an empty directory: the blocks that they write, and their errors.
use Rattle.lfs_operations.proofs.Common.{◌⊎◌, ℕ, zero, suc, ◌≡◌, ◌≢◌, ◌-◌, ◌<◌, Result, Ok, List, [], ◌∷◌, get_or, set, refl, sym, ap, subst, ◌∙◌, true, cond, inl, inr, IsPairCommitted, ContentChange, All-from_recursion, recursion_from_All, fault_count, PairContent, Pair, address_blocks, addresses_blocks, KeptThread, ThreadView, ChangesThreadBlocks, empty_anchor, thread_pair, sync_bit_delta, All, Error, IsPairDropped, ReportsCommit, drops_pair_after_removal, removal_written_address, CanRemoveDirectory, ReportsCommits, ◌++◌, Disk, Session, Blocks, HasEitherTree, with_blocks, tree_removing, tree_with_subtree, None, Path, disk_tree, path_or_root, CompletesOperation, IsGone, tree_without_entry, IsDirectoryRemoved, ArePredecessorsChangedOrDropped, HasTreeAfterDrops, LeftByDrop, zero_gstate, CanDropAt, arith}
use Rattle.lfs_operations.proofs.Putting.{writes_trans, writes_wider}
use Rattle.lfs_model.specs.session.Operations as ops
use Rattle.lfs_operations.proofs.AlteredBehind.{gone_alters}
use Rattle.lfs_operations.proofs.AlteredDrops.{drop_alters, fewer_blocks}
use Rattle.lfs_operations.proofs.LastDrop.{IsAllButDropped, can_drop_last, end_gone, is_gone, left_last, pairs_end, shows_dropped, taken_end, y}

-- ---- blocks

first_two : (a b : ℕ × ℕ) (x : ℕ) → All (λ c. c ≢ x) (addresses_blocks a b) → All (λ c. c ≢ x) (address_blocks a)
first_two a b x h = let k = recursion_from_All (λ (c : ℕ). c ≢ x) (addresses_blocks a b) h in All-from_recursion (λ c. c ≢ x) (address_blocks a) (k.0, (k.1.0, tt))

last_two : (a b : ℕ × ℕ) (x : ℕ) → All (λ c. c ≢ x) (addresses_blocks a b) → All (λ c. c ≢ x) (address_blocks b)
last_two a b x h = let k = recursion_from_All (λ (c : ℕ). c ≢ x) (addresses_blocks a b) h in All-from_recursion (λ c. c ≢ x) (address_blocks b) (k.1.1.0, (k.1.1.1.0, tt))

pub writes_first : (a b : ℕ × ℕ) {old new : KeptThread} → ChangesThreadBlocks (address_blocks a) old new → ChangesThreadBlocks (addresses_blocks a b) old new
writes_first a b h = writes_wider (addresses_blocks a b) (first_two a b) h

pub writes_both : (a b : ℕ × ℕ) {old mid new : KeptThread} → ChangesThreadBlocks (address_blocks a) old mid → ChangesThreadBlocks (address_blocks b) mid new → ChangesThreadBlocks (addresses_blocks a b) old new
writes_both a b first second = writes_trans (writes_first a b first) (writes_wider (addresses_blocks a b) (last_two a b) second)

-- a change leaves each pair where it is
pub at_kept : (xs : List Pair) (n k : ℕ) (c : PairContent) (d : Pair) → (get_or (set xs n (record { at = (get_or xs n d).at; content = c })) k d).at ≡ (get_or xs k d).at
at_kept [] n k c d = refl
at_kept (x ∷ xs) zero zero c d = refl
at_kept (x ∷ xs) zero (suc k) c d = refl
at_kept (x ∷ xs) (suc n) zero c d = refl
at_kept (x ∷ xs) (suc n) (suc k) c d = at_kept xs n k c d

pub at_there : (t m : KeptThread) (index k : ℕ) (changes : List ContentChange) → IsPairCommitted t index changes m → (thread_pair m k).at ≡ (thread_pair t k).at
at_there t m index k changes h = ap (λ (z : List Pair). (get_or z k empty_anchor).at) h.pairs ∙ at_kept t.pairs index k h.content empty_anchor

pub writes_two : (t m new : KeptThread) (index gone : ℕ) (changes : List ContentChange) → IsPairCommitted t index changes m → ChangesThreadBlocks (address_blocks (thread_pair t index).at) t m
    → ChangesThreadBlocks (address_blocks (thread_pair m (gone - 1)).at) m new → ChangesThreadBlocks (addresses_blocks (thread_pair t index).at (thread_pair t (gone - 1)).at) t new
writes_two t m new index gone changes h first second =
    writes_both (thread_pair t index).at (thread_pair t (gone - 1)).at first (subst (λ at. ChangesThreadBlocks (address_blocks at) m new) (at_there t m index (gone - 1) changes h) second)

-- ---- errors

pub steps_from : {X : Type 0} (old new : ThreadView) (result : Result X Error) → ReportsCommit old new result → ReportsCommits old new result
steps_from old new result h = record { failed = h.failed; errors = h.reported.errors; fault = h.reported.fault; no_fault = h.reported.no_fault }

pub steps_then : {X Y : Type 0} (old mid new : ThreadView) (a : X) (first : Result X Error) (second : Result Y Error) → first ≡ Ok a → ReportsCommit old mid first → ReportsCommit mid new second → ReportsCommits old new second
steps_then old mid new a first second ok one two =
    let same : fault_count mid.kept.history ≡ fault_count old.kept.history = one.reported.no_fault (λ io. absurd (let z = sym ok ∙ io in cc)) in
    record {
      failed = two.failed;
      errors = two.reported.errors;
      fault = λ io. subst (λ n. n < fault_count new.kept.history) same (two.reported.fault io);
      no_fault = λ other. two.reported.no_fault other ∙ same;
    }

-- ---- between the steps

abbrev pub unlinked_path : {t : KeptThread} {index id first gone : ℕ} → CanRemoveDirectory t index id first gone → Path
unlinked_path take = take.can.path ++ take.can.stands.stands.slot.name ∷ []

-- The entry is gone, and the directory's own pair has number `now`. Once that is dropped, the operation is completed.
pub record IsUnlinked (t m : KeptThread) {index id first gone : ℕ} (take : CanRemoveDirectory t index id first gone) (now : ℕ) : Type 0 where
  pub last : IsAllButDropped t m (thread_pair t gone) now (tree_removing (unlinked_path take)) (tree_with_subtree (unlinked_path take) (λ t. None))
  pub completed : (new : Disk) (y : Pair) → IsGone m.disk new last.chain last.front last.x (thread_pair t gone) y last.back → (s : Session) (path : List ℕ) → s.tree ≡ disk_tree t.disk t.pairs → path_or_root path ≡ unlinked_path take
      → CompletesOperation t.disk t.pairs s (ops.Remove path) new (last.chain ++ (last.front ++ y ∷ last.back))
  pub written : ((thread_pair m (now - 1)).at ≡ (thread_pair t (gone - 1)).at) ⊎ ((thread_pair m (now - 1)).at ≡ removal_written_address t index first)
  pub above : 0 < gone
  pub entry : drops_pair_after_removal t index first ≡ true → CanDropAt t index sync_bit_delta × IsPairDropped t (index - 1) sync_bit_delta m

module _ {t m : KeptThread} {index id first gone : ℕ} {take : CanRemoveDirectory t index id first gone} {now : ℕ} (k : IsUnlinked t m take now) where
  turned : tree_removing (unlinked_path take) (disk_tree t.disk t.pairs) ≡ tree_without_entry t take.can.path take.can.name
  turned = ap (λ n. tree_removing (take.can.path ++ n ∷ []) (disk_tree t.disk t.pairs)) take.can.stands.stands.named

  -- what a power loss in the second step leaves
  pub left_second : (left : Blocks) → LeftByDrop m (now - 1) zero_gstate left → HasEitherTree (with_blocks left t.disk) (disk_tree t.disk t.pairs) (tree_without_entry t take.can.path take.can.name)
  left_second left g = subst (HasEitherTree (with_blocks left t.disk) (disk_tree t.disk t.pairs)) turned (left_last k.last left g)

  module _ (new : KeptThread) where
    pub writes_then : ChangesThreadBlocks (address_blocks (removal_written_address t index first)) t m → ChangesThreadBlocks (address_blocks (thread_pair m (now - 1)).at) m new
        → ChangesThreadBlocks (addresses_blocks (removal_written_address t index first) (thread_pair t (gone - 1)).at) t new
    writes_then one two = go k.written
      where
        go : ((thread_pair m (now - 1)).at ≡ (thread_pair t (gone - 1)).at) ⊎ ((thread_pair m (now - 1)).at ≡ removal_written_address t index first)
            → ChangesThreadBlocks (addresses_blocks (removal_written_address t index first) (thread_pair t (gone - 1)).at) t new
        go (inl e) = writes_both (removal_written_address t index first) (thread_pair t (gone - 1)).at one (subst (λ at. ChangesThreadBlocks (address_blocks at) m new) e two)
        go (inr e) = writes_first (removal_written_address t index first) (thread_pair t (gone - 1)).at (writes_trans one (subst (λ at. ChangesThreadBlocks (address_blocks at) m new) e two))

    module _ (d : IsPairDropped m (now - 1) zero_gstate new) where
      pub directory_removed : IsDirectoryRemoved t new take.can.path take.can.name
      directory_removed = record {
        now = subst (λ z. HasTreeAfterDrops t new z []) turned (shows_dropped k.last new d);
        completed = λ z given tree is_path. subst (λ s. CompletesOperation t.disk t.pairs z (ops.Remove given) new.disk s) (sym (pairs_end k.last new d))
            (k.completed new.disk (y k.last) (is_gone k.last new.disk d.written) z given tree (is_path ∙ ap (λ n. take.can.path ++ n ∷ []) (sym take.can.stands.stands.named)));
      }

      -- the pairs in front of those that go are changed or dropped
      pub directory_alters : ArePredecessorsChangedOrDropped t index first gone new
      directory_alters = record {
        front = gone_alters t new gone k.above take.below take.can.ready.accepted (taken_end k.last new d).follows.accepted (end_gone k.last new d);
        entry = λ whole.
            let e = k.entry whole in
            drop_alters t index sync_bit_delta m e.0 e.1 new d.thread.links (λ b. let f = fewer_blocks m now zero_gstate new (can_drop_last k.last) d b in omega (arith, f));
      }

-- the first step writes the pair in front of an entry's pair that goes
pub written_whole : (t : KeptThread) (index first : ℕ) → drops_pair_after_removal t index first ≡ true → removal_written_address t index first ≡ (thread_pair t (index - 1)).at
written_whole t index first goes = ap (λ b. cond b (thread_pair t (index - 1)).at (thread_pair t index).at) goes
