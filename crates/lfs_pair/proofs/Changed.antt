-- The content of a pair after a commit, and after a stop in it.
use Rattle.std.proofs.Common.{ℕ, zero, suc, get_or, ◌≡◌, ◌≢◌, ◌⊎◌, ◌+◌, ◌%◌, ◌^◌, ◌<◌, ◌≤◌, Bool, true, false, cond, List, [], ◌∷◌, ◌++◌, length, Option, Some, None, flat_map, refl, sym, ap, ◌∙◌, subst, arith, inl, inr, length-append}
use Rattle.std.specs.Prelude.{nat_lt, slice_get, unwrap_or}
use Rattle.lfs_pair.proofs.Common.{list_all, lt-ltb, ltb-true, Blocks, SameExcept, block_bytes, Disk, disk_block, LogEntry, block_revision, block_entries, HasFirstLogEntry, RawContentFitsInPair, content_entries, IsWellFormed, flat_map-append, RawContent, has_commit, current_block, raw_content, content_after, empty_raw_content, ContentChange, content_with_changes, entries_of_changes, is_storable, appended_content, OthersStayUnprogrammed-wider, SameExceptBlocks-refl, option_and_then, PartialCommit, earlier_commits, CallEvent, AreUnprogrammed, OthersStayUnprogrammed, IsTrueHeader, is_second_active, active_block_at, header_address, LogGetsCommit, HasOneCommit, LossLeavesCommit, LossLeavesRewritten, DiffersInBlock, HeaderSaysActive, IsPairAddress, HasNewContent, HasOldContent, KeepsFirstEntry, LossLeavesChanged, LossLeavesNew, HasWrittenContent, changed_log_content, changed_pair_content}
use Rattle.lfs_model.specs.format.Log.{chain_of}
use Rattle.lfs_pair.proofs.Holders.{held_commit, holder_is, raw_held}
use Rattle.lfs_model.proofs.Commits.{has_commit-end, chain_ends}
use Rattle.lfs_pair.specs.declared.pair.Pair.{Pair}
use Rattle.lfs_pair.specs.Pair.{HeaderHasEnd, IsContentHeader, header_inactive_block}
use Rattle.lfs_pair.specs.Writing.{EndsBeforeUnprogrammed}
use Rattle.lfs_pair.specs.Commits.{HasChangedContent, OutsideStaysUnprogrammed, content_after_changes}
use Rattle.lfs_model.proofs.SameLogs.{entries_same}
use Rattle.lfs_pair.proofs.TwoBlocks.{active_block, Sides, Stays, sides, raw_is, still_active, other_active, stays_same, stays_log, weaker_same, weaker_revision, weaker_none, active_is, other_is, outside_one, sides_apart, below_count}

-- ---- what changes make

pub changed_content : (held new : RawContent) (changes : List ContentChange) → content_with_changes held changes ≡ Some new → content_after held (entries_of_changes changes) ≡ Some new
changed_content held new changes h = go (list_all is_storable changes) refl
  where
    go : (s : Bool) → list_all is_storable changes ≡ s → content_after held (entries_of_changes changes) ≡ Some new
    go true e = sym (ap (λ s. cond s (content_after held (entries_of_changes changes)) None) e) ∙ h
    go false e = absurd (let none : None ≡ Some new = sym (ap (λ s. cond s (content_after held (entries_of_changes changes)) None) e) ∙ h in cc)

-- ---- a commit behind others

pub gets_content : (b : PartialCommit) (held new : RawContent) (old left : List ℕ) → b.revision ≡ None
    → content_after empty_raw_content (block_entries old) ≡ Some held → content_after held b.entries ≡ Some new → LogGetsCommit b old left
    → content_after empty_raw_content (block_entries left) ≡ Some new
gets_content b held new old left none so_far more gets =
    appended_content left (earlier_commits b.revision old) b.entries gets.checksum held new gets.commits gets.class
    (ap (λ r. content_after empty_raw_content (flat_map (λ c. c) (earlier_commits r old))) none ∙ so_far) more

pub gets_commit : (b : PartialCommit) (old left : List ℕ) → LogGetsCommit b old left → has_commit left ≡ true
gets_commit b old left gets =
    ap (λ (cs : List (List LogEntry)). nat_lt 0 (length cs)) gets.commits
    ∙ lt-ltb 0 (length (earlier_commits b.revision old ++ (b.entries ++ gets.checksum ∷ []) ∷ [])) (omega (arith, length-append (earlier_commits b.revision old) ((b.entries ++ gets.checksum ∷ []) ∷ [])))

pub gets_stays : (b : PartialCommit) (old left : List ℕ) → b.revision ≡ None → has_commit old ≡ true → LogGetsCommit b old left → Stays old left
gets_stays b old left none had gets = record {
  had = had;
  has = gets_commit b old left gets;
  revision_is = gets.revision ∙ ap (λ r. unwrap_or r (block_revision old)) none;
}

-- a block that has a commit ends past its beginning
pub ends_past : (block : List ℕ) → has_commit block ≡ true → 4 < (chain_of block).end
ends_past block has = ltb-true 4 (chain_of block).end (sym (has_commit-end block) ∙ has)

-- ---- the first entry

-- the log of the block that holds, by which of the two it is
pub holder_in : (disk : Disk) (at : ℕ × ℕ) (active : ℕ) → active ≡ active_block_at disk at → has_commit (disk_block disk active) ≡ true → current_block disk at ≡ Some (disk_block disk active)
holder_in disk at active is has =
    let same = active_block disk at active is in
    holder_is (disk_block disk at.0) (disk_block disk at.1) (sym (ap has_commit same) ∙ has) ∙ ap Some (sym same)

begins_by : (old disk : Disk) (at : ℕ × ℕ) (active now : ℕ) (e : LogEntry) → active ≡ active_block_at old at → has_commit (disk_block old active) ≡ true → now ≡ active_block_at disk at → has_commit (disk_block disk now) ≡ true
    → (slice_get (block_entries (disk_block old active)) 0 ≡ Some e → slice_get (block_entries (disk_block disk now)) 0 ≡ Some e) → HasFirstLogEntry (current_block old at) e → HasFirstLogEntry (current_block disk at) e
begins_by old disk at active now e is had now_is has f h =
    subst (λ o. HasFirstLogEntry o e) (sym (holder_in disk at now now_is has)) (f (subst (λ o. HasFirstLogEntry o e) (holder_in old at active is had) h))

first_of : (xs ys : List LogEntry) (e : LogEntry) → slice_get xs 0 ≡ Some e → slice_get (xs ++ ys) 0 ≡ Some e
first_of [] ys e h = absurd (cc)
first_of (x ∷ xs) ys e h = h

gets_first : (b : PartialCommit) (old left : List ℕ) (e : LogEntry) → b.revision ≡ None → LogGetsCommit b old left → slice_get (block_entries old) 0 ≡ Some e → slice_get (block_entries left) 0 ≡ Some e
gets_first b old left e none gets h =
    ap (λ (cs : List (List LogEntry)). slice_get (flat_map (λ c. c) cs) 0) gets.commits
    ∙ ap (λ (es : List LogEntry). slice_get es 0) (flat_map-append (λ (c : List LogEntry). c) (earlier_commits b.revision old) ((b.entries ++ gets.checksum ∷ []) ∷ []))
    ∙ first_of (flat_map (λ c. c) (earlier_commits b.revision old)) (flat_map (λ c. c) ((b.entries ++ gets.checksum ∷ []) ∷ [])) e
    (ap (λ r. slice_get (flat_map (λ c. c) (earlier_commits r old)) 0) none ∙ h)

holds_first : (revision : ℕ) (c : RawContent) (block : List ℕ) (e : LogEntry) → HasOneCommit revision c block → slice_get (content_entries c) 0 ≡ Some e → slice_get (block_entries block) 0 ≡ Some e
holds_first revision c block e holds h =
    ap (λ (cs : List (List LogEntry)). slice_get (flat_map (λ c. c) cs) 0) holds.commits
    ∙ first_of (content_entries c ++ holds.checksum ∷ []) [] e (first_of (content_entries c) (holds.checksum ∷ []) e h)

-- an append in progress
pub record IsAppending (disk : Disk) (at : ℕ × ℕ) (active other : ℕ) (held new : RawContent) (b : PartialCommit) : Type 0 where
  pub sides : Sides disk at active other
  pub apart : other ≢ active
  pub is : active ≡ active_block_at disk at
  pub had : has_commit (disk_block disk active) ≡ true
  pub held_is : content_after empty_raw_content (block_entries (disk_block disk active)) ≡ Some held
  pub more : content_after held b.entries ≡ Some new
  pub no_revision : b.revision ≡ None

-- the active block still is the active one if it has the log from before the commit or after it
appended_active : (disk : Disk) (at : ℕ × ℕ) (active other : ℕ) (held new : RawContent) (b : PartialCommit) (left : Blocks) → IsAppending disk at active other held new b
    → SameExcept active disk.blocks left → Stays (disk_block disk active) (block_bytes left active) → active ≡ active_block_at (record disk { blocks = left }) at
appended_active disk at active other held new b left a same stays =
    still_active disk at active other left a.sides stays (weaker_same (disk_block disk other) (block_bytes left other) (same.others other a.apart))

pub record IsIn (disk : Disk) (at : ℕ × ℕ) (active : ℕ) (c : RawContent) : Type 0 where
  pub active_is : active ≡ active_block_at disk at
  pub has : has_commit (disk_block disk active) ≡ true
  pub content : content_after empty_raw_content (block_entries (disk_block disk active)) ≡ Some c

pub raw_in : (disk : Disk) (at : ℕ × ℕ) (active : ℕ) (c : RawContent) → IsIn disk at active c → raw_content disk at ≡ Some c
raw_in disk at active c h = raw_is disk at active h.active_is h.has ∙ h.content

pub appended : (disk : Disk) (at : ℕ × ℕ) (active other : ℕ) (held new : RawContent) (b : PartialCommit) (left : Blocks) → IsAppending disk at active other held new b
    → SameExcept active disk.blocks left → LogGetsCommit b (disk_block disk active) (block_bytes left active) → IsIn (record disk { blocks = left }) at active new
appended disk at active other held new b left a same gets = record {
  active_is = appended_active disk at active other held new b left a same (gets_stays b (disk_block disk active) (block_bytes left active) a.no_revision a.had gets);
  has = gets_commit b (disk_block disk active) (block_bytes left active) gets;
  content = gets_content b held new (disk_block disk active) (block_bytes left active) a.no_revision a.held_is a.more gets;
}

pub appended_first : (disk : Disk) (at : ℕ × ℕ) (active other : ℕ) (held new : RawContent) (b : PartialCommit) (content : Option RawContent) (left : Blocks) → IsAppending disk at active other held new b
    → SameExcept active disk.blocks left → LogGetsCommit b (disk_block disk active) (block_bytes left active) → KeepsFirstEntry disk at content (record disk { blocks = left })
appended_first disk at active other held new b content left a same gets e begins anew =
    let there = appended disk at active other held new b left a same gets in
    begins_by disk (record disk { blocks = left }) at active active e a.is a.had there.active_is there.has (gets_first b (disk_block disk active) (block_bytes left active) e a.no_revision gets) begins

pub left_by_append : (disk : Disk) (at : ℕ × ℕ) (active other : ℕ) (held new : RawContent) (b : PartialCommit) (end : ℕ) (left : Blocks) → IsAppending disk at active other held new b
    → end ≡ (chain_of (disk_block disk active)).end → DiffersInBlock active (LossLeavesCommit b end) disk.blocks left → LossLeavesNew disk at new left
left_by_append disk at active other held new b end left a is (same, which) = record {
  others = outside_one at active disk.blocks left (active_is disk at active other a.sides) same;
  content = go which;
}
  where
    go : LossLeavesCommit b end (disk_block disk active) (block_bytes left active) → HasOldContent disk at (record disk { blocks = left }) ⊎ HasNewContent disk at new (record disk { blocks = left })
    go (inl log) =
        let stays = stays_log (disk_block disk active) (block_bytes left active) a.had log in
        let still = appended_active disk at active other held new b left a same stays in
        inl (record {
          content = raw_is (record disk { blocks = left }) at active still stays.has
              ∙ ap (content_after empty_raw_content) (entries_same (block_bytes left active) (disk_block disk active) log)
              ∙ sym (raw_is disk at active a.is a.had);
          first = λ e h. begins_by disk (record disk { blocks = left }) at active active e a.is a.had still stays.has
              (λ was. ap (λ es. slice_get es 0) (entries_same (block_bytes left active) (disk_block disk active) log) ∙ was) h;
        })
    go (inr (inl (begins, none))) = absurd (let past = ends_past (disk_block disk active) a.had in omega (arith, is, begins, past))
    go (inr (inr gets)) = inr (record {
      content = raw_in (record disk { blocks = left }) at active new (appended disk at active other held new b left a same gets);
      first = appended_first disk at active other held new b (Some new) left a same gets;
    })

-- ---- a compaction into the other block

pub record IsCompacting (disk : Disk) (at : ℕ × ℕ) (active other revision : ℕ) : Type 0 where
  pub sides : Sides disk at active other
  pub apart : active ≢ other
  pub is : active ≡ active_block_at disk at
  pub had : has_commit (disk_block disk active) ≡ true
  pub small : block_revision (disk_block disk active) < 2 ^ 32
  pub next : revision ≡ (block_revision (disk_block disk active) + 1) % 2 ^ 32

pub compacted : (disk : Disk) (at : ℕ × ℕ) (active other revision : ℕ) (new : RawContent) (left : Blocks) → IsCompacting disk at active other revision
    → SameExcept other disk.blocks left → HasOneCommit revision new (block_bytes left other) → IsIn (record disk { blocks = left }) at other new
compacted disk at active other revision new left k same holds =
    let stays : block_bytes left active ≡ disk_block disk active = same.others active k.apart in
    record {
      active_is = other_active disk at active other left k.sides (ap has_commit stays ∙ k.had) holds.has_commit (subst (λ x. block_revision x < 2 ^ 32) (sym stays) k.small)
          (holds.revision_is ∙ k.next ∙ ap (λ x. (block_revision x + 1) % 2 ^ 32) (sym stays));
      has = holds.has_commit;
      content = holds.content;
    }

pub compacted_first : (disk : Disk) (at : ℕ × ℕ) (active other revision : ℕ) (new : RawContent) (left : Blocks) → IsCompacting disk at active other revision
    → SameExcept other disk.blocks left → HasOneCommit revision new (block_bytes left other) → KeepsFirstEntry disk at (Some new) (record disk { blocks = left })
compacted_first disk at active other revision new left k same holds e begins anew =
    let there = compacted disk at active other revision new left k same holds in
    begins_by disk (record disk { blocks = left }) at active other e k.is k.had there.active_is there.has (λ was. holds_first revision new (block_bytes left other) e holds anew) begins

pub left_by_compaction : (disk : Disk) (at : ℕ × ℕ) (active other revision : ℕ) (new : RawContent) (left : Blocks) → IsCompacting disk at active other revision
    → DiffersInBlock other (LossLeavesRewritten revision new) disk.blocks left → LossLeavesNew disk at new left
left_by_compaction disk at active other revision new left k (same, which) = record {
  others = outside_one at other disk.blocks left (other_is disk at active other k.sides) same;
  content = go which;
}
  where
    stays : block_bytes left active ≡ disk_block disk active
    stays = same.others active k.apart

    before : (active ≡ active_block_at (record disk { blocks = left }) at) → HasOldContent disk at (record disk { blocks = left })
    before still = record {
      content = raw_is (record disk { blocks = left }) at active still (ap has_commit stays ∙ k.had)
          ∙ ap (λ x. content_after empty_raw_content (block_entries x)) stays ∙ sym (raw_is disk at active k.is k.had);
      first = λ e h. begins_by disk (record disk { blocks = left }) at active active e k.is k.had still (ap has_commit stays ∙ k.had)
          (λ was. ap (λ x. slice_get (block_entries x) 0) stays ∙ was) h;
    }

    go : LossLeavesRewritten revision new (disk_block disk other) (block_bytes left other) → HasOldContent disk at (record disk { blocks = left }) ⊎ HasNewContent disk at new (record disk { blocks = left })
    go (inl log) =
        inl (before (still_active disk at active other left k.sides (stays_same (disk_block disk active) (block_bytes left active) k.had stays) (weaker_revision (disk_block disk other) (block_bytes left other) log)))
    go (inr (inl none)) =
        inl (before (still_active disk at active other left k.sides (stays_same (disk_block disk active) (block_bytes left active) k.had stays) (weaker_none (disk_block disk other) (block_bytes left other) none)))
    go (inr (inr holds)) = inr (record {
      content = raw_in (record disk { blocks = left }) at other new (compacted disk at active other revision new left k same holds);
      first = compacted_first disk at active other revision new left k same holds;
    })

-- ---- by what the pair says

pub is_compacting : (disk : Disk) (pair : Pair) (other revision : ℕ) → IsPairAddress disk (header_address pair) → HeaderSaysActive disk pair
    → other ≡ header_inactive_block pair → pair.revision < 2 ^ 32 → revision ≡ (pair.revision + 1) % 2 ^ 32 → IsCompacting disk (header_address pair) pair.active other revision
is_compacting disk pair other revision on is also small next =
    let both : Sides disk (header_address pair) pair.active other = subst (Sides disk (header_address pair) pair.active) (sym also) (sides disk (header_address pair) pair.active on.apart is.active) in
    record {
      sides = both;
      apart = λ same. sides_apart disk (header_address pair) pair.active other on.apart both (sym same);
      is = is.active;
      had = held_commit disk (header_address pair) pair.active is.holds;
      small = subst (λ r. r < 2 ^ 32) is.revision_is small;
      next = next ∙ ap (λ r. (r + 1) % 2 ^ 32) is.revision_is;
    }

pub is_active : (disk : Disk) (history : List CallEvent) (pair : Pair) (held : RawContent) → IsTrueHeader disk history pair held → HeaderSaysActive disk pair
is_active disk history pair held is = record { active = is.active; holds = is.holds; revision_is = is.describes.revision }

-- a pair that was just written
pub now_holds : (disk : Disk) (history : List CallEvent) (at : ℕ × ℕ) (pair : Pair) (active : ℕ) (c : RawContent) → IsIn disk at active c
    → header_address pair ≡ at → pair.active ≡ active → pair.is_fetched ≡ false → pair.revision ≡ block_revision (disk_block disk active)
    → {end last : ℕ} → HeaderHasEnd end last pair → EndsBeforeUnprogrammed disk history active end last → IsContentHeader c pair → IsWellFormed c → HasWrittenContent disk history at pair c
now_holds disk history at pair active c in_block same is fetched revision ends written sums logged = record {
  is_pair = record {
    active = is ∙ in_block.active_is ∙ ap (active_block_at disk) (sym same);
    holds = ap (current_block disk) same ∙ holder_in disk at active in_block.active_is in_block.has ∙ ap (λ b. Some (disk_block disk b)) (sym is);
    describes = record {
      content = ap (λ b. content_after empty_raw_content (block_entries (disk_block disk b))) is ∙ in_block.content;
      end = ends.end_is ∙ written.end_is ∙ ap (λ b. (chain_of (disk_block disk b)).end) (sym is);
      last = ends.last_is ∙ written.last_is ∙ ap (λ b. (chain_of (disk_block disk b)).last) (sym is);
      revision = revision ∙ ap (λ b. block_revision (disk_block disk b)) (sym is);
      sums = sums;
      logged = logged;
    };
    whole_pages = λ w. ap (λ e. e % disk.page) ends.end_is ∙ written.whole_pages;
    unprogrammed = λ w. subst (λ b. AreUnprogrammed history b pair.end disk.block_size) (sym is)
        (subst (λ e. AreUnprogrammed history active e disk.block_size) (sym ends.end_is) written.unprogrammed);
  };
  same = same;
  content = raw_in disk at active c in_block;
  written = fetched;
}

pub is_appending : (disk : Disk) (history : List CallEvent) (pair : Pair) (held new : RawContent) (changes : List ContentChange) (b : PartialCommit) → IsPairAddress disk (header_address pair) → IsTrueHeader disk history pair held
    → content_with_changes held changes ≡ Some new → b.entries ≡ entries_of_changes changes → b.revision ≡ None → IsAppending disk (header_address pair) pair.active (header_inactive_block pair) held new b
is_appending disk history pair held new changes b on is made entries none =
    let both = sides disk (header_address pair) pair.active on.apart is.active in
    record {
      sides = both;
      apart = sides_apart disk (header_address pair) pair.active (header_inactive_block pair) on.apart both;
      is = is.active;
      had = held_commit disk (header_address pair) pair.active is.holds;
      held_is = is.describes.content;
      more = ap (content_after held) entries ∙ changed_content held new changes made;
      no_revision = none;
    }

-- what the changes make of what the pair holds is what they make of its block's content
pub made_is : (disk : Disk) (history : List CallEvent) (pair : Pair) (held : RawContent) (changes : List ContentChange) → IsTrueHeader disk history pair held → changed_pair_content disk (header_address pair) changes ≡ content_with_changes held changes
made_is disk history pair held changes is =
    ap (option_and_then (λ c. content_with_changes c changes)) (raw_held disk (header_address pair) pair.active is.holds ∙ is.describes.content)

-- the log of a pair ends within its block
pub ends_in_block : (disk : Disk) (history : List CallEvent) (pair : Pair) (held : RawContent) (block_size : ℕ) → IsTrueHeader disk history pair held → length (disk_block disk pair.active) ≡ block_size → 1024 ≤ block_size → pair.end ≤ block_size
ends_in_block disk history pair held block_size is size large =
    let within = chain_ends (disk_block disk pair.active) (omega (arith, size, large)) in
    let end = is.describes.end in
    omega (arith, within, end, size)

-- the active block is one of the two
pub active_among : (disk : Disk) (history : List CallEvent) (pair : Pair) (held : RawContent) → IsPairAddress disk (header_address pair) → IsTrueHeader disk history pair held
    → (pair.active ≡ (header_address pair).0) ⊎ (pair.active ≡ (header_address pair).1)
active_among disk history pair held on is =
    active_is disk (header_address pair) pair.active (header_inactive_block pair) (sides disk (header_address pair) pair.active on.apart is.active)

-- it is a block of the device, and the log ends within it
pub active_below : (disk : Disk) (history : List CallEvent) (pair : Pair) (held : RawContent) (block_count : ℕ) → IsPairAddress disk (header_address pair) → IsTrueHeader disk history pair held
    → length disk.blocks ≡ block_count → pair.active < block_count
active_below disk history pair held block_count on is count =
    let below = below_count disk (header_address pair) pair.active on (active_among disk history pair held on is) in omega (arith, below, count)

pub some_same : {c d : RawContent} → Some c ≡ Some d → c ≡ d
some_same e = cc

pub gets_revision : (b : PartialCommit) (old left : List ℕ) → b.revision ≡ None → LogGetsCommit b old left → block_revision left ≡ block_revision old
gets_revision b old left none gets = gets.revision ∙ ap (λ r. unwrap_or r (block_revision old)) none

only : (other b k d : ℕ) → k < length (b ∷ []) → b ≢ other → get_or (b ∷ []) k d ≢ other
only other b zero d l apart = apart
only other b (suc k) d l apart = absurd (omega arith)

-- what a call on one of the pair's blocks leaves unprogrammed elsewhere
pub stays_outside : (at : ℕ × ℕ) (b : ℕ) (old new : List CallEvent) → (b ≡ at.0) ⊎ (b ≡ at.1) → OthersStayUnprogrammed (b ∷ []) old new → OutsideStaysUnprogrammed at old new
stays_outside at b old new (inl is) stays = OthersStayUnprogrammed-wider (at.0 ∷ at.1 ∷ []) (λ other apart k d l. only other b k d l (λ same. apart 0 0 (omega arith) (sym is ∙ same))) stays
stays_outside at b old new (inr is) stays = OthersStayUnprogrammed-wider (at.0 ∷ at.1 ∷ []) (λ other apart k d l. only other b k d l (λ same. apart 1 0 (omega arith) (sym is ∙ same))) stays

-- what changes make of a block with these bytes, they make of the pair
pub made_here : (disk : Disk) (history : List CallEvent) (pair : Pair) (held : RawContent) (block : List ℕ) (changes : List ContentChange) (new : Option RawContent) → IsTrueHeader disk history pair held
    → block ≡ disk_block disk pair.active → changed_log_content block changes ≡ new → changed_pair_content disk (header_address pair) changes ≡ new
made_here disk history pair held block changes new is here made =
    ap (λ h. content_after_changes h changes) (raw_held disk (header_address pair) pair.active is.holds) ∙ ap (λ b. changed_log_content b changes) (sym here) ∙ made

-- the content that changes make of a block with these bytes is the one that they make of what the pair holds
pub content_made_here : (disk : Disk) (history : List CallEvent) (pair : Pair) (held new : RawContent) (block : List ℕ) (changes : List ContentChange) (c : RawContent) → IsTrueHeader disk history pair held
    → block ≡ disk_block disk pair.active → content_with_changes held changes ≡ Some new → changed_log_content block changes ≡ Some c → new ≡ c
content_made_here disk history pair held new block changes c is here made log =
    some_same (sym made ∙ sym (made_is disk history pair held changes is) ∙ made_here disk history pair held block changes (Some c) is here log)

-- the disk itself, before a call
pub left_alone : (disk : Disk) (at : ℕ × ℕ) (changes : List ContentChange) → LossLeavesChanged disk at changes disk.blocks
left_alone disk at changes = record { others = SameExceptBlocks-refl (at.0 ∷ at.1 ∷ []) disk.blocks; content = inl (record { content = refl; first = λ e h. h }) }

-- if the old content isn't what is left, the changed one is
pub left_by_change : (disk : Disk) (at : ℕ × ℕ) (changes : List ContentChange) (new : RawContent) (left : Blocks) → changed_pair_content disk at changes ≡ Some new → RawContentFitsInPair disk.block_size disk.page new → IsWellFormed new
    → LossLeavesNew disk at new left → LossLeavesChanged disk at changes left
left_by_change disk at changes new left made fits logged l = record { others = l.others; content = go l.content }
  where
    go : HasOldContent disk at (record disk { blocks = left }) ⊎ HasNewContent disk at new (record disk { blocks = left }) → HasOldContent disk at (record disk { blocks = left }) ⊎ HasChangedContent disk at changes (record disk { blocks = left })
    go (inl still) = inl still
    go (inr now) = inr (record { new = new; made = made; fits = fits; logged = logged; now = now })

second_alone : (a b : List ℕ) → has_commit b ≡ false → is_second_active a b ≡ false
second_alone a b none = rw none refl

-- if the second block has no commit, the first is active
pub first_in : (disk : Disk) (at : ℕ × ℕ) (revision : ℕ) (c : RawContent) → has_commit (disk_block disk at.1) ≡ false → HasOneCommit revision c (disk_block disk at.0) → IsIn disk at at.0 c
first_in disk at revision c cleared holds = record {
  active_is = sym (ap (λ s. cond s at.1 at.0) (second_alone (disk_block disk at.0) (disk_block disk at.1) cleared));
  has = holds.has_commit;
  content = holds.content;
}
