-- The used blocks among those of lists.
use Rattle.std.proofs.Common.{ℕ, ◌≡◌, ⊎_elim, true, List, [], ◌++◌, refl, sym, ap, ◌∙◌, subst}
use Rattle.std.specs.Prelude.{Contains}
use Rattle.lfs_file.proofs.Common.{Contains-append_cases, Contains-append_right, Blocks, BlockStates, SharesFirstBlocks, CanEndOver, KeepsUsedBlocks, GrowingList, lasting_blocks, unwritten_block, KeepsTakenBytes, blocks_of_list, AreUsedAmong, KeepsStoredBlocks, contents_blocks, stored_blocks, CanEndUnfinished}
use Rattle.lfs_device.specs.declared.geometry.Geometry.{Geometry}
use Rattle.lfs_file.specs.BlockOwners.{AreFromBase}
use Rattle.lfs_file.specs.declared.contents.WriterContents.TheVariants.{InHand}
use Rattle.lfs_file.specs.declared.writes.PendingList.{PendingList}
use Rattle.lfs_file.specs.declared.stored_list.StoredList.{StoredList}
use Rattle.lfs_file.proofs.Bases.{blocks_stay}
use Rattle.lfs_file.proofs.Used.{used_back}

-- ---- lists

pub list_same : (block_size : ℕ) (d : Blocks) (s : StoredList) → KeepsStoredBlocks block_size d s d s
list_same block_size d s = record { same = refl; blocks = refl }

pub list_on : {block_size : ℕ} {d e f : Blocks} {s t u : StoredList} → KeepsStoredBlocks block_size d s e t → KeepsStoredBlocks block_size e t f u → KeepsStoredBlocks block_size d s f u
list_on first second = record { same = second.same ∙ first.same; blocks = second.blocks ∙ first.blocks }

pub owned_all : (map : BlockStates) (bs : List ℕ) → AreUsedAmong map bs bs
owned_all map bs = record { each = λ b has used. has }

pub owned_on : {map later : BlockStates} {xs ys zs : List ℕ} → KeepsUsedBlocks map later → AreUsedAmong map xs ys → AreUsedAmong later ys zs → AreUsedAmong later xs zs
owned_on keeps first second = record { each = λ b has used. first.each b (second.each b has used) (used_back keeps b used) }

pub owned_is : (map : BlockStates) {xs ys : List ℕ} → ys ≡ xs → AreUsedAmong map xs ys
owned_is map {xs} {ys} same = record { each = λ b has used. subst (λ (l : List ℕ). Contains l b) same has }

pub owned_both : {map : BlockStates} {xs ys zs : List ℕ} → AreUsedAmong map xs ys → AreUsedAmong map xs zs → AreUsedAmong map xs (ys ++ zs)
owned_both {ys = ys} {zs = zs} first second = record { each = λ b has used. ⊎_elim (λ l. first.each b l used) (λ r. second.each b r used) (Contains-append_cases ys zs b has) }

pub owned_right : {map : BlockStates} (xs : List ℕ) {ys zs : List ℕ} → AreUsedAmong map ys zs → AreUsedAmong map (xs ++ ys) zs
owned_right xs {ys} first = record { each = λ b has used. Contains-append_right xs ys b (first.each b has used) }

-- a base stays in its blocks while a list is written over it
pub base_kept : (map : BlockStates) (d e : Blocks) (geometry now : Geometry) (g : GrowingList) (base : StoredList) (shared : ℕ) → now ≡ geometry → SharesFirstBlocks map d geometry.block_size g base shared → KeepsTakenBytes map (unwritten_block g) d e
    → KeepsStoredBlocks now.block_size d base e base
base_kept map d e geometry now g base shared same begun spared =
    subst (λ (k : Geometry). KeepsStoredBlocks k.block_size d base e base) (sym same) (record { same = refl; blocks = blocks_stay map (unwritten_block g) d e geometry.block_size base.head base.size spared begun.apart })

-- under another name of the geometry
pub list_then : (geometry now : Geometry) (d e f : Blocks) (s t u : StoredList) → now ≡ geometry → KeepsStoredBlocks geometry.block_size d s e t → KeepsStoredBlocks now.block_size e t f u → KeepsStoredBlocks geometry.block_size d s f u
list_then geometry now d e f s t u same first second = list_on first (subst (λ (k : Geometry). KeepsStoredBlocks k.block_size e t f u) same second)

pub list_from : (geometry now : Geometry) (d x f : Blocks) (s t u : StoredList) → now ≡ geometry → x ≡ d → t ≡ s → KeepsStoredBlocks now.block_size x t f u → KeepsStoredBlocks geometry.block_size d s f u
list_from geometry now d x f s t u same at is keeps =
    subst (λ (k : Geometry). KeepsStoredBlocks k.block_size d s f u) same
    (subst (λ (y : Blocks). KeepsStoredBlocks now.block_size y s f u) at
    (subst (λ (v : StoredList). KeepsStoredBlocks now.block_size x v f u) is keeps))

pub owned_kept : (map later : BlockStates) (geometry now : Geometry) (e f : Blocks) (t u : StoredList) (own : List ℕ) → now ≡ geometry → KeepsUsedBlocks map later → AreUsedAmong map own (stored_blocks e geometry.block_size t) → KeepsStoredBlocks now.block_size e t f u
    → AreUsedAmong later own (stored_blocks f geometry.block_size u)
owned_kept map later geometry now e f t u own same keeps first list =
    owned_on keeps first (owned_is later (subst (λ (k : Geometry). KeepsStoredBlocks k.block_size e t f u) same list).blocks)

-- a list that ended over a base
pub ends_over : (map later : BlockStates) (d e f : Blocks) (geometry now : Geometry) (h : GrowingList) (base : StoredList) (shared : ℕ) (s : StoredList) → now ≡ geometry → CanEndOver map e geometry.block_size h base shared → KeepsUsedBlocks map later
    → blocks_of_list e geometry.block_size base.head base.size ≡ blocks_of_list d geometry.block_size base.head base.size → blocks_of_list f geometry.block_size s.head s.size ≡ lasting_blocks e h → s.in_flight ≡ true
    → AreFromBase later now.block_size d base f s
ends_over map later d e f geometry now h base shared s same hand keeps stay list flying =
    subst (λ (k : Geometry). AreFromBase later k.block_size d base f s) (sym same)
    (record {
      flying = flying;
      owned = record { each = λ b has used. subst (λ (l : List ℕ). Contains l b) stay (hand.begun.taken b (subst (λ (l : List ℕ). Contains l b) list has) (used_back keeps b used)) };
    })

-- the used blocks of a list in hand are its base's
pub hand_owned : (map : BlockStates) (d : Blocks) (now : Geometry) (h : PendingList) (own : List ℕ) → CanEndUnfinished map d now h → AreUsedAmong map own (stored_blocks d now.block_size h.base) → AreUsedAmong map own (contents_blocks d now.block_size (InHand h))
hand_owned map d now h own going base = owned_both
    (record { each = λ b has used. base.each b (subst (λ (k : Geometry). Contains (blocks_of_list d k.block_size h.base.head h.base.size) b) (sym going.geometry) (going.list.begun.taken b has used)) used })
    base

pub none_in : (d : Blocks) (block_size : ℕ) (s : StoredList) → s.size ≡ 0 → stored_blocks d block_size s ≡ []
none_in d block_size s is = ap (λ k. blocks_of_list d block_size s.head k) is
