-- A power loss during an operation on a path, after calls that only read.
use Rattle.std.proofs.Common.{ℕ, ◌≡◌, inl, inr, false, if◌then◌else◌, Option, Some, None, List, [], refl, sym, subst}
use Rattle.std.specs.Prelude.{is_none, is_some}
use Rattle.lfs_tree.proofs.Common.{tree_creating, Disk, SameGeometry, CallEvent, AllCallsSince, OnlyReadsSince, HasEitherTree, SurvivesLossSince, with_blocks, FileNode, Node, Path, Tree, IsAccepted, IsWritable, disk_tree, survives_then, HoldsAtLosses-read_count, LeftByLoss-read, KeptThread, ThreadView, ChangesThreadBlocks, CanChangeRecovered, PowerLossLeavesEither}
use Rattle.lfs_tree.proofs.Carried.{with_history}

pub survives_reading : (t : ThreadView) (root : ℕ) → CanChangeRecovered t root → (h : List CallEvent) → OnlyReadsSince t.kept.disk.blocks t.kept.history h → (after : Tree) →
    SurvivesLossSince t.kept.disk t.kept.history h (disk_tree t.kept.disk t.kept.pairs) after
survives_reading t root rests h reads after clean = HoldsAtLosses-read_count LeftByLoss-read reads (record { pairs = t.kept.pairs; accepted = rests.held.sound.accepted; writable = rests.held.sound.fits refl; tree = inl refl })

pub survives_behind : (t : ThreadView) (root : ℕ) → CanChangeRecovered t root → (h : List CallEvent) (c : KeptThread) (bs : List ℕ) (after : Tree) → OnlyReadsSince t.kept.disk.blocks t.kept.history h → ChangesThreadBlocks bs (with_history t.kept h) c →
    PowerLossLeavesEither (with_history t.kept h) c after → PowerLossLeavesEither t.kept c after
survives_behind t root rests h c bs after reads w k =
    survives_then t.kept.disk t.kept.history h c.history (disk_tree t.kept.disk t.kept.pairs) after reads w.at_worst (survives_reading t root rests h reads after) k

-- a power loss in a call that only reads leaves the tree that the calls before it left
pub survives_left : {P : CallEvent → Type 0} (t c : KeptThread) (h : List CallEvent) (after : Tree) → SameGeometry t.disk c.disk → AllCallsSince P t.history c.history → IsAccepted c.disk c.pairs → IsWritable c.disk c.pairs
    → disk_tree c.disk c.pairs ≡ after → OnlyReadsSince c.disk.blocks c.history h → PowerLossLeavesEither t c after → SurvivesLossSince t.disk t.history h (disk_tree t.disk t.pairs) after
survives_left t c h after geometry since accepted fits shows reads k =
    survives_then t.disk t.history c.history h (disk_tree t.disk t.pairs) after since reads k
    (λ clean. HoldsAtLosses-read_count LeftByLoss-read reads (subst (λ disk. HasEitherTree disk (disk_tree t.disk t.pairs) after) (sym (same_disk t.disk c.disk geometry))
    (record { pairs = c.pairs; accepted = accepted; writable = fits; tree = inr shows })))
  where
    same_disk : (disk new : Disk) → SameGeometry disk new → with_blocks new.blocks disk ≡ new
    same_disk disk new g = λ j. record { block_size = sym g.block_size j; page = sym g.page j; order = sym g.order j; profile = sym g.profile j; blocks = new.blocks }

-- the tree with a new, empty file
pub created_shows : (t : Tree) (p q : Path) → q ≡ p → is_some (t p) ≡ false → (if is_none (t q) then tree_creating q (FileNode [] []) t else t) ≡ tree_creating p (FileNode [] []) t
created_shows t p q e nothing = subst (λ x. (if is_none (t x) then tree_creating x (FileNode [] []) t else t) ≡ tree_creating p (FileNode [] []) t) (sym e) (go (t p) nothing)
  where
    go : (o : Option Node) → is_some o ≡ false → (if is_none o then tree_creating p (FileNode [] []) t else t) ≡ tree_creating p (FileNode [] []) t
    go None e = refl
    go (Some n) e = absurd (cc)
