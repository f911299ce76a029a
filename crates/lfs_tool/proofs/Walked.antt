-- What was found of a tree lists it.
use Rattle.std.proofs.Common.{◌≡◌, ◌∙◌, ◌++◌, ◌≤◌, ℕ, List, Some, [], ◌∷◌, ap, ap₂, refl, sym}
use Rattle.lfs_model.specs.format.Blocks.{HasBlockSizes}
use Rattle.lfs_tool.proofs.Common.{Disk, PathNode, Branch, Ctz, Inline, Struct, Node, HasDiskView, disk_view, AreTreeItems, PathStruct, IsTreeItem, IsStructNode, IsDiskListing, path_struct_lines}
use Rattle.lfs_model.specs.layers.Listing.{IsListing, escaped_text, listing_line_prefix, listing_line, listing_lines, newline}
use Rattle.lfs_model.specs.tree.View.{DiskView}
use Rattle.lfs_model.proofs.ListSizes.{length-list_bytes}
use Rattle.lfs_tool.specs.Listings.{path_struct_line, path_line}
use Rattle.lfs_lookup.specs.ListAt.{listed_struct_size}

pub record HasSizes (disk : Disk) : Type 0 where
  pub enough : 1024 ≤ disk.block_size
  pub count : ℕ
  pub divided : HasBlockSizes disk.block_size count disk.blocks

abbrev line_for : List ℕ → Node → List ℕ
line_for path node = listing_line_prefix node ++ escaped_text path ++ newline

line_node : (disk : Disk) → HasSizes disk → (path : List ℕ) (struct : Struct) (node : Node) → IsStructNode disk struct node → path_line (listed_struct_size struct) path ≡ line_for path node
line_node disk sizes path (Inline bytes) node (attributes, is) = ap (line_for path) (sym is)
line_node disk sizes path (Ctz head size) node (attributes, (is, list)) =
    ap (λ k. path_line (Some k) path) (sym (length-list_bytes disk.blocks disk.block_size sizes.count head size sizes.enough sizes.divided list)) ∙ ap (line_for path) (sym is)
line_node disk sizes path (Branch to) node (attributes, (names, is)) = ap (line_for path) (sym is)

line_shown : (disk : Disk) → HasSizes disk → (p : PathStruct) (e : PathNode) → IsTreeItem disk p e → path_struct_line p ≡ listing_line e
line_shown disk sizes p e s = line_node disk sizes p.path p.struct e.node s.node ∙ ap (λ path. line_for path e.node) s.path

lines_shown : (disk : Disk) → HasSizes disk → (ps : List PathStruct) (es : List PathNode) → AreTreeItems disk ps es → path_struct_lines ps ≡ listing_lines es
lines_shown disk sizes [] [] s = refl
lines_shown disk sizes [] (e ∷ es) s = absurd s
lines_shown disk sizes (p ∷ ps) [] s = absurd s
lines_shown disk sizes (p ∷ ps) (e ∷ es) s = ap₂ (λ a b. a ++ b) (line_shown disk sizes p e s.0) (lines_shown disk sizes ps es s.1)

-- the disk is accepted, and this text lists what it shows
abbrev pub IsListed : Disk → List ℕ → Type 0
IsListed disk text = (view : DiskView) × (HasDiskView disk view × IsListing view.tree text)

-- a disk of which each place has its line is listed
pub listed_from : (disk : Disk) (text : List ℕ) → HasSizes disk → IsDiskListing disk text → IsListed disk text
listed_from disk text sizes (ps, (accepted, (places, ((entries, (walk, shows)), lines)))) =
    (disk_view disk ps, ((ps, (accepted, refl)), (entries, (walk, lines ∙ lines_shown disk sizes places entries shows))))
