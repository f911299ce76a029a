-- The directories' pairs, by their headers.
use Rattle.std.specs.Prelude.{ℕ, Bool, false, not, ◌==◌, ◌&&◌, if◌then◌else◌, List, [], ◌∷◌, Option, Some, None, ◌≡◌, nat_eq, true}
use Rattle.std.specs.List.{IsDistinct}
use Rattle.std.specs.Option.{option_map}
use Rattle.lfs_model.specs.format.Slots.{Gstate, same_pair}
use Rattle.lfs_model.specs.layers.BlockSets.{AreInFlight, AreUsed, BlockStates}
use Rattle.lfs_model.specs.format.Content.{content_at}
use Rattle.lfs_model.specs.format.Disk.{Disk, block_count}
use Rattle.lfs_model.specs.session.History.{CallEvent}
use Rattle.lfs_model.specs.format.Thread.{IsThread, Pair, pairs_blocks, pairs_gstate, is_hard_tail}
use Rattle.lfs_tag.specs.ContentView.{tail_view}
use Rattle.lfs_pair.specs.Pair.{header_address}
use Rattle.lfs_thread.specs.Kept.{PairHeader, IsKeptOnDisk, header_pairs}
use Rattle.lfs_thread.specs.PairPlaces.{blocks_of_addresses}
use Rattle.lfs_mount.specs.Checked.{DescribesThread, IsDescribedThread}
use Rattle.lfs_mount.specs.declared.pass.DirectoryPairHeader.{DirectoryPairHeader}

abbrev pub header_tail_hard : PairHeader → Bool
header_tail_hard h = is_hard_tail (option_map tail_view h.tail)

-- the id of the slot that a set move names, if it is in the pair at an address
abbrev pub moved_id_at : Gstate → ℕ × ℕ → Option ℕ
moved_id_at g at = if g.kind == 0x4ff && same_pair g.pair at then Some g.id else None

abbrev pub description_of_header : Gstate → Bool → PairHeader → DirectoryPairHeader
description_of_header g is_first h = record {
  at = h.blocks;
  active = h.active;
  is_hard = header_tail_hard h;
  has_superblock = is_first;
  moved = moved_id_at g (header_address h);
}

-- the descriptions of these pairs, of which the first has the superblock
abbrev pub header_descriptions : Gstate → Bool → List PairHeader → List DirectoryPairHeader
header_descriptions g is_first [] = []
header_descriptions g is_first (h ∷ hs) = description_of_header g is_first h ∷ header_descriptions g false hs

-- the addresses at which directories begin: those of pairs that no hard tail names
abbrev pub directory_start_addresses_of : Bool → List PairHeader → List (ℕ × ℕ)
directory_start_addresses_of begins [] = []
directory_start_addresses_of begins (h ∷ hs) = if begins then header_address h ∷ directory_start_addresses_of (not (header_tail_hard h)) hs else directory_start_addresses_of (not (header_tail_hard h)) hs

-- These are the headers of the directories' pairs in a described thread. No two directories begin in the same block.
pub record AreThreadDirectories (disk : Disk) (sets : BlockStates) (g : Gstate) (headers : List PairHeader) : Type 0 where
  pub apart : IsDistinct nat_eq (blocks_of_addresses (directory_start_addresses_of true headers))
  pub known : DescribesThread disk sets (directory_start_addresses_of true headers) (header_descriptions g true headers) g.sync

-- the thread with these headers
abbrev pub IsHeaderThread : Disk → BlockStates → Gstate → List PairHeader → List Pair → Pair → List Pair → Type 0
IsHeaderThread disk sets g headers chain p rest = IsDescribedThread disk sets (directory_start_addresses_of true headers) (header_descriptions g true headers) g.sync chain p rest

-- A thread was read: its headers agree with the disk, and only its pairs' blocks are used in the map.
pub record IsThreadRead (disk : Disk) (history : List CallEvent) (headers : List PairHeader) (sets : BlockStates) (g : Gstate) : Type 0 where
  pub kept : IsKeptOnDisk disk history headers sets
  pub thread : IsThread (content_at disk) (block_count disk) (header_pairs disk headers)
  pub used : AreUsed sets (pairs_blocks (header_pairs disk headers))
  pub none_in_flight : AreInFlight sets []
  pub global : g ≡ pairs_gstate (header_pairs disk headers)
