-- The content of a disk's pairs doesn't depend on the order of its names.
use Rattle.std.proofs.Common.{ℕ, List, [], ◌∷◌}
use Rattle.lfs_mount.proofs.Common.{disk_with_order, Disk, BlockStates, CallEvent, Gstate, IsSuperblockStruct, AreHeaders, PairHeader, IsHeader, IsKeptOnDisk, header_pairs, AreThreadHeaders, BreaksFirstSuperblock, HasSuperblockChainLength, IsThreadRead}
use Rattle.lfs_model.specs.declared.order.NameOrder.{NameOrder}
use Rattle.lfs_model.specs.declared.violations.Violation.{Violation}
use Rattle.lfs_model.specs.declared.violations.Violation.TheVariants as violation

module _ (order : NameOrder) (disk : Disk) where
  header_in : (history : List CallEvent) (h : PairHeader) → IsHeader disk history h → IsHeader (disk_with_order order disk) history h
  header_in history h is = record {
    address = record { apart = is.address.apart; first = is.address.first; second = is.address.second };
    held = is.held;
    is_pair = record {
      active = is.is_pair.active;
      holds = is.is_pair.holds;
      describes = is.is_pair.describes;
      whole_pages = is.is_pair.whole_pages;
      unprogrammed = is.is_pair.unprogrammed;
    };
    raw = is.raw;
    content = is.content;
    complete = is.complete;
  }

  headers_in : (history : List CallEvent) (hs : List PairHeader) → AreHeaders disk history hs → AreHeaders (disk_with_order order disk) history hs
  headers_in history [] are = tt
  headers_in history (h ∷ hs) are = (header_in history h are.0, headers_in history hs are.1)

  pub has_headers_in : (history : List CallEvent) (hs : List PairHeader) → AreThreadHeaders disk history hs → AreThreadHeaders (disk_with_order order disk) history hs
  has_headers_in history hs has = record { each = headers_in history hs has.each; thread = has.thread }

  pub kept_in : (history : List CallEvent) (hs : List PairHeader) (sets : BlockStates) → IsKeptOnDisk disk history hs sets → IsKeptOnDisk (disk_with_order order disk) history hs sets
  kept_in history hs sets kept = record { each = headers_in history hs kept.each; links = kept.links; distinct = kept.distinct; size = kept.size; used = kept.used }

  pub read_in : (history : List CallEvent) (hs : List PairHeader) (sets : BlockStates) (g : Gstate) → IsThreadRead disk history hs sets g → IsThreadRead (disk_with_order order disk) history hs sets g
  read_in history hs sets g r = record { kept = kept_in history hs sets r.kept; thread = r.thread; used = r.used; none_in_flight = r.none_in_flight; global = r.global }

  pub first_breaks_in : (h : PairHeader) (broken : Violation) → BreaksFirstSuperblock disk h broken → BreaksFirstSuperblock (disk_with_order order disk) h broken
  first_breaks_in h (violation.FirstEntry pair) b = b
  first_breaks_in h (violation.Superblock pair) b = b
  first_breaks_in h _ b = absurd b

  struct_in : (bytes : List ℕ) → IsSuperblockStruct disk bytes → IsSuperblockStruct (disk_with_order order disk) bytes
  struct_in bytes s = record { len = s.len; version = s.version; block_size = s.block_size; block_count = s.block_count }

  pub head_in : (hs : List PairHeader) (count : ℕ) → HasSuperblockChainLength disk (header_pairs disk hs) count → HasSuperblockChainLength (disk_with_order order disk) (header_pairs (disk_with_order order disk) hs) count
  head_in hs count h = record {
    chain = h.chain;
    p = h.p;
    rest = h.rest;
    parts = h.parts;
    chain_is = h.chain_is;
    before = h.before;
    bytes = h.bytes;
    head = record { first = h.head.first; named = h.head.named; struct = struct_in h.bytes h.head.struct; bare = h.head.bare; start = h.head.start };
  }
